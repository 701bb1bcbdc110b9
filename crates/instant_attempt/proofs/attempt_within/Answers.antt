-- An instant that stands has its records in the trace (`stands-tried`): from the scratch (`from-scratch`), or by the same instant again (`again`),
-- from the state put back.
use native.Mathlib.Omega.{arith}
use mathlib.Core.Path.{◌≡◌, refl, ◌∙◌, ap, subst}
use mathlib.Core.List.{List}
use Prim.Native.Nat.{ℕ, ◌+◌, ◌-◌}
use lib.ListN.{length, take}
use lib.Seq.{sets, length-take-le}
use borrow.Author.Tests.{le-leb, lt-leb}
use Rattle.definition.specs.Engine.{to_bag}
use Rattle.definition.specs.Instant.{Instant}
use Rattle.run_state.specs.declared.State.{State}
use Rattle.run_state.specs.Held.{held_in}
use Rattle.spec_step.specs.Tables.{atomics_in}
use Rattle.instant_steps.specs.Sim.{sim_of, instant_of}
use Rattle.instant_steps.specs.Verdicts.{Judged, RulesLeft}
use Rattle.instant_attempt.specs.Pass.{Stands}
use Rattle.instant_attempt.proofs.Passes.{none-still}
use Rattle.instant_attempt.proofs.Tries.{recs, used-of, end_of, from-scratch, again, verdict-again, stands-tried}
use Rattle.instant_attempt.proofs.attempt_within.Goals.{In_ok-after, Else-size-scratch}
use Rattle.instant_attempt.proofs.attempt_within.Goals as goal

stands : (c : In_ok-after) → let a = c.args in
    Stands a.turn (length a.trace.now) (instant_of a.phases.now a.rules.now a.tables.now (length a.work.now) a.turn.at.0 a.given.now a.state.now) c.in_ok-after.after
stands c = c.in_ok-after.ensures.decided

idle : (c : In_ok-after) → length (stands c).outputs ≡ 0 → (stands c).end ≡ held_in c.args.state.now
idle c z =
    let a = c.args in
    let k = sim_of a.phases.now a.rules.now a.tables.now (length a.work.now) in
    none-still k a.turn.at.0 (to_bag a.given.now) (held_in a.state.now) (stands c).outputs (stands c).end (stands c).same z

-- Its records are as many bytes as the progress says.
size-as : (c : In_ok-after) → c.in_ok-after.after.used ≡ c.args.turn.progress.used + length (recs (stands c))
size-as c = used-of (stands c)

pub overflow_sub-size : goal.overflow_sub-size
overflow_sub-size c = omega (arith, size-as (goal.at.overflow_sub-size c).In_ok-after)

pub put_bytes-requires : goal.put_bytes-requires
put_bytes-requires c =
    let here = (goal.at.put_bytes-requires c).In_ok-after in
    let r = c.first_pass in
    let size = c.in_ok-after.after.used - c.args.turn.progress.used in
    rw c.front.ensures (omega (arith, length-take-le size r.new.scratch c.if-size-scratch.true, size-as here, (stands here).within))

pub returns-then-size-scratch : goal.returns-then-size-scratch
returns-then-size-scratch c =
    let here = (goal.at.returns-then-size-scratch c).In_ok-after in
    let a = c.args in
    let p = a.turn.progress in
    let r = c.first_pass in
    let q = c.in_ok-after.after in
    let st = stands here in
    let size : q.used - p.used ≡ length (recs st) = omega (arith, size-as here) in
    let k = c.in_ok-after.ensures.kept (le-leb (q.used - p.used) (length r.new.scratch) c.if-size-scratch.true) in
    let front = from-scratch st a.scratch.now r.new.scratch r.auto.scratch (omega (arith, size, c.if-size-scratch.true)) k.recorded in
    let put = c.put_bytes.ensures ∙ ap (sets a.trace.now p.used) (c.front.ensures ∙ ap (λ (m : ℕ). take m r.new.scratch) size ∙ front) in
    stands-tried a.tables.now a.state.now r.new.state a.trace.now c.put_bytes.new.out q st (idle here)
    (end_of st (held_in r.new.state) k.left) k.rules put a.phases.now k.ready

-- ---- the second pass

-- The old state is back.
back : (c : Else-size-scratch) → c.first_pass.new.state ≡ c.args.state.now
back c =
    let r = c.first_pass in
    c.in_ok-after.ensures.back (lt-leb (c.in_ok-after.after.used - c.args.turn.progress.used) (length r.new.scratch) c.if-size-scratch.false)

pub returns : goal.returns
returns c =
    let here = (goal.at.returns c).In_ok-after in
    let test = (goal.at.returns c).Else-size-scratch in
    let a = c.args in
    let t = a.turn in
    let r = c.first_pass in
    let st = stands here in
    let q = c.instant-second in
    let end = q.new.state in
    let trace = q.new.out in
    -- it was over the same instant
    let from : ℕ → List ℕ → Instant State = λ room w. instant_of a.phases.now a.rules.now a.tables.now room t.at.0 a.given.now w in
    let judged : Instant State → Type 0 = λ i. Judged a.phases.now a.tables.now t.at.0 t.progress.used a.trace.now trace end i q.result in
    let rules : List ℕ → Instant State → Type 0 = λ w i. RulesLeft (atomics_in a.tables.now) w end i in
    let both = subst (λ (w : List ℕ). judged (from (length a.work.now) w) × rules w (from (length a.work.now) w)) (back test)
    (subst (λ (m : ℕ). judged (from m r.new.state) × rules r.new.state (from m r.new.state)) r.auto.work q.ensures) in
    let j = both.0 in
    stands-tried a.tables.now a.state.now end a.trace.now trace c.in_ok-after.after st (idle here) (end_of st (held_in end) j.left) both.1
    (again st a.trace.now trace refl j.recorded) a.phases.now (j.ready (verdict-again st t.progress.used q.result j.answer))
