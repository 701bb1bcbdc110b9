-- The bags of the steps taken, in front of what is left of the instant, are the whole instant (`Sofar`); a step more keeps that
-- (`sofar-more`), and each of the two ways out is a verdict (`judged-jams`, `judged-stands`). The due moments go along with the state
-- (`Ready`).
use native.Mathlib.Omega.{arith}
use mathlib.Core.Path.{◌≡◌, ◌∙◌, refl, sym, ap, ap₂, subst}
use mathlib.Core.List.{List, [], ◌∷◌, ◌++◌}
use mathlib.Core.Bool.{true, false, not, ◌||◌}
use Rattle.std.proofs.Common.{Option, Some, None}
use Prim.Native.Nat.{ℕ, ◌≤◌, ◌<◌, ◌+◌, ◌-◌}
use lib.Dec.{eqb}
use lib.ListN.{length}
use Rattle.definition.specs.Bytes.{Bytes}
use Rattle.definition.specs.Lists.{is_empty}
use Rattle.definition.specs.Model.{Bag}
use Rattle.definition.specs.Engine.{to_bag}
use Rattle.definition.specs.Step.{Output, Simulator}
use Rattle.definition.specs.Instant.{Instant, goes_on, steps_at}
use Rattle.definition.specs.Limits.{max_steps, max_root_bag, max_components}
use Rattle.run_state.specs.declared.State.{State}
use Rattle.run_state.specs.Held.{held_in, last_rules_in}
use Rattle.model_records.specs.Values.{phases_in, rules_in}
use Rattle.spec_step.specs.Tables.{atomics_in}
use Rattle.step_simulator.proofs.Laws.{out-few}
use Rattle.law_base.proofs.Overlaid.{puts-length}
use Rattle.law_step.proofs.Changed.{decided-length}
use Rattle.run_state.proofs.Laws.{rules_size}
use Rattle.instant_records.proofs.Records.{size-most}
use Rattle.instant_steps.specs.Sim.{sim_of, instant_of, step_of, given_at, Stepped}
use Rattle.instant_steps.specs.Verdicts.{Judged, RulesOver, Overlays, RulesLeft}
use Rattle.instant_steps.specs.declared.Ran.{Ran}
use Rattle.instant_steps.proofs.Sofar.{Sofar, sofar-none, sofar-more, keys-hold, goes-as}
use Rattle.instant_steps.proofs.Sofar.{rest_all, rest-stops, rest-jams, rest_more, judged-jams, judged-stands, overlays-jams, overlays-done}
use Rattle.instant_steps.proofs.Rules.{rules-none, rules-more, begun-left, begun-ready, begun-length}
use Rattle.instant_steps.proofs.instant.Goals.{After-goes_on, After-take_step-count}
use Rattle.instant_steps.proofs.instant.Goals as goal

pub loop-at-init : goal.loop-at-init
loop-at-init c =
    let a = c.args in
    let w₀ = a.state.now in
    let w = c.begin.new.state in
    let b = c.begin.ensures in
    let room = length a.work.now in
    let n = atomics_in a.tables.now in
    let k = sim_of a.phases.now a.rules.now a.tables.now room in
    let whole = instant_of a.phases.now a.rules.now a.tables.now room a.at.0 a.given.now w in record {
      few = omega arith;
      words = refl;
      size = refl;
      bound = omega arith;
      ready = begun-ready a.phases.now a.tables.now a.at.0 a.given.now w₀ w b c.requires.steppable.ready;
      sofar = subst (λ (i : Instant State). Sofar (RulesOver n w w) whole i a.at.0 a.from a.out.now a.out.now 0 a.from)
          (rest_all k a.at.0 (to_bag a.given.now) (held_in w)) (sofar-none (RulesOver n w w) (rules-none n w) whole a.at.0 a.from a.out.now);
      rules_size = begun-length a.at.0 a.given.now w₀ w b ∙ rules_size w₀ c.whole.ensures;
    }

-- ---- one turn

-- What takes the steps.
abbrev sim : After-goes_on → Simulator State
sim c = let a = c.args in sim_of a.phases.now a.rules.now a.tables.now (length a.work.now)

-- What this step is given.
abbrev given : After-goes_on → Bag
given c = to_bag (given_at c.args.given.now c.loop-at.k)

-- The state at this step.
abbrev state : After-goes_on → State
state c = held_in c.loop-at.state

-- The words with which the steps begin.
abbrev first : After-goes_on → List ℕ
first c = c.begin.new.state

whole-size : (c : After-goes_on) → length (last_rules_in c.args.state.now) ≡ max_components
whole-size c = rules_size c.args.state.now c.whole.ensures

-- What is said of the steps from them is said of the instant.
abbrev Said : After-goes_on → (List ℕ → List ℕ → Instant State → Type 0) → (Instant State → Type 0) → List ℕ → Type 0
Said c Rules P from =
    let a = c.args in
    let i = instant_of a.phases.now a.rules.now a.tables.now (length a.work.now) a.at.0 a.given.now from in
    P i × Rules from c.loop-at.state i

said : (c : After-goes_on) (P : Instant State → Type 0)
    → Said c (Overlays (atomics_in c.args.tables.now)) P (first c) → Said c (RulesLeft (atomics_in c.args.tables.now)) P c.args.state.now
said c P h =
    let a = c.args in
    let q = c.requires.steppable in
    begun-left a.phases.now a.rules.now a.tables.now (length a.work.now) a.at.0 a.given.now a.state.now (first c) c.loop-at.state
    (omega (arith, whole-size c, q.fit.in_range.atomics)) q.moment q.ready c.begin.ensures P h

-- The verdict on an instant, where the loop ends.
abbrev judged : After-goes_on → Option Ran → Instant State → Type 0
judged c r i =
    let a = c.args in
    Judged a.phases.now a.tables.now a.at.0 a.from a.out.now c.loop-at.out c.loop-at.state i r

-- The test, as the definition has it.
tested : (c : After-goes_on) → goes_on (sim c) c.args.at.0 (given c) (state c) ≡ c.goes_on.result
tested c =
    let a = c.args in
    let l = c.loop-at in
    goes-as a.phases.now a.rules.now a.tables.now (length a.work.now) a.at.0 (given c) l.state c.requires.steppable.moment l.invariant.ready
    ∙ ap₂ (λ (d : ℕ) (s : Bytes). eqb d a.at.0 || not (is_empty (to_bag s))) (sym c.next_due.ensures) (sym c.given_at.ensures) ∙ sym c.goes_on.ensures

pub returns-then-k-eq-MAX_STEPS : goal.returns-then-k-eq-MAX_STEPS
returns-then-k-eq-MAX_STEPS c =
    let p = (goal.at.returns-then-k-eq-MAX_STEPS c).After-goes_on in
    let a = c.args in
    let l = c.loop-at in
    let g : goes_on (sim p) a.at.0 (given p) (state p) ≡ true = tested p ∙ c.loop-at-test.true in
    let stuck = rest-jams (sim p) a.at.0 (given p) (state p) l.k g c.if-k-eq-MAX_STEPS.true in
    said p (judged p None) (
      judged-jams a.phases.now a.tables.now l.invariant.sofar l.state stuck,
      overlays-jams a.phases.now a.tables.now l.invariant.sofar l.state (atomics_in a.tables.now) (first p) stuck,
    )

-- ---- after the step

-- It is the definition's step.
gives : (c : After-take_step-count) → let a = c.args in let s = c.take_step-count in
    Stepped a.phases.now a.tables.now c.loop-at.state s.new.state s.new.work s.result
    (step_of a.phases.now a.rules.now a.tables.now (length a.work.now) a.at.0 (given_at a.given.now c.loop-at.k) c.loop-at.state)
gives c = rw (c.given_at-part.ensures, c.loop-at.invariant.words) at c.take_step-count.ensures

-- Its messages have room.
most : (c : After-take_step-count) → c.take_step-count.result ≤ max_root_bag
most c =
    let a = c.args in
    let t = a.tables.now in
    let few = out-few (phases_in a.phases.now) t (rules_in a.rules.now) (atomics_in t) (length a.work.now) a.at.0 (to_bag (given_at a.given.now c.loop-at.k)) (held_in c.loop-at.state) in
    omega (arith, (gives c).size, few, c.requires.lent)

pub put_step-used-requires : goal.put_step-used-requires
put_step-used-requires c =
    let s = (goal.at.put_step-used-requires c).After-take_step-count in
    let l = c.loop-at in
    let e = gives s in
    (keys-hold _ _ _ e.size e.bag, omega (arith, l.invariant.few, l.invariant.bound, most s, c.requires.within))

pub loop-at-preserved : goal.loop-at-preserved
loop-at-preserved c =
    let p = (goal.at.loop-at-preserved c).After-goes_on in
    let step = (goal.at.loop-at-preserved c).After-take_step-count in
    let a = c.args in
    let l = c.loop-at in
    let s = c.take_step-count in
    let u = c.put_step-used in
    let k = sim p in
    let x = given p in
    let g : goes_on k a.at.0 x (state p) ≡ true = tested p ∙ c.loop-at-test.true in
    let h : l.k < max_steps = omega (arith, c.if-k-eq-MAX_STEPS.false, l.invariant.few) in
    let n = atomics_in a.tables.now in
    let w = first p in
    let fit = c.requires.steppable.fit.in_range.atomics in
    let room : n ≤ length (last_rules_in w) = omega (arith, begun-length a.at.0 a.given.now a.state.now w c.begin.ensures, whole-size p, fit) in
    let e = gives step in
    let decided = decided-length (phases_in a.phases.now) a.tables.now (rules_in a.rules.now) n (length a.work.now) a.at.0 x (state p) in
    let held : n ≤ length (last_rules_in l.state) = omega (arith, l.invariant.rules_size, fit) in
    let y = (k.step a.at.0 x (state p)).out in
    let more : (xs : List Output) → RulesOver n w l.state xs → RulesOver n w s.new.state (xs ++ (y ∷ []))
    = λ xs. rules-more n w l.state s.new.state xs y room held decided e.rules in
    let whole = instant_of a.phases.now a.rules.now a.tables.now (length a.work.now) a.at.0 a.given.now w in
    let rest = steps_at k (max_steps - (l.k + 1)) a.at.0 (to_bag (given_at a.given.now (l.k + 1))) (held_in s.new.state) in
    let sofar = subst (λ (i : Instant State). Sofar (RulesOver n w l.state) whole i a.at.0 a.from a.out.now l.out l.k l.used)
    (rest_more k a.at.0 x (state p) l.k (held_in s.new.state) a.given.now g h e.state) l.invariant.sofar in record {
      few = omega arith;
      words = s.auto.work ∙ l.invariant.words;
      size = u.auto.out ∙ l.invariant.size;
      bound = omega (arith, u.ensures.0, size-most s.result, most step, l.invariant.bound);
      ready = e.ready;
      sofar = sofar-more (RulesOver n w l.state) (RulesOver n w s.new.state) whole rest a.at.0 a.from a.out.now l.out u.new.out
          l.k l.used u.result y s.new.work s.result more l.invariant.size e.size e.bag u.ensures.0 u.ensures.1 sofar;
      rules_size = ap length e.rules ∙ puts-length (last_rules_in l.state) 0 _ ∙ l.invariant.rules_size;
    }

-- ---- after the loop

pub returns : goal.returns
returns c =
    let p = (goal.at.returns c).After-goes_on in
    let a = c.args in
    let l = c.loop-at in
    let g : goes_on (sim p) a.at.0 (given p) (state p) ≡ false = tested p ∙ c.loop-at-test.false in
    let stops = rest-stops (sim p) a.at.0 (given p) (state p) (max_steps - l.k) g in
    said p (judged p (Some (record { steps = l.k; used = l.used }))) (
      judged-stands a.phases.now a.tables.now l.invariant.sofar l.state stops l.invariant.few l.invariant.ready,
      overlays-done a.phases.now a.tables.now l.invariant.sofar l.state (atomics_in a.tables.now) (first p) stops (λ h. h),
    )
