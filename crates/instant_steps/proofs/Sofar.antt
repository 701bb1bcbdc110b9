-- What the loop over an instant's steps holds: the bags of the steps taken, in front of what is left, are the whole instant; their records are
-- counted, and stand in the buffer while they fit there. Assumes nothing.
use mathlib.Core.Path.{◌≡◌, refl, ◌∙◌, sym, ap, ap₂, subst}
use mathlib.Core.List.{List, [], ◌∷◌, ◌++◌, map}
use mathlib.Core.Bool.{true, false, ◌||◌, not}
use Rattle.std.proofs.Common.{Option, Some, None}
use Prim.Native.Nat.{ℕ, zero, suc, ◌+◌, ◌-◌, ◌*◌, ◌≤◌, ◌<◌}
use native.Mathlib.Omega.{arith}
use lib.ListN.{length, length-append, length-map, length-take, take}
use lib.Dec.{eqb}
use lib.Seq.{sets}
use borrow.Author.Tests.{ne_eqb, le-leb}
use Rattle.definition.specs.Lists.{concat, is_empty, sort_by}
use Rattle.definition.specs.Bytes.{Bytes}
use Rattle.definition.specs.Limits.{max_steps, max_components}
use Rattle.definition.specs.Model.{Bag, message_le}
use Rattle.definition.specs.Step.{Output, Simulator}
use Rattle.definition.specs.Instant.{Instant, done, jammed, stepped, is_due, goes_on, steps_at, instant, trace_bytes, records_from, instant_trace}
use Rattle.definition.specs.Engine.{to_bag}
use Rattle.clock.specs.Times.{latest}
use Rattle.model_records.specs.Values.{phases_in}
use Rattle.spec_step.specs.Carried.{next_end}
use Rattle.spec_step.specs.Tables.{atomics_in}
use Rattle.step_due.specs.Due.{CarriedIn}
use Rattle.spec_step.specs.TableStep.{table_next}
use Rattle.law_step.proofs.Carried.{now-number, next-carried}
use Rattle.run_state.specs.declared.State.{State}
use Rattle.run_state.specs.Held.{held_in, last_rules_in, ends_in, next_in, NextPut}
use Rattle.law_base.specs.Keys.{message_of}
use Rattle.instant_records.specs.Written.{step_bytes, step_size, step_put}
use Rattle.instant_records.proofs.Records.{length-step}
use Rattle.law_stores.proofs.Stores.{sets-append}
use Rattle.instant_steps.specs.Sim.{sim_of, instant_of, given_at, Fit, Ready}
use Rattle.instant_steps.specs.Verdicts.{ran_of, Judged, RulesOver, Overlays}
use Rattle.instant_steps.specs.declared.Ran.{Ran}
use Rattle.instant_steps.proofs.Steps.{bag-none, length-sort, records-snoc}

-- ---- the bags of the steps taken so far, in front of what is left

module _ {S : Type 0} where
  unfoldable pub after : List Output → Instant S → Instant S
  after [] i = i
  after (x ∷ xs) i = stepped x (after xs i)

  after-snoc : (xs : List Output) (x : Output) (i : Instant S) → after (xs ++ (x ∷ [])) i ≡ after xs (stepped x i)
  unfolding after
  after-snoc [] x i = refl
  after-snoc (y ∷ xs) x i = ap (stepped y) (after-snoc xs x i)

  after-done : (xs : List Output) (s : S) → after xs (done [] s) ≡ done xs s
  unfolding after stepped
  after-done [] s = refl
  after-done (x ∷ xs) s = rw (after-done xs s)

  after-jammed : (xs : List Output) → after xs jammed ≡ jammed
  unfolding after stepped
  after-jammed [] = refl
  after-jammed (x ∷ xs) = rw (after-jammed xs)

-- ---- what the loop holds

-- and something that is kept of the steps taken: `Kept`
pub record Sofar {S : Type 0} (Kept : List Output → Type 0) (whole rest : Instant S) (now from : ℕ) (out₀ out : Bytes) (k used : ℕ) : Type 0 where
  pub outputs : List Output
  pub count : k ≡ length outputs
  pub split : whole ≡ after outputs rest
  pub kept : Kept outputs
  pub sized : used ≡ from + length (instant_trace now outputs)
  pub put : used ≤ length out₀ → out ≡ sets out₀ from (instant_trace now outputs)

pub sofar-none : {S : Type 0} (Kept : List Output → Type 0) → Kept [] → (i : Instant S) (now from : ℕ) (out : Bytes) → Sofar Kept i i now from out out 0 from
unfolding after instant_trace records_from trace_bytes concat
sofar-none Kept none i now from out = record { outputs = []; count = refl; split = refl; kept = none; sized = omega arith; put = λ l. refl }

-- The keys of a bag stand in the buffer.
pub keys-hold : (count : ℕ) (ks : List ℕ) (x : Bag) → count ≡ length x → map message_of (take count ks) ≡ sort_by message_le x → count ≤ length ks
keys-hold count ks x e f =
    let l : length (take count ks) ≡ length x = sym (length-map (take count ks) message_of) ∙ ap length f ∙ length-sort x in
    omega (arith, length-take count ks)

put-when : (now k count used : ℕ) (ks out : List ℕ) → used + step_size count ≤ length out
    → step_put now k ks count used out ≡ sets out used (step_bytes now k (take count ks))
unfolding step_put
put-when now k count used ks out l = rw (le-leb (used + step_size count) (length out) l)

-- One step more.
module _ {S : Type 0} (Kept Kept' : List Output → Type 0) (whole rest : Instant S) (now from : ℕ) (out₀ out out' : Bytes) (k used used' : ℕ) (x : Output) (ks : List ℕ) (count : ℕ)
    (more : (xs : List Output) → Kept xs → Kept' (xs ++ (x ∷ [])))
    (lo : length out ≡ length out₀) (ec : count ≡ length x.bag) (em : map message_of (take count ks) ≡ sort_by message_le x.bag)
    (eu : used' ≡ used + step_size count) (eo : out' ≡ step_put now k ks count used out) (s : Sofar Kept whole (stepped x rest) now from out₀ out k used) where
  abbrev xs : List Output
  xs = s.outputs ++ (x ∷ [])

  abbrev new : Bytes
  new = step_bytes now k (take count ks)

  on : instant_trace now xs ≡ instant_trace now s.outputs ++ new
  on = records-snoc now s.outputs x (take count ks) em ∙ rw (← s.count)

  size : length new ≡ step_size count
  size = length-step now k count ks (keys-hold count ks x.bag ec em)

  sized-more : used' ≡ from + length (instant_trace now xs)
  sized-more = rw on (omega (arith, eu, length-append (instant_trace now s.outputs) new, size, s.sized))

  put-more : used' ≤ length out₀ → out' ≡ sets out₀ from (instant_trace now xs)
  put-more l =
      let u : used ≤ length out₀ = omega (arith, eu) in
      let f : out ≡ sets out₀ from (instant_trace now s.outputs) = s.put u in
      eo ∙ put-when now k count used ks out (omega (arith, eu, lo)) ∙ ap₂ (λ (b : Bytes) (n : ℕ). sets b n new) f s.sized
      ∙ sym (sets-append (instant_trace now s.outputs) new out₀ from) ∙ ap (sets out₀ from) (sym on)

  pub sofar-more : Sofar Kept' whole rest now from out₀ out' (k + 1) used'
  sofar-more = record {
    outputs = xs;
    count = omega (arith, s.count, length-append s.outputs (x ∷ []));
    split = s.split ∙ sym (after-snoc s.outputs x rest);
    kept = more s.outputs s.kept;
    sized = sized-more;
    put = put-more;
  }

-- ---- the loop's ways on

-- No step but the first is given anything.
given-none : (given : Bytes) (k : ℕ) → to_bag (given_at given (k + 1)) ≡ []
given-none given k = let e : eqb (k + 1) 0 ≡ false = ne_eqb (k + 1) 0 (λ z. omega arith) in rw e (bag-none given)

module _ {S : Type 0} (k : Simulator S) (now : ℕ) (x : Bag) (s : S) where
  pub rest_all : instant k now x s ≡ steps_at k (max_steps - 0) now x s
  unfolding instant
  rest_all = refl

  pub rest-stops : (m : ℕ) → goes_on k now x s ≡ false → steps_at k m now x s ≡ done [] s
  unfolding steps_at
  rest-stops zero e = rw e
  rest-stops (suc m) e = rw e

  pub rest-jams : (n : ℕ) → goes_on k now x s ≡ true → n ≡ max_steps → steps_at k (max_steps - n) now x s ≡ jammed
  unfolding steps_at
  rest-jams n e h = let z : max_steps - n ≡ 0 = omega arith in rw (z, e)

  one-step : (m : ℕ) → goes_on k now x s ≡ true → steps_at k (suc m) now x s ≡ stepped (k.step now x s).out (steps_at k m now [] (k.step now x s).state)
  unfolding steps_at
  one-step m e = rw e

  pub rest_more : (n : ℕ) (s' : S) (b : Bytes) → goes_on k now x s ≡ true → n < max_steps → s' ≡ (k.step now x s).state
      → steps_at k (max_steps - n) now x s ≡ stepped (k.step now x s).out (steps_at k (max_steps - (n + 1)) now (to_bag (given_at b (n + 1))) s')
  rest_more n s' b e h f =
      let z : max_steps - n ≡ suc (max_steps - (n + 1)) = omega arith in
      rw (z, given-none b n, f) (one-step (max_steps - (n + 1)) e)

-- ---- the test of the loop, and the due moments

-- The next due moment is at `now` where its number is.
pub goes-as : (phases rules tables : List ℕ) (room now : ℕ) (x : Bag) (w : List ℕ) → now < latest → Ready phases tables w
    → goes_on (sim_of phases rules tables room) now x (held_in w) ≡ (eqb (next_in w) now || not (is_empty x))
unfolding goes_on is_due
goes-as phases rules tables room now x w l r =
    ap (λ b. b || not (is_empty x)) (sym (now-number (table_next (phases_in phases) tables (held_in w)) now l) ∙ ap (λ d. eqb d now) (sym r.next))

-- The least due moment, put beside those that are carried.
pub ready-next : (phases tables w₀ w : List ℕ) (due : ℕ) → Fit tables → CarriedIn phases tables (atomics_in tables) w₀ → due ≡ next_end tables (ends_in w₀) → NextPut w₀ w due
    → Ready phases tables w
ready-next phases tables w₀ w due f h e p =
    let least = next-carried (phases_in phases) tables (atomics_in tables) (held_in w₀) (ends_in w₀) h f.in_range f.seated in
    record { carried = rw (p.held, p.ends) h; next = p.next ∙ rw p.held (e ∙ least) }

-- ---- the loop

-- What holds after k steps: the sizes of what is lent, a bound on the bytes counted, the due moments, and what is left of the instant.
pub record Stepping (phases rules tables : List ℕ) (now : ℕ) (given : Bytes) (w₀ work₀ : List ℕ) (out₀ : Bytes) (from : ℕ)
    (w work : List ℕ) (out : Bytes) (used : ℕ) (k : ℕ) : Type 0 where
  pub few : k ≤ max_steps
  pub words : length work ≡ length work₀
  pub size : length out ≡ length out₀
  pub bound : used ≤ from + 12300 * k
  pub ready : Ready phases tables w
  pub sofar : Sofar (RulesOver (atomics_in tables) w₀ w) (instant_of phases rules tables (length work₀) now given w₀)
      (steps_at (sim_of phases rules tables (length work₀)) (max_steps - k) now (to_bag (given_at given k)) (held_in w)) now from out₀ out k used
  pub rules_size : length (last_rules_in w) ≡ max_components

-- ---- the verdicts

module _ (phases tables : List ℕ) {Kept : List Output → Type 0} {whole rest : Instant State} {now from : ℕ} {out₀ out : Bytes} {k used : ℕ}
    (sofar : Sofar Kept whole rest now from out₀ out k used) (w : List ℕ) where
  abbrev Verdicts : Instant State → Option Ran → Type 0
  Verdicts i r = Judged phases tables now from out₀ out w i r

  pub judged-jams : rest ≡ jammed → Verdicts whole None
  unfolding ran_of
  judged-jams e =
      subst (λ (i : Instant State). Verdicts i None) (sym (sofar.split ∙ ap (after sofar.outputs) e ∙ after-jammed sofar.outputs))
      (record { answer = refl; few = omega arith; recorded = tt; left = tt; ready = λ h. absurd (h refl) })

  ends : rest ≡ done [] (held_in w) → done sofar.outputs (held_in w) ≡ whole
  ends e = sym (sofar.split ∙ ap (after sofar.outputs) e ∙ after-done sofar.outputs (held_in w))

  pub judged-stands : rest ≡ done [] (held_in w) → k ≤ max_steps → Ready phases tables w → Verdicts whole (Some (record { steps = k; used = used }))
  unfolding ran_of
  judged-stands e most r =
      subst (λ (i : Instant State). Verdicts i (Some (record { steps = k; used = used }))) (ends e)
      (record { answer = rw (sofar.count, sofar.sized); few = most; recorded = λ l. sofar.put (rw sofar.sized l); left = refl; ready = λ h. r })

  -- the rules that decided in the steps taken
  pub overlays-jams : (n : ℕ) (w₀ : List ℕ) → rest ≡ jammed → Overlays n w₀ w whole
  overlays-jams n w₀ e = subst (Overlays n w₀ w) (sym (sofar.split ∙ ap (after sofar.outputs) e ∙ after-jammed sofar.outputs)) tt

  pub overlays-done : (n : ℕ) (w₀ : List ℕ) → rest ≡ done [] (held_in w) → (Kept sofar.outputs → RulesOver n w₀ w sofar.outputs) → Overlays n w₀ w whole
  overlays-done n w₀ e h = subst (Overlays n w₀ w) (ends e) (h sofar.kept)
