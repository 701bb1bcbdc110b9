-- The flat machine's own loop over the steps of an instant does what the instant of its step does. It asks whether some atomic is due, where the
-- instant asks for the first due moment: the same, where nothing is due before now. Assumes nothing.
use mathlib.Core.Path.{◌≡◌, refl, ap, ◌∙◌, subst}
use Prim.Native.Nat.{ℕ, zero, suc, min, ◌<◌}
use mathlib.Core.List.{List, [], ◌∷◌}
use mathlib.Core.Bool.{Bool, true, false, ◌||◌, not, cond}
use native.Mathlib.Omega.{arith}
use lib.Dec.{eqb}
use borrow.Author.Tests.{leb-true, eq-eqb, ne_eqb, eqb-true, eqb-false}
use Rattle.definition.specs.Lists.{all, is_empty}
use Rattle.definition.specs.Limits.{max_steps}
use Rattle.definition.specs.Model.{Bag, Model, atomics}
use Rattle.definition.specs.Records.{port_fits}
use Rattle.definition.specs.Devs.{Time, finite, never, earlier, same_time}
use Rattle.definition.specs.SavedRun.{Entry, not_before, due_of}
use Rattle.definition.specs.Step.{Output, Stepped, nested}
use Rattle.definition.specs.Instant.{Instant, done, jammed, stepped, is_due, goes_on, steps_at, instant}
use Rattle.definition.specs.Flatten.{flat}
use Rattle.definition.specs.FlatMachine.{due_now, any_due, first_due, flat_due}
use Rattle.law_model.proofs.WellFormed.{WellFormed}
use Rattle.law_nest.proofs.Times.{not_before-earlier}
use Rattle.law_nest.proofs.Pairs.{Pairs}
use Rattle.law_nest.proofs.Nest.{Fresh}
use Rattle.law_calls.proofs.Lift.{Agree}
use Rattle.law_calls.proofs.Kept.{Kept, AtSame, BetweenSame}
use Rattle.theory.proofs.Agreement.{level_step, levelled, OnPorts, agree-flat}

-- ---- some atomic is due, or the first is

same-earlier : (n : ℕ) (u v : Time) → not_before n u ≡ true → not_before n v ≡ true → same_time (earlier u v) (finite n) ≡ same_time u (finite n) || same_time v (finite n)
unfolding same_time earlier not_before
same-earlier n (finite a) (finite b) h k = go (eqb a n) refl (eqb b n) refl
  where
    go : (s : Bool) → eqb a n ≡ s → (t : Bool) → eqb b n ≡ t → eqb (min a b) n ≡ s || t
    go true e t f = eq-eqb (min a b) n (omega (arith, eqb-true a n e, leb-true n b k))
    go false e true f = eq-eqb (min a b) n (omega (arith, eqb-true b n f, leb-true n a h))
    go false e false f = let x = eqb-false a n e in let y = eqb-false b n f in ne_eqb (min a b) n (λ q. apart q x y)
      where
        apart : min a b ≡ n → (a ≡ n → ⊥) → (b ≡ n → ⊥) → ⊥
        apart q x y = omega arith
same-earlier n (finite a) never h k = or-none (eqb a n)
  where
    or-none : (b : Bool) → b ≡ b || false
    or-none true = refl
    or-none false = refl
same-earlier n never (finite b) h k = refl
same-earlier n never never h k = refl

any-first : (m : Model) (now : ℕ) (cs : List ℕ) (rs : List Entry) → Pairs (Fresh m now) cs rs
    → (same_time (first_due m cs rs) (finite now) ≡ any_due m now cs rs) × (not_before now (first_due m cs rs) ≡ true)
unfolding first_due any_due due_now same_time not_before
any-first m now [] [] h = (refl, refl)
any-first m now [] (r ∷ rs) h = absurd h
any-first m now (c ∷ cs) [] h = absurd h
any-first m now (c ∷ cs) (r ∷ rs) h =
    let k = any-first m now cs rs h.1 in (
      same-earlier now (due_of m c r) (first_due m cs rs) h.0.1 k.1 ∙ ap (λ b. same_time (due_of m c r) (finite now) || b) k.0,
      not_before-earlier now (due_of m c r) (first_due m cs rs) h.0.1 k.1,
    )

-- ---- the steps of an instant

-- What the steps come to, where something is due after them or not.
unfoldable pub settled : Bool → List Output × List Entry → Instant (List Entry)
settled b c = cond b jammed (done c.0 c.1)

-- the steps that the flat machine takes, with what each gave
unfoldable pub taken : Model → ℕ → ℕ → Bag → List Entry → List Output × List Entry
taken m now zero x rs = ([], rs)
taken m now (suc n) x rs =
    let r = level_step m now x rs in
    let rest = taken m now n [] r.state in
    cond (any_due m now (atomics m.components) rs || not (is_empty x)) (r.out ∷ rest.0, rest.1) ([], rs)

pub no-ports : all port_fits [] ≡ true
unfolding all
no-ports = refl

-- on a model that is its own flat form
module _ (m : Model) (w : WellFormed m) (self : flat m ≡ m) where
  pub agree-self : Agree (AtSame m w) (BetweenSame m w) OnPorts (nested m) (levelled m)
  agree-self = subst (λ k. Agree (AtSame m w) (BetweenSame m w) OnPorts (nested m) (levelled k)) self (agree-flat m w)

  abbrev some_due : ℕ → List Entry → Bool
  some_due now rs = any_due m now (atomics m.components) rs

  due-some : (now : ℕ) (rs : List Entry) → Kept m now rs → is_due (levelled m) now rs ≡ some_due now rs
  unfolding is_due flat_due
  due-some now rs h = (any-first m now (atomics m.components) rs h.0).0

  pub kept-flat : (now : ℕ) (x : Bag) (rs : List Entry) → all port_fits x ≡ true → Kept m now rs → Kept m now (level_step m now x rs).state
  kept-flat now x rs p h = let k = agree-self.steps now x x rs rs (refl, h) (refl, p) in subst (Kept m now) k.0 k.1

  abbrev Settles : ℕ → ℕ → Bag → List Entry → Type 0
  Settles n now x rs = steps_at (levelled m) n now x rs ≡ settled (some_due now (taken m now n x rs).1) (taken m now n x rs)

  steps_on : (n now : ℕ) (x : Bag) (rs : List Entry) → Kept m now rs → Settles n now [] (level_step m now x rs).state → Settles (suc n) now x rs
  unfolding steps_at goes_on taken settled stepped
  steps_on n now x rs h ih = rw (due-some now rs h) (go (some_due now rs) refl (not (is_empty x)))
    where
      r : Stepped (List Entry)
      r = level_step m now x rs

      rest : List Output × List Entry
      rest = taken m now n [] r.state

      out : (b : Bool) → stepped r.out (settled b rest) ≡ settled b (r.out ∷ rest.0, rest.1)
      out true = refl
      out false = refl

      go : (b : Bool) → some_due now rs ≡ b → (e : Bool)
          → cond (some_due now rs || e) (stepped r.out (steps_at (levelled m) n now [] r.state)) (done [] rs)
          ≡ (let c : List Output × List Entry = cond (some_due now rs || e) (r.out ∷ rest.0, rest.1) ([], rs) in settled (some_due now c.1) c)
      go true f e = rw f (ap (stepped r.out) ih ∙ out (some_due now rest.1))
      go false f true = rw f (ap (stepped r.out) ih ∙ out (some_due now rest.1))
      go false f false = simp f

  steps-none : (n now : ℕ) (rs : List Entry) → Kept m now rs → Settles n now [] rs
  unfolding steps_at goes_on taken settled is_empty
  steps-none zero now rs h = rw (due-some now rs h) (go (some_due now rs))
    where
      go : (b : Bool) → cond (b || false) jammed (done [] rs) ≡ cond b jammed (done [] rs)
      go true = refl
      go false = refl
  steps-none (suc n) now rs h = steps_on n now [] rs h (steps-none n now (level_step m now [] rs).state (kept-flat now [] rs no-ports h))

  steps-settle : (n now : ℕ) (x : Bag) (rs : List Entry) → 0 < n → all port_fits x ≡ true → Kept m now rs → Settles n now x rs
  steps-settle zero now x rs l p h = absurd (omega arith)
  steps-settle (suc n) now x rs l p h = steps_on n now x rs h (steps-none n now (level_step m now x rs).state (kept-flat now x rs p h))

  pub settles : (now : ℕ) (x : Bag) (rs : List Entry) → all port_fits x ≡ true → Kept m now rs
      → instant (levelled m) now x rs ≡ settled (some_due now (taken m now max_steps x rs).1) (taken m now max_steps x rs)
  unfolding instant
  settles now x rs p h = steps-settle max_steps now x rs (omega arith) p h

  pub kept-steps : (n now : ℕ) (x : Bag) (rs : List Entry) → all port_fits x ≡ true → Kept m now rs → Kept m now (taken m now n x rs).1
  unfolding taken
  kept-steps zero now x rs p h = h
  kept-steps (suc n) now x rs p h = go (some_due now rs || not (is_empty x)) (kept-steps n now [] (level_step m now x rs).state no-ports (kept-flat now x rs p h))
    where
      rest : List Output × List Entry
      rest = taken m now n [] (level_step m now x rs).state

      go : (b : Bool) → Kept m now rest.1 → (let c : List Output × List Entry = cond b ((level_step m now x rs).out ∷ rest.0, rest.1) ([], rs) in Kept m now c.1)
      go true k = k
      go false k = h
