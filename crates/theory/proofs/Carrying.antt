-- The root's resultant, carried from event to event by document 001's own bookkeeping, agrees with the nest's steps on the saved entries that it
-- stands for; and with itself, so that its own advance ends in one way only. Assumes nothing.
use mathlib.Core.Path.{◌≡◌, refl, sym, ap, ap₂, ◌∙◌, subst}
use Prim.Native.Nat.{ℕ, ◌+◌, ◌-◌, ◌≤◌}
use mathlib.Core.List.{List}
use mathlib.Core.Bool.{true}
use native.Mathlib.Omega.{arith}
use Rattle.definition.specs.Lists.{is_empty}
use Rattle.definition.specs.Model.{Bag, Model, tree}
use Rattle.definition.specs.Devs.{finite, same_time, later, Since, devs_due, devs_step}
use Rattle.definition.specs.SavedRun.{Entry, not_before, due_at, atomic_count, entry_of, next_due}
use Rattle.definition.specs.Step.{Simulator, step, nested}
use Rattle.definition.specs.Instant.{is_due}
use Rattle.definition.specs.Carrying.{carried, Stands, root_of, StandsFor}
use Rattle.law_model.proofs.WellFormed.{WellFormed}
use Rattle.law_nest.proofs.Times.{left-later}
use Rattle.law_nest.proofs.Components.{shape}
use Rattle.law_nest.proofs.Nest.{Ready, ready-due}
use Rattle.law_nest.proofs.AnySplit.{pass-stands, ta-stands}
use Rattle.law_nest.proofs.StepOf.{any-split}
use Rattle.law_nest.proofs.Stepping.{Good, long, ready}
use Rattle.law_calls.proofs.SameBags.{equal-output}
use Rattle.law_calls.proofs.Lift.{Agree}
use Rattle.law_calls.proofs.Kept.{Kept, Fit, kept_step, fit-early, fit-opens, kept-closes}

-- A simulator that agrees with another agrees with itself, on the states that are related to one of the other.
pub agree-self : {S₁ S₂ : Type 0} {At Between : ℕ → S₁ → S₂ → Type 0} {k₁ : Simulator S₁} {k₂ : Simulator S₂} → Agree At Between ◌≡◌ k₁ k₂
    → Agree (λ now s s'. (s ≡ s') × (q : S₂) × At now s q) (λ o s s'. (s ≡ s') × (q : S₂) × Between o s q) ◌≡◌ k₁ k₁
agree-self {k₁ = k₁} {k₂ = k₂} a = record {
  same_next = λ now s s' h. ap k₁.next h.0;
  fine_none = refl;
  fine_empty = λ x y e. ap is_empty e;
  same_out = λ now x y s s' h e. equal-output _ _ (ap₂ (λ z r. (k₁.step now z r).out) e h.0);
  steps = λ now x y s s' h e. (ap₂ (λ z r. (k₁.step now z r).state) e h.0, (k₂.step now x h.1).state, a.steps now x x s h.1 h.2 refl);
  early = λ o s s' h. a.early o s h.1 h.2;
  opens = λ o u s s' h l e. (h.0, h.1, a.opens o u s h.1 h.2 l e);
  closes = λ now s s' h e. (h.0, h.1, a.closes now s h.1 h.2 e);
}

module _ (m : Model) (w : WellFormed m) where
  -- It stands for the entries, which are kept at the moment, or fit at the open moment.
  abbrev pub AtStands : ℕ → Since (root_of m) → List Entry → Type 0
  AtStands now q rs = StandsFor m now q rs × Kept m now rs

  abbrev pub BetweenStands : ℕ → Since (root_of m) → List Entry → Type 0
  BetweenStands o q rs = StandsFor m o q rs × Fit m o rs

  -- at a moment at or after its last event
  pub stands-now : (now : ℕ) (q : Since (root_of m)) (rs : List Entry) → StandsFor m now q rs → Stands m (entry_of m rs) now (now - q.event) (tree m) q.state
  stands-now now q rs h =
      let d = now - q.event in
      let l = h.in_time in
      subst (λ n. Stands m (entry_of m rs) n d (tree m) q.state) (let e : q.event + d ≡ now = omega arith in e)
      (subst (λ n. Stands m (entry_of m rs) (q.event + d) n (tree m) q.state) (let e : 0 + d ≡ d = omega arith in e) (pass-stands m (entry_of m rs) q.event d 0 (tree m) q.state h.stands))

  pub ready-tree : (now : ℕ) (rs : List Entry) → Good m now rs → Ready m (entry_of m rs) now (tree m)
  ready-tree now rs g = subst (Ready m (entry_of m rs) now) (sym (shape m w)) (ready m w now rs g)

  -- it is due when the entries are
  due-carried : (now : ℕ) (q : Since (root_of m)) (rs : List Entry) → AtStands now q rs → devs_due (root_of m) q ≡ next_due m rs
  unfolding devs_due next_due
  due-carried now q rs h =
      let r = ready-tree now rs h.1.0 in
      let e = now - q.event in
      ap (later q.event) (ta-stands m (entry_of m rs) now (tree m) e q.state (stands-now now q rs h.0) r)
      ∙ left-later q.event e now (due_at m (entry_of m rs) (tree m)) (let l = h.0.in_time in omega arith) (ready-due m (entry_of m rs) now (tree m) r)

  -- an instant begins at a moment before which nothing is due
  pub opened : (o u : ℕ) (q : Since (root_of m)) (rs : List Entry) → BetweenStands o q rs → o ≤ u → not_before u (next_due m rs) ≡ true → AtStands u q rs
  opened o u q rs h l e = (record { stands = h.0.stands; in_time = let k = h.0.in_time in omega arith; each = h.0.each }, fit-opens m w o u rs h.1 l e)

  pub due-between : (o : ℕ) (q : Since (root_of m)) (rs : List Entry) → BetweenStands o q rs → devs_due (root_of m) q ≡ next_due m rs
  due-between o q rs h = due-carried o q rs (opened o o q rs h (omega arith) (fit-early m w o rs h.1))

  -- a step leads to a state that stands for the new entries
  carried_step : (now : ℕ) (x : Bag) (q : Since (root_of m)) (rs : List Entry) → AtStands now q rs → AtStands now ((carried m).step now x q).state (step m now x rs).state
  unfolding devs_step atomic_count
  carried_step now x q rs h =
      let k = kept_step m w now x rs h.1 in (
        record {
          stands = (any-split m w now x rs (ready m w now rs h.1.0) q (stands-now now q rs h.0)).1;
          in_time = omega arith;
          each = long m w now _ k.0;
        },
        k,
      )

  pub agree-carried : Agree AtStands BetweenStands ◌≡◌ (carried m) (nested m)
  unfolding is_due
  agree-carried = record {
    same_next = due-carried;
    fine_none = refl;
    fine_empty = λ x y e. ap is_empty e;
    same_out = λ now x y q rs h e. equal-output _ _ ((any-split m w now x rs (ready m w now rs h.1.0) q (stands-now now q rs h.0)).0 ∙ ap (λ z. (step m now z rs).out) e);
    steps = λ now x y q rs h e. subst (λ z. AtStands now ((carried m).step now x q).state (step m now z rs).state) e (carried_step now x q rs h);
    early = λ o q rs h. ap (not_before o) (due-between o q rs h) ∙ fit-early m w o rs h.1;
    opens = λ o u q rs h l e. opened o u q rs h l (ap (not_before u) (sym (due-between o q rs h)) ∙ e);
    closes = λ now q rs h e. (
      record { stands = h.0.stands; in_time = let k = h.0.in_time in omega arith; each = h.0.each },
      kept-closes m w now rs h.1 (ap (λ u. same_time u (finite now)) (sym (due-carried now q rs h)) ∙ e),
    );
  }
