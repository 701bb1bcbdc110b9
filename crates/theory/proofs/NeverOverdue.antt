-- What an atomic has spent in its phase, with the elapsed times on the way to it, is never more than the phase's advance: so the subtractions of ta
-- and σ never fall below 0 in a fitting run, however many messages were let pass. Assumes nothing.
use mathlib.Core.Path.{◌≡◌, sym, ap, ◌∙◌, subst}
use Prim.Native.Nat.{ℕ, ◌+◌, ◌-◌, ◌≤◌}
use mathlib.Core.List.{List}
use mathlib.Core.Bool.{true}
use native.Mathlib.Omega.{arith}
use borrow.Author.Tests.{leb-true}
use Rattle.definition.specs.Bytes.{Bytes, AllBytes, ok}
use Rattle.definition.specs.Model.{Model, Tree, Forest, leaf, node, stop, more, tree}
use Rattle.definition.specs.Devs.{finite, later, Totals, Since}
use Rattle.definition.specs.Atomic.{advance_of, devs_of, parts_of}
use Rattle.definition.specs.SavedRun.{Entry, not_before, due_of, run_of, entry_of}
use Rattle.definition.specs.Pinned.Decoder.{accepted}
use Rattle.definition.specs.Carrying.{root_of, Stands, StandsAll, BetweenCalls, Saved}
use Rattle.law_model.proofs.WellFormed.{WellFormed}
use Rattle.law_model.proofs.Reading.{accepted_sound}
use Rattle.law_nest.proofs.Nest.{Ready, ReadyAll}
use Rattle.law_calls.proofs.Kept.{Fit, fit-early}
use Rattle.law_calls.proofs.Fitting.{fits_run}
use Rattle.theory.proofs.Carrying.{AtStands, stands-now, ready-tree, opened}

module _ (m : Model) where
  -- no atomic of the tree has spent more than its advance, where the levels above have e
  abbrev mutual
    pub Within : ℕ → (t : Tree) → (devs_of m t).State → Type 0
    Within e (leaf c) s = (a : ℕ) → advance_of m c s.phase ≡ finite a → s.spent + e ≤ a
    Within e (node c f) s = WithinAll e f s

    pub WithinAll : ℕ → (f : Forest) → Totals (parts_of m f) → Type 0
    WithinAll e stop s = Unit {0}
    WithinAll e (more t f) s = Within (e + s.0.1) t s.0.0 × WithinAll e f s.1

  module _ (at : ℕ → Entry) (now : ℕ) where
    within-leaf : (c e spent a : ℕ) → (at c).last + (spent + e) ≡ now → not_before now (due_of m c (at c)) ≡ true → advance_of m c (at c).phase ≡ finite a → spent + e ≤ a
    unfolding due_of later not_before
    within-leaf c e spent a h k q = let l = rw q at k in omega (arith, h, leb-true now ((at c).last + a) l)

    mutual
      within : (t : Tree) (e : ℕ) (s : (devs_of m t).State) → Stands m at now e t s → Ready m at now t → Within e t s
      within (leaf c) e s h r = λ a q. within-leaf c e s.spent a h.1 r.1 (ap (advance_of m c) (sym h.0) ∙ q)
      within (node c f) e s h r = withins f e s h r

      withins : (f : Forest) (e : ℕ) (s : Totals (parts_of m f)) → StandsAll m at now e f s → ReadyAll m at now f → WithinAll e f s
      withins stop e s h r = tt
      withins (more t f) e s h r = (within t (e + s.0.1) s.0.0 h.0 r.0, withins f e s.1 h.1 r.1)

  -- at every moment of an instant
  pub within-instant : (w : WellFormed m) (now : ℕ) (q : Since (root_of m)) (rs : List Entry) → AtStands m w now q rs → Within (now - q.event) (tree m) q.state
  within-instant w now q rs h = within (entry_of m rs) now (tree m) (now - q.event) q.state (stands-now m w now q rs h.0) (ready-tree m w now rs h.1.0)

-- between calls, up to the open moment
pub within-saved : (file run : Bytes) (m : Model) → AllBytes file → accepted file ≡ ok m → (q : BetweenCalls m) → Saved m q run
    → Within m (q.opening - q.since.event) (tree m) q.since.state
within-saved file run m b f q h =
    let w = (accepted_sound file m b f).sound in
    let rs = (run_of m run).entries in
    let o = q.opening in
    let fit = subst (λ n. Fit m n rs) h.opening (fits_run m run h.run_fits_lem).0.0 in
    within-instant m w o q.since rs (opened m w o o q.since rs (h.entries, fit) (omega arith) (fit-early m w o rs fit))
