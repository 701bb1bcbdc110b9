-- The decoder's tests of a coupling decide the lines of document 01 for it, where the components have kept theirs: a parent lies before
-- its child, so that source and target are two. Assumes nothing.
use mathlib.Core.Path.{◌≡◌, refl, sym}
use mathlib.Core.Logic.{◌⊎◌, inl, inr}
use Prim.Native.Nat.{ℕ, zero, suc, ◌<◌}
use mathlib.Core.List.{List}
use mathlib.Core.Bool.{not}
use native.Mathlib.Omega.{arith}
use lib.Dec.{eqb}
use lib.ListN.{length, get_or}
use Rattle.definition.specs.Limits.{max_couplings, port_count}
use Rattle.definition.specs.Model.{Component, Coupling, no_coupling, component_at, is_child, is_sibling, coupling_le}
use Rattle.definition.specs.Pinned.Decoder.{to_coupling, related, coupling_fields, not_falling, coupling_fits, limit_refusal}
use Rattle.definition.specs.Sound.{component_form, Lines, Related, parent, sibling, child, CouplingKeeps, NotFalling, coupling_form}
use Rattle.law_refusals.proofs.Tests.{Decides, less, most, equal, negated, reworded, both, both-then, either, not-above}
use Rattle.law_model.proofs.Spellings.{coupling-spelled}
use Rattle.law_refusals.proofs.Sections.{Reads}
use Rattle.law_refusals.proofs.Rules.{limit-counted}

-- ---- couplings

module _ (cs : List Component) (w : Lines component_form cs) where
  abbrev par : ℕ → ℕ
  par c = (component_at cs c).parent

  above : (c : ℕ) → 0 < c → c < length cs → par c < c
  above c p l = ((w.keeps c l).parent p).0

  not_root : (d : ℕ) → Decides (not (eqb d 0)) (0 < d)
  not_root d = reworded (negated (equal d 0)) (positive d) (λ l e. omega arith)
    where
      positive : (d : ℕ) → (d ≡ 0 → ⊥) → 0 < d
      positive zero h = absurd (h refl)
      positive (suc d) h = omega arith

  abbrev Child : ℕ → ℕ → Type 0
  Child c d = (0 < d) × (par d ≡ c)

  abbrev Sibling : ℕ → ℕ → Type 0
  Sibling c d = ((c ≡ d → ⊥) × (0 < c)) × Child (par c) d

  child-test : (c d : ℕ) → Decides (is_child cs c d) (Child c d)
  unfolding is_child
  child-test c d = both (not_root d) (equal (par d) c)

  sibling-test : (c d : ℕ) → Decides (is_sibling cs c d) (Sibling c d)
  unfolding is_sibling
  sibling-test c d = both (both (negated (equal c d)) (not_root c)) (child-test (par c) d)

  to-related : (s t : ℕ) → s < length cs → t < length cs → (Child s t ⊎ Sibling s t) ⊎ Child t s → Related cs s t × (s ≡ t → ⊥)
  to-related s t a b (inl (inl h)) = (parent h.0 h.1, λ e. omega (arith, h.1, above t h.0 b))
  to-related s t a b (inl (inr h)) = (sibling h.0.1 h.1.0 (sym h.1.1), h.0.0)
  to-related s t a b (inr h) = (child h.0 h.1, λ e. omega (arith, h.1, above s h.0 a))

  of-related : (s t : ℕ) → Related cs s t → (s ≡ t → ⊥) → (Child s t ⊎ Sibling s t) ⊎ Child t s
  of-related s t (parent l e) h = inl (inl (l, e))
  of-related s t (sibling k l e) h = inl (inr ((h, k), (l, sym e)))
  of-related s t (child l e) h = inr (l, e)

  related-test : (s t : ℕ) → s < length cs → t < length cs → Decides (related cs s t) (Related cs s t × (s ≡ t → ⊥))
  unfolding related
  related-test s t a b =
      reworded (either (either (child-test s t) (sibling-test s t)) (child-test t s)) (to-related s t a b) (λ h. of-related s t h.0 h.1)

  coupling-test : (k : Coupling) → Decides (coupling_fields cs k) (CouplingKeeps cs k)
  unfolding coupling_fields
  coupling-test k =
      reworded (both-then
      (both (both (both (less k.source (length cs)) (less k.target (length cs))) (less k.source_port port_count)) (less k.target_port port_count))
      (λ h. related-test k.source k.target h.0.0.0 h.0.0.1))
      (λ h. record {
        source = h.0.0.0.0;
        target = h.0.0.0.1;
        related = h.1.0;
        other = h.1.1;
        source_port_lem = h.0.0.1;
        target_port_lem = h.0.1;
      })
      (λ h. ((((h.source, h.target), h.source_port_lem), h.target_port_lem), (h.related, h.other)))

  falling-test : (ks : List Coupling) (i : ℕ) → Decides (not_falling ks i) (NotFalling ks i)
  unfolding not_falling coupling_le
  falling-test ks zero = record { holds = λ e j q. absurd (omega arith); passes = λ h. refl }
  falling-test ks (suc i) = reworded (not-above _ _) (λ h j q. let e : j ≡ i = omega arith in rw e h) (λ h. h i refl)

  pub coupling-reads : Reads (coupling_form cs) (limit_refusal max_couplings) to_coupling (coupling_fits cs)
  unfolding coupling_fits
  coupling-reads = record {
    spelled = coupling-spelled;
    small = λ n h. omega arith;
    counted = λ n. limit-counted (coupling_form cs) max_couplings n (most n max_couplings) tt;
    line = λ ks i r l. both (coupling-test (get_or ks i no_coupling)) (falling-test ks i);
  }
