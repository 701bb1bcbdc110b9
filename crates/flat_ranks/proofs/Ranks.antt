-- Where the tables are a model's, a component's rank is its number in the flat form. Assumes nothing.
use mathlib.Core.Path.{◌≡◌, refl, sym, ap, ◌∙◌}
use Prim.Native.Nat.{ℕ, suc, ◌+◌}
use mathlib.Core.List.{List}
use mathlib.Core.Logic.{◌⊎◌, inl, inr}
use mathlib.Core.Bool.{true, cond}
use lib.ListN.{get_or}
use Rattle.definition.specs.Model.{Model, is_atomic}
use Rattle.definition.specs.Flatten.{renumbered}
use Rattle.law_model.proofs.WellFormed.{WellFormed}
use Rattle.law_base.proofs.Tests.{eqb-sym}
use Rattle.law_nest.proofs.Components.{rooted, root-not}
use Rattle.law_nest.proofs.Renumber.{is_listed, new-root, new-atomic}
use Rattle.law_flat.proofs.FlatComponents.{listed-cases}
use Rattle.spec_step.specs.Tables.{positions_at}
use Rattle.spec_step.specs.Tabled.{Tabled}
use Rattle.flat_ranks.specs.Ranks.{rank_of}

root-rank : (t : List ℕ) → rank_of t 0 ≡ 0
unfolding rank_of
root-rank t = refl

pub rank_is : (m : Model) (w : WellFormed m) (t : List ℕ) (h : Tabled m t) (c : ℕ) → is_listed m.components c ≡ true → rank_of t c ≡ renumbered m.components c
rank_is m w t h c l = either (listed-cases m.components c l)
  where
    either : (0 ≡ c) ⊎ (is_atomic m.components c ≡ true) → rank_of t c ≡ renumbered m.components c
    either (inl e) = ap (rank_of t) (sym e) ∙ root-rank t ∙ sym (new-root m.components) ∙ ap (renumbered m.components) e
    either (inr e) =
        unfold rank_of in
        (ap (λ b. cond b 0 (suc (get_or t (positions_at + c) 0))) (eqb-sym c 0 ∙ root-not m.components c (rooted m.components w.components.fit w.some_component) e)
        ∙ ap suc (h.positions c e) ∙ sym (new-atomic m.components w.components.fit w.some_component c e))
