-- Four parts, one after the other, each over the table that the one before it left, and then the count. None before the last moves a word of
-- the links (above3). Assumes nothing.
use borrow.Author.Rules.{rules}
use native.Mathlib.Omega.{arith}
use mathlib.Core.Path.{sym, ap, ◌∙◌}
use lib.ListN.{get_or}
use Rattle.law_base.specs.Ranges.{ranges_of}
use Rattle.model_records.specs.Values.{components_in, rules_in, couplings_in}
use Rattle.table_components.specs.Columns.{by_component, by_rule, by_parent}
use Rattle.table_couplings.specs.Links.{by_coupling}
use Rattle.table_couplings.proofs.Begun.{joined-kept}
use Rattle.table_fill.specs.Filled.{filled}
use Rattle.table_fill.proofs.Holding.{above3}
use Rattle.table_fill.proofs.fill_tables.Goals as goal

pub fill_linked-requires : goal.fill_linked-requires
fill_linked-requires c =
    let a = c.args in
    let p = c.requires in
    let cs = components_in a.components.now in
    let rs = rules_in a.rules.now in
    let ks = couplings_in a.couplings.now in
    let e = c.fill_children.ensures ∙ ap (by_parent cs) (c.fill_rules.ensures ∙ ap (by_rule rs) (c.fill_components.ensures ∙ ap (by_component cs) p.3.begins)) in
    (p.0, p.2, joined-kept cs ks a.targets.now a.tables.now p.2 p.3 c.fill_children.new.t (λ x h. ap (λ s. get_or s x 0) e ∙ above3 cs rs ks (ranges_of a.half_open) p.0 p.2 x (omega arith) ∙ sym (ap (λ s. get_or s x 0) p.3.begins)))

pub returns : goal.returns
unfolding filled
returns c =
    let a = c.args in
    let cs = components_in a.components.now in
    let rs = rules_in a.rules.now in
    let ks = couplings_in a.couplings.now in
    let components = c.fill_components.ensures ∙ ap (by_component cs) c.requires.3.begins in
    let children = c.fill_children.ensures ∙ ap (by_parent cs) (c.fill_rules.ensures ∙ ap (by_rule rs) components) in
    let e = c.fill_linked.ensures ∙ ap (by_coupling cs ks) children in
    rw (← e, ← c.count_word.ensures, ← c.atomics_word.ensures, ← c.ranges_word.ensures)
