-- Four parts, one after the other, each over the table that the one before it left: together the definition's tables (links-whole).
-- None moves where a link begins (ready-nodes, spread-nodes). Assumes nothing.
use borrow.Author.Rules.{rules}
use mathlib.Core.Path.{ap, ◌∙◌}
use Prim.Native.Nat.{ℕ}
use lib.ListN.{get_or}
use Rattle.model_records.specs.Values.{components_in, couplings_in}
use Rattle.spec_step.specs.Tables.{live_at}
use Rattle.table_couplings.specs.Links.{source_in, source_flag, marked, spread_up, spread_down}
use Rattle.table_couplings.proofs.Order.{ready-nodes, spread-nodes, links-whole}
use Rattle.table_couplings.proofs.fill_linked.Goals as goal

pub spread_up-requires : goal.spread_up-requires
spread_up-requires c =
    let a = c.args in
    let p = c.requires in
    let k = c.link_count-n.ensures in
    let cs = components_in a.components.now in
    let e = c.mark_ports.ensures ∙ ap (marked live_at source_flag cs) c.link_all.ensures in
    rw k (p.1, ready-nodes cs (couplings_in a.couplings.now) a.targets.now a.t.now p.0 p.1 p.2 _ (rw k at e))

pub spread_down-requires : goal.spread_down-requires
spread_down-requires c =
    let a = c.args in
    let p = c.requires in
    let k = c.link_count-n.ensures in
    let cs = components_in a.components.now in
    let e = c.mark_ports.ensures ∙ ap (marked live_at source_flag cs) c.link_all.ensures in
    rw k (p.1, spread-nodes cs (couplings_in a.couplings.now) a.targets.now a.t.now p.0 p.1 p.2 _ _ (rw k at c.spread_up.ensures) (rw k at e))

pub returns : goal.returns
returns c =
    let a = c.args in
    let p = c.requires in
    let n = c.link_count-n.result in
    let cs = components_in a.components.now in
    let held : ℕ → ℕ = λ j. get_or a.targets.now j 0 in
    let e = c.mark_ports.ensures ∙ ap (marked live_at source_flag cs) c.link_all.ensures in
    let up = c.spread_up.ensures ∙ ap (λ s. spread_up (source_in s) held n s) e in
    rw c.link_count-n.ensures at (c.spread_down.ensures ∙ ap (λ s. spread_down (source_in s) held n 1 s) up)
    ∙ links-whole cs (couplings_in a.couplings.now) a.targets.now a.t.now p.0 p.1 p.2
