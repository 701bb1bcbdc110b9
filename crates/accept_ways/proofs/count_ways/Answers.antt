-- The ends, and both passes over the links: they count the ways (ways-counted). Assumes nothing.
use borrow.Author.Rules.{rules}
use Prim.Native.Nat.{ℕ, ◌*◌}
use mathlib.Core.List.{List}
use mathlib.Core.Path.{sym, ap, ◌∙◌, subst}
use lib.ListN.{length, get_or}
use Rattle.model_records.specs.Values.{components_in, couplings_in}
use Rattle.law_routes.specs.Nodes.{port_nodes}
use Rattle.law_routes.specs.Ways.{end_at, WaysCounted}
use Rattle.table_words.specs.Writes.{column}
use Rattle.table_couplings.specs.Links.{source_in}
use Rattle.accept_ways.specs.Words.{ways_down, ways_up}
use Rattle.accept_ways.proofs.Words.{words-on-nodes, ways-counted}
use Rattle.accept_ways.proofs.count_ways.Goals as goal

pub ways_down-requires : goal.ways_down-requires
ways_down-requires c =
    let a = c.args in
    let p = c.requires in
    rw c.coupling_count-n.ensures (p.1, words-on-nodes (components_in a.components.now) (couplings_in a.couplings.now) p.3 a.targets.now a.tables.now p.4)

pub ways_up-requires : goal.ways_up-requires
ways_up-requires c =
    let a = c.args in
    let p = c.requires in
    rw c.coupling_count-n.ensures (p.1, words-on-nodes (components_in a.components.now) (couplings_in a.couplings.now) p.3 a.targets.now a.tables.now p.4)

pub returns : goal.returns
returns c =
    let a = c.args in
    let p = c.requires in
    let cs = components_in a.components.now in
    let ks = couplings_in a.couplings.now in
    let src = source_in a.tables.now in
    let tgt : ℕ → ℕ = λ j. get_or a.targets.now j 0 in
    let n = c.coupling_count-n.result in
    let both : ℕ → List ℕ → List ℕ = λ n ways. ways_up src tgt n 1 (ways_down src tgt n ways) in
    let e = c.ways_up.ensures ∙ ap (ways_up src tgt n 1) (c.ways_down.ensures ∙ ap (ways_down src tgt n) c.mark_ports.ensures)
    ∙ ap (λ n. both n (column 0 (end_at cs) (port_nodes * length cs) 0 a.ways.now)) c.coupling_count-n.ensures in
    subst (WaysCounted cs ks) (sym e) (ways-counted cs ks p.3 a.targets.now a.tables.now p.4 p.0 a.ways.now p.2)
