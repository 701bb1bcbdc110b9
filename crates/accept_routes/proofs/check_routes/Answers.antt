-- A decoded model has its components and couplings in order (parts-placed), so that the words put are those of its links (ends-linked), the
-- table counts the ways, and its total tells whether there are too many routes (parts-told) and how many (parts-routes). Where decoding
-- refuses, acceptance refuses with the same number (accepted-no). Assumes nothing.
use Prim.Native.Nat.{ℕ, ◌*◌}
use mathlib.Core.Bool.{true, false}
use mathlib.Core.Path.{refl, sym}
use lib.ListN.{length-replicate}
use borrow.Author.Tests.{lt-ltb, le-ltb}
use Rattle.std.proofs.lemmas.Result.{err_from_is_err_and}
use Rattle.definition.specs.Limits.{max_components}
use Rattle.model_records.specs.Values.{components_in, couplings_in}
use Rattle.model_file.specs.Checked.{components_part, couplings_part}
use Rattle.law_routes.specs.Nodes.{port_nodes}
use Rattle.table_couplings.proofs.Begun.{joined-kept}
use Rattle.accept_routes.proofs.Decoded.{parts-placed, parts-told, parts-routes, ends-linked, accepted-no}
use Rattle.accept_routes.proofs.check_routes.Goals as goal

pub returns-in_err-counts : goal.returns-in_err-counts
returns-in_err-counts c =
    let p = err_from_is_err_and c.from_residual.result c.from_residual.ensures.1 in
    rw (p.1, p.2) (sym (accepted-no c.args.file.now _ (sym c.in_err-counts.ensures)), tt, tt)

pub put_ends-requires : goal.put_ends-requires
put_ends-requires c =
    let file = c.args.file.now in
    let p = parts-placed file c.in_ok-counts.counts (sym c.in_ok-counts.ensures) in
    (rw c.couplings_of-couplings.ensures p.2, c.requires.1)

pub count_ways-requires : goal.count_ways-requires
count_ways-requires c =
    let a = c.args in
    let file = a.file.now in
    let n = c.in_ok-counts.counts in
    let e = sym c.in_ok-counts.ensures in
    let p = parts-placed file n e in
    let targets = c.put_ends.new.targets in
    let t = c.put_ends.new.t in
    let w = ends-linked file n e targets a.tables.now t c.components_of-components.ensures c.couplings_of-couplings.ensures c.requires.0 c.put_ends.ensures in
    rw (c.components_of-components.ensures, c.couplings_of-couplings.ensures)
    (p.1, p.2, length-replicate {A = ℕ} (port_nodes * max_components) 0, p.0, joined-kept (components_in (components_part file n)) (couplings_in (couplings_part file n)) targets t p.2 w t (λ x h. refl))

pub route_total-routes-requires : goal.route_total-routes-requires
route_total-routes-requires c =
    let file = c.args.file.now in
    let p = parts-placed file c.in_ok-counts.counts (sym c.in_ok-counts.ensures) in
    rw c.components_of-components.ensures p.1

pub returns-then-routes-gt-MAX_ROUTES : goal.returns-then-routes-gt-MAX_ROUTES
returns-then-routes-gt-MAX_ROUTES c =
    let file = c.args.file.now in
    let n = c.in_ok-counts.counts in
    let e = sym c.in_ok-counts.ensures in
    let h = rw (c.components_of-components.ensures, c.couplings_of-couplings.ensures) at c.count_ways.ensures in
    let t = rw c.components_of-components.ensures at c.route_total-routes.ensures in
    (sym (parts-told file n e c.count_ways.new.ways c.route_total-routes.result true h t (lt-ltb _ _ c.if-routes-gt-MAX_ROUTES.true)), tt, tt)

pub returns : goal.returns
returns c =
    let a = c.args in
    let file = a.file.now in
    let n = c.in_ok-counts.counts in
    let e = sym c.in_ok-counts.ensures in
    let ways = c.count_ways.new.ways in
    let h = rw (c.components_of-components.ensures, c.couplings_of-couplings.ensures) at c.count_ways.ensures in
    let t = rw c.components_of-components.ensures at c.route_total-routes.ensures in
    let w = ends-linked file n e c.put_ends.new.targets a.tables.now c.put_ends.new.t c.components_of-components.ensures c.couplings_of-couplings.ensures c.requires.0 c.put_ends.ensures in
    (sym (parts-told file n e ways c.route_total-routes.result false h t (le-ltb _ _ c.if-routes-gt-MAX_ROUTES.false)), parts-routes file n e ways c.route_total-routes.result h t c.if-routes-gt-MAX_ROUTES.false, w)
