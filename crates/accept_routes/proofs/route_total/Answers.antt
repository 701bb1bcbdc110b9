-- `accept_routes::route_total` meets its contract. Invariant: the total so far and what the components from c on add make, capped, the
-- table's number of routes (over-more, over-end). Assumes nothing.
use native.Mathlib.Omega.{arith}
use Prim.Native.Nat.{◌-◌}
use mathlib.Core.Path.{◌≡◌, ap, ◌∙◌}
use lib.ListN.{length}
use Rattle.definition.specs.Lists.{up_from}
use Rattle.law_base.proofs.Sums.{sum_of}
use Rattle.model_records.specs.Values.{components_in}
use Rattle.law_routes.specs.Ways.{table_routes}
use Rattle.law_routes.proofs.Total.{over-start, over-more, over-end}
use Rattle.accept_routes.proofs.route_total.Invariants.{own}
use Rattle.accept_routes.proofs.route_total.Goals as goal

pub loop-c-init : goal.loop-c-init
unfolding table_routes
loop-c-init c =
    let a = c.args in
    let f = own (components_in a.components.now) a.ways.now in
    let n = c.component_count-c-end.result in
    let e : sum_of f (up_from 0 (n - 0)) ≡ sum_of f (up_from 0 (length (components_in a.components.now))) = over-start f n ∙ ap (λ n. sum_of f (up_from 0 n)) c.component_count-c-end.ensures in
    (omega arith, omega (arith, e, c.four_ways-total.ensures))

pub loop-c-preserved : goal.loop-c-preserved
loop-c-preserved c =
    let a = c.args in
    let f = own (components_in a.components.now) a.ways.now in
    (omega arith, omega (arith, over-more f c.loop-c.c c.component_count-c-end.result (omega arith)))

pub returns : goal.returns
returns c =
    let a = c.args in
    let f = own (components_in a.components.now) a.ways.now in
    omega (arith, over-end f c.loop-c.c c.component_count-c-end.result (omega arith))
