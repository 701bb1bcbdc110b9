-- The filled tables are those of the model, where it is sound. Assumes nothing.
use mathlib.Core.Path.{◌∙◌, subst, sym}
use Prim.Native.Nat.{◌+◌}
use native.Mathlib.Omega.{arith}
use Rattle.definition.specs.Model.{Model}
use Rattle.law_model.proofs.WellFormed.{WellFormed}
use Rattle.law_routes.proofs.Placed.{rising}
use Rattle.spec_step.specs.Tables.{numbers_at, positions_at, kinds_at, orders_at, phases_at, parents_at}
use Rattle.spec_step.specs.Tabled.{Tabled}
use Rattle.model_records.proofs.Counting.{atomics-most}
use Rattle.table_components.specs.Columns.{rule_names}
use Rattle.table_fill.specs.Filled.{filled}
use Rattle.table_fill.proofs.Rows.{atomic-known, place-right, numbers-hold, positions-hold, kinds-hold, orders-hold, phases-hold, parents-hold}
use Rattle.table_fill.proofs.Holding.{t0, l0, is-filled, kept1, count-holds, atomics-hold, ranges-hold, children-hold, rows-hold, ranges_in_lem, ranges-from, ranges-to}
use Rattle.table_fill.proofs.Sources.{given_holds, live-holds}

pub tables-hold : (m : Model) → WellFormed m → Tabled m (filled m.components m.rules m.couplings m.ranges)
unfolding rule_names
tables-hold m w =
    let cs = m.components in
    let rs = m.rules in
    let ks = m.couplings in
    let ranges = m.ranges in
    let some = w.some_component in
    let few = w.components.few in
    let short = w.couplings.few in
    let base = t0 cs rs ks ranges few short in
    let size = l0 cs rs ks ranges few short in
    let kept = kept1 cs rs ks ranges few short in
    let r = rising cs w.components.fit in
    subst (Tabled m) (sym (is-filled cs rs ks ranges few short)) (record {
      count = count-holds cs rs ks ranges few short;
      atomic_count_lem = atomics-hold cs rs ks ranges few short;
      ranges = ranges-hold cs rs ks ranges few short;
      numbers = λ i h. kept (numbers_at + i) (omega (arith, atomics-most cs, few)) ∙ numbers-hold cs base size few i h;
      positions = λ c e. let h = atomic-known cs c e in kept (positions_at + c) (omega (arith, few)) ∙ positions-hold cs base size few c h ∙ place-right cs c e;
      kinds = λ c h. kept (kinds_at + c) (omega (arith, few)) ∙ kinds-hold cs base size few c h;
      orders = λ c h. kept (orders_at + c) (omega (arith, few)) ∙ orders-hold cs base size few c h;
      phases = λ c h. kept (phases_at + c) (omega (arith, few)) ∙ phases-hold cs base size few c h;
      parents = λ c h. kept (parents_at + c) (omega (arith, few)) ∙ parents-hold cs base size few c h;
      childs = children-hold cs rs ks ranges few short some;
      rules_in_lem = ranges_in_lem cs rs ks ranges few short;
      rules_from = λ c i h k e. ranges-from cs rs ks ranges few short c h i k e;
      rules_to = λ c i h k e. ranges-to cs rs ks ranges few short c h i k e;
      rows = rows-hold cs rs ks ranges few short;
      live = live-holds cs rs ks ranges some few short r w.couplings.fit;
      given_live = given_holds cs rs ks ranges some few short;
    })
