-- The rest of the test from component c on, with k atomics before it, is the whole test: `fit-more` goes on, `fit-fails` and `fit-end`
-- close the returns.
use native.Mathlib.Omega.{arith}
use lib.Dec.{eqb}
use Rattle.run_saved.proofs.Fitting.{from_first, left-more, fit-first, fit-more, fit-fails, fit-end, tested_at, atomic-said, atomic-counted}
use Rattle.model_records.proofs.Counting.{one-most}
use Rattle.run_saved.specs.Runs.{bare, entry_of, entry_at}
use Rattle.clock.specs.Times.{time_of}
use Rattle.law_bytes.proofs.Rows.{number-below}
use Rattle.model_records.proofs.Before.{before-none, before_more}
use Rattle.model_records.specs.Values.{components_in, component_of}
use Rattle.definition.specs.Bytes.{number_at}
use Rattle.definition.specs.Model.{Component, is_atomic}
use Rattle.definition.specs.SavedRun.{entry_fits}
use lib.ListN.{length}
use Prim.Native.Nat.{◌<◌, ◌+◌}
use mathlib.Core.Bool.{Bool, ◌&&◌, not}
use mathlib.Core.Path.{◌≡◌, ◌∙◌, ap, ap₂, sym}
use Rattle.run_saved.proofs.entries_fit.Goals as goal
use Rattle.run_saved.proofs.entries_fit.Goals.{After-entry_fits-fit}

pub loop-c-init : goal.loop-c-init
loop-c-init c =
    let a = c.args in
    (omega arith, omega arith, sym (before-none (components_in a.components.now)), omega (arith, ap length (from_first (components_in a.components.now))), sym (fit-first a.components.now a.phases.now a.run.now))

-- The code's test at a component is the definition's.
tested : (c : After-entry_fits-fit)
    → (eqb c.component_at-own.result.kind 1 && not c.entry_fits-fit.result)
    ≡ (is_atomic (components_in c.args.components.now) c.loop-c.c && not (entry_fits (bare c.args.components.now c.args.phases.now) (number_at 8 0 c.args.run.now) c.loop-c.c (entry_at c.args.run.now c.loop-c.k)))
tested c =
    let a = c.args in
    let l = c.loop-c in
    let s = a.run.now in
    let own = component_of c.component_at-own.result in
    let f = tested_at a.components.now a.phases.now s l.c l.k l.first c.opening_of-opening.result.0 own (entry_of c.entry_at-e.result) (time_of c.entry_due.result) c.entry_fits-fit.result c.component_at-own.ensures l.invariant.2 c.opening_of-opening.ensures (rw c.opening_of-opening.ensures (omega (arith, number-below 8 0 s (λ i. (c.type_inv.run i).fits)))) c.entry_at-e.ensures c.entry_due.ensures c.entry_fits-fit.ensures in
    ap₂ (λ (x y : Bool). x && not y) (atomic-said (components_in a.components.now) l.c own c.component_at-own.ensures) f

pub returns-then-atomic-fit : goal.returns-then-atomic-fit
returns-then-atomic-fit c =
    let a = c.args in
    let l = c.loop-c in
    let h : l.c < length (components_in a.components.now) = omega (arith, c.component_count-n.ensures) in
    let e = tested ((goal.at.returns-then-atomic-fit c).After-entry_fits-fit) in
    sym (fit-fails a.components.now a.phases.now a.run.now l.c l.k h l.invariant.3 (sym e ∙ c.if-atomic-fit.true)) ∙ l.invariant.4

pub loop-c-preserved : goal.loop-c-preserved
loop-c-preserved c =
    let a = c.args in
    let l = c.loop-c in
    let cs = components_in a.components.now in
    let h : l.c < length cs = omega (arith, c.component_count-n.ensures) in
    let e = tested ((goal.at.loop-c-preserved c).After-entry_fits-fit) in
    let o = atomic-counted cs l.c (component_of c.component_at-own.result) c.from-k.result c.component_at-own.ensures c.from-k.ensures in (
      omega (arith, o, one-most (is_atomic cs l.c)),
      omega arith,
      ap₂ ◌+◌ l.invariant.2 (ap (λ (k : Component). k.phases) c.component_at-own.ensures) ∙ sym (before_more cs l.c),
      rw o (left-more cs l.c h l.k _ l.invariant.3),
      rw o (fit-more a.components.now a.phases.now a.run.now l.c l.k h l.invariant.3 (sym e ∙ c.if-atomic-fit.false)) ∙ l.invariant.4,
    )

pub returns : goal.returns
returns c =
    let l = c.loop-c in
    let a = c.args in
    sym (fit-end a.components.now a.phases.now a.run.now l.c l.k (omega (arith, c.component_count-n.ensures))) ∙ l.invariant.4
