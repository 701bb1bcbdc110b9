-- `model_records::phases_before` meets its contract. Invariant: the total is what stands before component i, at most 255 a component. One
-- component more is before_more, also past the last one. Assumes nothing.
use native.Mathlib.Omega.{arith}
use Rattle.model_records.proofs.Before.{before-none, before_more}
use Rattle.model_records.specs.Values.{components_in}
use mathlib.Core.Path.{ap, sym}
use Rattle.model_records.proofs.phases_before.Goals as goal

pub loop-i-preserved : goal.loop-i-preserved
loop-i-preserved c =
    let cs = components_in c.args.components.now in
    (omega arith, omega (arith, before_more cs c.loop-i.i, ap (λ k. k.phases) c.component_at-component.ensures))

pub loop-i-init : goal.loop-i-init
loop-i-init c = (omega arith, sym (before-none (components_in c.args.components.now)))
