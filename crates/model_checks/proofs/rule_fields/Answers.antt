-- `model_checks::rule_fields` meets its contract. A number past the last component is refused; of another one the phase count is known, and
-- a component with a phase is atomic (rule-by). Assumes nothing.
use native.Mathlib.Omega.{arith}
use Prim.Native.Nat.{◌<◌}
use lib.ListN.{length}
use borrow.Author.Tests.{le-ltb}
use Rattle.definition.specs.Pinned.Decoder.{rule_fields}
use Rattle.model_records.specs.Values.{rule_of, components_in}
use Rattle.model_checks.proofs.Kept.{rule-by}
use Rattle.model_checks.proofs.rule_fields.Goals as goal

pub returns : goal.returns
returns c =
    let cs = components_in c.args.components.now in
    let number = c.args.rule.component in
    let l : number < length cs = omega (arith, c.component_count.ensures) in
    rule-by cs (rule_of c.args.rule) c.requires.accepted l (c.requires.counted.holds number l)

pub returns-then-component_count-component : goal.returns-then-component_count-component
unfolding rule_fields
returns-then-component_count-component c = rw (← c.component_count.ensures, le-ltb _ _ c.if-component_count-component.true)
