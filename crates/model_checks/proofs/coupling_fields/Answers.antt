-- `model_checks::coupling_fields` meets its contract. The definition's own tests; kinship is asked of components that there are. Assumes
-- nothing.
use mathlib.Core.Path.{◌≡◌}
use mathlib.Core.Bool.{true, false, ◌&&◌}
use lib.Dec.{ltb}
use borrow.Author.Tests.{not-true, not-false}
use Rattle.definition.specs.Pinned.Decoder.{coupling_fields}
use Rattle.model_checks.proofs.coupling_fields.Goals as goal

pub returns-then-not-source-component_count : goal.returns-then-not-source-component_count
unfolding coupling_fields
returns-then-not-source-component_count c =
    let n = c.component_count-component_count.result in
    let k = c.args.coupling in
    let e : (((ltb k.source n && ltb k.target n) && ltb k.source_port 4) && ltb k.target_port 4) ≡ false = not-true _ c.if-not-source-component_count.true-raw in
    rw (← c.component_count-component_count.ensures, e)

pub returns : goal.returns
unfolding coupling_fields
returns c =
    let n = c.component_count-component_count.result in
    let k = c.args.coupling in
    let e : (((ltb k.source n && ltb k.target n) && ltb k.source_port 4) && ltb k.target_port 4) ≡ true = not-false _ c.if-not-source-component_count.false-raw in
    rw (← c.component_count-component_count.ensures, e) c.are_related.ensures
