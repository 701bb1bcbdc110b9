-- A coupling from a parent begins at an input, any other at an output: the definition's test. Assumes nothing.
use Rattle.model_records.specs.Values.{coupling_of, components_in}
use Rattle.table_couplings.proofs.Loops.{source-turned}
use Rattle.table_couplings.proofs.source_node.Goals as goal

pub returns : goal.returns
returns c =
    rw (c.side_node.ensures, c.is_child-inward.ensures)
    (source-turned (components_in c.args.components.now) (coupling_of c.args.k))
