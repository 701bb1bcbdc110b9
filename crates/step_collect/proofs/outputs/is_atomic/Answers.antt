-- The kind of the node's component, as the definition reads it.
use Rattle.spec_step.specs.Tables.{node_component, atomic_at, atomic_node}
use Rattle.step_collect.proofs.outputs.is_atomic.Goals as goal

pub returns : goal.returns
unfolding atomic_node atomic_at node_component
returns c = rw c.word_in.ensures
