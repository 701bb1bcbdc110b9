-- The mark of the node's component and the node's port are those that the definition names.
use Rattle.spec_step.specs.Tables.{node_component}
use Rattle.spec_step.specs.TableStep.{sent_by}
use Rattle.step_keys.specs.Sent.{sent_on}
use Rattle.step_collect.proofs.outputs.put_output.Goals as goal

pub returns : goal.returns
unfolding sent_by sent_on node_component
returns c = rw (c.mark_at-mark.ensures, c.port_of.ensures) at c.put_sent.ensures
