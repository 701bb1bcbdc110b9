-- One value is put where it is wanted, none otherwise.
use Rattle.step_keys.specs.Sent.{wanted_value}
use Rattle.law_base.specs.Keys.{key_of}
use Rattle.spec_step.specs.Put.{puts}
use Rattle.step_keys.proofs.put_wanted.Goals as goal

pub returns-then-wanted : goal.returns-then-wanted
unfolding puts key_of wanted_value
returns-then-wanted c = rw (c.if-wanted.true, c.put_key.ensures)

pub returns-else-wanted : goal.returns-else-wanted
unfolding puts key_of wanted_value
returns-else-wanted c = rw c.if-wanted.false
