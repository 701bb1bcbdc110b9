-- The last word is written, the regions stay.
use Rattle.run_state.proofs.Laws.{next-put}
use Rattle.run_state.proofs.put_next.Goals as goal

pub returns : goal.returns
returns c = next-put c.args.due c.args.state.now c.whole.ensures
