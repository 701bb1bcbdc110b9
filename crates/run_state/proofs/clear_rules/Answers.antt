-- The word of the bits is written, the rest stays.
use Rattle.run_state.proofs.Laws.{rules-cleared}
use Rattle.run_state.proofs.clear_rules.Goals as goal

pub returns : goal.returns
returns c = rules-cleared c.args.state.now c.whole.ensures
