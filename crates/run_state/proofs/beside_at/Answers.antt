-- Two bytes of a word of the first region.
use mathlib.Core.Path.{refl}
use Rattle.run_state.specs.Held.{rule_beside, rules_beside}
use Rattle.run_state.proofs.Laws.{view-read}
use Rattle.run_state.proofs.beside_at.Goals as goal

pub returns : goal.returns
unfolding rules_beside rule_beside
returns c = view-read rule_beside c.args.position c.args.state.now refl c.requires
