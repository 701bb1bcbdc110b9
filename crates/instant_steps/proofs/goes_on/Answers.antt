-- The definition's test: something is due there, or the bag has a whole row (`bag-some`).
use Rattle.instant_steps.proofs.Steps.{bag-some}
use Rattle.instant_steps.proofs.goes_on.Goals as goal

pub returns : goal.returns
returns c = rw (bag-some c.args.given.now)
