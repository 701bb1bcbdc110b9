-- The three tests of `bag_fits`, the last by `ports_fit`.
use borrow.Author.Rules.{rules}
use Rattle.definition.specs.Engine.{bag_fits}
use Rattle.call_bag.proofs.bag_fits.Goals as goal

pub returns : goal.returns
unfolding bag_fits
returns c = rw c.ports_fit.ensures
