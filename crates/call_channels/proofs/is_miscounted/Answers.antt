-- The number of runs by two tests, then the allowance (Counts).
use Rattle.call_channels.proofs.Counts.{counts-out, counts-in}
use Rattle.call_channels.proofs.is_miscounted.Goals as goal

pub returns-then-count : goal.returns-then-count
returns-then-count c = counts-out c.args.count c.args.allowance c.if-count.true

pub returns : goal.returns
returns c = counts-in c.args.count c.args.allowance c.if-count.false
