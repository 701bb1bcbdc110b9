-- The place starts past the end, or ends inside or past it, by what is left behind its start.
use Rattle.channel_turn.proofs.Places.{starts-past, ends-inside}
use Rattle.channel_turn.proofs.lies_inside.Goals as goal

pub returns-then-size-place : goal.returns-then-size-place
returns-then-size-place c = starts-past c.args.size c.args.place c.if-size-place.true

pub returns : goal.returns
returns c = ends-inside c.args.size c.args.place c.if-size-place.false
