use Rattle.instant_loop.proofs.Turns.{Turning}
use Rattle.instant_loop.proofs.advance_within.Given as goal

abbrev pub invariant-loop : goal.invariant-loop
invariant-loop l = Turning l.phases l.rules l.tables l.has l.t.0 l.bag l.initial.p l.initial.state l.initial.work l.initial.trace l.p l.state l.trace l.counter
