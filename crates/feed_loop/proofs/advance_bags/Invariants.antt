use lib.ListN.{length}
use Rattle.law_feed.specs.Onward.{bags_onward}
use Rattle.instant_steps.specs.Sim.{sim_of}
use Rattle.instant_attempt.specs.Progress.{progress_of}
use Rattle.feed_loop.specs.Onwards.{bags_in}
use Rattle.feed_loop.proofs.Laws.{Going}
use Rattle.feed_loop.proofs.advance_bags.Given as goal

abbrev pub invariant-loop : goal.invariant-loop
invariant-loop l = Going l.phases l.tables (sim_of l.phases l.rules l.tables (length l.initial.work)) l.feed l.count
    (bags_onward (sim_of l.phases l.rules l.tables (length l.initial.work)) (length l.initial.trace) (bags_in l.feed) 0 (progress_of l.initial.trace l.tables l.initial.state l.initial.p)) l.initial.trace l.state l.trace l.at l.counter l.bags l.p
