-- What `collect_root` leaves in the first quarter of the buffer is the root's bag, as much as has room; sorting keys sorts messages.
use lib.ListN.{length, take}
use Rattle.law_stores.proofs.Fronts.{Front}
use Rattle.spec_step.specs.TableStep.{root_room}
use Rattle.step_collect.specs.Collected.{root_keys_for}
use Rattle.step_simulator.proofs.Laws.{root-held, sort-fits, root-sorted}
use Rattle.step_simulator.proofs.root_bag.Goals as goal
use Rattle.step_simulator.proofs.root_bag.Goals.{After-collect_root-count}

-- The bag stands at the front of the quarter.
abbrev Pulled : (k : After-collect_root-count) → Type 0
Pulled k = let a = k.args in
    Front (length (take (root_room (length a.work.now)) a.work.now)) (k.collect_root-count.new.buf, k.collect_root-count.result)
    (root_keys_for a.phases.now a.tables.now a.flags.now)

pulled : (k : After-collect_root-count) → Pulled k
pulled k = let a = k.args in
    root-held a.phases.now a.tables.now a.flags.now _ _ k.collect_root-count.result k.collect_root-count.ensures

pub sort-requires : goal.sort-requires
sort-requires c = sort-fits c.args.work.now _ _ _ (pulled (goal.at.sort-requires c).After-collect_root-count)

pub returns : goal.returns
returns c = root-sorted c.args.work.now _ _ _ (pulled (goal.at.returns c).After-collect_root-count) _ c.sort.ensures
