-- The tables are the accepted model's, so that the rows are its flat form's (`probing`), and so is the size (`size_is`). That the file is
-- bytes is known once the atomics are counted, and cited from the later places.
use Prim.Native.Nat.{ℕ, ◌<◌}
use mathlib.Core.Path.{◌∙◌}
use lib.ListN.{get_or}
use Rattle.call_flatten.proofs.Flattened.{few-phases, few-rules, few-rows, probing, size_is}
use Rattle.call_flatten.proofs.find_flat.Goals as goal
use Rattle.call_flatten.proofs.find_flat.Goals.{After-atomics_in-atomics}

bytes : (f : After-atomics_in-atomics) (i : ℕ) → get_or f.args.file.now i 0 < 256
bytes f i = (f.type_inv.file i).fits

pub atomics_in-atomics-requires : goal.atomics_in-atomics-requires
atomics_in-atomics-requires c = c.requires.tabled.in_range.atomics

pub flat_rows-count-requires : goal.flat_rows-count-requires
flat_rows-count-requires c = rw c.atomics_in-atomics.ensures (probing _ _ (bytes (goal.at.flat_rows-count-requires c).After-atomics_in-atomics) _ _ c.requires)

pub flat_size-requires : goal.flat_size-requires
flat_size-requires c =
    let can = c.requires in
    let held = rw c.atomics_in-atomics.ensures at c.flat_rows-count.ensures in (
      rw c.phases_of-phases.ensures (few-phases _ _ (bytes (goal.at.flat_size-requires c).After-atomics_in-atomics) _ _ can),
      rw c.rules_of-rules.ensures (few-rules _ _ (bytes (goal.at.flat_size-requires c).After-atomics_in-atomics) _ _ can),
      few-rows _ _ (bytes (goal.at.flat_size-requires c).After-atomics_in-atomics) _ _ can _ held.count,
    )

pub returns : goal.returns
returns c =
    let can = c.requires in
    let r = c.flat_rows-count in
    let held = rw c.atomics_in-atomics.ensures at r.ensures in
    let size = rw (c.atomics_in-atomics.ensures, c.phases_of-phases.ensures, c.rules_of-rules.ensures) at c.flat_size.ensures in record {
      can = record { accepts = can.accepts; tabled = can.tabled; rooms = r.auto.rows ∙ can.rooms };
      held = held;
      sized = size ∙ size_is _ _ (bytes (goal.at.returns c).After-atomics_in-atomics) _ _ can _ held.count;
    }
