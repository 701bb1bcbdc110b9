-- The two fields of an entry, where they stand in the run (`entry_place`).
use Rattle.run_saved.proofs.Entries.{entry_place}
use Rattle.run_saved.proofs.entry_at.Goals as goal

pub returns : goal.returns
returns c = rw (c.byte_at.ensures, c.u64_at.ensures) (entry_place c.args.run.now c.args.i)
