-- The three tests are those of the contract, in its order.
use Rattle.run_saved.proofs.entry_fits.Goals as goal

pub returns : goal.returns
returns c = rw (c.is_before.ensures, c.not_before.ensures)
