-- Both numbers are read.
use Rattle.columns_forms.specs.Forms.{pair_of}
use Rattle.columns_forms.proofs.pair_at.Goals as goal

pub returns : goal.returns
unfolding pair_of
returns c = rw (c.u64_within.ensures, c.u16_within.ensures)
