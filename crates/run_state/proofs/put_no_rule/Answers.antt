-- One bit gone from the word of the bits; the others stay.
use Rattle.run_state.proofs.Laws.{no-rule-put}
use Rattle.run_state.proofs.put_no_rule.Goals as goal

pub returns : goal.returns
returns c = rw (c.bit_of-bit.ensures, c.bits_in.ensures) (no-rule-put c.args.position c.args.state.now c.whole.ensures)
