-- The definition's buffers are zeros, as the arrays are; and the text of any bytes has room on the page.
use Rattle.law_bytes.proofs.Slices.{all-bytes}
use Rattle.run_text.specs.Text.{run_text}
use Rattle.run_text.proofs.Fits.{text-fits}
use Rattle.run_text.proofs.run_text.Goals as goal

pub returns : goal.returns
unfolding run_text
returns c = (c.put_input.ensures, text-fits c.args.input.now (all-bytes _ (λ i. (c.type_inv.input i).fits)))
