-- `little_endian::number_at` meets its contract. The number at the front of the rest is the number at the position (number-drop). Assumes
-- nothing.
use mathlib.Core.Path.{◌∙◌, ap}
use Rattle.definition.specs.Bytes.{number_at}
use Rattle.law_bytes.proofs.Rows.{number-drop}
use Rattle.little_endian.proofs.number_at.Goals as goal

pub returns : goal.returns
returns c =
    let a = c.args in
    c.number_of.ensures ∙ ap (number_at a.n 0) c.rest-t.ensures ∙ number-drop a.n a.at a.s.now
