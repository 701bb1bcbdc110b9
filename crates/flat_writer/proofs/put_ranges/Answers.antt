-- The tables' word tells whether there is a fifth section: its count and its byte (`ranges-puts`), or nothing.
use mathlib.Core.Path.{sym, ap, ◌∙◌}
use lib.Seq.{sets}
use Rattle.definition.specs.File.{ranges_bytes}
use Rattle.flat_writer.proofs.Sections.{ranges-open, ranges-closed, ranges-puts}
use Rattle.flat_writer.proofs.put_ranges.Goals as goal

pub returns-then-word_at-ne0 : goal.returns-then-word_at-ne0
returns-then-word_at-ne0 c =
    let a = c.args in
    let open-then = ranges-open a.tables.now (λ e. c.if-word_at-ne0.true (c.word_at.ensures ∙ e)) in
    rw c.put_number.ensures (ranges-puts a.at a.out.now ∙ ap (λ r. sets a.out.now a.at (ranges_bytes r)) (sym open-then))

pub returns-else-word_at-ne0 : goal.returns-else-word_at-ne0
unfolding ranges_bytes
returns-else-word_at-ne0 c =
    let a = c.args in
    let none = ranges-closed a.tables.now (sym c.word_at.ensures ∙ c.if-word_at-ne0.false) in
    sym (ap (λ r. sets a.out.now a.at (ranges_bytes r)) none)
