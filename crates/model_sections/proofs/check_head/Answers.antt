-- `model_sections::check_head` meets its contract. The checks of the section's head in the definition's order, each return by the tests
-- that led to it; a judgement that is a refusal does not tell 0 (number-above). Assumes nothing.
use mathlib.Core.Path.{refl}
use borrow.Author.Tests.{lt-ltb, le-ltb}
use Rattle.std.proofs.lemmas.Result.{err_from_is_err_and}
use Rattle.definition.specs.Pinned.Decoder.{section_count}
use Rattle.refusals.proofs.Numbers.{number-above}
use Rattle.model_sections.proofs.check_head.Goals as goal

pub returns-then-rest_of_file-lt-COUNT_SIZE : goal.returns-then-rest_of_file-lt-COUNT_SIZE
unfolding section_count
returns-then-rest_of_file-lt-COUNT_SIZE c = rw (lt-ltb _ _ c.if-rest_of_file-lt-COUNT_SIZE.true)

pub returns-in_err-judged : goal.returns-in_err-judged
unfolding section_count
returns-in_err-judged c =
    let p = err_from_is_err_and c.from_residual.result c.from_residual.ensures.1 in
    rw (p.1, p.2, c.in_err-judged.was, le-ltb _ _ c.if-rest_of_file-lt-COUNT_SIZE.false, lt-ltb _ _ (number-above c.in_err-judged.field-0.0)) refl

pub returns-then-rest_of_file-end : goal.returns-then-rest_of_file-end
unfolding section_count
returns-then-rest_of_file-end c =
    rw (c.in_ok-judged.was, le-ltb _ _ c.if-rest_of_file-lt-COUNT_SIZE.false, ← c.u16_at.ensures, ← c.length_of-end.ensures.0, lt-ltb _ _ c.if-rest_of_file-end.true)

pub returns : goal.returns
unfolding section_count
returns c =
    rw (c.in_ok-judged.was, le-ltb _ _ c.if-rest_of_file-lt-COUNT_SIZE.false, ← c.u16_at.ensures, ← c.length_of-end.ensures.0, le-ltb _ _ c.if-rest_of_file-end.false)
