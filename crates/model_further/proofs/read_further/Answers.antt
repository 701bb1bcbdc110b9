-- `model_further::read_further` meets its contract. The definition's tests in its order, each answer that of the law for it. Assumes nothing.
use borrow.Author.Tests.{eqb-true, eqb-false}
use mathlib.Core.Path.{sym, ◌∙◌}
use Rattle.model_records.specs.Values.{rules_in}
use Rattle.model_further.proofs.Laws.{Present, nothing-follows, no-section, equal_ends, left_over, half_open_lem}
use Rattle.model_further.proofs.read_further.Goals as goal
use Rattle.model_further.proofs.read_further.Goals.{Else-not-ends_differ}

-- A fifth section that no test has refused.
present : (c : Else-not-ends_differ) → Present (rules_in c.args.rules.now) c.args.rest_of_file.now
present c = record { some = eqb-false _ _ (sym c.is_empty.ensures ∙ c.if-is_empty.false); fifth = sym c.is_fifth.ensures ∙ c.if-not-is_fifth.false; differ = sym c.ends_differ.ensures ∙ c.if-not-ends_differ.false }

pub returns-then-is_empty : goal.returns-then-is_empty
returns-then-is_empty c = nothing-follows (rules_in c.args.rules.now) c.args.rest_of_file.now (eqb-true _ _ (sym c.is_empty.ensures ∙ c.if-is_empty.true))

pub returns-then-not-is_fifth : goal.returns-then-not-is_fifth
returns-then-not-is_fifth c =
    no-section (rules_in c.args.rules.now) c.args.rest_of_file.now (eqb-false _ _ (sym c.is_empty.ensures ∙ c.if-is_empty.false)) (sym c.is_fifth.ensures ∙ c.if-not-is_fifth.true)

pub returns-then-not-ends_differ : goal.returns-then-not-ends_differ
returns-then-not-ends_differ c =
    equal_ends (rules_in c.args.rules.now) c.args.rest_of_file.now (eqb-false _ _ (sym c.is_empty.ensures ∙ c.if-is_empty.false)) (sym c.is_fifth.ensures ∙ c.if-not-is_fifth.false)
    (sym c.ends_differ.ensures ∙ c.if-not-ends_differ.true)

pub returns-then-rest_of_file-gt-FIFTH_SIZE : goal.returns-then-rest_of_file-gt-FIFTH_SIZE
returns-then-rest_of_file-gt-FIFTH_SIZE c = left_over _ _ (present (goal.at.returns-then-rest_of_file-gt-FIFTH_SIZE c).Else-not-ends_differ) c.if-rest_of_file-gt-FIFTH_SIZE.true

pub returns : goal.returns
returns c = half_open_lem _ _ (present (goal.at.returns c).Else-not-ends_differ) c.if-rest_of_file-gt-FIFTH_SIZE.false
