-- `model_checks::kind_fields` meets its contract. The definition's own tests of either kind. Assumes nothing.
use mathlib.Core.Bool.{or-false}
use borrow.Author.Tests.{ne_eqb}
use Rattle.definition.specs.Pinned.Decoder.{kind_fields, coupled_fields, atomic_fields}
use Rattle.model_checks.proofs.kind_fields.Goals as goal

pub returns-then-component-eq0 : goal.returns-then-component-eq0
unfolding kind_fields coupled_fields atomic_fields
returns-then-component-eq0 c = rw c.if-component-eq0.true (simp or-false)

pub returns : goal.returns
unfolding kind_fields coupled_fields atomic_fields
returns c = rw (ne_eqb _ _ c.if-component-eq0.false)
