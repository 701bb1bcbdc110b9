-- `model_further::ends_differ` meets its contract. Invariant: the rules before i have ends that differ; one that has not refutes it of all.
-- Assumes nothing.
use borrow.Author.Tests.{lt-ltb, le-ltb}
use mathlib.Core.Path.{◌≡◌, sym}
use mathlib.Core.Bool.{false}
use native.Mathlib.Omega.{arith}
use lib.Dec.{ltb}
use lib.ListN.{get_or}
use Rattle.std.proofs.Common.{below_more}
use Rattle.definition.specs.Lists.{all}
use Rattle.definition.specs.Model.{half_open, no_rule}
use Rattle.definition.specs.Pinned.Decoder.{elapsed_fits}
use Rattle.law_base.proofs.Tests.{clash, refuted}
use Rattle.law_base.proofs.Lists.{all-at, all-places}
use Rattle.model_records.specs.Values.{rules_in}
use Rattle.model_further.proofs.ends_differ.Goals as goal

pub returns-then-rule : goal.returns-then-rule
unfolding elapsed_fits
returns-then-rule c =
    let rs = rules_in c.args.rules.now in
    let i = c.loop-i.i in
    let here : ltb (get_or rs i no_rule).low_elapsed (get_or rs i no_rule).high_elapsed ≡ false = rw (← c.rule_in-rule.ensures) (le-ltb _ _ c.if-rule.true) in
    sym (refuted (all (elapsed_fits half_open) rs) (λ e. clash (all-at (elapsed_fits half_open) rs i no_rule e (omega arith)) here))

pub loop-i-preserved : goal.loop-i-preserved
unfolding elapsed_fits
loop-i-preserved c = below_more _ _ c.loop-i.invariant (rw (← c.rule_in-rule.ensures) (lt-ltb _ _ c.if-rule.false))

pub returns : goal.returns
returns c = sym (all-places (elapsed_fits half_open) no_rule (rules_in c.args.rules.now) (λ j l. c.loop-i.invariant j (omega (arith, c.loop-i-test.false))))
