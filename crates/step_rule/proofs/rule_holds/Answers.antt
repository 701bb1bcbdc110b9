-- The definition's conditions in their order: where those before the count fail the rule does not hold, else the count decides.
use Rattle.std.proofs.Common.{◌≡◌, ◌<◌, ◌&&◌, eqb, sym, arith}
use Rattle.definition.specs.Atomic.{holds}
use Rattle.step_rule.proofs.Heads.{same-heads}
use Rattle.step_rule.proofs.rule_holds.Goals as goal
use Rattle.step_rule.proofs.rule_holds.Goals.{After-within_elapsed}

-- the test of the heads is that of component and phase
named : (c : After-within_elapsed) → eqb c.head_of-own.result c.head_of.result ≡ (eqb c.args.rule.component c.args.component && eqb c.args.rule.phase c.args.phase)
named c = let a = c.args in
    let u : a.rule.component < 256 = omega arith in
    let v : a.rule.phase < 256 = omega arith in
    rw (c.head_of-own.ensures, c.head_of.ensures) (same-heads a.rule.component a.rule.phase a.component a.phase u v)

pub returns-then-own-head_of : goal.returns-then-own-head_of
unfolding holds
returns-then-own-head_of c = rw (c.count_meeting.ensures, sym c.within_elapsed.ensures, sym (named (goal.at.returns-then-own-head_of c).After-within_elapsed), c.if-own-head_of.true)

pub returns-else-own-head_of : goal.returns-else-own-head_of
unfolding holds
returns-else-own-head_of c = rw (sym c.within_elapsed.ensures, sym (named (goal.at.returns-else-own-head_of c).After-within_elapsed), c.if-own-head_of.false)
