-- The entries put so far stand at the front of the table; one more each turn.
use native.Mathlib.Omega.{arith}
use mathlib.Core.Path.{◌≡◌, ◌∙◌, ap}
use Rattle.run_state.proofs.Laws.{rules_size}
use Rattle.call_rules.proofs.Entries.{put, put-none, put-more, put_all}
use Rattle.call_rules.proofs.put_entries.Goals as goal

pub loop-i-init : goal.loop-i-init
loop-i-init c = put-none c.args.state.now c.args.table.now

pub put_number-requires : goal.put_number-requires
put_number-requires c = omega (arith, c.loop-i.auto.table, c.loop-i-test.true, c.requires.1)

pub loop-i-preserved : goal.loop-i-preserved
loop-i-preserved c =
    let a = c.args in
    let l = c.loop-i in
    let w = a.state.now in
    rw (c.rule_at-rule.ensures, l.invariant) at c.put_number.ensures
    ∙ put-more w a.table.now l.i (omega (arith, rules_size w c.whole.ensures, c.requires.0))

pub returns : goal.returns
returns c =
    let a = c.args in
    let l = c.loop-i in
    let e : l.i ≡ a.n = omega arith in
    let w = a.state.now in
    l.invariant ∙ ap (put w a.table.now) e ∙ put_all w a.table.now a.n (omega (arith, rules_size w c.whole.ensures, c.requires.0)) c.requires.1
