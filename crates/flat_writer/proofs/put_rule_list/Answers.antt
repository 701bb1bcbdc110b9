-- The rules before i stand (`one_more`); at the end all do (`all-stand`).
use native.Mathlib.Omega.{arith}
use Rattle.flat_writer.proofs.Pieces.{one_more, all-stand}
use Rattle.flat_writer.proofs.Sections.{rule-at, rule-row, length-renumbered}
use Rattle.flat_writer.specs.Written.{rule_by}
use Rattle.law_model.proofs.Writing.{rule-size}
use Rattle.model_records.specs.Values.{rules_in}
use Rattle.definition.specs.Model.{no_rule}
use Rattle.definition.specs.Records.{rule_bytes}
use mathlib.Core.List.{map}
use Rattle.flat_writer.proofs.put_rule_list.Goals as goal

pub put_rule-requires : goal.put_rule-requires
put_rule-requires c =
    let l = c.loop-i in
    let sized = rule-row c.args.rules.now l.i (omega (arith, c.requires.0)) in
    (rw (c.front-rule.ensures, c.rest.ensures) sized, omega (arith, c.requires.1, l.auto.out))

pub loop-i-preserved : goal.loop-i-preserved
loop-i-preserved c =
    let a = c.args in
    let l = c.loop-i in
    let s = a.rules.now in
    let t = a.tables.now in
    let here = rule-at s t l.i (omega (arith, c.requires.0)) in
    let e = rw (c.front-rule.ensures, c.rest.ensures, ← here) at c.put_rule.ensures in
    let more = one_more 18 rule_bytes rule-size (map (rule_by t) (rules_in s)) a.at a.out.now l.i l.out _ (rule_by t no_rule)
    (omega (arith, length-renumbered s t, c.requires.0)) e c.put_rule.auto.out in
    more l.invariant

pub returns : goal.returns
returns c =
    let a = c.args in
    let l = c.loop-i in
    let s = a.rules.now in
    let t = a.tables.now in
    all-stand 18 rule_bytes rule-size (map (rule_by t) (rules_in s)) a.at a.out.now l.i l.out (omega (arith, length-renumbered s t, c.requires.0)) l.invariant
