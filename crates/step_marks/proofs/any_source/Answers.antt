-- Some source of the chain that is left, since none was found before.
use Rattle.definition.specs.Limits.{max_couplings}
use Prim.Native.Nat.{◌-◌, ◌+◌}
use mathlib.Core.Path.{◌≡◌, ◌∙◌, sym}
use lib.ListN.{get_or}
use Rattle.spec_step.specs.Tables.{source_at}
use Rattle.step_collect.specs.Collected.{comes_from}
use Rattle.step_collect.proofs.Laws.{rows-first}
use Rattle.step_marks.proofs.Laws.{any_here, any-later, any_none, any-end}
use Rattle.step_marks.proofs.any_source.Goals as goal

pub loop-init : goal.loop-init
loop-init c =
    let q = c.requires in
    (rw c.first_link-link.ensures (q.in_range.firsts c.args.target q.below), rw (c.first_link-link.ensures, rows-first))

pub returns-then-may_come : goal.returns-then-may_come
returns-then-may_come c =
    let a = c.args in
    let l = c.loop in
    let e : comes_from a.flags.now (get_or a.tables.now (source_at + l.link) 0) ≡ c.may_come.result =
    sym (rw c.source_of.ensures at c.may_come.ensures) in
    any_here (comes_from a.flags.now) a.tables.now max_couplings l.counter l.link c.loop-test.true c.if-link-eq0.false (e ∙ c.if-may_come.true) ∙ l.invariant.1

pub loop-preserved : goal.loop-preserved
loop-preserved c =
    let a = c.args in
    let l = c.loop in
    let e : comes_from a.flags.now (get_or a.tables.now (source_at + l.link) 0) ≡ c.may_come.result =
    sym (rw c.source_of.ensures at c.may_come.ensures) in
    let later = any-later (comes_from a.flags.now) a.tables.now max_couplings l.counter l.link c.loop-test.true c.if-link-eq0.false (e ∙ c.if-may_come.false) in
    (rw c.next_link-link.ensures (c.requires.in_range.nexts l.link l.invariant.0), rw c.next_link-link.ensures later ∙ l.invariant.1)

pub returns-then-link-eq0 : goal.returns-then-link-eq0
returns-then-link-eq0 c =
    let a = c.args in
    let l = c.loop in
    any_none (comes_from a.flags.now) a.tables.now (max_couplings - l.counter) l.link c.if-link-eq0.true ∙ l.invariant.1

pub returns : goal.returns
returns c =
    let a = c.args in
    let l = c.loop in
    any-end (comes_from a.flags.now) a.tables.now max_couplings l.counter l.link c.loop-test.false ∙ l.invariant.1
