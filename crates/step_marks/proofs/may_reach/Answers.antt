-- Some port of those that are left, since none was found before.
use Rattle.spec_step.specs.Ranges.{max_nodes}
use native.Mathlib.Omega.{arith}
use Prim.Native.Nat.{◌<◌}
use mathlib.Core.Path.{◌≡◌, ◌∙◌, sym}
use Rattle.spec_step.specs.Flags.{marks_in, reached_in}
use Rattle.step_marks.specs.Filled.{any_source}
use Rattle.law_routes.specs.Nodes.{input_node}
use Rattle.step_marks.proofs.Laws.{reach_here, reach-later, reach-none}
use Rattle.step_marks.proofs.may_reach.Goals as goal

pub any_source-requires : goal.any_source-requires
any_source-requires c =
    let l = c.loop-q in
    let node : input_node c.args.c l.q < max_nodes = unfold input_node in omega arith in
    record { below = rw c.input_node.ensures node; in_range = c.requires.in_range }

pub returns-then-any_source : goal.returns-then-any_source
returns-then-any_source c =
    let a = c.args in
    let l = c.loop-q in
    let e : any_source a.tables.now a.flags.now (input_node a.c l.q) ≡ c.any_source.result =
    sym (rw c.input_node.ensures at c.any_source.ensures) in
    reach_here a.tables.now (marks_in a.flags.now) (reached_in a.flags.now) a.c 4 l.q (omega arith) (e ∙ c.if-any_source.true) ∙ l.invariant

pub loop-q-preserved : goal.loop-q-preserved
loop-q-preserved c =
    let a = c.args in
    let l = c.loop-q in
    let e : any_source a.tables.now a.flags.now (input_node a.c l.q) ≡ c.any_source.result =
    sym (rw c.input_node.ensures at c.any_source.ensures) in
    reach-later a.tables.now (marks_in a.flags.now) (reached_in a.flags.now) a.c 4 l.q (omega arith) (e ∙ c.if-any_source.false) ∙ l.invariant

pub returns : goal.returns
returns c =
    let a = c.args in
    let l = c.loop-q in
    reach-none a.tables.now (marks_in a.flags.now) (reached_in a.flags.now) a.c 4 l.q (omega arith) ∙ l.invariant
