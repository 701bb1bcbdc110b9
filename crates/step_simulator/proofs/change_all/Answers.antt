-- The atomics so far and those that are left are all; one atomic more is one call more. The due moments are those of the state at every turn.
use native.Mathlib.Omega.{arith}
use Rattle.step_simulator.proofs.Laws.{changed-more, changed-none, parts_more, parts_none, carried-changed}
use Rattle.definition.specs.Engine.{to_bag}
use Rattle.run_state.specs.Held.{held_in, last_rules_in, ends_in}
use Rattle.run_state.proofs.Laws.{ends-size}
use Rattle.spec_step.specs.Flags.{marks_in, reached_in}
use Rattle.model_records.specs.Values.{phases_in, rules_in}
use lib.ListN.{length, length-set}
use mathlib.Core.Path.{◌∙◌, refl}
use native.Mathlib.Nat.{sub-zero}
use Prim.Native.Nat.{◌<◌}
use Rattle.step_simulator.proofs.change_all.Goals as goal

pub loop-i-init : goal.loop-i-init
loop-i-init c = (refl, ends-size _ c.whole.ensures, c.requires.carried, rw sub-zero, rw sub-zero)

pub loop-i-preserved : goal.loop-i-preserved
loop-i-preserved c =
    let a = c.args in
    let l = c.loop-i in
    let m = c.change_one in
    let one = m.ensures in
    let ps = phases_in a.phases.now in
    let t = a.tables.now in
    let rs = rules_in a.rules.now in
    let st = held_in l.state in
    let more = changed-more ps t rs (marks_in a.flags.now) (reached_in a.flags.now) (length a.work.now) a.at.0 (to_bag a.given.now) a.n l.i st (omega arith) in
    let parts = parts_more ps t rs (marks_in a.flags.now) (reached_in a.flags.now) (length a.work.now) a.at.0 (to_bag a.given.now) a.n l.i st (last_rules_in l.state) (omega arith) in
    let within : l.i < length (ends_in l.state) = omega (arith, l.invariant.1, c.requires.few, c.loop-i-test.true) in
    let carried = carried-changed ps t rs a.at.0 a.n st _ (ends_in l.state) l.i _ _ _ within one.state l.invariant.2 in
    let same = m.auto.work ∙ l.invariant.0 in (
      same,
      rw one.ends (simp length-set l.invariant.1),
      rw one.ends carried,
      rw (one.state, l.invariant.0) more ∙ l.invariant.3,
      rw (one.rules, one.state, l.invariant.0) parts ∙ l.invariant.4,
    )

pub returns : goal.returns
returns c =
    let a = c.args in
    let l = c.loop-i in
    let ps = phases_in a.phases.now in
    let rs = rules_in a.rules.now in
    let none = changed-none ps a.tables.now rs (marks_in a.flags.now) (reached_in a.flags.now) (length a.work.now) a.at.0 (to_bag a.given.now) in
    let no-parts = parts_none ps a.tables.now rs (marks_in a.flags.now) (reached_in a.flags.now) (length a.work.now) a.at.0 (to_bag a.given.now) in
    record {
      state = none a.n l.i (held_in l.state) (omega arith) ∙ l.invariant.3;
      rules = no-parts a.n l.i (held_in l.state) (last_rules_in l.state) (omega arith) ∙ l.invariant.4;
      carried = l.invariant.2;
    }
