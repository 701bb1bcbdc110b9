-- What `collect_bag` leaves at the front of the buffer is the bag, as much as has room; the transition is the definition's with it.
use native.Mathlib.Omega.{arith}
use Rattle.step_simulator.proofs.Laws.{into-held, keys-unreached}
use Rattle.definition.specs.Limits.{max_components}
use Rattle.model_records.specs.Values.{phases_in, rules_in}
use Rattle.spec_step.specs.Tables.{numbers_at}
use Rattle.spec_step.specs.TableStep.{is_up}
use Rattle.spec_step.specs.Flags.{marks_in}
use Rattle.step_collect.specs.Collected.{keys_for}
use lib.Seq.{length-take-le}
use mathlib.Core.Path.{◌≡◌, ◌∙◌, sym}
use Prim.Native.Nat.{◌+◌, ◌<◌}
use lib.Dec.{eqb}
use lib.ListN.{length, take, get_or, length-take}
use Rattle.law_base.proofs.Tests.{and_left, and_right}
use Rattle.law_stores.proofs.Fronts.{Front}
use Rattle.run_state.specs.Held.{held_in, last_rules_in, ends_in}
use Rattle.step_transition.proofs.Laws.{still-state, still-rules, end_kept}
use Rattle.step_simulator.proofs.change_one.Goals as goal
use Rattle.step_simulator.proofs.change_one.Goals.{After-collect_bag-k, After-row_in-c}

-- The number of the component is a number.
numbered : (k : After-row_in-c) → k.row_in-c.result < max_components
numbered k = let q = k.requires in
    rw k.row_in-c.ensures (q.in_range.numbers k.args.i q.position)

-- The bag stands at the front of the buffer.
abbrev Pulled : (k : After-collect_bag-k) → Type 0
Pulled k = let a = k.args in
    Front (length a.work.now) (k.collect_bag-k.new.buf, k.collect_bag-k.result)
    (keys_for a.phases.now a.tables.now a.flags.now a.given.now k.row_in-c.result)

pulled : (k : After-collect_bag-k) → Pulled k
pulled k = let a = k.args in
    into-held a.phases.now a.tables.now a.flags.now a.given.now k.row_in-c.result a.work.now _ k.collect_bag-k.result k.collect_bag-k.ensures

pub returns-then-is_still : goal.returns-then-is_still
unfolding is_up
returns-then-is_still c =
    let a = c.args in
    let t = a.tables.now in
    let flags = a.flags.now in
    let n = get_or t (numbers_at + a.i) 0 in
    let mark = eqb (get_or (marks_in flags) n 0) 0 in
    let h = rw c.row_in-c.ensures at (sym c.is_still.ensures ∙ c.if-is_still.true) in
    let keys = keys_for a.phases.now t flags a.given.now n in
    let unreached = keys-unreached a.phases.now t flags a.given.now n (and_right mark _ h) in
    let none : length (take (length a.work.now) keys) ≡ 0 = omega (arith, length-take (length a.work.now) keys, unreached) in
    let still = still-state (phases_in a.phases.now) t (rules_in a.rules.now) a.at.0 (held_in a.state.now) a.i n (take (length a.work.now) keys) none in
    let no_rule_held = still-rules (phases_in a.phases.now) t (rules_in a.rules.now) a.at.0 (held_in a.state.now) a.i n _ (last_rules_in a.state.now) (take (length a.work.now) keys) none in
    record {
      state = rw (and_left mark _ h) still;
      rules = no_rule_held;
      ends = end_kept (ends_in a.state.now) a.i _ c.requires.carried;
    }

pub slice_bounds-bag-end : goal.slice_bounds-bag-end
slice_bounds-bag-end c =
    let f = pulled (goal.at.slice_bounds-bag-end c).After-collect_bag-k in
    omega (arith, f.position, f.size)

pub slice_bounds-bag-end-2 : goal.slice_bounds-bag-end-2
slice_bounds-bag-end-2 c =
    let f = pulled (goal.at.slice_bounds-bag-end-2 c).After-collect_bag-k in
    sym (length-take-le c.collect_bag-k.result _ (omega (arith, f.position, f.size)))

pub transition-requires : goal.transition-requires
transition-requires c =
    let q = c.requires in
    let f = pulled (goal.at.transition-requires c).After-collect_bag-k in
    record { position = q.position; component = numbered (goal.at.transition-requires c).After-row_in-c; own = c.row_in-c.ensures; carried = q.carried; few = rw length-take (omega (arith, f.size, q.lent)) }

pub returns : goal.returns
unfolding is_up
returns c =
    let f = pulled (goal.at.returns c).After-collect_bag-k in
    let changed = c.transition.ensures in
    record {
      state = rw (c.mark_at-due.ensures, f.held, c.row_in-c.ensures) at changed.state;
      rules = rw (c.mark_at-due.ensures, f.held, c.row_in-c.ensures) at changed.rules;
      ends = changed.ends;
    }
