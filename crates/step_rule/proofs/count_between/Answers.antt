-- The keys counted so far and those among the rest of the bag are all that lie between the two.
use Rattle.std.proofs.Common.{◌≡◌, ◌+◌, ◌-◌, ◌≤◌, cond, leb, length, get_or, drop, sym, ◌∙◌, arith, le-leb}
use borrow.Author.Tests.{lt-leb}
use Rattle.definition.specs.Lists.{count}
use Rattle.step_rule.specs.Search.{between}
use Rattle.step_rule.proofs.Laws.{count-more, count-end, none_between, between-above}
use Rattle.step_rule.proofs.count_between.Goals as goal
use Rattle.step_rule.proofs.count_between.Goals.{then-above-width, else-above-width}

pub returns-then-high-low : goal.returns-then-high-low
returns-then-high-low c = sym (none_between c.args.low c.args.high c.if-high-low.true c.args.bag.now)

pub loop-i-preserved : goal.loop-i-preserved
loop-i-preserved c =
    let a = c.args in
    let l = c.loop-i in
    let k = get_or a.bag.now l.i 0 in
    let r = c.wrapping_sub_u32-above.result in
    let same : leb r (a.high - a.low) ≡ between a.low a.high k = between-above a.low a.high k r (omega arith) (omega arith) (omega arith) c.wrapping_sub_u32-above.ensures.value in
    let e : c.if-above-width.n ≡ cond (between a.low a.high k) (l.n + 1) l.n =
    elim c.if-above-width.branch [
      | then-above-width w ↦ rw (sym same, le-leb r (a.high - a.low) w.if-above-width.true) w.n-is
      | else-above-width w ↦ rw (sym same, lt-leb r (a.high - a.low) w.if-above-width.false) w.n-is
    ] in
    let b : c.if-above-width.n ≤ l.i + 1 = elim c.if-above-width.branch [ then-above-width w ↦ omega arith | else-above-width w ↦ omega arith ] in
    (b, rw e (count-more (between a.low a.high) a.bag.now l.i l.n (omega arith)) ∙ l.invariant.1)

pub returns : goal.returns
returns c =
    let a = c.args in
    let l = c.loop-i in
    let z : l.i ≡ length a.bag.now = omega arith in
    let q : l.n + count (between a.low a.high) (drop (length a.bag.now) a.bag.now) ≡ count (between a.low a.high) a.bag.now = rw z at l.invariant.1 in
    omega (arith, q, count-end (between a.low a.high) a.bag.now)
