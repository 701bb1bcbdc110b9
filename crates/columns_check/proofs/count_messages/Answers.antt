-- What is added so far and the counts that are left are all of them (`counts-more`).
use Rattle.std.proofs.Common.{arith}
use Rattle.columns_forms.proofs.Turns.{counts-more, counts-none}
use Rattle.columns_check.proofs.count_messages.Goals as goal

pub loop-preserved : goal.loop-preserved
loop-preserved c =
    let l = c.loop in
    record {
      within = omega (arith, l.invariant.within);
      bounded = omega (arith, l.invariant.bounded);
      same = omega (arith, l.invariant.same, counts-more c.args.n l.counter l.at c.args.s.now c.loop-test.true, c.u16_within.ensures);
    }

pub returns : goal.returns
returns c =
    let l = c.loop in
    (omega (arith, l.invariant.same, counts-none c.args.n l.counter l.at c.args.s.now c.loop-test.false), omega (arith, l.invariant.bounded))
