-- The messages that are left, put onto the buffer as it is, give what all of them give on the buffer as lent (`put-more`).
use Rattle.std.proofs.Common.{sym, ◌∙◌, length}
use Rattle.columns_records.proofs.Laws.{within_more, put-more, put-end}
use Rattle.columns_records.proofs.put_messages.Goals as goal

pub loop-preserved : goal.loop-preserved
loop-preserved c =
    let a = c.args in let l = c.loop in
    record {
      read = (within_more (length a.s.now) a.apart l.p l.v a.count l.counter c.loop-test.true l.invariant.read).2;
      put = (within_more (length a.out.now) a.to_apart l.q l.w a.count l.counter c.loop-test.true l.invariant.put).2;
      same = rw c.put_message.ensures (put-more a.apart a.to_apart l.p l.v l.q l.w a.count l.counter a.s.now l.out c.loop-test.true ∙ l.invariant.same);
    }

pub returns : goal.returns
returns c =
    let a = c.args in let l = c.loop in
    sym (put-end a.apart a.to_apart l.p l.v l.q l.w a.count l.counter a.s.now l.out c.loop-test.false) ∙ l.invariant.same
