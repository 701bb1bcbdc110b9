-- The messages that are left rise from the last key on, and those before did, exactly where all of them rise (`judged-more`).
use Rattle.std.proofs.Common.{sym, ap₂, ◌∙◌, length}
use Rattle.law_base.specs.Keys.{key_of}
use Rattle.law_bytes.proofs.Rows.{number-one}
use Rattle.columns_records.proofs.Laws.{within_more, judged-more, judged-end}
use Rattle.columns_records.proofs.rise_unbroken.Goals as goal

pub loop-preserved : goal.loop-preserved
loop-preserved c =
    let a = c.args in let l = c.loop in let s = a.s.now in
    let key = c.key_of-key.ensures ∙ ap₂ key_of (sym (number-one l.p s)) c.u16_within.ensures in
    record {
      within = (within_more (length s) a.apart l.p l.v a.count l.counter c.loop-test.true l.invariant.within).2;
      same = rw (key, ← number-one l.p s) (judged-more a.apart l.p l.v a.count l.counter l.low s c.loop-test.true l.rise ∙ l.invariant.same);
    }

pub returns : goal.returns
returns c =
    let a = c.args in let l = c.loop in
    sym (judged-end a.apart l.p l.v a.count l.counter l.low a.s.now c.loop-test.false l.rise) ∙ l.invariant.same
