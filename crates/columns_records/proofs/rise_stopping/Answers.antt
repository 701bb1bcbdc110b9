-- The messages that are left rise from the last key on exactly where all of them rise (`rise-more`).
use Rattle.std.proofs.Common.{◌≡◌, sym, ap₂, ◌∙◌, length}
use Rattle.law_base.specs.Keys.{key_of}
use Rattle.law_bytes.proofs.Rows.{number-one}
use Rattle.columns_records.proofs.Laws.{key_here, within_more, rise-more, rise-port, rise-fall, rise-end}
use Rattle.columns_records.proofs.rise_stopping.Goals as goal
use Rattle.columns_records.proofs.rise_stopping.Goals.{After-key_of-key}

key-is : (c : After-key_of-key) → c.key_of-key.result ≡ key_here c.loop.p c.loop.v c.args.s.now
key-is c = c.key_of-key.ensures ∙ ap₂ key_of (sym (number-one c.loop.p c.args.s.now)) c.u16_within.ensures

pub returns-then-port-ge-PORT_COUNT : goal.returns-then-port-ge-PORT_COUNT
returns-then-port-ge-PORT_COUNT c =
    let a = c.args in let l = c.loop in let s = a.s.now in
    let high = rw (← number-one l.p s) at c.if-port-ge-PORT_COUNT.true in
    sym (sym l.invariant.same ∙ rise-port a.apart l.p l.v a.count l.counter l.low s c.loop-test.true high)

pub returns-then-key-low : goal.returns-then-key-low
returns-then-key-low c =
    let a = c.args in let l = c.loop in
    let key = key-is (goal.at.returns-then-key-low c).After-key_of-key in
    sym (sym l.invariant.same ∙ rise-fall a.apart l.p l.v a.count l.counter l.low a.s.now c.loop-test.true (rw key at c.if-key-low.true))

pub loop-preserved : goal.loop-preserved
loop-preserved c =
    let a = c.args in let l = c.loop in let s = a.s.now in
    let key = key-is (goal.at.loop-preserved c).After-key_of-key in
    let port = rw (← number-one l.p s) at c.if-port-ge-PORT_COUNT.false in
    record {
      within = (within_more (length s) a.apart l.p l.v a.count l.counter c.loop-test.true l.invariant.within).2;
      same = rw key (rise-more a.apart l.p l.v a.count l.counter l.low s c.loop-test.true port (rw key at c.if-key-low.false) ∙ l.invariant.same);
    }

pub returns : goal.returns
returns c =
    let a = c.args in let l = c.loop in
    sym (sym l.invariant.same ∙ rise-end a.apart l.p l.v a.count l.counter l.low a.s.now c.loop-test.false)
