-- Stores the messages of the keys in turn: what is stored from message i on, put onto the buffer as it is, gives what all of them give
-- on the buffer as lent (`key_more`); at the end nothing is left to store (`key-none`).
use native.Mathlib.Omega.{arith}
use mathlib.Core.Path.{◌≡◌, ◌∙◌}
use Rattle.instant_records.proofs.Records.{key_more, key-none}
use Rattle.instant_records.proofs.put_messages.Goals as goal

pub loop-i-preserved : goal.loop-i-preserved
loop-i-preserved c =
    let a = c.args in
    let l = c.loop-i in
    rw (c.put_number-in-loop-i.ensures, c.put_number.ensures)
    (key_more a.keys.now a.count l.i a.at l.out c.loop-i-test.true c.requires.0 ∙ l.invariant)

pub returns : goal.returns
returns c =
    let l = c.loop-i in
    let z : l.i ≡ c.args.count = omega arith in
    rw (z, key-none) at l.invariant
