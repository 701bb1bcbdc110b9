-- The flags from i on, stored behind those that stand, are all of them (`flags-more`), and fill the buffer (`flags-all`).
use Rattle.flat_probe.proofs.Stored.{flags-more, flags-none, flags-all}
use mathlib.Core.Path.{sym, ◌∙◌}
use Rattle.flat_probe.proofs.put_flags.Goals as goal

pub loop-i-preserved : goal.loop-i-preserved
loop-i-preserved c =
    let l = c.loop-i in
    rw c.next_number.ensures (flags-more l.i l.flags c.loop-i-test.true ∙ l.invariant)

pub returns : goal.returns
returns c =
    let l = c.loop-i in
    sym (flags-none l.i l.flags c.loop-i-test.false) ∙ l.invariant ∙ flags-all c.args.flags.now c.requires
