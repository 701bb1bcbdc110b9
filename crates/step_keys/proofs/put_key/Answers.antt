-- The store and the position that moves on are `put1`; a full buffer stays.
use lib.Seq.{set_out}
use borrow.Author.Tests.{lt-ltb, le-ltb}
use Rattle.spec_step.specs.Put.{put1}
use Rattle.step_keys.proofs.put_key.Goals as goal

pub returns-then-at-buf : goal.returns-then-at-buf
unfolding put1
returns-then-at-buf c = simp (lt-ltb _ _ c.if-at-buf.true)

pub returns-else-at-buf : goal.returns-else-at-buf
unfolding put1
returns-else-at-buf c = let a = c.args in simp (le-ltb _ _ c.if-at-buf.false, set_out a.buf.now a.at a.key c.if-at-buf.false)
