-- A byte is stored at the position where there is room there, and nothing is done where there is none: `put1` in both cases.
use Rattle.run_text.specs.Put.{put1}
use borrow.Author.Tests.{lt-ltb, le-ltb}
use lib.Seq.{set_out}
use Rattle.run_text.proofs.put_byte.Goals as goal

pub returns-then-at-out : goal.returns-then-at-out
unfolding put1
returns-then-at-out c = simp (lt-ltb _ _ c.if-at-out.true)

pub returns-else-at-out : goal.returns-else-at-out
unfolding put1
returns-else-at-out c = let a = c.args in simp (le-ltb _ _ c.if-at-out.false, set_out a.out.now a.at a.b c.if-at-out.false)
