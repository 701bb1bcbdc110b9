use Rattle.run_text.specs.Text.{message_lines}
use Rattle.run_text.specs.Put.{put}
use Rattle.definition.specs.Limits.{message_size}
use lib.ListN.{length, drop}
use mathlib.Core.Path.{◌≡◌}
use Prim.Native.Nat.{◌-◌, ◌*◌}
use Rattle.run_text.proofs.put_messages.Given as goal

abbrev pub invariant-loop-k : goal.invariant-loop-k
invariant-loop-k l = (length l.out ≡ length l.initial.out) × (put (message_lines (l.count - l.k) l.moment l.step (drop (message_size * l.k) l.rows)) (l.out, l.to) ≡ put (message_lines l.count l.moment l.step l.rows) (l.initial.out, l.at))
