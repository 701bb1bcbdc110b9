use Rattle.run_text.specs.Text.{lines, trace_lines}
use Rattle.run_text.specs.Put.{put}
use lib.ListN.{length, drop}
use mathlib.Core.Path.{◌≡◌}
use Prim.Native.Nat.{◌-◌}
use Rattle.run_text.proofs.put_trace.Given as goal

abbrev pub invariant-loop : goal.invariant-loop
invariant-loop l = (length l.out ≡ length l.initial.out) × (put (lines (length l.trace - l.counter) (drop l.from l.trace)) (l.out, l.to) ≡ put (trace_lines l.trace) (l.initial.out, l.at))
