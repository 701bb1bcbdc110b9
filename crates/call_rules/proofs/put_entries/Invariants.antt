use mathlib.Core.Path.{◌≡◌}
use Rattle.call_rules.proofs.Entries.{put}
use Rattle.call_rules.proofs.put_entries.Given as goal

-- the entries put so far stand at the front of the table
abbrev pub invariant-loop-i : goal.invariant-loop-i
invariant-loop-i l = l.table ≡ put l.state l.initial.table l.i
