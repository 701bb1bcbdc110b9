use lib.ListN.{get_or}
use mathlib.Core.Path.{◌≡◌}
use Rattle.table_words.specs.Writes.{linked}
use Rattle.table_words.proofs.link_all.Given as goal

-- the links that are left, over the table as it stands, make the whole
abbrev pub invariant-loop-i : goal.invariant-loop-i
invariant-loop-i l = linked l.first l.size l.next (λ k. get_or l.keys k 0) l.i l.t ≡ linked l.first l.size l.next (λ k. get_or l.keys k 0) l.n l.initial.t
