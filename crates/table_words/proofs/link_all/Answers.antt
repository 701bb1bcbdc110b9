-- One turn takes the last link that is left (linked-more); at the end none is left. Assumes nothing.
use native.Mathlib.Omega.{arith}
use lib.ListN.{get_or}
use mathlib.Core.Path.{◌≡◌, sym, ap, ◌∙◌}
use Prim.Native.Nat.{◌+◌, ◌-◌}
use Rattle.table_words.proofs.Loops.{linked-more, linked-end}
use Rattle.table_words.specs.Writes.{linked, link_at}
use Rattle.table_words.proofs.link_all.Goals as goal

pub loop-i-preserved : goal.loop-i-preserved
loop-i-preserved c =
    let a = c.args in
    let l = c.loop-i in
    let s : c.link.new.t ≡ link_at a.first a.size a.next (get_or a.keys.now (l.i - 1 + 1) 0) (l.i - 1 + 1) l.t = rw c.word_at-k.ensures at c.link.ensures in
    ap (linked a.first a.size a.next (λ j. get_or a.keys.now j 0) (l.i - 1)) s ∙ linked-more a.first a.size a.next (λ j. get_or a.keys.now j 0) l.i l.t c.loop-i-test.true ∙ l.invariant

pub returns : goal.returns
returns c =
    let a = c.args in
    let l = c.loop-i in
    sym (linked-end a.first a.size a.next (λ j. get_or a.keys.now j 0) l.i l.t (omega arith)) ∙ l.invariant
