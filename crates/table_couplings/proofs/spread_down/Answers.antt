-- One turn spreads along one link more (down-more), and moves no beginning of a link (spread-within). Assumes nothing.
use native.Mathlib.Omega.{arith}
use Prim.Native.Nat.{ℕ, ◌-◌, ◌+◌, ◌*◌}
use mathlib.Core.Path.{◌≡◌, sym, ap, subst, ◌∙◌}
use lib.ListN.{get_or}
use Rattle.definition.specs.Limits.{max_components}
use Rattle.spec_step.specs.Tables.{port_nodes, live_at, source_at}
use Rattle.table_words.proofs.Columns.{Within, within_none, within_both}
use Rattle.table_couplings.specs.Links.{source_in, spread, spread_down}
use Rattle.table_couplings.proofs.Order.{spread-within}
use Rattle.table_couplings.proofs.Loops.{down-more, down-end}
use Rattle.table_couplings.proofs.spread_down.Goals as goal

pub loop-j-init : goal.loop-j-init
loop-j-init c =
    let z : c.args.n + 1 - 1 ≡ c.args.n = omega arith in
    (within_none live_at (live_at + port_nodes * max_components) _, rw z)

pub spread_link-requires : goal.spread_link-requires
spread_link-requires c =
    let l = c.loop-j in
    let w = c.requires.1 l.j (omega arith) (omega arith) in
    (omega arith, rw (l.invariant.0.above (source_at + l.j) (omega arith)) w.0, w.1)

pub loop-j-preserved : goal.loop-j-preserved
loop-j-preserved c =
    let a = c.args in
    let l = c.loop-j in
    let src = source_in a.t.now in
    let tgt : ℕ → ℕ = λ j. get_or a.targets.now j 0 in
    let s = c.spread_link.ensures ∙ ap (λ x. spread x (tgt l.j) l.t) (l.invariant.0.above (source_at + l.j) (omega arith)) in
    let z : a.n + 1 - (l.j + 1) ≡ a.n - l.j = omega arith in
    (subst (λ u. Within live_at (live_at + port_nodes * max_components) a.t.now u) (sym s) (within_both (omega arith) (omega arith) (omega arith) (omega arith) l.invariant.0 (spread-within (src l.j) (tgt l.j) l.t)), rw z (ap (spread_down src tgt (a.n - l.j) (l.j + 1)) s ∙ down-more src tgt a.n l.j l.t c.loop-j-test.true ∙ l.invariant.1))

pub returns : goal.returns
returns c =
    let a = c.args in
    let l = c.loop-j in
    sym (down-end (source_in a.t.now) (λ j. get_or a.targets.now j 0) a.n l.j l.t (omega arith)) ∙ l.invariant.1
