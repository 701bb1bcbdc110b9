-- One turn spreads along the last link that is left (up_more), and moves no beginning of a link (spread-within). Assumes nothing.
use native.Mathlib.Omega.{arith}
use Prim.Native.Nat.{ℕ, ◌-◌, ◌+◌, ◌*◌}
use mathlib.Core.Path.{◌≡◌, sym, ap, subst, ◌∙◌}
use lib.ListN.{get_or}
use Rattle.definition.specs.Limits.{max_components}
use Rattle.spec_step.specs.Tables.{port_nodes, live_at, source_at}
use Rattle.table_words.proofs.Columns.{Within, within_none, within_both}
use Rattle.table_couplings.specs.Links.{source_in, spread, spread_up}
use Rattle.table_couplings.proofs.Order.{spread-within}
use Rattle.table_couplings.proofs.Loops.{up_more, up-end}
use Rattle.table_couplings.proofs.spread_up.Goals as goal

pub loop-j-init : goal.loop-j-init
loop-j-init c =
    let z : c.args.n + 1 - 1 ≡ c.args.n = omega arith in
    (within_none live_at (live_at + port_nodes * max_components) _, rw z)

pub spread_link-requires : goal.spread_link-requires
spread_link-requires c =
    let l = c.loop-j in
    let j = l.j - 1 in
    let w = c.requires.1 j (omega arith) (omega arith) in
    (omega arith, rw (l.invariant.0.above (source_at + j) (omega arith)) w.0, w.1)

pub loop-j-preserved : goal.loop-j-preserved
loop-j-preserved c =
    let a = c.args in
    let l = c.loop-j in
    let j = l.j - 1 in
    let src = source_in a.t.now in
    let tgt : ℕ → ℕ = λ j. get_or a.targets.now j 0 in
    let s = c.spread_link.ensures ∙ ap (λ x. spread x (tgt j) l.t) (l.invariant.0.above (source_at + j) (omega arith)) in
    (subst (λ u. Within live_at (live_at + port_nodes * max_components) a.t.now u) (sym s) (within_both (omega arith) (omega arith) (omega arith) (omega arith) l.invariant.0 (spread-within (src j) (tgt j) l.t)), ap (spread_up src tgt (j - 1)) s ∙ up_more src tgt j l.t (omega arith) ∙ l.invariant.1)

pub returns : goal.returns
returns c =
    let a = c.args in
    let l = c.loop-j in
    sym (up-end (source_in a.t.now) (λ j. get_or a.targets.now j 0) (l.j - 1) l.t (omega arith)) ∙ l.invariant.1
