-- One link more holds the node where it ends (held_more), and one row more of the column of beginnings is written (column-more). Assumes
-- nothing.
use native.Mathlib.Omega.{arith}
use Prim.Native.Nat.{ℕ, ◌-◌, ◌+◌}
use native.Mathlib.Nat.{sub-zero}
use mathlib.Core.Path.{◌≡◌, refl, sym, ap, ◌∙◌}
use lib.ListN.{length-set, set}
use Rattle.model_records.specs.Values.{components_in, couplings_in}
use Rattle.spec_step.specs.Tables.{source_at, source_number, target_number}
use Rattle.table_words.proofs.Loops.{column-more, column-end}
use Rattle.table_words.specs.Writes.{column}
use Rattle.table_couplings.proofs.Loops.{held_more, end-next}
use Rattle.table_couplings.specs.declared.End.TheVariants.{Source, Target}
use Rattle.table_couplings.specs.Links.{link_end, begun}
use Rattle.table_couplings.proofs.put_ends.Goals as goal

pub loop-i-init : goal.loop-i-init
loop-i-init c = (refl, λ j p q. absurd (omega arith), rw sub-zero)

pub loop-i-preserved : goal.loop-i-preserved
loop-i-preserved c =
    let a = c.args in
    let l = c.loop-i in
    let n = c.coupling_count-n.result in
    let cs = components_in a.components.now in
    let ks = couplings_in a.couplings.now in
    let src : ℕ → ℕ = λ i. link_end Source cs ks (1 + i) in
    let e : l.i + 1 ≡ 1 + l.i = omega arith in
    let w : source_at + l.i + 1 ≡ source_at + 1 + l.i = omega arith in
    let x : c.source_node.result ≡ src l.i = c.source_node.ensures ∙ ap (source_number cs) c.coupling_at-k.ensures ∙ end-next Source cs ks l.i ∙ ap (link_end Source cs ks) e in
    let y : c.target_node.result ≡ link_end Target cs ks (l.i + 1) = c.target_node.ensures ∙ ap (target_number cs) c.coupling_at-k.ensures ∙ end-next Target cs ks l.i in
    (simp length-set l.invariant.0, held_more (link_end Target cs ks) l.i c.target_node.result l.targets (omega (arith, c.coupling_count-n.ensures)) y l.invariant.1, rw w (ap (λ v. column (source_at + 1) src (n - (l.i + 1)) (l.i + 1) (set l.t (source_at + 1 + l.i) v)) x ∙ column-more (source_at + 1) src n l.i l.t c.loop-i-test.true ∙ l.invariant.2))

pub returns : goal.returns
unfolding begun
returns c =
    let a = c.args in
    let l = c.loop-i in
    let cs = components_in a.components.now in
    let ks = couplings_in a.couplings.now in
    let src : ℕ → ℕ = λ i. link_end Source cs ks (1 + i) in
    let n = c.coupling_count-n.result in
    (λ j p q. l.invariant.1 j p (omega (arith, c.coupling_count-n.ensures)), sym (column-end (source_at + 1) src n l.i l.t (omega arith)) ∙ l.invariant.2 ∙ ap (λ m. column (source_at + 1) src m 0 a.t.now) c.coupling_count-n.ensures)
