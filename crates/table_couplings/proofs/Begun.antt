-- The nodes of the links, once they stand: the words are the couplings' nodes, and everything else is zero. Assumes nothing.
use mathlib.Core.Path.{◌≡◌, refl, ap, ◌∙◌}
use Prim.Native.Nat.{ℕ, zero, suc, ◌+◌, ◌-◌, ◌<◌, ◌≤◌}
use mathlib.Core.List.{List}
use native.Mathlib.Omega.{arith}
use lib.ListN.{length, get_or, replicate, length-replicate}
use Rattle.definition.specs.Limits.{max_couplings}
use Rattle.definition.specs.Model.{Component, Coupling}
use Rattle.spec_step.specs.Tables.{source_at, table_size}
use Rattle.table_words.proofs.Columns.{Within, column-within, column-at}
use Rattle.table_couplings.specs.declared.End.TheVariants.{Source}
use Rattle.table_couplings.specs.Links.{link_end, Joined, begun, zeros, Begun}

-- ---- zeros

-- an array of zeros, as a call makes it
pub zeros-made : replicate {A = ℕ} table_size 0 ≡ zeros
unfolding zeros
zeros-made = refl

pub zeros-long : length zeros ≡ table_size
unfolding zeros
zeros-long = length-replicate {A = ℕ} table_size 0

replicate-at : (n x : ℕ) → get_or (replicate {A = ℕ} n 0) x 0 ≡ 0
replicate-at zero x = refl
replicate-at (suc n) zero = refl
replicate-at (suc n) (suc x) = replicate-at n x

pub zeros-at : (x : ℕ) → get_or zeros x 0 ≡ 0
unfolding zeros
zeros-at x = replicate-at table_size x

-- ---- where links begin

module _ (cs : List Component) (ks : List Coupling) (t : List ℕ) where
  pub begun-within : Within (source_at + 1) (source_at + 1 + length ks) t (begun cs ks t)
  unfolding begun
  begun-within = column-within (source_at + 1) (λ i. link_end Source cs ks (1 + i)) (length ks) t

  pub begun-at : length ks ≤ max_couplings → length t ≡ table_size → (j : ℕ) → 0 < j → j ≤ length ks → get_or (begun cs ks t) (source_at + j) 0 ≡ link_end Source cs ks j
  unfolding begun
  begun-at few long j p q =
      let e : source_at + j ≡ source_at + 1 + (j - 1) = omega arith in
      let f : 1 + (j - 1) ≡ j = omega arith in
      ap (λ x. get_or (begun cs ks t) x 0) e
      ∙ column-at (source_at + 1) (λ i. link_end Source cs ks (1 + i)) (length ks) t (j - 1) (omega arith) (omega arith)
      ∙ ap (link_end Source cs ks) f

-- in a table that has not moved them
pub joined-kept : (cs : List Component) (ks : List Coupling) (targets t : List ℕ) → length ks ≤ max_couplings → Begun cs ks targets t
    → (s : List ℕ) → ((x : ℕ) → source_at ≤ x → get_or s x 0 ≡ get_or t x 0) → Joined cs ks targets s
joined-kept cs ks targets t few b s same = record {
  ends = b.ends;
  begins = λ j p q. same (source_at + j) (omega arith) ∙ ap (λ t. get_or t (source_at + j) 0) b.begins ∙ begun-at cs ks zeros few zeros-long j p q;
  nodes = b.nodes;
}
