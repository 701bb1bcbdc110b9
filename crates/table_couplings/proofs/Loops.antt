-- One turn of each loop that fills tables by node or by link, its end, and that only the nodes of the links count. Assumes nothing.
use mathlib.Core.Path.{◌≡◌, refl, sym, ap, ◌∙◌}
use Prim.Native.Nat.{ℕ, zero, suc, ◌+◌, ◌-◌, ◌*◌, ◌/◌, ◌%◌, ◌<◌, ◌≤◌}
use mathlib.Core.List.{List}
use mathlib.Core.Bool.{Bool, true, false, not, cond}
use native.Mathlib.Omega.{arith}
use lib.ListN.{length, get_or, set}
use lib.Seq.{get_or-set_same, get_or-set_other}
use lib.Dec.{ltb, eqb}
use borrow.Author.Tests.{ltb-true, ltb-false, eqb-true, eqb-false, lt-ltb, le-ltb}
use Rattle.definition.specs.Model.{Component, Coupling, no_coupling, is_child}
use Rattle.law_routes.proofs.PortNodes.{end-input, end-output}
use Rattle.spec_step.specs.Tables.{input_node, output_node, source_number, is_output, is_root_node, node_component}
use Rattle.table_couplings.specs.declared.End.{End}
use Rattle.table_couplings.specs.Links.{side_node, end_of, link_end, Held, is_source, source_flag, flag_at, port_flag, spread, spread_up, spread_down}

-- one link more is held
pub held_more : (f : ℕ → ℕ) (i v : ℕ) (t : List ℕ) → i + 1 < length t → v ≡ f (i + 1) → Held f i t → Held f (i + 1) (set t (i + 1) v)
held_more f i v t l e h j p q = go (ltb j (i + 1)) refl
  where
    go : (b : Bool) → ltb j (i + 1) ≡ b → get_or (set t (i + 1) v) j 0 ≡ f j
    go true b = get_or-set_other t (i + 1) j v 0 (λ z. omega (arith, ltb-true j (i + 1) b)) ∙ h j p (omega (arith, ltb-true j (i + 1) b))
    go false b =
        let s : j ≡ i + 1 = omega (arith, ltb-false j (i + 1) b) in
        ap (λ k. get_or (set t (i + 1) v) k 0) s ∙ get_or-set_same t (i + 1) v 0 l ∙ e ∙ ap f (sym s)

pub end-next : (which : End) (cs : List Component) (ks : List Coupling) (i : ℕ) → end_of which cs (get_or ks i no_coupling) ≡ link_end which cs ks (i + 1)
unfolding link_end
end-next which cs ks i = let e : i ≡ i + 1 - 1 = omega arith in ap (λ j. end_of which cs (get_or ks j no_coupling)) e

module _ (src tgt : ℕ → ℕ) where
  pub up_more : (j : ℕ) (t : List ℕ) → 0 < j → spread_up src tgt (j - 1) (spread (src j) (tgt j) t) ≡ spread_up src tgt j t
  unfolding spread_up
  up_more zero t h = absurd (omega arith)
  up_more (suc j) t h = let e : suc j - 1 ≡ j = omega arith in rw e

  pub up-end : (j : ℕ) (t : List ℕ) → j ≡ 0 → spread_up src tgt j t ≡ t
  unfolding spread_up
  up-end j t e = rw e

  pub down-more : (n j : ℕ) (t : List ℕ) → j < n + 1 → spread_down src tgt (n - j) (j + 1) (spread (src j) (tgt j) t) ≡ spread_down src tgt (n + 1 - j) j t
  unfolding spread_down
  down-more n j t h = let e : n + 1 - j ≡ suc (n - j) = omega arith in rw e

  pub down-end : (n j : ℕ) (t : List ℕ) → n + 1 ≤ j → spread_down src tgt (n + 1 - j) j t ≡ t
  unfolding spread_down
  down-end n j t h = let e : n + 1 - j ≡ 0 = omega arith in rw e

module _ (src tgt src' tgt' : ℕ → ℕ) where
  pub up-cong : (n : ℕ) (t : List ℕ) → ((j : ℕ) → 0 < j → j ≤ n → src j ≡ src' j) → ((j : ℕ) → 0 < j → j ≤ n → tgt j ≡ tgt' j)
      → spread_up src tgt n t ≡ spread_up src' tgt' n t
  unfolding spread_up
  up-cong zero t h k = refl
  up-cong (suc n) t h k =
      rw (h (suc n) (omega arith) (omega arith), k (suc n) (omega arith) (omega arith))
      (up-cong n (spread (src' (suc n)) (tgt' (suc n)) t) (λ j a b. h j a (omega arith)) (λ j a b. k j a (omega arith)))

  pub down-cong : (m i : ℕ) (t : List ℕ) → ((j : ℕ) → i ≤ j → j < i + m → src j ≡ src' j) → ((j : ℕ) → i ≤ j → j < i + m → tgt j ≡ tgt' j)
      → spread_down src tgt m i t ≡ spread_down src' tgt' m i t
  unfolding spread_down
  down-cong zero i t h k = refl
  down-cong (suc m) i t h k =
      rw (h i (omega arith) (omega arith), k i (omega arith) (omega arith))
      (down-cong m (i + 1) (spread (src' i) (tgt' i) t) (λ j a b. h j (omega arith) (omega arith)) (λ j a b. k j (omega arith) (omega arith)))

-- ---- the ports of component c

-- a coupling from a parent begins on the input side
pub source-turned : (cs : List Component) (k : Coupling) → side_node (not (is_child cs k.source k.target)) k.source k.source_port ≡ source_number cs k
unfolding side_node source_number
source-turned cs k = go (is_child cs k.source k.target) _ _
  where
    go : (b : Bool) (x y : ℕ) → cond (not b) x y ≡ cond b y x
    go true x y = refl
    go false x y = refl

same-zero : (c k : ℕ) → k < 4 → ltb (8 * c + k) 8 ≡ eqb c 0
same-zero c k h = go (eqb c 0) refl
  where
    go : (b : Bool) → eqb c 0 ≡ b → ltb (8 * c + k) 8 ≡ b
    go true e = lt-ltb (8 * c + k) 8 (omega (arith, eqb-true c 0 e))
    go false e = le-ltb (8 * c + k) 8 (omega (arith, eqb-false c 0 e))

-- the flags of component c's ports
pub input-flag : (sources : Bool) (cs : List Component) (c k : ℕ) → k < 4 → flag_at sources cs (8 * c + k) ≡ port_flag sources cs c
unfolding port_flag source_flag is_source is_output is_root_node input_node
input-flag true cs c k h = rw (lt-ltb ((8 * c + k) % 8) 4 (omega arith), same-zero c k h)
input-flag false cs c k h = end-input cs c k h

pub output-flag : (sources : Bool) (cs : List Component) (c k : ℕ) → k < 4 → flag_at sources cs (8 * c + 4 + k) ≡ port_flag (not sources) cs c
unfolding port_flag source_flag is_source is_output node_component output_node
output-flag true cs c k h = let e : (8 * c + 4 + k) / 8 ≡ c = omega arith in rw (le-ltb ((8 * c + 4 + k) % 8) 4 (omega arith), e)
output-flag false cs c k h = let e : 8 * c + 4 + k ≡ 8 * c + (4 + k) = omega arith in rw e (end-output cs c k h)
