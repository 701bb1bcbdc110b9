-- One turn of each pass over the links, its end, and that the table keeps its length. Assumes nothing.
use mathlib.Core.Path.{◌≡◌, refl, ◌∙◌}
use mathlib.Core.List.{List}
use mathlib.Core.Bool.{Bool, true, false, cond, beq}
use Prim.Native.Nat.{ℕ, zero, suc, ◌+◌, ◌-◌, ◌<◌}
use native.Mathlib.Omega.{arith}
use lib.ListN.{length, length-set}
use Rattle.spec_step.specs.Tables.{is_output}
use Rattle.accept_ways.specs.Words.{link_taken, link_on, ways_down, ways_up}

-- ---- a link taken

pub on-long : (output : Bool) (x y : ℕ) (ways : List ℕ) → length (link_on output x y ways) ≡ length ways
unfolding link_on link_taken
on-long output x y ways = go (beq (is_output x) output)
  where
    go : (b : Bool) → length (cond b (link_taken x y ways) ways) ≡ length ways
    go true = simp length-set
    go false = refl

-- ---- the passes

module _ (src tgt : ℕ → ℕ) where
  pub down-more : (j : ℕ) (ways : List ℕ) → 0 < j → ways_down src tgt (j - 1) (link_on false (src j) (tgt j) ways) ≡ ways_down src tgt j ways
  unfolding ways_down
  down-more zero ways h = absurd (omega arith)
  down-more (suc j) ways h = let e : suc j - 1 ≡ j = omega arith in rw e

  pub down-end : (j : ℕ) (ways : List ℕ) → j ≡ 0 → ways_down src tgt j ways ≡ ways
  unfolding ways_down
  down-end j ways e = rw e

  pub down-whole : (j : ℕ) (ways : List ℕ) → length (ways_down src tgt j ways) ≡ length ways
  unfolding ways_down
  down-whole zero ways = refl
  down-whole (suc j) ways = down-whole j (link_on false (src (suc j)) (tgt (suc j)) ways) ∙ on-long false (src (suc j)) (tgt (suc j)) ways

  pub up_more : (n j : ℕ) (ways : List ℕ) → j < n + 1 → ways_up src tgt (n - j) (j + 1) (link_on true (src j) (tgt j) ways) ≡ ways_up src tgt (n + 1 - j) j ways
  unfolding ways_up
  up_more n j ways h = let e : n + 1 - j ≡ suc (n - j) = omega arith in rw e

  pub up_none : (n j : ℕ) (ways : List ℕ) → n < j → ways_up src tgt (n + 1 - j) j ways ≡ ways
  unfolding ways_up
  up_none n j ways h = let e : n + 1 - j ≡ 0 = omega arith in rw e
