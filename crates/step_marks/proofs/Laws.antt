-- Marks and flags as the loops meet them: one atomic, one component, one coupling more. Assumes nothing.
use mathlib.Core.Path.{◌≡◌, refl, ◌∙◌}
use mathlib.Core.List.{List, [], ◌∷◌, map}
use mathlib.Core.Bool.{Bool, true, false, ◌||◌, not, cond}
use Prim.Native.Nat.{ℕ, zero, suc, ◌+◌, ◌-◌, ◌/◌, ◌≤◌, ◌<◌}
use native.Mathlib.Omega.{arith}
use lib.Dec.{leb, eqb}
use lib.ListN.{get_or, set, length}
use borrow.Author.Tests.{le-leb, lt-leb, leb-true, leb-false, ne_eqb, eq-eqb}
use mir.Val.{bool_byte}
use Rattle.definition.specs.Bytes.{Bytes, chunks}
use Rattle.definition.specs.Lists.{is_empty}
use Rattle.definition.specs.Limits.{message_size}
use Rattle.definition.specs.Records.{message_at}
use Rattle.definition.specs.Engine.{to_bag}
use Rattle.law_routes.specs.Nodes.{input_node}
use Rattle.spec_step.specs.Tables.{numbers_at, parents_at, source_at, next_at, links, chain_rows}
use Rattle.spec_step.specs.TableStep.{any_of, is_up, raised, may_come, may_reach, reached_from}
use Rattle.spec_step.specs.Carried.{end_mark, end_marked}
use Rattle.step_collect.proofs.Laws.{rows_from}

-- a truth value as a number
pub truth : (b : Bool) → bool_byte b ≡ cond b 1 0
truth true = refl
truth false = refl

-- ---- marks

module _ (t : List ℕ) (now : ℕ) (phase ends : List ℕ) where
  pub marked_more : (n i : ℕ) (es : List ℕ) → i < n
      → end_marked t now phase ends (n - (i + 1)) (i + 1) (set es (get_or t (numbers_at + i) 0) (end_mark t now phase ends i (get_or t (numbers_at + i) 0)))
      ≡ end_marked t now phase ends (n - i) i es
  unfolding end_marked
  marked_more n i es h = let e : n - i ≡ suc (n - (i + 1)) = omega arith in rw e

  pub marked-none : (n i : ℕ) (es : List ℕ) → n ≤ i → es ≡ end_marked t now phase ends (n - i) i es
  unfolding end_marked
  marked-none n i es h = let e : n - i ≡ 0 = omega arith in rw e

pub raised-more : (t : List ℕ) (c : ℕ) (es : List ℕ) → 0 < c
    → raised t (c - 1) (cond (is_up es c) (set es (get_or t (parents_at + c) 0) 1) es) ≡ raised t c es
unfolding raised
raised-more t zero es h = absurd (omega arith)
raised-more t (suc c) es h = let e : suc c - 1 ≡ c = omega arith in rw e

pub raised-none : (t : List ℕ) (c : ℕ) (es : List ℕ) → c ≡ 0 → es ≡ raised t c es
unfolding raised
raised-none t c es e = rw e

-- ---- some coupling of a chain

module _ (p : ℕ → Bool) (t : List ℕ) where
  any_step : (n i link : ℕ) → i < n → (link ≡ 0 → ⊥)
      → any_of p (rows_from t (n - i) link) ≡ (p (get_or t (source_at + link) 0) || any_of p (rows_from t (n - (i + 1)) (get_or t (next_at + link) 0)))
  unfolding any_of links
  any_step n i link h some =
      let e : n - i ≡ suc (n - (i + 1)) = omega arith in
      let z : eqb link 0 ≡ false = ne_eqb link 0 some in
      rw (e, z)

  pub any_here : (n i link : ℕ) → i < n → (link ≡ 0 → ⊥) → p (get_or t (source_at + link) 0) ≡ true → true ≡ any_of p (rows_from t (n - i) link)
  any_here n i link h some e = rw (any_step n i link h some, e)

  pub any-later : (n i link : ℕ) → i < n → (link ≡ 0 → ⊥) → p (get_or t (source_at + link) 0) ≡ false
      → any_of p (rows_from t (n - (i + 1)) (get_or t (next_at + link) 0)) ≡ any_of p (rows_from t (n - i) link)
  any-later n i link h some e = rw (any_step n i link h some, e)

  -- none left
  pub any_none : (left link : ℕ) → link ≡ 0 → false ≡ any_of p (rows_from t left link)
  unfolding any_of links
  any_none zero link z = refl
  any_none (suc n) link z = rw (eq-eqb link 0 z)

  pub any-end : (n i link : ℕ) → n ≤ i → false ≡ any_of p (rows_from t (n - i) link)
  unfolding any_of links
  any-end n i link h = let e : n - i ≡ 0 = omega arith in rw e

-- ---- flags

module _ (t es fs : List ℕ) (c n q : ℕ) (h : q < n) where
  reach_step : may_reach t es fs c (n - q) q ≡ (any_of (may_come es fs) (chain_rows t (input_node c q)) || may_reach t es fs c (n - (q + 1)) (q + 1))
  unfolding may_reach
  reach_step = let e : n - q ≡ suc (n - (q + 1)) = omega arith in rw e

  pub reach_here : any_of (may_come es fs) (chain_rows t (input_node c q)) ≡ true → true ≡ may_reach t es fs c (n - q) q
  reach_here e = rw (reach_step, e)

  pub reach-later : any_of (may_come es fs) (chain_rows t (input_node c q)) ≡ false → may_reach t es fs c (n - (q + 1)) (q + 1) ≡ may_reach t es fs c (n - q) q
  reach-later e = rw (reach_step, e)

pub reach-none : (t es fs : List ℕ) (c n q : ℕ) → n ≤ q → false ≡ may_reach t es fs c (n - q) q
unfolding may_reach
reach-none t es fs c n q h = let e : n - q ≡ 0 = omega arith in rw e

pub flags-more : (t es fs : List ℕ) (n c : ℕ) → c < n
    → reached_from t es (n - (c + 1)) (c + 1) (set fs c (cond (may_reach t es fs c 4 0) 1 0)) ≡ reached_from t es (n - c) c fs
unfolding reached_from
flags-more t es fs n c h = let e : n - c ≡ suc (n - (c + 1)) = omega arith in rw e

pub flags-none : (t es fs : List ℕ) (n c : ℕ) → n ≤ c → fs ≡ reached_from t es (n - c) c fs
unfolding reached_from
flags-none t es fs n c h = let e : n - c ≡ 0 = omega arith in rw e

-- ---- a given bag with a message in it

empty-rows : (m : ℕ) (s : Bytes) → is_empty (chunks m message_size s) ≡ not (leb 1 m)
unfolding is_empty chunks
empty-rows zero s = refl
empty-rows (suc m) s = rw (le-leb 1 (suc m) (omega arith))

empty-map : (l : List Bytes) → is_empty (map (message_at 0) l) ≡ is_empty l
unfolding is_empty
empty-map [] = refl
empty-map (x ∷ l) = refl

pub given-flag : (s : Bytes) → cond (leb message_size (length s)) 1 0 ≡ cond {A = ℕ} (is_empty (to_bag s)) 0 1
unfolding to_bag
given-flag s = go (leb message_size (length s)) refl
  where
    rows : is_empty (to_bag s) ≡ not (leb 1 (length s / message_size))
    rows = empty-map (chunks (length s / message_size) message_size s) ∙ empty-rows (length s / message_size) s

    go : (b : Bool) → leb message_size (length s) ≡ b → cond b 1 0 ≡ cond {A = ℕ} (is_empty (to_bag s)) 0 1
    go true e = rw (rows, le-leb 1 (length s / message_size) (omega (arith, leb-true message_size (length s) e)))
    go false e = rw (rows, lt-leb 1 (length s / message_size) (omega (arith, leb-false message_size (length s) e)))
