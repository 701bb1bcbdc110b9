-- The ranges of rules hold every rule that names a component. Assumes nothing.
use mathlib.Core.Path.{◌≡◌, refl, sym, ap, ◌∙◌}
use Prim.Native.Nat.{ℕ, zero, suc, ◌+◌, ◌<◌, ◌≤◌}
use mathlib.Core.List.{List}
use mathlib.Core.Bool.{Bool, true, false, cond}
use native.Mathlib.Omega.{arith}
use lib.ListN.{length, get_or, set}
use lib.Seq.{get_or-set_same, get_or-set_other}
use lib.Dec.{eqb, ltb}
use borrow.Author.Tests.{eqb-true, eqb-false, eq-eqb, ltb-true, ltb-false}
use Rattle.definition.specs.Limits.{max_components}
use Rattle.definition.specs.Model.{Rule}
use Rattle.spec_step.specs.Tables.{rules_from_at, rules_to_at}
use Rattle.table_words.specs.Writes.{put_in}
use Rattle.table_words.proofs.Columns.{Within, within_none, within_both, within-put}
use Rattle.table_components.specs.Columns.{rule_names, rule_starts, rule_ends}

-- a row after a number was put into its region
pub put-row : (at size k v c : ℕ) (t : List ℕ) → c < size → at + size ≤ length t → get_or (put_in at size k v t) (at + c) 0 ≡ cond (eqb k c) v (get_or t (at + c) 0)
unfolding put_in
put-row at size k v c t h l = go (ltb k size) refl (eqb k c) refl
  where
    go : (b : Bool) → ltb k size ≡ b → (e : Bool) → eqb k c ≡ e → get_or (cond b (set t (at + k) v) t) (at + c) 0 ≡ cond e v (get_or t (at + c) 0)
    go true b true e = ap (λ j. get_or (set t (at + k) v) (at + j) 0) (sym (eqb-true k c e)) ∙ get_or-set_same t (at + k) v 0 (omega (arith, ltb-true k size b))
    go true b false e = get_or-set_other t (at + k) (at + c) v 0 (λ q. eqb-false k c e (omega arith))
    go false b true e = absurd (omega (arith, eqb-true k c e, ltb-false k size b))
    go false b false e = refl

module _ (rs : List Rule) where
  pub starts-within : (n : ℕ) (t : List ℕ) → Within rules_from_at (rules_from_at + max_components) t (rule_starts rs n t)
  unfolding rule_starts
  starts-within zero t = within_none rules_from_at (rules_from_at + max_components) t
  starts-within (suc i) t =
      within_both (omega arith) (omega arith) (omega arith) (omega arith)
      (within-put rules_from_at max_components (rule_names rs i) i t) (starts-within i (put_in rules_from_at max_components (rule_names rs i) i t))

  pub ends-within : (m i : ℕ) (t : List ℕ) → Within rules_to_at (rules_to_at + max_components) t (rule_ends rs m i t)
  unfolding rule_ends
  ends-within zero i t = within_none rules_to_at (rules_to_at + max_components) t
  ends-within (suc m) i t =
      within_both (omega arith) (omega arith) (omega arith) (omega arith)
      (within-put rules_to_at max_components (rule_names rs i) (i + 1) t) (ends-within m (i + 1) (put_in rules_to_at max_components (rule_names rs i) (i + 1) t))

  module _ (c : ℕ) (h : c < max_components) where
    -- what is at most i stays so: earlier rules have lower numbers
    starts-low : (k i : ℕ) (t : List ℕ) → rules_from_at + max_components ≤ length t → k ≤ suc i → get_or t (rules_from_at + c) 0 ≤ i → get_or (rule_starts rs k t) (rules_from_at + c) 0 ≤ i
    unfolding rule_starts
    starts-low zero i t l b v = v
    starts-low (suc k) i t l b v =
        let s = put_in rules_from_at max_components (rule_names rs k) k t in
        starts-low k i s (omega (arith, (within-put rules_from_at max_components (rule_names rs k) k t).long)) (omega arith) (go (eqb (rule_names rs k) c) (put-row rules_from_at max_components (rule_names rs k) k c t h l))
      where
        go : (b : Bool) → get_or (put_in rules_from_at max_components (rule_names rs k) k t) (rules_from_at + c) 0 ≡ cond b k (get_or t (rules_from_at + c) 0)
            → get_or (put_in rules_from_at max_components (rule_names rs k) k t) (rules_from_at + c) 0 ≤ i
        go true e = omega arith
        go false e = omega arith

    -- a rule that names c is not before the first
    pub starts-right : (n i : ℕ) (t : List ℕ) → rules_from_at + max_components ≤ length t → i < n → rule_names rs i ≡ c → get_or (rule_starts rs n t) (rules_from_at + c) 0 ≤ i
    unfolding rule_starts
    starts-right zero i t l b e = absurd (omega arith)
    starts-right (suc n) i t l r e =
        let s = put_in rules_from_at max_components (rule_names rs n) n t in
        let w = (within-put rules_from_at max_components (rule_names rs n) n t).long in
        go (ltb i n) refl (λ b. starts-right n i s (omega arith) b e) (starts-low n i s (omega arith))
      where
        go : (b : Bool) → ltb i n ≡ b → (i < n → get_or (rule_starts rs n (put_in rules_from_at max_components (rule_names rs n) n t)) (rules_from_at + c) 0 ≤ i)
            → (n ≤ suc i → get_or (put_in rules_from_at max_components (rule_names rs n) n t) (rules_from_at + c) 0 ≤ i → get_or (rule_starts rs n (put_in rules_from_at max_components (rule_names rs n) n t)) (rules_from_at + c) 0 ≤ i)
            → get_or (rule_starts rs n (put_in rules_from_at max_components (rule_names rs n) n t)) (rules_from_at + c) 0 ≤ i
        go true b ih low = ih (ltb-true i n b)
        go false b ih low =
            let s : i ≡ n = omega (arith, ltb-false i n b) in
            let q : eqb (rule_names rs n) c ≡ true = eq-eqb (rule_names rs n) c (ap (rule_names rs) (sym s) ∙ e) in
            low (omega arith) (omega (arith, put-row rules_from_at max_components (rule_names rs n) n c t h l ∙ ap (λ b. cond b n (get_or t (rules_from_at + c) 0)) q))

    -- what is above i stays so: later rules have higher numbers
    ends-high : (m j i : ℕ) (t : List ℕ) → rules_to_at + max_components ≤ length t → i < j → i < get_or t (rules_to_at + c) 0 → i < get_or (rule_ends rs m j t) (rules_to_at + c) 0
    unfolding rule_ends
    ends-high zero j i t l b v = v
    ends-high (suc m) j i t l b v =
        let s = put_in rules_to_at max_components (rule_names rs j) (j + 1) t in
        ends-high m (j + 1) i s (omega (arith, (within-put rules_to_at max_components (rule_names rs j) (j + 1) t).long)) (omega arith)
        (go (eqb (rule_names rs j) c) (put-row rules_to_at max_components (rule_names rs j) (j + 1) c t h l))
      where
        go : (b : Bool) → get_or (put_in rules_to_at max_components (rule_names rs j) (j + 1) t) (rules_to_at + c) 0 ≡ cond b (j + 1) (get_or t (rules_to_at + c) 0)
            → i < get_or (put_in rules_to_at max_components (rule_names rs j) (j + 1) t) (rules_to_at + c) 0
        go true e = omega arith
        go false e = omega arith

    -- a rule that names c is before the end
    pub ends-right : (m j i : ℕ) (t : List ℕ) → rules_to_at + max_components ≤ length t → j ≤ i → i < j + m → rule_names rs i ≡ c → i < get_or (rule_ends rs m j t) (rules_to_at + c) 0
    unfolding rule_ends
    ends-right zero j i t l a b e = absurd (omega arith)
    ends-right (suc m) j i t l a b e =
        let s = put_in rules_to_at max_components (rule_names rs j) (j + 1) t in
        let w = (within-put rules_to_at max_components (rule_names rs j) (j + 1) t).long in
        go (ltb j i) refl (λ k. ends-right m (j + 1) i s (omega arith) k (omega arith) e) (ends-high m (j + 1) i s (omega arith))
      where
        go : (b : Bool) → ltb j i ≡ b → (j + 1 ≤ i → i < get_or (rule_ends rs m (j + 1) (put_in rules_to_at max_components (rule_names rs j) (j + 1) t)) (rules_to_at + c) 0)
            → (i < j + 1 → i < get_or (put_in rules_to_at max_components (rule_names rs j) (j + 1) t) (rules_to_at + c) 0 → i < get_or (rule_ends rs m (j + 1) (put_in rules_to_at max_components (rule_names rs j) (j + 1) t)) (rules_to_at + c) 0)
            → i < get_or (rule_ends rs m (j + 1) (put_in rules_to_at max_components (rule_names rs j) (j + 1) t)) (rules_to_at + c) 0
        go true b ih high = ih (omega (arith, ltb-true j i b))
        go false b ih high =
            let s : i ≡ j = omega (arith, ltb-false j i b) in
            let q : eqb (rule_names rs j) c ≡ true = eq-eqb (rule_names rs j) c (ap (rule_names rs) (sym s) ∙ e) in
            high (omega arith) (omega (arith, put-row rules_to_at max_components (rule_names rs j) (j + 1) c t h l ∙ ap (λ b. cond b (j + 1) (get_or t (rules_to_at + c) 0)) q))

    -- the end is at most the number of rules
    pub ends-in : (m j n : ℕ) (t : List ℕ) → rules_to_at + max_components ≤ length t → j + m ≤ n → get_or t (rules_to_at + c) 0 ≤ n → get_or (rule_ends rs m j t) (rules_to_at + c) 0 ≤ n
    unfolding rule_ends
    ends-in zero j n t l b v = v
    ends-in (suc m) j n t l b v =
        let s = put_in rules_to_at max_components (rule_names rs j) (j + 1) t in
        ends-in m (j + 1) n s (omega (arith, (within-put rules_to_at max_components (rule_names rs j) (j + 1) t).long)) (omega arith)
        (go (eqb (rule_names rs j) c) (put-row rules_to_at max_components (rule_names rs j) (j + 1) c t h l))
      where
        go : (b : Bool) → get_or (put_in rules_to_at max_components (rule_names rs j) (j + 1) t) (rules_to_at + c) 0 ≡ cond b (j + 1) (get_or t (rules_to_at + c) 0)
            → get_or (put_in rules_to_at max_components (rule_names rs j) (j + 1) t) (rules_to_at + c) 0 ≤ n
        go true e = omega arith
        go false e = omega arith
