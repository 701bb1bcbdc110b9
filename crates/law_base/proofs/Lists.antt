-- General laws of lists: tests that all elements pass, congruences over such elements, permutations. Assumes nothing.
use mathlib.Core.Path.{◌≡◌, refl, sym, ap, ap₂, ◌∙◌}
use Prim.Native.Nat.{ℕ, zero, suc, ◌+◌, ◌-◌, ◌≤◌, ◌<◌}
use mathlib.Core.List.Permᴰ
use mathlib.Core.List.{List, [], ◌∷◌, ◌++◌, map, append_assoc, Permᴰ}
use mathlib.Core.Bool.{Bool, true, false, ◌&&◌, cond}
use native.Mathlib.Omega.{arith}
use native.Mathlib.Nat.{le_refl}
use lib.Dec.{eqb}
use lib.ListN.{length, take, drop, get_or, length-drop}
use lib.Seq.{take_all}
use borrow.Author.Tests.{eqb-true, eqb-false}
use Rattle.definition.specs.Lists.{concat, sum, all, keep, up_from, count, insert_by, sort_by}
use Rattle.law_base.proofs.Tests.{and_left, and_right, and-true}
use Rattle.law_base.proofs.Sums.{sum_of}

module _ {A : Type 0} where
  pub all_head : (p : A → Bool) (a : A) (l : List A) → all p (a ∷ l) ≡ true → p a ≡ true
  unfolding all
  all_head p a l h = and_left (p a) _ h

  pub all_tail : (p : A → Bool) (a : A) (l : List A) → all p (a ∷ l) ≡ true → all p l ≡ true
  unfolding all
  all_tail p a l h = and_right (p a) _ h

  pub all_cons : (p : A → Bool) (a : A) (l : List A) → p a ≡ true → all p l ≡ true → all p (a ∷ l) ≡ true
  unfolding all
  all_cons p a l h k = and-true (p a) _ h k

  pub all_append : (p : A → Bool) (x y : List A) → all p x ≡ true → all p y ≡ true → all p (x ++ y) ≡ true
  unfolding all
  all_append p [] y h k = k
  all_append p (a ∷ x) y h k = rw (and_left (p a) _ h) (all_append p x y (and_right (p a) _ h) k)

  pub all-front : (p : A → Bool) (x y : List A) → all p (x ++ y) ≡ true → all p x ≡ true
  unfolding all
  all-front p [] y h = refl
  all-front p (a ∷ x) y h = rw (and_left (p a) _ h) (all-front p x y (and_right (p a) _ h))

  pub all_back : (p : A → Bool) (x y : List A) → all p (x ++ y) ≡ true → all p y ≡ true
  unfolding all
  all_back p [] y h = h
  all_back p (a ∷ x) y h = all_back p x y (and_right (p a) _ h)

  -- a weaker test
  pub all-if : (p q : A → Bool) (l : List A) → ((a : A) → p a ≡ true → q a ≡ true) → all p l ≡ true → all q l ≡ true
  unfolding all
  all-if p q [] f h = refl
  all-if p q (a ∷ l) f h = rw (f a (and_left (p a) _ h)) (all-if p q l f (and_right (p a) _ h))

  pub all-every : (p : A → Bool) (l : List A) → ((a : A) → p a ≡ true) → all p l ≡ true
  unfolding all
  all-every p [] f = refl
  all-every p (a ∷ l) f = rw (f a) (all-every p l f)

  pub all-and : (p q : A → Bool) (l : List A) → all p l ≡ true → all q l ≡ true → all (λ a. p a && q a) l ≡ true
  unfolding all
  all-and p q [] h k = refl
  all-and p q (a ∷ l) h k = rw (and_left (p a) _ h, and_left (q a) _ k) (all-and p q l (and_right (p a) _ h) (and_right (q a) _ k))

  pub all_take : (p : A → Bool) (n : ℕ) (l : List A) → all p l ≡ true → all p (take n l) ≡ true
  unfolding all
  all_take p zero l h = refl
  all_take p (suc n) [] h = refl
  all_take p (suc n) (a ∷ l) h = rw (and_left (p a) _ h) (all_take p n l (and_right (p a) _ h))

  pub all_get_d : (p : A → Bool) (l : List A) (i : ℕ) (d : A) → all p l ≡ true → p d ≡ true → p (get_or l i d) ≡ true
  unfolding all
  all_get_d p [] i d h k = k
  all_get_d p (a ∷ l) zero d h k = and_left (p a) _ h
  all_get_d p (a ∷ l) (suc i) d h k = all_get_d p l i d (and_right (p a) _ h) k

  pub all-at : (p : A → Bool) (l : List A) (i : ℕ) (d : A) → all p l ≡ true → i < length l → p (get_or l i d) ≡ true
  unfolding all
  all-at p [] i d h b = absurd (omega arith)
  all-at p (a ∷ l) zero d h b = and_left (p a) _ h
  all-at p (a ∷ l) (suc i) d h b = all-at p l i d (and_right (p a) _ h) (omega arith)

  pub all-places : (p : A → Bool) (d : A) (l : List A) → ((i : ℕ) → i < length l → p (get_or l i d) ≡ true) → all p l ≡ true
  unfolding all
  all-places p d [] h = refl
  all-places p d (a ∷ l) h = and-true (p a) _ (h 0 (omega arith)) (all-places p d l (λ i b. h (suc i) (omega arith)))

  pub all_keep : (p : A → Bool) (l : List A) → all p (keep p l) ≡ true
  unfolding all keep
  all_keep p [] = refl
  all_keep p (a ∷ l) = go (p a) refl (all_keep p l)
    where
      go : (b : Bool) → p a ≡ b → all p (keep p l) ≡ true → all p (cond b (a ∷ keep p l) (keep p l)) ≡ true
      go true e h = rw e h
      go false e h = h

  pub all-perm : (p : A → Bool) {x y : List A} → Permᴰ x y → all p x ≡ all p y
  unfolding all
  all-perm p Permᴰ.nil = refl
  all-perm p (Permᴰ.cons e d) = rw (e, all-perm p d)
  all-perm p (Permᴰ.swap {a = a} {b = b} {l = l} e f) = rw (← e, ← f) (turn (p a) (p b) (all p l))
    where
      turn : (a b c : Bool) → a && (b && c) ≡ b && (a && c)
      turn true b c = refl
      turn false true c = refl
      turn false false c = refl
  all-perm p (Permᴰ.trans d e) = all-perm p d ∙ all-perm p e

  -- functions that agree on the elements that pass a test
  pub sum-cong-if : (q : A → Bool) (f g : A → ℕ) (l : List A) → all q l ≡ true → ((a : A) → q a ≡ true → f a ≡ g a) → sum_of f l ≡ sum_of g l
  unfolding all sum_of
  sum-cong-if q f g [] h e = refl
  sum-cong-if q f g (a ∷ l) h e = ap₂ ◌+◌ (e a (and_left (q a) _ h)) (sum-cong-if q f g l (and_right (q a) _ h) e)

  pub map-cong-if : {B : Type 0} (q : A → Bool) (f g : A → B) (l : List A) → all q l ≡ true → ((a : A) → q a ≡ true → f a ≡ g a) → map f l ≡ map g l
  unfolding all
  map-cong-if q f g [] h e = refl
  map-cong-if q f g (a ∷ l) h e = ap₂ ◌∷◌ (e a (and_left (q a) _ h)) (map-cong-if q f g l (and_right (q a) _ h) e)

  pub length-keep : (p : A → Bool) (l : List A) → length (keep p l) ≤ length l
  unfolding keep
  length-keep p [] = omega arith
  length-keep p (a ∷ l) = go (p a) (length-keep p l)
    where
      go : (b : Bool) → length (keep p l) ≤ length l → length (cond b (a ∷ keep p l) (keep p l)) ≤ suc (length l)
      go true h = omega arith
      go false h = omega arith

  pub sum-map-of : (f : A → ℕ) (l : List A) → sum (map f l) ≡ sum_of f l
  unfolding sum sum_of
  sum-map-of f [] = refl
  sum-map-of f (a ∷ l) = rw (sum-map-of f l)

  -- orders
  pub sum-perm : (f : A → ℕ) {x y : List A} → Permᴰ x y → sum_of f x ≡ sum_of f y
  unfolding sum_of
  sum-perm f Permᴰ.nil = refl
  sum-perm f (Permᴰ.cons e d) = rw (e, sum-perm f d)
  sum-perm f (Permᴰ.swap e d) = rw (e, d) (omega arith)
  sum-perm f (Permᴰ.trans d e) = sum-perm f d ∙ sum-perm f e

  pub length-perm : {x y : List A} → Permᴰ x y → length x ≡ length y
  length-perm Permᴰ.nil = refl
  length-perm (Permᴰ.cons e d) = ap suc (length-perm d)
  length-perm (Permᴰ.swap e d) = refl
  length-perm (Permᴰ.trans d e) = length-perm d ∙ length-perm e

  insert-permutes : (before : A → A → Bool) (a : A) (l : List A) → Permᴰ (insert_by before a l) (a ∷ l)
  unfolding insert_by
  insert-permutes before a [] = Permᴰ.refl (a ∷ [])
  insert-permutes before a (b ∷ l) = go (before a b) (insert-permutes before a l)
    where
      go : (t : Bool) → Permᴰ (insert_by before a l) (a ∷ l) → Permᴰ (cond t (a ∷ b ∷ l) (b ∷ insert_by before a l)) (a ∷ b ∷ l)
      go true h = Permᴰ.refl (a ∷ b ∷ l)
      go false h = Permᴰ.trans (Permᴰ.cons refl h) (Permᴰ.swap refl refl)

  pub sort-permutes : (before : A → A → Bool) (l : List A) → Permᴰ (sort_by before l) l
  unfolding sort_by
  sort-permutes before [] = Permᴰ.nil
  sort-permutes before (a ∷ l) = Permᴰ.trans (insert-permutes before a (sort_by before l)) (Permᴰ.cons refl (sort-permutes before l))

  pub count-keep : (p q : A → Bool) (l : List A) → count q (keep p l) ≡ count (λ a. p a && q a) l
  unfolding count keep
  count-keep p q [] = refl
  count-keep p q (a ∷ l) = go (p a) (count-keep p q l)
    where
      go : (b : Bool) → count q (keep p l) ≡ count (λ a. p a && q a) l
          → count q (cond b (a ∷ keep p l) (keep p l)) ≡ cond (b && q a) 1 0 + count (λ a. p a && q a) l
      go true e = rw e
      go false e = omega arith

  -- an element that does not pass is not there
  pub count_none : (q p : A → Bool) (l : List A) → all q l ≡ true → ((a : A) → q a ≡ true → p a ≡ false) → count p l ≡ 0
  unfolding all count
  count_none q p [] h e = refl
  count_none q p (a ∷ l) h e = rw (e a (and_left (q a) _ h)) (let k = count_none q p l (and_right (q a) _ h) e in omega arith)

  pub count-sum : (p : A → Bool) (l : List A) → count p l ≡ sum_of (λ a. cond (p a) 1 0) l
  unfolding count sum_of
  count-sum p [] = refl
  count-sum p (a ∷ l) = rw (count-sum p l)

  pub count_most : (p : A → Bool) (l : List A) → count p l ≤ length l
  unfolding count
  count_most p [] = omega arith
  count_most p (a ∷ l) = go (p a) (count_most p l)
    where
      go : (b : Bool) → count p l ≤ length l → cond b 1 0 + count p l ≤ length (a ∷ l)
      go true h = omega arith
      go false h = omega arith

module _ {A B : Type 0} where
  pub all_map : (p : B → Bool) (f : A → B) (l : List A) → all p (map f l) ≡ all (λ a. p (f a)) l
  unfolding all
  all_map p f [] = refl
  all_map p f (a ∷ l) = rw (all_map p f l)

  pub all-concat : (p : B → Bool) (q : A → Bool) (f : A → List B) (l : List A) → all q l ≡ true → ((a : A) → q a ≡ true → all p (f a) ≡ true)
      → all p (concat (map f l)) ≡ true
  unfolding all concat
  all-concat p q f [] h e = refl
  all-concat p q f (a ∷ l) h e =
      all_append p (f a) (concat (map f l)) (e a (and_left (q a) _ h)) (all-concat p q f l (and_right (q a) _ h) e)

  pub concat-append : (f : A → List B) (x y : List A) → concat (map f (x ++ y)) ≡ concat (map f x) ++ concat (map f y)
  unfolding concat
  concat-append f [] y = refl
  concat-append f (a ∷ x) y = ap (λ l. f a ++ l) (concat-append f x y) ∙ sym (append_assoc (f a) (concat (map f x)) (concat (map f y)))

  pub get_d_map : (f : A → B) (l : List A) (i : ℕ) (d : A) (e : B) → i < length l → get_or (map f l) i e ≡ f (get_or l i d)
  get_d_map f [] i d e h = absurd (omega arith)
  get_d_map f (a ∷ l) zero d e h = refl
  get_d_map f (a ∷ l) (suc i) d e h = get_d_map f l i d e (omega arith)

  pub take-map : (f : A → B) (n : ℕ) (l : List A) → take n (map f l) ≡ map f (take n l)
  take-map f zero l = refl
  take-map f (suc n) [] = refl
  take-map f (suc n) (a ∷ l) = ap (λ k. f a ∷ k) (take-map f n l)

-- ---- what is left of a list, and a row of numbers

pub tail : {A : Type 0} (a : ℕ) (l : List A) → take (length l - a) (drop a l) ≡ drop a l
tail a l = take_all (length l - a) (drop a l) (simp length-drop (le_refl (length l - a)))

pub length_up : (k n : ℕ) → length (up_from k n) ≡ n
unfolding up_from
length_up k zero = refl
length_up k (suc n) = ap suc (length_up (suc k) n)

-- each number passes a test that all pass
pub each : (p : ℕ → Bool) (k n : ℕ) → all p (up_from k n) ≡ true → (i : ℕ) → k ≤ i → i < k + n → p i ≡ true
unfolding all up_from
each p k zero e i h l = absurd (omega arith)
each p k (suc n) e i h l = go (eqb i k) refl (each p (suc k) n (and_right (p k) _ e) i)
  where
    go : (b : Bool) → eqb i k ≡ b → (suc k ≤ i → i < suc k + n → p i ≡ true) → p i ≡ true
    go true f ih = ap p (eqb-true i k f) ∙ and_left (p k) _ e
    go false f ih = ih (omega (arith, eqb-false i k f)) (omega arith)
