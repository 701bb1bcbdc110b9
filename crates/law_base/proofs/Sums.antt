-- Sums over lists. Assumes nothing.
use mathlib.Core.Path.{◌≡◌, refl, sym, ap, ◌∙◌, fun_ext}
use Prim.Native.Nat.{ℕ, ◌+◌, ◌*◌, ◌≤◌}
use mathlib.Core.List.{List, [], ◌∷◌, ◌++◌, map}
use mathlib.Core.Bool.{Bool, true, false, ◌&&◌, cond}
use native.Mathlib.Omega.{arith}
use native.Mathlib.Nat.{mul-le-mul_right}
use lib.ListN.{length}
use Rattle.definition.specs.Lists.{concat, keep}

unfoldable pub sum_of : {A : Type 0} → (A → ℕ) → List A → ℕ
sum_of f [] = 0
sum_of f (a ∷ l) = f a + sum_of f l

module _ {A : Type 0} where
  pub sum-append : (f : A → ℕ) (x y : List A) → sum_of f (x ++ y) ≡ sum_of f x + sum_of f y
  unfolding sum_of
  sum-append f [] y = omega arith
  sum-append f (a ∷ x) y = let h = sum-append f x y in omega arith

  pub sum-map : {B : Type 0} (f : A → ℕ) (g : B → A) (l : List B) → sum_of f (map g l) ≡ sum_of (λ b. f (g b)) l
  unfolding sum_of
  sum-map f g [] = refl
  sum-map f g (b ∷ l) = rw (sum-map f g l)

  pub sum-concat : {B : Type 0} (f : A → ℕ) (g : B → List A) (l : List B) → sum_of f (concat (map g l)) ≡ sum_of (λ b. sum_of f (g b)) l
  unfolding sum_of concat
  sum-concat f g [] = refl
  sum-concat f g (b ∷ l) = sum-append f (g b) (concat (map g l)) ∙ rw (sum-concat f g l)

  pub sum-add : (f g : A → ℕ) (l : List A) → sum_of (λ a. f a + g a) l ≡ sum_of f l + sum_of g l
  unfolding sum_of
  sum-add f g [] = refl
  sum-add f g (a ∷ l) = let h = sum-add f g l in omega arith

  pub sum-zero : (l : List A) → sum_of (λ a. 0) l ≡ 0
  unfolding sum_of
  sum-zero [] = refl
  sum-zero (a ∷ l) = let h = sum-zero l in omega arith

  pub sum-cong : (f g : A → ℕ) (l : List A) → ((a : A) → f a ≡ g a) → sum_of f l ≡ sum_of g l
  sum-cong f g l h = ap (λ (k : A → ℕ). sum_of k l) (fun_ext h)

  pub sum-cond : (f : A → ℕ) (b : Bool) (l : List A) → sum_of f (cond b l []) ≡ cond b (sum_of f l) 0
  unfolding sum_of
  sum-cond f true l = refl
  sum-cond f false l = refl

  pub sum-le : (f g : A → ℕ) (l : List A) → ((a : A) → f a ≤ g a) → sum_of f l ≤ sum_of g l
  unfolding sum_of
  sum-le f g [] h = omega arith
  sum-le f g (a ∷ l) h = omega (arith, h a, sum-le f g l h)

  pub sum-scale : (n : ℕ) (f : A → ℕ) (l : List A) → sum_of (λ a. n * f a) l ≡ n * sum_of f l
  unfolding sum_of
  sum-scale n f [] = omega arith
  sum-scale n f (a ∷ l) = let h = sum-scale n f l in omega arith

-- sums change places
pub sum-swap : {A B : Type 0} (f : A → B → ℕ) (x : List A) (y : List B) → sum_of (λ a. sum_of (f a) y) x ≡ sum_of (λ b. sum_of (λ a. f a b) x) y
unfolding sum_of
sum-swap f [] y = sym (sum-zero y)
sum-swap f (a ∷ x) y = ap (λ n. sum_of (f a) y + n) (sum-swap f x y) ∙ sym (sum-add (f a) (λ b. sum_of (λ a. f a b) x) y)

-- ---- sums of what passes a test

pub if-if : (b c : Bool) (n : ℕ) → cond b (cond c n 0) 0 ≡ cond c (cond b n 0) 0
if-if true true n = refl
if-if true false n = refl
if-if false true n = refl
if-if false false n = refl

pub if-add : (b : Bool) (n k : ℕ) → cond b (n + k) 0 ≡ cond b n 0 + cond b k 0
if-add true n k = refl
if-add false n k = refl

pub if-zero : (b : Bool) → cond {A = ℕ} b 0 0 ≡ 0
if-zero true = refl
if-zero false = refl

pub if-cong : (b : Bool) (n k : ℕ) → (b ≡ true → n ≡ k) → cond b n 0 ≡ cond b k 0
if-cong true n k h = h refl
if-cong false n k h = refl

pub if-both : (a b : Bool) (n : ℕ) → cond b (cond a n 0) 0 ≡ cond (a && b) n 0
if-both true b n = refl
if-both false true n = refl
if-both false false n = refl

module _ {A : Type 0} where
  pub sum-if : (f : A → ℕ) (b : Bool) (l : List A) → sum_of (λ x. cond b (f x) 0) l ≡ cond b (sum_of f l) 0
  sum-if f true l = refl
  sum-if f false l = sum-zero l

  -- an element before a list, where a test passes
  pub sum-cons : (f : A → ℕ) (b : Bool) (a : A) (l : List A) → sum_of f (cond b (a ∷ l) l) ≡ cond b (f a) 0 + sum_of f l
  unfolding sum_of
  sum-cons f true a l = refl
  sum-cons f false a l = omega arith

  pub sum-keep : (f : A → ℕ) (p : A → Bool) (l : List A) → sum_of f (keep p l) ≡ sum_of (λ a. cond (p a) (f a) 0) l
  unfolding sum_of keep
  sum-keep f p [] = refl
  sum-keep f p (a ∷ l) = sum-cons f (p a) a (keep p l) ∙ rw (sum-keep f p l)

  -- elements of one weight
  pub sum-const : (k : ℕ) (l : List A) → sum_of (λ a. k) l ≡ length l * k
  unfolding sum_of
  sum-const k [] = omega arith
  sum-const k (a ∷ l) = let h = sum-const k l in omega arith

  pub sum_ones : (l : List A) → sum_of (λ a. 1) l ≡ length l
  sum_ones l = let h = sum-const 1 l in omega arith

  -- at most n elements of at most k each
  pub sum-most : (g : A → ℕ) (n k : ℕ) (l : List A) → length l ≤ n → ((a : A) → g a ≤ k) → sum_of g l ≤ n * k
  sum-most g n k l few each = omega (arith, sum-le g (λ a. k) l each, sum-const k l, mul-le-mul_right k few)
