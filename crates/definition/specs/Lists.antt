-- Small functions on lists that the definitions use: joining, counting on, sorting. Assumes nothing.
use Rattle.std.specs.Prelude.{◌≡◌, ℕ, zero, suc, ◌+◌, List, [], ◌∷◌, ◌++◌, Bool, true, false, ◌&&◌, ◌||◌, cond, ltb, eqb}

unfoldable pub concat : {A : Type 0} → List (List A) → List A
concat [] = []
concat (x ∷ xs) = x ++ concat xs

unfoldable pub sum : List ℕ → ℕ
sum [] = 0
sum (x ∷ xs) = x + sum xs

unfoldable pub all : {A : Type 0} → (A → Bool) → List A → Bool
all p [] = true
all p (x ∷ xs) = p x && all p xs

unfoldable pub keep : {A : Type 0} → (A → Bool) → List A → List A
keep p [] = []
keep p (x ∷ xs) = let rest = keep p xs in cond (p x) (x ∷ rest) rest

unfoldable pub is_empty : {A : Type 0} → List A → Bool
is_empty [] = true
is_empty (x ∷ xs) = false

-- The n numbers from `from` on.
unfoldable pub up_from : ℕ → ℕ → List ℕ
up_from from zero = []
up_from from (suc n) = from ∷ up_from (suc from) n

-- How many elements pass a test.
unfoldable pub count : {A : Type 0} → (A → Bool) → List A → ℕ
count p [] = 0
count p (x ∷ xs) = cond (p x) 1 0 + count p xs

-- The same elements equally often, in any order: every test is passed by as many of the one as of the other.
abbrev pub Same : {A : Type 0} → List A → List A → Type 0
Same {A} x y = (p : A → Bool) → count p x ≡ count p y

-- Rows of numbers in dictionary order.
unfoldable pub lex_le : List ℕ → List ℕ → Bool
lex_le [] ys = true
lex_le (x ∷ xs) [] = false
lex_le (x ∷ xs) (y ∷ ys) = ltb x y || (eqb x y && lex_le xs ys)

-- No element falls below the one before it.
unfoldable pub rises : {A : Type 0} → (A → A → Bool) → List A → Bool
rises le [] = true
rises le (a ∷ []) = true
rises le (a ∷ b ∷ rest) = le a b && rises le (b ∷ rest)

-- A list in the order `le`, by insertion.
unfoldable pub insert_by : {A : Type 0} → (A → A → Bool) → A → List A → List A
insert_by le a [] = a ∷ []
insert_by le a (b ∷ bs) = let on = b ∷ insert_by le a bs in cond (le a b) (a ∷ b ∷ bs) on

unfoldable pub sort_by : {A : Type 0} → (A → A → Bool) → List A → List A
sort_by le [] = []
sort_by le (a ∷ rest) = insert_by le a (sort_by le rest)
