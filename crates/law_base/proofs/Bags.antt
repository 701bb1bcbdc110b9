-- Bags: counts of messages, and what does not depend on the order. Assumes nothing.
use mathlib.Core.Path.{◌≡◌, refl, sym, ap, ◌∙◌}
use Prim.Native.Nat.{ℕ, suc, ◌+◌, ◌<◌}
use mathlib.Core.List.Permᴰ
use mathlib.Core.List.{List, [], ◌∷◌, ◌++◌, Permᴰ}
use mathlib.Core.Bool.{Bool, true, false, ◌&&◌, cond}
use native.Mathlib.Omega.{arith}
use lib.Dec.{eqb}
use lib.ListN.{length}
use borrow.Author.Tests.{eqb-true, eq-eqb}
use Rattle.definition.specs.Lists.{count, Same, sort_by}
use Rattle.law_base.proofs.Tests.{and_left, and_right}
use Rattle.law_base.proofs.Sorting.{sort-perm, message-order}
use Rattle.definition.specs.Model.{Message, Bag, Rule, RangeReading, message_le}
use Rattle.definition.specs.Atomic.{meets, within_elapsed, holds, deciding}

pub count-append : {A : Type 0} (p : A → Bool) (x y : List A) → count p (x ++ y) ≡ count p x + count p y
unfolding count
count-append p [] y = omega arith
count-append p (a ∷ x) y = let h = count-append p x y in omega arith

count-all : {A : Type 0} (x : List A) → count (λ a. true) x ≡ length x
unfolding count
count-all [] = refl
count-all (a ∷ x) = let h = count-all x in omega arith

pub same_length : {A : Type 0} (x y : List A) → Same x y → length x ≡ length y
same_length x y s = sym (count-all x) ∙ s (λ a. true) ∙ count-all y

-- the deciding rule does not depend on the order of the bag
pub holds_same : (r : RangeReading) (c p e : ℕ) (x y : Bag) (k : Rule) → Same x y → holds r c p e x k ≡ holds r c p e y k
unfolding holds
holds_same r c p e x y k s = rw (s (meets k))

-- a rule that holds for a component names it
pub holds-component : (r : RangeReading) (c p e : ℕ) (x : Bag) (k : Rule) → holds r c p e x k ≡ true → k.component ≡ c
unfolding holds
holds-component r c p e x k f =
    let a = eqb k.component c in
    let b = a && eqb k.phase p in
    eqb-true k.component c (and_left a _ (and_left b _ (and_left (b && within_elapsed r k e) _ f)))

pub deciding-same : (r : RangeReading) (c p e at : ℕ) (x y : Bag) (ks : List Rule) → Same x y → deciding (holds r c p e x) at ks ≡ deciding (holds r c p e y) at ks
unfolding deciding
deciding-same r c p e at x y [] s = refl
deciding-same r c p e at x y (k ∷ ks) s = rw (holds_same r c p e x y k s, deciding-same r c p e (suc at) x y ks s)

-- ---- the same bag is the same list in another order

pub perm-count : {A : Type 0} {x y : List A} (p : A → Bool) → Permᴰ x y → count p x ≡ count p y
unfolding count
perm-count p Permᴰ.nil = refl
perm-count p (Permᴰ.cons e d) = rw (e, perm-count p d)
perm-count p (Permᴰ.swap e f) = rw (e, f) (omega arith)
perm-count p (Permᴰ.trans d e) = perm-count p d ∙ perm-count p e

module _ {A : Type 0} (same : A → A → Bool) (same_eq : (a b : A) → same a b ≡ true → a ≡ b) (same_refl : (a : A) → same a a ≡ true) where
  pull : (a : A) (l : List A) → 0 < count (same a) l → (r : List A) × Permᴰ l (a ∷ r)
  unfolding count
  pull a [] h = absurd (omega arith)
  pull a (b ∷ l) h = go (same a b) refl (pull a l)
    where
      go : (t : Bool) → same a b ≡ t → (0 < count (same a) l → (r : List A) × Permᴰ l (a ∷ r)) → (r : List A) × Permᴰ (b ∷ l) (a ∷ r)
      go true e ih = (l, Permᴰ.cons (sym (same_eq a b e)) (Permᴰ.refl l))
      go false e ih =
          let g = rw e at h in
          let k = ih (omega arith) in
          (b ∷ k.0, Permᴰ.trans (Permᴰ.cons refl k.1) (Permᴰ.swap refl refl))

  -- where each element stands as often in the one as in the other
  pub points-perm : (x y : List A) → ((a : A) → count (same a) x ≡ count (same a) y) → Permᴰ x y
  unfolding count
  points-perm [] [] s = Permᴰ.nil
  points-perm [] (b ∷ y) s = absurd (omega (arith, s b, ap (λ (t : Bool). cond {A = ℕ} t 1 0) (same_refl b)))
  points-perm (a ∷ x) y s = go (pull a y (omega (arith, s a, ap (λ (t : Bool). cond {A = ℕ} t 1 0) (same_refl a)))) (points-perm x)
    where
      go : (r : List A) × Permᴰ y (a ∷ r) → ((r : List A) → ((a : A) → count (same a) x ≡ count (same a) r) → Permᴰ x r) → Permᴰ (a ∷ x) y
      go k ih = Permᴰ.trans (Permᴰ.cons refl (ih k.0 (λ b. omega (arith, s b, perm-count (same b) k.1)))) (Permᴰ.symm k.1)

  pub same_perm : (x y : List A) → Same x y → Permᴰ x y
  same_perm x y s = points-perm x y (λ a. s (same a))

eq_message : Message → Message → Bool
eq_message x y = eqb x.port y.port && eqb x.value y.value

eq_message-true : (x y : Message) → eq_message x y ≡ true → x ≡ y
unfolding eq_message
eq_message-true x y h =
    let p = eqb-true x.port y.port (and_left (eqb x.port y.port) _ h) in
    let q = eqb-true x.value y.value (and_right (eqb x.port y.port) _ h) in
    λ i. record { port = p i; value = q i }

eq_message-refl : (x : Message) → eq_message x x ≡ true
unfolding eq_message
eq_message-refl x = rw (eq-eqb x.port x.port refl, eq-eqb x.value x.value refl)

-- The same bag is the same list in another order.
pub message-perm : (x y : Bag) → Same x y → Permᴰ x y
message-perm x y s = same_perm eq_message eq_message-true eq_message-refl x y s

-- Sorting the root bag forgets its order.
pub sort-same : (x y : Bag) → Same x y → sort_by message_le x ≡ sort_by message_le y
sort-same x y s = sort-perm message_le message-order (message-perm x y s)
