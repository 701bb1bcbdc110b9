-- Numbers by position whose bit is set: one read, one put, one gone, none. Assumes nothing.
use mathlib.Core.Path.{◌≡◌, ◌∙◌, ap, ap₂, refl, sym}
use Prim.Native.Nat.{ℕ, zero, suc, ◌+◌, ◌*◌, ◌/◌, ◌%◌, ◌^◌, ◌<◌, max}
use native.Mathlib.Nat.{pow-suc, mul_comm, max-eq_right, max-zero}
use native.Mathlib.Numerals.{one-add}
use native.Mathlib.Omega.{arith}
use mathlib.Core.Bool.{cond}
use mathlib.Core.List.{List, [], ◌∷◌}
use lib.Bits.{bit_or, bit_xor, differ, or_step, or_zero_r, xor_step, xor_zero_r}
use lib.Dec.{eqb}
use lib.ListN.{get_or, set, length, replicate}
use lib.Pow.{shr-shr}
use Rattle.definition.specs.Limits.{no_position}
use Rattle.run_state.specs.Held.{where_set}

half : (m i : ℕ) → m / 2 / 2 ^ i ≡ m / 2 ^ suc i
half m i = shr-shr m 1 i ∙ ap (λ k. m / 2 ^ k) (one-add i)

pow_more : (i : ℕ) → 2 ^ suc i ≡ 2 * 2 ^ i
pow_more i = pow-suc 2 i ∙ mul_comm (2 ^ i) 2

whole-first : (m : ℕ) → m / 2 ^ 0 ≡ m
whole-first m = omega arith

pub set-read : (m : ℕ) (rs : List ℕ) (i : ℕ) → i < length rs → get_or (where_set m rs) i 0 ≡ cond (eqb (m / 2 ^ i % 2) 1) (get_or rs i 0) no_position
unfolding where_set
set-read m [] i h = absurd (omega arith)
set-read m (r ∷ rs) zero h = ap (λ q. cond (eqb (q % 2) 1) r no_position) (sym (whole-first m))
set-read m (r ∷ rs) (suc i) h = set-read (m / 2) rs i (omega arith) ∙ ap (λ q. cond (eqb (q % 2) 1) (get_or rs i 0) no_position) (half m i)

-- one bit set in a number, by its digits
or-first : (m : ℕ) → bit_or m 1 ≡ m / 2 * 2 + 1
or-first m =
    let most : max (m % 2) 1 ≡ 1 = max-eq_right (omega arith) in
    or_step m 1 ∙ ap₂ (λ a b. a * 2 + b) (or_zero_r (m / 2)) most

halved : (i : ℕ) → 2 ^ suc i / 2 ≡ 2 ^ i
halved i = omega (arith, pow_more i)

even : (i : ℕ) → 2 ^ suc i % 2 ≡ 0
even i = omega (arith, pow_more i)

or_later : (m i : ℕ) → bit_or m (2 ^ suc i) ≡ bit_or (m / 2) (2 ^ i) * 2 + m % 2
or_later m i =
    or_step m (2 ^ suc i) ∙ ap₂ (λ a b. bit_or (m / 2) a * 2 + max (m % 2) b) (halved i) (even i) ∙ ap (λ b. bit_or (m / 2) (2 ^ i) * 2 + b) (max-zero (m % 2))

-- one number put and its bit set, whether or not it was
pub set-put : (m : ℕ) (rs : List ℕ) (i r : ℕ) → where_set (bit_or m (2 ^ i)) (set rs i r) ≡ set (where_set m rs) i r
unfolding where_set
set-put m [] i r = refl
set-put m (x ∷ xs) zero r =
    let odd : bit_or m 1 % 2 ≡ 1 = omega (arith, or-first m) in
    let rest : bit_or m 1 / 2 ≡ m / 2 = omega (arith, or-first m) in
    ap₂ (λ p q. cond (eqb p 1) r no_position ∷ where_set q xs) odd rest
set-put m (x ∷ xs) (suc i) r =
    let low : bit_or m (2 ^ suc i) % 2 ≡ m % 2 = omega (arith, or_later m i) in
    let rest : bit_or m (2 ^ suc i) / 2 ≡ bit_or (m / 2) (2 ^ i) = omega (arith, or_later m i) in
    ap₂ (λ p q. cond (eqb p 1) x no_position ∷ where_set q (set xs i r)) low rest ∙ ap (λ l. cond (eqb (m % 2) 1) x no_position ∷ l) (set-put (m / 2) xs i r)

-- its bit gone, whether or not it was set
differ-none : (x : ℕ) → differ x 0 ≡ x
differ-none zero = refl
differ-none (suc x) = refl

pub set-gone : (m : ℕ) (rs : List ℕ) (i : ℕ) → where_set (bit_xor (bit_or m (2 ^ i)) (2 ^ i)) rs ≡ set (where_set m rs) i no_position
unfolding where_set
set-gone m [] i = refl
set-gone m (x ∷ xs) zero =
    let odd : bit_or m 1 % 2 ≡ 1 = omega (arith, or-first m) in
    let rest : bit_or m 1 / 2 ≡ m / 2 = omega (arith, or-first m) in
    let gone : bit_xor (bit_or m 1) 1 ≡ m / 2 * 2 + 0 = xor_step (bit_or m 1) 1 ∙ ap₂ (λ a b. bit_xor a 0 * 2 + differ b 1) rest odd ∙ ap (λ a. a * 2 + 0) (xor_zero_r (m / 2)) in
    let low : bit_xor (bit_or m 1) 1 % 2 ≡ 0 = omega (arith, gone) in
    let high : bit_xor (bit_or m 1) 1 / 2 ≡ m / 2 = omega (arith, gone) in
    ap₂ (λ p q. cond (eqb p 1) x no_position ∷ where_set q xs) low high
set-gone m (x ∷ xs) (suc i) =
    let kept : bit_or m (2 ^ suc i) % 2 ≡ m % 2 = omega (arith, or_later m i) in
    let rest : bit_or m (2 ^ suc i) / 2 ≡ bit_or (m / 2) (2 ^ i) = omega (arith, or_later m i) in
    let gone : bit_xor (bit_or m (2 ^ suc i)) (2 ^ suc i) ≡ bit_xor (bit_or (m / 2) (2 ^ i)) (2 ^ i) * 2 + m % 2 =
    xor_step (bit_or m (2 ^ suc i)) (2 ^ suc i) ∙ ap₂ (λ a b. bit_xor a (2 ^ suc i / 2) * 2 + differ b (2 ^ suc i % 2)) rest kept
    ∙ ap₂ (λ a b. bit_xor (bit_or (m / 2) (2 ^ i)) a * 2 + differ (m % 2) b) (halved i) (even i)
    ∙ ap (λ b. bit_xor (bit_or (m / 2) (2 ^ i)) (2 ^ i) * 2 + b) (differ-none (m % 2)) in
    let low : bit_xor (bit_or m (2 ^ suc i)) (2 ^ suc i) % 2 ≡ m % 2 = omega (arith, gone) in
    let high : bit_xor (bit_or m (2 ^ suc i)) (2 ^ suc i) / 2 ≡ bit_xor (bit_or (m / 2) (2 ^ i)) (2 ^ i) = omega (arith, gone) in
    ap₂ (λ p q. cond (eqb p 1) x no_position ∷ where_set q xs) low high ∙ ap (λ l. cond (eqb (m % 2) 1) x no_position ∷ l) (set-gone (m / 2) xs i)

-- no bit is set
pub set-none : (rs : List ℕ) → where_set 0 rs ≡ replicate (length rs) no_position
unfolding where_set
set-none [] = refl
set-none (r ∷ rs) = ap (λ l. no_position ∷ l) (set-none rs)

pub set-length : (m : ℕ) (rs : List ℕ) → length (where_set m rs) ≡ length rs
unfolding where_set
set-length m [] = refl
set-length m (r ∷ rs) = ap suc (set-length (m / 2) rs)
