-- Pieces stored one after the other into a buffer, and what the buffer is before and behind them. Assumes nothing.
use mathlib.Core.Path.{◌≡◌, ◌∙◌}
use mathlib.Core.List.{List, [], ◌∷◌, ◌++◌}
use Prim.Native.Nat.{ℕ, suc, ◌+◌, ◌≤◌, ◌<◌}
use native.Mathlib.Omega.{arith}
use native.Mathlib.Nat.{add-zero}
use lib.ListN.{length, length-append, set, get_or, take, drop}
use lib.Seq.{sets, sets-eq, length-take-le, take_at, drop_at, slice, slice-cons, slice_empty}
use Rattle.definition.specs.Bytes.{Bytes, stored}

-- Two pieces, the second where the first ends.
pub sets-append : (xs ys b : List ℕ) (at : ℕ) → sets b at (xs ++ ys) ≡ sets (sets b at xs) (at + length xs) ys
sets-append [] ys b at = rw add-zero
sets-append (x ∷ xs) ys b at =
    let e : at + suc (length xs) ≡ suc at + length xs = omega arith in
    rw e (sets-append xs ys (set b at x) (suc at))

module _ (b xs : Bytes) (at : ℕ) (h : at + length xs ≤ length b) where
  front-size : length (take at b ++ xs) ≡ at + length xs
  front-size = omega (arith, length-append (take at b) xs, length-take-le at b (omega arith))

  -- Before the end of what is stored, and behind it.
  pub take-sets : take (at + length xs) (sets b at xs) ≡ take at b ++ xs
  take-sets = rw (sets-eq xs b at h) (take_at (take at b ++ xs) (drop (at + length xs) b) (at + length xs) front-size)

  pub drop-sets : drop (at + length xs) (sets b at xs) ≡ drop (at + length xs) b
  drop-sets = rw (sets-eq xs b at h) (drop_at (take at b ++ xs) (drop (at + length xs) b) (at + length xs) front-size)

-- A store at the front.
pub sets-front : (b xs : Bytes) → length xs ≤ length b → sets b 0 xs ≡ stored xs b
unfolding stored
sets-front b xs h = let z : 0 + length xs ≡ length xs = omega arith in sets-eq xs b 0 (rw z h) ∙ rw z

-- A copy from a position on: one element more, and none left.
pub copy_more : (s : List ℕ) (n i at : ℕ) (d : List ℕ) → i < n → n ≤ length s
    → sets (set d (at + i) (get_or s i 0)) (at + (i + 1)) (slice (i + 1) n s) ≡ sets d (at + i) (slice i n s)
copy_more s n i at d h l =
    let f : at + (i + 1) ≡ suc (at + i) = omega arith in
    let g : i + 1 ≡ suc i = omega arith in
    rw (slice-cons i n s 0 h l, f, g)

pub copy-none : (s : List ℕ) (n at : ℕ) (d : List ℕ) → sets d at (slice n n s) ≡ d
copy-none s n at d = rw slice_empty
