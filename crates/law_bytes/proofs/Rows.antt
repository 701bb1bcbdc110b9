-- Numbers in rows, and rows in a file: what a reader by positions sees of `number_at` and `chunks`; numbers as a writer stores them.
-- Assumes nothing.
use mathlib.Core.Path.{◌≡◌, refl, sym, ap, ◌∙◌}
use mathlib.Core.List.{[], ◌∷◌}
use Prim.Native.Nat.{ℕ, zero, suc, ◌+◌, ◌*◌, ◌-◌, ◌/◌, ◌%◌, ◌^◌, ◌≤◌, ◌<◌}
use native.Mathlib.Omega.{arith}
use native.Mathlib.Nat.{pow-succ', pow-le-pow_right, add-zero, zero-add, mul_assoc, sub-zero}
use lib.ListN.{length, take, drop, get_or, set}
use lib.Seq.{take-nil, get_or-drop, drop-drop, take-take, sets}
use Rattle.definition.specs.Bytes.{Bytes, little_endian, number_at, chunks, bytes_of}
use Rattle.law_bytes.specs.Parts.{row}

-- ---- numbers

le-front : (w : ℕ) (s : Bytes) → little_endian (take (suc w) s) ≡ get_or s 0 0 + 256 * little_endian (take w (drop 1 s))
unfolding little_endian
le-front w [] = rw (take-nil w)
le-front w (b ∷ s) = refl

-- A number is its first byte and the number after it, also past the end.
pub number_more : (w at : ℕ) (s : Bytes) → number_at (suc w) at s ≡ get_or s at 0 + 256 * number_at w (at + 1) s
unfolding number_at
number_more w at s = le-front w (drop at s) ∙ rw (get_or-drop at s 0 0, drop-drop 1 at s, add-zero)

pub number-none : (at : ℕ) (s : Bytes) → number_at 0 at s ≡ 0
unfolding number_at little_endian
number-none at s = refl

pub number-one : (at : ℕ) (s : Bytes) → number_at 1 at s ≡ get_or s at 0
number-one at s = omega (arith, number_more 0 at s, number-none (at + 1) s)

-- A number's low bytes, and those above them.
pub number-parts : (a b at : ℕ) (s : Bytes) → number_at (a + b) at s ≡ number_at a at s + 256 ^ a * number_at b (at + a) s
number-parts zero b at s = rw (add-zero, zero-add, number-none at s) (omega arith)
number-parts (suc a) b at s =
    let above = number_at b (at + suc a) s in
    let e : at + 1 + a ≡ at + suc a = omega arith in
    let tail : number_at (a + b) (at + 1) s ≡ number_at a (at + 1) s + 256 ^ a * above
    = number-parts a b (at + 1) s ∙ ap (λ k. number_at a (at + 1) s + 256 ^ a * number_at b k s) e in
    let scaled : 256 ^ suc a * above ≡ 256 * (256 ^ a * above) = rw pow-succ' (mul_assoc 256 (256 ^ a) above) in
    let n : suc a + b ≡ suc (a + b) = omega arith in
    ap (λ k. number_at k at s) n ∙ omega (arith, number_more (a + b) at s, number_more a at s, tail, scaled)

-- w bytes hold a number below 256 to the w.
pub number-below : (w at : ℕ) (s : Bytes) → ((i : ℕ) → get_or s i 0 < 256) → number_at w at s < 256 ^ w
number-below zero at s b = rw (number-none at s) (omega arith)
number-below (suc w) at s b = rw (number_more w at s, pow-succ') (omega (arith, number-below w (at + 1) s b, b at))

-- A number of at most m bytes.
pub number_fits : (m : ℕ) {w : ℕ} → w ≤ m → (at : ℕ) (s : Bytes) → ((i : ℕ) → get_or s i 0 < 256) → number_at w at s < 256 ^ m
number_fits m {w} h at s b =
    let p : 256 ^ w ≤ 256 ^ m = pow-le-pow_right (omega arith) h in
    omega (arith, number-below w at s b, p)

-- One byte more in front, as a loop from the last byte to the first takes it.
pub number-back : (n k : ℕ) (s : Bytes) → 0 < k → k ≤ n → number_at (n - (k - 1)) (k - 1) s ≡ number_at 1 (k - 1) s + 256 * number_at (n - k) k s
number-back n k s p h =
    let e : n - (k - 1) ≡ suc (n - k) = omega arith in
    let f : k - 1 + 1 ≡ k = omega arith in
    rw (e, number_more (n - k) (k - 1) s, f, number-one (k - 1) s)

-- A number at a position is the number at the front of the rest from there.
pub number-drop : (w at : ℕ) (s : Bytes) → number_at w 0 (drop at s) ≡ number_at w at s
unfolding number_at
number-drop w at s = rw (drop-drop 0 at s, add-zero)

-- A byte stored, and the rest of the number from the next position on.
pub sets_more : (n k w : ℕ) (d : Bytes) (at : ℕ) → k < n
    → sets (set d (at + k) (w % 256)) (at + (k + 1)) (bytes_of (n - (k + 1)) (w / 256)) ≡ sets d (at + k) (bytes_of (n - k) w)
unfolding bytes_of
sets_more n k w d at h =
    let e : n - k ≡ suc (n - (k + 1)) = omega arith in
    let f : at + (k + 1) ≡ suc (at + k) = omega arith in
    rw (e, f)

pub bytes-none : (v : ℕ) → bytes_of 0 v ≡ []
unfolding bytes_of
bytes-none v = refl

-- ---- a row cut out of a file reads as the file does

pub drop-take : (a n : ℕ) (s : Bytes) → drop a (take n s) ≡ take (n - a) (drop a s)
drop-take zero n s = rw sub-zero
drop-take (suc a) zero s = let e : 0 - suc a ≡ 0 = omega arith in rw e
drop-take (suc a) (suc n) [] = sym (take-nil (suc n - suc a))
drop-take (suc a) (suc n) (b ∷ s) = let e : suc n - suc a ≡ n - a = omega arith in rw e (drop-take a n s)

pub number-row : (w at size k : ℕ) (s : Bytes) → at + w ≤ size → number_at w at (row size k s) ≡ number_at w (size * k + at) s
unfolding number_at row
number-row w at size k s h =
    rw (drop-take at size (drop (size * k) s), take-take w (size - at) (drop at (drop (size * k) s)) (omega arith), drop-drop at (size * k) s)

-- ---- a list of rows: its length, a row of it, and its bytes alone

pub length-rows : (size n : ℕ) (s : Bytes) → length (chunks n size s) ≡ n
unfolding chunks
length-rows size zero s = refl
length-rows size (suc n) s = ap suc (length-rows size n (drop size s))

row_drop : (size k : ℕ) (s : Bytes) → row size k (drop size s) ≡ row size (suc k) s
unfolding row
row_drop size k s = let e : size * suc k ≡ size + size * k = omega arith in rw (e, drop-drop (size * k) size s)

pub get_d_rows : (size n k : ℕ) (s d : Bytes) → k < n → get_or (chunks n size s) k d ≡ row size k s
unfolding chunks row
get_d_rows size zero k s d h = absurd (omega arith)
get_d_rows size (suc n) zero s d h = let e : size * 0 ≡ 0 = omega arith in rw e
get_d_rows size (suc n) (suc k) s d h = get_d_rows size n k (drop size s) d (omega arith) ∙ row_drop size k s

pub rows-alone : (size n : ℕ) (s : Bytes) → chunks n size (take (n * size) s) ≡ chunks n size s
unfolding chunks
rows-alone size zero s = refl
rows-alone size (suc n) s =
    let e : suc n * size ≡ size + n * size = omega arith in
    let f : size + n * size - size ≡ n * size = omega arith in
    rw (e, take-take size (size + n * size) s (omega arith), drop-take size (size + n * size) s, f, rows-alone size n (drop size s))
