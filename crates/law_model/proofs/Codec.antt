-- Numbers and rows written as bytes and read back, for every width and record size: what reading and writing of models and runs
-- stand on. Assumes nothing.
use mathlib.Core.Path.{◌≡◌, refl, ap, ap₂, ◌∙◌}
use Prim.Native.Nat.{ℕ, zero, suc, ◌+◌, ◌*◌, ◌/◌, ◌%◌, ◌^◌, ◌≤◌, ◌<◌}
use mathlib.Core.List.{List, [], ◌∷◌, ◌++◌, map, append_assoc}
use native.Mathlib.Omega.{arith}
use lib.ListN.{length, length-map, take, drop, length-append, length-take, length-drop}
use lib.Seq.{take_at, drop_at}
use borrow.Author.Tests.{ltb-true, lt-ltb}
use Rattle.definition.specs.Lists.{concat}
use Rattle.definition.specs.Bytes.{Bytes, AllBytes, none, more, little_endian, number_at, bytes_of, chunks}
use Rattle.definition.specs.Limits.{message_size}
use Rattle.definition.specs.Records.{message_at}
use Rattle.definition.specs.Engine.{to_bag}

-- ---- buffers of bytes

pub append-bytes : {x y : Bytes} → AllBytes x → AllBytes y → AllBytes (x ++ y)
append-bytes none k = k
append-bytes (more h t) k = more h (append-bytes t k)

pub take-bytes : (n : ℕ) {s : Bytes} → AllBytes s → AllBytes (take n s)
take-bytes zero h = none
take-bytes (suc n) none = none
take-bytes (suc n) (more h t) = more h (take-bytes n t)

pub drop-bytes : (n : ℕ) {s : Bytes} → AllBytes s → AllBytes (drop n s)
drop-bytes zero h = h
drop-bytes (suc n) none = none
drop-bytes (suc n) (more h t) = drop-bytes n t

-- ---- a number written

pub length-bytes : (w n : ℕ) → length (bytes_of w n) ≡ w
unfolding bytes_of
length-bytes zero n = refl
length-bytes (suc w) n = ap suc (length-bytes w (n / 256))

pub number-bytes : (w n : ℕ) → AllBytes (bytes_of w n)
unfolding bytes_of
number-bytes zero n = none
number-bytes (suc w) n = more (lt-ltb (n % 256) 256 (omega arith)) (number-bytes w (n / 256))

-- .. and read back: alone, at the front, and behind a front of known length
pub le_bytes : (w n : ℕ) → n < 256 ^ w → little_endian (bytes_of w n) ≡ n
unfolding bytes_of little_endian
le_bytes zero n h = omega arith
le_bytes (suc w) n h = let i = le_bytes w (n / 256) (omega arith) in omega arith

pub number-front : (w n : ℕ) (rest : Bytes) → n < 256 ^ w → number_at w 0 (bytes_of w n ++ rest) ≡ n
unfolding number_at
number-front w n rest h = rw (take_at (bytes_of w n) rest w (length-bytes w n)) (le_bytes w n h)

pub number_behind : (w at : ℕ) (front rest : Bytes) → length front ≡ at → number_at w at (front ++ rest) ≡ number_at w 0 rest
unfolding number_at
number_behind w at front rest e = rw (drop_at front rest at e)

-- ---- a number read

pub le-small : (w : ℕ) {s : Bytes} → AllBytes s → little_endian (take w s) < 256 ^ w
unfolding little_endian
le-small zero h = omega arith
le-small (suc w) none = let i = le-small w none in omega arith
le-small (suc w) (more {b = b} h t) = let i = le-small w t in omega (arith, ltb-true b 256 h)

bytes-of-le : (w : ℕ) {s : Bytes} → length s ≡ w → AllBytes s → bytes_of w (little_endian s) ≡ s
unfolding bytes_of little_endian
bytes-of-le zero e none = refl
bytes-of-le zero e (more h t) = absurd (omega arith)
bytes-of-le (suc w) e none = absurd (omega arith)
bytes-of-le (suc w) e (more {b = b} {bs = bs} h t) =
    let l = ltb-true b 256 h in
    let p : (b + 256 * little_endian bs) % 256 ≡ b = omega arith in
    let q : (b + 256 * little_endian bs) / 256 ≡ little_endian bs = omega arith in
    ap₂ ◌∷◌ p (ap (bytes_of w) q ∙ bytes-of-le w (omega arith) t)

-- .. and, where the buffer is long enough, the very bytes
pub number-written : (w at : ℕ) {s : Bytes} → at + w ≤ length s → AllBytes s → bytes_of w (number_at w at s) ≡ take w (drop at s)
unfolding number_at
number-written w at {s} l h = bytes-of-le w (length-take w (drop at s) ∙ omega (arith, length-drop at s)) (take-bytes w (drop-bytes at h))

-- ---- records of one size in a row

module _ {A : Type 0} (size : ℕ) (bytes : A → Bytes) (sized : (x : A) → length (bytes x) ≡ size) where
  pub rows-length : (xs : List A) → length (concat (map bytes xs)) ≡ length xs * size
  unfolding concat
  rows-length [] = omega arith
  rows-length (x ∷ xs) = omega (arith, sized x, rows-length xs, length-append (bytes x) (concat (map bytes xs)))

  pub rows_back : (xs : List A) (rest : Bytes) → chunks (length xs) size (concat (map bytes xs) ++ rest) ≡ map bytes xs
  unfolding chunks concat
  rows_back [] rest = refl
  rows_back (x ∷ xs) rest =
      let more = concat (map bytes xs) ++ rest in
      rw (append_assoc, take_at (bytes x) more size (sized x), drop_at (bytes x) more size (sized x), rows_back xs rest)

pub length-chunks : (n size : ℕ) (s : Bytes) → length (chunks n size s) ≡ n
unfolding chunks
length-chunks zero size s = refl
length-chunks (suc n) size s = ap suc (length-chunks n size (drop size s))

pub bag-length : (b : Bytes) → length (to_bag b) ≡ length b / message_size
unfolding to_bag
bag-length b = length-map (chunks (length b / message_size) message_size b) (message_at 0) ∙ length-chunks (length b / message_size) message_size b
