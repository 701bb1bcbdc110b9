-- The bytes of a record piece by piece: what each store adds, how long the pieces are, and the buffer after a step. Assumes nothing.
use mathlib.Core.Path.{◌≡◌, refl, ◌∙◌, sym, ap}
use mathlib.Core.List.{List, [], ◌∷◌, ◌++◌, map}
use mathlib.Core.Bool.{Bool, true, false, cond}
use Prim.Native.Nat.{ℕ, zero, suc, ◌+◌, ◌*◌, ◌/◌, ◌%◌, ◌≤◌, ◌<◌}
use native.Mathlib.Omega.{arith}
use lib.Dec.{leb}
use lib.ListN.{length, length-append, length-map, get_or, take}
use lib.Seq.{sets, length-take-le, slice, slice-cons, slice_empty}
use borrow.Author.Tests.{le-leb, lt-leb}
use Rattle.definition.specs.Bytes.{Bytes, bytes_of, laid_out}
use Rattle.definition.specs.Lists.{concat}
use Rattle.definition.specs.Model.{Message}
use Rattle.definition.specs.Records.{message_bytes}
use Rattle.definition.specs.Instant.{record_bytes}
use Rattle.law_model.proofs.Codec.{length-bytes, rows-length}
use Rattle.law_stores.proofs.Stores.{sets-append}
use Rattle.law_base.specs.Keys.{message_of}
use Rattle.instant_records.specs.Written.{record_of, step_bytes, step_size, step_put}

-- ---- messages

abbrev pub key_bytes : List ℕ → Bytes
key_bytes keys = concat (map message_bytes (map message_of keys))

message-parts : (k : ℕ) → message_bytes (message_of k) ≡ bytes_of 1 (k / 65536) ++ bytes_of 2 (k % 65536)
unfolding message_bytes laid_out bytes_of message_of
message-parts k = refl

-- A message stored, and the rest from the next position on.
pub key_more : (ks : List ℕ) (count i at : ℕ) (d : List ℕ) → i < count → count ≤ length ks
    → sets (sets (sets d (at + 3 * i) (bytes_of 1 (get_or ks i 0 / 65536))) (at + 3 * i + 1) (bytes_of 2 (get_or ks i 0 % 65536))) (at + 3 * (i + 1)) (key_bytes (slice (i + 1) count ks))
    ≡ sets d (at + 3 * i) (key_bytes (slice i count ks))
unfolding concat
key_more ks count i at d h l =
    let k = get_or ks i 0 in
    let p = bytes_of 1 (k / 65536) in
    let v = bytes_of 2 (k % 65536) in
    let s : suc i ≡ i + 1 = omega arith in
    let e : slice i count ks ≡ k ∷ slice (i + 1) count ks = slice-cons i count ks 0 h l ∙ ap (λ (j : ℕ). k ∷ slice j count ks) s in
    let lp : length p ≡ 1 = length-bytes 1 (k / 65536) in
    let la : length (p ++ v) ≡ 3 = length-append p v ∙ rw (lp, length-bytes 2 (k % 65536)) in
    let f : at + 3 * (i + 1) ≡ at + 3 * i + 3 = omega arith in
    let r = key_bytes (slice (i + 1) count ks) in
    let g : sets d (at + 3 * i) (p ++ v ++ r) ≡ sets (sets (sets d (at + 3 * i) p) (at + 3 * i + 1) v) (at + 3 * i + 3) r
    = sets-append (p ++ v) r d (at + 3 * i) ∙ rw (la, sets-append p v d (at + 3 * i), lp) in
    rw (e, f) (sym g ∙ ap (λ b. sets d (at + 3 * i) (b ++ r)) (sym (message-parts k)))

pub key-none : (ks : List ℕ) (count at : ℕ) (d : List ℕ) → sets d at (key_bytes (slice count count ks)) ≡ d
unfolding concat
key-none ks count at d = rw slice_empty

size-of-message : (x : Message) → length (message_bytes x) ≡ 3
unfolding message_bytes laid_out bytes_of
size-of-message x = refl

length-keys : (ks : List ℕ) → length (key_bytes ks) ≡ 3 * length ks
length-keys ks = omega (arith, rows-length 3 message_bytes size-of-message (map message_of ks), length-map ks message_of)

-- ---- records

length-record : (now k : ℕ) (ks : List ℕ) → length (record_bytes (record_of now k ks)) ≡ 12 + 3 * length ks
unfolding record_bytes record_of
length-record now k ks =
    let a = bytes_of 8 now in
    let b = bytes_of 2 k in
    let d = bytes_of 2 (length (map message_of ks)) in
    omega (arith, length-append (a ++ b ++ d) (key_bytes ks), length-append (a ++ b) d, length-append a b, length-bytes 8 now, length-bytes 2 k, length-bytes 2 (length (map message_of ks)), length-keys ks)

-- A record stored field by field.
pub record-puts : (now k count at : ℕ) (ks out : List ℕ) → length ks ≡ count
    → sets (sets (sets (sets out at (bytes_of 8 now)) (at + 8) (bytes_of 2 k)) (at + 10) (bytes_of 2 count)) (at + 12) (key_bytes ks)
    ≡ sets out at (record_bytes (record_of now k ks))
unfolding record_bytes record_of
record-puts now k count at ks out e =
    let a = bytes_of 8 now in
    let b = bytes_of 2 k in
    let d = bytes_of 2 count in
    let la : length a ≡ 8 = length-bytes 8 now in
    let lb : length (a ++ b) ≡ 10 = omega (arith, length-append a b, la, length-bytes 2 k) in
    let ld : length (a ++ b ++ d) ≡ 12 = omega (arith, length-append (a ++ b) d, lb, length-bytes 2 count) in
    let g : sets out at (a ++ b ++ d ++ key_bytes ks) ≡ sets (sets (sets (sets out at a) (at + 8) b) (at + 10) d) (at + 12) (key_bytes ks)
    = sets-append (a ++ b ++ d) (key_bytes ks) out at ∙ rw (ld, sets-append (a ++ b) d out at, lb, sets-append a b out at, la) in
    rw (length-map ks message_of, e) (sym g)

-- ---- steps

pub size_none : (count : ℕ) → count ≡ 0 → step_size count ≡ 0
unfolding step_size
size_none count e = rw e

pub size-some : (count : ℕ) → (count ≡ 0 → ⊥) → step_size count ≡ 12 + 3 * count
unfolding step_size
size-some zero z = absurd (z refl)
size-some (suc n) z = refl

pub size-most : (count : ℕ) → step_size count ≤ 12 + 3 * count
unfolding step_size
size-most zero = omega arith
size-most (suc n) = omega arith

size_of : (now k : ℕ) (ks : List ℕ) → length (step_bytes now k ks) ≡ step_size (length ks)
unfolding step_bytes step_size
size_of now k [] = refl
size_of now k (x ∷ ks) = length-record now k (x ∷ ks)

-- The bytes of a step have its size.
pub length-step : (now k count : ℕ) (ks : List ℕ) → count ≤ length ks → length (step_bytes now k (take count ks)) ≡ step_size count
length-step now k count ks h = size_of now k (take count ks) ∙ ap step_size (length-take-le count ks h)

-- A step without messages stores nothing.
pub put-none : (now k count used : ℕ) (ks out : List ℕ) → count ≡ 0 → out ≡ step_put now k ks count used out
unfolding step_put step_bytes
put-none now k count used ks out e = rw e (go (leb (used + step_size 0) (length out)))
  where
    go : (b : Bool) → out ≡ cond b out out
    go true = refl
    go false = refl

module _ (now k count used : ℕ) (ks out : List ℕ) where
  -- Where it fits its record is stored.
  pub put-fits : (count ≡ 0 → ⊥) → count ≤ length ks → used + 12 + 3 * count ≤ length out
      → sets out used (record_bytes (record_of now k (take count ks))) ≡ step_put now k ks count used out
  unfolding step_put step_bytes
  put-fits z l f =
      let e = size-some count z in
      rw (le-leb (used + step_size count) (length out) (omega arith)) (go (take count ks) (length-take-le count ks l))
    where
      go : (xs : List ℕ) → length xs ≡ count → sets out used (record_bytes (record_of now k xs)) ≡ sets out used (step_bytes now k xs)
      go [] e = absurd (z (sym e))
      go (x ∷ xs) e = refl

  -- Where it does not, nothing is.
  pub put_out_lem : (count ≡ 0 → ⊥) → length out < used + 12 + 3 * count → out ≡ step_put now k ks count used out
  unfolding step_put
  put_out_lem z f =
      let e = size-some count z in
      rw (lt-leb (used + step_size count) (length out) (omega arith))
