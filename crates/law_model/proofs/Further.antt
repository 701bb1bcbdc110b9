-- What follows the couplings: the bytes of a fifth section are read to the reading that they stand for, and what was read is spelled by them.
-- Assumes nothing.
use mathlib.Core.Path.{◌≡◌, refl, subst}
use Prim.Native.Nat.{◌+◌, ◌*◌}
use mathlib.Core.List.{List, [], ◌∷◌, ◌++◌}
use mathlib.Core.Bool.{Bool, true, false, ◌&&◌, not}
use native.Mathlib.Omega.{arith}
use lib.Dec.{leb, ltb, eqb}
use lib.ListN.{length, drop}
use borrow.Author.Tests.{eqb-true, le-leb}
use Rattle.definition.specs.Lists.{all, concat}
use Rattle.definition.specs.Bytes.{Bytes, ok, ◌>>=◌, refuse_if, number_at, little_endian, bytes_of}
use Rattle.definition.specs.Limits.{half_open_byte, count_size, fifth_size}
use Rattle.definition.specs.Model.{Rule, RangeReading, inclusive, half_open}
use Rattle.definition.specs.File.{section_bytes, ranges_bytes}
use Rattle.definition.specs.Pinned.Decoder.{is_fifth, fifth_section, elapsed_fits, end_of_file, further_sections}
use Rattle.law_base.proofs.Results.{bind_ok, refuse-ok, ok_same}
use Rattle.law_base.proofs.Tests.{clash, not-failed, and_left, and_right}

-- ---- the section by itself

pub fifth-read : (rest : Bytes) → fifth_section (ranges_bytes half_open ++ rest) ≡ ok (record { ranges = half_open; rest = rest })
unfolding fifth_section is_fifth ranges_bytes section_bytes bytes_of number_at little_endian concat
fifth-read rest = rw (le-leb fifth_size (length (1 ∷ 0 ∷ 2 ∷ rest)) (omega arith))

fifth-back : (r : RangeReading) → fifth_section (ranges_bytes r) ≡ ok (record { ranges = r; rest = [] })
unfolding fifth_section ranges_bytes section_bytes bytes_of concat
fifth-back inclusive = refl
fifth-back half_open = fifth-read []

-- "count 1, then the byte 2": numbers that say so are no others, bytes or not.
pub fifth-spelled : (s : Bytes) → is_fifth s ≡ true → s ≡ ranges_bytes half_open ++ drop fifth_size s
unfolding is_fifth ranges_bytes section_bytes bytes_of number_at little_endian concat
fifth-spelled [] e = absurd (clash e refl)
fifth-spelled (a ∷ []) e = absurd (clash e refl)
fifth-spelled (a ∷ b ∷ []) e = absurd (clash e refl)
fifth-spelled (a ∷ b ∷ c ∷ s) e =
    let l = a ∷ b ∷ c ∷ s in
    let long = leb fifth_size (length l) in
    let counted = eqb (number_at count_size 0 l) 1 in
    let count : a + 256 * (b + 256 * 0) ≡ 1 = eqb-true _ 1 (and_right long counted (and_left (long && counted) _ e)) in
    let byte : c + 256 * 0 ≡ half_open_byte = eqb-true _ half_open_byte (and_right (long && counted) _ e) in
    let x : a ≡ 1 = omega arith in
    let y : b ≡ 0 = omega arith in
    let z : c ≡ 2 = omega arith in
    rw (x, y, z)

-- ---- with the test of equal ends, and the end of the file

pub further-back : (rs : List Rule) (r : RangeReading) → all (elapsed_fits r) rs ≡ true → further_sections rs (ranges_bytes r) ≡ ok r
unfolding further_sections end_of_file
further-back rs r e = rw (fifth-back r, e)

pub further-given : (rs : List Rule) (s : Bytes) (r : RangeReading) → further_sections rs s ≡ ok r → all (elapsed_fits r) rs ≡ true
unfolding further_sections end_of_file
further-given rs s r e =
    let a = bind_ok (fifth_section s) _ r e in
    let b = refuse-ok (not (all (elapsed_fits a.0.ranges) rs)) 7 _ r a.2 in
    let c = refuse-ok (ltb 0 (length a.0.rest)) 2 _ r b.1 in
    subst (λ (q : RangeReading). all (elapsed_fits q) rs ≡ true) (ok_same a.0.ranges r c.1) (not-failed (all (elapsed_fits a.0.ranges) rs) b.0)

-- Where something follows the couplings, these tests are made in this order: is it a fifth section, do the ends differ, is a byte left over.
pub in_order_lem : (rs : List Rule) (s : Bytes) → (length s ≡ 0 → ⊥)
    → further_sections rs s ≡ (refuse_if (not (is_fifth s)) 20 >>= λ _. refuse_if (not (all (elapsed_fits half_open) rs)) 7 >>= λ _. end_of_file (drop fifth_size s) >>= λ _. ok half_open)
unfolding further_sections fifth_section
in_order_lem rs [] h = absurd (h refl)
in_order_lem rs (b ∷ s) h = go (is_fifth (b ∷ s)) refl
  where
    go : (t : Bool) → is_fifth (b ∷ s) ≡ t
        → further_sections rs (b ∷ s) ≡ (refuse_if (not (is_fifth (b ∷ s))) 20 >>= λ _. refuse_if (not (all (elapsed_fits half_open) rs)) 7 >>= λ _. end_of_file (drop fifth_size (b ∷ s)) >>= λ _. ok half_open)
    go true e = rw e
    go false e = rw e
