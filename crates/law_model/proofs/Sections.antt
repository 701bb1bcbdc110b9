-- A section of a model file, whatever its records: what is read of it has been checked, what has been checked is read back, and no
-- refusal has the number 0. Assumes nothing.
use mathlib.Core.Path.{◌≡◌, refl, sym, ap, ap₂, ◌∙◌, subst}
use Prim.Native.Nat.{ℕ, zero, suc, ◌+◌, ◌*◌, ◌^◌, ◌≤◌, ◌<◌}
use mathlib.Core.List.{List, ◌∷◌, ◌++◌, map, map-map, append_assoc}
use mathlib.Core.Bool.{Bool, true, not}
use native.Mathlib.Omega.{arith}
use lib.Dec.{ltb}
use lib.ListN.{length, drop, length-map, length-append}
use lib.Seq.{drop_at}
use borrow.Author.Tests.{ltb-false, le-ltb, not-false}
use Rattle.definition.specs.Lists.{concat, all, up_from}
use Rattle.definition.specs.Bytes.{Bytes, AllBytes, ok, number_at, bytes_of, chunks}
use Rattle.definition.specs.Limits.{count_size}
use Rattle.definition.specs.File.{section_bytes}
use Rattle.definition.specs.Pinned.Decoder.{Section, section_count, section}
use Rattle.law_base.proofs.Tests.{and-true}
use Rattle.law_base.proofs.Lists.{each}
use Rattle.law_base.proofs.Results.{bind_ok, refuse-ok, ok_same}
use Rattle.law_model.proofs.Codec.{take-bytes, drop-bytes, length-bytes, number-front, rows-length, rows_back, length-chunks}
use Rattle.law_model.proofs.WellFormed.{Checked}

-- ---- checks in a row that end well have all been passed

-- ---- a test on each number of a row of numbers

pub all-numbers : (p : ℕ → Bool) (k n : ℕ) → ((i : ℕ) → k ≤ i → i < k + n → p i ≡ true) → all p (up_from k n) ≡ true
unfolding all up_from
all-numbers p k zero h = refl
all-numbers p k (suc n) h = and-true (p k) _ (h k (omega arith) (omega arith)) (all-numbers p (suc k) n (λ i l b. h i (omega arith) (omega arith)))

-- ---- a section

module _ {A : Type 0} (size : ℕ) (wrong : ℕ → ℕ) (to : Bytes → A) (bytes : A → Bytes) (fits : List A → ℕ → Bool) (bad limit : ℕ) where
  -- What a section gives that was read of bytes.
  pub record Given (a : Section A) : Type 0 where
    pub right : wrong (length a.records) ≡ 0
    pub checked : Checked limit to bytes fits a.records
    pub rest_bytes : AllBytes a.rest

  count-ok : (s : Bytes) (n : ℕ) → section_count size wrong s ≡ ok n → wrong n ≡ 0
  unfolding section_count
  count-ok s n e =
      let k = number_at count_size 0 s in
      let e₁ = refuse-ok (ltb (length s) count_size) 1 _ n e in
      let e₂ = refuse-ok (ltb 0 (wrong k)) (wrong k) _ n e₁.1 in
      let e₃ = refuse-ok (ltb (length s) (count_size + k * size)) 1 _ n e₂.1 in
      ap wrong (sym (ok_same k n e₃.1)) ∙ omega (arith, ltb-false 0 (wrong k) e₂.0)

  held_rows : (n : ℕ) {s : Bytes} → AllBytes s → ((r : Bytes) → AllBytes r → to (bytes (to r)) ≡ to r)
      → map (λ x. to (bytes x)) (map to (chunks n size s)) ≡ map to (chunks n size s)
  unfolding chunks
  held_rows zero h k = refl
  held_rows (suc n) h k = ap₂ ◌∷◌ (k _ (take-bytes size h)) (held_rows n (drop-bytes size h) k)

  -- `within` and `kept` are the section's own part: a right count is within the limit, and a record read of bytes is kept by its bytes.
  pub section-given : (s : Bytes) (a : Section A) → AllBytes s → ((n : ℕ) → wrong n ≡ 0 → n ≤ limit)
      → ((r : Bytes) → AllBytes r → to (bytes (to r)) ≡ to r) → section size wrong to fits bad s ≡ ok a → Given a
  unfolding section
  section-given s a b within kept e =
      let C = bind_ok (section_count size wrong s) _ a e in
      let n = C.0 in
      let xs = map to (chunks n size (drop count_size s)) in
      let long : length xs ≡ n = length-map (chunks n size (drop count_size s)) to ∙ length-chunks n size (drop count_size s) in
      let right : wrong n ≡ 0 = count-ok s n C.1 in
      let e₁ = refuse-ok (not (all (fits xs) (up_from 0 n))) bad _ a C.2 in
      subst Given (ok_same _ a e₁.1)
      (record {
        right = ap wrong long ∙ right;
        checked = record {
          few = omega (arith, long, within n right);
          held = held_rows n (drop-bytes count_size b) kept;
          fit = λ i l. each (fits xs) 0 n (not-false (all (fits xs) (up_from 0 n)) e₁.0) i (omega arith) (omega (arith, long));
        };
        rest_bytes = drop-bytes (count_size + n * size) b;
      })

  pub section-back : ((x : A) → length (bytes x) ≡ size) → limit < 256 ^ count_size → (xs : List A) (rest : Bytes) → wrong (length xs) ≡ 0
      → Checked limit to bytes fits xs → section size wrong to fits bad (section_bytes bytes xs ++ rest) ≡ ok (record { records = xs; rest = rest })
  unfolding section section_count section_bytes
  section-back sized small xs rest right c =
      let n = length xs in
      let body = concat (map bytes xs) in
      let front = bytes_of count_size n in
      let s = (front ++ body) ++ rest in
      let shape : s ≡ front ++ (body ++ rest) = append_assoc front body rest in
      let two = length-bytes count_size n in
      let counted : number_at count_size 0 s ≡ n = rw shape (number-front count_size n (body ++ rest) (omega (arith, c.few, small))) in
      let whole : length (front ++ body) ≡ count_size + n * size = length-append front body ∙ ap₂ ◌+◌ two (rows-length size bytes sized xs) in
      let all-of-it = length-append (front ++ body) rest in
      let read : map to (chunks n size (drop count_size s)) ≡ xs
      = ap (λ r. map to (chunks n size r)) (ap (drop count_size) shape ∙ drop_at front (body ++ rest) count_size two)
      ∙ ap (map to) (rows_back size bytes sized xs rest) ∙ map-map to bytes xs ∙ c.held in
      rw (
        counted,
        right,
        le-ltb (length s) count_size (omega arith),
        le-ltb (length s) (count_size + n * size) (omega arith),
        read,
        all-numbers (fits xs) 0 n (λ i l b. c.fit i (omega arith)),
        drop_at (front ++ body) rest (count_size + n * size) whole,
      )
