-- A section as its reader meets it: the number of its head, then the records from number i on. One law for all sections, over the size,
-- the numbers of counts, the record and its test. Assumes nothing.
use mathlib.Core.Path.{◌≡◌, refl, sym, ap, ◌∙◌}
use mathlib.Core.List.{List, map}
use mathlib.Core.Bool.{Bool, true, false, not}
use Prim.Native.Nat.{ℕ, ◌+◌, ◌*◌, ◌-◌, ◌≤◌, ◌<◌}
use native.Mathlib.Omega.{arith}
use lib.Dec.{ltb}
use lib.ListN.{length, drop}
use borrow.Author.Tests.{ltb-false, ltb-true}
use Rattle.definition.specs.Lists.{all, up_from}
use Rattle.definition.specs.Bytes.{Bytes, Result, ok, refused, ◌>>=◌, refuse_if, number_at, chunks, number_of}
use Rattle.definition.specs.Limits.{count_size}
use Rattle.definition.specs.Pinned.Decoder.{Section, section_count, section}
use Rattle.law_bytes.specs.Parts.{records_in, part_of, rest_after}
use Rattle.law_bytes.proofs.Alls.{all-no, all_end}
use Rattle.law_bytes.proofs.Refusals.{number-refused}
use Rattle.law_bytes.proofs.Records.{part-records, part_count, length-records}

-- The count that a section announces.
abbrev pub announced : Bytes → ℕ
announced s = number_at count_size 0 s

-- A head without a refusal: its count is right, and its records are there.
pub head_ok : (size : ℕ) (w : ℕ → ℕ) (s : Bytes) → number_of (section_count size (λ _. w (announced s)) s) ≡ 0
    → (section_count size w s ≡ ok (announced s)) × (w (announced s) ≡ 0) × (count_size + announced s * size ≤ length s)
unfolding section_count
head_ok size w s = go (ltb (length s) count_size) (ltb 0 (w (number_at count_size 0 s))) refl (ltb (length s) (count_size + number_at count_size 0 s * size)) refl
  where
    go : (a b : Bool) → ltb 0 (w (number_at count_size 0 s)) ≡ b → (c : Bool) → ltb (length s) (count_size + number_at count_size 0 s * size) ≡ c
        → number_of (refuse_if a 1 >>= λ _. refuse_if b (w (number_at count_size 0 s)) >>= λ _. refuse_if c 1 >>= λ _. ok (number_at count_size 0 s)) ≡ 0
        → ((refuse_if a 1 >>= λ _. refuse_if b (w (number_at count_size 0 s)) >>= λ _. refuse_if c 1 >>= λ _. ok (number_at count_size 0 s)) ≡ ok (number_at count_size 0 s))
        × (w (number_at count_size 0 s) ≡ 0) × (count_size + number_at count_size 0 s * size ≤ length s)
    go true b f c g e = absurd (omega arith)
    go false true f c g e = let l = ltb-true 0 (w (number_at count_size 0 s)) f in absurd (omega arith)
    go false false f true g e = absurd (omega arith)
    go false false f false g e =
        let l = ltb-false 0 (w (number_at count_size 0 s)) f in
        let k = ltb-false (length s) (count_size + number_at count_size 0 s * size) g in
        (refl, omega arith, k)

-- Only the number of the announced count matters.
same_count : (size : ℕ) (w : ℕ → ℕ) (s : Bytes) → section_count size (λ _. w (announced s)) s ≡ section_count size w s
unfolding section_count
same_count size w s = refl

module _ {A : Type 0} (size : ℕ) (w : ℕ → ℕ) (to : Bytes → A) (fits : List A → ℕ → Bool) (bad : ℕ) (s : Bytes) where
  abbrev pub own : List A
  own = records_in size to (part_of size (announced s) s)

  abbrev pub given : Section A
  given = record { records = own; rest = rest_after size (announced s) s }

  -- A head with a refusal.
  pub section-head : {n : ℕ} → n ≡ number_of (section_count size (λ _. w (announced s)) s) → (n ≡ 0 → ⊥) → section size w to fits bad s ≡ refused n
  unfolding section section_count
  section-head e z = rw (number-refused (section_count size w s) e z)

  module _ (pos : 0 < size) (head : number_of (section_count size (λ _. w (announced s)) s) ≡ 0) where
    section-is : (b : Bool) → all (fits own) (up_from 0 (announced s)) ≡ b → section size w to fits bad s ≡ (refuse_if (not b) bad >>= λ _. ok given)
    unfolding section rest_after
    section-is b e =
        let h = head_ok size w s head in
        let f = part-records size to pos (announced s) s h.2 in
        rw (h.0, ← f, e)

    -- The records before i pass, and i does not.
    pub section-bad : (i : ℕ) → i < announced s → all (fits own) (up_from i (announced s - i)) ≡ all (fits own) (up_from 0 (announced s))
        → fits own i ≡ false → section size w to fits bad s ≡ refused bad
    section-bad i l e f = section-is false (sym e ∙ all-no (fits own) i (announced s) l f)

    -- All of them pass.
    pub section-good : (i : ℕ) → announced s ≤ i → all (fits own) (up_from i (announced s - i)) ≡ all (fits own) (up_from 0 (announced s))
        → section size w to fits bad s ≡ ok given
    section-good i l e = section-is true (sym e ∙ all_end (fits own) i (announced s) l)

-- What an accepted section gives: the records of its part, of a right count, all there, and each within its lines.
pub record Gives {A : Type 0} (size : ℕ) (w : ℕ → ℕ) (to : Bytes → A) (fits : List A → ℕ → Bool) (s : Bytes) (x : Section A) : Type 0 where
  pub is : x ≡ record { records = records_in size to (part_of size (announced s) s); rest = rest_after size (announced s) s }
  pub right : w (announced s) ≡ 0
  pub whole : count_size + announced s * size ≤ length s
  pub count : length (records_in size to (part_of size (announced s) s)) ≡ announced s
  pub each : all (fits (records_in size to (part_of size (announced s) s))) (up_from 0 (announced s)) ≡ true

pub section-gives : {A : Type 0} (size : ℕ) (w : ℕ → ℕ) (to : Bytes → A) (fits : List A → ℕ → Bool) (bad : ℕ) (s : Bytes) {x : Section A} → 0 < size
    → section size w to fits bad s ≡ ok x → Gives size w to fits s x
unfolding section rest_after
section-gives {A} size w to fits bad s {x} pos e = go (section_count size w s) refl
  where
    xs : List A
    xs = map to (chunks (announced s) size (drop count_size s))

    tested : (b : Bool) → all (fits xs) (up_from 0 (announced s)) ≡ b
        → (refuse_if (not b) bad >>= λ _. ok (record { records = xs; rest = drop (count_size + announced s * size) s })) ≡ ok x
        → (all (fits xs) (up_from 0 (announced s)) ≡ true) × (x ≡ record { records = xs; rest = drop (count_size + announced s * size) s })
    tested true f g = (f, cc)
    tested false f g = let z : ◌≡◌ {A = ℕ} 0 1 = cc in absurd (omega arith)

    go : (r : Result ℕ) → section_count size w s ≡ r → Gives size w to fits s x
    go (refused n) f = let g = rw f at e in let z : ◌≡◌ {A = ℕ} 0 1 = cc in absurd (omega arith)
    go (ok n) f =
        let h = head_ok size w s (rw (same_count size w s) (ap number_of f)) in
        let g = rw h.0 at e in
        let t = tested (all (fits xs) (up_from 0 (announced s))) refl g in
        let p = part-records size to pos (announced s) s h.2 in
        record {
          is = rw p t.1;
          right = h.1;
          whole = h.2;
          count = length-records size to (part_of size (announced s) s) ∙ part_count size to pos (announced s) s h.2;
          each = rw p t.0;
        }
