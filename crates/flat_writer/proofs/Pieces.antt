-- Records stored one after the other, and records whose bytes are copied from where they were read. Assumes nothing.
use mathlib.Core.Path.{◌≡◌, refl, sym, ap, ap₂, ◌∙◌}
use Prim.Native.Nat.{ℕ, suc, ◌+◌, ◌*◌, ◌≤◌, ◌<◌}
use mathlib.Core.List.{List, [], ◌∷◌, ◌++◌, map}
use native.Mathlib.Omega.{arith}
use lib.ListN.{length, get_or, take, drop, drop_of_length-le}
use lib.Seq.{sets, drop-cons}
use Rattle.definition.specs.Lists.{concat, sum}
use Rattle.definition.specs.Bytes.{Bytes, AllBytes, number_at, bytes_of, chunks, laid_out}
use Rattle.definition.specs.Limits.{phase_size, rule_size}
use Rattle.definition.specs.Records.{phase_bytes, rule_bytes}
use Rattle.definition.specs.Pinned.Decoder.{to_phase, to_rule}
use Rattle.law_model.proofs.Layouts.{fields_at, fields-written}
use Rattle.law_model.proofs.Rows.{rows_written}
use Rattle.law_model.proofs.Spellings.{phase-spelled}
use Rattle.law_stores.proofs.Stores.{sets-append}
use Rattle.flat_ranks.specs.Ranks.{rank_of}
use Rattle.flat_writer.specs.Written.{rule_by}

-- ---- records one after the other, each of `size` bytes

-- The first i stand: those left, stored behind them, give the whole.
pub record Standing {A : Type 0} (size : ℕ) (bytes : A → Bytes) (xs : List A) (at : ℕ) (b : Bytes) (i : ℕ) (out : Bytes) : Type 0 where
  pub long : length out ≡ length b
  pub left : sets out (at + size * i) (concat (map bytes (drop i xs))) ≡ sets b at (concat (map bytes xs))

module _ {A : Type 0} (size : ℕ) (bytes : A → Bytes) (sized : (x : A) → length (bytes x) ≡ size) where
  -- one more
  pub records-more : (xs : List A) (i at : ℕ) (d : A) (b : Bytes) → i < length xs
      → sets (sets b (at + size * i) (bytes (get_or xs i d))) (at + size * (i + 1)) (concat (map bytes (drop (i + 1) xs)))
      ≡ sets b (at + size * i) (concat (map bytes (drop i xs)))
  records-more xs i at d b l =
      let e : i + 1 ≡ suc i = omega arith in
      let n : at + size * (i + 1) ≡ at + size * i + length (bytes (get_or xs i d)) = place ∙ ap (λ k. at + size * i + k) (sym (sized (get_or xs i d))) in
      ap₂ (λ k j. sets (sets b (at + size * i) (bytes (get_or xs i d))) k (concat (map bytes (drop j xs)))) n e
      ∙ sym (sets-append (bytes (get_or xs i d)) (concat (map bytes (drop (suc i) xs))) b (at + size * i))
      ∙ ap (sets b (at + size * i)) (one (drop-cons xs i d l))
    where
      place : at + size * (i + 1) ≡ at + size * i + size
      place = ap (λ k. at + size * k) (let e : i + 1 ≡ suc i = omega arith in e) ∙ (let m : size * suc i ≡ size + size * i = omega arith in ap (λ k. at + k) m ∙ omega arith)

      one : drop i xs ≡ get_or xs i d ∷ drop (suc i) xs → bytes (get_or xs i d) ++ concat (map bytes (drop (suc i) xs)) ≡ concat (map bytes (drop i xs))
      one h = rw h (unfold concat in refl)

  -- none left
  pub records-none : (xs : List A) (i at : ℕ) (b : Bytes) → length xs ≤ i → sets b at (concat (map bytes (drop i xs))) ≡ b
  records-none xs i at b l = rw (drop_of_length-le xs l) (unfold concat in refl)

  module _ (xs : List A) (at : ℕ) (b : Bytes) where
    pub none-stands : Standing size bytes xs at b 0 b
    none-stands = let e : at + size * 0 ≡ at = omega arith in record { long = refl; left = rw e }

    pub one_more : (i : ℕ) (out next : Bytes) (d : A) → i < length xs → next ≡ sets out (at + size * i) (bytes (get_or xs i d)) → length next ≡ length out
        → Standing size bytes xs at b i out → Standing size bytes xs at b (i + 1) next
    one_more i out next d h e l s =
        record { long = l ∙ s.long; left = ap (λ o. sets o (at + size * (i + 1)) (concat (map bytes (drop (i + 1) xs)))) e ∙ records-more xs i at d out h ∙ s.left }

    pub all-stand : (i : ℕ) (out : Bytes) → length xs ≤ i → Standing size bytes xs at b i out → out ≡ sets b at (concat (map bytes xs))
    all-stand i out l s = sym (records-none xs i (at + size * i) out l) ∙ s.left

-- ---- records that are copied

-- a rule with another component
pub rule-copied : (t : List ℕ) {r : Bytes} → length r ≡ rule_size → AllBytes r
    → rule_bytes (rule_by t (to_rule r)) ≡ bytes_of 1 (rank_of t (number_at 1 0 r)) ++ take 17 (drop 1 r)
unfolding rule_bytes rule_by to_rule laid_out bytes_of sum fields_at
rule-copied t {r} l h = ap (λ b. bytes_of 1 (rank_of t (number_at 1 0 r)) ++ b) (fields-written (1 ∷ 1 ∷ 1 ∷ 2 ∷ 2 ∷ 2 ∷ 4 ∷ 4 ∷ []) 1 (omega arith) h)

-- all phases of a slice
pub phases-copied : (n : ℕ) {s : Bytes} → n * phase_size ≤ length s → AllBytes s
    → concat (map phase_bytes (map to_phase (chunks n phase_size s))) ≡ take (n * phase_size) s
unfolding phase_bytes
phases-copied n l h = rows_written phase-spelled n l h
