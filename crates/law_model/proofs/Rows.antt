-- Records of one size in a row, with no count before them, whatever their layout: read of bytes they are written as those bytes, and
-- written they are read back. A given bag is such a row. Assumes nothing.
use mathlib.Core.Path.{◌≡◌, refl, sym, ap, ap₂, ◌∙◌}
use Prim.Native.Nat.{ℕ, zero, suc, ◌+◌, ◌*◌, ◌≤◌}
use mathlib.Core.List.{List, [], ◌∷◌, ◌++◌, map, map-map, append-nil}
use native.Mathlib.Omega.{arith}
use lib.ListN.{length, take, length-drop}
use lib.Seq.{length-take-le, take-add}
use Rattle.definition.specs.Lists.{concat}
use Rattle.definition.specs.Bytes.{Bytes, AllBytes, chunks, Layout, laid_out}
use Rattle.definition.specs.Sound.{Held, Every}
use Rattle.law_model.proofs.Codec.{take-bytes, drop-bytes, rows_back}
use Rattle.law_model.proofs.Layouts.{Spelled, record-size, record-back, record-held, record-written}

module _ {A : Type 0} {size : ℕ} {layout : A → Layout} {to : Bytes → A} (k : Spelled size layout to) where
  -- ---- read of bytes

  pub rows-held : (n : ℕ) {s : Bytes} → AllBytes s → Every (λ x. Held (layout x)) (map to (chunks n size s))
  unfolding chunks
  rows-held zero h = tt
  rows-held (suc n) h = (record-held k (take-bytes size h), rows-held n (drop-bytes size h))

  pub rows_written : (n : ℕ) {s : Bytes} → n * size ≤ length s → AllBytes s
      → concat (map (λ x. laid_out (layout x)) (map to (chunks n size s))) ≡ take (n * size) s
  unfolding chunks concat
  rows_written zero {s} l h = let e : 0 ≡ 0 * size = omega arith in ap (λ j. take j s) e
  rows_written (suc n) {s} l h =
      let first = record-written k (length-take-le size s (omega arith)) (take-bytes size h) in
      let others = rows_written n (omega (arith, length-drop size s)) (drop-bytes size h) in
      let e : size + n * size ≡ suc n * size = omega arith in
      ap₂ ◌++◌ first others ∙ sym (take-add size (n * size) s) ∙ ap (λ j. take j s) e

  -- ---- written

  pub each_back : (xs : List A) → Every (λ x. Held (layout x)) xs → map (λ x. to (laid_out (layout x))) xs ≡ xs
  each_back [] h = refl
  each_back (x ∷ xs) h = ap₂ ◌∷◌ (record-back k x h.0) (each_back xs h.1)

  pub rows-read : (xs : List A) → Every (λ x. Held (layout x)) xs → map to (chunks (length xs) size (concat (map (λ x. laid_out (layout x)) xs))) ≡ xs
  rows-read xs h =
      let bytes : A → Bytes = λ x. laid_out (layout x) in
      let row = concat (map bytes xs) in
      ap (λ s. map to (chunks (length xs) size s)) (sym (append-nil row))
      ∙ ap (map to) (rows_back size bytes (record-size k) xs []) ∙ map-map to bytes xs ∙ each_back xs h
