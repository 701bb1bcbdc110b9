-- Records in a slice of their own: one of them by its number, how many there are, and the same records in the file. Assumes nothing.
use mathlib.Core.Path.{◌≡◌, ap, ◌∙◌}
use mathlib.Core.List.{[], map}
use Prim.Native.Nat.{ℕ, ◌+◌, ◌*◌, ◌/◌, ◌≤◌, ◌<◌}
use native.Mathlib.Omega.{arith}
use native.Mathlib.Nat.{mul-div_cancel}
use lib.ListN.{length, drop, get_or, length-drop, length-map, get_or-eq_default}
use lib.Seq.{length-take-le}
use Rattle.definition.specs.Bytes.{Bytes, chunks}
use Rattle.definition.specs.Limits.{count_size}
use Rattle.law_base.proofs.Lists.{get_d_map}
use Rattle.law_bytes.specs.Parts.{records_in, part_of, row}
use Rattle.law_bytes.proofs.Rows.{length-rows, get_d_rows, rows-alone}

module _ {A : Type 0} (size : ℕ) (to : Bytes → A) where
  pub length-records : (s : Bytes) → length (records_in size to s) ≡ length s / size
  unfolding records_in
  length-records s = length-map (chunks (length s / size) size s) to ∙ length-rows size (length s / size) s

  pub record-in : (s : Bytes) (i : ℕ) (d : A) → i < length s / size → get_or (records_in size to s) i d ≡ to (row size i s)
  unfolding records_in
  record-in s i d h =
      get_d_map to (chunks (length s / size) size s) i [] d (rw (length-rows size (length s / size) s) h)
      ∙ ap to (get_d_rows size (length s / size) i s [] h)

  pub record-out : (s : Bytes) (i : ℕ) (d : A) → length s / size ≤ i → get_or (records_in size to s) i d ≡ d
  record-out s i d h = get_or-eq_default (records_in size to s) d (rw (length-records s) h)

  -- The section's records are those of its part alone.
  module _ (pos : 0 < size) (n : ℕ) (s : Bytes) (whole : count_size + n * size ≤ length s) where
    pub part_count : length (part_of size n s) / size ≡ n
    unfolding part_of
    part_count =
        let l : n * size ≤ length (drop count_size s) = rw (length-drop count_size s) (omega arith) in
        rw (length-take-le (n * size) (drop count_size s) l) (mul-div_cancel n pos)

    pub part-records : records_in size to (part_of size n s) ≡ map to (chunks n size (drop count_size s))
    unfolding records_in
    part-records = rw part_count (ap (map to) part-rows)
      where
        part-rows : chunks n size (part_of size n s) ≡ chunks n size (drop count_size s)
        part-rows = unfold part_of in rows-alone size n (drop count_size s)
