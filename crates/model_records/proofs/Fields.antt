-- A record of the slice that holds a section's records, for every kind of record: what it is, and what stands past the last. Assumes nothing.
use mathlib.Core.Path.{◌≡◌, sym}
use mathlib.Core.List.{List}
use Prim.Native.Nat.{ℕ, ◌/◌, ◌≤◌, ◌<◌}
use lib.ListN.{length, get_or, get_or-eq_default}
use Rattle.definition.specs.Bytes.{Bytes}
use Rattle.law_bytes.specs.Parts.{records_in, row}
use Rattle.law_bytes.proofs.Records.{length-records, record-in}

module _ {A : Type 0} (size : ℕ) (to : Bytes → A) (s : Bytes) (i : ℕ) where
  -- There is room for a record that there is.
  pub record-there : i < length (records_in size to s) → i < length s / size
  record-there h = rw (length-records size to s) at h

  -- It is what its bytes say.
  pub record_is : {bytes : Bytes} (d : A) → i < length (records_in size to s) → bytes ≡ row size i s → to bytes ≡ get_or (records_in size to s) i d
  record_is d h e = rw e (sym (record-in size to s i d (record-there h)))

-- Past the last of n there is none.
pub record-none : {A : Type 0} (xs : List A) (d : A) {n i : ℕ} → n ≡ length xs → n ≤ i → d ≡ get_or xs i d
record-none xs d e h = sym (get_or-eq_default xs d (rw (← e) h))
