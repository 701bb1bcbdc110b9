-- A saved run that was written is read back, and a run that was read of bytes is written as it stood: a call may write its run back
-- also where it did nothing. Assumes nothing.
use mathlib.Core.Path.{◌≡◌, sym, ap, ap₂, ◌∙◌}
use Prim.Native.Nat.{ℕ, ◌+◌, ◌*◌, ◌^◌, ◌≤◌, ◌<◌}
use mathlib.Core.List.{◌++◌, map, map-map, append_assoc}
use native.Mathlib.Omega.{arith}
use lib.ListN.{length, take, drop, length-map, length-append, length-drop, take-append-drop}
use lib.Seq.{drop_at, take-add, length-take-le}
use Rattle.definition.specs.Lists.{concat}
use Rattle.definition.specs.Bytes.{Bytes, AllBytes, number_at, bytes_of, chunks, laid_out, stored}
use Rattle.definition.specs.Limits.{head_size, entry_size}
use Rattle.definition.specs.Model.{Model}
use Rattle.definition.specs.SavedRun.{Entry, Run, run_length, to_entry, to_run, run_of, atomic_count, entry_bytes, run_bytes}
use Rattle.law_model.proofs.Layouts.{record-size, record-back}
use Rattle.law_model.proofs.Rows.{rows_written}
use Rattle.law_model.proofs.Spellings.{entry-spelled}
use Rattle.law_model.proofs.Codec.{drop-bytes, length-bytes, number-front, number_behind, number-written, rows-length, rows_back, length-chunks}

-- ---- written, and read back

pub entry-size : (r : Entry) → length (entry_bytes r) ≡ entry_size
unfolding entry_bytes laid_out bytes_of
entry-size r = record-size entry-spelled r

pub entry-back : (r : Entry) → r.phase < 256 → r.last < 256 ^ 8 → to_entry (entry_bytes r) ≡ r
unfolding entry_bytes laid_out bytes_of
entry-back r h k = record-back entry-spelled r (h, (k, tt))

pub length_run : (r : Run) → length (run_bytes r) ≡ run_length (length r.entries)
unfolding run_bytes run_length
length_run r =
    let n = length r.entries in
    let o = bytes_of 8 r.opening in
    let c = bytes_of 2 n in
    let b = concat (map entry_bytes r.entries) in
    omega (arith, length-append (o ++ c) b, length-append o c, length-bytes 8 r.opening, length-bytes 2 n, rows-length entry_size entry_bytes entry-size r.entries)

pub entry-count : (m : Model) (s : Bytes) → length (run_of m s).entries ≡ atomic_count m
unfolding run_of to_run
entry-count m s = length-map (chunks (atomic_count m) entry_size (drop head_size s)) to_entry ∙ length-chunks (atomic_count m) entry_size (drop head_size s)

module _ (r : Run) (rest : Bytes) where
  run-shape : run_bytes r ++ rest ≡ bytes_of 8 r.opening ++ (bytes_of 2 (length r.entries) ++ (concat (map entry_bytes r.entries) ++ rest))
  unfolding run_bytes
  run-shape = simp append_assoc

  pub opening-back : r.opening < 256 ^ 8 → number_at 8 0 (run_bytes r ++ rest) ≡ r.opening
  opening-back h = rw run-shape (number-front 8 r.opening _ h)

  pub count-back : length r.entries < 256 ^ 2 → number_at 2 8 (run_bytes r ++ rest) ≡ length r.entries
  count-back h = rw run-shape (number_behind 2 8 (bytes_of 8 r.opening) _ (length-bytes 8 r.opening) ∙ number-front 2 (length r.entries) _ h)

  pub run-back : r.opening < 256 ^ 8 → map (λ e. to_entry (entry_bytes e)) r.entries ≡ r.entries → to_run (length r.entries) (run_bytes r ++ rest) ≡ r
  unfolding to_run
  run-back h held =
      let n = length r.entries in
      let o = bytes_of 8 r.opening in
      let c = bytes_of 2 n in
      let body = concat (map entry_bytes r.entries) ++ rest in
      let head = length-append o c ∙ ap₂ ◌+◌ (length-bytes 8 r.opening) (length-bytes 2 n) in
      let behind : drop head_size (run_bytes r ++ rest) ≡ body = ap (drop head_size) (run-shape ∙ sym (append_assoc o c body)) ∙ drop_at (o ++ c) body head_size head in
      let es : map to_entry (chunks n entry_size (drop head_size (run_bytes r ++ rest))) ≡ r.entries
      = ap (λ b. map to_entry (chunks n entry_size b)) behind ∙ ap (map to_entry) (rows_back entry_size entry_bytes entry-size r.entries rest)
      ∙ map-map to_entry entry_bytes r.entries ∙ held in
      λ i. record { opening = opening-back h i; entries = es i }

-- ---- read, and written as it stood

entries-written : (n : ℕ) {s : Bytes} → n * entry_size ≤ length s → AllBytes s
    → concat (map entry_bytes (map to_entry (chunks n entry_size s))) ≡ take (n * entry_size) s
unfolding entry_bytes laid_out bytes_of
entries-written n l h = rows_written entry-spelled n l h

pub run-written : (n : ℕ) {s : Bytes} → run_length n ≤ length s → number_at 2 8 s ≡ n → AllBytes s → stored (run_bytes (to_run n s)) s ≡ s
unfolding stored
run-written n {s} l c h =
    ap (λ b. b ++ drop (length b) s) front ∙ ap (λ k. take size s ++ drop k s) (length-take-le size s long) ∙ take-append-drop size s
  where
    size : ℕ
    size = head_size + n * entry_size

    long : head_size + n * entry_size ≤ length s
    long = unfold run_length in (omega (arith, l))

    entries : length (to_run n s).entries ≡ n
    entries = unfold to_run in (length-map (chunks n entry_size (drop head_size s)) to_entry ∙ length-chunks n entry_size (drop head_size s))

    front : run_bytes (to_run n s) ≡ take (head_size + n * entry_size) s
    front = unfold run_bytes to_run in
        (ap₂ ◌++◌ (ap₂ ◌++◌ (number-written 8 0 (omega (arith, long)) h) (ap (bytes_of 2) (entries ∙ sym c) ∙ number-written 2 8 (omega (arith, long)) h) ∙ sym (take-add 8 2 s))
        (entries-written n (omega (arith, length-drop head_size s, long)) (drop-bytes head_size h))
        ∙ sym (take-add head_size (n * entry_size) s))
