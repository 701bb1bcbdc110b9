-- The bytes of a run as they are put one after the other, and the whole buffer afterwards. Assumes nothing.
use mathlib.Core.Path.{◌≡◌, sym, ap, ap₂, ◌∙◌}
use mathlib.Core.List.{◌++◌, map, map-map}
use Prim.Native.Nat.{ℕ, suc, ◌+◌, ◌*◌, ◌-◌, ◌≤◌, ◌<◌}
use native.Mathlib.Omega.{arith}
use lib.ListN.{length, length-append, length-map}
use lib.Seq.{sets, sets-eq}
use Rattle.definition.specs.Lists.{concat, up_from}
use Rattle.definition.specs.Bytes.{Bytes, bytes_of, stored}
use Rattle.definition.specs.Limits.{head_size, entry_size}
use Rattle.definition.specs.SavedRun.{Entry, run_length, entry_bytes, run_bytes}
use Rattle.law_base.proofs.Lists.{length_up}
use Rattle.law_model.proofs.Codec.{length-bytes}
use Rattle.law_model.proofs.RunBack.{entry-size, length_run}
use Rattle.law_stores.proofs.Stores.{sets-append}
use Rattle.run_state.specs.declared.State.{State}
use Rattle.run_state.specs.Held.{entries_of}
use Rattle.run_saved.specs.Runs.{held_at, entry_rows, run_in}

pub sets-on : (x y d : Bytes) (at k : ℕ) → at + length x ≡ k → sets (sets d at x) k y ≡ sets d at (x ++ y)
sets-on x y d at k e = ap (λ k. sets (sets d at x) k y) (sym e) ∙ sym (sets-append x y d at)

-- An entry: its phase, then its last moment.
pub entry-put : (d : Bytes) (i : ℕ) (e : Entry)
    → sets (sets d (head_size + entry_size * i) (bytes_of 1 e.phase)) (head_size + entry_size * i + 1) (bytes_of 8 e.last) ≡ sets d (run_length i) (entry_bytes e)
unfolding run_length entry_bytes
entry-put d i e =
    let at = head_size + entry_size * i in
    sets-on (bytes_of 1 e.phase) (bytes_of 8 e.last) d at (at + 1) (omega (arith, length-bytes 1 e.phase))

-- One entry more is put, and the rest from the next position on.
pub rows-put : (st : State) (n i : ℕ) (d : Bytes) → i < n
    → sets (sets d (run_length i) (entry_bytes (held_at st i))) (run_length (i + 1)) (entry_rows st (i + 1) (n - (i + 1))) ≡ sets d (run_length i) (entry_rows st i (n - i))
unfolding run_length entry_rows concat up_from
rows-put st n i d h =
    let z : n - i ≡ suc (n - (i + 1)) = omega arith in
    let s : i + 1 ≡ suc i = omega arith in
    let f : head_size + entry_size * (i + 1) ≡ head_size + entry_size * i + length (entry_bytes (held_at st i)) = omega (arith, entry-size (held_at st i)) in
    rw (f, z, s) (sym (sets-append (entry_bytes (held_at st i)) _ d (head_size + entry_size * i)))

pub rows_none : (st : State) (i m at : ℕ) (d : Bytes) → m ≡ 0 → sets d at (entry_rows st i m) ≡ d
unfolding entry_rows concat up_from
rows_none st i m at d e = rw e

-- ---- the whole run

pub length-entries : (n : ℕ) (st : State) → length (entries_of n st) ≡ n
unfolding entries_of
length-entries n st = length-map (up_from 0 n) _ ∙ length_up 0 n

run-bytes : (opening n : ℕ) (st : State) → run_bytes (run_in opening n st) ≡ bytes_of 8 opening ++ bytes_of 2 n ++ entry_rows st 0 n
unfolding run_bytes run_in entry_rows
run-bytes opening n st =
    ap₂ (λ (k : ℕ) (r : Bytes). bytes_of 8 opening ++ bytes_of 2 k ++ r) (length-entries n st) rows
  where
    rows : concat (map entry_bytes (entries_of n st)) ≡ concat (map (λ j. entry_bytes (held_at st j)) (up_from 0 n))
    rows = unfold entries_of in ap concat (map-map entry_bytes (held_at st) (up_from 0 n))

pub length-stored : (opening n : ℕ) (st : State) → length (run_bytes (run_in opening n st)) ≡ run_length n
unfolding run_in
length-stored opening n st = length_run (record { opening = opening; entries = entries_of n st }) ∙ ap run_length (length-entries n st)

pub run-put : (opening n : ℕ) (st : State) (run : Bytes) → run_length n ≤ length run
    → sets (sets (sets run 0 (bytes_of 8 opening)) 8 (bytes_of 2 n)) (run_length 0) (entry_rows st 0 n) ≡ stored (run_bytes (run_in opening n st)) run
unfolding stored
run-put opening n st run h =
    let a = bytes_of 8 opening in
    let b = bytes_of 2 n in
    let r = entry_rows st 0 n in
    let la : 0 + length a ≡ 8 = omega (arith, length-bytes 8 opening) in
    let e : sets (sets run 0 a) 8 b ≡ sets run 0 (a ++ b) = sets-on a b run 0 8 la in
    let lb : 0 + length (a ++ b) ≡ run_length 0 = unfold run_length in omega (arith, length-append a b, length-bytes 8 opening, length-bytes 2 n) in
    let f : sets (sets run 0 (a ++ b)) (run_length 0) r ≡ sets run 0 (a ++ b ++ r) = sets-on (a ++ b) r run 0 (run_length 0) lb in
    let w : length (a ++ b ++ r) ≡ run_length n = ap length (sym (run-bytes opening n st)) ∙ length-stored opening n st in
    let z : 0 + length (a ++ b ++ r) ≡ length (a ++ b ++ r) = omega arith in
    ap (λ d. sets d (run_length 0) r) e ∙ f ∙ sets-eq (a ++ b ++ r) run 0 (omega arith) ∙ rw (run-bytes opening n st, z)
