-- The entries of a state, one more at a time: as they are read from a run's bytes, and as a start gives them. Assumes nothing.
use mathlib.Core.Path.{◌≡◌, refl, sym, ap, ap₂, ◌∙◌}
use mathlib.Core.List.{List, [], ◌∷◌, ◌++◌, map, map-append}
use Prim.Native.Nat.{ℕ, zero, suc, ◌+◌, ◌*◌, ◌<◌}
use native.Mathlib.Omega.{arith}
use lib.Dec.{ltb}
use lib.ListN.{length, take, drop, get_or, length-set}
use lib.Seq.{drop-drop, get_or-set_same, get_or-set_other}
use borrow.Author.Tests.{ltb-true, lt-ltb}
use Rattle.definition.specs.Lists.{up_from}
use Rattle.definition.specs.Bytes.{Bytes, number_at, chunks}
use Rattle.definition.specs.Limits.{head_size, entry_size, max_components}
use Rattle.definition.specs.SavedRun.{Entry, to_entry, to_run}
use Rattle.law_bytes.specs.Parts.{row}
use Rattle.law_base.proofs.Lists.{map-cong-if}
use Rattle.law_bytes.proofs.Rows.{number-row}
use Rattle.law_model.proofs.Sections.{all-numbers}
use Rattle.run_state.specs.declared.State.{State}
use Rattle.run_state.specs.Held.{entries_of, changed_at}
use Rattle.model_records.proofs.Counting.{up_more}
use Rattle.run_saved.specs.Runs.{entry_at}

-- ---- entries, one more at the end

rows_more : (size n : ℕ) (s : Bytes) → chunks (n + 1) size s ≡ chunks n size s ++ (row size n s ∷ [])
unfolding chunks row
rows_more size zero s = let e : size * 0 ≡ 0 = omega arith in rw e
rows_more size (suc n) s =
    let f : suc n + 1 ≡ suc (n + 1) = omega arith in
    let e : size + size * n ≡ size * suc n = omega arith in
    rw f (ap (λ l. take size s ∷ l) (rows_more size n (drop size s) ∙ rw (drop-drop (size * n) size s, e)))

-- ---- an entry

number_behind : (w at k : ℕ) (s : Bytes) → number_at w at (drop k s) ≡ number_at w (k + at) s
unfolding number_at
number_behind w at k s = rw (drop-drop at k s)

-- The bytes of an entry, where they stand in the run.
pub entry_place : (s : Bytes) (i : ℕ) → record { phase = number_at 1 (head_size + entry_size * i) s; last = number_at 8 (head_size + entry_size * i + 1) s } ≡ entry_at s i
unfolding entry_at to_entry
entry_place s i =
    let a : head_size + (entry_size * i + 0) ≡ head_size + entry_size * i = omega arith in
    let b : head_size + (entry_size * i + 1) ≡ head_size + entry_size * i + 1 = omega arith in
    rw (
      number-row 1 0 entry_size i (drop head_size s) (omega arith),
      number-row 8 1 entry_size i (drop head_size s) (omega arith),
      number_behind 1 (entry_size * i + 0) head_size s,
      number_behind 8 (entry_size * i + 1) head_size s,
      a,
      b,
    )

-- One entry more of a run.
pub run_more : (s : Bytes) (i : ℕ) → (to_run (i + 1) s).entries ≡ (to_run i s).entries ++ (entry_at s i ∷ [])
unfolding to_run entry_at
run_more s i = ap (map to_entry) (rows_more entry_size i (drop head_size s)) ∙ map-append to_entry (chunks i entry_size (drop head_size s)) (row entry_size i (drop head_size s) ∷ [])

-- ---- the entries of a state

-- An array for each field, as long as there may be components.
abbrev pub Wide : State → Type 0
Wide st = (length st.phase ≡ max_components) × (length st.last ≡ max_components)

pub wide-changed : (st : State) (i p t : ℕ) → Wide st → Wide (changed_at st i p t)
unfolding changed_at
wide-changed st i p t h = (length-set st.phase i p ∙ h.0, length-set st.last i t ∙ h.1)

-- Entries before a change are as they were.
pub entries-kept : (st : State) (i p t : ℕ) → entries_of i (changed_at st i p t) ≡ entries_of i st
unfolding entries_of changed_at
entries-kept st i p t =
    map-cong-if (λ j. ltb j i) _ _ (up_from 0 i) (all-numbers (λ j. ltb j i) 0 i (λ j a b. lt-ltb j i (omega arith)))
    (λ j e. let h = ltb-true j i e in λ w. record { phase = get_or-set_other st.phase i j p 0 (λ q. omega arith) w; last = get_or-set_other st.last i j t 0 (λ q. omega arith) w })

pub entries_with : (st : State) (i p t : ℕ) → Wide st → i < max_components → entries_of (i + 1) (changed_at st i p t) ≡ entries_of i st ++ (record { phase = p; last = t } ∷ [])
entries_with st i p t h l = split ∙ ap₂ (λ (x : List Entry) (e : Entry). x ++ (e ∷ [])) (entries-kept st i p t) last
  where
    last : ◌≡◌ {A = Entry} (record { phase = get_or (changed_at st i p t).phase i 0; last = get_or (changed_at st i p t).last i 0 }) (record { phase = p; last = t })
    last = unfold changed_at in (λ w. record { phase = get_or-set_same st.phase i p 0 (omega (arith, h.0)) w; last = get_or-set_same st.last i t 0 (omega (arith, h.1)) w })

    split : entries_of (i + 1) (changed_at st i p t) ≡ entries_of i (changed_at st i p t) ++ (record { phase = get_or (changed_at st i p t).phase i 0; last = get_or (changed_at st i p t).last i 0 } ∷ [])
    split = unfold entries_of in (let e : 0 + i ≡ i = omega arith in ap (map _) (up_more 0 i) ∙ map-append _ (up_from 0 i) ((0 + i) ∷ []) ∙ rw e)

-- ---- a run's state

pub load-none : (st : State) (s : Bytes) → entries_of 0 st ≡ (to_run 0 s).entries
unfolding entries_of to_run chunks up_from
load-none st s = refl

pub load-more : (s : Bytes) (st : State) (i p t : ℕ) → Wide st → i < max_components → record { phase = p; last = t } ≡ entry_at s i
    → entries_of i st ≡ (to_run i s).entries → entries_of (i + 1) (changed_at st i p t) ≡ (to_run (i + 1) s).entries
load-more s st i p t h l e f =
    entries_with st i p t h l ∙ ap₂ (λ (x : List Entry) (r : Entry). x ++ (r ∷ [])) f e ∙ sym (run_more s i)
