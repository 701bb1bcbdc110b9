-- A state of the root's resultant stands for one list of entries, since each atomic is a leaf of the tree and has its own place in the list;
-- and for the saved run of every buffer that fits, a state stands. Assumes nothing.
use mathlib.Core.Path.{◌≡◌, refl, sym, ap, ◌∙◌}
use Prim.Native.Nat.{ℕ, ◌<◌}
use mathlib.Core.List.{List, [], ◌∷◌, map}
use mathlib.Core.Bool.{true}
use native.Mathlib.Omega.{arith}
use lib.ListN.{length, take}
use lib.Seq.{take_at}
use Rattle.definition.specs.Bytes.{Bytes, AllBytes, ok, stored}
use Rattle.definition.specs.Model.{Model, is_atomic, atomics, tree}
use Rattle.definition.specs.Devs.{Since}
use Rattle.definition.specs.SavedRun.{Entry, atomic_count, run_length, run_of, run_bytes, entry_of, run_fits}
use Rattle.definition.specs.Step.{load, unload}
use Rattle.definition.specs.Pinned.Decoder.{accepted}
use Rattle.definition.specs.Carrying.{root_of, StandsFor, BetweenCalls, Saved}
use Rattle.law_model.proofs.WellFormed.{WellFormed}
use Rattle.law_model.proofs.Reading.{accepted_sound}
use Rattle.law_model.proofs.RunBack.{length_run, run-written}
use Rattle.law_nest.proofs.Occurs.{occurs}
use Rattle.law_nest.proofs.Pairs.{paired, paired-look_up}
use Rattle.law_nest.proofs.Trees.{leaves_t}
use Rattle.law_nest.proofs.Leaves.{unload-stands}
use Rattle.law_nest.proofs.Components.{atomic-once, leaf-occurs}
use Rattle.law_nest.proofs.Renumber.{distinct-atomics}
use Rattle.law_flat.proofs.Checks.{run_length_lem}
use Rattle.law_calls.proofs.Fitting.{fits_run}
use Rattle.theory.proofs.Standing.{loaded}

-- ---- one list of entries

-- the values beside numbers, of which there are as many
beside : {A : Type 0} (cs : List ℕ) (rs : List A) → length rs ≡ length cs → paired (λ c r. r) cs rs ≡ rs
unfolding paired
beside [] [] e = refl
beside [] (r ∷ rs) e = absurd (omega arith)
beside (c ∷ cs) [] e = absurd (omega arith)
beside (c ∷ cs) (r ∷ rs) e = ap (λ l. r ∷ l) (beside cs rs (omega arith))

module _ (m : Model) (w : WellFormed m) where
  -- each atomic is a leaf
  is_leaf : (c : ℕ) → is_atomic m.components c ≡ true → 0 < occurs c (leaves_t (tree m))
  unfolding tree
  is_leaf c e =
      let fit = w.components.fit in
      omega (arith, leaf-occurs m.components fit w.some_component c, atomic-once m.components fit w.some_component c e)

  -- the entries by the atomics' numbers are the entries
  in_order_lem : (rs : List Entry) → length rs ≡ atomic_count m → map (entry_of m rs) (atomics m.components) ≡ rs
  unfolding atomic_count entry_of
  in_order_lem rs e =
      let l = atomics m.components in
      paired-look_up (λ c r. r) l rs (distinct-atomics m.components) e ∙ beside l rs e

  -- what is read of the state are the entries for which it stands
  unloaded : (opening : ℕ) (q : Since (root_of m)) (rs : List Entry) → StandsFor m opening q rs → unload m q.event (tree m) q.state ≡ rs
  unloaded opening q rs h = unload-stands m (entry_of m rs) q.event (tree m) q.state h.stands is_leaf ∙ in_order_lem rs h.each

pub stands_for_one : (file : Bytes) (m : Model) → AllBytes file → accepted file ≡ ok m → (opening : ℕ) (q : Since (root_of m)) (rs qs : List Entry)
    → StandsFor m opening q rs → StandsFor m opening q qs → rs ≡ qs
stands_for_one file m b f opening q rs qs h k =
    let w = (accepted_sound file m b f).sound in
    sym (unloaded m w opening q rs h) ∙ unloaded m w opening q qs k

-- ---- a state for every run that fits

-- the front of a buffer that fits is the saved run, written
front : (m : Model) (run : Bytes) → AllBytes run → run_fits m run ≡ true → take (run_length (atomic_count m)) run ≡ run_bytes (run_of m run)
unfolding run_of stored atomic_count
front m run h e =
    let f = fits_run m run e in
    let size : length (run_bytes (run_of m run)) ≡ run_length (atomic_count m) = length_run (run_of m run) ∙ ap run_length (run_length_lem m run) in
    ap (take (run_length (atomic_count m))) (sym (run-written (atomic_count m) f.1 f.2 h))
    ∙ take_at (run_bytes (run_of m run)) _ (run_length (atomic_count m)) size

pub at_any : (file run : Bytes) (m : Model) → AllBytes file → AllBytes run → accepted file ≡ ok m → run_fits m run ≡ true
    → (q : BetweenCalls m) × Saved m q run
at_any file run m b h f e =
    let r = run_of m run in (
      record { opening = r.opening; since = record { state = load m (entry_of m r.entries) r.opening (tree m); event = r.opening } },
      record {
        run_fits_lem = e;
        opening = refl;
        entries = loaded m (accepted_sound file m b f).sound r.opening r.entries (fits_run m run e).0.0;
        bytes = front m run h e;
      },
    )
