-- A run that fits, written at the front of a buffer: it is read back as it was, and the bytes beyond it stay. Assumes nothing.
use mathlib.Core.Path.{◌≡◌, sym, ap, ◌∙◌, subst}
use lib.ListN.{length, take, drop}
use lib.Seq.{take_at, drop_at}
use Rattle.definition.specs.Bytes.{Bytes, stored}
use Rattle.definition.specs.Model.{Model, atomics}
use Rattle.definition.specs.Devs.{Since}
use Rattle.definition.specs.SavedRun.{Run, run_length, atomic_count, run_of, run_bytes}
use Rattle.definition.specs.Calls.{Call, Answer}
use Rattle.definition.specs.Carrying.{root_of, StandsFor, BetweenCalls, Answers, Saved, stays_from}
use Rattle.law_model.proofs.WellFormed.{WellFormed}
use Rattle.law_model.proofs.RunBack.{length_run}
use Rattle.law_nest.proofs.Pairs.{pairs-length}
use Rattle.law_calls.proofs.Fitting.{FitRun, fit_written}

module _ (m : Model) (w : WellFormed m) (r : Run) (fit : FitRun m r) (buffer : Bytes) where
  pub size : length (run_bytes r) ≡ run_length (atomic_count m)
  unfolding atomic_count
  size = length_run r ∙ ap run_length (pairs-length _ (atomics m.components) r.entries fit.0)

  -- the bytes beyond it stay
  pub beyond : drop (run_length (atomic_count m)) (stored (run_bytes r) buffer) ≡ drop (run_length (atomic_count m)) buffer
  unfolding stored
  beyond = drop_at (run_bytes r) _ (run_length (atomic_count m)) size ∙ ap (λ n. drop n buffer) size

  pub read_back : run_of m (stored (run_bytes r) buffer) ≡ r
  unfolding stored
  read_back = (fit_written m w r _ fit).1

  pub front : take (run_length (atomic_count m)) (stored (run_bytes r) buffer) ≡ run_bytes (run_of m (stored (run_bytes r) buffer))
  unfolding stored
  front = take_at (run_bytes r) _ (run_length (atomic_count m)) size ∙ ap run_bytes (sym read_back)

  -- what stands for it stands for what the buffer holds
  pub saved : (q : Since (root_of m)) → StandsFor m r.opening q r.entries → Saved m (record { opening = r.opening; since = q }) (stored (run_bytes r) buffer)
  unfolding stored
  saved q s = record {
    run_fits_lem = (fit_written m w r _ fit).0;
    opening = ap (λ y. y.opening) read_back;
    entries = subst (StandsFor m r.opening q) (sym (ap (λ y. y.entries) read_back)) s;
    bytes = front;
  }

-- One call of a machine beside the resultant: the answer is the resultant's, the bytes that a call leaves stay, and the buffer holds the run for
-- which it then stands.
abbrev pub Follows : (m : Model) → BetweenCalls m → Bytes → Call → Answer → Bytes → Type 0
Follows m q run c a after =
    (q' : BetweenCalls m) × Answers m (length run) q c a q' × (drop (stays_from m (length run) c) after ≡ drop (stays_from m (length run) c) run) × Saved m q' after
