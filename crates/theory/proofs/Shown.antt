-- An advance shows what the root's resultant does, carried through the instants of the call from any state that stands for the saved run: that
-- ends, in one way, and the answer and the buffers tell it. Assumes nothing.
use mathlib.Core.Path.{◌≡◌, refl, sym, ap, ◌∙◌, subst}
use Prim.Native.Nat.{ℕ, suc}
use native.Mathlib.Omega.{arith}
use lib.ListN.{length, drop}
use Rattle.definition.specs.Bytes.{Bytes, AllBytes, ok, stored}
use Rattle.definition.specs.Model.{Model}
use Rattle.definition.specs.Pinned.Decoder.{accepted}
use Rattle.definition.specs.Devs.{Since}
use Rattle.definition.specs.SavedRun.{Run, run_of, run_bytes}
use Rattle.definition.specs.Advance.{Ended, advance_from}
use Rattle.definition.specs.AdvanceRelation.{Ends}
use Rattle.definition.specs.Engine.{to_bag, advanced, advance}
use Rattle.definition.specs.Carrying.{carried, root_of, StandsFor, begins}
use Rattle.definition.specs.Demands.{opening_of, MayAdvance, Shows}
use Rattle.law_model.proofs.WellFormed.{WellFormed}
use Rattle.law_model.proofs.Reading.{accepted_sound}
use Rattle.law_calls.proofs.Lift.{EndsAlike, advance-alike}
use Rattle.theory.proofs.Carrying.{BetweenStands, agree-self, agree-carried}
use Rattle.law_calls.proofs.Fitting.{FitRun, fits_run, fit_written, advance-fit}
use Rattle.theory.proofs.RuleTables.{same-rules}
use Rattle.law_calls.proofs.Ending.{ends, only}
use Rattle.law_model.proofs.Answers.{end_of, advance-done}

-- the run that an advance saves
abbrev pub run_after : Model → Bytes → ℕ → Bytes → Bytes → Run
run_after m run t bag trace = let p = (end_of m run t bag trace).progress in record { opening = p.opening; entries = p.state }

module _ (run : Bytes) (t : ℕ) (bag trace : Bytes) (m : Model) (w : WellFormed m) (h : MayAdvance m run t bag) where
  pub after-fits : FitRun m (run_after m run t bag trace)
  after-fits = advance-fit m w run t (length trace) (to_bag bag) h.run_fits_lem h.not_early h.not_late

  module _ (q : Since (root_of m)) (s : StandsFor m (opening_of m run) q (run_of m run).entries) where
    here : BetweenStands m w (opening_of m run) q (run_of m run).entries
    here = (s, (fits_run m run h.run_fits_lem).0.0)

    pub carried_ends : (e : Ended (Since (root_of m))) × Ends (carried m) (length trace) t (to_bag bag) (begins (opening_of m run) q) e
    carried_ends = (
      _,
      ends (agree-self (agree-carried m w)) (length trace) t (to_bag bag) (suc t) (begins (opening_of m run) q) (refl, (run_of m run).entries, here) h.not_early (omega arith),
    )

    -- wherever it ends, the saved run's advance ends alike
    pub carried-alike : (e : Ended (Since (root_of m))) → Ends (carried m) (length trace) t (to_bag bag) (begins (opening_of m run) q) e
        → EndsAlike (BetweenStands m w) t e (end_of m run t bag trace)
    unfolding advance_from
    carried-alike e r =
        subst (λ z. EndsAlike (BetweenStands m w) t z (end_of m run t bag trace))
        (only (agree-self (agree-carried m w)) (length trace) t (to_bag bag) r (suc t) (refl, (run_of m run).entries, here) h.not_early (omega arith))
        (advance-alike (agree-carried m w) (length trace) t (to_bag bag) (to_bag bag) refl (opening_of m run) q (run_of m run).entries here h.not_early)

    pub shown : (table : Bytes) (e : Ended (Since (root_of m))) → Ends (carried m) (length trace) t (to_bag bag) (begins (opening_of m run) q) e
        → Shows m run trace table e (advanced run trace table (ok (end_of m run t bag trace)))
    unfolding advanced stored
    shown table e r =
        let a = carried-alike e r in
        let z = run_after m run t bag trace in
        let back = (fit_written m w z (drop (length (run_bytes z)) run) after-fits).1 in
        record {
          number = sym a.0;
          instants = sym a.1.instants;
          steps = sym a.1.steps;
          used = ap length (sym a.1.trace);
          whole_trace = ap (λ b. stored b trace) (sym a.1.trace);
          whole_table = same-rules _ _ (end_of m run t bag trace).progress e.progress table a.1.state.0.each (sym a.1.instants) (sym a.1.rules);
          opening = ap (λ y. y.opening) back ∙ sym a.1.opening;
          entries = subst (StandsFor m e.progress.opening e.progress.state) (sym (ap (λ y. y.entries) back)) a.1.state.0;
          whole_run = ap (λ y. stored (run_bytes y) run) (sym back);
        }

pub as_defined : (file run : Bytes) (t : ℕ) (bag trace table : Bytes) (m : Model) → AllBytes file → accepted file ≡ ok m → MayAdvance m run t bag
    → (q : Since (root_of m)) → StandsFor m (opening_of m run) q (run_of m run).entries
    → (e : Ended (Since (root_of m))) → Ends (carried m) (length trace) t (to_bag bag) (begins (opening_of m run) q) e
    → Shows m run trace table e (advance file run t bag trace table)
as_defined file run t bag trace table m b f h q s e r =
    subst (Shows m run trace table e) (sym (advance-done file run t bag trace table m f h)) (shown run t bag trace m (accepted_sound file m b f).sound h q s table e r)
