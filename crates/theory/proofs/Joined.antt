-- The records of an advance lie from the open moment of the run that it was given on, and before that of the run that it leaves, which is what it
-- stores; an advance that is refused writes none and leaves the run. So those of successive advances, each on the run that the one before left, are
-- joined in turn by their spans, whatever model each one runs. Assumes nothing.
use mathlib.Core.Path.{◌≡◌, refl, sym, ap, ap₂, ◌∙◌, subst}
use Prim.Native.Nat.{ℕ, ◌≤◌}
use mathlib.Core.List.{List, [], ◌∷◌, ◌++◌, map, append-nil}
use native.Mathlib.Omega.{arith}
use lib.ListN.{length}
use Rattle.definition.specs.Lists.{concat}
use Rattle.definition.specs.Bytes.{Bytes, AllBytes, Result, ok, refused, ◌>>=◌, stored}
use Rattle.definition.specs.Limits.{longest_record}
use Rattle.definition.specs.Model.{Model}
use Rattle.definition.specs.Pinned.Decoder.{accepted}
use Rattle.definition.specs.Sound.{Every}
use Rattle.definition.specs.SavedRun.{Run, open_moment, to_run, run_of}
use Rattle.definition.specs.Instant.{TraceRecord, trace_bytes}
use Rattle.definition.specs.Engine.{Advanced, to_bag, advance_checks, advanced, advance}
use Rattle.definition.specs.Calls.{AdvanceCall, answers, engine}
use Rattle.definition.specs.Demands.{MayAdvance, traced_by, refused_advance, RecordsWithin}
use Rattle.definition.specs.Columns.{Recorded}
use Rattle.definition.specs.TracesByColumn.{joined_traces, OneTrace}
use Rattle.law_base.proofs.Everys.{every-if}
use Rattle.law_model.proofs.WellFormed.{WellFormed, Accepted}
use Rattle.law_model.proofs.Reading.{accepted_sound}
use Rattle.law_model.proofs.Answers.{end_of}
use Rattle.law_flat.proofs.Checks.{advance-ok}
use Rattle.law_text.proofs.Records.{record_length_lem}
use Rattle.law_columns.proofs.WholeTraces.{one-reading}
use Rattle.law_calls.proofs.Fitting.{fits_run, fit_written}
use Rattle.theory.proofs.Buffers.{stored-front}
use Rattle.theory.proofs.Demand1.{advance_ends}
use Rattle.theory.proofs.Shown.{run_after, after-fits}
use Rattle.theory.proofs.Spans.{Small, Span, span-recorded, trace-append, span_none, span-append, nest-adds}

-- ---- one advance

-- The records of an advance, and where the open moment goes.
pub record Passed (run : Bytes) (a : Advanced) : Type 0 where
  pub new : List TraceRecord
  pub bytes : traced_by a ≡ trace_bytes new
  pub span : Span (open_moment run) (open_moment a.run) new
  pub onward : open_moment run ≤ open_moment a.run

passed-refused : (run trace table : Bytes) (n : ℕ) → Passed run (refused_advance n run trace table)
unfolding trace_bytes concat
passed-refused run trace table n = record { new = []; bytes = refl; span = span_none (open_moment run) (open_moment run); onward = omega arith }

module _ (run : Bytes) (t : ℕ) (bag trace table : Bytes) (m : Model) (a : Accepted m) (may : MayAdvance m run t bag) where
  abbrev w : WellFormed m
  w = a.sound

  -- the open moment that is stored
  stored-opening : open_moment (advanced run trace table (ok (end_of m run t bag trace))).run ≡ (end_of m run t bag trace).progress.opening
  unfolding advanced stored run_of to_run
  stored-opening = ap (λ (r : Run). r.opening) (fit_written m w (run_after m run t bag trace) _ (after-fits run t bag trace m w may)).1

  passed-done : Passed run (advanced run trace table (ok (end_of m run t bag trace)))
  unfolding advanced run_of to_run
  passed-done =
      let ends = advance_ends run t bag trace m w may.run_fits_lem may.not_early in
      let n = nest-adds m a (length trace) t may.not_late (to_bag bag) ends (fits_run m run may.run_fits_lem).0.0 may.not_early in
      record {
        new = n.new;
        bytes = stored-front (end_of m run t bag trace).progress.trace trace ∙ n.trace;
        span = subst (λ o. Span (open_moment run) o n.new) (sym stored-opening) n.span;
        onward = omega (arith, stored-opening, n.onward);
      }

-- Whatever it is given.
pub passes : (file run : Bytes) (c : AdvanceCall) → AllBytes file → Passed run (answers (engine file) run c)
unfolding engine advance
passes file run c b = model (accepted file) refl
  where
    checks : (m : Model) → accepted file ≡ ok m → (r : Result (Unit {0})) → advance_checks m run c.moment c.bag ≡ r
        → Passed run (advanced run c.trace c.table (advance_checks m run c.moment c.bag >>= λ _. ok (end_of m run c.moment c.bag c.trace)))
    checks m e (refused n) f = rw f (unfold advanced in passed-refused run c.trace c.table n)
    checks m e (ok u) f = rw f (passed-done run c.moment c.bag c.trace c.table m (accepted_sound file m b e) (advance-ok m run c.moment c.bag f))

    model : (r : Result Model) → accepted file ≡ r → Passed run (advance file run c.moment c.bag c.trace c.table)
    model (refused n) e = rw e (unfold advanced in passed-refused run c.trace c.table n)
    model (ok m) e = rw e (checks m e (advance_checks m run c.moment c.bag) refl)

-- ---- advances in turn

-- The records of all of them.
record Joins (run s : Bytes) : Type 0 where
  pub new : List TraceRecord
  pub until : ℕ
  pub bytes : s ≡ trace_bytes new
  pub span : Span (open_moment run) until new
  pub onward : open_moment run ≤ until

joins : (run : Bytes) (calls : List (Bytes × AdvanceCall)) → Every (λ c. AllBytes c.0) calls → Joins run (joined_traces run (map (λ c. (engine c.0, c.1)) calls))
unfolding joined_traces trace_bytes concat
joins run [] b = record { new = []; until = open_moment run; bytes = refl; span = span_none (open_moment run) (open_moment run); onward = omega arith }
joins run (c ∷ cs) b =
    let left = (answers (engine c.0) run c.1).run in
    let p = passes c.0 run c.1 b.0 in
    let q = joins left cs b.1 in
    record {
      new = p.new ++ q.new;
      until = q.until;
      bytes = ap₂ ◌++◌ p.bytes q.bytes ∙ sym (trace-append p.new q.new);
      span = span-append (open_moment run) (open_moment left) q.until p.new q.new p.onward q.onward p.span q.span;
      onward = omega (arith, p.onward, q.onward);
    }

-- The bytes are records in a row, in order, each of them small.
abbrev pub Traces : Bytes → Type 0
Traces s = (rs : List TraceRecord) × Recorded s rs × Every Small rs

pub one_of : (s : Bytes) → Traces s → OneTrace s
one_of s t = (t.0, t.1, λ few. record { recorded = t.1; few = few })

-- whatever records the bytes are read as, since they are read in one way
pub short-of : (s : Bytes) → Traces s → RecordsWithin longest_record s
short-of s t rs r = every-if Small _ (λ q h. omega (arith, record_length_lem q)) rs (subst (Every Small) (one-reading s t.0 rs t.1 r) t.2)

-- Any advances, from any run buffer.
pub joined-traces : (run : Bytes) (calls : List (Bytes × AdvanceCall)) → Every (λ c. AllBytes c.0) calls
    → Traces (joined_traces run (map (λ c. (engine c.0, c.1)) calls))
joined-traces run calls b =
    let j = joins run calls b in
    (j.new, span-recorded (open_moment run) j.until _ j.new j.bytes j.span, j.span.small)

-- One advance is a list of one.
pub advance-traces : (file run : Bytes) (c : AdvanceCall) → AllBytes file → Traces (traced_by (answers (engine file) run c))
unfolding joined_traces
advance-traces file run c b = subst Traces (append-nil (traced_by (answers (engine file) run c))) (joined-traces run ((file, c) ∷ []) (b, tt))

pub advance-short : (file run : Bytes) (t : ℕ) (bag trace table : Bytes) → AllBytes file → RecordsWithin longest_record (traced_by (advance file run t bag trace table))
unfolding engine
advance-short file run t bag trace table b = short-of _ (advance-traces file run (record { moment = t; bag = bag; trace = trace; table = table }) b)
