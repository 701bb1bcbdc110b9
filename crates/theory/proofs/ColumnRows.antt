-- The calls that rearrange answer as their rows tell: the bytes that they make where there are any, refused by 15 where the buffer is too short for
-- them, and the request's own number where nothing can be made, before 15. Crate law_columns shows what each makes. Assumes nothing.
use mathlib.Core.Path.{◌≡◌, refl, sym, ap, ◌∙◌, subst}
use Prim.Native.Nat.{ℕ, ◌≤◌, ◌<◌}
use mathlib.Core.Bool.{Bool, true, false}
use native.Mathlib.Omega.{arith}
use lib.Dec.{ltb}
use lib.ListN.{length}
use borrow.Author.Tests.{ltb-true, ltb-false, lt-ltb, le-ltb}
use Rattle.definition.specs.Bytes.{Bytes, AllBytes, Result, ok, refused, stored}
use Rattle.definition.specs.Engine.{wrote}
use Rattle.definition.specs.Columns.{Rearranges}
use Rattle.definition.specs.Pinned.TraceReader.{rearranged, restored, trace_to_columns, columns_to_trace}
use Rattle.definition.specs.Demands.{written, refused_write, RearrangingRefusal, nothing_to_make, rearranging_refuses_buffer, ColumnsRefusal, TraceRefusal}
use Rattle.law_base.proofs.Results.{never-ok}
use Rattle.law_columns.proofs.Rearranging.{rearranges-there, there-rearranges, none_there, rearranges-back, back-rearranges, none-back}
use Rattle.theory.proofs.Buffers.{stored-front}

-- ---- any call that rearranges: r is what it makes, and `Makes` tells what that may be

module _ (Makes : Bytes → Type 0) (r : Result Bytes) (makes : (made : Bytes) → Makes made → r ≡ ok made) (buffer : Bytes) where
  done : (made : Bytes) → Makes made → length made ≤ length buffer → wrote buffer r ≡ record { number = 0; written = length made; buffer = stored made buffer }
  unfolding wrote
  done made h l = rw (makes made h, le-ltb (length buffer) (length made) l)

  short : (made : Bytes) → Makes made → length buffer < length made → wrote buffer r ≡ refused_write 15 buffer
  unfolding wrote
  short made h l = rw (makes made h, lt-ltb (length buffer) (length made) l)

  module _ (nothing : ℕ) (made_so : (made : Bytes) → r ≡ ok made → Makes made) (numbered : (n : ℕ) → r ≡ refused n → n ≡ nothing) where
    refuses : (n : ℕ) → r ≡ refused n → wrote buffer r ≡ refused_write nothing buffer
    unfolding wrote
    refuses n e = rw e (ap (λ k. refused_write k buffer) (numbered n e))

    row-refused : (n : ℕ) → RearrangingRefusal Makes nothing buffer n → wrote buffer r ≡ refused_write n buffer
    row-refused n (nothing_to_make none) = go r refl
      where
        go : (q : Result Bytes) → r ≡ q → wrote buffer r ≡ refused_write nothing buffer
        go (ok made) e = absurd (none made (made_so made e))
        go (refused j) e = refuses j e
    row-refused n (rearranging_refuses_buffer made h l) = short made h l

    -- what the call does, one of three
    data Answers : Type 0 where
      makes_nothing : ((made : Bytes) → Makes made → ⊥) → wrote buffer r ≡ refused_write nothing buffer → Answers
      too_short : (made : Bytes) → Makes made → length buffer < length made → wrote buffer r ≡ refused_write 15 buffer → Answers
      makes_it : (made : Bytes) → Makes made → wrote buffer r ≡ record { number = 0; written = length made; buffer = stored made buffer } → Answers

    answers : Answers
    answers = go r refl
      where
        go : (q : Result Bytes) → r ≡ q → Answers
        go (refused j) e = makes_nothing (λ made h. never-ok j made (sym e ∙ makes made h)) (refuses j e)
        go (ok made) e = room (ltb (length buffer) (length made)) refl
          where
            room : (b : Bool) → ltb (length buffer) (length made) ≡ b → Answers
            room true f = let l = ltb-true (length buffer) (length made) f in too_short made (made_so made e) l (short made (made_so made e) l)
            room false f = makes_it made (made_so made e) (done made (made_so made e) (ltb-false (length buffer) (length made) f))

    row-of : 0 < (wrote buffer r).number → RearrangingRefusal Makes nothing buffer (wrote buffer r).number
    row-of l = go answers
      where
        number : (n : ℕ) → wrote buffer r ≡ refused_write n buffer → RearrangingRefusal Makes nothing buffer n → RearrangingRefusal Makes nothing buffer (wrote buffer r).number
        number n e h = subst (RearrangingRefusal Makes nothing buffer) (sym (ap (λ w. w.number) e)) h

        go : Answers → RearrangingRefusal Makes nothing buffer (wrote buffer r).number
        go (makes_nothing none e) = number nothing e (nothing_to_make none)
        go (too_short made h k e) = number 15 e (rearranging_refuses_buffer made h k)
        go (makes_it made h e) = absurd (omega (arith, l, ap (λ w. w.number) e))

    -- where it answers 0, what it wrote is what it makes
    made_by : 0 < nothing → (wrote buffer r).number ≡ 0 → Makes (written (wrote buffer r))
    made_by some fine = go answers
      where
        go : Answers → Makes (written (wrote buffer r))
        go (makes_nothing none e) = absurd (omega (arith, some, fine, ap (λ w. w.number) e))
        go (too_short made h k e) = absurd (omega (arith, fine, ap (λ w. w.number) e))
        go (makes_it made h e) = subst Makes (sym (ap written e ∙ stored-front made buffer)) h

-- ---- a trace into its columns

module _ (trace buffer : Bytes) where
  abbrev ColumnsOf : Bytes → Type 0
  ColumnsOf columns = Rearranges trace columns

  pub columns_refused : (n : ℕ) → AllBytes trace → ColumnsRefusal trace buffer n → trace_to_columns trace buffer ≡ refused_write n buffer
  unfolding trace_to_columns
  columns_refused n b = row-refused ColumnsOf (rearranged trace) (there-rearranges trace) buffer 17 (λ columns. rearranges-there trace columns b) (none_there trace) n

  pub columns_number : AllBytes trace → 0 < (trace_to_columns trace buffer).number → ColumnsRefusal trace buffer (trace_to_columns trace buffer).number
  unfolding trace_to_columns
  columns_number b = row-of ColumnsOf (rearranged trace) (there-rearranges trace) buffer 17 (λ columns. rearranges-there trace columns b) (none_there trace)

  -- where it answers 0, the bytes written are the columns
  pub columns-made : AllBytes trace → (trace_to_columns trace buffer).number ≡ 0 → Rearranges trace (written (trace_to_columns trace buffer))
  unfolding trace_to_columns
  columns-made b = made_by ColumnsOf (rearranged trace) (there-rearranges trace) buffer 17 (λ columns. rearranges-there trace columns b) (none_there trace) (omega arith)

pub columns_done : (trace columns buffer : Bytes) → Rearranges trace columns → length columns ≤ length buffer
    → trace_to_columns trace buffer ≡ record { number = 0; written = length columns; buffer = stored columns buffer }
unfolding trace_to_columns
columns_done trace columns buffer = done (λ made. Rearranges trace made) (rearranged trace) (there-rearranges trace) buffer columns

-- ---- columns into their trace

module _ (columns buffer : Bytes) where
  abbrev TraceOf : Bytes → Type 0
  TraceOf trace = Rearranges trace columns

  pub trace_refused : (n : ℕ) → AllBytes columns → TraceRefusal columns buffer n → columns_to_trace columns buffer ≡ refused_write n buffer
  unfolding columns_to_trace
  trace_refused n b = row-refused TraceOf (restored columns) (λ trace. back-rearranges trace columns) buffer 18 (λ trace. rearranges-back trace columns b) (none-back columns) n

  pub trace_number : AllBytes columns → 0 < (columns_to_trace columns buffer).number → TraceRefusal columns buffer (columns_to_trace columns buffer).number
  unfolding columns_to_trace
  trace_number b = row-of TraceOf (restored columns) (λ trace. back-rearranges trace columns) buffer 18 (λ trace. rearranges-back trace columns b) (none-back columns)

  -- where it answers 0, the bytes written are the trace
  pub trace-made : AllBytes columns → (columns_to_trace columns buffer).number ≡ 0 → Rearranges (written (columns_to_trace columns buffer)) columns
  unfolding columns_to_trace
  trace-made b = made_by TraceOf (restored columns) (λ trace. back-rearranges trace columns) buffer 18 (λ trace. rearranges-back trace columns b) (none-back columns) (omega arith)

pub trace_done : (columns trace buffer : Bytes) → Rearranges trace columns → length trace ≤ length buffer
    → columns_to_trace columns buffer ≡ record { number = 0; written = length trace; buffer = stored trace buffer }
unfolding columns_to_trace
trace_done columns trace buffer = done (λ made. Rearranges made columns) (restored columns) (λ made. back-rearranges made columns) buffer trace
