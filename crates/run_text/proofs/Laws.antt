-- Laws of putting bytes on a page and of the texts put there: one more, none left. Assumes nothing.
use mathlib.Core.Path.{◌≡◌, refl}
use mathlib.Core.List.{[], ◌∷◌, ◌++◌}
use Prim.Native.Nat.{ℕ, zero, suc, ◌+◌, ◌-◌, ◌*◌, ◌/◌, ◌%◌, ◌<◌, ◌≤◌}
use native.Mathlib.Omega.{arith}
use lib.ListN.{length, take, drop, get_or, length-drop}
use lib.Seq.{drop-cons, drop-drop}
use borrow.Author.Tests.{lt-ltb, le-ltb, eq-eqb, ne_eqb}
use Rattle.definition.specs.Bytes.{Bytes, number_at}
use Rattle.definition.specs.Limits.{message_size}
use Rattle.call_answers.specs.declared.Written.{Written}
use Rattle.call_answers.specs.declared.Advanced.{Advanced}
use Rattle.call_answers.specs.Answers.{wrote_of, advanced_of}
use Rattle.definition.specs.Engine.{start, advance}
use Rattle.run_text.specs.Put.{Page, put1, put}
use Rattle.run_text.specs.Text.{digit, decimal_in, field, message_line, message_lines, record_head, record_lines, behind_record, lines, trace_lines, end_line, refused_line, space, newline, first_line, moment_size}
use Rattle.run_text.specs.Text.{last_line, advanced_text, started_text, input_text}

-- Text after text.
pub put-append : (xs ys : Bytes) (page : Page) → put (xs ++ ys) page ≡ put ys (put xs page)
unfolding put
put-append [] ys page = refl
put-append (x ∷ xs) ys page = put-append xs ys (put1 x page)

-- A text and one byte more.
pub put-snoc : (xs : Bytes) (b : ℕ) (page : Page) → put (xs ++ b ∷ []) page ≡ put1 b (put xs page)
unfolding put
put-snoc xs b page = put-append xs (b ∷ []) page

-- ---- digits

pub decimal-none : (k n : ℕ) (page : Page) → k ≡ 0 → put (decimal_in k n) page ≡ page
unfolding decimal_in put
decimal-none k n page h = rw h

pub decimal-one : (k n : ℕ) (page : Page) → 0 < k → n < 10 → put (decimal_in k n) page ≡ put1 (digit n) page
unfolding decimal_in put
decimal-one zero n page p h = absurd (omega arith)
decimal-one (suc k) n page p h = rw (lt-ltb n 10 h)

pub decimal-more : (k n : ℕ) (page : Page) → 0 < k → 10 ≤ n → put (decimal_in k n) page ≡ put1 (digit (n % 10)) (put (decimal_in (k - 1) (n / 10)) page)
unfolding decimal_in
decimal-more zero n page p h = absurd (omega arith)
decimal-more (suc k) n page p h =
    let e : suc k - 1 ≡ k = omega arith in
    rw (le-ltb n 10 h, e) (put-snoc (decimal_in k (n / 10)) (digit (n % 10)) page)

-- ---- texts

-- One byte more of a text.
pub text-more : (text : Bytes) (k : ℕ) (page : Page) → k < length text → put (drop (k + 1) text) (put1 (get_or text k 0) page) ≡ put (drop k text) page
unfolding put
text-more text k page h =
    let e : k + 1 ≡ suc k = omega arith in rw (e, drop-cons text k 0 h)

pub text-none : (text : Bytes) (k : ℕ) (page : Page) → length text ≤ k → put (drop k text) page ≡ page
unfolding put
text-none [] zero page h = refl
text-none [] (suc k) page h = refl
text-none (x ∷ text) zero page h = absurd (omega arith)
text-none (x ∷ text) (suc k) page h = text-none text k page (omega arith)

-- ---- lines

pub message-line : (moment step : ℕ) (rows : Bytes) (page : Page) →
    put (message_line moment step rows) page
    ≡ put (field (number_at 2 1 rows) newline) (put (field (number_at 1 0 rows) space) (put (field step space) (put (field moment space) page)))
unfolding message_line
message-line moment step rows page = rw (put-append, put-append, put-append)

-- One message more.
pub messages-more : (n k moment step : ℕ) (rows : Bytes) (page : Page) → k < n →
    put (message_lines (n - (k + 1)) moment step (drop (message_size * (k + 1)) rows)) (put (message_line moment step (drop (message_size * k) rows)) page)
    ≡ put (message_lines (n - k) moment step (drop (message_size * k) rows)) page
unfolding message_lines
messages-more n k moment step rows page h =
    let e : n - k ≡ suc (n - (k + 1)) = omega arith in
    let f : 3 * (k + 1) ≡ 3 * k + 3 = omega arith in
    rw (e, f, ← drop-drop 3 (3 * k) rows, put-append)

pub messages-none : (moment step : ℕ) (rows : Bytes) (page : Page) → put (message_lines 0 moment step rows) page ≡ page
unfolding message_lines put
messages-none moment step rows page = refl

-- One record more.
pub lines_more : (turns from : ℕ) (trace : Bytes) (page : Page) → 0 < turns → from < length trace →
    put (lines (turns - 1) (drop (from + (record_head + message_size * number_at 2 10 (drop from trace))) trace)) (put (record_lines (drop from trace)) page)
    ≡ put (lines turns (drop from trace)) page
unfolding lines behind_record
lines_more zero from trace page t h = absurd (omega arith)
lines_more (suc n) from trace page t h =
    let e : suc n - 1 ≡ n = omega arith in
    let k = record_head + message_size * number_at 2 10 (drop from trace) in
    rw (e, ne_eqb (length (drop from trace)) 0 (λ z. omega (arith, z, length-drop from trace)), drop-drop k from trace, put-append)

-- No record is left.
pub lines-past : (turns from : ℕ) (trace : Bytes) (page : Page) → length trace ≤ from → put (lines turns (drop from trace)) page ≡ page
unfolding lines put
lines-past zero from trace page h = refl
lines-past (suc n) from trace page h = rw (eq-eqb (length (drop from trace)) 0 (omega (arith, length-drop from trace)))

pub lines_none : (from : ℕ) (trace : Bytes) (page : Page) → put (lines 0 (drop from trace)) page ≡ page
unfolding lines put
lines_none from trace page = refl

pub refused-line : (n : ℕ) (page : Page) → put (refused_line n) page ≡ put (field n newline) (put (114 ∷ 101 ∷ 102 ∷ 117 ∷ 115 ∷ 101 ∷ 100 ∷ 32 ∷ []) page)
unfolding refused_line
refused-line n page = rw put-append

pub end_line_lem : (opening steps : ℕ) (page : Page) →
    put (end_line opening steps) page
    ≡ put (field steps newline) (put (115 ∷ 116 ∷ 101 ∷ 112 ∷ 115 ∷ 32 ∷ []) (put (field opening space) (put (101 ∷ 110 ∷ 100 ∷ 32 ∷ []) page)))
unfolding end_line
end_line_lem opening steps page = rw (put-append, put-append, put-append)

-- ---- a run

pub advanced-text : (run trace table : Bytes) (r : Advanced) (page : Page) →
    put (advanced_text (advanced_of run trace table r)) page ≡ put (last_line r.number run r.steps) (put (trace_lines (take r.trace_bytes trace)) page)
unfolding advanced_text
advanced-text run trace table r page = put-append (trace_lines (take r.trace_bytes trace)) (last_line r.number run r.steps) page

module _ (model : Bytes) (end : ℕ) (trace run : Bytes) (r : Written) where
  pub started-on : r.number ≡ 0 → started_text model end trace (wrote_of run r) ≡ advanced_text (advance model run end [] trace [])
  unfolding started_text
  started-on h = rw (eq-eqb r.number 0 h)

  pub started-off : (r.number ≡ 0 → ⊥) → started_text model end trace (wrote_of run r) ≡ refused_line r.number
  unfolding started_text
  started-off h = rw (ne_eqb r.number 0 h)

module _ (input run trace : Bytes) (page : Page) where
  pub input-short : length input < moment_size → put (input_text input run trace) page ≡ put (refused_line 1) (put first_line page)
  unfolding input_text
  input-short h = rw (lt-ltb (length input) moment_size h) (put-append first_line (refused_line 1) page)

  pub input-long : moment_size ≤ length input →
      put (input_text input run trace) page
      ≡ put (started_text (drop moment_size input) (number_at moment_size 0 input) trace (start (drop moment_size input) run)) (put first_line page)
  unfolding input_text
  input-long h =
      rw (le-ltb (length input) moment_size h)
      (put-append first_line (started_text (drop moment_size input) (number_at moment_size 0 input) trace (start (drop moment_size input) run)) page)
