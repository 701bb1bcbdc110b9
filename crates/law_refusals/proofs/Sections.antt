-- One section, whatever its form: it stops with a number or passes with its records, and the decoder gives that number or those records.
-- Assumes nothing.
use mathlib.Core.Path.{◌≡◌, refl, sym, ap, ap₂, ◌∙◌}
use Prim.Native.Nat.{ℕ, ◌+◌, ◌*◌, ◌^◌, ◌≤◌, ◌<◌}
use mathlib.Core.List.{List, ◌++◌, map}
use mathlib.Core.Bool.{Bool, true, false, not}
use native.Mathlib.Omega.{arith}
use lib.Dec.{ltb}
use lib.ListN.{length, drop, length-map, length-drop, take-append-drop}
use lib.Seq.{take-add}
use borrow.Author.Tests.{ltb-true, ltb-false, lt-ltb, le-ltb}
use Rattle.definition.specs.Lists.{all, up_from}
use Rattle.definition.specs.Bytes.{Bytes, AllBytes, Result, ok, refused, ◌>>=◌, refuse_if, number_at, bytes_of, chunks, laid_out}
use Rattle.definition.specs.Limits.{count_size}
use Rattle.definition.specs.File.{section_bytes}
use Rattle.definition.specs.Pinned.Decoder.{Section, section_count, section}
use Rattle.definition.specs.Sound.{Form}
use Rattle.definition.specs.Refusals.{Spells, Passes, Stops, count_cut, count_wrong, not_the_sum, records_cut, line_broken}
use Rattle.law_model.proofs.Codec.{drop-bytes, number-written, length-chunks}
use Rattle.law_model.proofs.Sections.{section-back}
use Rattle.law_base.proofs.Results.{ok_same, bind_ok, refuse-ok}
use Rattle.law_refusals.proofs.Tests.{Decides, fails, fails-not, numbers, failing}
use Rattle.law_model.proofs.Rows.{rows-held, rows_written, each_back}
use Rattle.law_model.proofs.Layouts.{Spelled, record-size}

-- ---- a form with its decoder

-- The number that a count gets, beside what the form says of the count.
pub data Counted {A : Type 0} (f : Form A) (refusal : ℕ → ℕ) (n : ℕ) : Type 0 where
  none_applies : f.Within n → f.Right n → refusal n ≡ 0 → Counted f refusal n
  over_limit : (f.Within n → ⊥) → refusal n ≡ 3 → Counted f refusal n
  other_sum : f.Within n → (f.Right n → ⊥) → refusal n ≡ 5 → Counted f refusal n

-- The decoder reads sections of the form: its records are spelled, its counts get their numbers, its tests decide the lines.
pub record Reads {A : Type 0} (f : Form A) (refusal : ℕ → ℕ) (to : Bytes → A) (fits : List A → ℕ → Bool) : Type 0 where
  pub spelled : Spelled f.size f.layout to
  pub small : (n : ℕ) → f.Within n → n < 256 ^ count_size
  pub counted : (n : ℕ) → Counted f refusal n
  pub line : (xs : List A) (i : ℕ) → f.Right (length xs) → i < length xs → Decides (fits xs i) (f.Keeps xs i)

-- What a section at the front of s turns out to be.
pub data Found {A : Type 0} (f : Form A) (s : Bytes) : Type 0 where
  stopped : (n : ℕ) → Stops f s n → Found f s
  passed : (xs : List A) (rest : Bytes) → Passes f s xs rest → AllBytes rest → Found f s

module _ {A : Type 0} {f : Form A} {refusal : ℕ → ℕ} {to : Bytes → A} {fits : List A → ℕ → Bool} (w : Reads f refusal to fits) where
  abbrev read : Bytes → Result (Section A)
  read s = section f.size refusal to fits f.number s

  -- ---- counts

  within-right : (n : ℕ) → f.Within n → f.Right n → refusal n ≡ 0
  within-right n a b = go (w.counted n)
    where
      go : Counted f refusal n → refusal n ≡ 0
      go (none_applies x y e) = e
      go (over_limit x e) = absurd (x a)
      go (other_sum x y e) = absurd (y b)

  not_within : (n : ℕ) → (f.Within n → ⊥) → refusal n ≡ 3
  not_within n a = go (w.counted n)
    where
      go : Counted f refusal n → refusal n ≡ 3
      go (none_applies x y e) = absurd (a x)
      go (over_limit x e) = e
      go (other_sum x y e) = absurd (a x)

  not_right : (n : ℕ) → f.Within n → (f.Right n → ⊥) → refusal n ≡ 5
  not_right n a b = go (w.counted n)
    where
      go : Counted f refusal n → refusal n ≡ 5
      go (none_applies x y e) = absurd (b y)
      go (over_limit x e) = absurd (x a)
      go (other_sum x y e) = e

  -- ---- records spelled by a section are read of it

  module _ (s : Bytes) (xs : List A) (rest : Bytes) (p : Spells f s xs rest) (within : f.Within (length xs)) (right : f.Right (length xs)) where
    -- the section is read with a test that passes every record
    any-records : section f.size refusal to (λ ys i. true) f.number s ≡ ok (record { records = xs; rest = rest })
    any-records =
        rw p.bytes (section-back f.size refusal to (λ x. laid_out (f.layout x)) (λ ys i. true) f.number (length xs) (record-size w.spelled)
        (w.small (length xs) within) xs rest (within-right (length xs) within right)
        (record { few = omega arith; held = each_back w.spelled xs p.held; fit = λ i l. refl }))

    -- so what remains are the tests of its lines
    lines_left : read s ≡ (refuse_if (not (all (fits xs) (up_from 0 (length xs)))) f.number >>= λ _. ok (record { records = xs; rest = rest }))
    unfolding section
    lines_left =
        let C = bind_ok (section_count f.size refusal s) _ (record { records = xs; rest = rest }) any-records in
        let n = C.0 in
        let F = refuse-ok (not (all (λ i. true) (up_from 0 n))) f.number _ (record { records = xs; rest = rest }) C.2 in
        let g = ok_same _ (record { records = xs; rest = rest }) F.1 in
        let records : map to (chunks n f.size (drop count_size s)) ≡ xs = ap (λ a. a.records) g in
        let others : drop (count_size + n * f.size) s ≡ rest = ap (λ a. a.rest) g in
        let long : n ≡ length xs
        = sym (length-chunks n f.size (drop count_size s)) ∙ sym (length-map (chunks n f.size (drop count_size s)) to) ∙ ap length records in
        rw (C.1, records, others, long)

  -- ---- a section that passes, and one that stops

  pub passes-read : (s : Bytes) (xs : List A) (rest : Bytes) → Passes f s xs rest → read s ≡ ok (record { records = xs; rest = rest })
  passes-read s xs rest p =
      let l = p.lines in
      let fit = (numbers (fits xs) 0 (length xs)).passes (λ i a b. (w.line xs i l.right (omega arith)).passes (l.keeps i (omega arith))) in
      lines_left s xs rest p.spells l.within l.right ∙ rw fit

  pub stops-read : (s : Bytes) (n : ℕ) → Stops f s n → read s ≡ refused n
  unfolding section section_count
  stops-read s n (count_cut l) = rw (lt-ltb (length s) count_size l)
  stops-read s n (count_wrong l a) = rw (le-ltb (length s) count_size l, not_within (number_at count_size 0 s) a)
  stops-read s n (not_the_sum l a b) = rw (le-ltb (length s) count_size l, not_right (number_at count_size 0 s) a b)
  stops-read s n (records_cut l a b c) = rw (le-ltb (length s) count_size l, within-right (number_at count_size 0 s) a b, lt-ltb (length s) _ c)
  stops-read s n (line_broken xs rest p a b i l h) =
      let bad = fails (numbers (fits xs) 0 (length xs)) (λ k. h ((w.line xs i b l).holds (k i (omega arith) (omega arith)))) in
      lines_left s xs rest p a b ∙ rw bad

  -- ---- every section of bytes stops or passes

  module _ (s : Bytes) (h : AllBytes s) (long : count_size ≤ length s) where
    abbrev count : ℕ
    count = number_at count_size 0 s

    abbrev records : List A
    records = map to (chunks count f.size (drop count_size s))

    abbrev rest : Bytes
    rest = drop (count_size + count * f.size) s

    records-count : length records ≡ count
    records-count = length-map (chunks count f.size (drop count_size s)) to ∙ length-chunks count f.size (drop count_size s)

    spells : count_size + count * f.size ≤ length s → Spells f s records rest
    unfolding section_bytes
    spells whole =
        let front = ap (bytes_of count_size) records-count ∙ number-written count_size 0 long h in
        let rows = rows_written w.spelled count (omega (arith, length-drop count_size s)) (drop-bytes count_size h) in
        record {
          bytes = sym (ap₂ ◌++◌ (ap₂ ◌++◌ front rows ∙ sym (take-add count_size (count * f.size) s)) refl ∙ take-append-drop (count_size + count * f.size) s);
          held = rows-held w.spelled count (drop-bytes count_size h);
        }

    -- the records are there
    checked : f.Within count → f.Right count → count_size + count * f.size ≤ length s → Found f s
    checked a b whole = go (all (fits records) (up_from 0 (length records))) refl
      where
        within : f.Within (length records)
        within = rw records-count a

        right : f.Right (length records)
        right = rw records-count b

        go : (t : Bool) → all (fits records) (up_from 0 (length records)) ≡ t → Found f s
        go true e =
            passed records rest
            (record {
              spells = spells whole;
              lines = record {
                within = within;
                right = right;
                held = (spells whole).held;
                keeps = λ i l. (w.line records i right l).holds ((numbers (fits records) 0 (length records)).holds e i (omega arith) (omega arith));
              };
            })
            (drop-bytes (count_size + count * f.size) h)
        go false e =
            let bad = failing (fits records) 0 (length records) e in
            let l : bad.0 < length records = omega (arith, bad.1) in
            stopped f.number (line_broken records rest (spells whole) within right bad.0 l (fails-not (w.line records bad.0 right l) bad.2))

    -- the count is there
    counts : Found f s
    counts = go (w.counted count)
      where
        go : Counted f refusal count → Found f s
        go (none_applies a b e) = whole (ltb (length s) (count_size + count * f.size)) refl
          where
            whole : (t : Bool) → ltb (length s) (count_size + count * f.size) ≡ t → Found f s
            whole true l = stopped 1 (records_cut long a b (ltb-true (length s) _ l))
            whole false l = checked a b (ltb-false (length s) _ l)
        go (over_limit a e) = stopped 3 (count_wrong long a)
        go (other_sum a b e) = stopped 5 (not_the_sum long a b)

  pub found : (s : Bytes) → AllBytes s → Found f s
  found s h = go (ltb (length s) count_size) refl
    where
      go : (t : Bool) → ltb (length s) count_size ≡ t → Found f s
      go true l = stopped 1 (count_cut (ltb-true (length s) count_size l))
      go false l = counts s h (ltb-false (length s) count_size l)
