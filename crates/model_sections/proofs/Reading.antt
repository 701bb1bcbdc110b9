-- A section as its reader goes through it: the head is judged, then the records are read in turn. One law for all sections, over the
-- section's form. Assumes nothing.
use mathlib.Core.Path.{◌≡◌, sym, ap, ◌∙◌}
use mathlib.Core.List.{List}
use mathlib.Core.Bool.{Bool, true}
use Prim.Native.Nat.{ℕ, ◌+◌, ◌-◌, ◌/◌, ◌≤◌, ◌<◌}
use native.Mathlib.Omega.{arith}
use lib.ListN.{length}
use Rattle.definition.specs.Lists.{all, up_from}
use Rattle.definition.specs.Bytes.{Bytes, Result, ok, refused, number_of}
use Rattle.definition.specs.Pinned.Decoder.{Section, section_count, section}
use Rattle.law_bytes.specs.Parts.{records_in, part_of, rest_after}
use Rattle.law_bytes.proofs.Alls.{all_start, all_more}
use Rattle.law_bytes.proofs.Records.{length-records, part_count}
use Rattle.law_bytes.proofs.Refusals.{passed, failed}
use Rattle.law_bytes.proofs.Sections.{announced, head_ok, section-head, section-bad, section-good}
use Rattle.model_checks.specs.Reads.{checked}
use Rattle.model_checks.proofs.Laws.{read_is}

-- The size of its records, the number by which a count is refused, the record that bytes stand for, its test, and the number of one that
-- fails it.
pub record Form (A : Type 0) : Type 0 where
  pub size : ℕ
  pub wrong : ℕ → ℕ
  pub to : Bytes → A
  pub fits : List A → ℕ → Bool
  pub bad : ℕ

module _ {A : Type 0} (form : Form A) where
  abbrev pub section_of : Bytes → Result (Section A)
  section_of s = section form.size form.wrong form.to form.fits form.bad s

  abbrev pub records_of : Bytes → List A
  records_of records = records_in form.size form.to records

  -- Record i is the next of a section whose head is right: as many records as announced stand in the slice of its records, and those from i
  -- on pass if and only if all pass.
  pub record Reading (s : Bytes) (found : ℕ) (records : Bytes) (i : ℕ) : Type 0 where
    pub sized : 0 < form.size
    pub read : found ≡ announced s
    pub part : records ≡ part_of form.size found s
    pub right : number_of (section_count form.size (λ _. form.wrong (announced s)) s) ≡ 0
    pub left : all (form.fits (records_of records)) (up_from i (found - i)) ≡ all (form.fits (records_of records)) (up_from 0 found)

  -- The head, as the code judges it: from the count that it found, and the number by which that is refused.
  module _ (s : Bytes) {found wrong number : ℕ} (read : found ≡ announced s) (judged : wrong ≡ form.wrong found)
      (head : number ≡ number_of (section_count form.size (λ _. wrong) s)) where
    head-is : number ≡ number_of (section_count form.size (λ _. form.wrong (announced s)) s)
    head-is = head ∙ ap (λ k. number_of (section_count form.size (λ _. k) s)) (judged ∙ ap form.wrong read)

    pub head-refused : 0 < number → refused number ≡ section_of s
    head-refused z = sym (section-head form.size form.wrong form.to form.fits form.bad s head-is (λ q. absurd (omega arith)))

    pub reading-starts : number ≡ 0 → {records : Bytes} → records ≡ part_of form.size found s → 0 < form.size → Reading s found records 0
    reading-starts z e pos = record { sized = pos; read = read; part = e; right = sym head-is ∙ z; left = all_start _ found }

module _ {A : Type 0} {form : Form A} {s : Bytes} {found : ℕ} {records : Bytes} {i : ℕ} (at : Reading form s found records i) where
  part-is : records ≡ part_of form.size (announced s) s
  part-is = at.part ∙ ap (λ n. part_of form.size n s) at.read

  -- The slice holds so many records, and that is a right count.
  pub reading-count : length (records_of form records) ≡ found
  reading-count =
      length-records form.size form.to records
      ∙ ap (λ r. length r / form.size) part-is
      ∙ part_count form.size form.to at.sized (announced s) s (head_ok form.size form.wrong s at.right).2
      ∙ sym at.read

  pub reading-right : form.wrong found ≡ 0
  reading-right = ap form.wrong at.read ∙ (head_ok form.size form.wrong s at.right).1

  -- None is left.
  pub reading-ends : found ≤ i → ok (record { records = records_of form (part_of form.size found s); rest = rest_after form.size found s }) ≡ section_of form s
  reading-ends l =
      rw at.read
      (sym (section-good form.size form.wrong form.to form.fits form.bad s at.sized at.right i (rw (← at.read) l) (rw (← part-is, ← at.read) at.left)))

  -- What was read as record i is refused, and so the section; or it passes, and the next is to be read.
  module _ (l : i < found) (x : A) where
    pub reading_refused : {m : ℕ} → refused m ≡ checked (form.fits (records_of form records) i) form.bad x → refused m ≡ section_of form s
    unfolding checked
    reading_refused {m} e =
        let b = failed (form.fits (records_of form records) i) form.bad x {m = m} e in
        ap refused b.1
        ∙ sym (section-bad form.size form.wrong form.to form.fits form.bad s at.sized at.right i (rw (← at.read) l)
        (rw (← part-is, ← at.read) at.left) (rw (← part-is) b.0))

    module _ {a : A} (e : ok a ≡ checked (form.fits (records_of form records) i) form.bad x) where
      pub reading-passes : form.fits (records_of form records) i ≡ true
      unfolding checked
      reading-passes = passed (form.fits (records_of form records) i) form.bad x e

      pub reading-is : a ≡ x
      reading-is = read_is (form.fits (records_of form records) i) form.bad x e

      pub reading-more : Reading form s found records (i + 1)
      reading-more = record { sized = at.sized; read = at.read; part = at.part; right = at.right; left = all_more _ i found l reading-passes ∙ at.left }
