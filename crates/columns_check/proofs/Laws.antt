-- The tests of columns in turn, as the code has them. Assumes nothing.
use mathlib.Core.Path.{◌≡◌, sym, ap, ◌∙◌}
use Prim.Native.Nat.{ℕ, ◌+◌, ◌*◌, ◌<◌, ◌≤◌}
use mathlib.Core.Bool.{Bool, true, false, not}
use native.Mathlib.Omega.{arith}
use lib.Dec.{ltb, eqb}
use Rattle.std.specs.Prelude.{None}
use lib.ListN.{length}
use borrow.Author.Tests.{lt-ltb, le-ltb, eq-eqb, ne_eqb}
use Rattle.definition.specs.Bytes.{Bytes, ok, refused, ◌>>=◌, refuse_if, number_at}
use Rattle.definition.specs.Pinned.TraceReader.{record_count}
use Rattle.law_columns.specs.ByPosition.{none_yet, counts_from, columns_good, columns_scanned}
use Rattle.columns_forms.specs.Forms.{columns_from, counts_by, columns_fit}
use Rattle.columns_forms.proofs.InColumns.{from_start, columns-fit, counts-by}

module _ (s : Bytes) where
  abbrev pub count_in : ℕ
  count_in = number_at 4 0 s

  abbrev pub total_in : ℕ
  total_in = counts_by count_in (4 + 10 * count_in) s

  abbrev pub fit_in : Bool
  fit_in = columns_fit count_in None (columns_from count_in total_in) s

  total-is : counts_from count_in s count_in 0 ≡ total_in
  total-is = counts-by count_in s count_in 0 (4 + 10 * count_in) (omega arith)

  fit_is : columns_good count_in total_in s count_in 0 0 none_yet ≡ fit_in
  unfolding none_yet
  fit_is = columns-fit count_in total_in s count_in 0 0 none_yet ∙ ap (λ at. columns_fit count_in None at s) (sym (from_start count_in total_in))

  by_tests : columns_scanned s
      ≡ (refuse_if (ltb (length s) (4 + 12 * count_in)) 18 >>= λ _. refuse_if (not (eqb (length s) (4 + 12 * count_in + 3 * total_in))) 18 >>= λ _.
      refuse_if (not fit_in) 18 >>= λ _. ok (count_in, total_in))
  unfolding columns_scanned record_count
  by_tests = rw (total-is, fit_is)

  pub columns-short : length s < 4 + 12 * count_in → columns_scanned s ≡ refused 18
  columns-short l = by_tests ∙ rw (lt-ltb (length s) (4 + 12 * count_in) l)

  module _ (h : 4 + 12 * count_in ≤ length s) where
    pub columns-other : (length s ≡ 4 + 12 * count_in + 3 * total_in → ⊥) → columns_scanned s ≡ refused 18
    columns-other e = by_tests ∙ rw (le-ltb (length s) (4 + 12 * count_in) h, ne_eqb (length s) (4 + 12 * count_in + 3 * total_in) e)

    module _ (e : length s ≡ 4 + 12 * count_in + 3 * total_in) where
      pub columns-unfit : fit_in ≡ false → columns_scanned s ≡ refused 18
      columns-unfit f = by_tests ∙ rw (le-ltb (length s) (4 + 12 * count_in) h, eq-eqb (length s) (4 + 12 * count_in + 3 * total_in) e, f)

      pub columns-ok : fit_in ≡ true → columns_scanned s ≡ ok (count_in, total_in)
      columns-ok f = by_tests ∙ rw (le-ltb (length s) (4 + 12 * count_in) h, eq-eqb (length s) (4 + 12 * count_in + 3 * total_in) e, f)
