use Rattle.std.proofs.Common.{◌≡◌, ◌-◌, length}
use Rattle.std.specs.Prelude.{None}
use Rattle.columns_forms.specs.Forms.{columns_from, counts_by, columns_fit, ColumnsWithin}
use Rattle.columns_check.proofs.columns_fit.Given as goal

abbrev pub invariant-loop : goal.invariant-loop
invariant-loop l = record {
  within : ColumnsWithin (length l.s) (l.n - l.counter) l.at (counts_by (l.n - l.counter) l.at.count l.s);
  same : columns_fit (l.n - l.counter) l.last l.at l.s ≡ columns_fit l.n None (columns_from l.n l.k) l.s;
}
