use Rattle.std.proofs.Common.{◌≡◌, ◌+◌, ◌*◌, ◌-◌, ◌≤◌, length}
use Rattle.columns_forms.specs.Forms.{columns_from, counts_by, into_row, ColumnsWithin}
use Rattle.columns_write.proofs.write_trace.Given as goal

abbrev pub invariant-loop : goal.invariant-loop
invariant-loop l = record {
  read : ColumnsWithin (length l.s) (l.n - l.counter) l.at (counts_by (l.n - l.counter) l.at.count l.s);
  put : l.to + 12 * (l.n - l.counter) + 3 * counts_by (l.n - l.counter) l.at.count l.s ≤ length l.initial.out;
  same : into_row (l.n - l.counter) l.at l.to l.s l.out ≡ into_row l.n (columns_from l.n l.k) 0 l.s l.initial.out;
}
