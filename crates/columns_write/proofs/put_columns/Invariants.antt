use Rattle.std.proofs.Common.{◌≡◌, ◌+◌, ◌*◌, ◌-◌, ◌≤◌, length}
use Rattle.columns_forms.specs.Forms.{row_messages, into_columns, ColumnsWithin}
use Rattle.columns_write.proofs.put_columns.Given as goal

abbrev pub invariant-loop : goal.invariant-loop
invariant-loop l = record {
  read : l.at + 12 * (l.n - l.counter) + 3 * row_messages (l.n - l.counter) l.at l.s ≤ length l.s;
  put : ColumnsWithin (length l.initial.out) (l.n - l.counter) l.to (row_messages (l.n - l.counter) l.at l.s);
  same : into_columns (l.n - l.counter) l.at l.to l.s l.out ≡ into_columns l.n 0 l.initial.to l.s l.initial.out;
}
