use Rattle.std.proofs.Common.{◌≡◌, ◌+◌, ◌*◌, ◌-◌, ◌≤◌, length}
use Rattle.columns_forms.specs.Forms.{counts_by}
use Rattle.columns_check.proofs.count_messages.Given as goal

abbrev pub invariant-loop : goal.invariant-loop
invariant-loop l = record {
  within : l.at + 2 * (l.n - l.counter) ≤ length l.s;
  bounded : l.sum ≤ 65535 * l.counter;
  same : l.sum + counts_by (l.n - l.counter) l.at l.s ≡ counts_by l.n (4 + 10 * l.n) l.s;
}
