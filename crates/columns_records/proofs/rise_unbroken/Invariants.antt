use Rattle.std.proofs.Common.{◌≡◌, ◌-◌, ◌&&◌, length}
use Rattle.law_columns.specs.ByPosition.{keys_rise}
use Rattle.columns_records.specs.Places.{messages_at, MessagesWithin}
use Rattle.columns_records.proofs.rise_unbroken.Given as goal

abbrev pub invariant-loop : goal.invariant-loop
invariant-loop l = record {
  within : MessagesWithin (length l.s) l.apart l.p l.v (l.count - l.counter);
  same : (l.rise && keys_rise l.low (messages_at l.apart l.p l.v (l.count - l.counter) l.s)) ≡ keys_rise 0 (messages_at l.apart l.ports l.values l.count l.s);
}
