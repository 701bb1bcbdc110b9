use Rattle.std.proofs.Common.{◌≡◌, ◌-◌, length}
use Rattle.columns_records.specs.Places.{messages_at, messages_put, MessagesWithin}
use Rattle.columns_records.proofs.put_messages.Given as goal

abbrev pub invariant-loop : goal.invariant-loop
invariant-loop l = record {
  read : MessagesWithin (length l.s) l.apart l.p l.v (l.count - l.counter);
  put : MessagesWithin (length l.initial.out) l.to_apart l.q l.w (l.count - l.counter);
  same : messages_put l.to_apart l.q l.w (messages_at l.apart l.p l.v (l.count - l.counter) l.s) l.out
      ≡ messages_put l.to_apart l.to_ports l.to_values (messages_at l.apart l.ports l.values l.count l.s) l.initial.out;
}
