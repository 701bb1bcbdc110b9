-- The engine's test of a given bag passes exactly where document 01's lines on it hold, and what it then takes the bag for are the messages
-- whose rows its bytes are. Assumes nothing.
use mathlib.Core.Path.{◌≡◌, sym, ap, ap₂, ◌∙◌}
use Prim.Native.Nat.{◌*◌, ◌/◌, ◌%◌, ◌≤◌, ◌<◌}
use mathlib.Core.List.{map}
use mathlib.Core.Bool.{true}
use native.Mathlib.Omega.{arith}
use lib.ListN.{length}
use lib.Seq.{take_all}
use Rattle.definition.specs.Bytes.{Bytes, AllBytes, chunks}
use Rattle.definition.specs.Limits.{message_size, max_given, port_count}
use Rattle.definition.specs.Model.{Bag}
use Rattle.definition.specs.Records.{message_at, message_bytes, port_fits}
use Rattle.definition.specs.Sound.{Every}
use Rattle.definition.specs.Engine.{to_bag, bag_fits}
use Rattle.definition.specs.Clauses.{BagFits}
use Rattle.law_model.proofs.Codec.{bag-length, rows-length}
use Rattle.law_refusals.proofs.Tests.{Decides, less, most, equal, both, each}
use Rattle.law_model.proofs.Layouts.{record-size}
use Rattle.law_model.proofs.Rows.{rows-held, rows_written, rows-read}
use Rattle.law_model.proofs.Spellings.{message-spelled}

-- ---- the test

-- three lines: whole rows, few of them, ports that there are
bag-test : (b : Bytes)
    → Decides (bag_fits b) (((length b % message_size ≡ 0) × (length b ≤ message_size * max_given)) × Every (λ y. y.port < port_count) (to_bag b))
unfolding bag_fits port_fits
bag-test b =
    both (both (equal (length b % message_size) 0) (most (length b) (message_size * max_given)))
    (each port_fits (λ y. y.port < port_count) (λ y. less y.port port_count) (to_bag b))

pub fits_bag : (bag : Bytes) → AllBytes bag → bag_fits bag ≡ true → BagFits bag (to_bag bag)
unfolding to_bag message_bytes
fits_bag bag h e =
    let t = (bag-test bag).holds e in
    let n = length bag / message_size in
    let whole : n * message_size ≡ length bag = omega (arith, t.0.0) in
    record {
      rows = sym (rows_written message-spelled n (omega (arith, whole)) h ∙ take_all (n * message_size) bag (omega (arith, whole)));
      held = rows-held message-spelled n h;
      few = omega (arith, bag-length bag, t.0.1);
      ports = t.1;
    }

pub bag_fits_lem : (bag : Bytes) (x : Bag) → BagFits bag x → (bag_fits bag ≡ true) × (to_bag bag ≡ x)
bag_fits_lem bag x h = (
  (bag-test bag).passes ((omega (arith, long), omega (arith, long, h.few)), rw back h.ports),
  back,
)
  where
    long : length bag ≡ length x * message_size
    long = unfold message_bytes in (ap length h.rows ∙ rows-length message_size message_bytes (record-size message-spelled) x)

    back : to_bag bag ≡ x
    back = unfold to_bag message_bytes in
        (ap₂ (λ n s. map (message_at 0) (chunks n message_size s)) (let e : length bag / message_size ≡ length x = omega (arith, long) in e) h.rows
        ∙ rows-read message-spelled x h.held)
