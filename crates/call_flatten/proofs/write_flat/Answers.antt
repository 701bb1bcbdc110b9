-- What was found is the flat form: there is too little room (`flatten-short`), or its bytes stand at the buffer's front (`flatten-whole`).
use Rattle.call_flatten.proofs.Flattened.{flatten-short, flatten-room, flatten-whole}
use Prim.Native.Nat.{ℕ, ◌<◌}
use lib.ListN.{get_or}
use Rattle.call_flatten.proofs.write_flat.Goals as goal
use Rattle.call_flatten.proofs.write_flat.Goals.{After-atomics_in-atomics}

pub returns-then-out-found : goal.returns-then-out-found
returns-then-out-found c = flatten-short _ c.args.out.now _ _ _ _ c.requires c.if-out-found.true

pub atomics_in-atomics-requires : goal.atomics_in-atomics-requires
atomics_in-atomics-requires c = c.requires.can.tabled.in_range.atomics

bytes : (f : After-atomics_in-atomics) (i : ℕ) → get_or f.args.file.now i 0 < 256
bytes f i = (f.type_inv.file i).fits

pub put_flat-requires : goal.put_flat-requires
put_flat-requires c = (
  c.requires.held.room,
  rw (c.atomics_in-atomics.ensures, c.phases_of-phases.ensures, c.rules_of-rules.ensures)
      (flatten-room _ c.args.out.now _ (bytes (goal.at.put_flat-requires c).After-atomics_in-atomics) _ _ _ c.requires c.if-out-found.false),
)

pub returns : goal.returns
returns c =
    let put = rw (
      c.atomics_in-atomics.ensures,
      c.components_of-components.ensures,
      c.phases_of-phases.ensures,
      c.rules_of-rules.ensures,
    ) at c.put_flat.ensures in
    flatten-whole _ c.args.out.now _ (bytes (goal.at.returns c).After-atomics_in-atomics) _ _ _ c.requires c.if-out-found.false _ put
