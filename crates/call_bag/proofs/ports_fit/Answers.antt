-- The tests from message i on are those of the whole bag; a message whose port does not fit decides, and so does the end.
use native.Mathlib.Omega.{arith}
use Rattle.call_bag.proofs.Laws.{port_at, port-is, ports-all}
use Rattle.law_bytes.proofs.Alls.{all_start, all_more, all-no, all_end}
use Rattle.definition.specs.Limits.{message_size}
use borrow.Author.Tests.{le-ltb, lt-ltb}
use mathlib.Core.Bool.{true, false}
use lib.ListN.{length}
use Prim.Native.Nat.{◌/◌}
use mathlib.Core.Path.{◌≡◌, refl, sym, ◌∙◌}
use Rattle.call_bag.proofs.ports_fit.Goals as goal

pub loop-i-init : goal.loop-i-init
loop-i-init c = (refl, all_start (port_at c.args.bag.now) _)

pub returns-then-byte_at-ge-PORT_COUNT : goal.returns-then-byte_at-ge-PORT_COUNT
returns-then-byte_at-ge-PORT_COUNT c =
    let s = c.args.bag.now in
    let i = c.loop-i.i in
    let p : port_at s i ≡ false = port-is s i c.loop-i-test.true ∙ le-ltb _ _ (rw c.byte_at.ensures at c.if-byte_at-ge-PORT_COUNT.true) in
    sym (ports-all s ∙ sym c.loop-i.invariant.1 ∙ all-no (port_at s) i (length s / message_size) c.loop-i-test.true p)

pub loop-i-preserved : goal.loop-i-preserved
loop-i-preserved c =
    let s = c.args.bag.now in
    let i = c.loop-i.i in
    let p : port_at s i ≡ true = port-is s i c.loop-i-test.true ∙ lt-ltb _ _ (rw c.byte_at.ensures at c.if-byte_at-ge-PORT_COUNT.false) in
    (refl, all_more (port_at s) i (length s / message_size) c.loop-i-test.true p ∙ c.loop-i.invariant.1)

pub returns : goal.returns
returns c =
    let s = c.args.bag.now in
    sym (ports-all s ∙ sym c.loop-i.invariant.1 ∙ all_end (port_at s) c.loop-i.i (length s / message_size) (omega (arith, c.loop-i-test.false)))
