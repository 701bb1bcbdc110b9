-- What stands, with the rows of the ends that are left, is all rows (`So`): kept by one end more (`so-more`), and at the end nothing is left (`so-ends`).
use borrow.Author.Rules.{rules}
use native.Mathlib.Omega.{arith}
use Rattle.flat_rows.proofs.Collected.{so-begins, root-room, so-room, so-more, so-ends}
use Rattle.model_records.specs.Values.{phases_in}
use Rattle.definition.specs.Engine.{to_bag}
use lib.ListN.{length-take, length-drop}
use Rattle.flat_rows.proofs.add_all.Goals as goal

pub add_root-at-requires : goal.add_root-at-requires
add_root-at-requires c =
    let a = c.args in
    let k = root-room (phases_in a.phases.now) a.tables.now a.flags.now (to_bag a.given.now) a.n in
    record { in_range = c.requires.1.in_range; fits = omega (arith, k, c.requires.1.fits) }

pub loop-i-init : goal.loop-i-init
loop-i-init c =
    let h = c.add_root-at.ensures in
    record { within = h.room; so = so-begins _ _ _ (to_bag c.args.given.now) c.args.n _ _ h }

pub add_atomic-at-requires : goal.add_atomic-at-requires
add_atomic-at-requires c =
    let l = c.loop-i in
    let k = so-room _ _ _ _ c.args.n l.i l.at l.rows c.loop-i-test.true l.invariant.so in
    let p = c.requires.1 in
    let same = c.add_root-at.auto.rows in
    (omega (arith, c.requires.0), record { in_range = p.in_range; fits = simp (length-take, length-drop) (omega (arith, k, p.fits, l.auto.rows, same)) })

pub loop-i-preserved : goal.loop-i-preserved
loop-i-preserved c =
    let l = c.loop-i in
    let h = c.add_atomic-at.ensures in
    record { within = search rules; so = so-more _ _ _ _ c.args.n l.i l.at _ l.rows _ c.loop-i-test.true l.invariant.within h l.invariant.so }

pub returns : goal.returns
returns c =
    let l = c.loop-i in
    so-ends _ _ _ _ c.args.n l.i l.at l.rows c.loop-i-test.false l.invariant.within l.invariant.so
