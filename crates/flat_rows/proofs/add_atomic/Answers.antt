-- The collected bag stands whole at the front (`atomic-held`), and is made its rows (`atomic-rows`).
use Rattle.flat_rows.proofs.Collected.{atomic-held, atomic-rows}
use Rattle.flat_rows.proofs.add_atomic.Goals as goal

pub make_rows-requires : goal.make_rows-requires
make_rows-requires c = (atomic-held _ _ _ _ c.args.i _ _ _ c.requires.1.fits (rw c.row_in-c.ensures at c.collect_bag-count.ensures)).room

pub returns : goal.returns
returns c =
    let h = atomic-held _ _ _ _ c.args.i _ _ _ c.requires.1.fits (rw c.row_in-c.ensures at c.collect_bag-count.ensures) in
    atomic-rows _ _ _ _ c.args.i _ _ _ h c.make_rows.auto.rows c.make_rows.ensures
