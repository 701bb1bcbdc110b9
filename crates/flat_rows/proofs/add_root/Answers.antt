-- The collected bag stands whole at the front (`root-held`), and is made its rows (`root-rows`).
use Rattle.flat_rows.proofs.Collected.{root-held, root-rows}
use Rattle.flat_rows.proofs.add_root.Goals as goal

pub make_rows-requires : goal.make_rows-requires
make_rows-requires c = (root-held _ _ _ _ _ _ c.requires.fits c.collect_root-count.ensures).room

pub returns : goal.returns
returns c =
    let h = root-held _ _ _ _ _ _ c.requires.fits c.collect_root-count.ensures in
    root-rows _ _ _ _ _ _ h c.make_rows.auto.rows c.make_rows.ensures
