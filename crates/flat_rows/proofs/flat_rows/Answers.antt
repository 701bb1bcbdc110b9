-- Phases, flags and given bag are the probe's (`probe-rows`), so that the collected rows are the probe's, and sorting gives them sorted (`sorted-held`).
use native.Mathlib.Omega.{arith}
use Rattle.flat_rows.proofs.Collected.{probe-rows, sorted-held, given-bag}
use Rattle.flat_rows.specs.Rows.{probe_rows}
use Rattle.flat_rows.specs.Put.{Held}
use lib.ListN.{length}
use Prim.Native.Nat.{◌≤◌}
use mathlib.Core.Path.{sym, subst}
use Rattle.flat_rows.proofs.flat_rows.Goals as goal
use Rattle.flat_rows.proofs.flat_rows.Goals.{After-add_all-count}

pub add_all-count-requires : goal.add_all-count-requires
add_all-count-requires c =
    let a = c.args in
    let e = probe-rows a.tables.now a.n c.put_probes.ensures c.put_flags.ensures given-bag in
    let p = c.requires in
    (p.few, record { in_range = p.in_range; fits = subst (λ r. length r ≤ length a.rows.now) (sym e) (omega (arith, p.fits)) })

collected : (c : After-add_all-count) → Held (probe_rows c.args.tables.now c.args.n) c.add_all-count.new.rows c.add_all-count.result
collected c = let a = c.args in
    let e = probe-rows a.tables.now a.n c.put_probes.ensures c.put_flags.ensures given-bag in
    subst (λ r. Held r c.add_all-count.new.rows c.add_all-count.result) e c.add_all-count.ensures

pub sort-requires : goal.sort-requires
sort-requires c = omega (arith, (collected (goal.at.sort-requires c).After-add_all-count).count, c.requires.fits, c.add_all-count.auto.rows)

pub returns : goal.returns
returns c =
    let h = collected (goal.at.returns c).After-add_all-count in
    let same = c.add_all-count.auto.rows in
    sorted-held _ _ _ _ h (omega (arith, h.count, c.requires.fits, same)) c.sort.auto.keys c.sort.ensures
