-- Length, count, open moment and entries, in the order of the definition (`fits_said`).
use borrow.Author.Rules.{rules}
use Rattle.run_saved.proofs.Fitting.{fits_said}
use Rattle.model_records.proofs.Counting.{atomics-most}
use Rattle.model_records.specs.Values.{components_in}
use Rattle.run_saved.proofs.fits.Goals as goal

pub overflow_mul-long : goal.overflow_mul-long
overflow_mul-long c =
    let b = atomics-most (components_in c.args.components.now) in
    let e = c.atomic_count-n.ensures in
    search rules

pub overflow_add-long : goal.overflow_add-long
overflow_add-long c =
    let b = atomics-most (components_in c.args.components.now) in
    let e = c.atomic_count-n.ensures in
    search rules

pub returns : goal.returns
returns c =
    let a = c.args in
    rw (c.entries_fit.ensures, c.u16_at.ensures, c.opening_of-opening.ensures)
    (fits_said a.components.now a.phases.now a.run.now c.atomic_count-n.result c.atomic_count-n.ensures)
