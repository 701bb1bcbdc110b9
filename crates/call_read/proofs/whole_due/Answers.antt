-- The tables are the model's, and the due moments carried those of the state that holds the run's entries, so that the least
-- of them is the definition's (`due-whole`).
use mathlib.Core.Path.{◌∙◌, sym, subst}
use Rattle.run_saved.specs.Runs.{Loaded}
use Rattle.call_read.proofs.Whole.{due-whole}
use Rattle.call_read.proofs.whole_due.Goals as goal

pub returns : goal.returns
returns c =
    let a = c.args in
    let p = c.requires in
    let n = c.atomics_in-count in
    let ends = c.put_ends.ensures in
    let loaded = subst (Loaded a.run.now n.result) (sym ends.0) c.load.ensures in
    c.next_end.ensures
    ∙ due-whole a.file.now a.n (λ i. (c.type_inv.file i).fits) p.model a.run.now _ p.tabled _ n.result
    p.fits (n.ensures ∙ p.tabled.tabled.atomic_count_lem) loaded _ _ c.phases_of-phases.ensures ends.1
