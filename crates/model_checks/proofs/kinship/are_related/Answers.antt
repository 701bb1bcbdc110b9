-- `model_checks::kinship::are_related` meets its contract. Nobody is its own relative (related-self); two others are relatives by their parents alone
-- (related-by). Assumes nothing.
use mathlib.Core.Path.{◌≡◌, sym}
use lib.ListN.{length}
use Rattle.model_records.specs.Values.{components_in}
use Rattle.model_checks.proofs.Kept.{related-self, related-by}
use Rattle.model_checks.proofs.kinship.are_related.Goals as goal

pub returns-then-source-target : goal.returns-then-source-target
returns-then-source-target c =
    let a = c.args in
    let q = c.requires in
    let cs = components_in a.components.now in
    let e : a.source ≡ a.target = c.if-source-target.true in
    rw e (sym (related-self cs (length cs) a.target q.placed.accepted q.target_there))

pub returns : goal.returns
returns c =
    let a = c.args in
    let q = c.requires in
    let cs = components_in a.components.now in
    let f = q.placed.stand.holds a.source q.source_there in
    let g = q.placed.stand.holds a.target q.target_there in
    rw (f, g) (related-by cs (length cs) a.source a.target q.placed.accepted q.source_there q.target_there c.if-source-target.false)
