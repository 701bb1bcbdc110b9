-- The tables are the model's, the buffers lent have room for every bag, and the instants on the tables are the definition's
-- (`call-parts`).
use Prim.Native.Nat.{ℕ, ◌<◌}
use mathlib.Core.Path.{◌∙◌}
use lib.ListN.{length, get_or}
use Rattle.call_advance.proofs.Whole.{startable, call-parts}
use Rattle.call_advance.proofs.advance_let_in.Goals as goal

-- ---- the needs

pub load-requires : goal.load-requires
load-requires c = rw c.atomics_in.ensures c.requires.0.tabled.in_range.atomics

pub advance_from-answer-requires : goal.advance_from-answer-requires
advance_from-answer-requires c =
    let bytes : (i : ℕ) → get_or c.args.file.now i 0 < 256 = λ i. (c.type_inv.file i).fits in
    let a = c.args in
    let q = c.requires.0 in
    startable a.file.now a.n (bytes) q.model a.run.now a.t.0 a.bag.now q.checks a.tables.now q.tabled _ c.requires.1.lent

pub returns : goal.returns
returns c =
    let bytes : (i : ℕ) → get_or c.args.file.now i 0 < 256 = λ i. (c.type_inv.file i).fits in
    let a = c.args in
    let q = c.requires.0 in
    let loaded = rw c.atomics_in.ensures at c.load.ensures in
    rw c.put_rules.ensures
    (c.advance_from-answer.ensures a.table.now
    ∙ call-parts a.file.now a.n (bytes) q.model a.run.now a.t.0 a.bag.now q.checks a.tables.now q.tabled a.trace.now a.table.now
    (λ i. (c.type_inv.bag i).fits) _ loaded (length a.work.now) c.requires.1.room _ _ c.phases_of-phases.ensures c.rules_of-rules.ensures)
