-- The tables are the model's, the buffers lent have room for every bag, and the calls on the tables are the definition's (`feed-parts`).
use Prim.Native.Nat.{ℕ, ◌<◌}
use mathlib.Core.Path.{◌∙◌}
use lib.ListN.{length, get_or}
use Rattle.call_feed.proofs.Whole.{startable, feed-parts}
use Rattle.call_feed.proofs.feed_let_in.Goals as goal

-- ---- the needs

pub load-requires : goal.load-requires
load-requires c = rw c.atomics_in.ensures c.requires.0.tabled.in_range.atomics

pub feed_from-requires : goal.feed_from-requires
feed_from-requires c =
    let bytes : (i : ℕ) → get_or c.args.file.now i 0 < 256 = λ i. (c.type_inv.file i).fits in
    let given : (i : ℕ) → get_or c.args.feed.now i 0 < 256 = λ i. (c.type_inv.feed i).fits in
    let a = c.args in
    let q = c.requires.0 in
    startable a.file.now a.n bytes q.model a.run.now a.end.0 a.feed.now given q.checks a.tables.now q.tabled a.found q.is_feed q.found_so
    _ c.requires.1.lent

pub returns : goal.returns
returns c =
    let bytes : (i : ℕ) → get_or c.args.file.now i 0 < 256 = λ i. (c.type_inv.file i).fits in
    let given : (i : ℕ) → get_or c.args.feed.now i 0 < 256 = λ i. (c.type_inv.feed i).fits in
    let a = c.args in
    let q = c.requires.0 in
    let loaded = rw c.atomics_in.ensures at c.load.ensures in
    c.feed_from.ensures
    ∙ feed-parts a.file.now a.n bytes q.model a.run.now a.end.0 a.feed.now given q.checks a.tables.now q.tabled a.trace.now _ loaded
    (length a.work.now) c.requires.1.room _ _ c.phases_of-phases.ensures c.rules_of-rules.ensures
