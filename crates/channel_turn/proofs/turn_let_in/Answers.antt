-- The tables are the model's, the buffer lent has room for every bag, and the instants on the tables are the definition's (`turn-parts`).
use mathlib.Core.Path.{sym, ap, ◌∙◌}
use mathlib.Core.List.{[]}
use Prim.Native.Nat.{ℕ, ◌<◌}
use lib.ListN.{length, get_or}
use Rattle.definition.specs.Bytes.{Bytes}
use Rattle.call_answers.specs.Answers.{advanced_of}
use Rattle.call_advance.proofs.Whole.{startable}
use Rattle.channel_turn.proofs.OnTables.{no_table, turn-parts}
use Rattle.channel_turn.proofs.turn_let_in.Goals as goal

pub load-requires : goal.load-requires
load-requires c = rw c.atomics_in.ensures c.requires.0.tabled.in_range.atomics

pub turn_from-requires : goal.turn_from-requires
turn_from-requires c =
    let bytes : (i : ℕ) → get_or c.args.file.now i 0 < 256 = λ i. (c.type_inv.file i).fits in
    let a = c.args in
    let q = c.requires.0 in
    startable a.file.now a.n bytes q.model a.run.now a.t.0 a.bag.now q.checks a.tables.now q.tabled _ c.requires.1.lent

pub returns : goal.returns
returns c =
    let bytes : (i : ℕ) → get_or c.args.file.now i 0 < 256 = λ i. (c.type_inv.file i).fits in
    let a = c.args in
    let q = c.requires.0 in
    let loaded = rw c.atomics_in.ensures at c.load.ensures in
    let r = c.turn_from in
    let none = no_table a.tables.now r.new.state r.result.instants in
    ap (λ (table : Bytes). advanced_of r.new.run r.new.trace table r.result) (sym none) ∙ r.ensures []
    ∙ turn-parts a.file.now a.n bytes q.model a.run.now a.t.0 a.has a.bag.now q.checks a.tables.now q.tabled a.trace.now
    (λ i. (c.type_inv.bag i).fits) _ loaded (length a.work.now) c.requires.1.room _ _ c.phases_of-phases.ensures c.rules_of-rules.ensures
