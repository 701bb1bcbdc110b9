-- Each way out is a law of one record.
use mathlib.Core.Path.{sym, ap, ap₂, ◌∙◌}
use Rattle.law_columns.specs.ByPosition.{keys_rise}
use Rattle.columns_records.specs.Places.{pair_above, messages_at}
use Rattle.columns_records.proofs.Laws.{fits-empty, fits-pair, fits-rise}
use Rattle.columns_records.proofs.record_fits.Goals as goal

pub returns-then-count-eq0 : goal.returns-then-count-eq0
returns-then-count-eq0 c =
    let a = c.args in
    sym (fits-empty a.last a.apart a.at a.s.now (sym c.u16_within-count.ensures ∙ c.if-count-eq0.true))

pub returns-then-not-pair_above : goal.returns-then-not-pair_above
returns-then-not-pair_above c =
    let a = c.args in
    let is = c.pair_above.ensures ∙ ap₂ (pair_above a.last) c.u64_within.ensures c.u16_within.ensures in
    sym (fits-pair a.last a.apart a.at a.s.now (sym is ∙ c.if-not-pair_above.true))

pub returns : goal.returns
returns c =
    let a = c.args in
    let s = a.s.now in
    let is = c.pair_above.ensures ∙ ap₂ (pair_above a.last) c.u64_within.ensures c.u16_within.ensures in
    let n = c.u16_within-count.ensures in
    c.messages_rise.ensures ∙ ap (λ k. keys_rise 0 (messages_at a.apart a.at.ports a.at.values k s)) n
    ∙ sym (fits-rise a.last a.apart a.at s (λ z. c.if-count-eq0.false (c.u16_within-count.ensures ∙ z)) (sym is ∙ c.if-not-pair_above.false))
