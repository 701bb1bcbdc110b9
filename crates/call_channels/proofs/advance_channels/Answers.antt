-- 21 by the counts, then the model's number, and else the channels in turn.
use mathlib.Core.Path.{◌≡◌, ◌∙◌, sym}
use mathlib.Core.Bool.{false}
use Rattle.definition.specs.Channels.{miscounted}
use Rattle.definition.specs.FlatChannels.{boxed}
use Rattle.definition.specs.Engine.{number_alone}
use Rattle.law_channels.proofs.OneByOne.{refused-count, refused-model}
use Rattle.table_couplings.proofs.Begun.{zeros-made}
use Rattle.call_answers.specs.Answers.{channels_call_of}
use Rattle.call_channels.proofs.advance_channels.Goals as goal
use Rattle.call_channels.proofs.advance_channels.Goals.{Else-is_miscounted}

pub returns-then-is_miscounted : goal.returns-then-is_miscounted
unfolding boxed number_alone
returns-then-is_miscounted c =
    let a = c.args in
    let given = channels_call_of a.count a.t a.allowance a.bags.now a.places a.traces.now in
    rw c.from.ensures (sym (refused-count a.file.now a.runs.now given (sym c.is_miscounted.ensures ∙ c.if-is_miscounted.true)))

pub open_model-requires : goal.open_model-requires
open_model-requires c = zeros-made

counted : (c : Else-is_miscounted) → miscounted c.args.count c.args.allowance ≡ false
counted c = sym c.is_miscounted.ensures ∙ c.if-is_miscounted.false

pub channels_accepted-requires : goal.channels_accepted-requires
channels_accepted-requires c =
    let r = c.in-Ok.ensures in
    record {
      opened = record { model = r.0; tabled = r.2; counted = r.1 };
      counted = counted (goal.at.channels_accepted-requires c).Else-is_miscounted;
    }

pub returns-in-Err : goal.returns-in-Err
unfolding boxed number_alone
returns-in-Err c =
    let a = c.args in
    let given = channels_call_of a.count a.t a.allowance a.bags.now a.places a.traces.now in
    rw c.from-in-Err.ensures (sym (refused-model a.file.now a.runs.now given _ (counted (goal.at.returns-in-Err c).Else-is_miscounted) (sym c.in-Err.ensures.0)))
