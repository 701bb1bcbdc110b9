-- The channels one by one on the lent buffers are the definition's call (`loop-channels`); buffers for 1,024 routes have room for every
-- accepted model.
use native.Mathlib.Omega.{arith}
use mathlib.Core.Path.{◌∙◌, sym}
use Rattle.definition.specs.Channels.{ChannelsCall}
use Rattle.law_channels.proofs.Called.{counted-from}
use Rattle.law_channels.proofs.OneByOne.{loop-channels}
use Rattle.model_file.specs.Checked.{model_of}
use Rattle.call_answers.specs.Answers.{channels_call_of}
use Rattle.call_advance.proofs.Whole.{most-routes}
use Rattle.call_channels.specs.ChannelsLetIn.{ChannelsLetIn}
use Rattle.call_channels.proofs.channels_accepted.Goals as goal
use Rattle.call_channels.proofs.channels_accepted.Goals.{Start}

abbrev given : Start → ChannelsCall
given c = let a = c.args in channels_call_of a.count a.t a.allowance a.bags.now a.places a.traces.now

let-in : (c : Start) → let a = c.args in ChannelsLetIn a.file.now a.accepted.counts a.tables.now a.count
let-in c =
    let q = c.requires in
    let w = counted-from (given c) q.counted in
    record { model = q.opened.model; tabled = q.opened.tabled; some = w.some; few = w.few }

pub channels_in-requires : goal.channels_in-requires
channels_in-requires c = (
  let-in (goal.at.channels_in-requires c).Start,
  record { lent = omega arith; room = omega (arith, c.requires.opened.counted, c.if-accepted-le-FEW_ROUTES.true) },
)

pub channels_in-requires-else-accepted-le-FEW_ROUTES : goal.channels_in-requires-else-accepted-le-FEW_ROUTES
channels_in-requires-else-accepted-le-FEW_ROUTES c =
    let most = most-routes c.args.file.now c.args.accepted.counts (λ i. (c.type_inv.file i).fits) c.requires.opened.model in (
      let-in (goal.at.channels_in-requires-else-accepted-le-FEW_ROUTES c).Start,
      record { lent = omega arith; room = omega (arith, most) },
    )

pub returns-then-accepted-le-FEW_ROUTES : goal.returns-then-accepted-le-FEW_ROUTES
returns-then-accepted-le-FEW_ROUTES c =
    let a = c.args in
    let s = (goal.at.returns-then-accepted-le-FEW_ROUTES c).Start in
    c.channels_in.ensures ∙ sym (loop-channels a.file.now a.runs.now (given s) (model_of a.file.now a.accepted.counts) c.requires.counted (sym c.requires.opened.model))

pub returns-else-accepted-le-FEW_ROUTES : goal.returns-else-accepted-le-FEW_ROUTES
returns-else-accepted-le-FEW_ROUTES c =
    let a = c.args in
    let s = (goal.at.returns-else-accepted-le-FEW_ROUTES c).Start in
    c.channels_in-else-accepted-le-FEW_ROUTES.ensures ∙ sym (loop-channels a.file.now a.runs.now (given s) (model_of a.file.now a.accepted.counts) c.requires.counted (sym c.requires.opened.model))
