-- The channels left give from here what all of them give from the start (`from_here`); a turn keeps that (`one_more`), and at the end what was told is
-- the answer (`boxes-told`). What is left over is at most the shares before, so that no sum overflows.
use native.Mathlib.Omega.{arith}
use mathlib.Core.Path.{◌≡◌, refl, sym, ap, ◌∙◌}
use mathlib.Core.List.{[], ◌++◌}
use Prim.Native.Nat.{◌+◌, ◌*◌, ◌-◌, ◌/◌, ◌≤◌, ◌<◌}
use lib.ListN.{length, take, drop, get_or, length-set}
use Rattle.definition.specs.Bytes.{Bytes, ok}
use Rattle.definition.specs.FlatChannels.{Box, taken_out, put_back, one_by_one, boxed}
use Rattle.definition.specs.Channels.{no_place, bag_at, Channel, ChannelsCall}
use Rattle.definition.specs.Channels as Definition
use Rattle.model_file.specs.Checked.{model_of}
use Rattle.call_answers.specs.Answers.{advanced_of, place_of, channels_call_of}
use Rattle.channel_loop.proofs.Boxes.{inside, came-back, length_back, taken_as, length_taken, more, none_left, from_start, one_more, told-keeps, others-more, boxes-told, nowhere, place_at, all-zeros}
use Rattle.channel_loop.proofs.advance_parts.Goals as goal
use Rattle.channel_loop.proofs.advance_parts.Goals.{In-loop-i}

pub loop-i-init : goal.loop-i-init
loop-i-init c =
    let a = c.args in
    let e = c.default-channel.ensures in
    rw (all-zeros c.default-channel.result e.0 e.1.0 e.1.1.0 e.1.1.1) (record {
      runs_long = refl;
      traces_long = refl;
      same_words = refl;
      eight = refl;
      left_most = omega arith;
      others = refl;
      from_here = from_start _ _ _ _ a.count _;
    })

-- the parts of channel i lie inside
run_inside : (c : In-loop-i) → let q = length c.args.runs.now / c.args.count in q * c.loop-i.i + q ≤ length c.args.runs.now
run_inside c = inside c.args.runs.now c.args.count c.loop-i.i c.loop-i-test.true

trace-inside : (c : In-loop-i) → let q = length c.args.traces.now / c.args.count in q * c.loop-i.i + q ≤ length c.args.traces.now
trace-inside c = inside c.args.traces.now c.args.count c.loop-i.i c.loop-i-test.true

pub turn-told-requires : goal.turn-told-requires
turn-told-requires c = rw c.loop-i.invariant.same_words c.requires.lent

-- ---- channel i

pub overflow_sub-left : goal.overflow_sub-left
overflow_sub-left c = (told-keeps _ _ _ _ _ _ _ c.turn-told.ensures).0

pub loop-i-preserved : goal.loop-i-preserved
loop-i-preserved c =
    let here = (goal.at.loop-i-preserved c).In-loop-i in
    let a = c.args in
    let b : ChannelsCall = channels_call_of a.count a.t a.allowance a.bags.now a.places a.traces.now in
    let l = c.loop-i in
    let i = l.i in
    let m = model_of a.file.now a.n in
    let has = a.allowance / a.count + l.left in
    let r = c.turn-told in
    let told = r.result in
    let qr = length a.runs.now / a.count in
    let qt = length a.traces.now / a.count in
    -- the new parts
    let run : Bytes = r.new.run in
    let trace : Bytes = r.new.trace in
    let place = place_of (get_or a.places.channel i nowhere) in
    let lent : Channel = record {
      run = take (qr * i + qr - qr * i) (drop (qr * i) l.runs);
      trace = take (qt * i + qt - qt * i) (drop (qt * i) l.traces);
      bag = bag_at a.bags.now place;
    } in
    let e : advanced_of run trace [] told ≡ Definition.turn m a.t has lent = r.ensures in
    let keeps = told-keeps m a.t has lent run trace told e in
    let in-run : qr * i + qr ≤ length l.runs = omega (arith, run_inside here, l.invariant.runs_long) in
    let in-trace : qt * i + qt ≤ length l.traces = omega (arith, trace-inside here, l.invariant.traces_long) in
    let few : i < length l.channel = omega (arith, l.invariant.eight, c.requires.few, c.loop-i-test.true) in
    let runs : take (qr * i) l.runs ++ (run ++ drop (qr * i + qr - qr * i) (drop (qr * i) l.runs)) ≡ put_back (qr * i) run l.runs
    = came-back l.runs run (qr * i) (qr * i + qr) qr refl (keeps.1 ∙ length_taken l.runs (qr * i) (qr * i + qr) qr refl in-run) in
    let traces : take (qt * i) l.traces ++ (trace ++ drop (qt * i + qt - qt * i) (drop (qt * i) l.traces)) ≡ put_back (qt * i) trace l.traces
    = came-back l.traces trace (qt * i) (qt * i + qt) qt refl (keeps.2 ∙ length_taken l.traces (qt * i) (qt * i + qt) qt refl in-trace) in
    let same : Definition.turn m a.t has lent ≡ Definition.turn m a.t has (record {
      run = taken_out (qr * i) qr l.runs;
      trace = taken_out (qt * i) qt l.traces;
      bag = bag_at a.bags.now (get_or b.places i no_place);
    })
    = λ j. Definition.turn m a.t has (record {
      run = taken_as l.runs (qr * i) (qr * i + qr) qr refl j;
      trace = taken_as l.traces (qt * i) (qt * i + qt) qt refl j;
      bag = bag_at a.bags.now (place_at a.places i j);
    }) in
    let on = one_more (Definition.turn m a.t) b qr qt i l.left l.runs l.traces _ _ run trace l.channel told few (e ∙ same) runs traces in
    record {
      runs_long = ap length runs ∙ length_back l.runs run (qr * i) qr in-run (keeps.1 ∙ length_taken l.runs (qr * i) (qr * i + qr) qr refl in-run) ∙ l.invariant.runs_long;
      traces_long = ap length traces ∙ length_back l.traces trace (qt * i) qt in-trace (keeps.2 ∙ length_taken l.traces (qt * i) (qt * i + qt) qt refl in-trace) ∙ l.invariant.traces_long;
      same_words = r.auto.work ∙ l.invariant.same_words;
      eight = length-set l.channel i told ∙ l.invariant.eight;
      left_most = omega (arith, l.invariant.left_most, keeps.0);
      others = others-more l.channel i told (omega (arith, few, l.invariant.eight)) l.invariant.others;
      from_here = ap (one_by_one (Definition.turn m a.t) b qr qt (a.count - (i + 1)) (i + 1)) on ∙ more (Definition.turn m a.t) b qr qt a.count i _ c.loop-i-test.true ∙ l.invariant.from_here;
    }

pub returns : goal.returns
returns c =
    let a = c.args in
    let l = c.loop-i in
    let none = none_left _ _ _ _ a.count l.i _ c.loop-i-test.false in
    boxes-told a.runs.now a.traces.now l.runs l.traces l.left l.channel l.i (omega (arith, l.invariant.eight, l.auto.i-end, c.requires.few)) l.invariant.others
    ∙ ap (λ (g : Box). boxed a.runs.now a.traces.now (ok g)) (sym none ∙ l.invariant.from_here)
