-- Request (viii), of the whole call and of each channel in it: the total, the answers, the bytes past the last part, and that each channel's answer and
-- bytes are those of its own turn with the steps that it has. Assumes nothing.
use mathlib.Core.Path.{◌≡◌, refl, sym, ap, ◌∙◌, subst}
use mathlib.Core.Logic.{◌⊎◌, inl, inr}
use Prim.Native.Nat.{ℕ, ◌≤◌, ◌<◌}
use native.Mathlib.Omega.{arith}
use lib.ListN.{length, get_or}
use Rattle.definition.specs.Bytes.{Bytes, AllBytes, ok}
use Rattle.definition.specs.Limits.{max_channels}
use Rattle.definition.specs.Model.{Model}
use Rattle.definition.specs.Pinned.Decoder.{accepted}
use Rattle.definition.specs.Engine.{Numbers, numbers_of, number_alone}
use Rattle.definition.specs.Channels.{ChannelsCall, Channelled, channel_at, advance_channels}
use Rattle.definition.specs.ChannelShares.{WellCounted, steps_of, has_at}
use Rattle.definition.specs.ChannelRows.{refused_channels}
use Rattle.definition.specs.SeveralChannels.{SameRest, WholeCall, EachChannel}
use Rattle.law_model.proofs.Reading.{accepted_sound}
use Rattle.law_channels.proofs.Shares.{zeros-steps, zeros-at}
use Rattle.law_channels.proofs.Called.{call-or, total-within, left_over, share-enough, own_share, own_turn, rests, none_there, eight-there}
use Rattle.theory.proofs.TurnAdvances.{does-an-instant, cut-after-one}
use Rattle.theory.proofs.TurnsCut.{left_by_22}

module _ (file runs : Bytes) (b : ChannelsCall) where
  abbrev RefusedOr : Type 0
  RefusedOr = ((j : ℕ) × (advance_channels file runs b ≡ refused_channels j runs b)) ⊎ ((m : Model) × (accepted file ≡ ok m) × WellCounted b)

  total : RefusedOr → steps_of (advance_channels file runs b).answers ≤ b.allowance
  total (inl h) = omega (arith, ap (λ (r : Channelled). steps_of r.answers) h.1, zeros-steps max_channels)
  total (inr h) = total-within file runs b h.0 h.1 h.2

  eight : RefusedOr → length (advance_channels file runs b).answers ≡ max_channels
  eight (inl h) = ap (λ (r : Channelled). length r.answers) h.1
  eight (inr h) = eight-there file runs b h.0 h.1 h.2

  none_answers : RefusedOr → (i : ℕ) → b.count ≤ i → get_or (advance_channels file runs b).answers i (number_alone 0) ≡ number_alone 0
  none_answers (inl h) i l = ap (λ (r : Channelled). get_or r.answers i (number_alone 0)) h.1 ∙ zeros-at max_channels i
  none_answers (inr h) i l = none_there file runs b h.0 h.1 h.2 i l

  rest_stays : RefusedOr → SameRest b.count runs (advance_channels file runs b).runs × SameRest b.count b.traces (advance_channels file runs b).traces
  rest_stays (inl h) =
      subst (λ (r : Channelled). SameRest b.count runs r.runs × SameRest b.count b.traces r.traces) (sym h.1) ((refl, refl), (refl, refl))
  rest_stays (inr h) = rests file runs b h.0 h.1 h.2

pub whole_call : (file runs : Bytes) (b : ChannelsCall) → AllBytes file → WholeCall runs b (advance_channels file runs b)
whole_call file runs b f =
    let c = call-or file runs b in
    record { total = total file runs b c; eight = eight file runs b c; none_there = none_answers file runs b c; rest_stays = rest_stays file runs b c }

pub each_channel : (file runs : Bytes) (b : ChannelsCall) (m : Model) (i : ℕ) → AllBytes file → accepted file ≡ ok m → WellCounted b → i < b.count
    → EachChannel m runs b (advance_channels file runs b) i
unfolding numbers_of
each_channel file runs b m i f e h l =
    let has = has_at b (advance_channels file runs b).answers i in
    let t = own_turn file runs b m e h i l in
    record {
      left_over = left_over file runs b m e h i l;
      own_share = (share-enough file runs b m e h, own_share file runs b m e h i l);
      does_one = λ bag may due. subst (λ (a : Numbers). (0 < a.instants) ⊎ ((a.number ≡ 13) ⊎ (a.number ≡ 15))) (sym t.answer)
          (does-an-instant m (accepted_sound file m f e).sound b.moment has (channel_at runs b i) bag may (omega (arith, share-enough file runs b m e h, own_share file runs b m e h i l)) due);
      some_done = subst (λ (a : Numbers). a.number ≡ 22 → 0 < a.instants) (sym t.answer) (λ n.
          let c = left_by_22 file m (accepted_sound file m f e).sound e b.moment has (channel_at runs b i) n in
          cut-after-one m (accepted_sound file m f e).sound b.moment has (channel_at runs b i) c.bag c.may_turn (omega (arith, share-enough file runs b m e h, own_share file runs b m e h i l)) n);
      own_turn = t;
    }
