-- Request (vii): a route from an atomic carries at most 4 messages in a step, and an accepted model has at most 1,024 routes, so the root's output
-- bag has at most 4,096, in the nest from any state and in the flat machine from any entries; and no call gives number 14. Assumes nothing.
use mathlib.Core.Path.{◌≡◌, refl, sym, ap, ◌∙◌}
use mathlib.Core.Logic.{◌⊎◌, inl, inr}
use Prim.Native.Nat.{ℕ, ◌*◌, ◌≤◌}
use mathlib.Core.List.{List, []}
use mathlib.Core.Bool.{Bool, true, false, ◌&&◌, ◌||◌, cond}
use native.Mathlib.Omega.{arith}
use lib.Dec.{eqb, ltb}
use lib.ListN.{length, get_or}
use borrow.Author.Tests.{eqb-true, eqb-false, ltb-true, ltb-false}
use Rattle.definition.specs.Bytes.{Bytes, AllBytes, ok}
use Rattle.definition.specs.Limits.{max_outputs, max_channels}
use Rattle.definition.specs.Model.{Message, Bag, Coupling, Model, atomics, phase_at}
use Rattle.definition.specs.Routes.{routes}
use Rattle.definition.specs.Pinned.Decoder.{accepted, coupling_fields}
use Rattle.definition.specs.SavedRun.{Entry, run_of}
use Rattle.definition.specs.FlatMachine.{Sent, sent, put_out, all_sent, arriving, flat_step}
use Rattle.definition.specs.AtomicBags.{ending_at}
use Rattle.definition.specs.Step.{nested}
use Rattle.definition.specs.Engine.{Advanced, Numbers, numbers_of, number_alone, to_bag}
use Rattle.definition.specs.Channels.{Channel, ChannelsCall, Channelled, advance_channels}
use Rattle.definition.specs.ChannelShares.{WellCounted}
use Rattle.definition.specs.ChannelRows.{ChannelsRefusal, channels_refuse_count, channels_refuse_model, refused_channels, TurnRefusal, turn_refuses_run, turn_refuses_time, turn_refuses_place, turn_refuses_bag, TurnNumber, turn_by_row, turn_by_instants}
use Rattle.definition.specs.Carrying.{begins}
use Rattle.definition.specs.Demands.{WriterRefusal, writer_refuses_model, writer_refuses_buffer, RearrangingRefusal, nothing_to_make, rearranging_refuses_buffer, ReadingRefusal, reading_refuses_model, reading_refuses_run, reading_refuses_position, AdvanceRefusal, advance_refuses_model, advance_refuses_run, advance_refuses_time, advance_refuses_bag, AdvanceNumber, by_row, by_instants, FeedRefusal, feed_refuses_model, feed_refuses_run, feed_refuses_feed, feed_refuses_time, FeedNumber, feed_by_row, feed_by_calls}
use Rattle.definition.specs.RootBags.{FlatPutsOut, Given, by_check, by_start, by_advance, by_feed, by_channels, by_channel, by_reading, by_flatten, by_columns, by_trace, retired_number, RootBags}
use Rattle.law_base.proofs.Sums.{sum_of, sum-append, sum-map, sum-zero, sum-cong, sum_ones}
use Rattle.law_base.proofs.Lists.{sum-cong-if, count_most}
use Rattle.law_model.proofs.WellFormed.{WellFormed, couplings-fit}
use Rattle.law_model.proofs.Reading.{accepted_sound}
use Rattle.law_nest.proofs.Components.{rooted}
use Rattle.law_nest.proofs.Carried.{weight}
use Rattle.law_nest.proofs.Arrivals.{arriving-sum}
use Rattle.law_nest.proofs.Capacity.{outputs-few, ending-most}
use Rattle.law_nest.proofs.RootBag.{put-out-few, put-out-most}
use Rattle.law_nest.proofs.FlatBags.{flat-bag}
use Rattle.law_flat.proofs.Couplings.{not-self}
use Rattle.law_channels.proofs.Shares.{zeros-at}
use Rattle.law_channels.proofs.Called.{call-or, own_turn, none_there}
use Rattle.theory.proofs.FeedEnds.{ending-number, turns-number}
use Rattle.theory.proofs.CutTurns.{CutOr, cut}
use Rattle.theory.proofs.Demand1.{demand1}

-- ---- the flat machine

module _ (m : Model) (w : WellFormed m) (now : ℕ) where
  -- nothing given reaches the root's output, since no coupling joins a component to itself
  no_way : (y : Message) (k : Coupling) → coupling_fields m.components k ≡ true → weight 0 (λ z. 1) 0 y k ≡ 0
  unfolding weight
  no_way y k h = go (eqb k.source 0) refl (eqb k.source_port y.port) (eqb k.target 0) refl
    where
      go : (b : Bool) → eqb k.source 0 ≡ b → (c d : Bool) → eqb k.target 0 ≡ d → cond {A = ℕ} (b && c && d) 1 0 ≡ 0
      go false e c d f = refl
      go true e false d f = refl
      go true e true false f = refl
      go true e true true f =
          let wood = rooted m.components w.components.fit w.some_component in
          absurd (eqb-false k.source k.target (not-self m.components wood k h) (eqb-true k.source 0 e ∙ sym (eqb-true k.target 0 f)))

  -- what of the messages comes to the root's output
  out : Sent → ℕ
  out z = sum_of (weight 0 (λ y. 1) z.source z.message) m.couplings

  given-none : (x : Bag) → sum_of out (sent 0 x) ≡ 0
  unfolding sent out
  given-none x =
      sum-map _ (λ y. record { source = 0; message = y }) x
      ∙ sum-cong _ (λ y. 0) x (λ y. sum-cong-if (coupling_fields m.components) _ (λ k. 0) m.couplings (couplings-fit m w) (no_way y) ∙ sum-zero m.couplings)
      ∙ sum-zero x

  out-sum : (x : Bag) (rs : List Entry) → length (arriving m now 0 (all_sent m now x rs)) ≡ sum_of out (put_out m now (atomics m.components) rs)
  unfolding out
  out-sum x rs =
      let xs = all_sent m now x rs in
      let both = sum-append out (sent 0 x) (put_out m now (atomics m.components) rs) in
      omega (arith, sum_ones (arriving m now 0 xs), arriving-sum m now 0 (λ y. 1) xs, both, given-none x)

  flat-few : (x : Bag) (rs : List Entry) → length (arriving m now 0 (all_sent m now x rs)) ≤ max_outputs * ending_at 0 m.couplings
  flat-few x rs = omega (arith, out-sum x rs, out-sum [] rs, flat-bag m w now max_outputs [] rs (omega arith) (omega arith) 0)

flat-puts-out : (m : Model) → WellFormed m → FlatPutsOut m (max_outputs * ending_at 0 m.couplings)
unfolding flat_step
flat-puts-out m w now x k = flat-few m w now x k.entries

-- ---- the numbers of calls

not-model : (n : ℕ) → (n ≤ 9) ⊎ (n ≡ 20) → n ≡ retired_number → ⊥
not-model n (inl l) e = omega arith
not-model n (inr f) e = omega arith

not-writer : {long : Model → ℕ} {file buffer : Bytes} {n : ℕ} → WriterRefusal long file buffer n → n ≡ retired_number → ⊥
not-writer (writer_refuses_model n l j) e = not-model n (demand1.model_numbers _ n j) e
not-writer (writer_refuses_buffer m a l) e = omega arith

not-rearranging : {Makes : Bytes → Type 0} {none : ℕ} {buffer : Bytes} {n : ℕ} → (none ≡ retired_number → ⊥) → RearrangingRefusal Makes none buffer n → n ≡ retired_number → ⊥
not-rearranging f (nothing_to_make g) e = f e
not-rearranging f (rearranging_refuses_buffer made g l) e = omega arith

not-reading : {file run : Bytes} {position n : ℕ} → ReadingRefusal file run position n → n ≡ retired_number → ⊥
not-reading (reading_refuses_model n l j) e = not-model n (demand1.model_numbers _ n j) e
not-reading (reading_refuses_run m a f) e = omega arith
not-reading (reading_refuses_position m a f l) e = omega arith

not-advance : {file run : Bytes} {t : ℕ} {bag : Bytes} {n : ℕ} → AdvanceRefusal file run t bag n → n ≡ retired_number → ⊥
not-advance (advance_refuses_model n l j) e = not-model n (demand1.model_numbers _ n j) e
not-advance (advance_refuses_run m a f) e = omega arith
not-advance (advance_refuses_time m a f l) e = omega arith
not-advance (advance_refuses_bag m a f o l b) e = omega arith

not-feed : {file run : Bytes} {end : ℕ} {feed : Bytes} {n : ℕ} → FeedRefusal file run end feed n → n ≡ retired_number → ⊥
not-feed (feed_refuses_model n l j) e = not-model n (demand1.model_numbers _ n j) e
not-feed (feed_refuses_run m a f) e = omega arith
not-feed (feed_refuses_feed m a f g) e = omega arith
not-feed (feed_refuses_time m bs a f g l) e = omega arith

ended-otherwise : (n : ℕ) → (n ≡ 0) ⊎ ((n ≡ 13) ⊎ (n ≡ 15)) → n ≡ retired_number → ⊥
ended-otherwise n (inl f) e = omega arith
ended-otherwise n (inr (inl f)) e = omega arith
ended-otherwise n (inr (inr f)) e = omega arith

not-channels : {file : Bytes} {b : ChannelsCall} {n : ℕ} → ChannelsRefusal file b n → n ≡ retired_number → ⊥
not-channels (channels_refuse_count h) e = omega arith
not-channels (channels_refuse_model n h l j) e = not-model n (demand1.model_numbers _ n j) e

not-turn : {m : Model} {t : ℕ} {c : Channel} {n : ℕ} → TurnRefusal m t c n → n ≡ retired_number → ⊥
not-turn (turn_refuses_run f) e = omega arith
not-turn (turn_refuses_time f l) e = omega arith
not-turn (turn_refuses_place f o l p) e = omega arith
not-turn (turn_refuses_bag f o l bag p g) e = omega arith

-- a turn ends as an advance does, or with 22
turn-otherwise : {m : Model} {t has : ℕ} {c : Channel} {n : ℕ} → TurnNumber m t has c n → n ≡ retired_number → ⊥
turn-otherwise (turn_by_row n r) e = not-turn r e
turn-otherwise {m} {t} {has} {c} (turn_by_instants bag d h r) e = go (cut (nested m) r)
  where
    go : CutOr (nested m) has (length c.trace) t (to_bag bag) (begins (run_of m c.run).opening (run_of m c.run).entries) d → ⊥
    go (inl g) = ended-otherwise d.number (ending-number g) e
    go (inr g) = omega (arith, g.0)

-- what is answered for a channel, there or not
module _ (file runs : Bytes) (b : ChannelsCall) (i : ℕ) (f : AllBytes file) where
  abbrev told : ℕ
  told = (get_or (advance_channels file runs b).answers i (number_alone 0)).number

  zero-told : get_or (advance_channels file runs b).answers i (number_alone 0) ≡ number_alone 0 → told ≡ 0
  unfolding number_alone
  zero-told e = ap (λ (z : Numbers). z.number) e

  own-told : (a : Advanced) → get_or (advance_channels file runs b).answers i (number_alone 0) ≡ numbers_of a → told ≡ a.number
  unfolding numbers_of
  own-told a e = ap (λ (z : Numbers). z.number) e

  channel-otherwise : told ≡ retired_number → ⊥
  channel-otherwise e = go (call-or file runs b)
    where
      none : get_or (advance_channels file runs b).answers i (number_alone 0) ≡ number_alone 0 → ⊥
      none z = omega (arith, e, zero-told z)

      there : (m : Model) → accepted file ≡ ok m → WellCounted b → (l : Bool) → ltb i b.count ≡ l → ⊥
      there m a h false l = none (none_there file runs b m a h i (ltb-false i b.count l))
      there m a h true l =
          let own = (own_turn file runs b m a h i (ltb-true i b.count l)).answer in
          turn-otherwise (demand1.channel_rows.turn_number file m b.moment _ _ f a) (sym (own-told _ own) ∙ e)

      go : ((j : ℕ) × (advance_channels file runs b ≡ refused_channels j runs b)) ⊎ ((m : Model) × (accepted file ≡ ok m) × WellCounted b) → ⊥
      go (inl h) = none (ap (λ (r : Channelled). get_or r.answers i (number_alone 0)) h.1 ∙ zeros-at max_channels i)
      go (inr h) = there h.0 h.1 h.2 (ltb i b.count) refl

never : (n : ℕ) → Given n → n ≡ retired_number → ⊥
never n (by_check file b) e = not-model n (demand1.model_numbers file n (demand1.model_judged file b)) e
never n (by_start file buffer b) e = not-writer (demand1.start_number file buffer b (omega arith)) e
never n (by_advance file run t bag trace table b) e = go (demand1.advance_number file run t bag trace table b) e
  where
    go : {n : ℕ} → AdvanceNumber file run t bag trace n → n ≡ retired_number → ⊥
    go (by_row n r) f = not-advance r f
    go (by_instants m d a h g) f = ended-otherwise d.number (ending-number g) f
never n (by_feed file run end feed trace b c) e = go (demand1.feed_number file run end feed trace b c) e
  where
    go : {n : ℕ} → FeedNumber file run end feed trace n → n ≡ retired_number → ⊥
    go (feed_by_row n r) f = not-feed r f
    go (feed_by_calls m bs k d a h g) f = ended-otherwise d.number (turns-number g) f
never n (by_channels file runs b f) e = not-channels (demand1.channel_rows.channels_number file runs b f (omega arith)) e
never n (by_channel file runs b i f) e = channel-otherwise file runs b i f e
never n (by_reading file run position b) e = not-reading (demand1.reading_number file run position b (omega arith)) e
never n (by_flatten file buffer b) e = not-writer (demand1.flatten_number file buffer b (omega arith)) e
never n (by_columns trace buffer b) e = not-rearranging (λ f. omega arith) (demand1.columns_number trace buffer b (omega arith)) e
never n (by_trace columns buffer b) e = not-rearranging (λ f. omega arith) (demand1.trace_number columns buffer b (omega arith)) e

-- ---- the promise

pub root-bags : RootBags
root-bags = record {
  bags = λ file m b e. let s = accepted_sound file m b e in record {
    few_routes = omega (arith, count_most (λ k. eqb k.source 0 || eqb k.target 0) (routes m), s.few_routes);
    put_out_lem = λ c p. omega (arith, outputs-few (phase_at m c p));
    by_routes = λ now x q. omega (arith, put-out-few m s.sound now x q);
    flat_by_couplings = λ now x k. omega (arith, flat-puts-out m s.sound now x k);
    nest = put-out-most m s.sound s.few_routes;
    flat = λ now x k. omega (arith, flat-puts-out m s.sound now x k, ending-most 0 m.couplings, s.sound.couplings.few);
  };
  retired = never;
}
