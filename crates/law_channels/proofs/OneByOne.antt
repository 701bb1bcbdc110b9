-- The channels one by one on the lent buffers themselves, each part taken out and put back, are the channels of the definition: the loop that the code
-- has and the flat machine's. Assumes nothing.
use mathlib.Core.Path.{◌≡◌, refl, sym, ap, ap₂, ◌∙◌, subst}
use Prim.Native.Nat.{ℕ, zero, suc, ◌+◌, ◌-◌, ◌*◌, ◌/◌, ◌<◌}
use mathlib.Core.List.{List, [], ◌∷◌, ◌++◌, map, append_assoc, append-nil}
use mathlib.Core.Bool.{true, false}
use native.Mathlib.Omega.{arith}
use lib.ListN.{length, take, drop, get_or, replicate, length-append, length-map}
use lib.Seq.{take_at, drop_at, drop-drop, drop-append-add}
use Rattle.definition.specs.Lists.{concat, up_from}
use Rattle.definition.specs.Bytes.{Bytes, ok, refused, stored}
use Rattle.definition.specs.Limits.{max_channels}
use Rattle.definition.specs.Model.{Model}
use Rattle.definition.specs.Pinned.Decoder.{accepted}
use Rattle.definition.specs.Engine.{Advanced, numbers_of, number_alone}
use Rattle.definition.specs.Channels.{part, no_place, bag_at, Channel, channel_at, channels_of, turn, turns, eight_answers, channelled, miscounted, ChannelsCall, advance_channels}
use Rattle.definition.specs.ChannelShares.{share_of}
use Rattle.definition.specs.FlatChannels.{Box, taken_out, put_back, one_channel, one_by_one, boxed}
use Rattle.law_channels.proofs.TurnKeeps.{turn-lengths}
use Rattle.law_channels.proofs.Parts.{piece, Sized, length-pieces}
use Rattle.law_channels.proofs.Shares.{channel-lengths}

-- ---- a buffer into which some parts are put back

abbrev held : (Advanced → Bytes) → ℕ → Bytes → List Advanced → Bytes
held f size s ds = concat (map f ds) ++ drop (size * length ds) s

concat-last : (f : Advanced → Bytes) (ds : List Advanced) (a : Advanced) → concat (map f (ds ++ (a ∷ []))) ≡ concat (map f ds) ++ f a
unfolding concat
concat-last f [] a = append-nil (f a)
concat-last f (d ∷ ds) a = ap (λ z. f d ++ z) (concat-last f ds a) ∙ sym (append_assoc (f d) (concat (map f ds)) (f a))

sized-last : (f : Advanced → Bytes) (size : ℕ) (ds : List Advanced) (a : Advanced) → Sized size (map f ds) → length (f a) ≡ size → Sized size (map f (ds ++ (a ∷ [])))
sized-last f size [] a h l = (l, tt)
sized-last f size (d ∷ ds) a h l = (h.0, sized-last f size ds a h.1 l)

length_last : (ds : List Advanced) (a : Advanced) → length (ds ++ (a ∷ [])) ≡ suc (length ds)
length_last ds a = length-append ds (a ∷ []) ∙ (let z : length ds + 1 ≡ suc (length ds) = omega arith in z)

numbers-last : (ds : List Advanced) (a : Advanced) → map numbers_of ds ++ (numbers_of a ∷ []) ≡ map numbers_of (ds ++ (a ∷ []))
numbers-last [] a = refl
numbers-last (d ∷ ds) a = ap (λ z. numbers_of d ∷ z) (numbers-last ds a)

module _ (f : Advanced → Bytes) (size : ℕ) (s : Bytes) (ds : List Advanced) (h : Sized size (map f ds)) where
  front : length (concat (map f ds)) ≡ size * length ds
  front = length-pieces size (map f ds) h ∙ ap (λ k. size * k) (length-map ds f)

  out : taken_out (size * length ds) size (held f size s ds) ≡ piece size (length ds) s
  unfolding taken_out piece
  out = ap (take size) (drop_at (concat (map f ds)) (drop (size * length ds) s) (size * length ds) front)

  back : (a : Advanced) → length (f a) ≡ size → put_back (size * length ds) (f a) (held f size s ds) ≡ held f size s (ds ++ (a ∷ []))
  unfolding put_back
  back a l =
      ap₂ (λ x y. x ++ (f a ++ y)) (take_at (concat (map f ds)) (drop (size * length ds) s) (size * length ds) front)
      (ap (λ k. drop (k + length (f a)) (held f size s ds)) (sym front) ∙ drop-append-add (concat (map f ds)) (drop (size * length ds) s) (length (f a))
      ∙ drop-drop (length (f a)) (size * length ds) s
      ∙ ap (λ k. drop k s) (let z : size * length ds + length (f a) ≡ size * length (ds ++ (a ∷ [])) = omega (arith, l, ap (λ k. size * k) (length_last ds a)) in z))
      ∙ sym (append_assoc (concat (map f ds)) (f a) _) ∙ ap (λ z. z ++ drop (size * length (ds ++ (a ∷ []))) s) (sym (concat-last f ds a))

  all_back : held f size s ds ≡ stored (concat (map f ds)) s
  unfolding stored
  all_back = ap (λ k. concat (map f ds) ++ drop k s) (sym front)

-- ---- the channels one by one

-- before the first channel
abbrev pub empty_box : Bytes → ChannelsCall → Box
empty_box runs b = record { runs = runs; traces = b.traces; left = 0; answers = [] }

module _ (m : Model) (runs : Bytes) (b : ChannelsCall) where
  abbrev of_run : ℕ
  of_run = length runs / b.count

  abbrev of_trace : ℕ
  of_trace = length b.traces / b.count

  abbrev box_of : ℕ → List Advanced → Box
  box_of left ds = record { runs = held (λ a. a.run) of_run runs ds; traces = held (λ a. a.trace) of_trace b.traces ds; left = left; answers = map numbers_of ds }

  abbrev Whole : List Advanced → Type 0
  Whole ds = Sized of_run (map (λ a. a.run) ds) × Sized of_trace (map (λ a. a.trace) ds)

  abbrev after : ℕ → ℕ → Advanced
  after left i = turn m b.moment (share_of b + left) (channel_at runs b i)

  fit : (left i : ℕ) → i < b.count → (length (after left i).run ≡ of_run) × (length (after left i).trace ≡ of_trace)
  fit left i l =
      let k = turn-lengths m b.moment (share_of b + left) (channel_at runs b i) in
      let c = channel-lengths runs b i l in
      (k.0 ∙ c.0, k.1 ∙ c.1)

  -- for a turn that is the definition's on the channels of the buffers
  module _ (f : ℕ → Channel → Advanced) (same : (has i : ℕ) → i < b.count → f has (channel_at runs b i) ≡ turn m b.moment has (channel_at runs b i)) where
    one-channel : (left : ℕ) (ds : List Advanced) → Whole ds → length ds < b.count
        → one_channel f b of_run of_trace (length ds) (box_of left ds) ≡ box_of (share_of b + left - (after left (length ds)).steps) (ds ++ (after left (length ds) ∷ []))
    unfolding one_channel
    one-channel left ds h l =
        ap (λ (c : Channel). box_by (f (share_of b + left) c)) channel
        ∙ ap box_by (same (share_of b + left) i l)
        ∙ (λ j. record {
          runs = back (λ a. a.run) of_run runs ds h.0 (after left i) (fit left i l).0 j;
          traces = back (λ a. a.trace) of_trace b.traces ds h.1 (after left i) (fit left i l).1 j;
          left = share_of b + left - (after left i).steps;
          answers = numbers-last ds (after left i) j;
        })
      where
        i : ℕ
        i = length ds

        box_by : Advanced → Box
        box_by a = record {
          runs = put_back (of_run * i) a.run (held (λ a. a.run) of_run runs ds);
          traces = put_back (of_trace * i) a.trace (held (λ a. a.trace) of_trace b.traces ds);
          left = share_of b + left - a.steps;
          answers = map numbers_of ds ++ (numbers_of a ∷ []);
        }

        taken : Channel
        taken = record {
          run = taken_out (of_run * i) of_run (held (λ a. a.run) of_run runs ds);
          trace = taken_out (of_trace * i) of_trace (held (λ a. a.trace) of_trace b.traces ds);
          bag = bag_at b.bags (get_or b.places i no_place);
        }

        channel : taken ≡ channel_at runs b i
        channel = unfold channel_at part piece in (λ j. record {
          run = out (λ a. a.run) of_run runs ds h.0 j;
          trace = out (λ a. a.trace) of_trace b.traces ds h.1 j;
          bag = bag_at b.bags (get_or b.places i no_place);
        })

    abbrev later : ℕ → ℕ → ℕ → List Advanced
    later left i j = turns m b.moment (share_of b) left (map (channel_at runs b) (up_from i j))

    one_by_one_lem : (j left : ℕ) (ds : List Advanced) → Whole ds → length ds + j ≡ b.count
        → (last : ℕ) × (one_by_one f b of_run of_trace j (length ds) (box_of left ds) ≡ box_of last (ds ++ later left (length ds) j)) × Whole (ds ++ later left (length ds) j)
    unfolding one_by_one turns up_from
    one_by_one_lem zero left ds h l = (left, ap (box_of left) (sym (append-nil ds)), subst Whole (sym (append-nil ds)) h)
    one_by_one_lem (suc j) left ds h l =
        let i = length ds in
        let a = after left i in
        let onward = share_of b + left - a.steps in
        let ds' = ds ++ (a ∷ []) in
        let next : length ds' ≡ suc i = length_last ds a in
        let k = fit left i (omega arith) in
        let r = one_by_one_lem j onward ds' (sized-last (λ x. x.run) of_run ds a h.0 k.0, sized-last (λ x. x.trace) of_trace ds a h.1 k.1) (omega (arith, next)) in
        let joined : ds' ++ later onward (length ds') j ≡ ds ++ (a ∷ later onward (suc i) j) = append_assoc ds (a ∷ []) _ ∙ ap (λ z. ds ++ (a ∷ later onward z j)) next in (
          r.0,
          ap (one_by_one f b of_run of_trace j (suc i)) (one-channel left ds h (omega arith)) ∙ ap (λ z. one_by_one f b of_run of_trace j z (box_of onward ds')) (sym next)
              ∙ r.1 ∙ ap (box_of r.0) joined,
          subst Whole joined r.2,
        )

    -- The buffers after all channels, and what was answered.
    pub boxes-are : channelled runs b.traces (ok (turns m b.moment (share_of b) 0 (channels_of runs b)))
        ≡ boxed runs b.traces (ok (one_by_one f b of_run of_trace b.count 0 (empty_box runs b)))
    unfolding channels_of
    boxes-are = put ∙ ap (λ z. boxed runs b.traces (ok z)) (sym is)
      where
        xs : List Advanced
        xs = later 0 0 b.count

        begin : empty_box runs b ≡ box_of 0 []
        begin = unfold concat in (λ i. record { runs = drop (none of_run i) runs; traces = drop (none of_trace i) b.traces; left = 0; answers = [] })
          where
            none : (k : ℕ) → 0 ≡ k * 0
            none k = omega arith

        r : (last : ℕ) × (one_by_one f b of_run of_trace b.count 0 (box_of 0 []) ≡ box_of last xs) × Whole xs
        r = one_by_one_lem b.count 0 [] (tt, tt) (omega arith)

        is : one_by_one f b of_run of_trace b.count 0 (empty_box runs b) ≡ box_of r.0 xs
        is = ap (one_by_one f b of_run of_trace b.count 0) begin ∙ r.1

        put : channelled runs b.traces (ok xs) ≡ boxed runs b.traces (ok (box_of r.0 xs))
        put = unfold channelled boxed eight_answers in (λ i. record {
          number = 0;
          answers = map numbers_of xs ++ replicate (max_channels - sym (length-map xs numbers_of) i) (number_alone 0);
          runs = sym (all_back (λ a. a.run) of_run runs xs r.2.0) i;
          traces = sym (all_back (λ a. a.trace) of_trace b.traces xs r.2.1) i;
        })

-- ---- the call, as the code makes it: refused, or the definition's own turns in that loop

module _ (file runs : Bytes) (b : ChannelsCall) where
  pub refused-count : miscounted b.count b.allowance ≡ true → advance_channels file runs b ≡ boxed runs b.traces (refused 21)
  unfolding advance_channels channelled boxed eight_answers
  refused-count c = rw c

  pub refused-model : (n : ℕ) → miscounted b.count b.allowance ≡ false → accepted file ≡ refused n
      → advance_channels file runs b ≡ boxed runs b.traces (refused n)
  unfolding advance_channels channelled boxed eight_answers
  refused-model n c e = rw (c, e)

  pub loop-channels : (m : Model) → miscounted b.count b.allowance ≡ false → accepted file ≡ ok m
      → advance_channels file runs b
      ≡ boxed runs b.traces (ok (one_by_one (turn m b.moment) b (length runs / b.count) (length b.traces / b.count) b.count 0 (empty_box runs b)))
  unfolding advance_channels
  loop-channels m c e = rw (c, e) (boxes-are m runs b (turn m b.moment) (λ has i l. refl))
