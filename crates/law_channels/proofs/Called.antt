-- A channel call is refused whole, by 21 or by the model's number, or its channels take their turns; then each has its share and what was left over,
-- all together keep within the allowance, and each part of the buffers is its own. Assumes nothing.
use mathlib.Core.Path.{◌≡◌, refl, sym, ap, ap₂, ◌∙◌}
use mathlib.Core.Logic.{◌⊎◌, inl, inr}
use Prim.Native.Nat.{ℕ, suc, ◌+◌, ◌-◌, ◌*◌, ◌/◌, ◌≤◌, ◌<◌}
use mathlib.Core.List.{List, [], map}
use mathlib.Core.Bool.{Bool, true, false, ◌||◌, ◌&&◌, not}
use native.Mathlib.Nat.{div-mul-le_self, le-div_iff_mul-le}
use native.Mathlib.Omega.{arith}
use lib.Dec.{leb, ltb}
use lib.ListN.{length, take, drop, get_or, length-map}
use lib.Seq.{drop_at, take_all}
use borrow.Author.Tests.{lt-ltb, le-ltb, le-leb, lt-leb, leb-true, leb-false, ltb-true, ltb-false}
use Rattle.definition.specs.Lists.{concat}
use Rattle.definition.specs.Bytes.{Bytes, Result, ok, refused, stored}
use Rattle.definition.specs.Limits.{max_steps, max_channels}
use Rattle.definition.specs.Model.{Model}
use Rattle.definition.specs.Pinned.Decoder.{accepted}
use Rattle.definition.specs.Engine.{Advanced, numbers_of, number_alone}
use Rattle.definition.specs.Channels.{part, Channel, channel_at, channels_of, turn, turns, ChannelsCall, Channelled, eight_answers, channelled, miscounted, advance_channels}
use Rattle.definition.specs.ChannelShares.{Miscounted, WellCounted, share_of, steps_of, has_at, past_parts}
use Rattle.definition.specs.ChannelRows.{refused_channels}
use Rattle.definition.specs.SeveralChannels.{Answered, SameRest}
use Rattle.law_base.proofs.Tests.{clash, or_right}
use Rattle.law_base.proofs.Lists.{get_d_map}
use Rattle.law_channels.proofs.TurnKeeps.{length-stored}
use Rattle.law_channels.proofs.Parts.{piece, Sized, length-pieces, piece-at}
use Rattle.law_channels.proofs.Shares.{spent_by, nothing, length-turns, spent, turn_at, sized, all-steps, first-steps, answer_at, none-answered, eight-answered, length-channels, channel-at, parted}

-- ---- whether it is refused by 21

module _ (b : ChannelsCall) where
  abbrev n : ℕ
  n = b.count

  pub counted : WellCounted b → miscounted n b.allowance ≡ false
  unfolding miscounted
  counted h = rw (le-leb 1 n h.some, le-leb n max_channels h.few, le-ltb b.allowance (max_steps * n) h.enough)

  pub counted-from : miscounted n b.allowance ≡ false → WellCounted b
  unfolding miscounted
  counted-from = go (leb 1 n) refl (leb n max_channels) refl (ltb b.allowance (max_steps * n)) refl
    where
      go : (c : Bool) → leb 1 n ≡ c → (d : Bool) → leb n max_channels ≡ d → (g : Bool) → ltb b.allowance (max_steps * n) ≡ g → not (c && d) || g ≡ false → WellCounted b
      go true c true d false g h = record { some = leb-true 1 n c; few = leb-true n max_channels d; enough = ltb-false b.allowance _ g }
      go true c true d true g h = absurd (clash refl h)
      go true c false d l g h = absurd (clash refl h)
      go false c f d l g h = absurd (clash refl h)

  pub miscount : Miscounted b → miscounted n b.allowance ≡ true
  unfolding miscounted
  miscount (inl h) = rw (lt-leb 1 n (omega arith))
  miscount (inr (inl h)) = rw (lt-leb n max_channels h) (go (leb 1 n))
    where
      go : (c : Bool) → not (c && false) || ltb b.allowance (max_steps * n) ≡ true
      go true = refl
      go false = refl
  miscount (inr (inr h)) = or_right (not (leb 1 n && leb n max_channels)) _ (lt-ltb b.allowance (max_steps * n) h)

  pub miscounted-from : miscounted n b.allowance ≡ true → Miscounted b
  unfolding miscounted
  miscounted-from = go (leb 1 n) refl (leb n max_channels) refl (ltb b.allowance (max_steps * n)) refl
    where
      go : (c : Bool) → leb 1 n ≡ c → (d : Bool) → leb n max_channels ≡ d → (g : Bool) → ltb b.allowance (max_steps * n) ≡ g → not (c && d) || g ≡ true → Miscounted b
      go true c true d true g h = inr (inr (ltb-true b.allowance _ g))
      go true c true d false g h = absurd (clash h refl)
      go true c false d l g h = inr (inl (leb-false n max_channels d))
      go false c f d l g h = inl (let z = leb-false 1 n c in omega arith)

-- ---- the call

module _ (file runs : Bytes) (b : ChannelsCall) where
  abbrev call : Channelled
  call = advance_channels file runs b

  pub call-21 : miscounted b.count b.allowance ≡ true → call ≡ refused_channels 21 runs b
  unfolding advance_channels channelled eight_answers
  call-21 e = rw e

  pub call-model : (j : ℕ) → WellCounted b → accepted file ≡ refused j → call ≡ refused_channels j runs b
  unfolding advance_channels channelled eight_answers
  call-model j h e = rw (counted b h, e)

  abbrev pub turned : Model → List Advanced
  turned m = turns m b.moment (share_of b) 0 (channels_of runs b)

  pub call_ok : (m : Model) → WellCounted b → accepted file ≡ ok m → call ≡ channelled runs b.traces (ok (turned m))
  unfolding advance_channels
  call_ok m h e = rw (counted b h, e)

  -- it is refused whole, or its channels take their turns
  pub call-or : ((j : ℕ) × (call ≡ refused_channels j runs b)) ⊎ ((m : Model) × (accepted file ≡ ok m) × WellCounted b)
  call-or = go (miscounted b.count b.allowance) refl (accepted file) refl
    where
      go : (c : Bool) → miscounted b.count b.allowance ≡ c → (r : Result Model) → accepted file ≡ r
          → ((j : ℕ) × (call ≡ refused_channels j runs b)) ⊎ ((m : Model) × (accepted file ≡ ok m) × WellCounted b)
      go true c r e = inl (21, call-21 c)
      go false c (refused j) e = inl (j, call-model j (counted-from b c) e)
      go false c (ok m) e = inr (m, e, counted-from b c)

  module _ (m : Model) (e : accepted file ≡ ok m) (h : WellCounted b) where
    abbrev cs : List Channel
    cs = channels_of runs b

    abbrev xs : List Advanced
    xs = turned m

    pub all-turned : length xs ≡ b.count
    all-turned = length-turns m b.moment (share_of b) 0 cs ∙ length-channels runs b

    pub answers-are : call.answers ≡ eight_answers xs
    answers-are = ap (λ (r : Channelled). r.answers) (call_ok m h e) ∙ unfold channelled in refl

    pub runs-are : call.runs ≡ stored (concat (map (λ a. a.run) xs)) runs
    runs-are = ap (λ (r : Channelled). r.runs) (call_ok m h e) ∙ unfold channelled in refl

    pub traces-are : call.traces ≡ stored (concat (map (λ a. a.trace) xs)) b.traces
    traces-are = ap (λ (r : Channelled). r.traces) (call_ok m h e) ∙ unfold channelled in refl

    -- ---- shares

    pub share-enough : max_steps ≤ share_of b
    share-enough = (le-div_iff_mul-le h.some).1 h.enough

    pub total-within : steps_of call.answers ≤ b.allowance
    total-within =
        omega (
          arith,
          ap steps_of answers-are,
          all-steps xs,
          ap spent_by (sym (take_all b.count xs (omega (arith, all-turned)))),
          spent m b.moment (share_of b) 0 cs b.count,
          div-mul-le_self b.allowance b.count,
        )

    spent-told : (i : ℕ) → i < b.count → steps_of (take i call.answers) ≡ spent_by (take i xs)
    spent-told i l = ap (λ y. steps_of (take i y)) answers-are ∙ first-steps xs i (omega (arith, all-turned))

    pub left_over : (i : ℕ) → i < b.count → has_at b call.answers i + steps_of (take i call.answers) ≡ suc i * share_of b
    left_over i l = omega (arith, spent-told i l, spent m b.moment (share_of b) 0 cs i)

    pub own_share : (i : ℕ) → i < b.count → share_of b ≤ has_at b call.answers i
    own_share i l = omega (arith, spent-told i l, spent m b.moment (share_of b) 0 cs i)

    own : (i : ℕ) → i < b.count → get_or xs i nothing ≡ turn m b.moment (has_at b call.answers i) (channel_at runs b i)
    own i l =
        turn_at m b.moment (share_of b) 0 cs i (omega (arith, length-channels runs b))
        ∙ ap₂ (turn m b.moment) (let z : suc i * share_of b + 0 - spent_by (take i xs) ≡ has_at b call.answers i = omega (arith, spent-told i l) in z)
        (channel-at runs b i l)

    -- ---- parts

    module _ (f : Advanced → Bytes) (s : Bytes) (k : Sized (length s / b.count) (map f xs)) where
      front : length (concat (map f xs)) ≡ past_parts b.count (length s)
      front = length-pieces (length s / b.count) (map f xs) k ∙ ap (λ j. length s / b.count * j) (length-map xs f ∙ all-turned)

      same_length : length (stored (concat (map f xs)) s) ≡ length s
      same_length = length-stored (concat (map f xs)) s (omega (arith, front, div-mul-le_self (length s) b.count))

      part-is : (i : ℕ) → i < b.count → part b.count i (stored (concat (map f xs)) s) ≡ f (get_or xs i nothing)
      unfolding part piece stored
      part-is i l =
          ap (λ j. piece (j / b.count) i (stored (concat (map f xs)) s)) same_length
          ∙ piece-at (length s / b.count) (map f xs) _ i k (omega (arith, length-map xs f, all-turned)) ∙ get_d_map f xs i nothing [] (omega (arith, all-turned))

      rest-is : drop (past_parts b.count (length s)) (stored (concat (map f xs)) s) ≡ drop (past_parts b.count (length s)) s
      unfolding stored
      rest-is = drop_at (concat (map f xs)) _ (past_parts b.count (length s)) front ∙ ap (λ j. drop j s) front

    sizes : Sized (length runs / b.count) (map (λ a. a.run) xs) × Sized (length b.traces / b.count) (map (λ a. a.trace) xs)
    sizes = sized m b.moment (share_of b) _ _ 0 cs (parted runs b)

    pub own_turn : (i : ℕ) → i < b.count → Answered b call i (turn m b.moment (has_at b call.answers i) (channel_at runs b i))
    own_turn i l = record {
      answer = ap (λ y. get_or y i (number_alone 0)) answers-are ∙ answer_at xs i (omega (arith, all-turned)) ∙ ap numbers_of (own i l);
      run = ap (part b.count i) runs-are ∙ part-is (λ a. a.run) runs sizes.0 i l ∙ ap (λ (a : Advanced). a.run) (own i l);
      trace = ap (part b.count i) traces-are ∙ part-is (λ a. a.trace) b.traces sizes.1 i l ∙ ap (λ (a : Advanced). a.trace) (own i l);
    }

    pub rests : SameRest b.count runs call.runs × SameRest b.count b.traces call.traces
    rests = (
      (ap length runs-are ∙ same_length (λ a. a.run) runs sizes.0, ap (drop (past_parts b.count (length runs))) runs-are ∙ rest-is (λ a. a.run) runs sizes.0),
      (
        ap length traces-are ∙ same_length (λ a. a.trace) b.traces sizes.1,
        ap (drop (past_parts b.count (length b.traces))) traces-are ∙ rest-is (λ a. a.trace) b.traces sizes.1,
      ),
    )

    pub none_there : (i : ℕ) → b.count ≤ i → get_or call.answers i (number_alone 0) ≡ number_alone 0
    none_there i l = ap (λ y. get_or y i (number_alone 0)) answers-are ∙ none-answered xs i (omega (arith, all-turned))

    pub eight-there : length call.answers ≡ max_channels
    eight-there = ap length answers-are ∙ eight-answered xs (omega (arith, all-turned, h.few))
