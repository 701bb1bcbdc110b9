-- The channels of a call in turn: each has its own share at least, all together spend no more than the allowance, and each part of the buffers is its
-- own. Assumes nothing.
use mathlib.Core.Path.{◌≡◌, refl, ap, ◌∙◌}
use mathlib.Core.Option.{none}
use Prim.Native.Nat.{ℕ, zero, suc, ◌+◌, ◌-◌, ◌*◌, ◌/◌, ◌≤◌, ◌<◌}
use mathlib.Core.List.{List, [], ◌∷◌, ◌++◌, map}
use native.Mathlib.Omega.{arith}
use lib.ListN.{length, take, get_or, replicate, length-append, length-map, length-replicate, get_or-append}
use lib.Seq.{take-append-le, get_or-append-add}
use Rattle.definition.specs.Lists.{sum, up_from}
use Rattle.definition.specs.Bytes.{Bytes}
use Rattle.definition.specs.Limits.{max_channels}
use Rattle.definition.specs.Model.{Model}
use Rattle.definition.specs.Engine.{Advanced, Numbers, numbers_of, number_alone}
use Rattle.definition.specs.Channels.{Channel, channel_at, channels_of, turn, turns, ChannelsCall, eight_answers}
use Rattle.definition.specs.ChannelShares.{steps_of}
use Rattle.law_base.proofs.Lists.{length_up, get_d_map, take-map}
use Rattle.law_channels.proofs.TurnKeeps.{turn-within, turn-lengths}
use Rattle.law_channels.proofs.Parts.{Sized, length_part, at_up}

abbrev pub spent_by : List Advanced → ℕ
spent_by xs = sum (map (λ a. a.steps) xs)

abbrev pub nothing : Advanced
nothing = record { number = 0; instants = 0; steps = 0; used = 0; run = []; trace = []; table = [] }

abbrev pub no_channel : Channel
no_channel = record { run = []; trace = []; bag = none }

-- channels with parts of one size
abbrev pub Parted : ℕ → ℕ → List Channel → Type 0
Parted a b [] = Unit {0}
Parted a b (c ∷ cs) = ((length c.run ≡ a) × (length c.trace ≡ b)) × Parted a b cs

-- ---- in turn

module _ (m : Model) (t share : ℕ) where
  pub length-turns : (left : ℕ) (cs : List Channel) → length (turns m t share left cs) ≡ length cs
  unfolding turns
  length-turns left [] = refl
  length-turns left (c ∷ cs) = ap suc (length-turns (share + left - (turn m t (share + left) c).steps) cs)

  -- what the first i have spent
  pub spent : (left : ℕ) (cs : List Channel) (i : ℕ) → spent_by (take i (turns m t share left cs)) ≤ i * share + left
  unfolding turns sum
  spent left [] zero = omega arith
  spent left [] (suc i) = omega arith
  spent left (c ∷ cs) zero = omega arith
  spent left (c ∷ cs) (suc i) = omega (arith, turn-within m t (share + left) c, spent (share + left - (turn m t (share + left) c).steps) cs i)

  -- each turn, with the shares so far less what was spent
  pub turn_at : (left : ℕ) (cs : List Channel) (i : ℕ) → i < length cs
      → get_or (turns m t share left cs) i nothing ≡ turn m t (suc i * share + left - spent_by (take i (turns m t share left cs))) (get_or cs i no_channel)
  unfolding turns sum
  turn_at left [] i l = absurd (omega arith)
  turn_at left (c ∷ cs) zero l = ap (λ h. turn m t h c) (let z : share + left ≡ 1 * share + left - 0 = omega arith in z)
  turn_at left (c ∷ cs) (suc i) l =
      let left' = share + left - (turn m t (share + left) c).steps in
      let s = spent_by (take i (turns m t share left' cs)) in
      turn_at left' cs i (omega arith)
      ∙ ap (λ h. turn m t h (get_or cs i no_channel))
      (let z : suc i * share + left' - s ≡ suc (suc i) * share + left - ((turn m t (share + left) c).steps + s) = omega (arith, turn-within m t (share + left) c) in z)

  pub sized : (a b left : ℕ) (cs : List Channel) → Parted a b cs
      → Sized a (map (λ x. x.run) (turns m t share left cs)) × Sized b (map (λ x. x.trace) (turns m t share left cs))
  unfolding turns
  sized a b left [] h = (tt, tt)
  sized a b left (c ∷ cs) h =
      let k = sized a b (share + left - (turn m t (share + left) c).steps) cs h.1 in
      let l = turn-lengths m t (share + left) c in
      ((l.0 ∙ h.0.0, k.0), (l.1 ∙ h.0.1, k.1))

-- ---- what is answered

numbers-steps : (xs : List Advanced) → steps_of (map numbers_of xs) ≡ spent_by xs
unfolding sum numbers_of
numbers-steps [] = refl
numbers-steps (x ∷ xs) = ap (λ n. x.steps + n) (numbers-steps xs)

pub zeros-steps : (k : ℕ) → steps_of (replicate k (number_alone 0)) ≡ 0
unfolding sum number_alone
zeros-steps zero = refl
zeros-steps (suc k) = ap (λ n. 0 + n) (zeros-steps k)

steps-append : (xs ys : List Numbers) → steps_of (xs ++ ys) ≡ steps_of xs + steps_of ys
unfolding sum
steps-append [] ys = omega arith
steps-append (x ∷ xs) ys = omega (arith, steps-append xs ys)

pub zeros-at : (k i : ℕ) → get_or (replicate k (number_alone 0)) i (number_alone 0) ≡ number_alone 0
zeros-at zero i = refl
zeros-at (suc k) zero = refl
zeros-at (suc k) (suc i) = zeros-at k i

module _ (xs : List Advanced) where
  pub all-steps : steps_of (eight_answers xs) ≡ spent_by xs
  unfolding eight_answers
  all-steps = steps-append (map numbers_of xs) _ ∙ omega (arith, numbers-steps xs, zeros-steps (max_channels - length xs))

  pub first-steps : (i : ℕ) → i ≤ length xs → steps_of (take i (eight_answers xs)) ≡ spent_by (take i xs)
  unfolding eight_answers
  first-steps i l =
      ap steps_of (take-append-le i (map numbers_of xs) _ (omega (arith, length-map xs numbers_of)) ∙ take-map numbers_of i xs) ∙ numbers-steps (take i xs)

  pub answer_at : (i : ℕ) → i < length xs → get_or (eight_answers xs) i (number_alone 0) ≡ numbers_of (get_or xs i nothing)
  unfolding eight_answers
  answer_at i l =
      get_or-append (map numbers_of xs) _ (number_alone 0) i (omega (arith, length-map xs numbers_of)) ∙ get_d_map numbers_of xs i nothing (number_alone 0) l

  pub none-answered : (i : ℕ) → length xs ≤ i → get_or (eight_answers xs) i (number_alone 0) ≡ number_alone 0
  unfolding eight_answers
  none-answered i l =
      let k = max_channels - length xs in
      let n = length-map xs numbers_of in
      ap (λ j. get_or (map numbers_of xs ++ replicate k (number_alone 0)) j (number_alone 0)) (let z : i ≡ length (map numbers_of xs) + (i - length xs) = omega (arith, n) in z)
      ∙ get_or-append-add (map numbers_of xs) (replicate k (number_alone 0)) (i - length xs) (number_alone 0) ∙ zeros-at k (i - length xs)

  pub eight-answered : length xs ≤ max_channels → length (eight_answers xs) ≡ max_channels
  unfolding eight_answers
  eight-answered l = length-append (map numbers_of xs) _ ∙ omega (arith, length-map xs numbers_of, length-replicate (max_channels - length xs) (number_alone 0))

-- ---- the channels of the buffers

module _ (runs : Bytes) (b : ChannelsCall) where
  pub length-channels : length (channels_of runs b) ≡ b.count
  unfolding channels_of
  length-channels = length-map (up_from 0 b.count) (channel_at runs b) ∙ length_up 0 b.count

  pub channel-at : (i : ℕ) → i < b.count → get_or (channels_of runs b) i no_channel ≡ channel_at runs b i
  unfolding channels_of
  channel-at i l =
      get_d_map (channel_at runs b) (up_from 0 b.count) i 0 no_channel (omega (arith, length_up 0 b.count))
      ∙ ap (channel_at runs b) (at_up 0 b.count i 0 l ∙ (let z : 0 + i ≡ i = omega arith in z))

  pub channel-lengths : (i : ℕ) → i < b.count
      → (length (channel_at runs b i).run ≡ length runs / b.count) × (length (channel_at runs b i).trace ≡ length b.traces / b.count)
  unfolding channel_at
  channel-lengths i l = (length_part b.count i runs l, length_part b.count i b.traces l)

  parted-up : (k j : ℕ) → k + j ≤ b.count → Parted (length runs / b.count) (length b.traces / b.count) (map (channel_at runs b) (up_from k j))
  unfolding up_from
  parted-up k zero l = tt
  parted-up k (suc j) l = (channel-lengths k (omega arith), parted-up (suc k) j (omega arith))

  pub parted : Parted (length runs / b.count) (length b.traces / b.count) (channels_of runs b)
  unfolding channels_of
  parted = parted-up 0 b.count (omega arith)
