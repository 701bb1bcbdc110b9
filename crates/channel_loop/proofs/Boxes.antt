-- The channels' loop on the buffers: what one turn of the code leaves is one channel more, and what all turns leave is the answer. Assumes nothing.
use mathlib.Core.Path.{◌≡◌, refl, sym, ap, ap₂, ◌∙◌}
use mathlib.Core.List.{List, [], ◌∷◌, ◌++◌, map, map-append}
use Prim.Native.Nat.{ℕ, zero, suc, ◌+◌, ◌*◌, ◌-◌, ◌/◌, ◌≤◌, ◌<◌}
use native.Mathlib.Nat.{div-mul-le_self, mul-le-mul_left}
use native.Mathlib.Omega.{arith}
use lib.ListN.{length, take, drop, set, get_or, replicate, length-take, length-drop, length-append, length-map, take-append-drop, get_or-map}
use lib.Seq.{drop-drop, drop-set-lt, take-suc-set, length-take-le}
use Rattle.definition.specs.Bytes.{Bytes, ok}
use Rattle.definition.specs.Limits.{max_channels}
use Rattle.definition.specs.Model.{Model}
use Rattle.definition.specs.Engine.{numbers_of, number_alone}
use Rattle.definition.specs.Engine as Engine
use Rattle.definition.specs.Channels.{no_place, bag_at, Channel, turn, ChannelsCall}
use Rattle.definition.specs.FlatChannels.{Box, taken_out, put_back, one_channel, one_by_one, boxed}
use Rattle.law_channels.proofs.TurnKeeps.{turn-within, turn-lengths}
use Rattle.call_answers.specs.Answers.{advanced_of, place_of, places_of, numbers_in, channelled_of}
use Rattle.call_answers.specs.declared.Advanced.{Advanced}
use Rattle.call_answers.specs.declared.Place.{Place}
use Rattle.call_answers.specs.declared.Places.{Places}
use Rattle.channel_loop.specs.InTurn.{all_in_turn}

-- ---- lists

map-replicate : {A B : Type 0} (f : A → B) (n : ℕ) (a : A) → map f (replicate n a) ≡ replicate n (f a)
map-replicate f zero a = refl
map-replicate f (suc n) a = ap (λ zs. f a ∷ zs) (map-replicate f n a)

drop-one : {A : Type 0} (n i : ℕ) (a : A) → i < n → drop 1 (replicate (n - i) a) ≡ replicate (n - (i + 1)) a
drop-one n i a l =
    let e : n - i ≡ suc (n - (i + 1)) = omega arith in
    ap (λ k. drop 1 (replicate k a)) e

-- ---- a part of a buffer

-- part i lies inside
pub inside : (s : Bytes) (n i : ℕ) → i < n → length s / n * i + length s / n ≤ length s
inside s n i l = let q = length s / n in let fit : q * suc i ≤ q * n = mul-le-mul_left q l in omega (arith, div-mul-le_self (length s) n)

-- the slice that comes back, in the code's words
pub came-back : (s new : Bytes) (a e size : ℕ) → e ≡ a + size → length new ≡ size → take a s ++ (new ++ drop (e - a) (drop a s)) ≡ put_back a new s
unfolding put_back
came-back s new a e size h l =
    let z : a + (e - a) ≡ a + length new = omega (arith, l) in
    ap (λ y. take a s ++ (new ++ y)) (drop-drop (e - a) a s ∙ ap (λ j. drop j s) z)

pub length_back : (s new : Bytes) (a size : ℕ) → a + size ≤ length s → length new ≡ size → length (put_back a new s) ≡ length s
unfolding put_back
length_back s new a size l e =
    length-append (take a s) (new ++ drop (a + length new) s)
    ∙ omega (arith, length-take a s, length-append new (drop (a + length new) s), length-drop (a + length new) s, e)

pub taken_as : (s : Bytes) (a e size : ℕ) → e ≡ a + size → take (e - a) (drop a s) ≡ taken_out a size s
unfolding taken_out
taken_as s a e size h = ap (λ k. take k (drop a s)) (let z : e - a ≡ size = omega arith in z)

pub length_taken : (s : Bytes) (a e size : ℕ) → e ≡ a + size → a + size ≤ length s → length (take (e - a) (drop a s)) ≡ size
length_taken s a e size h l = length-take-le (e - a) (drop a s) (omega (arith, length-drop a s)) ∙ omega arith

-- ---- the loop

-- Nothing told.
abbrev pub untold : Advanced
untold = record { number = 0; instants = 0; steps = 0; trace_bytes = 0 }

pub all-zeros : (r : Advanced) → r.number ≡ 0 → r.instants ≡ 0 → r.steps ≡ 0 → r.trace_bytes ≡ 0 → r ≡ untold
all-zeros r n i s t = λ j. record { number = n j; instants = i j; steps = s j; trace_bytes = t j }

-- The buffers, what is left over, and what the first i channels were told.
abbrev pub box_at : Bytes → Bytes → ℕ → List Advanced → ℕ → Box
box_at runs traces left channel i = record { runs = runs; traces = traces; left = left; answers = map numbers_in (take i channel) }

module _ (f : ℕ → Channel → Engine.Advanced) (b : ChannelsCall) (of_run of_trace : ℕ) where
  pub more : (n i : ℕ) (g : Box) → i < n → one_by_one f b of_run of_trace (n - (i + 1)) (i + 1) (one_channel f b of_run of_trace i g) ≡ one_by_one f b of_run of_trace (n - i) i g
  unfolding one_by_one
  more n i g l =
      let e : i + 1 ≡ suc i = omega arith in
      let h : n - (i + 1) ≡ n - suc i = omega arith in
      let k : n - i ≡ suc (n - suc i) = omega arith in
      ap₂ (λ x y. one_by_one f b of_run of_trace x y (one_channel f b of_run of_trace i g)) h e ∙ sym (ap (λ x. one_by_one f b of_run of_trace x i g) k)

  pub none_left : (n i : ℕ) (g : Box) → n ≤ i → one_by_one f b of_run of_trace (n - i) i g ≡ g
  unfolding one_by_one
  none_left n i g l = ap (λ x. one_by_one f b of_run of_trace x i g) (let z : n - i ≡ 0 = omega arith in z)

  pub from_start : (n : ℕ) (g : Box) → one_by_one f b of_run of_trace (n - 0) 0 g ≡ one_by_one f b of_run of_trace n 0 g
  from_start n g = ap (λ x. one_by_one f b of_run of_trace x 0 g) (let z : n - 0 ≡ n = omega arith in z)

  -- what one turn of the code leaves
  pub one_more : (i left : ℕ) (runs traces runs' traces' run trace : Bytes) (channel : List Advanced) (told : Advanced) → i < length channel
      → advanced_of run trace [] told
      ≡ f (b.allowance / b.count + left)
      (record { run = taken_out (of_run * i) of_run runs; trace = taken_out (of_trace * i) of_trace traces; bag = bag_at b.bags (get_or b.places i no_place) })
      → runs' ≡ put_back (of_run * i) run runs → traces' ≡ put_back (of_trace * i) trace traces
      → box_at runs' traces' (b.allowance / b.count + left - told.steps) (set channel i told) (i + 1) ≡ one_channel f b of_run of_trace i (box_at runs traces left channel i)
  unfolding one_channel numbers_of
  one_more i left runs traces runs' traces' run trace channel told l e g h =
      let s : i + 1 ≡ suc i = omega arith in
      let answers : map numbers_in (take (i + 1) (set channel i told)) ≡ map numbers_in (take i channel) ++ (numbers_in told ∷ [])
      = ap (λ k. map numbers_in (take k (set channel i told))) s ∙ ap (map numbers_in) (take-suc-set channel i told l) ∙ map-append numbers_in (take i channel) (told ∷ []) in
      λ j. record {
        runs = (g ∙ ap (λ (a : Engine.Advanced). put_back (of_run * i) a.run runs) e) j;
        traces = (h ∙ ap (λ (a : Engine.Advanced). put_back (of_trace * i) a.trace traces) e) j;
        left = b.allowance / b.count + left - (e j).steps;
        answers = (answers ∙ ap (λ (a : Engine.Advanced). map numbers_in (take i channel) ++ (numbers_of a ∷ [])) e) j;
      }

-- ---- what a turn keeps

-- It spends at most what it has, and its parts are as long as they were.
pub told-keeps : (m : Model) (t has : ℕ) (c : Channel) (run trace : Bytes) (told : Advanced) → advanced_of run trace [] told ≡ turn m t has c
    → (told.steps ≤ has) × (length run ≡ length c.run) × (length trace ≡ length c.trace)
told-keeps m t has c run trace told e =
    let l = turn-lengths m t has c in (
      omega (arith, ap (λ (a : Engine.Advanced). a.steps) e, turn-within m t has c),
      ap (λ (a : Engine.Advanced). length a.run) e ∙ l.0,
      ap (λ (a : Engine.Advanced). length a.trace) e ∙ l.1,
    )

-- ---- what holds with i channels done

pub record Going (m : Model) (runs₀ : Bytes) (b : ChannelsCall) (words : ℕ) (runs traces : Bytes) (work : ℕ) (channel : List Advanced) (left i : ℕ) : Type 0 where
  pub runs_long : length runs ≡ length runs₀
  pub traces_long : length traces ≡ length b.traces
  pub same_words : work ≡ words
  pub eight : length channel ≡ max_channels
  pub left_most : left ≤ b.allowance / b.count * i
  pub others : drop i channel ≡ replicate (max_channels - i) untold
  pub from_here : one_by_one (turn m b.moment) b (length runs₀ / b.count) (length b.traces / b.count) (b.count - i) i (box_at runs traces left channel i) ≡ all_in_turn m runs₀ b

pub others-more : (channel : List Advanced) (i : ℕ) (told : Advanced) → i < max_channels → drop i channel ≡ replicate (max_channels - i) untold
    → drop (i + 1) (set channel i told) ≡ replicate (max_channels - (i + 1)) untold
others-more channel i told l e =
    drop-set-lt (i + 1) channel i told (omega arith) ∙ sym (drop-drop 1 i channel) ∙ ap (drop 1) e ∙ drop-one max_channels i untold l

-- all are done
pub boxes-told : (runs₀ traces₀ runs traces : Bytes) (left : ℕ) (channel : List Advanced) (i : ℕ) → i ≤ length channel → drop i channel ≡ replicate (max_channels - i) untold
    → channelled_of runs traces (record { number = 0; channel = channel }) ≡ boxed runs₀ traces₀ (ok (box_at runs traces left channel i))
unfolding boxed number_alone
boxes-told runs₀ traces₀ runs traces left channel i l e =
    let long : length (map numbers_in (take i channel)) ≡ i = length-map (take i channel) numbers_in ∙ length-take-le i channel l in
    let rest : map numbers_in (drop i channel) ≡ replicate (max_channels - length (map numbers_in (take i channel))) (number_alone 0)
    = ap (map numbers_in) e ∙ map-replicate numbers_in (max_channels - i) untold ∙ ap (λ k. replicate (max_channels - k) (number_alone 0)) (sym long) in
    let whole : map numbers_in channel ≡ map numbers_in (take i channel) ++ replicate (max_channels - length (map numbers_in (take i channel))) (number_alone 0)
    = ap (map numbers_in) (sym (take-append-drop i channel)) ∙ map-append numbers_in (take i channel) (drop i channel) ∙ ap (λ z. map numbers_in (take i channel) ++ z) rest in
    λ j. record { number = 0; answers = whole j; runs = runs; traces = traces }

-- the place of channel i
abbrev pub nowhere : Place
nowhere = record { start = 0; size = 0 }

pub place_at : (places : Places) (i : ℕ) → place_of (get_or places.channel i nowhere) ≡ get_or (places_of places) i no_place
unfolding no_place
place_at places i = sym (get_or-map place_of places.channel i nowhere)
