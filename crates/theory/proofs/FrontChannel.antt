-- A channel call on the run buffer of a list: the run at its front is channel 0, so that the resultant which stands for it tells what channel 0 is told
-- and stands for the run that is left there; where no part has room for a run, nothing changes. Assumes nothing.
use mathlib.Core.Path.{◌≡◌, refl, sym, ap, ap₂, ◌∙◌, subst}
use Prim.Native.Nat.{ℕ, zero, suc, ◌+◌, ◌-◌, ◌*◌, ◌/◌, ◌≤◌, ◌<◌}
use mathlib.Core.List.{List, ◌∷◌, ◌++◌, map}
use mathlib.Core.Bool.{Bool, true, false}
use native.Mathlib.Omega.{arith}
use lib.Dec.{ltb}
use lib.ListN.{length, take, drop, get_or, replicate, length-map, take-append-drop}
use lib.Seq.{take-take}
use borrow.Author.Tests.{ltb-true, ltb-false, lt-leb}
use Rattle.definition.specs.Lists.{concat, sum, up_from}
use Rattle.definition.specs.Bytes.{Bytes, AllBytes, ok, stored}
use Rattle.definition.specs.Limits.{max_channels}
use Rattle.definition.specs.Model.{Model}
use Rattle.definition.specs.Pinned.Decoder.{accepted}
use Rattle.definition.specs.SavedRun.{Run, run_length, atomic_count, run_of, run_bytes, run_fits}
use Rattle.definition.specs.Engine.{Advanced, Numbers, numbers_of, number_alone}
use Rattle.definition.specs.Channels.{part, no_place, bag_at, channel_at, channels_of, turn, turns, eight_answers, channelled, miscounted, ChannelsCall, Channelled, advance_channels}
use Rattle.definition.specs.ChannelShares.{WellCounted, share_of, has_at}
use Rattle.definition.specs.ChannelRows.{turn_refuses_run, refused_turn}
use Rattle.definition.specs.Calls.{channels_call, channels_answer, called, engine}
use Rattle.definition.specs.Carrying.{StandsFor, BetweenCalls, AnswersTurn, Answers, refuses_count, refuses_parts, answers_channels, Saved}
use Rattle.law_base.proofs.Lists.{length_up}
use Rattle.law_model.proofs.WellFormed.{WellFormed}
use Rattle.law_model.proofs.Reading.{accepted_sound}
use Rattle.law_calls.proofs.Fitting.{FitRun, fits_run}
use Rattle.law_channels.proofs.TurnRows.{turn_refused}
use Rattle.law_channels.proofs.Parts.{parts_stay}
use Rattle.law_channels.proofs.Shares.{channel-lengths}
use Rattle.law_channels.proofs.Called.{counted-from, miscounted-from, call-21, call_ok, rests}
use Rattle.theory.proofs.WrittenRuns.{size, saved, Follows}
use Rattle.theory.proofs.ThroughChannels.{channel-follows}

-- ---- a saved run is the front of its buffer

module _ (m : Model) (w : WellFormed m) (q : BetweenCalls m) (run : Bytes) (h : Saved m q run) (s : Bytes) (same : take (run_length (atomic_count m)) s ≡ take (run_length (atomic_count m)) run) where
  abbrev r : Run
  r = run_of m run

  fit : FitRun m r
  fit = (fits_run m run h.run_fits_lem).0

  long : length (run_bytes r) ≡ run_length (atomic_count m)
  long = size m w r fit s

  there : stored (run_bytes r) s ≡ s
  unfolding stored
  there =
      ap (λ n. run_bytes r ++ drop n s) long ∙ ap (λ z. z ++ drop (run_length (atomic_count m)) s) (sym (same ∙ h.bytes))
      ∙ take-append-drop (run_length (atomic_count m)) s

  pub saved-front : Saved m q s
  saved-front =
      subst (λ o. Saved m (record { opening = o; since = q.since }) s) h.opening
      (subst (Saved m (record { opening = r.opening; since = q.since })) there
      (saved m w r fit s q.since (subst (λ o. StandsFor m o q.since r.entries) (sym h.opening) h.entries)))

-- the front of a first part that has room for it
front-part : (n k : ℕ) (s : Bytes) → k ≤ length s / n → take k (part n 0 s) ≡ take k s
unfolding part
front-part n k s l =
    ap (λ j. take k (take (length s / n) (drop j s))) (let z : length s / n * 0 ≡ 0 = omega arith in z) ∙ take-take k (length s / n) s l

-- ---- where no part has room for a run

module _ (m : Model) (runs : Bytes) (b : ChannelsCall) (short : length runs / b.count < run_length (atomic_count m)) where
  no-fit : (i : ℕ) → i < b.count → run_fits m (channel_at runs b i).run ≡ false
  unfolding run_fits
  no-fit i l = rw (lt-leb (run_length (atomic_count m)) (length (channel_at runs b i).run) (omega (arith, (channel-lengths runs b i l).0)))

  abbrev stays : ℕ → Advanced
  stays i = refused_turn 10 (channel_at runs b i)

  all_stay : (left k n : ℕ) → k + n ≤ b.count → turns m b.moment (share_of b) left (map (channel_at runs b) (up_from k n)) ≡ map stays (up_from k n)
  unfolding turns up_from
  all_stay left k zero l = refl
  all_stay left k (suc n) l = ap₂ ◌∷◌ (turn_refused m b.moment (share_of b + left) (channel_at runs b k) 10 (turn_refuses_run (no-fit k (omega arith))))
      (all_stay (share_of b + left - (turn m b.moment (share_of b + left) (channel_at runs b k)).steps) (suc k) n (omega arith))

  told : (k n : ℕ) → map numbers_of (map stays (up_from k n)) ≡ replicate n (number_alone 10)
  unfolding up_from numbers_of number_alone
  told k zero = refl
  told k (suc n) = ap (λ z. number_alone 10 ∷ z) (told (suc k) n)

  held : (f : Advanced → Bytes) (s : Bytes) → ((i : ℕ) → f (stays i) ≡ part b.count i s) → (k n : ℕ) → map f (map stays (up_from k n)) ≡ map (λ i. part b.count i s) (up_from k n)
  unfolding up_from
  held f s e k zero = refl
  held f s e k (suc n) = ap₂ ◌∷◌ (e k) (held f s e (suc k) n)

  abbrev unchanged : Channelled
  unchanged = record {
    number = 0;
    answers = replicate b.count (number_alone 10) ++ replicate (max_channels - b.count) (number_alone 0);
    runs = runs;
    traces = b.traces;
  }

  pub parts-refused : (file : Bytes) → accepted file ≡ ok m → WellCounted b → advance_channels file runs b ≡ unchanged
  unfolding channels_of
  parts-refused file e h = call_ok file runs b m h e ∙ ap (λ z. channelled runs b.traces (ok z)) (all_stay 0 0 b.count (omega arith)) ∙ as_before
    where
      xs : List Advanced
      xs = map stays (up_from 0 b.count)

      as_many : length xs ≡ b.count
      as_many = length-map (up_from 0 b.count) stays ∙ length_up 0 b.count

      stay : (f : Advanced → Bytes) (s : Bytes) → ((i : ℕ) → f (stays i) ≡ part b.count i s) → stored (concat (map f xs)) s ≡ s
      stay f s k = ap (λ z. stored (concat z) s) (held f s k 0 b.count) ∙ parts_stay b.count s

      as_before : channelled runs b.traces (ok xs) ≡ unchanged
      as_before = unfold channelled eight_answers channel_at in (λ j. record {
        number = 0;
        answers = told 0 b.count j ++ replicate (max_channels - as_many j) (number_alone 0);
        runs = stay (λ a. a.run) runs (λ i. refl) j;
        traces = stay (λ a. a.trace) b.traces (λ i. refl) j;
      })

-- ---- the call

module _ (file : Bytes) (m : Model) (bytes : AllBytes file) (e : accepted file ≡ ok m) (q : BetweenCalls m) (run : Bytes) (s : Saved m q run) (b : ChannelsCall) where
  abbrev wf : WellFormed m
  wf = (accepted_sound file m bytes e).sound

  abbrev call : Channelled
  call = advance_channels file run b

  abbrev needed : ℕ
  needed = run_length (atomic_count m)

  abbrev Goal : Channelled → Type 0
  Goal r = Follows m q run (channels_call b) (channels_answer r.number r.answers r.traces) r.runs

  has_first : (told : List Numbers) → has_at b told 0 ≡ share_of b
  unfolding sum
  has_first told = omega arith

  in-front : WellCounted b → needed ≤ length run / b.count → Goal call
  in-front h l =
      let k = channel-follows file m bytes e b h 0 h.some q run (saved-front m wf q run s (part b.count 0 run) (front-part b.count needed run l)) in
      let rest = (rests file run b m e h).0 in
      let long : length call.runs / b.count ≡ length run / b.count = ap (λ n. n / b.count) rest.0 in (
        k.0,
        subst (λ n. Answers m (length run) q (channels_call b) (channels_answer n call.answers call.traces) k.0) (sym (number h))
            (answers_channels b call.answers call.traces k.0 h l
            (subst (λ has. AnswersTurn m q b.moment has (bag_at b.bags (get_or b.places 0 no_place)) (part b.count 0 b.traces) (get_or call.answers 0 (number_alone 0)) (part b.count 0 call.traces) k.0)
            (has_first call.answers) k.1)),
        rest.1,
        saved-front m wf k.0 (part b.count 0 call.runs) k.2 call.runs (sym (front-part b.count needed call.runs (omega (arith, long)))),
      )
    where
      number : WellCounted b → call.number ≡ 0
      number h = unfold channelled in (ap (λ (r : Channelled). r.number) (call_ok file run b m h e))

  pub channels-follow : Follows m q run (channels_call b) (called (engine file) run (channels_call b)).0 (called (engine file) run (channels_call b)).1
  unfolding called engine
  channels-follow = counts (miscounted b.count b.allowance) refl
    where
      parts : WellCounted b → (d : Bool) → ltb (length run / b.count) needed ≡ d → Goal call
      parts h true l =
          let short = ltb-true (length run / b.count) needed l in
          subst Goal (sym (parts-refused m run b short file e h)) (q, refuses_parts b h short, refl, s)
      parts h false l = in-front h (ltb-false (length run / b.count) needed l)

      counts : (d : Bool) → miscounted b.count b.allowance ≡ d → Goal call
      counts true c = subst Goal (sym (call-21 file run b c)) (q, refuses_count b (miscounted-from b c), refl, s)
      counts false c = parts (counted-from b c) (ltb (length run / b.count) needed) refl
