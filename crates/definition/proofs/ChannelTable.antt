-- Several channels byte by byte, on the engine's definition and on the flat machine: shares and what is left over, an instant that just fits and one
-- that is a step too long, calling again after 22, bags by their places, the numbers of a channel alone and in order, equal parts with bytes left
-- over, and the numbers of the whole call. Assumes nothing.
use mathlib.Core.Path.{◌≡◌, refl}
use Prim.Native.Nat.{ℕ, suc, ◌-◌, ◌/◌}
use mathlib.Core.List.{List, [], ◌∷◌, ◌++◌, map}
use lib.ListN.{length, replicate}
use Rattle.definition.specs.Lists.{concat, up_from}
use Rattle.definition.specs.Bytes.{Bytes, ok}
use Rattle.definition.specs.Limits.{never_field}
use Rattle.definition.specs.Model.{Model, inclusive, no_component}
use Rattle.definition.specs.File.{model_bytes}
use Rattle.definition.specs.Engine.{Numbers}
use Rattle.definition.specs.Flatten.{flat}
use Rattle.definition.specs.Channels.{Place, turns, ChannelsCall, Channelled, channels_of, channelled, advance_channels}
use Rattle.definition.specs.FlatChannels.{flat_turn, one_by_one, boxed, flat_channels}
use Rattle.definition.specs.Calls.{Call, start_call, advance_call, channels_call, reading_call, Answer, start_answer, advance_answer, channels_answer, reading_answer, run_calls, engine, flat_machine}
use Rattle.definition.proofs.Models.{message, coupled_in, atomic_in, silent, saying, on_value, link}
use Rattle.definition.proofs.Table.{tabled}
use Rattle.definition.proofs.Literals.{b2, b3, z, literals}
use Rattle.definition.proofs.RunTable.{tick, latest, run}

-- ---- the models

-- In the coupled 1 the atomic 2. Phase 0 rests until a (0, 9) comes. Phase 1 says (0, 7) after two ticks and leads through two phases with advance 0
-- back to itself: an instant of three steps at every second tick. Phase 4 never rests.
unfoldable pub pacing : Model
pacing = record {
  components = no_component ∷ coupled_in 0 ∷ atomic_in 1 5 0 ∷ [];
  phases = silent never_field 0 ∷ saying 2 2 (message 0 7) ∷ silent 0 3 ∷ silent 0 1 ∷ silent 0 4 ∷ [];
  rules = on_value 2 0 9 1 1 ∷ [];
  couplings = link 0 0 1 0 ∷ link 1 0 0 0 ∷ link 1 0 2 0 ∷ link 2 0 1 0 ∷ [];
  ranges = inclusive;
}

-- Its runs: asleep with that open moment; in phase 1 from the start; and in phase 1 since the instant at a moment, with which the call stopped.
unfoldable pub asleep : ℕ → Bytes
asleep opening = run (tick opening) 0 (tick 0)

unfoldable pub awake : Bytes
awake = run (tick 0) 1 (tick 0)

unfoldable pub after : ℕ → Bytes
after last = run (tick (suc last)) 1 (tick last)

-- No run: 255 in every byte.
unfoldable pub nothing : Bytes
nothing = replicate 19 255

-- The records of its instants at these moments; lent bytes that are not written.
unfoldable pub said : List ℕ → Bytes
said ts = concat (map (λ t. tick t ++ b2 0 0 ++ b2 1 0 ++ b3 0 7 0) ts)

unfoldable pub lent : ℕ → Bytes
lent n = replicate n 7

-- One atomic of 64 phases: after a tick it goes through 63 phases with advance 0: an instant of 64 steps at every tick.
unfoldable pub pulsing : Model
pulsing = record {
  components = no_component ∷ atomic_in 0 64 0 ∷ [];
  phases = silent 1 1 ∷ map (λ i. silent 0 (suc i)) (up_from 1 62) ++ (silent 0 0 ∷ []);
  rules = [];
  couplings = [];
  ranges = inclusive;
}

-- ---- the table's terms

-- The runs, the call, what it answers for each channel that is there, and the buffers afterwards.
pub record ChannelRow : Type 0 where
  pub runs : Bytes
  pub call : ChannelsCall
  pub told : List Numbers
  pub runs_after : Bytes
  pub traces_after : Bytes

unfoldable pub tells : (number instants steps used : ℕ) → Numbers
tells number instants steps used = record { number = number; instants = instants; steps = steps; used = used }

unfoldable pub no : ℕ → Numbers
no number = tells number 0 0 0

unfoldable pub at : (start size : ℕ) → Place
at start size = record { start = start; size = size }

unfoldable pub call : (count moment allowance : ℕ) → Bytes → List Place → Bytes → ChannelsCall
call count moment allowance bags places traces =
    record { count = count; moment = moment; allowance = allowance; bags = bags; places = places; traces = traces }

-- A call without a bag.
unfoldable pub quietly : (count moment allowance : ℕ) → Bytes → ChannelsCall
quietly count moment allowance traces = call count moment allowance [] [] traces

unfoldable pub row : Bytes → ChannelsCall → List Numbers → Bytes → Bytes → ChannelRow
row runs b told runs_after traces_after = record { runs = runs; call = b; told = told; runs_after = runs_after; traces_after = traces_after }

-- The buffers stay.
unfoldable pub stays : Bytes → ChannelsCall → List Numbers → ChannelRow
stays runs b told = row runs b told runs b.traces

-- Zeros for channels that are not there.
unfoldable pub answers : ℕ → ChannelRow → Channelled
answers number r =
    record { number = number; answers = r.told ++ replicate (8 - length r.told) (no 0); runs = r.runs_after; traces = r.traces_after }

-- What the call does once 21 and the model are passed, so that an allowance may be small: the engine on the model, the flat machine on its flat form.
unfoldable pub by_engine : ChannelRow → Channelled
by_engine r =
    let b = r.call in
    channelled r.runs b.traces (ok (turns pacing b.moment (b.allowance / b.count) 0 (channels_of r.runs b)))

unfoldable pub by_flat_machine : ChannelRow → Channelled
by_flat_machine r =
    let b = r.call in
    boxed r.runs b.traces (ok (one_by_one (flat_turn (flat pacing) b.moment) b (length r.runs / b.count) (length b.traces / b.count) b.count 0
    (record { runs = r.runs; traces = b.traces; left = 0; answers = [] })))

-- ---- shares

unfoldable pub shared : List ChannelRow
shared =
    -- 23 for four is 5 each, and 3 that nobody has. The first has 5, does one instant of 3 and not the next. A channel asleep and one refused leave
    -- all that they have: the last has 20 - 3 = 17, which is five instants and not six.
    row (awake ++ asleep 0 ++ nothing ++ awake) (quietly 4 12 23 (lent 362)) (tells 22 1 3 15 ∷ no 0 ∷ no 10 ∷ tells 22 5 15 75 ∷ [])
    (after 2 ++ asleep 13 ++ nothing ++ after 10) (said (2 ∷ []) ++ lent 255 ++ said (2 ∷ 4 ∷ 6 ∷ 8 ∷ 10 ∷ []) ++ lent 17)
    -- 12 for two: the second has both shares, just enough for four instants; 11 for two is 10, a step too few for the fourth and one that nobody has
    ∷ row (asleep 0 ++ awake) (quietly 2 8 12 (lent 120)) (no 0 ∷ tells 0 4 12 60 ∷ []) (asleep 9 ++ after 8) (lent 60 ++ said (2 ∷ 4 ∷ 6 ∷ 8 ∷ []))
    ∷ row (asleep 0 ++ awake) (quietly 2 8 11 (lent 120)) (no 0 ∷ tells 22 3 9 45 ∷ []) (asleep 9 ++ after 6) (lent 60 ++ said (2 ∷ 4 ∷ 6 ∷ []) ++ lent 15)
    -- two that are busy: neither takes the other's share; the same call again goes on; and then it is too late. In one call the runs and records are the
    -- same
    ∷ row (awake ++ awake) (quietly 2 8 12 (lent 90)) (tells 22 2 6 30 ∷ tells 22 2 6 30 ∷ []) (after 4 ++ after 4)
    (said (2 ∷ 4 ∷ []) ++ lent 15 ++ said (2 ∷ 4 ∷ []) ++ lent 15)
    ∷ row (after 4 ++ after 4) (quietly 2 8 12 (lent 60)) (tells 0 2 6 30 ∷ tells 0 2 6 30 ∷ []) (after 8 ++ after 8) (said (6 ∷ 8 ∷ 6 ∷ 8 ∷ []))
    ∷ stays (after 8 ++ after 8) (quietly 2 8 12 (lent 60)) (no 11 ∷ no 11 ∷ [])
    ∷ row (awake ++ awake) (quietly 2 8 24 (lent 120)) (tells 0 4 12 60 ∷ tells 0 4 12 60 ∷ []) (after 8 ++ after 8)
    (said (2 ∷ 4 ∷ 6 ∷ 8 ∷ 2 ∷ 4 ∷ 6 ∷ 8 ∷ []))
    -- no step left at 3, where nothing is due: done without a bag; a bag of one message needs a step more, and is still to be given; with that step it
    -- is given
    ∷ row (awake ++ awake) (call 2 3 6 (b3 0 5 0) (at 0 0 ∷ at 0 3 ∷ []) (lent 30)) (tells 0 1 3 15 ∷ tells 22 1 3 15 ∷ [])
    (run (tick 4) 1 (tick 2) ++ after 2) (said (2 ∷ 2 ∷ []))
    ∷ row (awake ++ awake) (call 2 3 8 (b3 0 5 0) (at 0 3 ∷ at 0 0 ∷ []) (lent 30)) (tells 0 2 4 15 ∷ tells 0 1 3 15 ∷ [])
    (run (tick 4) 1 (tick 2) ++ run (tick 4) 1 (tick 2)) (said (2 ∷ 2 ∷ []))
    -- the instant at t with its bag, in three steps: just enough, and one too few
    ∷ row awake (call 1 2 3 (b3 0 5 0) (at 0 3 ∷ []) (lent 15)) (tells 0 1 3 15 ∷ []) (after 2) (said (2 ∷ []))
    ∷ stays awake (call 1 2 2 (b3 0 5 0) (at 0 3 ∷ []) (lent 15)) (no 22 ∷ [])
    ∷ []

-- ---- a channel's numbers

unfoldable pub refusing : List ChannelRow
refusing =
    -- Bags by place in six bytes: one that two channels share; past the end by one byte; port 9; none at the end; none one byte past it; and two whose
    -- start and length add up to 2 and to 0 in 64 bits. Parts of 19 bytes of 157, and of none of 7.
    row (concat (replicate 8 (asleep 0)) ++ lent 5)
    (call 8 3 8 (b3 1 2 0 ++ b3 9 0 7) (at 2 3 ∷ at 2 3 ∷ at 4 3 ∷ at 3 3 ∷ at 6 0 ∷ at 7 0 ∷ at 18446744073709551615 3 ∷ at 1 18446744073709551615 ∷ []) (lent 7))
    (tells 0 1 1 0 ∷ tells 0 1 1 0 ∷ no 12 ∷ no 12 ∷ no 0 ∷ no 12 ∷ no 12 ∷ no 12 ∷ [])
    (after 3 ++ after 3 ++ asleep 0 ++ asleep 0 ++ asleep 4 ++ asleep 0 ++ asleep 0 ++ asleep 0 ++ lent 5) (lent 7)
    -- 10 before 11, 11 before 12 (a place past the end); open at t, and one past it; a bag cut short
    ∷ row (nothing ++ asleep 4 ++ asleep 3 ++ asleep 3 ++ asleep 4 ++ asleep 0)
    (call 6 3 99 (b3 0 9 0) (at 4 0 ∷ at 4 0 ∷ at 4 0 ∷ at 3 0 ∷ at 3 0 ∷ at 0 2 ∷ []) []) (no 10 ∷ no 11 ∷ no 12 ∷ no 0 ∷ no 11 ∷ no 12 ∷ [])
    (nothing ++ asleep 4 ++ asleep 3 ++ asleep 4 ++ asleep 4 ++ asleep 0) []
    -- the highest moment, and one more; then no moment is left
    ∷ row (asleep 0 ++ nothing) (quietly 2 1000000000000 4 []) (no 0 ∷ no 10 ∷ []) (run (latest 1) 0 (tick 0) ++ nothing) []
    ∷ stays (asleep 0 ++ nothing) (quietly 2 1000000000001 4 []) (no 11 ∷ no 10 ∷ [])
    ∷ stays (run (latest 1) 0 (tick 0)) (quietly 1 1000000000000 4 []) (no 11 ∷ [])
    -- parts of 18 bytes of 37, and of none; one part, whose bytes beyond the run stay
    ∷ stays (asleep 0 ++ lent 18) (quietly 2 3 4 []) (no 10 ∷ no 10 ∷ []) ∷ stays [] (quietly 3 3 6 (lent 2)) (no 10 ∷ no 10 ∷ no 10 ∷ [])
    ∷ row (asleep 0 ++ lent 18) (quietly 1 3 4 []) (no 0 ∷ []) (asleep 4 ++ lent 18) []
    -- 15 and not 22 where the instant is too long both ways, in traces of 14 bytes of 29; in one of 15 bytes it is 22; with a step more it is done; the
    -- next is 15
    ∷ stays (awake ++ awake) (quietly 2 4 4 (lent 29)) (no 15 ∷ no 15 ∷ []) ∷ stays awake (quietly 1 4 2 (lent 15)) (no 22 ∷ [])
    ∷ row (awake ++ awake) (quietly 2 3 6 (lent 31)) (tells 0 1 3 15 ∷ tells 0 1 3 15 ∷ []) (run (tick 4) 1 (tick 2) ++ run (tick 4) 1 (tick 2)) (said (2 ∷ 2 ∷ []) ++ lent 1)
    ∷ row (awake ++ awake) (quietly 2 4 10 (lent 31)) (tells 15 1 3 15 ∷ tells 15 1 3 15 ∷ []) (after 2 ++ after 2) (said (2 ∷ 2 ∷ []) ++ lent 1)
    -- 13 and not 22: the one that never rests, for itself alone; its three steps are left over
    ∷ row (run (tick 0) 4 (tick 0) ++ awake) (quietly 2 4 6 (lent 60)) (no 13 ∷ tells 0 2 6 30 ∷ []) (run (tick 0) 4 (tick 0) ++ after 4) (lent 30 ++ said (2 ∷ 4 ∷ []))
    ∷ []

-- ---- the whole call

-- 21, and a model's number (of a file of no byte) where it is not 21: all zeros, and every byte stays.
unfoldable pub counts : List (ChannelsCall × ℕ)
counts =
    (quietly 0 3 0 (lent 3), 21) ∷ (quietly 0 3 99999 (lent 3), 21) ∷ (quietly 9 3 99999 (lent 3), 21) ∷ (quietly 18446744073709551615 3 99999 [], 21)
    ∷ (quietly 1 3 1023 (lent 3), 21) ∷ (quietly 1 3 1024 (lent 3), 1) ∷ (quietly 2 3 2047 [], 21) ∷ (quietly 2 3 2048 [], 1)
    ∷ (quietly 8 3 8191 (lent 3), 21) ∷ (quietly 8 3 8192 (lent 3), 1)
    ∷ []

-- Two runs in 39 bytes, two traces in 61; eight runs of which the last gets a bag that is past the end.
unfoldable pub paced : List ChannelRow
paced =
    row (awake ++ asleep 0 ++ lent 1) (quietly 2 4 2049 (lent 61)) (tells 0 2 6 30 ∷ no 0 ∷ []) (after 4 ++ asleep 5 ++ lent 1) (said (2 ∷ 4 ∷ []) ++ lent 31)
    ∷ row (concat (replicate 7 (asleep 0)) ++ asleep 2) (call 8 2 8192 (b2 0 9) (replicate 7 (at 2 0) ++ at 0 3 ∷ []) []) (replicate 7 (no 0) ++ no 12 ∷ [])
    (concat (replicate 7 (asleep 3)) ++ asleep 2) []
    ∷ []

-- Runs of the atomic that pulses: open and since when.
unfoldable pub pulse : (opening last : ℕ) → Bytes
pulse opening last = run (tick opening) 0 (tick last)

unfoldable pub pulsed : List ChannelRow
pulsed =
    -- 3,263 for three is 1,087 each, a step too few for 17 instants of 64 steps, and two that nobody has. The first does 16; the second is too late and
    -- leaves its share; the third does 17. The same call again
    row (pulse 0 0 ++ pulse 18 17 ++ pulse 0 0) (quietly 3 17 3263 []) (tells 22 16 1024 0 ∷ no 11 ∷ tells 0 17 1088 0 ∷ []) (pulse 17 16 ++ pulse 18 17 ++ pulse 18 17) []
    ∷ row (pulse 17 16 ++ pulse 18 17 ++ pulse 18 17) (quietly 3 17 3263 []) (tells 0 1 64 0 ∷ no 11 ∷ no 11 ∷ []) (pulse 18 17 ++ pulse 18 17 ++ pulse 18 17) []
    -- the least allowance, spent whole
    ∷ row (pulse 0 0) (quietly 1 16 1024 []) (tells 0 16 1024 0 ∷ []) (pulse 17 16) []
    ∷ []

-- ---- a list of calls

-- The start is channel 0's; the second part holds no run. A bag wakes the first, an advance goes on with it, and it is read.
unfoldable pub listed : List Call
listed =
    start_call ∷ channels_call (call 2 1 2048 (b3 0 9 0) (at 0 3 ∷ at 0 3 ∷ []) (lent 3)) ∷ advance_call (record { moment = 3; bag = []; trace = lent 16; table = [] })
    ∷ channels_call (quietly 2 1 2047 (lent 1)) ∷ channels_call (quietly 1 5 1024 (lent 15)) ∷ reading_call 0 ∷ []

unfoldable pub listed_answers : List Answer
listed_answers =
    start_answer 0 19 ∷ channels_answer 0 (tells 0 1 1 0 ∷ no 10 ∷ replicate 6 (no 0)) (lent 3) ∷ advance_answer 0 1 3 15 (said (3 ∷ []) ++ lent 1) []
    ∷ channels_answer 21 (replicate 8 (no 0)) (lent 1) ∷ channels_answer 0 (tells 0 1 3 15 ∷ replicate 7 (no 0)) (said (5 ∷ [])) ∷ reading_answer 0 1 5 7 ∷ []

-- ---- the rows

unfoldable pub channelling : Type 0
unfolding
    tabled literals tick latest run pacing asleep awake after nothing said lent pulsing tells no at call quietly row stays answers by_engine by_flat_machine
    shared refusing counts paced pulse pulsed listed listed_answers
channelling = Unit {0}

pub shared-by-engine : map by_engine shared ≡ map (answers 0) shared
unfolding channelling
shared-by-engine = refl

pub shared-by-flat-machine : map by_flat_machine shared ≡ map (answers 0) shared
unfolding channelling
shared-by-flat-machine = refl

pub refusing-by-engine : map by_engine refusing ≡ map (answers 0) refusing
unfolding channelling
refusing-by-engine = refl

pub refusing-by-flat-machine : map by_flat_machine refusing ≡ map (answers 0) refusing
unfolding channelling
refusing-by-flat-machine = refl

pub counted-by-engine : map (λ c. advance_channels [] (lent 40) c.0) counts ≡ map (λ c. answers c.1 (stays (lent 40) c.0 [])) counts
unfolding channelling
counted-by-engine = refl

pub counted-by-flat-machine : map (λ c. flat_channels [] (lent 40) c.0) counts ≡ map (λ c. answers c.1 (stays (lent 40) c.0 [])) counts
unfolding channelling
counted-by-flat-machine = refl

pub paced-by-engine : map (λ r. advance_channels (model_bytes pacing) r.runs r.call) paced ≡ map (answers 0) paced
unfolding channelling
paced-by-engine = refl

pub paced-by-flat-machine : map (λ r. flat_channels (model_bytes (flat pacing)) r.runs r.call) paced ≡ map (answers 0) paced
unfolding channelling
paced-by-flat-machine = refl

pub pulsed-by-engine : map (λ r. advance_channels (model_bytes pulsing) r.runs r.call) pulsed ≡ map (answers 0) pulsed
unfolding channelling
pulsed-by-engine = refl

pub pulsed-by-flat-machine : map (λ r. flat_channels (model_bytes pulsing) r.runs r.call) pulsed ≡ map (answers 0) pulsed
unfolding channelling
pulsed-by-flat-machine = refl

pub listed-by-engine : run_calls (engine (model_bytes pacing)) (z 40) listed ≡ (listed_answers, after 5 ++ z 21)
unfolding channelling
listed-by-engine = refl

pub listed-by-flat-machine : run_calls (flat_machine (model_bytes (flat pacing))) (z 40) listed ≡ (listed_answers, after 5 ++ z 21)
unfolding channelling
listed-by-flat-machine = refl
