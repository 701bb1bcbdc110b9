-- The worked examples [A] to [H] of document 01 as rows of one computed table, on the engine's definitions and on the flat machine
-- with the flat form. Assumes nothing.
use mathlib.Core.Path.{◌≡◌, refl}
use Prim.Native.Nat.{ℕ}
use mathlib.Core.List.{List, [], ◌∷◌, ◌++◌, map}
use lib.ListN.{length, replicate}
use Rattle.definition.specs.Lists.{concat}
use Rattle.definition.specs.Bytes.{Bytes, bytes_of}
use Rattle.definition.specs.Model.{Coupling, Model}
use Rattle.definition.specs.File.{model_bytes}
use Rattle.definition.specs.Flatten.{flat}
use Rattle.definition.specs.Calls.{Call, start_call, advance_call, Answer, start_answer, advance_answer, Machine, run_calls, engine, flat_machine}
use Rattle.definition.proofs.Computing.{computing}
use Rattle.definition.proofs.Models.{message, coupled_in, atomic_in, silent, saying, saying2, on_value, link, cue_source, restless, nest}

-- ---- the table's terms

-- A row: the model, the calls, what they answer, and the run buffer at the end.
pub record Row : Type 0 where
  pub model : Model
  pub calls : List Call
  pub answers : List Answer
  pub run : Bytes

unfoldable pub zeros : ℕ → Bytes
zeros n = replicate n 0

-- A saved run, byte by byte: the open moment, then phase and last moment of each atomic.
unfoldable pub saved : ℕ → List (ℕ × ℕ) → Bytes
saved opening xs = bytes_of 8 opening ++ bytes_of 2 (length xs) ++ concat (map (λ x. bytes_of 1 x.0 ++ bytes_of 8 x.1) xs)

-- A record, byte by byte: moment, step, count, and its messages' ports and values.
unfoldable pub traced : ℕ → ℕ → List (ℕ × ℕ) → Bytes
traced moment step xs = bytes_of 8 moment ++ bytes_of 2 step ++ bytes_of 2 (length xs) ++ concat (map (λ x. bytes_of 1 x.0 ++ bytes_of 2 x.1) xs)

-- An advance that is lent no table of deciding rules, and what it answers.
unfoldable pub advance_to : ℕ → Bytes → Bytes → Call
advance_to t bag trace = advance_call (record { moment = t; bag = bag; trace = trace; table = [] })

unfoldable pub advanced_by : (number instants steps used : ℕ) → Bytes → Answer
advanced_by number instants steps used trace = advance_answer number instants steps used trace []

unfoldable pub single : List Coupling
single = link 1 0 2 0 ∷ []

-- the record (1, 8) that component 2 puts out at a moment
unfoldable pub cue : ℕ → Bytes
cue moment = traced moment 0 ((1, 8) ∷ [])

-- ---- the rows

unfoldable pub rows : List Row
rows =
    -- [A] the run of document 01 to the end 30
    record {
      model = cue_source 0 single;
      calls = start_call ∷ advance_to 30 [] (zeros 40) ∷ [];
      answers = start_answer 0 28 ∷ advanced_by 0 3 6 30 (cue 20 ++ cue 30 ++ zeros 10) ∷ [];
      run = saved 31 ((0, 30) ∷ (2, 30) ∷ []);
    }
    -- [B] component 2 with order 1: only the line for 20, steps still 6
    ∷ record {
      model = cue_source 1 single;
      calls = start_call ∷ advance_to 30 [] (zeros 40) ∷ [];
      answers = start_answer 0 28 ∷ advanced_by 0 3 6 15 (cue 20 ++ zeros 25) ∷ [];
      run = saved 31 ((0, 30) ∷ (2, 30) ∷ []);
    }
    -- [C] trace of 14 bytes: 15, instants 1, steps 2, length 0, open 11
    ∷ record {
      model = cue_source 0 single;
      calls = start_call ∷ advance_to 30 [] (zeros 14) ∷ [];
      answers = start_answer 0 28 ∷ advanced_by 15 1 2 0 (zeros 14) ∷ [];
      run = saved 11 ((0, 10) ∷ (2, 10) ∷ []);
    }
    -- [D] of 15 bytes: 15, steps 4, open 21
    ∷ record {
      model = cue_source 0 single;
      calls = start_call ∷ advance_to 30 [] (zeros 15) ∷ [];
      answers = start_answer 0 28 ∷ advanced_by 15 2 4 15 (cue 20) ∷ [];
      run = saved 21 ((0, 20) ∷ (2, 20) ∷ []);
    }
    -- [E] bag (0, 5) at 0: one step, open 1, states unchanged
    ∷ record {
      model = cue_source 0 single;
      calls = start_call ∷ advance_to 0 (0 ∷ 5 ∷ 0 ∷ []) [] ∷ [];
      answers = start_answer 0 28 ∷ advanced_by 0 1 1 0 [] ∷ [];
      run = saved 1 ((0, 0) ∷ (0, 0) ∷ []);
    }
    -- [F] the first coupling doubled: same records
    ∷ record {
      model = cue_source 0 (single ++ single);
      calls = start_call ∷ advance_to 30 [] (zeros 40) ∷ [];
      answers = start_answer 0 28 ∷ advanced_by 0 3 6 30 (cue 20 ++ cue 30 ++ zeros 10) ∷ [];
      run = saved 31 ((0, 30) ∷ (2, 30) ∷ []);
    }
    -- [G] one atomic of one phase, advance 0, next itself: 13, steps 0, open 0
    ∷ record {
      model = restless;
      calls = start_call ∷ advance_to 30 [] (zeros 40) ∷ [];
      answers = start_answer 0 19 ∷ advanced_by 13 0 0 0 (zeros 40) ∷ [];
      run = saved 0 ((0, 0) ∷ []) ++ zeros 9;
    }
    -- [H] t below the open moment: 11
    ∷ record {
      model = cue_source 0 single;
      calls = start_call ∷ advance_to 30 [] (zeros 40) ∷ advance_to 30 [] (zeros 3) ∷ [];
      answers = start_answer 0 28 ∷ advanced_by 0 3 6 30 (cue 20 ++ cue 30 ++ zeros 10) ∷ advanced_by 11 0 0 0 (zeros 3) ∷ [];
      run = saved 31 ((0, 30) ∷ (2, 30) ∷ []);
    }
    ∷ []

unfoldable pub actual : (Model → Machine) → Row → List Answer × Bytes
actual machine r = run_calls (machine r.model) (zeros 28) r.calls

unfoldable pub expected : Row → List Answer × Bytes
expected r = (r.answers, r.run)

-- One name that opens the table.
unfoldable pub tabled : Type 0
unfolding
    computing message coupled_in atomic_in silent saying saying2 on_value link cue_source restless nest
    zeros saved traced advance_to advanced_by single cue rows actual expected
tabled = Unit {0}

pub engine-table : map (actual (λ m. engine (model_bytes m))) rows ≡ map expected rows
unfolding tabled
engine-table = refl

pub flat-table : map (actual (λ m. flat_machine (model_bytes (flat m)))) rows ≡ map expected rows
unfolding tabled
flat-table = refl
