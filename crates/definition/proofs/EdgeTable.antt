-- Rows that tell near misses of the definitions apart, computed like the worked table on the engine's definitions and on the flat
-- machine with the flat form. Assumes nothing.
use mathlib.Core.Path.{◌≡◌, refl}
use mathlib.Core.List.{List, [], ◌∷◌, ◌++◌, map}
use mathlib.Core.Bool.{false}
use Rattle.definition.specs.Limits.{never_field}
use Rattle.definition.specs.File.{model_bytes}
use Rattle.definition.specs.Devs.{finite, never, same_time}
use Rattle.definition.specs.Flatten.{flat}
use Rattle.definition.specs.Calls.{start_call, reading_call, start_answer, reading_answer, engine, flat_machine}
use Rattle.definition.proofs.EdgeModels.{on_value_at, colliding, waiting, restless_heard, counting}
use Rattle.definition.proofs.Table.{Row, zeros, saved, advance_to, advanced_by, actual, expected, tabled}

-- A start, and one advance with a bag.
unfoldable pub edges : List Row
edges =
    -- both orders of a confluent transition, each with its own elapsed time
    record {
      model = colliding 0;
      calls = start_call ∷ advance_to 10 [] [] ∷ [];
      answers = start_answer 0 28 ∷ advanced_by 0 1 1 0 [] ∷ [];
      run = saved 11 ((0, 10) ∷ (3, 10) ∷ []);
    }
    ∷ record {
      model = colliding 1;
      calls = start_call ∷ advance_to 10 [] [] ∷ [];
      answers = start_answer 0 28 ∷ advanced_by 0 1 1 0 [] ∷ [];
      run = saved 11 ((0, 10) ∷ (0, 10) ∷ []);
    }
    -- an elapsed time past 32 bits: within a range without an end, and past the highest end there is
    ∷ record {
      model = waiting never_field;
      calls = start_call ∷ advance_to 5000000000 (0 ∷ 7 ∷ 0 ∷ []) [] ∷ reading_call 0 ∷ [];
      answers = start_answer 0 19 ∷ advanced_by 0 1 1 0 [] ∷ reading_answer 0 1 5000000000 5000000005 ∷ [];
      run = saved 5000000001 ((1, 5000000000) ∷ []) ++ zeros 9;
    }
    ∷ record {
      model = waiting 4294967294;
      calls = start_call ∷ advance_to 5000000000 (0 ∷ 7 ∷ 0 ∷ []) [] ∷ reading_call 0 ∷ [];
      answers = start_answer 0 19 ∷ advanced_by 0 1 1 0 [] ∷ reading_answer 0 0 0 18446744073709551615 ∷ [];
      run = saved 5000000001 ((0, 0) ∷ []) ++ zeros 9;
    }
    -- an instant that jams gets 13, also where its records overrun the trace
    ∷ record {
      model = restless_heard;
      calls = start_call ∷ advance_to 0 [] (zeros 14) ∷ [];
      answers = start_answer 0 19 ∷ advanced_by 13 0 0 0 (zeros 14) ∷ [];
      run = saved 0 ((0, 0) ∷ []) ++ zeros 9;
    }
    ∷ []

-- 1,024 steps are done, and 1,025 are not.
unfoldable pub long_instants : List Row
long_instants =
    record {
      model = counting 0;
      calls = start_call ∷ advance_to 0 [] [] ∷ [];
      answers = start_answer 0 28 ∷ advanced_by 0 1 1024 0 [] ∷ [];
      run = saved 1 ((63, 0) ∷ (32, 0) ∷ []);
    }
    ∷ record {
      model = counting 63;
      calls = start_call ∷ advance_to 0 (0 ∷ 5 ∷ 0 ∷ []) [] ∷ [];
      answers = start_answer 0 28 ∷ advanced_by 13 0 0 0 [] ∷ [];
      run = saved 0 ((63, 0) ∷ (0, 0) ∷ []);
    }
    ∷ []

unfoldable pub edged : Type 0
unfolding tabled on_value_at colliding waiting restless_heard counting edges long_instants
edged = Unit {0}

pub engine-edges : map (actual (λ m. engine (model_bytes m))) edges ≡ map expected edges
unfolding edged
engine-edges = refl

pub flat-edges : map (actual (λ m. flat_machine (model_bytes (flat m)))) edges ≡ map expected edges
unfolding edged
flat-edges = refl

pub engine-long : map (actual (λ m. engine (model_bytes m))) long_instants ≡ map expected long_instants
unfolding edged
engine-long = refl

pub flat-long : map (actual (λ m. flat_machine (model_bytes (flat m)))) long_instants ≡ map expected long_instants
unfolding edged
flat-long = refl

-- "a never-due child is not imminent", also beside one that is never due
pub never-imminent : (same_time never never ≡ false) × (same_time never (finite 0) ≡ false) × (same_time (finite 0) never ≡ false)
unfolding same_time
never-imminent = (refl, refl, refl)
