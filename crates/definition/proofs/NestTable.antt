-- A nest of three levels with repeated couplings, confluent and zero-stay steps and stray messages, computed on the engine's definitions, on the engine
-- with the flat form, and on the flat machine. Assumes nothing.
use mathlib.Core.Path.{◌≡◌, refl}
use mathlib.Core.List.{[], ◌∷◌, ◌++◌}
use Rattle.definition.specs.File.{model_bytes}
use Rattle.definition.specs.Flatten.{flat}
use Rattle.definition.specs.Calls.{start_call, reading_call, start_answer, reading_answer, run_calls, engine, flat_machine}
use Rattle.definition.proofs.Models.{nest}
use Rattle.definition.proofs.Table.{Row, zeros, saved, traced, advance_to, advanced_by, expected, tabled}

unfoldable pub nest_row : Row
nest_row = record {
  model = nest;
  calls =
      start_call ∷ advance_to 6 (0 ∷ 7 ∷ 0 ∷ 1 ∷ 9 ∷ 0 ∷ []) (zeros 55) ∷ reading_call 1
      ∷ advance_to 15 (0 ∷ 8 ∷ 0 ∷ 0 ∷ 8 ∷ 0 ∷ []) (zeros 87) ∷ reading_call 0 ∷ reading_call 3 ∷ [];
  answers =
      start_answer 0 37
      ∷ advanced_by 0 2 4 51 (traced 5 0 ((0, 7) ∷ []) ++ traced 5 1 ((0, 8) ∷ (0, 100) ∷ (1, 10) ∷ []) ++ traced 6 1 ((0, 100) ∷ []) ++ zeros 4)
      ∷ reading_answer 0 2 6 10
      ∷ advanced_by 0 3 6 87 (traced 10 0 ((0, 7) ∷ []) ++ traced 10 1 ((0, 8) ∷ (0, 100) ∷ (1, 9) ∷ []) ++ traced 11 1 ((0, 100) ∷ [])
      ++ traced 15 0 ((0, 7) ∷ []) ++ traced 15 1 ((0, 8) ∷ (0, 100) ∷ (1, 9) ∷ []))
      ∷ reading_answer 0 0 15 16 ∷ reading_answer 16 0 0 0 ∷ [];
  run = saved 16 ((0, 15) ∷ (0, 15) ∷ (0, 11) ∷ []) ++ zeros 3;
}

pub nest-engine : run_calls (engine (model_bytes nest)) (zeros 40) nest_row.calls ≡ expected nest_row
unfolding tabled nest_row
nest-engine = refl

pub nest-flat : run_calls (engine (model_bytes (flat nest))) (zeros 40) nest_row.calls ≡ expected nest_row
unfolding tabled nest_row
nest-flat = refl

pub nest-machine : run_calls (flat_machine (model_bytes (flat nest))) (zeros 40) nest_row.calls ≡ expected nest_row
unfolding tabled nest_row
nest-machine = refl
