-- The lent table of deciding rules, byte by byte, on the engine's definitions with the nest and with its flat form, and on the flat machine.
-- Assumes nothing.
use mathlib.Core.Path.{◌≡◌, refl}
use Prim.Native.Nat.{ℕ}
use mathlib.Core.List.{List, [], ◌∷◌, ◌++◌, map}
use lib.ListN.{replicate}
use Rattle.definition.specs.Bytes.{Bytes}
use Rattle.definition.specs.Limits.{never_field}
use Rattle.definition.specs.Model.{Model, inclusive, no_component}
use Rattle.definition.specs.File.{model_bytes}
use Rattle.definition.specs.Flatten.{flat}
use Rattle.definition.specs.Calls.{Call, start_call, advance_call, Answer, start_answer, advance_answer, Machine, run_calls, engine, flat_machine}
use Rattle.definition.proofs.Models.{message, coupled_in, atomic_in, silent, saying, on_value, link}
use Rattle.definition.proofs.EdgeModels.{on_value_at, colliding}
use Rattle.definition.proofs.Table.{Row, zeros, saved, traced, expected, tabled}
use Rattle.definition.proofs.Literals.{b2, literals}

-- The root holds the coupled 1, with the atomics 3 and 4, and the atomic 2, so that file order is not the order of the tree. At 10 atomic 2 says
-- 7 to both, then in the same instant 8 to 3, which has no rule for it, while 4 has an internal transition; at 20 it says 9 to 3 and to the root.
unfoldable pub telling : Model
telling = record {
  components = no_component ∷ coupled_in 0 ∷ atomic_in 0 4 0 ∷ atomic_in 1 3 0 ∷ atomic_in 1 3 0 ∷ [];
  phases =
      saying 10 1 (message 0 7) ∷ saying 0 2 (message 1 8) ∷ saying 10 3 (message 2 9) ∷ silent never_field 3
      ∷ silent never_field 0 ∷ silent never_field 1 ∷ silent never_field 2
      ∷ silent never_field 0 ∷ silent 0 2 ∷ silent never_field 2 ∷ [];
  rules = on_value 3 0 6 1 1 ∷ on_value 3 0 7 1 1 ∷ on_value 4 0 7 1 1 ∷ on_value 3 1 9 1 2 ∷ [];
  couplings =
      link 1 0 3 0 ∷ link 1 0 4 0 ∷ link 1 1 3 0 ∷ link 2 0 1 0 ∷ link 2 1 1 1 ∷ link 2 2 0 0 ∷ link 2 2 1 1 ∷ [];
  ranges = inclusive;
}

unfoldable pub lent : ℕ → Bytes → Bytes → Bytes → Call
lent t bag trace table = advance_call (record { moment = t; bag = bag; trace = trace; table = table })

-- 65,535
unfoldable pub no : Bytes
no = b2 255 255

unfoldable pub sevens : ℕ → Bytes
sevens n = replicate n 7

unfoldable pub tells : List Row
tells =
    -- the last instant is that at 20: of the one at 10 nothing is left; two bytes past the entries stay; then a moment without a step
    record {
      model = telling;
      calls = start_call ∷ lent 20 [] (zeros 15) (sevens 8) ∷ lent 25 [] [] (sevens 6) ∷ [];
      answers = start_answer 0 37 ∷ advance_answer 0 2 3 15 (traced 20 0 ((0, 9) ∷ [])) (no ++ b2 3 0 ++ no ++ b2 7 7) ∷ advance_answer 0 0 0 0 [] (sevens 6) ∷ [];
      run = saved 26 ((3, 20) ∷ (2, 20) ∷ (2, 10) ∷ []);
    }
    -- 15 at 20: the rules of the instant at 10, where 3 had a rule and then none, and 4 a rule and then an internal transition; 15 again; 11
    ∷ record {
      model = telling;
      calls = start_call ∷ lent 20 [] (zeros 14) (sevens 6) ∷ lent 20 [] (zeros 14) (sevens 6) ∷ lent 9 [] [] (sevens 6) ∷ [];
      answers =
          start_answer 0 37 ∷ advance_answer 15 1 2 0 (zeros 14) (no ++ no ++ b2 2 0) ∷ advance_answer 15 0 0 0 (zeros 14) (sevens 6)
          ∷ advance_answer 11 0 0 0 [] (sevens 6) ∷ [];
      run = saved 11 ((2, 10) ∷ (1, 10) ∷ (2, 10) ∷ []);
    }
    -- a table one byte short; a bag that reaches no atomic
    ∷ record {
      model = telling;
      calls = start_call ∷ lent 5 (0 ∷ 7 ∷ 0 ∷ []) [] (sevens 6) ∷ lent 10 [] [] (sevens 5) ∷ [];
      answers = start_answer 0 37 ∷ advance_answer 0 1 1 0 [] (no ++ no ++ no) ∷ advance_answer 0 1 2 0 [] (sevens 5) ∷ [];
      run = saved 11 ((2, 10) ∷ (1, 10) ∷ (2, 10) ∷ []);
    }
    -- confluent transitions: order 0 by the rule of the next phase, order 1 by that of the phase before
    ∷ record {
      model = colliding 0;
      calls = start_call ∷ lent 10 [] [] (sevens 4) ∷ [];
      answers = start_answer 0 28 ∷ advance_answer 0 1 1 0 [] (no ++ b2 1 0) ∷ [];
      run = saved 11 ((0, 10) ∷ (3, 10) ∷ []) ++ zeros 9;
    }
    ∷ record {
      model = colliding 1;
      calls = start_call ∷ lent 10 [] [] (sevens 4) ∷ [];
      answers = start_answer 0 28 ∷ advance_answer 0 1 1 0 [] (no ++ b2 0 0) ∷ [];
      run = saved 11 ((0, 10) ∷ (0, 10) ∷ []) ++ zeros 9;
    }
    ∷ []

unfoldable pub told : (Model → Machine) → Row → List Answer × Bytes
told machine r = run_calls (machine r.model) (zeros 37) r.calls

unfoldable pub telling-rows : Type 0
unfolding tabled literals on_value_at colliding telling lent no sevens tells told
telling-rows = Unit {0}

pub engine-tells : map (told (λ m. engine (model_bytes m))) tells ≡ map expected tells
unfolding telling-rows
engine-tells = refl

pub engine-flat-tells : map (told (λ m. engine (model_bytes (flat m)))) tells ≡ map expected tells
unfolding telling-rows
engine-flat-tells = refl

pub flat-tells : map (told (λ m. flat_machine (model_bytes (flat m)))) tells ≡ map expected tells
unfolding telling-rows
flat-tells = refl
