-- The two-phase cue source byte by byte: its file in both directions, and the start, run, trace and reading of [A] as literal bytes, on
-- the engine's definitions and on the flat machine. Bytes past what is written are 9 before and after. Assumes nothing.
use mathlib.Core.Path.{◌≡◌, refl}
use mathlib.Core.List.{List, [], ◌∷◌, ◌++◌}
use lib.ListN.{replicate}
use Rattle.definition.specs.Bytes.{Bytes, ok}
use Rattle.definition.specs.File.{model_bytes}
use Rattle.definition.specs.Pinned.Decoder.{decode, check_model}
use Rattle.definition.specs.Calls.{Call, start_call, reading_call, Answer, start_answer, reading_answer, run_calls, engine, flat_machine}
use Rattle.definition.proofs.Models.{cue_source}
use Rattle.definition.proofs.Table.{advance_to, advanced_by, single, tabled}
use Rattle.definition.proofs.Literals.{b2, b3, b4, b5, z, literals}

unfoldable pub cue_file : Bytes
cue_file =
    -- components: kind, parent, phase count, initial phase, order
    b2 3 0 ++ b5 0 0 0 0 0 ++ b5 1 0 2 0 0 ++ b5 1 0 3 0 0
    -- phases: advance, next phase, output count, slots
    ++ b2 5 0
    ++ b4 10 0 0 0 ++ b2 1 1 ++ b3 0 7 0 ++ z 9
    ++ b4 0 0 0 0 ++ b2 0 1 ++ b3 0 8 0 ++ z 9
    ++ b4 255 255 255 255 ++ b2 0 0 ++ b3 0 0 0 ++ z 9
    ++ b4 5 0 0 0 ++ b2 0 1 ++ b3 0 100 0 ++ z 9
    ++ b4 10 0 0 0 ++ b2 0 1 ++ b3 1 8 0 ++ z 9
    -- rules: component, phase, next phase, port; low and high value; least count; low and high elapsed
    ++ b2 2 0
    ++ b4 2 0 1 0 ++ b4 7 0 7 0 ++ b2 1 0 ++ b4 0 0 0 0 ++ b4 255 255 255 255
    ++ b4 2 1 2 0 ++ b4 8 0 8 0 ++ b2 1 0 ++ b4 0 0 0 0 ++ b4 255 255 255 255
    -- couplings
    ++ b2 3 0 ++ b4 1 0 2 0 ++ b4 2 0 0 0 ++ b4 2 1 0 1

-- ---- [A]

unfoldable pub cue_calls : List Call
cue_calls = start_call ∷ reading_call 0 ∷ advance_to 30 [] (replicate 32 9) ∷ reading_call 1 ∷ []

-- moment, step, count, port and value
unfoldable pub cue_trace : Bytes
cue_trace = 20 ∷ z 7 ++ b2 0 0 ++ b2 1 0 ++ b3 1 8 0 ++ 30 ∷ z 7 ++ b2 0 0 ++ b2 1 0 ++ b3 1 8 0

unfoldable pub cue_answers : List Answer
cue_answers = start_answer 0 28 ∷ reading_answer 0 0 0 10 ∷ advanced_by 0 3 6 30 (cue_trace ++ b2 9 9) ∷ reading_answer 0 2 30 40 ∷ []

-- open moment, atomic count, then phase and last moment of both
unfoldable pub cue_run : Bytes
cue_run = 31 ∷ z 7 ++ b2 2 0 ++ 0 ∷ 30 ∷ z 7 ++ 2 ∷ 30 ∷ z 7

-- ---- the rows

unfoldable pub filed : Type 0
unfolding tabled literals cue_file cue_calls cue_trace cue_answers cue_run
filed = Unit {0}

pub cue-written : model_bytes (cue_source 0 single) ≡ cue_file
unfolding filed
cue-written = refl

pub cue-read : decode cue_file ≡ ok (cue_source 0 single)
unfolding filed
cue-read = refl

pub cue-accepted : check_model cue_file ≡ 0
unfolding filed
cue-accepted = refl

pub cue-engine : run_calls (engine cue_file) (replicate 30 9) cue_calls ≡ (cue_answers, cue_run ++ b2 9 9)
unfolding filed
cue-engine = refl

pub cue-machine : run_calls (flat_machine cue_file) (replicate 30 9) cue_calls ≡ (cue_answers, cue_run ++ b2 9 9)
unfolding filed
cue-machine = refl
