-- The text that document 01 prints for the two-phase cue source to the end 30, computed from the definitions. The buffers lent here
-- are shorter than the program's: the run takes 28 bytes, the trace 30. Assumes nothing.
use mathlib.Core.Path.{◌≡◌, refl}
use mathlib.Core.List.{[], ◌∷◌, ◌++◌}
use Rattle.definition.specs.Bytes.{bytes_of}
use Rattle.definition.specs.File.{model_bytes}
use Rattle.definition.proofs.Models.{cue_source}
use Rattle.definition.proofs.Table.{zeros, single, tabled}
use Rattle.run_text.specs.Text as Text
use Rattle.run_text.specs.Text.{first_line, input_text}

-- One name that opens the text.
unfoldable pub printed : Type 0
unfolding
    tabled Text.decimal_in Text.field Text.message_line Text.message_lines Text.record_lines Text.behind_record Text.lines Text.trace_lines Text.end_line
    Text.refused_line Text.last_line Text.advanced_text Text.started_text Text.input_text
printed = Unit {0}

-- "20 0 1 8", "30 0 1 8", "end 31 steps 6"
pub worked-text : input_text (bytes_of 8 30 ++ model_bytes (cue_source 0 single)) (zeros 28) (zeros 40)
    ≡ first_line
    ++ (50 ∷ 48 ∷ 32 ∷ 48 ∷ 32 ∷ 49 ∷ 32 ∷ 56 ∷ 10 ∷ [])
    ++ (51 ∷ 48 ∷ 32 ∷ 48 ∷ 32 ∷ 49 ∷ 32 ∷ 56 ∷ 10 ∷ [])
    ++ (101 ∷ 110 ∷ 100 ∷ 32 ∷ 51 ∷ 49 ∷ 32 ∷ 115 ∷ 116 ∷ 101 ∷ 112 ∷ 115 ∷ 32 ∷ 54 ∷ 10 ∷ [])
unfolding printed
worked-text = refl

-- An input under eight bytes: "refused 1".
pub short-text : input_text (30 ∷ 0 ∷ 0 ∷ 0 ∷ 0 ∷ 0 ∷ 0 ∷ []) (zeros 28) (zeros 40)
    ≡ first_line ++ (114 ∷ 101 ∷ 102 ∷ 117 ∷ 115 ∷ 101 ∷ 100 ∷ 32 ∷ 49 ∷ 10 ∷ [])
unfolding printed
short-text = refl

-- Eight bytes and no model: the engine's 1.
pub bare-text : input_text (bytes_of 8 30) (zeros 28) (zeros 40)
    ≡ first_line ++ (114 ∷ 101 ∷ 102 ∷ 117 ∷ 115 ∷ 101 ∷ 100 ∷ 32 ∷ 49 ∷ 10 ∷ [])
unfolding printed
bare-text = refl

-- A trace of 15 bytes: the line of the instants done, then "refused 15".
pub full-text : input_text (bytes_of 8 30 ++ model_bytes (cue_source 0 single)) (zeros 28) (zeros 15)
    ≡ first_line
    ++ (50 ∷ 48 ∷ 32 ∷ 48 ∷ 32 ∷ 49 ∷ 32 ∷ 56 ∷ 10 ∷ [])
    ++ (114 ∷ 101 ∷ 102 ∷ 117 ∷ 115 ∷ 101 ∷ 100 ∷ 32 ∷ 49 ∷ 53 ∷ 10 ∷ [])
unfolding printed
full-text = refl
