-- The model file: "Four sections stand in a fixed order, each after its two-byte count", and a fifth may follow. Assumes nothing.
use Rattle.std.specs.Prelude.{ℕ, List, [], ◌∷◌, ◌++◌, map, length}
use Rattle.definition.specs.Lists.{concat, sum}
use Rattle.definition.specs.Bytes.{Bytes, bytes_of}
use Rattle.definition.specs.Limits.{count_size, half_open_byte}
use Rattle.definition.specs.Model.{Component, RangeReading, inclusive, half_open, Model}
use Rattle.definition.specs.Records.{component_bytes, phase_bytes, rule_bytes, coupling_bytes}

-- "their count is the sum of the phase counts"
unfoldable pub phase_total : List Component → ℕ
phase_total cs = sum (map (λ k. k.phases) cs)

unfoldable pub section_bytes : {A : Type 0} → (A → Bytes) → List A → Bytes
section_bytes bytes xs = bytes_of count_size (length xs) ++ concat (map bytes xs)

-- "A model may carry a fifth section: count 1, then the byte 2."
unfoldable pub ranges_bytes : RangeReading → Bytes
ranges_bytes inclusive = []
ranges_bytes half_open = section_bytes (bytes_of 1) (half_open_byte ∷ [])

unfoldable pub model_bytes : Model → Bytes
model_bytes m =
    section_bytes component_bytes m.components ++ section_bytes phase_bytes m.phases ++ section_bytes rule_bytes m.rules
    ++ section_bytes coupling_bytes m.couplings ++ ranges_bytes m.ranges
