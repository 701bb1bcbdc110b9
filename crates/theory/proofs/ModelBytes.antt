-- What a model is written as is bytes. Assumes nothing.
use mathlib.Core.List.{List, [], ◌∷◌, map}
use lib.ListN.{length}
use Rattle.definition.specs.Lists.{concat}
use Rattle.definition.specs.Bytes.{Bytes, AllBytes, none, bytes_of, Layout, laid_out}
use Rattle.definition.specs.Limits.{count_size, half_open_byte}
use Rattle.definition.specs.Model.{RangeReading, inclusive, half_open, Model}
use Rattle.definition.specs.Records.{component_bytes, phase_bytes, rule_bytes, coupling_bytes, component_layout, phase_layout, rule_layout, coupling_layout}
use Rattle.definition.specs.File.{section_bytes, ranges_bytes, model_bytes}
use Rattle.law_model.proofs.Codec.{append-bytes, number-bytes}

laid-bytes : (fs : Layout) → AllBytes (laid_out fs)
unfolding laid_out
laid-bytes [] = none
laid-bytes (f ∷ fs) = append-bytes (number-bytes f.0 f.1) (laid-bytes fs)

rows-bytes : {A : Type 0} (bytes : A → Bytes) → ((a : A) → AllBytes (bytes a)) → (xs : List A) → AllBytes (concat (map bytes xs))
unfolding concat
rows-bytes bytes h [] = none
rows-bytes bytes h (x ∷ xs) = append-bytes (h x) (rows-bytes bytes h xs)

section-bytes : {A : Type 0} (bytes : A → Bytes) → ((a : A) → AllBytes (bytes a)) → (xs : List A) → AllBytes (section_bytes bytes xs)
unfolding section_bytes
section-bytes bytes h xs = append-bytes (number-bytes count_size (length xs)) (rows-bytes bytes h xs)

ranges-bytes : (r : RangeReading) → AllBytes (ranges_bytes r)
unfolding ranges_bytes
ranges-bytes inclusive = none
ranges-bytes half_open = section-bytes (bytes_of 1) (number-bytes 1) (half_open_byte ∷ [])

pub model-bytes : (m : Model) → AllBytes (model_bytes m)
unfolding model_bytes component_bytes phase_bytes rule_bytes coupling_bytes
model-bytes m =
    append-bytes (append-bytes (append-bytes (append-bytes
    (section-bytes component_bytes (λ k. laid-bytes (component_layout k)) m.components)
    (section-bytes phase_bytes (λ k. laid-bytes (phase_layout k)) m.phases))
    (section-bytes rule_bytes (λ k. laid-bytes (rule_layout k)) m.rules))
    (section-bytes coupling_bytes (λ k. laid-bytes (coupling_layout k)) m.couplings))
    (ranges-bytes m.ranges)
