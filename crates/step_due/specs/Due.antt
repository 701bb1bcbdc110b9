-- Due moments as numbers, over the bytes of the phase section and the words of a state. Assumes nothing.
use Rattle.std.specs.Prelude.{ℕ, List}
use Rattle.definition.specs.Bytes.{Bytes}
use Rattle.definition.specs.Engine.{due_number}
use Rattle.model_records.specs.Values.{phases_in}
use Rattle.run_state.specs.Held.{held_in, ends_in}
use Rattle.spec_step.specs.Carried.{Carried}
use Rattle.spec_step.specs.TableStep.{due_in}

-- When the atomic c is due that is in phase p since `last`.
abbrev pub end_for : Bytes → List ℕ → ℕ → ℕ → ℕ → ℕ
end_for phases tables c p last = due_number (due_in (phases_in phases) tables c p last)

-- The words of a state carry the due moments of its first n atomics.
abbrev pub CarriedIn : Bytes → List ℕ → ℕ → List ℕ → Type 0
CarriedIn phases tables n w = Carried (phases_in phases) tables n (held_in w) (ends_in w)
