-- The models of the worked table: the two-phase cue source of document 01, an atomic that never rests, and a nest. Assumes nothing.
use Prim.Native.Nat.{ℕ}
use mathlib.Core.List.{List, [], ◌∷◌, ◌++◌}
use Rattle.definition.specs.Limits.{never_field}
use Rattle.definition.specs.Model.{Message, Component, Phase, Rule, Coupling, Model, inclusive, no_message, no_component}

-- ---- records, written shortly

unfoldable pub message : ℕ → ℕ → Message
message p v = record { port = p; value = v }

unfoldable pub coupled_in : ℕ → Component
coupled_in parent = record { kind = 0; parent = parent; phases = 0; initial = 0; order = 0 }

unfoldable pub atomic_in : ℕ → ℕ → ℕ → Component
atomic_in parent phases order = record { kind = 1; parent = parent; phases = phases; initial = 0; order = order }

-- a phase that puts out nothing, one message, two messages
unfoldable pub silent : ℕ → ℕ → Phase
silent advance next = record { advance = advance; next = next; output_count = 0; slot0 = no_message; slot1 = no_message; slot2 = no_message; slot3 = no_message }

unfoldable pub saying : ℕ → ℕ → Message → Phase
saying advance next x = record { advance = advance; next = next; output_count = 1; slot0 = x; slot1 = no_message; slot2 = no_message; slot3 = no_message }

unfoldable pub saying2 : ℕ → ℕ → Message → Message → Phase
saying2 advance next x y = record { advance = advance; next = next; output_count = 2; slot0 = x; slot1 = y; slot2 = no_message; slot3 = no_message }

-- in phase p of component c: `least` messages with value v on port 0, at any elapsed time, lead to phase next
unfoldable pub on_value : ℕ → ℕ → ℕ → ℕ → ℕ → Rule
on_value c p v least next =
    record { component = c; phase = p; next = next; port = 0; low = v; high = v; least = least; low_elapsed = 0; high_elapsed = never_field }

unfoldable pub link : ℕ → ℕ → ℕ → ℕ → Coupling
link a p b q = record { source = a; source_port = p; target = b; target_port = q }

-- ---- the models

-- the two-phase cue source, with the order of component 2 and the couplings from component 1
unfoldable pub cue_source : ℕ → List Coupling → Model
cue_source order first = record {
  components = no_component ∷ atomic_in 0 2 0 ∷ atomic_in 0 3 order ∷ [];
  phases =
      saying 10 1 (message 0 7) ∷ saying 0 0 (message 0 8)
      ∷ silent never_field 0 ∷ saying 5 0 (message 0 100) ∷ saying 10 0 (message 1 8) ∷ [];
  rules = on_value 2 0 7 1 1 ∷ on_value 2 1 8 1 2 ∷ [];
  couplings = first ++ (link 2 0 0 0 ∷ link 2 1 0 1 ∷ []);
  ranges = inclusive;
}

-- one atomic of one phase, advance 0, next itself
unfoldable pub restless : Model
restless = record { components = no_component ∷ atomic_in 0 1 0 ∷ []; phases = silent 0 0 ∷ []; rules = []; couplings = []; ranges = inclusive }

-- Three levels: the root holds the coupled 1 and the atomic 5; 1 holds the atomic 2 and the coupled 3; 3 holds the atomic 4 (order 1).
-- Couplings 2.0 to 3.0 and 5.0 to 1.0 are doubled. Phases with advance 0 of 2 and 4 give instants of two steps. In its rows 2 and 4 meet
-- confluent transitions with a deciding rule, 2 and 5 such without one, and 2 and 5 get messages for which they have no rule.
unfoldable pub nest : Model
nest = record {
  components = no_component ∷ coupled_in 0 ∷ atomic_in 1 3 0 ∷ coupled_in 1 ∷ atomic_in 3 3 1 ∷ atomic_in 0 2 0 ∷ [];
  phases =
      saying 5 1 (message 0 7) ∷ saying2 0 0 (message 0 8) (message 1 9) ∷ saying2 0 0 (message 0 8) (message 1 10)
      ∷ silent never_field 0 ∷ saying 0 2 (message 0 100) ∷ saying 10 0 (message 1 8)
      ∷ saying 5 1 (message 0 7) ∷ saying2 5 0 (message 0 8) (message 0 8) ∷ [];
  rules =
      on_value 2 1 7 2 2 ∷ on_value 2 0 8 2 1 ∷ on_value 4 0 7 1 1 ∷ on_value 4 1 8 2 2 ∷ on_value 4 2 7 2 1
      ∷ on_value 5 0 9 1 1 ∷ on_value 5 1 100 1 0 ∷ [];
  couplings =
      link 0 0 1 0 ∷ link 0 1 5 0 ∷ link 1 0 0 0 ∷ link 1 0 2 0 ∷ link 1 0 3 0 ∷ link 1 0 5 0 ∷ link 1 1 0 1 ∷ link 2 0 1 0 ∷ link 2 0 3 0 ∷ link 2 0 3 0
      ∷ link 2 1 1 1 ∷ link 3 0 1 0 ∷ link 3 0 2 0 ∷ link 3 0 4 0 ∷ link 3 1 1 1 ∷ link 4 0 3 0 ∷ link 4 1 3 1 ∷ link 5 0 1 0 ∷ link 5 0 1 0 ∷ [];
  ranges = inclusive;
}
