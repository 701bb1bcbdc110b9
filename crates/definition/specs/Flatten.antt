-- Flattening: "a model of the root and the atomics in file order, phases and rules kept in order with components renumbered, and each
-- route as a coupling, the rows sorted"; and "flattening copies the section" of ranges. Assumes nothing.
use Rattle.std.specs.Prelude.{ℕ, suc, List, [], ◌∷◌, map, cond, eqb}
use Rattle.definition.specs.Lists.{sort_by}
use Rattle.definition.specs.Bytes.{Bytes, ok, ◌>>=◌}
use Rattle.definition.specs.Model.{Component, Rule, Coupling, Model, no_component, component_at, atomics, coupling_le}
use Rattle.definition.specs.File.{model_bytes}
use Rattle.definition.specs.Routes.{routes}
use Rattle.definition.specs.Pinned.Decoder.{accepted}
use Rattle.definition.specs.Engine.{Wrote, wrote}

-- The place of c in a list of component numbers.
unfoldable pub place_in : ℕ → List ℕ → ℕ
place_in c [] = 0
place_in c (a ∷ cs) = cond (eqb a c) 0 (suc (place_in c cs))

-- The root keeps number 0, and the atomics follow in file order.
unfoldable pub renumbered : List Component → ℕ → ℕ
renumbered cs c = place_in c (0 ∷ atomics cs)

unfoldable pub flat_atomic : List Component → ℕ → Component
flat_atomic cs c = let k = component_at cs c in record { kind = 1; parent = 0; phases = k.phases; initial = k.initial; order = k.order }

unfoldable pub flat_components : List Component → List Component
flat_components cs = no_component ∷ map (flat_atomic cs) (atomics cs)

unfoldable pub flat_rule : List Component → Rule → Rule
flat_rule cs k = record {
  component = renumbered cs k.component;
  phase = k.phase;
  next = k.next;
  port = k.port;
  low = k.low;
  high = k.high;
  least = k.least;
  low_elapsed = k.low_elapsed;
  high_elapsed = k.high_elapsed;
}

unfoldable pub flat_route : List Component → Coupling → Coupling
flat_route cs k =
    record { source = renumbered cs k.source; source_port = k.source_port; target = renumbered cs k.target; target_port = k.target_port }

unfoldable pub flat : Model → Model
flat m =
    let cs = m.components in
    record {
      components = flat_components cs;
      phases = m.phases;
      rules = map (flat_rule cs) m.rules;
      couplings = sort_by coupling_le (map (flat_route cs) (routes m));
      ranges = m.ranges;
    }

-- The call: the model's number, then 15, else the flat model's bytes at the front of the buffer.
unfoldable pub flatten : Bytes → Bytes → Wrote
flatten file buffer = wrote buffer (do
  m ← accepted file
  ok (model_bytes (flat m)))
