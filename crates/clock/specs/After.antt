-- When an atomic is due, in 64 bits. Assumes nothing.
use Rattle.std.specs.Prelude.{ℕ, ◌+◌, min, cond, eqb}
use Rattle.definition.specs.Limits.{never_field}
use Rattle.definition.specs.Devs.{Time, finite, never}
use Rattle.clock.specs.Times.{latest}

-- An advance as a phase record holds it, after the last moment: "it is due at that moment plus the phase's advance, or never"; a moment
-- past the latest one is the latest.
unfoldable pub due_after : ℕ → ℕ → Time
due_after last advance = cond (eqb advance never_field) never (finite (min (last + advance) latest))
