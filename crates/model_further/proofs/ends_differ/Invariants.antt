use mathlib.Core.Path.{◌≡◌}
use mathlib.Core.Bool.{true}
use Prim.Native.Nat.{ℕ, ◌<◌}
use lib.ListN.{get_or}
use Rattle.definition.specs.Model.{half_open, no_rule}
use Rattle.definition.specs.Pinned.Decoder.{elapsed_fits}
use Rattle.model_records.specs.Values.{rules_in}
use Rattle.model_further.proofs.ends_differ.Given as goal

abbrev pub invariant-loop-i : goal.invariant-loop-i
invariant-loop-i l = (j : ℕ) → j < l.i → elapsed_fits half_open (get_or (rules_in l.rules) j no_rule) ≡ true
