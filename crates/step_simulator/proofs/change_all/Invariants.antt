use Rattle.definition.specs.Limits.{max_components}
use Rattle.step_simulator.specs.Simulator.{changed_all, parts_of_all}
use Rattle.run_state.specs.Held.{held_in, last_rules_in, ends_in}
use Rattle.law_base.specs.Overlaid.{put_parts}
use Rattle.step_due.specs.Due.{CarriedIn}
use lib.ListN.{length}
use mathlib.Core.Path.{◌≡◌}
use Prim.Native.Nat.{◌-◌}
use Rattle.step_simulator.proofs.change_all.Given as goal

abbrev pub invariant-loop-i : goal.invariant-loop-i
invariant-loop-i l = (length l.work ≡ length l.initial.work) × (length (ends_in l.state) ≡ max_components) × CarriedIn l.phases l.tables l.n l.state ×
    (changed_all l.phases l.rules l.tables l.flags (length l.initial.work) l.at.0 l.given (l.n - l.i) l.i (held_in l.state)
    ≡ changed_all l.phases l.rules l.tables l.flags (length l.initial.work) l.at.0 l.given l.n 0 (held_in l.initial.state)) ×
    (put_parts (last_rules_in l.state) l.i (parts_of_all l.phases l.rules l.tables l.flags (length l.initial.work) l.at.0 l.given (l.n - l.i) l.i (held_in l.state))
    ≡ put_parts (last_rules_in l.initial.state) 0 (parts_of_all l.phases l.rules l.tables l.flags (length l.initial.work) l.at.0 l.given l.n 0 (held_in l.initial.state)))
