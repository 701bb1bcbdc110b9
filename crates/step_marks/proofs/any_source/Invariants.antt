use Rattle.definition.specs.Limits.{max_couplings}
use Prim.Native.Nat.{◌≤◌, ◌-◌}
use mathlib.Core.Path.{◌≡◌}
use Rattle.spec_step.specs.TableStep.{any_of}
use Rattle.step_collect.specs.Collected.{comes_from}
use Rattle.step_marks.specs.Filled.{any_source}
use Rattle.step_collect.proofs.Laws.{rows_from}
use Rattle.step_marks.proofs.any_source.Given as goal

abbrev pub invariant-loop : goal.invariant-loop
invariant-loop l = (l.link ≤ max_couplings) × (any_of (comes_from l.flags) (rows_from l.tables (max_couplings - l.counter) l.link) ≡ any_source l.tables l.flags l.target)
