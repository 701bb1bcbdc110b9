-- The phase that was led to, or the phase itself.
use mathlib.Core.Path.{sym, ap, refl, ◌∙◌}
use native.Mathlib.Omega.{arith}
use Prim.Native.Nat.{◌%◌}
use Rattle.spec_step.specs.TableStep.{phase_or}
use Rattle.step_transition.proofs.Laws.{led-byte, led-none}
use Rattle.step_transition.proofs.phase_after.Goals as goal

pub returns-then-found-lt-NOWHERE : goal.returns-then-found-lt-NOWHERE
unfolding phase_or
returns-then-found-lt-NOWHERE c =
    let a = c.args in
    c.phase_told.ensures ∙ ap (phase_or a.p) (sym (led-byte a.found (a.found % 256) c.if-found-lt-NOWHERE.true refl))

pub returns-else-found-lt-NOWHERE : goal.returns-else-found-lt-NOWHERE
unfolding phase_or
returns-else-found-lt-NOWHERE c = ap (phase_or c.args.p) (sym (led-none c.args.found (omega (arith, c.if-found-lt-NOWHERE.false))))
