-- What was judged, with the progress that the instant brings (`progressed`). Where it is not refused its records have room (`judged-ok`).
use native.Mathlib.Omega.{arith}
use mathlib.Core.Path.{sym, ap, subst}
use Prim.Native.Nat.{◌+◌, ◌≤◌}
use Rattle.std.proofs.Common.{Option}
use Rattle.std.proofs.lemmas.Result.{err_from_is_err_and}
use Rattle.clock.specs.Times.{latest}
use Rattle.instant_steps.specs.Verdicts.{steps_in}
use Rattle.instant_steps.specs.declared.Ran.{Ran}
use Rattle.instant_attempt.specs.Pass.{progressed, ended_by}
use Rattle.instant_attempt.proofs.Passes.{judged-ok}
use Rattle.instant_attempt.proofs.ended_by.Goals as goal

pub returns-in_err-ran : goal.returns-in_err-ran
unfolding ended_by
returns-in_err-ran c =
    let p = err_from_is_err_and c.from_residual.result c.from_residual.ensures.1 in
    rw (p.1, p.2) (ap (progressed c.args.turn) c.in_err-ran.ensures)

pub after-requires : goal.after-requires
after-requires c =
    let q = c.requires in
    let a = c.args in
    let t = a.turn in
    let j = judged-ok a.room t.has t.progress.steps a.ran c.in_ok-ran.ran (sym c.in_ok-ran.ensures) in
    record {
      moment = q.moment;
      instants = q.instants;
      steps = subst (λ (r : Option Ran). t.progress.steps + steps_in r ≤ latest) j.0 q.steps;
      used = omega (arith, q.used, j.1);
    }

pub returns : goal.returns
unfolding ended_by
returns c = rw c.after.ensures (ap (progressed c.args.turn) c.in_ok-ran.ensures)
