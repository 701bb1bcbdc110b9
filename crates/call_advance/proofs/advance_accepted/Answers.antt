-- A check that fails gives its number (`check-refused`); what passes them all is let in, and buffers for 1,024 routes have room for every
-- accepted model.
use native.Mathlib.Omega.{arith}
use mathlib.Core.Path.{sym}
use Rattle.std.proofs.lemmas.Result.{err_from_is_err_and}
use Rattle.model_file.specs.Checked.{model_of}
use Rattle.call_advance.proofs.Checks.{check-refused}
use Rattle.call_advance.proofs.Whole.{most-routes}
use Rattle.call_advance.proofs.advance_accepted.Goals as goal

pub returns-in_err-check_call : goal.returns-in_err-check_call
returns-in_err-check_call c =
    let a = c.args in
    let m = model_of a.file.now a.accepted.counts in
    let p = err_from_is_err_and c.from_residual.result c.from_residual.ensures.1 in
    rw (p.1, p.2) (check-refused a.file.now a.run.now a.t a.bag.now a.trace.now a.table.now m c.requires.model _ c.in_err-check_call.ensures)

pub advance_in-requires-else-accepted-le-FEW_ROUTES : goal.advance_in-requires-else-accepted-le-FEW_ROUTES
advance_in-requires-else-accepted-le-FEW_ROUTES c =
    let most = most-routes c.args.file.now c.args.accepted.counts (λ i. (c.type_inv.file i).fits) c.requires.model in (
      record { model = c.requires.model; tabled = c.requires.tabled; checks = sym c.in_ok-check_call.ensures },
      record { lent = omega arith; room = omega (arith, most) },
    )
