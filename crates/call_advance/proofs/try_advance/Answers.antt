-- A refused model gives its number (`model-refused`); an accepted one is advanced.
use Rattle.std.proofs.lemmas.Result.{err_from_is_err_and}
use Rattle.table_couplings.proofs.Begun.{zeros-made}
use Rattle.call_advance.proofs.Checks.{model-refused}
use Rattle.call_advance.proofs.try_advance.Goals as goal

pub open_model-requires : goal.open_model-requires
open_model-requires c = zeros-made

pub returns-in_err-accepted : goal.returns-in_err-accepted
returns-in_err-accepted c =
    let a = c.args in
    let p = err_from_is_err_and c.from_residual.result c.from_residual.ensures.1 in
    rw (p.1, p.2) (model-refused a.file.now a.run.now a.t a.bag.now a.trace.now a.table.now _ c.in_err-accepted.ensures.0)

pub advance_accepted-requires : goal.advance_accepted-requires
advance_accepted-requires c =
    let r = c.in_ok-accepted.ensures in
    record { model = r.0; tabled = r.2; counted = r.1 }
