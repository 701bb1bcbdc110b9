-- A refused model gives its number (`read-refused`); an accepted one is read.
use Rattle.std.proofs.lemmas.Result.{err_from_is_err_and}
use Rattle.table_couplings.proofs.Begun.{zeros-made}
use Rattle.call_read.proofs.Answering.{read-refused}
use Rattle.call_read.proofs.try_read.Goals as goal

pub open_model-requires : goal.open_model-requires
open_model-requires c = zeros-made

pub returns-in_err-accepted : goal.returns-in_err-accepted
returns-in_err-accepted c =
    let a = c.args in
    let p = err_from_is_err_and c.from_residual.result c.from_residual.ensures.1 in
    rw (p.1, p.2) (read-refused a.file.now a.run.now a.position _ c.in_err-accepted.ensures.0)
