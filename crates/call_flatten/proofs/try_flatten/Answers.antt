-- A refused model gives its number (`flatten_refused`); an accepted one's flat form is found and written.
use Prim.Native.Nat.{ℕ, ◌+◌, ◌/◌}
use lib.ListN.{length-replicate}
use Rattle.std.proofs.lemmas.Result.{err_from_is_err_and}
use Rattle.definition.specs.Limits.{max_routes}
use Rattle.table_couplings.proofs.Begun.{zeros-made}
use Rattle.call_flatten.proofs.Flattened.{flatten_refused}
use Rattle.call_flatten.proofs.try_flatten.Goals as goal

pub open_model-requires : goal.open_model-requires
open_model-requires c = zeros-made

pub returns-in_err-accepted : goal.returns-in_err-accepted
returns-in_err-accepted c =
    let a = c.args in
    let p = err_from_is_err_and c.from_residual.result c.from_residual.ensures.1 in
    rw (p.1, p.2) (flatten_refused a.file.now a.out.now _ c.in_err-accepted.ensures.0)

pub find_flat-found-requires : goal.find_flat-found-requires
find_flat-found-requires c = record {
  accepts = c.in_ok-accepted.ensures.0;
  tabled = c.in_ok-accepted.ensures.2;
  rooms = length-replicate {A = ℕ} (max_routes + max_routes / 2) 0;
}
