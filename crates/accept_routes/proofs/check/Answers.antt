-- The arrays that are lent are zeros. Assumes nothing.
use Prim.Native.Nat.{ℕ, ◌+◌}
use lib.ListN.{length-replicate}
use Rattle.definition.specs.Limits.{max_couplings}
use Rattle.table_couplings.proofs.Begun.{zeros-made}
use Rattle.accept_routes.proofs.check.Goals as goal

pub check_routes-requires : goal.check_routes-requires
check_routes-requires c = (zeros-made, length-replicate {A = ℕ} (max_couplings + 1) 0)
