-- Capping each sum of four entries caps the whole. Assumes nothing.
use borrow.Author.Rules.{rules}
use native.Mathlib.Omega.{arith}
use native.Mathlib.Nat.{add-zero}
use Rattle.law_routes.specs.Ways.{four}
use Rattle.accept_routes.proofs.four_ways.Goals as goal

pub returns : goal.returns
unfolding four
returns c = rw add-zero (omega (arith, c.capped-3.ensures, c.capped-2.ensures, c.capped.ensures))
