-- The bytes of a table of deciding rules: two for each, one after the other. Assumes nothing.
use mathlib.Core.Path.{◌≡◌, refl}
use Prim.Native.Nat.{ℕ, ◌*◌}
use mathlib.Core.List.{List, [], ◌∷◌, ◌++◌}
use native.Mathlib.Omega.{arith}
use lib.ListN.{length}
use Rattle.definition.specs.Lists.{concat}
use Rattle.definition.specs.Bytes.{bytes_of}
use Rattle.definition.specs.Limits.{position_size}
use Rattle.definition.specs.Engine.{table_bytes}
use Rattle.law_base.proofs.Lists.{concat-append}

pub table-size : (is : List ℕ) → length (table_bytes is) ≡ position_size * length is
unfolding table_bytes concat bytes_of
table-size [] = refl
table-size (i ∷ is) = omega (arith, table-size is)

pub table-append : (is js : List ℕ) → table_bytes (is ++ js) ≡ table_bytes is ++ table_bytes js
unfolding table_bytes
table-append is js = concat-append (bytes_of position_size) is js
