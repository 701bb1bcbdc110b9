-- The rules shown, one more, as bytes one after the other. Assumes nothing.
use mathlib.Core.Path.{◌≡◌, refl, sym, ap, ◌∙◌}
use Prim.Native.Nat.{ℕ, suc, ◌+◌, ◌*◌, ◌≤◌, ◌<◌}
use mathlib.Core.List.{List, [], ◌∷◌, ◌++◌, append-nil}
use native.Mathlib.Omega.{arith}
use lib.ListN.{length, take, get_or}
use lib.Seq.{sets, take-suc, length-take-le}
use Rattle.definition.specs.Lists.{concat}
use Rattle.definition.specs.Bytes.{Bytes, bytes_of, stored}
use Rattle.definition.specs.Limits.{position_size}
use Rattle.definition.specs.Engine.{table_bytes}
use Rattle.law_model.proofs.RuleBytes.{table-size, table-append}
use Rattle.law_stores.proofs.Stores.{sets-append, sets-front}
use Rattle.run_state.specs.Held.{last_rules_in}
use Rattle.instant_steps.specs.Sim.{rules_shown}

one_entry : (i : ℕ) → table_bytes (i ∷ []) ≡ bytes_of position_size i
unfolding table_bytes concat
one_entry i = append-nil (bytes_of position_size i)

module _ (w : List ℕ) (table : Bytes) where
  -- The entries of the first i.
  abbrev pub put : ℕ → Bytes
  put i = sets table 0 (table_bytes (rules_shown i w))

  pub put-none : table ≡ put 0
  unfolding rules_shown table_bytes concat
  put-none = refl

  pub put-more : (i : ℕ) → i < length (last_rules_in w) → sets (put i) (position_size * i) (bytes_of position_size (get_or (last_rules_in w) i 0)) ≡ put (i + 1)
  unfolding rules_shown
  put-more i h =
      let xs = table_bytes (take i (last_rules_in w)) in
      let size : 0 + length xs ≡ position_size * i = omega (arith, table-size (take i (last_rules_in w)), length-take-le i (last_rules_in w) (omega arith)) in
      sym (ap (λ is. sets table 0 (table_bytes is)) (let e : i + 1 ≡ suc i = omega arith in ap (λ k. take k (last_rules_in w)) e ∙ take-suc (last_rules_in w) i 0 h)
      ∙ ap (sets table 0) (table-append (take i (last_rules_in w)) (get_or (last_rules_in w) i 0 ∷ []) ∙ ap (λ b. xs ++ b) (one_entry (get_or (last_rules_in w) i 0)))
      ∙ sets-append xs (bytes_of position_size (get_or (last_rules_in w) i 0)) table 0
      ∙ ap (λ at. sets (sets table 0 xs) at (bytes_of position_size (get_or (last_rules_in w) i 0))) size)

  pub put_all : (n : ℕ) → n ≤ length (last_rules_in w) → position_size * n ≤ length table → put n ≡ stored (table_bytes (rules_shown n w)) table
  unfolding rules_shown
  put_all n l h =
      sets-front table (table_bytes (take n (last_rules_in w)))
      (omega (arith, table-size (take n (last_rules_in w)), length-take-le n (last_rules_in w) l))
