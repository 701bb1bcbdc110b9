-- The checks of an advance, in the order of the table, and what each leaves of the definition. Assumes nothing.
use mathlib.Core.Path.{◌≡◌, sym}
use Prim.Native.Nat.{ℕ}
use mathlib.Core.Bool.{true, false, ◌||◌}
use lib.Dec.{ltb}
use lib.ListN.{length}
use Rattle.definition.specs.Bytes.{Bytes, ok, refused}
use Rattle.definition.specs.Limits.{max_moment}
use Rattle.definition.specs.Model.{Model}
use Rattle.definition.specs.Pinned.Decoder.{accepted}
use Rattle.definition.specs.SavedRun.{run_of, run_fits}
use Rattle.definition.specs.Step.{nested}
use Rattle.definition.specs.Advance.{advance_from}
use Rattle.definition.specs.Engine.{advance_checks, advanced, advance, bag_fits, to_bag}
use Rattle.definition.specs.Demands.{refused_advance}
use Rattle.law_model.proofs.Answers.{advance-model}

pub model-refused : (file run : Bytes) (t : ℕ) (bag trace table : Bytes) (k : ℕ) → refused k ≡ accepted file → refused_advance k run trace table ≡ advance file run t bag trace table
model-refused file run t bag trace table k e = sym (advance-model file run t bag trace table k (sym e))

-- ---- the first check that fails

module _ (m : Model) (run : Bytes) (t : ℕ) (bag : Bytes) where
  pub run-unfit : run_fits m run ≡ false → refused 10 ≡ advance_checks m run t bag
  unfolding advance_checks
  run-unfit f = rw f

  module _ (f : run_fits m run ≡ true) where
    pub bad-moment : (ltb t (run_of m run).opening || ltb max_moment t) ≡ true → refused 11 ≡ advance_checks m run t bag
    unfolding advance_checks
    bad-moment o = rw (f, o)

    module _ (o : (ltb t (run_of m run).opening || ltb max_moment t) ≡ false) where
      pub bag-unfit : bag_fits bag ≡ false → refused 12 ≡ advance_checks m run t bag
      unfolding advance_checks
      bag-unfit b = rw (f, o, b)

      pub let-in : bag_fits bag ≡ true → ok tt ≡ advance_checks m run t bag
      unfolding advance_checks
      let-in b = rw (f, o, b)

-- ---- what the checks leave

module _ (file run : Bytes) (t : ℕ) (bag trace table : Bytes) (m : Model) (e : ok m ≡ accepted file) where
  pub check-refused : (number : ℕ) → refused number ≡ advance_checks m run t bag → refused_advance number run trace table ≡ advance file run t bag trace table
  unfolding advance advanced
  check-refused number r = rw (← e, ← r)

  -- what is let in is advanced
  pub advance-is : advance_checks m run t bag ≡ ok tt
      → advanced run trace table (ok (advance_from (nested m) (length trace) t (to_bag bag) (run_of m run).opening (run_of m run).entries)) ≡ advance file run t bag trace table
  unfolding advance
  advance-is c = rw (← e, c)
