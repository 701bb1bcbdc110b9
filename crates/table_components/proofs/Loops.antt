-- One turn of each loop that fills tables by component or by rule, and its end. Assumes nothing.
use mathlib.Core.Path.{◌≡◌, refl}
use Prim.Native.Nat.{ℕ, zero, suc, ◌+◌, ◌-◌, ◌<◌, ◌≤◌}
use mathlib.Core.List.{List, [], ◌∷◌}
use native.Mathlib.Omega.{arith}
use native.Mathlib.Numerals.{add-one}
use mathlib.Core.Bool.{Bool, true, false, cond}
use lib.ListN.{length, set}
use Rattle.definition.specs.Limits.{max_components}
use Rattle.definition.specs.Lists.{sum}
use Rattle.definition.specs.Model.{Component, Rule, component_at, is_atomic}
use Rattle.spec_step.specs.Tables.{numbers_at, rules_from_at, rules_to_at}
use Rattle.table_words.specs.Writes.{put_in}
use Rattle.table_components.specs.declared.Field.{Field}
use Rattle.table_components.specs.Columns.{field_at, fields_before, number_at, numbered, rule_names, rule_starts, rule_ends}

-- one component more before
fields-suc : (which : Field) (cs : List Component) (c : ℕ) → c < length cs → fields_before which cs (suc c) ≡ fields_before which cs c + field_at which cs c
unfolding fields_before field_at component_at sum
fields-suc which [] c h = absurd (omega arith)
fields-suc which (k ∷ cs) zero h = omega arith
fields-suc which (k ∷ cs) (suc c) h = omega (arith, fields-suc which cs c (omega arith))

pub fields-more : (which : Field) (cs : List Component) (c : ℕ) → c < length cs → fields_before which cs (c + 1) ≡ fields_before which cs c + field_at which cs c
fields-more which cs c h = rw (add-one c) (fields-suc which cs c h)

pub fields-none : (which : Field) (cs : List Component) → fields_before which cs 0 ≡ 0
unfolding fields_before sum
fields-none which cs = refl

module _ (cs : List Component) (n : ℕ) where
  pub numbered_more : (c : ℕ) (st : List ℕ × ℕ) → c < n → numbered cs (n - (c + 1)) (c + 1) (number_at cs c st) ≡ numbered cs (n - c) c st
  unfolding numbered
  numbered_more c st h = let e : n - c ≡ suc (n - (c + 1)) = omega arith in rw e

  -- at most one position more
  pub number-most : (c : ℕ) (st : List ℕ × ℕ) → (number_at cs c st).1 ≤ st.1 + 1
  unfolding number_at
  number-most c st = go (is_atomic cs c)
    where
      go : (b : Bool) → (cond b (set st.0 (numbers_at + st.1) c, st.1 + 1) st).1 ≤ st.1 + 1
      go true = omega arith
      go false = omega arith

  pub numbered-end : (c : ℕ) (st : List ℕ × ℕ) → n ≤ c → numbered cs (n - c) c st ≡ st
  unfolding numbered
  numbered-end c st h = let e : n - c ≡ 0 = omega arith in rw e

module _ (rs : List Rule) where
  pub starts_more : (i : ℕ) (t : List ℕ) → 0 < i → rule_starts rs (i - 1) (put_in rules_from_at max_components (rule_names rs (i - 1)) (i - 1) t) ≡ rule_starts rs i t
  unfolding rule_starts
  starts_more zero t h = absurd (omega arith)
  starts_more (suc i) t h = let e : suc i - 1 ≡ i = omega arith in rw e

  pub starts-end : (i : ℕ) (t : List ℕ) → i ≡ 0 → rule_starts rs i t ≡ t
  unfolding rule_starts
  starts-end i t e = rw e

  pub ends_more : (n i : ℕ) (t : List ℕ) → i < n → rule_ends rs (n - (i + 1)) (i + 1) (put_in rules_to_at max_components (rule_names rs i) (i + 1) t) ≡ rule_ends rs (n - i) i t
  unfolding rule_ends
  ends_more n i t h = let e : n - i ≡ suc (n - (i + 1)) = omega arith in rw e

  pub ends-end : (n i : ℕ) (t : List ℕ) → n ≤ i → rule_ends rs (n - i) i t ≡ t
  unfolding rule_ends
  ends-end n i t h = let e : n - i ≡ 0 = omega arith in rw e
