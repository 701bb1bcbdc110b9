-- The definition's last lines of a file as the tests that the code makes, one after the other. Assumes nothing.
use mathlib.Core.Path.{◌≡◌, refl, sym}
use Prim.Native.Nat.{◌≤◌, ◌<◌}
use mathlib.Core.List.{List, [], ◌∷◌}
use mathlib.Core.Bool.{true, false}
use native.Mathlib.Omega.{arith}
use lib.ListN.{length, drop, length-drop}
use borrow.Author.Tests.{lt-ltb, le-ltb}
use Rattle.definition.specs.Lists.{all}
use Rattle.definition.specs.Bytes.{Bytes, ok, refused}
use Rattle.definition.specs.Limits.{fifth_size}
use Rattle.definition.specs.Model.{Rule, inclusive, half_open}
use Rattle.definition.specs.Pinned.Decoder.{is_fifth, fifth_section, elapsed_fits, end_of_file, further_sections}
use Rattle.law_base.proofs.Lists.{all-every}
use Rattle.law_model.proofs.Further.{in_order_lem}

module _ (rs : List Rule) where
  -- nothing follows the couplings
  pub nothing-follows : (s : Bytes) → length s ≡ 0 → ok inclusive ≡ further_sections rs s
  unfolding further_sections fifth_section end_of_file elapsed_fits
  nothing-follows [] e = rw (all-every {A = Rule} (λ k. true) rs (λ k. refl))
  nothing-follows (b ∷ s) e = absurd (omega arith)

  module _ (s : Bytes) (some : length s ≡ 0 → ⊥) where
    pub no-section : is_fifth s ≡ false → refused 20 ≡ further_sections rs s
    no-section e = sym (rw (in_order_lem rs s some, e))

    pub equal_ends : is_fifth s ≡ true → all (elapsed_fits half_open) rs ≡ false → refused 7 ≡ further_sections rs s
    equal_ends e f = sym (rw (in_order_lem rs s some, e, f))

  -- a fifth section that no test refuses
  pub record Present (s : Bytes) : Type 0 where
    pub some : length s ≡ 0 → ⊥
    pub fifth : is_fifth s ≡ true
    pub differ : all (elapsed_fits half_open) rs ≡ true

  pub left_over : (s : Bytes) → Present s → fifth_size < length s → refused 2 ≡ further_sections rs s
  unfolding end_of_file
  left_over s p l = sym (rw (in_order_lem rs s p.some, p.fifth, p.differ, lt-ltb 0 (length (drop fifth_size s)) (omega (arith, length-drop fifth_size s))))

  pub half_open_lem : (s : Bytes) → Present s → length s ≤ fifth_size → ok half_open ≡ further_sections rs s
  unfolding end_of_file
  half_open_lem s p l = sym (rw (in_order_lem rs s p.some, p.fifth, p.differ, le-ltb 0 (length (drop fifth_size s)) (omega (arith, length-drop fifth_size s))))
