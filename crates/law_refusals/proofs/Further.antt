-- What follows the couplings: nothing, a fifth section, or bytes that are no such section, and the decoder finds which. The rules at which
-- its test of ranges fails are those with equal ends. Assumes nothing.
use mathlib.Core.Path.{◌≡◌, refl, sym, ◌∙◌}
use Prim.Native.Nat.{ℕ, ◌≤◌, ◌<◌}
use mathlib.Core.List.{List, [], ◌∷◌, ◌++◌, append-nil}
use mathlib.Core.Bool.{Bool, true, false, not}
use native.Mathlib.Omega.{arith}
use lib.ListN.{length, get_or, drop}
use borrow.Author.Tests.{ltb-false}
use Rattle.definition.specs.Lists.{all}
use Rattle.definition.specs.Bytes.{Bytes, ok, refused, ◌>>=◌, refuse_if}
use Rattle.definition.specs.Limits.{fifth_size}
use Rattle.definition.specs.Model.{Rule, RangeReading, inclusive, half_open, no_rule}
use Rattle.definition.specs.File.{ranges_bytes}
use Rattle.definition.specs.Pinned.Decoder.{is_fifth, fifth_section, elapsed_fits, end_of_file, further_sections}
use Rattle.definition.specs.Sound.{Every, ElapsedKeeps}
use Rattle.definition.specs.Refusals.{Fifth, absent, present}
use Rattle.law_base.proofs.Results.{never-ok}
use Rattle.law_base.proofs.Tests.{clash}
use Rattle.law_model.proofs.Further.{fifth-read, fifth-spelled}
use Rattle.law_refusals.proofs.Tests.{Decides, fails, less, each, every, missed}

-- ---- the section

fifth-told : (s : Bytes) (r : RangeReading) (rest : Bytes) → Fifth s r rest → fifth_section s ≡ ok (record { ranges = r; rest = rest })
fifth-told s r rest (absent e) = unfold fifth_section in (rw e)
fifth-told s r rest (present u e) = rw e (fifth-read u)

-- What turns out to follow the couplings.
pub data Followed (s : Bytes) : Type 0 where
  by_none : ((r : RangeReading) (rest : Bytes) → Fifth s r rest → ⊥) → fifth_section s ≡ refused 20 → Followed s
  by_fifth : (r : RangeReading) (rest : Bytes) → Fifth s r rest → Followed s

pub followed : (s : Bytes) → Followed s
unfolding fifth_section
followed [] = by_fifth inclusive [] (absent refl)
followed (b ∷ s) = go (is_fifth (b ∷ s)) refl
  where
    go : (t : Bool) → is_fifth (b ∷ s) ≡ t → Followed (b ∷ s)
    go true e = by_fifth half_open (drop fifth_size (b ∷ s)) (present _ (fifth-spelled (b ∷ s) e))
    go false e =
        let refuses : fifth_section (b ∷ s) ≡ refused 20 = rw e in
        by_none (λ r rest f. never-ok 20 _ (sym refuses ∙ fifth-told (b ∷ s) r rest f)) refuses

-- ---- its bytes

pub fifth-bytes : (s : Bytes) (r : RangeReading) (rest : Bytes) → Fifth s r rest → s ≡ ranges_bytes r ++ rest
unfolding ranges_bytes
fifth-bytes s r rest (absent e) = e
fifth-bytes s r rest (present u e) = e

pub bytes-fifth : (r : RangeReading) → Fifth (ranges_bytes r) r []
unfolding ranges_bytes
bytes-fifth inclusive = absent refl
bytes-fifth half_open = present [] (sym (append-nil (ranges_bytes half_open)))

-- ---- equal ends

fits-test : (r : RangeReading) (k : Rule) → Decides (elapsed_fits r k) (ElapsedKeeps r k)
unfolding elapsed_fits
fits-test inclusive k = record { holds = λ e. tt; passes = λ h. refl }
fits-test half_open k = less k.low_elapsed k.high_elapsed

pub ends-test : (r : RangeReading) (rs : List Rule) → Decides (all (elapsed_fits r) rs) (Every (ElapsedKeeps r) rs)
ends-test r rs = each (elapsed_fits r) (ElapsedKeeps r) (fits-test r) rs

-- A fifth section was read, and the rule at some place has equal ends.
pub record EqualEnds (r : RangeReading) (rs : List Rule) : Type 0 where
  pub half_open_lem : r ≡ half_open
  pub place : ℕ
  pub there : place < length rs
  pub equal : (get_or rs place no_rule).low_elapsed ≡ (get_or rs place no_rule).high_elapsed

pub equal-fail : (rs : List Rule) (i : ℕ) → i < length rs → (get_or rs i no_rule).low_elapsed ≡ (get_or rs i no_rule).high_elapsed → all (elapsed_fits half_open) rs ≡ false
equal-fail rs i l e = fails (every no_rule (elapsed_fits half_open) (ElapsedKeeps half_open) (fits-test half_open) rs) (λ h. omega (arith, h i l))

-- no low end lies above its high one, as the rules' own section has it
pub fail-equal : (r : RangeReading) (rs : List Rule) → ((i : ℕ) → i < length rs → (get_or rs i no_rule).low_elapsed ≤ (get_or rs i no_rule).high_elapsed)
    → all (elapsed_fits r) rs ≡ false → EqualEnds r rs
unfolding elapsed_fits
fail-equal r rs keeps e = let f = missed no_rule (elapsed_fits r) rs e in go r f.0 f.1 f.2
  where
    go : (r : RangeReading) (i : ℕ) → i < length rs → elapsed_fits r (get_or rs i no_rule) ≡ false → EqualEnds r rs
    go inclusive i l e = absurd (clash ((fits-test inclusive (get_or rs i no_rule)).passes tt) e)
    go half_open i l e =
        let k = get_or rs i no_rule in
        record { half_open_lem = refl; place = i; there = l; equal = omega (arith, keeps i l, ltb-false k.low_elapsed k.high_elapsed e) }

-- ---- all that follows

pub further-none : (rs : List Rule) (s : Bytes) → ((r : RangeReading) (rest : Bytes) → Fifth s r rest → ⊥) → further_sections rs s ≡ refused 20
further-none rs s h = go (followed s)
  where
    go : Followed s → further_sections rs s ≡ refused 20
    go (by_none f e) = unfold further_sections in (rw e)
    go (by_fifth r rest f) = absurd (h r rest f)

-- where a fifth section was found, or nothing: the test of ranges, and the end of the file
pub further-told : (rs : List Rule) (s : Bytes) (r : RangeReading) (rest : Bytes) → Fifth s r rest
    → further_sections rs s ≡ (refuse_if (not (all (elapsed_fits r) rs)) 7 >>= λ _. end_of_file rest >>= λ _. ok r)
unfolding further_sections
further-told rs s r rest f = rw (fifth-told s r rest f)
