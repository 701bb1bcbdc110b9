-- The definitions of the record tests in the order in which the code takes them. Assumes nothing.
use mathlib.Core.Path.{◌≡◌, sym}
use mathlib.Core.List.{List}
use mathlib.Core.Bool.{Bool, true, false}
use Prim.Native.Nat.{ℕ, zero, suc, ◌+◌, ◌-◌, ◌<◌}
use native.Mathlib.Omega.{arith}
use native.Mathlib.Numerals.{add-one}
use lib.Dec.{leb}
use lib.ListN.{get_or}
use borrow.Author.Tests.{le-leb, ne_eqb}
use Rattle.definition.specs.Bytes.{ok, refused}
use Rattle.definition.specs.Model.{Component, Coupling, component_at, no_coupling}
use Rattle.definition.specs.Pinned.Decoder.{root_within, not_falling}
use Rattle.sort.proofs.Keys.{coupling-key-order}
use Rattle.model_checks.specs.Reads.{coupling_of_key, checked}
use Rattle.model_checks.specs.Known.{Behind}

pub keeps : {A : Type 0} (b : Bool) (n : ℕ) (a : A) → b ≡ true → checked b n a ≡ ok a
unfolding checked
keeps b n a e = rw e

pub breaks : {A : Type 0} (b : Bool) (n : ℕ) (a : A) → b ≡ false → checked b n a ≡ refused n
unfolding checked
breaks b n a e = rw e

-- A record that is read is the one asked for.
pub read_is : {A : Type 0} (b : Bool) (n : ℕ) (k : A) {a : A} → ok a ≡ checked b n k → a ≡ k
unfolding checked
read_is true n k e = cc
read_is false n k e = let z : ◌≡◌ {A = ℕ} 0 1 = cc in absurd (omega arith)

-- ---- going up to the root

pub root-here : (most : ℕ) (cs : List Component) (c : ℕ) → c ≡ 0 → root_within most cs c ≡ true
unfolding root_within
root-here zero cs c e = rw e
root-here (suc n) cs c e = rw e

pub root_none : (cs : List Component) (c : ℕ) → (c ≡ 0 → ⊥) → root_within 0 cs c ≡ false
unfolding root_within
root_none cs c h = ne_eqb c 0 h

pub root-up : (most : ℕ) (cs : List Component) (c : ℕ) → 0 < most → (c ≡ 0 → ⊥) → root_within most cs c ≡ root_within (most - 1) cs (component_at cs c).parent
unfolding root_within
root-up zero cs c l h = absurd (omega arith)
root-up (suc n) cs c l h = let e : suc n - 1 ≡ n = omega arith in rw (ne_eqb c 0 h, e)

-- ---- the row before

pub behind-falls : (ks : List Coupling) (i before key : ℕ) → Behind ks i before → coupling_of_key key ≡ get_or ks i no_coupling → not_falling ks i ≡ leb before key
unfolding not_falling
behind-falls ks zero before key h e = rw h (sym (le-leb 0 key (omega arith)))
behind-falls ks (suc i) before key h e = rw (← h, ← e) (coupling-key-order before key)

pub behind-next : (ks : List Coupling) (i key : ℕ) → coupling_of_key key ≡ get_or ks i no_coupling → Behind ks (i + 1) key
behind-next ks i key e = rw (add-one i) e
