-- Counting in a bag of keys, and the first position that passes a test, as the loops meet them. Assumes nothing.
use Rattle.std.proofs.Common.{◌≡◌, ℕ, suc, ◌+◌, ◌-◌, ◌*◌, ◌/◌, ◌%◌, ◌<◌, ◌≤◌, Bool, true, false, cond, ◌&&◌, eqb, ltb, leb, List, [], ◌∷◌, map, length, get_or, drop, sym, refl, ap, ◌∙◌, subst, add-zero, mod-lt, add-one, arith, drop-cons, le-ltb, lt-ltb, eqb-true, le-leb, leb-false, leb-true}
use mathlib.Core.Option.{none, some}
use native.Mathlib.Nat.{div-add-mod}
use lib.Seq.{drop-length}
use borrow.Author.Tests.{eqb-false, lt-leb}
use Rattle.definition.specs.Lists.{count}
use Rattle.definition.specs.Model.{Message, Rule, RangeReading, inclusive, half_open}
use Rattle.definition.specs.Atomic.{up_to_end, meets}
use Rattle.law_base.specs.Keys.{message_of}
use Rattle.spec_step.specs.TableStep.{first_from}
use Rattle.step_rule.specs.Search.{between, end_ticks}

-- ---- counting

-- one element more
pub count-more : (p : ℕ → Bool) (l : List ℕ) (i n : ℕ) → i < length l
    → cond (p (get_or l i 0)) (n + 1) n + count p (drop (i + 1) l) ≡ n + count p (drop i l)
unfolding count
count-more p l i n h = rw (add-one i, drop-cons l i 0 h) (one (p (get_or l i 0)))
  where
    one : (b : Bool) → cond b (n + 1) n + count p (drop (suc i) l) ≡ n + (cond b 1 0 + count p (drop (suc i) l))
    one true = omega arith
    one false = omega arith

pub count-end : (p : ℕ → Bool) (l : List ℕ) → count p (drop (length l) l) ≡ 0
unfolding count
count-end p l = rw (drop-length l)

-- no key lies between two of which the upper is the lower one
pub none_between : (low high : ℕ) → high < low → (l : List ℕ) → count (between low high) l ≡ 0
unfolding count between
none_between low high h [] = refl
none_between low high h (k ∷ l) = rw (none_between low high h l, apart (leb low k) refl (leb k high) refl)
  where
    apart : (a : Bool) → leb low k ≡ a → (b : Bool) → leb k high ≡ b → (a && b) ≡ false
    apart false e b f = refl
    apart true e false f = refl
    apart true e true f = absurd (omega (arith, leb-true low k e, leb-true k high f))

-- How far a key of 32 bits lies above the lower of two, round the end of 32 bits where it lies below: at most their distance where it lies
-- between them.
pub between-above : (low high key above : ℕ) → low ≤ high → high < 4294967296 → above < 4294967296 → (above + low) % 4294967296 ≡ key
    → leb above (high - low) ≡ between low high key
unfolding between
between-above low high key above h top small e = go (leb above (high - low)) refl (leb low key) refl (leb key high) refl
  where
    whole : 4294967296 * ((above + low) / 4294967296) + key ≡ above + low
    whole = ap (λ r. 4294967296 * ((above + low) / 4294967296) + r) (sym e) ∙ div-add-mod (above + low) 4294967296

    under : key < 4294967296
    under = subst (λ r. r < 4294967296) e (mod-lt (above + low) {m = 4294967296} (omega arith))

    go : (t : Bool) → leb above (high - low) ≡ t → (a : Bool) → leb low key ≡ a → (b : Bool) → leb key high ≡ b → t ≡ (a && b)
    go true u true v true w = refl
    go true u true v false w = absurd (omega (arith, whole, under, leb-true above (high - low) u, leb-true low key v, leb-false key high w))
    go true u false v b w = absurd (omega (arith, whole, under, leb-true above (high - low) u, leb-false low key v))
    go false u true v true w = absurd (omega (arith, whole, under, leb-false above (high - low) u, leb-true low key v, leb-true key high w))
    go false u true v false w = refl
    go false u false v b w = refl

-- a test on keys that is a test on messages
pub count-keys : (p : ℕ → Bool) (q : Message → Bool) → ((k : ℕ) → p k ≡ q (message_of k)) → (l : List ℕ) → count p l ≡ count q (map message_of l)
unfolding count
count-keys p q h [] = refl
count-keys p q h (k ∷ l) = rw (h k, count-keys p q h l)

-- The port and the two ends of the values are two keys.
pub between_meets : (k : Rule) → k.low < 65536 → k.high < 65536 → (key : ℕ)
    → between (k.port * 65536 + k.low) (k.port * 65536 + k.high) key ≡ meets k (message_of key)
unfolding between meets message_of
between_meets k a b key = go (eqb q p) refl (leb k.low r) refl (leb r k.high) refl
  where
    p : ℕ
    p = k.port

    q : ℕ
    q = key / 65536

    r : ℕ
    r = key % 65536

    whole : 65536 * q + r ≡ key
    whole = div-add-mod key 65536

    small : r < 65536
    small = mod-lt key {m = 65536} (omega arith)

    go : (x : Bool) → eqb q p ≡ x → (y : Bool) → leb k.low r ≡ y → (z : Bool) → leb r k.high ≡ z
        → (leb (p * 65536 + k.low) key && leb key (p * 65536 + k.high)) ≡ (x && y && z)
    go true e true f true g =
        let s = eqb-true q p e in
        rw (le-leb (p * 65536 + k.low) key (omega (arith, whole, small, leb-true k.low r f)), le-leb key (p * 65536 + k.high) (omega (arith, whole, small, leb-true r k.high g)))
    go true e true f false g =
        let s = eqb-true q p e in
        rw (le-leb (p * 65536 + k.low) key (omega (arith, whole, small, leb-true k.low r f)), lt-leb key (p * 65536 + k.high) (omega (arith, whole, small, leb-false r k.high g)))
    go true e false f z g =
        let s = eqb-true q p e in
        rw (lt-leb (p * 65536 + k.low) key (omega (arith, whole, small, leb-false k.low r f)))
    go false e y f z g = apart (leb (p * 65536 + k.low) key) refl (leb key (p * 65536 + k.high)) refl
      where
        apart : (u : Bool) → leb (p * 65536 + k.low) key ≡ u → (v : Bool) → leb key (p * 65536 + k.high) ≡ v → (u && v) ≡ false
        apart false m v n = refl
        apart true m false n = refl
        apart true m true n = absurd (eqb-false q p e (omega (arith, whole, small, a, b, leb-true (p * 65536 + k.low) key m, leb-true key (p * 65536 + k.high) n)))

-- ---- the first position

module _ (p : ℕ → Bool) (n i : ℕ) (h : i < n) where
  pub first-here : p i ≡ true → some i ≡ first_from p (n - i) i
  unfolding first_from
  first-here q =
      let e : n - i ≡ suc (n - (i + 1)) = omega arith in
      rw (e, q)

  pub first-later : p i ≡ false → first_from p (n - (i + 1)) (i + 1) ≡ first_from p (n - i) i
  unfolding first_from
  first-later q =
      let e : n - i ≡ suc (n - (i + 1)) = omega arith in
      rw (e, q)

pub first-none : (p : ℕ → Bool) (n i : ℕ) → n ≤ i → none ≡ first_from p (n - i) i
unfolding first_from
first-none p n i h = let z : n - i ≡ 0 = omega arith in rw z

-- ---- the high end of a range

-- below the high end and its ticks is up to the end
pub below_end : (r : RangeReading) (e high : ℕ) → ltb e (high + end_ticks r) ≡ up_to_end r e high
unfolding up_to_end
below_end inclusive e high = go (leb e high) refl
  where
    go : (b : Bool) → leb e high ≡ b → ltb e (high + 1) ≡ b
    go true f = lt-ltb e (high + 1) (omega (arith, leb-true e high f))
    go false f = le-ltb e (high + 1) (omega (arith, leb-false e high f))
below_end half_open e high = ap (ltb e) (add-zero high)
