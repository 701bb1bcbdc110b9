-- One region of the words written or read, and the others as they were. Assumes nothing.
use mathlib.Core.Path.{◌≡◌, ◌∙◌, ap, ap₂, refl, sym}
use Prim.Native.Nat.{ℕ, zero, suc, ◌+◌, ◌*◌, ◌-◌, ◌^◌, ◌≤◌, ◌<◌}
use mathlib.Core.List.{List, [], ◌∷◌, map}
use native.Mathlib.Omega.{arith}
use lib.Bits.{bit_or, bit_xor}
use lib.ListN.{get_or, set, take, drop, length, replicate, length-map, length-drop, get_or-map}
use lib.Seq.{take-set-lt, take-set-le, drop-set-add, drop-set-lt, get_or-take, get_or-drop, get_or-set_same, get_or-set_other, set-get_or, length-take-le}
use Rattle.definition.specs.Limits.{max_components, no_position}
use Rattle.run_state.specs.declared.State.{State}
use Rattle.run_state.specs.Held.{last_at, end_at, next_due_at, told_at, state_size, row, byte_of, rule_beside, rules_beside, where_set, bits_in, held_in, last_rules_in, ends_in, next_in, changed_at, EntryPut, NoRulePut, LedPut, RulesCleared, EndPut, NextPut}
use Rattle.run_state.proofs.Bits.{set-put, set-gone, set-none, set-length}

-- Place p is the i-th of a region.
pub row_read : (at i p : ℕ) (w : List ℕ) → p ≡ at + i → i < max_components → get_or (row at w) i 0 ≡ get_or w p 0
unfolding row
row_read at i p w e h = get_or-take max_components (drop at w) i 0 h ∙ get_or-drop at w i 0 ∙ ap (λ q. get_or w q 0) (sym e)

-- what a word of the first region tells by a view of it
pub view-read : (f : ℕ → ℕ) (i : ℕ) (w : List ℕ) → f 0 ≡ 0 → i < max_components → f (get_or w i 0) ≡ get_or (map f (row 0 w)) i 0
view-read f i w e h = sym (ap (get_or (map f (row 0 w)) i) (sym e) ∙ get_or-map f (row 0 w) i 0 ∙ ap f (row_read 0 i i w (omega arith) h))

pub row_put : (at i p v : ℕ) (w : List ℕ) → p ≡ at + i → i < max_components → row at (set w p v) ≡ set (row at w) i v
unfolding row
row_put at i p v w e h =
    ap (λ q. take max_components (drop at (set w q v))) e ∙ ap (take max_components) (drop-set-add at w i v) ∙ take-set-lt max_components (drop at w) i v h

-- Place p is none of a region.
pub row_before : (at p v : ℕ) (w : List ℕ) → p < at → row at (set w p v) ≡ row at w
unfolding row
row_before at p v w h = ap (take max_components) (drop-set-lt at w p v h)

pub row-after : (at p v : ℕ) (w : List ℕ) → at + max_components ≤ p → row at (set w p v) ≡ row at w
unfolding row
row-after at p v w h =
    let e : p ≡ at + (p - at) = omega arith in
    ap (λ q. take max_components (drop at (set w q v))) e ∙ ap (take max_components) (drop-set-add at w (p - at) v) ∙ take-set-le max_components (drop at w) (p - at) v (omega arith)

-- ---- what each view shows after one store

state : List ℕ → List ℕ → State
state phases lasts = record { phase = phases; last = lasts }

record Shows (w ps ls rs : List ℕ) (m : ℕ) (es : List ℕ) (due : ℕ) : Type 0 where
  pub phases : (held_in w).phase ≡ ps
  pub lasts : (held_in w).last ≡ ls
  pub beside : rules_beside w ≡ rs
  pub bits : bits_in w ≡ m
  pub ends : ends_in w ≡ es
  pub next : next_in w ≡ due

-- a phase and a rule in one word
byte-packed : (p r : ℕ) → p < 256 → byte_of (p + 256 * r) ≡ p
unfolding byte_of
byte-packed p r b = omega arith

rule-packed : (p r : ℕ) → p < 256 → r < 65536 → rule_beside (p + 256 * r) ≡ r
unfolding rule_beside
rule-packed p r b c = omega arith

set-map : (f : ℕ → ℕ) (l : List ℕ) (i v y : ℕ) → f v ≡ y → map f (set l i v) ≡ set (map f l) i y
set-map f [] i v y e = refl
set-map f (x ∷ xs) zero v y e = ap (λ z. z ∷ map f xs) e
set-map f (x ∷ xs) (suc i) v y e = ap (λ l. f x ∷ l) (set-map f xs i v y e)

word-put : (i p r : ℕ) (w : List ℕ) → i < max_components → p < 256 → r < 65536
    → Shows (set w i (p + 256 * r)) (set (held_in w).phase i p) (held_in w).last (set (rules_beside w) i r) (bits_in w) (ends_in w) (next_in w)
unfolding held_in rules_beside bits_in ends_in next_in
word-put i p r w h b c =
    let v = p + 256 * r in
    let first = row_put 0 i i v w (omega arith) h in
    record {
      phases = ap (map byte_of) first ∙ set-map byte_of (row 0 w) i v p (byte-packed p r b);
      lasts = row_before last_at i v w h;
      beside = ap (map rule_beside) first ∙ set-map rule_beside (row 0 w) i v r (rule-packed p r b c);
      bits = get_or-set_other w i told_at v 0 (λ e. omega (arith, e));
      ends = row_before end_at i v w (omega arith);
      next = get_or-set_other w i next_due_at v 0 (λ e. omega (arith, e));
    }

-- a store past the first region
module _ (at v : ℕ) (w : List ℕ) (past : max_components ≤ at) where
  phases-kept : (held_in (set w at v)).phase ≡ (held_in w).phase
  unfolding held_in
  phases-kept = ap (map byte_of) (row-after 0 at v w (omega arith))

  beside-kept : rules_beside (set w at v) ≡ rules_beside w
  unfolding rules_beside
  beside-kept = ap (map rule_beside) (row-after 0 at v w (omega arith))

last-put : (i m : ℕ) (w : List ℕ) → i < max_components
    → Shows (set w (last_at + i) m) (held_in w).phase (set (held_in w).last i m) (rules_beside w) (bits_in w) (ends_in w) (next_in w)
unfolding held_in bits_in ends_in next_in
last-put i m w h = record {
  phases = phases-kept (last_at + i) m w (omega arith);
  lasts = row_put last_at i (last_at + i) m w refl h;
  beside = beside-kept (last_at + i) m w (omega arith);
  bits = get_or-set_other w (last_at + i) told_at m 0 (λ e. omega (arith, e));
  ends = row_before end_at (last_at + i) m w (omega arith);
  next = get_or-set_other w (last_at + i) next_due_at m 0 (λ e. omega (arith, e));
}

bits_put : (v : ℕ) (w : List ℕ) → length w ≡ state_size
    → Shows (set w told_at v) (held_in w).phase (held_in w).last (rules_beside w) v (ends_in w) (next_in w)
unfolding held_in bits_in ends_in next_in
bits_put v w n = record {
  phases = phases-kept told_at v w (omega arith);
  lasts = row-after last_at told_at v w (omega arith);
  beside = beside-kept told_at v w (omega arith);
  bits = get_or-set_same w told_at v 0 (omega (arith, n));
  ends = row-after end_at told_at v w (omega arith);
  next = get_or-set_other w told_at next_due_at v 0 (λ e. omega (arith, e));
}

-- ---- what each function leaves

pub end-put : (i v : ℕ) (w : List ℕ) → i < max_components → EndPut w (set w (end_at + i) v) i v
unfolding held_in last_rules_in bits_in ends_in next_in state
end-put i v w h = record {
  held = ap₂ state (phases-kept (end_at + i) v w (omega arith)) (row-after last_at (end_at + i) v w (omega arith));
  rules = ap₂ where_set (get_or-set_other w (end_at + i) told_at v 0 (λ e. omega (arith, e))) (beside-kept (end_at + i) v w (omega arith));
  ends = row_put end_at i (end_at + i) v w refl h;
  next = get_or-set_other w (end_at + i) next_due_at v 0 (λ e. omega (arith, e));
}

pub next-put : (v : ℕ) (w : List ℕ) → length w ≡ state_size → NextPut w (set w next_due_at v) v
unfolding held_in last_rules_in bits_in ends_in next_in state
next-put v w n = record {
  held = ap₂ state (phases-kept next_due_at v w (omega arith)) (row-after last_at next_due_at v w (omega arith));
  rules = ap₂ where_set (get_or-set_other w next_due_at told_at v 0 (λ e. omega (arith, e))) (beside-kept next_due_at v w (omega arith));
  ends = row-after end_at next_due_at v w (omega arith);
  next = get_or-set_same w next_due_at v 0 (omega (arith, n));
}

pub entry-put : (i p r m : ℕ) (w : List ℕ) → i < max_components → p < 256 → r < 65536 → r ≡ get_or (rules_beside w) i 0
    → EntryPut w (set (set w i (p + 256 * r)) (last_at + i) m) i p m
unfolding last_rules_in changed_at state
entry-put i p r m w h b c own =
    let word = word-put i p r w h b c in
    let last = last-put i m (set w i (p + 256 * r)) h in
    record {
      held = ap₂ state (last.phases ∙ word.phases) (last.lasts ∙ ap (λ l. set l i m) word.lasts);
      rules = ap₂ where_set (last.bits ∙ word.bits) (last.beside ∙ word.beside ∙ ap (set (rules_beside w) i) own ∙ set-get_or (rules_beside w) i 0);
      ends = last.ends ∙ word.ends;
      next = last.next ∙ word.next;
    }

beside-length : (w : List ℕ) → length (last_rules_in w) ≡ length (rules_beside w)
unfolding last_rules_in
beside-length w = set-length (bits_in w) (rules_beside w)

pub rules-cleared : (w : List ℕ) → length w ≡ state_size → RulesCleared w (set w told_at 0)
unfolding last_rules_in state
rules-cleared w n =
    let none = bits_put 0 w n in
    record {
      held = ap₂ state none.phases none.lasts;
      rules = ap₂ where_set none.bits none.beside ∙ set-none (rules_beside w) ∙ ap (λ k. replicate k no_position) (sym (beside-length w));
      ends = none.ends;
      next = none.next;
    }

-- the words with the bit of a position set
abbrev pub with_bit : List ℕ → ℕ → List ℕ
with_bit w i = set w told_at (bit_or (bits_in w) (2 ^ i))

pub no-rule-put : (i : ℕ) (w : List ℕ) → length w ≡ state_size → NoRulePut w (set w told_at (bit_xor (bit_or (bits_in w) (2 ^ i)) (2 ^ i))) i
unfolding last_rules_in state
no-rule-put i w n =
    let bit = bits_put (bit_xor (bit_or (bits_in w) (2 ^ i)) (2 ^ i)) w n in
    record {
      held = ap₂ state bit.phases bit.lasts;
      rules = ap₂ where_set bit.bits bit.beside ∙ set-gone (bits_in w) (rules_beside w) i;
      ends = bit.ends;
      next = bit.next;
    }

pub led-put : (i p r m : ℕ) (w : List ℕ) → length w ≡ state_size → i < max_components → p < 256 → r < 65536
    → LedPut w (set (set (with_bit w i) i (p + 256 * r)) (last_at + i) m) i p m r
unfolding last_rules_in changed_at state
led-put i p r m w n h b c =
    let bit = bits_put (bit_or (bits_in w) (2 ^ i)) w n in
    let word = word-put i p r (with_bit w i) h b c in
    let last = last-put i m (set (with_bit w i) i (p + 256 * r)) h in
    record {
      held =
          ap₂ state (last.phases ∙ word.phases ∙ ap (λ l. set l i p) bit.phases)
          (last.lasts ∙ ap (λ l. set l i m) (word.lasts ∙ bit.lasts));
      rules = ap₂ where_set (last.bits ∙ word.bits ∙ bit.bits) (last.beside ∙ word.beside ∙ ap (λ l. set l i r) bit.beside) ∙ set-put (bits_in w) (rules_beside w) i r;
      ends = last.ends ∙ word.ends ∙ bit.ends;
      next = last.next ∙ word.next ∙ bit.next;
    }

-- ---- every region has a place for each position

row-size : (at : ℕ) (w : List ℕ) → at + max_components ≤ length w → length (row at w) ≡ max_components
unfolding row
row-size at w h = length-take-le max_components (drop at w) (omega (arith, length-drop at w))

pub held-size : (w : List ℕ) → length w ≡ state_size → (length (held_in w).phase ≡ max_components) × (length (held_in w).last ≡ max_components)
unfolding held_in
held-size w n = (length-map (row 0 w) byte_of ∙ row-size 0 w (omega (arith, n)), row-size last_at w (omega (arith, n)))

pub ends-size : (w : List ℕ) → length w ≡ state_size → length (ends_in w) ≡ max_components
unfolding ends_in
ends-size w n = row-size end_at w (omega (arith, n))

pub beside-size : (w : List ℕ) → length w ≡ state_size → length (rules_beside w) ≡ max_components
unfolding rules_beside
beside-size w n = length-map (row 0 w) rule_beside ∙ row-size 0 w (omega (arith, n))

pub rules_size : (w : List ℕ) → length w ≡ state_size → length (last_rules_in w) ≡ max_components
rules_size w n = beside-length w ∙ beside-size w n
