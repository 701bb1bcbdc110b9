-- The messages at given places as a loop of n turns meets them after i: one more, one that does not pass, none left. Assumes nothing.
use mathlib.Core.Path.{◌≡◌, refl, sym, ap, ◌∙◌}
use Prim.Native.Nat.{ℕ, zero, suc, ◌+◌, ◌-◌, ◌≤◌, ◌<◌}
use mathlib.Core.List.{[], ◌∷◌}
use Rattle.std.specs.Prelude.{Option}
use mathlib.Core.Bool.{Bool, true, false, ◌&&◌, not}
use native.Mathlib.Omega.{arith}
use lib.Dec.{leb, ltb, eqb}
use lib.ListN.{length}
use lib.Seq.{sets}
use borrow.Author.Tests.{lt-ltb, le-ltb, le-leb, lt-leb, eq-eqb, ne_eqb}
use Rattle.definition.specs.Bytes.{Bytes, number_at, bytes_of}
use Rattle.definition.specs.Limits.{port_count}
use Rattle.definition.specs.Model.{Message, Bag}
use Rattle.law_base.specs.Keys.{key_of}
use Rattle.law_columns.specs.ByPosition.{keys_rise}
use Rattle.columns_records.specs.declared.Apart.{Apart}
use Rattle.columns_records.specs.declared.Places.{Places}
use Rattle.columns_records.specs.declared.Pair.{Pair}
use Rattle.columns_records.specs.Places.{messages_at, pair_above, fits_after, messages_put, MessagesWithin}

abbrev pub message_here : ℕ → ℕ → Bytes → Message
message_here p v s = record { port = number_at 1 p s; value = number_at 2 v s }

abbrev pub key_here : ℕ → ℕ → Bytes → ℕ
key_here p v s = key_of (number_at 1 p s) (number_at 2 v s)

pub messages-more : (a : Apart) (p v n i : ℕ) (s : Bytes) → i < n
    → messages_at a p v (n - i) s ≡ message_here p v s ∷ messages_at a (p + a.ports) (v + a.values) (n - (i + 1)) s
unfolding messages_at
messages-more a p v n i s l = let e : n - i ≡ suc (n - (i + 1)) = omega arith in rw e

pub messages-none : (a : Apart) (p v n i : ℕ) (s : Bytes) → n ≤ i → messages_at a p v (n - i) s ≡ []
unfolding messages_at
messages-none a p v n i s l = let e : n - i ≡ 0 = omega arith in rw e

-- As many messages as were asked for.
pub length-messages : (a : Apart) (p v n : ℕ) (s : Bytes) → length (messages_at a p v n s) ≡ n
unfolding messages_at
length-messages a p v zero s = refl
length-messages a p v (suc n) s = ap suc (length-messages a (p + a.ports) (v + a.values) n s)

pub within_more : (size : ℕ) (a : Apart) (p v n i : ℕ) → i < n → MessagesWithin size a p v (n - i)
    → (p < size) × (v + 2 ≤ size) × MessagesWithin size a (p + a.ports) (v + a.values) (n - (i + 1))
within_more size a p v n i l w = let e : n - i ≡ suc (n - (i + 1)) = omega arith in rw e at w

-- ---- the messages judged

module _ (a : Apart) (p v n i low : ℕ) (s : Bytes) where
  abbrev tail : Bag
  tail = messages_at a (p + a.ports) (v + a.values) (n - (i + 1)) s

  opened : i < n
      → keys_rise low (messages_at a p v (n - i) s) ≡ (ltb (number_at 1 p s) port_count && leb low (key_here p v s) && keys_rise (key_here p v s) tail)
  unfolding keys_rise
  opened l = ap (keys_rise low) (messages-more a p v n i s l)

  pub rise-more : i < n → number_at 1 p s < port_count → low ≤ key_here p v s → keys_rise (key_here p v s) tail ≡ keys_rise low (messages_at a p v (n - i) s)
  rise-more l h k = sym (opened l ∙ rw (lt-ltb (number_at 1 p s) port_count h, le-leb low (key_here p v s) k))

  pub rise-port : i < n → port_count ≤ number_at 1 p s → keys_rise low (messages_at a p v (n - i) s) ≡ false
  rise-port l h = opened l ∙ rw (le-ltb (number_at 1 p s) port_count h)

  pub rise-fall : i < n → key_here p v s < low → keys_rise low (messages_at a p v (n - i) s) ≡ false
  rise-fall l k = opened l ∙ rw (lt-leb low (key_here p v s) k) (none (ltb (number_at 1 p s) port_count))
    where
      none : (b : Bool) → b && false && keys_rise (key_here p v s) tail ≡ false
      none true = refl
      none false = refl

  pub rise-end : n ≤ i → keys_rise low (messages_at a p v (n - i) s) ≡ true
  unfolding keys_rise
  rise-end l = ap (keys_rise low) (messages-none a p v n i s l)

  -- The same where the messages before passed or did not: one more, none left.
  pub judged-more : i < n → (b : Bool) → (b && (ltb (number_at 1 p s) port_count && leb low (key_here p v s))) && keys_rise (key_here p v s) tail ≡ b && keys_rise low (messages_at a p v (n - i) s)
  judged-more l b = grouped b (ltb (number_at 1 p s) port_count) ∙ ap (λ r. b && r) (sym (opened l))
    where
      grouped : (b c : Bool) → (b && (c && leb low (key_here p v s))) && keys_rise (key_here p v s) tail ≡ b && (c && leb low (key_here p v s) && keys_rise (key_here p v s) tail)
      grouped true true = refl
      grouped true false = refl
      grouped false c = refl

  pub judged-end : n ≤ i → (b : Bool) → b && keys_rise low (messages_at a p v (n - i) s) ≡ b
  judged-end l true = rise-end l
  judged-end l false = refl

-- ---- the record judged

module _ (l : Option Pair) (a : Apart) (at : Places) (s : Bytes) where
  abbrev pub count_here : ℕ
  count_here = number_at 2 at.count s

  abbrev pub pair_here : Bool
  pair_here = pair_above l (number_at 8 at.moment s) (number_at 2 at.step s)

  pub fits-empty : count_here ≡ 0 → fits_after l a at s ≡ false
  unfolding fits_after
  fits-empty e = rw (eq-eqb count_here 0 e)

  pub fits-pair : pair_here ≡ false → fits_after l a at s ≡ false
  unfolding fits_after
  fits-pair e = rw e (none (not (eqb count_here 0)))
    where
      none : (b : Bool) → b && false && keys_rise 0 (messages_at a at.ports at.values count_here s) ≡ false
      none true = refl
      none false = refl

  pub fits-rise : (count_here ≡ 0 → ⊥) → pair_here ≡ true → fits_after l a at s ≡ keys_rise 0 (messages_at a at.ports at.values count_here s)
  unfolding fits_after
  fits-rise n e = rw (ne_eqb count_here 0 n, e)

-- ---- the messages put

module _ (a b : Apart) (p v q w n i : ℕ) (s out : Bytes) where
  pub put-more : i < n
      → messages_put b (q + b.ports) (w + b.values) (messages_at a (p + a.ports) (v + a.values) (n - (i + 1)) s)
      (sets (sets out q (bytes_of 1 (number_at 1 p s))) w (bytes_of 2 (number_at 2 v s)))
      ≡ messages_put b q w (messages_at a p v (n - i) s) out
  unfolding messages_put
  put-more l = sym (ap (λ xs. messages_put b q w xs out) (messages-more a p v n i s l))

  pub put-end : n ≤ i → messages_put b q w (messages_at a p v (n - i) s) out ≡ out
  unfolding messages_put
  put-end l = ap (λ xs. messages_put b q w xs out) (messages-none a p v n i s l)
