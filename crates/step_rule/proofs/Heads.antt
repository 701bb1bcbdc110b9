-- A rule's first two bytes against the component and the phase that are searched for, and the rules past the last record. Assumes nothing.
use Rattle.std.proofs.Common.{◌≡◌, ℕ, ◌+◌, ◌-◌, ◌*◌, ◌/◌, ◌<◌, ◌≤◌, Bool, true, false, cond, ◌&&◌, eqb, ltb, leb, length, get_or, sym, refl, ap, ◌∙◌, add-zero, arith, ltb-false, ltb-true, lt-ltb, eq-eqb, ne_eqb, eqb-true}
use mathlib.Core.Option.{none}
use borrow.Author.Tests.{eqb-false}
use Rattle.definition.specs.Bytes.{Bytes}
use Rattle.definition.specs.Lists.{count}
use Rattle.definition.specs.Limits.{rule_size}
use Rattle.definition.specs.Model.{Bag, Rule, RangeReading, no_rule}
use Rattle.definition.specs.Atomic.{within_elapsed, meets, holds}
use Rattle.definition.specs.Pinned.Decoder.{to_rule}
use Rattle.law_bytes.proofs.Rows.{number-one, number-row}
use Rattle.law_bytes.proofs.Records.{record-in, record-out}
use Rattle.model_records.specs.Values.{rules_in}
use Rattle.spec_step.specs.TableStep.{deciding_in}
use Rattle.law_step.proofs.Decided.{first-none}
use Rattle.step_rule.specs.Search.{head_of}

-- two heads are equal where component and phase are; b and q are a rule's bytes
module _ (b q c p : ℕ) (u : b < 256) (v : q < 256) where
  byte-heads : c < 256 → eqb (b + 256 * q) (c + 256 * p) ≡ (eqb b c && eqb q p)
  byte-heads w = go (eqb b c) refl (eqb q p) refl
    where
      go : (m : Bool) → eqb b c ≡ m → (n : Bool) → eqb q p ≡ n → eqb (b + 256 * q) (c + 256 * p) ≡ (m && n)
      go true m true n = eq-eqb (b + 256 * q) (c + 256 * p) (omega (arith, eqb-true b c m, eqb-true q p n))
      go true m false n = ne_eqb (b + 256 * q) (c + 256 * p) (λ h. eqb-false q p n (omega (arith, eqb-true b c m, h)))
      go false m t n = ne_eqb (b + 256 * q) (c + 256 * p) (λ h. eqb-false b c m (omega (arith, h)))

  pub same-heads : eqb (head_of b q) (head_of c p) ≡ (eqb b c && eqb q p)
  unfolding head_of
  same-heads = rw (lt-ltb b 256 u) (go (ltb c 256) refl)
    where
      go : (t : Bool) → ltb c 256 ≡ t → eqb (b + 256 * q) (cond t (c + 256 * p) 65536) ≡ (eqb b c && eqb q p)
      go true h = byte-heads (ltb-true c 256 h)
      go false h = rw (ne_eqb b c (λ k. omega (arith, ltb-false c 256 h, k))) (ne_eqb (b + 256 * q) 65536 (λ k. omega (arith, k)))

module _ (s : Bytes) (r : RangeReading) (c p e : ℕ) (x : Bag) where
  component-byte : (i : ℕ) → i < length s / rule_size → (get_or (rules_in s) i no_rule).component ≡ get_or s (rule_size * i) 0
  unfolding rules_in to_rule
  component-byte i h =
      ap (λ k. k.component) (record-in rule_size to_rule s i no_rule h) ∙ number-row 1 0 rule_size i s (omega arith)
      ∙ rw add-zero (number-one (rule_size * i) s)

  phase-byte : (i : ℕ) → i < length s / rule_size → (get_or (rules_in s) i no_rule).phase ≡ get_or s (rule_size * i + 1) 0
  unfolding rules_in to_rule
  phase-byte i h =
      ap (λ k. k.phase) (record-in rule_size to_rule s i no_rule h) ∙ number-row 1 1 rule_size i s (omega arith) ∙ number-one (rule_size * i + 1) s

  not_named : (k : Rule) → (k.component ≡ c → k.phase ≡ p → ⊥) → holds r c p e x k ≡ false
  unfolding holds
  not_named k g = go (eqb k.component c) refl (eqb k.phase p) refl
    where
      go : (u : Bool) → eqb k.component c ≡ u → (v : Bool) → eqb k.phase p ≡ v
          → (u && v && within_elapsed r k e && leb k.least (count (meets k) x)) ≡ false
      go true m true n = absurd (g (eqb-true k.component c m) (eqb-true k.phase p n))
      go true m false n = refl
      go false m v n = refl

  -- a rule with another head does not hold
  pub other-head : (i : ℕ) → i < length s / rule_size → get_or s (rule_size * i) 0 < 256
      → (get_or s (rule_size * i) 0 + 256 * get_or s (rule_size * i + 1) 0 ≡ head_of c p → ⊥) → holds r c p e x (get_or (rules_in s) i no_rule) ≡ false
  unfolding head_of
  other-head i h b g =
      not_named (get_or (rules_in s) i no_rule) (λ u v.
      let a : get_or s (rule_size * i) 0 ≡ c = sym (component-byte i h) ∙ u in
      let d : get_or s (rule_size * i + 1) 0 ≡ p = sym (phase-byte i h) ∙ v in
      g (rw (lt-ltb c 256 (omega arith)) (omega arith)))

  rule-past : (i : ℕ) → length s / rule_size ≤ i → get_or (rules_in s) i no_rule ≡ no_rule
  unfolding rules_in
  rule-past i h = record-out rule_size to_rule s i no_rule h

  -- past the last record the first rule holds or none does
  pub none-past : (i end : ℕ) → length s / rule_size ≤ i → holds r c p e x (get_or (rules_in s) i no_rule) ≡ false → none ≡ deciding_in r (rules_in s) i end c p e x
  unfolding deciding_in
  none-past i end h q = sym (first-none _ (end - i) i (λ j a b. ap (holds r c p e x) (rule-past j (omega arith) ∙ sym (rule-past i h)) ∙ q))
