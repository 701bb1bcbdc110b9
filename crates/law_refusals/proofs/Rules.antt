-- The decoder's tests of a rule decide the lines of document 01 for it, and a limit alone settles the number of a count.
-- Assumes nothing.
use mathlib.Core.Path.{◌≡◌, refl}
use Prim.Native.Nat.{ℕ}
use mathlib.Core.List.{List}
use mathlib.Core.Bool.{Bool, true, false}
use native.Mathlib.Omega.{arith}
use lib.Dec.{leb, ltb}
use lib.ListN.{length, get_or}
use borrow.Author.Tests.{ltb-true, ltb-false, leb-true, le-leb}
use Rattle.definition.specs.Limits.{max_rules, port_count}
use Rattle.definition.specs.Model.{Component, Rule, no_rule, component_at, is_atomic}
use Rattle.definition.specs.Pinned.Decoder.{to_rule, rule_fields, rule_fits, limit_refusal}
use Rattle.definition.specs.Sound.{Form, RuleKeeps, rule_form}
use Rattle.law_refusals.proofs.Tests.{Decides, less, most, equal, reworded, both}
use Rattle.law_model.proofs.Spellings.{rule-spelled}
use Rattle.law_refusals.proofs.Sections.{Counted, none_applies, over_limit, Reads}

-- ---- a count with a limit alone

pub limit-counted : {A : Type 0} (f : Form A) (limit n : ℕ) → Decides (leb n limit) (f.Within n) → f.Right n → Counted f (limit_refusal limit) n
unfolding limit_refusal
limit-counted f limit n d right = go (ltb limit n) refl
  where
    go : (t : Bool) → ltb limit n ≡ t → Counted f (limit_refusal limit) n
    go true e = over_limit (λ h. omega (arith, leb-true n limit (d.passes h), ltb-true limit n e)) (rw e)
    go false e = none_applies (d.holds (le-leb n limit (ltb-false limit n e))) right (rw e)

-- ---- rules

module _ (cs : List Component) where
  rule-test : (k : Rule) → Decides (rule_fields cs k) (RuleKeeps cs k)
  unfolding rule_fields is_atomic
  rule-test k =
      let c = component_at cs k.component in
      reworded (both (both (both (both (both (both (less k.component (length cs)) (equal c.kind 1)) (less k.phase c.phases))
      (less k.next c.phases)) (less k.port port_count)) (most k.low k.high)) (most k.low_elapsed k.high_elapsed))
      (λ h. record {
        component = h.0.0.0.0.0.0;
        atomic = h.0.0.0.0.0.1;
        phase = h.0.0.0.0.1;
        next = h.0.0.0.1;
        port = h.0.0.1;
        values = h.0.1;
        elapsed = h.1;
      })
      (λ h. ((((((h.component, h.atomic), h.phase), h.next), h.port), h.values), h.elapsed))

  pub rule-reads : Reads (rule_form cs) (limit_refusal max_rules) to_rule (rule_fits cs)
  unfolding rule_fits
  rule-reads = record {
    spelled = rule-spelled;
    small = λ n h. omega arith;
    counted = λ n. limit-counted (rule_form cs) max_rules n (most n max_rules) tt;
    line = λ rs i r l. rule-test (get_or rs i no_rule);
  }
