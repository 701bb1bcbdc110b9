-- The search over a list of structs, one position at a time. Assumes nothing.
use Rattle.std.proofs.Common.{◌≡◌, ℕ, ◌+◌, ◌<◌, ◌≤◌, Bool, true, false, List, map, get_or, ap, ◌∙◌}
use mathlib.Core.Option.{none, some}
use lib.ListN.{get_or-map}
use Rattle.definition.specs.Model.{Bag, RangeReading, no_rule}
use Rattle.definition.specs.Atomic.{holds}
use Rattle.model_records.specs.Values.{rule_of}
use Rattle.model_records.specs.declared.Rule as R
use Rattle.spec_step.specs.TableStep.{deciding_in}
use Rattle.step_rule.proofs.Laws.{first-here, first-later, first-none}

-- what a search reads past the end
abbrev pub zero-rule : R.Rule
zero-rule = record { component = 0; phase = 0; next = 0; port = 0; low = 0; high = 0; least = 0; low_elapsed = 0; high_elapsed = 0 }

module _ (ys : List R.Rule) (r : RangeReading) (c p e : ℕ) (x : Bag) (i end : ℕ) where
  abbrev passes : ℕ → Bool
  passes j = holds r c p e x (get_or (map rule_of ys) j no_rule)

  rule-at : get_or (map rule_of ys) i no_rule ≡ rule_of (get_or ys i zero-rule)
  unfolding no_rule
  rule-at = get_or-map rule_of ys i zero-rule

  pub found_here : i < end → holds r c p e x (rule_of (get_or ys i zero-rule)) ≡ true → some i ≡ deciding_in r (map rule_of ys) i end c p e x
  unfolding deciding_in
  found_here h q = first-here passes end i h (ap (holds r c p e x) rule-at ∙ q)

  pub found-later : i < end → holds r c p e x (rule_of (get_or ys i zero-rule)) ≡ false
      → deciding_in r (map rule_of ys) (i + 1) end c p e x ≡ deciding_in r (map rule_of ys) i end c p e x
  unfolding deciding_in
  found-later h q = first-later passes end i h (ap (holds r c p e x) rule-at ∙ q)

  pub found_none : end ≤ i → none ≡ deciding_in r (map rule_of ys) i end c p e x
  unfolding deciding_in
  found_none h = first-none passes end i h
