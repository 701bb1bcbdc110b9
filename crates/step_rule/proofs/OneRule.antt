-- One step of the search, and the search at one position alone: what it finds there, as a position of the section. Assumes nothing.
use Rattle.std.proofs.Common.{◌≡◌, ℕ, ◌+◌, ◌<◌, Bool, true, false, cond, List, [], ◌∷◌, get_or, sym, refl, ap, ◌∙◌, add-zero, arith}
use mathlib.Core.Option.{Option, none, some}
use Rattle.definition.specs.Model.{Bag, Rule, RangeReading, no_rule}
use Rattle.definition.specs.Atomic.{holds}
use Rattle.spec_step.specs.TableStep.{deciding_in}
use Rattle.step_rule.proofs.Laws.{first-here, first-later, first-none}

-- a position, i further on
abbrev pub moved : ℕ → Option ℕ → Option ℕ
moved i none = none
moved i (some j) = some (i + j)

-- what is found first, or else what is found later
abbrev pub or_else : Option ℕ → Option ℕ → Option ℕ
or_else none b = b
or_else (some j) b = some j

module _ (r : RangeReading) (c p e : ℕ) (x : Bag) where
  one-step : (rs : List Rule) (i end : ℕ) → i < end
      → deciding_in r rs i end c p e x ≡ cond (holds r c p e x (get_or rs i no_rule)) (some i) (deciding_in r rs (i + 1) end c p e x)
  unfolding deciding_in
  one-step rs i end h = go (passes i) refl
    where
      passes : ℕ → Bool
      passes j = holds r c p e x (get_or rs j no_rule)

      go : (b : Bool) → passes i ≡ b → deciding_in r rs i end c p e x ≡ cond b (some i) (deciding_in r rs (i + 1) end c p e x)
      go true q = sym (first-here passes end i h q)
      go false q = sym (first-later passes end i h q)

  -- at one position alone
  pub one-position : (rs : List Rule) (i : ℕ) → deciding_in r rs i (i + 1) c p e x ≡ cond (holds r c p e x (get_or rs i no_rule)) (some i) none
  unfolding deciding_in
  one-position rs i =
      one-step rs i (i + 1) (omega arith)
      ∙ ap (cond (holds r c p e x (get_or rs i no_rule)) (some i)) (sym (first-none (λ j. holds r c p e x (get_or rs j no_rule)) (i + 1) (i + 1) (omega arith)))

  pub first_alone : (ks : List Rule) (j : ℕ) → some j ≡ deciding_in r ks 0 1 c p e x → j ≡ 0
  first_alone ks j h = go (holds r c p e x (get_or ks 0 no_rule)) (h ∙ one-position ks 0)
    where
      go : (b : Bool) → some j ≡ cond b (some 0) none → j ≡ 0
      go true q = cc
      go false q = cc

  -- what is found in a list of one rule, which stands at i of the section
  pub one-moved : (rs : List Rule) (i : ℕ) (k : Rule) (found : Option ℕ) → k ≡ get_or rs i no_rule
      → found ≡ deciding_in r (k ∷ []) 0 1 c p e x → moved i found ≡ deciding_in r rs i (i + 1) c p e x
  one-moved rs i k found same h =
      ap (moved i) (h ∙ one-position (k ∷ []) 0) ∙ there (holds r c p e x k) ∙ ap (λ l. cond (holds r c p e x l) (some i) none) same ∙ sym (one-position rs i)
    where
      there : (b : Bool) → moved i (cond b (some 0) none) ≡ cond b (some i) none
      there true = ap some (add-zero i)
      there false = refl

  -- what is found at i is found; where nothing is, the rest decides
  pub one_more : (rs : List Rule) (i end : ℕ) (found : Option ℕ) → i < end → found ≡ deciding_in r rs i (i + 1) c p e x
      → or_else found (deciding_in r rs (i + 1) end c p e x) ≡ deciding_in r rs i end c p e x
  one_more rs i end found h q =
      ap (λ f. or_else f (deciding_in r rs (i + 1) end c p e x)) (q ∙ one-position rs i) ∙ there (holds r c p e x (get_or rs i no_rule)) ∙ sym (one-step rs i end h)
    where
      there : (b : Bool) → or_else (cond b (some i) none) (deciding_in r rs (i + 1) end c p e x) ≡ cond b (some i) (deciding_in r rs (i + 1) end c p e x)
      there true = refl
      there false = refl
