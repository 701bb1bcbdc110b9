-- What the flat machine's copy carries beside the entries is what decided in the steps taken so far, the later over the earlier; and what it
-- writes into the table is what the definition writes. Assumes nothing.
use mathlib.Core.Path.{◌≡◌, refl, sym, ap, ap₂, ◌∙◌}
use mathlib.Core.Logic.{◌⊎◌, inl, inr}
use Prim.Native.Nat.{ℕ, zero, suc}
use mathlib.Core.List.{List, [], ◌∷◌, map}
use mathlib.Core.Bool.{Bool, true, false, ◌||◌, not, cond}
use native.Mathlib.Omega.{arith}
use lib.ListN.{length, replicate}
use Rattle.definition.specs.Lists.{all, is_empty}
use Rattle.definition.specs.Bytes.{Bytes}
use Rattle.definition.specs.Limits.{no_position}
use Rattle.definition.specs.Model.{Bag, Model, atomics}
use Rattle.definition.specs.Records.{port_fits}
use Rattle.definition.specs.SavedRun.{Entry}
use Rattle.definition.specs.Step.{Output, Stepped}
use Rattle.definition.specs.Instant.{instant_parts, instant_rules}
use Rattle.definition.specs.Engine.{table_bytes}
use Rattle.definition.specs.Flatten.{flat}
use Rattle.definition.specs.FlatMachine.{Copy, Sent, due_now, arriving, rules_after, copied, flat_step, any_due, take_steps, table_with}
use Rattle.law_base.specs.Overlaid.{overlaid}
use Rattle.law_base.proofs.Overlaid.{overlaid-length, overlaid-none, overlaid-twice, overlaid-blank, parts-length}
use Rattle.law_model.proofs.WellFormed.{WellFormed}
use Rattle.law_nest.proofs.Pairs.{paired, pairs-length}
use Rattle.law_nest.proofs.Parts.{part, rule-after}
use Rattle.law_calls.proofs.Kept.{Kept}
use Rattle.theory.proofs.RuleTables.{written}
use Rattle.theory.proofs.Agreement.{sends, flat_parts, level_step}
use Rattle.theory.proofs.FlatLoops.{no-ports, taken, kept-flat}

-- ---- the steps of an instant

module _ (m : Model) (now : ℕ) where
  rules-after : (xs : List Sent) (cs : List ℕ) (rs : List Entry) (is : List ℕ) → length rs ≡ length cs → length is ≡ length cs
      → rules_after m now xs cs rs is ≡ overlaid is (paired (λ c r. part m now c (due_now m now c r) (arriving m now c xs) r) cs rs)
  unfolding rules_after paired overlaid
  rules-after xs [] [] [] e f = refl
  rules-after xs [] [] (i ∷ is) e f = absurd (omega arith)
  rules-after xs [] (r ∷ rs) is e f = absurd (omega arith)
  rules-after xs (c ∷ cs) [] is e f = absurd (omega arith)
  rules-after xs (c ∷ cs) (r ∷ rs) [] e f = absurd (omega arith)
  rules-after xs (c ∷ cs) (r ∷ rs) (i ∷ is) e f =
      ap₂ ◌∷◌ (rule-after m now c (due_now m now c r) (arriving m now c xs) r i) (rules-after xs cs rs is (omega arith) (omega arith))

  paired-length : {A B : Type 0} (f : ℕ → A → B) (cs : List ℕ) (rs : List A) → length rs ≡ length cs → length (paired f cs rs) ≡ length cs
  unfolding paired
  paired-length f [] rs e = refl
  paired-length f (c ∷ cs) [] e = absurd (omega arith)
  paired-length f (c ∷ cs) (r ∷ rs) e = ap suc (paired-length f cs rs (omega arith))

  abbrev copy_of : List Entry → List ℕ → Copy
  copy_of rs is = record { entries = rs; rules = is }

  step-rules : (x : Bag) (rs : List Entry) (is : List ℕ) → length rs ≡ length (atomics m.components) → length is ≡ length (atomics m.components)
      → flat_step m now x (copy_of rs is) ≡ (let r = level_step m now x rs in (r.out.bag, copy_of r.state (overlaid is r.out.decided)))
  unfolding flat_step copied flat_parts sends
  step-rules x rs is e f =
      let r = level_step m now x rs in
      ap (λ (z : List ℕ). (r.out.bag, copy_of r.state z)) (rules-after (sends m now x rs) (atomics m.components) rs is e f)

module _ (m : Model) (w : WellFormed m) (self : flat m ≡ m) (now : ℕ) where
  -- the copy after the steps, and their bags
  abbrev pub after_steps : List ℕ → List Output × List Entry → List Bag × Copy
  after_steps is c = (map (λ x. x.bag) c.0, record { entries = c.1; rules = overlaid is (instant_parts c.0) })

  pub takes : (n : ℕ) (x : Bag) (rs : List Entry) (is : List ℕ) → all port_fits x ≡ true → Kept m now rs → length is ≡ length (atomics m.components)
      → take_steps m now n x (copy_of m now rs is) ≡ after_steps is (taken m now n x rs)
  unfolding take_steps taken instant_parts
  takes zero x rs is p h f = ap (λ z. ([], copy_of m now rs z)) (sym (overlaid-none is))
  takes (suc n) x rs is p h f =
      rw (step-rules m now x rs is e f) (go (any_due m now (atomics m.components) rs || not (is_empty x))
      (takes n [] r.state (overlaid is r.out.decided) no-ports (kept-flat m w self now x rs p h) (overlaid-length is r.out.decided ∙ f)))
    where
      e : length rs ≡ length (atomics m.components)
      e = pairs-length _ (atomics m.components) rs h.0

      r : Stepped (List Entry)
      r = level_step m now x rs

      rest : List Output × List Entry
      rest = taken m now n [] r.state

      as_many : length r.out.decided ≡ length is
      as_many = unfold flat_parts in (paired-length m now _ (atomics m.components) rs e ∙ sym f)

      go : (b : Bool) → take_steps m now n [] (copy_of m now r.state (overlaid is r.out.decided)) ≡ after_steps (overlaid is r.out.decided) rest
          → (let t = take_steps m now n [] (copy_of m now r.state (overlaid is r.out.decided)) in
          ◌≡◌ {A = List Bag × Copy} (cond b (r.out.bag ∷ t.0, t.1) ([], copy_of m now rs is))
          (let c : List Output × List Entry = cond b (r.out ∷ rest.0, rest.1) ([], rs) in after_steps is c))
      go true ih =
          ap (λ (t : List Bag × Copy). (r.out.bag ∷ t.0, t.1)) ih
          ∙ ap (λ (z : List ℕ). (r.out.bag ∷ map (λ x. x.bag) rest.0, copy_of m now rest.1 z)) (overlaid-twice is r.out.decided (instant_parts rest.0) as_many)
      go false ih = ap (λ (z : List ℕ). ([], copy_of m now rs z)) (sym (overlaid-none is))

  -- in each of the steps that were taken every atomic is told of
  pub taken-row : (n : ℕ) (x : Bag) (rs : List Entry) → all port_fits x ≡ true → Kept m now rs
      → (length (instant_parts (taken m now n x rs).0) ≡ length (atomics m.components)) ⊎ ((taken m now n x rs).0 ≡ [])
  unfolding taken instant_parts
  taken-row zero x rs p h = inr refl
  taken-row (suc n) x rs p h =
      go (any_due m now (atomics m.components) rs || not (is_empty x)) (taken-row n [] r.state no-ports (kept-flat m w self now x rs p h))
    where
      r : Stepped (List Entry)
      r = level_step m now x rs

      rest : List Output × List Entry
      rest = taken m now n [] r.state

      each : length r.out.decided ≡ length (atomics m.components)
      each = unfold flat_parts in (paired-length m now _ (atomics m.components) rs (pairs-length _ (atomics m.components) rs h.0))

      none_or : (length (instant_parts rest.0) ≡ length (atomics m.components)) ⊎ (rest.0 ≡ [])
          → (length (instant_parts rest.0) ≡ length (atomics m.components)) ⊎ (instant_parts rest.0 ≡ [])
      none_or (inl e) = inl e
      none_or (inr e) = inr (ap instant_parts e)

      go : (b : Bool) → (length (instant_parts rest.0) ≡ length (atomics m.components)) ⊎ (rest.0 ≡ [])
          → (let c : List Output × List Entry = cond b (r.out ∷ rest.0, rest.1) ([], rs) in
          (length (instant_parts c.0) ≡ length (atomics m.components)) ⊎ (c.0 ≡ []))
      go true ih = inl (parts-length (length (atomics m.components)) r.out.decided (instant_parts rest.0) each (none_or ih))
      go false ih = inr refl

-- ---- the table

blank : (rs : List Entry) → map (λ _. no_position) rs ≡ replicate (length rs) no_position
blank [] = refl
blank (r ∷ rs) = ap (λ l. no_position ∷ l) (blank rs)

-- the rules that the copy has after the steps of an instant
pub copy-rules : (rs : List Entry) (xs : List Output) → length (instant_parts xs) ≡ length rs → overlaid (map (λ _. no_position) rs) (instant_parts xs) ≡ instant_rules xs
unfolding instant_rules
copy-rules rs xs e = ap (λ l. overlaid l (instant_parts xs)) (blank rs) ∙ overlaid-blank (length rs) (instant_parts xs) e

pub table-with : (n : ℕ) (is : List ℕ) (table : Bytes) → length is ≡ n → table_with is table ≡ written n is table
unfolding table_with written table_bytes
table-with n is table e = rw e
