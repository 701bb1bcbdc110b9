-- The four cases of a transition, by whether the atomic is due and whether its bag is empty: where each leads, and what
-- decides in it. Assumes nothing.
use mathlib.Core.Path.{◌≡◌, refl, sym, ap, ◌∙◌}
use mathlib.Core.List.{List, [], ◌∷◌, map}
use mathlib.Core.Option.{Option, none, some}
use mathlib.Core.Bool.{Bool, true, false}
use Prim.Native.Nat.{ℕ, ◌-◌, ◌%◌, ◌≤◌, ◌<◌}
use native.Mathlib.Omega.{arith}
use lib.ListN.{length, get_or, set}
use lib.Seq.{get_or-set_same, set-get_or}
use borrow.Author.Tests.{lt-ltb, le-ltb}
use Rattle.definition.specs.Bytes.{Bytes}
use Rattle.definition.specs.Limits.{max_components}
use Rattle.definition.specs.Model.{Phase, Rule}
use Rattle.definition.specs.Engine.{due_number}
use Rattle.definition.specs.Atomic.{told_as}
use Rattle.run_state.specs.declared.State.{State}
use Rattle.run_state.specs.Held.{held_in, ends_in, changed_at, EndPut}
use Rattle.model_records.specs.Values.{phases_in}
use Rattle.step_due.specs.Due.{end_for}
use Rattle.step_due.proofs.Laws.{due-named}
use Rattle.law_base.specs.Keys.{message_of}
use Rattle.law_base.specs.Overlaid.{put_part}
use Rattle.spec_step.specs.TableStep.{leads, led_into, phase_in, rule_in, confluent_in, confluent_rule, lead_by, part_by, changed_by}
use Rattle.step_transition.specs.Changes.{nowhere, led_of, end_of, AtomicAt}

-- ---- the state after a transition, by where it leads

pub led-nowhere : (now : ℕ) (st : State) (i : ℕ) (o : Option ℕ) → none ≡ o → st ≡ led_into now st i o
unfolding led_into
led-nowhere now st i o q = ap (led_into now st i) q

pub led-into : (now : ℕ) (st : State) (i p : ℕ) (o : Option ℕ) → some p ≡ o → changed_at st i p now ≡ led_into now st i o
unfolding led_into
led-into now st i p o q = ap (led_into now st i) q

-- ---- where each case leads

module _ (ps : List Phase) (t : List ℕ) (rs : List Rule) (now : ℕ) (st : State) (i c : ℕ) where
  pub internal-case : (l : List ℕ) → length l ≡ 0
      → some (phase_in ps t c (get_or st.phase i 0)).next ≡ lead_by ps t rs now st i c true (map message_of l)
  unfolding lead_by
  internal-case [] e = refl
  internal-case (k ∷ l) e = absurd (omega arith)

  pub still-case : (l : List ℕ) → length l ≡ 0 → none ≡ lead_by ps t rs now st i c false (map message_of l)
  unfolding lead_by
  still-case [] e = refl
  still-case (k ∷ l) e = absurd (omega arith)

  pub confluent-case : (l : List ℕ) → (length l ≡ 0 → ⊥)
      → some (confluent_in ps t rs c (get_or st.phase i 0) (map message_of l)) ≡ lead_by ps t rs now st i c true (map message_of l)
  unfolding lead_by
  confluent-case [] e = absurd (e refl)
  confluent-case (k ∷ l) e = refl

  pub external-case : (l : List ℕ) → (length l ≡ 0 → ⊥)
      → leads rs (rule_in t rs c (get_or st.phase i 0) (now - get_or st.last i 0) (map message_of l)) ≡ lead_by ps t rs now st i c false (map message_of l)
  unfolding lead_by
  external-case [] e = absurd (e refl)
  external-case (k ∷ l) e = refl

  -- and what decides in it
  pub no_part : (due : Bool) (l : List ℕ) → length l ≡ 0 → none ≡ part_by ps t rs now st i c due (map message_of l)
  unfolding part_by
  no_part due [] e = refl
  no_part due (k ∷ l) e = absurd (omega arith)

  pub confluent-part : (l : List ℕ) → (length l ≡ 0 → ⊥)
      → some (told_as (confluent_rule ps t rs c (get_or st.phase i 0) (map message_of l))) ≡ part_by ps t rs now st i c true (map message_of l)
  unfolding part_by
  confluent-part [] e = absurd (e refl)
  confluent-part (k ∷ l) e = refl

  pub external-part : (l : List ℕ) → (length l ≡ 0 → ⊥)
      → some (told_as (rule_in t rs c (get_or st.phase i 0) (now - get_or st.last i 0) (map message_of l))) ≡ part_by ps t rs now st i c false (map message_of l)
  unfolding part_by
  external-part [] e = absurd (e refl)
  external-part (k ∷ l) e = refl

  -- a state that nothing changes
  pub still-state : (l : List ℕ) → length l ≡ 0 → st ≡ changed_by ps t rs now st i c false (map message_of l)
  unfolding changed_by
  still-state l e = led-nowhere now st i _ (still-case l e)

  pub still-rules : (due : Bool) (rules l : List ℕ) → length l ≡ 0 → rules ≡ put_part rules i (part_by ps t rs now st i c due (map message_of l))
  unfolding put_part
  still-rules due rules l e = ap (put_part rules i) (no_part due l e)

-- ---- what the code's answer names

pub led-byte : (r p : ℕ) → r < nowhere → r % 256 ≡ p → led_of r ≡ some p
unfolding led_of
led-byte r p h e = rw (lt-ltb r nowhere h) (ap some e)

pub led-none : (r : ℕ) → nowhere ≤ r → led_of r ≡ none
unfolding led_of
led-none r h = rw (le-ltb r nowhere h)

-- the rule that a transition has put
pub put_some : (rules : List ℕ) (i r : ℕ) (part : Option ℕ) → some r ≡ part → set rules i r ≡ put_part rules i part
unfolding put_part
put_some rules i r part e = ap (put_part rules i) e

-- the due moment of what nothing changes is carried as it was
pub end_kept : (ends : List ℕ) (i v : ℕ) → get_or ends i 0 ≡ v → ends ≡ set ends i v
end_kept ends i v e = sym (set-get_or ends i 0) ∙ ap (set ends i) e

-- The phase that was put stands at its position.
phase-put : (st new : State) (i p last : ℕ) → new ≡ changed_at st i p last → i < length st.phase → p ≡ get_or new.phase i 0
unfolding changed_at
phase-put st new i p last e l = sym (ap (λ (s : State). get_or s.phase i 0) e ∙ get_or-set_same st.phase i p 0 l)

-- A phase that is entered, and then its due moment: the words carry that of the state that they hold.
pub entered-ends : (phases : Bytes) (tables w₀ w w₁ bag : List ℕ) (i c p last : ℕ) → held_in w ≡ changed_at (held_in w₀) i p last → length (held_in w₀).phase ≡ max_components
    → ends_in w ≡ ends_in w₀ → AtomicAt phases tables w₀ i c bag → EndPut w w₁ i (end_for phases tables c p (get_or (held_in w).last i 0))
    → ends_in w₁ ≡ set (ends_in w₀) i (end_of phases tables w₁ i)
entered-ends phases tables w₀ w w₁ bag i c p last entry size ends here end =
    let phase = phase-put (held_in w₀) (held_in w) i p last entry (omega (arith, size, here.position)) in
    let named = due-named (phases_in phases) tables (held_in w) i c p here.own phase in
    end.ends ∙ rw (ends, end.held) (ap (λ u. set (ends_in w₀) i (due_number u)) named)
