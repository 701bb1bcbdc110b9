-- The atomics change one after the other, each by its mark and its bag, and no change is seen by a later one: so the state after all of them has at
-- each position what the definition's `moved` gives there. Assumes nothing.
use mathlib.Core.Path.{◌≡◌, refl, sym, ap, ◌∙◌}
use Prim.Native.Nat.{ℕ, zero, suc, ◌+◌, ◌-◌, ◌≤◌, ◌<◌}
use mathlib.Core.List.{List, [], ◌∷◌, map}
use mathlib.Core.Option.{Option, none, some}
use mathlib.Core.Bool.{Bool, true, false}
use native.Mathlib.Omega.{arith}
use lib.Dec.{eqb}
use lib.ListN.{length, get_or, take, length-set}
use lib.Seq.{get_or-set_same, get_or-set_other}
use borrow.Author.Tests.{eqb-true, eqb-false}
use Rattle.definition.specs.Limits.{never_field}
use Rattle.definition.specs.Model.{Bag, Model, phase_at}
use Rattle.definition.specs.Atomic.{told_as}
use Rattle.definition.specs.SavedRun.{Entry}
use Rattle.definition.specs.FlatMachine.{moved_by, moved}
use Rattle.law_model.proofs.WellFormed.{WellFormed}
use Rattle.law_nest.proofs.Parts.{part}
use Rattle.run_state.specs.declared.State.{State}
use Rattle.run_state.specs.Held.{changed_at}
use Rattle.law_base.specs.Keys.{message_of}
use Rattle.spec_step.specs.Tables.{numbers_at}
use Rattle.spec_step.specs.TableStep.{is_up, keys_into, leads, led_into, lead_by, part_by, changed_by, changed_from, parts_from}
use Rattle.spec_step.specs.Tabled.{Tabled}
use Rattle.law_step.proofs.Positions.{held_at}
use Rattle.law_step.proofs.Decided.{rule-is, next-is, confluent-is, confluent-rule-is}
use Rattle.law_step.proofs.Changed.{SetAt, set_at, kept_at, set-at-or-kept}

-- ---- one entry of a state

set-held : (st : State) (i p l : ℕ) → i < length st.phase → i < length st.last → held_at (changed_at st i p l) i ≡ record { phase = p; last = l }
unfolding changed_at
set-held st i p l a b =
    let u = get_or-set_same st.phase i p 0 a in
    let v = get_or-set_same st.last i l 0 b in
    λ j. record { phase = u j; last = v j }

set_other : (st : State) (i j p l : ℕ) → (j ≡ i → ⊥) → held_at (changed_at st i p l) j ≡ held_at st j
unfolding changed_at
set_other st i j p l n =
    let u = get_or-set_other st.phase i j p 0 n in
    let v = get_or-set_other st.last i j l 0 n in
    λ k. record { phase = u k; last = v k }

-- as many entries as before
abbrev pub SameRoom : State → State → Type 0
SameRoom s st = (length s.phase ≡ length st.phase) × (length s.last ≡ length st.last)

set_room : (st : State) (i p l : ℕ) → SameRoom (changed_at st i p l) st
unfolding changed_at
set_room st i p l = (length-set st.phase i p, length-set st.last i l)

module _ (m : Model) (w : WellFormed m) (t : List ℕ) (h : Tabled m t) (now : ℕ) where
  -- ---- one atomic

  followed-own : (st : State) (i : ℕ) (o : Option ℕ) → i < length st.phase → i < length st.last
      → held_at (led_into now st i (leads m.rules o)) i ≡ moved_by m now o (held_at st i)
  unfolding led_into leads moved_by
  followed-own st i none u v = refl
  followed-own st i (some k) u v = set-held st i _ now u v

  changed-own : (st : State) (i c : ℕ) (b : Bool) (y : Bag) → c < length m.components → i < length st.phase → i < length st.last
      → (b ≡ true → eqb (phase_at m c (held_at st i).phase).advance never_field ≡ false)
      → held_at (changed_by m.phases t m.rules now st i c b y) i ≡ moved m now c b y (held_at st i)
  unfolding changed_by lead_by led_into moved
  changed-own st i c true [] l u v timed =
      set-held st i _ now u v ∙ ap (λ (p : ℕ). record { phase = p; last = now }) (next-is m w st t h c l (get_or st.phase i 0))
  changed-own st i c true (z ∷ y) l u v timed =
      set-held st i _ now u v ∙ ap (λ (p : ℕ). record { phase = p; last = now }) (confluent-is m w st t h c l (get_or st.phase i 0) (z ∷ y) (timed refl))
  changed-own st i c false [] l u v timed = refl
  changed-own st i c false (z ∷ y) l u v timed =
      followed-own st i _ u v ∙ ap (λ o. moved_by m now o (held_at st i)) (rule-is m w st t h c l (get_or st.phase i 0) (now - get_or st.last i 0) (z ∷ y))

  -- what decides its external part
  part-own : (st : State) (i c : ℕ) (b : Bool) (y : Bag) → c < length m.components
      → (b ≡ true → eqb (phase_at m c (held_at st i).phase).advance never_field ≡ false)
      → part_by m.phases t m.rules now st i c b y ≡ part m now c b y (held_at st i)
  unfolding part_by part
  part-own st i c b [] l timed = refl
  part-own st i c true (z ∷ y) l timed = ap (λ o. some (told_as o)) (confluent-rule-is m w st t h c l (get_or st.phase i 0) (z ∷ y) (timed refl))
  part-own st i c false (z ∷ y) l timed = ap (λ o. some (told_as o)) (rule-is m w st t h c l (get_or st.phase i 0) (now - get_or st.last i 0) (z ∷ y))

  changed-other : (st : State) (i j c : ℕ) (b : Bool) (y : Bag) → (j ≡ i → ⊥) → held_at (changed_by m.phases t m.rules now st i c b y) j ≡ held_at st j
  changed-other st i j c b y n = go (set-at-or-kept m.phases t m.rules now st i c b y)
    where
      go : {after : State} → SetAt now st i after → held_at after j ≡ held_at st j
      go (set_at p) = set_other st i j p now n
      go kept_at = refl

  changed-room : (st : State) (i c : ℕ) (b : Bool) (y : Bag) → SameRoom (changed_by m.phases t m.rules now st i c b y) st
  changed-room st i c b y = go (set-at-or-kept m.phases t m.rules now st i c b y)
    where
      go : {after : State} → SetAt now st i after → SameRoom after st
      go (set_at p) = set_room st i p now
      go kept_at = (refl, refl)

  -- ---- all of them

  module _ (es fs : List ℕ) (room : ℕ) (x : Bag) where
    abbrev bag_of : ℕ → Bag
    bag_of c = map message_of (take room (keys_into m.phases t es fs x c))

    abbrev num : ℕ → ℕ
    num i = get_or t (numbers_at + i) 0

    abbrev one : ℕ → State → State
    one i st = changed_by m.phases t m.rules now st i (num i) (is_up es (num i)) (bag_of (num i))

    abbrev all_of : ℕ → ℕ → State → State
    all_of n i st = changed_from m.phases t m.rules es fs room now x n i st

    abbrev parts-of : ℕ → ℕ → State → List (Option ℕ)
    parts-of n i st = parts_from m.phases t m.rules es fs room now x n i st

    pub all_room : (n i : ℕ) (st : State) → SameRoom (all_of n i st) st
    unfolding changed_from
    all_room zero i st = (refl, refl)
    all_room (suc n) i st =
        let a = all_room n (i + 1) (one i st) in
        let b = changed-room st i (num i) (is_up es (num i)) (bag_of (num i)) in
        (a.0 ∙ b.0, a.1 ∙ b.1)

    all-other : (n i j : ℕ) (st : State) → j < i → held_at (all_of n i st) j ≡ held_at st j
    unfolding changed_from
    all-other zero i j st l = refl
    all-other (suc n) i j st l =
        all-other n (i + 1) j (one i st) (omega arith) ∙ changed-other st i j (num i) (is_up es (num i)) (bag_of (num i)) (λ e. omega arith)

    -- the entry at position j after all changes
    pub all_own : (n i j : ℕ) (st : State) → i ≤ j → j < i + n → num j < length m.components → j < length st.phase → j < length st.last
        → (is_up es (num j) ≡ true → eqb (phase_at m (num j) (held_at st j).phase).advance never_field ≡ false)
        → held_at (all_of n i st) j ≡ moved m now (num j) (is_up es (num j)) (bag_of (num j)) (held_at st j)
    unfolding changed_from
    all_own zero i j st b l c u v timed = absurd (omega arith)
    all_own (suc n) i j st b l c u v timed =
        go (eqb i j) refl
        (λ (q : i + 1 ≤ j) (z : j ≡ i → ⊥). let r = changed-room st i (num i) (is_up es (num i)) (bag_of (num i)) in
        let same = changed-other st i j (num i) (is_up es (num i)) (bag_of (num i)) z in
        all_own n (i + 1) j (one i st) q (omega arith) c (omega arith) (omega arith)
        (λ e. ap (λ (k : Entry). eqb (phase_at m (num j) k.phase).advance never_field) same ∙ timed e)
        ∙ ap (moved m now (num j) (is_up es (num j)) (bag_of (num j))) same)
      where
        Own : ℕ → Type 0
        Own j = held_at (all_of n (i + 1) (one i st)) j ≡ moved m now (num j) (is_up es (num j)) (bag_of (num j)) (held_at st j)

        here : i ≡ j → Own j
        here e =
            all-other n (i + 1) j (one i st) (omega arith)
            ∙ ap (λ k. held_at (changed_by m.phases t m.rules now st k (num k) (is_up es (num k)) (bag_of (num k))) j) e
            ∙ changed-own st j (num j) (is_up es (num j)) (bag_of (num j)) c u v timed

        go : (z : Bool) → eqb i j ≡ z → (i + 1 ≤ j → (j ≡ i → ⊥) → Own j) → Own j
        go true e ih = here (eqb-true i j e)
        go false e ih = let q = eqb-false i j e in ih (omega arith) (λ z. q (sym z))

    -- the external part at position j: no change before it is seen
    pub parts-own : (n i j : ℕ) (st : State) → i ≤ j → j < i + n → num j < length m.components
        → (is_up es (num j) ≡ true → eqb (phase_at m (num j) (held_at st j).phase).advance never_field ≡ false)
        → get_or (parts-of n i st) (j - i) none ≡ part m now (num j) (is_up es (num j)) (bag_of (num j)) (held_at st j)
    unfolding parts_from
    parts-own zero i j st b l c timed = absurd (omega arith)
    parts-own (suc n) i j st b l c timed =
        go (eqb i j) refl
        (λ (q : i + 1 ≤ j) (z : j ≡ i → ⊥). let same = changed-other st i j (num i) (is_up es (num i)) (bag_of (num i)) z in
        parts-own n (i + 1) j (one i st) q (omega arith) c
        (λ e. ap (λ (k : Entry). eqb (phase_at m (num j) k.phase).advance never_field) same ∙ timed e)
        ∙ ap (part m now (num j) (is_up es (num j)) (bag_of (num j))) same)
      where
        row : List (Option ℕ)
        row = part_by m.phases t m.rules now st i (num i) (is_up es (num i)) (bag_of (num i)) ∷ parts-of n (i + 1) (one i st)

        Own : Type 0
        Own = get_or row (j - i) none ≡ part m now (num j) (is_up es (num j)) (bag_of (num j)) (held_at st j)

        here : i ≡ j → Own
        here e =
            let z : j - i ≡ 0 = omega (arith, e) in
            ap (λ k. get_or row k none) z
            ∙ ap (λ k. part_by m.phases t m.rules now st k (num k) (is_up es (num k)) (bag_of (num k))) e
            ∙ part-own st j (num j) (is_up es (num j)) (bag_of (num j)) c timed

        behind : i + 1 ≤ j → get_or (parts-of n (i + 1) (one i st)) (j - (i + 1)) none ≡ part m now (num j) (is_up es (num j)) (bag_of (num j)) (held_at st j) → Own
        behind q e = let z : j - i ≡ suc (j - (i + 1)) = omega arith in ap (λ k. get_or row k none) z ∙ e

        go : (z : Bool) → eqb i j ≡ z
            → (i + 1 ≤ j → (j ≡ i → ⊥) → get_or (parts-of n (i + 1) (one i st)) (j - (i + 1)) none ≡ part m now (num j) (is_up es (num j)) (bag_of (num j)) (held_at st j)) → Own
        go true e ih = here (eqb-true i j e)
        go false e ih = let q = eqb-false i j e in behind (omega arith) (ih (omega arith) (λ z. q (sym z)))
