-- The marks and flags of a step, by any tables: each atomic has its own mark, a marked component's parent is marked, and a component whose flag
-- is down has nothing that may come from the nodes that lead to its inputs. Assumes nothing.
use mathlib.Core.Path.{◌≡◌, refl, sym, ap, ◌∙◌, subst}
use Prim.Native.Nat.{ℕ, zero, suc, ◌+◌, ◌≤◌, ◌<◌}
use mathlib.Core.List.{List, [], ◌∷◌}
use mathlib.Core.Bool.{Bool, true, false, not, cond}
use native.Mathlib.Omega.{arith}
use lib.Dec.{eqb}
use lib.ListN.{length, get_or, set, length-set}
use lib.Seq.{get_or-set_same, get_or-set_other}
use borrow.Author.Tests.{eqb-true, eqb-false}
use Rattle.definition.specs.Limits.{port_count}
use Rattle.definition.specs.Model.{Phase}
use Rattle.law_base.proofs.Tests.{clash, or-none}
use Rattle.run_state.specs.declared.State.{State}
use Rattle.law_routes.specs.Nodes.{input_node}
use Rattle.spec_step.specs.Tables.{numbers_at, parents_at, chain_rows}
use Rattle.spec_step.specs.TableStep.{any_of, is_up, mark_of, marked, raised, may_come, may_reach, reached_from}

-- what is up stays up
set-up : (l : List ℕ) (i j : ℕ) → is_up l j ≡ true → is_up (set l i 1) j ≡ true
unfolding is_up
set-up [] i j h = h
set-up (x ∷ l) zero zero h = refl
set-up (x ∷ l) zero (suc j) h = h
set-up (x ∷ l) (suc i) zero h = h
set-up (x ∷ l) (suc i) (suc j) h = set-up l i j h

module _ (ps : List Phase) (t : List ℕ) where
  -- ---- the marks of atomics

  abbrev num : ℕ → ℕ
  num i = get_or t (numbers_at + i) 0

  module _ (now : ℕ) (st : State) where
    pub marked-length : (n i : ℕ) (es : List ℕ) → length (marked ps t now st n i es) ≡ length es
    unfolding marked
    marked-length zero i es = refl
    marked-length (suc n) i es = marked-length n (i + 1) (set es (num i) (mark_of ps t now st i)) ∙ length-set es (num i) (mark_of ps t now st i)

    -- a component that is none of the atomics keeps its mark
    pub marked_other : (n i c : ℕ) (es : List ℕ) → ((j : ℕ) → i ≤ j → j < i + n → num j ≡ c → ⊥) → get_or (marked ps t now st n i es) c 0 ≡ get_or es c 0
    unfolding marked
    marked_other zero i c es h = refl
    marked_other (suc n) i c es h =
        marked_other n (i + 1) c (set es (num i) (mark_of ps t now st i)) (λ j b l. h j (omega arith) (omega arith))
        ∙ get_or-set_other es (num i) c (mark_of ps t now st i) 0 (λ e. h i (omega arith) (omega arith) (sym e))

    -- an atomic has its own
    pub marked-own : (n i j : ℕ) (es : List ℕ) → i ≤ j → j < i + n → ((k : ℕ) → i ≤ k → k < i + n → num k ≡ num j → k ≡ j) → num j < length es
        → get_or (marked ps t now st n i es) (num j) 0 ≡ mark_of ps t now st j
    unfolding marked
    marked-own zero i j es b l one s = absurd (omega arith)
    marked-own (suc n) i j es b l one s =
        go (eqb i j) refl (λ (d : i + 1 ≤ j). marked-own n (i + 1) j (set es (num i) (mark_of ps t now st i)) d (omega arith) (λ k x y. one k (omega arith) (omega arith)) (omega (arith, length-set es (num i) (mark_of ps t now st i))))
      where
        go : (b : Bool) → eqb i j ≡ b → (i + 1 ≤ j → get_or (marked ps t now st n (i + 1) (set es (num i) (mark_of ps t now st i))) (num j) 0 ≡ mark_of ps t now st j)
            → get_or (marked ps t now st n (i + 1) (set es (num i) (mark_of ps t now st i))) (num j) 0 ≡ mark_of ps t now st j
        go false e ih = ih (let d = eqb-false i j e in omega arith)
        go true e ih = own (eqb-true i j e)
          where
            own : i ≡ j → get_or (marked ps t now st n (i + 1) (set es (num i) (mark_of ps t now st i))) (num j) 0 ≡ mark_of ps t now st j
            own d =
                marked_other n (i + 1) (num j) (set es (num i) (mark_of ps t now st i)) (λ k x y z. let q = one k (omega arith) (omega arith) z in omega arith)
                ∙ ap (λ k. get_or (set es (num k) (mark_of ps t now st k)) (num j) 0) d ∙ get_or-set_same es (num j) (mark_of ps t now st j) 0 s

module _ (t : List ℕ) where
  -- ---- the marks of coupled components

  abbrev parent : ℕ → ℕ
  parent c = get_or t (parents_at + c) 0

  abbrev step : ℕ → List ℕ → List ℕ
  step c es = cond (is_up es c) (set es (parent c) 1) es

  step-up : (c x : ℕ) (es : List ℕ) → is_up es x ≡ true → is_up (step c es) x ≡ true
  step-up c x es h = go (is_up es c)
    where
      go : (b : Bool) → is_up (cond b (set es (parent c) 1) es) x ≡ true
      go true = set-up es (parent c) x h
      go false = h

  step_other : (c x : ℕ) (es : List ℕ) → (parent c ≡ x → ⊥) → get_or (step c es) x 0 ≡ get_or es x 0
  step_other c x es h = go (is_up es c)
    where
      go : (b : Bool) → get_or (cond b (set es (parent c) 1) es) x 0 ≡ get_or es x 0
      go true = get_or-set_other es (parent c) x 1 0 (λ e. h (sym e))
      go false = refl

  step-length : (c : ℕ) (es : List ℕ) → length (step c es) ≡ length es
  step-length c es = go (is_up es c)
    where
      go : (b : Bool) → length (cond b (set es (parent c) 1) es) ≡ length es
      go true = length-set es (parent c) 1
      go false = refl

  pub raised_keeps : (c x : ℕ) (es : List ℕ) → is_up es x ≡ true → is_up (raised t c es) x ≡ true
  unfolding raised
  raised_keeps zero x es h = h
  raised_keeps (suc c) x es h = raised_keeps c x (step (suc c) es) (step-up (suc c) x es h)

  -- a component that is no parent keeps its mark
  pub raised-other : (c x : ℕ) (es : List ℕ) → ((d : ℕ) → 0 < d → d ≤ c → parent d ≡ x → ⊥) → get_or (raised t c es) x 0 ≡ get_or es x 0
  unfolding raised
  raised-other zero x es h = refl
  raised-other (suc c) x es h =
      raised-other c x (step (suc c) es) (λ d b l. h d b (omega arith)) ∙ step_other (suc c) x es (h (suc c) (omega arith) (omega arith))

  -- a marked component's parent is marked, where parents stand before their children
  pub raised-closed : (c d : ℕ) (es : List ℕ) → ((k : ℕ) → 0 < k → k ≤ c → parent k < k) → c < length es → 0 < d → d ≤ c
      → is_up (raised t c es) d ≡ true → is_up (raised t c es) (parent d) ≡ true
  unfolding raised
  raised-closed zero d es below room b l h = absurd (omega arith)
  raised-closed (suc c) d es below room b l h =
      go (eqb d (suc c)) refl (λ l. raised-closed c d (step (suc c) es) (λ k x y. below k x (omega arith)) (omega (arith, step-length (suc c) es)) b l h)
    where
      go : (z : Bool) → eqb d (suc c) ≡ z → (d ≤ c → is_up (raised t c (step (suc c) es)) (parent d) ≡ true) → is_up (raised t c (step (suc c) es)) (parent d) ≡ true
      go false e ih = ih (let q = eqb-false d (suc c) e in omega arith)
      go true e ih = own (eqb-true d (suc c) e)
        where
          was-up : is_up (raised t c (step (suc c) es)) (suc c) ≡ true → is_up es (suc c) ≡ true
          was-up h =
              unfold is_up in
              (ap (λ n. not (eqb n 0))
              (sym (raised-other c (suc c) (step (suc c) es) (λ k x y z. let q = below k x (omega arith) in omega arith)
              ∙ step_other (suc c) (suc c) es (λ z. let q = below (suc c) (omega arith) (omega arith) in omega arith))) ∙ h)

          set-parent : is_up es (suc c) ≡ true → is_up (step (suc c) es) (parent (suc c)) ≡ true
          set-parent u =
              let q = below (suc c) (omega arith) (omega arith) in
              rw u (unfold is_up in (ap (λ n. not (eqb n 0)) (get_or-set_same es (parent (suc c)) 1 0 (omega arith))))

          own : d ≡ suc c → is_up (raised t c (step (suc c) es)) (parent d) ≡ true
          own q =
              subst (λ k. is_up (raised t c (step (suc c) es)) (parent k) ≡ true) (sym q)
              (raised_keeps c (parent (suc c)) (step (suc c) es) (set-parent (was-up (subst (λ k. is_up (raised t c (step (suc c) es)) k ≡ true) q h))))

  -- ---- flags

  -- nothing may come to any port
  pub reach-port : (es fs : List ℕ) (c m k q : ℕ) → k ≤ q → q < k + m → may_reach t es fs c m k ≡ false → any_of (may_come es fs) (chain_rows t (input_node c q)) ≡ false
  unfolding may_reach
  reach-port es fs c zero k q b l h = absurd (omega arith)
  reach-port es fs c (suc m) k q b l h =
      let both = or-none (any_of (may_come es fs) (chain_rows t (input_node c k))) (may_reach t es fs c m (k + 1)) h in
      go (eqb k q) refl both (λ l b. reach-port es fs c m (k + 1) q l b both.1)
    where
      go : (z : Bool) → eqb k q ≡ z → (any_of (may_come es fs) (chain_rows t (input_node c k)) ≡ false) × (may_reach t es fs c m (k + 1) ≡ false)
          → (k + 1 ≤ q → q < k + 1 + m → any_of (may_come es fs) (chain_rows t (input_node c q)) ≡ false) → any_of (may_come es fs) (chain_rows t (input_node c q)) ≡ false
      go true e both ih = subst (λ p. any_of (may_come es fs) (chain_rows t (input_node c p)) ≡ false) (eqb-true k q e) both.0
      go false e both ih = let d = eqb-false k q e in ih (omega arith) (omega arith)

  module _ (es : List ℕ) where
    -- flags of earlier components stay
    pub reached-before : (m c x : ℕ) (fs : List ℕ) → x < c → get_or (reached_from t es m c fs) x 0 ≡ get_or fs x 0
    unfolding reached_from
    reached-before zero c x fs l = refl
    reached-before (suc m) c x fs l = reached-before m (c + 1) x _ (omega arith) ∙ get_or-set_other fs c x _ 0 (λ e. omega arith)

    -- a flag that is down was found so by the flags before it
    pub reached-down : (m c d : ℕ) (fs : List ℕ) → c ≤ d → d < c + m → d < length fs → is_up (reached_from t es m c fs) d ≡ false
        → (gs : List ℕ) × ((may_reach t es gs d port_count 0 ≡ false) × ((x : ℕ) → x < d → get_or gs x 0 ≡ get_or (reached_from t es m c fs) x 0))
    unfolding reached_from
    reached-down zero c d fs b l room h = absurd (omega arith)
    reached-down (suc m) c d fs b l room h =
        go (eqb c d) refl (λ (e : c + 1 ≤ d). reached-down m (c + 1) d next e (omega arith) (omega (arith, length-set fs c (cond (may_reach t es fs c port_count 0) 1 0))) h)
      where
        next : List ℕ
        next = set fs c (cond (may_reach t es fs c port_count 0) 1 0)

        Down : ℕ → Type 0
        Down d = (gs : List ℕ) × ((may_reach t es gs d port_count 0 ≡ false) × ((x : ℕ) → x < d → get_or gs x 0 ≡ get_or (reached_from t es m (c + 1) next) x 0))

        down : (b : Bool) → not (eqb (cond {A = ℕ} b 1 0) 0) ≡ false → b ≡ false
        down true h = absurd (clash refl h)
        down false h = refl

        here : is_up (reached_from t es m (c + 1) next) c ≡ false → c < length fs → may_reach t es fs c port_count 0 ≡ false
        here h l =
            down (may_reach t es fs c port_count 0)
            (unfold is_up in
            (ap (λ n. not (eqb n 0)) (sym (reached-before m (c + 1) c next (omega arith) ∙ get_or-set_same fs c (cond (may_reach t es fs c port_count 0) 1 0) 0 l)) ∙ h))

        own : c ≡ d → Down d
        own e =
            subst Down e (
              fs,
              (
                here (subst (λ k. is_up (reached_from t es m (c + 1) next) k ≡ false) (sym e) h) (omega arith),
                (λ x l. sym (reached-before m (c + 1) x next (omega arith) ∙ get_or-set_other fs c x (cond (may_reach t es fs c port_count 0) 1 0) 0 (λ z. omega arith))),
              ),
            )

        go : (z : Bool) → eqb c d ≡ z → (c + 1 ≤ d → Down d) → Down d
        go true e ih = own (eqb-true c d e)
        go false e ih = ih (let q = eqb-false c d e in omega arith)
