-- The tables by component and by position hold what a model says. Assumes nothing.
use mathlib.Core.Path.{◌≡◌, refl, sym, ap, ◌∙◌, subst}
use Prim.Native.Nat.{ℕ, zero, suc, ◌+◌, ◌<◌, ◌≤◌}
use mathlib.Core.List.{List, ◌∷◌}
use mathlib.Core.Bool.{Bool, true, false, cond, true≢false}
use native.Mathlib.Omega.{arith}
use native.Mathlib.Numerals.{add-one}
use lib.ListN.{length, get_or, set, length-set, get_or-eq_default}
use lib.Seq.{get_or-set_same}
use lib.Dec.{eqb, ltb}
use borrow.Author.Tests.{eqb-true, eqb-false, ltb-true, ltb-false}
use Rattle.definition.specs.Limits.{max_components}
use Rattle.definition.specs.Lists.{keep, up_from}
use Rattle.definition.specs.Model.{Component, component_at, no_component, is_atomic, atomics, phases_before}
use Rattle.definition.specs.Flatten.{place_in}
use Rattle.law_base.proofs.Lists.{length-keep, length_up}
use Rattle.spec_step.specs.Tables.{numbers_at, positions_at, kinds_at, orders_at, phases_at, parents_at, rules_from_at, table_size}
use Rattle.table_words.specs.Writes.{column}
use Rattle.table_words.proofs.Columns.{Within, within_none, within_both, within-set, column-within, column-at}
use Rattle.table_components.specs.declared.Field.TheVariants.{Kind, Parent, Order, Phases, Atomic}
use Rattle.table_components.specs.Columns.{field_at, fields_before, number_at, numbered, by_component}
use Rattle.table_components.proofs.Loops.{fields-more, fields-none}

pub keep-long : (p : ℕ → Bool) (i m : ℕ) → length (keep p (up_from i m)) ≤ m
keep-long p i m = omega (arith, length-keep p (up_from i m), length_up i m)

module _ (cs : List Component) where
  pub atomic-known : (c : ℕ) → is_atomic cs c ≡ true → c < length cs
  unfolding is_atomic component_at no_component
  atomic-known c e = go (ltb c (length cs)) refl
    where
      go : (b : Bool) → ltb c (length cs) ≡ b → c < length cs
      go true h = ltb-true c (length cs) h
      go false h =
          absurd (true≢false (sym e ∙ ap (λ k. eqb k.kind 1) (get_or-eq_default cs (record { kind = 0; parent = 0; phases = 0; initial = 0; order = 0 }) (ltb-false c (length cs) h))))

  -- ---- numbers by position

  numbered_within : (m c i : ℕ) (t : List ℕ) → Within (numbers_at + i) (numbers_at + (i + m)) t (numbered cs m c (t, i)).0
  unfolding numbered number_at
  numbered_within zero c i t = within_none (numbers_at + i) (numbers_at + (i + zero)) t
  numbered_within (suc m) c i t = go (is_atomic cs c) (λ i t. numbered_within m (c + 1) i t)
    where
      go : (b : Bool) → ((i : ℕ) (t : List ℕ) → Within (numbers_at + i) (numbers_at + (i + m)) t (numbered cs m (c + 1) (t, i)).0)
          → Within (numbers_at + i) (numbers_at + (i + suc m)) t (numbered cs m (c + 1) (cond b (set t (numbers_at + i) c, i + 1) (t, i))).0
      go true ih =
          within_both {a = numbers_at + i} {b = numbers_at + (i + suc m)} {c = numbers_at + (i + 1)} {d = numbers_at + (i + 1 + m)} (omega arith) (omega arith) (omega arith) (omega arith)
          (within-set t (numbers_at + i) c (omega arith) (omega arith)) (ih (i + 1) (set t (numbers_at + i) c))
      go false ih =
          within_both {a = numbers_at + i} {b = numbers_at + (i + suc m)} {c = numbers_at + i} {d = numbers_at + (i + m)} (omega arith) (omega arith) (omega arith) (omega arith)
          (within_none (numbers_at + i) (numbers_at + (i + suc m)) t) (ih i t)

  numbered-at : (m c i k : ℕ) (t : List ℕ) → numbers_at + (i + m) ≤ length t → k < length (keep (is_atomic cs) (up_from c m))
      → get_or (numbered cs m c (t, i)).0 (numbers_at + (i + k)) 0 ≡ get_or (keep (is_atomic cs) (up_from c m)) k 0
  unfolding numbered number_at keep up_from
  numbered-at zero c i k t l h = absurd (omega arith)
  numbered-at (suc m) c i k t l h =
      go (is_atomic cs c) k h
      (λ i k t l h. subst (λ d. get_or (numbered cs m d (t, i)).0 (numbers_at + (i + k)) 0 ≡ get_or (keep (is_atomic cs) (up_from (suc c) m)) k 0) (sym (add-one c)) (numbered-at m (suc c) i k t l h))
    where
      go : (b : Bool) (k : ℕ) → k < length (cond b (c ∷ keep (is_atomic cs) (up_from (suc c) m)) (keep (is_atomic cs) (up_from (suc c) m)))
          → ((i k : ℕ) (t : List ℕ) → numbers_at + (i + m) ≤ length t → k < length (keep (is_atomic cs) (up_from (suc c) m))
          → get_or (numbered cs m (c + 1) (t, i)).0 (numbers_at + (i + k)) 0 ≡ get_or (keep (is_atomic cs) (up_from (suc c) m)) k 0)
          → get_or (numbered cs m (c + 1) (cond b (set t (numbers_at + i) c, i + 1) (t, i))).0 (numbers_at + (i + k)) 0
          ≡ get_or (cond b (c ∷ keep (is_atomic cs) (up_from (suc c) m)) (keep (is_atomic cs) (up_from (suc c) m))) k 0
      go true zero h ih =
          (numbered_within m (c + 1) (i + 1) (set t (numbers_at + i) c)).below (numbers_at + (i + zero)) (omega arith)
          ∙ ap (λ j. get_or (set t (numbers_at + i) c) j 0) (omega arith) ∙ get_or-set_same t (numbers_at + i) c 0 (omega arith)
      go true (suc k) h ih =
          let e : i + suc k ≡ i + 1 + k = omega arith in
          ap (λ j. get_or (numbered cs m (c + 1) (set t (numbers_at + i) c, i + 1)).0 (numbers_at + j) 0) e
          ∙ ih (i + 1) k (set t (numbers_at + i) c) (simp length-set (omega arith)) (omega arith)
      go false k h ih = ih i k t (omega arith) h

  -- ---- positions

  place-from : (m b c : ℕ) → b ≤ c → c < b + m → b + m ≤ length cs → is_atomic cs c ≡ true
      → fields_before Atomic cs b + place_in c (keep (is_atomic cs) (up_from b m)) ≡ fields_before Atomic cs c
  unfolding keep up_from place_in
  place-from zero b c h l k e = absurd (omega arith)
  place-from (suc m) b c h l k e =
      go (eqb b c) refl (is_atomic cs b) refl (λ d. place-from m (suc b) c (omega arith) (omega arith) (omega arith) e)
    where
      rest : List ℕ
      rest = keep (is_atomic cs) (up_from (suc b) m)

      more : fields_before Atomic cs (suc b) ≡ fields_before Atomic cs b + cond (is_atomic cs b) 1 0
      more = unfold is_atomic field_at in (ap (fields_before Atomic cs) (sym (add-one b)) ∙ fields-more Atomic cs b (omega arith))

      go : (q : Bool) → eqb b c ≡ q → (p : Bool) → is_atomic cs b ≡ p
          → ((b ≡ c → ⊥) → fields_before Atomic cs (suc b) + place_in c (keep (is_atomic cs) (up_from (suc b) m)) ≡ fields_before Atomic cs c)
          → fields_before Atomic cs b + place_in c (cond p (b ∷ keep (is_atomic cs) (up_from (suc b) m)) (keep (is_atomic cs) (up_from (suc b) m))) ≡ fields_before Atomic cs c
      go true q true p ih = rw q (let s : b ≡ c = eqb-true b c q in omega (arith, ap (fields_before Atomic cs) s))
      go true q false p ih = absurd (true≢false (sym e ∙ ap (is_atomic cs) (sym (eqb-true b c q)) ∙ p))
      go false q true p ih = rw q (omega (arith, ih (eqb-false b c q), more ∙ ap (λ d. fields_before Atomic cs b + cond d 1 0) p))
      go false q false p ih = omega (arith, ih (eqb-false b c q), more ∙ ap (λ d. fields_before Atomic cs b + cond d 1 0) p)

  pub place-right : (c : ℕ) → is_atomic cs c ≡ true → fields_before Atomic cs c ≡ place_in c (atomics cs)
  unfolding atomics
  place-right c e = omega (arith, place-from (length cs) 0 c (omega arith) (omega (arith, atomic-known c e)) (omega arith) e, fields-none Atomic cs)

  -- ---- all tables by component

  module _ (t : List ℕ) (long : length t ≡ table_size) (few : length cs ≤ max_components) where
    abbrev n : ℕ
    n = length cs

    abbrev s0 : List ℕ
    s0 = (numbered cs (length cs) 0 (t, 0)).0

    abbrev s1 : List ℕ
    s1 = column positions_at (fields_before Atomic cs) (length cs) 0 s0

    abbrev s2 : List ℕ
    s2 = column kinds_at (field_at Kind cs) (length cs) 0 s1

    abbrev s3 : List ℕ
    s3 = column orders_at (field_at Order cs) (length cs) 0 s2

    abbrev s4 : List ℕ
    s4 = column phases_at (fields_before Phases cs) (length cs) 0 s3

    abbrev s5 : List ℕ
    s5 = column parents_at (field_at Parent cs) (length cs) 0 s4

    w0 : Within numbers_at positions_at t s0
    w0 =
        within_both {a = numbers_at + 0} {b = numbers_at + (0 + length cs)} (omega arith) (omega arith) (omega arith) (omega arith)
        (numbered_within (length cs) 0 0 t) (within_none numbers_at positions_at s0)

    w1 : Within positions_at (positions_at + length cs) s0 s1
    w1 = column-within positions_at (fields_before Atomic cs) (length cs) s0

    w2 : Within kinds_at (kinds_at + length cs) s1 s2
    w2 = column-within kinds_at (field_at Kind cs) (length cs) s1

    w3 : Within orders_at (orders_at + length cs) s2 s3
    w3 = column-within orders_at (field_at Order cs) (length cs) s2

    w4 : Within phases_at (phases_at + length cs) s3 s4
    w4 = column-within phases_at (fields_before Phases cs) (length cs) s3

    w5 : Within parents_at (parents_at + length cs) s4 s5
    w5 = column-within parents_at (field_at Parent cs) (length cs) s4

    pub components-within : Within numbers_at rules_from_at t (by_component cs t)
    unfolding by_component
    components-within =
        within_both {a = numbers_at} {b = rules_from_at} {e = numbers_at} {f = rules_from_at} (omega arith) (omega arith) (omega arith) (omega arith)
        (within_both {a = numbers_at} {b = rules_from_at} {e = numbers_at} {f = rules_from_at} (omega arith) (omega arith) (omega arith) (omega arith)
        (within_both {a = numbers_at} {b = rules_from_at} {e = numbers_at} {f = rules_from_at} (omega arith) (omega arith) (omega arith) (omega arith)
        (within_both {a = numbers_at} {b = rules_from_at} {e = numbers_at} {f = rules_from_at} (omega arith) (omega arith) (omega arith) (omega arith)
        (within_both {a = numbers_at} {b = positions_at} {e = numbers_at} {f = rules_from_at} (omega arith) (omega arith) (omega arith) (omega arith) w0 w1) w2) w3) w4) w5

    pub numbers-hold : (i : ℕ) → i < length (atomics cs) → get_or (by_component cs t) (numbers_at + i) 0 ≡ get_or (atomics cs) i 0
    unfolding by_component atomics
    numbers-hold i h =
        let k : length (keep (is_atomic cs) (up_from 0 (length cs))) ≤ length cs = keep-long (is_atomic cs) 0 (length cs) in
        let z : numbers_at + i ≡ numbers_at + (0 + i) = omega arith in
        w5.below (numbers_at + i) (omega arith) ∙ w4.below (numbers_at + i) (omega arith) ∙ w3.below (numbers_at + i) (omega arith)
        ∙ w2.below (numbers_at + i) (omega arith) ∙ w1.below (numbers_at + i) (omega arith)
        ∙ ap (λ j. get_or s0 j 0) z ∙ numbered-at (length cs) 0 0 i t (omega arith) h

    module _ (c : ℕ) (h : c < length cs) where
      pub positions-hold : get_or (by_component cs t) (positions_at + c) 0 ≡ fields_before Atomic cs c
      unfolding by_component
      positions-hold =
          w5.below (positions_at + c) (omega arith) ∙ w4.below (positions_at + c) (omega arith) ∙ w3.below (positions_at + c) (omega arith)
          ∙ w2.below (positions_at + c) (omega arith) ∙ column-at positions_at (fields_before Atomic cs) (length cs) s0 c (omega (arith, w0.long)) h

      pub kinds-hold : get_or (by_component cs t) (kinds_at + c) 0 ≡ (component_at cs c).kind
      unfolding by_component field_at
      kinds-hold =
          w5.below (kinds_at + c) (omega arith) ∙ w4.below (kinds_at + c) (omega arith) ∙ w3.below (kinds_at + c) (omega arith)
          ∙ column-at kinds_at (field_at Kind cs) (length cs) s1 c (omega (arith, w0.long, w1.long)) h

      pub orders-hold : get_or (by_component cs t) (orders_at + c) 0 ≡ (component_at cs c).order
      unfolding by_component field_at
      orders-hold =
          w5.below (orders_at + c) (omega arith) ∙ w4.below (orders_at + c) (omega arith)
          ∙ column-at orders_at (field_at Order cs) (length cs) s2 c (omega (arith, w0.long, w1.long, w2.long)) h

      pub phases-hold : get_or (by_component cs t) (phases_at + c) 0 ≡ phases_before cs c
      unfolding by_component fields_before phases_before
      phases-hold =
          w5.below (phases_at + c) (omega arith)
          ∙ column-at phases_at (fields_before Phases cs) (length cs) s3 c (omega (arith, w0.long, w1.long, w2.long, w3.long)) h

      pub parents-hold : get_or (by_component cs t) (parents_at + c) 0 ≡ (component_at cs c).parent
      unfolding by_component field_at
      parents-hold = column-at parents_at (field_at Parent cs) (length cs) s4 c (omega (arith, w0.long, w1.long, w2.long, w3.long, w4.long)) h
