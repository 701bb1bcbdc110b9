-- The table of deciding rules: the table that a progress leaves, and a table written again; and that what decided in an instant is told
-- of as many atomics as in each of its steps. Assumes nothing.
use mathlib.Core.Path.{◌≡◌, refl, sym, ap, ◌∙◌, subst}
use mathlib.Core.Logic.{◌⊎◌, inl, inr}
use Prim.Native.Nat.{ℕ, zero, suc, ◌*◌}
use mathlib.Core.List.{List, [], ◌∷◌}
use mathlib.Core.Bool.{Bool, true, false, cond}
use native.Mathlib.Omega.{arith}
use lib.Dec.{ltb, eqb}
use lib.ListN.{length, drop, length-append, length-drop, length-map}
use borrow.Author.Tests.{ltb-false, lt-ltb, eqb-true, eqb-false, eq-eqb, ne_eqb}
use Rattle.definition.specs.Lists.{concat}
use Rattle.definition.specs.Bytes.{Bytes, stored}
use Rattle.definition.specs.Limits.{position_size}
use Rattle.definition.specs.Model.{Bag, Model, atomics}
use Rattle.definition.specs.Atomic.{told_as}
use Rattle.definition.specs.SavedRun.{Entry}
use Rattle.definition.specs.Step.{Output, Simulator, decided_in_file_order, step_on, step, nested}
use Rattle.definition.specs.Instant.{Instant, done, jammed, stepped, goes_on, steps_at, instant, instant_parts, instant_rules}
use Rattle.definition.specs.Advance.{Progress, Ended, ended, succeeded}
use Rattle.definition.specs.AdvanceRelation.{Ends, jams, overruns, continues, succeeds, idle}
use Rattle.definition.specs.Engine.{table_bytes, with_rules}
use Rattle.law_base.proofs.Overlaid.{parts-length}
use Rattle.law_model.proofs.RuleBytes.{table-size}
use Rattle.theory.proofs.Buffers.{stored-again}
use Rattle.law_calls.proofs.Instants.{whole-instant}
use Rattle.law_calls.proofs.Ending.{some-step}

-- ---- the table that a progress leaves

-- it depends on the instants and the rules alone
pub same-rules : {S₁ S₂ : Type 0} (n k : ℕ) (p : Progress S₁) (q : Progress S₂) (table : Bytes) → n ≡ k → p.instants ≡ q.instants → p.rules ≡ q.rules
    → with_rules n p table ≡ with_rules k q table
unfolding with_rules
same-rules n k p q table e i r = rw (e, i, r)

-- entries for n atomics, if an instant was done
abbrev pub Long : {S : Type 0} → ℕ → Progress S → Type 0
Long n p = (p.instants ≡ 0) ⊎ (length p.rules ≡ n)

-- rules written into a table that is long enough
unfoldable pub written : ℕ → List ℕ → Bytes → Bytes
written n ps table = cond (ltb (length table) (position_size * n)) table (stored (table_bytes ps) table)

pub with-written : {S : Type 0} (n : ℕ) (p : Progress S) (table : Bytes) → (p.instants ≡ 0 → ⊥) → with_rules n p table ≡ written n p.rules table
unfolding with_rules written
with-written n p table h = rw (ne_eqb p.instants 0 h)

pub with_none : {S : Type 0} (n : ℕ) (p : Progress S) (table : Bytes) → p.instants ≡ 0 → with_rules n p table ≡ table
unfolding with_rules
with_none n p table h = rw (eq-eqb p.instants 0 h)

-- once more over themselves, or over others
written-again : (n : ℕ) (ps qs : List ℕ) (table : Bytes) → length ps ≡ n → length qs ≡ n → written n qs (written n ps table) ≡ written n qs table
unfolding written stored
written-again n ps qs table p q = go (ltb (length table) (position_size * n)) refl
  where
    go : (b : Bool) → ltb (length table) (position_size * n) ≡ b → written n qs (written n ps table) ≡ written n qs table
    go true e = rw (e, e)
    go false e =
        let l = ltb-false (length table) (position_size * n) e in
        let kept : length (stored (table_bytes ps) table) ≡ length table
        = length-append (table_bytes ps) (drop (length (table_bytes ps)) table) ∙ omega (arith, l, p, table-size ps, length-drop (length (table_bytes ps)) table) in
        rw (e, kept, e) (stored-again (table_bytes qs) (table_bytes ps) table (table-size qs ∙ ap (λ k. position_size * k) (q ∙ sym p) ∙ sym (table-size ps)))

pub over-written : {S : Type 0} (n : ℕ) (p : Progress S) (qs : List ℕ) (table : Bytes) → Long n p → length qs ≡ n
    → written n qs (with_rules n p table) ≡ written n qs table
over-written n p qs table long q = go (eqb p.instants 0) refl long
  where
    go : (b : Bool) → eqb p.instants 0 ≡ b → Long n p → written n qs (with_rules n p table) ≡ written n qs table
    go true e h = ap (written n qs) (with_none n p table (eqb-true p.instants 0 e))
    go false e (inl h) = ap (written n qs) (with_none n p table h)
    go false e (inr h) = ap (written n qs) (with-written n p table (eqb-false p.instants 0 e)) ∙ written-again n p.rules qs table h q

-- ---- of as many atomics as each step

module _ {S : Type 0} (k : Simulator S) (n : ℕ) (each : (now : ℕ) (x : Bag) (s : S) → length (k.step now x s).out.decided ≡ n) where
  abbrev LongInstant : Instant S → Type 0
  LongInstant jammed = Unit {0}
  LongInstant (done [] s) = Unit {0}
  LongInstant (done (x ∷ xs) s) = length (instant_parts (x ∷ xs)) ≡ n

  row-of : (xs : List Output) (s : S) → LongInstant (done xs s) → (length (instant_parts xs) ≡ n) ⊎ (instant_parts xs ≡ [])
  unfolding instant_parts
  row-of [] s h = inr refl
  row-of (x ∷ xs) s h = inl h

  long-stepped : (x : Output) (i : Instant S) → length x.decided ≡ n → LongInstant i → LongInstant (stepped x i)
  unfolding stepped instant_parts
  long-stepped x jammed e h = tt
  long-stepped x (done xs s) e h = parts-length n x.decided (instant_parts xs) e (row-of xs s h)

  long-steps : (j now : ℕ) (x : Bag) (s : S) → LongInstant (steps_at k j now x s)
  unfolding steps_at
  long-steps zero now x s = go (goes_on k now x s)
    where
      go : (b : Bool) → LongInstant (cond b jammed (done [] s))
      go true = tt
      go false = tt
  long-steps (suc j) now x s = go (goes_on k now x s) (long-stepped _ _ (each now x s) (long-steps j now [] (k.step now x s).state))
    where
      go : (b : Bool) → LongInstant (stepped (k.step now x s).out (steps_at k j now [] (k.step now x s).state))
          → LongInstant (cond b (stepped (k.step now x s).out (steps_at k j now [] (k.step now x s).state)) (done [] s))
      go true h = h
      go false h = tt

  pub long-instant : (now : ℕ) (x : Bag) (s : S) (y : Output) (ys : List Output) (s' : S) → instant k now x s ≡ done (y ∷ ys) s' → length (instant_rules (y ∷ ys)) ≡ n
  unfolding instant instant_rules
  long-instant now x s y ys s' e = length-map (instant_parts (y ∷ ys)) told_as ∙ subst LongInstant e (long-steps _ now x s)

  -- so it is of what a call leaves
  pub long-ends : (room t : ℕ) (x : Bag) {p : Progress S} {e : Ended S} → Ends k room t x p e → Long n p → Long n e.progress
  unfolding ended succeeded
  long-ends room t x (jams p now y next v) h = h
  long-ends room t x (overruns p now y z zs s' next w l) h = h
  long-ends room t x (continues p u [] s' e f g w v rest) h = absurd (some-step k u p.state s' f w)
  long-ends room t x (continues p u (y ∷ ys) s' e f g w v rest) h = long-ends room t x rest (inr (long-instant u [] p.state y ys s' (whole-instant k u [] p.state s' (y ∷ ys) w)))
  long-ends room t x (succeeds p y ys s' f w v) h = inr (long-instant t x p.state y ys s' (whole-instant k t x p.state s' (y ∷ ys) w))
  long-ends room t x (idle p f g) h = h

-- ---- no table

-- where none is lent, none is left
pub no_table : {S : Type 0} (n : ℕ) (p : Progress S) → Long n p → with_rules n p [] ≡ []
no_table n p long = go (eqb p.instants 0) refl long
  where
    none : (n : ℕ) (ps : List ℕ) → length ps ≡ n → written n ps [] ≡ []
    none zero [] e = unfold written stored table_bytes concat in refl
    none zero (i ∷ ps) e = absurd (omega arith)
    none (suc n) ps e = unfold written in (rw (lt-ltb 0 (position_size * suc n) (omega arith)))

    go : (b : Bool) → eqb p.instants 0 ≡ b → Long n p → with_rules n p [] ≡ []
    go true e h = with_none n p [] (eqb-true p.instants 0 e)
    go false e (inl h) = with_none n p [] h
    go false e (inr h) = with-written n p [] (eqb-false p.instants 0 e) ∙ none n p.rules h

-- A call on the nest's own entries leaves entries for its atomics.
pub nest-long : (m : Model) (room t : ℕ) (x : Bag) {p : Progress (List Entry)} {e : Ended (List Entry)} → Ends (nested m) room t x p e → Long (length (atomics m.components)) p
    → Long (length (atomics m.components)) e.progress
unfolding step step_on decided_in_file_order
nest-long m room t x h l = long-ends (nested m) _ (λ now y s. length-map (atomics m.components) _) room t x h l
