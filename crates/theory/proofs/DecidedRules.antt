-- Request (ii): an external part tells the rule that decided it, in the nest and in the flat machine; what the steps of an instant leave is the rule of
-- each atomic's last external part (`LastParts`); and a lent table has those of the last instant done at its front, or is as it was. Assumes nothing.
use mathlib.Core.Path.{◌≡◌, refl, ap, ◌∙◌, subst}
use mathlib.Core.Logic.{inl, inr}
use Prim.Native.Nat.{ℕ, zero, suc, ◌-◌, ◌*◌, ◌≤◌, ◌<◌}
use mathlib.Core.List.{List, [], ◌∷◌, ◌++◌}
use mathlib.Core.Option.{Option}
use mathlib.Core.Bool.{Bool, true, false}
use native.Mathlib.Omega.{arith}
use lib.Dec.{ltb, eqb}
use lib.ListN.{length, get_or, take, drop, length-append, length-drop}
use lib.Seq.{drop_at}
use borrow.Author.Tests.{le-ltb, ltb-false, eqb-true, eqb-false}
use Rattle.definition.specs.Lists.{concat}
use Rattle.definition.specs.Bytes.{Bytes, Result, ok, refused, bytes_of, stored}
use Rattle.definition.specs.Limits.{no_position, position_size}
use Rattle.definition.specs.Model.{Bag, Model}
use Rattle.definition.specs.Pinned.Decoder.{accepted}
use Rattle.definition.specs.Devs.{ticks, Decided, After}
use Rattle.definition.specs.Atomic.{told_as, InPhase, advance_of, next_phase, internal, external, confluent}
use Rattle.definition.specs.SavedRun.{Entry, atomic_count}
use Rattle.definition.specs.Advance.{Progress, Ended}
use Rattle.definition.specs.Engine.{advance_checks, table_bytes, with_rules, Advanced, advanced, advance}
use Rattle.definition.specs.FlatMachine.{due_now, rule_of_both, rule_after}
use Rattle.definition.specs.StrayCue.{StandsAfter, DecidesFor}
use Rattle.definition.specs.Demands.{MayAdvance}
use Rattle.definition.specs.DecidedRules.{Told, rule, no_rule_held, DecidesConfluent, internal_first, external_first, AdvanceEnds, DecidedRules}
use Rattle.law_model.proofs.Reading.{accepted_sound}
use Rattle.law_model.proofs.Answers.{end_of, advance-done}
use Rattle.law_nest.proofs.Entries.{both, confluent-due}
use Rattle.law_refusals.proofs.Deciding.{decided-rule}
use Rattle.law_model.proofs.RuleBytes.{table-size}
use Rattle.theory.proofs.RuleTables.{Long, written, with-written, with_none}
use Rattle.theory.proofs.Demand1.{advance_only}
use Rattle.theory.proofs.StrayCue.{searches}
use Rattle.theory.proofs.EachAtomic.{end-each}
use Rattle.theory.proofs.LastParts.{last_of}

-- ---- one atomic

-- the definition's number is the one that is told, of one search and of both parts
told : (o : Option ℕ) (n : ℕ) → Told o n → told_as o ≡ n
unfolding told_as
told o n (rule i) = refl
told o n no_rule_held = refl

of-both : (m : Model) (c p : ℕ) (x : Bag) (o : Option ℕ) → DecidesConfluent m c p x o → rule_of_both m c p x ≡ o
unfolding rule_of_both
of-both m c p x o (internal_first z d) = rw z (decided-rule m c (next_phase m c p) 0 x o d)
of-both m c p x o (external_first z d) = rw z (decided-rule m c p (ticks (advance_of m c p)) x o d)

-- what the atomic c passes up, and that its transitions do
abbrev passed : ℕ → Bag → ℕ → List Decided
passed c x n = record { atomic = c; position = n; messages = length x } ∷ []

module _ (m : Model) (c now e : ℕ) (s : InPhase) (r : Entry) (x : Bag) (o : Option ℕ) (n : ℕ) (h : StandsAfter m c now e s r) where
  external-told : DecidesFor m c now r x o → Told o n → (external m c s e x).decided ≡ passed c x n
  unfolding external
  external-told d t = ap (passed c x) (ap told_as (searches m c now e s r x h o d) ∙ told o n t)

  confluent-told : due_now m now c r ≡ true → DecidesConfluent m c r.phase x o → Told o n → (confluent m c s x).decided ≡ passed c x n
  unfolding due_now both
  confluent-told due d t =
      ap (λ (z : After InPhase). z.decided) (confluent-due m c now e s r x h.0 h.1 due) ∙ ap (passed c x) (ap told_as (of-both m c r.phase x o d) ∙ told o n t)

-- ---- the table

-- two bytes are each rule
entry_at : (is : List ℕ) (rest : Bytes) (i : ℕ) → i < length is → take position_size (drop (position_size * i) (table_bytes is ++ rest)) ≡ bytes_of position_size (get_or is i no_position)
unfolding table_bytes concat bytes_of
entry_at [] rest i l = absurd (omega arith)
entry_at (j ∷ is) rest zero l = refl
entry_at (j ∷ is) rest (suc i) l =
    let one : position_size * suc i ≡ suc (suc (position_size * i)) = omega arith in
    ap (λ k. take position_size (drop k (table_bytes (j ∷ is) ++ rest))) one ∙ entry_at is rest i (omega arith)

-- What a progress leaves of a table: all as it was, or its rules at the front of one that has room for them.
data Leaves (n : ℕ) (ps : List ℕ) (table : Bytes) : Bytes → Type 0 where
  as_it_was : Leaves n ps table table
  with_rules_lem : length ps ≡ n → position_size * n ≤ length table → Leaves n ps table (stored (table_bytes ps) table)

leaves : {S : Type 0} (n : ℕ) (p : Progress S) (table : Bytes) → Long n p → Leaves n p.rules table (with_rules n p table)
unfolding written
leaves n p table long = go (eqb p.instants 0) refl long (ltb (length table) (position_size * n)) refl
  where
    go : (b : Bool) → eqb p.instants 0 ≡ b → Long n p → (d : Bool) → ltb (length table) (position_size * n) ≡ d → Leaves n p.rules table (with_rules n p table)
    go true e h d f = rw (with_none n p table (eqb-true p.instants 0 e)) as_it_was
    go false e (inl h) d f = absurd (eqb-false p.instants 0 e h)
    go false e (inr h) true f = rw (with-written n p table (eqb-false p.instants 0 e), f) as_it_was
    go false e (inr h) false f = rw (with-written n p table (eqb-false p.instants 0 e), f) (with_rules_lem h (ltb-false _ _ f))

module _ (n : ℕ) (ps : List ℕ) (table : Bytes) where
  leaves-short : (s : Bytes) → Leaves n ps table s → length table < position_size * n → s ≡ table
  leaves-short s as_it_was l = refl
  leaves-short s (with_rules_lem e h) l = absurd (omega (arith, l, h))

  leaves-past : (s : Bytes) → Leaves n ps table s → (length s ≡ length table) × (drop (position_size * n) s ≡ drop (position_size * n) table)
  unfolding stored
  leaves-past s as_it_was = (refl, refl)
  leaves-past s (with_rules_lem e h) =
      let size : length (table_bytes ps) ≡ position_size * n = table-size ps ∙ ap (λ k. position_size * k) e in (
        length-append (table_bytes ps) (drop (length (table_bytes ps)) table) ∙ omega (arith, size, h, length-drop (length (table_bytes ps)) table),
        drop_at (table_bytes ps) (drop (length (table_bytes ps)) table) (position_size * n) size ∙ ap (λ k. drop k table) size,
      )

-- ---- the table of a call

module _ (file run : Bytes) (t : ℕ) (bag trace table : Bytes) (m : Model) (q : accepted file ≡ ok m) where
  abbrev end : Progress (List Entry)
  end = (end_of m run t bag trace).progress

  abbrev left : Bytes
  left = (advance file run t bag trace table).table

  -- refused or not
  leaves-checked : (r : Result (Unit {0})) → advance_checks m run t bag ≡ r → Leaves (atomic_count m) end.rules table (advance file run t bag trace table).table
  unfolding advance advanced
  leaves-checked (refused n) f = rw (q, f) as_it_was
  leaves-checked (ok z) f = rw (q, f, (end-each m run t bag trace).0) (leaves (atomic_count m) end table (end-each m run t bag trace).1)

  leaves-call : Leaves (atomic_count m) end.rules table left
  leaves-call = leaves-checked (advance_checks m run t bag) refl

  -- with an instant done, and room for the rules
  module _ (may : MayAdvance m run t bag) (room : position_size * atomic_count m ≤ length table) where
    rules-left : 0 < end.instants → left ≡ stored (table_bytes end.rules) table
    unfolding advanced written
    rules-left some_done =
        ap (λ (z : Advanced). z.table) (advance-done file run t bag trace table m q may) ∙ with-written _ end table (λ z. omega (arith, some_done, z))
        ∙ rw ((end-each m run t bag trace).0, le-ltb (length table) (position_size * atomic_count m) room)

    entry-left : 0 < end.instants → (i : ℕ) → i < atomic_count m → take position_size (drop (position_size * i) left) ≡ bytes_of position_size (get_or end.rules i no_position)
    unfolding stored
    entry-left some_done i l = ap (λ s. take position_size (drop (position_size * i) s)) (rules-left some_done) ∙ entry_at end.rules _ i (go (end-each m run t bag trace).1)
      where
        go : Long (atomic_count m) end → i < length end.rules
        go (inl z) = absurd (omega (arith, some_done, z))
        go (inr z) = omega (arith, l, z)

-- the instants end in one way
entry-told : (file run : Bytes) (t : ℕ) (bag trace table : Bytes) (m : Model) (e : Ended (List Entry)) → AdvanceEnds file run t bag trace m e
    → 0 < e.progress.instants → position_size * atomic_count m ≤ length table → (i : ℕ) → i < atomic_count m
    → take position_size (drop (position_size * i) (advance file run t bag trace table).table) ≡ bytes_of position_size (get_or e.progress.rules i no_position)
entry-told file run t bag trace table m e a some_done room i l =
    let only = advance_only run t bag trace m (accepted_sound file m a.bytes a.model).sound a.may.run_fits_lem a.may.not_early e a.ends in
    subst
    (λ (z : Ended (List Entry)). 0 < z.progress.instants
    → take position_size (drop (position_size * i) (advance file run t bag trace table).table) ≡ bytes_of position_size (get_or z.progress.rules i no_position)) only
    (λ d. entry-left file run t bag trace table m a.model a.may room d i l) some_done

-- of any call at all that did no instant
no_instant : (run trace table : Bytes) (r : Result (Ended (List Entry))) → (advanced run trace table r).instants ≡ 0 → (advanced run trace table r).table ≡ table
unfolding advanced
no_instant run trace table (refused n) z = refl
no_instant run trace table (ok e) z = with_none (length e.progress.state) e.progress table z

pub decided-rules : DecidedRules
unfolding internal rule_after advance
decided-rules = record {
  external = external-told;
  confluent = confluent-told;
  internal = λ m c s. refl;
  flat_external = λ m c now r y x o n before d t. ap told_as (decided-rule m c r.phase (now - r.last) (y ∷ x) o d) ∙ told o n t;
  flat_confluent = λ m c now r y x o n before d t. ap told_as (of-both m c r.phase (y ∷ x) o d) ∙ told o n t;
  flat_internal = λ m c now due r before. refl;
  no_instant = λ file run t bag trace table. no_instant run trace table _;
  short = λ file run t bag trace table m q. leaves-short (atomic_count m) _ table _ (leaves-call file run t bag trace table m q);
  last_part_lem = last_of;
  entry = entry-told;
  past_entries = λ file run t bag trace table m q. leaves-past (atomic_count m) _ table _ (leaves-call file run t bag trace table m q);
}
