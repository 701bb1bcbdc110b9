-- The flat machine's own advance, on a model that is its own flat form, ends with the buffers that the generic advance of its step describes:
-- its stage is at every turn the progress written into the lent buffers. Assumes nothing.
use mathlib.Core.Path.{◌≡◌, refl, sym, ap, ◌∙◌, subst}
use mathlib.Core.Logic.{◌⊎◌, inl, inr}
use Prim.Native.Nat.{ℕ, zero, suc, ◌+◌, ◌≤◌}
use mathlib.Core.List.{List, [], ◌∷◌, ◌++◌, map}
use mathlib.Core.Bool.{Bool, true, false, cond}
use native.Mathlib.Omega.{arith}
use lib.Dec.{ltb}
use lib.ListN.{length, drop, length-append, length-drop, length-map}
use borrow.Author.Tests.{ltb-false}
use Rattle.definition.specs.Lists.{all, is_empty}
use Rattle.definition.specs.Bytes.{Bytes, Result, ok, refused, refuse_if, ◌>>=◌, stored}
use Rattle.definition.specs.Limits.{max_moment, max_steps, no_position}
use Rattle.definition.specs.Model.{Bag, Model, atomics}
use Rattle.definition.specs.Records.{port_fits}
use Rattle.definition.specs.Devs.{Time, finite, never, ticks}
use Rattle.definition.specs.SavedRun.{Entry, Run, run_length, run_bytes, not_before, next_due}
use Rattle.definition.specs.Atomic.{told_as}
use Rattle.definition.specs.Step.{Output, nested}
use Rattle.definition.specs.Instant.{Instant, done, jammed, instant, instant_trace, instant_parts, instant_rules}
use Rattle.definition.specs.Advance.{Progress, Ended, ended, tried, continued, succeeded, is_before, advancing}
use Rattle.definition.specs.Engine.{with_rules}
use Rattle.definition.specs.Flatten.{flat}
use Rattle.definition.specs.FlatMachine.{Copy, any_due, copied, take_steps, table_with, flat_due, Stage, entries_in, standing, verdict_on, attempt, opened_past, or_end, due_before, in_turn}
use Rattle.law_model.proofs.WellFormed.{WellFormed}
use Rattle.law_model.proofs.RunBack.{length_run}
use Rattle.law_nest.proofs.Pairs.{pairs-length}
use Rattle.law_calls.proofs.Lift.{before-t, not-before-t, Agree, AlikeAfter, tried-alike, instant-same}
use Rattle.law_calls.proofs.Kept.{Kept, Fit, AtSame, BetweenSame, fit-opens, fit-early}
use Rattle.theory.proofs.Agreement.{levelled, OnPorts}
use Rattle.law_base.proofs.Turns.{stood}
use Rattle.theory.proofs.RuleTables.{Long, written, with-written, over-written}
use Rattle.theory.proofs.Buffers.{stored-again, written_on}
use Rattle.theory.proofs.FlatTrace.{written-trace}
use Rattle.theory.proofs.FlatLoops.{settled, taken, agree-self, no-ports, settles, kept-steps}
use Rattle.theory.proofs.FlatRules.{after_steps, takes, taken-row, copy-rules, table-with}
use Rattle.law_calls.proofs.Fitting.{fit_written}

-- the next moment, by the flat machine's own names
pub same-before : (u : Time) (t : ℕ) → due_before u t ≡ is_before u t
unfolding due_before is_before
same-before (finite a) t = refl
same-before never t = refl

module _ (m : Model) (w : WellFormed m) (self : flat m ≡ m) (run₀ trace₀ table₀ : Bytes) where
  -- ---- the stage that a progress stands for

  abbrev run_in : Progress (List Entry) → Run
  run_in p = record { opening = p.opening; entries = p.state }

  unfoldable pub to_stage : Progress (List Entry) → Stage
  to_stage p = record {
    state = stored (run_bytes (run_in p)) run₀;
    trace = stored p.trace trace₀;
    table = with_rules (length p.state) p table₀;
    instants = p.instants;
    steps = p.steps;
    used = length p.trace;
  }

  abbrev pub staged : Result (Progress (List Entry)) → Result Stage
  staged (ok p) = ok (to_stage p)
  staged (refused n) = refused n

  abbrev pub answer : Ended (List Entry) → ℕ × Stage
  answer a = (a.number, to_stage a.progress)

  same-run-length : (r q : Run) → length r.entries ≡ length q.entries → length (run_bytes r) ≡ length (run_bytes q)
  same-run-length r q e = length_run r ∙ ap run_length e ∙ sym (length_run q)

  abbrev pub room : ℕ
  room = length trace₀

  -- the lent trace keeps its length
  same-room : (p : Progress (List Entry)) → length p.trace ≤ room → length (stored p.trace trace₀) ≡ room
  unfolding stored
  same-room p l = length-append p.trace (drop (length p.trace) trace₀) ∙ omega (arith, length-drop (length p.trace) trace₀)

  -- ---- the verdict

  -- what decided in the instant is told of each atomic, if it has a step
  abbrev RowOf : List Output → ℕ → Type 0
  RowOf [] n = Unit {0}
  RowOf (x ∷ xs) n = length (instant_parts (x ∷ xs)) ≡ n

  rules-length : (xs : List Output) (n : ℕ) → length (instant_parts xs) ≡ n → length (instant_rules xs) ≡ n
  unfolding instant_rules
  rules-length xs n e = length-map (instant_parts xs) told_as ∙ e

  -- the copy of the flat machine after steps that began at some entries
  abbrev copy : List Entry → List Output × List Entry → List Bag × Copy
  copy rs c = after_steps m w self 0 (map (λ _. no_position) rs) c

  judged-tried : (now : ℕ) (p : Progress (List Entry)) (c : List Output × List Entry) → length c.1 ≡ length p.state → length p.trace ≤ room
      → Long (length p.state) p → RowOf c.0 (length p.state)
      → verdict_on m now (to_stage p) (copy p.state c) ≡ staged (tried room now p (settled (any_due m now (atomics m.components) c.1) c))
  unfolding verdict_on tried settled to_stage is_empty
  judged-tried now p c e l long row = rw (same-room p l, written-trace now c.0) (go (any_due m now (atomics m.components) c.1) c.0 row)
    where
      go : (b : Bool) (xs : List Output) → RowOf xs (length p.state)
          → (let d : List Output × List Entry = (xs, c.1) in
          cond b (refused 13) (cond (is_empty (map (λ x. x.bag) xs)) (ok (to_stage p))
          (cond (ltb room (length p.trace + length (instant_trace now xs))) (refused 15) (ok (standing now (to_stage p) (copy p.state d)))))
          ≡ staged (tried room now p (cond b jammed (done xs c.1))))
      go true xs row = refl
      go false [] row = refl
      go false (x ∷ xs) row = rw (length-append p.trace (instant_trace now (x ∷ xs))) (ends (ltb room (length p.trace + length (instant_trace now (x ∷ xs)))))
        where
          new : Progress (List Entry)
          new = stood room now p (x ∷ xs) c.1

          rules : table_with (copy p.state (x ∷ xs, c.1)).1.rules (to_stage p).table ≡ (to_stage new).table
          rules = unfold to_stage in
              (ap (λ is. table_with is (with_rules (length p.state) p table₀)) (copy-rules p.state (x ∷ xs) row)
              ∙ table-with (length p.state) (instant_rules (x ∷ xs)) (with_rules (length p.state) p table₀) (rules-length (x ∷ xs) (length p.state) row)
              ∙ over-written (length p.state) p (instant_rules (x ∷ xs)) table₀ long (rules-length (x ∷ xs) (length p.state) row)
              ∙ ap (λ n. written n (instant_rules (x ∷ xs)) table₀) (sym e)
              ∙ sym (with-written (length c.1) new table₀ (λ z. omega arith)))

          same : standing now (to_stage p) (copy p.state (x ∷ xs, c.1)) ≡ to_stage new
          same = unfold standing in (rw (written-trace now (x ∷ xs), length-map (x ∷ xs) (λ (y : Output). y.bag)) (λ i. record {
            state = stored-again (run_bytes (run_in new)) (run_bytes (run_in p)) run₀ (same-run-length (run_in new) (run_in p) e) i;
            trace = written_on p.trace (instant_trace now (x ∷ xs)) trace₀ i;
            table = rules i;
            instants = suc p.instants;
            steps = p.steps + length (x ∷ xs);
            used = sym (length-append p.trace (instant_trace now (x ∷ xs))) i;
          }))

          ends : (b : Bool) → cond b (refused 15) (ok (standing now (to_stage p) (copy p.state (x ∷ xs, c.1)))) ≡ staged (refuse_if b 15 >>= λ _. ok new)
          ends true = refl
          ends false = ap ok same

  -- ---- what stands between instants

  module _ (t : ℕ) (last : t ≤ max_moment) where
    abbrev pub Sits : ℕ → Progress (List Entry) → Type 0
    Sits now p = Fit m p.opening p.state × (p.opening ≤ now) × (length p.trace ≤ room) × Long (length p.state) p

    abbrev pub SitsAfter : ℕ → Result (Progress (List Entry)) → Type 0
    SitsAfter now (ok p) = Sits now p
    SitsAfter now (refused n) = Unit {0}

    pub entries-in : (p : Progress (List Entry)) → Sits (suc t) p → entries_in m (to_stage p) ≡ p.state
    unfolding entries_in to_stage stored
    entries-in p h = ap (λ r. r.entries) (fit_written m w (run_in p) _ (h.0, omega (arith, h.1))).1

    abbrev InRoom : Result (Progress (List Entry)) → Type 0
    InRoom (ok p) = length p.trace ≤ room
    InRoom (refused n) = Unit {0}

    in_room : (now : ℕ) (p : Progress (List Entry)) (i : Instant (List Entry)) → length p.trace ≤ room → InRoom (tried room now p i)
    unfolding tried
    in_room now p jammed l = tt
    in_room now p (done [] s) l = l
    in_room now p (done (x ∷ xs) s) l = go (ltb room (length (p.trace ++ instant_trace now (x ∷ xs)))) refl
      where
        go : (c : Bool) → ltb room (length (p.trace ++ instant_trace now (x ∷ xs))) ≡ c
            → InRoom (refuse_if c 15 >>= λ _. ok (stood room now p (x ∷ xs) s))
        go true e = tt
        go false e = ltb-false room _ e

    abbrev LongAfter : Result (Progress (List Entry)) → Type 0
    LongAfter (ok p) = Long (length p.state) p
    LongAfter (refused n) = Unit {0}

    long_tried : (now : ℕ) (p : Progress (List Entry)) (b : Bool) (c : List Output × List Entry) → length c.1 ≡ length p.state → RowOf c.0 (length p.state)
        → Long (length p.state) p → LongAfter (tried room now p (settled b c))
    unfolding tried settled
    long_tried now p b c e row h = go b c.0 row
      where
        stands : (xs : List Output) → length (instant_parts xs) ≡ length p.state → (b : Bool) → LongAfter (refuse_if b 15 >>= λ _. ok (stood room now p xs c.1))
        stands xs row true = tt
        stands xs row false = inr (rules-length xs (length p.state) row ∙ sym e)

        go : (b : Bool) (xs : List Output) → RowOf xs (length p.state) → LongAfter (tried room now p (cond b jammed (done xs c.1)))
        go true xs row = tt
        go false [] row = h
        go false (x ∷ xs) row = stands (x ∷ xs) row (ltb room (length (p.trace ++ instant_trace now (x ∷ xs))))

    module _ (now : ℕ) (y : Bag) (p : Progress (List Entry)) (ports : all port_fits y ≡ true) (h : Sits (suc t) p) (o : p.opening ≤ now) (kept : Kept m now p.state) where
      -- the progress with the instant at `now`, or its number
      abbrev pub verdict : Result (Progress (List Entry))
      verdict = tried room now p (instant (levelled m) now y p.state)

      -- as many entries after the steps, and what decided is told of each
      abbrev steps : List Output × List Entry
      steps = taken m now max_steps y p.state

      each : length p.state ≡ length (atomics m.components)
      each = pairs-length _ (atomics m.components) p.state kept.0

      as_many : length steps.1 ≡ length p.state
      as_many = pairs-length _ (atomics m.components) steps.1 (kept-steps m w self max_steps now y p.state ports kept).0 ∙ sym each

      rows : RowOf steps.0 (length p.state)
      rows = go steps.0 (taken-row m w self now max_steps y p.state ports kept)
        where
          go : (xs : List Output) → (length (instant_parts xs) ≡ length (atomics m.components)) ⊎ (xs ≡ []) → RowOf xs (length p.state)
          go [] h = tt
          go (x ∷ xs) (inl h) = h ∙ sym each
          go (x ∷ xs) (inr h) = absurd (omega (arith, ap length h))

      pub attempted : attempt m now y (to_stage p) ≡ staged verdict
      unfolding attempt copied
      attempted =
          ap (λ rs. verdict_on m now (to_stage p) (take_steps m now max_steps y (copied rs))) (entries-in p h)
          ∙ ap (verdict_on m now (to_stage p)) (takes m w self now max_steps y p.state (map (λ _. no_position) p.state) ports kept (length-map p.state (λ _. no_position) ∙ each))
          ∙ judged-tried now p steps as_many h.2 h.3 rows
          ∙ ap (λ i. staged (tried room now p i)) (sym (settles m w self now y p.state ports kept))

      long-on : LongAfter verdict
      long-on = subst (λ i. LongAfter (tried room now p i)) (sym (settles m w self now y p.state ports kept)) (long_tried now p _ steps as_many rows h.3)

      pub sits_on : SitsAfter (suc now) verdict
      sits_on =
          go (tried room now p (instant (nested m) now y p.state)) verdict
          (tried-alike k room now p p (instant (nested m) now y p.state) (instant (levelled m) now y p.state)
          (record { opening = refl; state = (refl, h.0); instants = refl; steps = refl; trace = refl; rules = refl }) o (instant-same k now y y p.state p.state (refl, kept) (refl, ports)))
          (in_room now p (instant (levelled m) now y p.state) h.2) long-on
        where
          k : Agree (AtSame m w) (BetweenSame m w) OnPorts (nested m) (levelled m)
          k = agree-self m w self

          go : (r₁ r₂ : Result (Progress (List Entry))) → AlikeAfter k now r₁ r₂ → InRoom r₂ → LongAfter r₂ → SitsAfter (suc now) r₂
          go (ok p₁) (ok p₂) h l long = (
            subst (λ n. Fit m n p₂.state) h.0.opening (subst (Fit m p₁.opening) h.0.state.0 h.0.state.1),
            omega (arith, h.0.opening, h.1),
            l,
            long,
          )
          go (ok p₁) (refused n) h l long = tt
          go (refused n) (ok p₂) h l long = absurd h
          go (refused n) (refused j) h l long = tt

    -- ---- the instants in turn

    pub continues : (n : ℕ) (f : Stage → ℕ × Stage) (g : Progress (List Entry) → Ended (List Entry)) (p : Progress (List Entry)) (r : Result (Progress (List Entry))) → SitsAfter n r
        → ((q : Progress (List Entry)) → Sits n q → f (to_stage q) ≡ answer (g q)) → or_end f (to_stage p) (staged r) ≡ answer (continued g p r)
    unfolding or_end continued ended
    continues n f g p (refused j) h e = refl
    continues n f g p (ok q) h e = e q h

    pub opened-past : (q : Progress (List Entry)) → Sits (suc t) q → (0, opened_past m t (to_stage q)) ≡ answer (succeeded t q)
    unfolding opened_past succeeded ended to_stage with_rules
    opened-past q h = λ i. (
      0,
      record {
        state = (ap (λ es. stored (run_bytes (record { opening = suc t; entries = es })) (to_stage q).state) (entries-in q h) ∙ again) i;
        trace = (to_stage q).trace;
        table = (to_stage q).table;
        instants = q.instants;
        steps = q.steps;
        used = length q.trace;
      },
    )
      where
        again : stored (run_bytes (record { opening = suc t; entries = q.state })) (to_stage q).state ≡ stored (run_bytes (record { opening = suc t; entries = q.state })) run₀
        again = unfold to_stage in (stored-again _ (run_bytes (run_in q)) run₀ (same-run-length (record { opening = suc t; entries = q.state }) (run_in q) refl))

    module _ (x : Bag) (ports : all port_fits x ≡ true) where
      pub in-turn : (n : ℕ) (p : Progress (List Entry)) → Sits t p → in_turn m t x n (to_stage p) ≡ answer (advancing (levelled m) room t x n p)
      unfolding in_turn advancing ended
      in-turn zero p h = refl
      in-turn (suc n) p h =
          rw (entries-in p wide, same-before (flat_due m p.state) t) (go (is_before u t) refl (λ q k. in-turn n q k))
        where
          u : Time
          u = flat_due m p.state

          wide : Sits (suc t) p
          wide = (h.0, omega (arith, h.1), h.2, h.3)

          next : next_due m p.state ≡ u
          next = (agree-self m w self).same_next p.opening p.state p.state (refl, fit-opens m w p.opening p.opening p.state h.0 (omega arith) (fit-early m w p.opening p.state h.0))

          go : (b : Bool) → is_before u t ≡ b → ((q : Progress (List Entry)) → Sits t q → in_turn m t x n (to_stage q) ≡ answer (advancing (levelled m) room t x n q))
              → cond b (or_end (λ h. in_turn m t x n h) (to_stage p) (attempt m (ticks u) [] (to_stage p))) (or_end (λ h. (0, opened_past m t h)) (to_stage p) (attempt m t x (to_stage p)))
              ≡ answer (cond b (continued (λ q. advancing (levelled m) room t x n q) p (tried room (ticks u) p (instant (levelled m) (ticks u) [] p.state)))
              (continued (succeeded t) p (tried room t p (instant (levelled m) t x p.state))))
          go true e ih =
              let b = before-t t p.opening u (ap (not_before p.opening) (sym next) ∙ fit-early m w p.opening p.state h.0) e in
              let kept = fit-opens m w p.opening (ticks u) p.state h.0 b.0 (ap (not_before (ticks u)) next ∙ b.2) in
              ap (or_end (λ h. in_turn m t x n h) (to_stage p)) (attempted (ticks u) [] p no-ports wide b.0 kept)
              ∙ continues (suc (ticks u)) _ _ p (verdict (ticks u) [] p no-ports wide b.0 kept) (sits_on (ticks u) [] p no-ports wide b.0 kept)
              (λ q k. ih q (k.0, omega (arith, k.1, b.1), k.2, k.3))
          go false e ih =
              let kept = fit-opens m w p.opening t p.state h.0 h.1 (ap (not_before t) next ∙ not-before-t t u e) in
              ap (or_end (λ h. (0, opened_past m t h)) (to_stage p)) (attempted t x p ports wide h.1 kept)
              ∙ continues (suc t) _ _ p (verdict t x p ports wide h.1 kept) (sits_on t x p ports wide h.1 kept) opened-past
