-- After 22 a channel's turn and its own advance on what that left are one advance with a trace for both; and with the steps of an instant the turn
-- has opened a later moment. On another trace an advance ends alike, if it is long enough. Assumes nothing.
use mathlib.Core.Path.{◌≡◌, refl, sym, ap, ap₂, ◌∙◌, subst}
use mathlib.Core.Logic.{◌⊎◌, inl, inr}
use mathlib.Core.Option.{some}
use Prim.Native.Nat.{ℕ, ◌+◌, ◌≤◌, ◌<◌}
use mathlib.Core.List.{List, [], ◌++◌}
use mathlib.Core.Bool.{true}
use native.Mathlib.Omega.{arith}
use lib.ListN.{length}
use Rattle.definition.specs.Bytes.{Bytes, Result, ok, refused, ◌>>=◌, stored}
use Rattle.definition.specs.Limits.{max_steps}
use Rattle.definition.specs.Model.{Bag, Model, atomics}
use Rattle.definition.specs.Pinned.Decoder.{accepted}
use Rattle.definition.specs.SavedRun.{Entry, Run, run_length, run_of, run_bytes, run_fits}
use Rattle.definition.specs.Step.{Simulator, nested}
use Rattle.definition.specs.Advance.{Progress, Ended, ended, advance_from}
use Rattle.definition.specs.AdvanceRelation.{Ends, jams, overruns, continues, succeeds, idle}
use Rattle.definition.specs.Engine.{Advanced, to_bag, advance_checks, with_rules, advanced, advance}
use Rattle.definition.specs.Channels.{Channel, turn}
use Rattle.definition.specs.ChannelRows.{MayTurn}
use Rattle.definition.specs.SeveralChannels.{alone, followed_by, in_one}
use Rattle.definition.specs.Carrying.{begins}
use Rattle.definition.specs.Demands.{opening_of, MayAdvance}
use Rattle.law_model.proofs.WellFormed.{WellFormed}
use Rattle.law_model.proofs.RunBack.{length_run}
use Rattle.law_model.proofs.Answers.{end_of, advance-done}
use Rattle.law_nest.proofs.Pairs.{pairs-length}
use Rattle.law_flat.proofs.Checks.{advance-ok}
use Rattle.law_calls.proofs.Counted.{next-same, counted_end}
use Rattle.law_calls.proofs.BagOrder.{agree-order}
use Rattle.law_calls.proofs.Fitting.{FitRun, advance-fit}
use Rattle.law_channels.proofs.TurnRows.{end_within, turn-may}
use Rattle.theory.proofs.Buffers.{stored-again, stored-front}
use Rattle.theory.proofs.RuleTables.{no_table, nest-long}
use Rattle.theory.proofs.ChannelRows.{left_in, turn-fit, turn-back}
use Rattle.theory.proofs.Demand1.{advance_ends, advance_only}
use Rattle.theory.proofs.CutTurns.{LedTo, chain-kept, goes-behind}
use Rattle.theory.proofs.TurnAdvances.{from_run, fitting, cut-where}
use Rattle.theory.proofs.TurnsCut.{CutTurn, cut-here}

-- ---- an advance on another trace

-- on a longer one, unless it met 15
longer-ends : {S : Type 0} {k : Simulator S} {room t : ℕ} {x : Bag} (room' : ℕ) → room ≤ room' → {p : Progress S} {e : Ended S} → Ends k room t x p e
    → (e.number ≡ 15 → ⊥) → Ends k room' t x p e
unfolding ended
longer-ends {k = k} {room = room} {t = t} {x = x} room' l (jams p now y next v) n = jams p now y (next-same k t x room room' p.state p.state now y refl next) v
longer-ends room' l (overruns p now y z zs s' next w r) n = absurd (n refl)
longer-ends room' l (continues p u xs s' e f g w v rest) n = continues p u xs s' e f g w (omega (arith, v, l)) (longer-ends room' l rest n)
longer-ends room' l (succeeds p y ys s' f w v) n = succeeds p y ys s' f w (omega (arith, v, l))
longer-ends room' l (idle p f g) n = idle p f g

module _ (file : Bytes) (m : Model) (w : WellFormed m) (e : accepted file ≡ ok m) (run : Bytes) (t : ℕ) (bag : Bytes) where
  -- it has no table, and leaves none
  end-table : MayAdvance m run t bag → (trace : Bytes) → (let p = (end_of m run t bag trace).progress in with_rules (length p.state) p []) ≡ []
  end-table h trace =
      let p = (end_of m run t bag trace).progress in
      let size = pairs-length _ (atomics m.components) p.state (advance-fit m w run t (length trace) (to_bag bag) h.run_fits_lem h.not_early h.not_late).0 in
      ap (λ n. with_rules n p []) size ∙ no_table _ p (nest-long m (length trace) t (to_bag bag) (advance_ends run t bag trace m w h.run_fits_lem h.not_early) (inl refl))

  -- the same end, told in another trace
  retold : (T U : Bytes) (E : Ended (List Entry)) → with_rules (length E.progress.state) E.progress [] ≡ [] → advanced run U [] (ok E) ≡ in_one (alone (length T) (advanced run T [] (ok E))) U
  unfolding advanced alone
  retold T U E none =
      let f = sym (stored-front E.progress.trace T) in
      λ i. record {
        number = E.number;
        instants = E.progress.instants;
        steps = E.progress.steps;
        used = length (f i);
        run = stored (run_bytes (left_in E)) run;
        trace = stored (f i) U;
        table = none i;
      }

  other-trace : (T U : Bytes) → (MayAdvance m run t bag → end_of m run t bag U ≡ end_of m run t bag T)
      → advance file run t bag U [] ≡ in_one (alone (length T) (advance file run t bag T [])) U
  unfolding advance
  other-trace T U s = rw e (go (advance_checks m run t bag) refl)
    where
      go : (r : Result (Unit {0})) → advance_checks m run t bag ≡ r
          → advanced run U [] (advance_checks m run t bag >>= λ _. ok (end_of m run t bag U))
          ≡ in_one (alone (length T) (advanced run T [] (advance_checks m run t bag >>= λ _. ok (end_of m run t bag T)))) U
      go (refused n) f = rw f (unfold advanced alone stored in refl)
      go (ok u) f =
          let h = advance-ok m run t bag f in
          rw f (ap (λ z. advanced run U [] (ok z)) (s h) ∙ retold T U (end_of m run t bag T) (end-table h T))

  pub as_long : (T U : Bytes) → length U ≡ length T → advance file run t bag U [] ≡ in_one (alone (length T) (advance file run t bag T [])) U
  as_long T U l = other-trace T U (λ h. ap (λ r. advance_from (nested m) r t (to_bag bag) (opening_of m run) (run_of m run).entries) l)

  pub longer : (T U : Bytes) → length T ≤ length U → ((advance file run t bag T []).number ≡ 15 → ⊥)
      → advance file run t bag U [] ≡ in_one (alone (length T) (advance file run t bag T [])) U
  unfolding advanced
  longer T U l n = other-trace T U (λ h.
      advance_only run t bag U m w h.run_fits_lem h.not_early _
      (longer-ends (length U) l (advance_ends run t bag T m w h.run_fits_lem h.not_early)
      (λ z. n (ap (λ (a : Advanced). a.number) (advance-done file run t bag T [] m e h) ∙ z))))

-- ---- one call more

-- runs that fit are as long as each other
one-length : (m : Model) (r s : Run) → FitRun m r → FitRun m s → length (run_bytes r) ≡ length (run_bytes s)
one-length m r s f g =
    let L = atomics m.components in
    length_run r ∙ ap run_length (pairs-length _ L r.entries f.0 ∙ sym (pairs-length _ L s.entries g.0)) ∙ sym (length_run s)

module _ (file : Bytes) (m : Model) (w : WellFormed m) (e : accepted file ≡ ok m) (t has : ℕ) (c : Channel) (x : CutTurn m t has c) where
  abbrev bag : Bytes
  bag = x.bag

  abbrev may : MayTurn m t c bag
  may = x.may

  abbrev a : Advanced
  a = turn m t has c

  abbrev E : Ended (List Entry)
  E = end_within m t has c bag

  abbrev q : Progress (List Entry)
  q = E.progress

  is : a ≡ advanced c.run c.trace [] (ok E)
  is = turn-may m t has c bag may

  back : (run_fits m a.run ≡ true) × (run_of m a.run ≡ left_in E)
  back = turn-back m w t has c bag may

  -- the same call may be made on what it leaves
  ready : MayAdvance m a.run t bag
  ready = record {
    run_fits_lem = back.0;
    not_early = subst (λ (r : Run). r.opening ≤ t) (sym back.1) (chain-kept (agree-order m w) x.cut.chain (fitting m w t has c bag may) may.not_early).1;
    not_late = may.not_late;
    bag_fits_lem = may.bag_fits_lem;
  }

  -- With the steps of an instant, a later moment is open.
  later : max_steps ≤ has → opening_of m c.run < opening_of m a.run
  later l = subst (λ (r : Run). opening_of m c.run < r.opening) (sym back.1) (go (cut-where m w t has c bag may x.cut))
    where
      go : (q ≡ from_run m c) ⊎ LedTo (nested m) (length c.trace) t (from_run m c) q → opening_of m c.run < q.opening
      go (inl z) = absurd (omega (arith, l, ap (λ (p : Progress (List Entry)). p.steps) z, x.cut.too_many, x.cut.whole.few))
      go (inr z) = omega (arith, z.later, z.opened)

  module _ (next : Bytes) where
    -- its own advance from there, and both as one
    abbrev then : Ended (List Entry)
    then = end_of m a.run t bag next

    abbrev both : Ended (List Entry)
    both = counted_end (nested m) t (to_bag bag) q.instants q.steps q.trace q.rules then

    then-ends : Ends (nested m) (length next) t (to_bag bag) (begins q.opening q.state) then
    then-ends =
        subst (λ (r : Run). Ends (nested m) (length next) t (to_bag bag) (begins r.opening r.entries) then) back.1
        (advance_ends a.run t bag next m w ready.run_fits_lem ready.not_early)

    both_ends : (trace : Bytes) → length trace ≡ a.used + length next → Ends (nested m) (length trace) t (to_bag bag) (from_run m c) both
    unfolding advanced
    both_ends trace l =
        subst (λ n. Ends (nested m) n t (to_bag bag) (from_run m c) both) (sym (l ∙ ap (λ n. n + length next) (ap (λ (r : Advanced). r.used) is)))
        (goes-behind (nested m) x.cut (length next) then then-ends)

    then_fit : FitRun m (left_in then)
    then_fit = advance-fit m w a.run t (length next) (to_bag bag) ready.run_fits_lem ready.not_early ready.not_late

    -- the run written over the one that the first call left, the records behind its own
    joined_is : (trace : Bytes) → with_rules (length both.progress.state) both.progress [] ≡ []
        → advanced c.run trace [] (ok both)
        ≡ in_one (followed_by (advanced c.run c.trace [] (ok E)) (alone (length next) (advanced (advanced c.run c.trace [] (ok E)).run next [] (ok then)))) trace
    unfolding advanced followed_by alone
    joined_is trace none =
        let f = ap₂ ◌++◌ (sym (stored-front q.trace c.trace)) (sym (stored-front then.progress.trace next)) in
        let g = sym (stored-again (run_bytes (left_in then)) (run_bytes (left_in E)) c.run (one-length m (left_in then) (left_in E) then_fit (turn-fit m w t has c bag may))) in
        λ i. record {
          number = then.number;
          instants = q.instants + then.progress.instants;
          steps = q.steps + then.progress.steps;
          used = length (f i);
          run = g i;
          trace = stored (f i) trace;
          table = none i;
        }

    one_more : (trace : Bytes) → length trace ≡ a.used + length next
        → advance file c.run t bag trace [] ≡ in_one (followed_by a (alone (length next) (advance file a.run t bag next []))) trace
    one_more trace l =
        let ends = both_ends trace l in
        let size = pairs-length _ (atomics m.components) then.progress.state then_fit.0 in
        let none = ap (λ n. with_rules n both.progress []) size ∙ no_table _ both.progress (nest-long m (length trace) t (to_bag bag) ends (inl refl)) in
        advance-done file c.run t bag trace [] m e (record { run_fits_lem = may.run_fits_lem; not_early = may.not_early; not_late = may.not_late; bag_fits_lem = may.bag_fits_lem })
        ∙ ap (λ z. advanced c.run trace [] (ok z)) (advance_only c.run t bag trace m w may.run_fits_lem may.not_early both ends) ∙ joined_is trace none
        ∙ ap (λ (r : Advanced). in_one (followed_by r (alone (length next) (advanced r.run next [] (ok then)))) trace) (sym is)
        ∙ ap (λ (r : Advanced). in_one (followed_by a (alone (length next) r)) trace) (sym (advance-done file a.run t bag next [] m e ready))

-- ---- after 22

pub some_same : (b d : Bytes) → some b ≡ some d → b ≡ d
some_same b d z = cc

module _ (file : Bytes) (m : Model) (w : WellFormed m) (e : accepted file ≡ ok m) (t has : ℕ) (c : Channel) (bag : Bytes) (p : c.bag ≡ some bag) (n : (turn m t has c).number ≡ 22) where
  here : CutTurn m t has c
  here = cut-here m w t has c n

  same_bag : here.bag ≡ bag
  same_bag = some_same here.bag bag (sym here.may.inside ∙ p)

  -- the two calls are one
  pub goes-on-in : (next trace : Bytes) → length trace ≡ (turn m t has c).used + length next
      → (let a = turn m t has c in advance file c.run t bag trace [] ≡ in_one (followed_by a (alone (length next) (advance file a.run t bag next []))) trace)
  goes-on-in next trace l =
      subst (λ (b : Bytes). (let a = turn m t has c in advance file c.run t b trace [] ≡ in_one (followed_by a (alone (length next) (advance file a.run t b next []))) trace)) same_bag
      (one_more file m w e t has c here next trace l)

  -- a later moment is open, and not one past t
  pub opens-later : max_steps ≤ has → (opening_of m c.run < opening_of m (turn m t has c).run) × (opening_of m (turn m t has c).run ≤ t)
  opens-later l = (later file m w e t has c here l, (ready file m w e t has c here).not_early)
