-- Where a channel's turn is cut off by 22: what it has done are instants before t, one after the other; an advance to the moment of the last one
-- ends there, one to the moment of the instant left undone does that too, and one from there on, counted on, is the advance that the turn was a
-- part of. A turn that is not cut off ends as an advance does. Over anything that takes steps, by the cases of `EndsWithin`. Assumes nothing.
use mathlib.Core.Path.{◌≡◌, refl, sym, ap, subst}
use mathlib.Core.Logic.{◌⊎◌, inl, inr}
use Prim.Native.Nat.{ℕ, suc, ◌+◌, ◌≤◌, ◌<◌}
use mathlib.Core.List.{List, [], ◌∷◌, ◌++◌}
use mathlib.Core.Bool.{Bool, true, false, ◌||◌, not}
use native.Mathlib.Omega.{arith}
use lib.Dec.{ltb, eqb}
use lib.ListN.{length, length-append}
use borrow.Author.Tests.{ltb-true, ltb-false, le-ltb, eq-eqb, ne_eqb}
use Rattle.definition.specs.Lists.{is_empty}
use Rattle.definition.specs.Limits.{max_steps}
use Rattle.definition.specs.Model.{Bag}
use Rattle.definition.specs.Devs.{Time, finite, never, same_time}
use Rattle.definition.specs.Step.{Output, Simulator}
use Rattle.definition.specs.Instant.{is_due, goes_on, instant_trace}
use Rattle.definition.specs.Advance.{Progress, Ended, ended, succeeded, is_before}
use Rattle.definition.specs.AdvanceRelation
use Rattle.definition.specs.AdvanceRelation.{Whole, Next, before, at_end, with_instant, Ends}
use Rattle.definition.specs.Carrying.{begins}
use Rattle.definition.specs.ChannelRelation.{due_by, EndsWithin, jams, overruns, cut_off, continues, succeeds, idle}
use Rattle.law_base.proofs.Tests.{clash, or_left, or_right}
use Rattle.law_calls.proofs.Lift.{Agree}
use Rattle.law_calls.proofs.Ending.{kept_on}
use Rattle.law_calls.proofs.Counted.{counted_end, counted-ends, counted-begin}

-- ---- at least one instant

-- something is due at t, or the bag is not empty, where nothing is due before
due-now : {S : Type 0} (k : Simulator S) (t : ℕ) (x : Bag) (s : S) → is_before (k.next s) t ≡ false → due_by (k.next s) t x ≡ true → goes_on k t x s ≡ true
unfolding goes_on is_due due_by
due-now k t x s f d = go (k.next s) f d
  where
    at : (a : ℕ) (b : Bool) → ltb a (suc t) ≡ b → t ≤ a → b || not (is_empty x) ≡ true → eqb a t || not (is_empty x) ≡ true
    at a true e l h = or_left (eqb a t) (not (is_empty x)) (eq-eqb a t (omega (arith, ltb-true a (suc t) e)))
    at a false e l h = or_right (eqb a t) (not (is_empty x)) h

    go : (u : Time) → is_before u t ≡ false → is_before u (suc t) || not (is_empty x) ≡ true → same_time u (finite t) || not (is_empty x) ≡ true
    go (finite a) f d = unfold is_before same_time in (at a (ltb a (suc t)) refl (ltb-false a t f) d)
    go never f d = unfold is_before same_time in d

module _ {S : Type 0} {k : Simulator S} {has room t : ℕ} {x : Bag} where
  no-fewer : {p : Progress S} {e : Ended S} → EndsWithin k has room t x p e → p.instants ≤ e.progress.instants
  unfolding ended succeeded
  no-fewer (jams p now y next v) = omega arith
  no-fewer (overruns p now y z zs s' next w r) = omega arith
  no-fewer (cut_off p now y z zs s' next w v d) = omega arith
  no-fewer (continues p u z zs s' e f g w v d rest) = omega (arith, no-fewer rest)
  no-fewer (succeeds p z zs s' f w v d) = omega arith
  no-fewer (idle p f g) = omega arith

  -- With the steps of an instant, a turn does one that is due, unless that one meets 13 or 15.
  pub does_one : {p : Progress S} {e : Ended S} → EndsWithin k has room t x p e → p.steps + max_steps ≤ has → due_by (k.next p.state) t x ≡ true
      → (p.instants < e.progress.instants) ⊎ ((e.number ≡ 13) ⊎ (e.number ≡ 15))
  unfolding ended succeeded
  does_one (jams p now y next v) l d = inr (inl refl)
  does_one (overruns p now y z zs s' next w r) l d = inr (inr refl)
  does_one (cut_off p now y z zs s' next w v c) l d = absurd (omega (arith, w.few))
  does_one (continues p u z zs s' e f g w v c rest) l d = inl (omega (arith, no-fewer rest))
  does_one (succeeds p z zs s' f w v c) l d = inl (omega arith)
  does_one (idle p f g) l d = absurd (clash (due-now k t x p.state f d) g)

  -- With the steps of an instant it is cut off only behind one that was done.
  pub cut-behind : {p : Progress S} {e : Ended S} → EndsWithin k has room t x p e → p.steps + max_steps ≤ has → e.number ≡ 22 → p.instants < e.progress.instants
  unfolding ended succeeded
  cut-behind (jams p now y next v) l n = absurd (omega arith)
  cut-behind (overruns p now y z zs s' next w r) l n = absurd (omega arith)
  cut-behind (cut_off p now y z zs s' next w v c) l n = absurd (omega (arith, w.few))
  cut-behind (continues p u z zs s' e f g w v c rest) l n = omega (arith, no-fewer rest)
  cut-behind (succeeds p z zs s' f w v c) l n = absurd (omega arith)
  cut-behind (idle p f g) l n = absurd (omega arith)

-- nothing is due at a moment before the next
not_yet : {S : Type 0} (k : Simulator S) (now u : ℕ) (s : S) → k.next s ≡ finite u → now < u → goes_on k now [] s ≡ false
unfolding goes_on is_due same_time is_empty
not_yet k now u s f l = rw (f, ne_eqb u now (λ e. omega (arith, e, l)))

-- ---- instants done in turn, each before t

module _ {S : Type 0} (k : Simulator S) where
  pub data Chain (room t : ℕ) : Progress S → Progress S → Type 0 where
    none : (p : Progress S) → Chain room t p p
    link : (p : Progress S) (u : ℕ) (y : Output) (ys : List Output) (s' : S) (q : Progress S) → k.next p.state ≡ finite u → u < t
        → Whole k u [] p.state (y ∷ ys) s' → length (p.trace ++ instant_trace u (y ∷ ys)) ≤ room
        → Chain room t (with_instant k room t [] p u (y ∷ ys) s') q → Chain room t p q

  -- A turn that is cut off: what was done before, and the instant that is left undone.
  pub record CutOff (has room t : ℕ) (x : Bag) (p q : Progress S) : Type 0 where
    pub chain : Chain room t p q
    pub now : ℕ
    pub given : Bag
    pub next : Next k room t x q.state now given
    pub first : Output
    pub others : List Output
    pub after : S
    pub whole : Whole k now given q.state (first ∷ others) after
    pub in_room : length (q.trace ++ instant_trace now (first ∷ others)) ≤ room
    pub too_many : has < q.steps + length (first ∷ others)

  -- What a turn comes to: it ends as an advance does, or it is cut off.
  abbrev pub CutOr : (has room t : ℕ) → Bag → Progress S → Ended S → Type 0
  CutOr has room t x p e = Ends k room t x p e ⊎ ((e.number ≡ 22) × CutOff has room t x p e.progress)

  pub cut : {has room t : ℕ} {x : Bag} {p : Progress S} {e : Ended S} → EndsWithin k has room t x p e → CutOr has room t x p e
  unfolding ended
  cut (jams p now y next v) = inl (AdvanceRelation.jams p now y next v)
  cut (overruns p now y z zs s' next w r) = inl (AdvanceRelation.overruns p now y z zs s' next w r)
  cut (cut_off p now y z zs s' next w v d) =
      inr (refl, record { chain = none p; now = now; given = y; next = next; first = z; others = zs; after = s'; whole = w; in_room = v; too_many = d })
  cut {has} {room} {t} {x} (continues p u z zs s' e f g w v d rest) = go (cut rest)
    where
      go : CutOr has room t x (with_instant k room t x p u (z ∷ zs) s') e → CutOr has room t x p e
      go (inl h) = inl (AdvanceRelation.continues p u (z ∷ zs) s' e f g w v h)
      go (inr (q, h)) = inr (
        q,
        record {
          chain = link p u z zs s' _ f g w v h.chain;
          now = h.now;
          given = h.given;
          next = h.next;
          first = h.first;
          others = h.others;
          after = h.after;
          whole = h.whole;
          in_room = h.in_room;
          too_many = h.too_many;
        },
      )
  cut (succeeds p z zs s' f w v d) = inl (AdvanceRelation.succeeds p z zs s' f w v)
  cut (idle p f g) = inl (AdvanceRelation.idle p f g)

  module _ {room t : ℕ} where
    longer : {p q : Progress S} → Chain room t p q → length p.trace ≤ length q.trace
    longer (none p) = omega arith
    longer (link p u y ys s' q f g w v rest) = omega (arith, length-append p.trace (instant_trace u (y ∷ ys)), longer rest)

    no_less : {p q : Progress S} → Chain room t p q → p.instants ≤ q.instants
    no_less (none p) = omega arith
    no_less (link p u y ys s' q f g w v rest) = omega (arith, no_less rest)

    -- An advance to t that has come so far, on any trace that holds what is done, comes to the same from the beginning.
    pub follows : (room' : ℕ) (x : Bag) {p q : Progress S} (e : Ended S) → Chain room t p q → length q.trace ≤ room' → Ends k room' t x q e → Ends k room' t x p e
    follows room' x e (none p) l h = h
    follows room' x e (link p u y ys s' q f g w v rest) l h =
        AdvanceRelation.continues p u (y ∷ ys) s' e f g w (omega (arith, longer rest)) (follows room' x e rest l h)

    -- one more instant
    pub one_on : {p q : Progress S} (u : ℕ) (y : Output) (ys : List Output) (s' : S) → Chain room t p q → k.next q.state ≡ finite u → u < t
        → Whole k u [] q.state (y ∷ ys) s' → length (q.trace ++ instant_trace u (y ∷ ys)) ≤ room → Chain room t p (with_instant k room t [] q u (y ∷ ys) s')
    one_on u y ys s' (none p) f g w v = link p u y ys s' _ f g w v (none _)
    one_on u y ys s' (link p v z zs r q f g w i rest) f₁ g₁ w₁ v₁ = link p v z zs r _ f g w i (one_on u y ys s' rest f₁ g₁ w₁ v₁)

    -- Where it leads to a later moment, it has an instant.
    some_more : {p q : Progress S} → Chain room t p q → p.opening < q.opening → p.instants < q.instants
    some_more (none p) l = absurd (omega arith)
    some_more (link p u y ys s' q f g w v rest) l = omega (arith, no_less rest)

    -- An advance to an earlier moment than the last one's does fewer.
    pub fewer : (now : ℕ) {p q : Progress S} → Chain room t p q → p.opening ≤ now → suc now < q.opening
        → (e : Ended S) × Ends k room now [] p e × (e.progress.instants < q.instants)
    unfolding succeeded ended is_before
    fewer now (none p) o l = absurd (omega arith)
    fewer now (link p u y ys s' q f g w v rest) o l = go (ltb now u) refl (ltb u now) refl (λ h. fewer now rest h l)
      where
        go : (a : Bool) → ltb now u ≡ a → (b : Bool) → ltb u now ≡ b
            → (suc u ≤ now → (e : Ended S) × Ends k room now [] (with_instant k room t [] p u (y ∷ ys) s') e × (e.progress.instants < q.instants))
            → (e : Ended S) × Ends k room now [] p e × (e.progress.instants < q.instants)
        go true a b d ih = (
          succeeded now p,
          AdvanceRelation.idle p (rw (f, le-ltb u now (omega (arith, ltb-true now u a))))
              (not_yet k now u p.state f (ltb-true now u a)),
          omega (arith, no_less rest),
        )
        go false a true d ih =
            let r = ih (omega (arith, ltb-true u now d)) in (r.0, AdvanceRelation.continues p u (y ∷ ys) s' r.0 f (ltb-true u now d) w v r.1, r.2)
        go false a false d ih =
            let same : u ≡ now = omega (arith, ltb-false now u a, ltb-false u now d) in (
              succeeded u (with_instant k room t [] p u (y ∷ ys) s'),
              subst (λ n. Ends k room n [] p (succeeded u (with_instant k room t [] p u (y ∷ ys) s'))) same
                  (AdvanceRelation.succeeds p y ys s' (rw (f, le-ltb u u (omega arith))) w v),
              some_more rest (omega (arith, same, l)),
            )

  -- After 22: the turn's part, and the next advance's counted on, are one advance.
  pub goes-behind : {has room t : ℕ} {x : Bag} {p q : Progress S} → CutOff has room t x p q → (next : ℕ) (d : Ended S) → Ends k next t x (begins q.opening q.state) d
      → Ends k (length q.trace + next) t x p (counted_end k t x q.instants q.steps q.trace q.rules d)
  goes-behind {t = t} {x = x} {q = q} c next d h =
      let on = counted_end k t x q.instants q.steps q.trace q.rules d in
      follows (length q.trace + next) x on c.chain (omega arith)
      (subst (λ z. Ends k (length q.trace + next) t x z on) (counted-begin k t x q) (counted-ends k t x q.instants q.steps q.trace q.rules next h))

-- ---- where a chain leads

-- An advance to the moment of its last instant ends there.
pub record LedTo {S : Type 0} (k : Simulator S) (room t : ℕ) (p q : Progress S) : Type 0 where
  pub last : ℕ
  pub opened : q.opening ≡ suc last
  pub later : p.opening ≤ last
  pub in_time : last < t
  pub more : p.instants < q.instants
  pub ends_so : Ends k room last [] p (ended 0 q)

-- The instant that is left undone is done by an advance to its moment, with the bag where that is t.
pub record DoneNext {S : Type 0} (k : Simulator S) (room t : ℕ) (x : Bag) (p on : Progress S) (now : ℕ) (given : Bag) : Type 0 where
  pub from_open : p.opening ≤ now
  pub which : ((now < t) × (given ≡ [])) ⊎ ((now ≡ t) × (given ≡ x))
  pub ends_so : Ends k room now given p (succeeded now on)

module _ {S : Type 0} {At Between : ℕ → S → S → Type 0} {Fine : Bag → Bag → Type 0} {k : Simulator S} (a : Agree At Between Fine k k) {room t : ℕ} where
  -- It keeps what an advance keeps.
  pub chain-kept : {p q : Progress S} → Chain k room t p q → Between p.opening p.state p.state → p.opening ≤ t
      → Between q.opening q.state q.state × (q.opening ≤ t)
  chain-kept (none p) b o = (b, o)
  chain-kept (link p u y ys s' q f g w v rest) b o = chain-kept rest (kept_on a room t [] p u s' (y ∷ ys) b f w).1 g

  pub leads : {p q : Progress S} → Chain k room t p q → Between p.opening p.state p.state → (q ≡ p) ⊎ LedTo k room t p q
  leads (none p) b = inl refl
  leads (link p u y ys s' q f g w v rest) b = let c = kept_on a room t [] p u s' (y ∷ ys) b f w in go c.0 (leads rest c.1)
    where
      p₁ : Progress S
      p₁ = with_instant k room t [] p u (y ∷ ys) s'

      here : is_before (k.next p.state) u ≡ false
      here = unfold is_before in (rw (f, le-ltb u u (omega arith)))

      only_one : Ends k room u [] p (ended 0 p₁)
      only_one = unfold ended succeeded in (AdvanceRelation.succeeds p y ys s' here w v)

      go : p.opening ≤ u → (q ≡ p₁) ⊎ LedTo k room t p₁ q → (q ≡ p) ⊎ LedTo k room t p q
      go l (inl e) = inr (record {
        last = u;
        opened = ap (λ r. r.opening) e;
        later = l;
        in_time = g;
        more = omega (arith, ap (λ r. r.instants) e);
        ends_so = subst (λ r. Ends k room u [] p (ended 0 r)) (sym e) only_one;
      })
      go l (inr h) = inr (record {
        last = h.last;
        opened = h.opened;
        later = omega (arith, h.later);
        in_time = h.in_time;
        more = omega (arith, h.more);
        ends_so = AdvanceRelation.continues p u (y ∷ ys) s' _ f (omega (arith, h.later)) w v h.ends_so;
      })

  pub done_next : {has : ℕ} {x : Bag} {p q : Progress S} (c : CutOff k has room t x p q) → Between p.opening p.state p.state → p.opening ≤ t
      → DoneNext k room t x p (with_instant k room t x q c.now (c.first ∷ c.others) c.after) c.now c.given
  unfolding succeeded
  done_next {x = x} {p = p} {q = q} c b o = go c.now c.given c.next c.whole c.in_room
    where
      on : ℕ → Progress S
      on now = with_instant k room t x q now (c.first ∷ c.others) c.after

      -- before t: the chain with that instant, too, leads to it
      led : (u : ℕ) → u < t → (on u ≡ p) ⊎ LedTo k room t p (on u) → DoneNext k room t x p (on u) u []
      led u g (inl e) = absurd (omega (arith, ap (λ r. r.instants) e, no_less k c.chain))
      led u g (inr h) =
          let same : h.last ≡ u = omega (arith, h.opened) in
          record {
            from_open = omega (arith, h.later);
            which = inl (g, refl);
            ends_so = subst (λ i. Ends k room i [] p (ended 0 (on u))) same h.ends_so;
          }

      go : (now : ℕ) (y : Bag) → Next k room t x q.state now y → Whole k now y q.state (c.first ∷ c.others) c.after
          → length (q.trace ++ instant_trace now (c.first ∷ c.others)) ≤ room → DoneNext k room t x p (on now) now y
      go now y (before u f g) w v = led u g (leads (one_on k u c.first c.others c.after c.chain f g w v) b)
      go now y (at_end f) w v = record {
        from_open = o;
        which = inr (refl, refl);
        ends_so = follows k room x _ c.chain (omega (arith, length-append q.trace (instant_trace t (c.first ∷ c.others)))) (AdvanceRelation.succeeds q c.first c.others c.after f w v);
      }
