-- One turn of advance, by the moment that is next and by what the tried instant gave: it goes on, it stops, or it was the last. Over
-- anything that takes steps. Assumes nothing.
use mathlib.Core.Path.{◌≡◌, refl, ◌∙◌, sym, ap, ap₂, subst}
use mathlib.Core.List.{List, []}
use mathlib.Core.Bool.{Bool, true, false, cond}
use Prim.Native.Nat.{ℕ, suc, ◌+◌, ◌-◌, ◌*◌, ◌≤◌, ◌<◌}
use native.Mathlib.Omega.{arith}
use lib.ListN.{length, drop}
use lib.Dec.{ltb, leb}
use lib.Seq.{drop-drop}
use borrow.Author.Tests.{ltb-true, lt-ltb, le-ltb, leb-true, leb-false}
use Rattle.definition.specs.Bytes.{Bytes, ok, refused}
use Rattle.definition.specs.Model.{Bag}
use Rattle.definition.specs.Devs.{Time, finite, never, ticks}
use Rattle.definition.specs.Step.{Simulator}
use Rattle.definition.specs.Instant.{Instant, instant}
use Rattle.definition.specs.Advance.{ended, continued, succeeded, is_before}
use Rattle.definition.specs.Advance as Definition
use Rattle.definition.specs.Channels.{tried_within, advancing_within}
use Rattle.definition.specs.Limits.{max_steps}
use Rattle.definition.specs.Engine.{to_bag, due_number}
use Rattle.law_base.proofs.Turns.{last-turn-within, more-turn-within}
use Rattle.clock.specs.Times.{latest}
use Rattle.run_state.specs.declared.State.{State}
use Rattle.run_state.specs.Held.{held_in}
use Rattle.law_step.proofs.Carried.{before-number, moment-number}
use Rattle.instant_steps.specs.Sim.{Ready}
use Rattle.instant_steps.proofs.Steps.{bag-none}
use Rattle.std.proofs.Common.{Some, Result, Ok, Err}
use Rattle.refusals.specs.Refusals.{number_of}
use Rattle.refusals.specs.declared.Refusal.{Refusal}
use Rattle.instant_attempt.specs.Progress.{rules_by, progress_of, tried_of, progress_in, Beyond, Unchanged, TriedWithin}
use Rattle.instant_attempt.specs.declared.Progress.{Progress}
use Rattle.instant_loop.specs.declared.Ended.{Ended}
use Rattle.instant_loop.specs.Ends.{within_of, given_to, ended_of, AdvancedTo, finished_of}

-- ---- the next moment

abbrev pub next_of : Time → ℕ → ℕ
next_of u t = cond (is_before u t) (ticks u) t

-- The code's choice, by the number of the due moment.
pub next-as : (u : Time) (due t v : ℕ) → due ≡ due_number u → t ≤ latest → v ≡ cond (ltb due t) due t → v ≡ next_of u t
next-as u due t v d l e =
    e ∙ ap (λ w. cond (ltb w t) w t) d ∙ ap (λ b. cond b (due_number u) t) (before-number u t l) ∙ go (is_before u t) refl
  where
    go : (b : Bool) → is_before u t ≡ b → cond b (due_number u) t ≡ cond b (ticks u) t
    go true f = moment-number u t f
    go false f = refl

pub next-most : (due t v : ℕ) → v ≡ cond (ltb due t) due t → v ≤ t
next-most due t v e = go (ltb due t) refl e
  where
    go : (b : Bool) → ltb due t ≡ b → v ≡ cond b due t → v ≤ t
    go true f g = omega (arith, ltb-true due t f)
    go false f g = omega arith

pub not_before_lem : (u : Time) (t v : ℕ) → v ≡ next_of u t → t ≤ v → is_before u t ≡ false
unfolding is_before ticks
not_before_lem (finite a) t v e h = go (ltb a t) refl e
  where
    go : (b : Bool) → ltb a t ≡ b → v ≡ cond b a t → b ≡ false
    go true f e = absurd (omega (arith, ltb-true a t f))
    go false f e = refl
not_before_lem never t v e h = refl

pub is-before : (u : Time) (t v : ℕ) → v ≡ next_of u t → v < t → (is_before u t ≡ true) × (ticks u ≡ v)
unfolding is_before ticks
is-before (finite a) t v e h = go (ltb a t) refl e
  where
    go : (b : Bool) → ltb a t ≡ b → v ≡ cond b a t → (b ≡ true) × (a ≡ v)
    go true f e = (refl, sym e)
    go false f e = absurd (omega arith)
is-before never t v e h = absurd (omega arith)

goes-ok : {S : Type 0} (on : Definition.Progress S → Definition.Ended S) (p q : Definition.Progress S) → continued on p (ok q) ≡ on q
unfolding continued
goes-ok on p q = refl

goes-no : {S : Type 0} (on : Definition.Progress S → Definition.Ended S) (p : Definition.Progress S) (m : ℕ) → continued on p (refused m) ≡ ended m p
unfolding continued
goes-no on p m = refl

-- ---- one turn of the code

-- Where a refusal stops a call.
abbrev pub stopped : Refusal → Progress → Ended
stopped r g = record { refusal = Some r; progress = g }

succeeded-as : (t : ℕ) (trace : Bytes) (tables ws : List ℕ) (g : Progress) → succeeded t (progress_of trace tables ws g) ≡ ended_of trace tables ws (finished_of t g)
unfolding succeeded progress_of rules_by finished_of
succeeded-as t trace tables ws g = refl

state-in : (trace : Bytes) (tables ws : List ℕ) (g : Progress) → (progress_of trace tables ws g).state ≡ held_in ws
unfolding progress_of
state-in trace tables ws g = refl

-- An instant at v after the progress g, tried.
abbrev pub TriedAt : List ℕ → List ℕ → (has v : ℕ) → Progress → List ℕ → List ℕ → Bytes → Bytes → Instant State → Result Progress Refusal → Type 0
TriedAt phases tables has v g ws ws' trace trace' i e = TriedWithin phases tables (record { at = record { 0 = v }; has = has; progress = g }) ws ws' trace trace' i e

module _ (phases tables : List ℕ) (k : Simulator State) (has t : ℕ) (x : Bag) (g : Progress) (ws ws' : List ℕ) (trace trace' : Bytes) where
  abbrev st : State
  st = held_in ws

  abbrev p : Definition.Progress State
  p = progress_of trace tables ws g

  -- A refusal leaves the progress as it was.
  undone-as : (on : Definition.Progress State → Definition.Ended State) (r : Refusal) → Unchanged ws ws' trace trace'
      → continued on p (tried_of trace' tables ws' (Err r)) ≡ ended_of trace' tables ws' (stopped r g)
  undone-as on r u =
      goes-no on p (number_of r) ∙ ap (ended (number_of r)) (ap₂ (λ (b : Bytes) (w : List ℕ). progress_of b tables w g) (sym u.bytes) (sym u.state))

  module _ (e : Result Progress Refusal) (m : ℕ) where
    -- The last turn: t with the bag.
    turn_last : TriedAt phases tables has t g ws ws' trace trace' (instant k t x st) e → is_before (k.next st) t ≡ false
        → advancing_within k has (length trace) t x (suc m) p ≡ continued (succeeded t) p (tried_of trace' tables ws' e)
    turn_last a b =
        last-turn-within k has (length trace) t x m p (subst (λ (s : State). is_before (k.next s) t ≡ false) (sym (state-in trace tables ws g)) b)
        ∙ ap (λ (s : State). continued (succeeded t) p (tried_within has (length trace) t p (instant k t x s))) (state-in trace tables ws g)
        ∙ ap (continued (succeeded t) p) (sym a.same)

    abbrev on : Definition.Progress State → Definition.Ended State
    on q = advancing_within k has (length trace) t x m q

    -- An instant before t, with no bag.
    turn_more : (u : ℕ) (y : Bag) → y ≡ [] → TriedAt phases tables has u g ws ws' trace trace' (instant k u y st) e
        → (is_before (k.next st) t ≡ true) × (ticks (k.next st) ≡ u)
        → advancing_within k has (length trace) t x (suc m) p ≡ continued on p (tried_of trace' tables ws' e)
    turn_more u y none a b =
        more-turn-within k has (length trace) t x m p (subst (λ (s : State). is_before (k.next s) t ≡ true) (sym (state-in trace tables ws g)) b.0)
        ∙ ap (λ (s : State). continued on p (tried_within has (length trace) (ticks (k.next s)) p (instant k (ticks (k.next s)) [] s))) (state-in trace tables ws g)
        ∙ ap₂ (λ (w : ℕ) (z : Bag). continued on p (tried_within has (length trace) w p (instant k w z st))) b.1 (sym none)
        ∙ ap (continued on p) (sym a.same)

-- ---- the trace through two changes

pub beyond-on : (trace₀ trace trace' : Bytes) (u v : ℕ) → u ≤ v → Beyond trace₀ trace u → Beyond trace trace' v → Beyond trace₀ trace' v
beyond-on trace₀ trace trace' u v l a b =
    let e : u + (v - u) ≡ v = omega arith in
    let d : drop v trace ≡ drop v trace₀
    = subst (λ (k : ℕ). drop k trace ≡ drop k trace₀) e (sym (drop-drop (v - u) u trace) ∙ ap (drop (v - u)) a.same ∙ drop-drop (v - u) u trace₀) in
    record { within = omega (arith, a.size, b.within); size = b.size ∙ a.size; same = b.same ∙ d }

used-as : (t : ℕ) (g : Progress) → (finished_of t g).progress.used ≡ g.used
unfolding finished_of
used-as t g = refl

-- ---- a turn inside the loop: `whole` is what the call gives, and the turns left give it from here; the bag is given at t alone

module _ (phases tables : List ℕ) (k : Simulator State) (has t : ℕ) (bag : Bytes) (whole : Definition.Ended State) (trace₀ trace : Bytes) (ws : List ℕ) (g : Progress) (left : ℕ)
    (from_here : advancing_within k has (length trace₀) t (to_bag bag) (suc left) (progress_of trace tables ws g) ≡ whole) (b : Beyond trace₀ trace g.used)
    (trace' : Bytes) (ws' : List ℕ) (v : ℕ) (next : v ≡ next_of (k.next (held_in ws)) t) (most : v ≤ t) where
  abbrev x : Bag
  x = to_bag bag

  abbrev old : State
  old = held_in ws

  abbrev before : Definition.Progress State
  before = progress_of trace tables ws g

  abbrev Tries : Result Progress Refusal → Type 0
  Tries e = TriedAt phases tables has v g ws ws' trace trace' (instant k v (to_bag (given_to bag v t)) old) e

  here : advancing_within k has (length trace) t x (suc left) before ≡ whole
  here = ap (λ (room : ℕ). advancing_within k has room t x (suc left) before) b.size ∙ from_here

  module _ (e : Result Progress Refusal) (a : Tries e) where
    on_beyond : Beyond trace₀ trace' (progress_in g e).used
    on_beyond = beyond-on trace₀ trace trace' g.used (progress_in g e).used a.more b a.beyond

    at_t : v ≡ t → TriedAt phases tables has t g ws ws' trace trace' (instant k t x old) e
    at_t q =
        let b : given_to bag t t ≡ bag = rw (le-ltb t t (omega arith)) in
        subst (λ (y : Bag). TriedAt phases tables has t g ws ws' trace trace' (instant k t y old) e) (ap to_bag b)
        (subst (λ (w : ℕ). TriedAt phases tables has w g ws ws' trace trace' (instant k w (to_bag (given_to bag w t)) old) e) q a)

    turned_last : t ≤ v → whole ≡ continued (succeeded t) before (tried_of trace' tables ws' e)
    turned_last l =
        sym here ∙ turn_last phases tables k has t x g ws ws' trace trace' e left (at_t (omega arith)) (not_before_lem (k.next old) t v next l)

    turned_more : v < t → whole ≡ continued (λ q. advancing_within k has (length trace) t x left q) before (tried_of trace' tables ws' e)
    turned_more l =
        let none : to_bag (given_to bag v t) ≡ [] = rw (lt-ltb v t l) (bag-none bag) in
        sym here ∙ turn_more phases tables k has t x g ws ws' trace trace' e left v (to_bag (given_to bag v t)) none a (is-before (k.next old) t v next l)

  -- A refusal ends the call.
  pub ends-stop : (r : Refusal) → Tries (Err r) → AdvancedTo phases tables trace₀ trace' ws' (stopped r g) whole
  ends-stop r a = record { same = sym (go (leb t v) refl); beyond = on_beyond (Err r) a; ready = a.ready }
    where
      go : (b : Bool) → leb t v ≡ b → whole ≡ ended_of trace' tables ws' (stopped r g)
      go true q = turned_last (Err r) a (leb-true t v q) ∙ undone-as phases tables k has t x g ws ws' trace trace' (succeeded t) r a.undone
      go false q =
          turned_more (Err r) a (leb-false t v q)
          ∙ undone-as phases tables k has t x g ws ws' trace trace' (λ q. advancing_within k has (length trace) t x left q) r a.undone

  -- It ends at t.
  pub ends_last : (q : Progress) → Tries (Ok q) → t ≤ v → (f : Ended) → f ≡ finished_of t q → AdvancedTo phases tables trace₀ trace' ws' f whole
  ends_last q a l f w = record {
    same = ap (ended_of trace' tables ws') w ∙ sym (turned_last (Ok q) a l ∙ goes-ok (succeeded t) before (progress_of trace' tables ws' q) ∙ succeeded-as t trace' tables ws' q);
    beyond = subst (Beyond trace₀ trace') (sym (ap (λ (z : Ended). z.progress.used) w ∙ used-as t q)) (on_beyond (Ok q) a);
    ready = a.ready;
  }

  -- Before t it goes on.
  pub continues : (q : Progress) → Tries (Ok q) → v < t → Beyond trace₀ trace' q.used × (advancing_within k has (length trace₀) t x left (progress_of trace' tables ws' q) ≡ whole)
  continues q a l = (
    on_beyond (Ok q) a,
    ap (λ (room : ℕ). advancing_within k has room t x left (progress_of trace' tables ws' q)) (sym b.size)
        ∙ sym (turned_more (Ok q) a l ∙ goes-ok (λ q. advancing_within k has (length trace) t x left q) before (progress_of trace' tables ws' q)),
  )

-- ---- the loop

-- What holds after so many turns: numbers with room for the turns left, the trace beyond the records, the turns left from here, and the due
-- moments.
pub record Turning (phases rules tables : List ℕ) (has t : ℕ) (bag : Bytes) (g₀ : Progress) (ws₀ work₀ : List ℕ) (trace₀ : Bytes)
    (g : Progress) (ws : List ℕ) (trace : Bytes) (turns : ℕ) : Type 0 where
  pub instants : g.instants + (suc t - turns) ≤ latest
  pub steps : g.steps + max_steps * (suc t - turns) ≤ latest
  pub beyond : Beyond trace₀ trace g.used
  pub from_here : within_of phases rules tables (length work₀) has (length trace₀) t bag (suc t - turns) (progress_of trace tables ws g)
      ≡ within_of phases rules tables (length work₀) has (length trace₀) t bag (suc t) (progress_of trace₀ tables ws₀ g₀)
  pub ready : Ready phases tables ws
