-- One call of a feed as the code makes it: it stops the feed, or the calls that are left go on from where it ended. Assumes nothing.
use mathlib.Core.Path.{◌≡◌, refl, sym, ap, ◌∙◌}
use Prim.Native.Nat.{ℕ, suc, ◌+◌, ◌-◌, ◌*◌, ◌≤◌}
use mathlib.Core.List.{List, [], ◌∷◌}
use mathlib.Core.Bool.{Bool, true, false, ◌||◌, not}
use native.Mathlib.Omega.{arith}
use lib.ListN.{length, drop}
use lib.Seq.{length-take-le}
use borrow.Author.Tests.{eq-eqb, ne_eqb, not-false}
use Rattle.definition.specs.Bytes.{Bytes, ok}
use Rattle.definition.specs.Limits.{max_moment, count_size, message_size, max_given, bag_head}
use Rattle.definition.specs.Model.{Bag}
use Rattle.definition.specs.Step.{Simulator}
use Rattle.definition.specs.Advance.{ended, advancing}
use Rattle.definition.specs.Advance as Definition
use Rattle.definition.specs.Engine.{to_bag}
use Rattle.definition.specs.Feed.{FeedBag}
use Rattle.definition.specs.Pinned.FeedReader.{bags_from}
use Rattle.law_base.proofs.Tests.{clash, or-none}
use Rattle.law_feed.specs.Onward.{bags_onward}
use Rattle.law_feed.specs.Onward as Law
use Rattle.law_feed.proofs.Bounded.{Bounded, advancing-bounded}
use Rattle.run_state.specs.declared.State.{State}
use Rattle.instant_steps.specs.Sim.{sim_of, Ready}
use Rattle.instant_attempt.specs.Progress.{progress_of, Beyond}
use Rattle.instant_attempt.specs.declared.Progress.{Progress}
use Rattle.std.proofs.Common.{Option, Some, None}
use Rattle.std.specs.Option.{is_some}
use Rattle.refusals.specs.Refusals.{number_in}
use Rattle.refusals.proofs.Numbers.{number-above}
use Rattle.refusals.specs.declared.Refusal.{Refusal}
use Rattle.instant_loop.specs.declared.Ended.{Ended}
use Rattle.instant_loop.specs.Ends.{ended_of, AdvancedTo}
use Rattle.instant_loop.proofs.Turns.{beyond-on}
use Rattle.feed_loop.specs.declared.Onward.{Onward}
use Rattle.feed_loop.specs.Onwards.{Few, onward_of, end_of}

-- ---- numbers

pub few-more : (a b : ℕ) (p : Progress) → a ≤ b → Few a p → Few b p
few-more a b p l h = record { instants = omega (arith, h.instants); steps = omega (arith, h.steps) }

-- ---- refusals

pub refused-some : (o : Option Refusal) → is_some o ≡ true → number_in o ≡ 0 → ⊥
refused-some None h e = clash h refl
refused-some (Some r) h e = omega (arith, e, number-above r)

pub refused-none : (o : Option Refusal) → is_some o ≡ false → number_in o ≡ 0
refused-none None h = refl
refused-none (Some r) h = absurd (clash refl h)

-- ---- a call

-- A call on the trace of the whole feed: it ends as the definition's does there, has the numbers of one call more, and its records go on behind
-- those before.
pub record CalledOn (tables : List ℕ) (k : Simulator State) (trace₀ trace' : Bytes) (w' : List ℕ) (from : Definition.Progress State) (used calls t : ℕ) (x : Bag) (e : Ended) : Type 0 where
  pub same : ended_of trace' tables w' e ≡ advancing k (length trace₀) t x (suc t) from
  pub few : Few (suc calls) e.progress
  pub more : used ≤ e.progress.used
  pub beyond : Beyond trace₀ trace' e.progress.used

module _ (phases tables : List ℕ) (k : Simulator State) (trace₀ trace trace' : Bytes) (w w' : List ℕ) (p : Progress) (e : Ended) (t : ℕ) (x : Bag) (late : t ≤ max_moment)
    (calls : ℕ) (few : Few calls p) (beyond : Beyond trace₀ trace p.used)
    (did : AdvancedTo phases tables trace trace' w' e (advancing k (length trace) t x (suc t) (progress_of trace tables w p))) where
  abbrev from : Definition.Progress State
  from = progress_of trace tables w p

  abbrev end : Definition.Ended State
  end = advancing k (length trace₀) t x (suc t) from

  same : ended_of trace' tables w' e ≡ end
  same = did.same ∙ ap (λ n. advancing k n t x (suc t) from) beyond.size

  bounded : Bounded (suc t) (length trace₀) from end.progress
  unfolding progress_of
  bounded = advancing-bounded k (length trace₀) t x (suc t) from (omega (arith, length-take-le p.used trace (omega (arith, beyond.within, beyond.size)), beyond.within))

  fewer : Few (suc calls) e.progress
  unfolding ended progress_of
  fewer =
      let i : e.progress.instants ≡ end.progress.instants = ap (λ (z : Definition.Ended State). z.progress.instants) same in
      let s : e.progress.steps ≡ end.progress.steps = ap (λ (z : Definition.Ended State). z.progress.steps) same in
      record { instants = omega (arith, i, bounded.instants, few.instants, late); steps = omega (arith, s, bounded.steps, few.steps, late) }

  more : p.used ≤ e.progress.used
  unfolding ended progress_of
  more =
      let here = length-take-le p.used trace (omega (arith, beyond.within, beyond.size)) in
      let there = length-take-le e.progress.used trace' (omega (arith, did.beyond.within, did.beyond.size)) in
      omega (arith, bounded.longer, here, there, ap (λ (z : Definition.Ended State). length z.progress.trace) same)

  pub called_on : CalledOn tables k trace₀ trace' w' from p.used calls t x e
  called_on = record { same = same; few = fewer; more = more; beyond = beyond-on trace₀ trace trace' p.used e.progress.used more beyond did.beyond }

-- ---- the calls that are left

module _ (k : Simulator State) (room : ℕ) (b : FeedBag) (bs : List FeedBag) (n : ℕ) (p : Definition.Progress State) where
  abbrev one : Definition.Ended State
  one = advancing k room b.moment (to_bag b.bag) (suc b.moment) p

  onward_stops : (one.number ≡ 0 → ⊥) → bags_onward k room (b ∷ bs) n p ≡ record { bags = n; end = one }
  unfolding bags_onward
  onward_stops z = rw (ne_eqb one.number 0 z)

  onward-goes : one.number ≡ 0 → bags_onward k room (b ∷ bs) n p ≡ bags_onward k room bs (suc n) one.progress
  unfolding bags_onward
  onward-goes z = rw (eq-eqb one.number 0 z)

pub onward-none : (k : Simulator State) (room : ℕ) (n : ℕ) (p : Definition.Progress State) → bags_onward k room [] n p ≡ record { bags = n; end = ended 0 p }
unfolding bags_onward
onward-none k room n p = refl

-- A call that ends as the definition's does, where it and the calls behind it give `whole`: it is the last of them, or the others give it.
module _ (k : Simulator State) (room : ℕ) (trace : Bytes) (tables w : List ℕ) (e : Ended) (b : FeedBag) (bs : List FeedBag) (n : ℕ) (p : Definition.Progress State)
    (whole : Law.Onward State) (same : ended_of trace tables w e ≡ advancing k room b.moment (to_bag b.bag) (suc b.moment) p)
    (all : bags_onward k room (b ∷ bs) n p ≡ whole) where
  same_number : number_in e.refusal ≡ (advancing k room b.moment (to_bag b.bag) (suc b.moment) p).number
  unfolding ended
  same_number = ap (λ (z : Definition.Ended State). z.number) same

  pub call-stops : (number_in e.refusal ≡ 0 → ⊥) → onward_of trace tables w (record { bags = n; ended = e }) ≡ whole
  call-stops z =
      ap (λ (d : Definition.Ended State). record { bags = n; end = d }) same ∙ sym (onward_stops k room b bs n p (λ f. z (same_number ∙ f))) ∙ all

  pub call-goes : number_in e.refusal ≡ 0 → bags_onward k room bs (suc n) (progress_of trace tables w e.progress) ≡ whole
  unfolding ended
  call-goes z =
      ap (λ (d : Definition.Ended State). bags_onward k room bs (suc n) d.progress) same ∙ sym (onward-goes k room b bs n p (sym same_number ∙ z)) ∙ all

-- What holds before a bag, where `bags` were called: what is left to read, the numbers of the calls made, and what the calls that are left give
-- from here.
pub record Going (phases tables : List ℕ) (k : Simulator State) (feed : Bytes) (count : ℕ) (whole : Law.Onward State) (trace₀ : Bytes)
    (w : List ℕ) (trace : Bytes) (at turns bags : ℕ) (p : Progress) : Type 0 where
  pub done : bags ≡ turns
  pub within : at ≤ length feed
  pub near : at ≤ count_size + (bag_head + message_size * max_given) * bags
  pub least : ℕ
  pub others : List FeedBag
  pub read : bags_from (count - turns) least (drop at feed) ≡ ok others
  pub few : Few bags p
  pub beyond : Beyond trace₀ trace p.used
  pub ready : Ready phases tables w
  pub from_here : bags_onward k (length trace₀) others bags (progress_of trace tables w p) ≡ whole

-- ---- the call to the end

module _ (phases rules tables : List ℕ) (words end : ℕ) (past : Bool) (trace : Bytes) (w : List ℕ) (own : Onward) where
  abbrev refusal : Option Refusal
  refusal = own.ended.refusal

  pub end_goes : (is_some refusal || not past) ≡ false
      → record { bags = own.bags; end = advancing (sim_of phases rules tables words) (length trace) end [] (suc end) (progress_of trace tables w own.ended.progress) }
      ≡ end_of phases rules tables words end past trace w own
  end_goes h =
      let z = or-none (is_some refusal) (not past) h in
      let late : past ≡ true = not-false past z.1 in
      rw (eq-eqb (number_in refusal) 0 (refused-none refusal z.0), late)
