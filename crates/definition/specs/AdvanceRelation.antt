-- Advance once more, as a relation and with no count of turns: which instant comes next, what makes an instant done or jammed, and
-- how a call ends; and how the calls of a feed end, one after the other. Demand 1 is stated with it. Assumes nothing.
use Rattle.std.specs.Prelude.{◌≡◌, ℕ, suc, ◌+◌, ◌≤◌, ◌<◌, List, [], ◌∷◌, ◌++◌, true, false, length}
use Rattle.definition.specs.Limits.{max_steps}
use Rattle.definition.specs.Model.{Bag}
use Rattle.definition.specs.Devs.{finite}
use Rattle.definition.specs.Step.{Output, Simulator}
use Rattle.definition.specs.Instant.{goes_on, instant_trace, instant_rules}
use Rattle.definition.specs.Advance.{Progress, Ended, ended, succeeded, is_before}
use Rattle.definition.specs.Engine.{to_bag}
use Rattle.definition.specs.Feed.{FeedBag}

-- The given bag belongs to the first step: what is still to be given after the steps that gave xs.
abbrev pub still_given : Bag → List Output → Bag
still_given x [] = x
still_given x (y ∷ ys) = []

module _ {S : Type 0} (k : Simulator S) where
  -- Steps in turn at `now` from s to s' that give xs: each was taken because something was due or the given bag was not empty.
  abbrev pub Steps : ℕ → Bag → S → List Output → S → Type 0
  Steps now x s [] s' = s ≡ s'
  Steps now x s (y ∷ ys) s' = (goes_on k now x s ≡ true) × (y ≡ (k.step now x s).out) × Steps now [] (k.step now x s).state ys s'

  -- All steps at `now`, at most 1,024, and none is left to take.
  pub record Whole (now : ℕ) (x : Bag) (s : S) (xs : List Output) (s' : S) : Type 0 where
    pub steps : Steps now x s xs s'
    pub few : length xs ≤ max_steps
    pub finished : goes_on k now (still_given x xs) s' ≡ false

  -- 1,024 steps at `now`, and another is left to take.
  pub record Jams (now : ℕ) (x : Bag) (s : S) : Type 0 where
    pub outputs : List Output
    pub after : S
    pub steps : Steps now x s outputs after
    pub many : length outputs ≡ max_steps
    pub unfinished : goes_on k now (still_given x outputs) after ≡ true

  module _ (room t : ℕ) (given : Bag) where
    -- The instant to be tried next: the earliest that is due before t, without a bag, or else t with the given bag.
    pub data Next (s : S) : ℕ → Bag → Type 0 where
      before : (u : ℕ) → k.next s ≡ finite u → u < t → Next s u []
      at_end : is_before (k.next s) t ≡ false → Next s t given

    -- The instant at `now` stands.
    abbrev pub with_instant : Progress S → ℕ → List Output → S → Progress S
    with_instant p now xs s' = record {
      opening = suc now;
      state = s';
      instants = suc p.instants;
      steps = p.steps + length xs;
      trace = p.trace ++ instant_trace now xs;
      rules = instant_rules xs;
    }

    -- How the call ends from p on.
    pub data Ends : Progress S → Ended S → Type 0 where
      -- 13 and 15: that instant is left undone whole, and what stood before it stands
      jams : (p : Progress S) (now : ℕ) (x : Bag) → Next p.state now x → Jams now x p.state → Ends p (ended 13 p)
      overruns : (p : Progress S) (now : ℕ) (x : Bag) (y : Output) (ys : List Output) (s' : S) → Next p.state now x → Whole now x p.state (y ∷ ys) s'
          → room < length (p.trace ++ instant_trace now (y ∷ ys)) → Ends p (ended 15 p)
      -- an instant before t is done, its records pass no end, and the call goes on
      continues : (p : Progress S) (u : ℕ) (xs : List Output) (s' : S) (e : Ended S) → k.next p.state ≡ finite u → u < t → Whole u [] p.state xs s'
          → length (p.trace ++ instant_trace u xs) ≤ room → Ends (with_instant p u xs s') e → Ends p e
      -- the instant at t is done, and its records pass no end
      succeeds : (p : Progress S) (y : Output) (ys : List Output) (s' : S) → is_before (k.next p.state) t ≡ false → Whole t given p.state (y ∷ ys) s'
          → length (p.trace ++ instant_trace t (y ∷ ys)) ≤ room → Ends p (succeeded t (with_instant p t (y ∷ ys) s'))
      -- nothing happens at t: "A moment without a step is no instant and is not counted."
      idle : (p : Progress S) → is_before (k.next p.state) t ≡ false → goes_on k t given p.state ≡ false → Ends p (succeeded t p)

  -- How the calls of a feed end from p on, on one trace of `room` bytes: how many succeed, and where they end. Each goes on from where the one
  -- before it ended, and "The first refused call stops it".
  pub data EndsInTurn (room : ℕ) : List FeedBag → Progress S → ℕ → Ended S → Type 0 where
    all_succeed : (p : Progress S) → EndsInTurn room [] p 0 (ended 0 p)
    stops : (c : FeedBag) (cs : List FeedBag) (p : Progress S) (e : Ended S) → Ends room c.moment (to_bag c.bag) p e → 0 < e.number
        → EndsInTurn room (c ∷ cs) p 0 e
    then : (c : FeedBag) (cs : List FeedBag) (p : Progress S) (e : Ended S) (n : ℕ) (d : Ended S) → Ends room c.moment (to_bag c.bag) p e
        → e.number ≡ 0 → EndsInTurn room cs e.progress n d → EndsInTurn room (c ∷ cs) p (suc n) d
