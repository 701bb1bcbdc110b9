-- A channel's turn once more, as a relation and with no count of rounds: how it ends from where it stands, with the steps that it has. Demand 1 is
-- stated with it. Assumes nothing.
use Rattle.std.specs.Prelude.{◌≡◌, ℕ, suc, ◌+◌, ◌≤◌, ◌<◌, List, [], ◌∷◌, ◌++◌, Bool, false, ◌||◌, not, length}
use Rattle.definition.specs.Lists.{is_empty}
use Rattle.definition.specs.Model.{Bag}
use Rattle.definition.specs.Devs.{Time, finite}
use Rattle.definition.specs.Step.{Output, Simulator}
use Rattle.definition.specs.Instant.{goes_on, instant_trace}
use Rattle.definition.specs.Advance.{Progress, Ended, ended, succeeded, is_before}
use Rattle.definition.specs.AdvanceRelation.{Whole, Jams, Next, with_instant}

-- "an instant due by that moment": something is due at t or before, or a bag is given.
unfoldable pub due_by : Time → ℕ → Bag → Bool
due_by u t x = is_before u (suc t) || not (is_empty x)

module _ {S : Type 0} (k : Simulator S) (has room t : ℕ) (given : Bag) where
  pub data EndsWithin : Progress S → Ended S → Type 0 where
    -- 13 and 15, as in an advance
    jams : (p : Progress S) (now : ℕ) (x : Bag) → Next k room t given p.state now x → Jams k now x p.state → EndsWithin p (ended 13 p)
    overruns : (p : Progress S) (now : ℕ) (x : Bag) (y : Output) (ys : List Output) (s' : S) → Next k room t given p.state now x
        → Whole k now x p.state (y ∷ ys) s' → room < length (p.trace ++ instant_trace now (y ∷ ys)) → EndsWithin p (ended 15 p)
    -- 22: the next instant is whole and its records pass no end, but its steps pass what the channel has
    cut_off : (p : Progress S) (now : ℕ) (x : Bag) (y : Output) (ys : List Output) (s' : S) → Next k room t given p.state now x
        → Whole k now x p.state (y ∷ ys) s' → length (p.trace ++ instant_trace now (y ∷ ys)) ≤ room → has < p.steps + length (y ∷ ys)
        → EndsWithin p (ended 22 p)
    -- an instant before t is done within the steps, and the turn goes on
    continues : (p : Progress S) (u : ℕ) (y : Output) (ys : List Output) (s' : S) (e : Ended S) → k.next p.state ≡ finite u → u < t
        → Whole k u [] p.state (y ∷ ys) s' → length (p.trace ++ instant_trace u (y ∷ ys)) ≤ room → p.steps + length (y ∷ ys) ≤ has
        → EndsWithin (with_instant k room t given p u (y ∷ ys) s') e → EndsWithin p e
    -- the instant at t is done within them
    succeeds : (p : Progress S) (y : Output) (ys : List Output) (s' : S) → is_before (k.next p.state) t ≡ false → Whole k t given p.state (y ∷ ys) s'
        → length (p.trace ++ instant_trace t (y ∷ ys)) ≤ room → p.steps + length (y ∷ ys) ≤ has
        → EndsWithin p (succeeded t (with_instant k room t given p t (y ∷ ys) s'))
    -- nothing happens at t
    idle : (p : Progress S) → is_before (k.next p.state) t ≡ false → goes_on k t given p.state ≡ false → EndsWithin p (succeeded t p)
