-- Due moments carried beside the state, as numbers by position: 2^64 - 1 for never. What is due now, and the least of them over the component
-- tree, are read off them. Assumes nothing.
use Rattle.std.specs.Prelude.{◌≡◌, ℕ, zero, suc, ◌+◌, ◌<◌, min, List, [], ◌∷◌, cond, get_or, set, eqb}
use Rattle.definition.specs.Limits.{max_components, never_moment}
use Rattle.definition.specs.Model.{Phase}
use Rattle.definition.specs.Engine.{due_number}
use Rattle.run_state.specs.declared.State.{State}
use Rattle.spec_step.specs.Tables.{numbers_at, positions_at, child_rows, atomic_at}
use Rattle.spec_step.specs.TableStep.{record_of, due_at_position}

-- The due moments of the first n atomics of a state.
abbrev pub Carried : List Phase → List ℕ → ℕ → State → List ℕ → Type 0
Carried ps t n st ends = (i : ℕ) → i < n → get_or ends i 0 ≡ due_number (due_at_position ps t st i)

-- The least of some due moments.
unfoldable pub least_end : (ℕ → ℕ) → List ℕ → ℕ
least_end f [] = never_moment
least_end f (c ∷ cs) = min (f c) (least_end f cs)

module _ (t : List ℕ) where
  -- The mark of the atomic c at position i, by its phase and its due moment.
  unfoldable pub end_mark : ℕ → List ℕ → List ℕ → ℕ → ℕ → ℕ
  end_mark now phase ends i c = cond (eqb (get_or ends i 0) now) (suc (record_of t c (get_or phase i 0))) 0

  -- The marks of n atomics from position i on, over the marks es.
  unfoldable pub end_marked : ℕ → List ℕ → List ℕ → ℕ → ℕ → List ℕ → List ℕ
  end_marked now phase ends zero i es = es
  end_marked now phase ends (suc n) i es =
      let c = get_or t (numbers_at + i) 0 in
      end_marked now phase ends n (i + 1) (set es c (end_mark now phase ends i c))

  -- The least due moment of component c, at most n components down.
  unfoldable pub end_below : List ℕ → ℕ → ℕ → ℕ
  end_below ends zero c = never_moment
  end_below ends (suc n) c = cond (atomic_at t c) (get_or ends (get_or t (positions_at + c) 0) 0) (least_end (end_below ends n) (child_rows t c))

  -- The whole model's next due moment.
  unfoldable pub next_end : List ℕ → ℕ
  next_end ends = end_below ends max_components 0
