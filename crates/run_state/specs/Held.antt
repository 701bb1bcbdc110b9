-- What the words of a state hold, and a state with one entry changed. Assumes nothing.
use Rattle.std.specs.Prelude.{◌≡◌, ℕ, ◌+◌, ◌*◌, ◌/◌, ◌%◌, ◌^◌, Bool, cond, List, [], ◌∷◌, map, eqb, get_or, set, take, drop, replicate, length}
use Rattle.definition.specs.Lists.{up_from}
use Rattle.definition.specs.Limits.{max_components, no_position}
use Rattle.definition.specs.SavedRun.{Entry}
use Rattle.definition.specs.Advance.{Ended}
use Rattle.run_state.specs.declared.State.{State}

-- ---- the words, by regions

-- where the regions by position begin after the phases: last moments, due moments; the word of the next due moment, and that of the bits
abbrev pub last_at : ℕ
last_at = max_components

abbrev pub end_at : ℕ
end_at = 2 * max_components

abbrev pub next_due_at : ℕ
next_due_at = 3 * max_components

abbrev pub told_at : ℕ
told_at = next_due_at + 1

abbrev pub state_size : ℕ
state_size = told_at + 1

-- A region by position.
unfoldable pub row : ℕ → List ℕ → List ℕ
row at w = take max_components (drop at w)

unfoldable pub byte_of : ℕ → ℕ
byte_of x = x % 256

-- The rule beside a phase.
unfoldable pub rule_beside : ℕ → ℕ
rule_beside x = (x / 256) % 65536

-- The phases, a byte each, and the last moments.
unfoldable pub held_in : List ℕ → State
held_in w = record { phase = map byte_of (row 0 w); last = row last_at w }

unfoldable pub rules_beside : List ℕ → List ℕ
rules_beside w = map rule_beside (row 0 w)

-- Of numbers by position those whose bit is set in m, the lowest bit first; no position for the others.
unfoldable pub where_set : ℕ → List ℕ → List ℕ
where_set m [] = []
where_set m (r ∷ rs) = cond (eqb (m % 2) 1) r no_position ∷ where_set (m / 2) rs

-- Whose rule is one of the instant: a bit for each position.
unfoldable pub bits_in : List ℕ → ℕ
bits_in w = get_or w told_at 0

unfoldable pub is_told : List ℕ → ℕ → Bool
is_told w i = eqb (bits_in w / 2 ^ i % 2) 1

-- By position, the rule of the last external part in an instant.
unfoldable pub last_rules_in : List ℕ → List ℕ
last_rules_in w = where_set (bits_in w) (rules_beside w)

-- The due moments.
unfoldable pub ends_in : List ℕ → List ℕ
ends_in w = row end_at w

unfoldable pub next_in : List ℕ → ℕ
next_in w = get_or w next_due_at 0

-- ---- states by entries

-- The entries of the first n atomics.
unfoldable pub entries_of : ℕ → State → List Entry
entries_of n st = map (λ i. record { phase = get_or st.phase i 0; last = get_or st.last i 0 }) (up_from 0 n)

unfoldable pub changed_at : State → ℕ → ℕ → ℕ → State
changed_at st i p last = record { phase = set st.phase i p; last = set st.last i last }

-- ---- one thing written, the others as before

pub record EntryPut (w₀ w : List ℕ) (i p last : ℕ) : Type 0 where
  pub held : held_in w ≡ changed_at (held_in w₀) i p last
  pub rules : last_rules_in w ≡ last_rules_in w₀
  pub ends : ends_in w ≡ ends_in w₀
  pub next : next_in w ≡ next_in w₀

pub record NoRulePut (w₀ w : List ℕ) (i : ℕ) : Type 0 where
  pub held : held_in w ≡ held_in w₀
  pub rules : last_rules_in w ≡ set (last_rules_in w₀) i no_position
  pub ends : ends_in w ≡ ends_in w₀
  pub next : next_in w ≡ next_in w₀

pub record LedPut (w₀ w : List ℕ) (i p last rule : ℕ) : Type 0 where
  pub held : held_in w ≡ changed_at (held_in w₀) i p last
  pub rules : last_rules_in w ≡ set (last_rules_in w₀) i rule
  pub ends : ends_in w ≡ ends_in w₀
  pub next : next_in w ≡ next_in w₀

pub record RulesCleared (w₀ w : List ℕ) : Type 0 where
  pub held : held_in w ≡ held_in w₀
  pub rules : last_rules_in w ≡ replicate (length (last_rules_in w₀)) no_position
  pub ends : ends_in w ≡ ends_in w₀
  pub next : next_in w ≡ next_in w₀

pub record EndPut (w₀ w : List ℕ) (i end : ℕ) : Type 0 where
  pub held : held_in w ≡ held_in w₀
  pub rules : last_rules_in w ≡ last_rules_in w₀
  pub ends : ends_in w ≡ set (ends_in w₀) i end
  pub next : next_in w ≡ next_in w₀

pub record NextPut (w₀ w : List ℕ) (due : ℕ) : Type 0 where
  pub held : held_in w ≡ held_in w₀
  pub rules : last_rules_in w ≡ last_rules_in w₀
  pub ends : ends_in w ≡ ends_in w₀
  pub next : next_in w ≡ due

-- The end of a call with the entries that its state holds for n atomics.
unfoldable pub held_end : ℕ → Ended State → Ended (List Entry)
held_end n e =
    let p = e.progress in
    record {
      number = e.number;
      progress = record { opening = p.opening; state = entries_of n p.state; instants = p.instants; steps = p.steps; trace = p.trace; rules = p.rules };
    }
