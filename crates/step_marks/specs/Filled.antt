-- The flags of a step as they are filled in, over what the list held before: one part changes, and the other stays. Assumes nothing.
use Rattle.std.specs.Prelude.{◌≡◌, ℕ, ◌+◌, ◌-◌, ◌≤◌, List, Bool, cond, get_or, set}
use Rattle.definition.specs.Lists.{is_empty}
use Rattle.definition.specs.Limits.{max_components}
use Rattle.definition.specs.Model.{Bag}
use Rattle.spec_step.specs.Tables.{count_at, parents_at, chain_rows}
use Rattle.spec_step.specs.TableStep.{any_of, is_up, raised, reached_from}
use Rattle.spec_step.specs.Carried.{end_marked}
use Rattle.spec_step.specs.Ranges.{InRange}
use Rattle.spec_step.specs.Flags.{marks_in, reached_in}
use Rattle.step_collect.specs.Collected.{comes_from}

-- So many atomics, and tables in range.
pub record AtomicsOf (tables : List ℕ) (n : ℕ) : Type 0 where
  pub few : n ≤ max_components
  pub in_range : InRange tables

pub record HasMarked (before after es : List ℕ) : Type 0 where
  pub marks : marks_in after ≡ es
  pub others : reached_in after ≡ reached_in before

pub record HasReached (before after fs : List ℕ) : Type 0 where
  pub reached : reached_in after ≡ fs
  pub others : marks_in after ≡ marks_in before

-- The parent of component c marked where c is.
abbrev pub raised_at : List ℕ → ℕ → List ℕ → List ℕ
raised_at tables c es = cond (is_up es c) (set es (get_or tables (parents_at + c) 0) 1) es

-- The marks of n atomics, by their phases and due moments, and of the components above them.
abbrev pub all_marks : List ℕ → ℕ → ℕ → List ℕ → List ℕ → List ℕ → List ℕ
all_marks tables n now phase ends es = raised tables (get_or tables count_at 0 - 1) (end_marked tables now phase ends n 0 es)

-- Something may come to a node from one that leads there.
abbrev pub any_source : List ℕ → List ℕ → ℕ → Bool
any_source tables flags target = any_of (comes_from flags) (chain_rows tables target)

-- Whether something may reach each component: the root where x has a message.
abbrev pub all_reached : List ℕ → Bag → List ℕ → List ℕ → List ℕ
all_reached tables x es fs = reached_from tables es (get_or tables count_at 0 - 1) 1 (set fs 0 (cond (is_empty x) 0 1))
