-- What a channel's turn has of its model, its place and its bag. Nothing here has to be believed. Assumes nothing.
use Rattle.std.specs.Prelude.{◌≡◌, List, [], Bool, ◌&&◌, ◌||◌, not, cond, ℕ, ◌+◌, ltb, length, take, drop}
use Rattle.definition.specs.Bytes.{Bytes, Result, ok, ◌>>=◌, refuse_if}
use Rattle.definition.specs.Limits.{max_moment}
use Rattle.definition.specs.Model.{Model}
use Rattle.definition.specs.Pinned.Decoder.{accepted}
use Rattle.definition.specs.SavedRun.{run_of, run_fits}
use Rattle.definition.specs.Step.{nested}
use Rattle.definition.specs.Engine.{to_bag, bag_fits, advanced}
use Rattle.definition.specs.Engine as Engine
use Rattle.definition.specs.Channels.{advance_within}
use Rattle.model_file.specs.Checked.{model_of}
use Rattle.model_file.specs.declared.Counts.{Counts}
use Rattle.spec_step.specs.TablesOf.{TablesOf}
use Rattle.call_answers.specs.declared.Place.{Place}
use Rattle.call_advance.specs.LetIn.{Roomy}

-- The file's model is accepted, with its tables, and the words lent have room for every bag.
pub record ModelLent (file : Bytes) (n : Counts) (tables : List ℕ) (work : ℕ) : Type 0 where
  pub model : ok (model_of file n) ≡ accepted file
  pub tabled : TablesOf (model_of file n) tables
  pub roomy : Roomy file n work

-- The place does not run past the end of a buffer of so many bytes.
abbrev pub inside_of : ℕ → Place → Bool
inside_of size p = not (ltb size (p.start + p.size))

abbrev pub bag_lent : Bytes → Place → Bool → Bytes
bag_lent bags p inside = cond inside (take p.size (drop p.start bags)) []

-- The rows of a turn: its run, its time, its place and its bag.
unfoldable pub turn_rows : Model → Bytes → ℕ → Bool → Bytes → Result (Unit {0})
turn_rows m run t inside bag = do
  _ ← refuse_if (not (run_fits m run)) 10
  _ ← refuse_if (ltb t (run_of m run).opening || ltb max_moment t) 11
  refuse_if (not (inside && bag_fits bag)) 12

-- The instants of a turn that is let in, by the definition.
abbrev pub turned_from : Model → (t has : ℕ) → Bytes → Bytes → Bytes → Engine.Advanced
turned_from m t has run bag trace =
    advanced run trace [] (ok (advance_within (nested m) has (length trace) t (to_bag bag) (run_of m run).opening (run_of m run).entries))
