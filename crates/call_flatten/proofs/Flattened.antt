-- The call flatten, from the check of the model to the whole buffer: the tables hold for the accepted model, so that the rows are its routes and
-- what is written is its flat form. Assumes nothing.
use mathlib.Core.Path.{◌≡◌, refl, sym, ap, ◌∙◌}
use mathlib.Core.List.{List}
use Prim.Native.Nat.{ℕ, ◌+◌, ◌*◌, ◌≤◌, ◌<◌}
use native.Mathlib.Omega.{arith}
use lib.Dec.{leb}
use lib.ListN.{length, get_or, take}
use Rattle.definition.specs.Lists.{sort_by}
use Rattle.definition.specs.Bytes.{Bytes, refused, stored}
use Rattle.definition.specs.Limits.{max_phases, max_rules, max_routes}
use Rattle.definition.specs.Model.{Model, atomics}
use Rattle.definition.specs.File.{model_bytes}
use Rattle.definition.specs.Pinned.Decoder.{accepted}
use Rattle.definition.specs.Flatten.{flat, flatten}
use Rattle.model_records.specs.Values.{components_in, phases_in, rules_in, model_in}
use Rattle.model_file.specs.Checked.{components_part, phases_part, rules_part, model_of}
use Rattle.model_file.specs.declared.Counts.{Counts}
use Rattle.spec_step.specs.Tables.{atomics_in, ranges_in}
use Rattle.accept_tables.proofs.Accepted.{fine, few-records}
use Rattle.law_model.proofs.WellFormed.{Accepted}
use Rattle.law_model.proofs.Answers.{flatten-model, flatten_done}
use Rattle.law_model.proofs.Answers as Answers
use Rattle.flat_rows.specs.Rows.{probe_rows}
use Rattle.flat_rows.specs.Put.{CanProbe}
use Rattle.flat_rows.proofs.ProbeRows.{rows-sorted, rows-many}
use Rattle.flat_writer.specs.Written.{flat_by, ranges_size}
use Rattle.flat_writer.proofs.Sections.{flat-length}
use Rattle.flat_writer.proofs.FlatBy.{flat-by}
use Rattle.sort.proofs.Fronts.{length-sort}
use Rattle.call_flatten.specs.Found.{CanFlatten, FlatFound}
use Rattle.call_flatten.specs.declared.Found.{Found}

pub flatten_refused : (file buffer : Bytes) (n : ℕ) → refused n ≡ accepted file → record { number = n; written = 0; buffer = buffer } ≡ flatten file buffer
flatten_refused file buffer n e = sym (flatten-model file buffer n (sym e))

-- The flat form by what the code has: the parts of the file, the tables and the rows.
abbrev pub flat_in : Bytes → Counts → List ℕ → List ℕ → Model
flat_in file n t rows = flat_by (components_in (components_part file n)) (phases_in (phases_part file n)) (rules_in (rules_part file n)) t (atomics_in t) rows

-- Its size, with so many rows.
abbrev pub size_in : Bytes → Counts → List ℕ → ℕ → ℕ
size_in file n t count = 13 + 5 * atomics_in t + 18 * length (phases_in (phases_part file n)) + 18 * length (rules_in (rules_part file n)) + 4 * count + ranges_size (ranges_in t)

module _ (file : Bytes) (n : Counts) (bytes : (i : ℕ) → get_or file i 0 < 256) (t : List ℕ) (room : ℕ) (can : CanFlatten file n t room) where
  abbrev m : Model
  m = model_of file n

  abbrev good : Accepted m
  good = fine file n bytes can.accepts

  abbrev sorted : List ℕ
  sorted = sort_by leb (probe_rows t (atomics_in t))

  pub few-phases : length (phases_in (phases_part file n)) ≤ max_phases
  unfolding model_of model_in
  few-phases = good.sound.phases.few

  pub few-rules : length (rules_in (rules_part file n)) ≤ max_rules
  few-rules = (few-records file n bytes can.accepts).1

  own : atomics_in t ≡ length (atomics m.components)
  own = can.tabled.tabled.atomic_count_lem

  rows_fit : length (probe_rows t (atomics_in t)) ≤ max_routes
  rows_fit =
      omega (arith, ap (λ k. length (probe_rows t k)) own, rows-many m good.sound t can.tabled.tabled, good.few_routes)

  -- the rows and their sort fit the buffer, and the tables are in range
  pub probing : CanProbe t (atomics_in t) room
  probing = record { few = can.tabled.in_range.atomics; in_range = can.tabled.in_range; fits = omega (arith, rows_fit, can.rooms) }

  pub few-rows : (count : ℕ) → count ≡ length sorted → count ≤ max_routes
  few-rows count h = omega (arith, rows_fit, length-sort (probe_rows t (atomics_in t)))

  -- what is written is the flat form
  flat-is : flat_in file n t sorted ≡ flat m
  flat-is =
      parts
      ∙ ap (λ k. flat_by m.components m.phases m.rules t k (sort_by leb (probe_rows t k))) own
      ∙ flat-by m good.sound t can.tabled.tabled (sort_by leb (probe_rows t (length (atomics m.components)))) (rows-sorted m good.sound t can.tabled.tabled)
    where
      parts : flat_in file n t sorted ≡ flat_by m.components m.phases m.rules t (atomics_in t) sorted
      parts = unfold model_of model_in in refl

  -- its size
  pub size_is : (count : ℕ) → count ≡ length sorted → size_in file n t count ≡ length (model_bytes (flat m))
  size_is count h =
      ap (size_in file n t) h
      ∙ sym (flat-length (components_in (components_part file n)) (phases_in (phases_part file n)) (rules_in (rules_part file n)) t (atomics_in t) sorted)
      ∙ ap (λ m. length (model_bytes m)) flat-is

-- ---- what was found, written

-- "15 lent buffer too short"
pub flatten-short : (file buffer : Bytes) (n : Counts) (t rows : List ℕ) (found : Found) → FlatFound file n t rows found → length buffer < found.size
    → record { number = 15; written = 0; buffer = buffer } ≡ flatten file buffer
flatten-short file buffer n t rows found f l =
    sym (Answers.flatten-short file buffer (model_of file n) (sym f.can.accepts) (omega (arith, f.sized)))

module _ (file buffer : Bytes) (n : Counts) (bytes : (i : ℕ) → get_or file i 0 < 256) (t rows : List ℕ) (found : Found) (f : FlatFound file n t rows found)
    (l : found.size ≤ length buffer) where
  -- room for what is written
  pub flatten-room : size_in file n t found.rows ≤ length buffer
  flatten-room = omega (arith, size_is file n bytes t (length rows) f.can found.rows f.held.count, f.sized)

  pub flatten-whole : (after : Bytes) → after ≡ stored (model_bytes (flat_in file n t (take found.rows rows))) buffer
      → record { number = 0; written = found.size; buffer = after } ≡ flatten file buffer
  flatten-whole after s =
      let same = s ∙ ap (λ r. stored (model_bytes (flat_in file n t r)) buffer) f.held.front
      ∙ ap (λ m. stored (model_bytes m) buffer) (flat-is file n bytes t (length rows) f.can) in
      (λ i. record { number = 0; written = f.sized i; buffer = same i })
      ∙ sym (flatten_done file buffer (model_of file n) (sym f.can.accepts) (omega (arith, f.sized)))
