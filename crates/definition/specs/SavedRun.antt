-- The saved run: its bytes, when it fits a model, and when its atomics are due. Assumes nothing.
use Rattle.std.specs.Prelude.{ℕ, suc, ◌+◌, ◌*◌, List, [], ◌∷◌, ◌++◌, map, Bool, true, false, ◌&&◌, ◌||◌, cond, leb, ltb, eqb, length, drop}
use Rattle.definition.specs.Lists.{concat}
use Rattle.definition.specs.Bytes.{Bytes, number_at, bytes_of, chunks}
use Rattle.definition.specs.Limits.{head_size, entry_size, max_moment}
use Rattle.definition.specs.Model.{Model, component_at, atomics, Tree, Forest, leaf, node, stop, more, tree}
use Rattle.definition.specs.Devs.{Time, finite, never, earlier, later}
use Rattle.definition.specs.Atomic.{advance_of}

-- "The state of an atomic is its phase and the moment of its last transition", or of the last that set it: "where no rule holds, the
-- external transition keeps both phase and last moment."
pub record Entry : Type 0 where
  pub phase : ℕ
  pub last : ℕ

-- "earliest open moment (8 bytes), atomic count (2), then per atomic phase (1) and last moment (8), in file order"
pub record Run : Type 0 where
  pub opening : ℕ
  pub entries : List Entry

unfoldable pub no_entry : Entry
no_entry = record { phase = 0; last = 0 }

unfoldable pub atomic_count : Model → ℕ
atomic_count m = length (atomics m.components)

-- ---- its bytes: open moment (8), atomic count (2), then per atomic phase (1) and last moment (8)

unfoldable pub run_length : ℕ → ℕ
run_length n = head_size + entry_size * n

unfoldable pub to_entry : Bytes → Entry
to_entry r = record { phase = number_at 1 0 r; last = number_at 8 1 r }

abbrev pub open_moment : Bytes → ℕ
open_moment s = number_at 8 0 s

-- The run of n atomics that the bytes hold.
unfoldable pub to_run : ℕ → Bytes → Run
to_run n s = record { opening = open_moment s; entries = map to_entry (chunks n entry_size (drop head_size s)) }

unfoldable pub run_of : Model → Bytes → Run
run_of m s = to_run (atomic_count m) s

unfoldable pub entry_bytes : Entry → Bytes
entry_bytes r = bytes_of 1 r.phase ++ bytes_of 8 r.last

unfoldable pub run_bytes : Run → Bytes
run_bytes r = bytes_of 8 r.opening ++ bytes_of 2 (length r.entries) ++ concat (map entry_bytes r.entries)

-- ---- due moments

-- "it is due at that moment plus the phase's advance, or never"
unfoldable pub due_of : Model → ℕ → Entry → Time
due_of m c r = later r.last (advance_of m c r.phase)

-- The entry of the atomic c, where the entries stand beside the atomics' numbers.
unfoldable pub look_up : List ℕ → List Entry → ℕ → Entry
look_up [] rs c = no_entry
look_up (a ∷ cs) [] c = no_entry
look_up (a ∷ cs) (r ∷ rs) c = cond (eqb a c) r (look_up cs rs c)

unfoldable pub entry_of : Model → List Entry → ℕ → Entry
entry_of m rs c = look_up (atomics m.components) rs c

-- "A coupled component's earliest due moment is the least among its children, never if it has none"
unfoldable mutual
  pub due_at : Model → (ℕ → Entry) → Tree → Time
  due_at m at (leaf c) = due_of m c (at c)
  due_at m at (node c f) = due_all m at f

  pub due_all : Model → (ℕ → Entry) → Forest → Time
  due_all m at stop = never
  due_all m at (more t f) = earlier (due_at m at t) (due_all m at f)

-- The whole model's next due moment.
unfoldable pub next_due : Model → List Entry → Time
next_due m rs = due_at m (entry_of m rs) (tree m)

-- ---- fitting

unfoldable pub not_before : ℕ → Time → Bool
not_before n (finite a) = leb n a
not_before n never = true

-- "no last moment is at or after the open one (0 is allowed with open moment 0), and nothing is due before it"
unfoldable pub entry_fits : Model → ℕ → ℕ → Entry → Bool
entry_fits m opening c r =
    ltb r.phase (component_at m.components c).phases
    && (ltb r.last opening || (eqb opening 0 && eqb r.last 0)) && not_before opening (due_of m c r)

unfoldable pub entries_fit : Model → ℕ → List ℕ → List Entry → Bool
entries_fit m opening [] rs = true
entries_fit m opening (c ∷ cs) [] = false
entries_fit m opening (c ∷ cs) (r ∷ rs) = entry_fits m opening c r && entries_fit m opening cs rs

-- "A run fits when the count and phases agree with the model, the open moment is at most 1,000,000,000,001, .." and it is long enough.
unfoldable pub run_fits : Model → Bytes → Bool
run_fits m s =
    leb (run_length (atomic_count m)) (length s) && eqb (number_at 2 8 s) (atomic_count m) && leb (run_of m s).opening (suc max_moment)
    && entries_fit m (run_of m s).opening (atomics m.components) (run_of m s).entries
