-- What the printing program is promised: the text of the input that it read, whole, at the front of its page. Assumes nothing.
use Rattle.std.specs.Prelude.{◌≡◌, ℕ, length, take}
use Rattle.definition.specs.Bytes.{Bytes}
use Rattle.run_text.specs.Text.{run_text}

-- n bytes were read of an input: all of it, or as much as the buffer holds.
abbrev pub Read : Bytes → ℕ → Bytes → Type 0
Read buffer n input = take n buffer ≡ take (length buffer) input

-- The first r bytes of a page are the text, all of it.
abbrev pub Stands : Bytes → Bytes → ℕ → Type 0
Stands text page r = (r ≡ length text) × (take r page ≡ text)

-- Whatever input was read, its text stands on the page.
abbrev pub Printed : Bytes → ℕ → Bytes → ℕ → Type 0
Printed buffer n page r = (input : Bytes) → Read buffer n input → Stands (run_text input) page r
