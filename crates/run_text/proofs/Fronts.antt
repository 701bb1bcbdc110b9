-- The front of an input that is too long gives the text of the whole: the engine refuses both by the same number. Assumes nothing.
use mathlib.Core.Path.{◌≡◌, refl}
use Prim.Native.Nat.{ℕ, ◌+◌, ◌≤◌}
use mathlib.Core.List.{[], ◌++◌}
use mathlib.Core.Bool.{Bool, true, false, cond}
use native.Mathlib.Omega.{arith}
use lib.Dec.{ltb}
use lib.ListN.{length, take, drop, replicate}
use lib.Seq.{take_all, length-take-le}
use borrow.Author.Tests.{ltb-true, ltb-false, le-ltb}
use Rattle.definition.specs.Bytes.{Bytes, number_at}
use Rattle.definition.specs.Limits.{longest_model}
use Rattle.definition.specs.Engine.{Wrote, start, advance}
use Rattle.law_text.proofs.Front.{drop-front, number-front, accepted-front}
use Rattle.run_text.specs.Text.{first_line, refused_line, started_text, moment_size, input_text, run_room, trace_room, run_text, input_room}

abbrev front : Bytes → Bytes
front file = take (longest_model + 1) file

start-front : (file buffer : Bytes) → start (front file) buffer ≡ start file buffer
unfolding start
start-front file buffer = rw (accepted-front file)

advance-front : (file run : Bytes) (t : ℕ) (bag trace table : Bytes) → advance (front file) run t bag trace table ≡ advance file run t bag trace table
unfolding advance
advance-front file run t bag trace table = rw (accepted-front file)

started-front : (file : Bytes) (end : ℕ) (trace : Bytes) (w : Wrote) → started_text (front file) end trace w ≡ started_text file end trace w
unfolding started_text
started-front file end trace w = rw (advance-front file w.buffer end [] trace [])

-- What follows the first line, for an input that has an end moment.
run-front : (input run trace : Bytes) → input_room ≤ length input
    → started_text (drop moment_size (take input_room input)) (number_at moment_size 0 (take input_room input)) trace (start (drop moment_size (take input_room input)) run)
    ≡ started_text (drop moment_size input) (number_at moment_size 0 input) trace (start (drop moment_size input) run)
run-front input run trace l =
    let file = drop moment_size input in
    rw (drop-front moment_size input_room input, number-front moment_size input_room input (omega arith), start-front file run)
    (started-front file (number_at moment_size 0 input) trace (start file run))

input-front : (input run trace : Bytes) → input_text (take input_room input) run trace ≡ input_text input run trace
unfolding input_text
input-front input run trace = go (ltb (length input) input_room) refl
  where
    go : (b : Bool) → ltb (length input) input_room ≡ b
        → first_line ++ cond (ltb (length (take input_room input)) moment_size) (refused_line 1)
        (started_text (drop moment_size (take input_room input)) (number_at moment_size 0 (take input_room input)) trace (start (drop moment_size (take input_room input)) run))
        ≡ first_line ++ cond (ltb (length input) moment_size) (refused_line 1)
        (started_text (drop moment_size input) (number_at moment_size 0 input) trace (start (drop moment_size input) run))
    go true e = rw (take_all input_room input (omega (arith, ltb-true (length input) input_room e)))
    go false e =
        let l = ltb-false (length input) input_room e in
        rw (length-take-le input_room input l, le-ltb (length input) moment_size (omega arith), run-front input run trace l)

-- As much of an input as is ever asked for gives its text.
pub front_same : (input : Bytes) → run_text (take input_room input) ≡ run_text input
unfolding run_text
front_same input = input-front input (replicate run_room 0) (replicate trace_room 0)
