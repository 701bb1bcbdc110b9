-- Trace records byte by byte, and the numbers of an instant with a large root bag, by the engine's definitions and by the flat machine's
-- own. Assumes nothing.
use mathlib.Core.Path.{◌≡◌, refl}
use Prim.Native.Nat.{ℕ}
use mathlib.Core.List.{List, [], ◌∷◌, ◌++◌, map}
use lib.ListN.{replicate}
use Rattle.definition.specs.Bytes.{Bytes, number_of}
use Rattle.definition.specs.Model.{Bag}
use Rattle.definition.specs.SavedRun.{Entry, no_entry}
use Rattle.definition.specs.Step.{Output}
use Rattle.definition.specs.Instant.{done, instant_trace}
use Rattle.definition.specs.Advance.{tried}
use Rattle.definition.specs.FlatMachine.{recorded, verdict_on}
use Rattle.definition.proofs.Models.{message, cue_source}
use Rattle.definition.proofs.Table.{single, tabled}
use Rattle.definition.proofs.Literals.{b2, b3, z, literals}

-- ---- records

-- Four steps: nothing, four messages out of order of which two are equal, nothing, one message.
unfoldable pub bags : List Bag
bags = [] ∷ (message 1 1 ∷ message 0 256 ∷ message 0 1 ∷ message 0 256 ∷ []) ∷ [] ∷ (message 3 65535 ∷ []) ∷ []

-- At 300: step 1 with four messages, by port and then by value, and step 3 with one.
unfoldable pub bags_trace : Bytes
bags_trace =
    44 ∷ 1 ∷ z 6 ++ b2 1 0 ++ b2 4 0 ++ b3 0 1 0 ++ b3 0 0 1 ++ b3 0 0 1 ++ b3 1 1 0
    ++ 44 ∷ 1 ∷ z 6 ++ b2 3 0 ++ b2 1 0 ++ b3 3 255 255

-- A step that gave the bag, in a model without atomics.
unfoldable pub output_of : Bag → Output
output_of x = record { bag = x; decided = [] }

-- ---- large bags

-- A root bag of n messages in the second step of an instant.
unfoldable pub large : ℕ → List Bag
large n = [] ∷ replicate n (message 0 0) ∷ []

-- The numbers that they get in a trace of `room` bytes, 7 of which are taken.
unfoldable pub engine_gives : ℕ → List Bag → ℕ
engine_gives room xs =
    number_of (tried {S = List Entry} room 5 (record { opening = 0; state = []; instants = 1; steps = 1; trace = z 7; rules = [] }) (done (map output_of xs) []))

-- The same by the flat machine, where the first atomic was left in a phase since 5: phase 0 is due at 15, phase 1 at 5 already.
unfoldable pub machine_gives : ℕ → ℕ → List Bag → ℕ
machine_gives phase room xs =
    number_of (verdict_on (cue_source 0 single) 5 (record { state = z 28; trace = z room; table = []; instants = 1; steps = 1; used = 7 })
    (xs, record { entries = record { phase = phase; last = 5 } ∷ no_entry ∷ []; rules = [] }))

unfoldable pub tracing : Type 0
unfolding tabled literals bags bags_trace output_of large engine_gives machine_gives
tracing = Unit {0}

-- ---- the rows

pub bags-traced : instant_trace 300 (map output_of bags) ≡ bags_trace
unfolding tracing
bags-traced = refl

pub bags-recorded : recorded 300 0 bags ≡ bags_trace
unfolding tracing
bags-recorded = refl

-- a record of one message, which has 15 bytes, just fits and just does not; so does one of 4,097, more than any step puts out: no number is for that
pub engine-gives : engine_gives 22 (large 1) ∷ engine_gives 21 (large 1) ∷ engine_gives 12310 (large 4097) ∷ engine_gives 12309 (large 4097) ∷ [] ≡ 0 ∷ 15 ∷ 0 ∷ 15 ∷ []
unfolding tracing
engine-gives = refl

pub machine-gives :
    machine_gives 0 22 (large 1) ∷ machine_gives 0 21 (large 1) ∷ machine_gives 0 12310 (large 4097) ∷ machine_gives 0 12309 (large 4097) ∷ [] ≡ 0 ∷ 15 ∷ 0 ∷ 15 ∷ []
unfolding tracing
machine-gives = refl

-- 13 before 15
pub machine-jams : machine_gives 1 99999 (large 4097) ∷ machine_gives 1 0 (large 1) ∷ [] ≡ 13 ∷ 13 ∷ []
unfolding tracing
machine-jams = refl
