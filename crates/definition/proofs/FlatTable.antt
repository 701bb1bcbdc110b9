-- A nest byte by byte with its flat form: an atomic after a coupled component, a shadowed rule, a coupling from a port that no phase uses,
-- couplings that lead nowhere, a component without children, two ways to one end, and ports whose input and output go different ways. Its
-- records have different numbers in all their fields, so that the layouts are pinned in both directions. Assumes nothing.
use mathlib.Core.Path.{◌≡◌, refl}
use mathlib.Core.List.{[], ◌∷◌, ◌++◌}
use lib.ListN.{replicate}
use Rattle.definition.specs.Bytes.{Bytes, ok}
use Rattle.definition.specs.Limits.{never_field}
use Rattle.definition.specs.Model.{Model, inclusive, no_message, no_component}
use Rattle.definition.specs.File.{model_bytes}
use Rattle.definition.specs.Pinned.Decoder.{decode}
use Rattle.definition.specs.Engine.{start}
use Rattle.definition.specs.Flatten.{flatten}
use Rattle.definition.specs.FlatMachine.{flat_start}
use Rattle.definition.proofs.Models.{message, coupled_in, atomic_in, silent, link}
use Rattle.definition.proofs.Table.{tabled}
use Rattle.definition.proofs.Literals.{b2, b3, b4, b5, z, endless, still, literals}

-- ---- parts of both files

-- 67,305,985 is 1 + 2 * 256 + 3 * 65,536 + 4 * 16,777,216; the messages are (1, 1,541) and (2, 2,055).
unfoldable pub flat_phases : Bytes
flat_phases = b2 6 0 ++ b4 1 2 3 4 ++ b2 3 2 ++ b3 1 5 6 ++ b3 2 7 8 ++ z 6 ++ still ++ still ++ still ++ still ++ still

-- A rule after its component's number: phase, next phase, port, then values 1,284 to 1,798, least count 2,312, and elapsed times.
unfoldable pub first_rule : Bytes
first_rule = b3 1 2 0 ++ b4 4 5 6 7 ++ b2 8 9 ++ b4 10 11 12 13 ++ b4 14 15 16 17

-- It holds for every bag, and so shadows the next one.
unfoldable pub always : Bytes
always = b3 0 0 0 ++ b4 0 0 255 255 ++ b2 0 0 ++ z 4 ++ endless

unfoldable pub on_seven : Bytes
on_seven = b3 0 0 1 ++ b4 7 0 7 0 ++ b2 1 0 ++ z 4 ++ endless

-- ---- the nest: the root holds the coupled 1 (childless) and 2 and the atomic 6; 2 holds the atomic 3 and the coupled 4; 4 the atomic 5

unfoldable pub nest_file : Bytes
nest_file =
    b2 7 0 ++ b5 0 0 0 0 0 ++ b5 0 0 0 0 0 ++ b5 0 0 0 0 0 ++ b5 1 2 4 3 0 ++ b5 0 2 0 0 0 ++ b5 1 4 1 0 1 ++ b5 1 0 1 0 0
    ++ flat_phases
    ++ b2 4 0 ++ 3 ∷ first_rule ++ 6 ∷ always ++ 6 ∷ on_seven ++ 5 ∷ on_seven
    ++ b2 16 0
    -- the root's input: to 2, to 6, and into the childless 1; the output of 1
    ++ b4 0 0 2 0 ++ b4 0 0 6 1 ++ b4 0 1 1 0 ++ b4 1 0 0 0
    -- port 0 of 2: its output to the root and to 6, its input to 3 and to a port of 4 from which none goes on
    ++ b4 2 0 0 2 ++ b4 2 0 3 1 ++ b4 2 0 4 2 ++ b4 2 0 6 0
    -- two ways from 3.1 into 4, and one up from 3.3, which no phase uses
    ++ b4 3 1 4 0 ++ b4 3 1 4 1 ++ b4 3 3 2 0
    -- both inputs of 4 to 5.0; port 1 of 4 as an output goes up
    ++ b4 4 0 5 0 ++ b4 4 1 2 0 ++ b4 4 1 5 0 ++ b4 5 2 4 1 ++ b4 6 3 2 0

-- Atomics 3, 5 and 6 are now 1, 2 and 3.
unfoldable pub flat_file : Bytes
flat_file =
    b2 4 0 ++ b5 0 0 0 0 0 ++ b5 1 0 4 3 0 ++ b5 1 0 1 0 1 ++ b5 1 0 1 0 0
    ++ flat_phases
    ++ b2 4 0 ++ 1 ∷ first_rule ++ 3 ∷ always ++ 3 ∷ on_seven ++ 2 ∷ on_seven
    ++ b2 9 0 ++ b4 0 0 1 1 ++ b4 0 0 3 1 ++ b4 1 1 2 0 ++ b4 1 1 2 0 ++ b4 1 3 0 2 ++ b4 1 3 3 0 ++ b4 2 2 0 2 ++ b4 2 2 3 0 ++ b4 3 3 1 1

unfoldable pub nest_model : Model
nest_model = record {
  components =
      no_component ∷ coupled_in 0 ∷ coupled_in 0 ∷ record { kind = 1; parent = 2; phases = 4; initial = 3; order = 0 } ∷ coupled_in 2
      ∷ atomic_in 4 1 1 ∷ atomic_in 0 1 0 ∷ [];
  phases =
      record {
        advance = 67305985;
        next = 3;
        output_count = 2;
        slot0 = message 1 1541;
        slot1 = message 2 2055;
        slot2 = no_message;
        slot3 = no_message;
      }
      ∷ silent never_field 0 ∷ silent never_field 0 ∷ silent never_field 0 ∷ silent never_field 0 ∷ silent never_field 0 ∷ [];
  rules =
      record {
        component = 3;
        phase = 1;
        next = 2;
        port = 0;
        low = 1284;
        high = 1798;
        least = 2312;
        low_elapsed = 218893066;
        high_elapsed = 286265102;
      }
      ∷ record { component = 6; phase = 0; next = 0; port = 0; low = 0; high = 65535; least = 0; low_elapsed = 0; high_elapsed = never_field }
      ∷ record { component = 6; phase = 0; next = 0; port = 1; low = 7; high = 7; least = 1; low_elapsed = 0; high_elapsed = never_field }
      ∷ record { component = 5; phase = 0; next = 0; port = 1; low = 7; high = 7; least = 1; low_elapsed = 0; high_elapsed = never_field }
      ∷ [];
  couplings =
      link 0 0 2 0 ∷ link 0 0 6 1 ∷ link 0 1 1 0 ∷ link 1 0 0 0 ∷ link 2 0 0 2 ∷ link 2 0 3 1 ∷ link 2 0 4 2 ∷ link 2 0 6 0 ∷ link 3 1 4 0
      ∷ link 3 1 4 1 ∷ link 3 3 2 0 ∷ link 4 0 5 0 ∷ link 4 1 2 0 ∷ link 4 1 5 0 ∷ link 5 2 4 1 ∷ link 6 3 2 0 ∷ [];
  ranges = inclusive;
}

-- ---- the rows

unfoldable pub flattened : Type 0
unfolding tabled literals flat_phases first_rule always on_seven nest_file flat_file nest_model
flattened = Unit {0}

pub nest-written : model_bytes nest_model ≡ nest_file
unfolding flattened
nest-written = refl

pub nest-decoded : decode nest_file ≡ ok nest_model
unfolding flattened
nest-decoded = refl

-- 244 bytes, and the rest of the buffer stays
pub nest-flattened : flatten nest_file (replicate 250 255) ≡ record { number = 0; written = 244; buffer = flat_file ++ replicate 6 255 }
unfolding flattened
nest-flattened = refl

pub flat-again : flatten flat_file (replicate 244 255) ≡ record { number = 0; written = 244; buffer = flat_file }
unfolding flattened
flat-again = refl

-- start: three atomics, the first with initial phase 3
pub nest-started : start nest_file (z 38) ∷ flat_start flat_file (z 38) ∷ [] ≡
    record { number = 0; written = 37; buffer = z 8 ++ b2 3 0 ++ 3 ∷ z 27 } ∷ record { number = 0; written = 37; buffer = z 8 ++ b2 3 0 ++ 3 ∷ z 27 } ∷ []
unfolding flattened
nest-started = refl

-- a buffer one byte too short
pub flat-short : flatten nest_file (replicate 243 255) ≡ record { number = 15; written = 0; buffer = replicate 243 255 }
unfolding flattened
flat-short = refl

-- a file that is refused, and a buffer that is too short as well
pub flat-refused : flatten (nest_file ++ z 1) [] ≡ record { number = 20; written = 0; buffer = [] }
unfolding flattened
flat-refused = refl
