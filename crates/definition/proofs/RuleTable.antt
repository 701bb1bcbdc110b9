-- The deciding rule: rows where the port, an end of the value range, the least count, the place in the file, the component, the phase or an
-- end of the elapsed range decides; and messages that change their port on the way. On the engine's definitions and on the flat machine.
-- Assumes nothing.
use mathlib.Core.Path.{◌≡◌, refl}
use Prim.Native.Nat.{ℕ, suc}
use mathlib.Core.List.{List, [], ◌∷◌, ◌++◌, map}
use Rattle.definition.specs.Bytes.{Bytes}
use Rattle.definition.specs.Calls.{Call, Answer, Machine, called, run_calls, engine, flat_machine}
use Rattle.definition.proofs.Table.{advance_to, advanced_by, tabled}
use Rattle.definition.proofs.Literals.{b2, b3, b4, b5, z, endless, still, root, literals}

-- component, phase, next phase, port; low and high value; least count; at any elapsed time
unfoldable pub ruled : Bytes → Bytes → ℕ → Bytes
ruled head values least = head ++ values ++ b2 least 0 ++ z 4 ++ endless

-- Two atomics that rest in four phases and in one; the root's input ports 0 and 1 lead to the first.
unfoldable pub choosing : Bytes
choosing =
    b2 3 0 ++ root ++ b5 1 0 4 0 0 ++ b5 1 0 1 0 0 ++ b2 5 0 ++ still ++ still ++ still ++ still ++ still
    -- of the other component and of another phase, each for every bag
    ++ b2 5 0 ++ ruled (b4 2 0 0 0) (b4 0 0 255 255) 0 ++ ruled (b4 1 1 3 0) (b4 0 0 255 255) 0
    -- two messages on port 1 with values 5 to 9, to phase 1; every bag, to phase 2; a 7 on port 0, to phase 3
    ++ ruled (b4 1 0 1 1) (b4 5 0 9 0) 2 ++ ruled (b4 1 0 2 0) (b4 0 0 255 255) 0 ++ ruled (b4 1 0 3 0) (b4 7 0 7 0) 1
    ++ b2 2 0 ++ b4 0 0 1 0 ++ b4 0 1 1 1

-- One atomic, phases 0 and 1 never: a 7 after 5 to 9 ticks leads to phase 1.
unfoldable pub timed : Bytes
timed =
    b2 2 0 ++ root ++ b5 1 0 2 0 0 ++ b2 2 0 ++ still ++ still
    ++ b2 1 0 ++ b4 1 0 1 0 ++ b4 7 0 7 0 ++ b2 1 0 ++ b4 5 0 0 0 ++ b4 9 0 0 0 ++ b2 1 0 ++ b4 0 0 1 0

-- ---- from a start, one advance to t with a bag

pub record Chosen : Type 0 where
  pub moment : ℕ
  pub bag : Bytes
  pub phase : ℕ
  pub last : ℕ

-- At t with a bag that reaches the first atomic: the phase it leads to.
unfoldable pub leads : ℕ → Bytes → ℕ → Chosen
leads t bag phase = record { moment = t; bag = bag; phase = phase; last = t }

-- At t with a bag that reaches no atomic, or for which the first has no rule: phase 0 since 0, as before.
unfoldable pub passes : ℕ → Bytes → Chosen
passes t bag = record { moment = t; bag = bag; phase = 0; last = 0 }

unfoldable pub choices : List Chosen
choices =
    -- two messages, in either order, the same one twice, and with a third; one of them
    leads 0 (b3 1 5 0 ++ b3 1 9 0) 1 ∷ leads 0 (b3 1 9 0 ++ b3 1 5 0) 1 ∷ leads 0 (b3 1 7 0 ++ b3 1 7 0) 1
    ∷ leads 0 (b3 1 5 0 ++ b3 0 7 0 ++ b3 1 9 0) 1 ∷ leads 0 (b3 1 6 0 ++ b3 1 7 0 ++ b3 1 8 0) 1 ∷ leads 0 (b3 1 5 0) 2
    -- one below the low value, one above the high one, by 1 and by 256; the other port
    ∷ leads 0 (b3 1 4 0 ++ b3 1 9 0) 2 ∷ leads 0 (b3 1 9 0 ++ b3 1 10 0) 2 ∷ leads 0 (b3 1 9 0 ++ b3 1 9 1) 2
    ∷ leads 0 (b3 0 5 0 ++ b3 0 9 0) 2 ∷ leads 0 (b3 0 5 0 ++ b3 1 9 0) 2
    -- two rules hold: the first; and a bag that reaches no atomic
    ∷ leads 0 (b3 0 7 0) 2 ∷ passes 3 (b3 2 5 0 ++ b3 2 9 0) ∷ []

-- elapsed times 4, 5, 9 and 10
unfoldable pub times : List Chosen
times = passes 4 (b3 0 7 0) ∷ leads 5 (b3 0 7 0) 1 ∷ leads 9 (b3 0 7 0) 1 ∷ passes 10 (b3 0 7 0) ∷ []

-- A run with the first atomic's phase and last moment: alone, or with another at 0.
unfoldable pub alone : ℕ → ℕ → ℕ → Bytes
alone opening phase last = opening ∷ z 7 ++ b2 1 0 ++ phase ∷ last ∷ z 7

unfoldable pub besides : ℕ → ℕ → ℕ → Bytes
besides opening phase last = opening ∷ z 7 ++ b2 2 0 ++ phase ∷ last ∷ z 7 ++ z 9

unfoldable pub chosen_by : Machine → (ℕ → ℕ → ℕ → Bytes) → Chosen → Answer × Bytes
chosen_by k run r = called k (run 0 0 0) (advance_to r.moment r.bag [])

unfoldable pub chosen_so : (ℕ → ℕ → ℕ → Bytes) → Chosen → Answer × Bytes
chosen_so run r = (advanced_by 0 1 1 0 [], run (suc r.moment) r.phase r.last)

-- ---- ports

-- One atomic: a 7 on port 2 wakes it, and after 5 ticks it says 9 on port 1. The root's input port 1 leads to its port 2, and its port 1
-- to the root's output port 3.
unfoldable pub porting : Bytes
porting =
    b2 2 0 ++ root ++ b5 1 0 2 0 0 ++ b2 2 0 ++ still ++ b4 5 0 0 0 ++ b2 0 1 ++ b3 1 9 0 ++ z 9
    ++ b2 1 0 ++ ruled (b4 1 0 1 2) (b4 7 0 7 0) 1 ++ b2 2 0 ++ b4 0 1 1 2 ++ b4 1 1 0 3

-- A 7 at 0, and at 5 a bag that is empty or has another 7.
unfoldable pub porting_calls : Bytes → List Call
porting_calls bag = advance_to 0 (b3 1 7 0) [] ∷ advance_to 5 bag (z 15) ∷ []

-- The 9 at 5, and the phase then: a bag that comes when the atomic is due belongs to that very step, and so wakes it again.
unfoldable pub porting_so : ℕ → List Answer × Bytes
porting_so phase =
    (advanced_by 0 1 1 0 [] ∷ advanced_by 0 1 1 15 (5 ∷ z 7 ++ b2 0 0 ++ b2 1 0 ++ b3 3 9 0) ∷ [], alone 6 phase 5)

-- ---- the rows

unfoldable pub opened : Type 0
unfolding tabled literals ruled choosing timed leads passes choices times alone besides chosen_by chosen_so porting porting_calls porting_so
opened = Unit {0}

pub chosen : map (chosen_by (engine choosing) besides) choices ≡ map (chosen_so besides) choices
unfolding opened
chosen = refl

pub chosen-flat : map (chosen_by (flat_machine choosing) besides) choices ≡ map (chosen_so besides) choices
unfolding opened
chosen-flat = refl

pub in_time : map (chosen_by (engine timed) alone) times ≡ map (chosen_so alone) times
unfolding opened
in_time = refl

pub in-time-flat : map (chosen_by (flat_machine timed) alone) times ≡ map (chosen_so alone) times
unfolding opened
in-time-flat = refl

-- In phase 1, of which no rule speaks, a 7 at 6 changes nothing; it is a step.
pub stays : map (λ k. called k (alone 0 1 0) (advance_to 6 (b3 0 7 0) [])) (engine timed ∷ flat_machine timed ∷ [])
    ≡ (advanced_by 0 1 1 0 [], alone 7 1 0) ∷ (advanced_by 0 1 1 0 [], alone 7 1 0) ∷ []
unfolding opened
stays = refl

pub ported : map (λ bag. run_calls (engine porting) (alone 0 0 0) (porting_calls bag)) ([] ∷ b3 1 7 0 ∷ []) ≡ porting_so 0 ∷ porting_so 1 ∷ []
unfolding opened
ported = refl

pub ported-flat : map (λ bag. run_calls (flat_machine porting) (alone 0 0 0) (porting_calls bag)) ([] ∷ b3 1 7 0 ∷ []) ≡ porting_so 0 ∷ porting_so 1 ∷ []
unfolding opened
ported-flat = refl
