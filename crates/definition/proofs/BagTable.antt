-- The largest bags. Of an atomic: 16 given messages along 1,024 routes are 16,384. Rows where a rule wants as many, and one more; and just so many
-- come up from the step and arrive in the flat machine, so that the limit of request (iv) is met. Of the root: 4 messages along 1,024 routes are
-- 4,096. Rows where the trace just holds their record, and where it does not; and just so many are put out, so that the limit of request (vii) is
-- met. Assumes nothing.
use mathlib.Core.Path.{◌≡◌, refl}
use Prim.Native.Nat.{ℕ}
use mathlib.Core.List.{List, [], ◌∷◌, ◌++◌, map}
use lib.ListN.{length, replicate}
use Rattle.definition.specs.Lists.{concat}
use Rattle.definition.specs.Bytes.{Bytes}
use Rattle.definition.specs.Limits.{never_field, max_root_bag, max_atomic_bag}
use Rattle.definition.specs.Model.{Bag, Model, inclusive, no_component, tree}
use Rattle.definition.specs.File.{model_bytes}
use Rattle.definition.specs.Devs.{Decided, devs_step}
use Rattle.definition.specs.Step.{load}
use Rattle.definition.specs.SavedRun.{no_entry}
use Rattle.definition.specs.Engine.{to_bag}
use Rattle.definition.specs.Flatten.{flat}
use Rattle.definition.specs.FlatMachine.{Stage, all_sent, arriving, copied, flat_step, in_turn}
use Rattle.definition.specs.Calls.{start_call, start_answer, engine, flat_machine}
use Rattle.definition.specs.Carrying.{root_of}
use Rattle.definition.proofs.Models.{message, coupled_in, atomic_in, silent, on_value, link}
use Rattle.definition.proofs.Table.{Row, zeros, saved, advance_to, advanced_by, actual, expected, tabled}
use Rattle.definition.proofs.Literals.{b2, b3, z, literals}

-- ---- an atomic's

-- The root's input leads 32 times to that of the coupled 1, and from there 32 times to the atomic 2: `least` messages 7 lead it to phase 1.
unfoldable pub hearing : ℕ → Model
hearing least = record {
  components = no_component ∷ coupled_in 0 ∷ atomic_in 1 2 0 ∷ [];
  phases = silent never_field 0 ∷ silent never_field 1 ∷ [];
  rules = on_value 2 0 7 least 1 ∷ [];
  couplings = replicate 32 (link 0 0 1 0) ++ replicate 32 (link 1 0 2 0);
  ranges = inclusive;
}

unfoldable pub sixteen : Bytes
sixteen = concat (replicate 16 (0 ∷ 7 ∷ 0 ∷ []))

-- The phase that it leads to.
unfoldable pub heard : ℕ → ℕ → Row
heard least phase = record {
  model = hearing least;
  calls = start_call ∷ advance_to 0 sixteen [] ∷ [];
  answers = start_answer 0 19 ∷ advanced_by 0 1 1 0 [] ∷ [];
  run = saved 1 ((phase, 0) ∷ []) ++ zeros 9;
}

-- The rule that wants as many decides, and the one that wants one more does not.
unfoldable pub enough : List Row
enough = heard 16384 1 ∷ []

unfoldable pub one_more : List Row
one_more = heard 16385 0 ∷ []

-- What comes up from the step of the nest, and what arrives at the atomic, number 1 of the flat form.
unfoldable pub told_of : Model → List Decided
told_of m = (devs_step (root_of m) 0 (to_bag sixteen) (record { state = load m (λ _. no_entry) 0 (tree m); event = 0 })).1.decided

unfoldable pub arrived_in : Model → Bag
arrived_in m = arriving m 0 1 (all_sent m 0 (to_bag sixteen) (no_entry ∷ []))

unfoldable pub bagged : Type 0
unfolding tabled hearing sixteen heard enough one_more told_of arrived_in
bagged = Unit {0}

pub engine-enough : map (actual (λ m. engine (model_bytes m))) enough ≡ map expected enough
unfolding bagged
engine-enough = refl

pub flat-enough : map (actual (λ m. flat_machine (model_bytes (flat m)))) enough ≡ map expected enough
unfolding bagged
flat-enough = refl

pub engine-one-more : map (actual (λ m. engine (model_bytes m))) one_more ≡ map expected one_more
unfolding bagged
engine-one-more = refl

pub told-largest : told_of (hearing 16384) ≡ record { atomic = 2; position = 0; messages = max_atomic_bag } ∷ []
unfolding bagged
told-largest = refl

pub arrived-largest : length (arrived_in (flat (hearing 16384))) ≡ max_atomic_bag
unfolding bagged
arrived-largest = refl

-- ---- the root's

-- At 5 the atomic 2 puts out four messages. Its output leads 32 times to that of the coupled 1, and from there 32 times to the root's.
unfoldable pub telling : Model
telling = record {
  components = no_component ∷ coupled_in 0 ∷ atomic_in 1 2 0 ∷ [];
  phases =
      record { advance = 5; next = 1; output_count = 4; slot0 = message 0 7; slot1 = message 0 7; slot2 = message 0 256; slot3 = message 0 65535 }
      ∷ silent never_field 1 ∷ [];
  rules = [];
  couplings = replicate 32 (link 1 0 0 2) ++ replicate 32 (link 2 0 1 0);
  ranges = inclusive;
}

unfoldable pub told : Bytes
told =
    5 ∷ z 7 ++ b2 0 0 ++ b2 0 16
    ++ concat (replicate 2048 (b3 2 7 0)) ++ concat (replicate 1024 (b3 2 0 1)) ++ concat (replicate 1024 (b3 2 255 255))

-- The record just fits into the trace; and one byte is missing, so that nothing is done.
unfoldable pub wholly : List Row
wholly = record {
  model = telling;
  calls = start_call ∷ advance_to 5 [] (zeros 12300) ∷ [];
  answers = start_answer 0 19 ∷ advanced_by 0 1 1 12300 told ∷ [];
  run = saved 6 ((1, 5) ∷ []) ++ zeros 9;
} ∷ []

unfoldable pub too_short : List Row
too_short = record {
  model = telling;
  calls = start_call ∷ advance_to 5 [] (zeros 12299) ∷ [];
  answers = start_answer 0 19 ∷ advanced_by 15 0 0 0 (zeros 12299) ∷ [];
  run = saved 0 ((0, 0) ∷ []) ++ zeros 9;
} ∷ []

-- The root's bag in the step of the nest, and in that of the flat machine.
unfoldable pub put_out_by : Model → Bag
put_out_by m = (devs_step (root_of m) 5 [] (record { state = load m (λ _. no_entry) 5 (tree m); event = 5 })).0

unfoldable pub flat_puts_out : Model → Bag
flat_puts_out m = (flat_step m 5 [] (copied (no_entry ∷ []))).0

-- How far the flat machine has come: instants, steps and trace bytes, the run buffer and the trace.
unfoldable pub stage_of : ℕ → ℕ → ℕ → Bytes → Bytes → Stage
stage_of instants steps used run trace = record { state = run; trace = trace; table = []; instants = instants; steps = steps; used = used }

unfoldable pub rooted : Type 0
unfolding tabled literals telling told wholly too_short put_out_by flat_puts_out stage_of
rooted = Unit {0}

pub engine-wholly : map (actual (λ m. engine (model_bytes m))) wholly ≡ map expected wholly
unfolding rooted
engine-wholly = refl

pub engine-too-short : map (actual (λ m. engine (model_bytes m))) too_short ≡ map expected too_short
unfolding rooted
engine-too-short = refl

-- The flat machine's own loop, on the flat form without reading it from bytes again: the number and what stands.
pub flat-wholly : in_turn (flat telling) 5 [] 6 (stage_of 0 0 0 (saved 0 ((0, 0) ∷ [])) (zeros 12300)) ≡ (0, stage_of 1 1 12300 (saved 6 ((1, 5) ∷ [])) told)
unfolding rooted
flat-wholly = refl

pub flat-too-short : in_turn (flat telling) 5 [] 6 (stage_of 0 0 0 (saved 0 ((0, 0) ∷ [])) (zeros 12299)) ≡ (15, stage_of 0 0 0 (saved 0 ((0, 0) ∷ [])) (zeros 12299))
unfolding rooted
flat-too-short = refl

pub put-out-largest : length (put_out_by telling) ≡ max_root_bag
unfolding rooted
put-out-largest = refl

pub flat-puts-out-largest : length (flat_puts_out (flat telling)) ≡ max_root_bag
unfolding rooted
flat-puts-out-largest = refl
