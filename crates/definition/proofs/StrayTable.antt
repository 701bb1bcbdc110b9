-- Stray cues: messages for which an atomic has no rule keep its phase and its last moment, in a nest of three levels. Computed on the engine's
-- definitions, on the engine with the flat form, on the flat machine, and on the root's resultant carried by its own elapsed times.
-- Assumes nothing.
use mathlib.Core.Path.{◌≡◌, refl}
use Prim.Native.Nat.{ℕ}
use mathlib.Core.List.{List, [], ◌∷◌, map}
use Rattle.definition.specs.Bytes.{Bytes}
use Rattle.definition.specs.Limits.{never_field}
use Rattle.definition.specs.Model.{Bag, Model, tree}
use Rattle.definition.specs.File.{model_bytes}
use Rattle.definition.specs.Devs.{Since}
use Rattle.definition.specs.Step.{unload}
use Rattle.definition.specs.Advance.{advance_from}
use Rattle.definition.specs.Flatten.{flat}
use Rattle.definition.specs.Calls.{Call, start_call, reading_call, Answer, start_answer, reading_answer, engine, flat_machine}
use Rattle.definition.specs.Carrying.{carried, root_of, initially, at_start}
use Rattle.definition.proofs.Models.{message}
use Rattle.definition.proofs.EdgeModels.{on_value_at, holding}
use Rattle.definition.proofs.Table.{Row, zeros, saved, traced, advance_to, advanced_by, actual, expected, tabled}

-- To t with one message, or with none.
unfoldable pub cue_at : ℕ → ℕ → Call
cue_at t v = advance_to t (0 ∷ v ∷ 0 ∷ []) []

unfoldable pub go_on_to : ℕ → Call
go_on_to t = advance_to t [] (zeros 15)

-- One step without a record; so many instants of one step, and the 9 at a moment.
unfoldable pub one_step : Answer
one_step = advanced_by 0 1 1 0 []

unfoldable pub says_at : ℕ → ℕ → Answer
says_at n moment = advanced_by 0 n n 15 (traced moment 0 ((0, 9) ∷ []))

unfoldable pub strays : List Row
strays =
    -- a hold of 5 ticks from 0 with an 8 at 3, which is a step: due at 5, and over then
    record {
      model = holding 0 never_field;
      calls = start_call ∷ cue_at 0 7 ∷ cue_at 3 8 ∷ reading_call 0 ∷ go_on_to 10 ∷ [];
      answers = start_answer 0 28 ∷ one_step ∷ one_step ∷ reading_answer 0 1 0 5 ∷ says_at 1 5 ∷ [];
      run = saved 11 ((0, 5) ∷ (0, 0) ∷ []);
    }
    -- two of them in one call, at 2 and 4, from beside its parent
    ∷ record {
      model = holding 0 2;
      calls = start_call ∷ cue_at 0 7 ∷ go_on_to 5 ∷ [];
      answers = start_answer 0 28 ∷ one_step ∷ says_at 3 5 ∷ [];
      run = saved 6 ((0, 5) ∷ (0, 4) ∷ []);
    }
    -- an 8 and a 6 in one bag: the rule for the 6 leads into the same phase, and begins it at 3
    ∷ record {
      model = holding 0 never_field;
      calls = start_call ∷ cue_at 0 7 ∷ advance_to 3 (0 ∷ 8 ∷ 0 ∷ 0 ∷ 6 ∷ 0 ∷ []) [] ∷ go_on_to 10 ∷ [];
      answers = start_answer 0 28 ∷ one_step ∷ one_step ∷ says_at 1 8 ∷ [];
      run = saved 11 ((0, 8) ∷ (0, 0) ∷ []);
    }
    -- an 8 just when the hold is over: a confluent transition sets the last moment in both orders
    ∷ record {
      model = holding 0 5;
      calls = start_call ∷ cue_at 0 7 ∷ go_on_to 5 ∷ [];
      answers = start_answer 0 28 ∷ one_step ∷ says_at 1 5 ∷ [];
      run = saved 6 ((0, 5) ∷ (0, 5) ∷ []);
    }
    ∷ record {
      model = holding 1 5;
      calls = start_call ∷ cue_at 0 7 ∷ go_on_to 5 ∷ [];
      answers = start_answer 0 28 ∷ one_step ∷ says_at 1 5 ∷ [];
      run = saved 6 ((0, 5) ∷ (0, 5) ∷ []);
    }
    -- a 4 at 5, after an 8 at 3: order 1 has the whole advance as its elapsed time
    ∷ record {
      model = holding 1 3;
      calls = start_call ∷ cue_at 0 7 ∷ advance_to 5 (0 ∷ 4 ∷ 0 ∷ []) (zeros 15) ∷ [];
      answers = start_answer 0 28 ∷ one_step ∷ says_at 2 5 ∷ [];
      run = saved 6 ((2, 5) ∷ (0, 3) ∷ []);
    }
    -- past 32 bits: a 3 that is early by a tick, an 8, and a 3 after a rest of 5,000,000,001 ticks
    ∷ record {
      model = holding 0 never_field;
      calls = start_call ∷ cue_at 4294967293 3 ∷ cue_at 5000000000 8 ∷ reading_call 0 ∷ cue_at 5000000001 3 ∷ [];
      answers = start_answer 0 28 ∷ one_step ∷ one_step ∷ reading_answer 0 0 0 18446744073709551615 ∷ one_step ∷ [];
      run = saved 5000000002 ((2, 5000000001) ∷ (0, 0) ∷ []);
    }
    ∷ []

-- ---- the resultant, carried through calls from its start

-- A 7 at 0 begins a hold; then messages at their moments. An 8 comes from beside its parent every 3 ticks besides, so that what is spent in the
-- hold comes over all levels. What is heard at last, and the entries that the state stands for then.
pub record Carry : Type 0 where
  pub order : ℕ
  pub cues : List (ℕ × Bag)
  pub heard : Bytes
  pub entries : List (ℕ × ℕ)

unfoldable pub value : ℕ → Bag
value v = message 0 v ∷ []

unfoldable pub carries : List Carry
carries =
    -- let pass at 1, 3 and 4, and over at 5
    record { order = 0; cues = (1, value 8) ∷ (4, value 8) ∷ (5, []) ∷ []; heard = traced 5 0 ((0, 9) ∷ []); entries = (0, 5) ∷ (0, 3) ∷ [] }
    -- the rule for a 4 after 4 ticks, and at the end, where order 1 has the whole advance
    ∷ record { order = 0; cues = (1, value 8) ∷ (4, value 4) ∷ []; heard = []; entries = (2, 4) ∷ (0, 3) ∷ [] }
    ∷ record { order = 1; cues = (4, value 8) ∷ (5, value 4) ∷ []; heard = traced 5 0 ((0, 9) ∷ []); entries = (2, 5) ∷ (0, 3) ∷ [] }
    -- begun anew at 2, let pass at 3 and 6, and over at 7
    ∷ record { order = 0; cues = (2, value 6) ∷ (8, []) ∷ []; heard = traced 7 0 ((0, 9) ∷ []); entries = (0, 7) ∷ (0, 6) ∷ [] }
    -- a confluent transition without a rule after messages were let pass, in both orders: begun anew at 1, due at 6
    ∷ record { order = 0; cues = (1, value 6) ∷ (6, []) ∷ []; heard = traced 6 0 ((0, 9) ∷ []); entries = (0, 6) ∷ (0, 6) ∷ [] }
    ∷ record { order = 1; cues = (1, value 6) ∷ (6, []) ∷ []; heard = traced 6 0 ((0, 9) ∷ []); entries = (0, 6) ∷ (0, 6) ∷ [] } ∷ []

-- Through the calls: the trace of the last one, and what the state stands for.
unfoldable pub carried_through : (m : Model) → ℕ → Since (root_of m) → Bytes → List (ℕ × Bag) → Bytes × List (ℕ × ℕ)
carried_through m opening q heard [] = (heard, map (λ r. (r.phase, r.last)) (unload m q.event (tree m) q.state))
carried_through m opening q heard (c ∷ cs) =
    let p = (advance_from (carried m) 15 c.0 c.1 opening q).progress in
    carried_through m p.opening p.state p.trace cs

unfoldable pub carried_by : Carry → Bytes × List (ℕ × ℕ)
carried_by r = let m = holding r.order 3 in carried_through m 0 (at_start m).since [] ((0, value 7) ∷ r.cues)

unfoldable pub straying : Type 0
unfolding tabled on_value_at holding cue_at go_on_to one_step says_at strays initially value carries carried_through carried_by
straying = Unit {0}

pub engine-strays : map (actual (λ m. engine (model_bytes m))) strays ≡ map expected strays
unfolding straying
engine-strays = refl

pub engine-flat-strays : map (actual (λ m. engine (model_bytes (flat m)))) strays ≡ map expected strays
unfolding straying
engine-flat-strays = refl

pub flat-strays : map (actual (λ m. flat_machine (model_bytes (flat m)))) strays ≡ map expected strays
unfolding straying
flat-strays = refl

pub carried-strays : map carried_by carries ≡ map (λ r. (r.heard, r.entries)) carries
unfolding straying
carried-strays = refl
