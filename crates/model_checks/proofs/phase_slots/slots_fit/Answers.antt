-- `model_checks::phase_slots::slots_fit` meets its contract. The tests on the slots are tests on their keys (slots-keys); for each number of used slots
-- the code takes those that are left. Assumes nothing.
use borrow.Author.Rules.{rules}
use native.Mathlib.Omega.{arith}
use mathlib.Core.Path.{◌≡◌, sym, ◌∙◌}
use mathlib.Core.Bool.{◌&&◌}
use Rattle.definition.specs.Pinned.Decoder.{used_fit, unused_fit}
use Rattle.model_records.specs.Values.{phase_of}
use Rattle.model_checks.proofs.Slots.{by_keys, slots-keys, all-used, fourth-set, three-used, third-set, two-used, second-set, one-used, none-used}
use Rattle.model_checks.proofs.phase_slots.slots_fit.Goals as goal

pub returns-then-used-gt3 : goal.returns-then-used-gt3
returns-then-used-gt3 c = let by-keys : let phase = c.args.phase in (used_fit (phase_of phase) && unused_fit (phase_of phase)) ≡ by_keys phase.output_count c.message_key-key0.result c.message_key-key1.result c.message_key-key2.result c.message_key-key3.result = slots-keys _ _ _ _ _ c.message_key-key0.ensures c.message_key-key1.ensures c.message_key-key2.ensures c.message_key-key3.ensures in
    sym (by-keys ∙ all-used _ _ _ _ _ (omega arith))

pub returns-then-key3-gt0 : goal.returns-then-key3-gt0
returns-then-key3-gt0 c = let by-keys : let phase = c.args.phase in (used_fit (phase_of phase) && unused_fit (phase_of phase)) ≡ by_keys phase.output_count c.message_key-key0.result c.message_key-key1.result c.message_key-key2.result c.message_key-key3.result = slots-keys _ _ _ _ _ c.message_key-key0.ensures c.message_key-key1.ensures c.message_key-key2.ensures c.message_key-key3.ensures in
    sym (by-keys ∙ fourth-set _ _ _ _ _ (omega arith) (omega arith))

pub returns-then-used-gt2 : goal.returns-then-used-gt2
returns-then-used-gt2 c = let by-keys : let phase = c.args.phase in (used_fit (phase_of phase) && unused_fit (phase_of phase)) ≡ by_keys phase.output_count c.message_key-key0.result c.message_key-key1.result c.message_key-key2.result c.message_key-key3.result = slots-keys _ _ _ _ _ c.message_key-key0.ensures c.message_key-key1.ensures c.message_key-key2.ensures c.message_key-key3.ensures in
    sym (by-keys ∙ three-used _ _ _ _ _ (omega arith) (omega arith) (omega arith))

pub returns-then-key2-gt0 : goal.returns-then-key2-gt0
returns-then-key2-gt0 c = let by-keys : let phase = c.args.phase in (used_fit (phase_of phase) && unused_fit (phase_of phase)) ≡ by_keys phase.output_count c.message_key-key0.result c.message_key-key1.result c.message_key-key2.result c.message_key-key3.result = slots-keys _ _ _ _ _ c.message_key-key0.ensures c.message_key-key1.ensures c.message_key-key2.ensures c.message_key-key3.ensures in
    sym (by-keys ∙ third-set _ _ _ _ _ (omega arith) (omega arith) (omega arith) (omega arith))

pub returns-then-used-gt1 : goal.returns-then-used-gt1
returns-then-used-gt1 c = let by-keys : let phase = c.args.phase in (used_fit (phase_of phase) && unused_fit (phase_of phase)) ≡ by_keys phase.output_count c.message_key-key0.result c.message_key-key1.result c.message_key-key2.result c.message_key-key3.result = slots-keys _ _ _ _ _ c.message_key-key0.ensures c.message_key-key1.ensures c.message_key-key2.ensures c.message_key-key3.ensures in
    sym (by-keys ∙ two-used _ _ _ _ _ (omega arith) (omega arith) (omega arith) (omega arith) (omega arith))

pub returns-then-key1-gt0 : goal.returns-then-key1-gt0
returns-then-key1-gt0 c = let by-keys : let phase = c.args.phase in (used_fit (phase_of phase) && unused_fit (phase_of phase)) ≡ by_keys phase.output_count c.message_key-key0.result c.message_key-key1.result c.message_key-key2.result c.message_key-key3.result = slots-keys _ _ _ _ _ c.message_key-key0.ensures c.message_key-key1.ensures c.message_key-key2.ensures c.message_key-key3.ensures in
    sym (by-keys ∙ second-set _ _ _ _ _ (omega arith) (omega arith) (omega arith) (omega arith) (omega arith) (omega arith))

pub returns-then-used-gt0 : goal.returns-then-used-gt0
returns-then-used-gt0 c = let by-keys : let phase = c.args.phase in (used_fit (phase_of phase) && unused_fit (phase_of phase)) ≡ by_keys phase.output_count c.message_key-key0.result c.message_key-key1.result c.message_key-key2.result c.message_key-key3.result = slots-keys _ _ _ _ _ c.message_key-key0.ensures c.message_key-key1.ensures c.message_key-key2.ensures c.message_key-key3.ensures in
    sym (by-keys ∙ one-used _ _ _ _ _ (omega arith) (omega arith) (omega arith) (omega arith) (omega arith) (omega arith) (omega arith))

pub returns : goal.returns
returns c = let by-keys : let phase = c.args.phase in (used_fit (phase_of phase) && unused_fit (phase_of phase)) ≡ by_keys phase.output_count c.message_key-key0.result c.message_key-key1.result c.message_key-key2.result c.message_key-key3.result = slots-keys _ _ _ _ _ c.message_key-key0.ensures c.message_key-key1.ensures c.message_key-key2.ensures c.message_key-key3.ensures in
    sym (by-keys ∙ none-used _ _ _ _ _ (omega arith) (omega arith) (omega arith) (omega arith) (omega arith) (omega arith) (omega arith))
