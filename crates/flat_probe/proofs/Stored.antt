-- The probe's records and flags as the code stores them. Assumes nothing.
use mathlib.Core.Path.{◌≡◌, refl, sym, ap, ap₂, ◌∙◌}
use Prim.Native.Nat.{ℕ, suc, ◌+◌, ◌*◌, ◌-◌, ◌/◌, ◌≤◌, ◌<◌}
use mathlib.Core.List.{List, [], ◌++◌, map, append-nil, map-map}
use native.Mathlib.Omega.{arith}
use lib.ListN.{length, get_or, drop, set, length-map, drop_of_length-le}
use lib.Seq.{sets, sets-eq}
use Rattle.definition.specs.Lists.{concat, up_from}
use Rattle.definition.specs.Bytes.{Bytes, bytes_of, chunks, number_at, little_endian, laid_out}
use Rattle.definition.specs.Limits.{max_components, phase_size}
use Rattle.definition.specs.Model.{no_phase, slots}
use Rattle.definition.specs.Records.{message_at, message_bytes, phase_bytes}
use Rattle.definition.specs.Pinned.Decoder.{to_phase}
use Rattle.law_base.proofs.Lists.{get_d_map, length_up}
use Rattle.law_bytes.specs.Parts.{records_in}
use Rattle.model_records.specs.Values.{phases_in}
use Rattle.law_model.proofs.Codec.{length-bytes, rows-length, rows_back}
use Rattle.law_stores.proofs.Stores.{sets-append}
use Rattle.spec_step.specs.Tables.{output_node}
use Rattle.spec_step.specs.Flags.{flags_size}
use Rattle.law_step.proofs.Positions.{get_or-up}
use Rattle.flat_writer.proofs.Pieces.{records-more, records-none}
use Rattle.law_model.proofs.Writing.{phase-size}
use Rattle.flat_probe.specs.Probe.{own_port, probe_of, probes, probe_flags}

pub slot-puts : (c q at : ℕ) (b : Bytes) → sets (sets b at (bytes_of 1 q)) (at + 1) (bytes_of 2 (8 * c + (4 + q))) ≡ sets b at (message_bytes (own_port c q))
unfolding message_bytes laid_out bytes_of own_port output_node
slot-puts c q at b =
    ap (λ k. sets (sets b at (bytes_of 1 q)) (at + k) (bytes_of 2 (8 * c + (4 + q)))) (sym (length-bytes 1 q)) ∙ sym (sets-append (bytes_of 1 q) (bytes_of 2 (8 * c + (4 + q))) b at)

message-length : (c q : ℕ) → length (message_bytes (own_port c q)) ≡ 3
unfolding message_bytes laid_out bytes_of own_port
message-length c q = refl

-- two pieces, the second at a known place
pair : (x y b : Bytes) (at n j : ℕ) → length x ≡ n → at + n ≡ j → sets (sets b at x) j y ≡ sets b at (x ++ y)
pair x y b at n j l e = ap (λ k. sets (sets b at x) k y) (sym e ∙ ap (λ k. at + k) (sym l)) ∙ sym (sets-append x y b at)

pub probe-puts : (c at : ℕ) (b : Bytes)
    → sets (sets (sets (sets (sets (sets b at (bytes_of 5 0)) (at + 5) (bytes_of 1 4)) (at + 6) (message_bytes (own_port c 0))) (at + 9) (message_bytes (own_port c 1))) (at + 12) (message_bytes (own_port c 2))) (at + 15) (message_bytes (own_port c 3))
    ≡ sets b at (phase_bytes (probe_of c))
probe-puts c at b =
    let x = bytes_of 5 0 in
    let y = bytes_of 1 4 in
    let m : ℕ → Bytes = λ q. message_bytes (own_port c q) in
    pair (m 2) (m 3) _ (at + 12) 3 (at + 15) (message-length c 2) (omega arith)
    ∙ pair (m 1) (m 2 ++ m 3) _ (at + 9) 3 (at + 12) (message-length c 1) (omega arith)
    ∙ pair (m 0) (m 1 ++ (m 2 ++ m 3)) _ (at + 6) 3 (at + 9) (message-length c 0) (omega arith)
    ∙ pair y (m 0 ++ (m 1 ++ (m 2 ++ m 3))) _ (at + 5) 1 (at + 6) (length-bytes 1 4) (omega arith)
    ∙ pair x (y ++ (m 0 ++ (m 1 ++ (m 2 ++ m 3)))) b at 5 (at + 5) (length-bytes 5 0) (omega arith)
    ∙ ap (sets b at) parts
  where
    parts : bytes_of 5 0 ++ (bytes_of 1 4 ++ (message_bytes (own_port c 0) ++ (message_bytes (own_port c 1) ++ (message_bytes (own_port c 2) ++ message_bytes (own_port c 3))))) ≡ phase_bytes (probe_of c)
    parts = unfold phase_bytes probe_of slots message_bytes laid_out bytes_of own_port concat in refl

-- ---- all of them

probes-length : length probes ≡ max_components
unfolding probes
probes-length = length-map (up_from 0 max_components) probe_of ∙ length_up 0 max_components

pub probe-at : (c : ℕ) → c < max_components → get_or probes c no_phase ≡ probe_of c
unfolding probes
probe-at c l = get_d_map probe_of (up_from 0 max_components) c 0 no_phase (omega (arith, length_up 0 max_components)) ∙ ap probe_of (get_or-up 0 max_components c l ∙ omega arith)

-- the records from component c on
unfoldable pub probes_from : ℕ → Bytes
probes_from c = concat (map phase_bytes (drop c probes))

pub probes-more : (c : ℕ) (b : Bytes) → c < max_components → sets (sets b (18 * c) (phase_bytes (probe_of c))) (18 * (c + 1)) (probes_from (c + 1)) ≡ sets b (18 * c) (probes_from c)
unfolding probes_from
probes-more c b l =
    let z : 0 + 18 * c ≡ 18 * c = omega arith in
    let y : 0 + 18 * (c + 1) ≡ 18 * (c + 1) = omega arith in
    ap₂ (λ i k. sets (sets b i (phase_bytes k)) (18 * (c + 1)) (concat (map phase_bytes (drop (c + 1) probes)))) (sym z) (sym (probe-at c l))
    ∙ ap (λ j. sets (sets b (0 + 18 * c) (phase_bytes (get_or probes c no_phase))) j (concat (map phase_bytes (drop (c + 1) probes)))) (sym y)
    ∙ records-more 18 phase_bytes phase-size probes c 0 no_phase b (omega (arith, probes-length))
    ∙ ap (λ i. sets b i (concat (map phase_bytes (drop c probes)))) z

pub probes-none : (c : ℕ) (b : Bytes) → max_components ≤ c → sets b (18 * c) (probes_from c) ≡ b
unfolding probes_from
probes-none c b l = records-none 18 phase_bytes phase-size probes c (18 * c) b (omega (arith, probes-length))

-- read back
probes-held : map (λ k. to_phase (phase_bytes k)) probes ≡ probes
unfolding probes probe_of own_port output_node up_from to_phase phase_bytes slots message_at number_at little_endian laid_out bytes_of concat
probes-held = refl

pub probes-back : (b : Bytes) → length b ≡ max_components * phase_size → phases_in (sets b 0 (probes_from 0)) ≡ probes
unfolding phases_in records_in probes_from
probes-back b l =
    let x = concat (map phase_bytes probes) in
    let k : length x ≡ max_components * phase_size = rows-length phase_size phase_bytes phase-size probes ∙ ap (λ n. n * phase_size) probes-length in
    let e : sets b 0 x ≡ x ++ [] = sets-eq x b 0 (omega arith) ∙ ap (λ r. x ++ r) (drop_of_length-le b {i = 0 + length x} (omega arith)) in
    let n : length (x ++ []) / phase_size ≡ length probes = ap (λ y. length y / phase_size) (append-nil x) ∙ ap (λ n. n / phase_size) k ∙ sym probes-length in
    ap (λ y. map to_phase (chunks (length y / phase_size) phase_size y)) e
    ∙ ap (λ n. map to_phase (chunks n phase_size (x ++ []))) n
    ∙ ap (map to_phase) (rows_back phase_size phase_bytes phase-size probes []) ∙ map-map to_phase phase_bytes probes ∙ probes-held

-- ---- flags

unfoldable pub flags_from : ℕ → List ℕ
flags_from i = up_from (i + 1) (flags_size - i)

pub flags-more : (i : ℕ) (b : List ℕ) → i < flags_size → sets (set b i (i + 1)) (i + 1) (flags_from (i + 1)) ≡ sets b i (flags_from i)
unfolding flags_from
flags-more i b l = sym (ap (λ k. sets b i (up_from (i + 1) k)) e ∙ one)
  where
    e : flags_size - i ≡ suc (flags_size - (i + 1))
    e = omega arith

    one : sets b i (up_from (i + 1) (suc (flags_size - (i + 1)))) ≡ sets (set b i (i + 1)) (i + 1) (up_from (i + 1 + 1) (flags_size - (i + 1)))
    one =
        unfold up_from in
        (ap₂ (λ k j. sets (set b i (i + 1)) k (up_from j (flags_size - (i + 1)))) (let f : suc i ≡ i + 1 = omega arith in f) (let f : suc (i + 1) ≡ i + 1 + 1 = omega arith in f))

pub flags-none : (i : ℕ) (b : List ℕ) → flags_size ≤ i → sets b i (flags_from i) ≡ b
unfolding flags_from
flags-none i b l = ap (λ k. sets b i (up_from (i + 1) k)) (let e : flags_size - i ≡ 0 = omega arith in e) ∙ (unfold up_from in refl)

pub flags-all : (b : List ℕ) → length b ≡ flags_size → sets b 0 (flags_from 0) ≡ probe_flags
unfolding flags_from probe_flags
flags-all b l =
    let x = up_from 1 flags_size in
    sets-eq x b 0 (omega (arith, length_up 1 flags_size)) ∙ ap (λ r. x ++ r) (drop_of_length-le b {i = 0 + length x} (omega (arith, length_up 1 flags_size))) ∙ append-nil x
