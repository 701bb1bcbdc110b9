-- The sections of the flat form, as the code stores them: a count, then records one after the other. Assumes nothing.
use mathlib.Core.Path.{◌≡◌, refl, sym, ap, ap₂, ◌∙◌}
use Prim.Native.Nat.{ℕ, suc, ◌+◌, ◌*◌, ◌/◌, ◌%◌, ◌≤◌, ◌<◌}
use mathlib.Core.List.{List, [], ◌∷◌, ◌++◌, map, append_assoc}
use mathlib.Core.Bool.{not}
use native.Mathlib.Omega.{arith}
use borrow.Author.Tests.{eq-eqb, ne_eqb}
use lib.ListN.{length, get_or, take, drop, set, length-map, length-append, length-take, length-drop}
use lib.Seq.{sets, get_or-take, length-take-le}
use Rattle.definition.specs.Lists.{concat, up_from}
use Rattle.definition.specs.Bytes.{Bytes, AllBytes, number_at, bytes_of, stored, laid_out}
use Rattle.definition.specs.Limits.{half_open_byte, count_size, rule_size, phase_size}
use Rattle.definition.specs.Model.{Component, Phase, Rule, RangeReading, inclusive, half_open, no_component, no_rule, component_at}
use Rattle.definition.specs.Records.{component_bytes, phase_bytes, rule_bytes, coupling_bytes}
use Rattle.definition.specs.File.{section_bytes, ranges_bytes, model_bytes}
use Rattle.definition.specs.Pinned.Decoder.{to_phase, to_rule}
use Rattle.law_base.proofs.Lists.{get_d_map, length_up}
use Rattle.law_base.specs.Ranges.{ranges_of}
use Rattle.law_bytes.specs.Parts.{records_in, row}
use Rattle.law_bytes.proofs.Records.{length-records, record-in}
use Rattle.model_records.specs.Values.{phases_in, rules_in}
use Rattle.law_model.proofs.Codec.{length-bytes}
use Rattle.spec_step.specs.Tables.{numbers_at, ranges_at, ranges_in}
use Rattle.law_step.proofs.Positions.{get_or-up}
use Rattle.law_stores.proofs.Stores.{sets-append, sets-front}
use Rattle.flat_ranks.specs.Ranks.{rank_of}
use Rattle.law_base.specs.Keys.{coupling_of}
use Rattle.flat_writer.specs.Written.{numbers_in, under_root, atomics_by, components_by, rule_by, flat_by, ranges_size}
use Rattle.flat_writer.proofs.Pieces.{phases-copied, rule-copied}
use Rattle.law_model.proofs.Writing.{component-size, phase-size, rule-size, coupling-size, section-length}

-- ---- single records

byte-byte : (n : ℕ) → n % 256 % 256 ≡ n % 256
byte-byte n = omega arith

pub row-puts : (k at : ℕ) (b : Bytes)
    → set (set (set (set b at (k / 16777216 % 256)) (at + 1) (k / 65536 % 256)) (at + 2) (k / 256 % 256)) (at + 3) (k % 256) ≡ sets b at (coupling_bytes (coupling_of k))
unfolding coupling_bytes coupling_of laid_out bytes_of
row-puts k at b =
    let e : at + 1 ≡ suc at = omega arith in
    let f : at + 2 ≡ suc (suc at) = omega arith in
    let g : at + 3 ≡ suc (suc (suc at)) = omega arith in
    rw (e, f, g, byte-byte (k / 65536), byte-byte (k / 256), byte-byte k)

pub atomic-puts : (k : Component) (at : ℕ) (b : Bytes) → k.phases < 256 → k.initial < 256 → k.order < 256
    → set (set (set (set (set b at 1) (at + 1) 0) (at + 2) k.phases) (at + 3) k.initial) (at + 4) k.order ≡ sets b at (component_bytes (under_root k))
unfolding component_bytes under_root laid_out bytes_of
atomic-puts k at b x y z =
    let e : at + 1 ≡ suc at = omega arith in
    let f : at + 2 ≡ suc (suc at) = omega arith in
    let g : at + 3 ≡ suc (suc (suc at)) = omega arith in
    let h : at + 4 ≡ suc (suc (suc (suc at))) = omega arith in
    let u : k.phases % 256 ≡ k.phases = omega arith in
    let v : k.initial % 256 ≡ k.initial = omega arith in
    let w : k.order % 256 ≡ k.order = omega arith in
    rw (e, f, g, h, u, v, w)

-- ---- lists of records

module _ (cs : List Component) (t : List ℕ) (n : ℕ) where
  length-numbers : length (numbers_in t n) ≡ n
  unfolding numbers_in
  length-numbers = length-map (up_from 0 n) _ ∙ length_up 0 n

  pub length-atomics : length (atomics_by cs t n) ≡ n
  unfolding atomics_by
  length-atomics = length-map (numbers_in t n) _ ∙ length-numbers

  pub atomic-at : (i : ℕ) → i < n → get_or (atomics_by cs t n) i no_component ≡ under_root (component_at cs (get_or t (numbers_at + i) 0))
  unfolding atomics_by numbers_in
  atomic-at i l =
      get_d_map (λ c. under_root (component_at cs c)) (numbers_in t n) i 0 no_component (omega (arith, length-numbers))
      ∙ ap (λ c. under_root (component_at cs c))
      (get_d_map (λ i. get_or t (numbers_at + i) 0) (up_from 0 n) i 0 0 (omega (arith, length_up 0 n)) ∙ ap (λ i. get_or t (numbers_at + i) 0) (get_or-up 0 n i l ∙ omega arith))

  -- count, root and atomics
  pub components-puts : (b : Bytes) → sets (sets (sets b 0 (bytes_of 2 (n + 1))) 2 (bytes_of 5 0)) 7 (concat (map component_bytes (atomics_by cs t n))) ≡ sets b 0 (section_bytes component_bytes (components_by cs t n))
  components-puts b =
      let k : n + 1 ≡ length (components_by cs t n) = count in
      ap (λ k. sets (sets (sets b 0 (bytes_of 2 k)) 2 (bytes_of 5 0)) 7 (concat (map component_bytes (atomics_by cs t n)))) k
      ∙ ap (λ r. sets (sets (sets b 0 (bytes_of 2 (length (components_by cs t n)))) 2 r) 7 (concat (map component_bytes (atomics_by cs t n)))) root-bytes
      ∙ pieces (bytes_of 2 (length (components_by cs t n))) (component_bytes no_component) (concat (map component_bytes (atomics_by cs t n))) (length-bytes 2 _) (component-size no_component)
      ∙ (unfold section_bytes components_by concat in refl)
    where
      count : n + 1 ≡ length (components_by cs t n)
      count = unfold components_by in (let l = length-atomics in omega arith)

      root-bytes : bytes_of 5 0 ≡ component_bytes no_component
      root-bytes = unfold component_bytes no_component laid_out bytes_of in refl

      pieces : (x y z : Bytes) → length x ≡ 2 → length y ≡ 5 → sets (sets (sets b 0 x) 2 y) 7 z ≡ sets b 0 (x ++ (y ++ z))
      pieces x y z p q =
          sym (sets-append x (y ++ z) b 0 ∙ sets-append y z (sets b 0 x) (0 + length x) ∙ ap₂ (λ i j. sets (sets (sets b 0 x) i y) j z) (omega arith) (omega arith))

-- a count and what follows it
pub section-puts : {A : Type 0} (bytes : A → Bytes) (xs : List A) (n at : ℕ) (b : Bytes) → n ≡ length xs
    → sets (sets b at (bytes_of 2 n)) (at + 2) (concat (map bytes xs)) ≡ sets b at (section_bytes bytes xs)
unfolding section_bytes
section-puts bytes xs n at b e =
    ap (λ n. sets (sets b at (bytes_of 2 n)) (at + 2) (concat (map bytes xs))) e
    ∙ ap (λ k. sets (sets b at (bytes_of 2 (length xs))) (at + k) (concat (map bytes xs))) (sym (length-bytes 2 (length xs)))
    ∙ sym (sets-append (bytes_of 2 (length xs)) (concat (map bytes xs)) b at)

-- phases, copied
pub phase-puts : (s : Bytes) (at : ℕ) (b : Bytes) → AllBytes s
    → sets (sets b at (bytes_of 2 (length (phases_in s)))) (at + 2) (take (18 * length (phases_in s)) s) ≡ sets b at (section_bytes phase_bytes (phases_in s))
unfolding phases_in records_in
phase-puts s at b h =
    let n = length s / 18 in
    let l : n * phase_size ≤ length s = omega arith in
    let e : 18 * length (records_in phase_size to_phase s) ≡ n * phase_size = ap (λ k. 18 * k) (length-records phase_size to_phase s) ∙ omega arith in
    ap (λ k. sets (sets b at (bytes_of 2 (length (records_in phase_size to_phase s)))) (at + 2) (take k s)) e
    ∙ ap (sets (sets b at (bytes_of 2 (length (records_in phase_size to_phase s)))) (at + 2)) (sym (phases-copied n l h))
    ∙ section-puts phase_bytes (records_in phase_size to_phase s) (length (records_in phase_size to_phase s)) at b refl

-- rules
module _ (s : Bytes) (t : List ℕ) where
  pub length-rules : length (rules_in s) ≡ length s / 18
  unfolding rules_in
  length-rules = length-records rule_size to_rule s

  pub length-renumbered : length (map (rule_by t) (rules_in s)) ≡ length (rules_in s)
  length-renumbered = length-map (rules_in s) (rule_by t)

  pub rule-at : (i : ℕ) → i < length (rules_in s) → get_or (map (rule_by t) (rules_in s)) i (rule_by t no_rule) ≡ rule_by t (to_rule (take 18 (drop (18 * i) s)))
  rule-at i l = get_d_map (rule_by t) (rules_in s) i no_rule (rule_by t no_rule) l ∙ ap (rule_by t) there
    where
      there : get_or (rules_in s) i no_rule ≡ to_rule (take 18 (drop (18 * i) s))
      there = unfold rules_in row in (record-in rule_size to_rule s i no_rule (omega (arith, length-rules)))

-- rows
module _ (rows : List ℕ) (n : ℕ) (few : n ≤ length rows) where
  pub length-rows : length (map coupling_of (take n rows)) ≡ n
  length-rows = length-map (take n rows) coupling_of ∙ length-take-le n rows few

  pub row_at : (i : ℕ) → i < n → get_or (map coupling_of (take n rows)) i (coupling_of 0) ≡ coupling_of (get_or rows i 0)
  row_at i l = get_d_map coupling_of (take n rows) i 0 (coupling_of 0) (omega (arith, length-take-le n rows few)) ∙ ap coupling_of (get_or-take n rows i 0 l)

-- a rule from its row
pub rule-row : (s : Bytes) (i : ℕ) → i < length (rules_in s) → length (take 18 (drop (18 * i) s)) ≡ rule_size
rule-row s i l = length-take 18 (drop (18 * i) s) ∙ omega (arith, length-drop (18 * i) s, length-rules s [])

pub rule-puts : (t : List ℕ) (r : Bytes) (at : ℕ) (b : Bytes) → length r ≡ rule_size → AllBytes r
    → sets (sets b at (bytes_of 1 (rank_of t (number_at 1 0 r)))) (at + 1) (take 17 (drop 1 r)) ≡ sets b at (rule_bytes (rule_by t (to_rule r)))
rule-puts t r at b l h =
    let x = bytes_of 1 (rank_of t (number_at 1 0 r)) in
    ap (λ k. sets (sets b at x) (at + k) (take 17 (drop 1 r))) (sym (length-bytes 1 (rank_of t (number_at 1 0 r))))
    ∙ sym (sets-append x (take 17 (drop 1 r)) b at) ∙ ap (sets b at) (sym (rule-copied t l h))

-- the fifth section, where there is one
pub ranges-open : (t : List ℕ) → (get_or t ranges_at 0 ≡ 0 → ⊥) → ranges_in t ≡ half_open
ranges-open t h = ap (λ b. ranges_of (not b)) (ne_eqb (get_or t ranges_at 0) 0 h)

pub ranges-closed : (t : List ℕ) → get_or t ranges_at 0 ≡ 0 → ranges_in t ≡ inclusive
ranges-closed t h = ap (λ b. ranges_of (not b)) (eq-eqb (get_or t ranges_at 0) 0 h)

ranges-length : (r : RangeReading) → length (ranges_bytes r) ≡ ranges_size r
unfolding ranges_bytes section_bytes bytes_of concat
ranges-length inclusive = refl
ranges-length half_open = refl

pub ranges-puts : (at : ℕ) (b : Bytes) → set (sets b at (bytes_of count_size 1)) (at + count_size) half_open_byte ≡ sets b at (ranges_bytes half_open)
unfolding ranges_bytes concat bytes_of
ranges-puts at b = section-puts (bytes_of 1) (half_open_byte ∷ []) 1 at b refl

-- ---- the whole

module _ (cs : List Component) (ps : List Phase) (rs : List Rule) (t : List ℕ) (n : ℕ) (rows : List ℕ) where
  first : Bytes
  first = section_bytes component_bytes (components_by cs t n)

  second : Bytes
  second = section_bytes phase_bytes ps

  third : Bytes
  third = section_bytes rule_bytes (map (rule_by t) rs)

  fourth : Bytes
  fourth = section_bytes coupling_bytes (map coupling_of rows)

  fifth : Bytes
  fifth = ranges_bytes (ranges_in t)

  whole : model_bytes (flat_by cs ps rs t n rows) ≡ first ++ (second ++ (third ++ (fourth ++ fifth)))
  whole =
      parts ∙ append_assoc (first ++ second ++ third) fourth fifth ∙ append_assoc (first ++ second) third (fourth ++ fifth)
      ∙ append_assoc first second (third ++ (fourth ++ fifth))
    where
      parts : model_bytes (flat_by cs ps rs t n rows) ≡ first ++ second ++ third ++ fourth ++ fifth
      parts = unfold model_bytes flat_by first second third fourth fifth in refl

  first-length : length first ≡ 7 + 5 * n
  unfolding first components_by
  first-length = section-length 5 component_bytes component-size (no_component ∷ atomics_by cs t n) ∙ omega (arith, length-atomics cs t n)

  second-length : length second ≡ 2 + 18 * length ps
  unfolding second
  second-length = section-length 18 phase_bytes phase-size ps ∙ omega arith

  third-length : length third ≡ 2 + 18 * length rs
  unfolding third
  third-length = section-length 18 rule_bytes rule-size (map (rule_by t) rs) ∙ omega (arith, length-map rs (rule_by t))

  fourth-length : length fourth ≡ 2 + 4 * length rows
  unfolding fourth
  fourth-length = section-length 4 coupling_bytes coupling-size (map coupling_of rows) ∙ omega (arith, length-map rows coupling_of)

  fifth-length : length fifth ≡ ranges_size (ranges_in t)
  unfolding fifth
  fifth-length = ranges-length (ranges_in t)

  pub flat-length : length (model_bytes (flat_by cs ps rs t n rows)) ≡ 13 + 5 * n + 18 * length ps + 18 * length rs + 4 * length rows + ranges_size (ranges_in t)
  flat-length =
      ap length whole
      ∙ omega (
        arith,
        length-append first (second ++ (third ++ (fourth ++ fifth))),
        length-append second (third ++ (fourth ++ fifth)),
        length-append third (fourth ++ fifth),
        length-append fourth fifth,
        first-length,
        second-length,
        third-length,
        fourth-length,
        fifth-length,
      )

  pub flat-puts : (b : Bytes) (count : ℕ) → count ≡ length rows → 13 + 5 * n + 18 * length ps + 18 * length rs + 4 * length rows + ranges_size (ranges_in t) ≤ length b
      → sets (sets (sets (sets (sets b 0 (section_bytes component_bytes (components_by cs t n))) (7 + 5 * n) (section_bytes phase_bytes ps)) (7 + 5 * n + 2 + 18 * length ps) (section_bytes rule_bytes (map (rule_by t) rs)))
      (7 + 5 * n + 2 + 18 * length ps + 2 + 18 * length rs) (section_bytes coupling_bytes (map coupling_of rows)))
      (7 + 5 * n + 2 + 18 * length ps + 2 + 18 * length rs + 2 + 4 * count) (ranges_bytes (ranges_in t))
      ≡ stored (model_bytes (flat_by cs ps rs t n rows)) b
  flat-puts b count e l =
      sym (sym (sets-front b (model_bytes (flat_by cs ps rs t n rows)) (omega (arith, flat-length)))
      ∙ ap (sets b 0) whole
      ∙ sets-append first (second ++ (third ++ (fourth ++ fifth))) b 0
      ∙ ap (λ k. sets (sets b 0 first) k (second ++ (third ++ (fourth ++ fifth)))) (omega (arith, first-length))
      ∙ sets-append second (third ++ (fourth ++ fifth)) (sets b 0 first) (7 + 5 * n)
      ∙ ap (λ k. sets (sets (sets b 0 first) (7 + 5 * n) second) k (third ++ (fourth ++ fifth))) (omega (arith, second-length))
      ∙ sets-append third (fourth ++ fifth) (sets (sets b 0 first) (7 + 5 * n) second) (7 + 5 * n + 2 + 18 * length ps)
      ∙ ap (λ k. sets three k (fourth ++ fifth)) (omega (arith, third-length))
      ∙ sets-append fourth fifth three (7 + 5 * n + 2 + 18 * length ps + 2 + 18 * length rs)
      ∙ ap (λ k. sets (sets three (7 + 5 * n + 2 + 18 * length ps + 2 + 18 * length rs) fourth) k fifth) (omega (arith, fourth-length, e))
      ∙ named)
    where
      three : Bytes
      three = sets (sets (sets b 0 first) (7 + 5 * n) second) (7 + 5 * n + 2 + 18 * length ps) third

      named : sets (sets three (7 + 5 * n + 2 + 18 * length ps + 2 + 18 * length rs) fourth) (7 + 5 * n + 2 + 18 * length ps + 2 + 18 * length rs + 2 + 4 * count) fifth
          ≡ sets (sets (sets (sets (sets b 0 (section_bytes component_bytes (components_by cs t n))) (7 + 5 * n) (section_bytes phase_bytes ps)) (7 + 5 * n + 2 + 18 * length ps) (section_bytes rule_bytes (map (rule_by t) rs)))
          (7 + 5 * n + 2 + 18 * length ps + 2 + 18 * length rs) (section_bytes coupling_bytes (map coupling_of rows)))
          (7 + 5 * n + 2 + 18 * length ps + 2 + 18 * length rs + 2 + 4 * count) (ranges_bytes (ranges_in t))
      named = unfold first second third fourth fifth in refl
