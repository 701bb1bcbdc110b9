-- A file longer than the longest model is refused by what stands in its front: each section's count and records lie within it, a fifth
-- section or what stands for it as well, and a byte is left over. So the front alone gives the same answer. Assumes nothing.
use mathlib.Core.Path.{◌≡◌, refl, sym, ap, ◌∙◌}
use Prim.Native.Nat.{ℕ, zero, suc, ◌+◌, ◌*◌, ◌-◌, ◌≤◌, ◌<◌}
use mathlib.Core.List.{List, [], ◌∷◌, map}
use mathlib.Core.Bool.{Bool, true, false, not}
use native.Mathlib.Omega.{arith}
use native.Mathlib.Nat.{sub-zero, zero-sub, mul-le-mul_right}
use lib.Dec.{ltb}
use lib.ListN.{length, take, drop, length-drop}
use lib.Seq.{take_all, take-nil, take-take, length-take-le}
use borrow.Author.Tests.{ltb-true, ltb-false, lt-ltb, le-ltb, le-leb}
use Rattle.definition.specs.Lists.{all, up_from}
use Rattle.definition.specs.Bytes.{Bytes, Result, ok, refused, ◌>>=◌, refuse_if, number_at, chunks}
use Rattle.definition.specs.Limits.{count_size, max_components, max_phases, max_rules, max_couplings, max_routes, component_size, phase_size, rule_size, coupling_size, fifth_size, longest_model}
use Rattle.definition.specs.Model.{Rule, half_open}
use Rattle.definition.specs.File.{phase_total}
use Rattle.definition.specs.Routes.{routes}
use Rattle.definition.specs.Pinned.Decoder.{to_component, component_fits, to_phase, phase_fits, to_rule, rule_fits, to_coupling, coupling_fits, Section, section_count, section, component_count_refusal, phase_count_refusal, limit_refusal, component_section, phase_section, rule_section, coupling_section, is_fifth, elapsed_fits, end_of_file, further_sections, decode, accepted}
use Rattle.law_model.proofs.Reading.{most-within, components-within, phases-right}
use Rattle.law_model.proofs.Further.{in_order_lem}

-- ---- parts of a front

pub drop-front : {A : Type 0} (n k : ℕ) (l : List A) → drop n (take k l) ≡ take (k - n) (drop n l)
drop-front zero k l = rw sub-zero
drop-front (suc n) zero l = rw zero-sub
drop-front (suc n) (suc k) [] = sym (take-nil (suc k - suc n))
drop-front (suc n) (suc k) (x ∷ l) =
    let e : suc k - suc n ≡ k - n = omega arith in drop-front n k l ∙ ap (λ i. take i (drop n l)) (sym e)

pub number-front : (w k : ℕ) (s : Bytes) → w ≤ k → number_at w 0 (take k s) ≡ number_at w 0 s
unfolding number_at
number-front w k s h = rw (take-take w k s h)

chunks-front : (n size k : ℕ) (s : Bytes) → n * size ≤ k → chunks n size (take k s) ≡ chunks n size s
unfolding chunks
chunks-front zero size k s h = refl
chunks-front (suc n) size k s h = rw (take-take size k s (omega arith), drop-front size k s, chunks-front n size (k - size) (drop size s) (omega arith))

-- ---- a section in a front

module _ {A : Type 0} (size : ℕ) (wrong : ℕ → ℕ) (to : Bytes → A) (fits : List A → ℕ → Bool) (bad : ℕ) where
  count_wrong : (s : Bytes) (n : ℕ) → count_size ≤ length s → number_at count_size 0 s ≡ n → ltb 0 (wrong n) ≡ true
      → section_count size wrong s ≡ refused (wrong n)
  unfolding section_count
  count_wrong s n l c e = rw (le-ltb (length s) count_size l, c, e)

  count-right : (s : Bytes) (n : ℕ) → count_size + n * size ≤ length s → number_at count_size 0 s ≡ n → ltb 0 (wrong n) ≡ false
      → section_count size wrong s ≡ ok n
  unfolding section_count
  count-right s n l c e = rw (le-ltb (length s) count_size (omega arith), c, e, le-ltb (length s) (count_size + n * size) l)

  abbrev given : List A → Bytes → Section A
  given xs rest = record { records = xs; rest = rest }

  -- Its records, where the count is told.
  section-counted : (s : Bytes) (n : ℕ) (xs : List A) → section_count size wrong s ≡ ok n → map to (chunks n size (drop count_size s)) ≡ xs
      → section size wrong to fits bad s ≡ (refuse_if (not (all (fits xs) (up_from 0 n))) bad >>= λ _. ok (given xs (drop (count_size + n * size) s)))
  unfolding section
  section-counted s n xs e f = rw (e, f)

  section-refused : (s : Bytes) (j : ℕ) → section_count size wrong s ≡ refused j → section size wrong to fits bad s ≡ refused j
  unfolding section
  section-refused s j e = rw e

  tested-same : {B : Type 0} (t : Bool) (a b : Section A) (f : Section A → Result B) → f a ≡ f b
      → ((refuse_if t bad >>= λ _. ok a) >>= f) ≡ ((refuse_if t bad >>= λ _. ok b) >>= f)
  tested-same true a b f e = refl
  tested-same false a b f e = e

  -- What follows a section is the same for front and whole, where it is so for any rest of which j bytes or more are there.
  section-front : {B : Type 0} (limit : ℕ) → ((n : ℕ) → wrong n ≡ 0 → n ≤ limit) → (j k : ℕ) (s : Bytes) → count_size + limit * size + j ≤ k → k ≤ length s
      → (f : Section A → Result B) → ((xs : List A) (rest : Bytes) (i : ℕ) → j ≤ i → i ≤ length rest → f (given xs (take i rest)) ≡ f (given xs rest))
      → (section size wrong to fits bad (take k s) >>= f) ≡ (section size wrong to fits bad s >>= f)
  section-front limit within j k s h l f same = go (ltb 0 (wrong n)) refl
    where
      n : ℕ
      n = number_at count_size 0 s

      long : length (take k s) ≡ k
      long = length-take-le k s l

      counted : number_at count_size 0 (take k s) ≡ n
      counted = number-front count_size k s (omega arith)

      go : (b : Bool) → ltb 0 (wrong n) ≡ b → (section size wrong to fits bad (take k s) >>= f) ≡ (section size wrong to fits bad s >>= f)
      go true e =
          ap (λ r. r >>= f) (section-refused (take k s) _ (count_wrong (take k s) n (omega (arith, long)) counted e)
          ∙ sym (section-refused s _ (count_wrong s n (omega arith) refl e)))
      go false e =
          let few : n ≤ limit = within n (omega (arith, ltb-false 0 (wrong n) e)) in
          let used = count_size + n * size in
          let whole : used + j ≤ k = omega (arith, mul-le-mul_right size few) in
          let xs = map to (chunks n size (drop count_size s)) in
          let rows : chunks n size (drop count_size (take k s)) ≡ chunks n size (drop count_size s)
          = ap (chunks n size) (drop-front count_size k s) ∙ chunks-front n size (k - count_size) (drop count_size s) (omega arith) in
          let rest = drop used s in
          ap (λ r. r >>= f) (section-counted (take k s) n xs (count-right (take k s) n (omega (arith, long)) counted e) (ap (map to) rows))
          ∙ tested-same (not (all (fits xs) (up_from 0 n))) _ _ f
          (ap (λ r. f (given xs r)) (drop-front used k s) ∙ same xs rest (k - used) (omega arith) (omega (arith, length-drop used s)))
          ∙ sym (ap (λ r. r >>= f) (section-counted s n xs (count-right s n (omega arith) refl e) refl))

-- ---- the file

left_over : (s : Bytes) → 1 ≤ length s → end_of_file s ≡ refused 2
unfolding end_of_file
left_over s h = rw (lt-ltb 0 (length s) h)

-- More bytes behind the couplings than a fifth section has: there is none (20), or a range has equal ends (7), or a byte is left over (2).
further-long : (rs : List Rule) (s : Bytes) → fifth_size < length s
    → further_sections rs s ≡ (refuse_if (not (is_fifth s)) 20 >>= λ _. refuse_if (not (all (elapsed_fits half_open) rs)) 7 >>= λ _. refused 2)
further-long rs s h = in_order_lem rs s (λ e. omega arith) ∙ rw (left_over (drop fifth_size s) (omega (arith, length-drop fifth_size s)))

fifth-front : (k : ℕ) (s : Bytes) → fifth_size ≤ k → k ≤ length s → is_fifth (take k s) ≡ is_fifth s
unfolding is_fifth number_at
fifth-front k s h l =
    let byte : number_at 1 count_size (take k s) ≡ number_at 1 count_size s
    = ap (number_at 1 0) (drop-front count_size k s) ∙ number-front 1 (k - count_size) (drop count_size s) (omega arith) in
    rw (length-take-le k s l, le-leb fifth_size k h, le-leb fifth_size (length s) (omega arith), number-front count_size k s (omega arith), byte)

further-front : (rs : List Rule) (k : ℕ) (s : Bytes) → suc fifth_size ≤ k → k ≤ length s → further_sections rs (take k s) ≡ further_sections rs s
further-front rs k s h l =
    rw (further-long rs (take k s) (omega (arith, length-take-le k s l)), further-long rs s (omega arith), fifth-front k s (omega arith) l)

-- What the sections after one may take, and a byte more than all.
abbrev coupling_room : ℕ
coupling_room = count_size + max_couplings * coupling_size + suc fifth_size

abbrev rule_room : ℕ
rule_room = count_size + max_rules * rule_size + coupling_room

abbrev phase_room : ℕ
phase_room = count_size + max_phases * phase_size + rule_room

decode-front : (k : ℕ) (s : Bytes) → suc longest_model ≤ k → k ≤ length s → decode (take k s) ≡ decode s
unfolding decode component_section phase_section rule_section coupling_section
decode-front k s h l =
    section-front component_size component_count_refusal to_component component_fits 4 max_components components-within phase_room k s h l _ (λ cs s₁ k₁ h₁ l₁.
    section-front phase_size (phase_count_refusal (phase_total cs)) to_phase (phase_fits cs) 6 max_phases (λ n e. (phases-right (phase_total cs) n e).0) rule_room k₁ s₁ h₁ l₁ _ (λ ps s₂ k₂ h₂ l₂.
    section-front rule_size (limit_refusal max_rules) to_rule (rule_fits cs) 7 max_rules (most-within max_rules) coupling_room k₂ s₂ h₂ l₂ _ (λ rs s₃ k₃ h₃ l₃.
    section-front coupling_size (limit_refusal max_couplings) to_coupling (coupling_fits cs) 8 max_couplings (most-within max_couplings) (suc fifth_size) k₃ s₃ h₃ l₃ _ (λ ks s₄ k₄ h₄ l₄.
    ap (λ r. r >>= λ r. ok (record { components = cs; phases = ps; rules = rs; couplings = ks; ranges = r })) (further-front rs k₄ s₄ h₄ l₄)))))

-- The front that is one byte longer than the longest model is enough.
pub accepted-front : (file : Bytes) → accepted (take (suc longest_model) file) ≡ accepted file
unfolding accepted
accepted-front file = go (ltb (length file) k) refl
  where
    k : ℕ
    k = suc longest_model

    go : (b : Bool) → ltb (length file) k ≡ b
        → (decode (take k file) >>= λ m. refuse_if (ltb max_routes (length (routes m))) 9 >>= λ _. ok m) ≡ (decode file >>= λ m. refuse_if (ltb max_routes (length (routes m))) 9 >>= λ _. ok m)
    go true e = rw (take_all k file (omega (arith, ltb-true (length file) k e)))
    go false e = rw (decode-front k file (omega arith) (ltb-false (length file) k e))
