-- The table of refusals and the decoder agree on every file of bytes, and the accepted files are the bytes of the sound models.
-- Assumes nothing.
use mathlib.Core.Path.{◌≡◌, refl, sym, ap, ◌∙◌, subst}
use mathlib.Core.Logic.{◌⊎◌, inl, inr}
use Prim.Native.Nat.{ℕ, ◌≤◌, ◌<◌}
use mathlib.Core.List.{[], ◌∷◌, ◌++◌, append_assoc, append-nil}
use mathlib.Core.Bool.{Bool, true, false}
use native.Mathlib.Omega.{arith}
use lib.Dec.{ltb}
use lib.ListN.{length}
use borrow.Author.Tests.{ltb-true, ltb-false, lt-ltb, le-ltb}
use Rattle.definition.specs.Lists.{all}
use Rattle.definition.specs.Bytes.{Bytes, AllBytes, Result, ok, refused, ◌>>=◌, refuse_if, number_of}
use Rattle.definition.specs.Limits.{max_routes}
use Rattle.definition.specs.Model.{RangeReading, inclusive, half_open, Model, read_as}
use Rattle.definition.specs.Records.{component_bytes, phase_bytes, rule_bytes, coupling_bytes}
use Rattle.definition.specs.File.{section_bytes, ranges_bytes, model_bytes}
use Rattle.definition.specs.Routes.{routes}
use Rattle.definition.specs.Pinned.Decoder.{component_section, phase_section, rule_section, coupling_section, elapsed_fits, end_of_file, further_sections, decode, accepted, check_model}
use Rattle.definition.specs.Sound.{Form, component_form, phase_form, rule_form, coupling_form, Sound}
use Rattle.definition.specs.Refusals.{Stops, count_cut, count_wrong, not_the_sum, records_cut, line_broken, FourPass, Fifth, FivePass, Judged, in_components, in_phases, in_rules, in_couplings, no_such_section, equal_ends, left_over, many_routes, no_row}
use Rattle.law_base.proofs.Results.{ok_same}
use Rattle.law_refusals.proofs.Sections.{Found, stopped, passed, passes-read, stops-read, found}
use Rattle.law_refusals.proofs.Components.{component-reads}
use Rattle.law_refusals.proofs.Phases.{phase-reads}
use Rattle.law_refusals.proofs.Rules.{rule-reads}
use Rattle.law_refusals.proofs.Couplings.{coupling-reads}
use Rattle.law_refusals.proofs.Further.{Followed, by_none, by_fifth, followed, fifth-bytes, bytes-fifth, ends-test, equal-fail, fail-equal, further-none, further-told}

-- ---- the four sections, whatever follows them

-- they do not tell how ranges are read
four-read : {file s : Bytes} (m : Model) (r : RangeReading) → FourPass file m s → FourPass file (read_as m r) s
four-read m r p = record {
  after_components_lem = p.after_components_lem;
  after_phases_lem = p.after_phases_lem;
  after_rules_lem = p.after_rules_lem;
  components = p.components;
  phases = p.phases;
  rules = p.rules;
  couplings = p.couplings;
}

-- ---- the decoder's answer where the table has judged

-- What the decoder answers to a file that has the number n.
data Answered (file : Bytes) (n : ℕ) : Type 0 where
  refuses : accepted file ≡ refused n → Answered file n
  accepts : (m : Model) → FivePass file m [] → length (routes m) ≤ max_routes → accepted file ≡ ok m → n ≡ 0 → Answered file n

never_both : {A : Type 0} (r : Result A) (n : ℕ) (a : A) → r ≡ refused n → r ≡ ok a → ⊥
never_both r n a e f = let z : ◌≡◌ {A = ℕ} 0 1 = cc in omega arith

-- a check and what follows it, as one check
then-then : {A B C : Type 0} (r : Result A) (f : A → Result B) (g : B → Result C) → ((r >>= f) >>= g) ≡ (r >>= λ a. f a >>= g)
then-then (ok a) f g = refl
then-then (refused n) f g = refl

module _ (file : Bytes) where
  four-decode : (m : Model) (s : Bytes) → FourPass file m s → decode file ≡ (further_sections m.rules s >>= λ r. ok (read_as m r))
  unfolding decode component_section phase_section rule_section coupling_section
  four-decode m s p =
      let cs = m.components in
      rw (
        passes-read component-reads file cs p.after_components_lem p.components,
        passes-read (phase-reads cs) p.after_components_lem m.phases p.after_phases_lem p.phases,
        passes-read (rule-reads cs) p.after_phases_lem m.rules p.after_rules_lem p.rules,
        passes-read (coupling-reads cs p.components.lines) p.after_rules_lem m.couplings s p.couplings,
      )

  five-decode : (m : Model) (rest : Bytes) → FivePass file m rest → decode file ≡ (end_of_file rest >>= λ _. ok m)
  five-decode m rest p =
      rw (
        four-decode m p.after_couplings p.four,
        further-told m.rules p.after_couplings m.ranges rest p.fifth,
        (ends-test m.ranges m.rules).passes p.elapsed,
      )
      (then-then (end_of_file rest) _ _)

  section-refused : (m : Model) (s : Bytes) → FourPass file m s → ((r : RangeReading) (rest : Bytes) → Fifth s r rest → ⊥) → accepted file ≡ refused 20
  unfolding accepted
  section-refused m s p h = rw (four-decode m s p, further-none m.rules s h)

  ends-refused : (m : Model) (s rest : Bytes) → FourPass file m s → Fifth s half_open rest → all (elapsed_fits half_open) m.rules ≡ false → accepted file ≡ refused 7
  unfolding accepted
  ends-refused m s rest p f e = rw (four-decode m s p, further-told m.rules s half_open rest f, e)

  left-over-refused : (m : Model) (rest : Bytes) → FivePass file m rest → 0 < length rest → accepted file ≡ refused 2
  unfolding accepted end_of_file
  left-over-refused m rest p l = rw (five-decode m rest p, lt-ltb 0 (length rest) l)

  routes-remain : (m : Model) → FivePass file m [] → accepted file ≡ (refuse_if (ltb max_routes (length (routes m))) 9 >>= λ _. ok m)
  unfolding accepted end_of_file
  routes-remain m p = rw (five-decode m [] p)

  answered : (n : ℕ) → Judged file n → Answered file n
  unfolding accepted decode component_section phase_section rule_section coupling_section
  answered n (in_components v t) = refuses (rw (stops-read component-reads file n t))
  answered n (in_phases cs s v p t) = refuses (rw (passes-read component-reads file cs s p, stops-read (phase-reads cs) s n t))
  answered n (in_rules cs ps s r v p q t) =
      refuses (rw (passes-read component-reads file cs s p, passes-read (phase-reads cs) s ps r q, stops-read (rule-reads cs) r n t))
  answered n (in_couplings cs ps rs s r u v p q k t) =
      refuses (rw (
        passes-read component-reads file cs s p,
        passes-read (phase-reads cs) s ps r q,
        passes-read (rule-reads cs) r rs u k,
        stops-read (coupling-reads cs p.lines) u n t,
      ))
  answered n (no_such_section m s p h) = refuses (section-refused m s p h)
  answered n (equal_ends m s rest p f i l e) = refuses (ends-refused m s rest p f (equal-fail m.rules i l e))
  answered n (left_over m rest p l) = refuses (left-over-refused m rest p l)
  answered n (many_routes m p l) = refuses (routes-remain m p ∙ rw (lt-ltb max_routes (length (routes m)) l))
  answered n (no_row m p l) = accepts m p l (routes-remain m p ∙ rw (le-ltb max_routes (length (routes m)) l)) refl

-- ---- the table judges every file of bytes

-- the end of the file, and the routes
judged-end : (file : Bytes) (m : Model) (rest : Bytes) → FivePass file m rest → (n : ℕ) × Judged file n
judged-end file m (b ∷ rest) p = (2, left_over m (b ∷ rest) p (omega arith))
judged-end file m [] p = go (ltb max_routes (length (routes m))) refl
  where
    go : (t : Bool) → ltb max_routes (length (routes m)) ≡ t → (n : ℕ) × Judged file n
    go true e = (9, many_routes m p (ltb-true max_routes (length (routes m)) e))
    go false e = (0, no_row m p (ltb-false max_routes (length (routes m)) e))

-- what follows the couplings, and the ranges as it has them read; m's own reading is not looked at
judged-further : (file : Bytes) (m : Model) (s : Bytes) → FourPass file m s → (n : ℕ) × Judged file n
judged-further file m s p = section (followed s)
  where
    ends : (r : RangeReading) (rest : Bytes) → Fifth s r rest → (t : Bool) → all (elapsed_fits r) m.rules ≡ t → (n : ℕ) × Judged file n
    ends r rest f true e =
        judged-end file (read_as m r) rest (record { after_couplings = s; four = four-read m r p; fifth = f; elapsed = (ends-test r m.rules).holds e })
    ends r rest f false e =
        let q = fail-equal r m.rules (λ i l. (p.rules.lines.keeps i l).elapsed) e in
        (7, equal_ends m s rest p (subst (λ r. Fifth s r rest) q.half_open_lem f) q.place q.there q.equal)

    section : Followed s → (n : ℕ) × Judged file n
    section (by_none h e) = (20, no_such_section m s p h)
    section (by_fifth r rest f) = ends r rest f (all (elapsed_fits r) m.rules) refl

some-row : (file : Bytes) → AllBytes file → (n : ℕ) × Judged file n
some-row file h = components (found component-reads file h)
  where
    components : Found component_form file → (n : ℕ) × Judged file n
    components (stopped n t) = (n, in_components n t)
    components (passed cs s p hs) = phases (found (phase-reads cs) s hs)
      where
        phases : Found (phase_form cs) s → (n : ℕ) × Judged file n
        phases (stopped n t) = (n, in_phases cs s n p t)
        phases (passed ps r q hr) = rules (found (rule-reads cs) r hr)
          where
            rules : Found (rule_form cs) r → (n : ℕ) × Judged file n
            rules (stopped n t) = (n, in_rules cs ps s r n p q t)
            rules (passed rs u k hu) = couplings (found (coupling-reads cs p.lines) u hu)
              where
                couplings : Found (coupling_form cs) u → (n : ℕ) × Judged file n
                couplings (stopped n t) = (n, in_couplings cs ps rs s r u n p q k t)
                couplings (passed ks rest l hr) =
                    judged-further file (record { components = cs; phases = ps; rules = rs; couplings = ks; ranges = inclusive }) rest
                    (record { after_components_lem = s; after_phases_lem = r; after_rules_lem = u; components = p; phases = q; rules = k; couplings = l })

-- ---- each number is given on its condition and never otherwise

pub judged-only : (file : Bytes) (n : ℕ) → Judged file n → check_model file ≡ n
unfolding check_model
judged-only file n j = go (answered file n j)
  where
    go : Answered file n → number_of (accepted file) ≡ n
    go (refuses e) = ap number_of e
    go (accepts m p l e z) = ap number_of e ∙ sym z

pub judged : (file : Bytes) → AllBytes file → Judged file (check_model file)
judged file h =
    let j = some-row file h in
    subst (Judged file) (sym (judged-only file j.0 j.1)) j.1

-- ---- the accepted files are the bytes of the sound models

sections-pass : (m : Model) → Sound m → FivePass (model_bytes m) m []
unfolding model_bytes component_bytes phase_bytes rule_bytes coupling_bytes
sections-pass m w =
    let e = ranges_bytes m.ranges in
    let d = section_bytes coupling_bytes m.couplings ++ e in
    let c = section_bytes rule_bytes m.rules ++ d in
    let b = section_bytes phase_bytes m.phases ++ c in
    record {
      after_couplings = e;
      four = record {
        after_components_lem = b;
        after_phases_lem = c;
        after_rules_lem = d;
        components = record { spells = record { bytes = simp append_assoc; held = w.components.held }; lines = w.components };
        phases = record { spells = record { bytes = refl; held = w.phases.held }; lines = w.phases };
        rules = record { spells = record { bytes = refl; held = w.rules.held }; lines = w.rules };
        couplings = record { spells = record { bytes = refl; held = w.couplings.held }; lines = w.couplings };
      };
      fifth = bytes-fifth m.ranges;
      elapsed = w.ranges;
    }

passed-sections : (file : Bytes) (m : Model) → FivePass file m [] → file ≡ model_bytes m
unfolding model_bytes component_bytes phase_bytes rule_bytes coupling_bytes
passed-sections file m p =
    let q = p.four in
    rw (q.components.spells.bytes, q.phases.spells.bytes, q.rules.spells.bytes, q.couplings.spells.bytes, fifth-bytes p.after_couplings m.ranges [] p.fifth)
    (simp (append_assoc, append-nil))

pub sound_accepted : (m : Model) → Sound m → accepted (model_bytes m) ≡ ok m
sound_accepted m w = routes-remain (model_bytes m) m (sections-pass m w) ∙ rw (le-ltb max_routes (length (routes m)) w.routes_few)

passed-sound : (file : Bytes) (m : Model) → FivePass file m [] → length (routes m) ≤ max_routes → Sound m
passed-sound file m p l =
    let q = p.four in
    record { components = q.components.lines; phases = q.phases.lines; rules = q.rules.lines; couplings = q.couplings.lines; ranges = p.elapsed; routes_few = l }

pub accepted_sound : (file : Bytes) (m : Model) → AllBytes file → accepted file ≡ ok m → Sound m × (file ≡ model_bytes m)
accepted_sound file m h e = let j = some-row file h in go j.0 (answered file j.0 j.1)
  where
    go : (n : ℕ) → Answered file n → Sound m × (file ≡ model_bytes m)
    go n (refuses f) = absurd (never_both (accepted file) n m f e)
    go n (accepts k p l f z) =
        let same : k ≡ m = ok_same k m (sym f ∙ e) in
        subst (λ m. Sound m × (file ≡ model_bytes m)) same (passed-sound file k p l, passed-sections file k p)

-- ---- the numbers of a model file

stops-number : {A : Type 0} (f : Form A) (s : Bytes) (n : ℕ) → f.number ≤ 9 → Stops f s n → n ≤ 9
stops-number f s n h (count_cut l) = omega arith
stops-number f s n h (count_wrong l a) = omega arith
stops-number f s n h (not_the_sum l a b) = omega arith
stops-number f s n h (records_cut l a b c) = omega arith
stops-number f s n h (line_broken xs rest p a b i l k) = h

pub judged-number : (file : Bytes) (n : ℕ) → Judged file n → (n ≤ 9) ⊎ (n ≡ 20)
judged-number file n (in_components v t) = inl (stops-number component_form file n (omega arith) t)
judged-number file n (in_phases cs s v p t) = inl (stops-number (phase_form cs) s n (omega arith) t)
judged-number file n (in_rules cs ps s r v p q t) = inl (stops-number (rule_form cs) r n (omega arith) t)
judged-number file n (in_couplings cs ps rs s r u v p q k t) = inl (stops-number (coupling_form cs) u n (omega arith) t)
judged-number file n (no_such_section m s p h) = inr refl
judged-number file n (equal_ends m s rest p f i l e) = inl (omega arith)
judged-number file n (left_over m rest p l) = inl (omega arith)
judged-number file n (many_routes m p l) = inl (omega arith)
judged-number file n (no_row m p l) = inl (omega arith)
