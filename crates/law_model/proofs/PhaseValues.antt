-- An atomic's phases put out values of 16 bits: a phase that was read is one that its bytes spell. Assumes nothing.
use mathlib.Core.Path.{◌≡◌, refl, ap}
use Prim.Native.Nat.{ℕ, ◌+◌}
use mathlib.Core.List.{List, [], ◌∷◌, map}
use mathlib.Core.Bool.{Bool, true}
use native.Mathlib.Omega.{arith}
use lib.Dec.{ltb}
use lib.ListN.{get_or, drop}
use borrow.Author.Tests.{lt-ltb}
use Rattle.definition.specs.Lists.{all, concat}
use Rattle.definition.specs.Bytes.{little_endian, number_at, bytes_of, laid_out}
use Rattle.definition.specs.Model.{Message, Phase, Model, no_message, no_phase, phases_before, phase_at, slots, outputs}
use Rattle.definition.specs.Records.{message_at, phase_bytes}
use Rattle.definition.specs.Pinned.Decoder.{to_phase}
use Rattle.law_base.specs.Keys.{value_range}
use Rattle.law_base.proofs.Tests.{and-true}
use Rattle.law_base.proofs.Lists.{all_take, all_get_d}
use Rattle.law_model.proofs.WellFormed.{WellFormed}

-- a value that a key has room for, and a message with one
unfoldable pub is_value : ℕ → Bool
is_value v = ltb v value_range

unfoldable pub has_value : Message → Bool
has_value y = is_value y.value

-- a phase that its bytes spell
phase-values : (k : Phase) → to_phase (phase_bytes k) ≡ k → all has_value (slots k) ≡ true
unfolding to_phase phase_bytes message_at number_at laid_out bytes_of little_endian concat slots all has_value is_value
phase-values k h =
    let a = ap (λ (p : Phase). p.slot0.value) h in
    let b = ap (λ (p : Phase). p.slot1.value) h in
    let c = ap (λ (p : Phase). p.slot2.value) h in
    let d = ap (λ (p : Phase). p.slot3.value) h in
    rw (
      lt-ltb k.slot0.value value_range (omega arith),
      lt-ltb k.slot1.value value_range (omega arith),
      lt-ltb k.slot2.value value_range (omega arith),
      lt-ltb k.slot3.value value_range (omega arith),
    )

-- all that a function leaves as they are
kept-all : {A : Type 0} (p : A → Bool) (f : A → A) → ((a : A) → f a ≡ a → p a ≡ true) → (l : List A) → map f l ≡ l → all p l ≡ true
unfolding all
kept-all p f h [] e = refl
kept-all p f h (a ∷ l) e = and-true (p a) (all p l) (h a (ap (λ l. get_or l 0 a) e)) (kept-all p f h l (ap (drop 1) e))

pub outputs-values : (m : Model) → WellFormed m → (c p : ℕ) → all has_value (outputs (phase_at m c p)) ≡ true
unfolding phase_at outputs no_phase
outputs-values m w c p =
    let i = phases_before m.components c + p in
    let h = kept-all (λ (k : Phase). all has_value (slots k)) (λ k. to_phase (phase_bytes k)) phase-values m.phases w.phases.held in
    all_take has_value (get_or m.phases i no_phase).output_count _
    (all_get_d (λ (k : Phase). all has_value (slots k)) m.phases i no_phase h (unfold all slots no_message has_value is_value in refl))
