-- Request (vi): a fifth section changes how the high end of a range is read and nothing else, which reading a model has is told by what
-- stands behind its four sections, and flattening keeps it. Assumes nothing.
use mathlib.Core.Path.{◌≡◌, refl, sym, ap, ◌∙◌}
use mathlib.Core.Logic.{◌⊎◌, inl, inr, ⊎_elim}
use Prim.Native.Nat.{ℕ, ◌<◌}
use mathlib.Core.List.{[], ◌∷◌, ◌++◌, append-nil}
use mathlib.Core.Bool.{Bool, true, false, ◌&&◌}
use native.Mathlib.Omega.{arith}
use borrow.Author.Tests.{eq-eqb, le-leb}
use Rattle.definition.specs.Lists.{concat, count}
use Rattle.definition.specs.Bytes.{Bytes, AllBytes, ok, bytes_of}
use Rattle.definition.specs.Model.{Bag, Rule, RangeReading, inclusive, half_open, Model, read_as}
use Rattle.definition.specs.File.{section_bytes, ranges_bytes, model_bytes}
use Rattle.definition.specs.Pinned.Decoder.{accepted}
use Rattle.definition.specs.Atomic.{meets, within_elapsed, holds}
use Rattle.definition.specs.Flatten.{flat, flatten}
use Rattle.definition.specs.Demands.{flat_form}
use Rattle.definition.specs.HalfOpenRanges.{HoldsElse, MeetAt, HalfOpenRanges}
use Rattle.law_base.proofs.Results.{ok_same}
use Rattle.law_model.proofs.Reading.{accepted_sound}
use Rattle.law_refusals.proofs.Tests.{fails, reworded, same_test}
use Rattle.law_refusals.proofs.Judged.{accepted_sound as sound-of}
use Rattle.law_refusals.proofs.Deciding.{elapsed-test}
use Rattle.law_flat.proofs.FlatTwice.{flat-accepted}
use Rattle.theory.proofs.Demand3.{flat-form}

-- ---- the elapsed time alone

module _ (e : ℕ) (k l : Rule) (h : MeetAt e k l) where
  both-within : (within_elapsed inclusive k e ≡ true) × (within_elapsed inclusive l e ≡ true)
  both-within = (
    (elapsed-test inclusive k e).passes (record { from = h.before; to = inl (omega (arith, h.ends)) }),
    (elapsed-test inclusive l e).passes (record { from = omega (arith, h.begins); to = inl h.after }),
  )

  later-within : l.low_elapsed < l.high_elapsed → (within_elapsed half_open k e ≡ false) × (within_elapsed half_open l e ≡ true)
  later-within below = (
    fails (elapsed-test half_open k e) (λ w. ⊎_elim (λ a. omega (arith, a, h.ends)) (λ a. omega (arith, a, h.ends, h.with_end)) w.to),
    (elapsed-test half_open l e).passes (record { from = omega (arith, h.begins); to = inl (omega (arith, h.begins, below)) }),
  )

same-within : (e : ℕ) (k : Rule) → (e ≡ k.high_elapsed → ⊥) → within_elapsed half_open k e ≡ within_elapsed inclusive k e
same-within e k h =
    same_test
    (reworded (elapsed-test half_open k e)
    (λ w. record { from = w.from; to = ⊎_elim (λ a. inl (omega (arith, a))) (λ a. inr a) w.to })
    (λ w. record { from = w.from; to = ⊎_elim (λ a. inl (omega (arith, a, h))) (λ a. inr a) w.to }))
    (elapsed-test inclusive k e)

-- ---- the rule: where its other conditions hold, the elapsed time decides

module _ (c p e : ℕ) (x : Bag) where
  by-elapsed : (r : RangeReading) (k : Rule) → HoldsElse c p x k → holds r c p e x k ≡ within_elapsed r k e
  unfolding holds
  by-elapsed r k h =
      rw (eq-eqb k.component c h.component, eq-eqb k.phase p h.phase, le-leb k.least (count (meets k) x) h.messages) (and-true-right (within_elapsed r k e))
    where
      and-true-right : (b : Bool) → b && true ≡ b
      and-true-right true = refl
      and-true-right false = refl

  both : (k l : Rule) → HoldsElse c p x k → HoldsElse c p x l → MeetAt e k l → (holds inclusive c p e x k ≡ true) × (holds inclusive c p e x l ≡ true)
  both k l f g h = let w = both-within e k l h in (by-elapsed inclusive k f ∙ w.0, by-elapsed inclusive l g ∙ w.1)

  later : (k l : Rule) → HoldsElse c p x k → HoldsElse c p x l → MeetAt e k l → l.low_elapsed < l.high_elapsed
      → (holds half_open c p e x k ≡ false) × (holds half_open c p e x l ≡ true)
  later k l f g h below = let w = later-within e k l h below in (by-elapsed half_open k f ∙ w.0, by-elapsed half_open l g ∙ w.1)

  elsewhere : (k : Rule) → (e ≡ k.high_elapsed → ⊥) → holds half_open c p e x k ≡ holds inclusive c p e x k
  unfolding holds
  elsewhere k h = rw (same-within e k h)

-- ---- the file

no_bytes : ranges_bytes inclusive ≡ []
unfolding ranges_bytes
no_bytes = refl

three-bytes : ranges_bytes half_open ≡ 1 ∷ 0 ∷ 2 ∷ []
unfolding ranges_bytes section_bytes bytes_of concat
three-bytes = refl

read-so : (m : Model) (r : RangeReading) → m.ranges ≡ r
    → ((m.ranges ≡ inclusive) × (model_bytes m ≡ model_bytes (read_as m inclusive))) ⊎ ((m.ranges ≡ half_open) × (model_bytes m ≡ model_bytes (read_as m inclusive) ++ (1 ∷ 0 ∷ 2 ∷ [])))
unfolding model_bytes
read-so m inclusive e = inl (e, rw e)
read-so m half_open e = inr (e, rw (e, no_bytes, three-bytes, append-nil))

copied : (file buffer : Bytes) (m n : Model) → AllBytes file → accepted file ≡ ok m → (flatten file buffer).number ≡ 0
    → accepted (flat_form file buffer) ≡ ok n → n.ranges ≡ m.ranges
unfolding flat
copied file buffer m n b e h f =
    let flattened : accepted (model_bytes (flat m)) ≡ ok n = ap accepted (sym (flat-form file buffer m e h)) ∙ f in
    ap (λ (z : Model). z.ranges) (ok_same n (flat m) (sym flattened ∙ flat-accepted m (accepted_sound file m b e)))

pub half-open-ranges : HalfOpenRanges
half-open-ranges = record {
  both = both;
  later = later;
  elsewhere = elsewhere;
  no_end = λ r c p e x k f end from. by-elapsed c p e x r k f ∙ (elapsed-test r k e).passes (record { from = from; to = inr end });
  sections = λ file m b e. rw (sound-of file m b e).1 (read-so m m.ranges refl);
  copied = copied;
}
