-- What decides the external part of an atomic in a step: the position of a rule, 65,535 for none, or nothing where it has no external part. For
-- one atomic, and through a tree by the bags that reach its leaves. Assumes nothing.
use mathlib.Core.Path.{◌≡◌, refl, sym, ap, ap₂, ◌∙◌}
use Prim.Native.Nat.{ℕ, zero, suc, ◌+◌, ◌-◌}
use mathlib.Core.List.{List, [], ◌∷◌, ◌++◌, append-nil}
use mathlib.Core.Option.{Option, none, some}
use mathlib.Core.Bool.{Bool, true, false, cond}
use native.Mathlib.Omega.{arith}
use lib.Dec.{eqb}
use borrow.Author.Tests.{eqb-true}
use Rattle.definition.specs.Lists.{count}
use Rattle.definition.specs.Model.{Bag, Model, Tree, Forest, leaf, node, stop, more, name_of}
use Rattle.definition.specs.Devs.{Decided, translate}
use Rattle.definition.specs.Atomic.{told_as, rule_for}
use Rattle.definition.specs.SavedRun.{Entry}
use Rattle.definition.specs.Step.{decided_of}
use Rattle.definition.specs.FlatMachine.{rule_of_both, rule_after}
use Rattle.law_base.specs.Overlaid.{later_or}
use Rattle.law_base.proofs.Bags.{count-append}
use Rattle.law_base.proofs.Tests.{eqb-sym}
use Rattle.law_nest.proofs.Occurs.{occurs}
use Rattle.law_nest.proofs.Trees.{leaves_t, leaves_f}
use Rattle.law_nest.proofs.Nest.{due, out_to, bag_at, bag_at_all, no-bag, no-bag-all}

-- ---- one atomic

unfoldable pub part : Model → ℕ → ℕ → Bool → Bag → Entry → Option ℕ
part m now c b [] r = none
part m now c true (y ∷ x) r = some (told_as (rule_of_both m c r.phase (y ∷ x)))
part m now c false (y ∷ x) r = some (told_as (rule_for m c r.phase (now - r.last) (y ∷ x)))

-- what the flat machine's copy has for the atomic, which had i before
pub rule-after : (m : Model) (now c : ℕ) (b : Bool) (x : Bag) (r : Entry) (i : ℕ) → rule_after m now c b x r i ≡ later_or i (part m now c b x r)
unfolding rule_after part later_or
rule-after m now c b [] r i = refl
rule-after m now c true (y ∷ x) r i = refl
rule-after m now c false (y ∷ x) r i = refl

-- ---- what comes up

unfoldable pub or_else : Option ℕ → Option ℕ → Option ℕ
or_else none q = q
or_else (some i) q = some i

or-none : (p : Option ℕ) → or_else p none ≡ p
unfolding or_else
or-none none = refl
or-none (some i) = refl

pub came-append : (a : ℕ) (ds es : List Decided) → decided_of (ds ++ es) a ≡ or_else (decided_of ds a) (decided_of es a)
unfolding decided_of or_else
came-append a [] es = refl
came-append a (d ∷ ds) es = go (eqb d.atomic a) (came-append a ds es)
  where
    go : (b : Bool) → decided_of (ds ++ es) a ≡ or_else (decided_of ds a) (decided_of es a)
        → cond b (some d.position) (decided_of (ds ++ es) a) ≡ or_else (cond b (some d.position) (decided_of ds a)) (decided_of es a)
    go true h = refl
    go false h = h

-- ---- through a tree

module _ (m : Model) (at : ℕ → Entry) (now : ℕ) where
  -- what comes up from the atomic a, in a tree that is given the bag x
  unfoldable mutual
    pub part_in : ℕ → Tree → Bag → Option ℕ
    part_in a (leaf c) x = cond (eqb c a) (part m now c (due m at now (leaf c)) x (at c)) none
    part_in a (node c f) x = part_in_all a f (λ d. out_to m at now f d ++ translate m.couplings c d x)

    pub part_in_all : ℕ → Forest → (ℕ → Bag) → Option ℕ
    part_in_all a stop input = none
    part_in_all a (more t f) input = or_else (part_in a t (input (name_of t))) (part_in_all a f input)

  no-leaf-part : (a c : ℕ) (x : Bag) → occurs a (c ∷ []) ≡ 0 → part_in a (leaf c) x ≡ none
  unfolding part_in count
  no-leaf-part a c x h = go (eqb a c) refl
    where
      go : (b : Bool) → eqb a c ≡ b → part_in a (leaf c) x ≡ none
      go true e = absurd (let g = rw e at h in omega arith)
      go false e = rw (eqb-sym c a, e)

  mutual
    unfolding part_in leaves_t count or_else

    no_part : (a : ℕ) (t : Tree) (x : Bag) → occurs a (leaves_t t) ≡ 0 → part_in a t x ≡ none
    no_part a (leaf c) x h = no-leaf-part a c x h
    no_part a (node c f) x h = no-part-all a f _ h

    no-part-all : (a : ℕ) (f : Forest) (input : ℕ → Bag) → occurs a (leaves_f f) ≡ 0 → part_in_all a f input ≡ none
    no-part-all a stop input h = refl
    no-part-all a (more t f) input h =
        let k = count-append (λ c. eqb a c) (leaves_t t) (leaves_f f) in
        rw (no_part a t (input (name_of t)) (omega arith)) (no-part-all a f input (omega arith))

  -- an atomic that is one leaf: by the bag that reaches it in the whole tree
  abbrev own : ℕ → Bag → Option ℕ
  own a x = part m now a (due m at now (leaf a)) x (at a)

  leaf-part : (a c : ℕ) (x : Bag) → occurs a (c ∷ []) ≡ 1 → part_in a (leaf c) x ≡ own a (bag_at m at now a (leaf c) x)
  unfolding part_in bag_at count
  leaf-part a c x h = go (eqb a c) refl
    where
      go : (b : Bool) → eqb a c ≡ b → part_in a (leaf c) x ≡ own a (bag_at m at now a (leaf c) x)
      go true e = rw (eqb-sym c a, e) (ap (λ s. part m now s (due m at now (leaf s)) x (at s)) (sym (eqb-true a c e)))
      go false e = absurd (let g = rw e at h in omega arith)

  -- in the first tree, or in those behind it
  more-part : (a : ℕ) (t : Tree) (f : Forest) (input : ℕ → Bag) → occurs a (leaves_f (more t f)) ≡ 1
      → (occurs a (leaves_t t) ≡ 1 → part_in a t (input (name_of t)) ≡ own a (bag_at m at now a t (input (name_of t))))
      → (occurs a (leaves_f f) ≡ 1 → part_in_all a f input ≡ own a (bag_at_all m at now a f input))
      → part_in_all a (more t f) input ≡ own a (bag_at_all m at now a (more t f) input)
  unfolding part_in bag_at leaves_t or_else
  more-part a t f input h first rest = go (occurs a (leaves_t t)) refl
    where
      split : occurs a (leaves_t t ++ leaves_f f) ≡ occurs a (leaves_t t) + occurs a (leaves_f f)
      split = count-append (λ s. eqb a s) (leaves_t t) (leaves_f f)

      in-first : occurs a (leaves_t t) ≡ 1 → occurs a (leaves_f f) ≡ 0 → part_in_all a (more t f) input ≡ own a (bag_at_all m at now a (more t f) input)
      in-first one nil =
          ap₂ or_else (first one) (no-part-all a f input nil) ∙ or-none (own a (bag_at m at now a t (input (name_of t))))
          ∙ ap (own a) (sym (append-nil (bag_at m at now a t (input (name_of t)))) ∙ ap (λ x. bag_at m at now a t (input (name_of t)) ++ x) (sym (no-bag-all m at now a f input nil)))

      in_rest : occurs a (leaves_t t) ≡ 0 → occurs a (leaves_f f) ≡ 1 → part_in_all a (more t f) input ≡ own a (bag_at_all m at now a (more t f) input)
      in_rest nil one =
          ap (λ p. or_else p (part_in_all a f input)) (no_part a t (input (name_of t)) nil) ∙ rest one
          ∙ ap (λ x. own a (x ++ bag_at_all m at now a f input)) (sym (no-bag m at now a t (input (name_of t)) nil))

      go : (n : ℕ) → occurs a (leaves_t t) ≡ n → part_in_all a (more t f) input ≡ own a (bag_at_all m at now a (more t f) input)
      go zero e = in_rest e (omega (arith, h, split))
      go (suc n) e = in-first (omega (arith, h, split)) (omega (arith, h, split))

  mutual
    unfolding part_in bag_at leaves_t count

    pub one-part : (a : ℕ) (t : Tree) (x : Bag) → occurs a (leaves_t t) ≡ 1 → part_in a t x ≡ own a (bag_at m at now a t x)
    one-part a (leaf c) x h = leaf-part a c x h
    one-part a (node c f) x h = one-part-all a f _ h

    one-part-all : (a : ℕ) (f : Forest) (input : ℕ → Bag) → occurs a (leaves_f f) ≡ 1 → part_in_all a f input ≡ own a (bag_at_all m at now a f input)
    one-part-all a stop input h = absurd (omega arith)
    one-part-all a (more t f) input h = more-part a t f input h (λ one. one-part a t (input (name_of t)) one) (λ one. one-part-all a f input one)
