-- How many messages its bag had, each external part passes up: so what comes up from a transition is what the resultants handed the atomics, and
-- where nobody is handed more than a limit, nobody tells of more. Assumes nothing.
use mathlib.Core.Path.{◌≡◌, refl, sym, ap, ◌∙◌, subst, fun_ext}
use Prim.Native.Nat.{ℕ, ◌≤◌}
use mathlib.Core.List.{[], ◌∷◌, ◌++◌, append-nil}
use mathlib.Core.Bool.{Bool, true, false, cond}
use native.Mathlib.Omega.{arith}
use lib.Dec.{eqb}
use lib.ListN.{length}
use borrow.Author.Tests.{eq-eqb}
use Rattle.definition.specs.Model.{Bag, Model, component_at, Tree, Forest, leaf, node, stop, more, name_of}
use Rattle.definition.specs.Sound.{Every}
use Rattle.definition.specs.Devs.{Time, same_time, ticks, Decided, Totals, translate, sigma, least_sigma, outputs_to, anew, changed, changed_all, resultant_int, resultant_ext, resultant_con, transition}
use Rattle.definition.specs.Atomic.{InPhase, time_advance, internal, external, confluent, devs_of, parts_of}
use Rattle.law_base.proofs.Everys.{every_append}
use Rattle.law_nest.proofs.Hits.{gathered}
use Rattle.law_nest.proofs.Handed.{sending, sent-to, none-sent, imminent_in, handed, handed_all}

module _ (m : Model) (limit : ℕ → ℕ) where
  abbrev pub Within : Decided → Type 0
  Within d = d.messages ≤ limit d.atomic

  -- nobody in a tree, or a forest, is handed more
  abbrev pub HandsWithin : (t : Tree) → (devs_of m t).State → Bool → Bag → Type 0
  HandsWithin t s b x = (a : ℕ) → handed m a t s b x ≤ limit a

  abbrev HandsAllWithin : (f : Forest) → Totals (parts_of m f) → (Time → Bool) → (ℕ → Bag) → Type 0
  HandsAllWithin f s imminent input = (a : ℕ) → handed_all m a f s imminent input ≤ limit a

  -- ---- an atomic

  leaf-handed : (c : ℕ) (s : InPhase) (b : Bool) (x : Bag) → HandsWithin (leaf c) s b x → length x ≤ limit c
  unfolding handed
  leaf-handed c s b x h = rw (eq-eqb c c refl) at (h c)

  -- the external part of a confluent transition has the same bag, in either order
  confluent-told : (c : ℕ) (s : InPhase) (x : Bag) → length x ≤ limit c → Every Within (confluent m c s x).decided
  unfolding confluent external
  confluent-told c s x h = go (eqb (component_at m.components c).order 0)
    where
      go : (b : Bool) → Every Within (cond b (external m c (internal m c s).state 0 x)
          (record { state = (internal m c (external m c s (ticks (time_advance m c s)) x).state).state; decided = (external m c s (ticks (time_advance m c s)) x).decided })).decided
      go true = (h, tt)
      go false = (h, tt)

  leaf-told : (c e : ℕ) (b : Bool) (x : Bag) (s : InPhase × ℕ) → HandsWithin (leaf c) s.0 b x → Every Within (changed (devs_of m (leaf c)) b x e s).decided
  unfolding changed anew internal external
  leaf-told c e true [] s h = tt
  leaf-told c e true (y ∷ x) s h = confluent-told c s.0 (y ∷ x) (leaf-handed c s.0 true (y ∷ x) h)
  leaf-told c e false [] s h = tt
  leaf-told c e false (y ∷ x) s h = (leaf-handed c s.0 false (y ∷ x) h, tt)

  -- ---- what a coupled component hands its parts, as the resultant says it

  module _ (c : ℕ) (f : Forest) (s : Totals (parts_of m f)) where
    as_said : (b : Bool) (x : Bag) (input : ℕ → Bag) → ((d : ℕ) → gathered m.couplings (sending m (imminent_in m f s b) f s) d ++ translate m.couplings c d x ≡ input d)
        → HandsWithin (node c f) s b x → HandsAllWithin f s (imminent_in m f s b) input
    unfolding handed
    as_said b x input e h = subst (HandsAllWithin f s (imminent_in m f s b)) (fun_ext e) h

    int-hands : HandsWithin (node c f) s true []
        → HandsAllWithin f s (λ u. same_time u (least_sigma (parts_of m f) s)) (λ d. outputs_to m.couplings d (least_sigma (parts_of m f) s) (parts_of m f) s)
    unfolding translate
    int-hands = as_said true [] _ (λ d. append-nil _ ∙ sym (sent-to m _ f s d))

    con-hands : (x : Bag) → HandsWithin (node c f) s true x
        → HandsAllWithin f s (λ u. same_time u (least_sigma (parts_of m f) s)) (λ d. outputs_to m.couplings d (least_sigma (parts_of m f) s) (parts_of m f) s ++ translate m.couplings c d x)
    con-hands x = as_said true x _ (λ d. ap (λ y. y ++ translate m.couplings c d x) (sym (sent-to m _ f s d)))

    ext-hands : (x : Bag) → HandsWithin (node c f) s false x → HandsAllWithin f s (λ u. false) (λ d. translate m.couplings c d x)
    ext-hands x = as_said false x _ (λ d. ap (λ y. y ++ translate m.couplings c d x) (none-sent m f s d))

  -- ---- every component

  mutual
    unfolding changed changed_all resultant_int resultant_ext resultant_con anew handed

    part-told : (t : Tree) (e : ℕ) (b : Bool) (x : Bag) (s : (devs_of m t).State × ℕ) → HandsWithin t s.0 b x → Every Within (changed (devs_of m t) b x e s).decided
    part-told (leaf c) e b x s h = leaf-told c e b x s h
    part-told (node c f) e true [] s h = parts-told f _ _ _ s.0 (int-hands c f s.0 h)
    part-told (node c f) e true (y ∷ x) s h = parts-told f _ _ _ s.0 (con-hands c f s.0 (y ∷ x) h)
    part-told (node c f) e false [] s h = tt
    part-told (node c f) e false (y ∷ x) s h = parts-told f _ _ _ s.0 (ext-hands c f s.0 (y ∷ x) h)

    parts-told : (f : Forest) (imminent : Time → Bool) (input : ℕ → Bag) (e : ℕ) (s : Totals (parts_of m f)) → HandsAllWithin f s imminent input
        → Every Within (changed_all imminent input e (parts_of m f) s).decided
    parts-told stop imminent input e s h = tt
    parts-told (more t f) imminent input e s h =
        let b = imminent (sigma (devs_of m t) s.0) in
        every_append Within (changed (devs_of m t) b (input (name_of t)) e s.0).decided (changed_all imminent input e (parts_of m f) s.1).decided
        (part-told t e b (input (name_of t)) s.0 (λ a. let k = h a in omega arith)) (parts-told f imminent input e s.1 (λ a. let k = h a in omega arith))

  -- ---- a transition of a coupled component

  pub transition-told : (c : ℕ) (f : Forest) (b : Bool) (e : ℕ) (x : Bag) (s : (devs_of m (node c f)).State) → HandsWithin (node c f) s b x
      → Every Within (transition (devs_of m (node c f)) b e x s).1.decided
  unfolding transition resultant_int resultant_ext resultant_con
  transition-told c f true e [] s h = parts-told f _ _ _ s (int-hands c f s h)
  transition-told c f true e (y ∷ x) s h = parts-told f _ _ _ s (con-hands c f s (y ∷ x) h)
  transition-told c f false e x s h = parts-told f _ _ _ s (ext-hands c f s x h)
