-- What a nest puts out has ports 0 to 3 and values of two bytes, in whatever state it is: an atomic's phases have such messages, and couplings
-- lead to such ports and keep the value. So a trace record holds the bag of every step. Assumes nothing.
use mathlib.Core.Path.{◌≡◌, refl, ap, ◌∙◌}
use Prim.Native.Nat.{ℕ}
use mathlib.Core.List.{List, [], ◌∷◌, map}
use mathlib.Core.Bool.{Bool, true, false, ◌&&◌, cond}
use lib.Dec.{ltb}
use Rattle.definition.specs.Lists.{all}
use Rattle.definition.specs.Limits.{port_count}
use Rattle.definition.specs.Model.{Message, Bag, Model, phase_at, outputs, Tree, Forest, leaf, node, stop, more, name_of, tree}
use Rattle.definition.specs.Records.{port_fits}
use Rattle.definition.specs.Routes.{ports_to}
use Rattle.definition.specs.Devs.{Time, same_time, Totals, translate_one, translate, sigma, least_sigma, outputs_to, resultant_out, transition, devs_step}
use Rattle.definition.specs.Atomic.{devs_of, parts_of}
use Rattle.definition.specs.SavedRun.{Entry}
use Rattle.definition.specs.Step.{step_on, step}
use Rattle.law_base.specs.Keys.{value_range}
use Rattle.law_base.proofs.Tests.{and_left, and_right, and-true}
use Rattle.law_base.proofs.Lists.{all_append, all-and}
use Rattle.law_model.proofs.WellFormed.{WellFormed, couplings-fit}
use Rattle.law_model.proofs.PhaseRange.{outputs-fit}
use Rattle.law_model.proofs.PhaseValues.{is_value, has_value, outputs-values}
use Rattle.law_nest.proofs.Components.{rooted}
use Rattle.law_nest.proofs.Hits.{translate-ports}
use Rattle.law_flat.proofs.Couplings.{ports-reached}

-- a message that a trace record can hold
unfoldable pub sendable : Message → Bool
sendable x = port_fits x && has_value x

-- ---- an atomic's outputs

module _ (m : Model) (w : WellFormed m) where
  atomic-sends : (c p : ℕ) → all sendable (outputs (phase_at m c p)) ≡ true
  unfolding sendable
  atomic-sends c p = all-and port_fits has_value (outputs (phase_at m c p)) (outputs-fit m w c p) (outputs-values m w c p)

  -- ---- along couplings

  led-to : (v : ℕ) (qs : List ℕ) → ltb v value_range ≡ true → all (λ q. ltb q port_count) qs ≡ true → all sendable (map (λ q. record { port = q; value = v }) qs) ≡ true
  unfolding all sendable port_fits has_value is_value
  led-to v [] h k = refl
  led-to v (q ∷ qs) h k = and-true _ _ (and-true _ _ (and_left (ltb q port_count) _ k) h) (led-to v qs h (and_right (ltb q port_count) _ k))

  one-sends : (i d : ℕ) (x : Message) → sendable x ≡ true → all sendable (translate_one m.couplings i d x) ≡ true
  unfolding sendable has_value is_value
  one-sends i d x h =
      let cs = m.components in
      ap (all sendable) (translate-ports m.couplings i d x)
      ∙ led-to x.value (ports_to m.couplings i d x.port) (and_right (port_fits x) _ h)
      (ports-reached cs (rooted cs w.components.fit w.some_component) m.couplings (couplings-fit m w) i d x.port)

  translate-sends : (i d : ℕ) (xs : Bag) → all sendable xs ≡ true → all sendable (translate m.couplings i d xs) ≡ true
  unfolding translate all
  translate-sends i d [] h = refl
  translate-sends i d (x ∷ xs) h =
      all_append sendable (translate_one m.couplings i d x) (translate m.couplings i d xs) (one-sends i d x (and_left (sendable x) _ h)) (translate-sends i d xs (and_right (sendable x) _ h))

  sends-if : (b : Bool) (xs : Bag) → all sendable xs ≡ true → all sendable (cond b xs []) ≡ true
  unfolding all
  sends-if true xs h = h
  sends-if false xs h = refl

  -- ---- every component, and the root's step

  mutual
    unfolding outputs_to resultant_out all

    pub sends : (t : Tree) (s : (devs_of m t).State) → all sendable ((devs_of m t).out s) ≡ true
    sends (leaf c) s = atomic-sends c s.phase
    sends (node c f) s = parts-send f (least_sigma (parts_of m f) s) c s

    parts-send : (f : Forest) (u : Time) (to : ℕ) (s : Totals (parts_of m f)) → all sendable (outputs_to m.couplings to u (parts_of m f) s) ≡ true
    parts-send stop u to s = refl
    parts-send (more t f) u to s =
        let mine = translate m.couplings (name_of t) to ((devs_of m t).out s.0.0) in
        let imminent = same_time (sigma (devs_of m t) s.0) u in
        all_append sendable (cond imminent mine []) (outputs_to m.couplings to u (parts_of m f) s.1)
        (sends-if imminent mine (translate-sends (name_of t) to ((devs_of m t).out s.0.0) (sends t s.0.0))) (parts-send f u to s.1)

  pub transition-sends : (t : Tree) (b : Bool) (e : ℕ) (x : Bag) (s : (devs_of m t).State) → all sendable (transition (devs_of m t) b e x s).0 ≡ true
  unfolding transition all
  transition-sends t true e [] s = sends t s
  transition-sends t true e (y ∷ ys) s = sends t s
  transition-sends t false e x s = refl

  pub step-sends : (now : ℕ) (x : Bag) (rs : List Entry) → all sendable (step m now x rs).out.bag ≡ true
  unfolding step step_on devs_step
  step-sends now x rs = transition-sends (tree m) _ _ x _
