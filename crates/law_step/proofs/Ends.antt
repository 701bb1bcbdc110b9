-- The theorem of pulling: for a sound model, an atomic's bag, pulled port by port as keys, is its bag in the nest in another order, and so is
-- the root's output bag. What the pulled account needs of the nest comes from the checks of the decoder. Assumes nothing.
use mathlib.Core.Path.{◌≡◌, refl, sym, ap, ◌∙◌, subst}
use Prim.Native.Nat.{ℕ, zero, suc, ◌+◌, ◌≤◌, ◌<◌}
use mathlib.Core.List.{List, ◌∷◌, map}
use mathlib.Core.Bool.{Bool, true, false, cond}
use native.Mathlib.Omega.{arith}
use lib.Dec.{eqb}
use lib.ListN.{length}
use Rattle.definition.specs.Lists.{all, keep, up_from, Same}
use Rattle.definition.specs.Limits.{max_ancestors, port_count}
use Rattle.definition.specs.Model.{Bag, Phase, Model, is_atomic, is_child, children, Tree, Forest, leaf, node, stop, forest, tree}
use Rattle.definition.specs.Records.{port_fits}
use Rattle.definition.specs.SavedRun.{Entry}
use Rattle.law_model.proofs.WellFormed.{WellFormed, couplings-fit}
use Rattle.law_nest.proofs.Components.{atomic-below, rooted, near-root, parts_of_root, root, shape}
use Rattle.law_nest.proofs.Nest.{Fresh, Ready, ReadyAll, out_to, out_due, bag_at}
use Rattle.law_base.specs.Keys.{message_of}
use Rattle.spec_step.specs.Put.{keys_of, values_on}
use Rattle.law_routes.proofs.Placed.{coupled-parents}
use Rattle.law_routes.proofs.Placed as P
use Rattle.law_routes.specs.Ways.{Rising, sub}
use Rattle.law_routes.proofs.Nests.{sub-step}
use Rattle.law_step.proofs.Flow.{on}
use Rattle.law_step.proofs.Nodes.{inn, out, rows_at, atomic_at, sent_at, given_at, root_at, output_at, pulled_out, pulled_in}
use Rattle.law_step.proofs.Pulled.{in_right, root-right}
use Rattle.law_step.proofs.Arriving.{bag-right}
use Rattle.law_model.proofs.PhaseValues.{is_value, has_value}
use Rattle.law_step.proofs.Keys.{same-by-port}
use Rattle.law_step.proofs.Values.{values-all, coupled-values, input-values, out-fits, bag_fits_lem}

below : Tree → Forest
below (leaf c) = stop
below (node c f) = f

module _ (m : Model) (w : WellFormed m) where
  pub rising : Rising m.components
  rising = P.rising m.components w.components.fit

  pub root-tree : sub m.components 0 ≡ root m
  unfolding sub tree
  root-tree = shape m w

  root-parts : forest (map (sub m.components) (children m.components 0)) ≡ parts_of_root m
  unfolding below
  root-parts =
      let z = (rooted m.components w.components.fit w.some_component).root_coupled in
      let s : sub m.components 0 ≡ node 0 (forest (map (sub m.components) (children m.components 0))) = sub-step m.components rising 0 ∙ rw z in
      ap below (sym s ∙ root-tree)

  module _ (at : ℕ → Entry) (now : ℕ) (fresh : (c : ℕ) → is_atomic m.components c ≡ true → Fresh m now c (at c)) where
    keep-ready : (p : ℕ → Bool) (k n : ℕ) → k + n ≤ length m.components
        → ((e : ℕ) → p e ≡ true → e < length m.components → Ready m at now (sub m.components e))
        → ReadyAll m at now (forest (map (sub m.components) (keep p (up_from k n))))
    unfolding keep up_from forest
    keep-ready p k zero b ih = tt
    keep-ready p k (suc n) b ih = go (p k) refl (keep-ready p (suc k) n (omega arith) ih)
      where
        go : (t : Bool) → p k ≡ t → ReadyAll m at now (forest (map (sub m.components) (keep p (up_from (suc k) n))))
            → ReadyAll m at now (forest (map (sub m.components) (cond t (k ∷ keep p (up_from (suc k) n)) (keep p (up_from (suc k) n)))))
        go true e r = (ih k e (omega arith), r)
        go false e r = r

    -- no atomic below any component was changed after now or is due before
    ready-sub : (d c : ℕ) → c < length m.components → length m.components ≤ d + c → Ready m at now (sub m.components c)
    ready-sub zero c l s = absurd (omega arith)
    ready-sub (suc d) c l s =
        subst (Ready m at now) (sym (sub-step m.components rising c)) (go (is_atomic m.components c) refl (λ e b i. ready-sub d e i (omega (arith, rising c e b i))))
      where
        go : (b : Bool) → is_atomic m.components c ≡ b
            → ((e : ℕ) → is_child m.components c e ≡ true → e < length m.components → Ready m at now (sub m.components e))
            → Ready m at now (cond b (leaf c) (node c (forest (map (sub m.components) (children m.components c)))))
        go true e ih = fresh c e
        go false e ih = unfold children in (keep-ready (is_child m.components c) 0 (length m.components) (omega arith) ih)

    pub ready-all : (c : ℕ) → c < length m.components → Ready m at now (sub m.components c)
    ready-all c l = ready-sub (length m.components) c l (omega arith)

-- ---- the two bags, for any phases in the place of the model's own: a step of a run has the model's, the probing step of flatten has its own

module _ (m : Model) (w : WellFormed m) (ps : List Phase) where
  abbrev pub phased : Model
  phased = record { components = m.components; phases = ps; rules = m.rules; couplings = m.couplings; ranges = m.ranges }

  module _ (at : ℕ → Entry) (now : ℕ) (ready : (c : ℕ) → c < length m.components → Ready phased at now (sub m.components c))
      (sent : (q c : ℕ) → all is_value (values_on q (out_due phased at now (leaf c))) ≡ true) where
    -- the root's output bag
    pub root-same : Same (map message_of (keys_of (λ q. pulled_out phased at now max_ancestors (out 0 q)) port_count 0)) (out_to phased at now (parts_of_root m) 0)
    unfolding sent_at
    root-same =
        let fit = couplings-fit m w in
        same-by-port _ _ (λ q. coupled-values is_value (rows_at phased) (atomic_at phased) (sent_at phased at now) (λ y. sent y.port y.component) max_ancestors (out 0 q))
        (out-fits phased at now fit (parts_of_root m) 0)
        (λ g q. root-right phased at now g (rising m w) fit ready (near-root m.components w.components.fit w.some_component) q
        ∙ ap (λ f. on q g (out_to phased at now f 0)) (root-parts m w))

    -- the bag of an atomic, where the given bag has ports and values as it should
    pub pulled-same : (x : Bag) → all port_fits x ≡ true → all has_value x ≡ true → (a : ℕ) → is_atomic m.components a ≡ true
        → Same (map message_of (keys_of (λ q. pulled_in phased at now x max_ancestors (inn a q)) port_count 0)) (bag_at phased at now a (root m) x)
    unfolding sent_at given_at has_value
    pulled-same x ports values a e =
        let fit = couplings-fit m w in
        let l = atomic-below m.components a e in
        let near = near-root m.components w.components.fit w.some_component in
        same-by-port _ _
        (λ q. input-values is_value (rows_at phased) (atomic_at phased) (sent_at phased at now) (λ y. sent y.port y.component)
        (given_at x) root_at output_at (λ y. values-all is_value y.port x values) max_ancestors (inn a q))
        (bag_fits_lem phased at now fit a (root m) x ports)
        (λ g q. in_right phased at now g (rising m w) fit ready near x max_ancestors a q l (near a l)
        ∙ sym (bag-right phased at now x (λ y. cond (eqb q y.port) (g y.value) 0) a (rising m w) near w.some_component l e (coupled-parents m.components w.components.fit))
        ∙ ap (λ t. on q g (bag_at phased at now a t x)) (root-tree m w))
