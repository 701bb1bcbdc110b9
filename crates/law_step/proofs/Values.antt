-- What is pulled has 16-bit values, and what the nest gives an atomic is on ports that there are: each message was put out by a phase or given,
-- and came through couplings. The keys of the code need both. Assumes nothing.
use mathlib.Core.Path.{◌≡◌, refl, ap, ◌∙◌}
use Prim.Native.Nat.{ℕ, zero, suc}
use mathlib.Core.List.{List, [], ◌∷◌}
use mathlib.Core.Bool.{Bool, true, false, ◌&&◌, cond}
use lib.Dec.{eqb, ltb}
use borrow.Author.Tests.{lt-ltb}
use Rattle.definition.specs.Lists.{all}
use Rattle.definition.specs.Limits.{port_count, max_ancestors}
use Rattle.definition.specs.Model.{Bag, Coupling, Model, phase_at, outputs, Tree, Forest, leaf, node, stop, more, name_of}
use Rattle.definition.specs.Records.{port_fits}
use Rattle.definition.specs.Routes.{ports_to}
use Rattle.definition.specs.Pinned.Decoder.{coupling_fields}
use Rattle.definition.specs.Devs.{translate_one, translate}
use Rattle.definition.specs.SavedRun.{Entry}
use Rattle.law_base.proofs.Tests.{and_left, and_right, and-true}
use Rattle.law_base.proofs.Lists.{all_append, all_map}
use Rattle.law_model.proofs.WellFormed.{WellFormed, kept}
use Rattle.law_model.proofs.PhaseValues.{is_value, has_value, outputs-values}
use Rattle.law_nest.proofs.Hits.{translate-ports}
use Rattle.law_nest.proofs.Nest.{due, out_of, out_to, bag_at, bag_at_all, out_due}
use Rattle.spec_step.specs.Pull.{joined, child_out, coupled_out, source_in, input_in}
use Rattle.spec_step.specs.Put.{values_on}

-- ---- values through the account

all-cond : {A : Type 0} (p : A → Bool) (b : Bool) (x y : List A) → all p x ≡ true → all p y ≡ true → all p (cond b x y) ≡ true
all-cond p true x y h g = h
all-cond p false x y h g = g

all-joined : {A B : Type 0} (p : B → Bool) (f : A → List B) (l : List A) → ((a : A) → all p (f a) ≡ true) → all p (joined f l) ≡ true
unfolding joined all
all-joined p f [] h = refl
all-joined p f (a ∷ l) h = all_append p (f a) (joined f l) (h a) (all-joined p f l h)

module _ {N : Type 0} (p : ℕ → Bool) (rows : N → List N) (atomic : N → Bool) (sent : N → List ℕ) (sends : (y : N) → all p (sent y) ≡ true) where
  child-values : (below : N → List ℕ) → ((y : N) → all p (below y) ≡ true) → (y : N) → all p (child_out rows atomic sent below y) ≡ true
  unfolding child_out
  child-values below h y = all-cond p (atomic y) (sent y) (below y) (sends y) (h y)

  pub coupled-values : (d : ℕ) (x : N) → all p (coupled_out rows atomic sent d x) ≡ true
  unfolding coupled_out all
  coupled-values zero x = refl
  coupled-values (suc d) x = all-joined p _ (rows x) (child-values (coupled_out rows atomic sent d) (coupled-values d))

  module _ (given : N → List ℕ) (root output : N → Bool) (gives : (y : N) → all p (given y) ≡ true) where
    source-values : (above : N → List ℕ) → ((y : N) → all p (above y) ≡ true) → (y : N) → all p (source_in rows atomic sent given root output above y) ≡ true
    unfolding source_in
    source-values above h y = all-cond p (output y) _ (above y) (child-values (coupled_out rows atomic sent max_ancestors) (coupled-values max_ancestors) y) (h y)

    pub input-values : (d : ℕ) (x : N) → all p (input_in rows atomic sent given root output d x) ≡ true
    unfolding input_in all
    input-values zero x = all-cond p (root x) (given x) [] (gives x) refl
    input-values (suc d) x =
        all-cond p (root x) (given x) _ (gives x) (all-joined p _ (rows x) (source-values (input_in rows atomic sent given root output d) (input-values d)))

-- ---- values put out

pub values-all : (p : ℕ → Bool) (q : ℕ) (x : Bag) → all (λ y. p y.value) x ≡ true → all p (values_on q x) ≡ true
unfolding values_on all
values-all p q [] h = refl
values-all p q (y ∷ x) h =
    let rest = values-all p q x (and_right (p y.value) _ h) in
    all-cond p (eqb q y.port) (y.value ∷ values_on q x) (values_on q x) (and-true (p y.value) _ (and_left (p y.value) _ h) rest) rest

-- what an atomic that is due puts out
pub sent-values : (m : Model) → WellFormed m → (at : ℕ → Entry) (now q c : ℕ) → all is_value (values_on q (out_due m at now (leaf c))) ≡ true
unfolding out_due out_of has_value
sent-values m w at now q c =
    values-all is_value q _ (all-cond has_value (due m at now (leaf c)) (outputs (phase_at m c (at c).phase)) [] (outputs-values m w c (at c).phase) (unfold all in refl))

-- ---- ports

module _ (m : Model) (at : ℕ → Entry) (now : ℕ) (fit : all (coupling_fields m.components) m.couplings ≡ true) where
  port-fits : (ks : List Coupling) (i d p : ℕ) → all (coupling_fields m.components) ks ≡ true → all (λ q. ltb q port_count) (ports_to ks i d p) ≡ true
  unfolding ports_to all
  port-fits [] i d p h = refl
  port-fits (k ∷ ks) i d p h =
      let rest = port-fits ks i d p (and_right (coupling_fields m.components k) _ h) in
      all-cond (λ q. ltb q port_count) (eqb k.source i && eqb k.target d && eqb k.source_port p) (k.target_port ∷ ports_to ks i d p) (ports_to ks i d p)
      (and-true (ltb k.target_port port_count) _ (lt-ltb _ _ (kept m.components k (and_left (coupling_fields m.components k) _ h)).target_port_lem) rest) rest

  translate-fits : (i d : ℕ) (x : Bag) → all port_fits (translate m.couplings i d x) ≡ true
  unfolding translate all port_fits
  translate-fits i d [] = refl
  translate-fits i d (y ∷ x) =
      all_append port_fits (translate_one m.couplings i d y) (translate m.couplings i d x)
      (ap (all port_fits) (translate-ports m.couplings i d y) ∙ all_map port_fits (λ q. record { port = q; value = y.value }) (ports_to m.couplings i d y.port) ∙ port-fits m.couplings i d y.port fit)
      (translate-fits i d x)

  pub out-fits : (f : Forest) (to : ℕ) → all port_fits (out_to m at now f to) ≡ true
  unfolding out_to all
  out-fits stop to = refl
  out-fits (more t f) to =
      all_append port_fits (cond (due m at now t) (translate m.couplings (name_of t) to (out_of m at now t)) []) (out_to m at now f to)
      (all-cond port_fits (due m at now t) _ [] (translate-fits (name_of t) to (out_of m at now t)) refl) (out-fits f to)

  mutual
    unfolding bag_at all

    pub bag_fits_lem : (a : ℕ) (t : Tree) (x : Bag) → all port_fits x ≡ true → all port_fits (bag_at m at now a t x) ≡ true
    bag_fits_lem a (leaf c) x h = all-cond port_fits (eqb c a) x [] h refl
    bag_fits_lem a (node c f) x h = bags-fit a f _ (λ d. all_append port_fits (out_to m at now f d) _ (out-fits f d) (translate-fits c d x))

    bags-fit : (a : ℕ) (f : Forest) (input : ℕ → Bag) → ((d : ℕ) → all port_fits (input d) ≡ true) → all port_fits (bag_at_all m at now a f input) ≡ true
    bags-fit a stop input h = refl
    bags-fit a (more t f) input h = all_append port_fits (bag_at m at now a t (input (name_of t))) _ (bag_fits_lem a t (input (name_of t)) (h (name_of t))) (bags-fit a f input h)
