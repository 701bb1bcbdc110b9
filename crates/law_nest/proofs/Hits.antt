-- What the ways on from a component's ports bring to a component, as sums over messages, and what several components send at once: the sums
-- over senders, messages and ways change places. Assumes nothing.
use mathlib.Core.Path.{◌≡◌, refl, sym, ap, ap₂, ◌∙◌}
use Prim.Native.Nat.{ℕ, ◌+◌}
use mathlib.Core.List.{List, [], ◌∷◌, ◌++◌, map}
use mathlib.Core.Bool.{Bool, true, false, ◌&&◌, cond}
use native.Mathlib.Omega.{arith}
use native.Mathlib.Nat.{add-zero}
use lib.Dec.{eqb}
use Rattle.definition.specs.Lists.{concat}
use Rattle.definition.specs.Model.{Message, Bag, Coupling, Tree, Forest, leaf, stop, more, name_of}
use Rattle.definition.specs.Routes.{ports_to, Port, ends_in, ends_from}
use Rattle.definition.specs.Devs.{translate_one, translate}
use Rattle.law_base.proofs.Sums.{sum_of, sum-append, sum-map, sum-concat, sum-add, sum-zero, sum-cong}

-- a sum over the parts of a forest
unfoldable pub over : (Tree → ℕ) → Forest → ℕ
over g stop = 0
over g (more t f) = g t + over g f

abbrev with_value : ℕ → ℕ → Message
with_value v q = record { port = q; value = v }

-- a message goes to the ports that the couplings lead to
pub translate-ports : (ks : List Coupling) (i d : ℕ) (x : Message) → translate_one ks i d x ≡ map (λ q. record { port = q; value = x.value }) (ports_to ks i d x.port)
unfolding translate_one ports_to
translate-ports [] i d x = refl
translate-ports (k ∷ ks) i d x = rw (translate-ports ks i d x) (go (eqb k.source i && eqb k.target d && eqb k.source_port x.port) (ports_to ks i d x.port))
  where
    go : (b : Bool) (qs : List ℕ) → cond {A = Bag} b (with_value x.value k.target_port ∷ map (with_value x.value) qs) (map (with_value x.value) qs)
        ≡ map (with_value x.value) (cond b (k.target_port ∷ qs) qs)
    go true qs = refl
    go false qs = refl

-- a sum over translated messages
pub translate-sum : (ks : List Coupling) (i d : ℕ) (g : Message → ℕ) (x : Bag)
    → sum_of g (translate ks i d x) ≡ sum_of (λ y. sum_of (λ q. g (record { port = q; value = y.value })) (ports_to ks i d y.port)) x
unfolding translate sum_of
translate-sum ks i d g [] = refl
translate-sum ks i d g (y ∷ x) =
    sum-append g (translate_one ks i d y) (translate ks i d x)
    ∙ ap₂ ◌+◌ (ap (sum_of g) (translate-ports ks i d y) ∙ sum-map g _ (ports_to ks i d y.port)) (translate-sum ks i d g x)

pub translate-cond : (ks : List Coupling) (i d : ℕ) (b : Bool) (x : Bag) → translate ks i d (cond b x []) ≡ cond b (translate ks i d x) []
unfolding translate
translate-cond ks i d true x = refl
translate-cond ks i d false x = refl

-- An end counts with the weight of the message that it gets, where it is a port of a.
unfoldable pub hit : ℕ → (Message → ℕ) → ℕ → Port → ℕ
hit a weigh v e = cond (eqb e.component a) (weigh (record { port = e.port; value = v })) 0

-- What a bag brings to a, where `ends q` has the ends of the ways from port q.
unfoldable pub hits : ℕ → (Message → ℕ) → (ℕ → List Port) → Bag → ℕ
hits a weigh ends x = sum_of (λ y. sum_of (hit a weigh y.value) (ends y.port)) x

-- ---- several senders

-- a component and what it sends
abbrev pub Sender : Type 0
Sender = ℕ × Bag

-- what reaches `to` of all that they send
unfoldable pub gathered : List Coupling → List Sender → ℕ → Bag
gathered ks [] to = []
gathered ks (p ∷ ps) to = translate ks p.0 to p.1 ++ gathered ks ps to

module _ (ks : List Coupling) (a : ℕ) (weigh : Message → ℕ) where
  hits-append : (ends : ℕ → List Port) (x y : Bag) → hits a weigh ends (x ++ y) ≡ hits a weigh ends x + hits a weigh ends y
  unfolding hits
  hits-append ends x y = sum-append _ x y

  -- two functions of ends, one after the other
  hits-both : (e g : ℕ → List Port) (x : Bag) → hits a weigh (λ q. e q ++ g q) x ≡ hits a weigh e x + hits a weigh g x
  unfolding hits
  hits-both e g x = sum-cong _ _ x (λ y. sum-append (hit a weigh y.value) (e y.port) (g y.port)) ∙ sum-add _ _ x

  -- on from the ports that the couplings reach
  hits-translate : (i d : ℕ) (ends : ℕ → List Port) (x : Bag) → hits a weigh ends (translate ks i d x) ≡ hits a weigh (λ q. concat (map ends (ports_to ks i d q))) x
  unfolding hits
  hits-translate i d ends x = translate-sum ks i d _ x ∙ sum-cong _ _ x (λ y. sym (sum-concat (hit a weigh y.value) ends (ports_to ks i d y.port)))

  hits-none : (x : Bag) → hits a weigh (λ q. []) x ≡ 0
  unfolding hits sum_of
  hits-none x = sum-zero x

  pub hits-nil : (ends : ℕ → List Port) → hits a weigh ends [] ≡ 0
  unfolding hits sum_of
  hits-nil ends = refl

  -- the input ports of an atomic are ends themselves
  pub hits-leaf : (c : ℕ) (x : Bag) → hits a weigh (ends_in ks (leaf c)) x ≡ cond (eqb c a) (sum_of weigh x) 0
  unfolding hits ends_in hit sum_of
  hits-leaf c x = go (eqb c a) refl
    where
      go : (b : Bool) → eqb c a ≡ b → hits a weigh (ends_in ks (leaf c)) x ≡ cond b (sum_of weigh x) 0
      go true e = sum-cong _ _ x (λ y. simp (e, add-zero))
      go false e = sum-cong _ (λ y. 0) x (λ y. simp e) ∙ sum-zero x

  -- ---- one level of a nest

  -- what the parts of a coupled component get of its own input i, besides what they get from each other
  pub hits-down : (i : ℕ) (f : Forest) (u : ℕ → Bag) (x : Bag)
      → over (λ j. hits a weigh (ends_in ks j) (u (name_of j) ++ translate ks i (name_of j) x)) f
      ≡ over (λ j. hits a weigh (ends_in ks j) (u (name_of j))) f + hits a weigh (ends_from ks i f) x
  unfolding over ends_in
  hits-down i stop u x = let h = hits-none x in omega arith
  hits-down i (more j f) u x =
      let d = name_of j in
      omega (
        arith,
        hits-append (ends_in ks j) (u d) (translate ks i d x),
        hits-translate i d (ends_in ks j) x,
        hits-both (λ q. concat (map (ends_in ks j) (ports_to ks i d q))) (ends_from ks i f) x,
        hits-down i f u x,
      )

  -- from all senders to one component, and to the parts of a forest
  out-to : (ends : ℕ → List Port) (ps : List Sender) (to : ℕ)
      → sum_of (λ p. hits a weigh (λ q. concat (map ends (ports_to ks p.0 to q))) p.1) ps ≡ hits a weigh ends (gathered ks ps to)
  unfolding gathered sum_of
  out-to ends [] to = sym (hits-nil ends)
  out-to ends (p ∷ ps) to =
      ap₂ ◌+◌ (sym (hits-translate p.0 to ends p.1)) (out-to ends ps to) ∙ sym (hits-append ends (translate ks p.0 to p.1) (gathered ks ps to))

  across : (ps : List Sender) (g : Forest)
      → sum_of (λ p. hits a weigh (ends_from ks p.0 g) p.1) ps ≡ over (λ j. hits a weigh (ends_in ks j) (gathered ks ps (name_of j))) g
  unfolding over ends_in
  across ps stop = sum-cong _ (λ p. 0) ps (λ p. hits-none p.1) ∙ sum-zero ps
  across ps (more j g) =
      sum-cong _ _ ps (λ p. hits-both (λ q. concat (map (ends_in ks j) (ports_to ks p.0 (name_of j) q))) (ends_from ks p.0 g) p.1)
      ∙ sum-add _ _ ps ∙ ap₂ ◌+◌ (out-to (ends_in ks j) ps (name_of j)) (across ps g)

  -- what is sent among the parts f of component c goes to them, and out of c
  pub hits-up : (ends : ℕ → List Port) (c : ℕ) (f : Forest) (ps : List Sender)
      → sum_of (λ p. hits a weigh (λ q. ends_from ks p.0 f q ++ concat (map ends (ports_to ks p.0 c q))) p.1) ps
      ≡ over (λ j. hits a weigh (ends_in ks j) (gathered ks ps (name_of j))) f + hits a weigh ends (gathered ks ps c)
  hits-up ends c f ps =
      sum-cong _ _ ps (λ p. hits-both (ends_from ks p.0 f) (λ q. concat (map ends (ports_to ks p.0 c q))) p.1)
      ∙ sum-add _ _ ps ∙ ap₂ ◌+◌ (across ps f) (out-to ends ps c)
