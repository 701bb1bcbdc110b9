-- The shape of a way: up, at most once across, then down. The ways are told once more with the couplings that each goes along, counted;
-- without the counts they are the routes. Assumes nothing.
use mathlib.Core.Path.{◌≡◌, refl, sym, ap, ap₂, ◌∙◌, fun_ext}
use Prim.Native.Nat.{ℕ, suc}
use mathlib.Core.List.{List, [], ◌∷◌, ◌++◌, map, map-map, map-append}
use Rattle.definition.specs.Lists.{concat, up_from}
use Rattle.definition.specs.Limits.{port_count}
use Rattle.definition.specs.Model.{Coupling, Model, Tree, Forest, leaf, node, stop, more, name_of, tree}
use Rattle.definition.specs.Routes.{Port, ports_to, ends_in, ends_from, joined, joined_all, ways_from, ways_from_all, root_ends, routes}

-- ---- ways with their couplings counted

-- An end, and how many couplings lead to it.
pub record Reached : Type 0 where
  pub end : Port
  pub couplings : ℕ

unfoldable pub one_more : Reached → Reached
one_more w = record { end = w.end; couplings = suc w.couplings }

-- Down from input port q of a component, which is k couplings on; and from port q of i, which is, to the components of a forest.
unfoldable mutual
  pub down_in : List Coupling → ℕ → Tree → ℕ → List Reached
  down_in ks k (leaf c) q = record { end = record { component = c; port = q }; couplings = k } ∷ []
  down_in ks k (node c f) q = down_from ks k c f q

  pub down_from : List Coupling → ℕ → ℕ → Forest → ℕ → List Reached
  down_from ks k i stop q = []
  down_from ks k i (more t f) q = concat (map (λ r. down_in ks (suc k) t r) (ports_to ks i (name_of t) q)) ++ down_from ks k i f q

-- A route, and how many couplings it goes along.
pub record Counted : Type 0 where
  pub route : Coupling
  pub couplings : ℕ

unfoldable pub counted_from : ℕ → ℕ → Reached → Counted
counted_from c p w = record { route = joined c p w.end; couplings = w.couplings }

unfoldable pub counted_all : ℕ → (ℕ → List Reached) → List Counted
counted_all c ends = concat (map (λ p. map (counted_from c p) (ends p)) (up_from 0 port_count))

-- From the atomics of a tree: across and down, or up and on from there, one coupling more.
unfoldable mutual
  pub ways_out : List Coupling → (ℕ → List Reached) → Tree → List Counted
  ways_out ks ends (leaf c) = counted_all c ends
  ways_out ks ends (node c f) = ways_out_all ks (λ d q. down_from ks 0 d f q ++ concat (map (λ r. map one_more (ends r)) (ports_to ks d c q))) f

  pub ways_out_all : List Coupling → (ℕ → ℕ → List Reached) → Forest → List Counted
  ways_out_all ks ends stop = []
  ways_out_all ks ends (more t f) = ways_out ks (ends (name_of t)) t ++ ways_out_all ks ends f

unfoldable pub root_reached : ℕ → List Reached
root_reached q = record { end = record { component = 0; port = q }; couplings = 0 } ∷ []

unfoldable pub counted_routes : Model → List Counted
counted_routes m = counted_all 0 (down_in m.couplings 0 (tree m)) ++ ways_out m.couplings root_reached (tree m)

-- ---- without the counts they are the routes

map-concat : {A B C : Type 0} (g : B → C) (f : A → List B) (l : List A) → map g (concat (map f l)) ≡ concat (map (λ a. map g (f a)) l)
unfolding concat
map-concat g f [] = refl
map-concat g f (a ∷ l) = map-append g (f a) (concat (map f l)) ∙ ap (λ r. map g (f a) ++ r) (map-concat g f l)

end_of : Reached → Port
end_of w = w.end

route_of : Counted → Coupling
route_of r = r.route

module _ (ks : List Coupling) where
  mutual
    unfolding down_in ends_in end_of

    down_ends : (k : ℕ) (t : Tree) (q : ℕ) → map end_of (down_in ks k t q) ≡ ends_in ks t q
    down_ends k (leaf c) q = refl
    down_ends k (node c f) q = down-all k c f q

    down-all : (k i : ℕ) (f : Forest) (q : ℕ) → map end_of (down_from ks k i f q) ≡ ends_from ks i f q
    down-all k i stop q = refl
    down-all k i (more t f) q =
        map-append end_of (concat (map (λ r. down_in ks (suc k) t r) (ports_to ks i (name_of t) q))) (down_from ks k i f q)
        ∙ ap₂ ◌++◌ (map-concat end_of (λ r. down_in ks (suc k) t r) (ports_to ks i (name_of t) q)
        ∙ ap (λ (g : ℕ → List Port). concat (map g (ports_to ks i (name_of t) q))) (fun_ext (λ r. down_ends (suc k) t r))) (down-all k i f q)

  counted-joined : (c : ℕ) (far : ℕ → List Reached) (ends : ℕ → List Port) → ((q : ℕ) → map end_of (far q) ≡ ends q) → map route_of (counted_all c far) ≡ joined_all c ends
  unfolding counted_all joined_all counted_from route_of end_of
  counted-joined c far ends h =
      map-concat route_of (λ p. map (counted_from c p) (far p)) (up_from 0 port_count)
      ∙ ap (λ (g : ℕ → List Coupling). concat (map g (up_from 0 port_count)))
      (fun_ext (λ p. map-map route_of (counted_from c p) (far p) ∙ sym (map-map (joined c p) end_of (far p)) ∙ ap (map (joined c p)) (h p)))

  onward-ends : (far : ℕ → List Reached) (ends : ℕ → List Port) → ((q : ℕ) → map end_of (far q) ≡ ends q) → (d c q : ℕ) (f : Forest)
      → map end_of (down_from ks 0 d f q ++ concat (map (λ r. map one_more (far r)) (ports_to ks d c q))) ≡ ends_from ks d f q ++ concat (map ends (ports_to ks d c q))
  unfolding end_of one_more
  onward-ends far ends h d c q f =
      map-append end_of (down_from ks 0 d f q) (concat (map (λ r. map one_more (far r)) (ports_to ks d c q)))
      ∙ ap₂ ◌++◌ (down-all 0 d f q) (map-concat end_of (λ r. map one_more (far r)) (ports_to ks d c q)
      ∙ ap (λ (g : ℕ → List Port). concat (map g (ports_to ks d c q))) (fun_ext (λ r. map-map end_of one_more (far r) ∙ h r)))

  mutual
    unfolding ways_out ways_from

    out-ways : (t : Tree) (far : ℕ → List Reached) (ends : ℕ → List Port) → ((q : ℕ) → map end_of (far q) ≡ ends q) → map route_of (ways_out ks far t) ≡ ways_from ks ends t
    out-ways (leaf c) far ends h = counted-joined c far ends h
    out-ways (node c f) far ends h = out-all f _ _ (λ d q. onward-ends far ends h d c q f)

    out-all : (f : Forest) (far : ℕ → ℕ → List Reached) (ends : ℕ → ℕ → List Port) → ((d q : ℕ) → map end_of (far d q) ≡ ends d q) → map route_of (ways_out_all ks far f) ≡ ways_from_all ks ends f
    out-all stop far ends h = refl
    out-all (more t f) far ends h =
        map-append route_of (ways_out ks (far (name_of t)) t) (ways_out_all ks far f)
        ∙ ap₂ ◌++◌ (out-ways t (far (name_of t)) (ends (name_of t)) (h (name_of t))) (out-all f far ends h)

pub counted-routes : (m : Model) → map (λ r. r.route) (counted_routes m) ≡ routes m
unfolding counted_routes routes root_reached root_ends route_of end_of
counted-routes m =
    map-append route_of (counted_all 0 (down_in m.couplings 0 (tree m))) (ways_out m.couplings root_reached (tree m))
    ∙ ap₂ ◌++◌ (counted-joined m.couplings 0 (down_in m.couplings 0 (tree m)) (ends_in m.couplings (tree m)) (down_ends m.couplings 0 (tree m)))
    (out-ways m.couplings (tree m) root_reached root_ends (λ q. refl))
