-- The rows of the probing step are the model's routes with their components renumbered, in another order: sorted, they are the couplings of the
-- flat form, and there are as many of them as there are routes. Assumes nothing.
use mathlib.Core.Path.{◌≡◌, refl, sym, ap, ap₂, ◌∙◌}
use Prim.Native.Nat.{ℕ, zero, suc, ◌+◌, ◌*◌, ◌/◌, ◌%◌, ◌<◌}
use mathlib.Core.List.{List, [], ◌∷◌, map, map-append}
use mathlib.Core.Bool.{Bool, true, false, ◌&&◌, cond}
use native.Mathlib.Omega.{arith}
use lib.Dec.{eqb, leb}
use lib.ListN.{length, get_or, drop, length-map}
use lib.Seq.{drop-cons, drop-length}
use borrow.Author.Tests.{ltb-true, eqb-true, eq-eqb}
use Rattle.definition.specs.Lists.{count, sort_by, Same}
use Rattle.definition.specs.Limits.{port_count}
use Rattle.definition.specs.Model.{Message, Coupling, Model, is_atomic, atomics, coupling_le}
use Rattle.definition.specs.Routes.{routes}
use Rattle.definition.specs.Flatten.{renumbered, flat_route, flat}
use Rattle.law_base.proofs.Sorting.{sort-perm, coupling-order}
use Rattle.law_base.proofs.Tests.{and_left, and_right}
use Rattle.law_base.proofs.Sums.{sum_of, sum-map, sum-cong}
use Rattle.law_base.proofs.Lists.{sum-cong-if, count-sum, all-at}
use Rattle.law_base.proofs.Bags.{count-append, same_perm, same_length}
use Rattle.law_model.proofs.WellFormed.{WellFormed}
use Rattle.law_nest.proofs.Components.{atomics-atomic}
use Rattle.law_nest.proofs.Renumber.{new-root, new-atomic, distinct-atomics}
use Rattle.law_flat.proofs.FlatComponents.{new-byte}
use Rattle.law_flat.proofs.RouteEnds.{route_fits, routes-fit, route-parts}
use Rattle.law_base.specs.Keys.{value_range, message_of}
use Rattle.spec_step.specs.Tables.{port_nodes, input_node, output_node, node_component, node_port, numbers_at}
use Rattle.spec_step.specs.TableStep.{keys_into, root_keys}
use Rattle.spec_step.specs.Tabled.{Tabled}
use Rattle.law_step.proofs.Positions.{place_of}
use Rattle.law_base.specs.Keys.{coupling_of}
use Rattle.sort.proofs.Keys.{sort-couplings}
use Rattle.flat_ranks.specs.Ranks.{rank_of}
use Rattle.flat_ranks.proofs.Ranks.{rank_is}
use Rattle.flat_probe.specs.Probe.{probes, probe_flags, probe_marks, probe_reached, probe_given}
use Rattle.flat_rows.specs.Rows.{row_number, row_of, rows_at_position, rows_from, rows_at_root, rows_of, probe_rows}
use Rattle.flat_rows.proofs.ProbeEnds.{beginning, brought, by-listed, atomic-end, root-end}

-- ---- a row and its coupling

coupling-of-row : (a b c d : ℕ) → coupling_of (row_number a b c d) ≡ record { source = a % 256; source_port = b % 256; target = c % 256; target_port = d % 256 }
unfolding coupling_of row_number
coupling-of-row a b c d =
    let n = a % 256 * 16777216 + b % 256 * 65536 + c % 256 * 256 + d % 256 in
    let e : n / 16777216 ≡ a % 256 = omega arith in
    let f : n / 65536 % 256 ≡ b % 256 = omega arith in
    let g : n / 256 % 256 ≡ c % 256 = omega arith in
    let h : n % 256 ≡ d % 256 = omega arith in
    λ i. record { source = e i; source_port = f i; target = g i; target_port = h i }

-- the coupling of a message that came to an end
ended : List ℕ → ℕ → Message → Coupling
ended t end y =
    record { source = rank_of t (node_component y.value) % 256; source_port = node_port y.value % 256; target = end % 256; target_port = y.port % 256 }

row-ended : (t : List ℕ) (end key : ℕ) → coupling_of (row_of t end key) ≡ ended t end (message_of key)
unfolding ended message_of row_of
row-ended t end key = coupling-of-row (rank_of t (node_component (key % value_range))) (node_port (key % value_range)) end (key / value_range)

-- the rows of some keys, counted
rows-count : (t : List ℕ) (p : Coupling → Bool) (end : ℕ) (keys : List ℕ) → count p (map coupling_of (map (row_of t end) keys)) ≡ count (λ y. p (ended t end y)) (map message_of keys)
rows-count t p end keys =
    count-sum p _ ∙ sum-map _ coupling_of (map (row_of t end) keys) ∙ sum-map _ (row_of t end) keys
    ∙ sum-cong _ _ keys (λ k. ap (λ c. cond (p c) 1 0) (row-ended t end k))
    ∙ sym (sum-map _ message_of keys) ∙ sym (count-sum _ (map message_of keys))

-- the port where a way begins says where
begin-component : (s q : ℕ) → q < port_count → node_component (beginning s q) ≡ s
unfolding node_component beginning input_node output_node
begin-component s q l = go (eqb s 0) refl
  where
    go : (b : Bool) → eqb s 0 ≡ b → cond b (port_nodes * 0 + q) (port_nodes * s + (port_count + q)) / port_nodes ≡ s
    go true e = let z = eqb-true s 0 e in omega arith
    go false e = omega arith

begin-port : (s q : ℕ) → q < port_count → node_port (beginning s q) ≡ q
unfolding node_port beginning input_node output_node
begin-port s q l = go (eqb s 0)
  where
    go : (b : Bool) → cond b (port_nodes * 0 + q) (port_nodes * s + (port_count + q)) % port_count ≡ q
    go true = omega arith
    go false = omega arith

-- ---- couplings that are the same

eq_coupling : Coupling → Coupling → Bool
eq_coupling k l = eqb k.source l.source && eqb k.source_port l.source_port && eqb k.target l.target && eqb k.target_port l.target_port

eq_coupling-true : (k l : Coupling) → eq_coupling k l ≡ true → k ≡ l
unfolding eq_coupling
eq_coupling-true k l h =
    let a = eqb k.source l.source in
    let b = eqb k.source_port l.source_port in
    let c = eqb k.target l.target in
    let d = eqb k.target_port l.target_port in
    let x = and_left (a && b && c) d h in
    let y = and_left (a && b) c x in
    let e = eqb-true _ _ (and_left a b y) in
    let f = eqb-true _ _ (and_right a b y) in
    let g = eqb-true _ _ (and_right (a && b) c x) in
    let j = eqb-true _ _ (and_right (a && b && c) d h) in
    λ i. record { source = e i; source_port = f i; target = g i; target_port = j i }

eq_coupling-refl : (k : Coupling) → eq_coupling k k ≡ true
unfolding eq_coupling
eq_coupling-refl k = rw (eq-eqb k.source k.source refl, eq-eqb k.source_port k.source_port refl, eq-eqb k.target k.target refl, eq-eqb k.target_port k.target_port refl)

module _ (m : Model) (w : WellFormed m) (t : List ℕ) (h : Tabled m t) where
  byte_of : (n : ℕ) → n < 256 → n % 256 ≡ n
  byte_of n l = omega arith

  -- a route's message at its end is the route renumbered
  route-row : (k : Coupling) → route_fits m w k ≡ true → ended t (renumbered m.components k.target) (brought k) ≡ flat_route m.components k
  unfolding ended brought flat_route
  route-row k f =
      let r = route-parts m w k f in
      let cs = m.components in
      let q = ltb-true k.source_port port_count r.source_low in
      let u = ltb-true k.target_port port_count r.target_low in
      let a : rank_of t (node_component (beginning k.source k.source_port)) % 256 ≡ renumbered cs k.source
      = ap (λ c. rank_of t c % 256) (begin-component k.source k.source_port q) ∙ ap (λ n. n % 256) (rank_is m w t h k.source r.source_listed) ∙ byte_of _ (new-byte m w k.source) in
      let b : node_port (beginning k.source k.source_port) % 256 ≡ k.source_port = ap (λ n. n % 256) (begin-port k.source k.source_port q) ∙ byte_of _ (omega arith) in
      let c : renumbered cs k.target % 256 ≡ renumbered cs k.target = byte_of _ (new-byte m w k.target) in
      let d : k.target_port % 256 ≡ k.target_port = byte_of _ (omega arith) in
      λ i. record { source = a i; source_port = b i; target = c i; target_port = d i }

  -- ---- all ends

  module _ (p : Coupling → Bool) where
    -- one for each route that ends at a
    ending : ℕ → ℕ
    ending a = sum_of (λ k. cond (eqb k.target a) (cond (p (flat_route m.components k)) 1 0) 0) (routes m)

    ended-routes : (a : ℕ) → sum_of (λ k. cond (eqb k.target a) (cond (p (ended t (renumbered m.components a) (brought k))) 1 0) 0) (routes m) ≡ ending a
    unfolding ending
    ended-routes a = sum-cong-if (route_fits m w) _ _ (routes m) (routes-fit m w) (λ k f. one k f (eqb k.target a) refl)
      where
        one : (k : Coupling) → route_fits m w k ≡ true → (b : Bool) → eqb k.target a ≡ b
            → cond {A = ℕ} b (cond (p (ended t (renumbered m.components a) (brought k))) 1 0) 0 ≡ cond b (cond (p (flat_route m.components k)) 1 0) 0
        one k f true e =
            ap (λ c. cond (p c) 1 0) (ap (λ a. ended t (renumbered m.components a) (brought k)) (sym (eqb-true k.target a e)) ∙ route-row k f)
        one k f false e = refl

    root-rows : count p (map coupling_of (map (row_of t 0) (root_keys probes t probe_marks probe_reached))) ≡ ending 0
    root-rows =
        rows-count t p 0 (root_keys probes t probe_marks probe_reached) ∙ root-end m w t h (λ y. p (ended t 0 y))
        ∙ sum-cong _ _ (routes m) (λ k. ap (λ n. cond (eqb k.target 0) (cond (p (ended t n (brought k))) 1 0) 0) (sym (new-root m.components))) ∙ ended-routes 0

    atomic-rows : (a : ℕ) → is_atomic m.components a ≡ true
        → count p (map coupling_of (map (row_of t (renumbered m.components a)) (keys_into probes t probe_marks probe_reached probe_given a))) ≡ ending a
    atomic-rows a e =
        rows-count t p (renumbered m.components a) (keys_into probes t probe_marks probe_reached probe_given a)
        ∙ atomic-end m w t h (λ y. p (ended t (renumbered m.components a) y)) a e ∙ ended-routes a

    rows-from : (n i : ℕ) → i + n ≡ length (atomics m.components) → count p (map coupling_of (rows_from probes t probe_flags probe_given n i)) ≡ sum_of ending (drop i (atomics m.components))
    unfolding rows_from rows_at_position
    rows-from zero i l =
        let e : i ≡ length (atomics m.components) = omega arith in
        none ∙ ap (sum_of ending) (sym (drop-length (atomics m.components)) ∙ ap (λ i. drop i (atomics m.components)) (sym e))
      where
        none : count p (map coupling_of []) ≡ sum_of ending []
        none = unfold count sum_of in refl
    rows-from (suc n) i l =
        let cs = m.components in
        let L = atomics cs in
        let b : i < length L = omega arith in
        let a = get_or L i 0 in
        let e : is_atomic cs a ≡ true = all-at (is_atomic cs) L i 0 (atomics-atomic cs w.components.fit w.some_component) b in
        let r : i + 1 ≡ renumbered cs a
        = let z : i + 1 ≡ suc i = omega arith in z ∙ ap suc (sym (place_of L i (distinct-atomics cs) b)) ∙ sym (new-atomic cs w.components.fit w.some_component a e) in
        let s : i + 1 ≡ suc i = omega arith in
        let first = map (row_of t (i + 1)) (keys_into probes t probe_marks probe_reached probe_given (get_or t (numbers_at + i) 0)) in
        ap (count p) (map-append coupling_of first (rows_from probes t probe_flags probe_given n (i + 1)))
        ∙ count-append p (map coupling_of first) (map coupling_of (rows_from probes t probe_flags probe_given n (i + 1)))
        ∙ ap₂ ◌+◌
        (ap₂ (λ e c. count p (map coupling_of (map (row_of t e) (keys_into probes t probe_marks probe_reached probe_given c)))) r (h.numbers i b) ∙ atomic-rows a e)
        (rows-from n (i + 1) (omega arith) ∙ ap (λ i. sum_of ending (drop i L)) s)
        ∙ more (drop-cons L i 0 b)
      where
        more : drop i (atomics m.components) ≡ get_or (atomics m.components) i 0 ∷ drop (suc i) (atomics m.components)
            → ending (get_or (atomics m.components) i 0) + sum_of ending (drop (suc i) (atomics m.components)) ≡ sum_of ending (drop i (atomics m.components))
        more d = rw d (unfold sum_of in refl)

    all-rows : count p (map coupling_of (probe_rows t (length (atomics m.components)))) ≡ count p (map (flat_route m.components) (routes m))
    unfolding rows_of rows_at_root
    all-rows =
        let cs = m.components in
        let first = map (row_of t 0) (root_keys probes t probe_marks probe_reached) in
        let rest = rows_from probes t probe_flags probe_given (length (atomics cs)) 0 in
        ap (count p) (map-append coupling_of first rest) ∙ count-append p (map coupling_of first) (map coupling_of rest)
        ∙ ap₂ ◌+◌ root-rows (rows-from (length (atomics cs)) 0 (omega arith))
        ∙ whole
        ∙ sym (sum-map (λ k. cond (p k) 1 0) (flat_route cs) (routes m)) ∙ sym (count-sum p (map (flat_route cs) (routes m)))
      where
        whole : ending 0 + sum_of ending (atomics m.components) ≡ sum_of (λ k. cond (p (flat_route m.components k)) 1 0) (routes m)
        whole = unfold ending sum_of in (by-listed m w (λ k. k.target) (λ k. cond (p (flat_route m.components k)) 1 0) (λ k f. (route-parts m w k f).target_listed))

  -- the rows are the routes renumbered, in another order
  pub rows_same : Same (map coupling_of (probe_rows t (length (atomics m.components)))) (map (flat_route m.components) (routes m))
  rows_same p = all-rows p

  -- sorted, they are the flat form's couplings
  pub rows-sorted : map coupling_of (sort_by leb (probe_rows t (length (atomics m.components)))) ≡ (flat m).couplings
  unfolding flat
  rows-sorted =
      sort-couplings (probe_rows t (length (atomics m.components)))
      ∙ sort-perm coupling_le coupling-order (same_perm eq_coupling eq_coupling-true eq_coupling-refl _ _ rows_same)

  pub rows-many : length (probe_rows t (length (atomics m.components))) ≡ length (routes m)
  rows-many =
      let n = length (atomics m.components) in
      sym (length-map (probe_rows t n) coupling_of) ∙ same_length _ _ rows_same ∙ length-map (routes m) (flat_route m.components)
