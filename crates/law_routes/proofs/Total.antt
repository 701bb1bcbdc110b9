-- The number of routes by the table: the ways on from the root's inputs and from the atomics' outputs, each counted up to the cap.
-- Assumes nothing.
use mathlib.Core.Path.{◌≡◌, refl, ap, ◌∙◌}
use mathlib.Core.List.{List}
use mathlib.Core.Bool.{Bool, true, false, cond}
use Prim.Native.Nat.{ℕ, zero, suc, ◌+◌, ◌*◌, ◌-◌, ◌≤◌, ◌<◌, min}
use native.Mathlib.Omega.{arith}
use native.Mathlib.Nat.{sub-zero}
use lib.Dec.{ltb}
use lib.ListN.{length, get_or}
use borrow.Author.Tests.{lt-ltb, le-ltb, ltb-true, ltb-false}
use Rattle.definition.specs.Lists.{up_from}
use Rattle.definition.specs.Limits.{max_routes}
use Rattle.definition.specs.Model.{Component, Coupling, Model, is_atomic, is_child}
use Rattle.definition.specs.Routes.{routes}
use Rattle.law_base.proofs.Sums.{sum_of}
use Rattle.law_routes.specs.Nodes.{input_node, output_node}
use Rattle.law_routes.specs.Ways.{down, up, ways_cap, WaysCounted, Rising, four, table_routes}
use Rattle.law_routes.proofs.Routed.{ports, count-routes}
use Rattle.law_routes.proofs.PortNodes.{ways-input, ways-output}

-- ---- the sum over the components from number c on

pub over-start : (f : ℕ → ℕ) (n : ℕ) → sum_of f (up_from 0 (n - 0)) ≡ sum_of f (up_from 0 n)
over-start f n = rw sub-zero

pub over-more : (f : ℕ → ℕ) (c n : ℕ) → c < n → sum_of f (up_from c (n - c)) ≡ f c + sum_of f (up_from (c + 1) (n - (c + 1)))
unfolding sum_of up_from
over-more f c n h =
    let e : n - c ≡ suc (n - (c + 1)) = omega arith in
    let g : c + 1 ≡ suc c = omega arith in
    rw (e, g)

pub over-end : (f : ℕ → ℕ) (c n : ℕ) → n ≤ c → sum_of f (up_from c (n - c)) ≡ 0
unfolding sum_of up_from
over-end f c n h = let e : n - c ≡ 0 = omega arith in rw e

-- ---- saturated sums

min-over : (f g : ℕ → ℕ) (k n : ℕ) → ((c : ℕ) → c < k + n → min ways_cap (f c) ≡ min ways_cap (g c)) → min ways_cap (sum_of f (up_from k n)) ≡ min ways_cap (sum_of g (up_from k n))
unfolding sum_of up_from
min-over f g k zero h = refl
min-over f g k (suc n) h = omega (arith, h k (omega arith), min-over f g (suc k) n (λ c l. h c (omega arith)))

module _ (cs : List Component) (ks : List Coupling) (table : List ℕ) (counted : WaysCounted cs ks table) where
  at-input : (c q : ℕ) → c < length cs → q < 4 → get_or table (8 * c + q) 0 ≡ min ways_cap (down cs ks c q)
  unfolding input_node
  at-input c q l h = counted (8 * c + q) (omega arith) ∙ ap (min ways_cap) (ways-input cs ks c q h)

  at-output : (c q : ℕ) → c < length cs → q < 4 → get_or table (8 * c + (4 + q)) 0 ≡ min ways_cap (up cs ks c q)
  unfolding output_node
  at-output c q l h = counted (8 * c + (4 + q)) (omega arith) ∙ ap (min ways_cap) (ways-output cs ks c q h)

  four-inputs : (c : ℕ) → c < length cs → min ways_cap (four table (8 * c)) ≡ min ways_cap (ports (down cs ks c))
  unfolding four
  four-inputs c l = omega (arith, at-input c 0 l (omega arith), at-input c 1 l (omega arith), at-input c 2 l (omega arith), at-input c 3 l (omega arith))

  four-outputs : (c : ℕ) → c < length cs → min ways_cap (four table (8 * c + 4)) ≡ min ways_cap (ports (up cs ks c))
  unfolding four
  four-outputs c l =
      let a : 8 * c + 4 + 0 ≡ 8 * c + (4 + 0) = omega arith in
      let b : 8 * c + 4 + 1 ≡ 8 * c + (4 + 1) = omega arith in
      let d : 8 * c + 4 + 2 ≡ 8 * c + (4 + 2) = omega arith in
      let e : 8 * c + 4 + 3 ≡ 8 * c + (4 + 3) = omega arith in
      rw (a, b, d, e) (omega (arith, at-output c 0 l (omega arith), at-output c 1 l (omega arith), at-output c 2 l (omega arith), at-output c 3 l (omega arith)))

-- The table's number of routes is the model's, up to the cap.
pub routes-counted : (m : Model) (table : List ℕ) → 0 < length m.components → Rising m.components
    → ((c d : ℕ) → is_child m.components c d ≡ true → d < length m.components → is_atomic m.components c ≡ false)
    → WaysCounted m.components m.couplings table
    → min ways_cap (table_routes m.components table) ≡ min ways_cap (length (routes m))
unfolding table_routes
routes-counted m table l r p h = rw (count-routes m r p l) (omega (arith, roots, atoms))
  where
    roots : min ways_cap (four table (8 * 0)) ≡ min ways_cap (ports (down m.components m.couplings 0))
    roots = four-inputs m.components m.couplings table h 0 l

    one : (c : ℕ) → c < length m.components → (b : Bool)
        → min ways_cap (cond b (four table (8 * c + 4)) 0) ≡ min ways_cap (cond b (ports (up m.components m.couplings c)) 0)
    one c i true = four-outputs m.components m.couplings table h c i
    one c i false = refl

    atoms : min ways_cap (sum_of (λ c. cond (is_atomic m.components c) (four table (8 * c + 4)) 0) (up_from 0 (length m.components)))
        ≡ min ways_cap (sum_of (λ c. cond (is_atomic m.components c) (ports (up m.components m.couplings c)) 0) (up_from 0 (length m.components)))
    atoms = min-over _ _ 0 (length m.components) (λ c i. one c (omega arith) (is_atomic m.components c))

-- So it tells whether there are too many.
pub over_limit : (a b : ℕ) → min ways_cap a ≡ min ways_cap b → ltb max_routes (min ways_cap a) ≡ ltb max_routes b
over_limit a b e = go (ltb max_routes b) refl
  where
    go : (t : Bool) → ltb max_routes b ≡ t → ltb max_routes (min ways_cap a) ≡ ltb max_routes b
    go true f = let g = ltb-true max_routes b f in rw f (lt-ltb max_routes (min ways_cap a) (omega arith))
    go false f = let g = ltb-false max_routes b f in rw f (le-ltb max_routes (min ways_cap a) (omega arith))
