-- What the resultants of a nest hand an atomic in a transition, from any state: at most what the routes may carry to it. The account is one of
-- numbers alone: for each level, what its parts send each other and what goes out of it. Assumes nothing.
use mathlib.Core.Path.{◌≡◌, refl, sym, ap, ap₂}
use Prim.Native.Nat.{ℕ, ◌+◌, ◌*◌, ◌≤◌}
use mathlib.Core.List.{List, [], ◌∷◌, ◌++◌, map}
use mathlib.Core.Bool.{Bool, true, false, ◌&&◌, cond}
use native.Mathlib.Omega.{arith}
use lib.Dec.{eqb}
use lib.ListN.{length}
use Rattle.definition.specs.Lists.{concat}
use Rattle.definition.specs.Limits.{max_outputs}
use Rattle.definition.specs.Model.{Bag, Model, phase_at, outputs, Tree, Forest, leaf, node, stop, more, name_of, tree}
use Rattle.definition.specs.Routes.{ports_to, Port, ends_in, ends_from, ways_from, ways_from_all, root_ends}
use Rattle.definition.specs.Devs.{Time, same_time, Totals, translate, sigma, least_sigma, outputs_to, resultant_out}
use Rattle.definition.specs.Atomic.{devs_of, parts_of}
use Rattle.definition.specs.AtomicBags.{ending_at}
use Rattle.law_base.proofs.Sums.{sum_of, sum_ones}
use Rattle.law_model.proofs.WellFormed.{WellFormed}
use Rattle.law_model.proofs.PhaseRange.{outputs-fit}
use Rattle.law_nest.proofs.Hits.{over, translate-cond, hits, Sender, gathered, hits-nil, hits-leaf, hits-down, hits-up}
use Rattle.law_nest.proofs.Carry.{root-hits}
use Rattle.law_nest.proofs.Capacity.{ending-append, route-carries, outputs-few, few-if, fit-if}

module _ (m : Model) where
  -- ---- what the parts send

  -- the parts of a forest, each with its output where it is imminent
  unfoldable pub sending : (Time → Bool) → (f : Forest) → Totals (parts_of m f) → List Sender
  sending imminent stop s = []
  sending imminent (more t f) s = (name_of t, cond (imminent (sigma (devs_of m t) s.0)) ((devs_of m t).out s.0.0) []) ∷ sending imminent f s.1

  pub sent-to : (u : Time) (f : Forest) (s : Totals (parts_of m f)) (to : ℕ) → outputs_to m.couplings to u (parts_of m f) s ≡ gathered m.couplings (sending (λ v. same_time v u) f s) to
  unfolding outputs_to sending gathered
  sent-to u stop s to = refl
  sent-to u (more t f) s to = ap₂ ◌++◌ (sym (translate-cond m.couplings (name_of t) to (same_time (sigma (devs_of m t) s.0) u) ((devs_of m t).out s.0.0))) (sent-to u f s.1 to)

  pub none-sent : (f : Forest) (s : Totals (parts_of m f)) (to : ℕ) → gathered m.couplings (sending (λ v. false) f s) to ≡ []
  unfolding sending gathered translate
  none-sent stop s to = refl
  none-sent (more t f) s to = none-sent f s.1 to

  -- the parts of a coupled component that are imminent with it
  abbrev pub imminent_in : (f : Forest) → Totals (parts_of m f) → Bool → Time → Bool
  imminent_in f s b u = b && same_time u (least_sigma (parts_of m f) s)

  -- what they send is its output
  out-sent : (b : Bool) (c : ℕ) (f : Forest) (s : Totals (parts_of m f)) → cond b ((devs_of m (node c f)).out s) [] ≡ gathered m.couplings (sending (imminent_in f s b) f s) c
  unfolding resultant_out
  out-sent true c f s = sent-to (least_sigma (parts_of m f) s) f s c
  out-sent false c f s = sym (none-sent f s c)

  -- ---- how many messages the atomic a is handed

  module _ (a : ℕ) where
    unfoldable mutual
      pub handed : (t : Tree) → (devs_of m t).State → Bool → Bag → ℕ
      handed (leaf c) s b x = cond (eqb c a) (length x) 0
      handed (node c f) s b x = handed_all f s (imminent_in f s b) (λ d. gathered m.couplings (sending (imminent_in f s b) f s) d ++ translate m.couplings c d x)

      pub handed_all : (f : Forest) → Totals (parts_of m f) → (Time → Bool) → (ℕ → Bag) → ℕ
      handed_all stop s imminent input = 0
      handed_all (more t f) s imminent input = handed t s.0.0 (imminent (sigma (devs_of m t) s.0)) (input (name_of t)) + handed_all f s.1 imminent input

    module _ (w : WellFormed m) where
      -- each atomic sends at most 4 messages: what a is handed in a tree, and what the ways on bring it of the tree's output
      mutual
        unfolding handed ways_from ends_in over sending sum_of

        pub handed-few : (t : Tree) (s : (devs_of m t).State) (b : Bool) (x : Bag) (ends : ℕ → List Port)
            → handed t s b x + hits a (λ z. 1) ends (cond b ((devs_of m t).out s) []) ≤ hits a (λ z. 1) (ends_in m.couplings t) x + max_outputs * ending_at a (ways_from m.couplings ends t)
        handed-few (leaf c) s b x ends =
            let p = phase_at m c s.phase in
            let y = outputs p in
            omega (
              arith,
              hits-leaf m.couplings a (λ z. 1) c x,
              ap (λ k. cond (eqb c a) k 0) (sum_ones x),
              route-carries a max_outputs c ends (cond b y []) (few-if b max_outputs y (outputs-few p)) (fit-if b y (outputs-fit m w c s.phase)),
            )
        handed-few (node c f) s b x ends =
            let ps = sending (imminent_in f s b) f s in
            omega (
              arith,
              all-few f s (imminent_in f s b) (λ d. gathered m.couplings ps d ++ translate m.couplings c d x) (λ d q. ends_from m.couplings d f q ++ concat (map ends (ports_to m.couplings d c q))),
              hits-down m.couplings a (λ z. 1) c f (gathered m.couplings ps) x,
              hits-up m.couplings a (λ z. 1) ends c f ps,
              ap (hits a (λ z. 1) ends) (out-sent b c f s),
            )

        all-few : (f : Forest) (s : Totals (parts_of m f)) (imminent : Time → Bool) (input : ℕ → Bag) (ends : ℕ → ℕ → List Port)
            → handed_all f s imminent input + sum_of (λ p. hits a (λ z. 1) (ends p.0) p.1) (sending imminent f s)
            ≤ over (λ j. hits a (λ z. 1) (ends_in m.couplings j) (input (name_of j))) f + max_outputs * ending_at a (ways_from_all m.couplings ends f)
        all-few stop s imminent input ends = omega arith
        all-few (more t f) s imminent input ends =
            omega (
              arith,
              handed-few t s.0.0 (imminent (sigma (devs_of m t) s.0)) (input (name_of t)) (ends (name_of t)),
              all-few f s.1 imminent input ends,
              ap (λ k. max_outputs * k) (ending-append a (ways_from m.couplings (ends (name_of t)) t) (ways_from_all m.couplings ends f)),
            )

  -- ---- out of the root

  -- at most 4 messages a route, from any state
  pub root-out-few : WellFormed m → (s : (devs_of m (tree m)).State) → length ((devs_of m (tree m)).out s) ≤ max_outputs * ending_at 0 (ways_from m.couplings root_ends (tree m))
  root-out-few w s =
      let out = (devs_of m (tree m)).out s in
      omega (
        arith,
        handed-few 0 w (tree m) s true [] root_ends,
        hits-nil m.couplings 0 (λ z. 1) (ends_in m.couplings (tree m)),
        root-hits 0 (λ z. 1) out,
        sum_ones out,
      )
