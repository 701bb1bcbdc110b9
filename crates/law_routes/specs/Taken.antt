-- The table of ways while the couplings are taken one by one, each in its turn. Assumes nothing.
use Rattle.std.specs.Prelude.{◌≡◌, ℕ, ◌+◌, ◌*◌, ◌<◌, min, List, Bool, ◌&&◌, ◌||◌, cond, eqb, ltb, leb, length, get_or, set}
use Rattle.definition.specs.Lists.{up_from}
use Rattle.definition.specs.Model.{Component, Coupling, no_coupling, is_child}
use Rattle.law_base.proofs.Sums.{sum_of}
use Rattle.law_routes.specs.Nodes.{port_nodes, source_number, target_number}
use Rattle.law_routes.specs.Ways.{ways_on, end_at, ways_cap}

-- A coupling taken: the ways on from where it ends are ways on from where it begins.
unfoldable pub taken : List Component → Coupling → List ℕ → List ℕ
taken cs k table = set table (source_number cs k) (min ways_cap (get_or table (source_number cs k) 0 + get_or table (target_number cs k) 0))

-- It is taken in the first pass where it leads down, and in the second where it does not.
unfoldable pub taken_down : List Component → Coupling → List ℕ → List ℕ
taken_down cs k table = cond (is_child cs k.source k.target) (taken cs k table) table

unfoldable pub taken_up : List Component → Coupling → List ℕ → List ℕ
taken_up cs k table = cond (is_child cs k.source k.target) table (taken cs k table)

module _ (cs : List Component) (ks : List Coupling) where
  -- What coupling j adds to node x, in the end.
  unfoldable pub gain : ℕ → ℕ → ℕ
  gain x j = cond (eqb (source_number cs (get_or ks j no_coupling)) x) (ways_on cs ks (target_number cs (get_or ks j no_coupling))) 0

  -- The table when the couplings that pass a test have been taken.
  abbrev pub Filled : (ℕ → Bool) → List ℕ → Type 0
  Filled done table = (x : ℕ) → x < port_nodes * length cs
      → get_or table x 0 ≡ min ways_cap (end_at cs x + sum_of (λ j. cond (done j) (gain x j) 0) (up_from 0 (length ks)))

  unfoldable pub leads_down : ℕ → Bool
  leads_down j = is_child cs (get_or ks j no_coupling).source (get_or ks j no_coupling).target

  -- Those that lead down from number i on; and those with all others below i.
  abbrev pub down_from : ℕ → ℕ → Bool
  down_from i j = leads_down j && leb i j

  abbrev pub up_to : ℕ → ℕ → Bool
  up_to i j = leads_down j || ltb j i
