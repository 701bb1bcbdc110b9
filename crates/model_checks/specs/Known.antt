-- What small arrays hold of the first n components, once these are accepted: rules and couplings are then checked by one load instead of a
-- record. Assumes nothing.
use Rattle.std.specs.Prelude.{◌≡◌, List, Bool, true, ◌&&◌, cond, ℕ, zero, suc, ◌+◌, ◌≤◌, ◌<◌, leb, ltb, eqb, length, get_or, set}
use Rattle.definition.specs.Limits.{max_components, max_ancestors}
use Rattle.definition.specs.Model.{Component, Rule, Coupling, component_at, no_coupling}
use Rattle.definition.specs.Pinned.Decoder.{kind_fields, root_fields, root_within, component_fits}
use Rattle.law_base.specs.Keys as Keys

pub record Accepted (cs : List Component) (n : ℕ) : Type 0 where
  pub few : n ≤ max_components
  pub fit : (c : ℕ) → c < n → component_fits cs c ≡ true

-- An array with a place for every component, of which entry c, for each of the first n, is as `is` says.
pub record Each (is : ℕ → ℕ → Type 0) (n : ℕ) (array : List ℕ) : Type 0 where
  pub room : length array ≡ max_components
  pub holds : (c : ℕ) → c < n → is c (get_or array c 0)

abbrev pub Parents : List Component → ℕ → List ℕ → Type 0
Parents cs n array = Each (λ c over. over ≡ (component_at cs c).parent) n array

abbrev pub PhaseCounts : List Component → ℕ → List ℕ → Type 0
PhaseCounts cs n array = Each (λ c count. count ≡ (component_at cs c).phases) n array

-- So many times one goes up to the root.
abbrev pub Depths : List Component → ℕ → List ℕ → Type 0
Depths cs n array = Each (λ c depth. (most : ℕ) → root_within most cs c ≡ leb depth most) n array

-- ---- one more component

-- Two arrays with a place for each of the first n components.
pub record Room (n : ℕ) (counts depths : List ℕ) : Type 0 where
  pub few : n ≤ max_components
  pub counts_room : length counts ≡ max_components
  pub depths_room : length depths ≡ max_components

-- The lines of component k, of number i, by the phase counts and depths of those before it.
unfoldable pub fits_behind : Component → ℕ → List ℕ → List ℕ → Bool
fits_behind k i counts depths =
    kind_fields k
    && cond (eqb i 0) (root_fields k) (ltb k.parent i && (eqb (get_or counts k.parent 0) 0 && ltb (get_or depths k.parent 0) max_ancestors))

-- Record i is the next to be read: it is there, and this is known of those before it.
pub record Next (cs : List Component) (i : ℕ) (counts depths : List ℕ) : Type 0 where
  pub there : i < length cs
  pub accepted : Accepted cs i
  pub counted : PhaseCounts cs i counts
  pub deep : Depths cs i depths

-- One more than its parent's depth; 0 for the root.
abbrev pub depth_of : Component → ℕ → List ℕ → ℕ
depth_of k i depths = cond (eqb i 0) 0 (get_or depths k.parent 0 + 1)

-- Each array has a place for component k, of number i, and its depth is a byte.
pub record Keepable (k : Component) (i : ℕ) (parents counts depths : List ℕ) : Type 0 where
  pub few : i < max_components
  pub parents_room : length parents ≡ max_components
  pub counts_room : length counts ≡ max_components
  pub depths_room : length depths ≡ max_components
  pub below : (i ≡ 0 → ⊥) → k.parent < i
  pub shallow : (i ≡ 0 → ⊥) → get_or depths k.parent 0 < max_ancestors

-- It is kept there.
pub record Keeps (k : Component) (i : ℕ) (parents counts depths parents' counts' depths' : List ℕ) : Type 0 where
  pub parent : parents' ≡ set parents i k.parent
  pub count : counts' ≡ set counts i k.phases
  pub depth : depths' ≡ set depths i (depth_of k i depths)

-- ---- all components

pub record CountsKnown (cs : List Component) (counts : List ℕ) : Type 0 where
  pub accepted : Accepted cs (length cs)
  pub counted : PhaseCounts cs (length cs) counts

pub record Placed (cs : List Component) (parents : List ℕ) : Type 0 where
  pub accepted : Accepted cs (length cs)
  pub stand : Parents cs (length cs) parents

-- Source and target are components, and it is known where all stand.
pub record EndsThere (cs : List Component) (source target : ℕ) (parents : List ℕ) : Type 0 where
  pub source_there : source < length cs
  pub target_there : target < length cs
  pub placed : Placed cs parents

-- ---- rules and couplings

-- Rule i is the next to be read, and the phase counts of all components are known.
pub record NextRule (cs : List Component) (counts : List ℕ) (rules : List Rule) (i : ℕ) : Type 0 where
  pub there : i < length rules
  pub known : CountsKnown cs counts

-- The key of the row before row i; the lowest key before the first.
abbrev pub Behind : List Coupling → ℕ → ℕ → Type 0
Behind ks zero key = key ≡ 0
Behind ks (suc i) key = Keys.coupling_of key ≡ get_or ks i no_coupling

-- Row i is the next to be read, behind a row of that key.
pub record NextRow (cs : List Component) (parents : List ℕ) (ks : List Coupling) (i before : ℕ) : Type 0 where
  pub there : i < length ks
  pub behind : Behind ks i before
  pub placed : Placed cs parents
