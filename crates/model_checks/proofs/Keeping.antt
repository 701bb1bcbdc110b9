-- What is known of the first n components, from none to all of them: where one more is accepted, there is a place for it, and what is kept
-- of it is known too. Assumes nothing.
use mathlib.Core.Path.{◌≡◌, refl, sym, ap, ◌∙◌}
use mathlib.Core.List.{List}
use mathlib.Core.Bool.{Bool, true, false, ◌&&◌, and-false}
use Prim.Native.Nat.{ℕ, ◌+◌, ◌<◌}
use lib.Dec.{leb, ltb, eqb}
use lib.ListN.{length, get_or}
use borrow.Author.Tests.{eqb-true, eqb-false, ltb-true, ltb-false}
use Rattle.definition.specs.Limits.{max_components, max_ancestors}
use Rattle.definition.specs.Model.{Component, component_at}
use Rattle.definition.specs.Pinned.Decoder.{kind_fields, root_within, component_fits}
use Rattle.model_checks.specs.Known.{Accepted, Parents, PhaseCounts, Depths, fits_behind, Next, Keepable, Keeps, depth_of}
use Rattle.model_checks.proofs.Kept.{each_none, each_more, accepted-none, accepted-more, depth-root, misplaced, fits_by, over_below, depth-fits, deeper}

-- The lines of a record, by what is known of those before it, are its lines.
pub fits-known : {cs : List Component} {i : ℕ} {counts depths : List ℕ} {k : Component} → Next cs i counts depths → k ≡ component_at cs i
    → fits_behind k i counts depths ≡ component_fits cs i
unfolding fits_behind component_fits
fits-known {cs} {i} {counts} {depths} {k} next is = go (eqb i 0) refl (ltb k.parent i) refl
  where
    e : k.parent ≡ (component_at cs i).parent
    e = ap (λ k. k.parent) is

    early : eqb i 0 ≡ false → ltb k.parent i ≡ true
        → fits_behind k i counts depths ≡ (kind_fields (component_at cs i) && (eqb (get_or counts k.parent 0) 0 && ltb (get_or depths k.parent 0) max_ancestors))
    early f g = rw (f, g, ← is)

    late : eqb i 0 ≡ false → ltb k.parent i ≡ false → fits_behind k i counts depths ≡ false
    late f g = rw (f, g) (simp and-false)

    go : (t : Bool) → eqb i 0 ≡ t → (u : Bool) → ltb k.parent i ≡ u → fits_behind k i counts depths ≡ component_fits cs i
    go true f u g = rw (f, is)
    go false f true g = early f g ∙ fits_by cs i k.parent (eqb-false i 0 f) e depths next.deep counts next.counted next.accepted (ltb-true k.parent i g)
    go false f false g = late f g ∙ sym (misplaced cs i k.parent (eqb-false i 0 f) e (ltb-false k.parent i g))

pub record FirstKnown (cs : List Component) (n : ℕ) (parents counts depths : List ℕ) : Type 0 where
  pub accepted : Accepted cs n
  pub placed : Parents cs n parents
  pub counted : PhaseCounts cs n counts
  pub deep : Depths cs n depths

module _ {cs : List Component} {parents counts depths : List ℕ} where
  pub known-none : length parents ≡ max_components → length counts ≡ max_components → length depths ≡ max_components → FirstKnown cs 0 parents counts depths
  known-none e f g = record { accepted = accepted-none cs; placed = each_none _ _ e; counted = each_none _ _ f; deep = each_none _ _ g }

  module _ {n : ℕ} (known : FirstKnown cs n parents counts depths) where
    pub known_next : n < length cs → Next cs n counts depths
    known_next l = record { there = l; accepted = known.accepted; counted = known.counted; deep = known.deep }

    -- Component n is k, and it is accepted.
    module _ {k : Component} (l : n < max_components) (is : k ≡ component_at cs n) (fits : component_fits cs n ≡ true) where
      parent_is : k.parent ≡ (component_at cs n).parent
      parent_is = ap (λ k. k.parent) is

      pub known-keepable : Keepable k n parents counts depths
      known-keepable = record {
        few = l;
        parents_room = known.placed.room;
        counts_room = known.counted.room;
        depths_room = known.deep.room;
        below = λ z. over_below cs n k.parent z parent_is depths known.deep fits;
        shallow = λ z. depth-fits cs n k.parent z parent_is depths known.deep fits;
      }

      depth_is : (most : ℕ) → root_within most cs n ≡ leb (depth_of k n depths) most
      depth_is most = go (eqb n 0) refl
        where
          go : (t : Bool) → eqb n 0 ≡ t → root_within most cs n ≡ leb (depth_of k n depths) most
          go true e = rw e (depth-root cs n (eqb-true n 0 e) most)
          go false e = rw e (deeper cs n k.parent (eqb-false n 0 e) parent_is depths known.deep fits most)

      pub known_more : {parents' counts' depths' : List ℕ} → Keeps k n parents counts depths parents' counts' depths' → FirstKnown cs (n + 1) parents' counts' depths'
      known_more h = record {
        accepted = accepted-more cs n known.accepted l fits;
        placed = rw h.parent (each_more _ n parents k.parent l known.placed parent_is);
        counted = rw h.count (each_more _ n counts k.phases l known.counted (ap (λ k. k.phases) is));
        deep = rw h.depth (each_more _ n depths (depth_of k n depths) l known.deep depth_is);
      }
