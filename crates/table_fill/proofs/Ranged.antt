-- Every word of the filled tables is in range: it is a component, a position, a node or a link, as its place asks. Each way of writing keeps
-- that. Assumes nothing.
use mathlib.Core.Path.{◌≡◌, refl, sym, ap, ◌∙◌, subst}
use Prim.Native.Nat.{ℕ, zero, suc, ◌+◌, ◌-◌, ◌*◌, ◌<◌, ◌≤◌}
use mathlib.Core.List.{List}
use mathlib.Core.Bool.{Bool, true, false, cond}
use native.Mathlib.Omega.{arith}
use lib.ListN.{length, get_or, set}
use lib.Dec.{eqb, ltb}
use borrow.Author.Tests.{eqb-true, ltb-true, ltb-false}
use Rattle.definition.specs.Limits.{max_components, max_couplings}
use Rattle.definition.specs.Model.{Model, Component, Rule, RangeReading, inclusive, half_open, component_at, is_atomic, atomics}
use Rattle.definition.specs.Pinned.Decoder.{kind_fields, root_fields, component_fits}
use Rattle.law_base.proofs.Tests.{and_right}
use Rattle.law_model.proofs.WellFormed.{WellFormed}
use Rattle.law_nest.proofs.Places.{place-below}
use Rattle.law_nest.proofs.Components.{atomic-once}
use Rattle.law_routes.specs.Nodes.{port_nodes}
use Rattle.law_routes.proofs.Placed.{parents}
use Rattle.spec_step.specs.Tables.{numbers_at, positions_at, kinds_at, orders_at, phases_at, parents_at, rules_from_at, rules_to_at, child_at, sibling_at}
use Rattle.spec_step.specs.Tables.{first_at, live_at, next_at, source_at, count_at, atomics_at, ranges_at, atomic_at}
use Rattle.spec_step.specs.Ranges.{max_nodes, InRange, Seated}
use Rattle.spec_step.specs.Tabled.{Tabled, is_live}
use Rattle.spec_step.specs.TablesOf.{TablesOf}
use Rattle.model_records.proofs.Counting.{atomics-most}
use Rattle.table_words.specs.Writes.{column, put_in, linked}
use Rattle.table_words.proofs.Words as W
use Rattle.table_components.specs.declared.Field.TheVariants.{Kind, Parent, Order, Phases, Atomic}
use Rattle.table_components.specs.Columns.{field_at, fields_before, number_at, numbered, rule_names, rule_starts, rule_ends, by_component, by_rule, by_parent}
use Rattle.table_components.proofs.Loops.{fields-more, fields-none}
use Rattle.table_couplings.specs.declared.End.TheVariants.{Source, Target}
use Rattle.table_couplings.proofs.Begun.{zeros-at}
use Rattle.table_couplings.proofs.Nodes.{src-in}
use Rattle.table_couplings.specs.Links.{zeros, begun, link_end, source_flag, spread, spread_up, spread_down, by_link, by_coupling}
use Rattle.table_fill.specs.Filled.{ranges_word, filled}
use Rattle.table_fill.proofs.Allowed.{Allowed, none, small, free, linking, kin, begin, total}
use Rattle.table_fill.proofs.Holding as H
use Rattle.table_fill.proofs.Tables.{tables-hold}

root-parent : (cs : List Component) → component_fits cs 0 ≡ true → (component_at cs 0).parent ≡ 0
unfolding component_fits root_fields
root-parent cs e = eqb-true (component_at cs 0).parent 0 (and_right (eqb (component_at cs 0).kind 0) _ (and_right (kind_fields (component_at cs 0)) _ e))

-- ---- each way of writing

module _ (cs : List Component) (few : length cs ≤ max_components) where
  abbrev n : ℕ
  n = length cs

  abbrev Words : List ℕ → Type 0
  Words = W.Words (Allowed n) (none n)

  -- the atomics before a component are no more than the components before it
  one_each : (c : ℕ) → field_at Atomic cs c ≤ 1
  unfolding field_at
  one_each c = go (eqb (component_at cs c).kind 1)
    where
      go : (b : Bool) → cond {A = ℕ} b 1 0 ≤ 1
      go true = omega arith
      go false = omega arith

  before-few : (c : ℕ) → c ≤ length cs → fields_before Atomic cs c ≤ c
  before-few zero l = omega (arith, fields-none Atomic cs)
  before-few (suc c) l =
      let e : c + 1 ≡ suc c = omega arith in
      omega (arith, before-few c (omega arith), ap (fields_before Atomic cs) e, fields-more Atomic cs c (omega arith), one_each c)

  words-numbered : (m c i : ℕ) (t : List ℕ) → i ≤ c → c + m ≤ length cs → Words t → Words (numbered cs m c (t, i)).0
  unfolding numbered number_at
  words-numbered zero c i t h l w = w
  words-numbered (suc m) c i t h l w = go (is_atomic cs c) (λ i t h w. words-numbered m (c + 1) i t h (omega arith) w)
    where
      go : (b : Bool) → ((i : ℕ) (t : List ℕ) → i ≤ c + 1 → Words t → Words (numbered cs m (c + 1) (t, i)).0) → Words (numbered cs m (c + 1) (cond b (set t (numbers_at + i) c, i + 1) (t, i))).0
      go true ih =
          ih (i + 1) (set t (numbers_at + i) c) (omega arith)
          (W.words-set (Allowed n) (none n) t (numbers_at + i) c w (small n (numbers_at + i) c (omega arith) (λ k. absurd (omega arith)) (omega arith)))
      go false ih = ih i t (omega arith) w

  words-starts : (rs : List Rule) (k : ℕ) (t : List ℕ) → Words t → Words (rule_starts rs k t)
  unfolding rule_starts
  words-starts rs zero t w = w
  words-starts rs (suc k) t w =
      words-starts rs k (put_in rules_from_at max_components (rule_names rs k) k t)
      (W.words-put (Allowed n) (none n) rules_from_at max_components (rule_names rs k) k t w
      (λ l. free n (rules_from_at + rule_names rs k) k (omega arith) (λ a. omega arith) (λ a. omega arith) (λ a. absurd (omega arith)) (omega arith)))

  words-ends : (rs : List Rule) (m i : ℕ) (t : List ℕ) → Words t → Words (rule_ends rs m i t)
  unfolding rule_ends
  words-ends rs zero i t w = w
  words-ends rs (suc m) i t w =
      words-ends rs m (i + 1) (put_in rules_to_at max_components (rule_names rs i) (i + 1) t)
      (W.words-put (Allowed n) (none n) rules_to_at max_components (rule_names rs i) (i + 1) t w
      (λ l. free n (rules_to_at + rule_names rs i) (i + 1) (omega arith) (λ a. omega arith) (λ a. omega arith) (λ a. absurd (omega arith)) (omega arith)))

  words_spread : (x y : ℕ) (t : List ℕ) → Words t → Words (spread x y t)
  unfolding spread
  words_spread x y t w = go (is_live t x)
    where
      live : Words (put_in live_at max_nodes y 1 t)
      live = W.words-put (Allowed n) (none n) live_at max_nodes y 1 t w (λ l. free n (live_at + y) 1 (omega arith) (λ a. omega arith) (λ a. omega arith) (λ a. omega arith) (omega arith))

      go : (b : Bool) → Words (cond b (put_in live_at max_nodes y 1 t) t)
      go true = live
      go false = w

  module _ (src tgt : ℕ → ℕ) where
    words_up : (m : ℕ) (t : List ℕ) → Words t → Words (spread_up src tgt m t)
    unfolding spread_up
    words_up zero t w = w
    words_up (suc j) t w = words_up j (spread (src (suc j)) (tgt (suc j)) t) (words_spread (src (suc j)) (tgt (suc j)) t w)

    words-down : (m j : ℕ) (t : List ℕ) → Words t → Words (spread_down src tgt m j t)
    unfolding spread_down
    words-down zero j t w = w
    words-down (suc m) j t w = words-down m (j + 1) (spread (src j) (tgt j) t) (words_spread (src j) (tgt j) t w)

  -- ---- the parts of the tables

  words-columns : (par : (c : ℕ) → c < length cs → (component_at cs c).parent < max_components) (t : List ℕ) → Words t → Words (by_component cs t)
  unfolding by_component field_at
  words-columns par t w =
      let s0 = (numbered cs (length cs) 0 (t, 0)).0 in
      let s1 = column positions_at (fields_before Atomic cs) (length cs) 0 s0 in
      let s2 = column kinds_at (field_at Kind cs) (length cs) 0 s1 in
      let s3 = column orders_at (field_at Order cs) (length cs) 0 s2 in
      let s4 = column phases_at (fields_before Phases cs) (length cs) 0 s3 in
      col parents_at (field_at Parent cs) s4 (λ k l. small n (parents_at + k) (component_at cs k).parent (omega arith) (λ a. omega arith) (par k l))
      (col phases_at (fields_before Phases cs) s3 (λ k l. free n (phases_at + k) (fields_before Phases cs k) (omega arith) (λ a. omega arith) (λ a. absurd (omega arith)) (λ a. absurd (omega arith)) (omega arith))
      (col orders_at (field_at Order cs) s2 (λ k l. free n (orders_at + k) (component_at cs k).order (omega arith) (λ a. omega arith) (λ a. absurd (omega arith)) (λ a. absurd (omega arith)) (omega arith))
      (col kinds_at (field_at Kind cs) s1 (λ k l. free n (kinds_at + k) (component_at cs k).kind (omega arith) (λ a. absurd (omega arith)) (λ a. absurd (omega arith)) (λ a. absurd (omega arith)) (omega arith))
      (col positions_at (fields_before Atomic cs) s0 (λ k l. small n (positions_at + k) (fields_before Atomic cs k) (omega arith) (λ a. absurd (omega arith)) (omega (arith, before-few k (omega arith))))
      (words-numbered (length cs) 0 0 t (omega arith) (omega arith) w)))))
    where
      col : (at : ℕ) (f : ℕ → ℕ) (t : List ℕ) → ((k : ℕ) → k < length cs → Allowed n (at + k) (f k)) → Words t → Words (column at f (length cs) 0 t)
      col at f t h w = W.words-column (Allowed n) (none n) at f (length cs) 0 t w (λ k a b. h k (omega arith))

  words-rules : (rs : List Rule) (t : List ℕ) → Words t → Words (by_rule rs t)
  unfolding by_rule
  words-rules rs t w = words-ends rs (length rs) 0 (rule_starts rs (length rs) t) (words-starts rs (length rs) t w)

  words-kin : (up : (c : ℕ) → 0 < c → c < length cs → (component_at cs c).parent < c) (t : List ℕ) → ((x : ℕ) → child_at ≤ x → x < sibling_at → get_or t x 0 ≡ 0) → Words t → Words (by_parent cs t)
  unfolding by_parent field_at
  words-kin up t z w =
      W.words-linked (Allowed n) (none n) child_at max_components sibling_at (field_at Parent cs) (length cs - 1)
      (λ j k p l b v a q. kin n sibling_at j v (omega arith) (omega arith) (λ s. absurd (omega arith)) (omega arith) (a.children (omega arith) (omega arith)).0 q)
      (λ j p l b. kin n child_at (component_at cs j).parent j (omega arith) (omega arith) (λ s. refl) b (omega arith) (λ q. up j p (omega arith)))
      (omega arith) (length cs - 1) t (omega arith) (λ k b p. absurd (omega (arith, z (child_at + k) (omega arith) (omega arith)))) w

  -- the couplings' part, from the nodes of m links
  module _ (src tgt : ℕ → ℕ) (m : ℕ) (most : m ≤ max_couplings) (begins : (j : ℕ) → 0 < j → j ≤ m → src j < max_nodes) where
    words-chains : (t : List ℕ) → ((x : ℕ) → first_at ≤ x → x < live_at → get_or t x 0 ≡ 0) → Words t → Words (linked first_at max_nodes next_at tgt m t)
    words-chains t z w =
        W.words-linked (Allowed n) (none n) first_at max_nodes next_at tgt m
        (λ j k p l b v a q. linking n (next_at + j) v (omega arith) (omega arith) (a.firsts (omega arith) (omega arith)))
        (λ j p l b. linking n (first_at + tgt j) j (omega arith) (omega arith) (omega arith))
        (omega arith) m t (omega arith) (λ k b p. absurd (omega (arith, z (first_at + k) (omega arith) (omega arith)))) w

    words-sources : (t : List ℕ) → Words t → Words (column (source_at + 1) (λ i. src (1 + i)) m 0 t)
    words-sources t w =
        W.words-column (Allowed n) (none n) (source_at + 1) (λ i. src (1 + i)) m 0 t w (λ k a b. begin n (source_at + 1 + k) (src (1 + k)) (omega arith) (omega arith) (begins (1 + k) (omega arith) (omega arith)))

    words-live : (t : List ℕ) → Words t → Words (spread_down src tgt m 1 (spread_up src tgt m (column live_at (source_flag cs) (port_nodes * length cs) 0 t)))
    words-live t w =
        let s = column live_at (source_flag cs) (port_nodes * length cs) 0 t in
        words-down src tgt m 1 (spread_up src tgt m s) (words_up src tgt m s
        (W.words-column (Allowed n) (none n) live_at (source_flag cs) (port_nodes * length cs) 0 t w
        (λ k a b. free n (live_at + k) (source_flag cs k) (omega arith) (λ c. omega arith) (λ c. omega arith) (λ c. omega arith) (omega arith))))

  -- ---- what that gives

  ranged : (t : List ℕ) → Words t → InRange t
  ranged t w = record {
    numbers = λ c l. (w (numbers_at + c)).numbers (omega arith);
    positions = λ c l. (w (positions_at + c)).numbers (omega arith);
    parents = λ c l. (w (parents_at + c)).parents (omega arith) (omega arith);
    children = λ c l. ((w (child_at + c)).children (omega arith) (omega arith)).0;
    siblings = λ c l. ((w (sibling_at + c)).siblings (omega arith) (omega arith)).0;
    children_rise = λ c l p. omega (arith, ((w (child_at + c)).children (omega arith) (omega arith)).1 p);
    siblings_rise = λ c l p. omega (arith, ((w (sibling_at + c)).siblings (omega arith) (omega arith)).1 p);
    firsts = λ x l. (w (first_at + x)).firsts (omega arith) (omega arith);
    nexts = λ j l. (w (next_at + j)).nexts (omega arith) (omega arith);
    sources = λ j l. (w (source_at + j)).sources (omega arith) (omega arith);
    count = (w count_at).counts (omega arith);
    atomics = (w atomics_at).counts (omega arith);
  }

-- ---- the filled tables of a sound model

module _ (m : Model) (w : WellFormed m) where
  words-filled : Words m.components w.components.few (filled m.components m.rules m.couplings m.ranges)
  unfolding filled begun by_coupling by_link
  words-filled =
      let cs = m.components in
      let ks = m.couplings in
      let few = w.components.few in
      let src = link_end Source cs ks in
      let tgt = link_end Target cs ks in
      let most = w.couplings.few in
      let above : (c : ℕ) → 0 < c → c < length cs → (component_at cs c).parent < c = λ c p l. (parents cs w.components.fit c p l).0 in
      let begins : (j : ℕ) → 0 < j → j ≤ length ks → src j < max_nodes = λ j p l. omega (arith, src-in cs ks w.couplings.fit j p l, few) in
      let t0 = begun cs ks zeros in
      let t1 = by_component cs t0 in
      let t2 = by_rule m.rules t1 in
      let t3 = by_parent cs t2 in
      let w0 : Words cs few t0 = words-sources cs few src tgt (length ks) most begins zeros (λ x. subst (Allowed (length cs) x) (sym (zeros-at x)) (none (length cs) x)) in
      let w2 : Words cs few t2 = words-rules cs few m.rules t1 (words-columns cs few parent-small t0 w0) in
      let w3 : Words cs few t3 = words-kin cs few above t2 (λ x a b. H.zero2 cs m.rules ks m.ranges few most x a (omega arith)) w2 in
      let w4 : Words cs few (by_coupling cs ks t3) = words-live cs few src tgt (length ks) most begins (linked first_at max_nodes next_at tgt (length ks) t3)
      (words-chains cs few src tgt (length ks) most begins t3 (λ x a b. H.zero3 cs m.rules ks m.ranges few most x a (omega arith)) w3) in
      let w5 : Words cs few (set (set (by_coupling cs ks t3) count_at (length cs)) atomics_at (length (atomics cs)))
      = counted atomics_at (length (atomics cs)) (set (by_coupling cs ks t3) count_at (length cs)) (omega arith) (omega (arith, atomics-most cs, few))
      (counted count_at (length cs) (by_coupling cs ks t3) (omega arith) few w4) in
      counted ranges_at (ranges_word m.ranges) (set (set (by_coupling cs ks t3) count_at (length cs)) atomics_at (length (atomics cs))) (omega arith) (small m.ranges) w5
    where
      small : (r : RangeReading) → ranges_word r ≤ max_components
      small inclusive = omega arith
      small half_open = omega arith

      counted : (x v : ℕ) (t : List ℕ) → count_at ≤ x → v ≤ max_components → Words m.components w.components.few t → Words m.components w.components.few (set t x v)
      counted x v t l b h = W.words-set (Allowed (length m.components)) (none (length m.components)) t x v h (total (length m.components) x v l b)

      parent-small : (c : ℕ) → c < length m.components → (component_at m.components c).parent < max_components
      parent-small zero l = omega (arith, root-parent m.components (w.components.fit 0 l))
      parent-small (suc c) l = omega (arith, (parents m.components w.components.fit (suc c) (omega arith) l).0, w.components.few)

  -- the positions are those of its atomics
  seated : Seated (length (atomics m.components)) (filled m.components m.rules m.couplings m.ranges)
  unfolding atomic_at
  seated c l e = go (ltb c (length m.components)) refl
    where
      s : List ℕ
      s = filled m.components m.rules m.couplings m.ranges

      h : Tabled m s
      h = tables-hold m w

      known : get_or s (kinds_at + c) 0 ≡ (component_at m.components c).kind → is_atomic m.components c ≡ true
      known q = unfold is_atomic in (ap (λ k. eqb k 1) (sym q) ∙ e)

      go : (b : Bool) → ltb c (length m.components) ≡ b → get_or s (positions_at + c) 0 < length (atomics m.components)
      go true b =
          let k : is_atomic m.components c ≡ true = known (h.kinds c (ltb-true c (length m.components) b)) in
          let o = atomic-once m.components w.components.fit w.some_component c k in
          omega (arith, h.positions c k, place-below c (atomics m.components) (omega arith))
      go false b =
          absurd (omega (arith, eqb-true (get_or s (kinds_at + c) 0) 1 e, (words-filled (kinds_at + c)).kinds (omega (arith, ltb-false c (length m.components) b)) (omega arith)))

  -- what a call takes of them
  pub tables-of : TablesOf m (filled m.components m.rules m.couplings m.ranges)
  tables-of = record {
    tabled = tables-hold m w;
    few = omega (arith, atomics-most m.components, w.components.few);
    in_range = ranged m.components w.components.few (filled m.components m.rules m.couplings m.ranges) words-filled;
    seated = seated;
  }
