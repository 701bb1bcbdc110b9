-- The tables of a call, as they are filled from a sound model, hold what the step's laws ask of them. Each part writes its own places, so
-- that what one part wrote stands in the end. Assumes nothing.
use mathlib.Core.Path.{◌≡◌, refl, sym, ap, ◌∙◌}
use Prim.Native.Nat.{ℕ, ◌+◌, ◌-◌, ◌*◌, ◌<◌, ◌≤◌}
use mathlib.Core.List.{List, map}
use mathlib.Core.Bool.{not}
use mathlib.Core.Logic.{inl, inr}
use native.Mathlib.Omega.{arith}
use lib.ListN.{length, get_or, set, length-set}
use lib.Seq.{get_or-set_same, get_or-set_other}
use lib.Dec.{eqb}
use Rattle.definition.specs.Limits.{max_components, max_couplings}
use Rattle.definition.specs.Lists.{keep}
use Rattle.definition.specs.Model.{Component, Rule, Coupling, RangeReading, inclusive, half_open, no_coupling, atomics, children}
use Rattle.law_base.specs.Ranges.{ranges_of}
use Rattle.law_routes.specs.Nodes.{port_nodes, source_number, target_number}
use Rattle.spec_step.specs.Tables.{numbers_at, rules_from_at, rules_to_at, child_at, sibling_at, first_at, live_at, next_at, source_at, count_at, atomics_at, ranges_at, table_size, atomics_in, ranges_in, chain_rows, child_rows}
use Rattle.spec_step.specs.Tabled.{is_live}
use Rattle.table_words.specs.Writes.{column, linked}
use Rattle.table_words.proofs.Columns.{Within, within_both, within-set, column-within}
use Rattle.table_words.proofs.Chains.{having, linked-else, linked_long}
use Rattle.table_components.specs.declared.Field.TheVariants.{Parent}
use Rattle.table_components.specs.Columns.{field_at, rule_names, rule_starts, by_component, by_rule, by_parent}
use Rattle.table_couplings.specs.declared.End.TheVariants.{Source, Target}
use Rattle.table_couplings.specs.Links.{link_end, zeros, begun, source_flag, spread_up, spread_down, by_link, by_coupling}
use Rattle.table_couplings.proofs.Begun.{zeros-long, zeros-at, begun-within, begun-at}
use Rattle.table_couplings.proofs.Order.{up-within}
use Rattle.table_fill.specs.Filled.{ranges_word, filled}
use Rattle.table_fill.proofs.Rows.{components-within}
use Rattle.table_fill.proofs.Ranges.{starts-within, ends-within, starts-right, ends-right, ends-in}
use Rattle.table_fill.proofs.Links.{linked-rows, child-links, coupling-links}
use Rattle.table_fill.proofs.Live.{nodes, down-within}

module _ (cs : List Component) (rs : List Rule) (ks : List Coupling) (ranges : RangeReading) (few : length cs ≤ max_components) (short : length ks ≤ max_couplings) where
  abbrev pub t0 : List ℕ
  t0 = begun cs ks zeros

  abbrev t1 : List ℕ
  t1 = by_component cs t0

  abbrev t2 : List ℕ
  t2 = by_rule rs t1

  abbrev t3 : List ℕ
  t3 = by_parent cs t2

  abbrev src : ℕ → ℕ
  src = link_end Source cs ks

  abbrev tgt : ℕ → ℕ
  tgt = link_end Target cs ks

  abbrev pub chains : List ℕ
  chains = linked first_at nodes next_at tgt (length ks) t3

  abbrev pub marked : List ℕ
  marked = column live_at (source_flag cs) (port_nodes * length cs) 0 chains

  abbrev pub up : List ℕ
  up = spread_up src tgt (length ks) marked

  abbrev pub down : List ℕ
  down = spread_down src tgt (length ks) 1 up

  abbrev counted : List ℕ
  counted = set down count_at (length cs)

  abbrev numbered : List ℕ
  numbered = set counted atomics_at (length (atomics cs))

  abbrev pub t5 : List ℕ
  t5 = set numbered ranges_at (ranges_word ranges)

  pub is-filled : filled cs rs ks ranges ≡ t5
  unfolding filled by_coupling by_link
  is-filled = refl

  -- ---- which places each part writes

  w0 : Within (source_at + 1) count_at zeros t0
  w0 =
      let w = begun-within cs ks zeros in
      record { below = λ x h. w.below x h; above = λ x h. w.above x (omega arith); long = w.long }

  pub l0 : length t0 ≡ table_size
  l0 = w0.long ∙ zeros-long

  w1 : Within numbers_at rules_from_at t0 t1
  w1 = components-within cs t0 l0 few

  w2 : Within rules_from_at child_at t1 t2
  unfolding by_rule
  w2 =
      within_both {a = rules_from_at} {b = rules_from_at + max_components} {c = rules_to_at} {d = rules_to_at + max_components} (omega arith) (omega arith) (omega arith) (omega arith)
      (starts-within rs (length rs) t1) (ends-within rs (length rs) 0 (rule_starts rs (length rs) t1))

  w3 : Within child_at first_at t2 t3
  unfolding by_parent
  w3 = record {
    below = λ x h. linked-else child_at max_components sibling_at (omega arith) (field_at Parent cs) (length cs - 1) t2 x (inl (omega arith)) (inl (omega arith));
    above = λ x h. linked-else child_at max_components sibling_at (omega arith) (field_at Parent cs) (length cs - 1) t2 x (inr (omega arith)) (inr (omega arith));
    long = linked_long child_at max_components sibling_at (omega arith) (field_at Parent cs) (length cs - 1) t2;
  }

  wc : Within first_at source_at t3 chains
  wc = record {
    below = λ x h. linked-else first_at nodes next_at (omega arith) tgt (length ks) t3 x (inl (omega arith)) (inl (omega arith));
    above = λ x h. linked-else first_at nodes next_at (omega arith) tgt (length ks) t3 x (inr (omega arith)) (inr (omega arith));
    long = linked_long first_at nodes next_at (omega arith) tgt (length ks) t3;
  }

  wm : Within live_at (live_at + port_nodes * length cs) chains marked
  wm = column-within live_at (source_flag cs) (port_nodes * length cs) chains

  wu : Within live_at (live_at + nodes) marked up
  wu = up-within src tgt (length ks) marked

  wd : Within live_at (live_at + nodes) up down
  wd = down-within src tgt (length ks) 1 up

  w5 : Within count_at table_size down t5
  w5 =
      let two : Within count_at table_size down numbered
      = within_both {a = count_at} {b = table_size} {c = count_at} {d = table_size} (omega arith) (omega arith) (omega arith) (omega arith)
      (within-set down count_at (length cs) (omega arith) (omega arith)) (within-set counted atomics_at (length (atomics cs)) (omega arith) (omega arith)) in
      within_both {a = count_at} {b = table_size} {c = count_at} {d = table_size} (omega arith) (omega arith) (omega arith) (omega arith)
      two (within-set numbered ranges_at (ranges_word ranges) (omega arith) (omega arith))

  pub l1 : length t1 ≡ table_size
  l1 = w1.long ∙ l0

  l2 : length t2 ≡ table_size
  l2 = w2.long ∙ l1

  l3 : length t3 ≡ table_size
  l3 = w3.long ∙ l2

  pub lc : length chains ≡ table_size
  lc = wc.long ∙ l3

  pub lm : length marked ≡ table_size
  lm = wm.long ∙ lc

  ld : length down ≡ table_size
  ld = wd.long ∙ wu.long ∙ lm

  -- ---- what stands in the end

  -- all that the couplings' part does is within its own places
  pub kept3 : (x : ℕ) → x < first_at → get_or t5 x 0 ≡ get_or t3 x 0
  kept3 x h =
      w5.below x (omega arith) ∙ wd.below x (omega arith) ∙ wu.below x (omega arith) ∙ wm.below x (omega arith) ∙ wc.below x (omega arith)

  pub kept2 : (x : ℕ) → x < child_at → get_or t5 x 0 ≡ get_or t2 x 0
  kept2 x h = kept3 x (omega arith) ∙ w3.below x (omega arith)

  pub kept1 : (x : ℕ) → x < rules_from_at → get_or t5 x 0 ≡ get_or t1 x 0
  kept1 x h = kept2 x (omega arith) ∙ w2.below x (omega arith)

  -- before the links' beginnings stand zeros, and nothing that is filled before the chains is behind them
  zero0 : (x : ℕ) → x ≤ source_at → get_or t0 x 0 ≡ 0
  zero0 x h = w0.below x (omega arith) ∙ zeros-at x

  pub zero2 : (x : ℕ) → child_at ≤ x → x ≤ source_at → get_or t2 x 0 ≡ 0
  zero2 x h l = w2.above x (omega arith) ∙ w1.above x (omega arith) ∙ zero0 x l

  pub zero3 : (x : ℕ) → first_at ≤ x → x ≤ source_at → get_or t3 x 0 ≡ 0
  zero3 x h l = w3.above x (omega arith) ∙ zero2 x (omega arith) l

  pub above3 : (x : ℕ) → first_at ≤ x → get_or t3 x 0 ≡ get_or t0 x 0
  above3 x h = w3.above x (omega arith) ∙ w2.above x (omega arith) ∙ w1.above x (omega arith)

  -- the links' own places
  first-kept : (x : ℕ) → x < nodes → get_or t5 (first_at + x) 0 ≡ get_or chains (first_at + x) 0
  first-kept x h =
      w5.below (first_at + x) (omega arith) ∙ wd.below (first_at + x) (omega arith) ∙ wu.below (first_at + x) (omega arith) ∙ wm.below (first_at + x) (omega arith)

  next-kept : (k : ℕ) → k ≤ length ks → get_or t5 (next_at + k) 0 ≡ get_or chains (next_at + k) 0
  next-kept k h =
      w5.below (next_at + k) (omega arith) ∙ wd.above (next_at + k) (omega arith) ∙ wu.above (next_at + k) (omega arith) ∙ wm.above (next_at + k) (omega arith)

  source-kept : (i : ℕ) → i < length ks → get_or t5 (source_at + (1 + i)) 0 ≡ src (1 + i)
  source-kept i h =
      let x = source_at + (1 + i) in
      w5.below x (omega arith) ∙ wd.above x (omega arith) ∙ wu.above x (omega arith) ∙ wm.above x (omega arith) ∙ wc.above x (omega arith)
      ∙ above3 x (omega arith) ∙ begun-at cs ks zeros short zeros-long (1 + i) (omega arith) (omega arith)

  pub live-kept : (x : ℕ) → x < nodes → is_live t5 x ≡ is_live down x
  unfolding is_live
  live-kept x h = ap (λ v. not (eqb v 0)) (w5.below (live_at + x) (omega arith))

  -- ---- counts, children, rows

  pub count-holds : get_or t5 count_at 0 ≡ length cs
  count-holds = get_or-set_other numbered ranges_at count_at (ranges_word ranges) 0 (λ e. omega arith) ∙ get_or-set_other counted atomics_at count_at (length (atomics cs)) 0 (λ e. omega arith) ∙ get_or-set_same down count_at (length cs) 0 (omega (arith, ld))

  pub atomics-hold : atomics_in t5 ≡ length (atomics cs)
  atomics-hold = get_or-set_other numbered ranges_at atomics_at (ranges_word ranges) 0 (λ e. omega arith) ∙ get_or-set_same counted atomics_at (length (atomics cs)) 0 (omega (arith, ld, length-set down count_at (length cs)))

  pub ranges-hold : ranges_in t5 ≡ ranges
  ranges-hold = ap (λ w. ranges_of (not (eqb w 0))) (get_or-set_same numbered ranges_at (ranges_word ranges) 0 (omega (arith, ld, length-set down count_at (length cs), length-set counted atomics_at (length (atomics cs))))) ∙ told ranges
    where
      told : (r : RangeReading) → ranges_of (not (eqb (ranges_word r) 0)) ≡ r
      told inclusive = refl
      told half_open = refl

  pub children-hold : 0 < length cs → (c : ℕ) → c < length cs → child_rows t5 c ≡ children cs c
  unfolding child_rows by_parent
  children-hold some c h =
      linked-rows child_at max_components sibling_at (omega arith) (field_at Parent cs) (length cs - 1) t2 t5 (omega (arith, l2)) (omega (arith, l2))
      (λ x l. zero2 (child_at + x) (omega arith) (omega arith)) (λ x l. kept3 (child_at + x) (omega arith)) (λ k a b. sym (kept3 (sibling_at + k) (omega arith))) max_components c (omega arith) (omega arith)
      ∙ child-links cs c some

  pub rows-hold : (x : ℕ) → x < port_nodes * length cs → chain_rows t5 x ≡ map (source_number cs) (keep (λ k. eqb (target_number cs k) x) ks)
  unfolding chain_rows
  rows-hold x h =
      ap (map (λ j. get_or t5 (source_at + j) 0))
      (linked-rows first_at nodes next_at (omega arith) tgt (length ks) t3 t5 (omega (arith, l3)) (omega (arith, l3))
      (λ x l. zero3 (first_at + x) (omega arith) (omega arith)) first-kept (λ k a b. sym (next-kept k b)) max_couplings x short (omega arith))
      ∙ as-couplings
    where
      as-couplings : map (λ j. get_or t5 (source_at + j) 0) (having tgt x 1 (length ks)) ≡ map (source_number cs) (keep (λ k. eqb (target_number cs k) x) ks)
      as-couplings = unfold having link_end in
          (coupling-links x (source_number cs) (target_number cs) ks 1 (λ j. get_or t5 (source_at + j) 0) tgt
          (λ j l. source-kept j l ∙ ap (λ i. source_number cs (get_or ks i no_coupling)) (omega arith))
          (λ j l. ap (λ i. target_number cs (get_or ks i no_coupling)) (omega arith)))

  -- ---- ranges of rules

  module _ (c : ℕ) (h : c < length cs) where
    pub ranges_in_lem : get_or t5 (rules_to_at + c) 0 ≤ length rs
    unfolding by_rule
    ranges_in_lem =
        let z = (starts-within rs (length rs) t1).above (rules_to_at + c) (omega arith) ∙ w1.above (rules_to_at + c) (omega arith) ∙ zero0 (rules_to_at + c) (omega arith) in
        let l = (starts-within rs (length rs) t1).long ∙ l1 in
        rw (kept2 (rules_to_at + c) (omega arith)) (ends-in rs c (omega arith) (length rs) 0 (length rs) (rule_starts rs (length rs) t1) (omega arith) (omega arith) (omega arith))

    module _ (i : ℕ) (k : i < length rs) (e : rule_names rs i ≡ c) where
      pub ranges-from : get_or t5 (rules_from_at + c) 0 ≤ i
      unfolding by_rule
      ranges-from =
          rw (kept2 (rules_from_at + c) (omega arith) ∙ (ends-within rs (length rs) 0 (rule_starts rs (length rs) t1)).below (rules_from_at + c) (omega arith))
          (starts-right rs c (omega arith) (length rs) i t1 (omega (arith, l1)) k e)

      pub ranges-to : i < get_or t5 (rules_to_at + c) 0
      unfolding by_rule
      ranges-to =
          let l = (starts-within rs (length rs) t1).long ∙ l1 in
          rw (kept2 (rules_to_at + c) (omega arith)) (ends-right rs c (omega arith) (length rs) 0 i (rule_starts rs (length rs) t1) (omega arith) (omega arith) (omega arith) e)
