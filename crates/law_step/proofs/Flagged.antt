-- The marks and flags of a step on a model's tables: an atomic is marked where it is due, a mark that is down is down below, and where a flag is
-- down nothing may come. So they are `Flags`, and what the code pulls by tables and flags is what is pulled on the model. Assumes nothing.
use mathlib.Core.Path.{◌≡◌, refl, sym, ap, ◌∙◌}
use Prim.Native.Nat.{ℕ, suc, ◌+◌, ◌-◌, ◌≤◌, ◌<◌}
use mathlib.Core.List.{List, []}
use mathlib.Core.Bool.{Bool, true, false, ◌&&◌, ◌||◌, not, cond}
use native.Mathlib.Omega.{arith}
use lib.Dec.{eqb, ltb}
use lib.ListN.{length, get_or, set, replicate, length-set, length-replicate}
use lib.Seq.{get_or-set_same}
use borrow.Author.Tests.{eqb-true, ne_eqb, lt-ltb, ltb-true, not-false}
use Rattle.definition.specs.Lists.{all, is_empty}
use Rattle.definition.specs.Limits.{max_components, port_count, max_advance}
use Rattle.definition.specs.Model.{Bag, Coupling, Model, no_phase, is_atomic, atomics, is_child, component_at, phases_before, phase_at, outputs, leaf}
use Rattle.definition.specs.Pinned.Decoder.{coupling_fields}
use Rattle.definition.specs.Devs.{finite, same_time}
use Rattle.definition.specs.SavedRun.{Entry, due_of, due_at}
use Rattle.definition.specs.Flatten.{place_in}
use Rattle.law_base.proofs.Tests.{clash, and_left, and_right}
use Rattle.law_base.proofs.Lists.{all-and, all-if}
use Rattle.law_model.proofs.WellFormed.{WellFormed, kept}
use Rattle.law_nest.proofs.Kin.{par}
use Rattle.law_nest.proofs.Places.{place-below, place_at}
use Rattle.law_nest.proofs.Components.{atomic-below, atomic-once, rooted}
use Rattle.law_nest.proofs.Nest.{due, out_of, out_due}
use Rattle.clock.specs.Times.{latest}
use Rattle.run_state.specs.declared.State.{State}
use Rattle.spec_step.specs.Tables.{node_component, node_port, numbers_at, parents_at, count_at}
use Rattle.spec_step.specs.Put.{values_on}
use Rattle.spec_step.specs.TableStep.{any_of, is_up, record_of, mark_of, marked, raised, marks, may_come, reached, sent_by}
use Rattle.spec_step.specs.Tabled.{Tabled}
use Rattle.law_step.proofs.Ends.{rising}
use Rattle.law_step.proofs.Marks.{marked-length, marked-own, raised-other, raised-closed, reach-port, reached-before, reached-down}
use Rattle.law_step.proofs.Positions.{held_at, at_entry, atomic_at_place, entry_at, place_is, due-at}
use Rattle.law_step.proofs.Nodes.{Node, inn, source_node, ends_at, rows_at, atomic_at, sent_at, child-parent, own-child}
use Rattle.law_step.proofs.Numbered.{code, code-component, code-port, code-output, good, good-in, good-node, rows_all, rows-good, rows_are}
use Rattle.law_step.proofs.Closed.{any_none, any-map, Flags}

module _ (m : Model) (w : WellFormed m) (st : State) (t : List ℕ) (h : Tabled m t) (now : ℕ)
    (soon : (i : ℕ) → i < length (atomics m.components) → get_or st.last i 0 + max_advance ≤ latest) where
  -- ---- marks

  first : List ℕ
  first = marked m.phases t now st (length (atomics m.components)) 0 (replicate max_components 0)

  abbrev pub es : List ℕ
  es = marks m.phases t (length (atomics m.components)) now st

  abbrev most : ℕ
  most = get_or t count_at 0 - 1

  first-length : length first ≡ max_components
  unfolding first
  first-length = marked-length m.phases t now st (length (atomics m.components)) 0 (replicate max_components 0) ∙ length-replicate {A = ℕ} max_components 0

  parent_is : (d : ℕ) → d < length m.components → get_or t (parents_at + d) 0 ≡ (component_at m.components d).parent
  parent_is d l = h.parents d l

  -- a component is no parent where it is atomic
  no-parent : (c : ℕ) → is_atomic m.components c ≡ true → (d : ℕ) → 0 < d → d ≤ most → get_or t (parents_at + d) 0 ≡ c → ⊥
  no-parent c e d b l z =
      let s : d < length m.components = omega (arith, h.count) in
      clash e (ap (is_atomic m.components) (sym z ∙ parent_is d s) ∙ parent_coupled d b s)
    where
      parent_coupled : (d : ℕ) → 0 < d → d < length m.components → is_atomic m.components (component_at m.components d).parent ≡ false
      parent_coupled d b l = unfold par in ((rooted m.components w.components.fit w.some_component).parent_coupled d b l)

  num-is : (i : ℕ) → i < length (atomics m.components) → get_or t (numbers_at + i) 0 ≡ atomic_at_place m w st i
  num-is i l = h.numbers i l

  mark-own : (c : ℕ) → is_atomic m.components c ≡ true → (i : ℕ) → i < length (atomics m.components) → get_or t (numbers_at + i) 0 ≡ c
      → mark_of m.phases t now st i ≡ cond (due m (at_entry m w st) now (leaf c)) (suc (phases_before m.components c + (at_entry m w st c).phase)) 0
  unfolding mark_of due due_at record_of
  mark-own c e i l n =
      let p : atomic_at_place m w st i ≡ c = sym (num-is i l) ∙ n in
      let q : at_entry m w st c ≡ held_at st i = entry_at m w st c e ∙ ap (held_at st) (ap (λ d. place_in d (atomics m.components)) (sym p) ∙ place_is m w st i l) in
      ap (λ u. cond (same_time u (finite now)) (suc (record_of t (get_or t (numbers_at + i) 0) (get_or st.phase i 0))) 0)
      (due-at m w st t h i l (soon i l) ∙ ap (λ d. due_of m d (held_at st i)) p ∙ ap (due_of m c) (sym q))
      ∙ ap (λ k. cond (same_time (due_of m c (at_entry m w st c)) (finite now)) (suc k) 0)
      (ap (λ d. record_of t d (get_or st.phase i 0)) n ∙ ap (λ k. k + get_or st.phase i 0) (h.phases c (atomic-below m.components c e))
      ∙ ap (λ (r : Entry). phases_before m.components c + r.phase) (sym q))

  -- an atomic's mark: its phase record where it is due
  mark-is : (c : ℕ) → is_atomic m.components c ≡ true
      → get_or es c 0 ≡ cond (due m (at_entry m w st) now (leaf c)) (suc (phases_before m.components c + (at_entry m w st c).phase)) 0
  unfolding marks first
  mark-is c e =
      let i = place_in c (atomics m.components) in
      let o = atomic-once m.components w.components.fit w.some_component c e in
      let l : i < length (atomics m.components) = place-below c (atomics m.components) (omega arith) in
      let n : get_or t (numbers_at + i) 0 ≡ c = num-is i l ∙ place_at c (atomics m.components) 0 (omega arith) in
      raised-other t most c first (no-parent c e)
      ∙ ap (λ k. get_or first k 0) (sym n)
      ∙ marked-own m.phases t now st (length (atomics m.components)) 0 i (replicate max_components 0) (omega arith) (omega arith) (λ k b s z. one k i (omega arith) l z)
      (omega (arith, n, atomic-below m.components c e, w.components.few, length-replicate {A = ℕ} max_components 0))
      ∙ mark-own c e i l n
    where
      one : (k i : ℕ) → k < length (atomics m.components) → i < length (atomics m.components) → get_or t (numbers_at + k) 0 ≡ get_or t (numbers_at + i) 0 → k ≡ i
      one k i a b z = sym (place_is m w st k a) ∙ ap (λ d. place_in d (atomics m.components)) (sym (num-is k a) ∙ z ∙ num-is i b) ∙ place_is m w st i b

  -- marked where it is due
  pub up-due : (c : ℕ) → is_atomic m.components c ≡ true → is_up es c ≡ due m (at_entry m w st) now (leaf c)
  unfolding is_up
  up-due c e = ap (λ n. not (eqb n 0)) (mark-is c e) ∙ go (due m (at_entry m w st) now (leaf c)) (phases_before m.components c + (at_entry m w st c).phase)
    where
      go : (b : Bool) (n : ℕ) → not (eqb (cond b (suc n) 0) 0) ≡ b
      go true n = ap not (ne_eqb (suc n) 0 (omega arith))
      go false n = refl

  -- a marked component's parent is marked
  mark-closed : (c d : ℕ) → is_child m.components c d ≡ true → d < length m.components → is_up es c ≡ false → is_up es d ≡ false
  unfolding marks first
  mark-closed c d k l down = go (is_up (raised t most first) d) refl
    where
      below : (k : ℕ) → 0 < k → k ≤ most → get_or t (parents_at + k) 0 < k
      below k b s =
          let i : k < length m.components = omega (arith, h.count) in
          let r = rising m w (component_at m.components k).parent k (own-child m.components k (ne_eqb k 0 (λ z. omega arith))) i in
          omega (arith, parent_is k i)

      go : (b : Bool) → is_up (raised t most first) d ≡ b → is_up (raised t most first) d ≡ false
      go false e = e
      go true e =
          let r = rising m w c d k l in
          let u = raised-closed t most d first below (omega (arith, h.count, w.components.few, first-length, w.some_component)) (omega arith) (omega (arith, h.count)) e in
          absurd (clash (ap (λ p. is_up (raised t most first) p) (sym (parent_is d l ∙ child-parent m.components c d k)) ∙ u) down)

  -- ---- flags

  module _ (x : Bag) where
    abbrev pub fs : List ℕ
    fs = reached t es x

    abbrev begun : List ℕ
    begun = set (replicate max_components 0) 0 (cond (is_empty x) 0 1)

    flag-root : is_up fs 0 ≡ not (is_empty x)
    unfolding reached is_up
    flag-root =
        ap (λ n. not (eqb n 0))
        (reached-before t es most 1 0 begun (omega arith) ∙ get_or-set_same (replicate max_components 0) 0 (cond (is_empty x) 0 1) 0 (omega (arith, length-replicate {A = ℕ} max_components 0)))
        ∙ go (is_empty x)
      where
        go : (b : Bool) → not (eqb (cond {A = ℕ} b 0 1) 0) ≡ not b
        go true = refl
        go false = refl

    -- the nodes that lead to an input are outputs, or inputs of an earlier component
    rows_before : (c q : ℕ) → all (λ y. y.output || ltb y.component c) (rows_at m (inn c q)) ≡ true
    unfolding ends_at source_node
    rows_before c q = rows_all m w _ (inn c q) (λ k f e. one k f (eqb-true k.target c (and_left (eqb k.target c) _ (and_left (eqb k.target c && eqb q k.target_port) _ e))))
      where
        one : (k : Coupling) → coupling_fields m.components k ≡ true → k.target ≡ c → not (is_child m.components k.source k.target) || ltb k.source c ≡ true
        one k f e = go (is_child m.components k.source k.target) refl
          where
            go : (b : Bool) → is_child m.components k.source k.target ≡ b → not b || ltb k.source c ≡ true
            go false z = refl
            go true z = lt-ltb k.source c (omega (arith, e, rising m w k.source k.target z (kept m.components k f).target))

    may-agree : (gs : List ℕ) (c : ℕ) → ((d : ℕ) → d < c → get_or gs d 0 ≡ get_or fs d 0) → (y : Node) → y.port < port_count → y.output || ltb y.component c ≡ true
        → may_come es gs (code y) ≡ may_come es fs (code y)
    unfolding may_come is_up
    may-agree gs c agree y l b =
        ap (λ o. cond o (is_up es (node_component (code y))) (is_up gs (node_component (code y)))) (code-output y l) ∙ go y.output b
        ∙ sym (ap (λ o. cond o (is_up es (node_component (code y))) (is_up fs (node_component (code y)))) (code-output y l))
      where
        go : (o : Bool) → o || ltb y.component c ≡ true
            → cond o (is_up es (node_component (code y))) (is_up gs (node_component (code y))) ≡ cond o (is_up es (node_component (code y))) (is_up fs (node_component (code y)))
        go true e = refl
        go false e = ap (λ n. not (eqb n 0)) (agree (node_component (code y)) (omega (arith, code-component y l, ltb-true y.component c e)))

    -- where a flag is down, nothing may come to the inputs
    flag-down : (c q : ℕ) → 0 < c → c < length m.components → q < port_count → is_up fs c ≡ false
        → all (λ y. not (may_come es fs (code y))) (rows_at m (inn c q)) ≡ true
    unfolding reached code
    flag-down c q b l p down =
        let r = reached-down t es most 1 c begun (omega arith) (omega (arith, h.count))
        (omega (arith, length-set {A = ℕ} (replicate max_components 0) 0 (cond (is_empty x) 0 1), length-replicate {A = ℕ} max_components 0, w.components.few)) down in
        let gs = r.0 in
        let none : any_of (λ y. may_come es gs (code y)) (rows_at m (inn c q)) ≡ false
        = sym (any-map (may_come es gs) code (rows_at m (inn c q))) ∙ ap (any_of (may_come es gs)) (sym (rows_are m w t h (inn c q) (good-node m w (inn c q) l p)))
        ∙ reach-port t es gs c port_count 0 q (omega arith) p r.1.0 in
        all-if (λ y. (good m w y && (y.output || ltb y.component c)) && not (may_come es gs (code y))) (λ y. not (may_come es fs (code y))) (rows_at m (inn c q))
        (λ y e. let a = and_left (good m w y && (y.output || ltb y.component c)) _ e in
        ap not (sym (may-agree gs c r.1.1 y (good-in m w y (and_left (good m w y) _ a)).1 (and_right (good m w y) _ a)))
        ∙ and_right (good m w y && (y.output || ltb y.component c)) (not (may_come es gs (code y))) e)
        (all-and (λ y. good m w y && (y.output || ltb y.component c)) (λ y. not (may_come es gs (code y))) (rows_at m (inn c q))
        (all-and (good m w) (λ y. y.output || ltb y.component c) (rows_at m (inn c q)) (rows-good m w (inn c q)) (rows_before c q))
        (any_none (λ y. may_come es gs (code y)) (rows_at m (inn c q)) none))

    sent_is : (y : Node) → good m w y ≡ true → atomic_at m y ≡ true → sent_by m.phases es (code y) ≡ sent_at m (at_entry m w st) now y
    unfolding sent_by sent_at atomic_at out_due out_of phase_at
    sent_is y g e =
        let i = good-in m w y g in
        let values : ℕ → ℕ → List ℕ = λ q n. cond (eqb n 0) [] (values_on q (outputs (get_or m.phases (n - 1) no_phase))) in
        ap (λ c. values (node_port (code y)) (get_or es c 0)) (code-component y i.1) ∙ ap (λ q. values q (get_or es y.component 0)) (code-port y i.1)
        ∙ ap (values y.port) (mark-is y.component e) ∙ go (due m (at_entry m w st) now (leaf y.component))
      where
        record_of_lem : ℕ
        record_of_lem = phases_before m.components y.component + (at_entry m w st y.component).phase

        go : (b : Bool) → cond (eqb (cond b (suc record_of_lem) 0) 0) [] (values_on y.port (outputs (get_or m.phases (cond b (suc record_of_lem) 0 - 1) no_phase)))
            ≡ values_on y.port (cond b (outputs (get_or m.phases record_of_lem no_phase)) [])
        go true = let n : suc record_of_lem - 1 ≡ record_of_lem = omega arith in rw (ne_eqb (suc record_of_lem) 0 (omega arith), n)
        go false = unfold values_on in refl

    pub flagged : Flags m w t m.phases es fs x (sent_at m (at_entry m w st) now)
    flagged = record {
      sent = sent_is;
      marks_down = mark-closed;
      flags_down = flag-down;
      root_down = λ e. not-false (is_empty x) (sym flag-root ∙ e);
    }
