-- Where nothing is live, no source leads: every link from a live node ends at one, and every source is live. Assumes nothing.
use mathlib.Core.Path.{◌≡◌, refl, sym, ap, ◌∙◌}
use Prim.Native.Nat.{ℕ, suc, ◌+◌, ◌-◌, ◌*◌, ◌%◌, ◌<◌, ◌≤◌}
use mathlib.Core.List.{List, [], ◌∷◌, map}
use mathlib.Core.Bool.{Bool, true, false, ◌||◌, not, cond}
use native.Mathlib.Omega.{arith}
use lib.ListN.{length, get_or}
use lib.Dec.{eqb}
use borrow.Author.Tests.{eqb-true, lt-ltb}
use Rattle.definition.specs.Limits.{max_components, max_couplings, port_count}
use Rattle.definition.specs.Lists.{keep}
use Rattle.definition.specs.Model.{Component, Rule, Coupling, RangeReading, no_coupling, is_atomic, component_at}
use Rattle.definition.specs.Pinned.Decoder.{coupling_fits}
use Rattle.law_base.proofs.Tests.{clash}
use Rattle.law_routes.specs.Nodes.{port_nodes, input_node, source_number, target_number}
use Rattle.law_routes.specs.Ways.{Rising}
use Rattle.spec_step.specs.Tables.{node_component, is_output, is_root_node, kinds_at, live_at, chain_rows, atomic_at, atomic_node}
use Rattle.spec_step.specs.TableStep.{any_of}
use Rattle.spec_step.specs.Tabled.{is_live, may_lead}
use Rattle.table_words.proofs.Columns.{column-at}
use Rattle.table_couplings.specs.declared.End.TheVariants.{Source, Target}
use Rattle.table_couplings.proofs.Order.{up-within}
use Rattle.table_couplings.proofs.Nodes.{src-in, tgt-in}
use Rattle.table_couplings.specs.Links.{link_end, is_source, source_flag}
use Rattle.table_fill.proofs.Rows.{kinds-hold}
use Rattle.table_fill.proofs.Live.{up-keeps, down-keeps, spread-closed}
use Rattle.table_fill.proofs.Kin.{up-order, down-order, down-input}
use Rattle.table_fill.proofs.Holding.{t0, t5, chains, marked, up, l0, lm, lc, live-kept, kept1, rows-hold}

any_none : (p : ℕ → Bool) (S T : Coupling → ℕ) (x : ℕ) (ks : List Coupling)
    → ((i : ℕ) → i < length ks → T (get_or ks i no_coupling) ≡ x → p (S (get_or ks i no_coupling)) ≡ false) → any_of p (map S (keep (λ k. eqb (T k) x) ks)) ≡ false
unfolding any_of keep
any_none p S T x [] h = refl
any_none p S T x (k ∷ ks) h = go (eqb (T k) x) refl (any_none p S T x ks (λ i l e. h (suc i) (omega arith) e))
  where
    go : (b : Bool) → eqb (T k) x ≡ b → any_of p (map S (keep (λ k. eqb (T k) x) ks)) ≡ false → any_of p (map S (cond b (k ∷ keep (λ k. eqb (T k) x) ks) (keep (λ k. eqb (T k) x) ks))) ≡ false
    go true e ih = rw (h 0 (omega arith) (eqb-true (T k) x e), ih)
    go false e ih = ih

module _ (cs : List Component) (rs : List Rule) (ks : List Coupling) (ranges : RangeReading) (some : 0 < length cs) (few : length cs ≤ max_components) (short : length ks ≤ max_couplings) where
  abbrev end : List ℕ
  end = t5 cs rs ks ranges few short

  -- every source is live
  source-live : (x : ℕ) → x < port_nodes * length cs → is_source cs x ≡ true → is_live end x ≡ true
  source-live x h e =
      let m = marked cs rs ks ranges few short in
      let a : is_live m x ≡ true = begun in
      live-kept cs rs ks ranges few short x (omega arith)
      ∙ down-keeps (link_end Source cs ks) (link_end Target cs ks) (length ks) 1 x (up cs rs ks ranges few short) (omega arith)
      (omega (arith, (up-within (link_end Source cs ks) (link_end Target cs ks) (length ks) m).long, lm cs rs ks ranges few short))
      (up-keeps (link_end Source cs ks) (link_end Target cs ks) (length ks) x m (omega arith) (omega (arith, lm cs rs ks ranges few short)) a)
    where
      begun : is_live (marked cs rs ks ranges few short) x ≡ true
      begun = unfold is_live source_flag in
          (ap (λ v. not (eqb v 0))
          (column-at live_at (source_flag cs) (port_nodes * length cs) (chains cs rs ks ranges few short) x (omega (arith, lc cs rs ks ranges few short)) h
          ∙ ap (λ b. cond {A = ℕ} b 1 0) e))

  pub given_holds : (q : ℕ) → q < port_count → is_live end (input_node 0 q) ≡ true
  given_holds q h = source-live (input_node 0 q) small root
    where
      small : input_node 0 q < port_nodes * length cs
      small = unfold input_node in (omega arith)

      root : is_source cs (input_node 0 q) ≡ true
      root = unfold is_source is_output input_node is_root_node in
          (rw (lt-ltb ((port_nodes * 0 + q) % port_nodes) port_count (omega arith)) (lt-ltb (port_nodes * 0 + q) port_nodes (omega arith)))

  atomic-live : (y : ℕ) → y < port_nodes * length cs → is_output y ≡ true → atomic_node end y ≡ true → is_live end y ≡ true
  atomic-live y h o e = source-live y h here
    where
      inside : node_component y < length cs
      inside = unfold node_component in (omega arith)

      kind : get_or end (kinds_at + node_component y) 0 ≡ (component_at cs (node_component y)).kind
      kind =
          kept1 cs rs ks ranges few short (kinds_at + node_component y) (omega (arith, inside))
          ∙ kinds-hold cs (t0 cs rs ks ranges few short) (l0 cs rs ks ranges few short) few (node_component y) inside

      here : is_source cs y ≡ true
      here = unfold is_source atomic_node atomic_at is_atomic in (rw o (rw kind at e))

  module _ (rising : Rising cs) (fit : (i : ℕ) → i < length ks → coupling_fits cs ks i ≡ true) where
    closed : (j : ℕ) → 0 < j → j ≤ length ks → is_live end (link_end Source cs ks j) ≡ true → is_live end (link_end Target cs ks j) ≡ true
    closed j a b v =
        let s = src-in cs ks fit in
        let g = tgt-in cs ks fit in
        live-kept cs rs ks ranges few short (link_end Target cs ks j) (omega (arith, g j a b))
        ∙ spread-closed (link_end Source cs ks) (link_end Target cs ks) (length ks) (λ j a b. omega (arith, s j a b)) (λ j a b. omega (arith, g j a b))
        (up-order cs ks rising fit) (down-order cs ks rising fit) (down-input cs ks rising fit) (marked cs rs ks ranges few short)
        (omega (arith, lm cs rs ks ranges few short)) j a b
        (sym (live-kept cs rs ks ranges few short (link_end Source cs ks j) (omega (arith, s j a b))) ∙ v)

    lead-none : (y : ℕ) → y < port_nodes * length cs → is_live end y ≡ false → may_lead end y ≡ false
    unfolding may_lead
    lead-none y h e = go (is_output y) refl (atomic_node end y) refl
      where
        go : (o : Bool) → is_output y ≡ o → (a : Bool) → atomic_node end y ≡ a → cond o (a || is_live end y) (is_live end y) ≡ false
        go true o true a = absurd (clash (atomic-live y h o a) e)
        go true o false a = e
        go false o a b = e

    pub live-holds : (x : ℕ) → x < port_nodes * length cs → is_live end x ≡ false → any_of (may_lead end) (chain_rows end x) ≡ false
    live-holds x h e =
        ap (any_of (may_lead end)) (rows-hold cs rs ks ranges few short x h)
        ∙ any_none (may_lead end) (source_number cs) (target_number cs) x ks from
      where
        from : (i : ℕ) → i < length ks → target_number cs (get_or ks i no_coupling) ≡ x → may_lead end (source_number cs (get_or ks i no_coupling)) ≡ false
        from i l q = lead-none (source_number cs (get_or ks i no_coupling)) inside (none (is_live end (source_number cs (get_or ks i no_coupling))) refl)
          where
            z : 1 + i - 1 ≡ i
            z = omega arith

            begin : link_end Source cs ks (1 + i) ≡ source_number cs (get_or ks i no_coupling)
            begin = unfold link_end in (ap (λ j. source_number cs (get_or ks j no_coupling)) z)

            finish : link_end Target cs ks (1 + i) ≡ x
            finish = unfold link_end in (ap (λ j. target_number cs (get_or ks j no_coupling)) z ∙ q)

            inside : source_number cs (get_or ks i no_coupling) < port_nodes * length cs
            inside = rw (sym begin) (src-in cs ks fit (1 + i) (omega arith) (omega arith))

            none : (b : Bool) → is_live end (source_number cs (get_or ks i no_coupling)) ≡ b → is_live end (source_number cs (get_or ks i no_coupling)) ≡ false
            none true v = absurd (clash (sym (ap (is_live end) finish) ∙ closed (1 + i) (omega arith) (omega arith) (ap (is_live end) begin ∙ v)) e)
            none false v = v
