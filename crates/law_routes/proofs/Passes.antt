-- One pass over the couplings fills a table of ways: a coupling may be taken once every coupling that begins where it ends has been
-- taken. Rows stand by source and children above parents, so that the ways down are taken from the last row to the first and the
-- others from the first to the last. Assumes nothing.
use mathlib.Core.Path.{◌≡◌, refl, sym, ap, ◌∙◌}
use mathlib.Core.List.{List, [], ◌∷◌}
use mathlib.Core.Bool.{Bool, true, false, ◌&&◌, ◌||◌, cond, and-false, or-true}
use Prim.Native.Nat.{ℕ, zero, suc, ◌+◌, ◌*◌, ◌≤◌, ◌<◌, min}
use native.Mathlib.Omega.{arith}
use native.Mathlib.Nat.{add-zero}
use lib.Dec.{eqb, ltb, leb}
use lib.ListN.{length, get_or, set}
use lib.Seq.{get_or-set_same, get_or-set_other}
use borrow.Author.Tests.{eqb-true, eqb-false, lt-ltb, le-ltb, ltb-true, ltb-false, le-leb, lt-leb}
use Rattle.definition.specs.Lists.{up_from}
use Rattle.definition.specs.Model.{Component, Coupling, no_coupling, is_child}
use Rattle.definition.specs.Pinned.Decoder.{component_fits, coupling_fits}
use Rattle.law_base.proofs.Sums.{sum_of, sum-add, sum-zero, sum-cong, if-zero}
use Rattle.law_routes.specs.Nodes.{port_nodes, input_node, output_node, source_number, target_number}
use Rattle.law_routes.specs.Ways.{ways_on, end_at, ways_cap, WaysCounted, Rising}
use Rattle.law_routes.specs.Taken.{taken, taken_down, taken_up, gain, Filled, leads_down, down_from, up_to}
use Rattle.law_routes.proofs.Counts.{sum-pick}
use Rattle.law_routes.proofs.Routed.{up-cong}
use Rattle.law_routes.proofs.Placed.{rising, coupled-parents, couplings-keep, kept_at, by-source}
use Rattle.law_routes.proofs.Steps.{added, ways-step}
use Rattle.law_routes.proofs.PortNodes.{source-at-input, source-at-output, target_at, small}

-- ---- sums over the elements' numbers

sum-shift : (g : ℕ → ℕ) (k n : ℕ) → sum_of g (up_from (suc k) n) ≡ sum_of (λ j. g (suc j)) (up_from k n)
unfolding sum_of up_from
sum-shift g k zero = refl
sum-shift g k (suc n) = ap (λ s. g (suc k) + s) (sum-shift g (suc k) n)

pub sum-by-number : {A : Type 0} (f : A → ℕ) (l : List A) (d : A) → sum_of f l ≡ sum_of (λ j. f (get_or l j d)) (up_from 0 (length l))
unfolding sum_of up_from
sum-by-number f [] d = refl
sum-by-number f (a ∷ l) d = ap (λ s. f a + s) (sum-by-number f l d ∙ sym (sum-shift (λ j. f (get_or (a ∷ l) j d)) 0 (length l)))

-- one number more
sum_one : (f : ℕ → ℕ) (done more : ℕ → Bool) (i n : ℕ) → i < n → done i ≡ false → more i ≡ true → ((j : ℕ) → (j ≡ i → ⊥) → more j ≡ done j)
    → sum_of (λ j. cond (more j) (f j) 0) (up_from 0 n) ≡ sum_of (λ j. cond (done j) (f j) 0) (up_from 0 n) + f i
sum_one f done more i n l a b h =
    sum-cong _ (λ j. cond (done j) (f j) 0 + cond (eqb i j) (f j) 0) (up_from 0 n) (λ j. each j (eqb i j) refl)
    ∙ sum-add _ _ (up_from 0 n) ∙ ap (λ s. sum_of (λ j. cond (done j) (f j) 0) (up_from 0 n) + s) (sum-pick f i n ∙ rw (lt-ltb i n l))
  where
    each : (j : ℕ) (t : Bool) → eqb i j ≡ t → cond (more j) (f j) 0 ≡ cond (done j) (f j) 0 + cond t (f j) 0
    each j true e =
        let u = eqb-true i j e in
        let p : more j ≡ true = ap more (sym u) ∙ b in
        let q : done j ≡ false = ap done (sym u) ∙ a in
        rw (p, q) (omega arith)
    each j false e = rw (h j (λ u. eqb-false i j e (sym u))) (omega arith)

module _ (cs : List Component) (ks : List Coupling) (fit : (i : ℕ) → i < length cs → component_fits cs i ≡ true) (join : (i : ℕ) → i < length ks → coupling_fits cs ks i ≡ true) where
  abbrev at : ℕ → Coupling
  at j = get_or ks j no_coupling

  abbrev from : ℕ → ℕ
  from j = source_number cs (at j)

  abbrev to : ℕ → ℕ
  to j = target_number cs (at j)

  filled-same : (done more : ℕ → Bool) (table : List ℕ) → ((j : ℕ) → j < length ks → done j ≡ more j) → Filled cs ks done table → Filled cs ks more table
  unfolding gain
  filled-same done more table h p x l =
      p x l ∙ ap (λ s. min ways_cap (end_at cs x + s)) (up-cong _ _ 0 (length ks) (λ j b. rw (h j (omega arith))))

  filled_none : (done : ℕ → Bool) (table : List ℕ) → ((j : ℕ) → j < length ks → done j ≡ false)
      → ((x : ℕ) → x < port_nodes * length cs → get_or table x 0 ≡ end_at cs x) → Filled cs ks done table
  unfolding gain
  filled_none done table h p x l =
      p x l ∙ low (end_at cs x) (small cs x) ∙ ap (λ s. min ways_cap (end_at cs x + s)) (sym (up-cong _ (λ j. 0) 0 (length ks) (λ j b. rw (h j (omega arith))) ∙ sum-zero (up_from 0 (length ks))))
    where
      low : (n : ℕ) → n ≤ 1 → n ≡ min ways_cap (n + 0)
      low n h = omega arith

  -- when all that begin at x have been taken, its entry is right
  settled : (done : ℕ → Bool) (x : ℕ) → x < port_nodes * length cs → ((j : ℕ) → j < length ks → eqb (from j) x ≡ true → done j ≡ true)
      → end_at cs x + sum_of (λ j. cond (done j) (gain cs ks x j) 0) (up_from 0 (length ks)) ≡ ways_on cs ks x
  unfolding gain added
  settled done x l h =
      ap (λ s. end_at cs x + s)
      (up-cong _ (gain cs ks x) 0 (length ks) (λ j b. each j (omega arith) (eqb (from j) x) refl)
      ∙ sym (sum-by-number (λ k. cond (eqb (source_number cs k) x) (ways_on cs ks (target_number cs k)) 0) ks no_coupling))
      ∙ sym (ways-step cs ks (rising cs fit) (coupled-parents cs fit) (couplings-keep cs ks join) x l)
    where
      each : (j : ℕ) → j < length ks → (b : Bool) → eqb (from j) x ≡ b → cond (done j) (cond b (ways_on cs ks (to j)) 0) 0 ≡ cond b (ways_on cs ks (to j)) 0
      each j l true e = rw (h j l e)
      each j l false e = if-zero (done j)

  filled-all : (done : ℕ → Bool) (table : List ℕ) → ((j : ℕ) → j < length ks → done j ≡ true) → Filled cs ks done table → WaysCounted cs ks table
  filled-all done table h p x l = p x l ∙ ap (min ways_cap) (settled done x l (λ j b e. h j b))

  -- one coupling taken
  filled_more : (done more : ℕ → Bool) (table : List ℕ) (i : ℕ) → i < length ks → port_nodes * length cs ≤ length table
      → done i ≡ false → more i ≡ true → ((j : ℕ) → (j ≡ i → ⊥) → more j ≡ done j)
      → ((j : ℕ) → j < length ks → eqb (from j) (to i) ≡ true → done j ≡ true)
      → Filled cs ks done table → Filled cs ks more (set table (from i) (min ways_cap (get_or table (from i) 0 + get_or table (to i) 0)))
  unfolding gain
  filled_more done more table i l room a b h s p x lx = go (eqb (from i) x) refl
    where
      new : get_or table (to i) 0 ≡ min ways_cap (ways_on cs ks (to i))
      new = let t = target_at cs (at i) (kept_at cs ks join i l) in p (to i) t ∙ ap (min ways_cap) (settled done (to i) t s)

      grown : sum_of (λ j. cond (more j) (gain cs ks x j) 0) (up_from 0 (length ks)) ≡ sum_of (λ j. cond (done j) (gain cs ks x j) 0) (up_from 0 (length ks)) + gain cs ks x i
      grown = sum_one (gain cs ks x) done more i (length ks) l a b h

      go : (t : Bool) → eqb (from i) x ≡ t
          → get_or (set table (from i) (min ways_cap (get_or table (from i) 0 + get_or table (to i) 0))) x 0
          ≡ min ways_cap (end_at cs x + sum_of (λ j. cond (more j) (gain cs ks x j) 0) (up_from 0 (length ks)))
      go true e =
          let u = eqb-true (from i) x e in
          let g : sum_of (λ j. cond (more j) (gain cs ks x j) 0) (up_from 0 (length ks)) ≡ sum_of (λ j. cond (done j) (gain cs ks x j) 0) (up_from 0 (length ks)) + ways_on cs ks (to i) = rw e at grown in
          rw (u, g, get_or-set_same table x (min ways_cap (get_or table x 0 + get_or table (to i) 0)) 0 (omega arith)) (sums _ _ (end_at cs x) (sum_of (λ j. cond (done j) (gain cs ks x j) 0) (up_from 0 (length ks))) (ways_on cs ks (to i)) (p x lx) new)
        where
          sums : (a b e s w : ℕ) → a ≡ min ways_cap (e + s) → b ≡ min ways_cap w → min ways_cap (a + b) ≡ min ways_cap (e + (s + w))
          sums a b e s w f g = omega arith
      go false e =
          let g : sum_of (λ j. cond (more j) (gain cs ks x j) 0) (up_from 0 (length ks)) ≡ sum_of (λ j. cond (done j) (gain cs ks x j) 0) (up_from 0 (length ks)) + 0 = rw e at grown in
          rw (g, add-zero, get_or-set_other table (from i) x (min ways_cap (get_or table (from i) 0 + get_or table (to i) 0)) 0 (λ u. eqb-false (from i) x e (sym u))) (p x lx)

  -- ---- the two passes

  leb-step : (i j : ℕ) → (j ≡ i → ⊥) → leb i j ≡ leb (i + 1) j
  leb-step i j h = go (ltb i j) refl
    where
      go : (b : Bool) → ltb i j ≡ b → leb i j ≡ leb (i + 1) j
      go true e = let l = ltb-true i j e in le-leb i j (omega arith) ∙ sym (le-leb (i + 1) j (omega arith))
      go false e = let l = ltb-false i j e in lt-leb i j (omega arith) ∙ sym (lt-leb (i + 1) j (omega arith))

  ltb-step : (i j : ℕ) → (j ≡ i → ⊥) → ltb j (i + 1) ≡ ltb j i
  ltb-step i j h = go (ltb j i) refl
    where
      go : (b : Bool) → ltb j i ≡ b → ltb j (i + 1) ≡ ltb j i
      go true e = let l = ltb-true j i e in lt-ltb j (i + 1) (omega arith) ∙ sym e
      go false e = let l = ltb-false j i e in le-ltb j (i + 1) (omega arith) ∙ sym e

  pub down-start : (table : List ℕ) → ((x : ℕ) → x < port_nodes * length cs → get_or table x 0 ≡ end_at cs x) → Filled cs ks (down_from cs ks (length ks)) table
  down-start table h = filled_none (down_from cs ks (length ks)) table (λ j l. rw (lt-leb (length ks) j (omega arith)) (and-false (leads_down cs ks j))) h

  -- the coupling at i leads down
  down-more : (table : List ℕ) (i : ℕ) → i < length ks → port_nodes * length cs ≤ length table → leads_down cs ks i ≡ true → Filled cs ks (down_from cs ks (i + 1)) table
      → Filled cs ks (down_from cs ks i) (set table (from i) (min ways_cap (get_or table (from i) 0 + get_or table (to i) 0)))
  unfolding leads_down target_number
  down-more table i l room e p =
      filled_more (down_from cs ks (i + 1)) (down_from cs ks i) table i l room (rw (lt-leb (i + 1) i (omega arith)) (and-false (leads_down cs ks i))) (rw (e, le-leb i i (omega arith)))
      (λ j h. ap (λ b. leads_down cs ks j && b) (leb-step i j h)) before p
    where
      r : Rising cs
      r = rising cs fit

      before : (j : ℕ) → j < length ks → eqb (from j) (target_number cs (at i)) ≡ true → down_from cs ks (i + 1) j ≡ true
      before j lj f =
          let w = kept_at cs ks join i l in
          let d = r (at i).source (at i).target e w.target in
          let n : target_number cs (at i) ≡ input_node (at i).target (at i).target_port = rw (turned (is_child cs (at i).target (at i).source) refl) in
          let g = source-at-input cs (at j) (at i).target (at i).target_port (kept_at cs ks join j lj) w.target_port_lem (ap (eqb (from j)) (sym n) ∙ f) in
          let o : i + 1 ≤ j = later (ltb i j) refl g.1 d in
          rw (g.0, le-leb (i + 1) j o)
        where
          turned : (b : Bool) → is_child cs (at i).target (at i).source ≡ b → is_child cs (at i).target (at i).source ≡ false
          turned true u =
              let w = kept_at cs ks join i l in
              absurd (omega (arith, r (at i).source (at i).target e w.target, r (at i).target (at i).source u w.source))
          turned false u = u

          later : (b : Bool) → ltb i j ≡ b → (at j).source ≡ (at i).target → (at i).source < (at i).target → i + 1 ≤ j
          later true u v d = let x = ltb-true i j u in omega arith
          later false u v d = let x = ltb-false i j u in absurd (omega (arith, by-source cs ks join j i x l))

  -- it does not
  down-skip : (table : List ℕ) (i : ℕ) → leads_down cs ks i ≡ false → Filled cs ks (down_from cs ks (i + 1)) table → Filled cs ks (down_from cs ks i) table
  down-skip table i e p = filled-same (down_from cs ks (i + 1)) (down_from cs ks i) table (λ j l. each j (eqb j i) refl) p
    where
      each : (j : ℕ) (b : Bool) → eqb j i ≡ b → down_from cs ks (i + 1) j ≡ down_from cs ks i j
      each j true u = let v = eqb-true j i u in let w : leads_down cs ks j ≡ false = ap (leads_down cs ks) v ∙ e in rw w
      each j false u = ap (λ b. leads_down cs ks j && b) (sym (leb-step i j (eqb-false j i u)))

  pub up_start : (table : List ℕ) → Filled cs ks (down_from cs ks 0) table → Filled cs ks (up_to cs ks 0) table
  up_start table p = filled-same (down_from cs ks 0) (up_to cs ks 0) table (λ j l. rw (le-leb 0 j (omega arith), le-ltb j 0 (omega arith)) (each (leads_down cs ks j))) p
    where
      each : (b : Bool) → (b && true) ≡ (b || false)
      each true = refl
      each false = refl

  up_more : (table : List ℕ) (i : ℕ) → i < length ks → port_nodes * length cs ≤ length table → leads_down cs ks i ≡ false → Filled cs ks (up_to cs ks i) table
      → Filled cs ks (up_to cs ks (i + 1)) (set table (from i) (min ways_cap (get_or table (from i) 0 + get_or table (to i) 0)))
  unfolding leads_down target_number
  up_more table i l room e p =
      filled_more (up_to cs ks i) (up_to cs ks (i + 1)) table i l room (rw (e, le-ltb i i (omega arith))) (rw (lt-ltb i (i + 1) (omega arith)) (or-true (leads_down cs ks i)))
      (λ j h. ap (λ b. leads_down cs ks j || b) (ltb-step i j h)) (λ j lj f. before j lj (is_child cs (at i).target (at i).source) refl f) p
    where
      r : Rising cs
      r = rising cs fit

      earlier : (j : ℕ) (b : Bool) → ltb j i ≡ b → j < length ks → (at j).source ≡ (at i).target → (at i).target < (at i).source → j < i
      earlier j true u lj v d = ltb-true j i u
      earlier j false u lj v d = let x = ltb-false j i u in absurd (omega (arith, by-source cs ks join i j x lj))

      before : (j : ℕ) → j < length ks → (b : Bool) → is_child cs (at i).target (at i).source ≡ b
          → eqb (from j) (cond b (output_node (at i).target (at i).target_port) (input_node (at i).target (at i).target_port)) ≡ true → up_to cs ks i j ≡ true
      before j lj true u f =
          let w = kept_at cs ks join i l in
          let g = source-at-output cs (at j) (at i).target (at i).target_port (kept_at cs ks join j lj) w.target_port_lem f in
          let o = earlier j (ltb j i) refl lj g (r (at i).target (at i).source u w.source) in
          rw (lt-ltb j i o) (or-true (leads_down cs ks j))
      before j lj false u f =
          let w = kept_at cs ks join i l in
          let g = source-at-input cs (at j) (at i).target (at i).target_port (kept_at cs ks join j lj) w.target_port_lem f in
          rw g.0

  up-skip : (table : List ℕ) (i : ℕ) → leads_down cs ks i ≡ true → Filled cs ks (up_to cs ks i) table → Filled cs ks (up_to cs ks (i + 1)) table
  up-skip table i e p = filled-same (up_to cs ks i) (up_to cs ks (i + 1)) table (λ j l. each j (eqb j i) refl) p
    where
      each : (j : ℕ) (b : Bool) → eqb j i ≡ b → up_to cs ks i j ≡ up_to cs ks (i + 1) j
      each j true u = let v = eqb-true j i u in let w : leads_down cs ks j ≡ true = ap (leads_down cs ks) v ∙ e in rw w
      each j false u = ap (λ b. leads_down cs ks j || b) (sym (ltb-step i j (eqb-false j i u)))

  pub up-end : (table : List ℕ) (i : ℕ) → length ks ≤ i → Filled cs ks (up_to cs ks i) table → WaysCounted cs ks table
  up-end table i h p = filled-all (up_to cs ks i) table (λ j l. rw (lt-ltb j i (omega arith)) (or-true (leads_down cs ks j))) p

  -- ---- the couplings in their turns

  pub down_turn : (table : List ℕ) (i : ℕ) → i < length ks → port_nodes * length cs ≤ length table → Filled cs ks (down_from cs ks (i + 1)) table
      → Filled cs ks (down_from cs ks i) (taken_down cs (at i) table)
  unfolding taken_down taken leads_down
  down_turn table i l room p = go (is_child cs (at i).source (at i).target) refl
    where
      go : (b : Bool) → is_child cs (at i).source (at i).target ≡ b
          → Filled cs ks (down_from cs ks i) (cond b (set table (from i) (min ways_cap (get_or table (from i) 0 + get_or table (to i) 0))) table)
      go true e = down-more table i l room e p
      go false e = down-skip table i e p

  pub up_turn : (table : List ℕ) (i : ℕ) → i < length ks → port_nodes * length cs ≤ length table → Filled cs ks (up_to cs ks i) table
      → Filled cs ks (up_to cs ks (i + 1)) (taken_up cs (at i) table)
  unfolding taken_up taken leads_down
  up_turn table i l room p = go (is_child cs (at i).source (at i).target) refl
    where
      go : (b : Bool) → is_child cs (at i).source (at i).target ≡ b
          → Filled cs ks (up_to cs ks (i + 1)) (cond b table (set table (from i) (min ways_cap (get_or table (from i) 0 + get_or table (to i) 0))))
      go true e = up-skip table i e p
      go false e = up_more table i l room e p
