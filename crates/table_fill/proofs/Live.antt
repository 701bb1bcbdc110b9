-- Two passes along the links leave no link from a live node to one that is not: the first from the last link to the first, for outputs, the
-- second from the first to the last, for inputs. Assumes nothing.
use mathlib.Core.Path.{◌≡◌, refl, sym, ap, ◌∙◌, subst}
use Prim.Native.Nat.{ℕ, zero, suc, ◌+◌, ◌*◌, ◌<◌, ◌≤◌}
use mathlib.Core.List.{List}
use mathlib.Core.Bool.{Bool, true, false, not, cond}
use mathlib.Core.Logic.{◌⊎◌, inl, inr, ⊎_elim}
use native.Mathlib.Omega.{arith}
use lib.ListN.{length, get_or}
use lib.Dec.{eqb}
use borrow.Author.Tests.{eqb-true, eqb-false, eq-eqb, ne_eqb}
use Rattle.definition.specs.Limits.{max_components}
use Rattle.law_base.proofs.Tests.{clash}
use Rattle.spec_step.specs.Tables.{is_output, live_at}
use Rattle.spec_step.specs.Tabled.{is_live}
use Rattle.table_words.specs.Writes.{put_in}
use Rattle.table_words.proofs.Columns.{Within, within_none, within_both}
use Rattle.table_couplings.specs.Links.{spread, spread_up, spread_down}
use Rattle.table_couplings.proofs.Order.{spread-within, up-within}
use Rattle.table_fill.proofs.Ranges.{put-row}

-- how many nodes there is room for
abbrev pub nodes : ℕ
nodes = 8 * max_components

-- the table has its flags
abbrev pub Roomy : List ℕ → Type 0
Roomy t = live_at + nodes ≤ length t

-- ---- one link

spread_row : (x y z : ℕ) (t : List ℕ) → z < nodes → Roomy t → is_live (spread x y t) z ≡ cond (is_live t x) (cond (eqb y z) true (is_live t z)) (is_live t z)
unfolding spread
spread_row x y z t h l = go (is_live t x)
  where
    one : (b : Bool) (v : ℕ) → not (eqb (cond b 1 v) 0) ≡ cond b true (not (eqb v 0))
    one true v = refl
    one false v = refl

    put : is_live (put_in live_at nodes y 1 t) z ≡ cond (eqb y z) true (is_live t z)
    put = unfold is_live in (rw (put-row live_at nodes y 1 z t h l) (one (eqb y z) (get_or t (live_at + z) 0)))

    go : (b : Bool) → is_live (cond b (put_in live_at nodes y 1 t) t) z ≡ cond b (cond (eqb y z) true (is_live t z)) (is_live t z)
    go true = put
    go false = refl

module _ (x y z : ℕ) (t : List ℕ) (h : z < nodes) (l : Roomy t) where
  -- what is live stays live
  pub spread-keeps : is_live t z ≡ true → is_live (spread x y t) z ≡ true
  spread-keeps e = spread_row x y z t h l ∙ go (is_live t x) (eqb y z)
    where
      go : (a b : Bool) → cond a (cond b true (is_live t z)) (is_live t z) ≡ true
      go true true = refl
      go true false = e
      go false b = e

  pub spread-here : y ≡ z → is_live t x ≡ true → is_live (spread x y t) z ≡ true
  spread-here e v = spread_row x y z t h l ∙ rw (v, eq-eqb y z e)

  -- elsewhere nothing becomes live
  pub spread-old : (y ≡ z → ⊥) → is_live (spread x y t) z ≡ true → is_live t z ≡ true
  spread-old d v = go (is_live t x) (rw (ne_eqb y z d) at (sym (spread_row x y z t h l) ∙ v))
    where
      go : (a : Bool) → cond a (is_live t z) (is_live t z) ≡ true → is_live t z ≡ true
      go true e = e
      go false e = e

  -- nor anywhere, where the link's end was live with its beginning
  pub spread-idle : (is_live t x ≡ true → is_live t y ≡ true) → is_live (spread x y t) z ≡ true → is_live t z ≡ true
  spread-idle c v = go (is_live t x) refl (eqb y z) refl (sym (spread_row x y z t h l) ∙ v)
    where
      go : (a : Bool) → is_live t x ≡ a → (b : Bool) → eqb y z ≡ b → cond a (cond b true (is_live t z)) (is_live t z) ≡ true → is_live t z ≡ true
      go true p true q e = ap (is_live t) (sym (eqb-true y z q)) ∙ c p
      go true p false q e = e
      go false p b q e = e

-- ---- all links

module _ (src tgt : ℕ → ℕ) where
  pub down-within : (d j : ℕ) (t : List ℕ) → Within live_at (live_at + nodes) t (spread_down src tgt d j t)
  unfolding spread_down
  down-within zero j t = within_none live_at (live_at + nodes) t
  down-within (suc d) j t =
      within_both (omega arith) (omega arith) (omega arith) (omega arith) (spread-within (src j) (tgt j) t) (down-within d (j + 1) (spread (src j) (tgt j) t))

  pub up-keeps : (j z : ℕ) (t : List ℕ) → z < nodes → Roomy t → is_live t z ≡ true → is_live (spread_up src tgt j t) z ≡ true
  unfolding spread_up
  up-keeps zero z t h l e = e
  up-keeps (suc j) z t h l e =
      let s = (spread-within (src (suc j)) (tgt (suc j)) t).long in
      up-keeps j z (spread (src (suc j)) (tgt (suc j)) t) h (omega arith) (spread-keeps (src (suc j)) (tgt (suc j)) z t h l e)

  pub down-keeps : (d j z : ℕ) (t : List ℕ) → z < nodes → Roomy t → is_live t z ≡ true → is_live (spread_down src tgt d j t) z ≡ true
  unfolding spread_down
  down-keeps zero j z t h l e = e
  down-keeps (suc d) j z t h l e =
      let s = (spread-within (src j) (tgt j) t).long in
      down-keeps d (j + 1) z (spread (src j) (tgt j) t) h (omega arith) (spread-keeps (src j) (tgt j) z t h l e)

  -- link j does not lead out of the live nodes
  abbrev pub Closed : List ℕ → ℕ → Type 0
  Closed t j = is_live t (src j) ≡ true → is_live t (tgt j) ≡ true

  module _ (m : ℕ) (src-in : (j : ℕ) → 0 < j → j ≤ m → src j < nodes) (tgt-in : (j : ℕ) → 0 < j → j ≤ m → tgt j < nodes)
      (up-order : (i j : ℕ) → 0 < i → i ≤ j → j ≤ m → is_output (src j) ≡ true → src j ≡ tgt i → ⊥)
      (down-order : (i j : ℕ) → 0 < j → j ≤ i → i ≤ m → is_output (src i) ≡ false → src j ≡ tgt i → ⊥)
      (down-input : (i : ℕ) → 0 < i → i ≤ m → is_output (src i) ≡ false → is_output (tgt i) ≡ false) where
    -- links from outputs, from the last to the first
    up-closed : (j : ℕ) (t : List ℕ) → j ≤ m → Roomy t → ((i : ℕ) → j < i → i ≤ m → is_output (src i) ≡ true → Closed t i)
        → (i : ℕ) → 0 < i → i ≤ m → is_output (src i) ≡ true → Closed (spread_up src tgt j t) i
    unfolding spread_up
    up-closed zero t l r h = h
    up-closed (suc j) t l r h =
        let s = (spread-within (src (suc j)) (tgt (suc j)) t).long in
        up-closed j (spread (src (suc j)) (tgt (suc j)) t) (omega arith) (omega arith) (λ i a b o v. go i a b o v (eqb i (suc j)) refl)
      where
        go : (i : ℕ) → j < i → i ≤ m → is_output (src i) ≡ true → is_live (spread (src (suc j)) (tgt (suc j)) t) (src i) ≡ true → (q : Bool) → eqb i (suc j) ≡ q
            → is_live (spread (src (suc j)) (tgt (suc j)) t) (tgt i) ≡ true
        go i a b o v q e =
            let old : is_live t (src i) ≡ true = spread-old (src (suc j)) (tgt (suc j)) (src i) t (src-in i (omega arith) b) r (λ z. up-order (suc j) i (omega arith) (omega arith) b o (sym z)) v in
            pick q e old
          where
            pick : (q : Bool) → eqb i (suc j) ≡ q → is_live t (src i) ≡ true → is_live (spread (src (suc j)) (tgt (suc j)) t) (tgt i) ≡ true
            pick true e old =
                let s : i ≡ suc j = eqb-true i (suc j) e in
                spread-here (src (suc j)) (tgt (suc j)) (tgt i) t (tgt-in i (omega arith) b) r (ap tgt (sym s)) (ap (λ k. is_live t (src k)) (sym s) ∙ old)
            pick false e old =
                let d = eqb-false i (suc j) e in
                spread-keeps (src (suc j)) (tgt (suc j)) (tgt i) t (tgt-in i (omega arith) b) r (h i (ne a d) b o old)
              where
                ne : j < i → (i ≡ suc j → ⊥) → suc j < i
                ne a d = omega arith

    -- a link that was closed stays so, where the link taken was closed too or ends elsewhere
    closed-keeps : (i j : ℕ) (t : List ℕ) → 0 < i → i ≤ m → Roomy t → (Closed t j ⊎ (src i ≡ tgt j → ⊥)) → Closed t i → Closed (spread (src j) (tgt j) t) i
    closed-keeps i j t p q r o c v =
        spread-keeps (src j) (tgt j) (tgt i) t (tgt-in i p q) r
        (c (⊎_elim (λ k. spread-idle (src j) (tgt j) (src i) t (src-in i p q) r k v) (λ d. spread-old (src j) (tgt j) (src i) t (src-in i p q) r (λ e. d (sym e)) v) o))

    -- then all links, from the first to the last
    down-closed : (d j : ℕ) (t : List ℕ) → 0 < j → j + d ≡ m + 1 → Roomy t
        → ((i : ℕ) → 0 < i → i ≤ m → is_output (src i) ≡ true → Closed t i) → ((i : ℕ) → 0 < i → i < j → Closed t i)
        → (i : ℕ) → 0 < i → i ≤ m → Closed (spread_down src tgt d j t) i
    unfolding spread_down
    down-closed zero j t p e r out before = λ i a b. before i a (omega arith)
    down-closed (suc d) j t p e r out before =
        let s = (spread-within (src j) (tgt j) t).long in
        down-closed d (j + 1) (spread (src j) (tgt j) t) (omega arith) (omega arith) (omega arith)
        (λ i a b o. closed-keeps i j t a b r (outs i a b o (is_output (src j)) refl) (out i a b o))
        (λ i a b. ins i a b (is_output (src j)) refl (eqb i j) refl)
      where
        k : j ≤ m
        k = omega arith

        outs : (i : ℕ) → 0 < i → i ≤ m → is_output (src i) ≡ true → (q : Bool) → is_output (src j) ≡ q → Closed t j ⊎ (src i ≡ tgt j → ⊥)
        outs i a b o true q = inl (out j p k q)
        outs i a b o false q = inr (λ z. clash (sym (ap is_output z) ∙ o) (down-input j p k q))

        ins : (i : ℕ) → 0 < i → i < j + 1 → (q : Bool) → is_output (src j) ≡ q → (same : Bool) → eqb i j ≡ same → Closed (spread (src j) (tgt j) t) i
        ins i a b true q true f = closed-keeps i j t a (omega arith) r (inl (out j p k q)) (subst (Closed t) (sym (eqb-true i j f)) (out j p k q))
        ins i a b true q false f = closed-keeps i j t a (omega arith) r (inl (out j p k q)) (before i a (below i b (eqb-false i j f)))
          where
            below : (i : ℕ) → i < j + 1 → (i ≡ j → ⊥) → i < j
            below i b d = omega arith
        ins i a b false q true f =
            let s : i ≡ j = eqb-true i j f in
            subst (Closed (spread (src j) (tgt j) t)) (sym s)
            (λ v. spread-here (src j) (tgt j) (tgt j) t (tgt-in j p k) r refl (spread-old (src j) (tgt j) (src j) t (src-in j p k) r (λ z. down-order j j p (omega arith) k q (sym z)) v))
        ins i a b false q false f =
            closed-keeps i j t a (omega arith) r (inr (down-order j i a (omega arith) k q)) (before i a (below i b (eqb-false i j f)))
          where
            below : (i : ℕ) → i < j + 1 → (i ≡ j → ⊥) → i < j
            below i b d = omega arith

    -- both passes
    pub spread-closed : (t : List ℕ) → Roomy t → (i : ℕ) → 0 < i → i ≤ m → Closed (spread_down src tgt m 1 (spread_up src tgt m t)) i
    spread-closed t r =
        let s = (up-within src tgt m t).long in
        down-closed m 1 (spread_up src tgt m t) (omega arith) (omega arith) (omega arith) (up-closed m t (omega arith) r (λ i a b. absurd (omega arith))) (λ i a b. absurd (omega arith))
