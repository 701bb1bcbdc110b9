-- The flags keep the local condition of `Pruned`: at a node whose flag is down, static or of this step, each node that leads there has nothing to
-- give, so leaving out its rows changes nothing. The record `Flags` has all that this takes of a step's marks and flags; a step of a run
-- (`Flagged`) and the probing step of flatten are its two instances. Assumes nothing.
use mathlib.Core.Path.{◌≡◌, refl, sym, ap, ◌∙◌}
use Prim.Native.Nat.{ℕ, ◌-◌, ◌<◌}
use mathlib.Core.List.{List, [], ◌∷◌, map}
use mathlib.Core.Bool.{Bool, true, false, ◌&&◌, ◌||◌, not, cond}
use native.Mathlib.Omega.{arith}
use lib.Dec.{eqb}
use lib.ListN.{length, get_or}
use borrow.Author.Tests.{eqb-true, eqb-false, not-true, not-false}
use Rattle.definition.specs.Lists.{all, is_empty}
use Rattle.definition.specs.Limits.{port_count}
use Rattle.definition.specs.Model.{Bag, Coupling, Model, Phase, no_phase, is_child, outputs}
use Rattle.definition.specs.Pinned.Decoder.{coupling_fields}
use Rattle.law_base.proofs.Tests.{clash, and_left, and_right, and-true, or-none}
use Rattle.law_base.proofs.Lists.{all-and, all-if}
use Rattle.law_model.proofs.WellFormed.{WellFormed, kept}
use Rattle.spec_step.specs.Put.{values_on}
use Rattle.spec_step.specs.Tables.{node_component, node_port, atomic_node}
use Rattle.spec_step.specs.TableStep.{any_of, is_up, may_come, is_open, sent_by}
use Rattle.spec_step.specs.Tabled.{Tabled, is_live, may_lead}
use Rattle.law_step.proofs.Ends.{rising}
use Rattle.law_step.proofs.Nodes.{Node, inn, source_node, ends_at, rows_at, atomic_at, given_at, root_at, output_at}
use Rattle.law_step.proofs.Numbered.{code, code-component, code-output, good, good-in, rows_all, rows-good, rows_are, atomic-is, code_below}
use Rattle.law_step.proofs.Pruned.{still, still_in, good_out, empty-list}

-- nothing passes, so each fails
pub any_none : {A : Type 0} (p : A → Bool) (l : List A) → any_of p l ≡ false → all (λ a. not (p a)) l ≡ true
unfolding any_of all
any_none p [] h = refl
any_none p (a ∷ l) h = go (p a) refl (any_none p l)
  where
    go : (b : Bool) → p a ≡ b → (any_of p l ≡ false → all (λ a. not (p a)) l ≡ true) → not (p a) && all (λ a. not (p a)) l ≡ true
    go true e ih = absurd (clash (ap (λ b. b || any_of p l) e) h)
    go false e ih = rw e (ih (rw e at h))

pub any-map : {A B : Type 0} (p : B → Bool) (f : A → B) (l : List A) → any_of p (map f l) ≡ any_of (λ a. p (f a)) l
unfolding any_of
any-map p f [] = refl
any-map p f (a ∷ l) = ap (λ b. p (f a) || b) (any-map p f l)

both-down : (a b : Bool) → a && b ≡ false → a ≡ true → b ≡ false
both-down true b h e = h
both-down false b h e = absurd (clash e refl)

closes : (a b : Bool) → b ≡ false → a && b ≡ false
closes true b e = e
closes false b e = refl

-- What marks es and flags fs have to say of a model with the tables t, where `sends` is what its sources put out and x is the given bag: a
-- mark that is down is down at the children, and where a flag is down nothing may come.
pub record Flags (m : Model) (w : WellFormed m) (t : List ℕ) (ps : List Phase) (es fs : List ℕ) (x : Bag) (sends : Node → List ℕ) : Type 0 where
  pub sent : (y : Node) → good m w y ≡ true → atomic_at m y ≡ true → sent_by ps es (code y) ≡ sends y
  pub marks_down : (c d : ℕ) → is_child m.components c d ≡ true → d < length m.components → is_up es c ≡ false → is_up es d ≡ false
  pub flags_down : (c q : ℕ) → 0 < c → c < length m.components → q < port_count → is_up fs c ≡ false
      → all (λ y. not (may_come es fs (code y))) (rows_at m (inn c q)) ≡ true
  pub root_down : is_up fs 0 ≡ false → is_empty x ≡ true

module _ (m : Model) (w : WellFormed m) (t : List ℕ) (h : Tabled m t) (ps : List Phase) (es fs : List ℕ) (x : Bag) (sends : Node → List ℕ)
    (k : Flags m w t ps es fs x sends) where
  -- the flag of a node
  unfoldable pub up : Node → Bool
  up y = is_open t es fs (code y)

  -- nothing comes from an output node, or from any
  abbrev Still : Node → Bool
  Still = still (rows_at m) (atomic_at m) sends output_at (good m w) up

  abbrev StillIn : Node → Bool
  StillIn = still_in (rows_at m) (atomic_at m) sends output_at (good m w) up

  abbrev MayCome : Node → Bool
  MayCome y = may_come es fs (code y)

  -- ---- a node whose flag is down

  may-out : (y : Node) → y.port < port_count → y.output ≡ true → MayCome y ≡ is_up es y.component
  unfolding may_come
  may-out y l o = ap (λ b. cond b (is_up es (node_component (code y))) (is_up fs (node_component (code y)))) (code-output y l ∙ o) ∙ ap (is_up es) (code-component y l)

  may-in : (y : Node) → y.port < port_count → y.output ≡ false → MayCome y ≡ is_up fs y.component
  unfolding may_come
  may-in y l o = ap (λ b. cond b (is_up es (node_component (code y))) (is_up fs (node_component (code y)))) (code-output y l ∙ o) ∙ ap (is_up fs) (code-component y l)

  live-down : (y : Node) → is_live t (code y) ≡ false → up y ≡ false
  unfolding up is_open is_live
  live-down y e = ap (λ b. b && MayCome y) e

  come-down : (y : Node) → MayCome y ≡ false → up y ≡ false
  unfolding up is_open is_live
  come-down y e = closes (is_live t (code y)) (MayCome y) e

  idle : (y : Node) → up y ≡ false → is_live t (code y) ≡ true → MayCome y ≡ false
  unfolding up is_open is_live
  idle y d e = both-down (is_live t (code y)) (MayCome y) d e

  nothing-sent : (y : Node) → good m w y ≡ true → atomic_at m y ≡ true → is_up es y.component ≡ false → sends y ≡ []
  unfolding sent_by is_up
  nothing-sent y g a d =
      let values : ℕ → List ℕ = λ c. values_on (node_port (code y)) (outputs (get_or ps (get_or es c 0 - 1) no_phase)) in
      sym (k.sent y g a) ∙ ap (λ c. cond (eqb (get_or es c 0) 0) [] (values c)) (code-component y (good-in m w y g).1)
      ∙ ap (λ b. cond b [] (values y.component)) (not-false (eqb (get_or es y.component 0) 0) d)

  still-in : (z : Node) → up z ≡ false → (z.output ≡ true → atomic_at m z ≡ true → sends z ≡ []) → StillIn z ≡ true
  unfolding still_in still output_at is_empty
  still-in z d none = go z.output refl (atomic_at m z) refl
    where
      go : (o : Bool) → z.output ≡ o → (a : Bool) → atomic_at m z ≡ a → cond o (cond a (is_empty (sends z)) (not (up z))) (not (up z)) ≡ true
      go true o true a = ap is_empty (none o a)
      go true o false a = ap not d
      go false o a f = ap not d

  still-out : (z : Node) → z.output ≡ true → StillIn z ≡ true → Still z ≡ true
  unfolding still_in output_at
  still-out z o e = ap (λ b. cond b (Still z) (not (up z))) (sym o) ∙ e

  -- a node that no source ever leads to
  by-live : (z : Node) → good m w z ≡ true → not (may_lead t (code z)) ≡ true → StillIn z ≡ true
  unfolding may_lead
  by-live z g e = go z.output refl
    where
      none : (o : Bool) → z.output ≡ o → cond o (atomic_node t (code z) || is_live t (code z)) (is_live t (code z)) ≡ false
      none o f =
          not-true _ (ap (λ b. not (cond b (atomic_node t (code z) || is_live t (code z)) (is_live t (code z)))) (sym (code-output z (good-in m w z g).1 ∙ f)) ∙ e)

      go : (o : Bool) → z.output ≡ o → StillIn z ≡ true
      go true o =
          let d = or-none (atomic_node t (code z)) (is_live t (code z)) (none true o) in
          still-in z (live-down z d.1) (λ p a. absurd (clash (atomic-is m w t h z g ∙ a) d.0))
      go false o = still-in z (live-down z (none false o)) (λ p a. absurd (clash p o))

  -- a node from which nothing may come in this step
  by_flags : (z : Node) → good m w z ≡ true → not (MayCome z) ≡ true → StillIn z ≡ true
  by_flags z g e =
      let d = not-true (MayCome z) e in
      still-in z (come-down z d) (λ o a. nothing-sent z g a (sym (may-out z (good-in m w z g).1 o) ∙ d))

  -- ---- the local condition

  closed : (y : Node) → good m w y ≡ true → up y ≡ false → (MayCome y ≡ false → all (λ z. not (MayCome z)) (rows_at m y) ≡ true) → all StillIn (rows_at m y) ≡ true
  closed y g d by-marks = go (is_live t (code y)) refl
    where
      each : (p : Node → Bool) → ((z : Node) → good m w z ≡ true → not (p z) ≡ true → StillIn z ≡ true) → all (λ z. not (p z)) (rows_at m y) ≡ true → all StillIn (rows_at m y) ≡ true
      each p one e =
          all-if (λ z. good m w z && not (p z)) StillIn (rows_at m y) (λ z f. one z (and_left (good m w z) _ f) (and_right (good m w z) (not (p z)) f))
          (all-and (good m w) (λ z. not (p z)) (rows_at m y) (rows-good m w y) e)

      go : (b : Bool) → is_live t (code y) ≡ b → all StillIn (rows_at m y) ≡ true
      go false e =
          each (λ z. may_lead t (code z)) by-live (any_none (λ z. may_lead t (code z)) (rows_at m y)
          (sym (any-map (may_lead t) code (rows_at m y)) ∙ ap (any_of (may_lead t)) (sym (rows_are m w t h y g)) ∙ h.live (code y) (code_below m w y g) e))
      go true e = each MayCome by_flags (by-marks (idle y d e))

  -- the rows of an output node are outputs of children
  child : Node → Node → Bool
  child y z = z.output && is_child m.components y.component z.component

  child-outs : (y : Node) → y.output ≡ true → all (child y) (rows_at m y) ≡ true
  unfolding ends_at source_node child
  child-outs y o = rows_all m w _ y (λ k f e. one k f (ap (λ b. eqb k.target y.component && eqb y.port k.target_port && cond b (is_child m.components k.target k.source) (not (is_child m.components k.target k.source))) (sym o) ∙ e))
    where
      not-both : (k : Coupling) → coupling_fields m.components k ≡ true → is_child m.components k.target k.source ≡ true → is_child m.components k.source k.target ≡ false
      not-both k f e = go (is_child m.components k.source k.target) refl
        where
          go : (b : Bool) → is_child m.components k.source k.target ≡ b → is_child m.components k.source k.target ≡ false
          go false z = z
          go true z =
              let i = kept m.components k f in
              absurd (omega (arith, rising m w k.target k.source e i.source, rising m w k.source k.target z i.target))

      one : (k : Coupling) → coupling_fields m.components k ≡ true
          → eqb k.target y.component && eqb y.port k.target_port && is_child m.components k.target k.source ≡ true
          → not (is_child m.components k.source k.target) && is_child m.components y.component k.source ≡ true
      one k f e =
          let a = and_left (eqb k.target y.component && eqb y.port k.target_port) _ e in
          let s = and_right (eqb k.target y.component && eqb y.port k.target_port) (is_child m.components k.target k.source) e in
          let q = eqb-true k.target y.component (and_left (eqb k.target y.component) _ a) in
          and-true _ _ (ap not (not-both k f s)) (ap (λ c. is_child m.components c k.source) (sym q) ∙ s)

  pub out-good : (y : Node) → good m w y ≡ true → output_at y ≡ true → all (good_out (rows_at m) (atomic_at m) sends output_at (good m w) up) (rows_at m y) ≡ true
  unfolding output_at child
  out-good y g o =
      all-and (good m w) (λ z. z.output) (rows_at m y) (rows-good m w y) (all-if (child y) (λ z. z.output) (rows_at m y) (λ z e. and_left z.output _ e) (child-outs y o))

  pub closed-out : (y : Node) → good m w y ≡ true → output_at y ≡ true → up y ≡ false → all Still (rows_at m y) ≡ true
  unfolding output_at child
  closed-out y g o d =
      all-if (λ z. child y z && StillIn z) Still (rows_at m y)
      (λ z e. still-out z (and_left z.output _ (and_left (child y z) (StillIn z) e)) (and_right (child y z) (StillIn z) e))
      (all-and (child y) StillIn (rows_at m y) (child-outs y o) (closed y g d by-marks))
    where
      by-marks : MayCome y ≡ false → all (λ z. not (MayCome z)) (rows_at m y) ≡ true
      by-marks e =
          all-if (λ z. good m w z && child y z) (λ z. not (MayCome z)) (rows_at m y)
          (λ z f. let i = good-in m w z (and_left (good m w z) (child y z) f) in
          let c = and_right (good m w z) (child y z) f in
          ap not (may-out z i.1 (and_left z.output _ c)
          ∙ k.marks_down y.component z.component (and_right z.output _ c) i.0 (sym (may-out y (good-in m w y g).1 o) ∙ e)))
          (all-and (good m w) (child y) (rows_at m y) (rows-good m w y) (child-outs y o))

  input-node : (y : Node) → y.output ≡ false → y ≡ inn y.component y.port
  input-node y o = λ i. record { component = y.component; port = y.port; output = o i }

  pub closed_in : (y : Node) → good m w y ≡ true → output_at y ≡ false → root_at y ≡ false → up y ≡ false → all StillIn (rows_at m y) ≡ true
  unfolding output_at root_at
  closed_in y g o r d =
      let i = good-in m w y g in
      closed y g d (λ e. ap (λ n. all (λ z. not (MayCome z)) (rows_at m n)) (input-node y o)
      ∙ k.flags_down y.component y.port (let q = eqb-false y.component 0 r in omega arith) i.0 i.1 (sym (may-in y i.1 o) ∙ e))

  -- the root's input flag is down where nothing is given
  pub empty : (y : Node) → good m w y ≡ true → output_at y ≡ false → root_at y ≡ true → up y ≡ false → given_at x y ≡ []
  unfolding output_at root_at given_at
  empty y g o r d =
      let i = good-in m w y g in
      let z = eqb-true y.component 0 r in
      let live : is_live t (code y) ≡ true = ap (λ y. is_live t (code y)) (input-node y o ∙ ap (λ c. inn c y.port) z) ∙ live-root y.port i.1 in
      none-given (k.root_down (ap (is_up fs) (sym z) ∙ sym (may-in y i.1 o) ∙ idle y d live))
    where
      live-root : (q : ℕ) → q < port_count → is_live t (code (inn 0 q)) ≡ true
      live-root q l = unfold code in (h.given_live q l)

      none-given : is_empty x ≡ true → values_on y.port x ≡ []
      none-given e = ap (values_on y.port) (empty-list x e) ∙ (unfold values_on in refl)
