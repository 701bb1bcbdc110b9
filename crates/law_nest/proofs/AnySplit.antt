-- Any state of a resultant whose elapsed times, with what the atomic has spent, add up along each path to the time since the atomic's last moment
-- does what the nest's own account says, and stands for the entries after the step; how the time is split over the levels means nothing. This
-- joins document 001's bookkeeping to the saved run. Assumes nothing.
use mathlib.Core.Path.{◌≡◌, refl, sym, ap, ap₂, ◌∙◌, subst, fun_ext}
use Prim.Native.Nat.{ℕ, ◌+◌, ◌-◌}
use mathlib.Core.List.{List, [], ◌∷◌, ◌++◌, append-nil}
use mathlib.Core.Option.{Option, none, some}
use mathlib.Core.Bool.{Bool, true, false, cond}
use native.Mathlib.Omega.{arith}
use native.Mathlib.Nat.{add-zero, zero-add}
use lib.Dec.{eqb}
use lib.ListN.{length}
use Rattle.definition.specs.Model.{Bag, Coupling, Model, phase_at, outputs, Tree, Forest, leaf, node, stop, more, name_of}
use Rattle.definition.specs.Devs.{Time, finite, earlier, remaining, later, same_time, ticks, Decided, After, Totals, translate}
use Rattle.definition.specs.Devs.{sigma, least_sigma, outputs_to, anew, changed, changed_all, resultant_out, resultant_int, resultant_ext, resultant_con, transition}
use Rattle.definition.specs.Atomic.{InPhase, told_as, unspent, followed, advance_of, next_phase, rule_for, time_advance, internal, external, devs_of, parts_of}
use Rattle.definition.specs.SavedRun.{Entry, due_of, due_at, due_all}
use Rattle.definition.specs.Step.{elapsed, load, load_all, decided_of}
use Rattle.definition.specs.FlatMachine.{moved_by, moved}
use Rattle.definition.specs.Carrying.{Stands, StandsAll}
use Rattle.law_nest.proofs.Parts.{part, or_else, came-append, part_in, part_in_all}
use Rattle.law_nest.proofs.Entries.{both, confluent-due}
use Rattle.law_nest.proofs.Times.{later-add, later-earlier, left-earlier, spent-left, same-later, never-later, imminent, left-due}
use Rattle.law_nest.proofs.Nest.{Ready, ReadyAll, ready-due, due, out_of, out_to, NoneDue, none-due, out_none}

module _ (m : Model) (at : ℕ → Entry) (now : ℕ) where
  -- ---- time passes without a transition

  mutual
    pub pass-stands : (d e : ℕ) (t : Tree) (s : (devs_of m t).State) → Stands m at now e t s → Stands m at (now + d) (e + d) t s
    pass-stands d e (leaf c) s h = (h.0, omega (arith, h.1))
    pass-stands d e (node c f) s h = passes-stand d e f s h

    passes-stand : (d e : ℕ) (f : Forest) (s : Totals (parts_of m f)) → StandsAll m at now e f s → StandsAll m at (now + d) (e + d) f s
    passes-stand d e stop s h = tt
    passes-stand d e (more t f) s h = (
      subst (λ n. Stands m at (now + d) n t s.0.0) (let q : e + s.0.1 + d ≡ e + d + s.0.1 = omega arith in q) (pass-stands d (e + s.0.1) t s.0.0 h.0),
      passes-stand d e f s.1 h.1,
    )

  -- ---- what is left of a component's advance

  mutual
    unfolding due_at sigma least_sigma due_of time_advance

    pub ta-stands : (t : Tree) (e : ℕ) (s : (devs_of m t).State) → Stands m at now e t s → Ready m at now t → (devs_of m t).ta s ≡ later e (remaining (due_at m at t) now)
    ta-stands (leaf c) e s h r =
        ap (λ p. remaining (advance_of m c p) s.spent) h.0
        ∙ spent-left (at c).last s.spent e now (advance_of m c (at c).phase) h.1 r.1
    ta-stands (node c f) e s h r = least-stands f e s h r

    least-stands : (f : Forest) (e : ℕ) (s : Totals (parts_of m f)) → StandsAll m at now e f s → ReadyAll m at now f → least_sigma (parts_of m f) s ≡ later e (remaining (due_all m at f) now)
    least-stands stop e s h r = never-later e now
    least-stands (more t f) e s h r =
        ap₂ earlier (ap (λ u. remaining u s.0.1) (ta-stands t (e + s.0.1) s.0.0 h.0 r.0) ∙ later-add e s.0.1 (remaining (due_at m at t) now)) (least-stands f e s.1 h.1 r.1)
        ∙ sym (later-earlier e (remaining (due_at m at t) now) (remaining (due_all m at f) now)) ∙ ap (later e) (sym (left-earlier (due_at m at t) (due_all m at f) now))

  -- a component's advance is over just when it is due
  pub over-stands : (t : Tree) (e : ℕ) (s : (devs_of m t).State) → Stands m at now e t s → Ready m at now t → same_time ((devs_of m t).ta s) (finite e) ≡ due m at now t
  unfolding due
  over-stands t e s h r =
      ap (λ u. same_time u (finite e)) (ta-stands t e s h r)
      ∙ same-later e (remaining (due_at m at t) now) ∙ imminent now (due_at m at t) (ready-due m at now t r)

  -- a part is imminent just when it is due, where the coupled component it stands in has e to go
  imminent-stands : (t : Tree) (e : ℕ) (s : (devs_of m t).State × ℕ) → Stands m at now (e + s.1) t s.0 → Ready m at now t → same_time (sigma (devs_of m t) s) (finite e) ≡ due m at now t
  unfolding sigma due
  imminent-stands t e s h r =
      ap (λ u. same_time (remaining u s.1) (finite e)) (ta-stands t (e + s.1) s.0 h r)
      ∙ ap (λ u. same_time u (finite e)) (later-add e s.1 (remaining (due_at m at t) now))
      ∙ same-later e (remaining (due_at m at t) now) ∙ imminent now (due_at m at t) (ready-due m at now t r)

  -- a coupled component that is due has as much to go as it has spent
  due-least : (f : Forest) (e : ℕ) (s : Totals (parts_of m f)) → StandsAll m at now e f s → ReadyAll m at now f → same_time (due_all m at f) (finite now) ≡ true → least_sigma (parts_of m f) s ≡ finite e
  unfolding later
  due-least f e s h r d = least-stands f e s h r ∙ ap (later e) (left-due now (due_all m at f) d) ∙ ap finite (add-zero e)

  -- ---- outputs

  mutual
    unfolding out_of outputs_to resultant_out due due_at

    out-stands : (t : Tree) (e : ℕ) (s : (devs_of m t).State) → Stands m at now e t s → Ready m at now t → due m at now t ≡ true → (devs_of m t).out s ≡ out_of m at now t
    out-stands (leaf c) e s h r d = ap (λ p. outputs (phase_at m c p)) h.0
    out-stands (node c f) e s h r d = ap (λ u. outputs_to m.couplings c u (parts_of m f) s) (due-least f e s h r d) ∙ outs-stands f c e s h r

    outs-stands : (f : Forest) (to e : ℕ) (s : Totals (parts_of m f)) → StandsAll m at now e f s → ReadyAll m at now f → outputs_to m.couplings to (finite e) (parts_of m f) s ≡ out_to m at now f to
    outs-stands stop to e s h r = refl
    outs-stands (more t f) to e s h r =
        ap₂ ◌++◌ (go (due m at now t) refl (imminent-stands t e s.0 h.0 r.0) (λ d. out-stands t (e + s.0.1) s.0.0 h.0 r.0 d)) (outs-stands f to e s.1 h.1 r.1)
      where
        ks : List Coupling
        ks = m.couplings

        go : (b : Bool) → due m at now t ≡ b → same_time (sigma (devs_of m t) s.0) (finite e) ≡ due m at now t
            → (due m at now t ≡ true → (devs_of m t).out s.0.0 ≡ out_of m at now t)
            → cond (same_time (sigma (devs_of m t) s.0) (finite e)) (translate ks (name_of t) to ((devs_of m t).out s.0.0)) []
            ≡ cond (due m at now t) (translate ks (name_of t) to (out_of m at now t)) []
        go true d i o = rw (i, o d)
        go false d i o = rw (i, d)

  -- ---- the transitions

  -- the test `imm` of a part's σ says whether it is due
  abbrev ImmAll : (Time → Bool) → (f : Forest) → Totals (parts_of m f) → Type 0
  ImmAll imm stop s = Unit {0}
  ImmAll imm (more t f) s = (imm (sigma (devs_of m t) s.0) ≡ due m at now t) × ImmAll imm f s.1

  imm-due : (f : Forest) (e : ℕ) (s : Totals (parts_of m f)) → StandsAll m at now e f s → ReadyAll m at now f → ImmAll (λ u. same_time u (finite e)) f s
  imm-due stop e s h r = tt
  imm-due (more t f) e s h r = (imminent-stands t e s.0 h.0 r.0, imm-due f e s.1 h.1 r.1)

  imm-none : (f : Forest) (s : Totals (parts_of m f)) → NoneDue m at now f → ImmAll (λ u. false) f s
  imm-none stop s n = tt
  imm-none (more t f) s n = (sym n.0, imm-none f s.1 n.1)

  module _ (on : ℕ → Entry) where
    -- `on` has the entries after the step, where the tree is given the bag x
    abbrev mutual
      pub On : (t : Tree) → Bag → Type 0
      On (leaf c) x = on c ≡ moved m now c (due m at now (leaf c)) x (at c)
      On (node c f) x = OnAll f (λ d. out_to m at now f d ++ translate m.couplings c d x)

      pub OnAll : (f : Forest) → (ℕ → Bag) → Type 0
      OnAll stop input = Unit {0}
      OnAll (more t f) input = On t (input (name_of t)) × OnAll f input

    -- what a transition answers: a state that stands for the entries after the step, an elapsed time e after it, and what decided
    abbrev Answers : (t : Tree) → ℕ → (devs_of m t).State → List Decided → Bag → Type 0
    Answers t e s ds x = Stands m on now e t s × ((a : ℕ) → decided_of ds a ≡ part_in m at now a t x)

    abbrev pub AnswersAll : (f : Forest) → After (Totals (parts_of m f)) → (ℕ → Bag) → Type 0
    AnswersAll f r input = StandsAll m on now 0 f r.state × ((a : ℕ) → decided_of r.decided a ≡ part_in_all m at now a f input)

    -- a part with elapsed time k when its parent last changed, which was e ago
    abbrev New : (t : Tree) → ℕ → (devs_of m t).State × ℕ → Bag → Type 0
    New t e s x =
        let r = changed (devs_of m t) (due m at now t) x e s in
        Answers t r.state.1 r.state.0 r.decided x

    NewAll : (f : Forest) → Totals (parts_of m f) → Type 0
    NewAll f s =
        (e : ℕ) (imm : Time → Bool) (input : ℕ → Bag) → StandsAll m at now e f s → ImmAll imm f s → OnAll f input
        → AnswersAll f (changed_all imm input e (parts_of m f) s) input

    -- what the parts of a coupled component are given
    abbrev inputs : ℕ → Forest → Bag → ℕ → Bag
    inputs c f x d = out_to m at now f d ++ translate m.couplings c d x

    -- after a search: what the rule at a position sets, or all that was spent
    new-searched : (c e k : ℕ) (s : InPhase) (o : Option ℕ) → Stands m at now (e + k) (leaf c) s → on c ≡ moved_by m now o (at c)
        → Stands m on now 0 (leaf c) (followed m.rules s.phase (s.spent + (k + e)) o)
    unfolding followed unspent moved_by
    new-searched c e k s none h q = (h.0 ∙ sym (ap (λ r. r.phase) q), omega (arith, h.1, ap (λ r. r.last) q))
    new-searched c e k s (some i) h q = (sym (ap (λ r. r.phase) q), omega (arith, ap (λ r. r.last) q))

    -- what one atomic passes up
    own-part : (c i : ℕ) (x : Bag) → part m now c (due m at now (leaf c)) x (at c) ≡ some i → (a : ℕ) → decided_of (record { atomic = c; position = i; messages = length x } ∷ []) a ≡ part_in m at now a (leaf c) x
    unfolding decided_of part_in
    own-part c i x h a = ap (λ p. cond (eqb c a) p none) (sym h)

    no_part : (c : ℕ) (x : Bag) → part m now c (due m at now (leaf c)) x (at c) ≡ none → (a : ℕ) → decided_of [] a ≡ part_in m at now a (leaf c) x
    unfolding decided_of part_in
    no_part c x h a = either (eqb c a) none ∙ ap (λ p. cond (eqb c a) p none) (sym h)
      where
        either : (b : Bool) (p : Option ℕ) → p ≡ cond b p p
        either true p = refl
        either false p = refl

    new-leaf : (c e k : ℕ) (s : InPhase) (x : Bag) → Stands m at now (e + k) (leaf c) s → On (leaf c) x → New (leaf c) e (s, k) x
    unfolding changed anew moved internal external unspent due due_at part both
    new-leaf c e k s x h o = go (due m at now (leaf c)) refl x o
      where
        go : (b : Bool) → due m at now (leaf c) ≡ b → (x : Bag) → On (leaf c) x → New (leaf c) e (s, k) x
        go true d [] o =
            let q = rw d at o in
            rw d ((ap (next_phase m c) h.0 ∙ sym (ap (λ r. r.phase) q), omega (arith, ap (λ r. r.last) q)), no_part c [] refl)
        go true d (y ∷ ys) o =
            let q = rw d at o in
            rw (d, confluent-due m c now (e + k) s (at c) (y ∷ ys) h.0 h.1 d)
            ((sym (ap (λ r. r.phase) q), omega (arith, ap (λ r. r.last) q)), own-part c _ (y ∷ ys) (rw d refl))
        go false d [] o =
            let q = rw d at o in
            rw d ((h.0 ∙ sym (ap (λ r. r.phase) q), omega (arith, h.1, ap (λ r. r.last) q)), no_part c [] refl)
        go false d (y ∷ ys) o =
            let q = rw d at o in
            let z : s.spent + (k + e) ≡ now - (at c).last = omega (arith, h.1) in
            let same : rule_for m c s.phase (s.spent + (k + e)) (y ∷ ys) ≡ rule_for m c (at c).phase (now - (at c).last) (y ∷ ys) = ap₂ (λ p e. rule_for m c p e (y ∷ ys)) h.0 z in
            rw d (
              new-searched c e k s (rule_for m c s.phase (s.spent + (k + e)) (y ∷ ys)) h (q ∙ ap (λ o. moved_by m now o (at c)) (sym same)),
              own-part c _ (y ∷ ys) (rw d (ap some (ap told_as (sym same)))),
            )

    -- where the coupled component c is due
    new-due : (c : ℕ) (f : Forest) (s : Totals (parts_of m f)) (e : ℕ) (x : Bag) → StandsAll m at now e f s → ReadyAll m at now f → NewAll f s
        → due m at now (node c f) ≡ true → On (node c f) x → (input : Time → ℕ → Bag)
        → ((d : ℕ) → input (finite e) d ≡ inputs c f x d)
        → (let u = least_sigma (parts_of m f) s in AnswersAll f (changed_all (λ v. same_time v u) (input u) (ticks u) (parts_of m f) s) (inputs c f x))
    unfolding NewAll due due_at ticks
    new-due c f s e x h r ih d o input same =
        subst (λ (u : Time). AnswersAll f (changed_all (λ v. same_time v u) (input u) (ticks u) (parts_of m f) s) (inputs c f x)) (sym (due-least f e s h r d))
        (subst (λ g. AnswersAll f (changed_all (λ v. same_time v (finite e)) (input (finite e)) (ticks (finite e)) (parts_of m f) s) g) (fun_ext same)
        (ih e (λ v. same_time v (finite e)) (input (finite e)) h (imm-due f e s h r) (subst (OnAll f) (sym (fun_ext same)) o)))

    -- the transition of a coupled component, an elapsed time e after its last event
    new-transition : (c : ℕ) (f : Forest) (s : Totals (parts_of m f)) (e : ℕ) (x : Bag) → StandsAll m at now e f s → ReadyAll m at now f → NewAll f s → On (node c f) x
        → AnswersAll f (transition (devs_of m (node c f)) (due m at now (node c f)) e x s).1 (inputs c f x)
    unfolding NewAll transition translate resultant_int resultant_ext resultant_con due due_at
    new-transition c f s e x h r ih o = go (due m at now (node c f)) refl x o
      where
        ks : List Coupling
        ks = m.couplings

        go : (b : Bool) → due m at now (node c f) ≡ b → (x : Bag) → On (node c f) x
            → AnswersAll f (transition (devs_of m (node c f)) (due m at now (node c f)) e x s).1 (inputs c f x)
        go true d [] o =
            rw d (new-due c f s e [] h r ih d o (λ u to. outputs_to ks to u (parts_of m f) s) (λ to. outs-stands f to e s h r ∙ sym (append-nil (out_to m at now f to))))
        go true d (y ∷ ys) o =
            rw d (new-due c f s e (y ∷ ys) h r ih d o (λ u to. outputs_to ks to u (parts_of m f) s ++ translate ks c to (y ∷ ys))
            (λ to. ap (λ z. z ++ translate ks c to (y ∷ ys)) (outs-stands f to e s h r)))
        go false d x o =
            let n = none-due m at now f r d in
            let none-sent = fun_ext (λ to. ap (λ z. z ++ translate ks c to x) (out_none m at now f to n)) in
            rw d (subst (λ g. AnswersAll f (changed_all (λ u. false) (λ to. translate ks c to x) e (parts_of m f) s) g) (sym none-sent)
            (ih e (λ u. false) (λ to. translate ks c to x) h (imm-none f s n) (subst (OnAll f) none-sent o)))

    -- time that passes at a part changes how its leaves' times are split, and nothing else; nothing comes up
    pass-none : (e : ℕ) (f : Forest) (s : Totals (parts_of m f)) → (changed_all (λ u. false) (λ d. []) e (parts_of m f) s).decided ≡ []
    unfolding changed_all changed
    pass-none e stop s = refl
    pass-none e (more t f) s = pass-none e f s.1

    pass-new : (e : ℕ) (f : Forest) (s : Totals (parts_of m f)) → StandsAll m on now 0 f (changed_all (λ u. false) (λ d. []) e (parts_of m f) s).state → StandsAll m on now e f s
    unfolding changed_all changed
    pass-new e stop s h = tt
    pass-new e (more t f) s h =
        (subst (λ n. Stands m on now n t s.0.0) (let q : 0 + (s.0.1 + e) ≡ e + s.0.1 = omega arith in q) h.0, pass-new e f s.1 h.1)

    new-node : (c : ℕ) (f : Forest) (s : Totals (parts_of m f)) (e k : ℕ) (x : Bag) → StandsAll m at now (k + e) f s → ReadyAll m at now f → NewAll f s → On (node c f) x → New (node c f) e (s, k) x
    unfolding changed anew transition translate resultant_ext part_in
    new-node c f s e k x h r ih o = go (due m at now (node c f)) refl x (new-transition c f s (k + e) x h r ih o)
      where
        go : (b : Bool) → due m at now (node c f) ≡ b → (x : Bag) → AnswersAll f (transition (devs_of m (node c f)) (due m at now (node c f)) (k + e) x s).1 (inputs c f x)
            → New (node c f) e (s, k) x
        go true d [] g = rw d (rw d at g)
        go true d (y ∷ ys) g = rw d (rw d at g)
        go false d [] g = let g = rw d at g in rw d (pass-new (k + e) f s g.0, λ a. ap (λ ds. decided_of ds a) (sym (pass-none (k + e) f s)) ∙ g.1 a)
        go false d (y ∷ ys) g = rw d (rw d at g)

    mutual
      unfolding NewAll changed_all part_in_all decided_of

      new-tree : (t : Tree) (e : ℕ) (s : (devs_of m t).State × ℕ) (x : Bag) → Stands m at now (e + s.1) t s.0 → Ready m at now t → On t x → New t e s x
      new-tree (leaf c) e s x h r o = new-leaf c e s.1 s.0 x h o
      new-tree (node c f) e s x h r o =
          new-node c f s.0 e s.1 x (subst (λ n. StandsAll m at now n f s.0) (let q : e + s.1 ≡ s.1 + e = omega arith in q) h) r
          (λ e imm input h i o. new-forest f e imm input s.0 h i r o) o

      new-forest : (f : Forest) (e : ℕ) (imm : Time → Bool) (input : ℕ → Bag) (s : Totals (parts_of m f)) → StandsAll m at now e f s → ImmAll imm f s → ReadyAll m at now f → OnAll f input
          → AnswersAll f (changed_all imm input e (parts_of m f) s) input
      new-forest stop e imm input s h i r o = (tt, λ a. refl)
      new-forest (more t f) e imm input s h i r o =
          let first = new-tree t e s.0 (input (name_of t)) h.0 r.0 o.0 in
          let rest = new-forest f e imm input s.1 h.1 i.1 r.1 o.1 in
          simp (zero-add, i.0) (
            (first.0, rest.0),
            λ a.
                came-append a (changed (devs_of m t) (due m at now t) (input (name_of t)) e s.0).decided (changed_all imm input e (parts_of m f) s.1).decided
                ∙ ap₂ or_else (first.1 a) (rest.1 a),
          )

    -- the state after a coupled component's transition stands for the entries after the step, and what decided comes up
    pub transition-stands : (c : ℕ) (f : Forest) (s : Totals (parts_of m f)) (e : ℕ) (x : Bag) → StandsAll m at now e f s → ReadyAll m at now f → On (node c f) x
        → AnswersAll f (transition (devs_of m (node c f)) (due m at now (node c f)) e x s).1 (inputs c f x)
    unfolding NewAll
    transition-stands c f s e x h r o = new-transition c f s e x h r (λ e imm input h i o. new-forest f e imm input s h i r o) o

  -- its output is what the parts that are due send to it
  pub transition-out : (c : ℕ) (f : Forest) (s : Totals (parts_of m f)) (e : ℕ) (x : Bag) → StandsAll m at now e f s → ReadyAll m at now f
      → (transition (devs_of m (node c f)) (due m at now (node c f)) e x s).0 ≡ out_to m at now f c
  unfolding transition out_of due due_at
  transition-out c f s e x h r = go (due m at now (node c f)) refl x
    where
      go : (b : Bool) → due m at now (node c f) ≡ b → (x : Bag) → (transition (devs_of m (node c f)) (due m at now (node c f)) e x s).0 ≡ out_to m at now f c
      go true d [] = rw d (out-stands (node c f) e s h r d)
      go true d (y ∷ ys) = rw d (out-stands (node c f) e s h r d)
      go false d x = rw d (sym (out_none m at now f c (none-due m at now f r d)))

  -- ---- the state that a step builds

  mutual
    unfolding load elapsed unspent

    pub load-stands : (t : Tree) → Ready m at now t → Stands m at now (elapsed at now t) t (load m at now t)
    load-stands (leaf c) r = (refl, omega (arith, r.0))
    load-stands (node c f) r = loads-stand f r

    loads-stand : (f : Forest) → ReadyAll m at now f → StandsAll m at now 0 f (load_all m at now f)
    loads-stand stop r = tt
    loads-stand (more t f) r = (subst (λ n. Stands m at now n t (load m at now t)) (sym (zero-add (elapsed at now t))) (load-stands t r.0), loads-stand f r.1)
