-- The verdict on an instant of a channel that has so many steps: its cases, and what an advance and what a channel make of each. Assumes nothing.
use mathlib.Core.Path.{◌≡◌, refl, sym, ap, ◌∙◌, subst}
use Prim.Native.Nat.{ℕ, ◌+◌, ◌≤◌, ◌<◌}
use mathlib.Core.List.{List, [], ◌∷◌, ◌++◌}
use mathlib.Core.Bool.{Bool, true, false}
use native.Mathlib.Omega.{arith}
use lib.Dec.{ltb}
use lib.ListN.{length}
use borrow.Author.Tests.{ltb-true, ltb-false}
use Rattle.definition.specs.Bytes.{Result, ok, refused}
use Rattle.definition.specs.Model.{Bag}
use Rattle.definition.specs.Step.{Output, Simulator}
use Rattle.definition.specs.Instant.{Instant, done, jammed, instant, instant_trace}
use Rattle.definition.specs.Advance.{Progress, tried}
use Rattle.definition.specs.AdvanceRelation.{Whole, Jams}
use Rattle.definition.specs.Channels.{tried_within}
use Rattle.law_base.proofs.Turns.{tried-jams, tried-none, tried-full, stood, tried-stands, within-no, within-many, within-ok}
use Rattle.law_calls.proofs.Instants.{Settled, settled, whole-instant, jams-instant}

module _ {S : Type 0} (k : Simulator S) where
  -- on the instant at `now`, from where the channel stands
  module _ (has room now : ℕ) (y : Bag) (p : Progress S) where
    pub data Verdict : Type 0 where
      jam : Jams k now y p.state → Verdict
      full : (z : Output) (zs : List Output) (s : S) → Whole k now y p.state (z ∷ zs) s → room < length (p.trace ++ instant_trace now (z ∷ zs)) → Verdict
      quiet : Whole k now y p.state [] p.state → Verdict
      -- more steps than the channel still has
      many : (z : Output) (zs : List Output) (s : S) → Whole k now y p.state (z ∷ zs) s → length (p.trace ++ instant_trace now (z ∷ zs)) ≤ room
          → has < p.steps + length (z ∷ zs) → Verdict
      stands : (z : Output) (zs : List Output) (s : S) → Whole k now y p.state (z ∷ zs) s → length (p.trace ++ instant_trace now (z ∷ zs)) ≤ room
          → p.steps + length (z ∷ zs) ≤ has → Verdict

    verdict-of : (i : Instant S) → Settled k now y p.state i → Verdict
    verdict-of jammed h = jam h
    verdict-of (done [] s) h = quiet (subst (Whole k now y p.state []) (sym h.steps) h)
    verdict-of (done (z ∷ zs) s) h = go (ltb room (length (p.trace ++ instant_trace now (z ∷ zs)))) refl (ltb has (p.steps + length (z ∷ zs))) refl
      where
        go : (b : Bool) → ltb room (length (p.trace ++ instant_trace now (z ∷ zs))) ≡ b → (c : Bool) → ltb has (p.steps + length (z ∷ zs)) ≡ c → Verdict
        go true r c l = full z zs s h (ltb-true room _ r)
        go false r true l = many z zs s h (ltb-false room _ r) (ltb-true has _ l)
        go false r false l = stands z zs s h (ltb-false room _ r) (ltb-false has _ l)

    pub verdict : Verdict
    verdict = verdict-of (instant k now y p.state) (settled k now y p.state)

    -- what an advance makes of it, and what a channel does
    abbrev pub from_tried : Verdict → Result (Progress S)
    from_tried (jam h) = refused 13
    from_tried (full z zs s h r) = refused 15
    from_tried (quiet h) = ok p
    from_tried (many z zs s h r l) = ok (stood room now p (z ∷ zs) s)
    from_tried (stands z zs s h r l) = ok (stood room now p (z ∷ zs) s)

    abbrev pub from_within : Verdict → Result (Progress S)
    from_within (jam h) = refused 13
    from_within (full z zs s h r) = refused 15
    from_within (quiet h) = ok p
    from_within (many z zs s h r l) = refused 22
    from_within (stands z zs s h r l) = ok (stood room now p (z ∷ zs) s)

    pub tried-by : (v : Verdict) → tried room now p (instant k now y p.state) ≡ from_tried v
    tried-by (jam h) = ap (tried room now p) (jams-instant k now y p.state h) ∙ tried-jams room now p
    tried-by (full z zs s h r) = ap (tried room now p) (whole-instant k now y p.state s (z ∷ zs) h) ∙ tried-full room now p (z ∷ zs) s (λ e. omega arith) r
    tried-by (quiet h) = ap (tried room now p) (whole-instant k now y p.state p.state [] h) ∙ tried-none room now p [] p.state refl
    tried-by (many z zs s h r l) = ap (tried room now p) (whole-instant k now y p.state s (z ∷ zs) h) ∙ tried-stands room now p (z ∷ zs) s (λ e. omega arith) r
    tried-by (stands z zs s h r l) = ap (tried room now p) (whole-instant k now y p.state s (z ∷ zs) h) ∙ tried-stands room now p (z ∷ zs) s (λ e. omega arith) r

    pub within_by : (v : Verdict) → p.steps ≤ has → tried_within has room now p (instant k now y p.state) ≡ from_within v
    within_by (jam h) e = within-no has room now p _ 13 (tried-by (jam h))
    within_by (full z zs s h r) e = within-no has room now p _ 15 (tried-by (full z zs s h r))
    within_by (quiet h) e = within-ok has room now p _ p (tried-by (quiet h)) e
    within_by (many z zs s h r l) e = within-many has room now p _ _ (tried-by (many z zs s h r l)) l
    within_by (stands z zs s h r l) e = within-ok has room now p _ _ (tried-by (stands z zs s h r l)) l
