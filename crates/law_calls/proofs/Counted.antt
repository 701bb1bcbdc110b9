-- A call that goes on from what was done before is the call by itself, with the counts, the trace and the rules of before in front. By the cases
-- of `Ends`, over anything that takes steps. Assumes nothing.
use mathlib.Core.Path.{◌≡◌, refl, sym, ap, ◌∙◌, subst}
use Prim.Native.Nat.{ℕ, suc, ◌+◌, ◌≤◌}
use mathlib.Core.List.{List, ◌∷◌, ◌++◌, append_assoc, append-nil}
use mathlib.Core.Bool.{cond}
use native.Mathlib.Omega.{arith}
use lib.Dec.{eqb}
use borrow.Author.Tests.{ne_eqb}
use lib.ListN.{length, length-append}
use Rattle.definition.specs.Bytes.{Bytes}
use Rattle.definition.specs.Model.{Bag}
use Rattle.definition.specs.Step.{Output, Simulator}
use Rattle.definition.specs.Instant.{instant_trace, instant_rules}
use Rattle.definition.specs.Advance.{Progress, Ended, ended, succeeded, is_before}
use Rattle.definition.specs.AdvanceRelation.{Next, before, at_end, with_instant, Ends, jams, overruns, continues, succeeds, idle}
use Rattle.definition.specs.Carrying.{begins}

module _ {S : Type 0} (k : Simulator S) (t : ℕ) (x : Bag) where
  -- the next instant depends on the state alone
  pub next-same : (r room : ℕ) (s s' : S) (now : ℕ) (y : Bag) → s ≡ s' → Next k r t x s now y → Next k room t x s' now y
  next-same r room s s' now y e (before u f l) = before u (ap k.next (sym e) ∙ f) l
  next-same r room s s' now y e (at_end f) = at_end (ap (λ z. is_before (k.next z) t) (sym e) ∙ f)

  -- ---- counted on

  -- A progress that counts on from instants, steps, a trace and rules that stand already.
  module _ (i n : ℕ) (tr : Bytes) (rs : List ℕ) where
    abbrev pub counted : Progress S → Progress S
    counted p = record {
      opening = p.opening;
      state = p.state;
      instants = i + p.instants;
      steps = n + p.steps;
      trace = tr ++ p.trace;
      rules = cond (eqb p.instants 0) rs p.rules;
    }

    abbrev pub counted_end : Ended S → Ended S
    counted_end e = record { number = e.number; progress = counted e.progress }

    counted-with : (r : ℕ) (p : Progress S) (now : ℕ) (xs : List Output) (s : S)
        → with_instant k (length tr + r) t x (counted p) now xs s ≡ counted (with_instant k r t x p now xs s)
    counted-with r p now xs s = λ j. record {
      opening = suc now;
      state = s;
      instants = (let q : suc (i + p.instants) ≡ i + suc p.instants = omega arith in q) j;
      steps = (let q : (n + p.steps) + length xs ≡ n + (p.steps + length xs) = omega arith in q) j;
      trace = append_assoc tr p.trace (instant_trace now xs) j;
      rules = ap (λ b. cond b rs (instant_rules xs)) (sym (ne_eqb (suc p.instants) 0 (λ z. omega arith))) j;
    }

    longer : (r : ℕ) (p : Progress S) (now : ℕ) (xs : List Output) → length ((tr ++ p.trace) ++ instant_trace now xs) ≡ length tr + length (p.trace ++ instant_trace now xs)
    longer r p now xs = omega (arith, length-append (tr ++ p.trace) (instant_trace now xs), length-append tr p.trace, length-append p.trace (instant_trace now xs))

    within : (r : ℕ) (p : Progress S) (now : ℕ) (xs : List Output) → length (p.trace ++ instant_trace now xs) ≤ r → length ((tr ++ p.trace) ++ instant_trace now xs) ≤ length tr + r
    within r p now xs v = omega (arith, longer r p now xs, v)

    pub counted-ends : (r : ℕ) {p : Progress S} {e : Ended S} → Ends k r t x p e → Ends k (length tr + r) t x (counted p) (counted_end e)
    unfolding ended succeeded
    counted-ends r (jams p now y next v) = jams (counted p) now y (next-same r (length tr + r) p.state p.state now y refl next) v
    counted-ends r (overruns p now y z zs s' next w l) =
        overruns (counted p) now y z zs s' (next-same r (length tr + r) p.state p.state now y refl next) w (omega (arith, longer r p now (z ∷ zs), l))
    counted-ends r (continues p u xs s' e f g w v rest) =
        continues (counted p) u xs s' (counted_end e) f g w (within r p u xs v)
        (subst (λ q. Ends k (length tr + r) t x q (counted_end e)) (sym (counted-with r p u xs s')) (counted-ends r rest))
    counted-ends r (succeeds p y ys s' f w v) =
        subst (λ q. Ends k (length tr + r) t x (counted p) (succeeded t q)) (counted-with r p t (y ∷ ys) s') (succeeds (counted p) y ys s' f w (within r p t (y ∷ ys) v))
    counted-ends r (idle p f g) = idle (counted p) f g

  -- a progress as one that counts on from nothing
  pub counted-begin : (p : Progress S) → counted p.instants p.steps p.trace p.rules (begins p.opening p.state) ≡ p
  counted-begin p = λ j. record {
    opening = p.opening;
    state = p.state;
    instants = (let q : p.instants + 0 ≡ p.instants = omega arith in q) j;
    steps = (let q : p.steps + 0 ≡ p.steps = omega arith in q) j;
    trace = append-nil p.trace j;
    rules = p.rules;
  }
