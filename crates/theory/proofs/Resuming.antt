-- A call that left an instant undone, made again: after 13 the same instant is left undone again, after 15 the second call goes on as
-- one call with a longer trace would. All of it over anything that takes steps, by the cases of `Ends`. Assumes nothing.
use mathlib.Core.Path.{◌≡◌, refl, sym, subst}
use Prim.Native.Nat.{ℕ, ◌+◌, ◌≤◌, ◌<◌}
use mathlib.Core.List.{◌∷◌}
use native.Mathlib.Omega.{arith}
use lib.ListN.{length, length-append}
use Rattle.definition.specs.Model.{Bag}
use Rattle.definition.specs.Step.{Simulator}
use Rattle.definition.specs.Instant.{instant_trace}
use Rattle.definition.specs.Advance.{Progress, Ended, ended, succeeded}
use Rattle.definition.specs.AdvanceRelation.{Jams, Ends, jams, overruns, continues, succeeds, idle}
use Rattle.definition.specs.Carrying.{begins}
use Rattle.law_calls.proofs.Counted.{next-same, counted_end, counted-ends, counted-begin}

module _ {S : Type 0} (k : Simulator S) (t : ℕ) (x : Bag) where
  -- ---- where an instant is left undone

  -- the open moment is not past t
  pub undone-open : (room : ℕ) {p : Progress S} {e : Ended S} → Ends k room t x p e → 0 < e.number → p.opening ≤ t → e.progress.opening ≤ t
  unfolding ended succeeded
  undone-open room (jams p now y next v) l o = o
  undone-open room (overruns p now y z zs s' next w r) l o = o
  undone-open room (continues p u xs s' e f g w v rest) l o = undone-open room rest l g
  undone-open room (succeeds p y ys s' f w v) l o = absurd (omega arith)
  undone-open room (idle p f g) l o = absurd (omega arith)

  -- after 13 the same instant is left undone, whatever the trace
  pub undone-again : (r : ℕ) {p : Progress S} {e : Ended S} → Ends k r t x p e → e.number ≡ 13 → (room : ℕ) (q : Progress S) → q.state ≡ e.progress.state
      → Ends k room t x q (ended 13 q)
  unfolding ended succeeded
  undone-again r (jams p now y next v) u room q f = jams q now y (next-same k t x r room p.state q.state now y (sym f) next) (subst (λ s. Jams k now y s) (sym f) v)
  undone-again r (overruns p now y z zs s' next w l) u room q f = absurd (omega arith)
  undone-again r (continues p v xs s' e f g w l rest) u room q h = undone-again r rest u room q h
  undone-again r (succeeds p y ys s' f w v) u room q h = absurd (omega arith)
  undone-again r (idle p f g) u room q h = absurd (omega arith)

  -- ---- after 15

  instants-grow : (r : ℕ) {p : Progress S} {e : Ended S} → Ends k r t x p e → p.instants ≤ e.progress.instants
  unfolding ended succeeded
  instants-grow r (jams p now y next v) = omega arith
  instants-grow r (overruns p now y z zs s' next w l) = omega arith
  instants-grow r (continues p u xs s' e f g w v rest) = omega (arith, instants-grow r rest)
  instants-grow r (succeeds p y ys s' f w v) = omega arith
  instants-grow r (idle p f g) = omega arith

  pub trace-grows : (r : ℕ) {p : Progress S} {e : Ended S} → Ends k r t x p e → length p.trace ≤ length e.progress.trace
  unfolding ended succeeded
  trace-grows r (jams p now y next v) = omega arith
  trace-grows r (overruns p now y z zs s' next w l) = omega arith
  trace-grows r (continues p u xs s' e f g w v rest) = omega (arith, trace-grows r rest, length-append p.trace (instant_trace u xs))
  trace-grows r (succeeds p y ys s' f w v) = omega (arith, length-append p.trace (instant_trace t (y ∷ ys)))
  trace-grows r (idle p f g) = omega arith

  -- where no instant was done, a trace that is no longer is overrun too
  pub overrun-again : (r : ℕ) {p : Progress S} {e : Ended S} → Ends k r t x p e → e.number ≡ 15 → e.progress.instants ≡ p.instants → (room : ℕ) → room ≤ r
      → Ends k room t x p (ended 15 p)
  unfolding ended succeeded
  overrun-again r (jams p now y next v) u i room l = absurd (omega arith)
  overrun-again r (overruns p now y z zs s' next w h) u i room l = overruns p now y z zs s' (next-same k t x r room p.state p.state now y refl next) w (omega (arith, h, l))
  overrun-again r (continues p u xs s' e f g w v rest) h i room l = absurd (omega (arith, instants-grow r rest, i))
  overrun-again r (succeeds p y ys s' f w v) u i room l = absurd (omega arith)
  overrun-again r (idle p f g) u i room l = absurd (omega arith)

  -- a call that succeeds does so just the same on any trace that holds its records
  pub succeeds-still : (r : ℕ) {p : Progress S} {e : Ended S} → Ends k r t x p e → e.number ≡ 0 → (room : ℕ) → length e.progress.trace ≤ room → Ends k room t x p e
  unfolding ended succeeded
  succeeds-still r (jams p now y next v) u room l = absurd (omega arith)
  succeeds-still r (overruns p now y z zs s' next w o) u room l = absurd (omega arith)
  succeeds-still r (continues p u xs s' e f g w v rest) n room l =
      continues p u xs s' e f g w (omega (arith, trace-grows r rest, l)) (succeeds-still r rest n room l)
  succeeds-still r (succeeds p y ys s' f w v) u room l = succeeds p y ys s' f w l
  succeeds-still r (idle p f g) u room l = idle p f g

  -- with any trace that holds them, a call that was stopped goes on from where it stopped
  pub goes-on-from : (r : ℕ) {p : Progress S} {e : Ended S} → Ends k r t x p e → e.number ≡ 15 → (room : ℕ) → length e.progress.trace ≤ room → (d : Ended S)
      → Ends k room t x e.progress d → Ends k room t x p d
  unfolding ended succeeded
  goes-on-from r (jams p now y next v) u room l d h = absurd (omega arith)
  goes-on-from r (overruns p now y z zs s' next w o) u room l d h = h
  goes-on-from r (continues p u xs s' e f g w v rest) n room l d h =
      continues p u xs s' d f g w (omega (arith, trace-grows r rest, l)) (goes-on-from r rest n room l d h)
  goes-on-from r (succeeds p y ys s' f w v) u room l d h = absurd (omega arith)
  goes-on-from r (idle p f g) u room l d h = absurd (omega arith)

  -- After 15: the first call's part, and the second call's counted on, are one call.
  pub one-call : (r : ℕ) {p : Progress S} {a : Ended S} → Ends k r t x p a → a.number ≡ 15 → (next : ℕ) (b : Ended S)
      → Ends k next t x (begins a.progress.opening a.progress.state) b
      → Ends k (length a.progress.trace + next) t x p (counted_end k t x a.progress.instants a.progress.steps a.progress.trace a.progress.rules b)
  one-call r {p} {a} h u next b g =
      let q = a.progress in
      goes-on-from r h u (length q.trace + next) (omega arith) _
      (subst (λ z. Ends k (length q.trace + next) t x z (counted_end k t x q.instants q.steps q.trace q.rules b)) (counted-begin k t x q) (counted-ends k t x q.instants q.steps q.trace q.rules next g))
