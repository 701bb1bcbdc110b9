-- The probing step as a step of a model: the same nest, with the probe's phases past its own, and every atomic in its probing phase and due.
-- Assumes nothing.
use mathlib.Core.Path.{◌≡◌, refl, ap, ◌∙◌}
use Prim.Native.Nat.{ℕ, zero, suc, ◌+◌, ◌-◌, ◌≤◌, ◌<◌}
use mathlib.Core.List.{List, [], ◌∷◌, ◌++◌}
use mathlib.Core.Bool.{true, cond}
use native.Mathlib.Omega.{arith}
use lib.Dec.{eqb}
use lib.ListN.{length, get_or, replicate, length-replicate}
use borrow.Author.Tests.{le-leb}
use Rattle.definition.specs.Lists.{sum}
use Rattle.definition.specs.Limits.{max_components, never_field}
use Rattle.definition.specs.Model.{Component, Phase, Model, no_phase, phases_before, phase_at, outputs, Tree, leaf}
use Rattle.definition.specs.File.{phase_total}
use Rattle.definition.specs.Devs.{Time, finite, never, later, same_time}
use Rattle.definition.specs.Atomic.{advance_of}
use Rattle.definition.specs.SavedRun.{Entry, due_of, not_before, due_at}
use Rattle.law_base.proofs.Lists.{all-every}
use Rattle.law_nest.proofs.Trees.{leaves_t, only-in}
use Rattle.law_nest.proofs.Nest.{Fresh, Ready, ready-in, due, out_of, out_due}
use Rattle.flat_probe.specs.Probe.{probe_of, probes}
use Rattle.flat_probe.proofs.Stored.{probe-at}

-- past the first of two lists
get_d_past : {A : Type 0} (x y : List A) (i : ℕ) (d : A) → get_or (x ++ y) (length x + i) d ≡ get_or y i d
get_d_past [] y i d = ap (λ k. get_or y k d) (let e : 0 + i ≡ i = omega arith in e)
get_d_past (a ∷ x) y i d = ap (λ k. get_or (a ∷ (x ++ y)) k d) (let e : suc (length x) + i ≡ suc (length x + i) = omega arith in e) ∙ get_d_past x y i d

before-most : (cs : List Component) (c : ℕ) → phases_before cs c ≤ phase_total cs
unfolding phases_before phase_total sum
before-most cs zero = omega arith
before-most [] (suc c) = omega arith
before-most (k ∷ cs) (suc c) = let h = before-most cs c in omega arith

module _ (m : Model) where
  abbrev pub probed : Model
  probed = record { components = m.components; phases = replicate (phase_total m.components) no_phase ++ probes; rules = m.rules; couplings = m.couplings; ranges = m.ranges }

  abbrev pub probe_entry : ℕ → Entry
  probe_entry c = record { phase = phase_total m.components - phases_before m.components c + c; last = 0 }

  pub probe-phase : (c : ℕ) → c < max_components → phase_at probed c (probe_entry c).phase ≡ probe_of c
  unfolding phase_at
  probe-phase c l =
      let n = phase_total m.components in
      let b = before-most m.components c in
      let e : phases_before m.components c + (n - phases_before m.components c + c) ≡ length (replicate n no_phase) + c = omega (arith, length-replicate n no_phase) in
      ap (λ i. get_or (replicate n no_phase ++ probes) i no_phase) e ∙ get_d_past (replicate n no_phase) probes c no_phase ∙ probe-at c l

  -- nothing is due before 0
  fresh : (c : ℕ) → Fresh probed 0 c (probe_entry c)
  unfolding not_before
  fresh c = (omega arith, go (due_of probed c (probe_entry c)))
    where
      go : (u : Time) → not_before 0 u ≡ true
      go (finite a) = le-leb 0 a (omega arith)
      go never = refl

  pub probe-ready : (t : Tree) → Ready probed probe_entry 0 t
  probe-ready t = ready-in probed probe_entry 0 (λ c. true) (λ c e. fresh c) t (only-in (λ c. true) t (all-every (λ c. true) (leaves_t t) (λ c. refl)))

  pub probe-due : (c : ℕ) → c < max_components → due probed probe_entry 0 (leaf c) ≡ true
  unfolding due due_at due_of advance_of same_time
  probe-due c l =
      ap (λ (k : Phase). same_time (later 0 (cond (eqb k.advance never_field) never (finite k.advance))) (finite 0)) (probe-phase c l)
      ∙ (unfold probe_of later in refl)

  -- what it puts out
  pub probe-out : (c : ℕ) → c < max_components → out_due probed probe_entry 0 (leaf c) ≡ outputs (probe_of c)
  unfolding out_due out_of
  probe-out c l = ap (λ b. cond b (outputs (phase_at probed c (probe_entry c).phase)) []) (probe-due c l) ∙ ap outputs (probe-phase c l)
