-- With steps to spare for any instant, `tried_within` is `tried`: by the verdict on the instant, which takes at most 1,024 steps. Assumes
-- nothing.
use mathlib.Core.Path.{◌≡◌, refl, sym, ◌∙◌}
use mathlib.Core.List.{List}
use Prim.Native.Nat.{ℕ, ◌+◌, ◌≤◌}
use native.Mathlib.Omega.{arith}
use lib.ListN.{length}
use Rattle.definition.specs.Bytes.{Bytes}
use Rattle.definition.specs.Limits.{max_steps}
use Rattle.definition.specs.Model.{Bag}
use Rattle.definition.specs.Step.{Simulator}
use Rattle.definition.specs.Instant.{instant}
use Rattle.definition.specs.Advance.{Progress, tried}
use Rattle.definition.specs.Channels.{tried_within}
use Rattle.law_channels.proofs.Verdicts.{Verdict, jam, full, quiet, many, stands, verdict, from_tried, from_within, tried-by, within_by}
use Rattle.clock.specs.Times.{latest}
use Rattle.run_state.specs.declared.State.{State}
use Rattle.run_state.specs.Held.{held_in}
use Rattle.instant_attempt.specs.Progress.{progress_of, Room, Tried, TriedWithin}
use Rattle.instant_attempt.specs.declared.Turn.{Turn}
use Rattle.std.proofs.Common.{Result}
use Rattle.instant_attempt.specs.declared.Progress as Code
use Rattle.refusals.specs.declared.Refusal.{Refusal}

module _ {S : Type 0} (k : Simulator S) (has room now : ℕ) (y : Bag) (p : Progress S) (l : p.steps + max_steps ≤ has) where
  spare-tried : tried_within has room now p (instant k now y p.state) ≡ tried room now p (instant k now y p.state)
  spare-tried =
      let v = verdict k has room now y p in
      within_by k has room now y p v (omega arith) ∙ go v ∙ sym (tried-by k has room now y p v)
    where
      go : (v : Verdict k has room now y p) → from_within k has room now y p v ≡ from_tried k has room now y p v
      go (jam e) = refl
      go (full z zs s e b) = refl
      go (quiet e) = refl
      go (many z zs s e b d) = absurd (omega (arith, l, e.few))
      go (stands z zs s e b d) = refl

-- Tried with the most steps that 64 bits can count, it is tried without a limit.
pub spare : (k : Simulator State) (phases tables : List ℕ) (turn : Turn) (y : Bag) (w₀ w : List ℕ) (trace₀ trace : Bytes) (r : Result Code.Progress Refusal)
    → Room turn.progress (length trace₀)
    → TriedWithin phases tables (record { at = turn.at; has = latest; progress = turn.progress }) w₀ w trace₀ trace (instant k turn.at.0 y (held_in w₀)) r
    → Tried phases tables turn w₀ w trace₀ trace (instant k turn.at.0 y (held_in w₀)) r
unfolding progress_of
spare k phases tables turn y w₀ w trace₀ trace r room t = record {
  same = t.same ∙ spare-tried k latest (length trace₀) turn.at.0 y (progress_of trace₀ tables w₀ turn.progress) room.steps;
  beyond = t.beyond;
  undone = t.undone;
  more = t.more;
  instants = t.instants;
  steps = t.steps;
  ready = t.ready;
}
