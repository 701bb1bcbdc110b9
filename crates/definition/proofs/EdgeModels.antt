-- Models that stand on an edge of document 01: a confluent transition that tells both orders and their elapsed times apart, a rule
-- without an upper end, an instant of exactly 1,024 steps, and one that jams and overruns at once; and a hold that gets stray cues.
-- Assumes nothing.
use Prim.Native.Nat.{ℕ, suc}
use mathlib.Core.List.{[], ◌∷◌, ◌++◌, map}
use Rattle.definition.specs.Lists.{up_from}
use Rattle.definition.specs.Limits.{never_field}
use Rattle.definition.specs.Model.{Rule, Model, inclusive, no_component}
use Rattle.definition.proofs.Models.{message, coupled_in, atomic_in, silent, saying, on_value, link}

-- as `on_value`, at an elapsed time from low to high
unfoldable pub on_value_at : ℕ → ℕ → ℕ → ℕ → ℕ → ℕ → Rule
on_value_at c p v low high next =
    record { component = c; phase = p; next = next; port = 0; low = v; high = v; least = 1; low_elapsed = low; high_elapsed = high }

-- Atomic 1 puts out 7 every 10 ticks; atomic 2 is due after 10 ticks too. Order 0 leads it by its next phase 1 and the rule for elapsed
-- time 0 to phase 3; order 1 by the rule for elapsed time 10 to phase 2, and by its next phase to phase 0.
unfoldable pub colliding : ℕ → Model
colliding order = record {
  components = no_component ∷ atomic_in 0 1 0 ∷ atomic_in 0 4 order ∷ [];
  phases = saying 10 0 (message 0 7) ∷ silent 10 1 ∷ silent never_field 2 ∷ silent never_field 0 ∷ silent never_field 3 ∷ [];
  rules = on_value_at 2 0 7 10 10 2 ∷ on_value_at 2 1 7 0 0 3 ∷ [];
  couplings = link 1 0 2 0 ∷ [];
  ranges = inclusive;
}

-- One atomic that rests until a 7 comes; it then stays 5 ticks. The rule's elapsed range begins at 5 and has the high end given.
unfoldable pub waiting : ℕ → Model
waiting high = record {
  components = no_component ∷ atomic_in 0 2 0 ∷ [];
  phases = silent never_field 0 ∷ saying 5 0 (message 0 9) ∷ [];
  rules = on_value_at 1 0 7 5 high 1 ∷ [];
  couplings = link 0 0 1 0 ∷ link 1 0 0 0 ∷ [];
  ranges = inclusive;
}

-- The atomic that never rests, heard at the root.
unfoldable pub restless_heard : Model
restless_heard = record {
  components = no_component ∷ atomic_in 0 1 0 ∷ [];
  phases = saying 0 0 (message 0 1) ∷ [];
  rules = [];
  couplings = link 1 0 0 0 ∷ [];
  ranges = inclusive;
}

-- Atomic 1 goes round 32 phases of advance 0 and tells atomic 2 of each round; after 31 rounds atomic 2 stops it, and it runs down 31 more
-- phases to rest: 31 * 32 + 1 + 31 = 1,024 steps of one instant. Started in phase 63, a given 5 sets it off, which is one step more.
unfoldable pub counting : ℕ → Model
counting initial = record {
  components = no_component ∷ record { kind = 1; parent = 0; phases = 64; initial = initial; order = 0 } ∷ atomic_in 0 33 0 ∷ [];
  phases =
      map (λ i. silent 0 (suc i)) (up_from 0 31) ++ (saying 0 0 (message 0 1) ∷ map (λ i. silent 0 (suc i)) (up_from 32 31)) ++ (silent never_field 63 ∷ [])
      ++ map (λ i. silent never_field i) (up_from 0 31) ++ (saying 0 32 (message 0 9) ∷ silent never_field 32 ∷ []);
  rules = on_value 1 1 9 1 32 ∷ on_value 1 63 5 1 0 ∷ map (λ i. on_value 2 i 1 1 (suc i)) (up_from 0 31);
  couplings = link 0 0 1 0 ∷ link 1 0 2 0 ∷ link 2 0 1 0 ∷ [];
  ranges = inclusive;
}

-- The atomic 3, three levels down in 1 and 2: a 7 begins a hold of 5 ticks, after which it says 9 at the root; a 6 begins it anew, a 4 after 4
-- or 5 ticks of it leads to phase 2, and so does a 3 after a rest of 4,294,967,294 ticks or more. For all else it has no rule. Beside its
-- parent, the atomic 4 sends it an 8 every so many ticks.
unfoldable pub holding : ℕ → ℕ → Model
holding order every = record {
  components = no_component ∷ coupled_in 0 ∷ coupled_in 1 ∷ atomic_in 2 3 order ∷ atomic_in 1 1 0 ∷ [];
  phases = silent never_field 0 ∷ saying 5 0 (message 0 9) ∷ silent never_field 2 ∷ saying every 0 (message 0 8) ∷ [];
  rules = on_value 3 0 7 1 1 ∷ on_value 3 1 6 1 1 ∷ on_value_at 3 1 4 4 5 2 ∷ on_value_at 3 0 3 4294967294 never_field 2 ∷ [];
  couplings =
      link 0 0 1 0 ∷ link 1 0 0 0 ∷ link 1 0 2 0 ∷ link 2 0 1 0 ∷ link 2 0 3 0 ∷ link 3 0 2 0 ∷ link 4 0 2 0 ∷ [];
  ranges = inclusive;
}
