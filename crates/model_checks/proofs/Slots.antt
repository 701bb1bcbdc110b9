-- The tests on a phase's slots as tests on their keys, and these for each number of used slots. Assumes nothing.
use mathlib.Core.Path.{◌≡◌, refl, sym}
use mathlib.Core.Bool.{Bool, true, false, ◌&&◌, ◌||◌, and_assoc, and-true, and-false}
use Prim.Native.Nat.{ℕ, ◌≤◌, ◌<◌}
use native.Mathlib.Omega.{arith}
use lib.Dec.{leb, ltb, eqb}
use borrow.Author.Tests.{ltb-true, ltb-false, leb-true, eqb-true, eqb-false, lt-ltb, le-ltb, lt-leb, le-leb, eq-eqb, ne_eqb}
use Rattle.definition.specs.Limits.{max_outputs}
use Rattle.definition.specs.Model.{Phase, outputs, slots}
use Rattle.definition.specs.Records.{port_fits}
use Rattle.definition.specs.Pinned.Decoder.{advance_fits, used_fit, unused_fit, phase_fields}
use Rattle.law_base.specs.Keys.{message_of}
use Rattle.law_bytes.proofs.Four.{all_take, rises-take, all_drop}
use Rattle.sort.proofs.Keys.{message-key-order}

-- Keys of messages with a port lie below this one.
abbrev pub keys_end : ℕ
keys_end = 262144

key-port : (k : ℕ) → port_fits (message_of k) ≡ ltb k keys_end
unfolding port_fits message_of
key-port k = go (ltb k keys_end) refl
  where
    go : (t : Bool) → ltb k keys_end ≡ t → ltb (message_of k).port 4 ≡ t
    go true e = lt-ltb (message_of k).port 4 (omega (arith, ltb-true k keys_end e))
    go false e = le-ltb (message_of k).port 4 (omega (arith, ltb-false k keys_end e))

key-zero : (k : ℕ) → (eqb (message_of k).port 0 && eqb (message_of k).value 0) ≡ eqb k 0
unfolding message_of
key-zero k = go (eqb (message_of k).port 0) refl (eqb (message_of k).value 0) refl
  where
    go : (p : Bool) → eqb (message_of k).port 0 ≡ p → (v : Bool) → eqb (message_of k).value 0 ≡ v → (p && v) ≡ eqb k 0
    go true f true g = sym (eq-eqb k 0 (omega (arith, eqb-true (message_of k).port 0 f, eqb-true (message_of k).value 0 g)))
    go true f false g = sym (ne_eqb k 0 (λ q. eqb-false (message_of k).value 0 g (omega arith)))
    go false f v g = sym (ne_eqb k 0 (λ q. eqb-false (message_of k).port 0 f (omega arith)))

-- ---- the tests by keys

module _ (n a b c d : ℕ) where
  -- Used ones have a port,
  unfoldable pub have_ports : Bool
  have_ports = (leb n 0 || ltb a keys_end) && (leb n 1 || ltb b keys_end) && (leb n 2 || ltb c keys_end) && (leb n 3 || ltb d keys_end)

  -- and never fall,
  unfoldable pub never_fall : Bool
  never_fall = (leb n 1 || leb a b) && (leb n 2 || leb b c) && (leb n 3 || leb c d)

  -- and the others are zero.
  unfoldable pub are_zero : Bool
  are_zero = (ltb 0 n || eqb a 0) && (ltb 1 n || eqb b 0) && (ltb 2 n || eqb c 0) && (ltb 3 n || eqb d 0)

  unfoldable pub by_keys : Bool
  by_keys = (have_ports && never_fall) && are_zero

pub slots-keys : (p : Phase) (a b c d : ℕ) → message_of a ≡ p.slot0 → message_of b ≡ p.slot1 → message_of c ≡ p.slot2 → message_of d ≡ p.slot3
    → (used_fit p && unused_fit p) ≡ by_keys p.output_count a b c d
unfolding used_fit unused_fit outputs slots by_keys have_ports never_fall are_zero
slots-keys p a b c d e f g h =
    rw (all_take, rises-take, all_drop, ← e, ← f, ← g, ← h, key-port a, key-port b, key-port c, key-port d)
    (rw (key-zero a, key-zero b, key-zero c, key-zero d, message-key-order a b, message-key-order b c, message-key-order c d))

-- ---- keys that rise have ports if the last one has

rise2 : (a b : ℕ) → ((ltb a keys_end && ltb b keys_end) && leb a b) ≡ (leb a b && ltb b keys_end)
rise2 a b = go (leb a b) refl (ltb b keys_end) refl
  where
    go : (x : Bool) → leb a b ≡ x → (z : Bool) → ltb b keys_end ≡ z → ((ltb a keys_end && z) && x) ≡ (x && z)
    go true e true h = rw (lt-ltb a keys_end (omega (arith, leb-true a b e, ltb-true b keys_end h)))
    go true e false h = simp and-false
    go false e z h = simp and-false

rise3 : (a b c : ℕ) → ((ltb a keys_end && ltb b keys_end && ltb c keys_end) && (leb a b && leb b c)) ≡ (leb a b && leb b c && ltb c keys_end)
rise3 a b c = go (leb a b) refl (leb b c) refl (ltb c keys_end) refl
  where
    go : (x : Bool) → leb a b ≡ x → (y : Bool) → leb b c ≡ y → (z : Bool) → ltb c keys_end ≡ z
        → ((ltb a keys_end && ltb b keys_end && z) && (x && y)) ≡ (x && y && z)
    go true e true f true h =
        let l = ltb-true c keys_end h in
        let i = leb-true b c f in
        rw (lt-ltb a keys_end (omega (arith, leb-true a b e)), lt-ltb b keys_end (omega arith))
    go true e true f false h = simp and-false
    go true e false f z h = simp and-false
    go false e y f z h = simp and-false

rise4 : (a b c d : ℕ) → ((ltb a keys_end && ltb b keys_end && ltb c keys_end && ltb d keys_end) && (leb a b && leb b c && leb c d))
    ≡ (leb a b && leb b c && leb c d && ltb d keys_end)
rise4 a b c d = go (leb a b) refl (leb b c) refl (leb c d) refl (ltb d keys_end) refl
  where
    go : (w : Bool) → leb a b ≡ w → (x : Bool) → leb b c ≡ x → (y : Bool) → leb c d ≡ y → (z : Bool) → ltb d keys_end ≡ z
        → ((ltb a keys_end && ltb b keys_end && ltb c keys_end && z) && (w && x && y)) ≡ (w && x && y && z)
    go true e true f true g true h =
        let l = ltb-true d keys_end h in
        let i = leb-true b c f in
        let j = leb-true c d g in
        rw (lt-ltb a keys_end (omega (arith, leb-true a b e)), lt-ltb b keys_end (omega arith), lt-ltb c keys_end (omega arith))
    go true e true f true g false h = simp and-false
    go true e true f false g z h = simp and-false
    go true e false f y g z h = simp and-false
    go false e x f y g z h = simp and-false

-- ---- for each number of used slots

module _ (n a b c d : ℕ) where
  pub all-used : 3 < n → by_keys n a b c d ≡ (leb a b && leb b c && leb c d && ltb d keys_end)
  unfolding by_keys have_ports never_fall are_zero
  all-used l =
      rw (lt-leb n 0 (omega arith), lt-leb n 1 (omega arith), lt-leb n 2 (omega arith), lt-leb n 3 (omega arith))
      (rw (lt-ltb 0 n (omega arith), lt-ltb 1 n (omega arith), lt-ltb 2 n (omega arith), lt-ltb 3 n l) (simp and-true (rise4 a b c d)))

  module _ (l : n ≤ 3) where
    pub fourth-set : 0 < d → by_keys n a b c d ≡ false
    unfolding by_keys are_zero
    fourth-set h = rw (le-ltb 3 n l, ne_eqb d 0 (λ q. absurd (omega arith))) (simp and-false)

    module _ (z : d ≡ 0) where
      pub three-used : 2 < n → by_keys n a b c d ≡ (leb a b && leb b c && ltb c keys_end)
      unfolding by_keys have_ports never_fall are_zero
      three-used h =
          rw (lt-leb n 0 (omega arith), lt-leb n 1 (omega arith), lt-leb n 2 (omega arith), le-leb n 3 l, lt-ltb 0 n (omega arith), lt-ltb 1 n (omega arith), lt-ltb 2 n h, le-ltb 3 n l, eq-eqb d 0 z)
          (simp and-true (rise3 a b c))

      module _ (m : n ≤ 2) where
        pub third-set : 0 < c → by_keys n a b c d ≡ false
        unfolding by_keys are_zero
        third-set h = rw (le-ltb 2 n m, ne_eqb c 0 (λ q. absurd (omega arith))) (simp and-false)

        module _ (y : c ≡ 0) where
          pub two-used : 1 < n → by_keys n a b c d ≡ (leb a b && ltb b keys_end)
          unfolding by_keys have_ports never_fall are_zero
          two-used h =
              rw (lt-leb n 0 (omega arith), lt-leb n 1 h, le-leb n 2 m, le-leb n 3 l, lt-ltb 0 n (omega arith), lt-ltb 1 n h, le-ltb 2 n m, le-ltb 3 n l, eq-eqb c 0 y, eq-eqb d 0 z)
              (simp and-true (rise2 a b))

          module _ (k : n ≤ 1) where
            pub second-set : 0 < b → by_keys n a b c d ≡ false
            unfolding by_keys are_zero
            second-set h = rw (le-ltb 1 n k, ne_eqb b 0 (λ q. absurd (omega arith))) (simp and-false)

            module _ (x : b ≡ 0) where
              pub one-used : 0 < n → by_keys n a b c d ≡ ltb a keys_end
              unfolding by_keys have_ports never_fall are_zero
              one-used h =
                  rw (lt-leb n 0 h, le-leb n 1 k, le-leb n 2 m, le-leb n 3 l, lt-ltb 0 n h, le-ltb 1 n k, le-ltb 2 n m, le-ltb 3 n l, eq-eqb b 0 x, eq-eqb c 0 y, eq-eqb d 0 z)
                  (simp and-true)

              pub none-used : n ≤ 0 → by_keys n a b c d ≡ eqb a 0
              unfolding by_keys have_ports never_fall are_zero
              none-used h =
                  rw (le-leb n 0 h, le-leb n 1 k, le-leb n 2 m, le-leb n 3 l, le-ltb 0 n h, le-ltb 1 n k, le-ltb 2 n m, le-ltb 3 n l, eq-eqb b 0 x, eq-eqb c 0 y, eq-eqb d 0 z)
                  (simp and-true)

-- ---- a phase's fields: those before the slots, and the slots

module _ (bound : ℕ) (k : Phase) where
  pub numbers-break : (advance_fits k.advance && ltb k.next bound && leb k.output_count max_outputs) ≡ false → phase_fields bound k ≡ false
  unfolding phase_fields
  numbers-break e = rw e

  pub slots-break : (used_fit k && unused_fit k) ≡ false → phase_fields bound k ≡ false
  unfolding phase_fields
  slots-break e =
      rw (and_assoc (advance_fits k.advance && ltb k.next bound && leb k.output_count max_outputs) (used_fit k) (unused_fit k), e) (simp and-false)

  pub phase-keeps : (advance_fits k.advance && ltb k.next bound && leb k.output_count max_outputs) ≡ true → (used_fit k && unused_fit k) ≡ true
      → phase_fields bound k ≡ true
  unfolding phase_fields
  phase-keeps e f = rw e f
