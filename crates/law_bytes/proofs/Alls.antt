-- A test on every number from k on, as a loop meets it. Assumes nothing.
use mathlib.Core.Path.{◌≡◌}
use mathlib.Core.Bool.{Bool, true, false, ◌&&◌}
use Prim.Native.Nat.{ℕ, suc, ◌+◌, ◌-◌, ◌≤◌, ◌<◌}
use native.Mathlib.Omega.{arith}
use native.Mathlib.Nat.{sub-zero}
use Rattle.definition.specs.Lists.{all, up_from}

pub all_start : (p : ℕ → Bool) (n : ℕ) → all p (up_from 0 (n - 0)) ≡ all p (up_from 0 n)
all_start p n = rw sub-zero

all_one : (p : ℕ → Bool) (k n : ℕ) → k < n → all p (up_from k (n - k)) ≡ (p k && all p (up_from (k + 1) (n - (k + 1))))
unfolding all up_from
all_one p k n h =
    let e : n - k ≡ suc (n - (k + 1)) = omega arith in
    let f : k + 1 ≡ suc k = omega arith in
    rw (e, f)

pub all_more : (p : ℕ → Bool) (k n : ℕ) → k < n → p k ≡ true → all p (up_from (k + 1) (n - (k + 1))) ≡ all p (up_from k (n - k))
all_more p k n h e = rw (all_one p k n h, e)

pub all-no : (p : ℕ → Bool) (k n : ℕ) → k < n → p k ≡ false → all p (up_from k (n - k)) ≡ false
all-no p k n h e = rw (all_one p k n h, e)

pub all_end : (p : ℕ → Bool) (k n : ℕ) → n ≤ k → all p (up_from k (n - k)) ≡ true
unfolding all up_from
all_end p k n h = let e : n - k ≡ 0 = omega arith in rw e
