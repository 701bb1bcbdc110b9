-- Times that are left and moments that are due: what is left of an advance after the time spent, and which of two moments comes first.
-- Natural subtraction hides what is overdue, so each law that subtracts asks that nothing is. Assumes nothing.
use mathlib.Core.Path.{◌≡◌, refl, ap}
use Prim.Native.Nat.{ℕ, suc, ◌+◌, ◌-◌, min}
use mathlib.Core.Bool.{true, false}
use native.Mathlib.Omega.{arith}
use borrow.Author.Tests.{eqb-true, eqb-false, ne_eqb, leb-true, le-leb}
use Rattle.definition.specs.Devs.{Time, finite, never, earlier, remaining, later, same_time, ticks}
use Rattle.definition.specs.SavedRun.{not_before}
use Rattle.law_base.proofs.Tests.{clash, eqb-cong}

pub left-earlier : (u v : Time) (n : ℕ) → remaining (earlier u v) n ≡ earlier (remaining u n) (remaining v n)
unfolding remaining earlier
left-earlier (finite a) (finite b) n = ap finite (omega arith)
left-earlier (finite a) never n = refl
left-earlier never (finite b) n = refl
left-earlier never never n = refl

pub later-earlier : (e : ℕ) (u v : Time) → later e (earlier u v) ≡ earlier (later e u) (later e v)
unfolding later earlier
later-earlier e (finite a) (finite b) = ap finite (omega arith)
later-earlier e (finite a) never = refl
later-earlier e never (finite b) = refl
later-earlier e never never = refl

pub later-add : (e k : ℕ) (u : Time) → remaining (later (e + k) u) k ≡ later e u
unfolding remaining later
later-add e k (finite a) = ap finite (omega arith)
later-add e k never = refl

-- What is left of an advance after the time spent is the elapsed time and what is left now.
pub spent-left : (last spent e now : ℕ) (u : Time) → last + (spent + e) ≡ now → not_before now (later last u) ≡ true
    → remaining u spent ≡ later e (remaining (later last u) now)
unfolding remaining later not_before
spent-left last spent e now (finite a) h k = ap finite (omega (arith, leb-true now (last + a) k))
spent-left last spent e now never h k = refl

-- Where it is due now, what is left of the advance after the time spent makes up the advance.
pub due-spent : (last spent e now : ℕ) (u : Time) → last + (spent + e) ≡ now → same_time (later last u) (finite now) ≡ true
    → spent + ticks (remaining u spent) ≡ ticks u
unfolding remaining later same_time ticks
due-spent last spent e now (finite a) h k = omega (arith, eqb-true (last + a) now k)
due-spent last spent e now never h k = absurd (clash k refl)

-- What is left at a moment, counted on from it, is the moment that was due.
pub left-later : (event e now : ℕ) (u : Time) → event + e ≡ now → not_before now u ≡ true → later event (later e (remaining u now)) ≡ u
unfolding remaining later not_before
left-later event e now (finite a) h k = ap finite (omega (arith, leb-true now a k))
left-later event e now never h k = refl

pub same-later : (e : ℕ) (u : Time) → same_time (later e u) (finite e) ≡ same_time u (finite 0)
unfolding same_time later
same-later e (finite a) = eqb-cong (e + a) e a 0 (λ h. omega arith) (λ h. omega arith)
same-later e never = refl

pub never-later : (e now : ℕ) → never ≡ later e (remaining never now)
unfolding remaining later
never-later e now = refl

-- Nothing is left of what is due now, and of nothing else that is not overdue.
pub imminent : (n : ℕ) (u : Time) → not_before n u ≡ true → same_time (remaining u n) (finite 0) ≡ same_time u (finite n)
unfolding remaining same_time not_before
imminent n (finite a) h = let k = leb-true n a h in eqb-cong (a - n) 0 a n (λ e. omega arith) (λ e. omega arith)
imminent n never h = refl

pub left-due : (n : ℕ) (u : Time) → same_time u (finite n) ≡ true → remaining u n ≡ finite 0
unfolding remaining same_time
left-due n (finite a) e = ap finite (omega (arith, eqb-true))
left-due n never e = absurd (clash e refl)

pub not_before-earlier : (n : ℕ) (u v : Time) → not_before n u ≡ true → not_before n v ≡ true → not_before n (earlier u v) ≡ true
unfolding not_before earlier
not_before-earlier n (finite a) (finite b) h k = le-leb n (min a b) (omega (arith, leb-true))
not_before-earlier n (finite a) never h k = h
not_before-earlier n never (finite b) h k = k
not_before-earlier n never never h k = refl

pub not-before-both : (n : ℕ) (u v : Time) → not_before n (earlier u v) ≡ true → (not_before n u ≡ true) × (not_before n v ≡ true)
unfolding not_before earlier
not-before-both n (finite a) (finite b) h = let k = leb-true n (min a b) h in (le-leb n a (omega arith), le-leb n b (omega arith))
not-before-both n (finite a) never h = (h, refl)
not-before-both n never (finite b) h = (refl, h)
not-before-both n never never h = (refl, refl)

pub not-before-past : (n : ℕ) (u : Time) → not_before n u ≡ true → same_time u (finite n) ≡ false → not_before (suc n) u ≡ true
unfolding not_before same_time
not-before-past n (finite a) h e = let k = leb-true n a h in let d = eqb-false a n e in le-leb (suc n) a (omega arith)
not-before-past n never h e = refl

pub not-due : (n : ℕ) (u v : Time) → not_before n u ≡ true → not_before n v ≡ true → same_time (earlier u v) (finite n) ≡ false
    → (same_time u (finite n) ≡ false) × (same_time v (finite n) ≡ false)
unfolding not_before same_time earlier
not-due n (finite a) (finite b) h k e =
    let p = leb-true n a h in
    let q = leb-true n b k in
    (ne_eqb a n (λ d. eqb-false (min a b) n e (omega arith)), ne_eqb b n (λ d. eqb-false (min a b) n e (omega arith)))
not-due n (finite a) never h k e = (e, refl)
not-due n never (finite b) h k e = (refl, e)
not-due n never never h k e = (refl, refl)
