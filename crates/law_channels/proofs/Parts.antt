-- Equal parts of a buffer, one after another. Assumes nothing.
use mathlib.Core.Path.{◌≡◌, sym, ap, ◌∙◌}
use Prim.Native.Nat.{ℕ, zero, suc, ◌+◌, ◌*◌, ◌/◌, ◌≤◌, ◌<◌}
use mathlib.Core.List.{List, [], ◌∷◌, ◌++◌, map, append_assoc}
use native.Mathlib.Nat.{div-mul-le_self, mul-le-mul_left}
use native.Mathlib.Omega.{arith}
use lib.ListN.{length, take, drop, get_or, length-append, length-take, length-drop, take-append-drop}
use lib.Seq.{take_at, drop-append-add, drop-drop, take-add, length-take-le}
use Rattle.definition.specs.Lists.{concat, up_from}
use Rattle.definition.specs.Bytes.{Bytes, stored}
use Rattle.definition.specs.Channels.{part}

-- what stands in place i where a buffer is cut into pieces of one size
unfoldable pub piece : (size i : ℕ) → Bytes → Bytes
piece size i s = take size (drop (size * i) s)

-- pieces of one size
abbrev pub Sized : ℕ → List Bytes → Type 0
Sized size [] = Unit {0}
Sized size (x ∷ xs) = (length x ≡ size) × Sized size xs

pub length-pieces : (size : ℕ) (xs : List Bytes) → Sized size xs → length (concat xs) ≡ size * length xs
unfolding concat
length-pieces size [] h = omega arith
length-pieces size (x ∷ xs) h = length-append x (concat xs) ∙ omega (arith, h.0, length-pieces size xs h.1)

-- the piece that was put in a place
pub piece-at : (size : ℕ) (xs : List Bytes) (rest : Bytes) (i : ℕ) → Sized size xs → i < length xs → piece size i (concat xs ++ rest) ≡ get_or xs i []
unfolding piece concat
piece-at size [] rest i h l = absurd (omega arith)
piece-at size (x ∷ xs) rest zero h l =
    ap (λ k. take size (drop k (x ++ concat xs ++ rest))) (let z : size * 0 ≡ 0 = omega arith in z)
    ∙ ap (take size) (append_assoc x (concat xs) rest) ∙ take_at x (concat xs ++ rest) size h.0
piece-at size (x ∷ xs) rest (suc i) h l =
    ap (λ k. take size (drop k (x ++ concat xs ++ rest))) (let z : size * suc i ≡ length x + size * i = omega (arith, h.0) in z)
    ∙ ap (take size) (ap (drop (length x + size * i)) (append_assoc x (concat xs) rest) ∙ drop-append-add x (concat xs ++ rest) (size * i))
    ∙ piece-at size xs rest i h.1 (omega arith)

-- part i of n
pub length_part : (n i : ℕ) (s : Bytes) → i < n → length (part n i s) ≡ length s / n
unfolding part
length_part n i s l =
    let q = length s / n in
    let fit : q * suc i ≤ q * n = mul-le-mul_left q l in
    length-take q (drop (q * i) s) ∙ omega (arith, length-drop (q * i) s, div-mul-le_self (length s) n)

pub at_up : (k n i d : ℕ) → i < n → get_or (up_from k n) i d ≡ k + i
unfolding up_from
at_up k zero i d l = absurd (omega arith)
at_up k (suc n) zero d l = omega arith
at_up k (suc n) (suc i) d l = at_up (suc k) n i d (omega arith) ∙ omega arith

-- the parts in turn are the front of the buffer
pub parts-joined : (size k n : ℕ) (s : Bytes) → concat (map (λ i. piece size i s) (up_from k n)) ≡ take (size * n) (drop (size * k) s)
unfolding up_from concat piece
parts-joined size k zero s = ap (λ j. take j (drop (size * k) s)) (let z : 0 ≡ size * 0 = omega arith in z)
parts-joined size k (suc n) s =
    let front = drop (size * k) s in
    ap (λ z. take size front ++ z) (parts-joined size (suc k) n s ∙ ap (take (size * n)) (ap (λ j. drop j s) (let z : size * suc k ≡ size * k + size = omega arith in z) ∙ sym (drop-drop size (size * k) s)))
    ∙ sym (take-add size (size * n) front) ∙ ap (λ j. take j front) (let z : size + size * n ≡ size * suc n = omega arith in z)

-- put back as they were they change nothing
pub parts_stay : (n : ℕ) (s : Bytes) → stored (concat (map (λ i. part n i s) (up_from 0 n))) s ≡ s
unfolding stored part piece
parts_stay n s =
    let q = length s / n in
    let a = parts-joined q 0 n s ∙ ap (λ j. take (q * n) (drop j s)) (let z : q * 0 ≡ 0 = omega arith in z) in
    let long : length (take (q * n) s) ≡ q * n = length-take-le (q * n) s (div-mul-le_self (length s) n) in
    ap (λ z. z ++ drop (length z) s) a ∙ ap (λ j. take (q * n) s ++ drop j s) long ∙ take-append-drop (q * n) s
