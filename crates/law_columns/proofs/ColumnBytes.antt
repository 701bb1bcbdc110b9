-- A column of numbers in bytes, and what columns are made of: a column written is read back, one read is written as it stood; messages from
-- a column of ports and one of values; records dealt out from columns. Assumes nothing.
use mathlib.Core.Path.{◌≡◌, refl, sym, ap, ap₂, ◌∙◌}
use Prim.Native.Nat.{ℕ, zero, suc, ◌+◌, ◌*◌, ◌^◌, ◌≤◌, ◌<◌}
use mathlib.Core.List.{List, [], ◌∷◌, ◌++◌, map, map-map, append-nil}
use native.Mathlib.Omega.{arith}
use lib.ListN.{length, take, drop, length-append, length-take, length-drop, length-map, take-append-drop}
use lib.Seq.{take_at, drop_at, take-add, take_all, length-take-le}
use Rattle.definition.specs.Lists.{concat, sum}
use Rattle.definition.specs.Bytes.{Bytes, AllBytes, none, number_at, bytes_of, chunks}
use Rattle.definition.specs.Model.{Bag}
use Rattle.definition.specs.Records.{message_layout}
use Rattle.definition.specs.Sound.{Held, Every}
use Rattle.definition.specs.Instant.{TraceRecord}
use Rattle.definition.specs.Columns.{RecordHeld, column, messages_of}
use Rattle.definition.specs.Pinned.TraceReader.{numbers_at, messages_from, dealt}
use Rattle.law_base.proofs.Lists.{concat-append}
use Rattle.law_model.proofs.Codec.{append-bytes, take-bytes, drop-bytes, length-bytes, number-bytes, number-front, number-written, rows-length, rows_back, length-chunks}
use Rattle.law_text.proofs.Records.{number_small}
use Rattle.law_base.proofs.Everys.{every_take, every_drop}

-- ---- one column

module _ {A : Type 0} (w : ℕ) (f : A → ℕ) where
  pub length-column : (xs : List A) → length (column w f xs) ≡ length xs * w
  unfolding column
  length-column xs = rows-length w (λ x. bytes_of w (f x)) (λ x. length-bytes w (f x)) xs

  pub column-bytes : (xs : List A) → AllBytes (column w f xs)
  unfolding column concat
  column-bytes [] = none
  column-bytes (x ∷ xs) = append-bytes (number-bytes w (f x)) (column-bytes xs)

  pub column-append : (xs ys : List A) → column w f (xs ++ ys) ≡ column w f xs ++ column w f ys
  unfolding column
  column-append xs ys = concat-append (λ x. bytes_of w (f x)) xs ys

  -- a column of elements is that of their numbers
  pub column-map : (xs : List A) → column w f xs ≡ column w (λ n. n) (map f xs)
  unfolding column
  column-map xs = ap concat (sym (map-map (bytes_of w) f xs))

  alone : (n : ℕ) → n < 256 ^ w → number_at w 0 (bytes_of w n) ≡ n
  alone n h = ap (number_at w 0) (sym (append-nil (bytes_of w n))) ∙ number-front w n [] h

  rows-numbers : (xs : List A) → Every (λ x. f x < 256 ^ w) xs → map (number_at w 0) (map (λ x. bytes_of w (f x)) xs) ≡ map f xs
  rows-numbers [] h = refl
  rows-numbers (x ∷ xs) h = ap₂ ◌∷◌ (alone (f x) h.0) (rows-numbers xs h.1)

  -- a column read back, behind a front of known length
  pub column-back : (xs : List A) (front rest : Bytes) (at : ℕ) → length front ≡ at → Every (λ x. f x < 256 ^ w) xs
      → numbers_at w (length xs) at (front ++ (column w f xs ++ rest)) ≡ map f xs
  unfolding numbers_at column
  column-back xs front rest at e h =
      rw (drop_at front (column w f xs ++ rest) at e)
      (ap (map (number_at w 0)) (rows_back w (λ x. bytes_of w (f x)) (λ x. length-bytes w (f x)) xs rest) ∙ rows-numbers xs h)

-- a column written as it was read
rows_written : (w n : ℕ) {s : Bytes} → n * w ≤ length s → AllBytes s → column w (λ v. v) (map (number_at w 0) (chunks n w s)) ≡ take (n * w) s
unfolding column concat chunks
rows_written w zero {s} l h = ap (λ k. take k s) (let q : 0 ≡ 0 * w = omega arith in q)
rows_written w (suc n) {s} l h =
    let one : w + n * w ≡ suc n * w = omega arith in
    let t = length-take-le w s (omega arith) in
    ap₂ ◌++◌ (number-written w 0 (omega arith) (take-bytes w h) ∙ take_all w (take w s) (omega arith))
    (rows_written w n (omega (arith, length-drop w s)) (drop-bytes w h))
    ∙ sym (take-add w (n * w) s) ∙ ap (λ k. take k s) one

pub column-written : (w n at : ℕ) {s : Bytes} → at + n * w ≤ length s → AllBytes s → column w (λ v. v) (numbers_at w n at s) ≡ take (n * w) (drop at s)
unfolding numbers_at
column-written w n at {s} l h = rows_written w n (omega (arith, length-drop at s)) (drop-bytes at h)

pub length-numbers : (w n at : ℕ) (s : Bytes) → length (numbers_at w n at s) ≡ n
unfolding numbers_at
length-numbers w n at s = length-map (chunks n w (drop at s)) (number_at w 0) ∙ length-chunks n w (drop at s)

rows-small : (w n : ℕ) {s : Bytes} → AllBytes s → Every (λ v. v < 256 ^ w) (map (number_at w 0) (chunks n w s))
unfolding chunks
rows-small w zero h = tt
rows-small w (suc n) {s} h = (number_small w 0 (take w s) (take-bytes w h), rows-small w n (drop-bytes w h))

pub numbers-small : (w n at : ℕ) {s : Bytes} → AllBytes s → Every (λ v. v < 256 ^ w) (numbers_at w n at s)
unfolding numbers_at
numbers-small w n at h = rows-small w n (drop-bytes at h)

-- ---- messages by port and value

pub paired-back : (xs : Bag) → messages_from (map (λ x. x.port) xs) (map (λ x. x.value) xs) ≡ xs
unfolding messages_from
paired-back [] = refl
paired-back (x ∷ xs) = ap (λ ys. x ∷ ys) (paired-back xs)

pub paired-ports : (ps vs : List ℕ) → length ps ≡ length vs → map (λ x. x.port) (messages_from ps vs) ≡ ps
unfolding messages_from
paired-ports [] [] e = refl
paired-ports [] (v ∷ vs) e = refl
paired-ports (p ∷ ps) [] e = absurd (omega arith)
paired-ports (p ∷ ps) (v ∷ vs) e = ap (λ ys. p ∷ ys) (paired-ports ps vs (omega arith))

pub paired-values : (ps vs : List ℕ) → length ps ≡ length vs → map (λ x. x.value) (messages_from ps vs) ≡ vs
unfolding messages_from
paired-values [] [] e = refl
paired-values [] (v ∷ vs) e = absurd (omega arith)
paired-values (p ∷ ps) [] e = refl
paired-values (p ∷ ps) (v ∷ vs) e = ap (λ ys. v ∷ ys) (paired-values ps vs (omega arith))

pub paired-held : (ps vs : List ℕ) → Every (λ v. v < 256 ^ 1) ps → Every (λ v. v < 256 ^ 2) vs → Every (λ x. Held (message_layout x)) (messages_from ps vs)
unfolding messages_from
paired-held [] [] h k = tt
paired-held [] (v ∷ vs) h k = tt
paired-held (p ∷ ps) [] h k = tt
paired-held (p ∷ ps) (v ∷ vs) h k = ((h.0, (k.0, tt)), paired-held ps vs h.1 k.1)

-- ---- records dealt out

pub dealt_back : (rs : List TraceRecord) → dealt (map (λ r. r.moment) rs) (map (λ r. r.step) rs) (map (λ r. length r.messages) rs) (messages_of rs) ≡ rs
unfolding dealt messages_of concat
dealt_back [] = refl
dealt_back (r ∷ rs) =
    let rest = messages_of rs in
    let a = take_at r.messages rest (length r.messages) refl in
    let b = drop_at r.messages rest (length r.messages) refl in
    ap₂ (λ (xs : Bag) (qs : List TraceRecord). record { moment = r.moment; step = r.step; messages = xs } ∷ qs) a
    (ap (dealt (map (λ r. r.moment) rs) (map (λ r. r.step) rs) (map (λ r. length r.messages) rs)) b ∙ dealt_back rs)

pub sum-counts : (rs : List TraceRecord) → sum (map (λ r. length r.messages) rs) ≡ length (messages_of rs)
unfolding sum messages_of concat
sum-counts [] = refl
sum-counts (r ∷ rs) = omega (arith, sum-counts rs, length-append r.messages (messages_of rs))

-- what dealing leaves of each column

pub dealt-moments : (ts ks ns : List ℕ) (xs : Bag) → length ks ≡ length ts → length ns ≡ length ts → map (λ r. r.moment) (dealt ts ks ns xs) ≡ ts
unfolding dealt
dealt-moments [] ks ns xs e f = refl
dealt-moments (t ∷ ts) [] ns xs e f = absurd (omega arith)
dealt-moments (t ∷ ts) (k ∷ ks) [] xs e f = absurd (omega arith)
dealt-moments (t ∷ ts) (k ∷ ks) (n ∷ ns) xs e f = ap (λ l. t ∷ l) (dealt-moments ts ks ns (drop n xs) (omega arith) (omega arith))

pub dealt-steps : (ts ks ns : List ℕ) (xs : Bag) → length ks ≡ length ts → length ns ≡ length ts → map (λ r. r.step) (dealt ts ks ns xs) ≡ ks
unfolding dealt
dealt-steps [] [] ns xs e f = refl
dealt-steps [] (k ∷ ks) ns xs e f = absurd (omega arith)
dealt-steps (t ∷ ts) [] ns xs e f = absurd (omega arith)
dealt-steps (t ∷ ts) (k ∷ ks) [] xs e f = absurd (omega arith)
dealt-steps (t ∷ ts) (k ∷ ks) (n ∷ ns) xs e f = ap (λ l. k ∷ l) (dealt-steps ts ks ns (drop n xs) (omega arith) (omega arith))

pub dealt-counts : (ts ks ns : List ℕ) (xs : Bag) → length ks ≡ length ts → length ns ≡ length ts → length xs ≡ sum ns
    → map (λ r. length r.messages) (dealt ts ks ns xs) ≡ ns
unfolding dealt sum
dealt-counts [] ks [] xs e f g = refl
dealt-counts [] ks (n ∷ ns) xs e f g = absurd (omega arith)
dealt-counts (t ∷ ts) [] ns xs e f g = absurd (omega arith)
dealt-counts (t ∷ ts) (k ∷ ks) [] xs e f g = absurd (omega arith)
dealt-counts (t ∷ ts) (k ∷ ks) (n ∷ ns) xs e f g =
    ap₂ ◌∷◌ (length-take-le n xs (omega arith)) (dealt-counts ts ks ns (drop n xs) (omega arith) (omega arith) (omega (arith, length-drop n xs)))

pub dealt-messages : (ts ks ns : List ℕ) (xs : Bag) → length ks ≡ length ts → length ns ≡ length ts → length xs ≡ sum ns → messages_of (dealt ts ks ns xs) ≡ xs
unfolding dealt messages_of sum concat
dealt-messages [] ks [] [] e f g = refl
dealt-messages [] ks [] (x ∷ xs) e f g = absurd (omega arith)
dealt-messages [] ks (n ∷ ns) xs e f g = absurd (omega arith)
dealt-messages (t ∷ ts) [] ns xs e f g = absurd (omega arith)
dealt-messages (t ∷ ts) (k ∷ ks) [] xs e f g = absurd (omega arith)
dealt-messages (t ∷ ts) (k ∷ ks) (n ∷ ns) xs e f g =
    ap (λ l. take n xs ++ l) (dealt-messages ts ks ns (drop n xs) (omega arith) (omega arith) (omega (arith, length-drop n xs))) ∙ take-append-drop n xs

pub dealt-held : (ts ks ns : List ℕ) (xs : Bag) → Every (λ v. v < 256 ^ 8) ts → Every (λ v. v < 256 ^ 2) ks → Every (λ v. v < 256 ^ 2) ns
    → Every (λ x. Held (message_layout x)) xs → Every RecordHeld (dealt ts ks ns xs)
unfolding dealt
dealt-held [] ks ns xs a b c h = tt
dealt-held (t ∷ ts) [] ns xs a b c h = tt
dealt-held (t ∷ ts) (k ∷ ks) [] xs a b c h = tt
dealt-held (t ∷ ts) (k ∷ ks) (n ∷ ns) xs a b c h =
    let l = length-take n xs in
    let small : n < 256 ^ 2 = c.0 in (
      ((a.0, (b.0, (omega arith, tt))), every_take (λ x. Held (message_layout x)) n xs h),
      dealt-held ts ks ns (drop n xs) a.1 b.1 c.1 (every_drop (λ x. Held (message_layout x)) n xs h),
    )
