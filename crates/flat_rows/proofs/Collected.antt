-- The rows of all ends, put into a buffer one end after the other. Assumes nothing.
use mathlib.Core.Path.{◌≡◌, refl, sym, ap, ap₂, ◌∙◌, subst}
use Prim.Native.Nat.{ℕ, suc, ◌+◌, ◌-◌, ◌/◌, ◌≤◌, ◌<◌}
use mathlib.Core.List.{List, [], ◌∷◌, ◌++◌, map, append_assoc, append-nil}
use native.Mathlib.Omega.{arith}
use lib.Dec.{leb}
use lib.ListN.{length, get_or, take, set, length-map, length-append}
use lib.Seq.{slice, slice-cons, take-suc-set, append_snoc, take_all, take-append-add, length-take-le}
use borrow.Rule.Slice.PartMut.{put_mid}
use Rattle.definition.specs.Lists.{sort_by, up_from}
use Rattle.definition.specs.Bytes.{chunks, number_at, little_endian}
use Rattle.definition.specs.Limits.{max_ancestors, port_count}
use Rattle.definition.specs.Model.{Bag, Phase}
use Rattle.definition.specs.Records.{message_at}
use Rattle.definition.specs.Engine.{to_bag}
use Rattle.spec_step.specs.Put.{put_ports, keys_of}
use Rattle.spec_step.specs.Tables.{input_node, output_node, numbers_at}
use Rattle.spec_step.specs.TableStep.{pulled_below, pulled_into, keys_into, root_keys}
use Rattle.spec_step.specs.Flags.{marks_in, reached_in}
use Rattle.law_step.proofs.Putting.{bag-front}
use Rattle.law_stores.proofs.Fronts.{Front}
use Rattle.sort.specs.Sorted.{SortedIn}
use Rattle.sort.proofs.Fronts.{length-sort, front-sorted, slice_set, tail-back}
use Rattle.flat_probe.specs.Probe.{probes, probe_flags, probe_given}
use Rattle.flat_rows.specs.Rows.{row_of, rows_at_position, rows_from, rows_at_root, rows_of, probe_rows}
use Rattle.flat_rows.specs.Put.{Held}

-- ---- the rows of one end

-- Keys made rows in their places: one more, where those before i are made.
pub make-more : (f : ℕ → ℕ) (rows : List ℕ) (n i : ℕ) → i < n → n ≤ length rows
    → let made = set rows i (f (get_or rows i 0)) in
    take (i + 1) made ++ map f (slice (i + 1) n made) ≡ take i rows ++ map f (slice i n rows)
make-more f rows n i h fits =
    let e : i + 1 ≡ suc i = omega arith in
    rw (
      slice_set i (i + 1) n (f (get_or rows i 0)) rows (omega arith) (omega arith),
      e,
      take-suc-set rows i (f (get_or rows i 0)) (omega arith),
      slice-cons i n rows 0 h fits,
    )
    (append_snoc (take i rows) (f (get_or rows i 0)) (map f (slice (suc i) n rows)))

-- A buffer that holds keys, once they are made rows.
pub made_held : (f : ℕ → ℕ) (ks keys rows : List ℕ) (r : ℕ) → Held ks keys r → length rows ≡ length keys → take r rows ≡ map f (take r keys)
    → Held (map f ks) rows r
made_held f ks keys rows r h l e =
    record { count = h.count ∙ sym (length-map ks f); front = e ∙ ap (map f) h.front; room = omega (arith, l, h.room) }

bag-held : (values : ℕ → List ℕ) (b after : List ℕ) (r : ℕ) → (after, r) ≡ put_ports values port_count 0 (b, 0) → length (keys_of values port_count 0) ≤ length b
    → Held (keys_of values port_count 0) after r
bag-held values b after r e l =
    let ks = keys_of values port_count 0 in
    let f : Front (length b) (after, r) ks = subst (λ st. Front (length b) st ks) (sym e) (bag-front values port_count 0 b) in
    let s = f.size in
    let p = f.position in
    record { count = omega arith; front = f.held ∙ take_all (length b) ks l; room = omega arith }

module _ (ps : List Phase) (t flags : List ℕ) where
  abbrev keys_at_root : List ℕ
  keys_at_root = root_keys ps t (marks_in flags) (reached_in flags)

  -- The root's bag fits where its rows do, and is made its rows.
  pub root-held : (b after : List ℕ) (r : ℕ) → length (rows_at_root ps t flags) ≤ length b
      → (after, r) ≡ put_ports (λ q. pulled_below ps t (marks_in flags) (reached_in flags) max_ancestors (output_node 0 q)) port_count 0 (b, 0)
      → Held keys_at_root after r
  unfolding rows_at_root root_keys
  root-held b after r l e =
      let values : ℕ → List ℕ = λ q. pulled_below ps t (marks_in flags) (reached_in flags) max_ancestors (output_node 0 q) in
      bag-held values b after r e (omega (arith, length-map (keys_of values port_count 0) (row_of t 0)))

  pub root-rows : (keys rows : List ℕ) (r : ℕ) → Held keys_at_root keys r → length rows ≡ length keys
      → take r rows ≡ map (row_of t 0) (take r keys) → Held (rows_at_root ps t flags) rows r
  unfolding rows_at_root
  root-rows keys rows r h l e = made_held (row_of t 0) keys_at_root keys rows r h l e

  module _ (x : Bag) where
    abbrev keys_at : ℕ → List ℕ
    keys_at i = keys_into ps t (marks_in flags) (reached_in flags) x (get_or t (numbers_at + i) 0)

    -- So is an atomic's.
    pub atomic-held : (i : ℕ) (b after : List ℕ) (r : ℕ) → length (rows_at_position ps t flags x i) ≤ length b
        → (after, r) ≡ put_ports (λ q. pulled_into ps t (marks_in flags) (reached_in flags) x max_ancestors (input_node (get_or t (numbers_at + i) 0) q)) port_count 0 (b, 0)
        → Held (keys_at i) after r
    unfolding rows_at_position keys_into
    atomic-held i b after r l e =
        let values : ℕ → List ℕ = λ q. pulled_into ps t (marks_in flags) (reached_in flags) x max_ancestors (input_node (get_or t (numbers_at + i) 0) q) in
        bag-held values b after r e (omega (arith, length-map (keys_of values port_count 0) (row_of t (i + 1))))

    pub atomic-rows : (i : ℕ) (keys rows : List ℕ) (r : ℕ) → Held (keys_at i) keys r → length rows ≡ length keys
        → take r rows ≡ map (row_of t (i + 1)) (take r keys) → Held (rows_at_position ps t flags x i) rows r
    unfolding rows_at_position
    atomic-rows i keys rows r h l e = made_held (row_of t (i + 1)) (keys_at i) keys rows r h l e

    -- ---- all ends

    -- what a buffer has after the ends before position i
    pub record So (n i at : ℕ) (rows : List ℕ) : Type 0 where
      pub left : at + length (rows_from ps t flags x (n - i) i) ≡ length (rows_of ps t flags x n)
      pub done : take at rows ++ rows_from ps t flags x (n - i) i ≡ rows_of ps t flags x n

    root-first : (n : ℕ) → rows_of ps t flags x n ≡ rows_at_root ps t flags ++ rows_from ps t flags x n 0
    root-first n = unfold rows_of in refl

    whole_length : (n : ℕ) → length (rows_of ps t flags x n) ≡ length (rows_at_root ps t flags) + length (rows_from ps t flags x n 0)
    whole_length n = ap length (root-first n) ∙ length-append (rows_at_root ps t flags) (rows_from ps t flags x n 0)

    pub so-begins : (n r : ℕ) (b : List ℕ) → Held (rows_at_root ps t flags) b r → So n 0 r b
    so-begins n r b h =
        let z : n - 0 ≡ n = omega arith in
        record {
          left = rw (h.count, z) (sym (whole_length n));
          done = ap₂ (λ l m. l ++ rows_from ps t flags x m 0) h.front z ∙ sym (root-first n);
        }

    pub root-room : (n : ℕ) → length (rows_at_root ps t flags) ≤ length (rows_of ps t flags x n)
    root-room n = omega (arith, whole_length n)

    rows_split : (n i : ℕ) → i < n → rows_from ps t flags x (n - i) i ≡ rows_at_position ps t flags x i ++ rows_from ps t flags x (n - (i + 1)) (i + 1)
    rows_split n i l = ap (λ m. rows_from ps t flags x m i) (let e : n - i ≡ suc (n - (i + 1)) = omega arith in e) ∙ (unfold rows_from in refl)

    pub so-room : (n i at : ℕ) (rows : List ℕ) → i < n → So n i at rows → at + length (rows_at_position ps t flags x i) ≤ length (rows_of ps t flags x n)
    so-room n i at rows l s =
        let k = s.left in
        omega (arith, ap length (rows_split n i l), length-append (rows_at_position ps t flags x i) (rows_from ps t flags x (n - (i + 1)) (i + 1)))

    -- an end's rows, put into the part from `at` on
    pub so-more : (n i at r : ℕ) (rows part : List ℕ) → i < n → at ≤ length rows → Held (rows_at_position ps t flags x i) part r → So n i at rows
        → So n (i + 1) (at + r) (put_mid at (length rows - at) rows part)
    so-more n i at r rows part l m h s =
        let a = rows_at_position ps t flags x i in
        let rest = rows_from ps t flags x (n - (i + 1)) (i + 1) in
        let k = s.left in
        let e = rows_split n i l in
        let long : length (take at rows) ≡ at = length-take-le at rows m in
        let more : take (at + r) (take at rows ++ part) ≡ take at rows ++ take r part = rw long at (take-append-add (take at rows) part r) in
        record {
          left = omega (arith, ap length e, length-append a rest, h.count);
          done =
              ap (λ b. take (at + r) b ++ rest) (tail-back at rows part) ∙ ap (λ b. b ++ rest) (more ∙ ap (λ b. take at rows ++ b) h.front)
              ∙ append_assoc (take at rows) a rest ∙ ap (λ b. take at rows ++ b) (sym e) ∙ s.done;
        }

    pub so-ends : (n i at : ℕ) (rows : List ℕ) → n ≤ i → at ≤ length rows → So n i at rows → Held (rows_of ps t flags x n) rows at
    so-ends n i at rows l m s =
        let k = s.left in
        record { count = omega (arith, ap length none); front = sym (append-nil (take at rows)) ∙ ap (λ r. take at rows ++ r) (sym none) ∙ s.done; room = m }
      where
        none : rows_from ps t flags x (n - i) i ≡ []
        none = ap (λ m. rows_from ps t flags x m i) (let e : n - i ≡ 0 = omega arith in e) ∙ (unfold rows_from in refl)

-- ---- of the probing step

pub probe-rows : {ps : List Phase} {flags : List ℕ} {x : Bag} (t : List ℕ) (n : ℕ) → ps ≡ probes → flags ≡ probe_flags → x ≡ probe_given → rows_of ps t flags x n ≡ probe_rows t n
probe-rows t n p q r = λ i. rows_of (p i) t (q i) (r i) n

-- ---- sorted

pub sorted-held : (rows entry exit : List ℕ) (r : ℕ) → Held rows entry r → r + r / 2 ≤ length entry → length exit ≡ length entry
    → SortedIn r (r / 2) entry exit → Held (sort_by leb rows) exit r
sorted-held rows entry exit r h room l e = record {
  count = h.count ∙ sym (length-sort rows);
  front = front-sorted r (r / 2) entry exit room e ∙ ap (sort_by leb) h.front;
  room = omega (arith, l, h.room);
}

-- what the root is given
pub given-bag : to_bag (0 ∷ 0 ∷ 0 ∷ 1 ∷ 1 ∷ 0 ∷ 2 ∷ 2 ∷ 0 ∷ 3 ∷ 3 ∷ 0 ∷ []) ≡ probe_given
unfolding to_bag chunks message_at number_at little_endian probe_given input_node up_from
given-bag = refl
