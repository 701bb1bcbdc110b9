-- A buffer into which numbers were put holds them at its front, as many as it has room for. Assumes nothing.
use mathlib.Core.Path.{◌≡◌, refl, sym, ap, ◌∙◌, subst}
use Prim.Native.Nat.{ℕ, suc, ◌+◌, ◌≤◌, min}
use mathlib.Core.List.{List, [], ◌∷◌, ◌++◌, append_assoc, append-nil}
use mathlib.Core.Bool.{Bool, true, false, cond}
use native.Mathlib.Omega.{arith}
use lib.Dec.{ltb}
use lib.ListN.{length, set, take, length-set, length-append}
use lib.Seq.{set_out, take_all, take-nil, take-append-le, take-suc-set}
use borrow.Author.Tests.{ltb-true, ltb-false}
use Rattle.law_stores.specs.Put.{put1, put}

-- A buffer of so much room after the numbers ks: the position, and what stands before it.
pub record Front (room : ℕ) (st : List ℕ × ℕ) (ks : List ℕ) : Type 0 where
  pub size : length st.0 ≡ room
  pub position : st.1 ≡ min room (length ks)
  pub held : take st.1 st.0 ≡ take room ks

pub front-none : (b : List ℕ) → Front (length b) (b, 0) []
front-none b = record { size = refl; position = no_room (length b); held = sym (take-nil (length b)) }
  where
    no_room : (n : ℕ) → 0 ≡ min n (length {A = ℕ} [])
    no_room n = omega arith

-- one number more
pub front-put : (room v : ℕ) (st : List ℕ × ℕ) (ks : List ℕ) → Front room st ks → Front room (put1 v st) (ks ++ v ∷ [])
unfolding put1
front-put room v st ks f = go (ltb st.1 (length st.0)) refl
  where
    long : length (ks ++ v ∷ []) ≡ length ks + 1
    long = length-append ks (v ∷ [])

    go : (b : Bool) → ltb st.1 (length st.0) ≡ b → Front room (set st.0 st.1 v, cond b (st.1 + 1) st.1) (ks ++ v ∷ [])
    go true e =
        let l = ltb-true st.1 (length st.0) e in
        let p = f.position in
        let s = f.size in
        let n : st.1 + 1 ≡ suc st.1 = omega arith in
        let whole : take room ks ≡ ks = take_all room ks (omega arith) in
        record {
          size = length-set st.0 st.1 v ∙ f.size;
          position = omega (arith, long);
          held =
              ap (λ k. take k (set st.0 st.1 v)) n ∙ take-suc-set st.0 st.1 v l ∙ ap (λ k. k ++ v ∷ []) (f.held ∙ whole)
              ∙ sym (take_all room (ks ++ v ∷ []) (omega (arith, long)));
        }
    go false e =
        let l = ltb-false st.1 (length st.0) e in
        let p = f.position in
        let s = f.size in
        record {
          size = length-set st.0 st.1 v ∙ f.size;
          position = omega (arith, long);
          held = ap (take st.1) (set_out st.0 st.1 v l) ∙ f.held ∙ sym (take-append-le room ks (v ∷ []) (omega arith));
        }

-- several
pub front-all : (room : ℕ) (vs : List ℕ) (st : List ℕ × ℕ) (ks : List ℕ) → Front room st ks → Front room (put vs st) (ks ++ vs)
unfolding put
front-all room [] st ks f = subst (Front room st) (sym (append-nil ks)) f
front-all room (v ∷ vs) st ks f =
    subst (Front room (put vs (put1 v st))) (append_assoc ks (v ∷ []) vs) (front-all room vs (put1 v st) (ks ++ v ∷ []) (front-put room v st ks f))

-- Put from the beginning of a buffer that has room for them, they stand there whole.
pub put_whole : (vs buffer after : List ℕ) (r : ℕ) → length vs ≤ length buffer → (after, r) ≡ put vs (buffer, 0) → (r ≡ length vs) × (take r after ≡ vs)
put_whole vs buffer after r h e =
    let f : Front (length buffer) (after, r) vs = subst (λ st. Front (length buffer) st vs) (sym e) (front-all (length buffer) vs (buffer, 0) [] (front-none buffer)) in
    let p = f.position in
    (omega arith, f.held ∙ take_all (length buffer) vs h)
