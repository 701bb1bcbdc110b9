-- Fields written and read back, and fields read of bytes and written again, whatever the layout: what reading and writing need of a kind
-- of record, from four facts on that kind. Assumes nothing.
use mathlib.Core.Path.{◌≡◌, refl, ap, ap₂, sym, ◌∙◌}
use Prim.Native.Nat.{ℕ, ◌+◌, ◌≤◌}
use mathlib.Core.List.{List, [], ◌∷◌, ◌++◌, map, append_assoc}
use native.Mathlib.Omega.{arith}
use lib.ListN.{length, take, drop, length-append}
use lib.Seq.{take_all, take-add, drop-drop}
use Rattle.definition.specs.Lists.{sum}
use Rattle.definition.specs.Bytes.{Bytes, AllBytes, number_at, bytes_of, Layout, laid_out}
use Rattle.definition.specs.Sound.{Held}
use Rattle.law_model.proofs.Codec.{drop-bytes, length-bytes, number-front, number_behind, number-written, le-small}

abbrev pub widths_of : Layout → List ℕ
widths_of fs = map (λ f. f.0) fs

-- The fields of these widths that stand in r, from a position on.
unfoldable pub fields_at : List ℕ → ℕ → Bytes → Layout
fields_at [] at r = []
fields_at (w ∷ ws) at r = (w, number_at w at r) ∷ fields_at ws (at + w) r

-- ---- written and read back

length-laid : (fs : Layout) → length (laid_out fs) ≡ sum (widths_of fs)
unfolding laid_out sum
length-laid [] = refl
length-laid (f ∷ fs) = length-append (bytes_of f.0 f.1) (laid_out fs) ∙ ap₂ ◌+◌ (length-bytes f.0 f.1) (length-laid fs)

fields_back : (fs : Layout) (at : ℕ) (front : Bytes) → length front ≡ at → Held fs → fields_at (widths_of fs) at (front ++ laid_out fs) ≡ fs
unfolding fields_at laid_out
fields_back [] at front e h = refl
fields_back (f ∷ fs) at front e h =
    let w = f.0 in
    let n = f.1 in
    let here : number_at w at (front ++ (bytes_of w n ++ laid_out fs)) ≡ n
    = number_behind w at front (bytes_of w n ++ laid_out fs) e ∙ number-front w n (laid_out fs) h.0 in
    let on : length (front ++ bytes_of w n) ≡ at + w = length-append front (bytes_of w n) ∙ ap₂ ◌+◌ e (length-bytes w n) in
    ap₂ ◌∷◌ (λ i. (w, here i))
    (ap (fields_at (widths_of fs) (at + w)) (sym (append_assoc front (bytes_of w n) (laid_out fs))) ∙ fields_back fs (at + w) (front ++ bytes_of w n) on h.1)

-- ---- read and written again

fields-held : (ws : List ℕ) (at : ℕ) {r : Bytes} → AllBytes r → Held (fields_at ws at r)
unfolding fields_at number_at
fields-held [] at h = tt
fields-held (w ∷ ws) at h = (le-small w (drop-bytes at h), fields-held ws (at + w) h)

pub fields-written : (ws : List ℕ) (at : ℕ) {r : Bytes} → at + sum ws ≤ length r → AllBytes r → laid_out (fields_at ws at r) ≡ take (sum ws) (drop at r)
unfolding fields_at laid_out sum
fields-written [] at l h = refl
fields-written (w ∷ ws) at {r} l h =
    ap₂ ◌++◌ (number-written w at (omega arith) h) (fields-written ws (at + w) (omega arith) h ∙ ap (take (sum ws)) (sym (drop-drop w at r)))
    ∙ sym (take-add w (sum ws) (drop at r))

-- ---- a kind of record

-- Records of one size that `to` reads: their fields have widths that do not depend on the record, and tell records apart.
pub record Spelled {A : Type 0} (size : ℕ) (layout : A → Layout) (to : Bytes → A) : Type 0 where
  pub widths : List ℕ
  pub total : sum widths ≡ size
  pub as_laid : (x : A) → widths_of (layout x) ≡ widths
  pub as_read : (r : Bytes) → layout (to r) ≡ fields_at widths 0 r
  pub apart : (x y : A) → layout x ≡ layout y → x ≡ y

module _ {A : Type 0} {size : ℕ} {layout : A → Layout} {to : Bytes → A} (k : Spelled size layout to) where
  pub record-size : (x : A) → length (laid_out (layout x)) ≡ size
  record-size x = length-laid (layout x) ∙ ap sum (k.as_laid x) ∙ k.total

  -- a record whose fields its widths hold is read back
  pub record-back : (x : A) → Held (layout x) → to (laid_out (layout x)) ≡ x
  record-back x h =
      let r = laid_out (layout x) in
      k.apart (to r) x (k.as_read r ∙ ap (λ ws. fields_at ws 0 r) (sym (k.as_laid x)) ∙ fields_back (layout x) 0 [] refl h)

  -- a record read of bytes is held by its widths, and written as the same bytes
  pub record-held : {r : Bytes} → AllBytes r → Held (layout (to r))
  record-held {r} h = rw (k.as_read r) (fields-held k.widths 0 h)

  -- .. so that writing it and reading it again changes nothing
  pub record-kept : {r : Bytes} → AllBytes r → to (laid_out (layout (to r))) ≡ to r
  record-kept {r} h = record-back (to r) (record-held h)

  pub record-written : {r : Bytes} → length r ≡ size → AllBytes r → laid_out (layout (to r)) ≡ r
  record-written {r} e h =
      ap laid_out (k.as_read r) ∙ fields-written k.widths 0 (omega (arith, k.total)) h ∙ take_all (sum k.widths) r (omega (arith, k.total))
