-- Bytes written at the front of a lent buffer: written again, read back, and written on behind those that stand. Assumes nothing.
use mathlib.Core.Path.{◌≡◌, refl, sym, ap, ap₂, ◌∙◌}
use Prim.Native.Nat.{◌+◌}
use mathlib.Core.List.{◌++◌, append_assoc}
use lib.ListN.{length, take, drop, length-append}
use lib.Seq.{take_at, drop_at, drop-append-add, drop-drop}
use Rattle.definition.specs.Bytes.{Bytes, stored}

-- as long a front written again
pub stored-again : (a b s : Bytes) → length a ≡ length b → stored a (stored b s) ≡ stored a s
unfolding stored
stored-again a b s e = ap (λ k. a ++ drop k (b ++ drop (length b) s)) e ∙ ap (λ z. a ++ z) (drop_at b (drop (length b) s) (length b) refl ∙ ap (λ k. drop k s) (sym e))

-- records written on behind those that stand
pub written_on : (a r s : Bytes) → take (length a) (stored a s) ++ r ++ drop (length a + length r) (stored a s) ≡ stored (a ++ r) s
unfolding stored
written_on a r s =
    ap₂ (λ x y. x ++ r ++ y) (take_at a (drop (length a) s) (length a) refl)
    (drop-append-add a (drop (length a) s) (length r) ∙ drop-drop (length r) (length a) s ∙ ap (λ k. drop k s) (sym (length-append a r)))

-- what was written, read back
pub stored-front : (a s : Bytes) → take (length a) (stored a s) ≡ a
unfolding stored
stored-front a s = take_at a (drop (length a) s) (length a) refl

-- a front that is written again before what follows it
pub stored-behind : (a r s : Bytes) → stored (a ++ r) (a ++ s) ≡ a ++ stored r s
unfolding stored
stored-behind a r s =
    append_assoc a r (drop (length (a ++ r)) (a ++ s))
    ∙ ap (λ z. a ++ (r ++ z)) (ap (λ k. drop k (a ++ s)) (length-append a r) ∙ drop-append-add a s (length r))
