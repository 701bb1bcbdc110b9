-- The flat machine's own lines for trace records write the bytes of the definition's records: its order of messages is the same order,
-- and a sorted bag has as many messages. Assumes nothing.
use mathlib.Core.Path.{◌≡◌, refl, ap, ◌∙◌, sym}
use Prim.Native.Nat.{ℕ, suc}
use mathlib.Core.List.{List, [], ◌∷◌, ◌++◌, map}
use mathlib.Core.Bool.{Bool, true, false, ◌&&◌, ◌||◌, cond}
use native.Mathlib.Omega.{arith}
use lib.Dec.{leb, ltb, eqb}
use lib.ListN.{length}
use borrow.Author.Tests.{le-leb, lt-leb, ltb-true, ltb-false, eqb-true, eqb-false}
use Rattle.definition.specs.Lists.{concat, is_empty, lex_le, insert_by, sort_by}
use Rattle.definition.specs.Bytes.{bytes_of}
use Rattle.definition.specs.Model.{Message, Bag, message_le}
use Rattle.definition.specs.Records.{message_bytes}
use Rattle.definition.specs.Step.{Output}
use Rattle.definition.specs.Instant.{record_bytes, trace_bytes, records_from, instant_trace}
use Rattle.definition.specs.FlatMachine.{not_after, placed, in_order, recorded}

-- at most, by cases
at_most : (a b : ℕ) → ltb a b || (eqb a b && true) ≡ leb a b
at_most a b = go (ltb a b) refl (eqb a b) refl
  where
    go : (c : Bool) → ltb a b ≡ c → (d : Bool) → eqb a b ≡ d → (c || (d && true)) ≡ leb a b
    go true e d f = sym (le-leb a b (omega (arith, ltb-true a b e)))
    go false e true f = sym (le-leb a b (omega (arith, eqb-true a b f)))
    go false e false f = sym (lt-leb a b (omega (arith, ltb-false a b e, eqb-false a b f)))

same-order : (x y : Message) → not_after x y ≡ message_le x y
unfolding not_after message_le lex_le
same-order x y = ap (λ b. ltb x.port y.port || (eqb x.port y.port && b)) (sym (at_most x.value y.value))

same-placed : (x : Message) (ys : Bag) → placed x ys ≡ insert_by message_le x ys
unfolding placed insert_by
same-placed x [] = refl
same-placed x (y ∷ ys) = rw (same-order x y, same-placed x ys)

in_order_lem : (xs : Bag) → in_order xs ≡ sort_by message_le xs
unfolding in_order sort_by
in_order_lem [] = refl
in_order_lem (x ∷ xs) = ap (placed x) (in_order_lem xs) ∙ same-placed x (sort_by message_le xs)

placed-length : (x : Message) (ys : Bag) → length (placed x ys) ≡ suc (length ys)
unfolding placed
placed-length x [] = refl
placed-length x (y ∷ ys) = go (not_after x y) (placed-length x ys)
  where
    go : (b : Bool) → length (placed x ys) ≡ suc (length ys) → length (cond b (x ∷ y ∷ ys) (y ∷ placed x ys)) ≡ suc (suc (length ys))
    go true e = refl
    go false e = ap suc e

order-length : (xs : Bag) → length (in_order xs) ≡ length xs
unfolding in_order
order-length [] = refl
order-length (x ∷ xs) = placed-length x (in_order xs) ∙ ap suc (order-length xs)

written_from : (now k : ℕ) (xs : List Output) → recorded now k (map (λ x. x.bag) xs) ≡ trace_bytes (records_from now k xs)
unfolding recorded trace_bytes records_from concat
written_from now k [] = refl
written_from now k (x ∷ xs) = rw (written_from now (suc k) xs) (go (is_empty x.bag))
  where
    one : bytes_of 8 now ++ bytes_of 2 k ++ bytes_of 2 (length x.bag) ++ concat (map message_bytes (in_order x.bag)) ≡ record_bytes (record { moment = now; step = k; messages = sort_by message_le x.bag })
    one = unfold record_bytes in
        (rw (← in_order_lem x.bag, order-length x.bag))

    go : (b : Bool) → cond b [] (bytes_of 8 now ++ bytes_of 2 k ++ bytes_of 2 (length x.bag) ++ concat (map message_bytes (in_order x.bag))) ++ concat (map record_bytes (records_from now (suc k) xs))
        ≡ concat (map record_bytes (cond b (records_from now (suc k) xs) (record { moment = now; step = k; messages = sort_by message_le x.bag } ∷ records_from now (suc k) xs)))
    go true = refl
    go false = ap (λ z. z ++ concat (map record_bytes (records_from now (suc k) xs))) one

-- The records of an instant.
pub written-trace : (now : ℕ) (xs : List Output) → recorded now 0 (map (λ x. x.bag) xs) ≡ instant_trace now xs
unfolding instant_trace
written-trace now xs = written_from now 0 xs
