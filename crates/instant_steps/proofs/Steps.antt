-- The steps of an instant as a loop takes them: those taken so far, put in front of what is left of the instant, are the whole instant;
-- and the verdict at each way out of the loop. Over anything that takes steps. Assumes nothing.
use mathlib.Core.Path.{◌≡◌, refl, ◌∙◌, sym, ap}
use mathlib.Core.List.{List, [], ◌∷◌, ◌++◌, map, append-nil}
use mathlib.Core.Option.{Option}
use mathlib.Core.Bool.{Bool, true, false, not, cond}
use Prim.Native.Nat.{ℕ, zero, suc, ◌+◌, ◌*◌, ◌/◌, ◌≤◌, ◌<◌}
use native.Mathlib.Omega.{arith}
use native.Mathlib.Nat.{add-zero}
use lib.ListN.{length, length-map, take}
use lib.Dec.{leb}
use borrow.Author.Tests.{le-leb, lt-leb}
use Rattle.definition.specs.Lists.{concat, is_empty, sort_by}
use Rattle.definition.specs.Bytes.{Bytes, chunks}
use Rattle.definition.specs.Model.{Message, Bag, message_le}
use Rattle.definition.specs.Records.{message_at}
use Rattle.definition.specs.Step.{Output}
use Rattle.definition.specs.Instant.{record_bytes, trace_bytes, records_from, instant_trace}
use Rattle.definition.specs.Engine.{to_bag}
use Rattle.law_base.proofs.Lists.{sort-permutes, length-perm}
use Rattle.law_base.specs.Keys.{message_of}
use Rattle.law_base.proofs.Turns.{traces-append}
use Rattle.instant_records.specs.Written.{record_of, step_bytes}

-- ---- the given bag

-- A bag of whole rows is empty where it has less bytes than a row.
pub bag-some : (s : Bytes) → not (is_empty (to_bag s)) ≡ leb 3 (length s)
unfolding is_empty to_bag chunks
bag-some s = go (length s / 3) (omega arith) (omega arith)
  where
    go : (q : ℕ) → 3 * q ≤ length s → length s < 3 * q + 3 → not (is_empty (map (message_at 0) (chunks q 3 s))) ≡ leb 3 (length s)
    go zero l h = sym (lt-leb 3 (length s) (omega arith))
    go (suc q) l h = sym (le-leb 3 (length s) (omega arith))

pub bag-none : (b : Bytes) → to_bag (take 0 b) ≡ []
unfolding to_bag chunks
bag-none b = refl

-- ---- records

records-append : (now k : ℕ) (xs ys : List Output) → records_from now k (xs ++ ys) ≡ records_from now k xs ++ records_from now (k + length xs) ys
unfolding records_from
records-append now k [] ys = rw add-zero
records-append now k (x ∷ xs) ys =
    let e : k + suc (length xs) ≡ suc k + length xs = omega arith in
    rw e (go (is_empty x.bag) (records-append now (suc k) xs ys))
  where
    go : (b : Bool) → records_from now (suc k) (xs ++ ys) ≡ records_from now (suc k) xs ++ records_from now (suc k + length xs) ys
        → cond b (records_from now (suc k) (xs ++ ys)) (record { moment = now; step = k; messages = sort_by message_le x.bag } ∷ records_from now (suc k) (xs ++ ys))
        ≡ cond b (records_from now (suc k) xs) (record { moment = now; step = k; messages = sort_by message_le x.bag } ∷ records_from now (suc k) xs) ++ records_from now (suc k + length xs) ys
    go true e = e
    go false e = rw e

pub length-sort : (x : Bag) → length (sort_by message_le x) ≡ length x
length-sort x = length-perm (sort-permutes message_le x)

none-bytes : (now k : ℕ) (ps : List (Option ℕ)) → trace_bytes (records_from now k (record { bag = []; decided = ps } ∷ [])) ≡ step_bytes now k []
unfolding records_from trace_bytes concat step_bytes is_empty
none-bytes now k ps = refl

some_bytes : (now k q : ℕ) (ks : List ℕ) (y : Message) (ys : Bag) (ps : List (Option ℕ)) → map message_of (q ∷ ks) ≡ sort_by message_le (y ∷ ys)
    → trace_bytes (records_from now k (record { bag = y ∷ ys; decided = ps } ∷ [])) ≡ step_bytes now k (q ∷ ks)
unfolding records_from trace_bytes concat step_bytes record_of is_empty
some_bytes now k q ks y ys ps e =
    append-nil (record_bytes (record { moment = now; step = k; messages = sort_by message_le (y ∷ ys) }))
    ∙ ap (λ x. record_bytes (record { moment = now; step = k; messages = x })) (sym e)

-- The bytes made from the keys of a step are those of the definition's record, if there is one.
step-bytes : (now k : ℕ) (ks : List ℕ) (x : Output) → map message_of ks ≡ sort_by message_le x.bag → trace_bytes (records_from now k (x ∷ [])) ≡ step_bytes now k ks
step-bytes now k ks x e = go ks x.bag (sym (length-map ks message_of) ∙ ap length e ∙ length-sort x.bag) e
  where
    ps : List (Option ℕ)
    ps = x.decided

    go : (ks : List ℕ) (x : Bag) → length ks ≡ length x → map message_of ks ≡ sort_by message_le x
        → trace_bytes (records_from now k (record { bag = x; decided = ps } ∷ [])) ≡ step_bytes now k ks
    go [] [] l e = none-bytes now k ps
    go [] (y ∷ ys) l e = absurd (omega arith)
    go (q ∷ ks) [] l e = absurd (omega arith)
    go (q ∷ ks) (y ∷ ys) l e = some_bytes now k q ks y ys ps e

-- The records of one step more.
pub records-snoc : (now : ℕ) (xs : List Output) (x : Output) (ks : List ℕ) → map message_of ks ≡ sort_by message_le x.bag
    → instant_trace now (xs ++ (x ∷ [])) ≡ instant_trace now xs ++ step_bytes now (length xs) ks
unfolding instant_trace
records-snoc now xs x ks e =
    let z : 0 + length xs ≡ length xs = omega arith in
    ap trace_bytes (records-append now 0 xs (x ∷ [])) ∙ traces-append (records_from now 0 xs) (records_from now (0 + length xs) (x ∷ []))
    ∙ ap (λ b. trace_bytes (records_from now 0 xs) ++ b) (rw z (step-bytes now (length xs) ks x e))
