-- A given bag's messages by number: what the loop over them meets. Assumes nothing.
use mathlib.Core.Path.{◌≡◌, refl, sym, ap, ◌∙◌}
use Prim.Native.Nat.{ℕ, zero, suc, ◌*◌, ◌/◌, ◌<◌}
use mathlib.Core.List.{List, [], ◌∷◌}
use mathlib.Core.Bool.{Bool, ◌&&◌}
use native.Mathlib.Omega.{arith}
use native.Mathlib.Nat.{add-zero}
use lib.Dec.{ltb}
use lib.ListN.{length, get_or}
use Rattle.definition.specs.Lists.{all, up_from}
use Rattle.definition.specs.Bytes.{Bytes, number_at}
use Rattle.definition.specs.Limits.{message_size, port_count}
use Rattle.definition.specs.Model.{no_message}
use Rattle.definition.specs.Records.{message_at, port_fits}
use Rattle.definition.specs.Engine.{to_bag}
use Rattle.law_bytes.specs.Parts.{records_in}
use Rattle.law_bytes.proofs.Rows.{number-row}
use Rattle.law_bytes.proofs.Records.{length-records, record-in}

-- The port of message i fits.
unfoldable pub port_at : Bytes → ℕ → Bool
port_at s i = port_fits (get_or (to_bag s) i no_message)

pub port-is : (s : Bytes) (i : ℕ) → i < length s / message_size → port_at s i ≡ ltb (number_at 1 (message_size * i) s) port_count
unfolding port_at port_fits to_bag message_at records_in
port-is s i h =
    ap (λ x. ltb x.port port_count) (record-in message_size (message_at 0) s i no_message h)
    ∙ ap (λ n. ltb n port_count) (number-row 1 0 message_size i s (omega arith) ∙ ap (λ k. number_at 1 k s) (add-zero (message_size * i)))

all-shift : (q : ℕ → Bool) (k n : ℕ) → all q (up_from (suc k) n) ≡ all (λ i. q (suc i)) (up_from k n)
unfolding all up_from
all-shift q k zero = refl
all-shift q k (suc n) = ap (λ b. q (suc k) && b) (all-shift q (suc k) n)

-- a test of every element is a test at every place
all-places : {A : Type 0} (p : A → Bool) (d : A) (l : List A) → all p l ≡ all (λ i. p (get_or l i d)) (up_from 0 (length l))
unfolding all up_from
all-places p d [] = refl
all-places p d (a ∷ l) = ap (λ b. p a && b) (all-places p d l ∙ sym (all-shift (λ i. p (get_or (a ∷ l) i d)) 0 (length l)))

pub ports-all : (s : Bytes) → all port_fits (to_bag s) ≡ all (port_at s) (up_from 0 (length s / message_size))
unfolding port_at to_bag records_in
ports-all s = all-places port_fits no_message (to_bag s) ∙ ap (λ n. all (port_at s) (up_from 0 n)) (length-records message_size (message_at 0) s)
