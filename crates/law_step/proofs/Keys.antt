-- A bag put together port by port from values, as keys, is another bag in another order where each port has the same values; for this the
-- values must be 16-bit numbers, and the ports those that there are. Assumes nothing.
use mathlib.Core.Path.{◌≡◌, refl, sym, ap, ap₂, ◌∙◌}
use Prim.Native.Nat.{ℕ, zero, suc, ◌+◌, ◌*◌, ◌/◌, ◌%◌, ◌<◌}
use mathlib.Core.List.{List, map, map-append}
use mathlib.Core.Bool.{true, cond}
use native.Mathlib.Omega.{arith}
use lib.Dec.{eqb}
use borrow.Author.Tests.{ltb-true}
use Rattle.definition.specs.Lists.{all, up_from, Same}
use Rattle.definition.specs.Limits.{port_count}
use Rattle.definition.specs.Model.{Message, Bag}
use Rattle.definition.specs.Records.{port_fits}
use Rattle.law_base.proofs.Sums.{sum_of, sum-append, sum-map, sum-cong, sum-swap}
use Rattle.law_base.proofs.Lists.{sum-cong-if, count-sum}
use Rattle.law_base.proofs.Tests.{eqb-sym}
use Rattle.law_base.specs.Keys.{value_range, key_of, message_of}
use Rattle.law_model.proofs.PhaseValues.{is_value}
use Rattle.spec_step.specs.Put.{keys_of}
use Rattle.law_routes.proofs.Counts.{sum-pick}
use Rattle.law_step.proofs.Flow.{on}

pub message-key : (q v : ℕ) → v < value_range → message_of (key_of q v) ≡ record { port = q; value = v }
unfolding message_of key_of
message-key q v l =
    let p : (q * value_range + v) / value_range ≡ q = omega arith in
    let r : (q * value_range + v) % value_range ≡ v = omega arith in
    λ i. record { port = p i; value = r i }

-- the keys of some ports, summed over port by port
keys-sum : (w : Message → ℕ) (f : ℕ → List ℕ) (n q : ℕ) → ((i : ℕ) → all is_value (f i) ≡ true)
    → sum_of w (map message_of (keys_of f n q)) ≡ sum_of (λ i. sum_of (λ v. w (record { port = i; value = v })) (f i)) (up_from q n)
unfolding keys_of up_from sum_of is_value
keys-sum w f zero q h = refl
keys-sum w f (suc n) q h =
    let e : q + 1 ≡ suc q = omega arith in
    ap (sum_of w) (map-append message_of (map (key_of q) (f q)) (keys_of f n (q + 1)))
    ∙ sum-append w (map message_of (map (key_of q) (f q))) (map message_of (keys_of f n (q + 1)))
    ∙ ap₂ ◌+◌
    (sum-map w message_of (map (key_of q) (f q)) ∙ sum-map (λ k. w (message_of k)) (key_of q) (f q)
    ∙ sum-cong-if is_value _ _ (f q) (h q) (λ v b. ap w (message-key q v (ltb-true v value_range b))))
    (keys-sum w f n (q + 1) h ∙ ap (λ k. sum_of (λ i. sum_of (λ v. w (record { port = i; value = v })) (f i)) (up_from k n)) e)

-- a bag, summed over port by port
by-port : (w : Message → ℕ) (x : Bag) → all port_fits x ≡ true
    → sum_of (λ i. on i (λ v. w (record { port = i; value = v })) x) (up_from 0 port_count) ≡ sum_of w x
unfolding port_fits
by-port w x fit =
    sum-swap (λ i y. cond (eqb i y.port) (w (record { port = i; value = y.value })) 0) (up_from 0 port_count) x
    ∙ sum-cong-if port_fits _ _ x fit (λ y h.
    sum-cong _ _ (up_from 0 port_count) (λ i. ap (λ b. cond b (w (record { port = i; value = y.value })) 0) (eqb-sym i y.port))
    ∙ sum-pick (λ i. w (record { port = i; value = y.value })) y.port port_count ∙ ap (λ b. cond b (w y) 0) h)

pub same-by-port : (f : ℕ → List ℕ) (x : Bag) → ((i : ℕ) → all is_value (f i) ≡ true) → all port_fits x ≡ true
    → ((g : ℕ → ℕ) (q : ℕ) → sum_of g (f q) ≡ on q g x) → Same (map message_of (keys_of f port_count 0)) x
same-by-port f x values ports h p =
    let w : Message → ℕ = λ y. cond (p y) 1 0 in
    count-sum p (map message_of (keys_of f port_count 0)) ∙ keys-sum w f port_count 0 values
    ∙ sum-cong _ _ (up_from 0 port_count) (λ i. h (λ v. w (record { port = i; value = v })) i)
    ∙ by-port w x ports ∙ sym (count-sum p x)
