-- Messages counted port by port: what a bag brings to a port is a sum over the couplings that end there. Counting does away with the order of
-- messages, so that what is pulled can be compared with what the nest collects. Assumes nothing.
use mathlib.Core.Path.{◌≡◌, refl, ap, ◌∙◌}
use Prim.Native.Nat.{ℕ, ◌+◌}
use mathlib.Core.List.{List, [], ◌∷◌}
use mathlib.Core.Bool.{Bool, true, false, ◌&&◌, cond}
use lib.Dec.{eqb, ltb}
use Rattle.definition.specs.Lists.{keep, up_from}
use Rattle.definition.specs.Model.{Bag, Coupling}
use Rattle.definition.specs.Routes.{ports_to}
use Rattle.definition.specs.Devs.{translate}
use Rattle.law_base.proofs.Sums.{sum_of, sum-append, sum-cong, sum-zero, sum-swap, if-zero, sum-keep, sum-cons}
use Rattle.law_nest.proofs.Hits.{translate-sum}
use Rattle.spec_step.specs.Pull.{joined}
use Rattle.spec_step.specs.Put.{values_on}
use Rattle.law_routes.proofs.Counts.{sum-pick}

-- what a bag has on port q, with a weight for each value
abbrev pub on : ℕ → (ℕ → ℕ) → Bag → ℕ
on q g x = sum_of (λ y. cond (eqb q y.port) (g y.value) 0) x

pub values-on : (q : ℕ) (g : ℕ → ℕ) (x : Bag) → sum_of g (values_on q x) ≡ on q g x
unfolding values_on sum_of
values-on q g [] = refl
values-on q g (y ∷ x) = sum-cons g (eqb q y.port) y.value (values_on q x) ∙ rw (values-on q g x)

pub joined-sum : {A : Type 0} (g : ℕ → ℕ) (f : A → List ℕ) (l : List A) → sum_of g (joined f l) ≡ sum_of (λ a. sum_of g (f a)) l
unfolding joined sum_of
joined-sum g f [] = refl
joined-sum g f (a ∷ l) = sum-append g (f a) (joined f l) ∙ rw (joined-sum g f l)

pub joined-none : {A : Type 0} (l : List A) → joined {B = ℕ} (λ a. []) l ≡ []
unfolding joined
joined-none [] = refl
joined-none (a ∷ l) = joined-none l

ports-sum : (f : ℕ → ℕ) (i d p : ℕ) (ks : List Coupling)
    → sum_of f (ports_to ks i d p) ≡ sum_of (λ k. cond (eqb k.source i && eqb k.target d && eqb k.source_port p) (f k.target_port) 0) ks
unfolding ports_to sum_of
ports-sum f i d p [] = refl
ports-sum f i d p (k ∷ ks) =
    let b = eqb k.source i && eqb k.target d && eqb k.source_port p in
    sum-cons f b k.target_port (ports_to ks i d p) ∙ ap (λ n. cond b (f k.target_port) 0 + n) (ports-sum f i d p ks)

gate : {A : Type 0} (a b e : Bool) (f : A → Bool) (w : A → ℕ) (x : List A)
    → sum_of (λ y. cond (a && b && f y) (cond e (w y) 0) 0) x ≡ cond (a && b && e) (sum_of (λ y. cond (f y) (w y) 0) x) 0
gate true true true f w x = refl
gate true true false f w x = sum-cong _ (λ y. 0) x (λ y. if-zero (f y)) ∙ sum-zero x
gate true false e f w x = sum-zero x
gate false b e f w x = sum-zero x

-- a translated bag, port by port: one term for each coupling
pub translate-on : (ks : List Coupling) (i d q : ℕ) (g : ℕ → ℕ) (x : Bag)
    → on q g (translate ks i d x) ≡ sum_of (λ k. cond (eqb k.source i && eqb k.target d && eqb q k.target_port) (on k.source_port g x) 0) ks
translate-on ks i d q g x =
    translate-sum ks i d (λ y. cond (eqb q y.port) (g y.value) 0) x
    ∙ sum-cong _ _ x (λ y. ports-sum (λ r. cond (eqb q r) (g y.value) 0) i d y.port ks)
    ∙ sum-swap (λ y k. cond (eqb k.source i && eqb k.target d && eqb k.source_port y.port) (cond (eqb q k.target_port) (g y.value) 0) 0) x ks
    ∙ sum-cong _ _ ks (λ k. gate (eqb k.source i) (eqb k.target d) (eqb q k.target_port) (λ y. eqb k.source_port y.port) (λ y. g y.value) x)

-- a test that comes last, first
cond-turn : (s t e p : Bool) (n : ℕ) → cond p (cond (s && t && e) n 0) 0 ≡ cond s (cond (t && e && p) n 0) 0
cond-turn true true true p n = refl
cond-turn true true false true n = refl
cond-turn true true false false n = refl
cond-turn true false e true n = refl
cond-turn true false e false n = refl
cond-turn false t e true n = refl
cond-turn false t e false n = refl

cond-last : (t e p l : Bool) (n : ℕ) → cond l (cond (t && e && p) n 0) 0 ≡ cond (t && e && (p && l)) n 0
cond-last true true true l n = refl
cond-last true true false true n = refl
cond-last true true false false n = refl
cond-last true false p true n = refl
cond-last true false p false n = refl
cond-last false e p true n = refl
cond-last false e p false n = refl

-- over kept components d, the couplings that begin at d: over the couplings that begin at a kept component
pub by-source : (w : ℕ → ℕ → ℕ) (p : ℕ → Bool) (n to q : ℕ) (ks : List Coupling)
    → sum_of (λ d. sum_of (λ k. cond (eqb k.source d && eqb k.target to && eqb q k.target_port) (w d k.source_port) 0) ks) (keep p (up_from 0 n))
    ≡ sum_of (λ k. cond (eqb k.target to && eqb q k.target_port && (p k.source && ltb k.source n)) (w k.source k.source_port) 0) ks
by-source w p n to q ks =
    sum-swap (λ d k. cond (eqb k.source d && eqb k.target to && eqb q k.target_port) (w d k.source_port) 0) (keep p (up_from 0 n)) ks
    ∙ sum-cong _ _ ks (λ k. sum-keep _ p (up_from 0 n)
    ∙ sum-cong _ _ (up_from 0 n) (λ d. cond-turn (eqb k.source d) (eqb k.target to) (eqb q k.target_port) (p d) (w d k.source_port))
    ∙ sum-pick (λ d. cond (eqb k.target to && eqb q k.target_port && p d) (w d k.source_port) 0) k.source n
    ∙ cond-last (eqb k.target to) (eqb q k.target_port) (p k.source) (ltb k.source n) (w k.source k.source_port))
