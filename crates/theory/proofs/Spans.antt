-- Records whose moments lie in a span: followed by those of a later span they make a trace again. The records of one instant are such, since
-- their steps rise; so are those of all instants of a call, from the open moment before it on and before the open moment after it. This is said
-- of `Ends`, whatever takes the steps and whichever call writes the records. Assumes nothing.
use mathlib.Core.Path.{◌≡◌, refl, sym, ap, ◌∙◌, subst}
use Prim.Native.Nat.{ℕ, suc, ◌+◌, ◌^◌, ◌≤◌, ◌<◌}
use mathlib.Core.List.{List, [], ◌∷◌, ◌++◌, append_assoc, append-nil}
use mathlib.Core.Bool.{Bool, true, false, not, cond}
use native.Mathlib.Omega.{arith}
use lib.Dec.{ltb}
use lib.ListN.{length}
use borrow.Author.Tests.{ltb-true, lt-ltb, eq-eqb}
use Rattle.definition.specs.Lists.{concat, all, is_empty, rises, sort_by}
use Rattle.definition.specs.Bytes.{Bytes}
use Rattle.definition.specs.Limits.{port_count, max_steps, max_root_bag, max_moment}
use Rattle.definition.specs.Model.{Message, Bag, Model, message_le}
use Rattle.definition.specs.Records.{message_layout, port_fits}
use Rattle.definition.specs.Sound.{Held, Every}
use Rattle.definition.specs.SavedRun.{Entry}
use Rattle.definition.specs.Step.{Output, Simulator, nested}
use Rattle.definition.specs.Instant.{TraceRecord, record_bytes, trace_bytes, records_from, instant_trace}
use Rattle.definition.specs.Advance.{Progress, Ended, ended, succeeded}
use Rattle.definition.specs.AdvanceRelation.{Steps, Whole, Ends, jams, overruns, continues, succeeds, idle}
use Rattle.definition.specs.Columns.{pair_below, record_fits, RecordHeld, Recorded}
use Rattle.law_base.specs.Keys.{value_range}
use Rattle.law_base.proofs.Tests.{clash, and_left, and_right, and-true, or_left, or_right}
use Rattle.law_base.proofs.Lists.{all_append, all-if, all-perm, length-perm, sort-permutes, concat-append}
use Rattle.law_base.proofs.Sorting.{message-order, rises-sort}
use Rattle.law_model.proofs.WellFormed.{Accepted}
use Rattle.law_model.proofs.PhaseValues.{is_value, has_value}
use Rattle.law_base.proofs.Everys.{every_append, every-if}
use Rattle.law_nest.proofs.RootBag.{step-most}
use Rattle.law_calls.proofs.Lift.{Agree}
use Rattle.law_calls.proofs.Kept.{Fit}
use Rattle.law_calls.proofs.BagOrder.{agree-order}
use Rattle.law_calls.proofs.Ending.{kept_on}
use Rattle.theory.proofs.Sent.{sendable, step-sends}

-- ---- elements that all pass a test

every-all : {A : Type 0} (p : A → Bool) (P : A → Type 0) (xs : List A) → ((x : A) → p x ≡ true → P x) → all p xs ≡ true → Every P xs
unfolding all
every-all p P [] f h = tt
every-all p P (x ∷ xs) f h = (f x (and_left (p x) _ h), every-all p P xs f (and_right (p x) _ h))

-- ---- spans

-- Every moment lies from `from` on and before `until`.
abbrev pub Within : ℕ → ℕ → List TraceRecord → Type 0
Within from until rs = Every (λ r. (from ≤ r.moment) × (r.moment < until)) rs

-- A record of no more messages than a step may put out.
abbrev pub Small : TraceRecord → Type 0
Small r = length r.messages ≤ max_root_bag

-- Records that make a trace, however many there are, each of them small, with moments from `from` on and before `until`.
pub record Span (from until : ℕ) (rs : List TraceRecord) : Type 0 where
  pub held : Every RecordHeld rs
  pub records : all record_fits rs ≡ true
  pub pairs : rises pair_below rs ≡ true
  pub within : Within from until rs
  pub small : Every Small rs

pub span-recorded : (a b : ℕ) (s : Bytes) (rs : List TraceRecord) → s ≡ trace_bytes rs → Span a b rs → Recorded s rs
span-recorded a b s rs e h = record { whole = e; held = h.held; records = h.records; pairs = h.pairs }

pub trace-append : (rs qs : List TraceRecord) → trace_bytes (rs ++ qs) ≡ trace_bytes rs ++ trace_bytes qs
unfolding trace_bytes
trace-append rs qs = concat-append record_bytes rs qs

below-moment : (r q : TraceRecord) → r.moment < q.moment → pair_below r q ≡ true
unfolding pair_below
below-moment r q l = or_left _ _ (lt-ltb r.moment q.moment l)

below_step : (r q : TraceRecord) → r.moment ≡ q.moment → r.step < q.step → pair_below r q ≡ true
unfolding pair_below
below_step r q e l = or_right (ltb r.moment q.moment) _ (and-true _ _ (eq-eqb r.moment q.moment e) (lt-ltb r.step q.step l))

-- pairs of a later span come after
pairs-append : (a b c : ℕ) (rs qs : List TraceRecord) → Within a b rs → Within b c qs → rises pair_below rs ≡ true → rises pair_below qs ≡ true
    → rises pair_below (rs ++ qs) ≡ true
unfolding rises
pairs-append a b c [] qs h k x y = y
pairs-append a b c (r ∷ []) [] h k x y = refl
pairs-append a b c (r ∷ []) (q ∷ qs) h k x y = and-true _ _ (below-moment r q (omega (arith, h.0.1, k.0.0))) y
pairs-append a b c (r ∷ r' ∷ rs) qs h k x y =
    and-true _ _ (and_left (pair_below r r') _ x) (pairs-append a b c (r' ∷ rs) qs h.1 k (and_right (pair_below r r') _ x) y)

within_wider : (a a' b b' : ℕ) (rs : List TraceRecord) → a' ≤ a → b ≤ b' → Within a b rs → Within a' b' rs
within_wider a a' b b' rs l m h = every-if _ _ (λ r k. (omega (arith, k.0), omega (arith, k.1))) rs h

pub span_none : (a b : ℕ) → Span a b []
unfolding all rises
span_none a b = record { held = tt; records = refl; pairs = refl; within = tt; small = tt }

pub span-wider : (a a' b b' : ℕ) (rs : List TraceRecord) → a' ≤ a → b ≤ b' → Span a b rs → Span a' b' rs
span-wider a a' b b' rs l m h = record { held = h.held; records = h.records; pairs = h.pairs; within = within_wider a a' b b' rs l m h.within; small = h.small }

pub span-append : (a b c : ℕ) (rs qs : List TraceRecord) → a ≤ b → b ≤ c → Span a b rs → Span b c qs → Span a c (rs ++ qs)
span-append a b c rs qs l m h k = record {
  held = every_append RecordHeld rs qs h.held k.held;
  records = all_append record_fits rs qs h.records k.records;
  pairs = pairs-append a b c rs qs h.within k.within h.pairs k.pairs;
  within = every_append _ rs qs (within_wider a a b c rs (omega arith) m h.within) (within_wider b a c c qs l (omega arith) k.within);
  small = every_append Small rs qs h.small k.small;
}

-- ---- the records of one instant

-- the bags of its steps are such as records hold
abbrev Recordable : Output → Type 0
Recordable y = (length y.bag ≤ max_root_bag) × (all sendable y.bag ≡ true)

-- records at one moment, with rising steps from k on
abbrev From : ℕ → ℕ → List TraceRecord → Type 0
From now k [] = Unit {0}
From now k (r ∷ rs) = (r.moment ≡ now) × (k ≤ r.step) × From now (suc r.step) rs

from-earlier : (now k j : ℕ) (rs : List TraceRecord) → k ≤ j → From now j rs → From now k rs
from-earlier now k j [] l h = tt
from-earlier now k j (r ∷ rs) l h = (h.0, omega (arith, h.1), h.2)

from-pairs : (now k : ℕ) (rs : List TraceRecord) → From now k rs → rises pair_below rs ≡ true
unfolding rises
from-pairs now k [] h = refl
from-pairs now k (r ∷ []) h = refl
from-pairs now k (r ∷ q ∷ rs) h = and-true _ _ (below_step r q (h.0 ∙ sym h.2.0) (omega (arith, h.2.1))) (from-pairs now (suc r.step) (q ∷ rs) h.2)

from-within : (now k : ℕ) (rs : List TraceRecord) → From now k rs → Within now (suc now) rs
from-within now k [] h = tt
from-within now k (r ∷ rs) h = ((omega (arith, h.0), omega (arith, h.0)), from-within now (suc r.step) rs h.2)

sendable-held : (x : Message) → sendable x ≡ true → Held (message_layout x)
unfolding sendable port_fits has_value is_value
sendable-held x h = (
  omega (arith, ltb-true x.port port_count (and_left (ltb x.port port_count) _ h)),
  (omega (arith, ltb-true x.value value_range (and_right (ltb x.port port_count) _ h)), tt),
)

empty-length : (x : Bag) → is_empty x ≡ false → 0 < length x
unfolding is_empty
empty-length [] e = absurd (clash refl e)
empty-length (y ∷ x) e = omega arith

length-empty : (x : Bag) → 0 < length x → is_empty x ≡ false
unfolding is_empty
length-empty [] l = absurd (omega arith)
length-empty (y ∷ x) l = refl

module _ (now : ℕ) (low : now < 256 ^ 8) where
  -- the record of step k, where it put out x
  abbrev record_of : ℕ → Bag → TraceRecord
  record_of k x = record { moment = now; step = k; messages = sort_by message_le x }

  one-record : (k : ℕ) (y : Output) → k < 256 ^ 2 → Recordable y → is_empty y.bag ≡ false
      → RecordHeld (record_of k y.bag) × (record_fits (record_of k y.bag) ≡ true) × Small (record_of k y.bag)
  unfolding record_fits sendable
  one-record k y j h e =
      let x = y.bag in
      let p = sort-permutes message_le x in
      let n = length-perm p in
      let every : all sendable (sort_by message_le x) ≡ true = all-perm sendable p ∙ h.1 in (
        ((low, (j, (omega (arith, n, h.0), tt))), every-all sendable (λ z. Held (message_layout z)) (sort_by message_le x) sendable-held every),
        and-true _ _ (and-true _ _ (ap not (length-empty (sort_by message_le x) (omega (arith, n, empty-length x e)))) (rises-sort message_le message-order x))
            (all-if sendable port_fits (sort_by message_le x) (λ z s. and_left (port_fits z) _ s) every),
        omega (arith, n, h.0),
      )

  -- what is known of the records of the steps from k on
  abbrev Known : ℕ → List TraceRecord → Type 0
  Known k rs = Every RecordHeld rs × (all record_fits rs ≡ true) × From now k rs × Every Small rs

  records-known : (k : ℕ) (ys : List Output) → k + length ys ≤ 256 ^ 2 → Every Recordable ys → Known k (records_from now k ys)
  unfolding records_from all
  records-known k [] l h = (tt, refl, tt, tt)
  records-known k (y ∷ ys) l h = go (is_empty y.bag) refl (records-known (suc k) ys (omega arith) h.1)
    where
      go : (b : Bool) → is_empty y.bag ≡ b → Known (suc k) (records_from now (suc k) ys)
          → Known k (cond b (records_from now (suc k) ys) (record_of k y.bag ∷ records_from now (suc k) ys))
      go true e ih = (ih.0, ih.1, from-earlier now k (suc k) (records_from now (suc k) ys) (omega arith) ih.2, ih.3)
      go false e ih =
          let one = one-record k y (omega arith) h.0 e in
          ((one.0, ih.0), and-true _ _ one.1 ih.1, (refl, omega arith, ih.2), (one.2, ih.3))

  instant-span : (ys : List Output) → length ys ≤ max_steps → Every Recordable ys → Span now (suc now) (records_from now 0 ys)
  instant-span ys l h =
      let rs = records_from now 0 ys in
      let k = records-known 0 ys (omega arith) h in
      record { held = k.0; records = k.1; pairs = from-pairs now 0 rs k.2; within = from-within now 0 rs k.2; small = k.3 }

-- ---- the records that a call adds

module _ {S : Type 0} (k : Simulator S) (recordable : (now : ℕ) (x : Bag) (s : S) → Recordable (k.step now x s).out) where
  steps-record : (now : ℕ) (x : Bag) (s s' : S) (ys : List Output) → Steps k now x s ys s' → Every Recordable ys
  steps-record now x s s' [] h = tt
  steps-record now x s s' (y ∷ ys) h = (subst Recordable (sym h.1) (recordable now x s), steps-record now [] (k.step now x s).state s' ys h.2)

  pub whole-span : (now : ℕ) (x : Bag) (s s' : S) (ys : List Output) → now ≤ max_moment → Whole k now x s ys s' → Span now (suc now) (records_from now 0 ys)
  whole-span now x s s' ys l h = instant-span now (omega arith) ys h.few (steps-record now x s s' ys h.steps)

-- What a call adds to its trace: records from the open moment before on, and before the open moment after.
pub record Added {S : Type 0} (p q : Progress S) : Type 0 where
  pub new : List TraceRecord
  pub trace : q.trace ≡ p.trace ++ trace_bytes new
  pub span : Span p.opening q.opening new
  pub onward : p.opening ≤ q.opening

nothing-added : {S : Type 0} (p q : Progress S) → p.opening ≤ q.opening → q.trace ≡ p.trace → Added p q
unfolding trace_bytes concat
nothing-added p q l e = record { new = []; trace = e ∙ sym (append-nil p.trace); span = span_none p.opening q.opening; onward = l }

module _ {S : Type 0} {At Between : ℕ → S → S → Type 0} {Fine : Bag → Bag → Type 0} {k : Simulator S} (a : Agree At Between Fine k k)
    (recordable : (now : ℕ) (x : Bag) (s : S) → Recordable (k.step now x s).out) (room t : ℕ) (late : t ≤ max_moment) (x : Bag) where
  pub adds : {p : Progress S} {e : Ended S} → Ends k room t x p e → Between p.opening p.state p.state → p.opening ≤ t → Added p e.progress
  unfolding ended succeeded instant_trace
  adds (jams p now y next v) b o = nothing-added p p (omega arith) refl
  adds (overruns p now y z zs s' next w r) b o = nothing-added p p (omega arith) refl
  adds (continues p u xs s' e f g w v rest) b o =
      let c = kept_on a room t x p u s' xs b f w in
      let q = adds rest c.1 g in
      let rs = records_from u 0 xs in
      let first = whole-span k recordable u [] p.state s' xs (omega arith) w in
      record {
        new = rs ++ q.new;
        trace = q.trace ∙ append_assoc p.trace (trace_bytes rs) (trace_bytes q.new) ∙ ap (λ s. p.trace ++ s) (sym (trace-append rs q.new));
        span = span-append p.opening (suc u) e.progress.opening rs q.new (omega (arith, c.0)) q.onward
            (span-wider u p.opening (suc u) (suc u) rs c.0 (omega arith) first) q.span;
        onward = omega (arith, c.0, q.onward);
      }
  adds (succeeds p y ys s' f w v) b o = record {
    new = records_from t 0 (y ∷ ys);
    trace = refl;
    span = span-wider t p.opening (suc t) (suc t) (records_from t 0 (y ∷ ys)) o (omega arith) (whole-span k recordable t x p.state s' (y ∷ ys) late w);
    onward = omega arith;
  }
  adds (idle p f g) b o = nothing-added p _ (omega arith) refl

-- Of the nest's own steps, from entries that fit at the open moment.
pub nest-adds : (m : Model) → Accepted m → (room t : ℕ) → t ≤ max_moment → (x : Bag) {p : Progress (List Entry)} {e : Ended (List Entry)} → Ends (nested m) room t x p e
    → Fit m p.opening p.state → p.opening ≤ t → Added p e.progress
nest-adds m a room t late x h f o =
    let w = a.sound in
    adds (agree-order m w) (λ now y rs. (step-most m w a.few_routes now y rs, step-sends m w now y rs)) room t late x h (refl, f) o
