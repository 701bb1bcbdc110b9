-- A feed is its list of calls: the run buffer after them, the last number, the sums of their counts, and their traces joined at the front of the
-- lent one. By induction over the calls, for any file, run and trace. Assumes nothing.
use mathlib.Core.Path.{◌≡◌, refl, sym, ap, ap₂, ◌∙◌}
use Prim.Native.Nat.{ℕ, ◌+◌, min}
use mathlib.Core.List.{List, [], ◌∷◌, ◌++◌, map, append_assoc, append-nil}
use mathlib.Core.Bool.{Bool, true, false, cond}
use native.Mathlib.Omega.{arith}
use lib.Dec.{eqb}
use lib.ListN.{length, take, drop, length-append}
use lib.Seq.{drop_at, drop-drop}
use borrow.Author.Tests.{eqb-true}
use Rattle.definition.specs.Lists.{sum, count}
use Rattle.definition.specs.Bytes.{Bytes, Result, ok, refused, ◌>>=◌, stored}
use Rattle.definition.specs.Pinned.Decoder.{accepted}
use Rattle.definition.specs.SavedRun.{Entry}
use Rattle.definition.specs.Advance.{Ended}
use Rattle.definition.specs.Engine.{Advanced, advance_checks, advanced, advance}
use Rattle.definition.specs.Feed.{FeedBag, feed_calls}
use Rattle.definition.specs.FeedCall.{Fed, nothing_fed, stopped_by, followed_by, fed_in_turn, own_bags}
use Rattle.definition.specs.Calls.{AdvanceCall, advance_call, Answer, advance_answer, called, run_calls, engine}
use Rattle.definition.specs.TracesByColumn.{joined_traces}
use Rattle.definition.specs.Feeds.{made_calls, counted, last_number, AsCalls}
use Rattle.law_model.proofs.Answers.{end_of}
use Rattle.theory.proofs.Buffers.{stored-front}

-- what a list of advance calls answers, and the run buffer after it
abbrev ran : Bytes → Bytes → List AdvanceCall → List Answer × Bytes
ran file run calls = run_calls (engine file) run (map advance_call calls)

abbrev joined : Bytes → Bytes → List AdvanceCall → Bytes
joined file run calls = joined_traces run (map (λ c. (engine file, c)) calls)

abbrev answer_of : Advanced → Answer
answer_of a = advance_answer a.number a.instants a.steps a.used a.trace a.table

last_more : (a : Answer) (l : List Answer) → (counted a).number ≡ 0 → last_number (a ∷ l) ≡ last_number l
unfolding last_number
last_more a [] e = e
last_more a (b ∷ l) e = refl

-- ---- the sums

-- The sums of some answers, with the run buffer after them.
pub record Sums (l : List Answer × Bytes) (f : Fed) : Type 0 where
  pub number : f.number ≡ last_number l.0
  pub bags : f.bags ≡ count (λ a. eqb (counted a).number 0) l.0
  pub instants : f.instants ≡ sum (map (λ a. (counted a).instants) l.0)
  pub steps : f.steps ≡ sum (map (λ a. (counted a).steps) l.0)
  pub used : f.used ≡ sum (map (λ a. (counted a).used) l.0)
  pub run_left : f.run ≡ l.1

sums-then : (a : Advanced) (l : List Answer × Bytes) (on : Fed) → eqb a.number 0 ≡ true → Sums l on → Sums (answer_of a ∷ l.0, l.1) (followed_by a on)
unfolding followed_by count sum counted
sums-then a l on e h = record {
  number = h.number ∙ sym (last_more (answer_of a) l.0 (unfold counted in (eqb-true a.number 0 e)));
  bags = rw e (omega (arith, h.bags));
  instants = ap (λ n. a.instants + n) h.instants;
  steps = ap (λ n. a.steps + n) h.steps;
  used = ap (λ n. a.used + n) h.used;
  run_left = h.run_left;
}

sums-stop : (a : Advanced) → eqb a.number 0 ≡ false → Sums (answer_of a ∷ [], a.run) (stopped_by a)
unfolding stopped_by count sum last_number counted
sums-stop a e = record { number = refl; bags = rw e; instants = omega arith; steps = omega arith; used = omega arith; run_left = refl }

-- ---- the trace

-- an advance writes at the front of the lent trace, as long as it says
writes : (file run : Bytes) (t : ℕ) (bag trace table : Bytes)
    → (front : Bytes) × ((advance file run t bag trace table).used ≡ length front) × ((advance file run t bag trace table).trace ≡ stored front trace)
unfolding advance
writes file run t bag trace table = go (accepted file >>= λ m. advance_checks m run t bag >>= λ _. ok (end_of m run t bag trace))
  where
    go : (r : Result (Ended (List Entry))) → (front : Bytes) × ((advanced run trace table r).used ≡ length front) × ((advanced run trace table r).trace ≡ stored front trace)
    go (ok e) = unfold advanced in (e.progress.trace, refl, refl)
    go (refused n) = unfold advanced stored in ([], refl, refl)

-- what is left of the lent trace behind it
stored-left : (front trace : Bytes) → drop (length front) (stored front trace) ≡ drop (length front) trace
unfolding stored
stored-left front trace = drop_at front _ (length front) refl

stored-both : (front more trace : Bytes) → front ++ stored more (drop (length front) trace) ≡ stored (front ++ more) trace
unfolding stored
stored-both front more trace =
    ap (λ b. front ++ (more ++ b)) (drop-drop (length more) (length front) trace ∙ ap (λ n. drop n trace) (sym (length-append front more)))
    ∙ sym (append_assoc front more (drop (length (front ++ more)) trace))

-- So many bytes, at the front of the lent trace.
pub record WroteOn (s trace : Bytes) (f : Fed) : Type 0 where
  pub length_is : f.used ≡ length s
  pub trace_left : f.trace ≡ stored s trace

module _ (a : Advanced) (trace front : Bytes) (e : a.used ≡ length front) (g : a.trace ≡ stored front trace) where
  own : take a.used a.trace ≡ front
  own = ap₂ take e g ∙ stored-front front trace

  left : drop a.used a.trace ≡ drop (length front) trace
  left = ap₂ drop e g ∙ stored-left front trace

  wrote_then : (s : Bytes) (on : Fed) → WroteOn s (drop a.used a.trace) on → WroteOn (take a.used a.trace ++ s) trace (followed_by a on)
  unfolding followed_by
  wrote_then s on h = record {
    length_is = omega (arith, e, h.length_is, length-append (take a.used a.trace) s, ap length own);
    trace_left = ap₂ ◌++◌ own (h.trace_left ∙ ap (stored s) left) ∙ stored-both front s trace ∙ ap (λ b. stored (b ++ s) trace) (sym own);
  }

  wrote-stop : WroteOn (take a.used a.trace ++ []) trace (stopped_by a)
  unfolding stopped_by
  wrote-stop = record {
    length_is = e ∙ ap length (sym own ∙ sym (append-nil (take a.used a.trace)));
    trace_left = g ∙ ap (λ b. stored b trace) (sym own ∙ sym (append-nil (take a.used a.trace)));
  }

-- ---- both

-- The calls of a feed in turn, and what they add up to.
in-turn : (file : Bytes) (cs : List FeedBag) (run trace : Bytes)
    → Sums (ran file run (made_calls (engine file) run trace cs)) (fed_in_turn file run trace cs)
    × WroteOn (joined file run (made_calls (engine file) run trace cs)) trace (fed_in_turn file run trace cs)
unfolding fed_in_turn nothing_fed made_calls run_calls called joined_traces engine last_number count sum stored
in-turn file [] run trace =
    (record { number = refl; bags = refl; instants = refl; steps = refl; used = refl; run_left = refl }, record { length_is = refl; trace_left = refl })
in-turn file (c ∷ cs) run trace = go (eqb a.number 0) refl (in-turn file cs a.run (drop a.used a.trace))
  where
    a : Advanced
    a = advance file run c.moment c.bag trace []

    here : AdvanceCall
    here = record { moment = c.moment; bag = c.bag; trace = trace; table = [] }

    made : List AdvanceCall
    made = made_calls (engine file) a.run (drop a.used a.trace) cs

    on : Fed
    on = fed_in_turn file a.run (drop a.used a.trace) cs

    go : (b : Bool) → eqb a.number 0 ≡ b → Sums (ran file a.run made) on × WroteOn (joined file a.run made) (drop a.used a.trace) on
        → Sums (ran file run (here ∷ cond b made [])) (cond b (followed_by a on) (stopped_by a))
        × WroteOn (joined file run (here ∷ cond b made [])) trace (cond b (followed_by a on) (stopped_by a))
    go true e h =
        let f = writes file run c.moment c.bag trace [] in
        (sums-then a (ran file a.run made) on e h.0, wrote_then a trace f.0 f.1 f.2 (joined file a.run made) on h.1)
    go false e h = let f = writes file run c.moment c.bag trace [] in (sums-stop a e, wrote-stop a trace f.0 f.1 f.2)

pub in-calls : (file run trace : Bytes) (bs : List FeedBag) (end : ℕ)
    → (let made = made_calls (engine file) run trace (feed_calls bs end) in
    AsCalls (length bs) trace (ran file run made).0 (ran file run made).1 (joined file run made) (own_bags (length bs) (fed_in_turn file run trace (feed_calls bs end))))
unfolding own_bags
in-calls file run trace bs end =
    let both = in-turn file (feed_calls bs end) run trace in
    let f = both.0 in
    let g = both.1 in
    record {
      number = f.number;
      bags_done = ap (λ n. min n (length bs)) f.bags;
      instants = f.instants;
      steps = f.steps;
      used = f.used;
      run_left = f.run_left;
      written = ap₂ take g.length_is g.trace_left ∙ stored-front _ trace;
      trace_left = g.trace_left;
    }
