-- Advance: the verdict on one instant, and the instants of a call in turn; over anything that takes steps. Assumes nothing.
use Rattle.std.specs.Prelude.{ℕ, zero, suc, ◌+◌, List, [], ◌∷◌, ◌++◌, Bool, false, cond, ltb, length}
use Rattle.definition.specs.Bytes.{Bytes, Result, ok, refused, ◌>>=◌, refuse_if}
use Rattle.definition.specs.Model.{Bag}
use Rattle.definition.specs.Devs.{Time, finite, never, ticks}
use Rattle.definition.specs.Step.{Simulator}
use Rattle.definition.specs.Instant.{Instant, done, jammed, instant, instant_trace, instant_rules}

-- How far a call has come: the open moment, the state, the instants and steps done, the trace bytes written, and the rules that
-- decided in the last instant done.
pub record Progress (S : Type 0) : Type 0 where
  pub opening : ℕ
  pub state : S
  pub instants : ℕ
  pub steps : ℕ
  pub trace : Bytes
  pub rules : List ℕ

-- Where a call ends: its number, 0 for success, and what stands.
pub record Ended (S : Type 0) : Type 0 where
  pub number : ℕ
  pub progress : Progress S

unfoldable pub ended : {S : Type 0} → ℕ → Progress S → Ended S
ended n p = record { number = n; progress = p }

-- "13 something still due there after 1,024 steps; .. then 15 records pass the end of the lent trace", which has `room` bytes: the
-- progress with the instant at `now`, or the number that leaves it undone.
-- "A moment without a step is no instant and is not counted."
unfoldable pub tried : {S : Type 0} → ℕ → ℕ → Progress S → Instant S → Result (Progress S)
tried room now p jammed = refused 13
tried room now p (done [] s) = ok p
tried room now p (done (x ∷ xs) s) = do
  _ ← refuse_if (ltb room (length (p.trace ++ instant_trace now (x ∷ xs)))) 15
  ok (record {
    opening = suc now;
    state = s;
    instants = suc p.instants;
    steps = p.steps + length (x ∷ xs);
    trace = p.trace ++ instant_trace now (x ∷ xs);
    rules = instant_rules (x ∷ xs);
  })

-- "When an instant is left undone the open moment is one past the last instant done in this call, or as before if none."
unfoldable pub continued : {S : Type 0} → (Progress S → Ended S) → Progress S → Result (Progress S) → Ended S
continued on before (ok p) = on p
continued on before (refused n) = ended n before

-- "On success the open moment is t + 1."
unfoldable pub succeeded : {S : Type 0} → ℕ → Progress S → Ended S
succeeded t p =
    ended 0 (record { opening = suc t; state = p.state; instants = p.instants; steps = p.steps; trace = p.trace; rules = p.rules })

unfoldable pub is_before : Time → ℕ → Bool
is_before (finite a) t = ltb a t
is_before never t = false

-- "It does every instant due before t, then t with the bag." Each instant opens a later moment, so that t + 1 turns are enough
-- (demand 1 says so).
module _ {S : Type 0} (k : Simulator S) (room t : ℕ) (given : Bag) where
  unfoldable pub advancing : (turns : ℕ) → Progress S → Ended S
  advancing zero p = ended 0 p
  advancing (suc turns) p =
      let u = k.next p.state in
      let on = continued (λ q. advancing turns q) p (tried room (ticks u) p (instant k (ticks u) [] p.state)) in
      let last = continued (succeeded t) p (tried room t p (instant k t given p.state)) in
      cond (is_before u t) on last

  -- The instants of a call from an open moment and a state.
  unfoldable pub advance_from : (opening : ℕ) → S → Ended S
  advance_from opening s = advancing (suc t) (record { opening = opening; state = s; instants = 0; steps = 0; trace = []; rules = [] })
