-- Saved runs byte by byte and what reading and advance answer to them, on the engine's definitions and on the flat machine: 10, 11, 12 and
-- 16 on both sides of their conditions and in order, and 15 of the writers. Assumes nothing.
use mathlib.Core.Path.{◌≡◌, refl}
use Prim.Native.Nat.{ℕ}
use mathlib.Core.List.{List, [], ◌∷◌, ◌++◌, map}
use lib.ListN.{replicate}
use Rattle.definition.specs.Bytes.{Bytes}
use Rattle.definition.specs.Engine.{start}
use Rattle.definition.specs.FlatMachine.{flat_start}
use Rattle.definition.specs.Calls.{Call, reading_call, Answer, reading_answer, Machine, called, engine, flat_machine}
use Rattle.definition.proofs.Table.{advance_to, advanced_by, tabled}
use Rattle.definition.proofs.Literals.{b2, b3, b4, b5, z, still, root, literals}
use Rattle.definition.proofs.FileTable.{cue_file}

-- One atomic: phase 0 never, phase 1 with advance 5.
unfoldable pub one_file : Bytes
one_file = b2 2 0 ++ root ++ b5 1 0 2 0 0 ++ b2 2 0 ++ still ++ b4 5 0 0 0 ++ z 14 ++ z 4

-- A moment below 2^40, and the greatest that a call may have, 1,000,000,000,000, with the next two.
unfoldable pub tick : ℕ → Bytes
tick n = n ∷ z 7

unfoldable pub latest : ℕ → Bytes
latest past = b5 past 16 165 212 232 ++ z 3

-- A run of one atomic: open moment, phase, last moment.
unfoldable pub run : Bytes → ℕ → Bytes → Bytes
run opening phase last = opening ++ b2 1 0 ++ phase ∷ last

-- ---- reading

pub record Read : Type 0 where
  pub run : Bytes
  pub position : ℕ
  pub answer : Answer

unfoldable pub reads : ℕ → Bytes → ℕ → ℕ → ℕ → Read
reads position s phase last due = record { run = s; position = position; answer = reading_answer 0 phase last due }

unfoldable pub refuses : ℕ → Bytes → ℕ → Read
refuses position s n = record { run = s; position = position; answer = reading_answer n 0 0 0 }

unfoldable pub never : ℕ
never = 18446744073709551615

unfoldable pub one_reads : List Read
one_reads =
    -- open 1,000,000,000,001, one more, and 2^56
    reads 0 (run (latest 1) 0 (latest 0)) 0 1000000000000 never ∷ refuses 0 (run (latest 2) 0 (latest 0)) 10
    ∷ refuses 0 (run (z 7 ++ 1 ∷ []) 0 (tick 0)) 10
    -- last moment at the open one, and one before it; 2^56; 0 and 1 with open moment 0
    ∷ refuses 0 (run (tick 5) 0 (tick 5)) 10 ∷ reads 0 (run (tick 5) 0 (tick 4)) 0 4 never ∷ refuses 0 (run (tick 5) 0 (z 7 ++ 1 ∷ [])) 10
    ∷ reads 0 (run (tick 0) 0 (tick 0)) 0 0 never ∷ refuses 0 (run (tick 0) 0 (tick 1)) 10
    -- due at the open moment, and one before it
    ∷ reads 0 (run (tick 5) 1 (tick 0)) 1 0 5 ∷ refuses 0 (run (tick 6) 1 (tick 0)) 10
    -- phase 2 of 2; counts 0, 2 and 257
    ∷ refuses 0 (run (tick 0) 2 (tick 0)) 10
    ∷ refuses 0 (tick 1 ++ b2 0 0 ++ z 9) 10 ∷ refuses 0 (tick 1 ++ b2 2 0 ++ z 18) 10 ∷ refuses 0 (tick 1 ++ b2 1 1 ++ z 9) 10
    -- one byte short, nothing at all, a byte beyond
    ∷ refuses 0 (tick 0 ++ b2 1 0 ++ z 8) 10 ∷ refuses 0 [] 10 ∷ reads 0 (run (tick 5) 0 (tick 4) ++ b2 7 7) 0 4 never
    -- position 1 of 1, and of a run that does not fit
    ∷ refuses 1 (run (tick 5) 0 (tick 4)) 16 ∷ refuses 1 (run (tick 5) 0 (tick 5)) 10 ∷ []

-- The cue source's two atomics: open moment, then phase and last moment of each.
unfoldable pub two_run : ℕ → ℕ → ℕ → ℕ → ℕ → Bytes
two_run opening p s q t = tick opening ++ b2 2 0 ++ p ∷ tick s ++ q ∷ tick t

unfoldable pub two_reads : List Read
two_reads =
    -- each position its own entry, and the least due moment: 2 + 10 and 3 + 5
    reads 0 (two_run 4 0 2 1 3) 0 2 8 ∷ reads 1 (two_run 4 0 2 1 3) 1 3 8 ∷ refuses 2 (two_run 4 0 2 1 3) 16
    -- phases 1 of 2 and 2 of 3, phase 2 of 2 (the record there is the second atomic's, which is never due), phase 3 of 3
    ∷ reads 1 (two_run 0 1 0 2 0) 2 0 0 ∷ refuses 0 (two_run 4 2 2 1 3) 10 ∷ refuses 1 (two_run 0 0 0 3 0) 10
    -- the second last moment at the open one, the second atomic due before it
    ∷ refuses 1 (two_run 4 0 2 1 4) 10 ∷ refuses 1 (two_run 6 0 2 1 0) 10 ∷ []

unfoldable pub read_by : Machine → Read → Answer
read_by k r = (called k r.run (reading_call r.position)).0

-- ---- advance

pub record Tried : Type 0 where
  pub run : Bytes
  pub call : Call
  pub answer : Answer
  pub after : Bytes

-- From a run of the phase 0 with last moment 0 and that open moment, with a trace of one byte: the number, and nothing changed.
unfoldable pub refuses_to : Bytes → ℕ → Bytes → ℕ → Tried
refuses_to opening t bag n =
    record { run = run opening 0 (tick 0); call = advance_to t bag (7 ∷ []); answer = advanced_by n 0 0 0 (7 ∷ []); after = run opening 0 (tick 0) }

-- Done with so many instants and steps, and open so then.
unfoldable pub advances_to : Bytes → ℕ → Bytes → ℕ → Bytes → Tried
advances_to opening t bag steps then =
    record { run = run opening 0 (tick 0); call = advance_to t bag (7 ∷ []); answer = advanced_by 0 steps steps 0 (7 ∷ []); after = run then 0 (tick 0) }

-- 16 messages on all ports
unfoldable pub sixteen : Bytes
sixteen = replicate 42 0 ++ b3 3 255 255 ++ b3 3 0 0

unfoldable pub tries : List Tried
tries =
    -- t 1,000,000,000,000, and one more; the same t once more; t below the open moment and at it
    advances_to (tick 0) 1000000000000 [] 0 (latest 1) ∷ refuses_to (tick 0) 1000000000001 [] 11
    ∷ refuses_to (latest 1) 1000000000000 [] 11 ∷ refuses_to (latest 1) 1000000000001 [] 11
    ∷ refuses_to (tick 5) 4 [] 11 ∷ advances_to (tick 5) 5 [] 0 (tick 6)
    -- bags: 16 messages and 17, 4 bytes, ports 3 and 4
    ∷ advances_to (tick 0) 0 sixteen 1 (tick 1) ∷ refuses_to (tick 0) 0 (sixteen ++ z 3) 12 ∷ refuses_to (tick 0) 0 (z 4) 12
    ∷ advances_to (tick 0) 3 (b3 3 0 0) 1 (tick 4) ∷ refuses_to (tick 0) 3 (b3 4 0 0) 12 ∷ refuses_to (tick 0) 3 (z 3 ++ b3 4 0 0) 12
    -- 11 before 12, 10 before 11: the open moment too late for its run
    ∷ refuses_to (tick 5) 4 (z 4) 11 ∷ refuses_to (latest 2) 4 (z 4) 10 ∷ []

unfoldable pub tried_by : Machine → Tried → Answer × Bytes
tried_by k r = called k r.run r.call

unfoldable pub tried_so : Tried → Answer × Bytes
tried_so r = (r.answer, r.after)

-- ---- the rows

unfoldable pub running : Type 0
unfolding
    tabled literals cue_file one_file tick latest run reads refuses never one_reads two_run two_reads read_by refuses_to advances_to sixteen tries
    tried_by tried_so
running = Unit {0}

pub one-read : map (read_by (engine one_file)) one_reads ≡ map (λ r. r.answer) one_reads
unfolding running
one-read = refl

pub one-read-flat : map (read_by (flat_machine one_file)) one_reads ≡ map (λ r. r.answer) one_reads
unfolding running
one-read-flat = refl

pub two-read : map (read_by (engine cue_file)) two_reads ≡ map (λ r. r.answer) two_reads
unfolding running
two-read = refl

pub two-read-flat : map (read_by (flat_machine cue_file)) two_reads ≡ map (λ r. r.answer) two_reads
unfolding running
two-read-flat = refl

pub tried-so : map (tried_by (engine one_file)) tries ≡ map tried_so tries
unfolding running
tried-so = refl

pub tried-so-flat : map (tried_by (flat_machine one_file)) tries ≡ map tried_so tries
unfolding running
tried-so-flat = refl

-- Start into 19 bytes, into more, and into one byte too few.
pub started : map (start one_file) (replicate 19 7 ∷ replicate 21 7 ∷ replicate 18 7 ∷ []) ≡
    record { number = 0; written = 19; buffer = run (tick 0) 0 (tick 0) }
    ∷ record { number = 0; written = 19; buffer = run (tick 0) 0 (tick 0) ++ b2 7 7 }
    ∷ record { number = 15; written = 0; buffer = replicate 18 7 } ∷ []
unfolding running
started = refl

pub started-flat : map (flat_start one_file) (replicate 19 7 ∷ replicate 21 7 ∷ replicate 18 7 ∷ []) ≡
    record { number = 0; written = 19; buffer = run (tick 0) 0 (tick 0) }
    ∷ record { number = 0; written = 19; buffer = run (tick 0) 0 (tick 0) ++ b2 7 7 }
    ∷ record { number = 15; written = 0; buffer = replicate 18 7 } ∷ []
unfolding running
started-flat = refl
