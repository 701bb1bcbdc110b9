-- Feeds byte by byte, on the engine's definition and on the flat machine: the worked example fed in parts, a feed that is stopped by 13 and by 15, each
-- condition of 10, 19 and 11 with what lies on its other side and in order, a feed cut at every byte, the calls that a feed is, and a feed in a
-- list of calls. Assumes nothing.
use mathlib.Core.Path.{◌≡◌, refl}
use Prim.Native.Nat.{ℕ}
use mathlib.Core.List.{List, [], ◌∷◌, ◌++◌, map}
use lib.ListN.{take, replicate}
use Rattle.definition.specs.Lists.{concat, up_from}
use Rattle.definition.specs.Bytes.{Bytes, bytes_of, ok, number_of}
use Rattle.definition.specs.File.{model_bytes}
use Rattle.definition.specs.Flatten.{flat}
use Rattle.definition.specs.Feed.{FeedBag, feed_bytes, feed_calls}
use Rattle.definition.specs.FeedCall.{Fed, advance_feed}
use Rattle.definition.specs.FlatMachine.{flat_feed}
use Rattle.definition.specs.Pinned.FeedReader.{feed_of}
use Rattle.definition.specs.Calls.{AdvanceCall, Call, start_call, feed_call, reading_call, Answer, start_answer, feed_answer, reading_answer, Machine, run_calls, engine, flat_machine}
use Rattle.definition.specs.Feeds.{made_calls}
use Rattle.definition.proofs.Models.{restless, nest}
use Rattle.definition.proofs.Table.{tabled}
use Rattle.definition.proofs.Literals.{b2, b3, z, literals}
use Rattle.definition.proofs.FileTable.{cue_file}
use Rattle.definition.proofs.RunTable.{one_file, tick, latest, run, two_run, sixteen}
use Rattle.definition.proofs.ColumnTable.{b8, one}

-- ---- the table's terms

-- A call: the model's file, the run, the end, the feed and the lent trace; and what it answers.
pub record FeedRow : Type 0 where
  pub file : Bytes
  pub run : Bytes
  pub end : ℕ
  pub feed : Bytes
  pub trace : Bytes
  pub answer : Fed

unfoldable pub answered : (number bags instants steps used : ℕ) → Bytes → Bytes → Fed
answered number bags instants steps used run trace = record { number = number; bags = bags; instants = instants; steps = steps; used = used; run = run; trace = trace }

-- A bag of no message at a moment below 256.
unfoldable pub quiet : ℕ → Bytes
quiet t = tick t ++ 0 ∷ []

-- Feeds of no bag, of one and of two.
unfoldable pub no_bag : Bytes
no_bag = b2 0 0

unfoldable pub one_bag : Bytes → Bytes
one_bag b = b2 1 0 ++ b

unfoldable pub two_bags : Bytes → Bytes → Bytes
two_bags b c = b2 2 0 ++ b ++ c

-- ---- the cue source, from its start

unfoldable pub began : Bytes
began = two_run 0 0 0 0 0

unfoldable pub at30 : Bytes
at30 = two_run 31 0 30 2 30

unfoldable pub cue_row : ℕ → Bytes → Bytes → Fed → FeedRow
cue_row end feed trace answer = record { file = cue_file; run = began; end = end; feed = feed; trace = trace; answer = answer }

unfoldable pub cue_rows : List FeedRow
cue_rows =
    -- [A] as no bag, as two bags and the call to the end, and as two bags of which the last is at the end
    cue_row 30 no_bag (z 40) (answered 0 0 3 6 30 at30 (one 20 0 ++ one 30 0 ++ z 10))
    ∷ cue_row 30 (two_bags (quiet 10) (quiet 20)) (z 40) (answered 0 2 3 6 30 at30 (one 20 0 ++ one 30 0 ++ z 10))
    ∷ cue_row 30 (two_bags (quiet 10) (quiet 30)) (z 40) (answered 0 2 3 6 30 at30 (one 20 0 ++ one 30 0 ++ z 10))
    -- [E] two messages that reach nothing are an instant of one step; a bag of none where nothing is due is a bag, and no instant
    ∷ cue_row 5 (one_bag (tick 5 ++ 2 ∷ b3 3 255 255 ++ b3 0 5 0)) [] (answered 0 1 1 1 0 (two_run 6 0 0 0 0) [])
    ∷ cue_row 6 (two_bags (quiet 5) (quiet 6)) [] (answered 0 2 0 0 0 (two_run 7 0 0 0 0) [])
    -- [C] 15 in the second bag's call, with nothing done there; with the instants at 10 and 20 done there
    ∷ cue_row 30 (two_bags (quiet 10) (quiet 20)) (z 14) (answered 15 1 1 2 0 (two_run 11 0 10 2 10) (z 14))
    ∷ cue_row 40 (two_bags (quiet 5) (quiet 30)) (z 20) (answered 15 1 2 4 15 (two_run 21 0 20 2 20) (one 20 0 ++ z 5))
    -- [D] 15 in the call to the end, which is no bag's: with the instant at 20 done there; in what the bag's call has left; and just long enough
    ∷ cue_row 30 (one_bag (quiet 10)) (z 20) (answered 15 1 2 4 15 (two_run 21 0 20 2 20) (one 20 0 ++ z 5))
    ∷ cue_row 30 (one_bag (quiet 20)) (z 29) (answered 15 1 2 4 15 (two_run 21 0 20 2 20) (one 20 0 ++ z 14))
    ∷ cue_row 30 (one_bag (quiet 20)) (z 30) (answered 0 1 3 6 30 at30 (one 20 0 ++ one 30 0))
    -- 15 in the only call
    ∷ cue_row 30 no_bag (z 14) (answered 15 0 1 2 0 (two_run 11 0 10 2 10) (z 14))
    -- [G] 13 in the first of three calls
    ∷ record { file = model_bytes restless; run = run (tick 0) 0 (tick 0); end = 30; feed = two_bags (quiet 10) (quiet 20); trace = b2 7 7; answer = answered 13 0 0 0 0 (run (tick 0) 0 (tick 0)) (b2 7 7) }
    ∷ []

-- ---- one atomic that is never due

-- From that open moment, with a trace of one byte: the number, and nothing changed.
unfoldable pub refuses_to : Bytes → ℕ → Bytes → ℕ → FeedRow
refuses_to opening end feed n =
    record { file = one_file; run = run opening 0 (tick 0); end = end; feed = feed; trace = 7 ∷ []; answer = answered n 0 0 0 0 (run opening 0 (tick 0)) (7 ∷ []) }

-- Done with so many bags, none of which has a message, and open so then.
unfoldable pub feeds_to : Bytes → ℕ → Bytes → ℕ → Bytes → FeedRow
feeds_to opening end feed bags then =
    record { file = one_file; run = run opening 0 (tick 0); end = end; feed = feed; trace = 7 ∷ []; answer = answered 0 bags 0 0 0 (run then 0 (tick 0)) (7 ∷ []) }

unfoldable pub one_rows : List FeedRow
one_rows =
    -- the end before the last bag though not before the first, at it, and past it
    refuses_to (tick 0) 29 (two_bags (quiet 10) (quiet 30)) 11 ∷ feeds_to (tick 0) 30 (two_bags (quiet 10) (quiet 30)) 2 (tick 31)
    ∷ feeds_to (tick 0) 31 (two_bags (quiet 10) (quiet 30)) 2 (tick 32)
    -- the end above the highest, and at it; with no bag, and with the last bag there
    ∷ refuses_to (tick 0) 1000000000001 (one_bag (quiet 10)) 11 ∷ feeds_to (tick 0) 1000000000000 (one_bag (quiet 10)) 1 (latest 1)
    ∷ refuses_to (tick 0) 1000000000001 no_bag 11 ∷ feeds_to (tick 0) 1000000000000 no_bag 0 (latest 1)
    ∷ feeds_to (tick 0) 1000000000000 (one_bag (latest 0 ++ 0 ∷ [])) 1 (latest 1)
    -- the first bag before the open moment, though the end is not; at it
    ∷ refuses_to (tick 5) 9 (two_bags (quiet 4) (quiet 9)) 11 ∷ feeds_to (tick 5) 9 (two_bags (quiet 5) (quiet 9)) 2 (tick 10)
    -- no bag: the end before the open moment, and at it
    ∷ refuses_to (tick 5) 4 no_bag 11 ∷ feeds_to (tick 5) 5 no_bag 0 (tick 6)
    -- no moment is left
    ∷ refuses_to (latest 1) 1000000000000 no_bag 11 ∷ refuses_to (latest 1) 1000000000001 no_bag 11
    -- the number of the model before 10: nothing at all
    ∷ record { file = []; run = []; end = 1000000000001; feed = []; trace = 7 ∷ []; answer = answered 1 0 0 0 0 [] (7 ∷ []) }
    -- 10 before 19: the open moment too late for its run; 19 before 11: one byte left over; then 11
    ∷ refuses_to (latest 2) 1000000000001 (no_bag ++ z 1) 10 ∷ refuses_to (tick 5) 1000000000001 (no_bag ++ z 1) 19 ∷ refuses_to (tick 5) 1000000000001 no_bag 11
    ∷ []

-- ---- 19

-- At 10 no message, at 300 two of them.
unfoldable pub sample : Bytes
sample = two_bags (quiet 10) (44 ∷ 1 ∷ z 6 ++ 2 ∷ b3 1 0 1 ++ b3 0 1 0)

unfoldable pub sample_bags : List FeedBag
sample_bags = record { moment = 10; bag = [] } ∷ record { moment = 300; bag = b3 1 0 1 ++ b3 0 1 0 } ∷ []

-- n bags of no message, at 0, 1, ..; the count is that of the two bytes.
unfoldable pub many_bags : Bytes → ℕ → Bytes
many_bags count n = count ++ concat (map (λ t. bytes_of 2 t ++ z 7) (up_from 0 n))

unfoldable pub feeds : List (Bytes × ℕ)
feeds =
    -- a byte left over, behind bags and behind none; a count of one more and of one less; of 256 more
    (sample ++ z 1, 19) ∷ (no_bag, 0) ∷ (no_bag ++ z 1, 19) ∷ (b2 2 0 ++ quiet 10, 19) ∷ (b2 1 0 ++ quiet 10 ++ quiet 20, 19) ∷ (b2 1 1 ++ quiet 10, 19)
    -- moments: one more, equal, one less; 255 and 256, which rise, and 256 and 255
    ∷ (two_bags (quiet 10) (quiet 11), 0) ∷ (two_bags (quiet 10) (quiet 10), 19) ∷ (two_bags (quiet 10) (quiet 9), 19)
    ∷ (two_bags (quiet 255) (0 ∷ 1 ∷ z 7), 0) ∷ (two_bags (0 ∷ 1 ∷ z 7) (quiet 255), 19)
    -- the first at 0, as the second of two; the highest, one more, 2^56
    ∷ (one_bag (quiet 0), 0) ∷ (two_bags (quiet 0) (quiet 0), 19)
    ∷ (one_bag (latest 0 ++ z 1), 0) ∷ (one_bag (latest 1 ++ z 1), 19) ∷ (one_bag (z 7 ++ b2 1 0), 19)
    -- ports 3 and 4, and 4 in the second message; 16 messages, 17, and the 16 with a message left over
    ∷ (one_bag (tick 0 ++ 1 ∷ b3 3 0 0), 0) ∷ (one_bag (tick 0 ++ 1 ∷ b3 4 0 0), 19) ∷ (one_bag (tick 0 ++ 2 ∷ z 3 ++ b3 4 0 0), 19)
    ∷ (one_bag (tick 0 ++ 16 ∷ sixteen), 0) ∷ (one_bag (tick 0 ++ 17 ∷ sixteen ++ z 3), 19) ∷ (one_bag (tick 0 ++ 16 ∷ sixteen ++ z 3), 19)
    ∷ []

-- ---- the calls of a feed

-- A call with no bag and no table, and what it is lent of a trace of sevens.
unfoldable pub lent : ℕ → ℕ → AdvanceCall
lent t n = record { moment = t; bag = []; trace = replicate n 7; table = [] }

unfoldable pub cue_bags : List FeedBag
cue_bags = record { moment = 20; bag = [] } ∷ record { moment = 25; bag = [] } ∷ []

unfoldable pub made : Machine → ℕ → ℕ → List AdvanceCall
made k end n = made_calls k began (replicate n 7) (feed_calls cue_bags end)

-- ---- a list of calls

-- The nest with two bags of two messages; and once more, which is too late.
unfoldable pub nest_feed : Bytes
nest_feed = two_bags (tick 6 ++ 2 ∷ b3 0 7 0 ++ b3 1 9 0) (tick 15 ++ 2 ∷ b3 0 8 0 ++ b3 0 8 0)

unfoldable pub nest_calls : List Call
nest_calls = start_call ∷ feed_call (record { end = 15; feed = nest_feed; trace = z 140 }) ∷ reading_call 0 ∷ feed_call (record { end = 16; feed = nest_feed; trace = 7 ∷ [] }) ∷ reading_call 2 ∷ []

unfoldable pub nest_trace : Bytes
nest_trace =
    b8 5 ++ b2 0 0 ++ b2 1 0 ++ b3 0 7 0 ++ b8 5 ++ b2 1 0 ++ b2 3 0 ++ b3 0 8 0 ++ b3 0 100 0 ++ b3 1 10 0 ++ b8 6 ++ b2 1 0 ++ b2 1 0 ++ b3 0 100 0
    ++ b8 10 ++ b2 0 0 ++ b2 1 0 ++ b3 0 7 0 ++ b8 10 ++ b2 1 0 ++ b2 3 0 ++ b3 0 8 0 ++ b3 0 100 0 ++ b3 1 9 0 ++ b8 11 ++ b2 1 0 ++ b2 1 0 ++ b3 0 100 0
    ++ b8 15 ++ b2 0 0 ++ b2 1 0 ++ b3 0 7 0 ++ b8 15 ++ b2 1 0 ++ b2 3 0 ++ b3 0 8 0 ++ b3 0 100 0 ++ b3 1 9 0

unfoldable pub nest_answers : List Answer
nest_answers =
    start_answer 0 37 ∷ feed_answer 0 2 5 10 138 (nest_trace ++ z 2) ∷ reading_answer 0 0 15 16
    ∷ feed_answer 11 0 0 0 0 (7 ∷ []) ∷ reading_answer 0 0 11 16 ∷ []

unfoldable pub nest_run : Bytes
nest_run = tick 16 ++ b2 3 0 ++ 0 ∷ tick 15 ++ 0 ∷ tick 15 ++ 0 ∷ tick 11

-- ---- the rows

unfoldable pub feeding : Type 0
unfolding
    tabled literals cue_file one_file tick latest run two_run sixteen b8 one answered quiet no_bag one_bag two_bags began at30 cue_row cue_rows refuses_to feeds_to
    one_rows sample sample_bags many_bags feeds lent cue_bags made nest_feed nest_calls nest_trace nest_answers nest_run
feeding = Unit {0}

pub cues-fed : map (λ r. advance_feed r.file r.run r.end r.feed r.trace) cue_rows ≡ map (λ r. r.answer) cue_rows
unfolding feeding
cues-fed = refl

pub cues-fed-flat : map (λ r. flat_feed r.file r.run r.end r.feed r.trace) cue_rows ≡ map (λ r. r.answer) cue_rows
unfolding feeding
cues-fed-flat = refl

pub one-fed : map (λ r. advance_feed r.file r.run r.end r.feed r.trace) one_rows ≡ map (λ r. r.answer) one_rows
unfolding feeding
one-fed = refl

pub one-fed-flat : map (λ r. flat_feed r.file r.run r.end r.feed r.trace) one_rows ≡ map (λ r. r.answer) one_rows
unfolding feeding
one-fed-flat = refl

-- read and written
pub sample-read : feed_of sample ≡ ok sample_bags
unfolding feeding
sample-read = refl

pub sample-written : feed_bytes sample_bags ≡ sample
unfolding feeding
sample-written = refl

pub feeds-judged : map (λ f. number_of (feed_of f.0)) feeds ≡ map (λ f. f.1) feeds
unfolding feeding
feeds-judged = refl

-- a feed cut anywhere is none
pub feeds-cut : map (λ n. number_of (feed_of (take n sample))) (up_from 0 27) ≡ replicate 26 19 ++ 0 ∷ []
unfolding feeding
feeds-cut = refl

-- 1,000 bags, and 1,001
pub many-bags : number_of (feed_of (many_bags (b2 232 3) 1000)) ∷ number_of (feed_of (many_bags (b2 233 3) 1001)) ∷ [] ≡ 0 ∷ 19 ∷ []
unfolding feeding
many-bags = refl

-- the record at 20 takes 15 bytes of the trace: the calls to 25 and to the end have the rest; the end at the last bag; none after the first refused one
pub cues-made : map (λ k. made k 30 17 ∷ made k 25 17 ∷ made k 30 14 ∷ []) (engine cue_file ∷ flat_machine cue_file ∷ [])
    ≡ replicate 2 ((lent 20 17 ∷ lent 25 2 ∷ lent 30 2 ∷ []) ∷ (lent 20 17 ∷ lent 25 2 ∷ []) ∷ (lent 20 14 ∷ []) ∷ [])
unfolding feeding
cues-made = refl

pub nest-fed : run_calls (engine (model_bytes nest)) (z 37) nest_calls ≡ (nest_answers, nest_run)
unfolding feeding
nest-fed = refl

pub nest-fed-flat : run_calls (flat_machine (model_bytes (flat nest))) (z 37) nest_calls ≡ (nest_answers, nest_run)
unfolding feeding
nest-fed-flat = refl
