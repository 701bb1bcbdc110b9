-- The text that the printing program writes for what it read, by document 01, "The two-phase cue source". Assumes nothing.
use Rattle.std.specs.Prelude.{ℕ, zero, suc, ◌+◌, ◌*◌, ◌/◌, ◌%◌, [], ◌∷◌, ◌++◌, cond, ltb, eqb, length, take, drop, replicate}
use Rattle.definition.specs.Bytes.{Bytes, number_at}
use Rattle.definition.specs.Limits.{message_size, longest_model}
use Rattle.definition.specs.Engine.{Wrote, Advanced, start, advance}
pub use Rattle.instant_records.specs.Written.{record_head}

-- ---- numbers

abbrev pub digit : ℕ → ℕ
digit n = 48 + n

-- n in decimal, cut to its last k digits.
unfoldable pub decimal_in : ℕ → ℕ → Bytes
decimal_in zero n = []
decimal_in (suc k) n = cond (ltb n 10) (digit n ∷ []) (decimal_in k (n / 10) ++ digit (n % 10) ∷ [])

-- The digits that any number of eight bytes fits in.
abbrev pub max_digits : ℕ
max_digits = 20

-- A number in decimal and the byte after it.
unfoldable pub field : ℕ → ℕ → Bytes
field n after = decimal_in max_digits n ++ after ∷ []

abbrev pub space : ℕ
space = 32

abbrev pub newline : ℕ
newline = 10

-- ---- lines

-- "time step port value"
abbrev pub first_line : Bytes
first_line = 116 ∷ 105 ∷ 109 ∷ 101 ∷ 32 ∷ 115 ∷ 116 ∷ 101 ∷ 112 ∷ 32 ∷ 112 ∷ 111 ∷ 114 ∷ 116 ∷ 32 ∷ 118 ∷ 97 ∷ 108 ∷ 117 ∷ 101 ∷ 10 ∷ []

-- "columns are moment, step, port, value"; the message is the row at the front of the bytes.
unfoldable pub message_line : ℕ → ℕ → Bytes → Bytes
message_line moment step row = field moment space ++ field step space ++ field (number_at 1 0 row) space ++ field (number_at 2 1 row) newline

-- "Each message of a record has a line"
unfoldable pub message_lines : ℕ → ℕ → ℕ → Bytes → Bytes
message_lines zero moment step rows = []
message_lines (suc n) moment step rows = message_line moment step rows ++ message_lines n moment step (drop message_size rows)

abbrev pub message_count : Bytes → ℕ
message_count trace = number_at 2 10 trace

-- The lines of the record at the front of the bytes.
unfoldable pub record_lines : Bytes → Bytes
record_lines trace = message_lines (message_count trace) (number_at 8 0 trace) (number_at 2 8 trace) (drop record_head trace)

-- The bytes behind it.
unfoldable pub behind_record : Bytes → Bytes
behind_record trace = drop (record_head + message_size * message_count trace) trace

-- The lines of n records at most.
unfoldable pub lines : ℕ → Bytes → Bytes
lines zero trace = []
lines (suc n) trace = cond (eqb (length trace) 0) [] (record_lines trace ++ lines n (behind_record trace))

-- A record is at least a byte long.
unfoldable pub trace_lines : Bytes → Bytes
trace_lines trace = lines (length trace) trace

-- The last line: end, the open moment, steps, their number.
unfoldable pub end_line : ℕ → ℕ → Bytes
end_line opening steps = (101 ∷ 110 ∷ 100 ∷ 32 ∷ []) ++ field opening space ++ (115 ∷ 116 ∷ 101 ∷ 112 ∷ 115 ∷ 32 ∷ []) ++ field steps newline

-- "refused N"
unfoldable pub refused_line : ℕ → Bytes
refused_line n = (114 ∷ 101 ∷ 102 ∷ 117 ∷ 115 ∷ 101 ∷ 100 ∷ 32 ∷ []) ++ field n newline

-- ---- a run

-- "the last line has the open moment and the steps, or `refused N` after the records of the instants done"
unfoldable pub last_line : ℕ → Bytes → ℕ → Bytes
last_line refusal run steps = cond (eqb refusal 0) (end_line (number_at 8 0 run) steps) (refused_line refusal)

unfoldable pub advanced_text : Advanced → Bytes
advanced_text a = trace_lines (take a.used a.trace) ++ last_line a.number a.run a.steps

-- One start, and one advance with an empty bag.
unfoldable pub started_text : Bytes → ℕ → Bytes → Wrote → Bytes
started_text model end trace w =
    cond (eqb w.number 0) (advanced_text (advance model w.buffer end [] trace [])) (refused_line w.number)

-- The width of the end moment.
abbrev pub moment_size : ℕ
moment_size = 8

-- "Input under eight bytes gives the first line and `refused 1`."
unfoldable pub input_text : Bytes → Bytes → Bytes → Bytes
input_text input run trace =
    first_line ++ cond (ltb (length input) moment_size) (refused_line 1)
    (started_text (drop moment_size input) (number_at moment_size 0 input) trace (start (drop moment_size input) run))

-- The run of the largest model: 63 atomics.
abbrev pub run_room : ℕ
run_room = 577

abbrev pub trace_room : ℕ
trace_room = 16384

-- "reads an eight-byte end moment and the model from standard input, uses a 16,384-byte trace and empty bags"
unfoldable pub run_text : Bytes → Bytes
run_text input = input_text input (replicate run_room 0) (replicate trace_room 0)

-- ---- room

-- The longest line of a message, whose numbers have 8, 2, 1 and 2 bytes: 20, 5, 3 and 5 digits, and a byte after each.
abbrev pub longest_line : ℕ
longest_line = 37

-- The longest last line: two numbers of at most 20 digits, and twelve bytes beside them.
abbrev pub longest_last : ℕ
longest_last = 52

-- Room for every text: each message takes three bytes of the trace.
abbrev pub text_room : ℕ
text_room = length first_line + longest_line * (trace_room / message_size) + longest_last

-- As much of an input as is ever asked for: the end moment, the longest model, and a byte by which a longer one is told.
abbrev pub input_room : ℕ
input_room = moment_size + longest_model + 1
