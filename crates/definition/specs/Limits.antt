-- Every limit and every width of documents 01 and 02, by name, once. Assumes nothing.
use Rattle.std.specs.Prelude.{ℕ}

-- ---- the model file
abbrev pub max_components : ℕ
max_components = 64

-- "At most 8 ancestors."
abbrev pub max_ancestors : ℕ
max_ancestors = 8

-- "An atomic has 1 to 64 phases"
abbrev pub max_own_phases : ℕ
max_own_phases = 64

abbrev pub max_phases : ℕ
max_phases = 512

-- "output count (1, 0 to 4), four slots"
abbrev pub max_outputs : ℕ
max_outputs = 4

abbrev pub max_rules : ℕ
max_rules = 1024

abbrev pub max_couplings : ℕ
max_couplings = 1024

-- "at most 1,024 in all"
abbrev pub max_routes : ℕ
max_routes = 1024

-- "Ports are 0 to 3"
abbrev pub port_count : ℕ
port_count = 4

-- "advance (4 bytes, 0 to 1,000,000,000, or 4,294,967,295 for never)"
abbrev pub max_advance : ℕ
max_advance = 1000000000

abbrev pub never_field : ℕ
never_field = 4294967295

-- "count 1, then the byte 2": the byte of a fifth section
abbrev pub half_open_byte : ℕ
half_open_byte = 2

-- ---- widths of counts and records
abbrev pub count_size : ℕ
count_size = 2

abbrev pub component_size : ℕ
component_size = 5

abbrev pub phase_size : ℕ
phase_size = 18

abbrev pub rule_size : ℕ
rule_size = 18

abbrev pub coupling_size : ℕ
coupling_size = 4

-- The fifth section as a whole: its count and one byte.
abbrev pub fifth_size : ℕ
fifth_size = 3

abbrev pub message_size : ℕ
message_size = 3

-- The head of a trace record: moment (8), step (2) and message count (2).
abbrev pub record_head : ℕ
record_head = 12

-- The head of a saved run: open moment (8) and atomic count (2).
abbrev pub head_size : ℕ
head_size = 10

-- Phase (1) and last moment (8) of an atomic in a saved run.
abbrev pub entry_size : ℕ
entry_size = 9

-- ---- calls
-- The latest moment to which a run is advanced.
abbrev pub max_moment : ℕ
max_moment = 1000000000000

-- "over 16 messages"
abbrev pub max_given : ℕ
max_given = 16

-- Steps of an instant.
abbrev pub max_steps : ℕ
max_steps = 1024

-- "a step's root bag over 4,096 messages": it has no more, as is shown (RootBags), and no call tests it
abbrev pub max_root_bag : ℕ
max_root_bag = 4096

-- "no bag of an atomic can hold more than 16,384 messages": so it is shown to be (AtomicBags), and no call tests it
abbrev pub max_atomic_bag : ℕ
max_atomic_bag = 16384

-- "18,446,744,073,709,551,615 for never"
abbrev pub never_moment : ℕ
never_moment = 18446744073709551615

-- A rule's position, "counted in rules from 0, or 65,535 for none", and its bytes: "two bytes an atomic"
abbrev pub no_position : ℕ
no_position = 65535

abbrev pub position_size : ℕ
position_size = 2

-- "a feed of up to 1,000 bags"
abbrev pub max_bags : ℕ
max_bags = 1000

-- The head of a bag of a feed: moment (8) and message count (1).
abbrev pub bag_head : ℕ
bag_head = 9

-- "One to eight runs"
abbrev pub max_channels : ℕ
max_channels = 8

-- "up to 4,294,967,295 records", whose number has 4 bytes
abbrev pub max_records : ℕ
max_records = 4294967295

-- ---- lengths that suffice for every model and every feed
-- The longest model file: four counts, 64 components, 512 phases, 1,024 rules, 1,024 couplings, and a fifth section.
abbrev pub longest_model : ℕ
longest_model = 32075

-- The longest saved run: that of 63 atomics.
abbrev pub longest_run : ℕ
longest_run = 577

-- The longest table of deciding rules: that of 63 atomics.
abbrev pub longest_table : ℕ
longest_table = 126

-- The longest record that a call writes: its head, and 4,096 messages.
abbrev pub longest_record : ℕ
longest_record = 12300

-- The longest feed: its count, and 1,000 bags of 16 messages.
abbrev pub longest_feed : ℕ
longest_feed = 57002
