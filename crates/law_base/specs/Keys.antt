-- What a 32-bit key stands for: a message, or a coupling. The order of keys is theirs. Assumes nothing.
use Rattle.std.specs.Prelude.{ℕ, ◌+◌, ◌*◌, ◌/◌, ◌%◌}
use Rattle.definition.specs.Model.{Message, Coupling}

-- Values are 16-bit numbers: port × 65,536 + value.
abbrev pub value_range : ℕ
value_range = 65536

unfoldable pub key_of : ℕ → ℕ → ℕ
key_of port value = port * value_range + value

unfoldable pub message_of : ℕ → Message
message_of key = record { port = key / value_range; value = key % value_range }

-- A coupling's row with its first byte highest.
unfoldable pub coupling_of : ℕ → Coupling
coupling_of k = record { source = k / 16777216; source_port = k / 65536 % 256; target = k / 256 % 256; target_port = k % 256 }
