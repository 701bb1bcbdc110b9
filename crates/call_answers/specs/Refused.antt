-- What a refused call answers: its number and zeros. No contract of a public call cites these: they say what `From<Refusal>` makes.
use Rattle.std.specs.Prelude.{replicate, ℕ}
use Rattle.call_answers.specs.declared.Written.{Written}
use Rattle.call_answers.specs.declared.Advanced.{Advanced}
use Rattle.call_answers.specs.declared.Fed.{Fed}
use Rattle.call_answers.specs.declared.Reading.{Reading}
use Rattle.call_answers.specs.declared.Channels.{Channels}

abbrev pub refused_writing : ℕ → Written
refused_writing number = record { number = number; bytes = 0 }

abbrev pub refused_advance : ℕ → Advanced
refused_advance number = record { number = number; instants = 0; steps = 0; trace_bytes = 0 }

abbrev pub refused_feed : ℕ → Fed
refused_feed number = record { number = number; bags = 0; instants = 0; steps = 0; trace_bytes = 0 }

abbrev pub refused_reading : ℕ → Reading
refused_reading number = record { number = number; phase = 0; last = 0; next_due = 0 }

abbrev pub refused_channels : ℕ → Channels
refused_channels number = record { number = number; channel = replicate 8 (refused_advance 0) }
