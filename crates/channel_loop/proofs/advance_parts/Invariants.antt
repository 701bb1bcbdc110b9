use lib.ListN.{length}
use Rattle.model_file.specs.Checked.{model_of}
use Rattle.call_answers.specs.Answers.{channels_call_of}
use Rattle.channel_loop.proofs.Boxes.{Going}
use Rattle.channel_loop.proofs.advance_parts.Given as goal

abbrev pub invariant-loop-i : goal.invariant-loop-i
invariant-loop-i l = Going (model_of l.file l.n) l.initial.runs (channels_call_of l.count l.t l.allowance l.bags l.places l.initial.traces) (length l.initial.work) l.runs l.traces (length l.work) l.channel l.left l.i
