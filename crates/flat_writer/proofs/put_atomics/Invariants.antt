use Rattle.definition.specs.Records.{component_bytes}
use Rattle.model_records.specs.Values.{components_in}
use Rattle.flat_writer.specs.Written.{atomics_by}
use Rattle.flat_writer.proofs.Pieces.{Standing}
use Rattle.flat_writer.proofs.put_atomics.Given as goal

abbrev pub invariant-loop-i : goal.invariant-loop-i
invariant-loop-i l = Standing 5 component_bytes (atomics_by (components_in l.components) l.tables l.n) 7 l.initial.out l.i l.out
