-- Five bytes, one after the other, are the record of the atomic under the root (`atomic-puts`).
use native.Mathlib.Omega.{arith}
use Rattle.flat_writer.proofs.Sections.{atomic-puts}
use Rattle.model_records.specs.Values.{component_of}
use Rattle.flat_writer.proofs.put_atomic.Goals as goal

pub returns : goal.returns
returns c = let a = c.args in atomic-puts (component_of a.k) a.at a.out.now (omega arith) (omega arith) (omega arith)
