use Rattle.step_keys.proofs.Laws.{Turn}
use Rattle.definition.specs.Pinned.Decoder.{to_phase}
use Rattle.definition.specs.Model.{outputs}
use Rattle.step_keys.proofs.put_slots.Given as goal

abbrev pub invariant-loop-j : goal.invariant-loop-j
invariant-loop-j l = Turn 4 (outputs (to_phase l.phase)) l.q l.own l.initial.buf l.at l.buf l.next l.n l.j
