use Rattle.std.proofs.Common.{map}
use Rattle.definition.specs.Records.{rule_bytes}
use Rattle.model_records.specs.Values.{rules_in}
use Rattle.flat_writer.specs.Written.{rule_by}
use Rattle.flat_writer.proofs.Pieces.{Standing}
use Rattle.flat_writer.proofs.put_rule_list.Given as goal

abbrev pub invariant-loop-i : goal.invariant-loop-i
invariant-loop-i l = Standing 18 rule_bytes (map (rule_by l.tables) (rules_in l.rules)) l.at l.initial.out l.i l.out
