-- Three ways out, each with its law of `step_put`: no message, a record that fits, one that does not.
use native.Mathlib.Omega.{arith}
use mathlib.Core.Path.{◌∙◌}
use Rattle.instant_records.proofs.Records.{size_none, size-some, put-none, put-fits, put_out_lem}
use Rattle.instant_records.proofs.put_step.Goals as goal

pub returns-then-count-eq0 : goal.returns-then-count-eq0
returns-then-count-eq0 c =
    let a = c.args in
    let e = size_none a.count c.if-count-eq0.true in
    (omega arith, put-none a.moment.0 a.step a.count a.used a.keys.now a.out.now c.if-count-eq0.true)

pub put_record-requires : goal.put_record-requires
put_record-requires c = (c.requires.0, omega arith)

pub returns-then-end-out : goal.returns-then-end-out
returns-then-end-out c =
    let a = c.args in
    let z = c.if-count-eq0.false in
    let e = size-some a.count z in
    (omega arith, c.put_record.ensures ∙ put-fits a.moment.0 a.step a.count a.used a.keys.now a.out.now z c.requires.0 c.if-end-out.true)

pub returns-else-end-out : goal.returns-else-end-out
returns-else-end-out c =
    let a = c.args in
    let z = c.if-count-eq0.false in
    let e = size-some a.count z in
    (omega arith, put_out_lem a.moment.0 a.step a.count a.used a.keys.now a.out.now z c.if-end-out.false)
