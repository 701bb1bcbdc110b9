-- The three refusals of the definition in their order: an instant that may stand is left undone where its records pass the end of the trace, or
-- its steps those of the call.
use borrow.Author.Tests.{lt-ltb, le-ltb}
use Prim.Native.Nat.{◌+◌}
use Rattle.std.proofs.lemmas.Result.{err_from_is_err_and}
use Rattle.instant_attempt.specs.Pass.{judged_by}
use Rattle.instant_attempt.proofs.Passes.{judged-none, judged-some}
use Rattle.instant_attempt.proofs.judge.Goals as goal

pub returns-in_err-ran : goal.returns-in_err-ran
returns-in_err-ran c =
    let a = c.args in
    let p = err_from_is_err_and c.from_residual.result c.from_residual.ensures.1 in
    rw (p.1, p.2) (judged-none a.room a.has a.before a.ran _ c.in_err-ran.ensures.value)

pub returns-then-room-ran : goal.returns-then-room-ran
unfolding judged_by
returns-then-room-ran c =
    let a = c.args in
    let q = c.in_ok-ran.ran in
    rw (judged-some a.ran q c.in_ok-ran.ensures.value, lt-ltb a.room q.used c.if-room-ran.true)

pub returns-then-has-before : goal.returns-then-has-before
unfolding judged_by
returns-then-has-before c =
    let a = c.args in
    let q = c.in_ok-ran.ran in
    rw (judged-some a.ran q c.in_ok-ran.ensures.value, le-ltb a.room q.used c.if-room-ran.false, lt-ltb a.has (a.before + q.steps) c.if-has-before.true)

pub returns : goal.returns
unfolding judged_by
returns c =
    let a = c.args in
    let q = c.in_ok-ran.ran in
    rw (judged-some a.ran q c.in_ok-ran.ensures.value, le-ltb a.room q.used c.if-room-ran.false, le-ltb a.has (a.before + q.steps) c.if-has-before.false)
