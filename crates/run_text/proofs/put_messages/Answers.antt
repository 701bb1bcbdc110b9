-- The lines of the messages left, put on the page as it stands, are all lines put on the first page; none is left at the end.
use native.Mathlib.Omega.{arith}
use Rattle.run_text.proofs.Laws.{messages-more, messages-none}
use Rattle.definition.specs.Limits.{message_size}
use lib.ListN.{drop}
use native.Mathlib.Nat.{sub-zero}
use mathlib.Core.Path.{◌≡◌, refl, sym, ◌∙◌}
use Prim.Native.Nat.{◌-◌, ◌*◌}
use Rattle.run_text.proofs.put_messages.Goals as goal

pub loop-k-init : goal.loop-k-init
loop-k-init c = (refl, rw sub-zero)

pub loop-k-preserved : goal.loop-k-preserved
loop-k-preserved c =
    let a = c.args in let l = c.loop-k in (
      c.put_message-to.auto.out ∙ l.invariant.0,
      rw (c.put_message-to.ensures, c.rest.ensures)
          (messages-more a.count l.k a.moment a.step a.rows.now (l.out, l.to) (omega arith) ∙ l.invariant.1),
    )

pub returns : goal.returns
returns c =
    let a = c.args in let l = c.loop-k in
    let z : a.count - l.k ≡ 0 = omega arith in
    sym (messages-none a.moment a.step (drop (message_size * l.k) a.rows.now) (l.out, l.to)) ∙ rw (← z) l.invariant.1
