-- One entry more each turn (load-more). Assumes nothing.
use native.Mathlib.Omega.{arith}
use Rattle.run_saved.proofs.Entries.{Wide, wide-changed, load-none, load-more}
use Rattle.run_state.specs.Held.{held_in, entries_of}
use Rattle.run_state.proofs.Laws.{held-size}
use Rattle.run_state.specs.declared.State.{State}
use Rattle.definition.specs.SavedRun.{to_run}
use Prim.Native.Nat.{◌+◌}
use mathlib.Core.Path.{◌≡◌, sym, subst}
use Rattle.run_saved.proofs.load.Goals as goal

pub loop-i-init : goal.loop-i-init
loop-i-init c = (held-size _ c.whole.ensures, load-none _ c.args.run.now)

pub loop-i-preserved : goal.loop-i-preserved
loop-i-preserved c =
    let a = c.args in
    let l = c.loop-i in
    let e = c.entry_at-e.result in
    let st = held_in l.state in
    let new = sym c.put_at.ensures.held in (
      subst Wide new (wide-changed st l.i e.phase e.last.0 l.invariant.0),
      subst (λ (s : State). entries_of (l.i + 1) s ≡ (to_run (l.i + 1) a.run.now).entries) new (load-more a.run.now st l.i e.phase e.last.0 l.invariant.0 (omega arith) c.entry_at-e.ensures l.invariant.1),
    )

pub returns : goal.returns
returns c =
    let l = c.loop-i in
    let e : l.i ≡ c.args.n = omega arith in
    record { entries = rw e at l.invariant.1; phases = l.invariant.0.0; lasts = l.invariant.0.1 }
