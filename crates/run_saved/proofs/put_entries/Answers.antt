-- One row more is put each turn (rows-put); at the end none is left. Assumes nothing.
use native.Mathlib.Omega.{arith}
use native.Mathlib.Nat.{sub-zero}
use Rattle.run_saved.proofs.Storing.{rows-put, rows_none}
use Rattle.run_state.specs.Held.{held_in}
use Rattle.definition.specs.SavedRun.{run_length}
use Prim.Native.Nat.{◌-◌}
use mathlib.Core.Path.{◌∙◌, sym}
use Rattle.run_saved.proofs.put_entries.Goals as goal

pub loop-i-init : goal.loop-i-init
loop-i-init c = rw sub-zero

pub put_entry-requires : goal.put_entry-requires
unfolding run_length
put_entry-requires c = (omega arith, omega arith)

pub loop-i-preserved : goal.loop-i-preserved
loop-i-preserved c =
    let a = c.args in
    let l = c.loop-i in
    rw c.put_entry.ensures (rows-put (held_in a.state.now) a.n l.i l.run c.loop-i-test.true) ∙ l.invariant

pub returns : goal.returns
returns c =
    let a = c.args in
    let l = c.loop-i in
    sym (rows_none (held_in a.state.now) l.i (a.n - l.i) (run_length l.i) l.run (omega arith)) ∙ l.invariant
