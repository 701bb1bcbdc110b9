-- Open moment, count and entries in a row are the run at the front of the buffer (`run-put`).
use borrow.Author.Rules.{rules}
use Rattle.run_saved.proofs.Storing.{run-put}
use Rattle.run_state.specs.Held.{held_in}
use Rattle.definition.specs.SavedRun.{run_length}
use Rattle.run_saved.proofs.store.Goals as goal

pub put_number-requires : goal.put_number-requires
unfolding run_length
put_number-requires c = search rules

pub put_number-requires-2 : goal.put_number-requires-2
unfolding run_length
put_number-requires-2 c = search rules

pub returns : goal.returns
returns c =
    let a = c.args in
    rw (c.put_entries.ensures, c.put_number-2.ensures, c.put_number.ensures)
    (run-put a.opening.0 a.n (held_in a.state.now) a.run.now c.requires.1)
