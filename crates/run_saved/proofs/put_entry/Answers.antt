-- Two stores in a row are the entry (`entry-put`).
use borrow.Author.Rules.{rules}
use Rattle.run_saved.proofs.Storing.{entry-put}
use Rattle.run_state.specs.Held.{held_in}
use Rattle.run_saved.specs.Runs.{held_at}
use Rattle.definition.specs.SavedRun.{run_length}
use Rattle.run_saved.proofs.put_entry.Goals as goal

pub put_number-requires : goal.put_number-requires
unfolding run_length
put_number-requires c = search rules

pub put_number-requires-2 : goal.put_number-requires-2
unfolding run_length
put_number-requires-2 c = search rules

pub returns : goal.returns
returns c =
    let a = c.args in
    rw (
      c.put_number-2.ensures,
      c.put_number.ensures,
      c.phase_at.ensures,
      c.last_at-since.ensures,
    ) (entry-put a.run.now a.i (held_at (held_in a.state.now) a.i))
