-- Two regions are written, the others stay; the rule beside the phase is put back as it was.
use Rattle.run_state.proofs.Laws.{entry-put}
use Rattle.run_state.proofs.put_at.Goals as goal

pub returns : goal.returns
returns c =
    let a = c.args in
    let r = c.beside_at-kept.result in
    rw c.put_words.ensures (entry-put a.position a.phase r a.since.0 a.state.now c.requires (search) (search) c.beside_at-kept.ensures)
