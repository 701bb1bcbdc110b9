-- One region is written, the others stay.
use Rattle.run_state.proofs.Laws.{end-put}
use Rattle.run_state.proofs.put_end.Goals as goal

pub returns : goal.returns
returns c =
    let a = c.args in
    end-put a.position a.end a.state.now c.requires
