-- The bit, and phase, rule and moment; the others stay.
use Rattle.run_state.proofs.Laws.{led-put}
use Rattle.run_state.proofs.put_led.Goals as goal

pub returns : goal.returns
returns c =
    let a = c.args in
    rw (c.put_words.ensures, c.put_told.ensures)
    (led-put a.position a.phase a.rule a.since.0 a.state.now c.whole.ensures c.requires (search) (search))
