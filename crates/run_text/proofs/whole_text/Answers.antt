-- The text fits on the page, and what was read of a longer input gives the same text.
use borrow.Author.Rules.{rules}
use native.Mathlib.Omega.{arith}
use mathlib.Core.Path.{◌≡◌, ap, ◌∙◌}
use lib.ListN.{length, take}
use Rattle.run_text.specs.Put.{put}
use Rattle.run_text.specs.Text.{text_room, input_room, run_text}
use Rattle.run_text.proofs.Fronts.{front_same}
use Rattle.law_stores.proofs.Fronts.{put_whole}
use Rattle.run_text.proofs.whole_text.Goals as goal

pub returns : goal.returns
returns c =
    let a = c.args in
    let page : length a.text.now ≡ text_room = search rules in
    let buffer : length a.input.now ≡ input_room = search rules in (
      λ input read.
          let same : run_text c.front.result.now ≡ run_text input
          = ap run_text (c.front.ensures ∙ read ∙ ap (λ k. take k input) buffer) ∙ front_same input in
          put_whole (run_text input) a.text.now c.run_text.new.out c.run_text.result (omega (arith, c.run_text.ensures.1, ap length same, page))
          (c.run_text.ensures.0 ∙ ap (λ t. put t (a.text.now, 0)) same),
      c.run_text.auto.out ∙ page,
    )
