-- `model_sections::read_components` meets its contract. Invariant: record i is the next to be read (Reading), and the arrays hold what is known
-- of those before it (FirstKnown). One that is refused ends the section with its number (reading-refused); with none left the section is
-- accepted (reading-ends), and all components are known. Assumes nothing.
use native.Mathlib.Omega.{arith}
use mathlib.Core.Path.{◌≡◌}
use Prim.Native.Nat.{◌<◌}
use lib.ListN.{length}
use Rattle.std.proofs.lemmas.Result.{err_from_is_err_and}
use Rattle.definition.specs.Pinned.Decoder.{component_section}
use Rattle.model_records.specs.Values.{components_in}
use Rattle.model_checks.proofs.Keeping.{known_next, known-keepable, known_more}
use Rattle.model_sections.proofs.Bounds.{component-count}
use Rattle.model_sections.proofs.Reading.{head-refused, reading-count, reading-right, reading_refused, reading-passes, reading-is, reading-more, reading-ends}
use Rattle.refusals.proofs.Numbers.{number-above}
use Rattle.model_sections.proofs.Forms.{component_form}
use Rattle.model_sections.proofs.read_components.Goals as goal
use Rattle.model_sections.proofs.read_components.Goals.{In-loop-i}

-- The record at hand is one of few.
few : (c : In-loop-i) → c.loop-i.i < 64
few c = let right = component-count _ (reading-right c.loop-i.invariant.0) in omega (arith, c.loop-i-test.true)

pub returns-in_err-check_head : goal.returns-in_err-check_head
unfolding component_section
returns-in_err-check_head c =
    let p = err_from_is_err_and c.from_residual.result c.from_residual.ensures.1 in
    let refused = head-refused component_form _ c.u16_at-announced.ensures c.judge_components.ensures c.in_err-check_head.ensures (number-above _) in
    rw (p.1, p.2) (record { answer = refused; learnt = tt })

pub read_component-requires : goal.read_component-requires
unfolding components_in
read_component-requires c = let there = reading-count c.loop-i.invariant.0 in
    known_next c.loop-i.invariant.1 (omega arith)

pub returns-in_err-component : goal.returns-in_err-component
unfolding components_in component_section
returns-in_err-component c =
    let p = err_from_is_err_and c.from_residual-in_err-component.result c.from_residual-in_err-component.ensures.1 in
    let refused = reading_refused c.loop-i.invariant.0 c.loop-i-test.true _ c.in_err-component.ensures in
    rw (p.1, p.2) (record { answer = refused; learnt = tt })

pub keep_component-requires : goal.keep_component-requires
unfolding components_in
keep_component-requires c =
    let at = c.loop-i.invariant.0 in let e = c.in_ok-component.ensures in
    known-keepable c.loop-i.invariant.1 (few (goal.at.keep_component-requires c).In-loop-i) (reading-is at c.loop-i-test.true _ e) (reading-passes at c.loop-i-test.true _ e)

pub loop-i-preserved : goal.loop-i-preserved
unfolding components_in
loop-i-preserved c =
    let at = c.loop-i.invariant.0 in let e = c.in_ok-component.ensures in (
      reading-more at c.loop-i-test.true _ e,
      known_more c.loop-i.invariant.1 (few (goal.at.loop-i-preserved c).In-loop-i) (reading-is at c.loop-i-test.true _ e) (reading-passes at c.loop-i-test.true _ e) c.keep_component.ensures,
    )

pub returns : goal.returns
unfolding components_in component_section
returns c =
    let at = c.loop-i.invariant.0 in
    let all : c.loop-i.i ≡ length (components_in c.section_part-records.result.now) = omega (arith, reading-count at, c.loop-i-test.false) in
    let known = rw all at c.loop-i.invariant.1 in
    record {
      answer = reading-ends at c.loop-i-test.false;
      learnt = rw (← at.part) (record {
        placed = record { accepted = known.accepted; stand = known.placed };
        counted = record { accepted = known.accepted; counted = known.counted };
      });
    }
