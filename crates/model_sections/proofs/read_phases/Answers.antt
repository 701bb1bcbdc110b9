-- `model_sections::read_phases` meets its contract. Invariants: record i is the next to be read (Reading), and it is the next phase of component
-- c (Standing), since phases stand atomic by atomic. So its bound is the phase count of component c (standing-checked), and the returns are
-- those of every section. Assumes nothing.
use native.Mathlib.Omega.{arith}
use mathlib.Core.Path.{◌≡◌, refl, sym, ap}
use Prim.Native.Nat.{◌<◌}
use lib.ListN.{length}
use Rattle.std.proofs.lemmas.Result.{err_from_is_err_and}
use Rattle.definition.specs.Model.{phases_before}
use Rattle.definition.specs.File.{phase_total}
use Rattle.definition.specs.Pinned.Decoder.{phase_section}
use Rattle.model_records.specs.Values.{components_in, phases_in}
use Rattle.model_records.proofs.Before.{before-none, before-all}
use Rattle.model_sections.proofs.Bounds.{count-total, standing-first, standing-last, standing-next, standing-checked, standing-below}
use Rattle.model_sections.proofs.Reading.{head-refused, reading-starts, reading-count, reading-right, reading_refused, reading-more, reading-ends}
use Rattle.refusals.proofs.Numbers.{number-above}
use Rattle.model_sections.proofs.Forms.{phase_form}
use Rattle.model_sections.proofs.read_phases.Goals as goal
use Rattle.model_sections.proofs.read_phases.Goals.{In-loop}

-- The record at hand is one of those announced.
below : (c : In-loop) → c.loop.i < c.u16_at-announced.result
below c = standing-below c.loop.invariant.1 c.loop-test.true _ (reading-right c.loop.invariant.0)

pub returns-in_err-check_head : goal.returns-in_err-check_head
unfolding phase_section
returns-in_err-check_head c =
    let p = err_from_is_err_and c.from_residual.result c.from_residual.ensures.1 in
    rw (p.1, p.2)
    (head-refused (phase_form _) _ c.u16_at-announced.ensures (rw (← c.phase_total-total.ensures) c.judge_phases.ensures) c.in_err-check_head.ensures (number-above _))

pub loop-c-init : goal.loop-c-init
loop-c-init c = (
  reading-starts (phase_form _) _ c.u16_at-announced.ensures (rw (← c.phase_total-total.ensures) c.judge_phases.ensures) c.in_ok-check_head.ensures refl
      c.section_part-records.ensures (omega arith),
  sym (before-none _),
)

pub loop-init : goal.loop-init
loop-init c =
    let below : c.loop-c.c < length (components_in c.args.components.now) = omega (arith, c.component_count-component_count.ensures, c.loop-c-test.true) in
    (c.loop-c.invariant.0, standing-first (c.requires.counted.holds c.loop-c.c below) (c.requires.accepted.fit c.loop-c.c below) c.loop-c.invariant.1)

pub read_phase-requires : goal.read_phase-requires
unfolding phases_in
read_phase-requires c = let there = reading-count c.loop.invariant.0 in let one = below (goal.at.read_phase-requires c).In-loop in omega arith

pub returns-in_err-read_phase : goal.returns-in_err-read_phase
unfolding phases_in phase_section
returns-in_err-read_phase c =
    let p = err_from_is_err_and c.from_residual-in_err-read_phase.result c.from_residual-in_err-read_phase.ensures.1 in
    rw (p.1, p.2) (reading_refused c.loop.invariant.0 (below (goal.at.returns-in_err-read_phase c).In-loop) _
    (standing-checked c.loop.invariant.1 c.loop-test.true (phases_in c.section_part-records.result.now) c.in_err-read_phase.ensures))

pub overflow_add-i : goal.overflow_add-i
overflow_add-i c = let one = below (goal.at.overflow_add-i c).In-loop in omega arith

pub loop-preserved : goal.loop-preserved
unfolding phases_in
loop-preserved c = (
  reading-more c.loop.invariant.0 (below (goal.at.loop-preserved c).In-loop) _
      (standing-checked c.loop.invariant.1 c.loop-test.true (phases_in c.section_part-records.result.now) c.in_ok-read_phase.ensures),
  standing-next c.loop.invariant.1 c.loop-test.true,
)

pub loop-c-preserved : goal.loop-c-preserved
loop-c-preserved c = (c.loop.invariant.0, standing-last c.loop.invariant.1 c.loop-test.false)

pub returns : goal.returns
unfolding phase_section
returns c =
    let at = c.loop-c.invariant.0 in
    let cs = components_in c.args.components.now in
    let last : c.loop-c.c ≡ length cs = omega (arith, c.component_count-component_count.ensures) in
    reading-ends at (omega (arith, ap (phases_before cs) last, before-all cs, count-total (phase_total cs) _ (reading-right at)))
