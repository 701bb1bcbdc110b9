-- `model_sections::phase_total` meets its contract. Invariant: the total is what stands before component c, at most 64 a component (phases-few). One
-- component more is before_more, and all of them are the total (before-all). Assumes nothing.
use native.Mathlib.Omega.{arith}
use mathlib.Core.Path.{◌≡◌, sym, ap, ◌∙◌}
use Prim.Native.Nat.{◌≤◌, ◌<◌}
use lib.ListN.{length, get_or}
use Rattle.definition.specs.Model.{phases_before}
use Rattle.model_records.specs.Values.{components_in}
use Rattle.model_checks.proofs.Kept.{phases-few}
use Rattle.model_records.proofs.Before.{before-none, before_more, before-all}
use Rattle.model_sections.proofs.phase_total.Goals as goal

pub returns : goal.returns
returns c =
    let l = c.loop-c in let cs = components_in c.args.components.now in
    let e : l.c ≡ length cs = omega (arith, c.component_count-component_count.ensures) in
    l.invariant.1 ∙ ap (phases_before cs) e ∙ before-all cs

pub loop-c-init : goal.loop-c-init
loop-c-init c = (omega arith, sym (before-none _))

pub loop-c-preserved : goal.loop-c-preserved
loop-c-preserved c =
    let cs = components_in c.args.components.now in
    let below : c.loop-c.c < length cs = omega (arith, c.component_count-component_count.ensures) in
    let own = c.requires.counted.holds c.loop-c.c below in
    let few : get_or c.args.phase_counts.now c.loop-c.c 0 ≤ 64 = rw own (phases-few cs c.loop-c.c (c.requires.accepted.fit c.loop-c.c below)) in
    (omega arith, omega (arith, before_more cs c.loop-c.c))
