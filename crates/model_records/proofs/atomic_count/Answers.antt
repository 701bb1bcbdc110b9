-- `model_records::atomic_count` meets its contract. Invariant: k is the number of atomics before component c, by `kept_more` one component more
-- each turn. Assumes nothing.
use native.Mathlib.Omega.{arith}
use mathlib.Core.Bool.{Bool, cond}
use Rattle.model_records.proofs.Counting.{counted, kept_more, one-most}
use Rattle.model_records.specs.Values.{components_in}
use Rattle.definition.specs.Model.{is_atomic, atomics}
use Rattle.definition.specs.Lists.{keep, up_from}
use Prim.Native.Nat.{◌+◌}
use mathlib.Core.Path.{◌≡◌, refl, ap, ap₂, ◌∙◌}
use Rattle.model_records.proofs.atomic_count.Goals as goal

pub loop-c-preserved : goal.loop-c-preserved
loop-c-preserved c =
    let l = c.loop-c in
    let one : c.from-k.result ≡ cond c.is_atomic.result 1 0 = c.from-k.ensures ∙ counted c.is_atomic.result in (
      omega (arith, one, one-most c.is_atomic.result),
      ap₂ ◌+◌ l.invariant.1 (one ∙ ap (λ (b : Bool). cond b 1 0) c.is_atomic.ensures) ∙ kept_more (is_atomic (components_in c.args.components.now)) l.c,
    )

pub returns : goal.returns
unfolding atomics
returns c =
    let l = c.loop-c in
    let e : l.c ≡ c.component_count-n.result = omega arith in
    rw (← c.component_count-n.ensures, ← e) l.invariant.1

pub loop-c-init : goal.loop-c-init
unfolding keep up_from
loop-c-init c = (omega arith, refl)
