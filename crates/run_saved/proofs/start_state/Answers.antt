-- The first k entries are those of the atomics before component c, by `started-more`; what a coupled component puts at k is overwritten.
use native.Mathlib.Omega.{arith}
use Rattle.run_saved.proofs.Starting.{started_to, started_none, started-more, started-all, length-atomics}
use Rattle.run_saved.proofs.Fitting.{atomic-counted}
use Rattle.run_saved.proofs.Entries.{Wide, wide-changed}
use Rattle.model_records.proofs.Counting.{kept_more, one-most}
use Rattle.run_state.proofs.Laws.{held-size}
use Rattle.run_state.specs.declared.State.{State}
use Rattle.run_state.specs.Held.{held_in, entries_of}
use Rattle.model_records.specs.Values.{components_in, component_of}
use Rattle.definition.specs.Model.{Component, is_atomic, atomics}
use Rattle.definition.specs.Lists.{keep, up_from}
use lib.ListN.{length}
use Prim.Native.Nat.{◌+◌}
use mathlib.Core.Path.{◌≡◌, refl, ◌∙◌, ap, ap₂, sym, subst}
use Rattle.run_saved.proofs.start_state.Goals as goal

pub loop-c-init : goal.loop-c-init
unfolding keep up_from
loop-c-init c = (omega arith, refl, held-size _ c.whole.ensures, started_none (components_in c.args.components.now) _)

pub loop-c-preserved : goal.loop-c-preserved
loop-c-preserved c =
    let l = c.loop-c in
    let cs = components_in c.args.components.now in
    let own = c.component_at-own.result in
    let o = atomic-counted cs l.c (component_of own) c.from-k.result c.component_at-own.ensures c.from-k.ensures in
    let st = held_in l.state in
    let new = sym c.put_at.ensures.held in (
      omega (arith, o, one-most (is_atomic cs l.c)),
      ap₂ ◌+◌ l.invariant.1 o ∙ kept_more (is_atomic cs) l.c,
      subst Wide new (wide-changed st l.k own.initial 0 l.invariant.2),
      subst (λ (s : State). entries_of (l.k + c.from-k.result) s ≡ started_to cs (l.c + 1)) new
          (rw o (started-more cs st l.c l.k own.initial l.invariant.2 (omega (arith, c.component_count-n.ensures, c.requires))
          (ap (λ (k : Component). k.initial) c.component_at-own.ensures) l.invariant.3)),
    )

pub returns : goal.returns
returns c =
    let l = c.loop-c in
    let cs = components_in c.args.components.now in
    let e : l.c ≡ length cs = omega (arith, c.component_count-n.ensures) in
    let f : l.k ≡ length (atomics cs) = rw e at l.invariant.1 ∙ length-atomics cs in
    rw (← f) (l.invariant.3 ∙ ap (started_to cs) e ∙ started-all cs)
