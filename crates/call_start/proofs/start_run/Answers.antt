-- The two cases of the buffer: too short (`wrote-short`), or the first run stored at its front (`wrote-whole`).
use native.Mathlib.Omega.{arith}
use Rattle.call_start.proofs.Starts.{wrote-short, wrote-whole, start-length, start-run-is}
use Rattle.model_records.proofs.Counting.{atomics-most}
use Rattle.run_saved.specs.Runs.{bare}
use Rattle.model_records.specs.Values.{components_in}
use Rattle.definition.specs.Engine.{start_run}
use Rattle.definition.specs.SavedRun.{Run, run_bytes}
use Rattle.definition.specs.Bytes.{stored}
use mathlib.Core.List.{[]}
use mathlib.Core.Path.{◌∙◌, ap, sym}
use Rattle.call_start.proofs.start_run.Goals as goal

pub run_size-size-requires : goal.run_size-size-requires
run_size-size-requires c = omega (arith, c.atomic_count-n.ensures, atomics-most (components_in c.args.components.now), c.requires)

pub returns-then-run-size : goal.returns-then-run-size
returns-then-run-size c =
    let a = c.args in
    let l = start-length a.components.now c.atomic_count-n.result c.atomic_count-n.ensures in
    wrote-short a.run.now (run_bytes (start_run (bare a.components.now []))) (omega (arith, l, c.run_size-size.ensures, c.if-run-size.true))

pub store-requires : goal.store-requires
store-requires c =
    let few = atomics-most (components_in c.args.components.now) in
    (omega (arith, c.atomic_count-n.ensures, few, c.requires), omega (arith, c.run_size-size.ensures, c.if-run-size.false))

pub returns : goal.returns
returns c =
    let a = c.args in
    let n = c.atomic_count-n in
    let s = c.run_size-size in
    let l = start-length a.components.now n.result n.ensures in
    let e = start-run-is a.components.now n.result n.ensures _ c.start_state.ensures in
    wrote-whole a.run.now (run_bytes (start_run (bare a.components.now []))) s.result c.store.new.run (s.ensures ∙ sym l) (c.store.ensures ∙ ap (λ (r : Run). stored (run_bytes r) a.run.now) e) (omega (arith, l, s.ensures, c.if-run-size.false))
