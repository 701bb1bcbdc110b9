use Rattle.spec_step.specs.Put.{put_ports}
use Rattle.law_routes.specs.Nodes.{output_node}
use Rattle.step_collect.specs.Collected.{leaving, root_put}
use lib.ListN.{length}
use mathlib.Core.Path.{◌≡◌}
use Prim.Native.Nat.{◌-◌}
use Rattle.step_collect.proofs.collect_root.Given as goal

abbrev pub invariant-loop-q : goal.invariant-loop-q
invariant-loop-q l = (length l.buf ≡ length l.initial.buf) ×
    (put_ports (λ p. leaving l.phases l.tables l.flags 8 (output_node 0 p)) (4 - l.q) l.q (l.buf, l.end) ≡ root_put l.phases l.tables l.flags l.initial.buf)
