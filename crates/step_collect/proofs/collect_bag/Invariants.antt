use Rattle.spec_step.specs.Put.{put_ports}
use Rattle.law_routes.specs.Nodes.{input_node}
use Rattle.step_collect.specs.Collected.{arriving, bag_put}
use lib.ListN.{length}
use mathlib.Core.Path.{◌≡◌}
use Prim.Native.Nat.{◌-◌}
use Rattle.step_collect.proofs.collect_bag.Given as goal

abbrev pub invariant-loop-q : goal.invariant-loop-q
invariant-loop-q l = (length l.buf ≡ length l.initial.buf) ×
    (put_ports (λ p. arriving l.phases l.tables l.flags l.given 8 (input_node l.c p)) (4 - l.q) l.q (l.buf, l.end) ≡ bag_put l.phases l.tables l.flags l.given l.c l.initial.buf)
