use Prim.Native.Nat.{ℕ, ◌-◌, ◌+◌}
use mathlib.Core.Path.{◌≡◌}
use lib.ListN.{length}
use Rattle.model_records.specs.Values.{components_in, couplings_in}
use Rattle.spec_step.specs.Tables.{source_at}
use Rattle.table_words.specs.Writes.{column}
use Rattle.table_couplings.specs.declared.End.TheVariants.{Source, Target}
use Rattle.table_couplings.specs.Links.{Held, link_end}
use Rattle.table_couplings.proofs.put_ends.Given as goal

-- the links passed hold the nodes where they end, and the rest of the column of beginnings, over what stands now, makes the whole
abbrev pub invariant-loop-i : goal.invariant-loop-i
invariant-loop-i l = let cs = components_in l.components in
    let ks = couplings_in l.couplings in
    let src = λ (k : ℕ). link_end Source cs ks (1 + k) in
    (length l.targets ≡ length l.initial.targets) × Held (link_end Target cs ks) l.i l.targets × (column (source_at + 1) src (l.n - l.i) l.i l.t ≡ column (source_at + 1) src l.n 0 l.initial.t)
