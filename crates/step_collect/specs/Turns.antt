-- The other turn of each of the two recursions: what is pulled from a child, and from a node that leads to an input node. Assumes nothing.
use Rattle.std.specs.Prelude.{ℕ, List}
use Rattle.definition.specs.Model.{Bag, Phase}
use Rattle.spec_step.specs.Pull.{child_out, source_in}
use Rattle.spec_step.specs.Tables.{is_output, is_root_node, atomic_node}
use Rattle.spec_step.specs.TableStep.{open_rows, sent_by, given_by, pulled_below, pulled_into}

abbrev pub pulled_child : List Phase → List ℕ → List ℕ → List ℕ → ℕ → ℕ → List ℕ
pulled_child ps t es fs d = child_out (open_rows t es fs) (atomic_node t) (sent_by ps es) (pulled_below ps t es fs d)

abbrev pub pulled_from : List Phase → List ℕ → List ℕ → List ℕ → Bag → ℕ → ℕ → List ℕ
pulled_from ps t es fs x d =
    source_in (open_rows t es fs) (atomic_node t) (sent_by ps es) (given_by x) is_root_node is_output (pulled_into ps t es fs x d)
