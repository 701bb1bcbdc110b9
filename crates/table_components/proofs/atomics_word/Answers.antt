-- There are no more atomics than components, so that their number fits a word. Assumes nothing.
use borrow.Author.Rules.{rules}
use native.Mathlib.Omega.{arith}
use Rattle.model_records.specs.Values.{components_in}
use Rattle.model_records.proofs.Counting.{atomics-most}
use Rattle.table_components.proofs.atomics_word.Goals as goal

pub overflow_cast-result : goal.overflow_cast-result
overflow_cast-result c = record { fits = omega (arith, c.atomic_count.ensures, atomics-most (components_in c.args.components.now), c.requires) }
