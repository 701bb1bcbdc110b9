-- The keys are the parents, and the links of the definition read only those that were written (column-rows, linked-cong). Assumes nothing.
use borrow.Author.Rules.{rules}
use native.Mathlib.Omega.{arith}
use Rattle.table_components.specs.declared.Field.TheVariants.{Parent}
use Rattle.table_words.proofs.Chains.{linked-cong}
use Rattle.table_words.proofs.Columns.{column-rows}
use Rattle.table_words.specs.Writes.{linked}
use Rattle.spec_step.specs.Tables.{child_at, sibling_at}
use Rattle.definition.specs.Limits.{max_components}
use lib.ListN.{length, get_or, replicate}
use mathlib.Core.Path.{◌≡◌, ap, ◌∙◌}
use Prim.Native.Nat.{ℕ, ◌-◌, ◌<◌, ◌≤◌}
use Rattle.table_components.specs.Columns.{by_parent, field_at}
use Rattle.model_records.specs.Values.{components_in}
use Rattle.table_components.proofs.fill_children.Goals as goal

pub returns : goal.returns
unfolding by_parent
returns c =
    let a = c.args in
    let cs = components_in a.components.now in
    let f = field_at Parent cs in
    let k : c.less_one-n.result ≡ length cs - 1 = c.less_one-n.ensures ∙ ap (λ n. n - 1) c.count_word.ensures in
    let ps = c.put_fields.new.t in
    let r : (j : ℕ) → 0 < j → j ≤ length cs - 1 → get_or ps j 0 ≡ f j = λ j p l. column-rows f (length cs) ps (replicate max_components 0) c.put_fields.ensures (omega arith) j (omega arith) in
    c.link_all.ensures ∙ ap (λ n. linked child_at max_components sibling_at (λ j. get_or ps j 0) n a.t.now) k
    ∙ linked-cong child_at max_components sibling_at (λ j. get_or ps j 0) f (length cs - 1) a.t.now r
