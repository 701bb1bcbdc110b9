-- Pulling by tables is pulling on the model: the tables have the model's rows by number, and leaving out the rows of nodes whose flag is down
-- changes nothing. Assumes nothing.
use mathlib.Core.Path.{◌≡◌, refl, ap, ap₂, ◌∙◌}
use Prim.Native.Nat.{ℕ, zero, suc, ◌+◌, ◌≤◌, ◌<◌}
use mathlib.Core.List.{List, [], map, ◌++◌}
use mathlib.Core.Bool.{Bool, true, false, cond}
use native.Mathlib.Omega.{arith}
use lib.ListN.{length}
use Rattle.definition.specs.Lists.{all}
use Rattle.definition.specs.Limits.{max_ancestors, port_count}
use Rattle.definition.specs.Model.{Bag, Model, Phase}
use Rattle.law_model.proofs.WellFormed.{WellFormed}
use Rattle.spec_step.specs.Pull.{coupled_out, input_in}
use Rattle.law_base.specs.Keys.{key_of}
use Rattle.spec_step.specs.Put.{keys_of, values_on}
use Rattle.law_routes.specs.Nodes.{input_node, output_node}
use Rattle.spec_step.specs.Tables.{is_output, is_root_node, chain_rows, atomic_node}
use Rattle.spec_step.specs.TableStep.{is_open, open_rows, sent_by, given_by, keys_into, root_keys}
use Rattle.spec_step.specs.Tabled.{Tabled}
use Rattle.law_step.proofs.Nodes.{Node, inn, out, rows_at, atomic_at, given_at, root_at, output_at}
use Rattle.law_step.proofs.Numbered.{code, code-port, code-output, code-root, good, good-in, good-node, rows-good, rows_are, atomic-is}
use Rattle.law_step.proofs.Pruned.{open_only, pruned-out, pruned-in}
use Rattle.law_step.proofs.Coded.{coupled-code, input-code}
use Rattle.law_step.proofs.Closed.{Flags, up, out-good, closed-out, empty, closed_in}

keys-cong : (f g : ℕ → List ℕ) (n q : ℕ) → ((i : ℕ) → q ≤ i → i < q + n → f i ≡ g i) → keys_of f n q ≡ keys_of g n q
unfolding keys_of
keys-cong f g zero q h = refl
keys-cong f g (suc n) q h = ap₂ ◌++◌ (ap (map (key_of q)) (h q (omega arith) (omega arith))) (keys-cong f g n (q + 1) (λ i a b. h i (omega arith) (omega arith)))

module _ (m : Model) (w : WellFormed m) (t : List ℕ) (h : Tabled m t) (ps : List Phase) (es fs : List ℕ) (x : Bag) (sends : Node → List ℕ)
    (k : Flags m w t ps es fs x sends) where
  abbrev flag : Node → Bool
  flag = up m w t h ps es fs x sends k

  -- ---- by numbers

  abbrev Open : Node → List Node
  Open = open_only (rows_at m) (atomic_at m) sends output_at (good m w) flag

  open-are : (y : Node) → good m w y ≡ true → open_rows t es fs (code y) ≡ map code (Open y)
  unfolding open_rows open_only up
  open-are y g = go (is_open t es fs (code y))
    where
      go : (b : Bool) → cond b (chain_rows t (code y)) [] ≡ map code (cond b (rows_at m y) [])
      go true = rows_are m w t h y g
      go false = refl

  open-good : (y : Node) → good m w y ≡ true → all (good m w) (Open y) ≡ true
  unfolding open_only all
  open-good y g = go (flag y)
    where
      go : (b : Bool) → all (good m w) (cond b (rows_at m y) []) ≡ true
      go true = rows-good m w y
      go false = refl

  given_is : (y : Node) → good m w y ≡ true → root_at y ≡ true → given_by x (code y) ≡ given_at x y
  unfolding given_by given_at
  given_is y g r = ap (λ q. values_on q x) (code-port y (good-in m w y g).1)

  -- ---- the two bags

  below-is : (d c q : ℕ) → c < length m.components → q < port_count
      → coupled_out (open_rows t es fs) (atomic_node t) (sent_by ps es) d (output_node c q) ≡ coupled_out (rows_at m) (atomic_at m) sends d (out c q)
  unfolding code output_at
  below-is d c q l p =
      let g = good-node m w (out c q) l p in
      coupled-code code (good m w) Open (atomic_at m) sends (open_rows t es fs) (atomic_node t) (sent_by ps es) open-are open-good (atomic-is m w t h) k.sent d (out c q) g
      ∙ pruned-out (rows_at m) (atomic_at m) sends output_at (good m w) flag (out-good m w t h ps es fs x sends k) (closed-out m w t h ps es fs x sends k) d (out c q) g refl

  into-is : (d c q : ℕ) → c < length m.components → q < port_count
      → input_in (open_rows t es fs) (atomic_node t) (sent_by ps es) (given_by x) is_root_node is_output d (input_node c q)
      ≡ input_in (rows_at m) (atomic_at m) sends (given_at x) root_at output_at d (inn c q)
  unfolding code output_at
  into-is d c q l p =
      let g = good-node m w (inn c q) l p in
      input-code code (good m w) Open (atomic_at m) sends (open_rows t es fs) (atomic_node t) (sent_by ps es) open-are open-good (atomic-is m w t h) k.sent
      (given_at x) root_at output_at (given_by x) is_root_node is_output given_is (λ y e. code-root y (good-in m w y e).1) (λ y e. code-output y (good-in m w y e).1) d (inn c q) g
      ∙ pruned-in (rows_at m) (atomic_at m) sends output_at (good m w) flag (out-good m w t h ps es fs x sends k) (closed-out m w t h ps es fs x sends k) (given_at x) root_at (λ y e o. rows-good m w y)
      (empty m w t h ps es fs x sends k) (closed_in m w t h ps es fs x sends k) d (inn c q) g refl

  pub keys-into : (c : ℕ) → c < length m.components
      → keys_into ps t es fs x c ≡ keys_of (λ q. input_in (rows_at m) (atomic_at m) sends (given_at x) root_at output_at max_ancestors (inn c q)) port_count 0
  unfolding keys_into
  keys-into c l = keys-cong _ _ port_count 0 (λ q a b. into-is max_ancestors c q l (omega arith))

  pub root-keys : root_keys ps t es fs ≡ keys_of (λ q. coupled_out (rows_at m) (atomic_at m) sends max_ancestors (out 0 q)) port_count 0
  unfolding root_keys
  root-keys = keys-cong _ _ port_count 0 (λ q a b. below-is max_ancestors 0 q w.some_component (omega arith))
