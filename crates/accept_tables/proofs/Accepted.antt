-- What a call takes of an accepted model: its records are few, and the filled tables are its own. Assumes nothing.
use mathlib.Core.Path.{◌≡◌, sym, subst}
use Prim.Native.Nat.{ℕ, ◌≤◌, ◌<◌}
use mathlib.Core.List.{List}
use native.Mathlib.Omega.{arith}
use lib.ListN.{length, get_or}
use Rattle.definition.specs.Bytes.{Bytes, ok}
use Rattle.definition.specs.Limits.{max_components, max_rules, max_couplings}
use Rattle.definition.specs.Model.{atomics}
use Rattle.definition.specs.Pinned.Decoder.{accepted}
use Rattle.law_base.specs.Ranges.{ranges_of}
use Rattle.law_bytes.proofs.Slices.{all-bytes}
use Rattle.law_model.proofs.WellFormed.{Accepted}
use Rattle.law_model.proofs.Reading.{accepted_sound}
use Rattle.model_records.specs.Values.{components_in, rules_in, couplings_in, model_in}
use Rattle.model_file.specs.Checked.{model_of, components_part, rules_part, couplings_part}
use Rattle.model_file.specs.declared.Counts.{Counts}
use Rattle.table_couplings.specs.Links.{Begun}
use Rattle.accept_routes.specs.Routed.{Linked}
use Rattle.spec_step.specs.TablesOf.{TablesOf}
use Rattle.table_fill.specs.Filled.{filled}
use Rattle.model_records.proofs.Counting.{atomics-most}
use Rattle.table_fill.proofs.Ranged.{tables-of}

module _ (file : Bytes) (n : Counts) (bytes : (i : ℕ) → get_or file i 0 < 256) (told : ok (model_of file n) ≡ accepted file) where
  pub fine : Accepted (model_of file n)
  fine = accepted_sound file (model_of file n) (all-bytes file bytes) (sym told)

  -- no section has more records than its limit
  pub few-records : (length (components_in (components_part file n)) ≤ max_components) × (length (rules_in (rules_part file n)) ≤ max_rules) × (length (couplings_in (couplings_part file n)) ≤ max_couplings)
  unfolding model_of model_in
  few-records = (fine.sound.components.few, fine.sound.rules.few, fine.sound.couplings.few)

  pub few-atomics : length (atomics (model_of file n).components) ≤ max_components
  few-atomics = omega (arith, atomics-most (model_of file n).components, fine.sound.components.few)

  -- the tables, by what the code has: the parts, and what was filled from them
  pub tables-filled : (cs rs ks : Bytes) (t : List ℕ) → cs ≡ components_part file n → rs ≡ rules_part file n → ks ≡ couplings_part file n
      → t ≡ filled (components_in cs) (rules_in rs) (couplings_in ks) (ranges_of n.half_open) → TablesOf (model_of file n) t
  unfolding model_of model_in
  tables-filled cs rs ks t p q r e =
      let f : t ≡ filled (components_in (components_part file n)) (rules_in (rules_part file n)) (couplings_in (couplings_part file n)) (ranges_of n.half_open) = rw (p, q, r) at e in
      subst (TablesOf (model_of file n)) (sym f) (tables-of (model_of file n) fine.sound)

  -- the words of the links, of the parts as they were cut
  pub linked-parts : (cs ks : Bytes) (targets t : List ℕ) → cs ≡ components_part file n → ks ≡ couplings_part file n → Linked file n targets t
      → Begun (components_in cs) (couplings_in ks) targets t
  linked-parts cs ks targets t p r l = rw (p, r) l
