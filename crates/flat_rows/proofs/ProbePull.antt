-- What is pulled on the tables in the probing step is what is pulled on the model: every mark is up, so that only the table of live nodes saves
-- walks. Assumes nothing.
use mathlib.Core.Path.{◌≡◌, sym, ap, ap₂, ◌∙◌}
use Prim.Native.Nat.{ℕ, suc, ◌+◌, ◌-◌, ◌<◌}
use mathlib.Core.List.{List, []}
use mathlib.Core.Bool.{true, not, cond}
use native.Mathlib.Omega.{arith}
use lib.Dec.{eqb}
use lib.ListN.{length, get_or}
use lib.Seq.{get_or-take, get_or-drop}
use borrow.Author.Tests.{ne_eqb}
use Rattle.definition.specs.Lists.{up_from}
use Rattle.definition.specs.Limits.{max_components, max_ancestors, port_count}
use Rattle.definition.specs.Model.{Bag, Model, no_phase, outputs}
use Rattle.law_base.proofs.Tests.{clash}
use Rattle.law_model.proofs.WellFormed.{WellFormed}
use Rattle.spec_step.specs.Put.{keys_of, values_on}
use Rattle.spec_step.specs.Tables.{node_port}
use Rattle.spec_step.specs.TableStep.{is_up, sent_by, keys_into, root_keys}
use Rattle.spec_step.specs.Tabled.{Tabled}
use Rattle.spec_step.specs.Flags.{flags_size, marks_in, reached_in}
use Rattle.law_step.proofs.Ends.{rising}
use Rattle.law_step.proofs.Positions.{get_or-up}
use Rattle.law_step.proofs.Nodes.{Node, inn, out, rows_at, atomic_at, sent_at, pulled_out, pulled_in}
use Rattle.law_step.proofs.Numbered.{code, code-component, code-port, good, good-in}
use Rattle.law_step.proofs.Closed.{Flags}
use Rattle.law_step.proofs.TablePull as P
use Rattle.flat_probe.specs.Probe.{probes, probe_flags, probe_marks, probe_reached}
use Rattle.flat_rows.proofs.Probed.{probed, probe_entry, probe-out}
use Rattle.flat_probe.proofs.Stored.{probe-at}

mark-at : (c : ℕ) → c < max_components → get_or probe_marks c 0 ≡ suc c
unfolding marks_in probe_flags
mark-at c l = get_or-take max_components (up_from 1 flags_size) c 0 l ∙ get_or-up 1 flags_size c (omega arith) ∙ omega arith

reach-at : (c : ℕ) → c < max_components → get_or probe_reached c 0 ≡ suc (max_components + c)
unfolding reached_in probe_flags
reach-at c l = get_or-drop max_components (up_from 1 flags_size) c 0 ∙ get_or-up 1 flags_size (max_components + c) (omega arith) ∙ omega arith

mark-up : (c : ℕ) → c < max_components → is_up probe_marks c ≡ true
unfolding is_up
mark-up c l = ap (λ n. not (eqb n 0)) (mark-at c l) ∙ ap not (ne_eqb (suc c) 0 (omega arith))

reach-up : (c : ℕ) → c < max_components → is_up probe_reached c ≡ true
unfolding is_up
reach-up c l = ap (λ n. not (eqb n 0)) (reach-at c l) ∙ ap not (ne_eqb (suc (max_components + c)) 0 (omega arith))

module _ (m : Model) (w : WellFormed m) (t : List ℕ) (h : Tabled m t) (x : Bag) where
  abbrev sends : Node → List ℕ
  sends = sent_at (probed m) (probe_entry m) 0

  sent_is : (y : Node) → good m w y ≡ true → atomic_at m y ≡ true → sent_by probes probe_marks (code y) ≡ sends y
  unfolding sent_by sent_at
  sent_is y g e =
      let i = good-in m w y g in
      let c = y.component in
      let l : c < max_components = omega (arith, i.0, w.components.few) in
      let n : suc c - 1 ≡ c = omega arith in
      ap (λ n. cond (eqb n 0) [] (values_on (node_port (code y)) (outputs (get_or probes (n - 1) no_phase)))) (ap (λ c. get_or probe_marks c 0) (code-component y i.1) ∙ mark-at c l)
      ∙ ap (λ b. cond b [] (values_on (node_port (code y)) (outputs (get_or probes (suc c - 1) no_phase)))) (ne_eqb (suc c) 0 (omega arith))
      ∙ ap (λ k. values_on (node_port (code y)) (outputs (get_or probes k no_phase))) n
      ∙ ap₂ values_on (code-port y i.1) (ap outputs (probe-at c l) ∙ sym (probe-out m c l))

  flagged : Flags m w t probes probe_marks probe_reached x sends
  flagged = record {
    sent = sent_is;
    marks_down = λ c d k l e. absurd (clash (mark-up c (omega (arith, rising m w c d k l, w.components.few))) e);
    flags_down = λ c q b l p e. absurd (clash (reach-up c (omega (arith, w.components.few))) e);
    root_down = λ e. absurd (clash (reach-up 0 (omega arith)) e);
  }

  pub keys-into : (c : ℕ) → c < length m.components
      → keys_into probes t probe_marks probe_reached x c ≡ keys_of (λ q. pulled_in (probed m) (probe_entry m) 0 x max_ancestors (inn c q)) port_count 0
  unfolding rows_at atomic_at
  keys-into = P.keys-into m w t h probes probe_marks probe_reached x sends flagged

  pub root-keys : root_keys probes t probe_marks probe_reached ≡ keys_of (λ q. pulled_out (probed m) (probe_entry m) 0 max_ancestors (out 0 q)) port_count 0
  unfolding rows_at atomic_at
  root-keys = P.root-keys m w t h probes probe_marks probe_reached x sends flagged
