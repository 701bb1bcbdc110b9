-- What the decoder has checked of a model that it gave, said of the model itself: reading shows it, writing needs it, and the theory
-- takes it in place of bytes. Assumes nothing.
use mathlib.Core.Path.{◌≡◌}
use Prim.Native.Nat.{ℕ, ◌≤◌, ◌<◌}
use mathlib.Core.List.{List, map}
use mathlib.Core.Bool.{Bool, true, ◌&&◌}
use lib.ListN.{length, get_or}
use lib.Dec.{ltb}
use borrow.Author.Tests.{ltb-true}
use Rattle.definition.specs.Lists.{all}
use Rattle.definition.specs.Bytes.{Bytes}
use Rattle.definition.specs.Limits.{max_components, max_phases, max_rules, max_couplings, max_routes, port_count}
use Rattle.definition.specs.Model.{Component, Model, no_rule, no_coupling, Coupling}
use Rattle.definition.specs.Records.{component_bytes, phase_bytes, rule_bytes, coupling_bytes}
use Rattle.definition.specs.File.{phase_total}
use Rattle.definition.specs.Routes.{routes}
use Rattle.definition.specs.Pinned.Decoder.{to_component, component_fits, to_phase, phase_fits, to_rule, rule_fields, rule_fits, to_coupling, coupling_fields, coupling_fits, elapsed_fits, related}
use Rattle.law_base.proofs.Tests.{and_left, and_right}
use Rattle.law_base.proofs.Lists.{all-places}

-- The records of one section: no more than its limit, each spelled by its bytes, each keeping the lines of document 01.
pub record Checked {A : Type 0} (limit : ℕ) (to : Bytes → A) (bytes : A → Bytes) (fits : List A → ℕ → Bool) (xs : List A) : Type 0 where
  pub few : length xs ≤ limit
  pub held : map (λ x. to (bytes x)) xs ≡ xs
  pub fit : (i : ℕ) → i < length xs → fits xs i ≡ true

pub record WellFormed (m : Model) : Type 0 where
  pub some_component : 0 < length m.components
  pub components : Checked max_components to_component component_bytes component_fits m.components
  pub phase_count : length m.phases ≡ phase_total m.components
  pub phases : Checked max_phases to_phase phase_bytes (phase_fits m.components) m.phases
  pub rules : Checked max_rules to_rule rule_bytes (rule_fits m.components) m.rules
  pub couplings : Checked max_couplings to_coupling coupling_bytes (coupling_fits m.components) m.couplings
  pub ranges : all (elapsed_fits m.ranges) m.rules ≡ true

-- What acceptance gives: soundness, and few routes.
pub record Accepted (m : Model) : Type 0 where
  pub sound : WellFormed m
  pub few_routes : length (routes m) ≤ max_routes

-- Each component keeps its lines.
abbrev pub ComponentsFit : List Component → Type 0
ComponentsFit cs = (i : ℕ) → i < length cs → component_fits cs i ≡ true

-- ---- rules and couplings as lists

module _ (m : Model) (w : WellFormed m) where
  pub rules-fit : all (rule_fields m.components) m.rules ≡ true
  unfolding rule_fits
  rules-fit = all-places (rule_fields m.components) no_rule m.rules w.rules.fit

  pub couplings-fit : all (coupling_fields m.components) m.couplings ≡ true
  unfolding coupling_fits
  couplings-fit = all-places (coupling_fields m.components) no_coupling m.couplings (λ i l. and_left (coupling_fields m.components (get_or m.couplings i no_coupling)) _ (w.couplings.fit i l))

-- ---- what a coupling keeps, line by line

pub record Kept (cs : List Component) (k : Coupling) : Type 0 where
  pub source : k.source < length cs
  pub target : k.target < length cs
  pub source_port_lem : k.source_port < port_count
  pub target_port_lem : k.target_port < port_count
  pub kin : related cs k.source k.target ≡ true

pub kept : (cs : List Component) (k : Coupling) → coupling_fields cs k ≡ true → Kept cs k
unfolding coupling_fields
kept cs k e =
    let a = ltb k.source (length cs) in
    let b = ltb k.target (length cs) in
    let c = ltb k.source_port port_count in
    let d = ltb k.target_port port_count in
    let r = related cs k.source k.target in
    let abcd = and_left (a && b && c && d) r e in
    let abc = and_left (a && b && c) d abcd in
    let ab = and_left (a && b) c abc in
    record {
      source = ltb-true _ _ (and_left a b ab);
      target = ltb-true _ _ (and_right a b ab);
      source_port_lem = ltb-true _ _ (and_right (a && b) c abc);
      target_port_lem = ltb-true _ _ (and_right (a && b && c) d abcd);
      kin = and_right (a && b && c && d) r e;
    }
