-- Where the words of the links are the couplings' nodes, the passes over the links are the passes over the couplings: a coupling leads down
-- exactly where it begins at an input. So the table counts the ways. Assumes nothing.
use mathlib.Core.Path.{◌≡◌, refl, sym, ap, ap₂, ◌∙◌, subst}
use mathlib.Core.List.{List}
use mathlib.Core.Bool.{Bool, true, false, not, cond, beq}
use Prim.Native.Nat.{ℕ, zero, suc, ◌+◌, ◌*◌, ◌<◌, ◌≤◌}
use native.Mathlib.Omega.{arith}
use native.Mathlib.Numerals.{add-one}
use lib.ListN.{length, get_or}
use Rattle.definition.specs.Limits.{max_components}
use Rattle.definition.specs.Model.{Component, Coupling, no_coupling, is_child}
use Rattle.law_routes.specs.Nodes.{port_nodes, source_number, target_number}
use Rattle.law_routes.specs.Ways.{end_at, WaysCounted, Placed}
use Rattle.law_routes.specs.Taken.{taken, taken_down, taken_up, Filled, down_from, up_to}
use Rattle.law_routes.proofs.Placed.{kept_at}
use Rattle.law_model.proofs.WellFormed.{Kept}
use Rattle.law_routes.proofs.Passes.{down-start, down_turn, up_start, up_turn, up-end}
use Rattle.table_words.specs.Writes.{column}
use Rattle.table_words.proofs.Columns.{column-within, column-rows}
use Rattle.table_couplings.specs.declared.End.TheVariants.{Source, Target}
use Rattle.table_couplings.specs.Links.{source_in, OnNodes, Joined}
use Rattle.table_couplings.proofs.Loops.{end-next}
use Rattle.table_couplings.proofs.Nodes.{source-side}
use Rattle.accept_ways.specs.Words.{link_taken, link_on, ways_down, ways_up}
use Rattle.accept_ways.proofs.Loops.{on-long, down-whole}

-- ---- one coupling

-- in either pass
abbrev taken_on : Bool → List Component → Coupling → List ℕ → List ℕ
taken_on true = taken_up
taken_on false = taken_down

on-is : (output : Bool) (cs : List Component) (k : Coupling) → Kept cs k → (ways : List ℕ)
    → link_on output (source_number cs k) (target_number cs k) ways ≡ taken_on output cs k ways
unfolding link_on link_taken taken_down taken_up taken
on-is output cs k w ways = rw (source-side cs k w) (go output (is_child cs k.source k.target) refl)
  where
    go : (output b : Bool) → is_child cs k.source k.target ≡ b → cond (beq (not b) output) (taken cs k ways) ways ≡ taken_on output cs k ways
    go true true e = rw e
    go true false e = rw e
    go false true e = rw e
    go false false e = rw e

-- ---- all couplings

module _ (cs : List Component) (ks : List Coupling) (p : Placed cs ks) (targets t : List ℕ) (w : Joined cs ks targets t) where
  abbrev src : ℕ → ℕ
  src = source_in t

  abbrev tgt : ℕ → ℕ
  tgt j = get_or targets j 0

  abbrev at : ℕ → Coupling
  at i = get_or ks i no_coupling

  pub words-on-nodes : OnNodes src tgt (length ks)
  words-on-nodes j a b = rw (w.begins j a b, w.ends j a b) (w.nodes j a b)

  -- link i + 1 is coupling i
  src-is : (i : ℕ) → i < length ks → src (i + 1) ≡ source_number cs (at i)
  src-is i l = w.begins (i + 1) (omega arith) (omega arith) ∙ sym (end-next Source cs ks i)

  tgt-is : (i : ℕ) → i < length ks → tgt (i + 1) ≡ target_number cs (at i)
  tgt-is i l = w.ends (i + 1) (omega arith) (omega arith) ∙ sym (end-next Target cs ks i)

  on-link : (output : Bool) (i : ℕ) (ways : List ℕ) → i < length ks → link_on output (src (i + 1)) (tgt (i + 1)) ways ≡ taken_on output cs (at i) ways
  on-link output i ways l =
      ap₂ (λ x y. link_on output x y ways) (src-is i l) (tgt-is i l) ∙ on-is output cs (at i) (kept_at cs ks p.couplings i l) ways

  downs : (j : ℕ) (ways : List ℕ) → j ≤ length ks → port_nodes * length cs ≤ length ways → Filled cs ks (down_from cs ks j) ways
      → Filled cs ks (down_from cs ks 0) (ways_down src tgt j ways)
  unfolding ways_down
  downs zero ways l room f = f
  downs (suc j) ways l room f =
      let e = add-one j in
      let h : link_on false (src (suc j)) (tgt (suc j)) ways ≡ taken_down cs (at j) ways = ap (λ i. link_on false (src i) (tgt i) ways) (sym e) ∙ on-link false j ways (omega arith) in
      downs j (link_on false (src (suc j)) (tgt (suc j)) ways) (omega arith) (omega (arith, on-long false (src (suc j)) (tgt (suc j)) ways))
      (subst (Filled cs ks (down_from cs ks j)) (sym h)
      (down_turn cs ks p.components p.couplings ways j (omega arith) room (subst (λ i. Filled cs ks (down_from cs ks i) ways) (sym e) f)))

  ups : (m i : ℕ) (ways : List ℕ) → i + m ≡ length ks → port_nodes * length cs ≤ length ways → Filled cs ks (up_to cs ks i) ways
      → WaysCounted cs ks (ways_up src tgt m (i + 1) ways)
  unfolding ways_up
  ups zero i ways e room f = up-end cs ks p.components p.couplings ways i (omega arith) f
  ups (suc m) i ways e room f =
      ups m (i + 1) (link_on true (src (i + 1)) (tgt (i + 1)) ways) (omega arith) (omega (arith, on-long true (src (i + 1)) (tgt (i + 1)) ways))
      (subst (Filled cs ks (up_to cs ks (i + 1))) (sym (on-link true i ways (omega arith)))
      (up_turn cs ks p.components p.couplings ways i (omega arith) room f))

  -- both passes, from the ends alone
  pub ways-counted : length cs ≤ max_components → (ways : List ℕ) → length ways ≡ port_nodes * max_components
      → WaysCounted cs ks (ways_up src tgt (length ks) 1 (ways_down src tgt (length ks) (column 0 (end_at cs) (port_nodes * length cs) 0 ways)))
  ways-counted few ways long =
      let m = port_nodes * length cs in
      let begin = column 0 (end_at cs) m 0 ways in
      let l = (column-within 0 (end_at cs) m ways).long in
      let down = downs (length ks) begin (omega arith) (omega arith)
      (down-start cs ks p.components p.couplings begin (column-rows (end_at cs) m begin ways refl (omega arith))) in
      ups (length ks) 0 (ways_down src tgt (length ks) begin) (omega arith) (omega (arith, down-whole src tgt (length ks) begin))
      (up_start cs ks p.components p.couplings (ways_down src tgt (length ks) begin) down)
