-- Laws of pulling, as the two recursions meet them: one coupling more of a chain, and a node that is open, shut, or the root's.
-- Assumes nothing.
use mathlib.Core.Path.{◌≡◌, refl, sym, ◌∙◌, ap}
use mathlib.Core.List.{List, [], map}
use mathlib.Core.Bool.{Bool, true, false, ◌&&◌, not, true≢false, and-false}
use Prim.Native.Nat.{ℕ, zero, suc, ◌+◌, ◌-◌, ◌*◌, ◌/◌, ◌%◌, ◌≤◌, ◌<◌}
use native.Mathlib.Omega.{arith}
use lib.Dec.{eqb}
use lib.ListN.{get_or, length}
use borrow.Author.Tests.{lt-ltb, le-ltb, eqb-false, ne_eqb, eq-eqb}
use Rattle.definition.specs.Limits.{max_components, max_couplings, port_count}
use Rattle.definition.specs.Bytes.{Bytes}
use Rattle.definition.specs.Engine.{to_bag}
use Rattle.spec_step.specs.Pull.{joined, coupled_out, input_in}
use Rattle.spec_step.specs.Put.{values_on, puts, put_ports}
use Rattle.spec_step.specs.Tables.{source_at, next_at, first_at, live_at, links, chain_rows, port_nodes, input_node, output_node, node_component, node_port, is_root_node, is_output}
use Rattle.spec_step.specs.Ranges.{max_nodes, InRange}
use Rattle.spec_step.specs.TableStep.{is_up, may_come, is_open, open_rows, given_by}
use Rattle.spec_step.specs.Flags.{reached_in}
use Rattle.step_keys.proofs.Laws.{puts-append, puts_none}
use Rattle.step_collect.specs.Collected.{open_in, leaving, leaving_child, arriving, arriving_from}

-- ---- chains

-- The nodes where the couplings begin that are left of a chain.
abbrev pub rows_from : List ℕ → ℕ → ℕ → List ℕ
rows_from t left link = map (λ j. get_or t (source_at + j) 0) (links (λ j. get_or t (next_at + j) 0) left link)

pub rows-first : (t : List ℕ) (x : ℕ) → chain_rows t x ≡ rows_from t max_couplings (get_or t (first_at + x) 0)
unfolding chain_rows
rows-first t x = refl

-- one coupling more, after i of n at most
chain_more : (F : ℕ → List ℕ) (t : List ℕ) (port n i link : ℕ) (st : List ℕ × ℕ) → i < n → (link ≡ 0 → ⊥)
    → puts port (joined F (rows_from t (n - (i + 1)) (get_or t (next_at + link) 0))) (puts port (F (get_or t (source_at + link) 0)) st)
    ≡ puts port (joined F (rows_from t (n - i) link)) st
unfolding joined links
chain_more F t port n i link st h some =
    let e : n - i ≡ suc (n - (i + 1)) = omega arith in
    rw (e, ne_eqb link 0 some, puts-append)

-- none left
chain_none : (F : ℕ → List ℕ) (t : List ℕ) (port left link : ℕ) (st : List ℕ × ℕ) → link ≡ 0 → puts port (joined F (rows_from t left link)) st ≡ st
unfolding joined links
chain_none F t port zero link st z = puts_none port st
chain_none F t port (suc n) link st z = rw (eq-eqb link 0 z) (puts_none port st)

chain-end : (F : ℕ → List ℕ) (t : List ℕ) (port n i link : ℕ) (st : List ℕ × ℕ) → n ≤ i → puts port (joined F (rows_from t (n - i) link)) st ≡ st
unfolding joined links
chain-end F t port n i link st h = let e : n - i ≡ 0 = omega arith in rw e (puts_none port st)

-- A turn of the loop over a node's couplings, after i of them: what is put so far and what the rest of the chain gives is the whole.
pub record Turn (F : ℕ → List ℕ) (t : List ℕ) (port : ℕ) (first : List ℕ) (whole : List ℕ × ℕ) (buf : List ℕ) (next i link : ℕ) : Type 0 where
  pub link_most : link ≤ max_couplings
  pub same_size : length buf ≡ length first
  pub rest : puts port (joined F (rows_from t (max_couplings - i) link)) (buf, next) ≡ whole

pub turn-first : {F : ℕ → List ℕ} {t : List ℕ} {all buf : List ℕ} {port end link : ℕ} (x : ℕ) → InRange t → x < max_nodes
    → joined F (rows_from t max_couplings (get_or t (first_at + x) 0)) ≡ all → link ≡ get_or t (first_at + x) 0
    → Turn F t port buf (puts port all (buf, end)) buf end 0 link
turn-first {all = all} {buf = buf} {port = port} {end = end} x r h k e = record {
  link_most = rw e (r.firsts x h);
  same_size = refl;
  rest = rw e (ap (λ l. puts port l (buf, end)) k);
}

module _ {F : ℕ → List ℕ} {t first buf : List ℕ} {whole : List ℕ × ℕ} {port next i link : ℕ} (turn : Turn F t port first whole buf next i link) where
  -- one coupling more
  pub turn_more : {buf' : List ℕ} {next' source link' : ℕ} → InRange t → i < max_couplings → (link ≡ 0 → ⊥) → length buf' ≡ length buf
      → (buf', next') ≡ puts port (F source) (buf, next) → source ≡ get_or t (source_at + link) 0 → link' ≡ get_or t (next_at + link) 0
      → Turn F t port first whole buf' next' (i + 1) link'
  turn_more r h some size put from to = record {
    link_most = rw to (r.nexts link turn.link_most);
    same_size = size ∙ turn.same_size;
    rest = rw (put, from, to) (chain_more F t port max_couplings i link (buf, next) h some ∙ turn.rest);
  }

  -- none left
  pub turn_none : link ≡ 0 → (buf, next) ≡ whole
  turn_none z = sym (chain_none F t port (max_couplings - i) link (buf, next) z) ∙ turn.rest

  pub turn_end : max_couplings ≤ i → (buf, next) ≡ whole
  turn_end h = sym (chain-end F t port max_couplings i link (buf, next) h) ∙ turn.rest

-- ---- open and shut

not_root : (x : ℕ) → port_nodes ≤ x → is_root_node x ≡ false
unfolding is_root_node
not_root x h = le-ltb x port_nodes h

module _ (phases : Bytes) (tables flags : List ℕ) where
  pub coupled-open : (d x : ℕ) → 0 < d → open_in tables flags x ≡ true
      → joined (leaving_child phases tables flags (d - 1)) (rows_from tables max_couplings (get_or tables (first_at + x) 0)) ≡ leaving phases tables flags d x
  unfolding coupled_out open_rows
  coupled-open zero x h o = absurd (omega arith)
  coupled-open (suc d) x h o =
      let e : suc d - 1 ≡ d = omega arith in
      rw (e, ← rows-first tables x, o)

  pub coupled-shut : (d x : ℕ) → open_in tables flags x ≡ false → leaving phases tables flags d x ≡ []
  unfolding coupled_out open_rows joined
  coupled-shut zero x o = refl
  coupled-shut (suc d) x o = rw o

  node-unreached : (c q : ℕ) → q < port_count → eqb (get_or (reached_in flags) c 0) 0 ≡ true → open_in tables flags (input_node c q) ≡ false
  unfolding is_open may_come is_output node_component is_up input_node
  node-unreached c q k e =
      let m : (port_nodes * c + q) % port_nodes ≡ q = omega arith in
      let n : (port_nodes * c + q) / port_nodes ≡ c = omega arith in
      rw (m, n, lt-ltb q port_count k, e) (and-false (not (eqb (get_or tables (live_at + (port_nodes * c + q)) 0) 0)))

  module _ (given : Bytes) where
    pub input-root : (d x : ℕ) → is_root_node x ≡ true → arriving phases tables flags given d x ≡ values_on (node_port x) (to_bag given)
    unfolding input_in given_by
    input-root zero x r = rw r
    input-root (suc d) x r = rw r

    pub input-open : (d x : ℕ) → is_root_node x ≡ false → 0 < d → open_in tables flags x ≡ true
        → joined (arriving_from phases tables flags given (d - 1)) (rows_from tables max_couplings (get_or tables (first_at + x) 0))
        ≡ arriving phases tables flags given d x
    unfolding input_in open_rows
    input-open zero x r h o = absurd (omega arith)
    input-open (suc d) x r h o =
        let e : suc d - 1 ≡ d = omega arith in
        rw (r, e, ← rows-first tables x, o)

    pub input-shut : (d x : ℕ) → is_root_node x ≡ false → open_in tables flags x ≡ false → arriving phases tables flags given d x ≡ []
    unfolding input_in open_rows joined
    input-shut zero x r o = rw r
    input-shut (suc d) x r o = rw (r, o)

    port-unreached : (d c q : ℕ) → 0 < c → q < port_count → eqb (get_or (reached_in flags) c 0) 0 ≡ true
        → arriving phases tables flags given d (input_node c q) ≡ []
    port-unreached d c q h k e = input-shut d (input_node c q) (not_root (input_node c q) away) (node-unreached c q k e)
      where
        away : port_nodes ≤ input_node c q
        away = unfold input_node in omega arith

    -- the ports of a component other than the root that nothing may reach
    pub unreached : (d c n q : ℕ) (st : List ℕ × ℕ) → (not (eqb c 0) && eqb (get_or (reached_in flags) c 0) 0) ≡ true → q + n ≤ port_count
        → put_ports (λ p. arriving phases tables flags given d (input_node c p)) n q st ≡ st
    unfolding put_ports
    unreached d c zero q st h k = refl
    unreached d c (suc n) q st h k =
        rw (port-unreached d c q here.0 (omega arith) here.1, puts_none q st) (unreached d c n (q + 1) st h (omega arith))
      where
        here : (0 < c) × (eqb (get_or (reached_in flags) c 0) 0 ≡ true)
        here = both (eqb c 0) refl (eqb (get_or (reached_in flags) c 0) 0) refl h
          where
            both : (u : Bool) → eqb c 0 ≡ u → (v : Bool) → eqb (get_or (reached_in flags) c 0) 0 ≡ v → (not u && v) ≡ true
                → (0 < c) × (eqb (get_or (reached_in flags) c 0) 0 ≡ true)
            both false e true f z = (omega (arith, eqb-false c 0 e), f)
            both false e false f z = absurd (true≢false (sym z))
            both true e v f z = absurd (true≢false (sym z))

    pub input_none : (x : ℕ) → is_root_node x ≡ false → arriving phases tables flags given 0 x ≡ []
    unfolding input_in
    input_none x r = rw r

-- ---- ports

-- The nodes of a component that is numbered in range.
pub input-below : (c q : ℕ) → c < max_components → q < port_count → input_node c q < max_nodes
unfolding input_node
input-below c q h k = omega arith

pub root_below : (q : ℕ) → q < port_count → output_node 0 q < max_nodes
unfolding output_node
root_below q k = omega arith

-- one port more
pub ports-more : (values : ℕ → List ℕ) (n q : ℕ) (st : List ℕ × ℕ) → q < n
    → put_ports values (n - (q + 1)) (q + 1) (puts q (values q) st) ≡ put_ports values (n - q) q st
unfolding put_ports
ports-more values n q st h = let e : n - q ≡ suc (n - (q + 1)) = omega arith in rw e

pub ports-none : (values : ℕ → List ℕ) (n q : ℕ) (st : List ℕ × ℕ) → n ≤ q → put_ports values (n - q) q st ≡ st
unfolding put_ports
ports-none values n q st h = let e : n - q ≡ 0 = omega arith in rw e
