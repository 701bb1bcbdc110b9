-- The beginnings of the links are read from the table while flags are spread: neither chains nor flags move one. Assumes nothing.
use mathlib.Core.Path.{◌≡◌, ap, ◌∙◌}
use Prim.Native.Nat.{ℕ, zero, suc, ◌+◌, ◌*◌, ◌<◌, ◌≤◌}
use mathlib.Core.List.{List}
use mathlib.Core.Bool.{Bool, true, false, cond}
use mathlib.Core.Logic.{inr}
use native.Mathlib.Omega.{arith}
use lib.ListN.{length, get_or}
use Rattle.definition.specs.Limits.{max_components, max_couplings}
use Rattle.definition.specs.Model.{Component, Coupling}
use Rattle.spec_step.specs.Tables.{port_nodes, first_at, live_at, next_at, source_at}
use Rattle.spec_step.specs.Tabled.{is_live}
use Rattle.table_words.specs.Writes.{put_in, linked}
use Rattle.table_words.proofs.Columns.{Within, within_none, within_both, within-put, column-within}
use Rattle.table_words.proofs.Chains.{linked-cong, linked-else}
use Rattle.table_couplings.specs.declared.End.TheVariants.{Source, Target}
use Rattle.table_couplings.specs.Links.{link_end, source_in, OnNodes, Joined, source_flag, marked, spread, spread_up, spread_down, by_link, by_coupling}
use Rattle.table_couplings.proofs.Loops.{up-cong, down-cong}

-- ---- flags

pub spread-within : (x y : ℕ) (t : List ℕ) → Within live_at (live_at + port_nodes * max_components) t (spread x y t)
unfolding spread
spread-within x y t = go (is_live t x)
  where
    go : (b : Bool) → Within live_at (live_at + port_nodes * max_components) t (cond b (put_in live_at (port_nodes * max_components) y 1 t) t)
    go true = within-put live_at (port_nodes * max_components) y 1 t
    go false = within_none live_at (live_at + port_nodes * max_components) t

pub up-within : (src tgt : ℕ → ℕ) (j : ℕ) (t : List ℕ) → Within live_at (live_at + port_nodes * max_components) t (spread_up src tgt j t)
unfolding spread_up
up-within src tgt zero t = within_none live_at (live_at + port_nodes * max_components) t
up-within src tgt (suc j) t =
    within_both (omega arith) (omega arith) (omega arith) (omega arith)
    (spread-within (src (suc j)) (tgt (suc j)) t) (up-within src tgt j (spread (src (suc j)) (tgt (suc j)) t))

-- ---- the tables in the order in which they are written

module _ (cs : List Component) (ks : List Coupling) (targets t : List ℕ) (few : length cs ≤ max_components) (most : length ks ≤ max_couplings)
    (joined : Joined cs ks targets t)
  where
    abbrev src : ℕ → ℕ
    src = link_end Source cs ks

    abbrev tgt : ℕ → ℕ
    tgt = link_end Target cs ks

    abbrev pub held : ℕ → ℕ
    held j = get_or targets j 0

    abbrev pub ready_by : (ℕ → ℕ) → List ℕ
    ready_by key = marked live_at source_flag cs (linked first_at (port_nodes * max_components) next_at key (length ks) t)

    ready-source : (key : ℕ → ℕ) (j : ℕ) → 0 < j → j ≤ length ks → source_in (ready_by key) j ≡ src j
    ready-source key j p q =
        (column-within live_at (source_flag cs) (port_nodes * length cs) (linked first_at (port_nodes * max_components) next_at key (length ks) t)).above (source_at + j) (omega arith)
        ∙ linked-else first_at (port_nodes * max_components) next_at (omega arith) key (length ks) t (source_at + j) (inr (omega arith)) (inr (omega arith))
        ∙ joined.begins j p q

    -- so the links still join nodes that there is room for
    pub ready-nodes : (s : List ℕ) → s ≡ ready_by held → OnNodes (source_in s) held (length ks)
    ready-nodes s e j p q =
        let x : source_in s j ≡ src j = ap (λ s. source_in s j) e ∙ ready-source held j p q in
        rw (x, joined.ends j p q) (joined.nodes j p q)

    abbrev pub upward : List ℕ → List ℕ
    upward s = spread_up (source_in s) held (length ks) s

    pub spread-nodes : (s r : List ℕ) → s ≡ upward r → r ≡ ready_by held → OnNodes (source_in s) held (length ks)
    spread-nodes s r f e j p q =
        let x : source_in s j ≡ source_in r j = ap (λ s. source_in s j) f ∙ (up-within (source_in r) held (length ks) r).above (source_at + j) (omega arith) in
        rw x (ready-nodes r e j p q)

    abbrev pub downward : List ℕ → List ℕ
    downward s = spread_down (source_in s) held (length ks) 1 s

    abbrev ready : List ℕ
    ready = ready_by tgt

    up-ready : upward ready ≡ spread_up src tgt (length ks) ready
    up-ready = up-cong (source_in ready) held src tgt (length ks) ready (ready-source tgt) joined.ends

    down-ready : downward (spread_up src tgt (length ks) ready) ≡ spread_down src tgt (length ks) 1 (spread_up src tgt (length ks) ready)
    down-ready =
        let s = spread_up src tgt (length ks) ready in
        down-cong (source_in s) held src tgt (length ks) 1 s
        (λ j p q. (up-within src tgt (length ks) ready).above (source_at + j) (omega arith) ∙ ready-source tgt j (omega arith) (omega arith))
        (λ j p q. joined.ends j (omega arith) (omega arith))

    pub links-whole : downward (upward (ready_by held)) ≡ by_coupling cs ks t
    unfolding by_link by_coupling
    links-whole =
        ap (λ s. downward (upward (marked live_at source_flag cs s))) (linked-cong first_at (port_nodes * max_components) next_at held tgt (length ks) t joined.ends)
        ∙ ap downward up-ready ∙ down-ready
