-- One step on the tables of a call, in the code's own order: what is due is marked, each atomic's bag is pulled, and each changes. The laws
-- in proofs/ say that this is the definition's step, where the tables are a model's. Assumes nothing.
use Rattle.std.specs.Prelude.{ℕ, zero, suc, ◌+◌, ◌-◌, ◌/◌, min, List, [], ◌∷◌, map, Bool, true, false, ◌&&◌, ◌||◌, not, cond, get_or, set, take, replicate, eqb}
use Rattle.std.proofs.Math.Option.{Option, none, some}
use Rattle.definition.specs.Lists.{is_empty}
use Rattle.definition.specs.Limits.{max_components, max_ancestors, port_count, never_field}
use Rattle.definition.specs.Model.{Bag, Phase, Rule, RangeReading, no_phase, no_rule, outputs}
use Rattle.definition.specs.Devs.{Time, finite, never, earlier, same_time}
use Rattle.definition.specs.Atomic.{told_as, holds}
use Rattle.definition.specs.Step.{Stepped, Simulator}
use Rattle.clock.specs.Times.{latest}
use Rattle.run_state.specs.declared.State.{State}
use Rattle.run_state.specs.Held.{changed_at}
use Rattle.spec_step.specs.Pull.{coupled_out, input_in}
use Rattle.law_base.specs.Keys.{message_of}
use Rattle.spec_step.specs.Put.{values_on, keys_of}
use Rattle.law_routes.specs.Nodes.{input_node, output_node}
use Rattle.spec_step.specs.Tables.{node_component, node_port, is_output, is_root_node, numbers_at, positions_at, orders_at, phases_at}
use Rattle.spec_step.specs.Tables.{parents_at, rules_from_at, rules_to_at, live_at, count_at, ranges_in, chain_rows, child_rows, atomic_at, atomic_node}

-- Some element passes the test.
unfoldable pub any_of : {A : Type 0} → (A → Bool) → List A → Bool
any_of p [] = false
any_of p (x ∷ xs) = p x || any_of p xs

-- The first of the m positions from i on that passes a test.
unfoldable pub first_from : (ℕ → Bool) → ℕ → ℕ → Option ℕ
first_from test zero i = none
first_from test (suc m) i = let rest = first_from test m (i + 1) in cond (test i) (some i) rest

-- The deciding rule among the rules from `first` up to `end`; r is the reading of their elapsed ranges.
unfoldable pub deciding_in : RangeReading → List Rule → ℕ → ℕ → ℕ → ℕ → ℕ → Bag → Option ℕ
deciding_in r rs first end c p e x = first_from (λ i. holds r c p e x (get_or rs i no_rule)) (end - first) first

-- The phase that the rule at a position leads to.
unfoldable pub leads : List Rule → Option ℕ → Option ℕ
leads rs none = none
leads rs (some k) = some (get_or rs k no_rule).next

-- The phase that something was led to, or else the phase p.
unfoldable pub phase_or : ℕ → Option ℕ → ℕ
phase_or p none = p
phase_or p (some q) = q

-- The atomic at position i is led into a phase at `now`, or nowhere, and then nothing changes.
unfoldable pub led_into : ℕ → State → ℕ → Option ℕ → State
led_into now st i none = st
led_into now st i (some p) = changed_at st i p now

-- A flag is up where a list does not hold 0.
unfoldable pub is_up : List ℕ → ℕ → Bool
is_up flags i = not (eqb (get_or flags i 0) 0)

-- A route carries at most 16 messages into an atomic and 4 to the root: where an atomic's bag has room for so many, the root's has room
-- for a quarter.
abbrev pub root_room : ℕ → ℕ
root_room room = room / 4

-- The earliest of some moments.
unfoldable pub least_of : (ℕ → Time) → List ℕ → Time
least_of f [] = never
least_of f (c ∷ cs) = earlier (f c) (least_of f cs)

-- Something may come from node y, by the marks and by the flags of the components before.
unfoldable pub may_come : List ℕ → List ℕ → ℕ → Bool
may_come es fs y = cond (is_output y) (is_up es (node_component y)) (is_up fs (node_component y))

-- The values that an atomic with its mark in es puts out at node x, and those that a bag gives there.
unfoldable pub sent_by : List Phase → List ℕ → ℕ → List ℕ
sent_by ps es x =
    let e = get_or es (node_component x) 0 in
    cond (eqb e 0) [] (values_on (node_port x) (outputs (get_or ps (e - 1) no_phase)))

unfoldable pub given_by : Bag → ℕ → List ℕ
given_by x y = values_on (node_port y) x

-- ---- what the tables alone decide

module _ (t : List ℕ) where
  -- The record of phase p of component c.
  unfoldable pub record_of : ℕ → ℕ → ℕ
  record_of c p = get_or t (phases_at + c) 0 + p

  -- A coupled component is marked where a child is: from component c down to 1.
  unfoldable pub raised : ℕ → List ℕ → List ℕ
  raised zero es = es
  raised (suc c) es = raised c (cond (is_up es (suc c)) (set es (get_or t (parents_at + suc c) 0) 1) es)

  -- ---- flags by component: something may reach its inputs

  -- The flag of component c, from its m ports from q on.
  unfoldable pub may_reach : List ℕ → List ℕ → ℕ → ℕ → ℕ → Bool
  may_reach es fs c zero q = false
  may_reach es fs c (suc m) q = any_of (may_come es fs) (chain_rows t (input_node c q)) || may_reach es fs c m (q + 1)

  -- The flags of m components from c on.
  unfoldable pub reached_from : List ℕ → ℕ → ℕ → List ℕ → List ℕ
  reached_from es zero c fs = fs
  reached_from es (suc m) c fs = reached_from es m (c + 1) (set fs c (cond (may_reach es fs c port_count 0) 1 0))

  -- The root's flag: whether something is given.
  unfoldable pub reached : List ℕ → Bag → List ℕ
  reached es x = reached_from es (get_or t count_at 0 - 1) 1 (set (replicate max_components 0) 0 (cond (is_empty x) 0 1))

  -- ---- open nodes, and the deciding rule

  -- Nothing is pulled where no source ever leads, and nothing where no flag is up in this step.
  unfoldable pub is_open : List ℕ → List ℕ → ℕ → Bool
  is_open es fs x = not (eqb (get_or t (live_at + x) 0) 0) && may_come es fs x

  unfoldable pub open_rows : List ℕ → List ℕ → ℕ → List ℕ
  open_rows es fs x = cond (is_open es fs x) (chain_rows t x) []

  -- The first rule of rs that holds for component c in phase p, e after its last moment, with bag x, among those from the first that
  -- names c to the last.
  unfoldable pub rule_in : List Rule → ℕ → ℕ → ℕ → Bag → Option ℕ
  rule_in rs c p e x = deciding_in (ranges_in t) rs (get_or t (rules_from_at + c) 0) (get_or t (rules_to_at + c) 0) c p e x

  -- The phase after the external part of a confluent transition.
  unfoldable pub decided_in : List Rule → ℕ → ℕ → ℕ → Bag → ℕ
  decided_in rs c p e x = phase_or p (leads rs (rule_in rs c p e x))

module _ (ps : List Phase) (t : List ℕ) where
  -- ---- phases, and when something is due

  -- What the record of phase p of component c says.
  unfoldable pub phase_in : ℕ → ℕ → Phase
  phase_in c p = get_or ps (record_of t c p) no_phase

  -- When the atomic c is due that is in phase p since `last`. The code's moments end at `latest`.
  unfoldable pub due_in : ℕ → ℕ → ℕ → Time
  due_in c p last = cond (eqb (phase_in c p).advance never_field) never (finite (min (last + (phase_in c p).advance) latest))

  -- The atomic at position i.
  unfoldable pub due_at_position : State → ℕ → Time
  due_at_position st i = due_in (get_or t (numbers_at + i) 0) (get_or st.phase i 0) (get_or st.last i 0)

  -- "A coupled component's earliest due moment is the least among its children, never if it has none"; at most n components down.
  unfoldable pub due_below : State → ℕ → ℕ → Time
  due_below st zero c = never
  due_below st (suc n) c = cond (atomic_at t c) (due_at_position st (get_or t (positions_at + c) 0)) (least_of (due_below st n) (child_rows t c))

  -- The whole model's next due moment.
  unfoldable pub table_next : State → Time
  table_next st = due_below st max_components 0

  -- ---- marks by component: 0 where nothing is to be put out; an atomic that is due has its phase record and 1

  unfoldable pub mark_of : ℕ → State → ℕ → ℕ
  mark_of now st i =
      cond (same_time (due_at_position st i) (finite now)) (suc (record_of t (get_or t (numbers_at + i) 0) (get_or st.phase i 0))) 0

  -- The marks of n atomics from position i on, over the marks es.
  unfoldable pub marked : ℕ → State → ℕ → ℕ → List ℕ → List ℕ
  marked now st zero i es = es
  marked now st (suc n) i es = marked now st n (i + 1) (set es (get_or t (numbers_at + i) 0) (mark_of now st i))

  unfoldable pub marks : ℕ → ℕ → State → List ℕ
  marks n now st = raised t (get_or t count_at 0 - 1) (marked now st n 0 (replicate max_components 0))

  -- ---- what is pulled

  abbrev pub pulled_below : List ℕ → List ℕ → ℕ → ℕ → List ℕ
  pulled_below es fs = coupled_out (open_rows t es fs) (atomic_node t) (sent_by ps es)

  abbrev pub pulled_into : List ℕ → List ℕ → Bag → ℕ → ℕ → List ℕ
  pulled_into es fs x = input_in (open_rows t es fs) (atomic_node t) (sent_by ps es) (given_by x) is_root_node is_output

  -- The keys of the bag of component c, and of the root's output bag.
  unfoldable pub keys_into : List ℕ → List ℕ → Bag → ℕ → List ℕ
  keys_into es fs x c = keys_of (λ q. pulled_into es fs x max_ancestors (input_node c q)) port_count 0

  unfoldable pub root_keys : List ℕ → List ℕ → List ℕ
  root_keys es fs = keys_of (λ q. pulled_below es fs max_ancestors (output_node 0 q)) port_count 0

  -- ---- transitions

  module _ (rs : List Rule) where
    unfoldable pub confluent_in : ℕ → ℕ → Bag → ℕ
    confluent_in c p x =
        cond (eqb (get_or t (orders_at + c) 0) 0) (decided_in t rs c (phase_in c p).next 0 x)
        (phase_in c (decided_in t rs c p (phase_in c p).advance x)).next

    -- Where the transition of the atomic c at position i leads, due or not, with its bag.
    unfoldable pub lead_by : ℕ → State → ℕ → ℕ → Bool → Bag → Option ℕ
    lead_by now st i c true [] = some (phase_in c (get_or st.phase i 0)).next
    lead_by now st i c true (y ∷ x) = some (confluent_in c (get_or st.phase i 0) (y ∷ x))
    lead_by now st i c false [] = none
    lead_by now st i c false (y ∷ x) = leads rs (rule_in t rs c (get_or st.phase i 0) (now - get_or st.last i 0) (y ∷ x))

    -- What decides its external part: nothing where it has none.
    unfoldable pub confluent_rule : ℕ → ℕ → Bag → Option ℕ
    confluent_rule c p x =
        cond (eqb (get_or t (orders_at + c) 0) 0) (rule_in t rs c (phase_in c p).next 0 x) (rule_in t rs c p (phase_in c p).advance x)

    unfoldable pub part_by : ℕ → State → ℕ → ℕ → Bool → Bag → Option ℕ
    part_by now st i c due [] = none
    part_by now st i c true (y ∷ x) = some (told_as (confluent_rule c (get_or st.phase i 0) (y ∷ x)))
    part_by now st i c false (y ∷ x) = some (told_as (rule_in t rs c (get_or st.phase i 0) (now - get_or st.last i 0) (y ∷ x)))

    unfoldable pub changed_by : ℕ → State → ℕ → ℕ → Bool → Bag → State
    changed_by now st i c due x = led_into now st i (lead_by now st i c due x)

    -- n atomics from position i on, one after the other: marks and flags were read before, so the order does not matter. A bag has
    -- room for so many messages.
    unfoldable pub changed_from : List ℕ → List ℕ → ℕ → ℕ → Bag → ℕ → ℕ → State → State
    changed_from es fs room now x zero i st = st
    changed_from es fs room now x (suc n) i st =
        let c = get_or t (numbers_at + i) 0 in
        changed_from es fs room now x n (i + 1) (changed_by now st i c (is_up es c) (map message_of (take room (keys_into es fs x c))))

    -- What decides in each of them.
    unfoldable pub parts_from : List ℕ → List ℕ → ℕ → ℕ → Bag → ℕ → ℕ → State → List (Option ℕ)
    parts_from es fs room now x zero i st = []
    parts_from es fs room now x (suc n) i st =
        let c = get_or t (numbers_at + i) 0 in
        let bag = map message_of (take room (keys_into es fs x c)) in
        part_by now st i c (is_up es c) bag ∷ parts_from es fs room now x n (i + 1) (changed_by now st i c (is_up es c) bag)

    -- The step of n atomics, where an atomic's bag has room for so many messages.
    unfoldable pub table_step : ℕ → ℕ → ℕ → Bag → State → Stepped State
    table_step n room now x st =
        let es = marks n now st in
        let fs = reached t es x in
        record {
          out = record { bag = map message_of (take (root_room room) (root_keys es fs)); decided = parts_from es fs room now x n 0 st };
          state = changed_from es fs room now x n 0 st;
        }

    abbrev pub table_sim : ℕ → ℕ → Simulator State
    table_sim n room = record { next = table_next; step = table_step n room }
