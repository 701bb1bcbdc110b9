-- The flat machine, from its own section of document 01, with its own steps, instants, trace records and loop over the instants. It
-- shares with the engine: the model and its acceptance; the lines for one atomic (its output, advance and next phase, its deciding rule and
-- how its position is told, when it is due); times and limits; the bytes of a message, of a saved run and of a given bag; the run that
-- start writes; the bags of a feed; the checks of a call's arguments; what a refused call answers, what a writer writes and what a reading
-- shows of an entry.
-- Assumes nothing.
use Rattle.std.specs.Prelude.{ℕ, zero, suc, ◌+◌, ◌*◌, ◌-◌, List, [], ◌∷◌, ◌++◌, map, Bool, true, false, ◌&&◌, ◌||◌, not, cond, leb, ltb, eqb, length, take, drop, get_or}
use Rattle.std.proofs.Math.Option.{Option, none, some}
use Rattle.definition.specs.Lists.{concat, is_empty}
use Rattle.definition.specs.Bytes.{Bytes, Result, ok, refused, ◌>>=◌, bytes_of, stored}
use Rattle.definition.specs.Limits.{max_steps, no_position, position_size}
use Rattle.definition.specs.Model.{Message, Bag, Rule, Coupling, Model, no_rule, component_at, atomics, phase_at, outputs}
use Rattle.definition.specs.Records.{message_bytes}
use Rattle.definition.specs.Pinned.Decoder.{accepted}
use Rattle.definition.specs.Devs.{Time, finite, never, earlier, same_time, ticks}
use Rattle.definition.specs.Atomic.{told_as, advance_of, next_phase, rule_for}
use Rattle.definition.specs.SavedRun.{Entry, run_bytes, run_of, due_of}
use Rattle.definition.specs.Engine.{Wrote, wrote, start_run, Advanced, advance_checks, to_bag, WasRead, was_read, reading_checks, read_at}
use Rattle.definition.specs.Feed.{FeedBag, last_moment}
use Rattle.definition.specs.FeedCall.{Fed, fed_or, feed_checks}

-- ---- a step

-- "a copy of the state": the entries, and beside each the rule of its last external part at this moment, by its position.
pub record Copy : Type 0 where
  pub entries : List Entry
  pub rules : List ℕ

-- A message and the component that it leaves.
pub record Sent : Type 0 where
  pub source : ℕ
  pub message : Message

unfoldable pub sent : ℕ → Bag → List Sent
sent c x = map (λ y. record { source = c; message = y }) x

-- Where the external part of a confluent transition leads from phase p: without a rule the phase stays.
unfoldable pub led_to : List Rule → ℕ → Option ℕ → ℕ
led_to ks p none = p
led_to ks p (some i) = (get_or ks i no_rule).next

-- "Confluent: order 0 takes the next phase, then the external transition with elapsed time 0; order 1 the external one with elapsed time
-- equal to the advance, then the next phase of where it led": the phases that the atomic c comes to.
module _ (m : Model) (c : ℕ) where
  unfoldable pub external_part : ℕ → ℕ → Bag → ℕ
  external_part p e x = led_to m.rules p (rule_for m c p e x)

  unfoldable pub both_parts : ℕ → Bag → ℕ
  both_parts p x =
      cond (eqb (component_at m.components c).order 0)
      (external_part (next_phase m c p) 0 x) (next_phase m c (external_part p (ticks (advance_of m c p)) x))

  -- The rule of the external part among the two.
  unfoldable pub rule_of_both : ℕ → Bag → Option ℕ
  rule_of_both p x =
      cond (eqb (component_at m.components c).order 0) (rule_for m c (next_phase m c p) 0 x) (rule_for m c p (ticks (advance_of m c p)) x)

module _ (m : Model) (now : ℕ) where
  unfoldable pub due_now : ℕ → Entry → Bool
  due_now c r = same_time (due_of m c r) (finite now)

  -- "A step first reads the output of every atomic due then."
  unfoldable pub put_out : List ℕ → List Entry → List Sent
  put_out [] rs = []
  put_out (c ∷ cs) [] = []
  put_out (c ∷ cs) (r ∷ rs) = cond (due_now c r) (sent c (outputs (phase_at m c r.phase))) [] ++ put_out cs rs

  -- All messages of a step: the given ones, which leave the root, and those put out.
  abbrev pub all_sent : Bag → List Entry → List Sent
  all_sent x rs = sent 0 x ++ put_out (atomics m.components) rs

  -- "Each message .. goes once along every coupling from its port": what reaches component d of one message, and of all.
  unfoldable pub reaching : ℕ → Sent → List Coupling → Bag
  reaching d x [] = []
  reaching d x (k ∷ ks) =
      let rest = reaching d x ks in
      cond (eqb k.source x.source && eqb k.source_port x.message.port && eqb k.target d)
      (record { port = k.target_port; value = x.message.value } ∷ rest) rest

  unfoldable pub arriving : ℕ → List Sent → Bag
  arriving d xs = concat (map (λ x. reaching d x m.couplings) xs)

  -- "where no rule holds, the external transition keeps both phase and last moment": the entry stays as it is.
  unfoldable pub moved_by : Option ℕ → Entry → Entry
  moved_by none r = r
  moved_by (some i) r = record { phase = (get_or m.rules i no_rule).next; last = now }

  -- "by the lines of `One step`": an atomic that is due or not, with its bag.
  unfoldable pub moved : ℕ → Bool → Bag → Entry → Entry
  moved c true [] r = record { phase = next_phase m c r.phase; last = now }
  moved c true (x ∷ xs) r = record { phase = both_parts m c r.phase (x ∷ xs); last = now }
  moved c false [] r = r
  moved c false (x ∷ xs) r = moved_by (rule_for m c r.phase (now - r.last) (x ∷ xs)) r

  -- "Then all atomics change together"
  unfoldable pub moved_all : List Sent → List ℕ → List Entry → List Entry
  moved_all xs [] rs = []
  moved_all xs (c ∷ cs) [] = []
  moved_all xs (c ∷ cs) (r ∷ rs) = moved c (due_now c r) (arriving c xs) r ∷ moved_all xs cs rs

  -- An external or confluent transition puts the rule's position anew; an internal one, or none, leaves it.
  unfoldable pub rule_after : ℕ → Bool → Bag → Entry → ℕ → ℕ
  rule_after c b [] r i = i
  rule_after c true (x ∷ xs) r i = told_as (rule_of_both m c r.phase (x ∷ xs))
  rule_after c false (x ∷ xs) r i = told_as (rule_for m c r.phase (now - r.last) (x ∷ xs))

  unfoldable pub rules_after : List Sent → List ℕ → List Entry → List ℕ → List ℕ
  rules_after xs [] rs is = []
  rules_after xs (c ∷ cs) [] is = []
  rules_after xs (c ∷ cs) (r ∷ rs) [] = []
  rules_after xs (c ∷ cs) (r ∷ rs) (i ∷ is) = rule_after c (due_now c r) (arriving c xs) r i ∷ rules_after xs cs rs is

  -- "What reaches an atomic is its bag; what reaches the root is the root's output bag."
  unfoldable pub flat_step : Bag → Copy → Bag × Copy
  flat_step x k =
      let cs = atomics m.components in
      let xs = all_sent x k.entries in
      (arriving 0 xs, record { entries = moved_all xs cs k.entries; rules = rules_after xs cs k.entries k.rules })

  -- Some atomic is due now.
  unfoldable pub any_due : List ℕ → List Entry → Bool
  any_due [] rs = false
  any_due (c ∷ cs) [] = false
  any_due (c ∷ cs) (r ∷ rs) = due_now c r || any_due cs rs

  -- "Steps follow while something is due there": the root bags of at most n steps, and the copy after them.
  unfoldable pub take_steps : ℕ → Bag → Copy → List Bag × Copy
  take_steps zero x k = ([], k)
  take_steps (suc n) x k =
      let r = flat_step x k in
      let rest = take_steps n [] r.1 in
      cond (any_due (atomics m.components) k.entries || not (is_empty x)) (r.0 ∷ rest.0, rest.1) ([], k)

-- The earliest moment at which an atomic is due.
unfoldable pub first_due : Model → List ℕ → List Entry → Time
first_due m [] rs = never
first_due m (c ∷ cs) [] = never
first_due m (c ∷ cs) (r ∷ rs) = earlier (due_of m c r) (first_due m cs rs)

unfoldable pub flat_due : Model → List Entry → Time
flat_due m rs = first_due m (atomics m.components) rs

-- ---- the trace

-- "in rising order of port, then value, equal ones repeated"
unfoldable pub not_after : Message → Message → Bool
not_after x y = ltb x.port y.port || (eqb x.port y.port && leb x.value y.value)

unfoldable pub placed : Message → Bag → Bag
placed x [] = x ∷ []
placed x (y ∷ ys) = let on = y ∷ placed x ys in cond (not_after x y) (x ∷ y ∷ ys) on

unfoldable pub in_order : Bag → Bag
in_order [] = []
in_order (x ∷ xs) = placed x (in_order xs)

-- "A trace record stands for each step with output at the root: moment (8), step in the instant from 0 (2), message count (2), messages
-- of 3 bytes": the records of the steps from step k on.
unfoldable pub recorded : ℕ → ℕ → List Bag → Bytes
recorded now k [] = []
recorded now k (x ∷ xs) =
    cond (is_empty x) [] (bytes_of 8 now ++ bytes_of 2 k ++ bytes_of 2 (length x) ++ concat (map message_bytes (in_order x))) ++ recorded now (suc k) xs

-- ---- advance

-- The state is the run buffer's bytes; beside it the lent trace, the lent table of rules and the counts of the instants that stand.
pub record Stage : Type 0 where
  pub state : Bytes
  pub trace : Bytes
  pub table : Bytes
  pub instants : ℕ
  pub steps : ℕ
  pub used : ℕ

unfoldable pub entries_in : Model → Stage → List Entry
entries_in m g = (run_of m g.state).entries

-- The rules of an instant that stands go over those of the instant before, if the table has at least two bytes an atomic.
unfoldable pub table_with : List ℕ → Bytes → Bytes
table_with is table = cond (ltb (length table) (position_size * length is)) table (stored (concat (map (bytes_of position_size) is)) table)

-- "otherwise the copy is the new state and the records are written on in the lent trace"
unfoldable pub standing : ℕ → Stage → List Bag × Copy → Stage
standing now g c =
    let new = recorded now 0 c.0 in
    record {
      state = stored (run_bytes (record { opening = suc now; entries = c.1.entries })) g.state;
      trace = take g.used g.trace ++ new ++ drop (g.used + length new) g.trace;
      table = table_with c.1.rules g.table;
      instants = suc g.instants;
      steps = g.steps + length c.0;
      used = g.used + length new;
    }

-- A number from the row "each instant" "drops the copy with its records and ends the call".
unfoldable pub verdict_on : Model → ℕ → Stage → List Bag × Copy → Result Stage
verdict_on m now g c =
    cond (any_due m now (atomics m.components) c.1.entries) (refused 13)
    (cond (is_empty c.0) (ok g)
    (cond (ltb (length g.trace) (g.used + length (recorded now 0 c.0))) (refused 15) (ok (standing now g c))))

-- The copy at the beginning of an instant: no atomic has had an external part.
unfoldable pub copied : List Entry → Copy
copied rs = record { entries = rs; rules = map (λ _. no_position) rs }

-- The instant at `now`, "on a copy of the state".
unfoldable pub attempt : Model → ℕ → Bag → Stage → Result Stage
attempt m now x g = verdict_on m now g (take_steps m now max_steps x (copied (entries_in m g)))

-- "the open moment moves as above": one past t on success.
unfoldable pub opened_past : Model → ℕ → Stage → Stage
opened_past m t g = record {
  state = stored (run_bytes (record { opening = suc t; entries = entries_in m g })) g.state;
  trace = g.trace;
  table = g.table;
  instants = g.instants;
  steps = g.steps;
  used = g.used;
}

unfoldable pub or_end : (Stage → ℕ × Stage) → Stage → Result Stage → ℕ × Stage
or_end on before (ok g) = on g
or_end on before (refused n) = (n, before)

unfoldable pub due_before : Time → ℕ → Bool
due_before (finite a) t = ltb a t
due_before never t = false

-- "Advance takes its instants in turn": those due before t, then t with the bag.
module _ (m : Model) (t : ℕ) (given : Bag) where
  unfoldable pub in_turn : (turns : ℕ) → Stage → ℕ × Stage
  in_turn zero g = (0, g)
  in_turn (suc turns) g =
      let u = flat_due m (entries_in m g) in
      let one = or_end (λ h. in_turn turns h) g (attempt m (ticks u) [] g) in
      let last = or_end (λ h. (0, opened_past m t h)) g (attempt m t given g) in
      cond (due_before u t) one last

-- "The answer counts the instants that stand, their steps and their trace bytes"; a call refused before any instant "gets that
-- number, with zeros, and changes nothing".
unfoldable pub answered : Bytes → Bytes → Bytes → Result (ℕ × Stage) → Advanced
answered run trace table (refused n) = record { number = n; instants = 0; steps = 0; used = 0; run = run; trace = trace; table = table }
answered run trace table (ok r) =
    let g = r.1 in
    record { number = r.0; instants = g.instants; steps = g.steps; used = g.used; run = g.state; trace = g.trace; table = g.table }

unfoldable pub flat_advance : Bytes → Bytes → ℕ → Bytes → Bytes → Bytes → Advanced
flat_advance file run t bag trace table = answered run trace table (do
  m ← accepted file
  _ ← advance_checks m run t bag
  ok (in_turn m t (to_bag bag) (suc t) (record { state = run; trace = trace; table = table; instants = 0; steps = 0; used = 0 })))

-- ---- a feed

-- How many bags' own calls succeeded, the number, and how far the machine has come.
pub record Turned : Type 0 where
  pub bags : ℕ
  pub number : ℕ
  pub stage : Stage

-- "its advance calls in turn", each from the state and the trace as the one before left them. "The first refused call stops it".
unfoldable pub bags_in_turn : Model → List FeedBag → (done : ℕ) → Stage → Turned
bags_in_turn m [] done g = record { bags = done; number = 0; stage = g }
bags_in_turn m (b ∷ bs) done g =
    let r = in_turn m b.moment (to_bag b.bag) (suc b.moment) g in
    let on = bags_in_turn m bs (suc done) r.1 in
    cond (eqb r.0 0) on (record { bags = done; number = r.0; stage = r.1 })

-- "plus an empty-bag advance to the end if it lies past the last bag or there is none"
unfoldable pub to_the_end : Model → List FeedBag → ℕ → Turned → Turned
to_the_end m bs end r =
    let e = in_turn m end [] (suc end) r.stage in
    cond (eqb r.number 0 && (is_empty bs || ltb (last_moment bs) end)) (record { bags = r.bags; number = e.0; stage = e.1 }) r

unfoldable pub turned : Turned → Fed
turned r =
    let g = r.stage in
    record { number = r.number; bags = r.bags; instants = g.instants; steps = g.steps; used = g.used; run = g.state; trace = g.trace }

unfoldable pub flat_feed : Bytes → Bytes → ℕ → Bytes → Bytes → Fed
flat_feed file run end feed trace = fed_or run trace (do
  m ← accepted file
  bs ← feed_checks m run end feed
  ok (turned (to_the_end m bs end (bags_in_turn m bs 0 (record { state = run; trace = trace; table = []; instants = 0; steps = 0; used = 0 })))))

-- ---- start and reading

-- "Otherwise start writes its run, and reading answers from the state."
unfoldable pub flat_start : Bytes → Bytes → Wrote
flat_start file run = wrote run (do
  m ← accepted file
  ok (run_bytes (start_run m)))

unfoldable pub flat_reading : Bytes → Bytes → ℕ → WasRead
flat_reading file run position = was_read (do
  m ← accepted file
  _ ← reading_checks m run position
  ok (let rs = (run_of m run).entries in read_at rs position (flat_due m rs)))
