-- Parallel DEVS as source document 001 has it: a model, the resultant of a coupled model, and a transition at a moment. Each transition
-- answers a new state and, by request (ii) of document 02, what decided in it. Assumes nothing.
use Rattle.std.specs.Prelude.{ℕ, ◌+◌, ◌-◌, min, List, [], ◌∷◌, ◌++◌, Bool, true, false, ◌&&◌, cond, eqb}
use Rattle.definition.specs.Model.{Message, Bag, Coupling}

-- ---- times

-- A time advance, or a moment: never is one case, later than all.
pub data Time : Type 0 where
  finite : ℕ → Time
  never : Time

unfoldable pub earlier : Time → Time → Time
earlier (finite a) (finite b) = finite (min a b)
earlier (finite a) never = finite a
earlier never (finite b) = finite b
earlier never never = never

-- What is left of a time advance after some elapsed time.
unfoldable pub remaining : Time → ℕ → Time
remaining (finite a) e = finite (a - e)
remaining never e = never

-- So much later.
unfoldable pub later : ℕ → Time → Time
later n (finite a) = finite (n + a)
later n never = never

-- Equal, and not never: "a never-due child is not imminent".
unfoldable pub same_time : Time → Time → Bool
same_time (finite a) (finite b) = eqb a b
same_time (finite a) never = false
same_time never (finite b) = false
same_time never never = false

unfoldable pub ticks : Time → ℕ
ticks (finite a) = a
ticks never = 0

-- ---- what a transition answers

-- What decided the external part of an atomic: the rule's "position in the file, counted in rules from 0, or 65,535 for none"; and how many
-- messages its bag had, of which request (iv) speaks.
pub record Decided : Type 0 where
  pub atomic : ℕ
  pub position : ℕ
  pub messages : ℕ

-- The new state, and what decided in the transition: "each transition passes it up".
pub record After (S : Type 0) : Type 0 where
  pub state : S
  pub decided : List Decided

-- ---- the formalism: S, ta, λ, δ_int, δ_ext, δ_con

pub record Devs : Type 1 where
  pub State : Type 0
  pub ta : State → Time
  pub out : State → Bag
  pub int : State → After State
  pub ext : State → ℕ → Bag → After State
  pub con : State → Bag → After State

-- ---- the coupled model: components d with their models M_d, and couplings

pub record Part : Type 1 where
  pub name : ℕ
  pub model : Devs

-- The resultant's state s: a total state (s_d, e_d) for each component.
abbrev pub Totals : List Part → Type 0
Totals [] = Unit {0}
Totals (d ∷ ds) = (d.model.State × ℕ) × Totals ds

-- Z_{i,d}: "Couplings translate the port and keep the value"; a message goes along every coupling from its port.
unfoldable pub translate_one : List Coupling → ℕ → ℕ → Message → Bag
translate_one [] i d x = []
translate_one (k ∷ ks) i d x =
    let rest = translate_one ks i d x in
    cond (eqb k.source i && eqb k.target d && eqb k.source_port x.port) (record { port = k.target_port; value = x.value } ∷ rest) rest

unfoldable pub translate : List Coupling → ℕ → ℕ → Bag → Bag
translate ks i d [] = []
translate ks i d (x ∷ xs) = translate_one ks i d x ++ translate ks i d xs

-- σ_d = ta(s_d) - e_d
unfoldable pub sigma : (d : Devs) → d.State × ℕ → Time
sigma d s = remaining (d.ta s.0) s.1

-- ta(s) = minimum { σ_d | d ∈ D }
unfoldable pub least_sigma : (ds : List Part) → Totals ds → Time
least_sigma [] s = never
least_sigma (d ∷ ds) s = earlier (sigma d.model s.0) (least_sigma ds s.1)

-- { Z_{d,to}(λ_d(s_d)) | d ∈ IMM(s) }, where IMM(s) = { d | σ_d = t } and t = ta(s)
unfoldable pub outputs_to : List Coupling → ℕ → Time → (ds : List Part) → Totals ds → Bag
outputs_to ks to t [] s = []
outputs_to ks to t (d ∷ ds) s =
    let mine = translate ks d.name to (d.model.out s.0.0) in
    cond (same_time (sigma d.model s.0) t) mine [] ++ outputs_to ks to t ds s.1

-- The elapsed time of a component begins anew with its transition.
unfoldable pub anew : {S : Type 0} → After S → After (S × ℕ)
anew r = record { state = (r.state, 0); decided = r.decided }

-- (s'_d, e'_d) after a time e: for d in INT, in CONF, in UN, in EXT, as it is imminent or not and its input x_d is empty or not.
unfoldable pub changed : (d : Devs) → Bool → Bag → ℕ → d.State × ℕ → After (d.State × ℕ)
changed d true [] e s = anew (d.int s.0)
changed d true (x ∷ xs) e s = anew (d.con s.0 (x ∷ xs))
changed d false [] e s = record { state = (s.0, s.1 + e); decided = [] }
changed d false (x ∷ xs) e s = anew (d.ext s.0 (s.1 + e) (x ∷ xs))

-- All components; what they pass up, the coupled model passes up.
unfoldable pub changed_all : (Time → Bool) → (ℕ → Bag) → ℕ → (ds : List Part) → Totals ds → After (Totals ds)
changed_all imminent input e [] s = record { state = s; decided = [] }
changed_all imminent input e (d ∷ ds) s =
    let r = changed d.model (imminent (sigma d.model s.0)) (input d.name) e s.0 in
    let rest = changed_all imminent input e ds s.1 in
    record { state = (r.state, rest.state); decided = r.decided ++ rest.decided }

-- The resultant of the coupled model n with components ds.
module _ (ks : List Coupling) (n : ℕ) (ds : List Part) where
  unfoldable pub resultant_out : Totals ds → Bag
  resultant_out s = outputs_to ks n (least_sigma ds s) ds s

  -- x_d = { Z_{i,d}(λ_i(s_i)) | i ∈ IMM(s) }
  unfoldable pub resultant_int : Totals ds → After (Totals ds)
  resultant_int s =
      let t = least_sigma ds s in
      changed_all (λ u. same_time u t) (λ d. outputs_to ks d t ds s) (ticks t) ds s

  -- x_d = { Z_{N,d}(x) | x ∈ x^b }
  unfoldable pub resultant_ext : Totals ds → ℕ → Bag → After (Totals ds)
  resultant_ext s e x = changed_all (λ u. false) (λ d. translate ks n d x) e ds s

  -- x_d = { Z_{i,d}(λ_i(s_i)) | i ∈ IMM(s) } ∪ { Z_{N,d}(x) | x ∈ x^b }
  unfoldable pub resultant_con : Totals ds → Bag → After (Totals ds)
  resultant_con s x =
      let t = least_sigma ds s in
      changed_all (λ u. same_time u t) (λ d. outputs_to ks d t ds s ++ translate ks n d x) (ticks t) ds s

  abbrev pub resultant : Devs
  resultant = record { State = Totals ds; ta = least_sigma ds; out = resultant_out; int = resultant_int; ext = resultant_ext; con = resultant_con }

-- ---- a transition at a moment

-- A model between events: its state, and the moment of its last event.
pub record Since (d : Devs) : Type 0 where
  pub state : d.State
  pub event : ℕ

-- The output, and the one of the three transitions that document 001 names, an elapsed time e after the last event.
unfoldable pub transition : (d : Devs) → Bool → ℕ → Bag → d.State → Bag × After d.State
transition d true e [] s = (d.out s, d.int s)
transition d true e (x ∷ xs) s = (d.out s, d.con s (x ∷ xs))
transition d false e x s = ([], d.ext s e x)

unfoldable pub devs_step : (d : Devs) → ℕ → Bag → Since d → Bag × After (Since d)
devs_step d now x q =
    let e = now - q.event in
    let r = transition d (same_time (d.ta q.state) (finite e)) e x q.state in
    (r.0, record { state = record { state = r.1.state; event = now }; decided = r.1.decided })

-- The moment at which the model is due.
unfoldable pub devs_due : (d : Devs) → Since d → Time
devs_due d q = later q.event (d.ta q.state)
