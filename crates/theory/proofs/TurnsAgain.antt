-- Calling again after 22 goes on: a channel's turns, each on what the one before left, come to what its one advance would have left in a trace as long
-- as theirs together, and with the steps of an instant in each they come to an end. Assumes nothing.
use mathlib.Core.Path.{◌≡◌, refl, sym, ap, ◌∙◌}
use mathlib.Core.Option.{some}
use Prim.Native.Nat.{ℕ, ◌+◌, ◌≤◌, ◌<◌}
use mathlib.Core.List.{List, [], ◌∷◌, ◌++◌}
use mathlib.Core.Bool.{Bool, true, false, cond}
use native.Mathlib.Omega.{arith}
use lib.Dec.{leb, eqb}
use lib.ListN.{length, take, drop, length-drop}
use lib.Seq.{length-take-le}
use borrow.Author.Tests.{eqb-true, eqb-false, leb-true}
use Rattle.definition.specs.Lists.{all}
use Rattle.definition.specs.Bytes.{Bytes, ok, stored}
use Rattle.definition.specs.Limits.{max_steps}
use Rattle.definition.specs.Model.{Model}
use Rattle.definition.specs.Pinned.Decoder.{accepted}
use Rattle.definition.specs.Engine.{Advanced, advance}
use Rattle.definition.specs.Channels.{Channel}
use Rattle.definition.specs.SeveralChannels.{LentAgain, Joined, alone, followed_by, turn_on, again, in_one, GoesOn}
use Rattle.definition.specs.Demands.{opening_of, traced_by}
use Rattle.law_base.proofs.Lists.{all_head, all_tail}
use Rattle.law_model.proofs.WellFormed.{WellFormed}
use Rattle.theory.proofs.Buffers.{stored-front}
use Rattle.theory.proofs.TurnAdvances.{as_advance}
use Rattle.theory.proofs.TurnResumes.{as_long, longer, goes-on-in, opens-later}

-- records told of a trace are those that stand in it
join-rest : (a : Advanced) (r : Joined) (next trace : Bytes) → in_one (followed_by a (alone (length next) (in_one r next))) trace ≡ in_one (followed_by a r) trace
unfolding followed_by alone
join-rest a r next trace =
    let f = ap (λ z. traced_by a ++ z) (stored-front r.records next) in
    λ i. record { number = r.number; instants = a.instants + r.instants; steps = a.steps + r.steps; used = length (f i); run = r.run; trace = stored (f i) trace; table = [] }

alone_rest : (r : Joined) (T trace : Bytes) → in_one (alone (length T) (in_one r T)) trace ≡ in_one r trace
unfolding alone
alone_rest r T trace =
    let f = stored-front r.records T in
    λ i. record { number = r.number; instants = r.instants; steps = r.steps; used = length (f i); run = r.run; trace = stored (f i) trace; table = [] }

module _ (file : Bytes) (m : Model) (w : WellFormed m) (e : accepted file ≡ ok m) (t : ℕ) (bag : Bytes) where
  abbrev channel : Bytes → LentAgain → Channel
  channel run l = record { run = run; trace = l.trace; bag = some bag }

  abbrev Enough : LentAgain → Bool
  Enough k = leb max_steps k.has

  -- a turn with the steps of an instant that ends with 22 opens a later moment
  opens : (run : Bytes) (l : LentAgain) (ls : List LentAgain) → all Enough (l ∷ ls) ≡ true → (turn_on m t bag run l).number ≡ 22
      → (opening_of m run < opening_of m (turn_on m t bag run l).run) × (opening_of m (turn_on m t bag run l).run ≤ t)
  opens run l ls h n = opens-later file m w e t l.has (channel run l) bag refl n (leb-true max_steps l.has (all_head Enough l ls h))

  comes_to_an_end : (run : Bytes) (l : LentAgain) (ls : List LentAgain) → all Enough (l ∷ ls) ≡ true → t < opening_of m run + length (l ∷ ls) → (again m t bag run l ls).number ≡ 22 → ⊥
  unfolding again alone followed_by
  comes_to_an_end run l [] h o n = let k = opens run l [] h n in omega (arith, k.0, k.1, o)
  comes_to_an_end run l (k ∷ ks) h o n = go (eqb a.number 22) refl (λ r. comes_to_an_end r k ks (all_tail Enough l (k ∷ ks) h)) n
    where
      a : Advanced
      a = turn_on m t bag run l

      go : (b : Bool) → eqb a.number 22 ≡ b → ((r : Bytes) → t < opening_of m r + length (k ∷ ks) → (again m t bag r k ks).number ≡ 22 → ⊥)
          → (cond b (followed_by a (again m t bag a.run k ks)) (alone (length l.trace) a)).number ≡ 22 → ⊥
      go true z ih n = let j = opens run l (k ∷ ks) h (eqb-true a.number 22 z) in ih a.run (omega (arith, j.0, o)) n
      go false z ih n = eqb-false a.number 22 z n

  -- the last turn is its own advance
  last_turn : (run : Bytes) (l : LentAgain) → ((turn_on m t bag run l).number ≡ 22 → ⊥) → (trace : Bytes) → length trace ≡ length l.trace
      → advance file run t bag trace [] ≡ in_one (alone (length l.trace) (turn_on m t bag run l)) trace
  last_turn run l n trace i =
      as_long file m w e run t bag l.trace trace i
      ∙ ap (λ (r : Advanced). in_one (alone (length l.trace) r) trace) (sym (as_advance file m w e t l.has (channel run l) bag refl n))

  as_one : (run : Bytes) (l : LentAgain) (ls : List LentAgain) → ((again m t bag run l ls).number ≡ 22 → ⊥) → (trace : Bytes) → length trace ≡ (again m t bag run l ls).room
      → advance file run t bag trace [] ≡ in_one (again m t bag run l ls) trace
  unfolding again alone followed_by
  as_one run l [] n trace i = last_turn run l n trace i
  as_one run l (k ∷ ks) n trace i = go (eqb a.number 22) refl (λ r. as_one r k ks) n i
    where
      a : Advanced
      a = turn_on m t bag run l

      go : (b : Bool) → eqb a.number 22 ≡ b
          → ((r : Bytes) → ((again m t bag r k ks).number ≡ 22 → ⊥) → (trace : Bytes) → length trace ≡ (again m t bag r k ks).room → advance file r t bag trace [] ≡ in_one (again m t bag r k ks) trace)
          → (let j = cond b (followed_by a (again m t bag a.run k ks)) (alone (length l.trace) a) in
          (j.number ≡ 22 → ⊥) → length trace ≡ j.room → advance file run t bag trace [] ≡ in_one j trace)
      go true z ih n i =
          let rest = again m t bag a.run k ks in
          let next = drop a.used trace in
          let left : length next ≡ rest.room = length-drop a.used trace ∙ omega (arith, i) in
          goes-on-in file m w e t l.has (channel run l) bag refl (eqb-true a.number 22 z) next trace (omega (arith, i, left))
          ∙ ap (λ (r : Advanced). in_one (followed_by a (alone (length next) r)) trace) (ih a.run n next left) ∙ join-rest a rest next trace
      go false z ih n i = last_turn run l (eqb-false a.number 22 z) trace i

  as_one_longer : (run : Bytes) (l : LentAgain) (ls : List LentAgain) → ((again m t bag run l ls).number ≡ 22 → ⊥) → ((again m t bag run l ls).number ≡ 15 → ⊥)
      → (trace : Bytes) → (again m t bag run l ls).room ≤ length trace → advance file run t bag trace [] ≡ in_one (again m t bag run l ls) trace
  as_one_longer run l ls n j trace i =
      let r = again m t bag run l ls in
      let T = take r.room trace in
      let k = length-take-le r.room trace i in
      let h = as_one run l ls n T k in
      longer file m w e run t bag T trace (omega (arith, k, i)) (λ z. j (sym (ap (λ (a : Advanced). a.number) h) ∙ z))
      ∙ ap (λ (a : Advanced). in_one (alone (length T) a) trace) h ∙ alone_rest r T trace

pub continues : (file : Bytes) (m : Model) → WellFormed m → accepted file ≡ ok m → (t : ℕ) (bag run : Bytes) (l : LentAgain) (ls : List LentAgain) → GoesOn file m t bag run l ls
continues file m w e t bag run l ls = record {
  comes_to_an_end = comes_to_an_end file m w e t bag run l ls;
  as_one = as_one file m w e t bag run l ls;
  as_one_longer = as_one_longer file m w e t bag run l ls;
}
