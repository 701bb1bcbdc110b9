-- What the checks of a call let through: a run that fits has an entry for each atomic, none changed after its opening or due before it; a
-- moment that is open; a bag on ports that there are. The laws of a step start from these. Assumes nothing.
use mathlib.Core.Path.{◌≡◌, refl}
use Prim.Native.Nat.{ℕ, suc, ◌*◌, ◌%◌, ◌≤◌}
use mathlib.Core.List.{List, [], ◌∷◌}
use mathlib.Core.Bool.{Bool, true, false, ◌&&◌, ◌||◌, not}
use native.Mathlib.Omega.{arith}
use lib.Dec.{leb, ltb, eqb}
use lib.ListN.{length}
use borrow.Author.Tests.{leb-true, ltb-true, ltb-false, eqb-true, not-false}
use Rattle.definition.specs.Bytes.{Bytes, ok, refuse_if, number_at}
use Rattle.definition.specs.Lists.{all}
use Rattle.definition.specs.Limits.{max_moment, message_size, max_given}
use Rattle.definition.specs.Model.{Model, component_at, atomics}
use Rattle.definition.specs.SavedRun.{Entry, run_length, entry_fits, entries_fit, atomic_count, run_of, run_fits}
use Rattle.definition.specs.Engine.{advance_checks, bag_fits, to_bag}
use Rattle.definition.specs.Records.{port_fits}
use Rattle.definition.specs.Demands.{MayAdvance}
use Rattle.law_base.proofs.Tests.{and_left, and_right, or-none}
use Rattle.law_model.proofs.Codec.{bag-length}
use Rattle.law_model.proofs.RunBack.{entry-count}
use Rattle.law_base.proofs.Results.{refuse-ok}
use Rattle.law_nest.proofs.Pairs.{Pairs}
use Rattle.law_nest.proofs.Nest.{Fresh}
use Rattle.law_nest.proofs.Stepping.{Good}

-- a run's entries that fit are fresh at its opening
pub entry-fresh : (m : Model) (o c : ℕ) (r : Entry) → entry_fits m o c r ≡ true → Fresh m o c r
unfolding entry_fits
entry-fresh m o c r h =
    let a = ltb r.phase (component_at m.components c).phases in
    let b = ltb r.last o || (eqb o 0 && eqb r.last 0) in
    let k = and_left (a && b) _ h in
    (go (ltb r.last o) refl (and_right a b k), and_right (a && b) _ h)
  where
    go : (t : Bool) → ltb r.last o ≡ t → ltb r.last o || (eqb o 0 && eqb r.last 0) ≡ true → r.last ≤ o
    go true e k = omega (arith, ltb-true r.last o e)
    go false e k = let g : eqb o 0 && eqb r.last 0 ≡ true = rw e at k in omega (arith, eqb-true r.last 0 (and_right (eqb o 0) _ g))

entries-fresh : (m : Model) (o : ℕ) (cs : List ℕ) (rs : List Entry) → length rs ≡ length cs → entries_fit m o cs rs ≡ true → Pairs (Fresh m o) cs rs
unfolding entries_fit
entries-fresh m o [] [] e h = tt
entries-fresh m o [] (r ∷ rs) e h = absurd (omega arith)
entries-fresh m o (c ∷ cs) [] e h = absurd (omega arith)
entries-fresh m o (c ∷ cs) (r ∷ rs) e h =
    (entry-fresh m o c r (and_left (entry_fits m o c r) _ h), entries-fresh m o cs rs (omega arith) (and_right (entry_fits m o c r) _ h))

pub run_length_lem : (m : Model) (s : Bytes) → length (run_of m s).entries ≡ length (atomics m.components)
unfolding atomic_count
run_length_lem m s = entry-count m s

pub fits-good : (m : Model) (s : Bytes) → run_fits m s ≡ true → Good m (run_of m s).opening (run_of m s).entries
unfolding run_fits
fits-good m s h =
    let a = leb (run_length (atomic_count m)) (length s) && eqb (number_at 2 8 s) (atomic_count m) && leb (run_of m s).opening (suc max_moment) in
    entries-fresh m (run_of m s).opening (atomics m.components) (run_of m s).entries (run_length_lem m s) (and_right a _ h)

-- the bag that the checks let in
pub bag-fine : (b : Bytes) → bag_fits b ≡ true → all port_fits (to_bag b) ≡ true
unfolding bag_fits
bag-fine b h = and_right (eqb (length b % message_size) 0 && leb (length b) (message_size * max_given)) _ h

pub bag-few : (b : Bytes) → bag_fits b ≡ true → length (to_bag b) ≤ max_given
unfolding bag_fits
bag-few b h =
    let e = eqb (length b % message_size) 0 in
    let l = leb-true (length b) (message_size * max_given) (and_right e _ (and_left (e && leb (length b) (message_size * max_given)) _ h)) in
    omega (arith, bag-length b)

-- an advance that the checks let through
pub advance-ok : (m : Model) (run : Bytes) (t : ℕ) (bag : Bytes) → advance_checks m run t bag ≡ ok tt → MayAdvance m run t bag
unfolding advance_checks
advance-ok m run t bag h =
    let early = ltb t (run_of m run).opening in
    let x = refuse-ok (not (run_fits m run)) 10 _ tt h in
    let y = refuse-ok (early || ltb max_moment t) 11 _ tt x.1 in
    let z = or-none early (ltb max_moment t) y.0 in
    record {
      run_fits_lem = not-false (run_fits m run) x.0;
      not_early = ltb-false t (run_of m run).opening z.0;
      not_late = ltb-false max_moment t z.1;
      bag_fits_lem = passed (bag_fits bag) y.1;
    }
  where
    passed : (b : Bool) → refuse_if (not b) 12 ≡ ok tt → b ≡ true
    passed true h = refl
    passed false h = absurd (let z : ◌≡◌ {A = ℕ} 0 1 = cc in omega arith)
