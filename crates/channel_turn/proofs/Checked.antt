-- A channel's turn by its rows: those of an advance where its place lies inside, and 12 behind 10 and 11 where it runs past the end. Assumes nothing.
use mathlib.Core.Path.{◌≡◌, refl, sym, ◌∙◌}
use mathlib.Core.Option.{none, some}
use mathlib.Core.Bool.{Bool, true, false, ◌&&◌, ◌||◌, not}
use Prim.Native.Nat.{ℕ}
use lib.Dec.{ltb}
use Rattle.definition.specs.Bytes.{Bytes, Result, ok, refused, refuse_if, ◌>>=◌}
use Rattle.definition.specs.Limits.{max_moment}
use Rattle.definition.specs.Model.{Model}
use Rattle.definition.specs.SavedRun.{run_of, run_fits}
use Rattle.definition.specs.Engine.{bag_fits, advance_checks, advanced}
use Rattle.definition.specs.Channels.{Channel, or_past_end, turn_checks, turn}
use Rattle.definition.specs.ChannelRows.{refused_turn}
use Rattle.law_base.proofs.Results.{never-ok}
use Rattle.law_channels.proofs.TurnRows.{turn_inside}
use Rattle.channel_turn.specs.Turns.{turn_rows, turned_from}

-- ---- the first row that refuses

module _ (m : Model) (run : Bytes) (t : ℕ) (inside : Bool) (bag : Bytes) where
  pub run-unfit : run_fits m run ≡ false → refused 10 ≡ turn_rows m run t inside bag
  unfolding turn_rows
  run-unfit f = rw f

  module _ (f : run_fits m run ≡ true) where
    pub bad-moment : (ltb t (run_of m run).opening || ltb max_moment t) ≡ true → refused 11 ≡ turn_rows m run t inside bag
    unfolding turn_rows
    bad-moment o = rw (f, o)

    module _ (o : (ltb t (run_of m run).opening || ltb max_moment t) ≡ false) where
      pub bag-unfit : (inside && bag_fits bag) ≡ false → refused 12 ≡ turn_rows m run t inside bag
      unfolding turn_rows
      bag-unfit b = rw (f, o, b)

      pub let-in : (inside && bag_fits bag) ≡ true → ok tt ≡ turn_rows m run t inside bag
      unfolding turn_rows
      let-in b = rw (f, o, b)

-- ---- what they leave

module _ (m : Model) (t has : ℕ) (c : Channel) where
  -- inside they are those of an advance
  pub rows_inside : (bag : Bytes) → turn_rows m c.run t true bag ≡ advance_checks m c.run t bag
  unfolding turn_rows advance_checks
  rows_inside bag = refl

  -- past the end none passes
  rows-past : (bag : Bytes) → c.bag ≡ none → turn_checks m t c ≡ (turn_rows m c.run t false bag >>= λ _. ok bag)
  unfolding turn_checks turn_rows or_past_end
  rows-past bag e = rw e (go (not (run_fits m c.run)) (ltb t (run_of m c.run).opening || ltb max_moment t))
    where
      twelve : Result Bytes
      twelve = refused 12

      go : (a b : Bool) → (refuse_if a 10 >>= λ _. refuse_if b 11 >>= λ _. twelve) ≡ ((refuse_if a 10 >>= λ _. refuse_if b 11 >>= λ _. refuse_if true 12) >>= λ _. ok bag)
      go true b = refl
      go false true = refl
      go false false = refl

  pub never-past : (bag : Bytes) → turn_rows m c.run t false bag ≡ ok tt → ⊥
  unfolding turn_rows
  never-past bag e = go (not (run_fits m c.run)) (ltb t (run_of m c.run).opening || ltb max_moment t) e
    where
      go : (a b : Bool) → (refuse_if a 10 >>= λ _. refuse_if b 11 >>= λ _. refuse_if true 12) ≡ ok tt → ⊥
      go true b h = never-ok 10 tt h
      go false true h = never-ok 11 tt h
      go false false h = never-ok 12 tt h

  -- a row refuses it
  pub refused-inside : (bag : Bytes) → c.bag ≡ some bag → (number : ℕ) → refused number ≡ turn_rows m c.run t true bag → refused_turn number c ≡ turn m t has c
  unfolding advanced
  refused-inside bag p number e = sym (turn_inside m t has c bag p ∙ rw (sym (rows_inside bag) ∙ sym e))

  pub refused-past : (bag : Bytes) → c.bag ≡ none → (number : ℕ) → refused number ≡ turn_rows m c.run t false bag → refused_turn number c ≡ turn m t has c
  unfolding turn advanced
  refused-past bag p number e = rw (rows-past bag p, sym e)

  -- what passes all rows is let in
  pub turn-let-in : (bag : Bytes) → c.bag ≡ some bag → advance_checks m c.run t bag ≡ ok tt → turned_from m t has c.run bag c.trace ≡ turn m t has c
  turn-let-in bag p e = sym (turn_inside m t has c bag p ∙ rw e)
