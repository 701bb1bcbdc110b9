-- A row refuses the turn, or its place lies inside and it is let in (Checked).
use mathlib.Core.Path.{◌≡◌, refl, sym, ap, ◌∙◌}
use mathlib.Core.Bool.{Bool, true, false}
use Prim.Native.Nat.{ℕ}
use lib.ListN.{length}
use Rattle.definition.specs.Bytes.{Result, ok, refused}
use Rattle.definition.specs.Model.{Model}
use Rattle.definition.specs.Engine.{advance_checks}
use Rattle.definition.specs.Channels.{bag_at, Channel}
use Rattle.definition.specs.Channels as Definition
use Rattle.definition.specs.ChannelRows.{refused_turn}
use Rattle.model_file.specs.Checked.{model_of}
use Rattle.call_answers.specs.Answers.{place_of}
use Rattle.channel_turn.specs.Turns.{inside_of, bag_lent, turn_rows}
use Rattle.channel_turn.proofs.Places.{inside-some, past-none}
use Rattle.channel_turn.proofs.Checked.{rows_inside, never-past, refused-inside, refused-past, turn-let-in}
use Rattle.channel_turn.proofs.turn.Goals as goal
use Rattle.channel_turn.proofs.turn.Goals.{After-check_turn}

abbrev model : After-check_turn → Model
model c = model_of c.args.file.now c.args.n

abbrev channel : After-check_turn → Channel
channel c = let a = c.args in record { run = a.run.now; trace = a.trace.now; bag = bag_at a.bags.now (place_of a.place) }

-- whether the place lies inside
abbrev answer : After-check_turn → Bool
answer c = c.lies_inside-inside.result

-- the rows with the place inside or not
abbrev rows : After-check_turn → Bool → Result (Unit {0})
rows c b = let a = c.args in turn_rows (model c) a.run.now a.t b (bag_lent a.bags.now a.place b)

-- those of the checks, which were made with the bag lent
abbrev told : After-check_turn → Result (Unit {0})
told c = turn_rows (model c) c.args.run.now c.args.t (answer c) c.bag_lent-bag.result.now

is-inside : (c : After-check_turn) → inside_of (length c.args.bags.now) c.args.place ≡ answer c
is-inside c = sym c.lies_inside-inside.ensures

rows-told : (c : After-check_turn) (b : Bool) → answer c ≡ b → told c ≡ rows c b
rows-told c b e = ap (turn_rows (model c) c.args.run.now c.args.t (answer c)) c.bag_lent-bag.ensures ∙ ap (rows c) e

-- ---- a row refuses it

fails : (c : After-check_turn) (number : ℕ) → refused number ≡ told c
    → refused_turn number (channel c) ≡ Definition.turn (model c) c.args.t c.args.has (channel c)
fails c number r = go (answer c) refl
  where
    go : (b : Bool) → answer c ≡ b → refused_turn number (channel c) ≡ Definition.turn (model c) c.args.t c.args.has (channel c)
    go true e =
        refused-inside (model c) c.args.t c.args.has (channel c) (bag_lent c.args.bags.now c.args.place true)
        (inside-some c.args.bags.now c.args.place (is-inside c ∙ e)) number (r ∙ rows-told c true e)
    go false e =
        refused-past (model c) c.args.t c.args.has (channel c) (bag_lent c.args.bags.now c.args.place false)
        (past-none c.args.bags.now c.args.place (is-inside c ∙ e)) number (r ∙ rows-told c false e)

pub returns-in-Err : goal.returns-in-Err
returns-in-Err c = rw c.from.ensures (fails (goal.at.returns-in-Err c).After-check_turn _ c.in-Err.ensures)

-- ---- all rows pass it

-- Its place lies inside, and the checks of an advance with the bag there pass.
passed : (c : After-check_turn) → ok tt ≡ told c
    → (answer c ≡ true) × (advance_checks (model c) c.args.run.now c.args.t (bag_lent c.args.bags.now c.args.place true) ≡ ok tt)
passed c p = go (answer c) refl
  where
    through : (b : Bool) → answer c ≡ b → rows c b ≡ ok tt
    through b e = sym (p ∙ rows-told c b e)

    go : (b : Bool) → answer c ≡ b
        → (b ≡ true) × (advance_checks (model c) c.args.run.now c.args.t (bag_lent c.args.bags.now c.args.place true) ≡ ok tt)
    go true e = (refl, sym (rows_inside (model c) c.args.t c.args.has (channel c) _) ∙ through true e)
    go false e = absurd (never-past (model c) c.args.t c.args.has (channel c) _ (through false e))

-- The bag lent is the one at the place.
same_bag : (c : After-check_turn) → ok tt ≡ told c → c.bag_lent-bag.result.now ≡ bag_lent c.args.bags.now c.args.place true
same_bag c p = c.bag_lent-bag.ensures ∙ ap (bag_lent c.args.bags.now c.args.place) (passed c p).0

pub turn_let_in-requires : goal.turn_let_in-requires
turn_let_in-requires c =
    let at = (goal.at.turn_let_in-requires c).After-check_turn in
    let q = c.requires in
    let p = c.in_default.ensures in
    (record { model = q.model; tabled = q.tabled; checks = rw (same_bag at p) (passed at p).1 }, q.roomy)

pub returns : goal.returns
returns c =
    let at = (goal.at.returns c).After-check_turn in
    let a = c.args in
    let p = c.in_default.ensures in
    c.turn_let_in.ensures
    ∙ rw (same_bag at p) (turn-let-in (model at) a.t a.has (channel at) (bag_lent a.bags.now a.place true)
    (inside-some a.bags.now a.place (is-inside at ∙ (passed at p).0)) (passed at p).1)
