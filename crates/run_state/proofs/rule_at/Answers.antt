-- The rule beside the phase where the bit is set.
use mathlib.Core.Path.{◌≡◌, ◌∙◌, sym, ap}
use mathlib.Core.Bool.{Bool, cond, true, false}
use mathlib.Core.List.{List}
use Prim.Native.Nat.{ℕ, ◌<◌}
use native.Mathlib.Omega.{arith}
use lib.ListN.{get_or, length}
use Rattle.definition.specs.Limits.{no_position}
use Rattle.run_state.specs.Held.{bits_in, is_told, rules_beside, last_rules_in}
use Rattle.run_state.proofs.Bits.{set-read}
use Rattle.run_state.proofs.Laws.{beside-size}
use Rattle.run_state.proofs.rule_at.Goals as goal

-- what is read at a position, by its bit
shown : (w : List ℕ) (i : ℕ) (b : Bool) → i < length (rules_beside w) → is_told w i ≡ b → get_or (last_rules_in w) i 0 ≡ cond b (get_or (rules_beside w) i 0) no_position
unfolding last_rules_in is_told
shown w i b l e = set-read (bits_in w) (rules_beside w) i l ∙ ap (λ t. cond t (get_or (rules_beside w) i 0) no_position) e

pub returns-then-is_told : goal.returns-then-is_told
returns-then-is_told c =
    let within : c.args.position < length (rules_beside c.args.state.now) = omega (arith, c.requires, beside-size c.args.state.now c.whole.ensures) in
    c.beside_at.ensures ∙ sym (shown c.args.state.now c.args.position true within (sym c.is_told.ensures ∙ c.if-is_told.true))

pub returns-else-is_told : goal.returns-else-is_told
returns-else-is_told c =
    let within : c.args.position < length (rules_beside c.args.state.now) = omega (arith, c.requires, beside-size c.args.state.now c.whole.ensures) in
    sym (shown c.args.state.now c.args.position false within (sym c.is_told.ensures ∙ c.if-is_told.false))
