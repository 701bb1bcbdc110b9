-- Model files byte by byte and the number that each gets: where two rows of the table apply, the one that comes first; and on both sides
-- of each limit. A file that is cut off where its next count should stand gets 1 once what stands before it has passed. Assumes nothing.
use mathlib.Core.Path.{◌≡◌, refl}
use Prim.Native.Nat.{ℕ, suc, ◌+◌, ◌*◌}
use mathlib.Core.List.{List, [], ◌∷◌, ◌++◌, map}
use Rattle.definition.specs.Lists.{concat, up_from}
use Rattle.definition.specs.Bytes.{Bytes}
use Rattle.definition.specs.Limits.{longest_model, longest_run}
use Rattle.definition.specs.Pinned.Decoder.{check_model}
use Rattle.definition.proofs.Computing.{computing}
use Rattle.definition.proofs.Literals.{b2, b3, b4, b5, z, endless, still, root, literals}

-- A file, and its number.
abbrev pub File : Type 0
File = Bytes × ℕ

-- ---- counts

unfoldable pub lone : Bytes
lone = b2 1 0 ++ root

unfoldable pub counts : List File
counts =
    -- components: no count, half a count, 64, 65, none, 256
    ([], 1) ∷ (1 ∷ [], 1) ∷ (b2 64 0, 1) ∷ (b2 65 0, 3) ∷ (b2 0 0, 3) ∷ (b2 0 1, 3)
    -- the root without its last byte, and no phase count
    ∷ (b2 1 0 ++ z 4, 1) ∷ (lone, 1) ∷ (lone ++ z 1, 1)
    -- phases: 512 is no limit passed but not the sum, 513 is (3 before 5); one more than the sum (5 before the missing record)
    ∷ (lone ++ b2 0 2, 5) ∷ (lone ++ b2 1 2, 3) ∷ (lone ++ b2 1 0, 5)
    -- rules: no count, 1,024 of them cut off, 1,025
    ∷ (lone ++ z 2, 1) ∷ (lone ++ z 3, 1) ∷ (lone ++ z 2 ++ b2 0 4, 1) ∷ (lone ++ z 2 ++ b2 1 4, 3)
    -- couplings: the same
    ∷ (lone ++ z 4, 1) ∷ (lone ++ z 5, 1) ∷ (lone ++ z 4 ++ b2 0 4, 1) ∷ (lone ++ z 4 ++ b2 1 4, 3)
    -- the lone root, and one byte more, which is no fifth section
    ∷ (lone ++ z 6, 0) ∷ (lone ++ z 7, 20) ∷ []

-- ---- components: the file ends after them

unfoldable pub with_one : Bytes → Bytes
with_one k = b2 2 0 ++ root ++ k

-- the root and n coupled components, each in the one before
unfoldable pub chain : ℕ → Bytes
chain n = b2 (suc n) 0 ++ root ++ concat (map (λ i. b5 0 i 0 0 0) (up_from 0 n))

unfoldable pub components : List File
components =
    -- a coupled component without children; 64 phases, the last one initial, order 1
    (with_one (b5 0 0 0 0 0), 1) ∷ (with_one (b5 1 0 64 63 1), 1)
    -- 65 phases, none, initial phase 1 of 1, order 2
    ∷ (with_one (b5 1 0 65 0 0), 4) ∷ (with_one (b5 1 0 0 0 0), 4) ∷ (with_one (b5 1 0 1 1 0), 4) ∷ (with_one (b5 1 0 1 0 2), 4)
    -- kind 2; a coupled one with a phase, an initial phase, an order
    ∷ (with_one (b5 2 0 0 0 0), 4) ∷ (with_one (b5 0 0 1 0 0), 4) ∷ (with_one (b5 0 0 0 1 0), 4) ∷ (with_one (b5 0 0 0 0 1), 4)
    -- its own parent; a later parent; an atomic parent, and the same one coupled
    ∷ (with_one (b5 1 1 1 0 0), 4) ∷ (b2 3 0 ++ root ++ b5 1 2 1 0 0 ++ root, 4)
    ∷ (b2 3 0 ++ root ++ b5 1 0 1 0 0 ++ b5 1 1 1 0 0, 4) ∷ (b2 3 0 ++ root ++ b5 0 0 0 0 0 ++ b5 1 1 1 0 0, 1)
    -- a root with a parent, an atomic root
    ∷ (b2 1 0 ++ b5 0 1 0 0 0, 4) ∷ (b2 1 0 ++ b5 1 0 1 0 0, 4)
    -- 8 ancestors, and 9; 64 components with one ancestor at most
    ∷ (chain 8, 1) ∷ (chain 9, 4) ∷ (b2 64 0 ++ z 320, 1) ∷ []

-- ---- phases: the file ends after them

-- one atomic of one phase
unfoldable pub one_phase : Bytes → Bytes
one_phase p = with_one (b5 1 0 1 0 0) ++ b2 1 0 ++ p

unfoldable pub advances : Bytes → Bytes
advances a = one_phase (a ++ z 14)

-- an output count and four slots
unfoldable pub says : ℕ → Bytes → Bytes → Bytes → Bytes → Bytes
says n s t u v = one_phase (z 4 ++ b2 0 n ++ s ++ t ++ u ++ v)

unfoldable pub o : Bytes
o = z 3

-- atomics of two phases and of one, with the next phases of all three
unfoldable pub nexts : ℕ → ℕ → ℕ → Bytes
nexts a b c =
    b2 3 0 ++ root ++ b5 1 0 2 0 0 ++ b5 1 0 1 0 0 ++ b2 3 0 ++ concat (map (λ n. b5 0 0 0 0 n ++ z 13) (b3 a b c))

unfoldable pub phases : List File
phases =
    -- the count above and below the sum, and the sum with the last byte missing
    (with_one (b5 1 0 1 0 0) ++ b2 2 0, 5) ∷ (with_one (b5 1 0 1 0 0) ++ b2 0 0, 5) ∷ (one_phase (z 17), 1) ∷ (one_phase (z 18), 1)
    -- advances: 1,000,000,000, one more, the last number below never, never
    ∷ (advances (b4 0 202 154 59), 1) ∷ (advances (b4 1 202 154 59), 6) ∷ (advances (b4 254 255 255 255), 6) ∷ (advances endless, 1)
    -- next phases below their own atomic's count
    ∷ (nexts 1 1 0, 1) ∷ (nexts 2 0 0, 6) ∷ (nexts 0 2 0, 6) ∷ (nexts 0 0 1, 6)
    -- four outputs, five
    ∷ (says 4 o o o o, 1) ∷ (says 5 o o o o, 6)
    -- ports 3 and 4
    ∷ (says 1 (b3 3 255 255) o o o, 1) ∷ (says 1 (b3 4 0 0) o o o, 6) ∷ (says 4 o o o (b3 4 0 0), 6)
    -- 1 then 256, and falling; equal ones; by port first; the last two of four falling
    ∷ (says 2 (b3 0 1 0) (b3 0 0 1) o o, 1) ∷ (says 2 (b3 0 0 1) (b3 0 1 0) o o, 6) ∷ (says 2 (b3 0 1 0) (b3 0 1 0) o o, 1)
    ∷ (says 2 (b3 0 9 0) (b3 1 0 0) o o, 1) ∷ (says 2 (b3 1 0 0) (b3 0 9 0) o o, 6)
    ∷ (says 4 (b3 0 1 0) (b3 0 2 0) (b3 0 3 0) (b3 0 2 0), 6)
    -- unused slots with a value, with a port
    ∷ (says 0 (b3 0 1 0) o o o, 6) ∷ (says 1 o o o (b3 1 0 0), 6) ∷ (says 3 o o o (b3 0 0 1), 6) ∷ []

-- ---- rules: the file ends after them

-- one atomic of two phases
unfoldable pub with_rules : ℕ → Bytes → Bytes
with_rules n r = with_one (b5 1 0 2 0 0) ++ b2 2 0 ++ still ++ still ++ b2 n 0 ++ r

-- component, phase, next phase, port; low and high value
unfoldable pub rule : Bytes → Bytes → Bytes
rule head values = head ++ values ++ b2 255 255 ++ z 4 ++ endless

-- low and high elapsed
unfoldable pub elapsing : Bytes → Bytes → Bytes
elapsing low high = with_rules 1 (b4 1 0 0 0 ++ z 6 ++ low ++ high)

unfoldable pub every : Bytes
every = b4 0 0 255 255

unfoldable pub rules : List File
rules =
    -- the last phases, the last port and all values; one byte short
    (with_rules 1 (rule (b4 1 1 1 3) every), 1) ∷ (with_rules 1 (z 17), 1) ∷ (with_rules 1 (rule (b4 1 0 0 0) (b4 7 1 7 1)), 1)
    -- port 4; phase 2 of 2; next phase 2 of 2; the root; component 2 of 2; the second of two rules
    ∷ (with_rules 1 (rule (b4 1 0 0 4) every), 7) ∷ (with_rules 1 (rule (b4 1 2 0 0) every), 7) ∷ (with_rules 1 (rule (b4 1 0 2 0) every), 7)
    ∷ (with_rules 1 (rule (b4 0 0 0 0) every), 7) ∷ (with_rules 1 (rule (b4 2 0 0 0) every), 7)
    ∷ (with_rules 2 (rule (b4 1 0 0 0) every ++ rule (b4 1 0 0 4) every), 7)
    -- values from 256 to 1; elapsed times from 5 to 5, from 256 to 255, and from 255 to 256
    ∷ (with_rules 1 (rule (b4 1 0 0 0) (b4 0 1 1 0)), 7)
    ∷ (elapsing (b4 5 0 0 0) (b4 5 0 0 0), 1) ∷ (elapsing (b4 0 1 0 0) (b4 255 0 0 0), 7) ∷ (elapsing (b4 255 0 0 0) (b4 0 1 0 0), 1) ∷ []

-- ---- couplings

-- the root holds the coupled 1 and the atomic 3; 1 holds the atomic 2
unfoldable pub coupled : ℕ → Bytes → Bytes
coupled n ks =
    b2 4 0 ++ root ++ b5 0 0 0 0 0 ++ b5 1 1 1 0 0 ++ b5 1 0 1 0 0 ++ b2 2 0 ++ still ++ still ++ b2 0 0 ++ b2 n 0 ++ ks

unfoldable pub couplings : List File
couplings =
    -- each kin: from parents, between siblings, to parents
    (coupled 8 (b4 0 0 1 0 ++ b4 0 3 3 3 ++ b4 1 0 0 0 ++ b4 1 0 2 0 ++ b4 1 0 3 0 ++ b4 2 0 1 0 ++ b4 3 0 0 0 ++ b4 3 0 1 0), 0)
    -- port 4 of the source and of the target; a byte short
    ∷ (coupled 1 (b4 0 4 1 0), 8) ∷ (coupled 1 (b4 0 0 1 4), 8) ∷ (coupled 1 (b3 0 0 1), 1)
    -- the same component, the root's too; a component that is not there
    ∷ (coupled 1 (b4 1 0 1 0), 8) ∷ (coupled 1 (b4 0 0 0 1), 8) ∷ (coupled 1 (b4 0 0 4 0), 8) ∷ (coupled 1 (b4 4 0 0 0), 8)
    -- from the root to its grandchild and back; between the grandchild and its parent's sibling
    ∷ (coupled 1 (b4 0 0 2 0), 8) ∷ (coupled 1 (b4 2 0 0 0), 8) ∷ (coupled 1 (b4 2 0 3 0), 8) ∷ (coupled 1 (b4 3 0 2 0), 8)
    -- rows that rise, stay or fall: the target before the target's port, the source's port before the target, the source first
    ∷ (coupled 2 (b4 0 0 1 1 ++ b4 0 0 3 0), 0) ∷ (coupled 2 (b4 0 0 3 0 ++ b4 0 0 1 1), 8) ∷ (coupled 2 (b4 0 0 3 0 ++ b4 0 0 3 0), 0)
    ∷ (coupled 2 (b4 0 0 3 0 ++ b4 0 1 1 0), 0) ∷ (coupled 2 (b4 0 1 1 0 ++ b4 0 0 3 0), 8)
    ∷ (coupled 2 (b4 0 3 3 0 ++ b4 1 0 0 0), 0) ∷ (coupled 2 (b4 1 0 0 0 ++ b4 0 3 3 0), 8)
    ∷ (coupled 2 (b4 0 0 1 0 ++ b4 0 0 1 1), 0) ∷ (coupled 3 (b4 0 0 1 0 ++ b4 0 0 1 1 ++ b4 0 0 1 0), 8) ∷ []

-- ---- routes

-- Couplings from the root's input down five levels to an atomic, four at each: 4 * 4 * 4 * 4 * 4 = 1,024 routes. Atomic 6 stands beside.
unfoldable pub multiplied : ℕ → Bytes → Bytes
multiplied n more =
    b2 7 0 ++ root ++ b5 0 0 0 0 0 ++ b5 0 1 0 0 0 ++ b5 0 2 0 0 0 ++ b5 0 3 0 0 0 ++ b5 1 4 1 0 0 ++ b5 1 0 1 0 0
    ++ b2 2 0 ++ still ++ still ++ b2 0 0
    ++ b2 n 0 ++ concat (map (λ i. b4 i 0 (suc i) 0 ++ b4 i 0 (suc i) 0 ++ b4 i 0 (suc i) 0 ++ b4 i 0 (suc i) 0) (up_from 0 5)) ++ more

unfoldable pub many_routes_model : List File
many_routes_model =
    -- 1,024; 1,025; with one byte more (20 before 9); with a fifth section (9 last), and a byte after it (2 before 9)
    (multiplied 20 [], 0) ∷ (multiplied 21 (b4 6 0 0 0), 9) ∷ (multiplied 21 (b4 6 0 0 0 ++ z 1), 20)
    ∷ (multiplied 21 (b4 6 0 0 0 ++ b3 1 0 2), 9) ∷ (multiplied 21 (b4 6 0 0 0 ++ b4 1 0 2 0), 2)
    -- one more way that leads nowhere: to input port 1 of the coupled 1, from where none goes on
    ∷ (multiplied 21 (b4 6 0 1 1), 0) ∷ []

-- ---- the longest file and the longest run

pub longest-model : longest_model ≡ (2 + 64 * 5) + (2 + 512 * 18) + (2 + 1024 * 18) + (2 + 1024 * 4) + (2 + 1)
longest-model = refl

pub longest_run_lem : longest_run ≡ 8 + 2 + 63 * 9
longest_run_lem = refl

-- ---- the rows

unfoldable pub refusing : Type 0
unfolding
    computing literals lone counts with_one chain components one_phase advances says o nexts phases with_rules rule elapsing every rules
    coupled couplings multiplied many_routes_model
refusing = Unit {0}

pub counts-judged : map (λ f. check_model f.0) counts ≡ map (λ f. f.1) counts
unfolding refusing
counts-judged = refl

pub components-judged : map (λ f. check_model f.0) components ≡ map (λ f. f.1) components
unfolding refusing
components-judged = refl

pub phases-judged : map (λ f. check_model f.0) phases ≡ map (λ f. f.1) phases
unfolding refusing
phases-judged = refl

pub rules-judged : map (λ f. check_model f.0) rules ≡ map (λ f. f.1) rules
unfolding refusing
rules-judged = refl

pub couplings-judged : map (λ f. check_model f.0) couplings ≡ map (λ f. f.1) couplings
unfolding refusing
couplings-judged = refl

pub routes-judged : map (λ f. check_model f.0) many_routes_model ≡ map (λ f. f.1) many_routes_model
unfolding refusing
routes-judged = refl
