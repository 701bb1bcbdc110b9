-- Demand 2: an advance is the root's resultant carried through its instants by document 001's own bookkeeping, from any state that stands for
-- the saved run; and the order of messages in a bag changes nothing. Assumes nothing.
use Rattle.law_refusals.proofs.Deciding as RD
use Rattle.theory.proofs.StandsOnce as SO
use mathlib.Core.Path.{◌≡◌, refl, ap, ap₂}
use Prim.Native.Nat.{ℕ, ◌*◌, ◌%◌}
use mathlib.Core.Bool.{Bool, ◌&&◌}
use lib.Dec.{leb, eqb}
use lib.ListN.{length}
use Rattle.definition.specs.Lists.{Same}
use Rattle.definition.specs.Bytes.{Bytes, AllBytes, Result, ok, refused, ◌>>=◌}
use Rattle.definition.specs.Limits.{message_size, max_given}
use Rattle.definition.specs.Model.{Model}
use Rattle.definition.specs.Records.{port_fits}
use Rattle.definition.specs.Pinned.Decoder.{accepted}
use Rattle.definition.specs.SavedRun.{run_of}
use Rattle.definition.specs.Engine.{to_bag, bag_fits, advance_checks, advanced, advance}
use Rattle.definition.specs.Calls.{run_calls, engine}
use Rattle.definition.specs.Demands.{opening_of, Demand2}
use Rattle.law_base.proofs.Bags.{message-perm}
use Rattle.law_base.proofs.Lists.{all-perm}
use Rattle.law_model.proofs.WellFormed.{WellFormed}
use Rattle.law_model.proofs.Reading.{accepted_sound}
use Rattle.law_flat.proofs.Checks.{advance-ok}
use Rattle.law_calls.proofs.Lift.{advance-alike, ends-equal}
use Rattle.law_calls.proofs.Kept.{BetweenSame}
use Rattle.law_calls.proofs.BagOrder.{external_order, confluent_order, agree-order}
use Rattle.law_calls.proofs.Fitting.{fits_run}
use Rattle.law_model.proofs.Answers.{end_of}
use Rattle.theory.proofs.Shown.{carried_ends, as_defined}
use Rattle.theory.proofs.Standing.{start-stands}
use Rattle.theory.proofs.ThroughChannels.{through_channels}
use Rattle.theory.proofs.Through.{start_saves, through_calls, from_start}

-- ---- the order of a given bag

-- the checks of two bags of as many bytes and the same messages
bag_fits_lem : (b c : Bytes) → length b ≡ length c → Same (to_bag b) (to_bag c) → bag_fits b ≡ bag_fits c
unfolding bag_fits
bag_fits_lem b c e s =
    ap₂ (λ (n : ℕ) (t : Bool). eqb (n % message_size) 0 && leb n (message_size * max_given) && t) e (all-perm port_fits (message-perm (to_bag b) (to_bag c) s))

given_order : (file run : Bytes) (t : ℕ) (b c trace table : Bytes) → AllBytes file → length b ≡ length c → Same (to_bag b) (to_bag c)
    → advance file run t b trace table ≡ advance file run t c trace table
unfolding advance
given_order file run t b c trace table bytes e s = accept (accepted file) refl
  where
    same-checks : (m : Model) → advance_checks m run t b ≡ advance_checks m run t c
    same-checks m = unfold advance_checks in (rw (bag_fits_lem b c e s))

    same_end : (m : Model) (w : WellFormed m) → advance_checks m run t c ≡ ok tt → end_of m run t b trace ≡ end_of m run t c trace
    same_end m w h =
        let k = advance-ok m run t c h in
        ends-equal {Between = BetweenSame m w} {t = t} _ _ (λ o rs qs z. z.0)
        (advance-alike (agree-order m w) (length trace) t (to_bag b) (to_bag c) s (opening_of m run) (run_of m run).entries (run_of m run).entries
        (refl, (fits_run m run k.run_fits_lem).0.0) k.not_early)

    check : (m : Model) → WellFormed m → (r : Result (Unit {0})) → advance_checks m run t c ≡ r
        → advanced run trace table (advance_checks m run t c >>= λ _. ok (end_of m run t b trace)) ≡ advanced run trace table (advance_checks m run t c >>= λ _. ok (end_of m run t c trace))
    check m w (refused n) h = rw h
    check m w (ok u) h = rw h (ap (λ z. advanced run trace table (ok z)) (same_end m w h))

    accept : (r : Result Model) → accepted file ≡ r → advance file run t b trace table ≡ advance file run t c trace table
    accept (refused n) f = rw f
    accept (ok m) f = rw (f, same-checks m) (check m (accepted_sound file m bytes f).sound (advance_checks m run t c) refl)

pub demand2 : Demand2
demand2 = record {
  carried_ends = λ file run t bag trace m b f h q s. carried_ends run t bag trace m (accepted_sound file m b f).sound h q s;
  as_defined = as_defined;
  start_saves = λ file buffer m b f z. start_saves file m b f buffer z;
  at_start_lem = λ file m b f. start-stands m (accepted_sound file m b f).sound;
  at_any = SO.at_any;
  stands_for_one = SO.stands_for_one;
  rule_decides = RD.rule_decides;
  through_calls = λ file run m b f q s calls l. through_calls file m b f calls l q run s;
  from_start = λ file run m b f before calls l z. from_start file m b f (run_calls (engine file) run before).1 z calls l;
  through_channels = λ file runs m b f n i l q s calls h. through_channels file m b f n i l calls h q runs s;
  given_order = given_order;
  external_order = external_order;
  confluent_order = confluent_order;
}
