-- A bag that is cut does not stand; of another its moment and its messages decide.
use native.Mathlib.Omega.{arith}
use borrow.Author.Tests.{lt-ltb, le-ltb}
use mathlib.Core.Path.{◌≡◌}
use mathlib.Core.Bool.{true, false}
use lib.Dec.{ltb}
use lib.ListN.{length}
use Rattle.definition.specs.Pinned.FeedReader.{bag_length, feed_bag_fits}
use Rattle.feed_bags.proofs.stands.Goals as goal

pub returns-then-here-length_of : goal.returns-then-here-length_of
returns-then-here-length_of c =
    let s = c.args.here.now in
    let cut : ltb (length s) (bag_length s) ≡ true = lt-ltb (length s) (bag_length s) (omega (arith, c.if-here-length_of.true, c.length_of.ensures)) in
    rw cut

pub returns : goal.returns
unfolding feed_bag_fits
returns c =
    let s = c.args.here.now in
    let whole : ltb (length s) (bag_length s) ≡ false = le-ltb (length s) (bag_length s) (omega (arith, c.if-here-length_of.false, c.length_of.ensures)) in
    rw (whole, c.bag_fits.ensures, c.bag_of.ensures, c.moment_of-moment.ensures)
