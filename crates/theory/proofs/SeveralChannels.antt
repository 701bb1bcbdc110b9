-- Request (viii), several channels in one box: what one turn does, what the whole call does, that calling again after 22 goes on, and that whole calls
-- again and again leave in each part what its one advance would have left. Assumes nothing.
use Rattle.definition.specs.SeveralChannels.{SeveralChannels}
use Rattle.law_model.proofs.Reading.{accepted_sound}
use Rattle.law_channels.proofs.TurnKeeps.{turn-lengths, turn-within}
use Rattle.theory.proofs.Joined.{one_of}
use Rattle.theory.proofs.WholeCalls.{whole_call, each_channel}
use Rattle.theory.proofs.TurnAdvances.{as_advance, where_enough, turn-traces}
use Rattle.theory.proofs.TurnsCut.{left_by_22}
use Rattle.theory.proofs.TurnsAgain.{continues}
use Rattle.theory.proofs.ChannelsAgain.{ends_as_one}

pub several-channels : SeveralChannels
several-channels = record {
  one_turn = λ file m t has c b e. let a = accepted_sound file m b e in record {
    within_has = turn-within m t has c;
    as_advance = λ bag p. as_advance file m a.sound e t has c bag p;
    where_enough = λ bag p. where_enough file m a.sound e t has c bag p;
    left_by_22 = left_by_22 file m a.sound e t has c;
    same_lengths = turn-lengths m t has c;
    one_trace = one_of _ (turn-traces m a t has c);
  };
  whole_call = whole_call;
  each_channel = each_channel;
  continues = λ file m t bag run l ls b e. continues file m (accepted_sound file m b e).sound e t bag run l ls;
  ends_as_one = λ file runs m n i t bag trace bs b e l h c z.
      ends_as_one file m (accepted_sound file m b e).sound e (λ r k j. each_channel file r k m j b e) n i t bag trace l runs bs h c z;
}
