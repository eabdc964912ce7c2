use Rattle.std.proofs.Common.{refl}
use Rattle.tftp_rows.proofs.TimesLemmas.{times_of_pace}
use Rattle.tftp_rows.proofs.times.Times.of.Goals as goal

pub returns : goal.returns
returns c judging x named carried h =
    times_of_pace c.pace-pace.result _ x c.args.bytes _ c.last_word.result (c.pace-pace.ensures judging x named carried h) (c.last_word.ensures judging x named carried h) c.lasted-nanoseconds.ensures c.rate.ensures refl refl refl
