use Rattle.std.proofs.Common.{refl}
use Rattle.tftp_rows.proofs.TellingLemmas.{places_err, places_none, row_told}
use Rattle.tftp_rows.proofs.teller.Teller.tell_one.Goals as goal

pub returns-in_err-row-clause-rows : goal.returns-in_err-row-clause-rows
returns-in_err-row-clause-rows g c place told = places_err g.W.Write.contents _ _ c.from_residual.result _ _ c.from_residual.ensures.0 (places_none g.W.Write.contents c.args.self.now _ _)

pub returns-clause-rows : goal.returns-clause-rows
returns-clause-rows g c place told =
    row_told g.W.Write.contents c.args.self.now _ _ c.put.result _ place c.in_ok-row.row refl refl refl refl refl refl (
      c.args.told.now,
      told,
      record {
        file = c.in_ok-row.ensures.file;
        number = c.in_ok-row.ensures.number;
        place = c.in_ok-row.ensures.place;
        frame = c.in_ok-row.ensures.frame;
        verdict = c.in_ok-row.ensures.verdict;
        charge = c.in_ok-row.ensures.charge;
        ended = c.in_ok-row.ensures.ended;
        stands = c.in_ok-row.ensures.stands;
        beyond = c.in_ok-row.ensures.beyond;
        rollover = c.in_ok-row.ensures.rollover;
        times = c.in_ok-row.ensures.times;
      },
    )
    c.put.ensures.rows
