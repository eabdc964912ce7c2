use Rattle.std.proofs.Common.{inl, inr, refl, subst}
use Rattle.tftp_rows.specs.Listed.{IsListRowOf}
use Rattle.tftp_rows.specs.Whole.{moment_of}
use Rattle.tftp_rows.proofs.ListingLemmas.{kept_nowhere, moment_is, row_then}
use Rattle.tftp_rows.proofs.TellingLemmas.{on_err}
use Rattle.tftp_rows.proofs.lister.Lister.list_oldest.Goals as goal

pub returns-in_default-clause-all : goal.returns-in_default-clause-all
returns-in_default-clause-all g c named out history carried s is e = c.pop.ensures.all named out history carried s is c.in_default.is

pub returns-in_default-clause-same_session : goal.returns-in_default-clause-same_session
returns-in_default-clause-same_session g c named out history carried s is e = c.pop.ensures.none named out history carried s is c.in_default.is

pub returns-clause-told : goal.returns-clause-told
returns-clause-told g c named out history carried s is e =
    let watched = c.in-Some.ensures.watched named out history carried s is in
    let stands = c.in-Some.ensures.stands named out history carried s is in
    let trail = c.in-Some.ensures.trail named out history carried s is in
    let moment = moment_is c.pop.new.self c.read_until.result s stands.notes c.read_until.ensures in (
      c.in_ok-row.row,
      record {
        transfer = c.in-Some.ended.watched.transfer;
        next = record {
          opens = watched.0;
          first_time = c.in-Some.ensures.once named out history carried s is;
          oldest = λ n opened left. c.in-Some.ensures.first named out history carried s n is opened left;
        };
        trail = c.in-Some.ended.trail;
        kept = kept_nowhere c.in-Some.ended.trail _ c.in-Some.ended.watched.transfer named carried trail.own;
        undelivered = c.in-Some.ensures.undelivered named out history carried s is;
        of = row_then c.in_ok-row.row _ c.read_until.result c.in-Some.ended.trail s c.in-Some.ended.watched.transfer named carried moment (c.in_ok-row.ensures _ _ named carried trail);
        prints = c.in_ok-print_listed.ensures.prints;
        number = c.saturating_add-self.ensures;
        status = refl;
        handed_out = stands;
      },
    )

pub returns-in_err-row-clause-part : goal.returns-in_err-row-clause-part
returns-in_err-row-clause-part g c named out history carried s is = on_err c.from_residual.result (inl refl)

pub returns-in_err-print_listed-clause-part : goal.returns-in_err-print_listed-clause-part
returns-in_err-print_listed-clause-part g c named out history carried s is =
    let watched = c.in-Some.ensures.watched named out history carried s is in
    let stands = c.in-Some.ensures.stands named out history carried s is in
    let trail = c.in-Some.ensures.trail named out history carried s is in
    let moment = moment_is c.pop.new.self c.read_until.result s stands.notes c.read_until.ensures in
    on_err c.from_residual-in_err-print_listed.result (inr (record {
      transfer = c.in-Some.ended.watched.transfer;
      next = record {
        opens = watched.0;
        first_time = c.in-Some.ensures.once named out history carried s is;
        oldest = λ n opened left. c.in-Some.ensures.first named out history carried s n is opened left;
      };
      trail = c.in-Some.ended.trail;
      kept = kept_nowhere c.in-Some.ended.trail _ c.in-Some.ended.watched.transfer named carried trail.own;
      undelivered = c.in-Some.ensures.undelivered named out history carried s is;
      row = c.in_ok-row.row;
      of = subst (λ n. IsListRowOf c.in_ok-row.row n c.in-Some.ended.trail (moment_of s) c.in-Some.ended.watched.transfer named carried) c.saturating_add-self.ensures
          (row_then c.in_ok-row.row _ c.read_until.result c.in-Some.ended.trail s c.in-Some.ended.watched.transfer named carried moment (c.in_ok-row.ensures _ _ named carried trail));
      prints = c.in_err-print_listed.ensures.prints;
    }))
