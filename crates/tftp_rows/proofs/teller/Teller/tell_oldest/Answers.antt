use Rattle.std.proofs.Common.{◌∙◌, subst, sym}
use Rattle.audit_recording.specs.Session.Beside.{IsMarkedBy}
use Rattle.audit_recording.specs.Session.Heard.{IsUndeliveredOf}
use Rattle.audit_recording.specs.declared.blame.trail.Trail.{Trail}
use Rattle.tftp_rows.proofs.TellingLemmas.{judged_as, missing_there, numbered, numbered_part, on_err, told_with, until_there, within_there}
use Rattle.tftp_rows.proofs.teller.Teller.tell_oldest.Goals as goal

pub returns-in_default-clause-all : goal.returns-in_default-clause-all
returns-in_default-clause-all g c named out history carried s is e = c.pop.ensures.all named out history carried s is c.in_default.is

pub returns-in_default-clause-same_session : goal.returns-in_default-clause-same_session
returns-in_default-clause-same_session g c named out history carried s is e = c.pop.ensures.none named out history carried s is c.in_default.is

pub returns-clause-told : goal.returns-clause-told
returns-clause-told g c named out history carried s is e =
    let watched = c.in-Some.ensures.watched named out history carried s is in
    let stands = c.in-Some.ensures.stands named out history carried s is in
    let rows = c.in_ok-tell_judged.ensures.rows in
    record {
      transfer = c.in-Some.ended.watched.transfer;
      next = record {
        opens = watched.0;
        first_time = c.in-Some.ensures.once named out history carried s is;
        oldest = λ n opened left. c.in-Some.ensures.first named out history carried s n is opened left;
      };
      judged = c.new-judged.result;
      of = judged_as c.new-judged.result c.in-Some.ended.trail c.in-Some.ended.watched _ _ c.in-Some.ended.watched.transfer named carried (c.judging.ensures ∙ c.pop.ensures.judging) (c.new-judged.ensures.judged _ named carried) (c.in-Some.ensures.trail named out history carried s is) watched.1;
      missing = missing_there c.new-judged.result c.in-Some.ended.trail c.missing_of-missing.result s c.new-judged.ensures.trail c.new-judged.ensures.missing (c.missing_of-missing.ensures.first s stands.notes);
      within = within_there c.new-judged.result c.in-Some.ended.trail c.missing_of-missing.result s c.new-judged.ensures.trail c.new-judged.ensures.missing (c.missing_of-missing.ensures.within s stands.notes);
      beside = subst (IsMarkedBy c.in-Some.ended.watched.transfer.number s.beside) (sym c.new-judged.ensures.trail) (c.in-Some.ensures.beside named out history carried s is);
      undelivered = subst (λ (t : Trail). IsUndeliveredOf t.undelivered c.in-Some.ended.watched.transfer named history carried) (sym c.new-judged.ensures.trail) (c.in-Some.ensures.undelivered named out history carried s is);
      until = until_there c.new-judged.result c.pop.new.self c.read_until-now.result s stands.notes c.new-judged.ensures.until c.read_until-now.ensures;
      rows = numbered g.W.Write.contents c.args.self.now c.tell_judged.new.self c.saturating_add-self.result _ _ rows;
      number = told_with g.W.Write.contents c.args.self.now c.tell_judged.new.self c.saturating_add-self.result _ _ rows ∙ c.saturating_add-self.ensures;
      status = c.in_ok-tell_judged.ensures.status;
      handed_out = stands;
    }

pub returns-in_err-tell_judged-clause-part : goal.returns-in_err-tell_judged-clause-part
returns-in_err-tell_judged-clause-part g c named out history carried s is =
    let watched = c.in-Some.ensures.watched named out history carried s is in
    on_err c.from_residual.result (record {
      transfer = c.in-Some.ended.watched.transfer;
      next = record {
        opens = watched.0;
        first_time = c.in-Some.ensures.once named out history carried s is;
        oldest = λ n opened left. c.in-Some.ensures.first named out history carried s n is opened left;
      };
      judged = c.new-judged.result;
      of = judged_as c.new-judged.result c.in-Some.ended.trail c.in-Some.ended.watched _ _ c.in-Some.ended.watched.transfer named carried (c.judging.ensures ∙ c.pop.ensures.judging) (c.new-judged.ensures.judged _ named carried) (c.in-Some.ensures.trail named out history carried s is) watched.1;
      rows = numbered_part g.W.Write.contents c.args.self.now c.tell_judged.new.self c.saturating_add-self.result _ c.new-judged.result _ c.saturating_add-self.ensures c.in_err-tell_judged.ensures.rows;
    })

pub returns-clause-number : goal.returns-clause-number
returns-clause-number g c e = told_with g.W.Write.contents c.args.self.now c.tell_judged.new.self c.saturating_add-self.result _ _ c.in_ok-tell_judged.ensures.rows ∙ c.saturating_add-self.ensures
