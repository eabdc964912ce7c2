use Rattle.std.proofs.Common.{◌∷◌, map, refl, ap, subst, sym, ◌∙◌}
use Rattle.audit_flows.specs.{Transfer, TransferDoubts, TransferEnds}
use Rattle.audit_flows.specs.Transfers.{AreEndsAfter, IsDoubtedAfter}
use Rattle.audit_recording.specs.declared.blame.blame.Blame.{Blame}
use Rattle.audit_recording.specs.declared.blame.closing.Closing.{Closing}
use Rattle.audit_recording.specs.Blame.Frames.{Framed, framed, framed_after, view_of, whole_of}
use Rattle.audit_recording.specs.Blame.Kept.{IsBlameBetween, IsBlameOf, sent_of}
use Rattle.audit_recording.specs.Endings.Kept.{IsClosingOf}
use Rattle.audit_recording.specs.declared.rows.row.Point.TheVariants.{Client}
use Rattle.audit_recording.proofs.BlameLemmas.Trailing.{all_placed, going_at, gone_at, named_at, passed_same, trail_more, twice_at}
use Rattle.audit_recording.proofs.blame.trail.Trail.take.Goals as goal

pub returns-clause-stands : goal.returns-clause-stands
returns-clause-stands c judging x named d carried was passes at doubts about opens watching =
    let f : Framed = framed_after named carried d in
    let whole = whole_of named carried in
    let number = c.note.ensures.number ∙ ap (λ (e : TransferEnds). e.number) c.note_place.ensures.ends ∙ was.number in
    let ends = c.note.ensures.stands f.placed whole (subst (λ (e : TransferEnds). AreEndsAfter e whole) (sym c.note_place.ensures.ends) was.ends) at (sym passes.source) (sym passes.target) (sym passes.payload) in
    let doubted = subst (λ (t : TransferDoubts). IsDoubtedAfter t (f.placed ∷ whole)) (sym c.doubts.ensures) watching.doubts in
    let gone = gone_at c.args.self.now c.note_place.new.self c.note_place.new.self judging x named d carried c.args.passing.now was passes about c.args.found.now.place at c.note_place.ensures.own c.note_place.ensures.beside in
    let blamed = c.blamed_by.ensures x f passes refl at doubts doubted (ap (λ (t : TransferDoubts). t.number) c.doubts.ensures ∙ watching.number) gone in
    let names = c.with-self.ensures ∙ named_at c.args.self.now c.note_place.new.self c.note_place.new.self judging x named d carried c.args.passing.now was passes about c.args.found.now.place at c.note_place.ensures.own c.note_place.ensures.beside in
    let passed = passed_same x f (record { blamed = c.blamed_by.result; place = c.args.found.now.place; target = c.args.passing.now.target }) blamed at passes.target in
    let going =
    c.goes_on_by_more-self.ensures f.placed whole doubts (sym passes.payload)
    ∙ going_at c.args.self.now c.note_place.new.self c.note_place.new.self judging x named d carried c.args.passing.now was passes about c.args.found.now.place at c.note_place.ensures.own c.note_place.ensures.beside in
    let own = c.note_place.ensures.transfer ∙ was.transfer in
    let closing = subst (λ (y : Transfer). IsClosingOf c.note-2.new.self y (view_of Client y.number named (d ∷ carried))) own
    (c.in_ok-note.ensures named d carried
    (subst (λ (y : Transfer). IsClosingOf c.note_place.new.self.closing y (view_of Client y.number named carried)) (sym own)
    (subst (λ (k : Closing). IsClosingOf k x (view_of Client x.number named carried)) (sym c.note_place.ensures.closing) was.closing))
    passes at ends (number ∙ sym (ap (λ (y : Transfer). y.number) own))) in
    trail_more c.args.self.now c.note_place.new.self _ judging x named d carried c.args.passing.now was passes about c.args.found.now.place at c.note_place.ensures.own c.note_place.ensures.beside
    refl refl refl refl refl refl c.first-self.ensures c.first-self-2.ensures c.first-self-3.ensures c.first-self-4.ensures going number ends opens gone names
    (twice_at c.args.self.now c.note_place.new.self c.note_place.new.self judging x named d carried c.args.passing.now was passes about c.args.found.now.place at
    (λ own. c.in_ok-note_place.ensures.twice (map sent_of (view_of Client x.number named carried)) own was.twice) c.note_place.ensures.beside)
    closing
    (c.in_ok-take.ensures.ends judging x f whole (framed named carried) (subst (λ (b : Blame). IsBlameOf b judging x whole (framed named carried)) (sym c.note_place.ensures.blame) was.blame) passed about number ends (all_placed named carried) watching)

pub returns-clause-between : goal.returns-clause-between
returns-clause-between c judging x named d carried was between passes at doubts about watching =
    let f : Framed = framed_after named carried d in
    let whole = whole_of named carried in
    let number = c.note.ensures.number ∙ ap (λ (e : TransferEnds). e.number) c.note_place.ensures.ends ∙ was.number in
    let ends = c.note.ensures.stands f.placed whole (subst (λ (e : TransferEnds). AreEndsAfter e whole) (sym c.note_place.ensures.ends) was.ends) at (sym passes.source) (sym passes.target) (sym passes.payload) in
    let doubted = subst (λ (t : TransferDoubts). IsDoubtedAfter t (f.placed ∷ whole)) (sym c.doubts.ensures) watching.doubts in
    let gone = gone_at c.args.self.now c.note_place.new.self c.note_place.new.self judging x named d carried c.args.passing.now was passes about c.args.found.now.place at c.note_place.ensures.own c.note_place.ensures.beside in
    let blamed = c.blamed_by.ensures x f passes refl at doubts doubted (ap (λ (t : TransferDoubts). t.number) c.doubts.ensures ∙ watching.number) gone in
    let passed = passed_same x f (record { blamed = c.blamed_by.result; place = c.args.found.now.place; target = c.args.passing.now.target }) blamed at passes.target in
    c.in_ok-take.ensures.between judging x f whole (framed named carried) (subst (λ (b : Blame). IsBlameBetween b judging x whole (framed named carried)) (sym c.note_place.ensures.blame) between) passed about number ends (all_placed named carried) watching
