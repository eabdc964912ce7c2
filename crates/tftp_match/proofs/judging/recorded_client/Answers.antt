use Rattle.std.proofs.Common.{rules, ◌==◌, ◌∙◌, IfNone, IfOk, Some, ap, inl, inr, not, refl, subst}
use Rattle.tftp_rows.specs.declared.remarks.Remarks.{Remarks}
use Rattle.tftp_match.specs.Captures.Capture.{Recording, Text}
use Rattle.tftp_match.specs.Captures.{whole_left}
use Rattle.tftp_match.specs.Matching.{IsUntakenOf}
use Rattle.tftp_match.specs.Unread.{AreWordsOf, IsHeldFault, IsUnreadTold}
use Rattle.tftp_match.proofs.MatchingLemmas.{none_at, on_none, on_some, some_at, wanted}
use Rattle.tftp_match.proofs.judging.recorded_client.Goals as goal

pub returns-clause-taken : goal.returns-clause-taken
returns-clause-taken g c =
    let asked = some_at c.in_ok-asked.field-0 c.in-Some.asked _ c.in-Some.is c.in_ok-asked.ensures.asked in
    let held = some_at c.in_ok-held.field-0 c.in-Some-2.held _ c.in-Some-2.is c.in_ok-held.ensures.held in
    on_some c.beside_held_server.result _ _ (λ j p. ((Recording c.args.client.now, Text (Some c.in-Some-2.held.bytes.items), refl, held.0, p.0), p.1 ∙ (held.2 ∙ asked.1)))
    (c.beside_held_server.ensures.taken (rw c.as_slice.ensures.value asked.0) (λ several. held.1 (wanted c.len.result _ (search rules) several)))

pub returns-clause-told : goal.returns-clause-told
returns-clause-told g c =
    let asked = some_at c.in_ok-asked.field-0 c.in-Some.asked _ c.in-Some.is c.in_ok-asked.ensures.asked in
    let held = some_at c.in_ok-held.field-0 c.in-Some-2.held _ c.in-Some-2.is c.in_ok-held.ensures.held in
    let one = Recording c.args.client.now in
    let other = Text (Some c.in-Some-2.held.bytes.items) in
    on_none c.beside_held_server.result _ _ (λ told. inl (one, other, refl, held.0, told))
    (subst (λ (m : Remarks g.row.E.Denot). IfOk c.beside_held_server.result (λ found. IfNone found (IsUntakenOf c.args.request.now one other m.program.now (g.E.Write.contents m.errors.0) (g.E.Write.contents c.beside_held_server.new.remarks.errors.0)))) (held.2 ∙ asked.1)
    (c.beside_held_server.ensures.untaken (rw c.as_slice.ensures.value asked.0) (λ several. held.1 (wanted c.len.result _ (search rules) several))))

pub returns-in_default-2-clause-told : goal.returns-in_default-2-clause-told
returns-in_default-2-clause-told g c =
    let asked = some_at c.in_ok-asked.field-0 c.in-Some.asked _ c.in-Some.is c.in_ok-asked.ensures.asked in
    let unread = none_at c.in_ok-held.field-0 _ c.in_default-2.is c.in_ok-held.ensures.unread in
    let others = c.in-Some.asked.items in
    inr (inr (
      others,
      asked.0,
      subst (λ wants. IsUnreadTold (AreWordsOf g.F.From.from_gives g.F.Display.output) (IsHeldFault wants (whole_left g.S.Read.remaining c.args.server)) c.args.remarks.now.program.now c.args.request.now.server.now (g.E.Write.contents c.args.remarks.now.errors.0) (g.E.Write.contents c.held_of.new.remarks.errors.0))
          (ap (λ n. not (n == 1)) (search rules))
          (subst (λ (m : Remarks g.row.E.Denot). IsUnreadTold (AreWordsOf g.F.From.from_gives g.F.Display.output) (IsHeldFault (not (c.len.result == 1)) (whole_left g.S.Read.remaining c.args.server)) m.program.now c.args.request.now.server.now (g.E.Write.contents m.errors.0) (g.E.Write.contents c.held_of.new.remarks.errors.0)) asked.1 unread),
    ))
