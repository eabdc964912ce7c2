use Rattle.std.proofs.Common.{◌∙◌, ap, subst}
use Rattle.tftp_match.specs.Captures.{IsNoted, capture_of}
use Rattle.tftp_match.specs.Matching.{AreRead, IsToldOfBoth}
use Rattle.tftp_match.specs.Matching.IsToldOfFiles.{server_unread, unsaid}
use Rattle.tftp_match.specs.Unread.{AreWordsOf, IsFileFault, IsUnreadTold}
use Rattle.tftp_match.proofs.MatchingLemmas.{none_at, on_none, some_at}
use Rattle.tftp_match.proofs.judging.judge_captures.Goals as goal

pub returns-in_default-2-clause-told : goal.returns-in_default-2-clause-told
returns-in_default-2-clause-told g c =
    let client = some_at c.in_ok-client.field-0 c.in-Some.client _ c.in-Some.is c.in_ok-client.ensures.begun in
    let unread = none_at c.in_ok-server.field-0 _ c.in_default-2.is c.in_ok-server.ensures.unread in
    server_unread (capture_of g.R.Read.remaining c.in-Some.client) (g.E.Write.contents c.begun.new.remarks.errors.0) client.0 client.1
    (subst (λ program. IsUnreadTold (AreWordsOf g.F.From.from_gives g.F.Display.output) (IsFileFault (g.S.Read.remaining c.args.server)) program c.args.request.now.server.now (g.E.Write.contents c.begun.new.remarks.errors.0) (g.E.Write.contents c.begun-2.new.remarks.errors.0)) (ap (λ r. r.program.now) c.in_ok-client.ensures.same) unread)

pub returns-clause-told : goal.returns-clause-told
returns-clause-told g c =
    let client = some_at c.in_ok-client.field-0 c.in-Some.client _ c.in-Some.is c.in_ok-client.ensures.begun in
    let server = some_at c.in_ok-server.field-0 c.in-Some-2.server _ c.in-Some-2.is c.in_ok-server.ensures.begun in
    let same = ap (λ r. r.program.now) c.in_ok-client.ensures.same in
    let again = ap (λ r. r.program.now) c.in_ok-server.ensures.same ∙ same in
    let one = capture_of g.R.Read.remaining c.in-Some.client in
    let other = capture_of g.S.Read.remaining c.in-Some-2.server in
    let start = g.E.Write.contents c.args.remarks.now.errors.0 in
    let between = g.E.Write.contents c.begun.new.remarks.errors.0 in
    let until = g.E.Write.contents c.begun-2.new.remarks.errors.0 in
    let read : AreRead c.args.request.now c.args.remarks.now.program.now (g.R.Read.remaining c.args.client) (g.S.Read.remaining c.args.server) start (g.E.Write.contents c.judge_read.new.remarks.errors.0) one other until = record {
      client_is = client.0;
      server_is = server.0;
      between = between;
      client_noted = client.1;
      server_noted = subst (λ program. IsNoted program c.args.request.now.server.now c.args.request.now.services.items other between until) same server.1;
    } in
    on_none c.judge_read.result _ _ (λ told. unsaid one other until read (subst (λ program. IsToldOfBoth (AreWordsOf g.F.From.from_gives g.F.Display.output) c.args.request.now one other program until (g.E.Write.contents c.judge_read.new.remarks.errors.0)) again told)) c.judge_read.ensures.told
