use Rattle.std.proofs.Common.{◌∙◌, inr, refl}
use Rattle.tftp_match.specs.Matches.IsToldOfNamed.{unsaid}
use Rattle.tftp_match.specs.Unread.{AreWordsOf}
use Rattle.tftp_match.proofs.MatchingLemmas.{named_said, named_told, none_at, says_named, some_at}
use Rattle.tftp_match.proofs.matching.match_files.Goals as goal

pub returns-in-Some-3 : goal.returns-in-Some-3
returns-in-Some-3 g c =
    let client = some_at c.in_ok-client.field-0 c.in-Some.client _ c.in-Some.is c.in_ok-client.ensures.holds in
    let server = some_at c.in_ok-server.field-0 c.in-Some-2.server _ c.in-Some-2.is c.in_ok-server.ensures.holds in
    let said = some_at c.in_ok-matching.field-0 c.in-Some-3.matching _ c.in-Some-3.is c.in_ok-matching.ensures.said in
    says_named g.W.Write.contents g.E.Write.contents (AreWordsOf g.F.From.from_gives g.F.Display.output) (g.O.Outside.opens c.args.outside.now) (g.O.Outside.holds c.args.outside.now) c.args.request.now c.args.writer.now c.say_matching.new.writer c.args.remarks.now c.judge_captures.new.remarks c.in-Some-3.matching c.say_matching.result
    (named_said g.E.Write.contents c.args.request.now c.args.remarks.now c.opened-2.new.remarks _ _ _ _ _ c.in-Some-3.matching (server.1 ∙ client.1) client.0 server.0 said) c.say_matching.ensures

pub returns-in-None : goal.returns-in-None
returns-in-None g c =
    let client = some_at c.in_ok-client.field-0 c.in-Some.client _ c.in-Some.is c.in_ok-client.ensures.holds in
    let server = some_at c.in_ok-server.field-0 c.in-Some-2.server _ c.in-Some-2.is c.in_ok-server.ensures.holds in
    let told = none_at c.in_ok-matching.field-0 _ c.in-None.is c.in_ok-matching.ensures.told in
    inr (refl, refl, unsaid (named_told g.E.Write.contents c.args.request.now c.args.remarks.now c.opened-2.new.remarks _ _ _ _ _ (AreWordsOf g.F.From.from_gives g.F.Display.output) (server.1 ∙ client.1) client.0 server.0 told))
