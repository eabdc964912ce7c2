use Rattle.judge_pair.specs.declared.match_texts.reading.Reading.{Reading}
use Rattle.std.proofs.Common.{◌≡◌, [], None, sym, ap, subst}
use Rattle.tftp_packet.specs.Hosts.{Header}
use Rattle.tftp_judge.specs.{Judge, header_by}
use Rattle.tftp_packet.specs.{Client, Server}
use Rattle.judge_pair.specs.Judge.{IsNumbered, Left, Side}
use Rattle.judge_pair.specs.MatchTexts.{AreSeenBoth, IsSeenAt, seen}
use Rattle.judge_pair.proofs.MatchTextsLemmas.Ending.{AreNumbersIn, both_said, finished}
use Rattle.judge_pair.proofs.MatchTextsLemmas.Steps.{was_halted}
use Rattle.judge_pair.proofs.match_texts.pair.judge_begun.Goals as goal

pub returns : goal.returns
returns g c = λ before other_before begun other_begun.
    let o = c.args.rollover in
    let h = header_by o c.args.client.header in
    let k = header_by o c.args.server.header in
    let from = g.R.Read.remaining c.args.client_reader.now.0 in
    let other_from = g.S.Read.remaining c.args.server_reader.now.0 in
    let begins : (x y : Reading) → x ≡ (record { capture = c.args.client; halt = None }) → y ≡ (record { capture = c.args.server; halt = None })
    → AreSeenBoth o before other_before (seen from c.args.client_reader.now.1 x.halt x.capture) (seen other_from c.args.server_reader.now.1 y.halt y.capture) c.begin_pair-pair.result h k [] [] =
    λ x y is other_is.
    subst (λ (z : Reading). AreSeenBoth o before other_before (seen from c.args.client_reader.now.1 z.halt z.capture) (seen other_from c.args.server_reader.now.1 y.halt y.capture) c.begin_pair-pair.result h k [] []) (sym is)
    (subst (λ (z : Reading). AreSeenBoth o before other_before (seen from c.args.client_reader.now.1 None c.args.client) (seen other_from c.args.server_reader.now.1 z.halt z.capture) c.begin_pair-pair.result h k [] []) (sym other_is)
    (record { at_client = (begun, c.begin_pair-pair.ensures.goes_on.0); at_server = (other_begun, c.begin_pair-pair.ensures.goes_on.1); pair = c.begin_pair-pair.ensures.after })) in
    let start = begins c.begin-client.result c.begin-server.result c.begin-client.ensures c.begin-server.ensures in
    let (early, other_early, now) = c.merge.ensures.runs before other_before h k [] [] start in
    let mine = subst (λ (j : Judge). IsSeenAt o before (seen (g.R.Read.remaining c.merge.new.client_reader.0) c.merge.new.client_reader.1 c.merge.new.client.halt c.merge.new.client.capture) j.refused h early) (sym (ap (λ (s : Side). s.judge) c.rest-rest.ensures.client)) now.at_client in
    let theirs_then = subst (λ (j : Judge). IsSeenAt o other_before (seen (g.S.Read.remaining c.merge.new.server_reader.0) c.merge.new.server_reader.1 c.merge.new.server.halt c.merge.new.server.capture) j.refused k other_early) (sym (ap (λ (s : Side). s.judge) c.rest-rest.ensures.server)) now.at_server in
    let theirs = subst (λ (l : Left). IsSeenAt o other_before (seen (g.S.Read.remaining c.merge.new.server_reader.0) c.merge.new.server_reader.1 c.merge.new.server.halt c.merge.new.server.capture) l.side.judge.refused k other_early) (sym c.read_rest.ensures.other) theirs_then in
    let (read, mine_then, rest_then) = c.read_rest.ensures.runs before h k early other_early mine (c.rest-rest.ensures.after h k early other_early now.pair) in
    let (other, theirs_now, rest) = c.read_rest-2.ensures.runs other_before k h other_early read theirs rest_then in
    let mine_now = subst (λ (l : Left). IsSeenAt o before (seen (g.R.Read.remaining c.read_rest.new.reader.0) c.read_rest.new.reader.1 c.read_rest.new.self.halt c.read_rest.new.self.capture) l.side.judge.refused h read) (sym c.read_rest-2.ensures.other) mine_then in
    let (why, is) = c.read_rest.ensures.halts in
    let (other_why, other_is) = c.read_rest-2.ensures.halts in
    let r = c.read_rest-2.new.rest in
    let v = c.finish.ensures in
    let halted = was_halted o before (g.R.Read.remaining c.read_rest.new.reader.0) c.read_rest.new.reader.1 c.read_rest.new.self.halt c.read_rest.new.self.capture r.client.side.judge.refused h read why is mine_now in
    let other_halted = was_halted o other_before (g.S.Read.remaining c.read_rest-2.new.reader.0) c.read_rest-2.new.reader.1 c.read_rest-2.new.self.halt c.read_rest-2.new.self.capture r.server.side.judge.refused k other other_why other_is theirs_now in
    let said = finished r.client.side.judge.refused h read c.finish.result.client (λ none. v.client h k read other rest none) (λ count none same. (v.client_joins h k read other count rest none same).2) v.client_refused in
    let other_said = finished r.server.side.judge.refused k other c.finish.result.server (λ none. v.server h k read other rest none) (λ count none same. (v.server_joins h k read other count rest none same).2) v.server_refused in
    let numbers : AreNumbersIn r c.finish.result.matched = λ cl se cr sr after a b p q.
    (v.numbers cl se cr sr after a b p q, (v.client_why cl se cr sr after a b, v.server_why cl se cr sr after a b), (v.client_counted cl se cr sr after a, v.server_counted cl se cr sr after b, v.carried cl se cr sr after a b)) in
    let named = ap (λ (x : Header). x.named) c.header.ensures in
    let other_named = ap (λ (x : Header). x.named) c.header-2.ensures in
    let says = c.pair_said.ensures.client why is in
    let other_says = c.pair_said.ensures.server other_why other_is in
    rw (says, other_says)
    (both_said o before (g.R.Read.remaining c.read_rest.new.reader.0) other_before (g.S.Read.remaining c.read_rest-2.new.reader.0) c.read_rest.new.reader.1 c.read_rest-2.new.reader.1 c.args.client c.args.server _ _ _ _ begun other_begun
    read other r why other_why halted other_halted c.finish.result.client c.finish.result.server said other_said c.finish.result.matched numbers rest
    c.pair_said.result.together (rw (named, other_named, says, other_says) at c.pair_said.ensures.ok) (rw (named, other_named, says, other_says) at c.pair_said.ensures.err))

pub read_rest-requires-clause-numbered : goal.read_rest-requires-clause-numbered
read_rest-requires-clause-numbered g c = λ r is. subst IsNumbered (sym c.rest-rest.ensures.client) (c.merge.ensures.numbered Client (c.begin_pair-pair.ensures.numbered r Client is))

pub read_rest-requires-2-clause-numbered : goal.read_rest-requires-2-clause-numbered
read_rest-requires-2-clause-numbered g c = λ r is.
    subst (λ (l : Left). IsNumbered l.side) (sym c.read_rest.ensures.other)
    (subst IsNumbered (sym c.rest-rest.ensures.server) (c.merge.ensures.numbered Server (c.begin_pair-pair.ensures.numbered r Server is)))
