-- Two texts that are read side by side, of which one goes on.
use Rattle.std.proofs.Common.{Option, sym, ap, subst}
use Rattle.tftp_packet.specs.{Client, Rollover, Server}
use Rattle.tftp_judge.specs.{Judge}
use Rattle.judge_pair.specs.Judge.{HasSame, Pair}
use Rattle.judge_pair.specs.MatchTexts.{IsSeenAt, Seen, BothRun, Runs}

module _ (rollover : Option Rollover) (client server : Seen) (start : Pair) (mine theirs : Seen) (p p' : Pair) (runs : BothRun rollover client server start mine theirs p) where
  pub client_goes : (mine' : Seen) → Runs rollover Client mine p mine' p' → HasSame p.server p'.server → BothRun rollover client server start mine' theirs p'
  client_goes mine' goes same = λ before other_before h k read other at.
      let (more, other_more, now) = runs before other_before h k read other at in
      let (on, seen_on, pair_on) = goes before h k more other_more now.at_client now.pair in (
        on,
        other_more,
        record {
          at_client = seen_on;
          at_server = subst (λ r. IsSeenAt rollover other_before theirs r k other_more) (ap (λ (j : Judge). j.refused) (sym same.0)) now.at_server;
          pair = pair_on;
        },
      )

  pub server_goes : (theirs' : Seen) → Runs rollover Server theirs p theirs' p' → HasSame p.client p'.client → BothRun rollover client server start mine theirs' p'
  server_goes theirs' goes same = λ before other_before h k read other at.
      let (more, other_more, now) = runs before other_before h k read other at in
      let (on, seen_on, pair_on) = goes other_before k h other_more more now.at_server now.pair in (
        more,
        on,
        record {
          at_client = subst (λ r. IsSeenAt rollover before mine r h more) (ap (λ (j : Judge). j.refused) (sym same.0)) now.at_client;
          at_server = seen_on;
          pair = pair_on;
        },
      )
