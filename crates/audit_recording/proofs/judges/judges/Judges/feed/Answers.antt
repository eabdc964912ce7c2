use Rattle.std.proofs.Common.{refl, rules, sym, subst}
use Rattle.audit_views.specs.Views.{Client, View}
use Rattle.audit_recording.specs.Between.{View as Between}
use Rattle.audit_recording.specs.Judges.{AreJudgesAfter, AreOf, Judges}
use Rattle.audit_recording.proofs.JudgesLemmas.Watching.{away_of, both_higher}
use Rattle.audit_recording.proofs.judges.judges.Judges.feed.Goals as goal

pub returns-in_err-feed-clause-others : goal.returns-in_err-feed-clause-others
returns-in_err-feed-clause-others g c x p there of off works =
    let all : AreOf (record { client = c.self.inside.client; server = c.self.inside.server; between = c.self.inside.between; failed = c.self.inside.failed }) x = subst (λ (j : Judges). AreOf j x) (sym c.self.view_is) of in
    let at_client = c.in_err-feed.ensures.others p there (away_of (λ (j : Client). j.transfer) c.self.inside.client x p off all.client) in
    search rules

pub returns-in_err-feed-2-clause-others : goal.returns-in_err-feed-2-clause-others
returns-in_err-feed-2-clause-others g c x p there of off works =
    let all : AreOf (record { client = c.self.inside.client; server = c.self.inside.server; between = c.self.inside.between; failed = c.self.inside.failed }) x = subst (λ (j : Judges). AreOf j x) (sym c.self.view_is) of in
    let at_server = c.in_err-feed-2.ensures.others p there (away_of (λ (j : View). j.transfer) c.self.inside.server x p off all.server) in
    search rules

pub returns-in_err-feed-3-clause-others : goal.returns-in_err-feed-3-clause-others
returns-in_err-feed-3-clause-others g c x p there of off works =
    let all : AreOf (record { client = c.self.inside.client; server = c.self.inside.server; between = c.self.inside.between; failed = c.self.inside.failed }) x = subst (λ (j : Judges). AreOf j x) (sym c.self.view_is) of in
    let between = c.in_err-feed-3.ensures.others p there (away_of (λ (j : Between). j.transfer) c.self.inside.between x p off all.between) in
    search rules

pub returns-clause-others : goal.returns-clause-others
returns-clause-others g c x p there of off works =
    let all : AreOf (record { client = c.self.inside.client; server = c.self.inside.server; between = c.self.inside.between; failed = c.self.inside.failed }) x = subst (λ (j : Judges). AreOf j x) (sym c.self.view_is) of in
    let at_client = c.in_ok-feed.ensures.others p there (away_of (λ (j : Client). j.transfer) c.self.inside.client x p off all.client) in
    let at_server = c.in_ok-feed-2.ensures.others p there (away_of (λ (j : View). j.transfer) c.self.inside.server x p off all.server) in
    let between = c.in_ok-feed-3.ensures.others p there (away_of (λ (j : Between). j.transfer) c.self.inside.between x p off all.between) in
    search rules

pub returns-clause-after : goal.returns-clause-after
returns-clause-after g c rollover x name p older after fed =
    let all : AreJudgesAfter rollover (record { client = c.self.inside.client; server = c.self.inside.server; between = c.self.inside.between; failed = c.self.inside.failed }) x name older =
    subst (λ (j : Judges). AreJudgesAfter rollover j x name older) (sym c.self.view_is) after in
    record {
      works = refl;
      client = c.in_ok-feed.ensures.stands rollover x name p older all.client fed;
      server = c.in_ok-feed-2.ensures.stands rollover x name p older all.server fed;
      between = c.in_ok-feed-3.ensures.stands rollover x name p older all.between fed;
      counted = record {
        client = both_higher _ _ p older c.in_ok-feed.ensures.counts all.counted.client;
        server = both_higher _ _ p older c.in_ok-feed-2.ensures.counts all.counted.server;
        between = both_higher _ _ p older c.in_ok-feed-3.ensures.counts all.counted.between;
      };
    }
