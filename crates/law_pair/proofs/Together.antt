-- Two captures that one run shows are lawful at each end, and merged; and the other way round.
use Rattle.std.proofs.Common.{◌≡◌, ℕ, List, sym, subst, ap, ◌∙◌, ◌↔◌, reverse}
use Rattle.tftp_packet.specs.{Client, Server}
use Rattle.law_model.specs.Model.{Meaning, IsView, IsOneSided}
use Rattle.law_end.specs.{Fits, view_in, IsSeen, OneEnded, Divides}
use Rattle.law_end.proofs.Whole.TwoEnds.{rules, seen}
use Rattle.law_end.proofs.Division.OneDivision.{divides_one, run_divides}
use Rattle.law_model.proofs.ModelLemmas.OneSided.{view_one_sided}
use Rattle.law_pair.specs.{Capture, AreSeenTogether, AreConsistent, AreConsistentByRules, AreMerged}
use Rattle.law_pair.proofs.TwoViews.{pair_is, view_each}
use Rattle.tftp_packet.specs.Hosts.{Datagram, Header}

pub client_seen : (m : Meaning) (wire : List ℕ) (client server : Capture) → AreSeenTogether m wire client server → IsSeen client.header m wire client.datagrams
client_seen m wire client server x = record {
  fits = x.fits;
  view = x.client_view;
  run = subst (λ e. IsView m wire e x.client_view) (sym x.at_client) (x.pair.steps, x.pair.run, x.pair.client_view);
  dressed = x.client_dressed;
}

pub server_seen : (m : Meaning) (wire : List ℕ) (client server : Capture) → AreSeenTogether m wire client server → IsSeen server.header m wire server.datagrams
server_seen m wire client server x = record {
  fits = subst (λ r. Fits r m wire) x.same x.fits;
  view = x.server_view;
  run = subst (λ e. IsView m wire e x.server_view) (sym x.at_server) (x.pair.steps, x.pair.run, x.pair.server_view);
  dressed = x.server_dressed;
}

pub merged_views : (m : Meaning) (wire : List ℕ) (client server : Capture) (x : AreSeenTogether m wire client server) → AreMerged x.client_view x.server_view
merged_views m wire client server x = ((pair_is m wire x.client_view x.server_view).0 x.pair).2

-- the same of what each capture shows
pub seen_merged : (m : Meaning) (wire : List ℕ) (client server : Capture) (x : AreSeenTogether m wire client server) → AreMerged (client_seen m wire client server x).view (server_seen m wire client server x).view
unfolding server_seen client_seen
seen_merged m wire client server x = merged_views m wire client server x

pub together : (m : Meaning) (wire : List ℕ) (client server : Capture) → client.header.named ≡ Client → server.header.named ≡ Server → client.header.rollover ≡ server.header.rollover
    → (a : IsSeen client.header m wire client.datagrams) (b : IsSeen server.header m wire server.datagrams) → AreMerged a.view b.view → AreSeenTogether m wire client server
together m wire client server at_client at_server same a b merged = record {
  at_client = at_client;
  at_server = at_server;
  same = same;
  fits = a.fits;
  client_view = a.view;
  server_view = b.view;
  pair = (pair_is m wire a.view b.view).1 (
    view_each m wire Client a.view (subst (λ e. IsView m wire e a.view) at_client a.run),
    view_each m wire Server b.view (subst (λ e. IsView m wire e b.view) at_server b.run),
    merged,
  );
  client_dressed = a.dressed;
  server_dressed = b.dressed;
}

pub each_lawful : (client server : Capture) → AreConsistent client server → OneEnded client.header (reverse client.datagrams) × OneEnded server.header (reverse server.datagrams)
each_lawful client server (m, wire, x) = (
  (rules client.header m wire client.datagrams (client_seen m wire client server x)).0,
  (rules server.header m wire server.datagrams (server_seen m wire client server x)).0,
)

-- the view is that of the one division
seen_divides : (h : Header) (m : Meaning) (wire : List ℕ) (ds : List Datagram) → IsSeen h m wire ds → Divides h (reverse ds)
seen_divides h m wire ds s =
    let own = subst (IsOneSided m wire h.named) (sym s.dressed.main) (view_one_sided m wire h.named s.view s.run) in
    let run = run_divides h m wire s.dressed.ids s.dressed.division s.dressed.labels own in
    record { division = s.dressed.division; whole = s.dressed.whole; starts = run.1; ids = s.dressed.ids; labels = run.0 }

seen_view : (h : Header) (m : Meaning) (wire : List ℕ) (ds : List Datagram) (s : IsSeen h m wire ds) (a : Divides h (reverse ds)) → s.view ≡ view_in a.division
unfolding seen_divides
seen_view h m wire ds s a = sym s.dressed.main ∙ ap view_in (divides_one h (reverse ds) (seen_divides h m wire ds s) a)

pub consistent_is : (client server : Capture) (a : Divides client.header (reverse client.datagrams)) (b : Divides server.header (reverse server.datagrams)) → AreConsistent client server ↔ AreConsistentByRules client server a b
unfolding server_seen client_seen
consistent_is client server a b = (
  λ consistent.
      let (m, wire, x) = consistent in
      let at_client = client_seen m wire client server x in
      let at_server = server_seen m wire client server x in
      let one = rules client.header m wire client.datagrams at_client in
      let other = rules server.header m wire server.datagrams at_server in
      record {
        at_client = x.at_client;
        at_server = x.at_server;
        same = x.same;
        client_lawful = one.0;
        server_lawful = other.0;
        meaning = m;
        wire = wire;
        client_accords = one.1;
        server_accords = other.1;
        merged = subst (λ v. AreMerged v (view_in b.division)) (seen_view client.header m wire client.datagrams at_client a)
            (subst (λ v. AreMerged x.client_view v) (seen_view server.header m wire server.datagrams at_server b) (merged_views m wire client server x));
      },
  λ r.
      let at_client = seen client.header r.meaning r.wire client.datagrams r.client_lawful r.client_accords in
      let at_server = seen server.header r.meaning r.wire server.datagrams r.server_lawful r.server_accords in (
        r.meaning,
        r.wire,
        together r.meaning r.wire client server r.at_client r.at_server r.same at_client at_server
            (subst (λ v. AreMerged v at_server.view) (sym (seen_view client.header r.meaning r.wire client.datagrams at_client a))
            (subst (λ v. AreMerged (view_in a.division) v) (sym (seen_view server.header r.meaning r.wire server.datagrams at_server b)) r.merged)),
      ),
)
