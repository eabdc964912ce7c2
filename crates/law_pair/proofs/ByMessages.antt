-- Two captures are consistent exactly if each breaks no rule and they are merged by what they say.
use Rattle.std.proofs.Common.{ℕ, List, sym, subst, ◌↔◌, reverse}
use Rattle.law_model.specs.Model.{Meaning, IsOneSided}
use Rattle.law_model.specs.Rules.{transfer_of}
use Rattle.law_model.proofs.ModelLemmas.OneSided.{view_one_sided}
use Rattle.law_end.specs.{view_in, IsSeen}
use Rattle.law_end.proofs.Division.Routed.{routed}
use Rattle.law_end.proofs.Whole.TwoEnds.{seen}
use Rattle.law_pair.specs.{Capture, AreConsistent, AreMergedBy, AreLawfulAndMerged, passed_in}
use Rattle.law_pair.proofs.Together.{client_seen, server_seen, seen_merged, together, each_lawful}
use Rattle.law_pair.proofs.Spelt.{AreSpelt, spelt, deeds_merged, messages_merged}
use Rattle.law_pair.proofs.CommonMeaning.{one_for_both}
use Rattle.tftp_packet.specs.Hosts.{Datagram, Header}

-- what a capture shows is spelt by what has passed in it
seen_spelt : (h : Header) (m : Meaning) (wire : List ℕ) (ds : List Datagram) (s : IsSeen h m wire ds) → AreSpelt m wire s.view (transfer_of h (reverse ds))
seen_spelt h m wire ds s =
    let own = subst (IsOneSided m wire h.named) (sym s.dressed.main) (view_one_sided m wire h.named s.view s.run) in
    let all = spelt h m wire s.dressed.division (routed h m wire s.dressed.ids s.dressed.division s.dressed.labels own) in
    subst (λ v. AreSpelt m wire v (transfer_of h (reverse ds))) s.dressed.main
    (subst (λ x. AreSpelt m wire (view_in s.dressed.division) (transfer_of h x)) s.dressed.whole all)

pub merged_by_messages : (client server : Capture) → AreConsistent client server → AreMergedBy (passed_in client) (passed_in server)
merged_by_messages client server (m, wire, x) =
    let a = client_seen m wire client server x in
    let b = server_seen m wire client server x in
    messages_merged m wire a.view b.view (seen_merged m wire client server x) (passed_in client) (passed_in server)
    (seen_spelt client.header m wire client.datagrams a) (seen_spelt server.header m wire server.datagrams b)

pub consistent_by_messages : (client server : Capture) → AreLawfulAndMerged client server → AreConsistent client server
consistent_by_messages client server x =
    let (m, wire, acc_client, acc_server) = one_for_both client.header server.header (reverse client.datagrams) (reverse server.datagrams)
    x.at_client x.at_server x.same x.client_lawful x.server_lawful x.merged in
    let a = seen client.header m wire client.datagrams x.client_lawful acc_client in
    let b = seen server.header m wire server.datagrams x.server_lawful acc_server in
    let merged = deeds_merged m m wire wire a.view b.view (passed_in client) (passed_in server)
    (seen_spelt client.header m wire client.datagrams a) (seen_spelt server.header m wire server.datagrams b) x.merged in
    (m, wire, together m wire client server x.at_client x.at_server x.same a b merged)

pub by_messages : (client server : Capture) → AreConsistent client server ↔ AreLawfulAndMerged client server
by_messages client server = (
  λ consistent.
      let each = each_lawful client server consistent in
      record {
        at_client = consistent.2.at_client;
        at_server = consistent.2.at_server;
        same = consistent.2.same;
        client_lawful = each.0;
        server_lawful = each.1;
        merged = merged_by_messages client server consistent;
      },
  λ x. consistent_by_messages client server x,
)
