-- Two whole captures that are consistent mean the same transfer.
use Rattle.std.proofs.Common.{◌≡◌, ℕ, List, sym, subst, ◌∙◌, reverse}
use Rattle.law_model.specs.Model.{Meaning, IsOneSided, IsComplete}
use Rattle.law_model.proofs.ModelLemmas.OneSided.{view_one_sided}
use Rattle.law_end.specs.{IsSeen, Accords, IsEnded, Meant}
use Rattle.law_end.proofs.Division.Routed.{routed}
use Rattle.law_end.proofs.Whole.TwoEnds.{rules, meant_by}
use Rattle.law_end.proofs.Whole.EndedIsComplete.{completed}
use Rattle.law_end.proofs.Whole.OneMeaning.{one_meaning}
use Rattle.law_pair.specs.{Capture, AreConsistent}
use Rattle.law_pair.proofs.Together.{client_seen, server_seen}
use Rattle.tftp_packet.specs.Hosts.{Datagram, Header}

-- what is seen of a meaning, and is whole, means it
seen_meant : (h : Header) (m : Meaning) (wire : List ℕ) (ds : List Datagram) → IsSeen h m wire ds → IsEnded h (reverse ds) → Meant h (reverse ds) m
seen_meant h m wire ds s ended =
    let own = subst (IsOneSided m wire h.named) (sym s.dressed.main) (view_one_sided m wire h.named s.view s.run) in
    let routes = routed h m wire s.dressed.ids s.dressed.division s.dressed.labels own in
    let acc = (rules h m wire ds s).1 in
    let complete = completed h m wire s.dressed.division routes own (subst (Accords h m wire) (sym s.dressed.whole) acc) (subst (IsEnded h) (sym s.dressed.whole) ended) in
    meant_by h m wire ds (record { seen = s; complete = subst (IsComplete m wire h.named) s.dressed.main complete })

pub one_transfer : (client server : Capture) (m n : Meaning) → AreConsistent client server → Meant client.header (reverse client.datagrams) m → Meant server.header (reverse server.datagrams) n → m ≡ n
one_transfer client server m n (x, wire, together) at_client at_server =
    one_meaning client.header (reverse client.datagrams) m x at_client
    (seen_meant client.header x wire client.datagrams (client_seen x wire client server together) at_client.ended)
    ∙ one_meaning server.header (reverse server.datagrams) x n
    (seen_meant server.header x wire server.datagrams (server_seen x wire client server together) at_server.ended) at_server
