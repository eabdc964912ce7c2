use Rattle.std.proofs.Common.{◌≡◌, true, List, [], ◌∷◌, inl, inr, refl, sym, subst, ap, arith}
use Rattle.tftp_packet.specs.{Message, Spells, Client, Server}
use Rattle.tftp_packet.proofs.Unique.{one_message}
use Rattle.tftp_packet.specs.Hosts.{Datagram}
use Rattle.tftp_packet.specs.{In, Out}
use Rattle.law_model.specs.Rules.{route_of, is_of_transfer, Passed}
use Rattle.tftp_packet.proofs.HostsLemmas.Ways.{in_not_out, out_not_in}
use Rattle.law_pair.specs.{Event, AreAllOpen, IsBrought, AreMergedBy, IsShut, worked_datagram, block_of, acknowledged, at_the_client, at_the_server, captured_at}
use Rattle.law_pair.proofs.Merged.{nothing, at_server}
use Rattle.law_pair.proofs.MatchedCaptures.{stuck_to}
use Rattle.law_pair.proofs.CommonMeaning.{to_client}
use Rattle.law_pair.proofs.Worked.{sent_block, other_block, an_ack, not_sent}
use Rattle.law_pair.proofs.laws.worked_pairs.Goals as goal

abbrev went : List (Event Datagram)
went = record { place = Server; it = worked_datagram In acknowledged }
    ∷ record { place = Client; it = worked_datagram Out acknowledged }
    ∷ record { place = Client; it = worked_datagram In (block_of 105) }
    ∷ record { place = Server; it = worked_datagram Out (block_of 105) } ∷ []

brought : AreAllOpen IsBrought went
brought = ((λ _. (Message.Ack 1, an_ack, inl (refl, an_ack))), ((λ out. absurd (out_not_in out)), ((λ _. (Message.Data 1 (104 ∷ 105 ∷ []), sent_block, inl (refl, sent_block))), ((λ out. absurd (out_not_in out)), tt))))

merge : AreMergedBy (at_the_client 105) (at_the_server 105)
merge = record { events = went; open_each = brought; client_list = refl; server_list = refl }

took_it : IsBrought (worked_datagram In acknowledged ∷ []) (worked_datagram In acknowledged) → ⊥
took_it brought = elim (brought refl).2 [ inl out ↦ in_not_out out.0 | inr none ↦ none ]

-- the client's block was not sent, and its ACK stands behind it
other_waits : IsShut (captured_at Client (at_the_client 106)) 0 (captured_at Server (at_the_server 105)) 1
other_waits d next now =
    let (m, says, passed) = now (subst (λ (x : Datagram). is_of_transfer (route_of (captured_at Client []).header [] x) ≡ true) next.1 refl) (ap (λ (x : Datagram). x.dir) (sym next.1)) in
    let told = subst (λ (x : Datagram). Spells x.payload m) (sym next.1) says in
    let same = one_message (block_of 106) m (Message.Data 1 (104 ∷ 106 ∷ [])) told.1 other_block.1 in
    not_sent (inr (subst (λ x. Passed Out x (worked_datagram Out (block_of 105) ∷ [])) same passed))

ack_waits : IsShut (captured_at Server (at_the_server 105)) 1 (captured_at Client (at_the_client 106)) 0
ack_waits d next now =
    let (m, says, passed) = now (subst (λ (x : Datagram). is_of_transfer (route_of (captured_at Server []).header (worked_datagram Out (block_of 105) ∷ []) x) ≡ true) next.1 refl) (ap (λ (x : Datagram). x.dir) (sym next.1)) in
    passed

pub returns : goal.returns
returns c = record {
  merged = merge;
  changed = λ merged. not_sent (to_client (at_the_client 106) (at_the_server 105) merged (Message.Data 1 (104 ∷ 106 ∷ [])) (inr (inl (refl, other_block))));
  taken = took_it;
  whole = record { within_client = omega arith; within_server = omega arith; merged = merge; greatest = λ x y in_client in_server more. (in_client, in_server) };
  less = λ matched. let low = (matched.greatest 2 2 (omega arith) (omega arith) merge).1 in omega (arith, low);
  waits = stuck_to (captured_at Client (at_the_client 106)) (captured_at Server (at_the_server 105)) 0 1 (omega arith) (omega arith) other_waits ack_waits
      (at_server IsBrought (worked_datagram Out (block_of 105)) [] [] (λ out. absurd (out_not_in out)) (nothing IsBrought));
}
