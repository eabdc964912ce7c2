-- What is fed is captured as it passed.
use Rattle.std.proofs.Common.{◌≡◌, true, false, cond, List, ◌∷◌, Option, sym, ap, ◌∙◌, subst, map, filter}
use Rattle.tftp_packet.specs.Hosts.{Datagram}
use Rattle.tftp_packet.specs.{Dir, In, Out, Rollover}
use Rattle.audit_flows.specs.Lines.{Placed, is_of}
use Rattle.audit_flows.specs.{Transfer}
use Rattle.audit_flows.specs.Transfers.{is_at_server}
use Rattle.audit_views.specs.Views.{Naming, captured, captured_as, captured_at_client, captured_at_server, client_capture, client_header, server_capture, server_header, way_at_client, way_at_server, HasJudgedBy, Client, IsClientAfterBy, IsFed, IsServerAfterBy, OneEnd, Server}
use Rattle.audit_views.specs.declared.views.held.Held.{Held}

module _ (name : Naming) (x : Transfer) (whole : List Placed) (p : Placed) (part : List Placed) where
  seen_too : is_at_server x.number whole p ≡ true → server_capture name x whole (p ∷ part) ≡ captured_at_server name x whole p ∷ server_capture name x whole part
  seen_too is = ap (λ b. map (captured_at_server name x whole) (cond b (p ∷ filter (is_at_server x.number whole) part) (filter (is_at_server x.number whole) part))) is

  not_seen : is_at_server x.number whole p ≡ false → server_capture name x whole (p ∷ part) ≡ server_capture name x whole part
  not_seen off = ap (λ b. map (captured_at_server name x whole) (cond b (p ∷ filter (is_at_server x.number whole) part) (filter (is_at_server x.number whole) part))) off

-- one that the server did not see
pub server_apart : (rollover : Option Rollover) (s : Server) (name : Naming) (whole : List Placed) (p : Placed) (part : List Placed) → is_at_server s.transfer.number whole p ≡ false → IsServerAfterBy rollover s name whole part → IsServerAfterBy rollover s name whole (p ∷ part)
server_apart rollover s name whole p part off after = record {
  number = after.number;
  ends = after.ends;
  judged = subst (HasJudgedBy rollover s.end.judge (server_header s.transfer)) (sym (not_seen name s.transfer whole p part off)) after.judged;
}

-- ---- one that an end saw

module _ (name : Naming) (p : Placed) (h : Held) (fed : IsFed name p h) where
  from_host : name p.datagram.source.address ≡ h.source.host
  from_host = ap (λ e. name e.address) fed.from ∙ sym fed.from_host

  to_host : name p.datagram.target.address ≡ h.target.host
  to_host = ap (λ e. name e.address) fed.to ∙ sym fed.to_host

  pub fed_as : (way : Dir) → captured name way p.datagram ≡ captured_as way h.source h.target h.payload
  fed_as Out = λ i. record { dir = Out; local = (fed.from i).port; host = to_host i; remote = (fed.to i).port; payload = fed.carries i }
  fed_as In = λ i. record { dir = In; local = (fed.to i).port; host = from_host i; remote = (fed.from i).port; payload = fed.carries i }

  -- the client's judge was given it
  pub client_given : (rollover : Option Rollover) (c : Client) (end : OneEnd) (older : List Placed) (way : Dir) → is_of c.transfer.number p ≡ true → way ≡ way_at_client c.transfer p
      → HasJudgedBy rollover end.judge (client_header c.transfer) (captured_as way h.source h.target h.payload ∷ client_capture name c.transfer older) → IsClientAfterBy rollover (record c { end = end }) name (p ∷ older)
  client_given rollover c end older way is is_way judged =
      subst (HasJudgedBy rollover end.judge (client_header c.transfer))
      (sym (ap (λ b. map (captured_at_client name c.transfer) (cond b (p ∷ filter (is_of c.transfer.number) older) (filter (is_of c.transfer.number) older))) is
      ∙ ap (λ (w : Dir). captured name w p.datagram ∷ client_capture name c.transfer older) (sym is_way)
      ∙ ap (λ (d : Datagram). d ∷ client_capture name c.transfer older) (fed_as way))) judged

  -- and the server's
  pub server_given : (rollover : Option Rollover) (s : Server) (end : OneEnd) (whole part : List Placed) (way : Dir) → IsServerAfterBy rollover s name whole part → is_at_server s.transfer.number whole p ≡ true → way ≡ way_at_server s.transfer whole p
      → HasJudgedBy rollover end.judge (server_header s.transfer) (captured_as way h.source h.target h.payload ∷ server_capture name s.transfer whole part) → IsServerAfterBy rollover (record s { end = end }) name whole (p ∷ part)
  server_given rollover s end whole part way after is is_way judged = record {
    number = after.number;
    ends = after.ends;
    judged = subst (HasJudgedBy rollover end.judge (server_header s.transfer))
        (sym (seen_too name s.transfer whole p part is
        ∙ ap (λ (w : Dir). captured name w p.datagram ∷ server_capture name s.transfer whole part) (sym is_way)
        ∙ ap (λ (d : Datagram). d ∷ server_capture name s.transfer whole part) (fed_as way))) judged;
  }
