-- Labels go from datagrams to others that differ in their payloads alone.
use Rattle.std.proofs.Common.{◌≡◌, ◌⊎◌, ℕ, List, [], ◌∷◌, Any, inl, inr, refl, sym, subst, ap, ◌∙◌}
use Rattle.tftp_packet.specs.{Message, Spells, End, Client, Server}
use Rattle.tftp_packet.specs.Hosts.{Datagram, Header, peer_of}
use Rattle.law_model.specs.Model.{MachinePacket, Req, Oack, Data, Ack, Error, Deed}
use Rattle.law_end.specs.Dress.{StrayAnswer}
use Rattle.law_end.specs.{BeginsAsRequest, Label, IsMain, Main, Stray, Labelled, Division, GoesToServer, HasClientId, HasServerId, HasLabelBy, Saying, TransferIds, packet_of, from_server, server_port}
use Rattle.law_end.proofs.Division.Divided.{any_none, any_cases, any_first, any_later}
use Rattle.law_rollover.specs.{with_payload}

-- the labels are the same, and the datagrams but for what they carry
abbrev pub Alike : Division → Division → Type 0
Alike [] [] = Unit {0}
Alike (p ∷ a) (q ∷ b) = (q.label ≡ p.label) × ((payload : List ℕ) × (q.datagram ≡ with_payload p.datagram payload)) × Alike a b
Alike _ _ = ⊥

any_moves : (P : Labelled → Type 0) → ((p q : Labelled) → q.label ≡ p.label → (payload : List ℕ) → q.datagram ≡ with_payload p.datagram payload → P p → P q)
    → (a b : Division) → Alike a b → Any P a → Any P b
any_moves P move [] b alike any = absurd (any_none P any)
any_moves P move (p ∷ a) [] alike any = absurd alike
any_moves P move (p ∷ a) (q ∷ b) (label, (payload, same), alike) any = elim (any_cases P p a any) [
  | inl here ↦ any_first P q b (move p q label payload same here)
  | inr later ↦ any_later P q b (any_moves P move a b alike later)
]

port_stays : (e : End) (d : Datagram) (payload : List ℕ) → server_port e (with_payload d payload) ≡ server_port e d
port_stays Client d payload = refl
port_stays Server d payload = refl

module _ (h : Header) (ids : TransferIds) (a b : Division) (alike : Alike a b) (d : Datagram) (payload : List ℕ) where
  client_moves : (e : End) → HasClientId e ids d → HasClientId e ids (with_payload d payload)
  client_moves Client is = is
  client_moves Server is = is

  server_moves : (e : End) → HasServerId e ids d → HasServerId e ids (with_payload d payload)
  server_moves Client is = is
  server_moves Server is = is

  goes_on : HasServerId h.named ids d × ((d.dir ≡ from_server h.named) ⊎ Any (λ (p : Labelled). p.datagram.dir ≡ from_server h.named) a)
      → HasServerId h.named ids (with_payload d payload) × ((d.dir ≡ from_server h.named) ⊎ Any (λ (p : Labelled). p.datagram.dir ≡ from_server h.named) b)
  goes_on (id, inl here) = (server_moves h.named id, inl here)
  goes_on (id, inr before) = (server_moves h.named id, inr (any_moves (λ (p : Labelled). p.datagram.dir ≡ from_server h.named) (λ p q label payload same is. ap (λ (x : Datagram). x.dir) same ∙ is) a b alike before))

  goes_moves : (packet : MachinePacket) → GoesToServer h ids a d packet → GoesToServer h ids b (with_payload d payload) packet
  goes_moves Req goes = (port_stays h.named d payload ∙ goes.0, goes.1)
  goes_moves Oack goes = goes_on goes
  goes_moves (Data k) goes = goes_on goes
  goes_moves (Ack j) goes = goes_on goes
  goes_moves (Error code text) goes = goes_on goes

  -- what is said of the one payload is said of the other, as far as labels go
  pub label_moves : (says other : Saying) (label : Label) → HasLabelBy h says ids a d label
      → ((deed : Deed) → label ≡ Main deed → says (packet_of deed) d.payload → other (packet_of deed) payload)
      → (BeginsAsRequest payload → BeginsAsRequest d.payload)
      → ((text : List ℕ) → Spells d.payload (Message.Error 5 text) → Spells payload (Message.Error 5 text))
      → HasLabelBy h other ids b (with_payload d payload) label
  label_moves says other (Main deed) has say begins spell =
      record { dir = has.dir; client = client_moves h.named has.client; server = goes_moves (packet_of deed) has.server; spells = say deed refl has.spells }
  label_moves says other Stray has say begins spell = record {
    dir = has.dir;
    here = has.here;
    elsewhere = has.elsewhere;
    after = any_moves (λ (p : Labelled). IsMain p.label × (p.datagram.dir ≡ from_server h.named)) (λ p q label payload same is. (subst IsMain (sym label) is.0, ap (λ (x : Datagram). x.dir) same ∙ is.1)) a b alike has.after;
    no_request = λ at own begun. has.no_request at own (begins begun);
  }
  label_moves says other StrayAnswer has say begins spell = record {
    dir = has.dir;
    here = has.here;
    there = any_moves (λ (p : Labelled). (p.label ≡ Stray) × (peer_of p.datagram ≡ peer_of d)) (λ p q label payload same is. (label ∙ is.0, ap peer_of same ∙ is.1)) a b alike has.there;
    spells = (has.spells.0, spell has.spells.0 has.spells.1);
  }
