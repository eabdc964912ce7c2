-- What a payload begins as, and what a packet is; the sides of an end.
use Rattle.std.proofs.Common.{◌≡◌, ℕ, Bool, true, false, List, ◌∷◌, Some, refl, sym, subst, ap, ◌∙◌}
use Rattle.tftp_packet.specs.{Message, RequestParts, Spells, side_opcode, Side, Get, Put, End, Client, Server}
use Rattle.tftp_packet.specs.Hosts.{same_peer}
use Rattle.law_model.specs.Model.{MachinePacket, Req, Oack, Data, Ack, Error, is_error}
use Rattle.law_end.specs.{packet_in, says_some}
use Rattle.law_end.proofs.Division.RouteTests.{request_begins, same_is, other_peer}
use Rattle.law_tap.specs.{TapDatagram, TapSides, side_of, AreApart, same_end, is_request, asks_in, ends_in}

abbrev pub asks_message : Message → Bool
asks_message (Message.Request asked) = true
asks_message _ = false

abbrev pub ends_message : Message → Bool
ends_message (Message.Error code text) = true
ends_message _ = false

pub asks_says : (payload : List ℕ) (m : Message) → Spells payload m → asks_in payload ≡ asks_message m
asks_says payload (Message.Request asked) s = request_begins payload asked s
asks_says payload (Message.Oack options) s = subst (λ p. asks_in p ≡ false) (sym s.1.bytes) refl
asks_says payload (Message.Data k bytes) (b, (x, y, pair, is)) = subst (λ p. asks_in p ≡ false) (sym is) refl
asks_says payload (Message.Ack j) (b, (x, y, pair, is)) = subst (λ p. asks_in p ≡ false) (sym is) refl
asks_says payload (Message.Error code text) (b, (x, y, pair, string, is)) = subst (λ p. asks_in p ≡ false) (sym is) refl

pub ends_says : (payload : List ℕ) (m : Message) → Spells payload m → ends_in payload ≡ ends_message m
ends_says payload (Message.Request asked) s = by asked s where
  side_ends : {rest : List ℕ} (side : Side) (p : List ℕ) → p ≡ 0 ∷ side_opcode side ∷ rest → ends_in p ≡ false
  side_ends Get p is = subst (λ x. ends_in x ≡ false) (sym is) refl
  side_ends Put p is = subst (λ x. ends_in x ≡ false) (sym is) refl

  by : (asked : RequestParts) → Spells payload (Message.Request asked) → ends_in payload ≡ false
  by asked s = side_ends asked.side payload s.1.bytes
ends_says payload (Message.Oack options) s = subst (λ p. ends_in p ≡ false) (sym s.1.bytes) refl
ends_says payload (Message.Data k bytes) (b, (x, y, pair, is)) = subst (λ p. ends_in p ≡ false) (sym is) refl
ends_says payload (Message.Ack j) (b, (x, y, pair, is)) = subst (λ p. ends_in p ≡ false) (sym is) refl
ends_says payload (Message.Error code text) (b, (x, y, pair, string, is)) = subst (λ p. ends_in p ≡ true) (sym is) refl

asks_packet : (m : Message) (p : MachinePacket) → packet_in m ≡ Some p → asks_message m ≡ is_request p
asks_packet (Message.Request asked) p is = let same : Req ≡ p = cc in subst (λ q. true ≡ is_request q) same refl
asks_packet (Message.Oack options) p is = let same : Oack ≡ p = cc in subst (λ q. false ≡ is_request q) same refl
asks_packet (Message.Data k bytes) p is = let same : Data k ≡ p = cc in subst (λ q. false ≡ is_request q) same refl
asks_packet (Message.Ack j) p is = let same : Ack j ≡ p = cc in subst (λ q. false ≡ is_request q) same refl
asks_packet (Message.Error code text) p is = let same : Error code text ≡ p = cc in subst (λ q. false ≡ is_request q) same refl

ends_packet : (m : Message) (p : MachinePacket) → packet_in m ≡ Some p → ends_message m ≡ is_error p
ends_packet (Message.Request asked) p is = let same : Req ≡ p = cc in subst (λ q. false ≡ is_error q) same refl
ends_packet (Message.Oack options) p is = let same : Oack ≡ p = cc in subst (λ q. false ≡ is_error q) same refl
ends_packet (Message.Data k bytes) p is = let same : Data k ≡ p = cc in subst (λ q. false ≡ is_error q) same refl
ends_packet (Message.Ack j) p is = let same : Ack j ≡ p = cc in subst (λ q. false ≡ is_error q) same refl
ends_packet (Message.Error code text) p is = let same : Error code text ≡ p = cc in subst (λ q. true ≡ is_error q) same refl

pub asks_some : (payload : List ℕ) (p : MachinePacket) → says_some p payload → asks_in payload ≡ is_request p
asks_some payload p (m, s, is) = asks_says payload m s ∙ asks_packet m p is

pub ends_some : (payload : List ℕ) (p : MachinePacket) → says_some p payload → ends_in payload ≡ is_error p
ends_some payload p (m, s, is) = ends_says payload m s ∙ ends_packet m p is

-- ---- sides

module _ (s : TapSides) (apart : AreApart s) where
  side_tests : (e f : End) → same_peer (side_of s e) (side_of s f) ≡ same_end f e
  side_tests Client Client = same_is s.client s.client refl
  side_tests Client Server = other_peer s.client s.server apart.server
  side_tests Server Client = other_peer s.server s.client (λ is. apart.server (sym is))
  side_tests Server Server = same_is s.server s.server refl

  pub source_is : (d : TapDatagram) (e f : End) → d.source ≡ side_of s e → same_peer d.source (side_of s f) ≡ same_end f e
  source_is d e f is = ap (λ x. same_peer x (side_of s f)) is ∙ side_tests e f
