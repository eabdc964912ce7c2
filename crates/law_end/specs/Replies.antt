-- What was asked for first, what answered it first, and what is known of the transfer by both. The list `earlier` has the
-- datagrams that have passed at the named end, `passed` those of the transfer, the newest first.
use Rattle.std.specs.Prelude.{◌≡◌, ◌⊎◌, ℕ, List, [], ◌∷◌, Option, Some, None, codes}
use Rattle.std.specs.FinMap as map
use Rattle.tftp_packet.specs.{OptionMap, OptionValue as Value, Num, Message, RequestParts, Spells, Side, Get, Put, Mode, Octet}
use Rattle.tftp_packet.specs.Hosts.{Datagram, Header}
use Rattle.tftp_packet.specs.Rounds.{greatest_of}
use Rattle.law_model.specs.Model.{option_or}
use Rattle.law_model.specs.Rules.{asks, first_of, transfer_of}
use Rattle.law_model.specs.{Reply, NoReply, Plain, Oacked, Terms}

-- the first request spells this
abbrev pub FirstAsked : Header → List Datagram → RequestParts → Type 0
FirstAsked h earlier asked = (d : Datagram) × (first_of (asks h) earlier ≡ Some d) × Spells d.payload (Message.Request asked)

-- What answers a request: an OACK, or with nothing agreed the first block of a read or the ACK 0 of a write
-- (RFC 1350, section 4; RFC 2347).
pub data Answer : Type 0 where
  Agrees : (options : OptionMap) → Answer
  Begins : Answer

abbrev pub IsAnswer : Side → Message → Answer → Type 0
IsAnswer side (Message.Oack given) (Agrees options) = given ≡ options
IsAnswer Get (Message.Data k bytes) Begins = Unit {0}
IsAnswer Put (Message.Ack j) Begins = j ≡ 0
IsAnswer _ _ _ = ⊥

-- the datagram answers the request so
abbrev pub Answers : Side → Datagram → Answer → Type 0
Answers side d answer = (m : Message) × Spells d.payload m × IsAnswer side m answer

-- no datagram answers the request
abbrev pub NotAnswered : Side → List Datagram → Type 0
NotAnswered side [] = Unit {0}
NotAnswered side (d ∷ passed) = ((answer : Answer) → Answers side d answer → ⊥) × NotAnswered side passed

-- the oldest datagram that answers the request answers it so
abbrev pub FirstAnswer : Side → List Datagram → Answer → Type 0
FirstAnswer side [] answer = ⊥
FirstAnswer side (d ∷ passed) answer = FirstAnswer side passed answer ⊎ (NotAnswered side passed × Answers side d answer)

-- the number of bytes that was agreed, which is the wire's in octet mode (RFC 2349)
abbrev pub size_from : Mode → Option Value → Option ℕ
size_from Octet (Some (Num size)) = Some size
size_from _ _ = None

-- what is known before the first reply or after a plain one
abbrev pub plain_terms : Header → Side → Reply → Terms
plain_terms h side reply = record {
  named = h.named;
  side = side;
  reply = reply;
  blksize = 512;
  windowsize = 1;
  greatest = greatest_of h.rollover;
  size = None;
}

-- what is known after the first reply
abbrev pub terms_after : Header → RequestParts → Answer → Terms
terms_after h asked (Agrees options) = record {
  named = h.named;
  side = asked.side;
  reply = Oacked;
  blksize = option_or 512 options (codes "blksize");
  windowsize = option_or 1 options (codes "windowsize");
  greatest = greatest_of h.rollover;
  size = size_from asked.mode (map.get options (codes "tsize"));
}
terms_after h asked Begins = plain_terms h asked.side Plain

-- what is known of the transfer by the first reply to what was asked for, and by both
abbrev pub AreTermsAfter : Header → RequestParts → List Datagram → Terms → Type 0
AreTermsAfter h asked passed t =
    (NotAnswered asked.side passed × (t ≡ plain_terms h asked.side NoReply))
    ⊎ ((answer : Answer) × FirstAnswer asked.side passed answer × (t ≡ terms_after h asked answer))

abbrev pub AreTerms : Header → List Datagram → Terms → Type 0
AreTerms h earlier t = (asked : RequestParts) × FirstAsked h earlier asked × AreTermsAfter h asked (transfer_of h earlier) t
