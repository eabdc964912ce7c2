-- A changed block is certain: the wire has one block by each number.
use Rattle.std.proofs.Common.{◌≡◌, ℕ, List, [], ◌∷◌, ◌++◌, Contains, reverse, inl, inr, sym, subst, ap, ◌∙◌, Option}
use Rattle.std.proofs.lemmas.List.{reverse-append}
use Rattle.std.proofs.lemmas.List.Elements.{Contains-append_left, Contains-push}
use Rattle.tftp_packet.specs.{End, Message, Out, Spells}
use Rattle.tftp_packet.specs.{Rollover}
use Rattle.tftp_packet.specs.Hosts.{Datagram, Header}
use Rattle.tftp_packet.proofs.Unique.{one_message}
use Rattle.law_model.specs.Model.{Meaning, blksize_of, block, MachinePacket, Req, Oack, Data, Ack, Error, History, message_of}
use Rattle.law_model.proofs.ModelLemmas.Members.{contains_cases, contains_none}
use Rattle.law_end.specs.{Label, Main, Stray, Division, TransferIds, HasLabel, HaveLabels, datagrams_of, packet_of, IsSeen}
use Rattle.law_end.specs.Dress.{StrayAnswer}
use Rattle.law_tap.specs.Losses.{Noted, AreNoted, IsNotedOf, IsLawfulWithLosses}
use Rattle.law_tap.proofs.Left.{left_was_there}

data_says : (m : Meaning) (wire : List ℕ) (p : MachinePacket) (k : ℕ) (bytes : List ℕ) → message_of m wire p ≡ Message.Data k bytes → bytes ≡ block (blksize_of m) wire k
data_says m wire Req k bytes is = absurd (cc)
data_says m wire Oack k bytes is = absurd (cc)
data_says m wire (Data j) k bytes is = let same : j ≡ k = cc in let these : block (blksize_of m) wire j ≡ bytes = cc in sym these ∙ ap (block (blksize_of m) wire) same
data_says m wire (Ack j) k bytes is = absurd (cc)
data_says m wire (Error code text) k bytes is = absurd (cc)

-- the packet that a payload says
record Says (m : Meaning) (wire : List ℕ) (payload : List ℕ) : Type 0 where
  packet : MachinePacket
  spelled : Spells payload (message_of m wire packet)

block_said : (m : Meaning) (wire : List ℕ) (payload : List ℕ) (k : ℕ) (bytes : List ℕ) → Says m wire payload → Spells payload (Message.Data k bytes) → bytes ≡ block (blksize_of m) wire k
block_said m wire payload k bytes s spelled = data_says m wire s.packet k bytes (one_message payload (message_of m wire s.packet) (Message.Data k bytes) s.spelled.1 spelled.1)

-- ---- noted payloads

says : (m : Meaning) (wire : List ℕ) (h : History) (noted : List Noted) (n : Noted) → AreNoted m wire h noted → Contains noted n → Says m wire n.payload
says m wire [] [] n are at = absurd (contains_none n at)
says m wire (d ∷ h) (x ∷ noted) n are at = elim (contains_cases x noted n at) [
  | inl now ↦ subst (λ (y : Noted). Says m wire y.payload) now (record { packet = packet_of d; spelled = are.1 })
  | inr before ↦ says m wire h noted n are.2 before
]
says m wire [] (x ∷ noted) n are at = absurd are
says m wire (d ∷ h) [] n are at = absurd are

pub block_stays : (rollover : Option Rollover) (m : Meaning) (wire : List ℕ) (e : End) (noted : List Noted) (one other : Noted) (k : ℕ) (bytes changed : List ℕ) → IsNotedOf rollover m wire e noted → Contains noted one → Contains noted other → Spells one.payload (Message.Data k bytes) → Spells other.payload (Message.Data k changed) → bytes ≡ changed
block_stays rollover m wire e noted one other k bytes changed is here there spelled again =
    block_said m wire one.payload k bytes (says m wire is.seen noted one is.spelled here) spelled
    ∙ sym (block_said m wire other.payload k changed (says m wire is.seen noted other is.spelled there) again)

-- ---- datagrams that an end sent

contains_reverse : (datagrams : List Datagram) (d : Datagram) → Contains datagrams d → Contains (reverse datagrams) d
contains_reverse [] d at = absurd (contains_none d at)
contains_reverse (x ∷ datagrams) d at = subst (λ l. Contains l d) (sym (reverse-append (x ∷ []) datagrams)) (elim (contains_cases x datagrams d at) [
  | inl now ↦ subst (λ y. Contains (reverse datagrams ++ y ∷ []) d) (sym now) (Contains-push (reverse datagrams) d)
  | inr before ↦ Contains-append_left (reverse datagrams) (x ∷ []) d (contains_reverse datagrams d before)
])

module _ (header : Header) (m : Meaning) (wire : List ℕ) (ids : TransferIds) where
  -- a block that goes out is no answer to a stray
  label_says : (earlier : Division) (d : Datagram) (label : Label) (k : ℕ) (bytes : List ℕ) → HasLabel header m wire ids earlier d label → d.dir ≡ Out → Spells d.payload (Message.Data k bytes) → bytes ≡ block (blksize_of m) wire k
  label_says earlier d (Main deed) k bytes has out spelled = block_said m wire d.payload k bytes (record { packet = packet_of deed; spelled = has.spells }) spelled
  label_says earlier d Stray k bytes has out spelled = let dir = has.dir in absurd (cc)
  label_says earlier d StrayAnswer k bytes has out spelled =
      let same : Message.Error 5 has.spells.0 ≡ Message.Data k bytes = one_message d.payload (Message.Error 5 has.spells.0) (Message.Data k bytes) has.spells.1.1 spelled.1 in absurd (cc)

  sent_says : (division : Division) (d : Datagram) (k : ℕ) (bytes : List ℕ) → HaveLabels header m wire ids division → Contains (datagrams_of division) d → d.dir ≡ Out → Spells d.payload (Message.Data k bytes) → bytes ≡ block (blksize_of m) wire k
  sent_says [] d k bytes have at out spelled = absurd (contains_none d at)
  sent_says (p ∷ division) d k bytes have at out spelled = elim (contains_cases p.datagram (datagrams_of division) d at) [
    | inl now ↦ label_says division d p.label k bytes (subst (λ x. HasLabel header m wire ids division x p.label) now have.0) out spelled
    | inr before ↦ sent_says division d k bytes have.1 before out spelled
  ]

sent_block : (header : Header) (m : Meaning) (wire : List ℕ) (all : List Datagram) (d : Datagram) (k : ℕ) (bytes : List ℕ) → IsSeen header m wire all → Contains all d → d.dir ≡ Out → Spells d.payload (Message.Data k bytes) → bytes ≡ block (blksize_of m) wire k
sent_block header m wire all d k bytes seen at out spelled =
    let dress = seen.dressed in
    sent_says header m wire dress.ids dress.division d k bytes dress.labels (subst (λ l. Contains l d) (sym dress.whole) (contains_reverse all d at)) out spelled

pub sent_block_stays : (header : Header) (datagrams : List Datagram) (one other : Datagram) (k : ℕ) (bytes changed : List ℕ) → IsLawfulWithLosses header datagrams → Contains datagrams one → Contains datagrams other → one.dir ≡ Out → other.dir ≡ Out → Spells one.payload (Message.Data k bytes) → Spells other.payload (Message.Data k changed) → bytes ≡ changed
sent_block_stays header datagrams one other k bytes changed lossy here there out also spelled again =
    let (m, wire, seen) = lossy.lawful in
    sent_block header m wire lossy.all one k bytes seen (left_was_there lossy.all datagrams one lossy.left here) out spelled
    ∙ sym (sent_block header m wire lossy.all other k changed seen (left_was_there lossy.all datagrams other lossy.left there) also again)
