-- What a dressed capture says of the view and of the meaning, where each datagram goes between the same two ports and
-- spells something else than an ERROR 5.
use Rattle.std.proofs.Common.{◌≡◌, ℕ, ◌&&◌, ◌||◌, not, Bool, true, List, [], ◌∷◌, ◌++◌, map as each, inl, inr, refl, sym, subst, ap, ◌∙◌}
use Rattle.tftp_packet.specs.{Message, RequestParts, Spells}
use Rattle.std.proofs.lemmas.Bool.{and_parts, or_cases, false≢true}
use Rattle.std.specs.List.{list_all}
use Rattle.tftp_packet.specs.Hosts.{Datagram, Header, PeerId, peer_of, same_peer}
use Rattle.tftp_packet.specs.{Dir, In, Out}
use Rattle.law_model.specs.Model.{Meaning, request_of, MachinePacket, Req, Oack, Data, Ack, Error, Deed, Sent, Took, message_of, History}
use Rattle.law_end.specs.Dress.{StrayAnswer}
use Rattle.law_end.specs.{Label, Main, Stray, Labelled, Division, IsMain, datagrams_of, view_in, TransferIds, dir_of, packet_of, CarriesDeed, HasLabel, HaveLabels}
use Rattle.tests_worked.specs.{at_client}
use Rattle.law_end.proofs.Spelled.{spelled_once}
use Rattle.law_end.proofs.Division.RouteTests.{is_same}
use Rattle.tests_worked.proofs.Payloads.{Spelled, datagrams, AllSpelled, all_spell, spelled_all}
use Rattle.tests_worked.proofs.Passing.{same_dir, dir_is}
use Rattle.tests_worked.proofs.RuleTests.{is_unknown_id, not_request}
use Rattle.law_end.proofs.Division.Divided.{divided_more, divided_none, view_main, any_none, any_cases}

-- the machine packet that a message is
abbrev pub packet_for : Message → MachinePacket
packet_for (Message.Request request) = Req
packet_for (Message.Oack options) = Oack
packet_for (Message.Data k bytes) = Data k
packet_for (Message.Ack j) = Ack j
packet_for (Message.Error code text) = Error code text

abbrev pub deed_for : Dir → Message → Deed
deed_for Out message = Sent (packet_for message)
deed_for In message = Took (packet_for message)

abbrev pub deeds_for : List Spelled → History
deeds_for es = each (λ (e : Spelled). deed_for e.0.dir e.1) es

abbrev pub AnswersNoStray : Message → Type 0
AnswersNoStray message = (text : List ℕ) → message ≡ Message.Error 5 text → ⊥

abbrev pub AllMeant : Meaning → List ℕ → List Spelled → Type 0
AllMeant m wire [] = Unit {0}
AllMeant m wire (e ∷ es) = (message_of m wire (packet_for e.1) ≡ e.1) × AllMeant m wire es

packet_is : (m : Meaning) (wire : List ℕ) (p : MachinePacket) (message : Message) → message_of m wire p ≡ message → p ≡ packet_for message
packet_is m wire Req message e = subst (λ x. Req ≡ packet_for x) e refl
packet_is m wire Oack message e = subst (λ x. Oack ≡ packet_for x) e refl
packet_is m wire (Data k) message e = subst (λ x. Data k ≡ packet_for x) e refl
packet_is m wire (Ack j) message e = subst (λ x. Ack j ≡ packet_for x) e refl
packet_is m wire (Error code text) message e = subst (λ x. Error code text ≡ packet_for x) e refl

deed_is : (m : Meaning) (wire : List ℕ) (dir : Dir) (deed : Deed) (message : Message) → dir ≡ dir_of deed → message_of m wire (packet_of deed) ≡ message → deed ≡ deed_for dir message
deed_is m wire Out (Sent p) message way e = ap Sent (packet_is m wire p message e)
deed_is m wire In (Took p) message way e = ap Took (packet_is m wire p message e)
deed_is m wire _ _ message way e = absurd (cc)

-- the datagram is a main one, and its deed is what it says
abbrev pub IsCarried : Meaning → List ℕ → Label → Spelled → Type 0
IsCarried m wire label e = (label ≡ Main (deed_for e.0.dir e.1)) × (message_of m wire (packet_for e.1) ≡ e.1)

carried_by : (header : Header) (m : Meaning) (wire : List ℕ) (ids : TransferIds) (earlier : Division) (e : Spelled) (deed : Deed) → CarriesDeed header m wire ids earlier e.0 deed
    → Spells e.0.payload e.1 → IsCarried m wire (Main deed) e
carried_by header m wire ids earlier e deed h s =
    let says : message_of m wire (packet_of deed) ≡ e.1 = spelled_once e.0.payload (message_of m wire (packet_of deed)) e.1 h.spells s in
    let is = packet_is m wire (packet_of deed) e.1 says in
    (ap Main (deed_is m wire e.0.dir deed e.1 h.dir says), subst (λ p. message_of m wire p ≡ e.1) is says)

carried_is : (header : Header) (m : Meaning) (wire : List ℕ) (ids : TransferIds) (earlier : Division) (e : Spelled) (label : Label) → HasLabel header m wire ids earlier e.0 label
    → Spells e.0.payload e.1 → AnswersNoStray e.1 → (e.0.dir ≡ In → peer_of e.0 ≡ ids.peer) → IsCarried m wire label e
carried_is header m wire ids earlier e (Main deed) h s apart near = carried_by header m wire ids earlier e deed h s
carried_is header m wire ids earlier e Stray h s apart near = absurd (h.elsewhere (near h.dir))
carried_is header m wire ids earlier e StrayAnswer h s apart near = absurd (apart h.spells.0 (spelled_once e.0.payload e.1 (Message.Error 5 h.spells.0) s h.spells.1))

-- each is near: it comes from the peer, if it comes in, and is no ERROR 5
abbrev pub AllNear : TransferIds → List Spelled → Type 0
AllNear ids [] = Unit {0}
AllNear ids (e ∷ es) = AnswersNoStray e.1 × (e.0.dir ≡ In → peer_of e.0 ≡ ids.peer) × AllNear ids es

pub all_meant : (header : Header) (m : Meaning) (wire : List ℕ) (ids : TransferIds) (es : List Spelled) (division : Division) → datagrams_of division ≡ datagrams es
    → HaveLabels header m wire ids division → AllSpelled es → AllNear ids es → (view_in division ≡ deeds_for es) × AllMeant m wire es
all_meant header m wire ids [] division whole labels s near = (ap view_in (divided_none division whole), tt)
all_meant header m wire ids (e ∷ es) division whole labels s near =
    let (p, rest, is, last, more) = divided_more division e.0 (datagrams es) whole in
    let have : HaveLabels header m wire ids (p ∷ rest) = subst (HaveLabels header m wire ids) is labels in
    let now = carried_is header m wire ids rest e p.label (subst (λ d. HasLabel header m wire ids rest d p.label) last have.0) s.0 near.0 near.1 in
    let before = all_meant header m wire ids es rest more have.1 s.1 near.2 in
    (ap view_in is ∙ view_main p (deed_for e.0.dir e.1) rest now.0 ∙ ap (λ v. deed_for e.0.dir e.1 ∷ v) before.0, (now.1, before.1))

pub tail_of : (header : Header) (m : Meaning) (wire : List ℕ) (ids : TransferIds) (newer older : List Datagram) (division : Division) → datagrams_of division ≡ newer ++ older
    → HaveLabels header m wire ids division → (rest : Division) × (datagrams_of rest ≡ older) × HaveLabels header m wire ids rest
tail_of header m wire ids [] older division whole labels = (division, whole, labels)
tail_of header m wire ids (d ∷ newer) older division whole labels =
    let (p, rest, is, last, more) = divided_more division d (newer ++ older) whole in
    let have : HaveLabels header m wire ids (p ∷ rest) = subst (HaveLabels header m wire ids) is labels in
    tail_of header m wire ids newer older rest more have.1

-- at the client: an OACK that comes in after a datagram that goes out shows where the server answers
oack_shows : (m : Meaning) (wire : List ℕ) (ids : TransferIds) (q : Labelled) (d : Datagram) (options : RequestParts) (label : Label) → q.datagram.dir ≡ Out → d.dir ≡ In
    → ((request : RequestParts) → Spells d.payload (Message.Request request) → ⊥) → HasLabel at_client m wire ids (q ∷ []) d label → peer_of d ≡ ids.peer
oack_shows m wire ids q d options (Main (Took Req)) out way other h = absurd (other (request_of m) h.spells)
oack_shows m wire ids q d options (Main (Sent p)) out way other h = let e = sym way ∙ h.dir in absurd (cc)
oack_shows m wire ids q d options Stray out way other h = elim (any_cases (λ (p : Labelled). IsMain p.label × (p.datagram.dir ≡ In)) q [] h.after) [
  | inl first ↦ let e : Out ≡ In = sym out ∙ first.1 in absurd (cc)
  | inr none ↦ absurd (any_none (λ (p : Labelled). IsMain p.label × (p.datagram.dir ≡ In)) none)
]
oack_shows m wire ids q d options StrayAnswer out way other h = let e = sym way ∙ h.dir in absurd (cc)
oack_shows m wire ids q d options _ out way other h = h.server.0

-- the second datagram shows it, where it comes in and spells no request
pub second_shows : (m : Meaning) (wire : List ℕ) (ids : TransferIds) (newer : List Datagram) (second first : Datagram) (message : Message) (division : Division)
    → datagrams_of division ≡ newer ++ second ∷ first ∷ [] → HaveLabels at_client m wire ids division → first.dir ≡ Out → second.dir ≡ In
    → Spells second.payload message → ((request : RequestParts) → message ≡ Message.Request request → ⊥) → peer_of second ≡ ids.peer
second_shows m wire ids newer second first message division whole labels out way s other =
    let (rest, is, have) = tail_of at_client m wire ids newer (second ∷ first ∷ []) division whole labels in
    let (p, more, then_is, at, no_more) = divided_more rest second (first ∷ []) is in
    let (q, none, last_is, begun, end) = divided_more more first [] no_more in
    let whole_is : rest ≡ p ∷ q ∷ [] = then_is ∙ ap (λ r. p ∷ r) (last_is ∙ ap (λ r. q ∷ r) (divided_none none end)) in
    let two : HaveLabels at_client m wire ids (p ∷ q ∷ []) = subst (HaveLabels at_client m wire ids) whole_is have in
    oack_shows m wire ids q second (request_of m) p.label (ap (λ d. d.dir) begun ∙ out) way
    (λ request t. other request (spelled_once second.payload message (Message.Request request) s t))
    (subst (λ d. HasLabel at_client m wire ids (q ∷ []) d p.label) at two.0)

-- ---- by computation

-- each comes from there, if it comes in, and is no ERROR 5
abbrev pub all_near : PeerId → List Spelled → Bool
all_near peer es = list_all (λ (e : Spelled). not (is_unknown_id e.1) && (same_dir e.0.dir Out || same_peer (peer_of e.0) peer)) es

near_all : (ids : TransferIds) (peer : PeerId) (es : List Spelled) → peer ≡ ids.peer → all_near peer es ≡ true → AllNear ids es
near_all ids peer [] is t = tt
near_all ids peer (e ∷ es) is t =
    let parts = and_parts (not (is_unknown_id e.1) && (same_dir e.0.dir Out || same_peer (peer_of e.0) peer)) (all_near peer es) t in
    let now = and_parts (not (is_unknown_id e.1)) (same_dir e.0.dir Out || same_peer (peer_of e.0) peer) parts.0 in (
      λ text five. false≢true (subst (λ m. not (is_unknown_id m) ≡ true) five now.0),
      λ way. elim (or_cases (same_dir e.0.dir Out) (same_peer (peer_of e.0) peer) now.1) [
        | inl out ↦ absurd (false≢true (subst (λ d. same_dir d Out ≡ true) way out))
        | inr same ↦ is_same (peer_of e.0) peer same ∙ is
      ],
      near_all ids peer es is parts.1,
    )

datagrams_both : (newer older : List Spelled) → datagrams (newer ++ older) ≡ datagrams newer ++ datagrams older
datagrams_both [] older = refl
datagrams_both (e ∷ newer) older = ap (λ ds. e.0 ∷ ds) (datagrams_both newer older)

-- at the client, where the first goes out, the second is an answer, and all that comes in comes from where that does
pub client_meant : (m : Meaning) (wire : List ℕ) (ids : TransferIds) (newer : List Spelled) (second first : Spelled) (division : Division) → datagrams_of division ≡ datagrams (newer ++ second ∷ first ∷ [])
    → HaveLabels at_client m wire ids division → AllSpelled (second ∷ first ∷ [])
    → (all_spell newer && (same_dir first.0.dir Out && (same_dir second.0.dir In && (not_request second.1 && all_near (peer_of second.0) (newer ++ second ∷ first ∷ []))))) ≡ true
    → (view_in division ≡ deeds_for (newer ++ second ∷ first ∷ [])) × AllMeant m wire (newer ++ second ∷ first ∷ [])
client_meant m wire ids newer second first division whole labels s test =
    let es = newer ++ second ∷ first ∷ [] in
    let a = and_parts (all_spell newer) (same_dir first.0.dir Out && (same_dir second.0.dir In && (not_request second.1 && all_near (peer_of second.0) es))) test in
    let b = and_parts (same_dir first.0.dir Out) (same_dir second.0.dir In && (not_request second.1 && all_near (peer_of second.0) es)) a.1 in
    let c = and_parts (same_dir second.0.dir In) (not_request second.1 && all_near (peer_of second.0) es) b.1 in
    let d = and_parts (not_request second.1) (all_near (peer_of second.0) es) c.1 in
    let peer = second_shows m wire ids (datagrams newer) second.0 first.0 second.1 division (whole ∙ datagrams_both newer (second ∷ first ∷ [])) labels (dir_is first.0.dir Out b.0) (dir_is second.0.dir In c.0) s.0
    (λ r is. false≢true (subst (λ x. not_request x ≡ true) is d.0)) in
    all_meant at_client m wire ids es division whole labels (spelled_all newer (second ∷ first ∷ []) a.0 s) (near_all ids (peer_of second.0) es peer d.1)
