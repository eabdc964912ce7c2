-- What a judge keeps tells what its end has sent.
use Rattle.std.proofs.Common.{◌≡◌, ℕ, Bool, List, Option, Some, None, inl, inr, refl, sym, subst, ap, ◌∙◌, ◌↔◌}
use Rattle.tftp_packet.specs.{OptionMap, Message, RequestParts, Client, Server}
use Rattle.tftp_packet.specs.Hosts.{Datagram, Header}
use Rattle.tftp_packet.specs.{In, Out}
use Rattle.law_model.specs.Model.{Meaning, SomethingAgreed, Req, Oack, Sent, MaySend, IsOneSided, MayCome}
use Rattle.tftp_ends.specs.{NamedEnd, Sends, Receives, HoldsBlock, IsEndAfter}
use Rattle.law_model.specs.Rules.{transfer_of, Passed}
use Rattle.law_end.specs.{Division, datagrams_of, view_in, Accords, AreRouted, FirstAsked, FirstAnswer, Agrees, Begins}
use Rattle.law_end.proofs.Soundness.EarlierList.{requested}
use Rattle.law_end.proofs.Accord.FirstReply.{no_oack}
use Rattle.law_end.proofs.Accord.Moments.{sent_moment, took_moment}
use Rattle.law_end.proofs.Accord.PassedIsDone.{told_passed}
use Rattle.law_end.proofs.Soundness.RulesDivide.{divides}
use Rattle.law_end.proofs.Whole.TwoEnds.{some}
use Rattle.law_end.proofs.Soundness.Searches.{oack_from}
use Rattle.tftp_judge.specs.Kept.{Exchange}
use Rattle.tftp_judge.specs.{Unanswered, Begun, Agreed, Transfer, ErrorText, IsErrorOf, IsExchange, IsTransferAfter, IsTransferOf, HasBlock, HasAgreed, AreFlags, HasSentBy}
use Rattle.law_pair.proofs.Spelt.{packet_is}
use Rattle.law_pair.proofs.CommonMeaning.{out_is, in_is, oack_out, request_out}

-- ---- blocks

holds : (end : NamedEnd) (passed : List Datagram) → IsEndAfter end passed → (k : ℕ) (bytes : List ℕ) → Passed Out (Message.Data k bytes) passed ↔ HoldsBlock end k bytes
holds (Sends s) passed after k bytes = (
  λ p. (after.blocks k bytes).0 (inr p),
  λ get. elim ((after.blocks k bytes).1 get) [ inl came ↦ absurd (after.sends_blocks k bytes came) | inr went ↦ went ],
)
holds (Receives r) passed after k bytes = (λ p. after.takes_blocks k bytes p, λ none. absurd none)

has_block : (h : Header) (asked : RequestParts) (passed : List Datagram) (c : Exchange) → IsExchange h asked passed c → (k : ℕ) (bytes : List ℕ) → Passed Out (Message.Data k bytes) passed ↔ HasBlock c k bytes
has_block h asked passed Unanswered exchange k bytes = (λ p. exchange.1.no_block k bytes (inr p), λ none. absurd none)
has_block h asked passed (Begun end) exchange k bytes = holds end passed exchange.after k bytes
has_block h asked passed (Agreed options end) exchange k bytes = holds end passed exchange.after k bytes

-- ---- ERRORs

has_error : (passed : List Datagram) (o : Option ErrorText) → IsErrorOf Out passed o → (code : ℕ) (text : List ℕ) → Passed Out (Message.Error code text) passed ↔ (o ≡ Some (code, text))
has_error passed None is code text = (λ p. absurd (is code text p), λ e. absurd (cc))
has_error passed (Some e) is code text = (
  λ p. let same = is.1 code text p in ap Some (pair_of e code text (sym same.0) (sym same.1)),
  λ at. let both : e ≡ (code, text) = some_of e (code, text) at in subst (λ (x : ErrorText). Passed Out (Message.Error x.0 x.1) passed) both is.0,
) where
  pair_of : (x : ErrorText) (a : ℕ) (b : List ℕ) → x.0 ≡ a → x.1 ≡ b → x ≡ (a, b)
  pair_of (y, z) a b s t = cc

  some_of : (x y : ErrorText) → Some x ≡ Some y → x ≡ y
  some_of x y s = cc

-- ---- the request and the OACK

module _ (h : Header) (m : Meaning) (wire : List ℕ) (division : Division) (acc : Accords h m wire (datagrams_of division)) (routed : AreRouted h m wire division) (own : IsOneSided m wire h.named (view_in division)) where
  abbrev ps : List Datagram
  ps = transfer_of h (datagrams_of division)

  request_by : (r : RequestParts) → Passed Out (Message.Request r) ps → h.named ≡ Client
  request_by r p =
      let (q, at, says) = out_is h m wire division routed own (Message.Request r) p in
      let is = packet_is m wire q Req (Message.Request r) says refl in
      let (before, may, kept) = sent_moment m wire h.named (view_in division) own q at in
      (subst (MaySend m wire h.named before) is may).client

  has_request : (asked r : RequestParts) → FirstAsked h (datagrams_of division) asked → Passed Out (Message.Request r) ps ↔ ((h.named ≡ Client) × (r ≡ asked))
  has_request asked r first = (
    λ p. (request_by r p, sym (request_out h m wire division routed own r p) ∙ sym (acc.asked asked first)),
    λ both. elim (requested h m wire division routed first.0 first.1) [
      | inl sent ↦ subst (λ x. Passed Out (Message.Request x) ps) (sym (both.1 ∙ acc.asked asked first)) (told_passed h m wire division routed (Sent Req) sent)
      | inr took ↦
          let (before, may, kept) = took_moment m wire h.named (view_in division) own Req took in
          let server : h.named ≡ Server = may in
          let apart : Client ≡ Server = sym both.0 ∙ server in
          absurd (cc)
    ],
  )

  oack_some : (o : OptionMap) → Passed Out (Message.Oack o) ps → SomethingAgreed m
  oack_some o p =
      let (q, at, says) = out_is h m wire division routed own (Message.Oack o) p in
      let is = packet_is m wire q Oack (Message.Oack o) says refl in
      let (before, may, kept) = sent_moment m wire h.named (view_in division) own q at in
      (subst (MaySend m wire h.named before) is may).agreed

  oack_in_client : (o : OptionMap) → Passed In (Message.Oack o) ps → h.named ≡ Client
  oack_in_client o p =
      let (q, at, says) = in_is h m wire division routed own (Message.Oack o) p in
      let is = packet_is m wire q Oack (Message.Oack o) says refl in
      let (before, may, kept) = took_moment m wire h.named (view_in division) own q at in
      (subst (MayCome m wire h.named before) is may).client

  has_oack : (asked : RequestParts) (c : Exchange) → FirstAsked h (datagrams_of division) asked → IsExchange h asked ps c → (o : OptionMap) → Passed Out (Message.Oack o) ps ↔ ((h.named ≡ Server) × HasAgreed c o)
  has_oack asked Unanswered first exchange o = (λ p. absurd (no_oack asked.side Out o ps exchange.0 p), λ both. absurd both.1)
  has_oack asked (Begun end) first exchange o = (
    λ p. absurd (oack_some o p (acc.plain (subst (λ (r : RequestParts). FirstAnswer r.side ps Begins) (acc.asked asked first) exchange.answered))),
    λ both. absurd both.1,
  )
  has_oack asked (Agreed options end) first exchange o =
      let mine : m.agreed ≡ options = acc.oacked options (subst (λ (r : RequestParts). FirstAnswer r.side ps (Agrees options)) (acc.asked asked first) exchange.answered) in (
        λ p. let out = oack_out h m wire division routed own o p in (out.0, sym out.1 ∙ mine),
        λ both. elim (oack_from asked.side ps options exchange.answered) [
          | inl came ↦ let apart : Server ≡ Client = sym both.0 ∙ oack_in_client options came in absurd (cc)
          | inr went ↦ subst (λ x. Passed Out (Message.Oack x) ps) (sym both.1) went
        ],
      )

  by_message : (t : Transfer) (flags : ℕ → Bool) → FirstAsked h (datagrams_of division) t.asked → IsTransferAfter t h ps → AreFlags flags ps → (x : Message) → Passed Out x ps ↔ HasSentBy t flags x
  by_message t flags first after are (Message.Request r) = subst (λ e. Passed Out (Message.Request r) ps ↔ ((e ≡ Client) × (r ≡ t.asked))) (sym after.named) (has_request t.asked r first)
  by_message t flags first after are (Message.Oack o) = subst (λ e. Passed Out (Message.Oack o) ps ↔ ((e ≡ Server) × HasAgreed t.exchange o)) (sym after.named) (has_oack t.asked t.exchange first after.exchange o)
  by_message t flags first after are (Message.Data k bytes) = has_block h t.asked ps t.exchange after.exchange k bytes
  by_message t flags first after are (Message.Ack j) = ((are j).1, (are j).0)
  by_message t flags first after are (Message.Error code text) = has_error ps t.errors.sent after.errors.sent code text

pub sent_by_kept : (t : Transfer) (h : Header) (earlier : List Datagram) (flags : ℕ → Bool) → IsTransferOf t h earlier → AreFlags flags (transfer_of h earlier) → (x : Message) → Passed Out x (transfer_of h earlier) ↔ HasSentBy t flags x
sent_by_kept t h earlier flags is are x =
    let (m, wire, acc) = some h earlier is.lawful in
    let (division, same, routed, own, starts) = divides h m wire earlier is.lawful acc in
    subst (λ ds. Passed Out x (transfer_of h ds) ↔ HasSentBy t flags x) same
    (by_message h m wire division (subst (Accords h m wire) (sym same) acc) routed own t flags
    (subst (λ ds. FirstAsked h ds t.asked) (sym same) is.asked)
    (subst (λ ds. IsTransferAfter t h (transfer_of h ds)) (sym same) is.after)
    (subst (λ ds. AreFlags flags (transfer_of h ds)) (sym same) are) x)
