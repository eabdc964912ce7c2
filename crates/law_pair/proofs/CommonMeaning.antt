-- Two lists that break no rule, and are merged by what they say, are in accord with one meaning and one wire.
use Rattle.std.proofs.Common.{◌≡◌, ◌⊎◌, ℕ, ◌≤◌, List, [], ◌∷◌, Contains, Option, Some, None, inl, inr, refl, sym, subst, ap, ◌∙◌}
use Rattle.tftp_packet.specs.{OptionMap, no_options, Message, RequestParts, Spells, Side, Get, Put, Client, Server}
use Rattle.tftp_packet.specs.Hosts.{Datagram, Header}
use Rattle.tftp_packet.specs.{Dir, In, Out}
use Rattle.law_model.specs.Model.{Meaning, request_of, NothingAgreed, blksize_of, block, block_count, MachinePacket, Req, Oack, Data, Ack, Deed, Sent, Took, HasSent, HasTaken, message_of, IsStartedOn, MayAckZeroOn, MaySend, IsOneSided}
use Rattle.law_model.specs.Model.Machines.{sender_of, receiver_of}
use Rattle.law_model.specs.Rules.{asks, first_of, transfer_of, Passed, HasPassed}
use Rattle.law_model.proofs.ModelLemmas.MadeRuns.{one_sided_view}
use Rattle.law_end.specs.{Fits, Division, datagrams_of, view_in, dir_of, packet_of, Accords, AreRouted, Answer, Agrees, Begins, IsAnswer, NotAnswered, FirstAnswer, OneEnded}
use Rattle.law_end.proofs.Whole.TwoEnds.{some}
use Rattle.law_end.proofs.Soundness.RulesDivide.{divides}
use Rattle.law_end.proofs.Accord.PassedIsDone.{passed_told, told_passed}
use Rattle.law_end.proofs.Soundness.EarlierList.{requested}
use Rattle.law_end.proofs.FirstBroken.FirstRequests.{none_before}
use Rattle.law_end.proofs.FirstBroken.FirstAnswered.{not_both}
use Rattle.law_end.proofs.Accord.FirstReply.{sent_data, sent_zero, no_oack}
use Rattle.law_end.proofs.Accord.HighestNumbers.{transfer_spelled}
use Rattle.law_end.proofs.Soundness.MadeMeaning.{answer_cases}
use Rattle.law_end.proofs.Accord.Moments.{sent_moment}
use Rattle.law_end.proofs.Spelled.{spelled_once}
use Rattle.law_end.proofs.Soundness.Searches.{oack_from, zero_from}
use Rattle.law_pair.specs.{AreMerged, MaySendEach, IsBrought, AreMergedBy}
use Rattle.law_pair.proofs.Merged.{turned, to_client_went}
use Rattle.law_pair.proofs.TwoViews.{view_each}
use Rattle.law_pair.proofs.Counted.{server_took}
use Rattle.law_pair.proofs.Spelt.{packet_is, spelt, deeds_merged}
use Rattle.law_pair.proofs.Starting.{no_zero_sent}

-- ---- what came in has gone out at the other end

came_was_sent : (x : Message) (d : Datagram) (own other : List Datagram) → IsBrought other d → Passed In x (d ∷ own) → Passed Out x other ⊎ Passed In x own
came_was_sent x d own other now passed = elim passed [
  | inl came ↦ let (y, spells, sent) = now came.0 in inl (subst (λ z. Passed Out z other) (spelled_once d.payload y x spells came.1) sent)
  | inr before ↦ inr before
]

pub to_client : (client server : List Datagram) → AreMergedBy client server → (x : Message) → Passed In x client → Passed Out x server
to_client client server merged x = to_client_went IsBrought (Passed In x) (Passed Out x) (λ none. none) (λ d ds passed. inr passed) (came_was_sent x) client server merged

pub to_server : (client server : List Datagram) → AreMergedBy client server → (x : Message) → Passed In x server → Passed Out x client
to_server client server merged = to_client server client (turned IsBrought client server merged)

-- ---- what an end did, by what has passed there

module _ (h : Header) (m : Meaning) (wire : List ℕ) (division : Division) (routed : AreRouted h m wire division) (own : IsOneSided m wire h.named (view_in division)) where
  pub out_is : (x : Message) → Passed Out x (transfer_of h (datagrams_of division)) → (p : MachinePacket) × HasSent (view_in division) p × (message_of m wire p ≡ x)
  out_is x passed = let (deed, at, way, says) = passed_told h m wire division routed Out x passed in by deed at way says where
    by : (deed : Deed) → Contains (view_in division) deed → dir_of deed ≡ Out → message_of m wire (packet_of deed) ≡ x → (p : MachinePacket) × HasSent (view_in division) p × (message_of m wire p ≡ x)
    by (Sent p) at way says = (p, at, says)
    by (Took p) at way says = absurd (cc)

  pub in_is : (x : Message) → Passed In x (transfer_of h (datagrams_of division)) → (p : MachinePacket) × HasTaken (view_in division) p × (message_of m wire p ≡ x)
  in_is x passed = let (deed, at, way, says) = passed_told h m wire division routed In x passed in by deed at way says where
    by : (deed : Deed) → Contains (view_in division) deed → dir_of deed ≡ In → message_of m wire (packet_of deed) ≡ x → (p : MachinePacket) × HasTaken (view_in division) p × (message_of m wire p ≡ x)
    by (Took p) at way says = (p, at, says)
    by (Sent p) at way says = absurd (cc)

  pub oack_out : (o : OptionMap) → Passed Out (Message.Oack o) (transfer_of h (datagrams_of division)) → (h.named ≡ Server) × (m.agreed ≡ o)
  oack_out o passed =
      let (p, at, says) = out_is (Message.Oack o) passed in
      let is = packet_is m wire p Oack (Message.Oack o) says refl in
      let (before, may, kept) = sent_moment m wire h.named (view_in division) own p at in
      let allowed = subst (MaySend m wire h.named before) is may in
      let same : Message.Oack m.agreed ≡ Message.Oack o = subst (λ q. message_of m wire q ≡ Message.Oack o) is says in
      (allowed.server, cc)

  data_out : (k : ℕ) (bytes : List ℕ) → Passed Out (Message.Data k bytes) (transfer_of h (datagrams_of division)) → (h.named ≡ sender_of m.side) × HasSent (view_in division) (Data k)
  data_out k bytes passed =
      let (p, at, says) = out_is (Message.Data k bytes) passed in
      let is = packet_is m wire p (Data k) (Message.Data k bytes) says refl in
      let (before, may, kept) = sent_moment m wire h.named (view_in division) own p at in
      let allowed = subst (MaySend m wire h.named before) is may in
      (allowed.sender, subst (HasSent (view_in division)) is at)

  ack_out : (j : ℕ) → Passed Out (Message.Ack j) (transfer_of h (datagrams_of division)) → (h.named ≡ receiver_of m.side) × HasSent (view_in division) (Ack j)
  ack_out j passed =
      let (p, at, says) = out_is (Message.Ack j) passed in
      let is = packet_is m wire p (Ack j) (Message.Ack j) says refl in
      let (before, may, kept) = sent_moment m wire h.named (view_in division) own p at in
      let allowed = subst (MaySend m wire h.named before) is may in
      (allowed.receiver, subst (HasSent (view_in division)) is at)

  pub request_out : (r : RequestParts) → Passed Out (Message.Request r) (transfer_of h (datagrams_of division)) → request_of m ≡ r
  request_out r passed =
      let (p, at, says) = out_is (Message.Request r) passed in
      let is = packet_is m wire p Req (Message.Request r) says refl in
      let same : Message.Request (request_of m) ≡ Message.Request r = subst (λ q. message_of m wire q ≡ Message.Request r) is says in
      cc

  -- the server has taken the request, where one has passed
  request_in : h.named ≡ Server → (d : Datagram) → first_of (asks h) (datagrams_of division) ≡ Some d → Passed In (Message.Request (request_of m)) (transfer_of h (datagrams_of division))
  request_in server d first = elim (requested h m wire division routed d first) [
    | inl sent ↦
        let (before, may, kept) = sent_moment m wire h.named (view_in division) own Req sent in
        let client : h.named ≡ Client = may.client in
        let both : Server ≡ Client = sym server ∙ client in
        absurd (cc)
    | inr took ↦ told_passed h m wire division routed (Took Req) took
  ]

-- ---- the first answer has passed

here : (d : Datagram) (ds : List Datagram) (x : Message) → Spells d.payload x → HasPassed x (d ∷ ds)
here d ds x s = by d.dir refl where
  by : (way : Dir) → d.dir ≡ way → HasPassed x (d ∷ ds)
  by In is = inl (inl (is, s))
  by Out is = inr (inl (is, s))

there : (d : Datagram) (ds : List Datagram) (x : Message) → HasPassed x ds → HasPassed x (d ∷ ds)
there d ds x p = elim p [ inl q ↦ inl (inr q) | inr q ↦ inr (inr q) ]

begins_block : (x : Message) → IsAnswer Get x Begins → (k : ℕ) × (bytes : List ℕ) × (x ≡ Message.Data k bytes)
begins_block (Message.Data k bytes) is = (k, bytes, refl)
begins_block _ is = absurd is

block_passed : (passed : List Datagram) → FirstAnswer Get passed Begins → (k : ℕ) × (bytes : List ℕ) × HasPassed (Message.Data k bytes) passed
block_passed [] first = absurd first
block_passed (d ∷ passed) first = elim first [
  | inl before ↦ let (k, bytes, p) = block_passed passed before in (k, bytes, there d passed (Message.Data k bytes) p)
  | inr now ↦ let (x, s, is) = now.1 in let (k, bytes, same) = begins_block x is in (k, bytes, here d passed (Message.Data k bytes) (subst (Spells d.payload) same s))
]

no_zero : (dir : Dir) (passed : List Datagram) → NotAnswered Put passed → Passed dir (Message.Ack 0) passed → ⊥
no_zero dir [] none p = p
no_zero dir (d ∷ passed) none p = elim p [ inl now ↦ none.0 Begins (Message.Ack 0, now.1, refl) | inr before ↦ no_zero dir passed none.1 before ]

-- ---- one meaning and one wire

abbrev pub HaveOne : Header → List Datagram → Header → List Datagram → Type 0
HaveOne hc client hs server = (m : Meaning) × (wire : List ℕ) × Accords hc m wire client × Accords hs m wire server

module _ (hc hs : Header) (dc ds : Division) (at_client : hc.named ≡ Client) (at_server : hs.named ≡ Server) (alike : hc.rollover ≡ hs.rollover)
    (lawful_client : OneEnded hc (datagrams_of dc)) (lawful_server : OneEnded hs (datagrams_of ds))
    (mc ms : Meaning) (wc ws : List ℕ) (acc_client : Accords hc mc wc (datagrams_of dc)) (acc_server : Accords hs ms ws (datagrams_of ds))
    (routed_client : AreRouted hc mc wc dc) (routed_server : AreRouted hs ms ws ds)
    (own_client : IsOneSided mc wc hc.named (view_in dc)) (own_server : IsOneSided ms ws hs.named (view_in ds))
    (merged : AreMergedBy (transfer_of hc (datagrams_of dc)) (transfer_of hs (datagrams_of ds))) where
  abbrev pc : List Datagram
  pc = transfer_of hc (datagrams_of dc)

  abbrev ps : List Datagram
  ps = transfer_of hs (datagrams_of ds)

  views_merged : AreMerged (view_in dc) (view_in ds)
  views_merged = deeds_merged mc ms wc ws (view_in dc) (view_in ds) pc ps (spelt hc mc wc dc routed_client) (spelt hs ms ws ds routed_server) merged

  carried_to_server : (p : MachinePacket) → HasTaken (view_in ds) p → HasSent (view_in dc) p
  carried_to_server = server_took (view_in dc) (view_in ds) views_merged

  not_server : hc.named ≡ Server → ⊥
  not_server e = let both : Client ≡ Server = sym at_client ∙ e in cc

  not_client : hs.named ≡ Client → ⊥
  not_client e = let both : Server ≡ Client = sym at_server ∙ e in cc

  -- the server takes what the client asked
  one_request : (d : Datagram) → first_of (asks hs) (datagrams_of ds) ≡ Some d → request_of mc ≡ request_of ms
  one_request d first = request_out hc mc wc dc routed_client own_client (request_of ms)
      (to_server pc ps merged (Message.Request (request_of ms)) (request_in hs ms ws ds routed_server own_server at_server d first))

  -- an OACK that the client knows the server has sent
  one_oack : (o : OptionMap) → HasPassed (Message.Oack o) pc → ms.agreed ≡ o
  one_oack o p = elim p [
    | inl came ↦ (oack_out hs ms ws ds routed_server own_server o (to_client pc ps merged (Message.Oack o) came)).1
    | inr went ↦ absurd (not_server (oack_out hc mc wc dc routed_client own_client o went).0)
  ]

  -- ---- where the server was not asked

  of_client : first_of (asks hs) (datagrams_of ds) ≡ None → HaveOne hc (datagrams_of dc) hs (datagrams_of ds)
  of_client none =
      let nothing = none_before hs (datagrams_of ds) none lawful_server in (
        mc,
        wc,
        acc_client,
        record {
          fits = subst (λ r. Fits r mc wc) alike acc_client.fits;
          asked = λ asked first. let both : None ≡ Some first.0 = sym none ∙ first.1 in absurd (cc);
          oacked = λ options answer. absurd (subst (λ x. FirstAnswer mc.side x (Agrees options)) nothing answer);
          plain = λ answer. absurd (subst (λ x. FirstAnswer mc.side x Begins) nothing answer);
          blocks = λ k bytes p. elim (subst (HasPassed (Message.Data k bytes)) nothing p) [ inl x ↦ absurd x | inr x ↦ absurd x ];
        },
      )

  -- ---- a read

  module _ (same : request_of mc ≡ request_of ms) where
    same_side : mc.side ≡ ms.side
    same_side = ap (λ (r : RequestParts). r.side) same

    read_plain : ms.side ≡ Get → FirstAnswer ms.side pc Begins → ms.agreed ≡ no_options
    read_plain get first =
        let client_get : mc.side ≡ Get = same_side ∙ get in
        let plain : NothingAgreed mc = acc_client.plain (subst (λ s. FirstAnswer s pc Begins) (sym same_side) first) in
        let (k, bytes, p) = block_passed pc (subst (λ s. FirstAnswer s pc Begins) get first) in
        elim p [
          | inl came ↦
              let sent = (data_out hs ms ws ds routed_server own_server k bytes (to_client pc ps merged (Message.Data k bytes) came)).1 in
              elim (subst (λ s. IsStartedOn s ms (view_in ds)) get (sent_data ms ws hs.named k (view_in ds) own_server sent)) [
                | inl x ↦ x.0
                | inr x ↦
                    let zero_sent = carried_to_server (Ack 0) x.1 in
                    absurd ((subst (λ s. MayAckZeroOn s mc (view_in dc)) client_get (sent_zero mc wc hc.named (view_in dc) own_client zero_sent)).0 plain)
              ]
          | inr went ↦ absurd (not_server ((data_out hc mc wc dc routed_client own_client k bytes went).0 ∙ ap sender_of client_get))
        ]

    read_blocks : ms.side ≡ Get → (k : ℕ) (bytes : List ℕ) → HasPassed (Message.Data k bytes) pc → (k ≤ block_count (blksize_of ms) ws) × (bytes ≡ block (blksize_of ms) ws k)
    read_blocks get k bytes p = elim p [
      | inl came ↦ acc_server.blocks k bytes (inr (to_client pc ps merged (Message.Data k bytes) came))
      | inr went ↦ absurd (not_server ((data_out hc mc wc dc routed_client own_client k bytes went).0 ∙ ap sender_of (same_side ∙ get)))
    ]

    of_read : ms.side ≡ Get → HaveOne hc (datagrams_of dc) hs (datagrams_of ds)
    of_read get = (
      ms,
      ws,
      record {
        fits = subst (λ r. Fits r ms ws) (sym alike) acc_server.fits;
        asked = λ asked first. acc_client.asked asked first ∙ same;
        oacked = λ options answer. one_oack options (oack_from ms.side pc options answer);
        plain = λ answer. read_plain get answer;
        blocks = read_blocks get;
      },
      acc_server,
    )

    -- ---- a write

    unanswered_blocks : ms.side ≡ Put → NotAnswered Put pc → (k : ℕ) (bytes : List ℕ) → HasPassed (Message.Data k bytes) pc → ⊥
    unanswered_blocks put none k bytes p = elim p [
      | inl came ↦ not_client ((data_out hs ms ws ds routed_server own_server k bytes (to_client pc ps merged (Message.Data k bytes) came)).0 ∙ ap sender_of put)
      | inr went ↦
          let sent = (data_out hc mc wc dc routed_client own_client k bytes went).1 in
          elim (subst (λ s. IsStartedOn s mc (view_in dc)) (same_side ∙ put) (sent_data mc wc hc.named k (view_in dc) own_client sent)) [
            | inl x ↦ no_zero In pc none (told_passed hc mc wc dc routed_client (Took (Ack 0)) x.1)
            | inr x ↦ no_oack Put In mc.agreed pc none (told_passed hc mc wc dc routed_client (Took Oack) x.1)
          ]
    ]

    of_unanswered : ms.side ≡ Put → NotAnswered Put pc → HaveOne hc (datagrams_of dc) hs (datagrams_of ds)
    of_unanswered put none = (
      ms,
      ws,
      record {
        fits = subst (λ r. Fits r ms ws) (sym alike) acc_server.fits;
        asked = λ asked first. acc_client.asked asked first ∙ same;
        oacked = λ options answer. absurd (not_both Put pc (Agrees options) none (subst (λ s. FirstAnswer s pc (Agrees options)) put answer));
        plain = λ answer. absurd (not_both Put pc Begins none (subst (λ s. FirstAnswer s pc Begins) put answer));
        blocks = λ k bytes p. absurd (unanswered_blocks put none k bytes p);
      },
      acc_server,
    )

    client_each : MaySendEach mc wc Client (view_in dc)
    client_each = subst (λ e. MaySendEach mc wc e (view_in dc)) at_client (view_each mc wc hc.named (view_in dc) (one_sided_view mc wc hc.named (view_in dc) own_client))

    server_each : MaySendEach ms ws Server (view_in ds)
    server_each = subst (λ e. MaySendEach ms ws e (view_in ds)) at_server (view_each ms ws hs.named (view_in ds) (one_sided_view ms ws hs.named (view_in ds) own_server))

    -- the client took ACK 0 first, so the server had agreed to nothing
    plain_both : ms.side ≡ Put → NothingAgreed mc → HasSent (view_in ds) (Ack 0) → ms.agreed ≡ no_options
    plain_both put plain at = elim (subst (λ s. MayAckZeroOn s ms (view_in ds)) put (sent_zero ms ws hs.named (view_in ds) own_server at)) [
      | inl x ↦ x.0
      | inr x ↦ absurd (no_zero_sent mc ms wc ws (same_side ∙ put) put plain x.0 (view_in dc) (view_in ds) views_merged client_each server_each at)
    ]

    one_agreed : ms.side ≡ Put → (a : Answer) → FirstAnswer Put pc a → mc.agreed ≡ ms.agreed
    one_agreed put (Agrees o) first =
        let mine : mc.agreed ≡ o = acc_client.oacked o (subst (λ s. FirstAnswer s pc (Agrees o)) (sym (same_side ∙ put)) first) in
        mine ∙ sym (one_oack o (oack_from Put pc o first))
    one_agreed put Begins first =
        let plain : NothingAgreed mc = acc_client.plain (subst (λ s. FirstAnswer s pc Begins) (sym (same_side ∙ put)) first) in
        elim (zero_from pc first) [
          | inl came ↦ plain ∙ sym (plain_both put plain (ack_out hs ms ws ds routed_server own_server 0 (to_client pc ps merged (Message.Ack 0) came)).1)
          | inr went ↦ absurd (not_server ((ack_out hc mc wc dc routed_client own_client 0 went).0 ∙ ap receiver_of (same_side ∙ put)))
        ]

    write_blocks : ms.side ≡ Put → (k : ℕ) (bytes : List ℕ) → HasPassed (Message.Data k bytes) ps → (k ≤ block_count (blksize_of mc) wc) × (bytes ≡ block (blksize_of mc) wc k)
    write_blocks put k bytes p = elim p [
      | inl came ↦ acc_client.blocks k bytes (inr (to_server pc ps merged (Message.Data k bytes) came))
      | inr went ↦ absurd (not_client ((data_out hs ms ws ds routed_server own_server k bytes went).0 ∙ ap sender_of put))
    ]

    of_answered : ms.side ≡ Put → (a : Answer) → FirstAnswer Put pc a → HaveOne hc (datagrams_of dc) hs (datagrams_of ds)
    of_answered put a first =
        let agreed = one_agreed put a first in (
          mc,
          wc,
          acc_client,
          record {
            fits = subst (λ r. Fits r mc wc) alike acc_client.fits;
            asked = λ asked ask. acc_server.asked asked ask ∙ sym same;
            oacked = λ options answer. agreed ∙ acc_server.oacked options (subst (λ s. FirstAnswer s ps (Agrees options)) same_side answer);
            plain = λ answer. agreed ∙ acc_server.plain (subst (λ s. FirstAnswer s ps Begins) same_side answer);
            blocks = write_blocks put;
          },
        )

    of_write : ms.side ≡ Put → HaveOne hc (datagrams_of dc) hs (datagrams_of ds)
    of_write put = elim (answer_cases Put pc (transfer_spelled hc (datagrams_of dc) lawful_client)) [ inl none ↦ of_unanswered put none | inr a ↦ of_answered put a.0 a.1 ]

    of_side : (s : Side) → ms.side ≡ s → HaveOne hc (datagrams_of dc) hs (datagrams_of ds)
    of_side Get is = of_read is
    of_side Put is = of_write is

  by_first : (o : Option Datagram) → first_of (asks hs) (datagrams_of ds) ≡ o → HaveOne hc (datagrams_of dc) hs (datagrams_of ds)
  by_first None is = of_client is
  by_first (Some d) is = of_side (one_request d is) ms.side refl

  pub have_one : HaveOne hc (datagrams_of dc) hs (datagrams_of ds)
  have_one = by_first (first_of (asks hs) (datagrams_of ds)) refl

pub one_for_both : (hc hs : Header) (client server : List Datagram) → hc.named ≡ Client → hs.named ≡ Server → hc.rollover ≡ hs.rollover → OneEnded hc client → OneEnded hs server
    → AreMergedBy (transfer_of hc client) (transfer_of hs server) → HaveOne hc client hs server
one_for_both hc hs client server at_client at_server alike lawful_client lawful_server merged =
    let (mc, wc, acc_client) = some hc client lawful_client in
    let (ms, ws, acc_server) = some hs server lawful_server in
    let (dc, same_client, routed_client, own_client, starts_client) = divides hc mc wc client lawful_client acc_client in
    let (ds, same_server, routed_server, own_server, starts_server) = divides hs ms ws server lawful_server acc_server in
    let both = have_one hc hs dc ds at_client at_server alike
    (subst (OneEnded hc) (sym same_client) lawful_client) (subst (OneEnded hs) (sym same_server) lawful_server)
    mc ms wc ws (subst (Accords hc mc wc) (sym same_client) acc_client) (subst (Accords hs ms ws) (sym same_server) acc_server)
    routed_client routed_server own_client own_server
    (subst (λ x. AreMergedBy x (transfer_of hs (datagrams_of ds))) (ap (transfer_of hc) (sym same_client))
    (subst (AreMergedBy (transfer_of hc client)) (ap (transfer_of hs) (sym same_server)) merged)) in
    let (m, wire, a, b) = both in
    (m, wire, subst (Accords hc m wire) same_client a, subst (Accords hs m wire) same_server b)
