-- The datagrams that open a transfer, put one after another.
use Rattle.std.proofs.Common.{◌≡◌, ◌≢◌, ℕ, zero, suc, ◌-◌, List, [], ◌∷◌, Option, None, refl, sym, subst, ap, ◌∙◌, arith}
use Rattle.std.specs.FinMap as map
use Rattle.tftp_packet.specs.{Message, canonical, Side, Get, Put, Client, Server}
use Rattle.net_streams.specs.Streams.{Sink, Stops, WritesPart}
use Rattle.net_streams.proofs.StreamsLemmas.Gathering.{stops_short}
use Rattle.tftp_packet.specs.Hosts.{Datagram}
use Rattle.law_model.specs.Model.{Meaning, request_of, Req, Oack, Ack}
use Rattle.law_model.specs.Model.Machines.{receiver_of}
use Rattle.tftp_normal.specs.{opening_on, opening, normal_datagram, asked_by, sent_by, datagrams_of, lines_of, HasPut}
use Rattle.tftp_normal.proofs.Putting.{lines_both, put_failed}
use Rattle.tftp_normal.proofs.BlocksPut.{ack_datagram}

is_more : (n : ℕ) → n ≢ 0 → n ≡ suc (n - 1)
is_more zero some = absurd (some refl)
is_more (suc n) some = omega arith

module _ (m : Meaning) (request oack : List ℕ) (asked : request ≡ canonical (Message.Request (request_of m))) (answered : oack ≡ canonical (Message.Oack m.agreed)) where
  asks : normal_datagram m Req ≡ asked_by request
  asks = ap asked_by (sym asked)

  answers : normal_datagram m Oack ≡ sent_by Server oack
  answers = ap (sent_by Server) (sym answered)

  acks : (side : Side) → side ≡ m.side → normal_datagram m (Ack 0) ≡ sent_by (receiver_of side) (canonical (Message.Ack 0))
  acks side is = sym (ack_datagram None m 0) ∙ ap (λ s. sent_by (receiver_of s) (canonical (Message.Ack 0))) (sym is)

  begins_on : (side : Side) (agreed : ℕ) → (rest : List Datagram) × (datagrams_of None m (opening_on side agreed) ≡ normal_datagram m Req ∷ rest)
  begins_on Get zero = ([], refl)
  begins_on Get (suc more) = (normal_datagram m Oack ∷ normal_datagram m (Ack 0) ∷ [], refl)
  begins_on Put zero = (normal_datagram m (Ack 0) ∷ [], refl)
  begins_on Put (suc more) = (normal_datagram m Oack ∷ [], refl)

  begins : (rest : List Datagram) × (datagrams_of None m (opening m) ≡ asked_by request ∷ rest)
  begins = let b = begins_on m.side (map.len m.agreed) in (b.0, b.1 ∙ ap (λ d. d ∷ b.0) asks)

  pub read_answered : Get ≡ m.side → map.len m.agreed ≢ 0 → datagrams_of None m (opening m) ≡ asked_by request ∷ sent_by Server oack ∷ sent_by Client (canonical (Message.Ack 0)) ∷ []
  read_answered side some =
      let more = is_more (map.len m.agreed) some in
      ap (λ s. datagrams_of None m (opening_on s (map.len m.agreed))) (sym side) ∙ ap (λ n. datagrams_of None m (opening_on Get n)) more
      ∙ ap (λ d. d ∷ normal_datagram m Oack ∷ normal_datagram m (Ack 0) ∷ []) asks
      ∙ ap (λ d. asked_by request ∷ d ∷ normal_datagram m (Ack 0) ∷ []) answers
      ∙ ap (λ d. asked_by request ∷ sent_by Server oack ∷ d ∷ []) (acks Get side)

  pub write_plain : Put ≡ m.side → map.len m.agreed ≡ 0 → datagrams_of None m (opening m) ≡ asked_by request ∷ sent_by Server (canonical (Message.Ack 0)) ∷ []
  write_plain side none =
      ap (λ s. datagrams_of None m (opening_on s (map.len m.agreed))) (sym side) ∙ ap (λ n. datagrams_of None m (opening_on Put n)) none
      ∙ ap (λ d. d ∷ normal_datagram m (Ack 0) ∷ []) asks
      ∙ ap (λ d. asked_by request ∷ d ∷ []) (acks Put side)

  pub write_answered : Put ≡ m.side → map.len m.agreed ≢ 0 → datagrams_of None m (opening m) ≡ asked_by request ∷ sent_by Server oack ∷ []
  write_answered side some =
      let more = is_more (map.len m.agreed) some in
      ap (λ s. datagrams_of None m (opening_on s (map.len m.agreed))) (sym side) ∙ ap (λ n. datagrams_of None m (opening_on Put n)) more
      ∙ ap (λ d. d ∷ normal_datagram m Oack ∷ []) asks
      ∙ ap (λ d. asked_by request ∷ d ∷ []) answers

  module _ {W : Type 0} (contents : W → Option (List ℕ)) where
    pub request_failed : (c0 c1 : Sink W) → Stops contents c0 c1 (lines_of (asked_by request ∷ [])) → Stops contents c0 c1 (lines_of (datagrams_of None m (opening m)))
    request_failed c0 c1 p =
        let b = begins in
        stops_short contents c0 c1 (lines_of (asked_by request ∷ [])) (lines_of b.0) (lines_of (datagrams_of None m (opening m))) (sym (lines_both (asked_by request ∷ []) b.0) ∙ ap lines_of (sym b.1)) p

    pub answer_failed : (c0 c1 c2 : Sink W) (s t : ℕ) → Get ≡ m.side → map.len m.agreed ≢ 0 → HasPut contents c0 c1 s t (asked_by request ∷ []) → WritesPart contents c1 c2 (lines_of (sent_by Server oack ∷ []))
        → WritesPart contents c0 c2 (lines_of (datagrams_of None m (opening m)))
    answer_failed c0 c1 c2 s t side some put p =
        subst (λ ds. WritesPart contents c0 c2 (lines_of ds)) (sym (read_answered side some))
        (put_failed contents c0 c1 c2 s t (asked_by request ∷ []) (sent_by Server oack ∷ []) (sent_by Client (canonical (Message.Ack 0)) ∷ []) put p)
