-- An ACK that breaks no rule is one that the end may send, or that may come to it.
use Rattle.std.proofs.Common.{◌≡◌, ℕ, ◌≤◌, List, inl, inr, refl, sym, subst, ap, ◌∙◌, arith}
use Rattle.std.proofs.lemmas.Bool.{cases_lt}
use Rattle.tftp_packet.specs.{Message, Spells, Side, Get, Put}
use Rattle.tftp_packet.specs.Hosts.{Datagram, Header}
use Rattle.tftp_packet.specs.{In, Out}
use Rattle.law_model.specs.Model.{Meaning, request_of, SomethingAgreed, NothingAgreed, Ack, History, MayAckZeroOn, MaySendAck, heard, LetsAckZeroOn, MayComeAck}
use Rattle.law_model.specs.Model.Roles.{sender_of, receiver_of}
use Rattle.law_model.specs.Rules.{transfer_of, usable, AckZeroWaits}
use Rattle.law_model.specs.{EndRule, NoReply, Plain, Oacked, Terms}
use Rattle.law_end.specs.{Division, datagrams_of, view_in, Agrees, Begins, IsAnswer, FirstAnswer, plain_terms, terms_after, AreTermsAfter}
use Rattle.law_end.proofs.Accord.HighestNumbers.{top_of, front_of}
use Rattle.law_end.proofs.Accord.PassedIsDone.{block_sent, block_came, usable_passed}
use Rattle.law_end.proofs.Accord.KnownTerms.{state, sends, takes}
use Rattle.law_end.proofs.Completeness.NextDeed.{reply_now}
use Rattle.law_end.proofs.Accord.Moments.{who_sent_data, who_took_data, sent_below}
use Rattle.law_end.proofs.Accord.WhoSends.{ack_out_who, ack_in_who, two_parts}
use Rattle.law_end.proofs.Soundness.Searches.{has_data}
use Rattle.law_end.proofs.Soundness.NextDatagram.{Next, past_own, used_all, keeps_end, right, req_taken, begins_now, oack_taken, req_used, oack_past, none_before, pick, block_used}

module _ {h : Header} {m : Meaning} {wire : List ℕ} {division : Division} {d : Datagram} (next : Next h m wire division d) where
  abbrev ds : List Datagram
  ds = datagrams_of division

  abbrev through : List Datagram
  through = transfer_of h ds

  abbrev view : History
  view = view_in division

  -- what the other end can have used
  abbrev used : List Datagram
  used = usable through

  abbrev past : History
  past = heard view

  module _ (j : ℕ) (s : Spells d.payload (Message.Ack j)) where
    zero_waits : (t : Terms) → AreTermsAfter h (request_of m) through t → j ≡ 0 → AckZeroWaits t.side t.reply used → ⊥
    zero_waits t known none wait = keeps_end next t known (Message.Ack j) s EndRule.AckZero (none, wait)

    ack_begins : m.side ≡ Put → j ≡ 0 → IsAnswer m.side (Message.Ack j) Begins
    ack_begins put none = subst (λ x. IsAnswer x (Message.Ack j) Begins) (sym put) none

    out_none : (side : Side) → h.named ≡ receiver_of side → (side ≡ Put → NothingAgreed m) → (AckZeroWaits side NoReply used → ⊥) → MayAckZeroOn side m view
    out_none Get who begins wait = absurd (wait tt)
    out_none Put who begins wait = inl (begins refl, req_taken next who)

    out_oacked : (side : Side) → m.side ≡ side → h.named ≡ receiver_of side → SomethingAgreed m → FirstAnswer m.side through (Agrees m.agreed) → (AckZeroWaits side Oacked used → ⊥) → MayAckZeroOn side m view
    out_oacked Get get who something answer wait = (something, oack_taken next who answer)
    out_oacked Put put who something answer wait = elim (has_data In used (used_all next)) [
      | inl p ↦ inr (something, p.0, block_came h m wire division next.routed p.0 p.1 (usable_passed In (Message.Data p.0 p.1) through p.2))
      | inr none ↦ absurd (wait (λ k bytes p. elim p [
        | inl came ↦ none k bytes came
        | inr went ↦ two_parts m.side h.named (who_sent_data m wire h.named view next.own k (block_sent h m wire division next.routed k bytes (usable_passed Out (Message.Data k bytes) through went))) (who ∙ ap receiver_of (sym put))
      ]))
    ]

    out_plain : (side : Side) → h.named ≡ receiver_of side → NothingAgreed m → (AckZeroWaits side Plain used → ⊥) → MayAckZeroOn side m view
    out_plain Get who nothing wait = absurd (wait tt)
    out_plain Put who nothing wait = inl (nothing, req_taken next who)

    zero_out : h.named ≡ receiver_of m.side → j ≡ 0 → MayAckZeroOn m.side m view
    zero_out who is = elim (reply_now h m wire next.acc.fits division next.routed next.own) [
      | inl none ↦ out_none m.side who (λ put. (begins_now next) (Message.Ack j) s (ack_begins put is) none) (zero_waits (plain_terms h m.side NoReply) (inl (none, refl)) is)
      | inr some ↦ elim some [
        | inl x ↦ out_oacked m.side refl who x.0 x.1 (zero_waits (terms_after h (request_of m) (Agrees m.agreed)) (inr (Agrees m.agreed, x.1, refl)) is)
        | inr x ↦ out_plain m.side who x.0 (zero_waits (terms_after h (request_of m) Begins) (inr (Begins, x.1, refl)) is)
      ]
    ]

    pub may_send_ack : d.dir ≡ Out → MaySendAck m h.named view j
    may_send_ack way =
        let who = ack_out_who h.named m.side j (right next (Message.Ack j) s Out way) in
        let (t, known) = pick next in
        let st = state h m wire next.acc.fits division next.routed next.own t known in
        let (front, is) = front_of used (used_all next) in
        let near : j ≤ front = elim (cases_lt front j) [
          | inl ahead ↦ absurd (keeps_end next t known (Message.Ack j) s EndRule.AckAhead (front, inr (takes h m wire next.acc.fits division next.routed next.own t st who, is), ahead))
          | inr fine ↦ fine
        ] in
        record {
          no_error = none_before next (Ack j) refl way s;
          receiver = who;
          zero = zero_out who;
          taken = λ k low up. let p = is.below k low (omega (arith, up, near)) in block_came h m wire division next.routed k p.0 (usable_passed In (Message.Data k p.0) through p.1);
        }

    in_none : (side : Side) → h.named ≡ sender_of side → (side ≡ Put → NothingAgreed m) → (AckZeroWaits side NoReply used → ⊥) → LetsAckZeroOn side m past
    in_none Get who begins wait = absurd (wait tt)
    in_none Put who begins wait = inl (begins refl, req_used next who)

    in_oacked : (side : Side) → m.side ≡ side → h.named ≡ sender_of side → SomethingAgreed m → FirstAnswer m.side through (Agrees m.agreed) → (AckZeroWaits side Oacked used → ⊥) → LetsAckZeroOn side m past
    in_oacked Get get who something answer wait = (something, oack_past next something who answer)
    in_oacked Put put who something answer wait = elim (has_data Out used (used_all next)) [
      | inl p ↦ inr (something, p.0, block_used next p.0 p.1 p.2)
      | inr none ↦ absurd (wait (λ k bytes p. elim p [
        | inr went ↦ none k bytes went
        | inl came ↦ two_parts m.side h.named (who ∙ ap sender_of (sym put)) (who_took_data m wire h.named view next.own k (block_came h m wire division next.routed k bytes (usable_passed In (Message.Data k bytes) through came)))
      ]))
    ]

    in_plain : (side : Side) → h.named ≡ sender_of side → NothingAgreed m → (AckZeroWaits side Plain used → ⊥) → LetsAckZeroOn side m past
    in_plain Get who nothing wait = absurd (wait tt)
    in_plain Put who nothing wait = inl (nothing, req_used next who)

    zero_in : h.named ≡ sender_of m.side → j ≡ 0 → LetsAckZeroOn m.side m past
    zero_in who is = elim (reply_now h m wire next.acc.fits division next.routed next.own) [
      | inl none ↦ in_none m.side who (λ put. (begins_now next) (Message.Ack j) s (ack_begins put is) none) (zero_waits (plain_terms h m.side NoReply) (inl (none, refl)) is)
      | inr some ↦ elim some [
        | inl x ↦ in_oacked m.side refl who x.0 x.1 (zero_waits (terms_after h (request_of m) (Agrees m.agreed)) (inr (Agrees m.agreed, x.1, refl)) is)
        | inr x ↦ in_plain m.side who x.0 (zero_waits (terms_after h (request_of m) Begins) (inr (Begins, x.1, refl)) is)
      ]
    ]

    pub may_come_ack : d.dir ≡ In → MayComeAck m h.named past j
    may_come_ack way =
        let who = ack_in_who h.named m.side j (right next (Message.Ack j) s In way) in
        let (t, known) = pick next in
        let st = state h m wire next.acc.fits division next.routed next.own t known in
        let (top, is) = top_of used (used_all next) in
        let near : j ≤ top = elim (cases_lt top j) [
          | inl ahead ↦ absurd (keeps_end next t known (Message.Ack j) s EndRule.AckAhead (top, inl (sends h m wire next.acc.fits division next.routed next.own t st who, is), ahead))
          | inr fine ↦ fine
        ] in
        record {
          sender = who;
          zero = zero_in who;
          sent = λ k low up. elim is.member [
            | inl none ↦ absurd (omega (arith, none, low, up, near))
            | inr p ↦ sent_below m wire h.named past (past_own next) top k (block_used next top p.0 p.1) low (omega (arith, up, near))
          ];
        }
