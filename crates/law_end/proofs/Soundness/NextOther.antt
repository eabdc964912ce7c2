-- An OACK, a request or an ERROR that breaks no rule is one that the end may send, or that may come to it.
use Rattle.std.proofs.Common.{◌≡◌, ℕ, List, inl, inr, refl, sym, subst, ◌∙◌}
use Rattle.std.proofs.lemmas.Bool.{cases_eq}
use Rattle.tftp_packet.specs.{OptionMap, Message, RequestParts, Spells, Side, Get, Put, Server}
use Rattle.tftp_packet.specs.Hosts.{Datagram, Header}
use Rattle.tftp_packet.specs.{Dir, In, Out}
use Rattle.law_model.specs.Model.{Meaning, request_of, SomethingAgreed, Req, Oack, Ack, Error, Sent, Took, History, MaySendReq, MaySendOack, MaySendError, MayComeOack, MayComeError}
use Rattle.law_model.specs.Rules.{transfer_of, Passed, usable}
use Rattle.tftp_nego.specs.{AgreementRule}
use Rattle.law_end.proofs.Soundness.SameOrNot.{same_request, same_options, same_text}
use Rattle.law_end.specs.{Division, datagrams_of, view_in, Agrees, IsAnswer, FirstAnswer, Rule}
use Rattle.law_end.proofs.Accord.PassedIsDone.{told_passed, sent_block}
use Rattle.law_end.proofs.Completeness.NextDeed.{reply_now}
use Rattle.law_end.proofs.Accord.WhoSends.{oack_out_who, oack_in_who, request_out_who, request_in_who}
use Rattle.law_end.proofs.Soundness.NextDatagram.{Next, more, keeps, right, req_taken, req_sent, none_before}

module _ {h : Header} {m : Meaning} {wire : List ℕ} {division : Division} {d : Datagram} (next : Next h m wire division d) where
  abbrev ds : List Datagram
  ds = datagrams_of division

  abbrev through : List Datagram
  through = transfer_of h ds

  abbrev view : History
  view = view_in division

  -- what the other end can have used
  abbrev used : List Datagram
  used = usable through

  -- ---- OACKs; two maps of options are the same or not

  module _ (o : OptionMap) (s : Spells d.payload (Message.Oack o)) where
    oack_is : (side : Side) → IsAnswer side (Message.Oack o) (Agrees o)
    oack_is Get = refl
    oack_is Put = refl

    pub agreed_now : (m.agreed ≡ o) × SomethingAgreed m
    agreed_now = elim (reply_now h m wire next.acc.fits division next.routed next.own) [
      | inl none ↦
          let same = next.acc.oacked o (subst (λ p. FirstAnswer m.side p (Agrees o)) (sym (more next)) (inr (none, (Message.Oack o, s, oack_is m.side)))) in
          (same, λ nothing. keeps next (Message.Oack o) s (Rule.Agreement AgreementRule.OackEmpty) (inr (inr (none, sym same ∙ nothing))))
      | inr some ↦ elim some [
        | inl x ↦ elim (same_options m.agreed o) [
          | inl same ↦ (same, x.0)
          | inr differs ↦ absurd (keeps next (Message.Oack o) s Rule.OackChanged (inr (inr (m.agreed, x.1, λ e. differs (sym e)))))
        ]
        | inr x ↦ absurd (keeps next (Message.Oack o) s Rule.ReplyChanged (inr (inr x.1)))
      ]
    ]

    pub may_send_oack : d.dir ≡ Out → MaySendOack m h.named view
    may_send_oack way =
        let who = oack_out_who h.named m.side o (right next (Message.Oack o) s Out way) in
        record {
          no_error = none_before next Oack refl way (subst (λ q. Spells d.payload (Message.Oack q)) (sym agreed_now.0) s);
          server = who;
          agreed = agreed_now.1;
          asked = req_taken next who;
          no_data = λ get k at. let p = sent_block h m wire division next.routed k at in keeps next (Message.Oack o) s Rule.OackAfterStart (inr (inr (way, get, (k, p.0, p.1))));
        }

    pub may_come_oack : d.dir ≡ In → MayComeOack m h.named view
    may_come_oack way =
        let who = oack_in_who h.named m.side o (right next (Message.Oack o) s In way) in
        record { client = who; agreed = agreed_now.1; asked = req_sent next who }

  -- ---- requests

  module _ (r : RequestParts) (s : Spells d.payload (Message.Request r)) where
    pub asked_now : r ≡ request_of m
    asked_now = elim (same_request r (request_of m)) [
      | inl same ↦ same
      | inr differs ↦ absurd (keeps next (Message.Request r) s Rule.RequestChanged (inr (inr differs)))
    ]

    pub may_send_request : d.dir ≡ Out → MaySendReq h.named view
    may_send_request way = record {
      no_error = none_before next Req refl way (subst (λ q. Spells d.payload (Message.Request q)) asked_now s);
      client = request_out_who h.named m.side r (right next (Message.Request r) s Out way);
      no_data = λ k at. let p = sent_block h m wire division next.routed k at in keeps next (Message.Request r) s Rule.RequestAfterStart (inr (inr (way, inl (k, p.0, p.1))));
      no_ack = λ j at. keeps next (Message.Request r) s Rule.RequestAfterStart (inr (inr (way, inr (j, told_passed h m wire division next.routed (Sent (Ack j)) at))));
    }

    pub may_come_request : d.dir ≡ In → h.named ≡ Server
    may_come_request way = request_in_who h.named m.side r (right next (Message.Request r) s In way)

  -- ---- ERRORs

  module _ (code : ℕ) (text : List ℕ) (s : Spells d.payload (Message.Error code text)) where
    -- the one that passed the same way before is this one
    one_error : (dir : Dir) → d.dir ≡ dir → (c : ℕ) (other : List ℕ) → Passed dir (Message.Error c other) through → (c ≡ code) × (other ≡ text)
    one_error dir way c other p = elim (cases_eq c code) [
      | inr apart ↦ absurd (unlike (λ e. apart (sym (code_is e))))
      | inl same ↦ elim (same_text other text) [
        | inr apart ↦ absurd (unlike (λ e. apart (sym (text_is e))))
        | inl is ↦ (same, is)
      ]
    ]
      where
        code_is : Message.Error code text ≡ Message.Error c other → code ≡ c
        code_is e = cc

        text_is : Message.Error code text ≡ Message.Error c other → text ≡ other
        text_is e = cc

        unlike : (Message.Error code text ≡ Message.Error c other → ⊥) → ⊥
        unlike apart = keeps next (Message.Error code text) s Rule.AfterError
            (inr (inl (refl, (Message.Error c other, (c, other, refl), subst (λ x. Passed x (Message.Error c other) through) (sym way) p, apart, inr (code, text, refl)))))

    pub may_send_error : d.dir ≡ Out → MaySendError h.named view code text
    may_send_error way = record {
      asked = req_sent next;
      was_asked = req_taken next;
      same = λ c other at. one_error Out way c other (told_passed h m wire division next.routed (Sent (Error c other)) at);
    }

    pub may_come_error : d.dir ≡ In → MayComeError h.named view code text
    may_come_error way = record {
      asked = req_sent next;
      same = λ c other at. one_error In way c other (told_passed h m wire division next.routed (Took (Error c other)) at);
    }
