-- What a server had sent when an ERROR came: it had answered, since before that the ERROR has no route.
use Rattle.std.proofs.Common.{◌≡◌, ℕ, true, List, [], ◌∷◌, Any, inl, inr, sym, subst, ◌∙◌, Option}
use Rattle.std.proofs.lemmas.Bool.{false≢true}
use Rattle.tftp_packet.specs.{Put, Server}
use Rattle.tftp_packet.specs.{Rollover}
use Rattle.tftp_packet.specs.Hosts.{Datagram, Header}
use Rattle.tftp_packet.specs.{In, Out}
use Rattle.law_model.specs.Model.{Meaning, NothingAgreed, SomethingAgreed, MachinePacket, Oack, Ack, Error, Sent, Took, History, HasSent, heard, IsOneSided}
use Rattle.law_model.proofs.ModelLemmas.Members.{contains_first, contains_later}
use Rattle.law_model.proofs.ModelLemmas.Stops.{stopped, either, heard_all, heard_stopped, first_error}
use Rattle.law_end.specs.Dress.{StrayAnswer}
use Rattle.law_end.specs.{Label, Main, Stray, Labelled, Division, view_in, TransferIds, Saying, says_of, Carries, HasLabelBy, HaveLabelsBy, IsMain, AreRouted, Starts}
use Rattle.law_end.proofs.Division.Divided.{any_none, any_cases}
use Rattle.law_end.proofs.Division.RouteTests.{IsTold}
use Rattle.law_end.proofs.Division.Placing.{any_main_out}
use Rattle.law_end.proofs.Division.Routed.{named_is, told_of}
use Rattle.law_end.proofs.Division.Parted.{parts_of}
use Rattle.law_end.proofs.Accord.HeardAnswer.{oack_heard, zero_heard}

module _ (service : ℕ) (rollover : Option Rollover) (says : Saying) (told : IsTold says) (ids : TransferIds) where
  abbrev at : Header
  at = record { named = Server; service = service; rollover = rollover }

  abbrev MainOut : Labelled → Type 0
  MainOut p = IsMain p.label × (p.datagram.dir ≡ Out)

  more_sent : (d : Datagram) (label : Label) (earlier : Division) → (q : MachinePacket) × HasSent (view_in earlier) q → (q : MachinePacket) × HasSent (view_in (record { datagram = d; label = label } ∷ earlier)) q
  more_sent d (Main deed) earlier (q, was) = (q, contains_later deed (view_in earlier) (Sent q) was)
  more_sent d Stray earlier some = some
  more_sent d StrayAnswer earlier some = some

  now_sent : (d : Datagram) (label : Label) (earlier : Division) → HasLabelBy at says ids earlier d label → IsMain label → d.dir ≡ Out → (q : MachinePacket) × HasSent (view_in (record { datagram = d; label = label } ∷ earlier)) q
  now_sent d (Main (Sent q)) earlier p is way = (q, contains_first (Sent q) (view_in earlier))
  now_sent d (Main (Took q)) earlier p is way = let both : In ≡ Out = sym p.dir ∙ way in absurd (cc)
  now_sent d Stray earlier p (deed, is) way = absurd (cc)
  now_sent d StrayAnswer earlier p (deed, is) way = absurd (cc)

  -- a main datagram that went out is in the view
  some_sent : (division : Division) → HaveLabelsBy at says ids division → Any MainOut division → (q : MachinePacket) × HasSent (view_in division) q
  some_sent [] labels any = absurd (any_none MainOut any)
  some_sent (p ∷ earlier) labels any = elim (any_cases MainOut p earlier any) [
    | inl this ↦ now_sent p.datagram p.label earlier labels.0 this.0 this.1
    | inr before ↦ more_sent p.datagram p.label earlier (some_sent earlier labels.1 before)
  ]

  -- an ERROR that came had something sent before it
  sent_first : (d : Datagram) (earlier : Division) (code : ℕ) (text : List ℕ) → HaveLabelsBy at says ids earlier → Carries at says ids earlier d (Took (Error code text)) → (q : MachinePacket) × HasSent (view_in earlier) q
  sent_first d earlier code text labels c = elim c.server.1 [
    | inl way ↦ let both : In ≡ Out = sym c.dir ∙ way in absurd (cc)
    | inr any ↦ some_sent earlier labels (any_main_out service rollover says ids earlier labels any)
  ]

  abbrev SomeHeard : History → Type 0
  SomeHeard v = (q : MachinePacket) × HasSent (heard v) q

  heard_first : (division : Division) → HaveLabelsBy at says ids division → stopped (view_in division) ≡ true → SomeHeard (view_in division)
  heard_first [] labels over = absurd (false≢true over)
  heard_first (p ∷ earlier) labels over = by p.datagram p.label labels.0 over (heard_first earlier labels.1) where
    by : (d : Datagram) (label : Label) → HasLabelBy at says ids earlier d label → stopped (view_in (record { datagram = d; label = label } ∷ earlier)) ≡ true
        → (stopped (view_in earlier) ≡ true → SomeHeard (view_in earlier)) → SomeHeard (view_in (record { datagram = d; label = label } ∷ earlier))
    by d Stray p over before = before over
    by d StrayAnswer p over before = before over
    by d (Main deed) p over before = subst (λ v. (q : MachinePacket) × HasSent v q) (sym (heard_stopped deed (view_in earlier) over)) (elim (either (view_in earlier)) [
      | inl stop ↦ before stop
      | inr going ↦
          let (code, text, is) = first_error deed (view_in earlier) over going in
          subst (λ v. (q : MachinePacket) × HasSent v q) (sym (heard_all (view_in earlier) going)) (sent_first d earlier code text labels.1 (subst (Carries at says ids earlier d) is p))
    ])

module _ (h : Header) (m : Meaning) (wire : List ℕ) (division : Division) (routed : AreRouted h m wire division) (own : IsOneSided m wire h.named (view_in division)) (starts : Starts h.named (view_in division)) where
  abbrev view : History
  view = view_in division

  some_heard : h.named ≡ Server → stopped view ≡ true → (q : MachinePacket) × HasSent (heard view) q
  some_heard server over =
      let p = parts_of h m wire division routed starts in
      heard_first h.service h.rollover (says_of m wire) (told_of m wire) p.0 division (subst (λ (x : Header). HaveLabelsBy x (says_of m wire) p.0 division) (named_is h Server server) p.1) over

  server_own : h.named ≡ Server → IsOneSided m wire Server view
  server_own server = subst (λ e. IsOneSided m wire e view) server own

  -- the OACK of a server that sends one, and on a write its ACK 0, it had sent by then
  pub oack_used : h.named ≡ Server → SomethingAgreed m → HasSent view Oack → HasSent (heard view) Oack
  oack_used server something sent = elim (either view) [
    | inr going ↦ subst (λ v. HasSent v Oack) (sym (heard_all view going)) sent
    | inl over ↦ let (q, was) = some_heard server over in oack_heard m wire view (server_own server) something q was sent
  ]

  pub zero_used : h.named ≡ Server → NothingAgreed m → m.side ≡ Put → HasSent view (Ack 0) → HasSent (heard view) (Ack 0)
  zero_used server nothing put sent = elim (either view) [
    | inr going ↦ subst (λ v. HasSent v (Ack 0)) (sym (heard_all view going)) sent
    | inl over ↦ let (q, was) = some_heard server over in zero_heard m wire view (server_own server) nothing put q was sent
  ]
