-- A datagram of the transfer that breaks no rule: what is known of it and of those before it.
use Rattle.std.proofs.Common.{◌≡◌, ◌⊎◌, ℕ, true, List, [], ◌∷◌, inl, inr, refl, sym, subst, ◌&&◌, if◌then◌else◌, Bool, false}
use Rattle.std.specs.List.{list_any}
use Rattle.tftp_packet.specs.{Message, Spells, Client, Server}
use Rattle.tftp_packet.specs.Hosts.{Datagram, Header}
use Rattle.tftp_packet.specs.{Dir, In, Out}
use Rattle.law_model.specs.Model.{Meaning, request_of, SomethingAgreed, NothingAgreed, message_of, MachinePacket, Req, Oack, Data, Ack, Error, Sent, Took, History, HasSent, HasTaken, NoErrorSent, is_error, heard, IsOneSided}
use Rattle.law_model.specs.Rules.{author_of, goes_out, route_of, is_of_transfer, transfer_of, Passed, HasPassed, usable, EndBroken, brings_error}
use Rattle.law_model.specs.{EndRule, NoReply, Terms}
use Rattle.law_end.specs.{Division, datagrams_of, view_in, Accords, AreRouted, Starts, FirstAsked, Agrees, Begins, IsAnswer, NotAnswered, FirstAnswer, plain_terms, terms_after, IsWrongKind, GoesOn, MessageBreaks, Rule, Passes, OneEnded, AreTermsAfter}
use Rattle.law_end.proofs.Accord.HighestNumbers.{AllSpelled, transfer_spelled}
use Rattle.law_end.proofs.FirstBroken.FirstAnswered.{main_some}
use Rattle.law_end.proofs.FirstBroken.OneMessage.{none_by, no_end_by}
use Rattle.law_end.proofs.Accord.PassedIsDone.{Told as Heard, passed_told, used_told, data_only}
use Rattle.law_end.proofs.Accord.AfterError.{none_sent_before}
use Rattle.law_end.proofs.Accord.HeardAnswer.{heard_own}
use Rattle.law_end.proofs.Accord.AnsweredBefore.{oack_used}
use Rattle.law_model.proofs.ModelLemmas.Stops.{asked_heard}
use Rattle.law_end.proofs.Completeness.NextDeed.{reply_now}
use Rattle.law_end.proofs.Accord.Moments.{who_sent_oack, who_took_oack, who_sent_request, who_took_request}
use Rattle.law_end.proofs.Accord.WhoSends.{two_ends}
use Rattle.law_end.proofs.Soundness.Searches.{oack_from}

-- what can have been used is spelled
usable_spelled : (ds : List Datagram) → AllSpelled ds → AllSpelled (usable ds)
usable_spelled [] all = tt
usable_spelled (d ∷ ds) all = by (goes_out d && list_any brings_error ds) (usable_spelled ds all.1) where
  by : (b : Bool) → AllSpelled (usable ds) → AllSpelled (if b then usable ds else d ∷ usable ds)
  by true rest = rest
  by false rest = (all.0, rest)

-- a datagram of the transfer that passes after those of a division, of a meaning and a wire in accord with all of them
pub record Next (h : Header) (m : Meaning) (wire : List ℕ) (division : Division) (d : Datagram) : Type 0 where
  pub routed : AreRouted h m wire division
  pub own : IsOneSided m wire h.named (view_in division)
  pub starts : Starts h.named (view_in division)
  pub lawful : OneEnded h (datagrams_of division)
  pub passes : Passes h (datagrams_of division) d
  pub main : is_of_transfer (route_of h (datagrams_of division) d) ≡ true
  pub first : FirstAsked h (datagrams_of division) (request_of m)
  pub requested : HasSent (view_in division) Req ⊎ HasTaken (view_in division) Req
  pub acc : Accords h m wire (d ∷ datagrams_of division)

module _ {h : Header} {m : Meaning} {wire : List ℕ} {division : Division} {d : Datagram} (next : Next h m wire division d) where
  abbrev ds : List Datagram
  ds = datagrams_of division

  abbrev through : List Datagram
  through = transfer_of h ds

  abbrev view : History
  view = view_in division

  -- what the other end can have used
  abbrev used : List Datagram
  used = usable through

  abbrev past : History
  past = heard view

  pub past_own : IsOneSided m wire h.named past
  past_own = heard_own m wire h.named view next.own

  pub all : AllSpelled through
  all = transfer_spelled h ds next.lawful

  pub used_all : AllSpelled used
  used_all = usable_spelled through all

  pub more : transfer_of h (d ∷ ds) ≡ d ∷ through
  more = main_some (is_of_transfer (route_of h ds d)) d through next.main

  -- it breaks no rule by what it says
  pub keeps : (x : Message) → Spells d.payload x → (rule : Rule) → MessageBreaks h (request_of m) through d.dir x rule → ⊥
  keeps x s = none_by h ds d x (request_of m) next.main s next.first next.passes.lawful

  pub keeps_end : (t : Terms) → AreTermsAfter h (request_of m) through t → (x : Message) → Spells d.payload x → (rule : EndRule) → EndBroken t through x rule → ⊥
  keeps_end t known x s = no_end_by h ds d x (request_of m) next.main s next.first next.passes.lawful t known

  pub right : (x : Message) → Spells d.payload x → (dir : Dir) → d.dir ≡ dir → IsWrongKind (author_of h.named dir) m.side x → ⊥
  right x s dir way wrong = keeps x s Rule.WrongKind (inl (refl, subst (λ w. IsWrongKind (author_of h.named w) m.side x) (sym way) wrong))

  pub req_taken : h.named ≡ Server → HasTaken view Req
  req_taken at = elim next.requested [ inl sent ↦ absurd (two_ends h.named (who_sent_request m wire h.named view next.own sent) at) | inr taken ↦ taken ]

  pub req_sent : h.named ≡ Client → HasSent view Req
  req_sent at = elim next.requested [ inl sent ↦ sent | inr taken ↦ absurd (two_ends h.named at (who_took_request m wire h.named view next.own taken)) ]

  pub begins_now : (x : Message) → Spells d.payload x → IsAnswer m.side x Begins → NotAnswered m.side through → NothingAgreed m
  begins_now x s is none = next.acc.plain (subst (λ p. FirstAnswer m.side p Begins) (sym more) (inr (none, (x, s, is))))

  oack_passed_in : HasPassed (Message.Oack m.agreed) through → (HasTaken view Oack ⊎ HasSent view Oack)
  oack_passed_in p = elim p [ inl x ↦ by In (passed_told h m wire division next.routed In (Message.Oack m.agreed) x) | inr x ↦ by Out (passed_told h m wire division next.routed Out (Message.Oack m.agreed) x) ]
    where
      by : (dir : Dir) → Heard m wire view dir (Message.Oack m.agreed) → HasTaken view Oack ⊎ HasSent view Oack
      by dir (Sent Oack, at, way, said) = inr at
      by dir (Took Oack, at, way, said) = inl at
      by dir (Sent Req, at, way, said) = absurd (cc)
      by dir (Took Req, at, way, said) = absurd (cc)
      by dir (Sent (Data k), at, way, said) = absurd (cc)
      by dir (Took (Data k), at, way, said) = absurd (cc)
      by dir (Sent (Ack j), at, way, said) = absurd (cc)
      by dir (Took (Ack j), at, way, said) = absurd (cc)
      by dir (Sent (Error code text), at, way, said) = absurd (cc)
      by dir (Took (Error code text), at, way, said) = absurd (cc)

  pub oack_taken : h.named ≡ Client → FirstAnswer m.side through (Agrees m.agreed) → HasTaken view Oack
  oack_taken at answer = elim (oack_passed_in (oack_from m.side through m.agreed answer)) [ inl taken ↦ taken | inr sent ↦ absurd (two_ends h.named at (who_sent_oack m wire h.named view next.own sent)) ]

  pub oack_sent : h.named ≡ Server → FirstAnswer m.side through (Agrees m.agreed) → HasSent view Oack
  oack_sent at answer = elim (oack_passed_in (oack_from m.side through m.agreed answer)) [ inl taken ↦ absurd (two_ends h.named (who_took_oack m wire h.named view next.own taken) at) | inr sent ↦ sent ]

  -- what was there when an ERROR came
  pub req_used : h.named ≡ Client → HasSent past Req
  req_used at = asked_heard m wire h.named view next.own at (req_sent at)

  pub oack_past : SomethingAgreed m → h.named ≡ Server → FirstAnswer m.side through (Agrees m.agreed) → HasSent past Oack
  oack_past something at answer = oack_used h m wire division next.routed next.own next.starts at something (oack_sent at answer)

  -- an end that sends more has sent no ERROR
  pub none_before : (p : MachinePacket) → is_error p ≡ false → d.dir ≡ Out → Spells d.payload (message_of m wire p) → NoErrorSent view
  none_before p plain way s = none_sent_before h m wire division next.routed p plain
      (λ on. keeps (message_of m wire p) s Rule.AfterError (inr (inl (refl, subst (λ w. GoesOn through w (message_of m wire p)) (sym way) on))))

  -- ---- terms that are known

  pub pick : (t : Terms) × AreTermsAfter h (request_of m) through t
  pick = elim (reply_now h m wire next.acc.fits division next.routed next.own) [
    | inl none ↦ (plain_terms h m.side NoReply, inl (none, refl))
    | inr some ↦ elim some [
      | inl x ↦ (terms_after h (request_of m) (Agrees m.agreed), inr (Agrees m.agreed, x.1, refl))
      | inr x ↦ (terms_after h (request_of m) Begins, inr (Begins, x.1, refl))
    ]
  ]

  pub block_used : (k : ℕ) (bytes : List ℕ) → Passed Out (Message.Data k bytes) used → HasSent past (Data k)
  block_used k bytes p = let (q, at, said) = used_told h m wire division next.routed (Message.Data k bytes) p in subst (HasSent past) (data_only h m wire q k bytes said).0 at
