-- What a datagram of the transfer breaks by itself is what its message does.
use Rattle.std.proofs.Common.{◌≡◌, true, List, Option, Some, None, inl, inr, refl, sym, subst, ◌∙◌, ◌<◌, arith}
use Rattle.std.specs.List.{list_any}
use Rattle.std.proofs.lemmas.Bool.{true≢false}
use Rattle.tftp_packet.specs.{Message, RequestParts, Spells, End, Client, Server, FirstFault, PacketFault}
use Rattle.tftp_packet.proofs.NoFault.{no_fault}
use Rattle.law_end.specs.{IsWrongKind, number_of, Rule}
use Rattle.law_end.specs.declared.rule.Rule.TheVariants as rule
use Rattle.law_end.proofs.Spelled.{spelled_once}
use Rattle.law_end.proofs.FirstBroken.FirstRequests.{request_same, some_same}
use Rattle.law_tap.specs.{TapDatagram, TapSides, side_of, AreApart, tap_tests, FirstTapAsked, LateBreaks, OtherError, PassingBreaks, TapRoute}
use Rattle.law_tap.proofs.KeptOf.{any_of}
use Rattle.law_tap.proofs.TapBefore.{first_holds}
use Rattle.judge_tap.specs.{FindsRule, IsOtherError, IsOtherRequest, MessageBreaks, OwnBreaks}

pub asked_same : (s : TapSides) (passed : List TapDatagram) (one other : RequestParts) → FirstTapAsked s passed one → FirstTapAsked s passed other → one ≡ other
asked_same s passed one other (d, is, t) (e, at, u) =
    let same : d ≡ e = some_same d e (sym is ∙ at) in
    request_same one other (spelled_once e.payload (Message.Request one) (Message.Request other) (subst (λ (x : TapDatagram). Spells x.payload (Message.Request one)) same t) u)

pub end_same : (s : TapSides) → AreApart s → (e f : End) → side_of s e ≡ side_of s f → e ≡ f
end_same s apart Client Server is = absurd (apart.server is)
end_same s apart Server Client is = absurd (apart.server (sym is))
end_same s apart _ _ is = refl

pub asked_there : (s : TapSides) (passed : List TapDatagram) (asked : RequestParts) → FirstTapAsked s passed asked → list_any (tap_tests s).asks passed ≡ true
asked_there s passed asked (d, is, t) = let there = first_holds (tap_tests s).asks passed d is in any_of (tap_tests s).asks passed d there.1 there.0

module _ (s : TapSides) (apart : AreApart s) (passed : List TapDatagram) (asked : RequestParts) (first : FirstTapAsked s passed asked) (route : TapRoute) (d : TapDatagram) (e : End) (source : d.source ≡ side_of s e) (m : Message) (says : Spells d.payload m) where
  pub other_error : (n : Message) → Spells d.payload n → IsOtherError s passed e n → OtherError s passed d
  other_error (Message.Error code text) t (other, words, before, differs) = record {
    end = e;
    source = source;
    code = code;
    text = text;
    says = t;
    first_code = other;
    first_text = words;
    before = before;
    differs = differs;
  }
  other_error (Message.Request q) t is = absurd is
  other_error _ t is = absurd is

  other_request : (f : End) (n : Message) → d.source ≡ side_of s f → Spells d.payload n → IsOtherRequest asked f n → PassingBreaks s passed route d rule.RequestChanged
  other_request Client (Message.Request now) at t differs = (asked, now, first, at, t, differs)
  other_request _ _ at t is = absurd is

  own_of : (r : Rule) → MessageBreaks s asked passed e m r → OwnBreaks s passed route d r
  own_of r (inl (is, wrong)) = subst (OwnBreaks s passed route d) (sym is) (inl (asked, first, e, source, (m, says, wrong)))
  own_of r (inr (inl (is, error))) = subst (OwnBreaks s passed route d) (sym is) (inl (other_error m says error))
  own_of r (inr (inr (inl (is, request)))) = subst (OwnBreaks s passed route d) (sym is) (inl (other_request e m source says request))
  own_of r (inr (inr (inr late))) = inr (record { asked = asked; first = first; message = m; says = says; breaks = late })

  message_is : (n : Message) → Spells d.payload n → n ≡ m
  message_is n t = spelled_once d.payload n m t says

  end_is : (f : End) → d.source ≡ side_of s f → f ≡ e
  end_is f at = end_same s apart f e (sym at ∙ source)

  passing_of : (r : Rule) → PassingBreaks s passed route d r → MessageBreaks s asked passed e m r
  passing_of rule.NoRequest (none, at) = absurd (true≢false (sym (asked_there s passed asked first) ∙ none))
  passing_of (rule.Malformed fault) f = absurd (no_fault d.payload m fault says.1 f.0)
  passing_of rule.WrongKind (a, is, f, at, (n, t, wrong)) =
      inl (refl, subst (λ (q : RequestParts). IsWrongKind e q.side m) (asked_same s passed a asked is first) (subst (λ x. IsWrongKind x a.side m) (end_is f at) (subst (IsWrongKind f a.side) (message_is n t) wrong)))
  passing_of rule.AfterError o = inr (inl (refl, subst (λ x. IsOtherError s passed x m) (end_is o.end o.source) (subst (IsOtherError s passed o.end) (message_is (Message.Error o.code o.text) o.says) (o.first_code, o.first_text, o.before, o.differs))))
  passing_of rule.RequestChanged (a, now, is, at, t, differs) =
      inr (inr (inl (refl, subst (λ x. IsOtherRequest asked x m) (end_is Client at) (subst (IsOtherRequest asked Client) (message_is (Message.Request now) t) (λ same. differs (same ∙ sym (asked_same s passed a asked is first)))))))
  passing_of r b = absurd b

  of_own : (r : Rule) → OwnBreaks s passed route d r → MessageBreaks s asked passed e m r
  of_own r (inl b) = passing_of r b
  of_own r (inr late) = inr (inr (inr (subst (λ (q : RequestParts). LateBreaks s q.side passed m r) (asked_same s passed late.asked asked late.first first) (subst (λ n. LateBreaks s late.asked.side passed n r) (message_is late.message late.says) late.breaks))))

  -- what is found of the message is found of the datagram
  pub own_found : (found : Option Rule) → FindsRule (MessageBreaks s asked passed e m) found → FindsRule (OwnBreaks s passed route d) found
  own_found None none = λ r b. none r (of_own r b)
  own_found (Some r) is = (own_of r is.0, λ other low b. is.1 other low (of_own other b))

-- what can't be read
pub fault_found : (s : TapSides) (passed : List TapDatagram) (asked : RequestParts) → FirstTapAsked s passed asked → (route : TapRoute) (d : TapDatagram) (fault : PacketFault) → FirstFault d.payload fault
    → FindsRule (OwnBreaks s passed route d) (Some (rule.Malformed fault))
fault_found s passed asked first route d fault is = (inl is, λ r low b. elim b [ inl passing ↦ low_passing r low passing | inr late ↦ absurd (no_fault d.payload late.message fault late.says.1 is.0) ]) where
  low_passing : (r : Rule) → number_of r < 5 → PassingBreaks s passed route d r → ⊥
  low_passing rule.NoRequest low (none, at) = true≢false (sym (asked_there s passed asked first) ∙ none)
  low_passing (rule.Malformed other) low b = omega arith
  low_passing rule.WrongKind low b = omega arith
  low_passing rule.AfterError low b = omega arith
  low_passing rule.RequestChanged low b = omega arith
  low_passing r low b = absurd b
