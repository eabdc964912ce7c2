-- Before a datagram: the first request is in the view, and the meaning and the wire are in accord with the list.
use Rattle.std.proofs.Common.{◌≡◌, ◌⊎◌, ℕ, Bool, true, false, List, [], ◌∷◌, Some, inl, inr, sym, ◌∙◌, if◌then◌else◌}
use Rattle.tftp_packet.specs.{Message}
use Rattle.tftp_packet.specs.Hosts.{Datagram, Header}
use Rattle.law_model.specs.Model.{Meaning, Req, Deed, Sent, Took, History, HasSent, HasTaken}
use Rattle.law_model.specs.Rules.{Route, asks, first_of, route_of, is_of_transfer, transfer_of, HasPassed}
use Rattle.law_model.proofs.ModelLemmas.Members.{contains_first, contains_later}
use Rattle.law_end.specs.Dress.{StrayAnswer}
use Rattle.law_end.specs.{Label, Main, Stray, Division, datagrams_of, view_in, Accords, label_route, AreRouted, Answer, Agrees, Begins, FirstAnswer}
use Rattle.law_end.proofs.FirstBroken.FirstRequests.{or_some, asks_route, first_stays}

-- ---- the request is in the view

module _ (h : Header) (m : Meaning) (wire : List ℕ) where
  abbrev pub HasRequest : History → Type 0
  HasRequest v = HasSent v Req ⊎ HasTaken v Req

  more_request : (deed : Deed) (v : History) → HasRequest v → HasRequest (deed ∷ v)
  more_request deed v has = elim has [ inl x ↦ inl (contains_later deed v (Sent Req) x) | inr x ↦ inr (contains_later deed v (Took Req) x) ]

  grown : (d : Datagram) (label : Label) (earlier : Division) → HasRequest (view_in earlier) → HasRequest (view_in (record { datagram = d; label = label } ∷ earlier))
  grown d (Main deed) earlier has = more_request deed (view_in earlier) has
  grown d Stray earlier has = has
  grown d StrayAnswer earlier has = has

  now_there : (d : Datagram) (label : Label) (earlier : Division) → label_route label ≡ Route.Request → HasRequest (view_in (record { datagram = d; label = label } ∷ earlier))
  now_there d (Main (Sent Req)) earlier is = inl (contains_first (Sent Req) (view_in earlier))
  now_there d (Main (Took Req)) earlier is = inr (contains_first (Took Req) (view_in earlier))
  now_there d _ earlier is = absurd (cc)

  pub requested : (division : Division) → AreRouted h m wire division → (d : Datagram) → first_of (asks h) (datagrams_of division) ≡ Some d → HasRequest (view_in division)
  requested [] routed d is = absurd (cc)
  requested (p ∷ earlier) routed d is = elim (or_some (first_of (asks h) (datagrams_of earlier)) (asks h p.datagram) p.datagram d is) [
    | inl before ↦ grown p.datagram p.label earlier (requested earlier routed.2 d before)
    | inr now ↦ now_there p.datagram p.label earlier (sym routed.0 ∙ asks_route h (datagrams_of earlier) p.datagram now.0 now.1)
  ]

  -- ---- accord with the list before

  answer_grows : (b : Bool) (d : Datagram) (ds : List Datagram) (a : Answer) → FirstAnswer m.side ds a → FirstAnswer m.side (if b then d ∷ ds else ds) a
  answer_grows true d ds a first = inl first
  answer_grows false d ds a first = first

  passed_grows : (b : Bool) (d : Datagram) (ds : List Datagram) (x : Message) → HasPassed x ds → HasPassed x (if b then d ∷ ds else ds)
  passed_grows true d ds x p = elim p [ inl q ↦ inl (inr q) | inr q ↦ inr (inr q) ]
  passed_grows false d ds x p = p

  pub before : (d : Datagram) (ds : List Datagram) → Accords h m wire (d ∷ ds) → Accords h m wire ds
  before d ds acc = record {
    fits = acc.fits;
    asked = λ asked first. acc.asked asked (first.0, first_stays (asks h) d first.0 ds first.1, first.2);
    oacked = λ options first. acc.oacked options (answer_grows (is_of_transfer (route_of h ds d)) d (transfer_of h ds) (Agrees options) first);
    plain = λ first. acc.plain (answer_grows (is_of_transfer (route_of h ds d)) d (transfer_of h ds) Begins first);
    blocks = λ k bytes p. acc.blocks k bytes (passed_grows (is_of_transfer (route_of h ds d)) d (transfer_of h ds) (Message.Data k bytes) p);
  }
