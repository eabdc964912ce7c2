-- At either end, the first datagram that comes in is the other end's, and so no main datagram is left out with others.
use Rattle.std.proofs.Common.{◌≡◌, ◌⊎◌, ℕ, Bool, true, false, [], ◌∷◌, Option, Some, None, Any, inl, inr, refl, sym, subst, ap, ◌∙◌, ◌||◌, ◌&&◌, not}
use Rattle.std.specs.List.{AllByRecursion}
use Rattle.std.proofs.lemmas.Bool.{false≢true, and_from, or_right}
use Rattle.tftp_packet.specs.{End, Client, Server}
use Rattle.tftp_packet.specs.Hosts.{Datagram, Header, PeerId, peer_of}
use Rattle.tftp_packet.specs.{In, Out, Rollover}
use Rattle.law_model.specs.Model.{Req, Oack, Data, Ack, Error, Deed, Sent, Took}
use Rattle.law_model.specs.Rules.{goes_out, comes_in, begins_request, first_of}
use Rattle.law_end.specs.Dress.{StrayAnswer}
use Rattle.law_end.specs.{Label, Main, Stray, Labelled, Division, datagrams_of, view_in, TransferIds, Saying, HasLabelBy, HaveLabelsBy, IsMain, Starts}
use Rattle.law_end.proofs.Division.RouteTests.{out_true, in_true, out_false, now, IsTold}
use Rattle.law_end.proofs.Division.Divided.{any_none, any_cases}
use Rattle.law_end.proofs.FirstBroken.FirstRequests.{or_some, first_stays}
use Rattle.law_end.proofs.Division.Placing.{one, starts_before, CameIn, MainGoing}
use Rattle.audit_spared.specs.Fair.{stays, is_own_request}

abbrev pub SomeIn : Division → Type 0
SomeIn division = (x : Datagram) × (first_of comes_in (datagrams_of division) ≡ Some x)

in_now : (p : Labelled) (earlier : Division) → p.datagram.dir ≡ In → SomeIn (p ∷ earlier)
in_now p earlier way = now comes_in p.datagram (datagrams_of earlier) (in_true p.datagram way)

in_before : (p : Labelled) (earlier : Division) → SomeIn earlier → SomeIn (p ∷ earlier)
in_before p earlier found = (found.0, first_stays comes_in p.datagram found.0 (datagrams_of earlier) found.1)

some_in : (division : Division) → Any CameIn division → SomeIn division
some_in [] any = absurd (any_none CameIn any)
some_in (p ∷ earlier) any = elim (any_cases CameIn p earlier any) [
  | inl way ↦ in_now p earlier way
  | inr before ↦ in_before p earlier (some_in earlier before)
]

main_in : (division : Division) → Any (MainGoing In) division → SomeIn division
main_in [] any = absurd (any_none (MainGoing In) any)
main_in (p ∷ earlier) any = elim (any_cases (MainGoing In) p earlier any) [
  | inl this ↦ in_now p earlier this.1
  | inr before ↦ in_before p earlier (main_in earlier before)
]

none_some : {P : Type 0} (division : Division) → first_of comes_in (datagrams_of division) ≡ None → SomeIn division → P
none_some division none found = let both : None ≡ Some found.0 = sym none ∙ found.1 in absurd (cc)

module _ (service : ℕ) (rollover : Option Rollover) (says : Saying) (told : IsTold says) (ids : TransferIds) where
  abbrev pub at : End → Header
  at e = record { named = e; service = service; rollover = rollover }

  -- at a server something has come in before whatever passes
  server_some : (p : Labelled) (earlier : Division) → HaveLabelsBy (at Server) says ids (p ∷ earlier) → Starts Server (view_in (p ∷ earlier)) → SomeIn (p ∷ earlier)
  server_some p (q ∷ earlier) labels starts = in_before p (q ∷ earlier) (server_some q earlier labels.1 (starts_before Server p.datagram p.label (q ∷ earlier) starts))
  server_some p [] labels starts = by p.datagram p.label labels.0 starts where
    by : (d : Datagram) (label : Label) → HasLabelBy (at Server) says ids [] d label → Starts Server (view_in (one d label [])) → SomeIn (one d label [])
    by d (Main (Took q)) has starts = in_now (record { datagram = d; label = Main (Took q) }) [] has.dir
    by d (Main (Sent q)) has starts = let e : Sent q ≡ Took Req = starts.0.first refl in absurd (cc)
    by d Stray has starts = in_now (record { datagram = d; label = Stray }) [] has.dir
    by d StrayAnswer has starts = absurd (any_none (λ (p : Labelled). (p.label ≡ Stray) × (peer_of p.datagram ≡ peer_of d)) has.there)

  server_any : (P : Labelled → Type 0) (division : Division) → HaveLabelsBy (at Server) says ids division → Starts Server (view_in division) → Any P division → SomeIn division
  server_any P [] labels starts any = absurd (any_none P any)
  server_any P (p ∷ earlier) labels starts any = server_some p earlier labels starts

  -- the first that came in is the other end's
  came_first : (e : End) (earlier : Division) (d : Datagram) (label : Label) → HaveLabelsBy (at e) says ids (one d label earlier) → Starts e (view_in (one d label earlier))
      → first_of comes_in (datagrams_of earlier) ≡ None → comes_in d ≡ true → peer_of d ≡ ids.peer
  came_first e earlier d (Main (Sent q)) labels own none came = absurd (false≢true (sym (out_false d labels.0.dir) ∙ came))
  came_first Client earlier d (Main (Took Req)) labels own none came = absurd (own.0.not_back refl)
  came_first Server earlier d (Main (Took q)) labels own none came = labels.0.client
  came_first Client earlier d Stray labels own none came = none_some earlier none (main_in earlier labels.0.after)
  came_first Server earlier d Stray labels own none came = none_some earlier none (server_any (MainGoing Out) earlier labels.1 own labels.0.after)
  came_first e earlier d StrayAnswer labels own none came = absurd (false≢true (sym (out_false d labels.0.dir) ∙ came))
  came_first Client earlier d _ labels own none came = labels.0.server.0

  came_peer : (e : End) (division : Division) → HaveLabelsBy (at e) says ids division → Starts e (view_in division) → (x : Datagram) → first_of comes_in (datagrams_of division) ≡ Some x → peer_of x ≡ ids.peer
  came_peer e [] labels own x is = absurd (cc)
  came_peer e (p ∷ earlier) labels own x is = elim (or_some (first_of comes_in (datagrams_of earlier)) (comes_in p.datagram) p.datagram x is) [
    | inl before ↦ came_peer e earlier labels.1 (starts_before e p.datagram p.label earlier own) x before
    | inr this ↦ subst (λ (d : Datagram). peer_of d ≡ ids.peer) this.2 (came_first e earlier p.datagram p.label labels own this.0 this.1)
  ]

  module _ (out : PeerId → Bool) where
    -- the first that came in is not left out
    abbrev pub FirstStays : Division → Type 0
    FirstStays division = (x : Datagram) → first_of comes_in (datagrams_of division) ≡ Some x → out (peer_of x) ≡ false

    peer_stays : (e : End) (d : Datagram) → peer_of d ≡ ids.peer → out ids.peer ≡ false → stays e out d ≡ true
    peer_stays e d there free = ap (λ b. not b || is_own_request e d) (ap out there ∙ free)

    -- where something came in, the other end is not left out
    other_stays : (e : End) (division : Division) → HaveLabelsBy (at e) says ids division → Starts e (view_in division) → FirstStays division → SomeIn division → out ids.peer ≡ false
    other_stays e division labels own first found = ap out (sym (came_peer e division labels own found.0 found.1)) ∙ first found.0 found.1

    from_other : (e : End) (earlier : Division) (d : Datagram) (label : Label) → HaveLabelsBy (at e) says ids (one d label earlier) → Starts e (view_in (one d label earlier)) → FirstStays (one d label earlier)
        → SomeIn (one d label earlier) → peer_of d ≡ ids.peer → stays e out d ≡ true
    from_other e earlier d label labels own first found there = peer_stays e d there (other_stays e (one d label earlier) labels own first found)

    client_found : (earlier : Division) (d : Datagram) (label : Label) → (d.dir ≡ In) ⊎ Any CameIn earlier → SomeIn (one d label earlier)
    client_found earlier d label way = elim way [
      | inl this ↦ in_now (record { datagram = d; label = label }) earlier this
      | inr before ↦ in_before (record { datagram = d; label = label }) earlier (some_in earlier before)
    ]

    -- a main datagram stays
    main_stays : (e : End) (earlier : Division) (d : Datagram) (deed : Deed) → HaveLabelsBy (at e) says ids (one d (Main deed) earlier) → Starts e (view_in (one d (Main deed) earlier)) → FirstStays (one d (Main deed) earlier) → stays e out d ≡ true
    main_stays Server earlier d deed labels own first = from_other Server earlier d (Main deed) labels own first (server_some (record { datagram = d; label = Main deed }) earlier labels own) labels.0.client
    main_stays Client earlier d (Sent Req) labels own first = or_right (not (out (peer_of d))) (goes_out d && begins_request d) (and_from _ _ (out_true d labels.0.dir) (told.request d.payload labels.0.spells))
    main_stays Client earlier d (Took Req) labels own first = absurd (own.0.not_back refl)
    main_stays Client earlier d (Sent Oack) labels own first = from_other Client earlier d (Main (Sent Oack)) labels own first (client_found earlier d (Main (Sent Oack)) labels.0.server.1) labels.0.server.0
    main_stays Client earlier d (Sent (Data k)) labels own first = from_other Client earlier d (Main (Sent (Data k))) labels own first (client_found earlier d (Main (Sent (Data k))) labels.0.server.1) labels.0.server.0
    main_stays Client earlier d (Sent (Ack j)) labels own first = from_other Client earlier d (Main (Sent (Ack j))) labels own first (client_found earlier d (Main (Sent (Ack j))) labels.0.server.1) labels.0.server.0
    main_stays Client earlier d (Sent (Error c t)) labels own first = from_other Client earlier d (Main (Sent (Error c t))) labels own first (client_found earlier d (Main (Sent (Error c t))) labels.0.server.1) labels.0.server.0
    main_stays Client earlier d (Took Oack) labels own first = from_other Client earlier d (Main (Took Oack)) labels own first (client_found earlier d (Main (Took Oack)) labels.0.server.1) labels.0.server.0
    main_stays Client earlier d (Took (Data k)) labels own first = from_other Client earlier d (Main (Took (Data k))) labels own first (client_found earlier d (Main (Took (Data k))) labels.0.server.1) labels.0.server.0
    main_stays Client earlier d (Took (Ack j)) labels own first = from_other Client earlier d (Main (Took (Ack j))) labels own first (client_found earlier d (Main (Took (Ack j))) labels.0.server.1) labels.0.server.0
    main_stays Client earlier d (Took (Error c t)) labels own first = from_other Client earlier d (Main (Took (Error c t))) labels own first (client_found earlier d (Main (Took (Error c t))) labels.0.server.1) labels.0.server.0

    abbrev pub MainStays : End → Labelled → Type 0
    MainStays e p = IsMain p.label → stays e out p.datagram ≡ true

    by_label : (e : End) (p : Labelled) (earlier : Division) → HaveLabelsBy (at e) says ids (p ∷ earlier) → Starts e (view_in (p ∷ earlier)) → FirstStays (p ∷ earlier) → MainStays e p
    by_label e p earlier labels own first (deed, is) = main_stays e earlier p.datagram deed (subst (λ x. HaveLabelsBy (at e) says ids (one p.datagram x earlier)) is labels) (subst (λ x. Starts e (view_in (one p.datagram x earlier))) is own) first

    -- so all of them stay
    pub mains_stay : (e : End) (division : Division) → HaveLabelsBy (at e) says ids division → Starts e (view_in division) → FirstStays division → AllByRecursion (MainStays e) division
    mains_stay e [] labels own first = tt
    mains_stay e (p ∷ earlier) labels own first = (
      by_label e p earlier labels own first,
      mains_stay e earlier labels.1 (starts_before e p.datagram p.label earlier own) (λ x is. first x (first_stays comes_in p.datagram x (datagrams_of earlier) is)),
    )
