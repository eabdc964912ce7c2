-- What stands where in a division.
use Rattle.std.proofs.Common.{◌≡◌, ℕ, [], ◌∷◌, Any, inl, inr, refl, sym, subst, ◌∙◌, true, Some, Option}
use Rattle.tftp_packet.specs.{End, Server}
use Rattle.tftp_packet.specs.{Rollover}
use Rattle.tftp_packet.specs.Hosts.{Datagram, Header, PeerId, peer_of}
use Rattle.tftp_packet.specs.{In, Out, Dir}
use Rattle.law_end.specs.Dress.{StrayAnswer}
use Rattle.law_end.specs.{Label, Main, Stray, Labelled, Division, view_in, TransferIds, Saying, ComesAstray, HasLabelBy, HaveLabelsBy, IsMain, datagrams_of, Carries, Starts, request_at, from_server}
use Rattle.law_end.proofs.Division.Divided.{any_none, any_cases, any_first, any_later}
use Rattle.std.proofs.lemmas.Bool.{and_from, or_left, or_right}
use Rattle.law_model.specs.Model.{Deed, History}
use Rattle.law_model.specs.Rules.{asks, first_of, has_come_from}
use Rattle.law_end.proofs.Division.RouteTests.{in_true, now, same_is}
use Rattle.law_end.proofs.FirstBroken.FirstRequests.{first_stays}

abbrev pub one : Datagram → Label → Division → Division
one d label earlier = record { datagram = d; label = label } ∷ earlier

-- the view of the earlier labels starts as that of all
pub starts_before : (e : End) (d : Datagram) (label : Label) (earlier : Division) → Starts e (view_in (one d label earlier)) → Starts e (view_in earlier)
starts_before e d (Main deed) earlier starts = starts.1
starts_before e d Stray earlier starts = starts
starts_before e d StrayAnswer earlier starts = starts

abbrev pub CameIn : Labelled → Type 0
CameIn p = p.datagram.dir ≡ In

abbrev pub MainGoing : Dir → Labelled → Type 0
MainGoing dir p = IsMain p.label × (p.datagram.dir ≡ dir)

abbrev pub MainIn : Labelled → Type 0
MainIn = MainGoing In

abbrev pub WentOut : Labelled → Type 0
WentOut p = p.datagram.dir ≡ Out

abbrev pub MainOut : Labelled → Type 0
MainOut = MainGoing Out

abbrev pub StrayFrom : PeerId → Labelled → Type 0
StrayFrom peer p = (p.label ≡ Stray) × (peer_of p.datagram ≡ peer)

-- ---- a main datagram stands in the view

view_more : (d : Datagram) (label : Label) (earlier : Division) → (last : Deed) × (rest : History) × (view_in earlier ≡ last ∷ rest) → (last : Deed) × (rest : History) × (view_in (one d label earlier) ≡ last ∷ rest)
view_more d (Main deed) earlier some = (deed, view_in earlier, refl)
view_more d Stray earlier some = some
view_more d StrayAnswer earlier some = some

pub view_some : (dir : Dir) (division : Division) → Any (MainGoing dir) division → (last : Deed) × (rest : History) × (view_in division ≡ last ∷ rest)
view_some dir [] any = absurd (any_none (MainGoing dir) any)
view_some dir (p ∷ earlier) any = elim (any_cases (MainGoing dir) p earlier any) [
  | inl this ↦ let (deed, is) = this.0 in (deed, view_in earlier, subst (λ x. view_in (one p.datagram x earlier) ≡ deed ∷ view_in earlier) (sym is) refl)
  | inr before ↦ view_more p.datagram p.label earlier (view_some dir earlier before)
]

-- ---- where the view is not empty, a request has passed

abbrev pub Asked : Header → Division → Type 0
Asked h division = (x : Datagram) × (first_of (asks h) (datagrams_of division) ≡ Some x)

module _ (h : Header) (says : Saying) (ids : TransferIds) where
  asked_later : (d : Datagram) (label : Label) (earlier : Division) → Asked h earlier → Asked h (one d label earlier)
  asked_later d label earlier found = (found.0, first_stays (asks h) d found.0 (datagrams_of earlier) found.1)

  module _ (asks_there : (earlier : Division) (d : Datagram) → Carries h says ids earlier d (request_at h.named) → asks h d ≡ true) where
    asked_step : (d : Datagram) (label : Label) (earlier : Division) → HasLabelBy h says ids earlier d label → Starts h.named (view_in (one d label earlier))
        → (v : History) → view_in earlier ≡ v → ((last : Deed) (rest : History) → view_in earlier ≡ last ∷ rest → Asked h earlier)
        → (last : Deed) (rest : History) → view_in (one d label earlier) ≡ last ∷ rest → Asked h (one d label earlier)
    asked_step d Stray earlier p starts v is before last rest e = asked_later d Stray earlier (before last rest e)
    asked_step d StrayAnswer earlier p starts v is before last rest e = asked_later d StrayAnswer earlier (before last rest e)
    asked_step d (Main deed) earlier p starts (other ∷ v) is before last rest e = asked_later d (Main deed) earlier (before other v is)
    asked_step d (Main deed) earlier p starts [] is before last rest e =
        now (asks h) d (datagrams_of earlier) (asks_there earlier d (subst (Carries h says ids earlier d) (starts.0.first is) p))

    pub asked_some : (division : Division) → HaveLabelsBy h says ids division → Starts h.named (view_in division) → (last : Deed) (rest : History) → view_in division ≡ last ∷ rest → Asked h division
    asked_some [] labels starts last rest e = absurd (cc)
    asked_some (p ∷ earlier) labels starts last rest e =
        asked_step p.datagram p.label earlier labels.0 starts (view_in earlier) refl (asked_some earlier labels.1 (starts_before h.named p.datagram p.label earlier starts)) last rest e

  -- a stray has a main datagram of the server's side before it, and is where something came from that is not the peer
  pub stray_there : (division : Division) → HaveLabelsBy h says ids division → (peer : PeerId) → Any (StrayFrom peer) division
      → Any (MainGoing (from_server h.named)) division × (has_come_from peer (datagrams_of division) ≡ true) × (peer ≡ ids.peer → ⊥)
  stray_there [] labels peer any = absurd (any_none (StrayFrom peer) any)
  stray_there (p ∷ earlier) labels peer any = elim (any_cases (StrayFrom peer) p earlier any) [
    | inl this ↦
        let stray : ComesAstray h ids earlier p.datagram = subst (HasLabelBy h says ids earlier p.datagram) this.0 labels.0 in (
          any_later (MainGoing (from_server h.named)) p earlier stray.after,
          or_left _ _ (and_from _ _ (in_true p.datagram stray.dir) (same_is (peer_of p.datagram) peer this.1)),
          λ same. stray.elsewhere (this.1 ∙ same),
        )
    | inr before ↦ let rest = stray_there earlier labels.1 peer before in (any_later (MainGoing (from_server h.named)) p earlier rest.0, or_right _ _ rest.1, rest.2)
  ]

-- ---- at the server something that went out has a main datagram before it, or is one

module _ (service : ℕ) (rollover : Option Rollover) (says : Saying) (ids : TransferIds) where
  abbrev at_server : Header
  at_server = record { named = Server; service = service; rollover = rollover }

  -- what answers a stray has one before it, and that a main one
  pub stray_main : (division : Division) (peer : PeerId) → HaveLabelsBy at_server says ids division → Any (StrayFrom peer) division → Any MainOut division
  stray_main [] peer labels any = absurd (any_none (StrayFrom peer) any)
  stray_main (p ∷ earlier) peer labels any = elim (any_cases (StrayFrom peer) p earlier any) [
    | inl this ↦ let stray : ComesAstray at_server ids earlier p.datagram = subst (HasLabelBy at_server says ids earlier p.datagram) this.0 labels.0 in any_later MainOut p earlier stray.after
    | inr before ↦ any_later MainOut p earlier (stray_main earlier peer labels.1 before)
  ]

  pub main_out : (d : Datagram) (label : Label) (earlier : Division) → HasLabelBy at_server says ids earlier d label → HaveLabelsBy at_server says ids earlier → d.dir ≡ Out → Any MainOut (one d label earlier)
  main_out d (Main deed) earlier p labels way = any_first MainOut (record { datagram = d; label = Main deed }) earlier ((deed, refl), way)
  main_out d Stray earlier p labels way = let e : In ≡ Out = sym p.dir ∙ way in absurd (cc)
  main_out d StrayAnswer earlier p labels way = any_later MainOut (record { datagram = d; label = StrayAnswer }) earlier (stray_main earlier (peer_of d) labels p.there)

  pub any_main_out : (division : Division) → HaveLabelsBy at_server says ids division → Any WentOut division → Any MainOut division
  any_main_out [] labels any = absurd (any_none WentOut any)
  any_main_out (p ∷ earlier) labels any = elim (any_cases WentOut p earlier any) [
    | inl way ↦ main_out p.datagram p.label earlier labels.0 labels.1 way
    | inr before ↦ any_later MainOut p earlier (any_main_out earlier labels.1 before)
  ]
