-- What the server's capture shows, the capture between the ends shows, where what the client sent elsewhere only answers strays:
-- so nothing that the server saw is the first that is refused there.
use Rattle.std.proofs.Common.{◌≡◌, ℕ, Bool, true, false, List, [], ◌∷◌, Any, inl, inr, refl, sym, ap, subst, ◌∙◌, map, filter, reverse, None}
use Rattle.std.specs.List.{AllByRecursion}
use Rattle.std.proofs.lemmas.Bool.{false≢true, true≢false}
use Rattle.std.proofs.lemmas.List.{reverse-reverse}
use Rattle.tftp_packet.specs.{Message, End, Client, Server}
use Rattle.tftp_packet.specs.Hosts.{Datagram, PeerId}
use Rattle.tftp_packet.specs.{In, Out}
use Rattle.law_model.specs.Model.{Meaning, MachinePacket, Sent, Took, Req}
use Rattle.law_end.specs.{Label, Division, datagrams_of, TransferIds, HasLabelBy, HaveLabelsBy, says_of, says_some, IsLawful, OneEnded, Rule}
use Rattle.law_end.specs.Dress.{Main, Stray, StrayAnswer}
use Rattle.law_end.proofs.Division.Divided.{any_none, any_cases, any_first, any_later, divided_more}
use Rattle.law_end.proofs.Division.RouteTests.{request_begins}
use Rattle.law_end.proofs.Division.ServerRoutes.{byte_begins}
use Rattle.law_end.proofs.Whole.TwoEnds.{lawful}
use Rattle.audit_flows.specs.Lines.{begins_request, Placed, is_of}
use Rattle.audit_flows.specs.{Endpoint, Opens, Transfer}
use Rattle.audit_flows.proofs.LinesLemmas.Lines.{by_test}
use Rattle.law_tap.specs.{tapped_at, TapDatagram, TapSides, AreApart, TapLabel, TapLabelled, TapDivision, tapped_of, CarriesPass, HasTapLabel, HaveTapLabels, IsLawfulBetween, BreaksNoTapRule, IsTapRefused}
use Rattle.law_tap.specs.TapDress as tap
use Rattle.law_tap.proofs.Beside.{view_is_tapped}
use Rattle.law_tap.proofs.TapLaw.{rules_are_runs}
use Rattle.law_tap.proofs.TapLawful.{parted}
use Rattle.audit_cleared.specs.{IsOpenedIn}
use Rattle.audit_views.specs.Views.{captured, server_header}
use Rattle.audit_views.specs.Parties.{host_name}
use Rattle.audit_recording.specs.Between.{passed_of, peer_of as side}
use Rattle.audit_cleared.proofs.Merged.{kept_first, left_first, Seat, both, own, aside, neither, sends, gets, IsStrayIn, AnswersOne, Answered, merged}

abbrev pub passed_all : List Placed → List TapDatagram
passed_all ps = map (λ p. passed_of p.datagram) ps

some_begins : (payload : List ℕ) → says_some Req payload → begins_request payload ≡ true
some_begins payload (Message.Request asked, spells, is) = request_begins payload asked spells
some_begins payload (Message.Oack options, spells, is) = absurd (cc)
some_begins payload (Message.Data k bytes, spells, is) = absurd (cc)
some_begins payload (Message.Ack j, spells, is) = absurd (cc)
some_begins payload (Message.Error code text, spells, is) = absurd (cc)

tapped_more : (division : TapDivision) (d : TapDatagram) (ds : List TapDatagram) → tapped_of division ≡ d ∷ ds → (p : TapLabelled) × (rest : TapDivision) × (division ≡ p ∷ rest) × (p.datagram ≡ d) × (tapped_of rest ≡ ds)
tapped_more [] d ds e = absurd (cc)
tapped_more (p ∷ rest) d ds e = (p, rest, refl, cc, cc)

module _ (x : Transfer) (server : Endpoint) (seen : Placed → Bool) (cap : Placed → Datagram) (client_apart : side x.client ≡ side server → ⊥) where
  abbrev s : TapSides
  s = record { client = side x.client; asked = side x.asked; server = side server; rollover = None }

  -- ---- what the client sent elsewhere, where nothing was refused

  -- a stray there is one to the client
  strays_back : (there : PeerId) (ps : List Placed) (division : TapDivision) → tapped_of division ≡ passed_all ps → HaveTapLabels s says_some division
      → Any (λ (p : TapLabelled). (p.label ≡ tap.Stray) × (p.datagram.source ≡ there) × (p.datagram.destination ≡ side x.client)) division → Any (IsStrayIn x server seen cap there) ps
  strays_back there [] [] is labels any = absurd (any_none (λ (p : TapLabelled). (p.label ≡ tap.Stray) × (p.datagram.source ≡ there) × (p.datagram.destination ≡ side x.client)) any)
  strays_back there [] (l ∷ rest) is labels any = absurd (cc)
  strays_back there (p ∷ ps) [] is labels any = absurd (cc)
  strays_back there (p ∷ ps) (l ∷ rest) is labels any =
      let this : l.datagram ≡ passed_of p.datagram = cc in
      let more : tapped_of rest ≡ passed_all ps = cc in
      elim (any_cases (λ (p : TapLabelled). (p.label ≡ tap.Stray) × (p.datagram.source ≡ there) × (p.datagram.destination ≡ side x.client)) l rest any) [
        | inl now ↦
            let astray : tap.PassesAstray s l.datagram = subst (HasTapLabel s says_some rest l.datagram) now.0 labels.0 in
            let source : side p.datagram.source ≡ l.datagram.source = ap (λ (d : TapDatagram). d.source) (sym this) in
            any_first (IsStrayIn x server seen cap there) p ps (record {
              from = source ∙ now.1;
              to = ap (λ (d : TapDatagram). d.destination) (sym this) ∙ now.2;
              not_client = λ same. astray.elsewhere Client (sym source ∙ same);
              not_server = λ same. astray.elsewhere Server (sym source ∙ same);
            })
        | inr before ↦ any_later (IsStrayIn x server seen cap there) p ps (strays_back there ps rest more labels.1 before)
      ]

  answers_one : (p : Placed) (qs : List Placed) (rest : TapDivision) → tapped_of rest ≡ passed_all (filter (is_of x.number) qs) → HaveTapLabels s says_some rest → (label : TapLabel)
      → HasTapLabel s says_some rest (passed_of p.datagram) label → p.datagram.source ≡ x.client → (side p.datagram.target ≡ side server → ⊥)
      → (begins_request p.datagram.payload ≡ true → p.datagram.target.port ≡ x.asked.port → ⊥) → AnswersOne x server seen cap p qs
  answers_one p qs rest is labels (tap.Main y) c source off asks_not = absurd (by y.from y.packet c) where
    by : (e : End) (q : MachinePacket) → CarriesPass s says_some rest (passed_of p.datagram) (record { from = e; packet = q }) → ⊥
    by Client Req c = asks_not (some_begins p.datagram.payload c.spells) (ap (λ (o : PeerId). o.port) c.goes)
    by Client _ c = off c.goes.0
    by Server q c = client_apart (ap side (sym source) ∙ c.source)
  answers_one p qs rest is labels tap.Stray c source off asks_not = absurd (c.elsewhere Client (ap side source))
  answers_one p qs rest is labels tap.StrayAnswer c source off asks_not = record {
    text = c.spells.0;
    spells = c.spells.1;
    strayed = strays_back (side p.datagram.target) (filter (is_of x.number) qs) rest is labels
        (subst (λ from. Any (λ (q : TapLabelled). (q.label ≡ tap.Stray) × (q.datagram.source ≡ side p.datagram.target) × (q.datagram.destination ≡ from)) rest) (ap side source) c.there);
  }

  answers_seat : (p : Placed) (qs : List Placed) → Seat x server seen cap p → (rest : TapDivision) → tapped_of rest ≡ passed_all (filter (is_of x.number) qs) → HaveTapLabels s says_some rest → (label : TapLabel)
      → HasTapLabel s says_some rest (passed_of p.datagram) label → is_of x.number p ≡ true → seen p ≡ false → p.datagram.source ≡ x.client → AnswersOne x server seen cap p qs
  answers_seat p qs (both a b at) rest is labels label has of off source = absurd (true≢false (sym b ∙ off))
  answers_seat p qs (own a b (sends from there asks_not)) rest is labels label has of off source = answers_one p qs rest is labels label has source there asks_not
  answers_seat p qs (own a b (gets to there other)) rest is labels label has of off source = absurd (other (ap side source))
  answers_seat p qs (aside a b at) rest is labels label has of off source = absurd (false≢true (sym a ∙ of))
  answers_seat p qs (neither a b) rest is labels label has of off source = absurd (false≢true (sym a ∙ of))

  answered : (qs : List Placed) → AllByRecursion (Seat x server seen cap) qs → (division : TapDivision) → tapped_of division ≡ passed_all (filter (is_of x.number) qs) → HaveTapLabels s says_some division → Answered x server seen cap qs
  answered [] seats division is labels = tt
  answered (p ∷ qs) seats division is labels = by_test (is_of x.number p)
      (λ of. let (l, rest, same, this, more) = tapped_more division (passed_of p.datagram) (passed_all (filter (is_of x.number) qs)) (is ∙ ap passed_all (kept_first (is_of x.number) p qs of)) in
      let all = subst (HaveTapLabels s says_some) same labels in
      (answers_seat p qs seats.0 rest more all.1 l.label (subst (λ d. HasTapLabel s says_some rest d l.label) this all.0), answered qs seats.1 rest more all.1))
      (λ off. (λ of. absurd (false≢true (sym off ∙ of)), answered qs seats.1 division (is ∙ ap passed_all (left_first (is_of x.number) p qs off)) labels))

  -- ---- the client is the peer

  pub record Opening (p : Placed) : Type 0 where
    pub sees : seen p ≡ true
    pub source : p.datagram.source ≡ x.client
    pub target : p.datagram.target ≡ x.asked
    pub begins : begins_request p.datagram.payload ≡ true
    pub way : cap p ≡ captured host_name In p.datagram

  abbrev pub IsSeenOpening : Placed → Type 0
  IsSeenOpening p = p.place ≡ Opens x → Opening p

  module _ (m : Meaning) (wire : List ℕ) (ids : TransferIds) where
    abbrev Labels : Division → Type 0
    Labels division = HaveLabelsBy (server_header x) (says_of m wire) ids division

    -- a request at the service port is no stray
    opening_peer : (p : Placed) (o : Opening p) (rest : Division) (label : Label) → HasLabelBy (server_header x) (says_of m wire) ids rest (captured host_name In p.datagram) label → ids.peer ≡ side x.client
    opening_peer p o rest (Main (Took q)) has = sym has.client ∙ ap side o.source
    opening_peer p o rest (Main (Sent q)) has = let both : In ≡ Out = has.dir in absurd (cc)
    opening_peer p o rest Stray has = absurd (has.no_request refl (sym has.here ∙ ap (λ (e : Endpoint). e.port) o.target) (byte_begins p.datagram.payload o.begins))
    opening_peer p o rest StrayAnswer has = let both : In ≡ Out = has.dir in absurd (cc)

    peer_is : (qs : List Placed) → AllByRecursion IsSeenOpening qs → IsOpenedIn x qs → (division : Division) → datagrams_of division ≡ map cap (filter seen qs) → Labels division → ids.peer ≡ side x.client
    peer_is [] openings is division same labels = absurd (any_none (λ (p : Placed). p.place ≡ Opens x) is)
    peer_is (p ∷ qs) openings is division same labels = elim (any_cases (λ (q : Placed). q.place ≡ Opens x) p qs is) [
      | inl now ↦
          let o = openings.0 now in
          let (l, rest, this, at, more) = divided_more division (cap p) (map cap (filter seen qs)) (same ∙ ap (map cap) (kept_first seen p qs o.sees)) in
          let all = subst Labels this labels in
          opening_peer p o rest l.label (subst (λ d. HasLabelBy (server_header x) (says_of m wire) ids rest d l.label) (at ∙ o.way) all.0)
      | inr before ↦ by_test (seen p)
          (λ sees. let (l, rest, this, at, more) = divided_more division (cap p) (map cap (filter seen qs)) (same ∙ ap (map cap) (kept_first seen p qs sees)) in
          peer_is qs openings.1 before rest more (subst Labels this labels).1)
          (λ off. peer_is qs openings.1 before division (same ∙ ap (map cap) (left_first seen p qs off)) labels)
    ]

  -- ---- so it is lawful there

  module _ (asked_apart : side x.client ≡ side x.asked → ⊥) where
    apart : AreApart s
    apart = record { server = client_apart; asked = asked_apart }

    module _ (qs : List Placed) (seats : AllByRecursion (Seat x server seen cap) qs) (openings : AllByRecursion IsSeenOpening qs) (opened : IsOpenedIn x qs) where
      seen_there : Answered x server seen cap qs → IsLawful (server_header x) (reverse (map cap (filter seen qs))) → IsLawfulBetween s (passed_all (filter (is_of x.number) qs))
      seen_there answers (m, wire, shown) =
          let division = shown.dressed.division in
          let same : datagrams_of shown.dressed.division ≡ map cap (filter seen qs) = shown.dressed.whole ∙ reverse-reverse (map cap (filter seen qs)) in
          let peer = peer_is m wire shown.dressed.ids qs openings opened shown.dressed.division same shown.dressed.labels in
          let r = merged x server seen cap m wire shown.dressed.ids peer client_apart qs seats answers shown.dressed.division same shown.dressed.labels in (
            m,
            wire,
            record {
              fits = shown.fits;
              passed = tapped_at Server shown.view;
              view = view_is_tapped m wire Server shown.view shown.run;
              dressed = record { division = r.there; whole = r.whole; main = r.main ∙ ap (tapped_at Server) shown.dressed.main; labels = r.labels };
            },
          )

      pub server_breaks_none : Answered x server seen cap qs → OneEnded (server_header x) (map cap (filter seen qs)) → BreaksNoTapRule s (passed_all (filter (is_of x.number) qs))
      server_breaks_none answers one = (rules_are_runs s apart (passed_all (filter (is_of x.number) qs))).0
          (seen_there answers ((lawful (server_header x) (reverse (map cap (filter seen qs)))).1 (subst (OneEnded (server_header x)) (sym (reverse-reverse (map cap (filter seen qs)))) one)))

    -- and what the server saw is not refused first
    pub not_refused : (p : Placed) (older : List Placed) → AllByRecursion (Seat x server seen cap) (p ∷ older) → AllByRecursion IsSeenOpening (p ∷ older) → IsOpenedIn x (p ∷ older) → is_of x.number p ≡ true → seen p ≡ true
        → OneEnded (server_header x) (map cap (filter seen (p ∷ older))) → (rule : Rule) → IsTapRefused s (passed_all (filter (is_of x.number) older)) (passed_of p.datagram) rule → ⊥
    not_refused p older seats openings opened of sees one rule refused =
        let d = parted s apart (passed_all (filter (is_of x.number) older)) refused.lawful in
        let before : Answered x server seen cap older = answered older seats.1 d.division d.whole d.labels in
        let answers : Answered x server seen cap (p ∷ older) = (λ is off. absurd (true≢false (sym sees ∙ off)), before) in
        let all = subst (λ l. BreaksNoTapRule s (passed_all l)) (kept_first (is_of x.number) p older of) (server_breaks_none (p ∷ older) seats openings opened answers one) in
        all.0.lawful rule refused.refused.breaks

    -- what the client sent to none but the server needs no answer
    pub none_sent : (qs : List Placed) → AllByRecursion (λ p. is_of x.number p ≡ true → p.datagram.source ≡ x.client → seen p ≡ true) qs → Answered x server seen cap qs
    none_sent [] all = tt
    none_sent (p ∷ qs) all = (λ of off source. absurd (true≢false (sym (all.0 of source) ∙ off)), none_sent qs all.1)
