-- What was recorded at an end passes beside it, and so what is certain between the ends is certain there.
use Rattle.std.proofs.Common.{◌≡◌, ◌⊎◌, ℕ, true, false, List, [], ◌∷◌, ◌++◌, Any, Contains, Some, None, map, length, reverse, inl, inr, refl, sym, subst, ap, ◌∙◌, ◌&&◌, ◌==◌}
use Rattle.std.proofs.lemmas.Bool.{true≢false, cases_Bool, and_parts}
use Rattle.tftp_packet.specs.{RequestParts, Spells, End, Client, Server, Dir, In, Out}
use Rattle.tftp_packet.specs.Hosts.{Datagram, Header, peer_of}
use Rattle.law_model.specs.Model.{Meaning, MachinePacket, Req, Oack, Data, Ack, Error, Deed, Sent, Took, History, IsView, IsOneSided, MayCome, MaySend, message_of, request_of}
use Rattle.law_model.specs.Rules.{asks, begins_request, is_from_client, is_of_transfer, port_of_server, route_of, transfer_of}
use Rattle.law_model.proofs.ModelLemmas.Members.{contains_first, contains_cases}
use Rattle.law_model.proofs.ModelLemmas.OneSided.{view_one_sided}
use Rattle.law_end.specs.{Carries, Division, FirstAsked, Fits, GoesToServer, HasClientId, HasLabel, HasServerId, HaveLabels, IsLawful, IsMain, Label, Labelled, Main, OneEnded, Stray, TransferIds, datagrams_of, dir_of, from_server, packet_of, says_of, server_port, view_in}
use Rattle.law_end.specs.Dress.{StrayAnswer}
use Rattle.law_end.proofs.FirstBroken.FirstAnswered.{main_none, main_some}
use Rattle.law_end.proofs.FirstBroken.FirstRequests.{first_passes}
use Rattle.law_end.proofs.Division.Divided.{any_none, any_cases, any_first, any_later, view_main}
use Rattle.law_end.proofs.Division.Placing.{MainGoing, one, stray_there}
use Rattle.law_end.proofs.Division.RouteTests.{other_begins, request_begins}
use Rattle.law_tap.specs.Losses.{IsCertain, IsLawfulWithLosses, Loses, nothing, kept, lost}
use Rattle.law_tap.specs.LossesBetween.{IsCertainBetween, IsLawfulBetweenWithLosses}
use Rattle.law_tap.specs.Tap.{pass_of, tapped_at}
use Rattle.law_tap.specs.TapCapture.{TapDatagram, TapSides}
use Rattle.law_tap.specs.TapDress.{CarriesPass, GoesThere, HaveTapLabels, IsLawfulBetween, IsMainFrom, TapDivision, TapLabel, TapLabelled, passed_of, tapped_of}
use Rattle.law_tap.specs.TapDress as tap
use Rattle.law_tap.specs.BesideEnd.{AreSidesOf, beside, own_side, side_at}
use Rattle.law_tap.specs.StandingAtEnd.{GoesOnWith, KnowsOtherEnd}
use Rattle.law_tap.proofs.Beside.{view_is_tapped}
use Rattle.law_tap.proofs.EndKnown.{first_there, transfer_main}
use Rattle.law_tap.proofs.EndRoutes.{AskedFirst, asked_first, sent_there, transfer_there, with_more, with_this}
use Rattle.law_tap.proofs.EndStands.{before, certain, in_fuller, no_unknown_id}
use Rattle.law_tap.proofs.EndStood.{WasIn, asked_main, server_id, was_in}
use Rattle.law_tap.proofs.Left.{left_was_there}

-- ---- the main datagrams of a division, as they pass beside the end

abbrev as_pass : End → List ℕ → Datagram → Label → TapDivision → TapDivision
as_pass e own d (Main deed) rest = record { datagram = beside own d; label = tap.Main (pass_of e deed) } ∷ rest
as_pass e own d Stray rest = rest
as_pass e own d StrayAnswer rest = rest

abbrev passing : End → List ℕ → Division → TapDivision
passing e own [] = []
passing e own (p ∷ rest) = as_pass e own p.datagram p.label (passing e own rest)

passed_step : (e : End) (own : List ℕ) (d : Datagram) (label : Label) (rest : Division) → passed_of (passing e own rest) ≡ tapped_at e (view_in rest) → passed_of (passing e own (one d label rest)) ≡ tapped_at e (view_in (one d label rest))
passed_step e own d (Main deed) rest more = ap (λ l. pass_of e deed ∷ l) more
passed_step e own d Stray rest more = more
passed_step e own d StrayAnswer rest more = more

passed_are : (e : End) (own : List ℕ) (division : Division) → passed_of (passing e own division) ≡ tapped_at e (view_in division)
passed_are e own [] = refl
passed_are e own (p ∷ rest) = passed_step e own p.datagram p.label rest (passed_are e own rest)

-- ---- who sent what

-- a main datagram of the server's side, as it passes
abbrev FromServer : TapDivision → Type 0
FromServer division = Any (λ (q : TapLabelled). IsMainFrom Server q.label) division

server_sent : (e : End) (deed : Deed) → dir_of deed ≡ from_server e → (p : MachinePacket) × (pass_of e deed ≡ record { from = Server; packet = p })
server_sent Client (Took p) way = (p, refl)
server_sent Client (Sent p) way = absurd (cc)
server_sent Server (Sent p) way = (p, refl)
server_sent Server (Took p) way = absurd (cc)

module _ (h : Header) (m : Meaning) (wire : List ℕ) (ids : TransferIds) (own : List ℕ) where
  later_from : (d : Datagram) (label : Label) (rest : TapDivision) → FromServer rest → FromServer (as_pass h.named own d label rest)
  later_from d (Main deed) rest any = any_later (λ (q : TapLabelled). IsMainFrom Server q.label) (record { datagram = beside own d; label = tap.Main (pass_of h.named deed) }) rest any
  later_from d Stray rest any = any
  later_from d StrayAnswer rest any = any

  this_from : (d : Datagram) (label : Label) (before : Division) (rest : TapDivision) → HasLabel h m wire ids before d label → IsMain label → d.dir ≡ from_server h.named → FromServer (as_pass h.named own d label rest)
  this_from d label before rest has (deed, is) way = subst (λ l. FromServer (as_pass h.named own d l rest)) (sym is)
      (let c = subst (HasLabel h m wire ids before d) is has in
      let (p, from) = server_sent h.named deed (sym c.dir ∙ way) in
      any_first (λ (q : TapLabelled). IsMainFrom Server q.label) (record { datagram = beside own d; label = tap.Main (pass_of h.named deed) }) rest (p, ap tap.Main from))

  main_from : (division : Division) → HaveLabels h m wire ids division → Any (MainGoing (from_server h.named)) division → FromServer (passing h.named own division)
  main_from [] labels any = absurd (any_none (MainGoing (from_server h.named)) any)
  main_from (p ∷ rest) labels any = elim (any_cases (MainGoing (from_server h.named)) p rest any) [
    | inl now ↦ this_from p.datagram p.label rest (passing h.named own rest) labels.0 now.0 now.1
    | inr past ↦ later_from p.datagram p.label (passing h.named own rest) (main_from rest labels.1 past)
  ]

  -- what has the way of the server's side has a main one before it, or is one
  going_main : (division : Division) → HaveLabels h m wire ids division → Any (λ (p : Labelled). p.datagram.dir ≡ from_server h.named) division → Any (MainGoing (from_server h.named)) division
  going_main [] labels any = absurd (any_none (λ (p : Labelled). p.datagram.dir ≡ from_server h.named) any)
  going_main (p ∷ rest) labels any = elim (any_cases (λ (q : Labelled). q.datagram.dir ≡ from_server h.named) p rest any) [
    | inr past ↦ any_later (MainGoing (from_server h.named)) p rest (going_main rest labels.1 past)
    | inl now ↦ by p.label refl labels.0 now
  ]
    where
      by : (label : Label) → p.label ≡ label → HasLabel h m wire ids rest p.datagram label → p.datagram.dir ≡ from_server h.named → Any (MainGoing (from_server h.named)) (p ∷ rest)
      by (Main deed) is has way = any_first (MainGoing (from_server h.named)) p rest ((deed, is), way)
      by Stray is has way = any_later (MainGoing (from_server h.named)) p rest has.after
      by StrayAnswer is has way = any_later (MainGoing (from_server h.named)) p rest (stray_there h (says_of m wire) ids rest labels.1 (peer_of p.datagram) has.there).0

  -- ---- a main datagram carries its pass

  module _ (s : TapSides)
      (client_is : (x : Datagram) → HasClientId h.named ids x → side_at h.named own x Client ≡ s.client)
      (server_is : (x : Datagram) → HasServerId h.named ids x → side_at h.named own x Server ≡ s.server)
      (asked_is : (x : Datagram) → server_port h.named x ≡ h.service → (h.named ≡ Client → x.host ≡ ids.asked) → side_at h.named own x Server ≡ s.asked) where
    no_request_comes : (p : MachinePacket) → h.named ≡ Client → (v : History) → MayCome m wire h.named v p → p ≡ Req → ⊥
    no_request_comes Req named v may is = let both : Client ≡ Server = sym named ∙ may in absurd (cc)
    no_request_comes Oack named v may is = absurd (cc)
    no_request_comes (Data k) named v may is = absurd (cc)
    no_request_comes (Ack j) named v may is = absurd (cc)
    no_request_comes (Error code text) named v may is = absurd (cc)

    no_request_goes : (p : MachinePacket) → h.named ≡ Server → (v : History) → MaySend m wire h.named v p → p ≡ Req → ⊥
    no_request_goes Req named v may is = let both : Server ≡ Client = sym named ∙ may.client in absurd (cc)
    no_request_goes Oack named v may is = absurd (cc)
    no_request_goes (Data k) named v may is = absurd (cc)
    no_request_goes (Ack j) named v may is = absurd (cc)
    no_request_goes (Error code text) named v may is = absurd (cc)

    -- what goes out and what comes in
    goes_out : (d : Datagram) → d.dir ≡ Out → ((beside own d).source ≡ own_side own d) × ((beside own d).destination ≡ peer_of d)
    goes_out d out = rw out (refl, refl)

    comes_in : (d : Datagram) → d.dir ≡ In → ((beside own d).source ≡ peer_of d) × ((beside own d).destination ≡ own_side own d)
    comes_in d is = rw is (refl, refl)

    same_payload : (d : Datagram) → (beside own d).payload ≡ d.payload
    same_payload d = by d.dir refl where
      by : (dir : Dir) → d.dir ≡ dir → (beside own d).payload ≡ d.payload
      by Out is = rw is refl
      by In is = rw is refl

    module _ (rest : Division) (labels : HaveLabels h m wire ids rest) (d : Datagram) where
      -- something had come from the server
      answered : (p : MachinePacket) → (p ≡ Req → ⊥) → GoesToServer h ids rest d p → (d.dir ≡ from_server h.named → ⊥) → FromServer (passing h.named own rest)
      answered p other goes not_so = by p other goes where
        any : HasServerId h.named ids d × ((d.dir ≡ from_server h.named) ⊎ Any (λ (q : Labelled). q.datagram.dir ≡ from_server h.named) rest) → FromServer (passing h.named own rest)
        any g = elim g.1 [ inl way ↦ absurd (not_so way) | inr some ↦ main_from rest labels (going_main rest labels some) ]

        by : (p : MachinePacket) → (p ≡ Req → ⊥) → GoesToServer h ids rest d p → FromServer (passing h.named own rest)
        by Req other goes = absurd (other refl)
        by Oack other goes = any goes
        by (Data k) other goes = any goes
        by (Ack j) other goes = any goes
        by (Error code text) other goes = any goes

      -- of the client
      to_server : (p : MachinePacket) → GoesToServer h ids rest d p → (d.dir ≡ from_server h.named → ⊥) → (beside own d).destination ≡ side_at h.named own d Server → GoesThere s (passing h.named own rest) (beside own d) Client p
      to_server Req goes not_so there = there ∙ asked_is d goes.0 goes.1
      to_server Oack goes not_so there = (there ∙ server_is d goes.0, answered Oack (λ r. cc) goes not_so)
      to_server (Data k) goes not_so there = (there ∙ server_is d goes.0, answered (Data k) (λ r. cc) goes not_so)
      to_server (Ack j) goes not_so there = (there ∙ server_is d goes.0, answered (Ack j) (λ r. cc) goes not_so)
      to_server (Error code text) goes not_so there = (there ∙ server_is d goes.0, answered (Error code text) (λ r. cc) goes not_so)

      spells_so : (p : MachinePacket) → says_of m wire p d.payload → says_of m wire p (beside own d).payload
      spells_so p says = subst (λ l. Spells l (message_of m wire p)) (sym (same_payload d)) says

      by_end : (end : End) → h.named ≡ end → (deed : Deed) → IsOneSided m wire h.named (deed ∷ view_in rest) → Carries h (says_of m wire) ids rest d deed → CarriesPass s (says_of m wire) (passing h.named own rest) (beside own d) (pass_of h.named deed)
      by_end Client named (Sent p) may c = subst (λ x. CarriesPass s (says_of m wire) (passing h.named own rest) (beside own d) (pass_of x (Sent p))) (sym named) (record {
        source = (goes_out d c.dir).0 ∙ sym (ap (λ x. side_at x own d Client) named) ∙ client_is d c.client;
        goes = to_server p c.server (λ way. let both : Out ≡ In = sym c.dir ∙ way ∙ ap from_server named in absurd (cc)) ((goes_out d c.dir).1 ∙ sym (ap (λ x. side_at x own d Server) named));
        spells = spells_so p c.spells;
      })
      by_end Client named (Took p) may c = subst (λ x. CarriesPass s (says_of m wire) (passing h.named own rest) (beside own d) (pass_of x (Took p))) (sym named) (record {
        source = (comes_in d c.dir).0 ∙ sym (ap (λ x. side_at x own d Server) named) ∙ server_is d (server_id h m wire ids rest d p c.server (no_request_comes p named (view_in rest) may.0));
        goes = (comes_in d c.dir).1 ∙ sym (ap (λ x. side_at x own d Client) named) ∙ client_is d c.client;
        spells = spells_so p c.spells;
      })
      by_end Server named (Sent p) may c = subst (λ x. CarriesPass s (says_of m wire) (passing h.named own rest) (beside own d) (pass_of x (Sent p))) (sym named) (record {
        source = (goes_out d c.dir).0 ∙ sym (ap (λ x. side_at x own d Server) named) ∙ server_is d (server_id h m wire ids rest d p c.server (no_request_goes p named (view_in rest) may.0));
        goes = (goes_out d c.dir).1 ∙ sym (ap (λ x. side_at x own d Client) named) ∙ client_is d c.client;
        spells = spells_so p c.spells;
      })
      by_end Server named (Took p) may c = subst (λ x. CarriesPass s (says_of m wire) (passing h.named own rest) (beside own d) (pass_of x (Took p))) (sym named) (record {
        source = (comes_in d c.dir).0 ∙ sym (ap (λ x. side_at x own d Client) named) ∙ client_is d c.client;
        goes = to_server p c.server (λ way. let both : In ≡ Out = sym c.dir ∙ way ∙ ap from_server named in absurd (cc)) ((comes_in d c.dir).1 ∙ sym (ap (λ x. side_at x own d Server) named));
        spells = spells_so p c.spells;
      })

    -- the division beside the end has its labels
    label_step : (d : Datagram) (label : Label) (rest : Division) → HaveLabels h m wire ids rest → HasLabel h m wire ids rest d label → IsOneSided m wire h.named (view_in (one d label rest))
        → HaveTapLabels s (says_of m wire) (passing h.named own rest) → HaveTapLabels s (says_of m wire) (as_pass h.named own d label (passing h.named own rest))
    label_step d (Main deed) rest labels has own_so more = (by_end rest labels d h.named refl deed own_so has, more)
    label_step d Stray rest labels has own_so more = more
    label_step d StrayAnswer rest labels has own_so more = more

    one_sided_before : (d : Datagram) (label : Label) (rest : Division) → IsOneSided m wire h.named (view_in (one d label rest)) → IsOneSided m wire h.named (view_in rest)
    one_sided_before d (Main deed) rest own_so = before h m wire rest deed own_so
    one_sided_before d Stray rest own_so = own_so
    one_sided_before d StrayAnswer rest own_so = own_so

    labels_are : (division : Division) → HaveLabels h m wire ids division → IsOneSided m wire h.named (view_in division) → HaveTapLabels s (says_of m wire) (passing h.named own division)
    labels_are [] labels own_so = tt
    labels_are (p ∷ rest) labels own_so = label_step p.datagram p.label rest labels.1 labels.0 own_so (labels_are rest labels.1 (one_sided_before p.datagram p.label rest own_so))

    -- so it is lawful between
    lawful_beside : Fits s.rollover m wire → (division : Division) → HaveLabels h m wire ids division → IsView m wire h.named (view_in division) → IsLawfulBetween s (tapped_of (passing h.named own division))
    lawful_beside fits division labels view = (
      m,
      wire,
      record {
        fits = fits;
        passed = tapped_at h.named (view_in division);
        view = view_is_tapped m wire h.named (view_in division) view;
        dressed = record {
          division = passing h.named own division;
          whole = refl;
          main = passed_are h.named own division;
          labels = labels_are division labels (view_one_sided m wire h.named (view_in division) view);
        };
      },
    )

-- ---- what is left of it

module _ {X Y : Type 0} (f : X → Y) where
  maps_left : (all seen : List X) → Loses X all seen → Loses Y (map f all) (map f seen)
  maps_left _ _ nothing = nothing
  maps_left _ _ (kept x all seen l) = kept (f x) (map f all) (map f seen) (maps_left all seen l)
  maps_left _ seen (lost x all seen' l) = lost (f x) (map f all) (map f seen') (maps_left all seen' l)

module _ (h : Header) (m : Meaning) (wire : List ℕ) (ids : TransferIds) (own : List ℕ) (full : List Datagram)
    (main : (x : Datagram) → Contains (transfer_of h full) x → (within : Division) (w : WasIn h m wire ids within x) → IsMain w.label) where
  abbrev besides : Division → List TapDatagram
  besides division = tapped_of (passing h.named own division)

  -- a datagram of the fuller list that was not recorded
  drops : (d : Datagram) (label : Label) (rest : Division) (l : List TapDatagram) → Loses TapDatagram (besides rest) l → Loses TapDatagram (besides (one d label rest)) l
  drops d (Main deed) rest l left = lost (beside own d) (besides rest) l left
  drops d Stray rest l left = left
  drops d StrayAnswer rest l left = left

  keeps : (d : Datagram) (label : Label) (rest : Division) (l : List TapDatagram) → IsMain label → Loses TapDatagram (besides rest) l → Loses TapDatagram (besides (one d label rest)) (beside own d ∷ l)
  keeps d label rest l (deed, is) left = subst (λ x. Loses TapDatagram (besides (one d x rest)) (beside own d ∷ l)) (sym is) (kept (beside own d) (besides rest) l left)

  one_more : (x : Datagram) (seen : List Datagram) → ((y : Datagram) → Contains (transfer_of h (x ∷ seen)) y → Contains (transfer_of h full) y) → (p : Labelled) (division : Division) → p.datagram ≡ x
      → HaveLabels h m wire ids (p ∷ division) → Loses TapDatagram (besides division) (map (beside own) (transfer_of h seen)) → Loses TapDatagram (besides (p ∷ division)) (map (beside own) (transfer_of h (x ∷ seen)))
  one_more x seen there p division head labels rest = elim (cases_Bool (is_of_transfer (route_of h seen x))) [
    | inl goes ↦
        subst (λ t. Loses TapDatagram (besides (p ∷ division)) (map (beside own) t)) (sym (main_some (is_of_transfer (route_of h seen x)) x (transfer_of h seen) goes))
        (subst (λ y. Loses TapDatagram (besides (p ∷ division)) (beside own y ∷ map (beside own) (transfer_of h seen))) head
        (keeps p.datagram p.label division (map (beside own) (transfer_of h seen)) (main p.datagram (subst (Contains (transfer_of h full)) (sym head) (there x (with_this h x seen goes))) (p ∷ division) this) rest))
    | inr off ↦
        subst (λ t. Loses TapDatagram (besides (p ∷ division)) (map (beside own) t)) (sym (main_none (is_of_transfer (route_of h seen x)) x (transfer_of h seen) off))
        (drops p.datagram p.label division (map (beside own) (transfer_of h seen)) rest)
  ]
    where
      this : WasIn h m wire ids (p ∷ division) p.datagram
      this = record {
        label = p.label;
        before = division;
        has = labels.0;
        labels = labels.1;
        done = λ deed is. subst (λ v. Contains v deed) (sym (view_main p deed division is)) (contains_first deed (view_in division));
      }

  -- each list that the full one ends in
  transfer_left : (seen : List Datagram) → ((x : Datagram) → Contains (transfer_of h seen) x → Contains (transfer_of h full) x) → (all : List Datagram) → Loses Datagram all seen
      → (division : Division) → datagrams_of division ≡ all → HaveLabels h m wire ids division → Loses TapDatagram (besides division) (map (beside own) (transfer_of h seen))
  transfer_left _ there _ nothing [] e labels = nothing
  transfer_left _ there _ nothing (p ∷ division) e labels = absurd (cc)
  transfer_left _ there _ (kept x all seen l) [] e labels = absurd (cc)
  transfer_left _ there _ (lost x all seen l) [] e labels = absurd (cc)
  transfer_left seen there _ (lost x all seen' l) (p ∷ division) e labels =
      let tail : datagrams_of division ≡ all = cc in
      drops p.datagram p.label division (map (beside own) (transfer_of h seen)) (transfer_left seen there all l division tail labels.1)
  transfer_left _ there _ (kept x all seen l) (p ∷ division) e labels =
      let tail : datagrams_of division ≡ all = cc in
      let head : p.datagram ≡ x = cc in
      one_more x seen there p division head labels (transfer_left seen (λ y at. there y (with_more h x seen y at)) all l division tail labels.1)

-- ---- the sides that were seen are those of the fuller list

module _ (h : Header) (m : Meaning) (wire : List ℕ) (ids : TransferIds) (own : List ℕ) where
  clients : (e : End) (x y : Datagram) → HasClientId e ids x → HasClientId e ids y → side_at e own x Client ≡ side_at e own y Client
  clients Client x y one other = ap (λ (port : ℕ). record { host = own; port = port }) (one ∙ sym other)
  clients Server x y one other = one ∙ sym other

  servers : (e : End) (x y : Datagram) → HasServerId e ids x → HasServerId e ids y → side_at e own x Server ≡ side_at e own y Server
  servers Client x y one other = one ∙ sym other
  servers Server x y one other = ap (λ (port : ℕ). record { host = own; port = port }) (one ∙ sym other)

  asked_sides : (e : End) → h.named ≡ e → (x y : Datagram) → server_port e x ≡ h.service → (h.named ≡ Client → x.host ≡ ids.asked) → server_port e y ≡ h.service → (h.named ≡ Client → y.host ≡ ids.asked)
      → side_at e own x Server ≡ side_at e own y Server
  asked_sides Client named x y one its other their = ap (λ (host : List ℕ). record { host = host; port = x.remote }) (its named ∙ sym (their named)) ∙ ap (λ (port : ℕ). record { host = y.host; port = port }) (one ∙ sym other)
  asked_sides Server named x y one its other their = ap (λ (port : ℕ). record { host = own; port = port }) (one ∙ sym other)

  -- what begins as a request is one, and nothing else is
  is_request : (d : Datagram) (p : MachinePacket) → Spells d.payload (message_of m wire p) → begins_request d ≡ true → p ≡ Req
  is_request d Req says begins = refl
  is_request d Oack says begins = absurd (true≢false (sym begins ∙ other_begins m wire d.payload Oack (λ r. cc) says))
  is_request d (Data k) says begins = absurd (true≢false (sym begins ∙ other_begins m wire d.payload (Data k) (λ r. cc) says))
  is_request d (Ack j) says begins = absurd (true≢false (sym begins ∙ other_begins m wire d.payload (Ack j) (λ r. cc) says))
  is_request d (Error code text) says begins = absurd (true≢false (sym begins ∙ other_begins m wire d.payload (Error code text) (λ r. cc) says))

  not_request : (d : Datagram) (p : MachinePacket) → Spells d.payload (message_of m wire p) → begins_request d ≡ false → p ≡ Req → ⊥
  not_request d p says plain is = true≢false (sym (request_begins d.payload (request_of m) (subst (λ q. Spells d.payload (message_of m wire q)) is says)) ∙ plain)

  module _ (s : TapSides) (seen : List Datagram) (sides : AreSidesOf h own seen s) (division : Division) (labels : HaveLabels h m wire ids division) (left : Loses Datagram (datagrams_of division) seen)
      (main : (x : Datagram) → Contains (transfer_of h seen) x → (within : Division) (w : WasIn h m wire ids within x) → IsMain w.label) where
    found : (x : Datagram) → Contains seen x → WasIn h m wire ids division x
    found x at = was_in h m wire ids division labels x (left_was_there (datagrams_of division) seen x left at)

    request_in : WasIn h m wire ids division sides.request
    request_in = found sides.request (first_there (asks h) seen sides.request sides.first)

    request_asks : asks h sides.request ≡ true
    request_asks = first_passes (asks h) seen sides.request sides.first

    request_main : IsMain request_in.label
    request_main = asked_main h m wire ids request_in.before sides.request request_in.label request_in.has request_asks

    request_carries : Carries h (says_of m wire) ids request_in.before sides.request request_main.0
    request_carries = subst (HasLabel h m wire ids request_in.before sides.request) request_main.1 request_in.has

    request_goes : (server_port h.named sides.request ≡ h.service) × (h.named ≡ Client → sides.request.host ≡ ids.asked)
    request_goes =
        let begins = (and_parts (is_from_client h.named sides.request) (begins_request sides.request) (and_parts (is_from_client h.named sides.request && begins_request sides.request) (port_of_server h.named sides.request == h.service) request_asks).0).1 in
        subst (GoesToServer h ids request_in.before sides.request) (is_request sides.request (packet_of request_main.0) request_carries.spells begins) request_carries.server

    other_in : WasIn h m wire ids division sides.other
    other_in = found sides.other (transfer_there h seen sides.other sides.goes)

    other_main : IsMain other_in.label
    other_main = main sides.other sides.goes division other_in

    other_carries : Carries h (says_of m wire) ids other_in.before sides.other other_main.0
    other_carries = subst (HasLabel h m wire ids other_in.before sides.other) other_main.1 other_in.has

    other_server : HasServerId h.named ids sides.other
    other_server = server_id h m wire ids other_in.before sides.other (packet_of other_main.0) other_carries.server (not_request sides.other (packet_of other_main.0) other_carries.spells sides.plain)

    fuller_between : Fits h.rollover m wire → IsView m wire h.named (view_in division) → IsLawfulBetween s (tapped_of (passing h.named own division))
    fuller_between fits view = lawful_beside h m wire ids own s
        (λ x has. clients h.named x sides.request has request_carries.client ∙ sides.client)
        (λ x has. servers h.named x sides.other has other_server ∙ sides.server)
        (λ x port host. asked_sides h.named refl x sides.request port host request_goes.0 request_goes.1 ∙ sides.asked)
        (subst (λ r. Fits r m wire) (sym sides.rollover) fits) division labels view

-- ---- the law

module _ (h : Header) (own : List ℕ) (s : TapSides) (later earlier : List Datagram) (d : Datagram) (asked : RequestParts) (lawful : OneEnded h earlier) (first : FirstAsked h earlier asked)
    (goes : is_of_transfer (route_of h earlier d) ≡ true) (known : KnowsOtherEnd h (d ∷ earlier)) (sides : AreSidesOf h own (d ∷ earlier) s) where
  begun : AskedFirst h (d ∷ earlier)
  begun = (λ none is. let both : None ≡ Some first.0 = sym none ∙ first.1 in absurd (cc), asked_first h earlier lawful)

  gone : (x : Datagram) → Contains (d ∷ earlier) x → GoesOnWith x → Contains (transfer_of h (d ∷ earlier)) x
  gone x at on = elim (contains_cases d earlier x at) [
    | inl now ↦ subst (Contains (transfer_of h (d ∷ earlier))) now (with_this h d earlier goes)
    | inr past ↦ with_more h d earlier x (sent_there h earlier lawful x past on.out (no_unknown_id x on.message on.says on.alone))
  ]

  -- what was recorded at the end is lawful with losses between, if it is at the end
  pub passes_lossy : IsLawfulWithLosses h (reverse (d ∷ earlier)) → IsLawfulBetweenWithLosses s (map (beside own) (transfer_of h (d ∷ earlier)))
  passes_lossy lossy = by lossy.lawful where
    by : IsLawful h lossy.all → IsLawfulBetweenWithLosses s (map (beside own) (transfer_of h (d ∷ earlier)))
    by (m, wire, seen) =
        let st = in_fuller h later earlier d lossy m wire seen in
        let ids = seen.dressed.ids in
        let all : Division = one d st.label st.rest in
        let left : Loses Datagram (datagrams_of all) (d ∷ earlier) = kept d (datagrams_of st.rest) earlier st.left in
        let labels : HaveLabels h m wire ids all = (st.has, st.labels) in
        let main = transfer_main h m wire ids all labels (d ∷ earlier) left begun gone known in
        record {
          all = tapped_of (passing h.named own all);
          lawful = fuller_between h m wire ids own s (d ∷ earlier) sides all labels left main seen.fits st.view;
          left = transfer_left h m wire ids own (d ∷ earlier) main (d ∷ earlier) (λ x at. at) (datagrams_of all) left all refl labels;
        }

  pub certain_beside : IsCertainBetween s (map (beside own) (transfer_of h earlier)) (beside own d) → IsCertain h (reverse (later ++ d ∷ earlier)) (length earlier)
  certain_beside none = certain h later earlier d (λ lossy. none (subst (λ t. IsLawfulBetweenWithLosses s (map (beside own) t)) (main_some (is_of_transfer (route_of h earlier d)) d (transfer_of h earlier) goes) (passes_lossy lossy)))
