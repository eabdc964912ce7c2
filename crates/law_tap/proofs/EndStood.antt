-- Where what was recorded at an end stands in a division of a fuller list, and which of it is main there.
use Rattle.std.proofs.Common.{◌≡◌, ℕ, true, List, [], ◌∷◌, Contains, inl, inr, refl, sym, subst, ◌∙◌, ◌&&◌, ◌==◌}
use Rattle.std.proofs.lemmas.Bool.{true≢false, and_parts, eqb-true}
use Rattle.tftp_packet.specs.{Message, RequestParts, Spells, End, Client, Server, Out, In}
use Rattle.tftp_packet.specs.Hosts.{Datagram, Header, peer_of}
use Rattle.law_model.specs.Model.{Meaning, request_of, MachinePacket, Req, Oack, Data, Ack, Error, Deed, IsView, message_of}
use Rattle.law_model.specs.Rules.{asks, begins_request, is_from_client, port_of_server}
use Rattle.law_model.proofs.ModelLemmas.Members.{contains_first, contains_later, contains_cases, contains_none}
use Rattle.law_model.proofs.ModelLemmas.Moments.{earlier_view}
use Rattle.law_end.specs.{Label, Main, Stray, Division, TransferIds, HasLabel, HaveLabels, HasServerId, GoesToServer, IsMain, datagrams_of, packet_of, says_of, view_in}
use Rattle.law_end.specs.Dress.{StrayAnswer}
use Rattle.law_end.proofs.Spelled.{spelled_once}
use Rattle.law_end.proofs.Division.Divided.{view_main}
use Rattle.law_end.proofs.Division.Placing.{one, stray_there}
use Rattle.law_end.proofs.Division.RouteTests.{in_false, error_begins}
use Rattle.law_end.proofs.Division.ServerRoutes.{byte_begins}
use Rattle.law_tap.specs.Losses.{Loses, nothing, kept, lost}

module _ (h : Header) (m : Meaning) (wire : List ℕ) (ids : TransferIds) where
  -- ---- where a datagram stands

  view_before : (d : Datagram) (label : Label) (rest : Division) → IsView m wire h.named (view_in (one d label rest)) → IsView m wire h.named (view_in rest)
  view_before d (Main deed) rest view = earlier_view m wire h.named deed (view_in rest) view
  view_before d Stray rest view = view
  view_before d StrayAnswer rest view = view

  -- the newest datagram that was recorded, with those before it, recorded or not
  pub record Stood (earlier : List Datagram) (d : Datagram) : Type 0 where
    pub label : Label
    pub rest : Division
    pub has : HasLabel h m wire ids rest d label
    pub labels : HaveLabels h m wire ids rest
    pub view : IsView m wire h.named (view_in (one d label rest))
    pub left : Loses Datagram (datagrams_of rest) earlier

  pub stood : (all seen : List Datagram) → Loses Datagram all seen → (division : Division) → datagrams_of division ≡ all → HaveLabels h m wire ids division → IsView m wire h.named (view_in division)
      → (d : Datagram) (earlier : List Datagram) → seen ≡ d ∷ earlier → Stood earlier d
  stood _ _ nothing division e labels view d earlier is = absurd (cc)
  stood _ _ (kept x all seen l) [] e labels view d earlier is = absurd (cc)
  stood _ _ (kept x all seen l) (p ∷ division) e labels view d earlier is =
      let head : p.datagram ≡ x = cc in
      let tail : datagrams_of division ≡ all = cc in
      let this : x ≡ d = cc in
      let more : seen ≡ earlier = cc in
      record {
        label = p.label;
        rest = division;
        has = subst (λ y. HasLabel h m wire ids division y p.label) (head ∙ this) labels.0;
        labels = labels.1;
        view = view;
        left = subst (λ a. Loses Datagram a earlier) (sym tail) (subst (Loses Datagram all) more l);
      }
  stood _ seen (lost x all seen' l) [] e labels view d earlier is = absurd (cc)
  stood _ seen (lost x all seen' l) (p ∷ division) e labels view d earlier is =
      let tail : datagrams_of division ≡ all = cc in
      stood all seen l division tail labels.1 (view_before p.datagram p.label division view) d earlier is

  -- a datagram of a division: its label, by those before it
  pub record WasIn (division : Division) (x : Datagram) : Type 0 where
    pub label : Label
    pub before : Division
    pub has : HasLabel h m wire ids before x label
    pub labels : HaveLabels h m wire ids before
    pub done : (deed : Deed) → label ≡ Main deed → Contains (view_in division) deed

  done_later : (d : Datagram) (label : Label) (rest : Division) (deed : Deed) → Contains (view_in rest) deed → Contains (view_in (one d label rest)) deed
  done_later d (Main other) rest deed at = contains_later other (view_in rest) deed at
  done_later d Stray rest deed at = at
  done_later d StrayAnswer rest deed at = at

  pub was_in : (division : Division) → HaveLabels h m wire ids division → (x : Datagram) → Contains (datagrams_of division) x → WasIn division x
  was_in [] labels x at = absurd (contains_none x at)
  was_in (p ∷ rest) labels x at = elim (contains_cases p.datagram (datagrams_of rest) x at) [
    | inl now ↦ record {
      label = p.label;
      before = rest;
      has = subst (λ y. HasLabel h m wire ids rest y p.label) now labels.0;
      labels = labels.1;
      done = λ deed is. subst (λ v. Contains v deed) (sym (view_main p deed rest is)) (contains_first deed (view_in rest));
    }
    | inr past ↦
        let w = was_in rest labels.1 x past in
        record { label = w.label; before = w.before; has = w.has; labels = w.labels; done = λ deed is. done_later p.datagram p.label rest deed (w.done deed is) }
  ]

  -- ---- what is main

  -- a request that goes to the service port
  pub asked_main : (before : Division) (x : Datagram) (label : Label) → HasLabel h m wire ids before x label → asks h x ≡ true → IsMain label
  asked_main before x (Main deed) has asked = (deed, refl)
  asked_main before x StrayAnswer has asked =
      let begins = (and_parts (is_from_client h.named x) (begins_request x) (and_parts (is_from_client h.named x && begins_request x) (port_of_server h.named x == h.service) asked).0).1 in
      absurd (true≢false (sym begins ∙ (error_begins x 5 has.spells.0 has.spells.1).0))
  asked_main before x Stray has asked = absurd (by h.named refl parts.0 ends.1) where
    ends : ((is_from_client h.named x && begins_request x) ≡ true) × ((port_of_server h.named x == h.service) ≡ true)
    ends = and_parts (is_from_client h.named x && begins_request x) (port_of_server h.named x == h.service) asked

    parts : (is_from_client h.named x ≡ true) × (begins_request x ≡ true)
    parts = and_parts (is_from_client h.named x) (begins_request x) ends.0

    by : (e : End) → h.named ≡ e → is_from_client e x ≡ true → (port_of_server e x == h.service) ≡ true → ⊥
    by Client is from to = true≢false (sym from ∙ in_false x has.dir)
    by Server is from to = has.no_request is (sym has.here ∙ eqb-true x.local h.service to) (byte_begins x.payload parts.1)

  -- what an end sends that is no ERROR 5
  pub out_main : (before : Division) (x : Datagram) (label : Label) → HasLabel h m wire ids before x label → x.dir ≡ Out → (n : Message) → Spells x.payload n → ((text : List ℕ) → n ≡ Message.Error 5 text → ⊥) → IsMain label
  out_main before x (Main deed) has out n s plain = (deed, refl)
  out_main before x Stray has out n s plain = let both : In ≡ Out = sym has.dir ∙ out in absurd (cc)
  out_main before x StrayAnswer has out n s plain = absurd (plain has.spells.0 (spelled_once x.payload n (Message.Error 5 has.spells.0) s has.spells.1))

  -- what passes with the other end
  pub peer_main : (before : Division) (x : Datagram) (label : Label) → HaveLabels h m wire ids before → HasLabel h m wire ids before x label → peer_of x ≡ ids.peer → IsMain label
  peer_main before x (Main deed) labels has same = (deed, refl)
  peer_main before x Stray labels has same = absurd (has.elsewhere same)
  peer_main before x StrayAnswer labels has same = absurd ((stray_there h (says_of m wire) ids before labels (peer_of x) has.there).2 same)

  -- ---- what a main datagram tells

  pub main_spells : (before : Division) (x : Datagram) (label : Label) (deed : Deed) → label ≡ Main deed → HasLabel h m wire ids before x label → (n : Message) → Spells x.payload n → message_of m wire (packet_of deed) ≡ n
  main_spells before x label deed is has n s =
      let c = subst (HasLabel h m wire ids before x) is has in
      spelled_once x.payload (message_of m wire (packet_of deed)) n c.spells s

  pub is_asked : (p : MachinePacket) (asked : RequestParts) → message_of m wire p ≡ Message.Request asked → request_of m ≡ asked
  is_asked Req asked e = cc
  is_asked Oack asked e = absurd (cc)
  is_asked (Data k) asked e = absurd (cc)
  is_asked (Ack j) asked e = absurd (cc)
  is_asked (Error code text) asked e = absurd (cc)

  -- what is no request goes to the server's id or comes from there
  pub server_id : (before : Division) (x : Datagram) (p : MachinePacket) → GoesToServer h ids before x p → (p ≡ Req → ⊥) → HasServerId h.named ids x
  server_id before x Req goes other = absurd (other refl)
  server_id before x Oack goes other = goes.0
  server_id before x (Data k) goes other = goes.0
  server_id before x (Ack j) goes other = goes.0
  server_id before x (Error code text) goes other = goes.0
