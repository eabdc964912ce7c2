-- What a run says of a server's lawful capture of which each datagram passed with one client.
use Rattle.std.proofs.Common.{◌≡◌, ℕ, zero, suc, true, false, List, [], ◌∷◌, Any, inl, inr, refl, sym, ap, subst, ◌∙◌, ◌&&◌, reverse, arith, None}
use Rattle.std.specs.List.{list_any, AllByRecursion}
use Rattle.std.proofs.lemmas.Bool.{false≢true, or_left, or_right, and_from, or_parts}
use Rattle.std.proofs.lemmas.List.{reverse-reverse}
use Rattle.tftp_packet.specs.{Client, Server, IsPlace, Spells}
use Rattle.tftp_packet.specs.Hosts.{Datagram, Header, PeerId, peer_of}
use Rattle.tftp_packet.specs.{Dir, In, Out}
use Rattle.law_model.specs.Model.{Meaning, MachinePacket, Req, Oack, Data, Ack, Error, Deed, Sent, Took, History, message_of, HasSent, HasTaken, IsOneSided}
use Rattle.law_model.proofs.ModelLemmas.Members.{contains_cases, contains_none}
use Rattle.law_model.proofs.ModelLemmas.OneSided.{view_one_sided}
use Rattle.law_model.proofs.ModelLemmas.MadeRuns.{one_sided_view}
use Rattle.law_model.specs.Rules.{begins_request, comes_in, goes_out}
use Rattle.law_end.specs.{Label, Main, Stray, Division, datagrams_of, view_in, TransferIds, HasLabel, HaveLabels, IsMain, Starts, Fits, OneEnded}
use Rattle.law_end.specs.Dress.{StrayAnswer}
use Rattle.law_end.proofs.Division.Divided.{divided_more, any_none, any_cases}
use Rattle.law_end.proofs.Division.Placing.{one, starts_before, MainOut, StrayFrom}
use Rattle.law_end.proofs.Division.Routed.{starts_of}
use Rattle.law_end.proofs.Division.RouteTests.{in_false, in_true, out_false, out_true, request_begins, other_begins}
use Rattle.law_end.proofs.Whole.TwoEnds.{lawful}
use Rattle.audit_flows.specs.Lines.Recording.{is_answer}
use Rattle.audit_spared.proofs.SparedLemmas.Begun.{ack_0, data_1, says_ack_0, says_data_1}

abbrev pub at : Header
at = record { named = Server; service = 69; rollover = None }

-- ---- none is a stray

abbrev pub AreFrom : PeerId → Division → Type 0
AreFrom peer division = AllByRecursion (λ p. peer_of p.datagram ≡ peer) division

module _ (m : Meaning) (wire : List ℕ) (ids : TransferIds) where
  abbrev pub Labels : Division → Type 0
  Labels division = HaveLabels at m wire ids division

  main_peer : (peer : PeerId) (division : Division) → Labels division → AreFrom peer division → Any MainOut division → peer ≡ ids.peer
  main_peer peer [] labels from any = absurd (any_none MainOut any)
  main_peer peer (p ∷ earlier) labels from any = elim (any_cases MainOut p earlier any) [
    | inl this ↦ sym from.0 ∙ (subst (λ x. HasLabel at m wire ids earlier p.datagram x) this.0.1 labels.0).client
    | inr before ↦ main_peer peer earlier labels.1 from.1 before
  ]

  no_stray : (peer : PeerId) (division : Division) → AllByRecursion (λ p. IsMain p.label) division → Any (StrayFrom peer) division → ⊥
  no_stray peer [] mains any = any_none (StrayFrom peer) any
  no_stray peer (p ∷ earlier) mains any = elim (any_cases (StrayFrom peer) p earlier any) [
    | inl this ↦ let both : Stray ≡ Main mains.0.0 = sym this.0 ∙ mains.0.1 in absurd (cc)
    | inr before ↦ no_stray peer earlier mains.1 before
  ]

  pub all_main : (peer : PeerId) (division : Division) → Labels division → AreFrom peer division → AllByRecursion (λ p. IsMain p.label) division
  all_main peer [] labels from = tt
  all_main peer (p ∷ earlier) labels from = let before = all_main peer earlier labels.1 from.1 in (by before p.label refl labels.0, before) where
    by : AllByRecursion (λ q. IsMain q.label) earlier → (label : Label) → p.label ≡ label → HasLabel at m wire ids earlier p.datagram label → IsMain p.label
    by before (Main deed) is has = (deed, is)
    by before Stray is has = absurd (has.elsewhere (from.0 ∙ main_peer peer earlier labels.1 from.1 has.after))
    by before StrayAnswer is has = absurd (no_stray (peer_of p.datagram) earlier before has.there)

  -- ---- what each says

  -- A request goes to the service port, and spells the request; all else goes to and from the server's own port, and what goes out
  -- is no request.
  pub record IsPart (d : Datagram) : Type 0 where
    pub asked : comes_in d ≡ true → begins_request d ≡ true → (d.local ≡ 69) × Spells d.payload (message_of m wire Req)
    pub other : (comes_in d && begins_request d) ≡ false → d.local ≡ ids.own
    pub plain : goes_out d ≡ true → begins_request d ≡ false

  no_request : (p : MachinePacket) (d : Datagram) → (p ≡ Req → ⊥) → Spells d.payload (message_of m wire p) → begins_request d ≡ true → ⊥
  no_request p d other says begins = false≢true (sym (other_begins m wire d.payload p other says) ∙ begins)

  took_other : (d : Datagram) (p : MachinePacket) → d.dir ≡ In → (p ≡ Req → ⊥) → Spells d.payload (message_of m wire p) → d.local ≡ ids.own → IsPart d
  took_other d p way other says here = record {
    asked = λ came begins. absurd (no_request p d other says begins);
    other = λ off. here;
    plain = λ out. absurd (false≢true (sym (in_false d way) ∙ out));
  }

  sent_other : (d : Datagram) (p : MachinePacket) → d.dir ≡ Out → (p ≡ Req → ⊥) → Spells d.payload (message_of m wire p) → d.local ≡ ids.own → IsPart d
  sent_other d p way other says here = record {
    asked = λ came begins. absurd (false≢true (sym (out_false d way) ∙ came));
    other = λ off. here;
    plain = λ out. other_begins m wire d.payload p other says;
  }

  part : (earlier : Division) (d : Datagram) (deed : Deed) → HasLabel at m wire ids earlier d (Main deed) → (deed ≡ Sent Req → ⊥) → IsPart d
  part earlier d (Took Req) has not_back = record {
    asked = λ came begins. (has.server.0, has.spells);
    other = λ off. absurd (false≢true (sym off ∙ and_from (comes_in d) (begins_request d) (in_true d has.dir) (request_begins d.payload _ has.spells)));
    plain = λ out. absurd (false≢true (sym (in_false d has.dir) ∙ out));
  }
  part earlier d (Took Oack) has not_back = took_other d Oack has.dir (λ e. absurd (cc)) has.spells has.server.0
  part earlier d (Took (Data k)) has not_back = took_other d (Data k) has.dir (λ e. absurd (cc)) has.spells has.server.0
  part earlier d (Took (Ack j)) has not_back = took_other d (Ack j) has.dir (λ e. absurd (cc)) has.spells has.server.0
  part earlier d (Took (Error code text)) has not_back = took_other d (Error code text) has.dir (λ e. absurd (cc)) has.spells has.server.0
  part earlier d (Sent Req) has not_back = absurd (not_back refl)
  part earlier d (Sent Oack) has not_back = sent_other d Oack has.dir (λ e. absurd (cc)) has.spells has.server.0
  part earlier d (Sent (Data k)) has not_back = sent_other d (Data k) has.dir (λ e. absurd (cc)) has.spells has.server.0
  part earlier d (Sent (Ack j)) has not_back = sent_other d (Ack j) has.dir (λ e. absurd (cc)) has.spells has.server.0
  part earlier d (Sent (Error code text)) has not_back = sent_other d (Error code text) has.dir (λ e. absurd (cc)) has.spells has.server.0

  -- what stands on top of the others
  pub main_now : (earlier : Division) (d : Datagram) (label : Label) (deed : Deed) → label ≡ Main deed → HasLabel at m wire ids earlier d label → HasLabel at m wire ids earlier d (Main deed)
  main_now earlier d label deed is has = subst (λ x. HasLabel at m wire ids earlier d x) is has

  no_back : (earlier : Division) (d : Datagram) (label : Label) (deed : Deed) → label ≡ Main deed → Starts Server (view_in (one d label earlier)) → deed ≡ Sent Req → ⊥
  no_back earlier d label deed is starts = (subst (λ x. Starts Server (view_in (one d x earlier))) is starts).0.not_back

  parts : (division : Division) → Labels division → Starts Server (view_in division) → AllByRecursion (λ p. IsMain p.label) division → AllByRecursion IsPart (datagrams_of division)
  parts [] labels starts mains = tt
  parts (p ∷ earlier) labels starts mains =
      let (deed, is) = mains.0 in (
        part earlier p.datagram deed (main_now earlier p.datagram p.label deed is labels.0) (no_back earlier p.datagram p.label deed is starts),
        parts earlier labels.1 (starts_before Server p.datagram p.label earlier starts) mains.1,
      )

  -- ---- the newest

  any_went : (division : Division) → Any (λ p. p.datagram.dir ≡ Out) division → list_any goes_out (datagrams_of division) ≡ true
  any_went [] any = absurd (any_none (λ p. p.datagram.dir ≡ Out) any)
  any_went (p ∷ division) any = elim (any_cases (λ q. q.datagram.dir ≡ Out) p division any) [
    | inl this ↦ or_left (goes_out p.datagram) (list_any goes_out (datagrams_of division)) (out_true p.datagram this)
    | inr before ↦ or_right (goes_out p.datagram) (list_any goes_out (datagrams_of division)) (any_went division before)
  ]

  -- what comes in and is no request comes after something went out
  heard : (earlier : Division) (d : Datagram) (deed : Deed) → HasLabel at m wire ids earlier d (Main deed) → comes_in d ≡ true → begins_request d ≡ false → list_any goes_out (datagrams_of earlier) ≡ true
  heard earlier d (Sent p) has came plain = absurd (false≢true (sym (out_false d has.dir) ∙ came))
  heard earlier d (Took Req) has came plain = absurd (false≢true (sym plain ∙ request_begins d.payload _ has.spells))
  heard earlier d (Took Oack) has came plain = elim has.server.1 [ inl out ↦ absurd (false≢true (sym (out_false d out) ∙ came)) | inr before ↦ any_went earlier before ]
  heard earlier d (Took (Data k)) has came plain = elim has.server.1 [ inl out ↦ absurd (false≢true (sym (out_false d out) ∙ came)) | inr before ↦ any_went earlier before ]
  heard earlier d (Took (Ack j)) has came plain = elim has.server.1 [ inl out ↦ absurd (false≢true (sym (out_false d out) ∙ came)) | inr before ↦ any_went earlier before ]
  heard earlier d (Took (Error code text)) has came plain = elim has.server.1 [ inl out ↦ absurd (false≢true (sym (out_false d out) ∙ came)) | inr before ↦ any_went earlier before ]

  -- where nothing went out, nothing was sent, and nothing was taken but requests
  record OnlyAsked (v : History) : Type 0 where
    sent : (p : MachinePacket) → HasSent v p → ⊥
    took : (p : MachinePacket) → (p ≡ Req → ⊥) → HasTaken v p → ⊥

  only_now : (earlier : Division) (d : Datagram) (deed : Deed) → HasLabel at m wire ids earlier d (Main deed) → goes_out d ≡ false → list_any goes_out (datagrams_of earlier) ≡ false
      → OnlyAsked (view_in earlier) → OnlyAsked (deed ∷ view_in earlier)
  only_now earlier d deed has off none before = record {
    sent = λ p there. elim (contains_cases deed (view_in earlier) (Sent p) there) [
      | inl this ↦ false≢true (sym off ∙ out_true d (subst (λ x. HasLabel at m wire ids earlier d (Main x)) this has).dir)
      | inr later ↦ before.sent p later
    ];
    took = λ p other there. elim (contains_cases deed (view_in earlier) (Took p) there) [
      | inl this ↦ by p other (subst (λ x. HasLabel at m wire ids earlier d (Main x)) this has)
      | inr later ↦ before.took p other later
    ];
  } where
    by : (p : MachinePacket) → (p ≡ Req → ⊥) → HasLabel at m wire ids earlier d (Main (Took p)) → ⊥
    by p other has = false≢true (sym none ∙ heard earlier d (Took p) has (in_true d has.dir) (other_begins m wire d.payload p other has.spells))

  only_asked : (division : Division) → Labels division → AllByRecursion (λ p. IsMain p.label) division → list_any goes_out (datagrams_of division) ≡ false → OnlyAsked (view_in division)
  only_asked [] labels mains none = record { sent = λ p there. contains_none (Sent p) there; took = λ p other there. contains_none (Took p) there }
  only_asked (p ∷ earlier) labels mains none =
      let (deed, is) = mains.0 in
      let two = or_parts (goes_out p.datagram) (list_any goes_out (datagrams_of earlier)) none in
      let now = only_now earlier p.datagram deed (main_now earlier p.datagram p.label deed is labels.0) two.0 two.1 (only_asked earlier labels.1 mains.1 two.1) in
      subst (λ x. OnlyAsked (view_in (one p.datagram x earlier))) (sym is) now

  -- so what goes out first is an answer
  answers : (earlier : Division) (d : Datagram) (deed : Deed) → HasLabel at m wire ids earlier d (Main deed) → IsOneSided m wire Server (deed ∷ view_in earlier)
      → OnlyAsked (view_in earlier) → goes_out d ≡ true → is_answer d.payload ≡ true
  answers earlier d (Took p) has own only out = absurd (false≢true (sym (in_false d has.dir) ∙ out))
  answers earlier d (Sent Req) has own only out = let client : Server ≡ Client = own.0.client in absurd (cc)
  answers earlier d (Sent Oack) has own only out = subst (λ p. is_answer p ≡ true) (sym has.spells.1.bytes) refl
  answers earlier d (Sent (Error code text)) has own only out = let (b, (x, y, pair, string, is)) = has.spells in subst (λ p. is_answer p ≡ true) (sym is) refl
  answers earlier d (Sent (Ack zero)) has own only out = let (b, (x, y, pair, is)) = has.spells in says_ack_0 69 d.payload x y (ack_0 69 x y pair) is
  answers earlier d (Sent (Ack (suc j))) has own only out = absurd (only.took (Data 1) (λ e. absurd (cc)) (own.0.taken 1 (omega arith) (omega arith)))
  answers earlier d (Sent (Data k)) has own only out =
      let (b, (x, y, pair, is)) = has.spells in
      elim own.0.in_order [
        | inl first ↦ says_data_1 69 d.payload _ x y (data_1 69 x y (subst (IsPlace x y) first pair)) is
        | inr next ↦ absurd (only.sent (Data _) next)
      ]

-- ---- of a capture

-- all datagrams but requests have one port at the server, and what else a run says of the newest
pub record IsRun (d : Datagram) (ds : List Datagram) : Type 0 where
  pub m : Meaning
  pub wire : List ℕ
  pub ids : TransferIds
  pub fits : Fits None m wire
  pub parts : AllByRecursion (IsPart m wire ids) (d ∷ ds)
  pub first : ds ≡ [] → (comes_in d ≡ true) × (begins_request d ≡ true)
  pub heard : comes_in d ≡ true → begins_request d ≡ false → list_any goes_out ds ≡ true
  pub answers : goes_out d ≡ true → list_any goes_out ds ≡ false → is_answer d.payload ≡ true

pub peers_of : (peer : PeerId) (division : Division) (ds : List Datagram) → datagrams_of division ≡ ds → AllByRecursion (λ d. peer_of d ≡ peer) ds → AreFrom peer division
peers_of peer [] ds are all = tt
peers_of peer (p ∷ division) [] are all = absurd (cc)
peers_of peer (p ∷ division) (d ∷ ds) are all =
    let this : p.datagram ≡ d = cc in
    let rest : datagrams_of division ≡ ds = cc in
    (subst (λ (e : Datagram). peer_of e ≡ peer) (sym this) all.0, peers_of peer division ds rest all.1)

first_in : (m : Meaning) (wire : List ℕ) (ids : TransferIds) (rest : Division) (d : Datagram) (deed : Deed) → HasLabel at m wire ids rest d (Main deed) → Starts Server (deed ∷ view_in rest) → rest ≡ []
    → (comes_in d ≡ true) × (begins_request d ≡ true)
first_in m wire ids rest d deed has starts none =
    let this : deed ≡ Took Req = starts.0.first (ap view_in none) in
    let asked = subst (λ x. HasLabel at m wire ids rest d (Main x)) this has in
    (in_true d asked.dir, request_begins d.payload _ asked.spells)

no_rest : (division : Division) (ds : List Datagram) → datagrams_of division ≡ ds → ds ≡ [] → division ≡ []
no_rest [] ds are none = refl
no_rest (p ∷ division) ds are none = let both : p.datagram ∷ datagrams_of division ≡ [] = are ∙ none in absurd (cc)

pub run_of : (peer : PeerId) (d : Datagram) (ds : List Datagram) → OneEnded at (d ∷ ds) → AllByRecursion (λ e. peer_of e ≡ peer) (d ∷ ds) → IsRun d ds
run_of peer d ds passes from =
    let (m, wire, seen) = (lawful at (reverse (d ∷ ds))).1 (subst (OneEnded at) (sym (reverse-reverse (d ∷ ds))) passes) in
    let dress = seen.dressed in
    let whole : datagrams_of dress.division ≡ d ∷ ds = dress.whole ∙ reverse-reverse (d ∷ ds) in
    let (p, rest, is, this, are) = divided_more dress.division d ds whole in
    let same : dress.division ≡ one d p.label rest = is ∙ ap (λ e. one e p.label rest) this in
    let labels : HaveLabels at m wire dress.ids (one d p.label rest) = subst (HaveLabels at m wire dress.ids) same dress.labels in
    let seen_own : IsOneSided m wire Server (view_in dress.division) = subst (IsOneSided m wire Server) (sym dress.main) (view_one_sided m wire Server seen.view seen.run) in
    let own : IsOneSided m wire Server (view_in (one d p.label rest)) = subst (λ l. IsOneSided m wire Server (view_in l)) same seen_own in
    let starts : Starts Server (view_in (one d p.label rest)) = starts_of at m wire dress.ids (one d p.label rest) labels own in
    let from_all : AreFrom peer (one d p.label rest) = peers_of peer (one d p.label rest) (d ∷ ds) (ap (λ l. d ∷ l) are) from in
    let mains = all_main m wire dress.ids peer (one d p.label rest) labels from_all in
    let (deed, main) = mains.0 in
    let has = main_now m wire dress.ids rest d p.label deed main labels.0 in record {
      m = m;
      wire = wire;
      ids = dress.ids;
      fits = seen.fits;
      parts = subst (λ l. AllByRecursion (IsPart m wire dress.ids) (d ∷ l)) are (parts m wire dress.ids (one d p.label rest) labels starts mains);
      first = λ none. first_in m wire dress.ids rest d deed has (subst (λ x. Starts Server (view_in (one d x rest))) main starts) (no_rest rest ds are none);
      heard = λ came plain. subst (λ l. list_any goes_out l ≡ true) are (heard m wire dress.ids rest d deed has came plain);
      answers = λ out none.
          answers m wire dress.ids rest d deed has (subst (λ x. IsOneSided m wire Server (view_in (one d x rest))) main own)
          (only_asked m wire dress.ids rest labels.1 mains.1 (ap (list_any goes_out) are ∙ none)) out;
    }

-- ---- a request alone

comes_so : (d : Datagram) → comes_in d ≡ true → d.dir ≡ In
comes_so d came = by d.dir refl where
  by : (way : Dir) → d.dir ≡ way → d.dir ≡ In
  by In is = is
  by Out is = absurd (false≢true (sym (out_false d is) ∙ came))

-- what asks is lawful where nothing else passed
pub asked_alone : (m : Meaning) (wire : List ℕ) → Fits None m wire → (d : Datagram) → comes_in d ≡ true → d.local ≡ 69 → Spells d.payload (message_of m wire Req) → OneEnded at (d ∷ [])
asked_alone m wire fits d came service spells = (lawful at (d ∷ [])).0 (
  m,
  wire,
  record {
    fits = fits;
    view = Took Req ∷ [];
    run = one_sided_view m wire Server (Took Req ∷ []) (refl, tt);
    dressed = record {
      ids = record { own = 0; peer = peer_of d; asked = [] };
      division = one d (Main (Took Req)) [];
      whole = refl;
      main = refl;
      labels = (record { dir = comes_so d came; client = refl; server = (service, λ e. absurd (no_client e)); spells = spells }, tt);
    };
  },
) where
  no_client : Server ≡ Client → ⊥
  no_client e = absurd (cc)
