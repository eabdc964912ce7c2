-- What may pass next at a server after a part of a lawful capture, where all passed with one client.
use Rattle.std.proofs.Common.{◌≡◌, ◌≢◌, ◌⊎◌, ℕ, zero, suc, ◌+◌, ◌-◌, ◌≤◌, Bool, true, false, if◌then◌else◌, List, [], ◌∷◌, Any, Contains, Some, inl, inr, refl, sym, ap, subst, ◌∙◌, false, reverse, arith, None}
use Rattle.std.specs.List.{AllByRecursion}
use Rattle.std.proofs.lemmas.List.{reverse-reverse}
use Rattle.tftp_packet.specs.{OptionMap, Message, RequestParts, Side, Get, Put, Server, Spells}
use Rattle.tftp_packet.specs.Hosts.{Datagram, PeerId, peer_of}
use Rattle.tftp_packet.specs.{Dir, In, Out}
use Rattle.law_model.specs.Model.{Meaning, NothingAgreed, request_of, blksize_of, block, block_count, windowsize_of, MachinePacket, Req, Oack, Data, Ack, Error, Deed, Sent, Took, History, message_of, MayCome, MaySend, HasSent, HasTaken, IsOneSided, IsStartedOn, LetsStartOn, heard}
use Rattle.law_model.specs.Model.Roles.{sender_of, receiver_of}
use Rattle.law_model.specs.Rules.{HasPassed, Passed, asks, begins_request, first_of, is_of_transfer, route_of, transfer_of, usable}
use Rattle.law_model.proofs.ModelLemmas.Members.{contains_cases, contains_first, contains_later, contains_none}
use Rattle.law_model.proofs.ModelLemmas.OneSided.{view_one_sided}
use Rattle.law_model.proofs.ModelLemmas.Stops.{heard_done, lawful_tail}
use Rattle.law_end.specs.{Accords, Agrees, AreRouted, Begins, Division, Fits, FirstAnswer, FirstAsked, GoesToServer, HasLabel, HaveLabels, IsMain, Label, Labelled, Main, OneEnded, Stray, TransferIds, datagrams_of, dir_of, label_route, packet_of, view_in}
use Rattle.law_end.specs.Dress.{StrayAnswer}
use Rattle.law_end.proofs.Accord.FirstSpelled.{numbered}
use Rattle.law_end.proofs.Accord.HeardAnswer.{heard_own}
use Rattle.law_end.proofs.Accord.FirstReply.{data_out, sent_data, took_data, used_start}
use Rattle.law_end.proofs.Accord.PassedIsDone.{Told, ack_came_in, ack_went, block_came, block_sent, data_only, passed_told, told_passed, used_ack, used_passed, used_told, with_main}
use Rattle.law_end.proofs.Completeness.NextDeed.{wire_blocks}
use Rattle.law_end.proofs.Completeness.RunsPass.{ruled}
use Rattle.law_end.proofs.Division.Divided.{any_first, any_later, divided_more, divided_none, view_main}
use Rattle.law_end.proofs.Division.Parted.{parts_of}
use Rattle.law_end.proofs.Division.Placing.{one}
use Rattle.law_end.proofs.Division.Routed.{routed, starts_of}
use Rattle.law_end.proofs.Division.RouteTests.{other_begins}
use Rattle.law_end.proofs.FirstBroken.FirstRequests.{or_some, request_same}
use Rattle.law_end.proofs.Soundness.MadeMeaning.{oack_spelled}
use Rattle.law_end.proofs.Soundness.RulesDivide.{divides}
use Rattle.law_end.proofs.Whole.TwoEnds.{lawful}
use Rattle.audit_spared.proofs.SparedLemmas.NearParts.{IsNear, IsNearPart, ack_comes, ack_goes, block_comes, block_goes}
use Rattle.audit_spared.proofs.SparedLemmas.ServedRuns.{AreFrom, all_main, at, main_now, peers_of}

-- ---- a part of the datagrams

abbrev pub IsNearBy : ℕ → Message → Type 0
IsNearBy n (Message.Data k bytes) = n ≤ k + 1
IsNearBy n (Message.Ack j) = n ≤ j + 1
IsNearBy n _ = ⊥

-- what is near has passed in the part too, and the part is of the whole
pub record IsPartOf (n : ℕ) (whole part : List Datagram) : Type 0 where
  pub back : (dir : Dir) (x : Message) → Passed dir x part → Passed dir x whole
  pub near : (dir : Dir) (x : Message) → IsNearBy n x → Passed dir x whole → Passed dir x part
  pub used : (x : Message) → IsNearBy n x → Passed Out x (usable whole) → Passed Out x (usable part)

-- ---- datagrams that are all main ones

-- what divides so
pub record AreMain (m : Meaning) (wire : List ℕ) (ds : List Datagram) : Type 0 where
  pub ids : TransferIds
  pub division : Division
  pub same : datagrams_of division ≡ ds
  pub labels : HaveLabels at m wire ids division
  pub own : IsOneSided m wire Server (view_in division)
  pub mains : AllByRecursion (λ p. IsMain p.label) division

module _ (m : Meaning) (wire : List ℕ) where
  whole_transfer : (division : Division) → AreRouted at m wire division → AllByRecursion (λ p. IsMain p.label) division → transfer_of at (datagrams_of division) ≡ datagrams_of division
  whole_transfer [] are mains = refl
  whole_transfer (p ∷ earlier) are mains =
      let (deed, is) = mains.0 in
      with_main at m wire earlier p.datagram deed (are.0 ∙ ap label_route is) ∙ ap (λ l. p.datagram ∷ l) (whole_transfer earlier are.2 mains.1)

  module _ (ds : List Datagram) (a : AreMain m wire ds) where
    pub routes : AreRouted at m wire a.division
    routes = routed at m wire a.ids a.division a.labels a.own

    abbrev view : History
    view = view_in a.division

    pub through : transfer_of at (datagrams_of a.division) ≡ ds
    through = whole_transfer a.division routes a.mains ∙ a.same

    there : (dir : Dir) (x : Message) → Passed dir x ds → Passed dir x (transfer_of at (datagrams_of a.division))
    there dir x p = subst (Passed dir x) (sym through) p

    pub told : (dir : Dir) (x : Message) → Passed dir x ds → Told m wire view dir x
    told dir x p = passed_told at m wire a.division routes dir x (there dir x p)

    pub passed : (deed : Deed) → Contains view deed → Passed (dir_of deed) (message_of m wire (packet_of deed)) ds
    passed deed is = subst (Passed (dir_of deed) (message_of m wire (packet_of deed))) through (told_passed at m wire a.division routes deed is)

    pub sent_block : (k : ℕ) (bytes : List ℕ) → Passed Out (Message.Data k bytes) ds → HasSent view (Data k)
    sent_block k bytes p = block_sent at m wire a.division routes k bytes (there Out (Message.Data k bytes) p)

    pub sent_ack : (j : ℕ) → Passed Out (Message.Ack j) ds → HasSent view (Ack j)
    sent_ack j p = ack_went at m wire a.division routes j (there Out (Message.Ack j) p)

    pub took_block : (k : ℕ) (bytes : List ℕ) → Passed In (Message.Data k bytes) ds → HasTaken view (Data k)
    took_block k bytes p = block_came at m wire a.division routes k bytes (there In (Message.Data k bytes) p)

    pub took_ack : (j : ℕ) → Passed In (Message.Ack j) ds → HasTaken view (Ack j)
    took_ack j p = ack_came_in at m wire a.division routes j (there In (Message.Ack j) p)

    usable_there : (x : Message) → Passed Out x (usable ds) → Passed Out x (usable (transfer_of at (datagrams_of a.division)))
    usable_there x p = subst (λ l. Passed Out x (usable l)) (sym through) p

    pub heard_passed : (q : MachinePacket) → HasSent (heard view) q → Passed Out (message_of m wire q) (usable ds)
    heard_passed q is = subst (λ l. Passed Out (message_of m wire q) (usable l)) through (used_passed at m wire a.division routes q is)

    pub heard_block : (k : ℕ) (bytes : List ℕ) → Passed Out (Message.Data k bytes) (usable ds) → HasSent (heard view) (Data k)
    heard_block k bytes p =
        let (q, is, says) = used_told at m wire a.division routes (Message.Data k bytes) (usable_there (Message.Data k bytes) p) in
        subst (HasSent (heard view)) (data_only at m wire q k bytes says).0 is

    pub heard_ack : (j : ℕ) → Passed Out (Message.Ack j) (usable ds) → HasSent (heard view) (Ack j)
    heard_ack j p = used_ack at m wire a.division routes j (usable_there (Message.Ack j) p)

    error_only : (q : MachinePacket) (code : ℕ) (text : List ℕ) → message_of m wire q ≡ Message.Error code text → q ≡ Error code text
    error_only (Error c t) code text e =
        let one : c ≡ code = cc in
        let other : t ≡ text = cc in
        λ i. Error (one i) (other i)
    error_only _ code text e = absurd (cc)

    pub sent_error : (code : ℕ) (text : List ℕ) → Passed Out (Message.Error code text) ds → HasSent view (Error code text)
    sent_error code text p = by (told Out (Message.Error code text) p) where
      by : Told m wire view Out (Message.Error code text) → HasSent view (Error code text)
      by (Sent q, is, way, says) = subst (HasSent view) (error_only q code text says) is
      by (Took q, is, way, says) = absurd (cc)

-- so the views are such, whatever each means
pub near_part : (m : Meaning) (wire : List ℕ) (o : Meaning) (wire_o : List ℕ) (n : ℕ) (whole part : List Datagram) (a : AreMain m wire whole) (b : AreMain o wire_o part) → IsPartOf n whole part
    → IsNearPart n (view_in a.division) (view_in b.division)
near_part m wire o wire_o n whole part a b p = record {
  sent = sent;
  took = took;
  used = used;
  blocks = λ k is. sent_block m wire whole a k (block (blksize_of o) wire_o k) (p.back Out (Message.Data k (block (blksize_of o) wire_o k)) (passed o wire_o part b (Sent (Data k)) is));
  errors = λ code text is. sent_error m wire whole a code text (p.back Out (Message.Error code text) (passed o wire_o part b (Sent (Error code text)) is));
} where
  sent : (q : MachinePacket) → IsNear n q → HasSent (view_in a.division) q → HasSent (view_in b.division) q
  sent (Data k) close is = sent_block o wire_o part b k (block (blksize_of m) wire k) (p.near Out (Message.Data k (block (blksize_of m) wire k)) close (passed m wire whole a (Sent (Data k)) is))
  sent (Ack j) close is = sent_ack o wire_o part b j (p.near Out (Message.Ack j) close (passed m wire whole a (Sent (Ack j)) is))
  sent _ close is = absurd close

  took : (q : MachinePacket) → IsNear n q → HasTaken (view_in a.division) q → HasTaken (view_in b.division) q
  took (Data k) close is = took_block o wire_o part b k (block (blksize_of m) wire k) (p.near In (Message.Data k (block (blksize_of m) wire k)) close (passed m wire whole a (Took (Data k)) is))
  took (Ack j) close is = took_ack o wire_o part b j (p.near In (Message.Ack j) close (passed m wire whole a (Took (Ack j)) is))
  took _ close is = absurd close

  used : (q : MachinePacket) → IsNear n q → HasSent (heard (view_in a.division)) q → HasSent (heard (view_in b.division)) q
  used (Data k) close is = heard_block o wire_o part b k (block (blksize_of m) wire k) (p.used (Message.Data k (block (blksize_of m) wire k)) close (heard_passed m wire whole a (Data k) is))
  used (Ack j) close is = heard_ack o wire_o part b j (p.used (Message.Ack j) close (heard_passed m wire whole a (Ack j) is))
  used _ close is = absurd close

-- ---- the meaning of the whole is in accord with the part

pub sub_passed : (ds : List Datagram) (dir : Dir) (x : Message) → Passed dir x (transfer_of at ds) → Passed dir x ds
sub_passed [] dir x p = p
sub_passed (d ∷ ds) dir x p = by (sub_passed ds dir x) (is_of_transfer (route_of at ds d)) p where
  by : (Passed dir x (transfer_of at ds) → Passed dir x ds) → (b : Bool) → Passed dir x (if b then d ∷ transfer_of at ds else transfer_of at ds) → Passed dir x (d ∷ ds)
  by more true p = elim p [ inl now ↦ inl now | inr before ↦ inr (more before) ]
  by more false p = inr (more p)

first_passed : (test : Datagram → Bool) (ds : List Datagram) (e : Datagram) → first_of test ds ≡ Some e → (x : Message) → Spells e.payload x → Passed e.dir x ds
first_passed test [] e found x spells = absurd (cc)
first_passed test (d ∷ ds) e found x spells = elim (or_some (first_of test ds) (test d) d e found) [
  | inl before ↦ inr (first_passed test ds e before x spells)
  | inr this ↦ inl (ap (λ (y : Datagram). y.dir) this.2, subst (λ (y : Datagram). Spells y.payload x) (sym this.2) spells)
]

pub first_oack : (side : Side) (ds : List Datagram) (options : OptionMap) → FirstAnswer side ds (Agrees options) → (dir : Dir) × Passed dir (Message.Oack options) ds
first_oack side [] options first = absurd first
first_oack side (d ∷ ds) options first = elim first [
  | inl before ↦ let (dir, p) = first_oack side ds options before in (dir, inr p)
  | inr now ↦ (d.dir, inl (refl, oack_spelled side d options now.1))
]

-- what is in accord with a meaning divides by it
pub divided_main : (m : Meaning) (wire : List ℕ) (ds : List Datagram) → Accords at m wire ds → (peer : PeerId) → OneEnded at ds → AllByRecursion (λ e. peer_of e ≡ peer) ds → AreMain m wire ds
divided_main m wire ds accords peer passes from =
    let (division, same, are, own, starts) = divides at m wire ds passes accords in
    let (ids, labels) = parts_of at m wire division are starts in record {
      ids = ids;
      division = division;
      same = same;
      labels = labels;
      own = own;
      mains = all_main m wire ids peer division labels (peers_of peer division ds same from);
    }

module _ (m : Meaning) (wire : List ℕ) (fits : Fits None m wire) (whole part : List Datagram) (a : AreMain m wire whole) (back : (dir : Dir) (x : Message) → Passed dir x part → Passed dir x whole) where
  pub request_only : (q : MachinePacket) (asked : RequestParts) → message_of m wire q ≡ Message.Request asked → asked ≡ request_of m
  request_only Req asked e = request_same asked (request_of m) (sym e)
  request_only _ asked e = absurd (cc)

  oack_only : (q : MachinePacket) (options : OptionMap) → message_of m wire q ≡ Message.Oack options → m.agreed ≡ options
  oack_only Oack options e = cc
  oack_only _ options e = absurd (cc)

  pub asked_there : (asked : RequestParts) → FirstAsked at part asked → asked ≡ request_of m
  asked_there asked (e, found, spells) =
      let (deed, is, way, says) = told m wire whole a e.dir (Message.Request asked) (back e.dir (Message.Request asked) (first_passed (asks at) part e found (Message.Request asked) spells)) in
      request_only (packet_of deed) asked says

  oacked_there : (options : OptionMap) → FirstAnswer m.side (transfer_of at part) (Agrees options) → m.agreed ≡ options
  oacked_there options first =
      let (dir, p) = first_oack m.side (transfer_of at part) options first in
      let (deed, is, way, says) = told m wire whole a dir (Message.Oack options) (back dir (Message.Oack options) (sub_passed part dir (Message.Oack options) p)) in
      oack_only (packet_of deed) options says

  pub has_there : (x : Message) → HasPassed x (transfer_of at part) → HasPassed x (transfer_of at (datagrams_of a.division))
  has_there x p = elim p [
    | inl came ↦ inl (there m wire whole a In x (back In x (sub_passed part In x came)))
    | inr went ↦ inr (there m wire whole a Out x (back Out x (sub_passed part Out x went)))
  ]

  accords_there : (FirstAnswer m.side (transfer_of at part) Begins → NothingAgreed m) → Accords at m wire part
  accords_there begun = record {
    fits = fits;
    asked = asked_there;
    oacked = oacked_there;
    plain = begun;
    blocks = λ k bytes p. wire_blocks at m wire fits a.division (routes m wire whole a) a.own k bytes (has_there (Message.Data k bytes) p);
  }

  -- so a lawful part divides by it too
  pub part_main : (peer : PeerId) → OneEnded at part → AllByRecursion (λ e. peer_of e ≡ peer) part → (FirstAnswer m.side (transfer_of at part) Begins → NothingAgreed m) → AreMain m wire part
  part_main peer passes from begun = divided_main m wire part (accords_there begun) peer passes from

-- ---- what each of them did

abbrev pub IsDone : Meaning → List ℕ → History → Datagram → Type 0
IsDone m wire v e = (deed : Deed) × Contains v deed × (e.dir ≡ dir_of deed) × Spells e.payload (message_of m wire (packet_of deed))

done_later : (m : Meaning) (wire : List ℕ) (v w : History) → ((deed : Deed) → Contains v deed → Contains w deed) → (ds : List Datagram) → AllByRecursion (IsDone m wire v) ds → AllByRecursion (IsDone m wire w) ds
done_later m wire v w more [] all = tt
done_later m wire v w more (e ∷ ds) all = let (deed, is, way, spells) = all.0 in ((deed, more deed is, way, spells), done_later m wire v w more ds all.1)

done_in : (m : Meaning) (wire : List ℕ) (ids : TransferIds) (division : Division) → HaveLabels at m wire ids division → AllByRecursion (λ p. IsMain p.label) division
    → AllByRecursion (IsDone m wire (view_in division)) (datagrams_of division)
done_in m wire ids [] labels mains = tt
done_in m wire ids (p ∷ earlier) labels mains =
    let (deed, is) = mains.0 in
    let has = main_now m wire ids earlier p.datagram p.label deed is labels.0 in
    let same : view_in (p ∷ earlier) ≡ deed ∷ view_in earlier = view_main p deed earlier is in (
      (deed, subst (λ v. Contains v deed) (sym same) (contains_first deed (view_in earlier)), has.dir, has.spells),
      done_later m wire (view_in earlier) (view_in (p ∷ earlier)) (λ other there. subst (λ v. Contains v other) (sym same) (contains_later deed (view_in earlier) other there)) (datagrams_of earlier)
          (done_in m wire ids earlier labels.1 mains.1),
    )

pub all_done : (m : Meaning) (wire : List ℕ) (ds : List Datagram) (a : AreMain m wire ds) → AllByRecursion (IsDone m wire (view_in a.division)) ds
all_done m wire ds a = subst (AllByRecursion (IsDone m wire (view_in a.division))) a.same (done_in m wire a.ids a.division a.labels a.mains)

-- ---- the newest of a lawful capture

pub record IsNewest (d : Datagram) (ds : List Datagram) : Type 0 where
  pub m : Meaning
  pub wire : List ℕ
  pub fits : Fits None m wire
  pub before : AreMain m wire ds
  pub deed : Deed
  pub has : HasLabel at m wire before.ids before.division d (Main deed)
  pub now : IsOneSided m wire Server (deed ∷ view_in before.division)

-- the number of a block or an ACK has two bytes
pub number_fits : (m : Meaning) (wire : List ℕ) → block_count (blksize_of m) wire ≤ 65535 → (v : History) (deed : Deed) → IsOneSided m wire Server (deed ∷ v) → (n : ℕ)
    → (packet_of deed ≡ Data n) ⊎ (packet_of deed ≡ Ack n) → n ≤ 65535
number_fits m wire few v deed own n (inl is) = let low = (numbered at m wire (deed ∷ v) own deed (contains_first deed v) n is).1 in omega (arith, low, few)
number_fits m wire few v deed own zero (inr is) = omega arith
number_fits m wire few v (Sent p) own (suc n) (inr is) =
    let may = subst (MaySend m wire Server v) is own.0 in
    let low = (numbered at m wire v own.1 (Took (Data (suc n))) (may.taken (suc n) (omega arith) (omega arith)) (suc n) refl).1 in
    omega (arith, low, few)
number_fits m wire few v (Took p) own (suc n) (inr is) =
    let may = subst (MayCome m wire Server v) is own.0 in
    let low = (numbered at m wire (heard v) (heard_own m wire Server v own.1) (Sent (Data (suc n))) (may.sent (suc n) (omega arith) (omega arith)) (suc n) refl).1 in
    omega (arith, low, few)

pub newest_run : (peer : PeerId) (d : Datagram) (ds : List Datagram) → OneEnded at (d ∷ ds) → AllByRecursion (λ e. peer_of e ≡ peer) (d ∷ ds) → IsNewest d ds
newest_run peer d ds passes from =
    let (m, wire, seen) = (lawful at (reverse (d ∷ ds))).1 (subst (OneEnded at) (sym (reverse-reverse (d ∷ ds))) passes) in
    let dress = seen.dressed in
    let whole : datagrams_of dress.division ≡ d ∷ ds = dress.whole ∙ reverse-reverse (d ∷ ds) in
    let (p, rest, is, this, are) = divided_more dress.division d ds whole in
    let same : dress.division ≡ one d p.label rest = is ∙ ap (λ e. one e p.label rest) this in
    let labels : HaveLabels at m wire dress.ids (one d p.label rest) = subst (HaveLabels at m wire dress.ids) same dress.labels in
    let seen_own : IsOneSided m wire Server (view_in dress.division) = subst (IsOneSided m wire Server) (sym dress.main) (view_one_sided m wire Server seen.view seen.run) in
    let own : IsOneSided m wire Server (view_in (one d p.label rest)) = subst (λ l. IsOneSided m wire Server (view_in l)) same seen_own in
    let from_all : AreFrom peer (one d p.label rest) = peers_of peer (one d p.label rest) (d ∷ ds) (ap (λ l. d ∷ l) are) from in
    let mains = all_main m wire dress.ids peer (one d p.label rest) labels from_all in
    let (deed, main) = mains.0 in
    let now : IsOneSided m wire Server (deed ∷ view_in rest) = subst (λ x. IsOneSided m wire Server (view_in (one d x rest))) main own in record {
      m = m;
      wire = wire;
      fits = seen.fits;
      before = record { ids = dress.ids; division = rest; same = are; labels = labels.1; own = lawful_tail m wire Server deed (view_in rest) now; mains = mains.1 };
      deed = deed;
      has = main_now m wire dress.ids rest d p.label deed main labels.0;
      now = now;
    }

-- ---- nothing is agreed where no OACK passed

pub server_sends : (side : Side) → Server ≡ sender_of side → side ≡ Get
server_sends Get e = refl
server_sends Put e = absurd (cc)

pub server_receives : (side : Side) → Server ≡ receiver_of side → side ≡ Put
server_receives Get e = absurd (cc)
server_receives Put e = refl

module _ (m : Meaning) (wire : List ℕ) (ds : List Datagram) (a : AreMain m wire ds) (none : (dir : Dir) (options : OptionMap) → Passed dir (Message.Oack options) ds → ⊥) where
  abbrev done : History
  done = view_in a.division

  none_sent : HasSent done Oack → ⊥
  none_sent is = none Out m.agreed (passed m wire ds a (Sent Oack) is)

  none_taken : HasTaken done Oack → ⊥
  none_taken is = none In m.agreed (passed m wire ds a (Took Oack) is)

  pub nothing_read : Server ≡ sender_of m.side → IsStartedOn m.side m done → NothingAgreed m
  nothing_read sender started = elim (data_out m wire Server (server_sends m.side sender) done a.own started) [
    | inl nothing ↦ nothing
    | inr agreed ↦ elim agreed.1 [ inl sent ↦ absurd (none_sent sent) | inr taken ↦ absurd (none_taken taken) ]
  ]

  pub nothing_written : Server ≡ receiver_of m.side → LetsStartOn m.side m done → NothingAgreed m
  nothing_written receiver lets = elim (subst (λ side. LetsStartOn side m done) (server_receives m.side receiver) lets) [
    | inl plain ↦ plain.0
    | inr agreed ↦ absurd (none_sent agreed.1)
  ]

-- ---- nothing is agreed on, or an OACK passed

module _ (m : Meaning) (wire : List ℕ) (ds : List Datagram) (a : AreMain m wire ds) where
  agreed_read : Server ≡ sender_of m.side → IsStartedOn m.side m (view_in a.division) → NothingAgreed m ⊎ ((dir : Dir) × Passed dir (Message.Oack m.agreed) ds)
  agreed_read sender started = elim (data_out m wire Server (server_sends m.side sender) (view_in a.division) a.own started) [
    | inl nothing ↦ inl nothing
    | inr agreed ↦ elim agreed.1 [ inl sent ↦ inr (Out, passed m wire ds a (Sent Oack) sent) | inr taken ↦ inr (In, passed m wire ds a (Took Oack) taken) ]
  ]

  agreed_written : Server ≡ receiver_of m.side → LetsStartOn m.side m (view_in a.division) → NothingAgreed m ⊎ ((dir : Dir) × Passed dir (Message.Oack m.agreed) ds)
  agreed_written receiver lets = elim (subst (λ side. LetsStartOn side m (view_in a.division)) (server_receives m.side receiver) lets) [
    | inl plain ↦ inl plain.0
    | inr agreed ↦ inr (Out, passed m wire ds a (Sent Oack) agreed.1)
  ]

  pub agreed_or : (n : ℕ) → 1 ≤ n → (deed : Deed) → (packet_of deed ≡ Data n) ⊎ (packet_of deed ≡ Ack n) → IsOneSided m wire Server (deed ∷ view_in a.division) → NothingAgreed m ⊎ ((dir : Dir) × Passed dir (Message.Oack m.agreed) ds)
  agreed_or n low (Sent q) (inl is) now =
      let may = subst (λ p. IsOneSided m wire Server (Sent p ∷ view_in a.division)) is now in agreed_read may.0.sender may.0.started
  agreed_or n low (Took q) (inl is) now =
      let may = subst (λ p. IsOneSided m wire Server (Took p ∷ view_in a.division)) is now in agreed_written may.0.receiver (used_start m wire Server m.side (view_in a.division) may.0.started)
  agreed_or n low (Sent q) (inr is) now =
      let may = subst (λ p. IsOneSided m wire Server (Sent p ∷ view_in a.division)) is now in agreed_written may.0.receiver (took_data m wire Server n (view_in a.division) a.own (may.0.taken n low (omega arith)))
  agreed_or n low (Took q) (inr is) now =
      let may = subst (λ p. IsOneSided m wire Server (Took p ∷ view_in a.division)) is now in
      agreed_read may.0.sender (sent_data m wire Server n (view_in a.division) a.own (heard_done (view_in a.division) (Sent (Data n)) (may.0.sent n low (omega arith))))

-- ---- it passes after the part

-- what a division tells of the ids
module _ (m : Meaning) (wire : List ℕ) (ids : TransferIds) where
  abbrev HasPort : ℕ → Datagram → Type 0
  HasPort port e = begins_request e ≡ false → e.local ≡ port

  port_of : (port : ℕ) (earlier : Division) (d : Datagram) (deed : Deed) → HasPort port d → (packet_of deed ≡ Req → ⊥) → HasLabel at m wire ids earlier d (Main deed) → ids.own ≡ port
  port_of port earlier d deed here other has = sym (by (packet_of deed) other has.server) ∙ here (other_begins m wire d.payload (packet_of deed) other has.spells) where
    by : (q : MachinePacket) → (q ≡ Req → ⊥) → GoesToServer at ids earlier d q → d.local ≡ ids.own
    by Req other goes = absurd (other refl)
    by _ other goes = goes.0

  abbrev Tells : ℕ → Division → Type 0
  Tells port division = (deed : Deed) → Contains (view_in division) deed → (packet_of deed ≡ Req → ⊥) → ids.own ≡ port

  port_step : (port : ℕ) (d : Datagram) (label : Label) (earlier : Division) → HasLabel at m wire ids earlier d label → HasPort port d → Tells port earlier → Tells port (one d label earlier)
  port_step port d (Main now) earlier has here before deed is other = elim (contains_cases now (view_in earlier) deed is) [
    | inl same ↦ port_of port earlier d deed here other (subst (λ x. HasLabel at m wire ids earlier d (Main x)) same has)
    | inr past ↦ before deed past other
  ]
  port_step port d Stray earlier has here before deed is other = before deed is other
  port_step port d StrayAnswer earlier has here before deed is other = before deed is other

  -- what was done but requests has the server's port
  pub own_port : (port : ℕ) (division : Division) → HaveLabels at m wire ids division → AllByRecursion (HasPort port) (datagrams_of division) → Tells port division
  own_port port [] labels ports deed is other = absurd (contains_none deed is)
  own_port port (p ∷ earlier) labels ports deed is other = port_step port p.datagram p.label earlier labels.0 ports.0 (own_port port earlier labels.1 ports.1) deed is other

  abbrev WentOut : Labelled → Type 0
  WentOut p = p.datagram.dir ≡ Out

  out_step : (d : Datagram) (label : Label) (earlier : Division) → HasLabel at m wire ids earlier d label → ((q : MachinePacket) → HasSent (view_in earlier) q → Any WentOut earlier)
      → (q : MachinePacket) → HasSent (view_in (one d label earlier)) q → Any WentOut (one d label earlier)
  out_step d (Main now) earlier has before q is = elim (contains_cases now (view_in earlier) (Sent q) is) [
    | inl same ↦ any_first WentOut (record { datagram = d; label = Main now }) earlier (subst (λ x. HasLabel at m wire ids earlier d (Main x)) same has).dir
    | inr past ↦ any_later WentOut (record { datagram = d; label = Main now }) earlier (before q past)
  ]
  out_step d Stray earlier has before q is = any_later WentOut (record { datagram = d; label = Stray }) earlier (before q is)
  out_step d StrayAnswer earlier has before q is = any_later WentOut (record { datagram = d; label = StrayAnswer }) earlier (before q is)

  -- what was sent went out
  pub sent_went : (division : Division) → HaveLabels at m wire ids division → (q : MachinePacket) → HasSent (view_in division) q → Any WentOut division
  sent_went [] labels q is = absurd (contains_none (Sent q) is)
  sent_went (p ∷ earlier) labels q is = out_step p.datagram p.label earlier labels.0 (sent_went earlier labels.1) q is

  -- with whom all passed is the client
  pub client_is : (peer : PeerId) (division : Division) (ds : List Datagram) → datagrams_of division ≡ ds → ds ≢ [] → HaveLabels at m wire ids division → AllByRecursion (λ p. IsMain p.label) division
      → AllByRecursion (λ e. peer_of e ≡ peer) ds → peer ≡ ids.peer
  client_is peer [] ds are some labels mains from = absurd (some (sym are))
  client_is peer (p ∷ earlier) [] are some labels mains from = absurd (some refl)
  client_is peer (p ∷ earlier) (e ∷ ds) are some labels mains from =
      let this : p.datagram ≡ e = cc in
      let (deed, is) = mains.0 in
      let has = main_now m wire ids earlier p.datagram p.label deed is labels.0 in
      sym from.0 ∙ ap peer_of (sym this) ∙ has.client

-- a deed that may follow, what stands there beside requests, and what was sent where it came in
record MayStand (m : Meaning) (wire : List ℕ) (v : History) (deed : Deed) : Type 0 where
  now : IsOneSided m wire Server (deed ∷ v)
  other : Deed
  there : Contains v other
  plain : packet_of other ≡ Req → ⊥
  heard_first : dir_of deed ≡ In → (q : MachinePacket) × HasSent v q

module _ (m : Meaning) (wire : List ℕ) (o : Meaning) (wire_o : List ℕ) (side : m.side ≡ o.side) (single : windowsize_of m ≡ 1) (single_o : windowsize_of o ≡ 1) (whole part : History) (n : ℕ) (two : 2 ≤ n)
    (within : n ≤ block_count (blksize_of m) wire → n ≤ block_count (blksize_of o) wire_o) (near : IsNearPart n whole part) (own : IsOneSided o wire_o Server part) where
  stands : (deed : Deed) → (packet_of deed ≡ Data n) ⊎ (packet_of deed ≡ Ack n) → IsOneSided m wire Server (deed ∷ whole) → MayStand o wire_o part deed
  stands (Sent q) (inl is) now =
      let now_it = subst (λ p. IsOneSided m wire Server (Sent p ∷ whole)) is now in
      let may = block_goes m wire o wire_o side single single_o whole part n two within near own now_it.0 in
      subst (λ p. MayStand o wire_o part (Sent p)) (sym is) (record {
        now = (may, own);
        other = Sent (Data (n - 1));
        there = elim may.in_order [ inl first ↦ absurd (omega (arith, first, two)) | inr before ↦ before ];
        plain = λ e. absurd (cc);
        heard_first = λ way. absurd (cc);
      })
  stands (Took q) (inl is) now =
      let now_it = subst (λ p. IsOneSided m wire Server (Took p ∷ whole)) is now in
      let may = block_comes m wire o wire_o side single single_o whole part n two within near own now_it.0 in
      let w = may.in_window in
      let high = w.2 in
      let sent : HasSent part (Ack w.0) = heard_done part (Sent (Ack w.0)) (elim w.1 [ inl none ↦ absurd (omega (arith, none, two, high, single_o)) | inr there ↦ there ]) in
      subst (λ p. MayStand o wire_o part (Took p)) (sym is) (record { now = (may, own); other = Sent (Ack w.0); there = sent; plain = λ e. absurd (cc); heard_first = λ way. (Ack w.0, sent) })
  stands (Sent q) (inr is) now =
      let now_it = subst (λ p. IsOneSided m wire Server (Sent p ∷ whole)) is now in
      let may = ack_goes m wire o wire_o side single single_o whole part n two within near own now_it.0 in
      subst (λ p. MayStand o wire_o part (Sent p)) (sym is) (record {
        now = (may, own);
        other = Took (Data n);
        there = may.taken n (omega (arith, two)) (omega arith);
        plain = λ e. absurd (cc);
        heard_first = λ way. absurd (cc);
      })
  stands (Took q) (inr is) now =
      let now_it = subst (λ p. IsOneSided m wire Server (Took p ∷ whole)) is now in
      let may = ack_comes m wire o wire_o side single single_o whole part n two within near own now_it.0 in
      let sent : HasSent part (Data n) = heard_done part (Sent (Data n)) (may.sent n (omega (arith, two)) (omega arith)) in
      subst (λ p. MayStand o wire_o part (Took p)) (sym is) (record { now = (may, own); other = Sent (Data n); there = sent; plain = λ e. absurd (cc); heard_first = λ way. (Data n, sent) })

-- ---- it passes after the part: by a meaning of the part

module _ (peer : PeerId) (d : Datagram) (whole part : List Datagram) (nx : IsNewest d whole) (o : Meaning) (wire_o : List ℕ) (fits_o : Fits None o wire_o) (of_part : AreMain o wire_o part)
    (side : nx.m.side ≡ o.side) (single : windowsize_of nx.m ≡ 1) (single_o : windowsize_of o ≡ 1)
    (from : AllByRecursion (λ e. peer_of e ≡ peer) part) (from_d : peer_of d ≡ peer)
    (port : ℕ) (ports : AllByRecursion (λ e. begins_request e ≡ false → e.local ≡ port) part) (port_d : d.local ≡ port)
    (n : ℕ) (two : 2 ≤ n) (is : (packet_of nx.deed ≡ Data n) ⊎ (packet_of nx.deed ≡ Ack n)) (p : IsPartOf n whole part)
    (within : n ≤ block_count (blksize_of nx.m) nx.wire → n ≤ block_count (blksize_of o) wire_o)
    (spells : Spells d.payload (message_of o wire_o (packet_of nx.deed))) where
  abbrev v : History
  v = view_in of_part.division

  may : MayStand o wire_o v nx.deed
  may = stands nx.m nx.wire o wire_o side single single_o (view_in nx.before.division) v n two within (near_part nx.m nx.wire o wire_o n whole part nx.before of_part p) of_part.own nx.deed is nx.now

  some : part ≢ []
  some none_there = contains_none may.other (subst (λ l. Contains (view_in l) may.other) (divided_none of_part.division (of_part.same ∙ none_there)) may.there)

  here : d.local ≡ of_part.ids.own
  here = port_d ∙ sym (own_port o wire_o of_part.ids port of_part.division of_part.labels
      (subst (AllByRecursion (λ e. begins_request e ≡ false → e.local ≡ port)) (sym of_part.same) ports) may.other may.there may.plain)

  way : (deed : Deed) → d.dir ≡ dir_of deed → (dir_of deed ≡ In → (q : MachinePacket) × HasSent v q) → (d.dir ≡ Out) ⊎ Any (λ e. e.datagram.dir ≡ Out) of_part.division
  way (Sent q) dir heard_first = inl dir
  way (Took q) dir heard_first = let (r, sent) = heard_first refl in inr (sent_went o wire_o of_part.ids of_part.division of_part.labels r sent)

  goes : (q : MachinePacket) → (q ≡ Data n) ⊎ (q ≡ Ack n) → GoesToServer at of_part.ids of_part.division d q
  goes q (inl kind) = subst (GoesToServer at of_part.ids of_part.division d) (sym kind) (here, way nx.deed nx.has.dir may.heard_first)
  goes q (inr kind) = subst (GoesToServer at of_part.ids of_part.division d) (sym kind) (here, way nx.deed nx.has.dir may.heard_first)

  labelled : HasLabel at o wire_o of_part.ids of_part.division d (Main nx.deed)
  labelled = record {
    dir = nx.has.dir;
    client = from_d ∙ client_is o wire_o of_part.ids peer of_part.division part of_part.same some of_part.labels of_part.mains from;
    server = goes (packet_of nx.deed) is;
    spells = spells;
  }

  pub passes_by : OneEnded at (d ∷ part)
  passes_by =
      let labels : HaveLabels at o wire_o of_part.ids (one d (Main nx.deed) of_part.division) = (labelled, of_part.labels) in
      subst (λ l. OneEnded at (d ∷ l)) of_part.same
      (ruled at o wire_o fits_o (one d (Main nx.deed) of_part.division) (routed at o wire_o of_part.ids (one d (Main nx.deed) of_part.division) labels may.now) may.now
      (starts_of at o wire_o of_part.ids (one d (Main nx.deed) of_part.division) labels may.now))
