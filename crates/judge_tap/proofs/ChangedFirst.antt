-- A block that was said before with other bytes breaks no rule between the ends but that it is changed, where nothing else breaks a
-- rule whatever is missing.
use Rattle.std.proofs.Common.{◌≡◌, ◌⊎◌, ℕ, ◌≤◌, true, false, List, [], ◌∷◌, Contains, length, Option, Some, None, inl, inr, refl, sym, subst, ap, ◌∙◌, ◌==◌, ◌&&◌, option_map, arith}
use Rattle.std.proofs.lemmas.Bool.{true≢false, cases_Bool, eqb-true, eq-eqb}
use Rattle.tftp_packet.specs.{Message, RequestParts, Spells, opcode_of, Side, Get, Put, End, Client, Server}
use Rattle.tftp_packet.specs.Hosts.{Datagram, Header, PeerId as EndPeer, peer_of, same_peer}
use Rattle.tftp_packet.specs.{Dir, In, Out}
use Rattle.tftp_packet.proofs.NoFault.{no_fault}
use Rattle.law_model.specs.Model.{Meaning, Deed, Sent, MachinePacket, Req, Oack, Data, Ack, Error, HasSent}
use Rattle.law_model.specs.Model.Machines.{other_end, receiver_of}
use Rattle.law_model.specs.{EndRule, PortRule, Terms}
use Rattle.law_model.specs.Rules.{asks, author_of, comes_in, first_of, goes_out, is_of_transfer, route_after, route_at_client, route_at_server, route_before, route_of, transfer_of, BlockBreaks, HasWrongLength}
use Rattle.law_model.proofs.ModelLemmas.Members.{contains_first, contains_later, contains_cases, contains_none}
use Rattle.law_end.specs.{Broken, IsWrongKind, MessageBreaks, MessageBroken, Rule, says_of}
use Rattle.law_end.specs.declared.rule.Rule.TheVariants as rule
use Rattle.law_end.proofs.Division.Divided.{any_later}
use Rattle.law_end.proofs.Division.RouteTests.{is_same}
use Rattle.law_end.proofs.Spelled.{spelled_once}
use Rattle.law_tap.specs.{Pass, PeerId, TapDatagram, TapSides, side_of, AreApart, BreaksNoTapRule, CarriesPass, GoesThere, HasTapLabel, HaveTapLabels, IsBlockLength, IsMainFrom, IsSaid, IsSaidBy, KeptBreaks, LateBreaks, LateBroken, LossyBreaks, LossyBroken, Main, NothingExplains, PassingBreaks, SidesBreak, TapBroken, TapDivision, TapLabel, TapLabelled, TapPasses, asks_in, header_at, is_left_out, is_of_ports, is_passing, kept_between, lossy_astray, lossy_route, recorded_at, tap_route, tap_tests, tapped_of, passed_of, transfer_between}
use Rattle.law_tap.specs.TapDress.{Stray, StrayAnswer}
use Rattle.law_tap.specs.Tap.{TapStep, Does, Passes, did, passed_in, IsTappedRun}
use Rattle.law_tap.proofs.LossySaid.{any_there}
use Rattle.law_tap.proofs.OneRun.{did_pass}
use Rattle.law_tap.proofs.TapLaw.{rules_are_runs}
use Rattle.law_tap.proofs.TapTests.{asks_says, source_is}
use Rattle.judge_tap.specs.{IsTold}
use Rattle.judge_tap.proofs.ToldFound.{lossy_astray_is, now_said, still}

-- ---- what has passed may pass again

module _ (s : TapSides) (x : TapDatagram) (e : End) (k : ℕ) (bytes : List ℕ) (source : x.source ≡ side_of s e) (spells : Spells x.payload (Message.Data k bytes)) (m : Meaning) (wire : List ℕ) where
  record IsMain (division : TapDivision) : Type 0 where
    pass : Pass
    there : Contains (passed_of division) pass
    carries : CarriesPass s (says_of m wire) division x pass

  goes_later : (p : TapLabelled) (division : TapDivision) (f : End) (q : MachinePacket) → GoesThere s division x f q → GoesThere s (p ∷ division) x f q
  goes_later p division Client Req g = g
  goes_later p division Client Oack g = (g.0, any_later (λ (z : TapLabelled). IsMainFrom Server z.label) p division g.1)
  goes_later p division Client (Data i) g = (g.0, any_later (λ (z : TapLabelled). IsMainFrom Server z.label) p division g.1)
  goes_later p division Client (Ack j) g = (g.0, any_later (λ (z : TapLabelled). IsMainFrom Server z.label) p division g.1)
  goes_later p division Client (Error c t) g = (g.0, any_later (λ (z : TapLabelled). IsMainFrom Server z.label) p division g.1)
  goes_later p division Server q g = g

  carries_later : (p : TapLabelled) (division : TapDivision) (y : Pass) → CarriesPass s (says_of m wire) division x y → CarriesPass s (says_of m wire) (p ∷ division) x y
  carries_later p division y c = record { source = c.source; goes = goes_later p division y.from y.packet c.goes; spells = c.spells }

  passed_later : (p : TapLabelled) (division : TapDivision) (y : Pass) → Contains (passed_of division) y → Contains (passed_of (p ∷ division)) y
  passed_later p division y at = by p.label refl where
    by : (l : TapLabel) → p.label ≡ l → Contains (passed_of (p ∷ division)) y
    by (Main z) is = subst (λ l. Contains (passed_of (record { datagram = p.datagram; label = l } ∷ division)) y) (sym is) (contains_later z (passed_of division) y at)
    by Stray is = subst (λ l. Contains (passed_of (record { datagram = p.datagram; label = l } ∷ division)) y) (sym is) at
    by StrayAnswer is = subst (λ l. Contains (passed_of (record { datagram = p.datagram; label = l } ∷ division)) y) (sym is) at

  main_there : (division : TapDivision) → HaveTapLabels s (says_of m wire) division → Contains (tapped_of division) x → IsMain division
  main_there [] labels at = absurd (contains_none x at)
  main_there (p ∷ division) labels at = elim (contains_cases p.datagram (tapped_of division) x at) [
    | inl now ↦ by p.label refl labels.0 now
    | inr before ↦ let r = main_there division labels.1 before in record { pass = r.pass; there = passed_later p division r.pass r.there; carries = carries_later p division r.pass r.carries }
  ]
    where
      by : (l : TapLabel) → p.label ≡ l → HasTapLabel s (says_of m wire) division p.datagram l → p.datagram ≡ x → IsMain (p ∷ division)
      by (Main y) is has now = record {
        pass = y;
        there = subst (λ l. Contains (passed_of (record { datagram = p.datagram; label = l } ∷ division)) y) (sym is) (contains_first y (passed_of division));
        carries = carries_later p division y (subst (λ (v : TapDatagram). CarriesPass s (says_of m wire) division v y) now has);
      }
      by Stray is has now = absurd (has.elsewhere e (ap (λ (v : TapDatagram). v.source) now ∙ source))
      by StrayAnswer is has now =
          let error = subst (λ (v : TapDatagram). Spells v.payload (Message.Error 5 has.spells.0)) now has.spells.1 in
          let bad = spelled_once x.payload (Message.Data k bytes) (Message.Error 5 has.spells.0) spells error in absurd (cc)

  did_later : (f a : End) (q : Deed) (steps : List TapStep) (z : Deed) → Contains (did f steps) z → Contains (did f (Does a q ∷ steps)) z
  did_later Client Client q steps z at = contains_later q (did Client steps) z at
  did_later Client Server q steps z at = at
  did_later Server Client q steps z at = at
  did_later Server Server q steps z at = contains_later q (did Server steps) z at

  was_sent : (y : Pass) (steps : List TapStep) → IsTappedRun m wire steps → Contains (passed_in steps) y → HasSent (did y.from steps) y.packet
  was_sent y [] run at = absurd (contains_none y at)
  was_sent y (Does a q ∷ steps) run at = did_later y.from a q steps (Sent y.packet) (was_sent y steps run.1 at)
  was_sent y (Passes f q ∷ steps) run at = subst (λ v. HasSent v y.packet) (sym (did_pass y.from f q steps)) (elim (contains_cases (record { from = f; packet = q }) (passed_in steps) y at) [
    | inl now ↦ subst (λ (z : Pass). HasSent (did z.from steps) z.packet) now run.0
    | inr before ↦ was_sent y steps run.1 before
  ])

passes_again : (s : TapSides) → AreApart s → (earlier : List TapDatagram) → BreaksNoTapRule s earlier → (x : TapDatagram) (e : End) (k : ℕ) (bytes : List ℕ) → x.source ≡ side_of s e → Spells x.payload (Message.Data k bytes)
    → Contains earlier x → TapPasses s earlier x
passes_again s apart earlier passes x e k bytes source spells at =
    let (m, wire, seen) = (rules_are_runs s apart earlier).1 passes in
    let dressed = seen.dressed in
    let main = main_there s x e k bytes source spells m wire dressed.division dressed.labels (subst (λ l. Contains l x) (sym dressed.whole) at) in
    let (steps, run, same) = seen.view in
    let sent = was_sent s x e k bytes source spells m wire main.pass steps run (subst (λ l. Contains l main.pass) (sym same) (subst (λ l. Contains l main.pass) dressed.main main.there)) in
    ((rules_are_runs s apart (x ∷ earlier)).0 (
      m,
      wire,
      record {
        fits = seen.fits;
        passed = main.pass ∷ seen.passed;
        view = (Passes main.pass.from main.pass.packet ∷ steps, (sent, run), ap (λ l. main.pass ∷ l) same);
        dressed = record {
          division = record { datagram = x; label = Main main.pass } ∷ dressed.division;
          whole = ap (λ l. x ∷ l) dressed.whole;
          main = ap (λ l. main.pass ∷ l) dressed.main;
          labels = (main.carries, dressed.labels);
        };
      },
    )).0

-- ---- the same with other bytes

data_opcode : (payload : List ℕ) (k : ℕ) (bytes : List ℕ) → Spells payload (Message.Data k bytes) → opcode_of payload ≡ 3
data_opcode payload k bytes (b, (x, y, pair, is)) = subst (λ l. opcode_of l ≡ 3) (sym is) refl

-- where a block goes at an end is the same whatever bytes it has
module _ (h : Header) (ks : List Datagram) (local : ℕ) (host : List ℕ) (remote : ℕ) (p q : List ℕ) (p_is : opcode_of p ≡ 3) (q_is : opcode_of q ≡ 3) where
  abbrev of : Dir → List ℕ → Datagram
  of dir payload = record { dir = dir; local = local; host = host; remote = remote; payload = payload }

  at_client : (dir : Dir) (own : ℕ) (asked : EndPeer) (server : Option EndPeer) → route_at_client own asked server ks (of dir p) ≡ route_at_client own asked server ks (of dir q)
  at_client In own asked None = refl
  at_client In own asked (Some other) = refl
  at_client Out own asked None = rw (p_is, q_is) refl
  at_client Out own asked (Some other) = rw (p_is, q_is) refl

  at_server : (dir : Dir) (client : EndPeer) (own : Option ℕ) → route_at_server h client own ks (of dir p) ≡ route_at_server h client own ks (of dir q)
  at_server In client None = rw (p_is, q_is) refl
  at_server In client (Some own) = rw (p_is, q_is) refl
  at_server Out client None = refl
  at_server Out client (Some own) = rw (p_is, q_is) refl

  after : (dir : Dir) (e : End) (first : Datagram) → route_after e h first ks (of dir p) ≡ route_after e h first ks (of dir q)
  after dir Client first = at_client dir first.local (peer_of first) (option_map peer_of (first_of comes_in ks))
  after dir Server first = at_server dir (peer_of first) (option_map (λ a. a.local) (first_of (λ a. goes_out a && same_peer (peer_of a) (peer_of first)) ks))

  first_one : (dir : Dir) (e : End) → h.named ≡ e → route_before h (of dir p) ≡ route_before h (of dir q)
  first_one In Client is = rw (is) refl
  first_one In Server is = rw (is, p_is, q_is) refl
  first_one Out Client is = rw (is, p_is, q_is) refl
  first_one Out Server is = rw (is) refl

  route_alike : (dir : Dir) → route_of h ks (of dir p) ≡ route_of h ks (of dir q)
  route_alike dir = by (first_of (asks h) ks) refl where
    by : (o : Option Datagram) → first_of (asks h) ks ≡ o → route_of h ks (of dir p) ≡ route_of h ks (of dir q)
    by None is = rw (is) (first_one dir h.named refl)
    by (Some first) is = rw (is) (after dir h.named first)

abbrev Changed : Rule
Changed = rule.Block EndRule.BlockChanged

module _ (k : ℕ) (bytes other : List ℕ) (p q : List ℕ) (says : Spells p (Message.Data k bytes)) (said : Spells q (Message.Data k other)) (long : length bytes ≡ length other) where
  p_is : opcode_of p ≡ 3
  p_is = data_opcode p k bytes says

  q_is : opcode_of q ≡ 3
  q_is = data_opcode q k other said

  one : (n : Message) → Spells p n → n ≡ Message.Data k bytes
  one n spells = spelled_once p n (Message.Data k bytes) spells says

  wrong : (g : End) (side : Side) → IsWrongKind g side (Message.Data k bytes) → IsWrongKind g side (Message.Data k other)
  wrong Client Get w = tt
  wrong Client Put w = absurd w
  wrong Server Get w = absurd w
  wrong Server Put w = tt

  -- ---- at the end that gets the file

  block : (t : Terms) (inner : List Datagram) (x : EndRule) → BlockBreaks t inner k bytes x → BlockBreaks t inner k other x ⊎ (x ≡ EndRule.BlockChanged)
  block t inner EndRule.NotStarted b = inl b
  block t inner EndRule.BlockZero b = inl b
  block t inner EndRule.BeyondBlock65535 (inl above) = inl (inl above)
  block t inner EndRule.BeyondBlock65535 (inr (at, whole)) = inl (inr (at, subst (λ n. t.blksize ≤ n) long whole))
  block t inner EndRule.BlockLength b = inl (subst (HasWrongLength t inner k) long b)
  block t inner EndRule.WindowOverrun b = inl b
  block t inner EndRule.BlockSkipped b = inl b
  block t inner EndRule.GoneBack b = inl b
  block t inner EndRule.BlockChanged b = inr refl
  block t inner EndRule.AckAhead b = absurd b
  block t inner EndRule.AckZero b = absurd b

  module _ (h : Header) (ks : List Datagram) (dir : Dir) (local : ℕ) (host : List ℕ) (remote : ℕ) where
    abbrev now : Datagram
    now = record { dir = dir; local = local; host = host; remote = remote; payload = p }

    abbrev before : Datagram
    before = record { dir = dir; local = local; host = host; remote = remote; payload = q }

    same_route : route_of h ks now ≡ route_of h ks before
    same_route = route_alike h ks local host remote p q p_is q_is dir

    breaks : (asked : RequestParts) (inner : List Datagram) (r : Rule) → MessageBreaks h asked inner dir (Message.Data k bytes) r → MessageBreaks h asked inner dir (Message.Data k other) r ⊎ (r ≡ Changed)
    breaks asked inner r (inl (is, w)) = inl (inl (is, wrong (author_of h.named dir) asked.side w))
    breaks asked inner r (inr (inl (is, (stop, error, passed, differs, inl out)))) = inl (inr (inl (is, (stop, error, passed, λ same. let bad = same ∙ error.2 in absurd (cc), inl out))))
    breaks asked inner r (inr (inl (is, (stop, error, passed, differs, inr ends)))) = let bad = ends.2 in absurd (cc)
    breaks asked inner r (inr (inr (x, is, t, terms, b))) = elim (block t inner x b) [ inl too ↦ inl (inr (inr (x, is, t, terms, too))) | inr same ↦ inr (is ∙ ap (λ y. rule.Block y) same) ]

    message : (r : Rule) → MessageBroken h ks now r → MessageBroken h ks before r ⊎ (r ≡ Changed)
    message r b = elim (breaks b.asked (transfer_of h ks) r (subst (λ n. MessageBreaks h b.asked (transfer_of h ks) dir n r) (one b.message b.says.spells) b.breaks)) [
      | inl too ↦ inl (record { message = Message.Data k other; says = record { routed = subst (λ w. is_of_transfer w ≡ true) same_route b.says.routed; spells = said }; asked = b.asked; first = b.first; breaks = too })
      | inr is ↦ inr is
    ]

    at_end : (r : Rule) → is_of_ports r ≡ false → Broken h ks now r → Broken h ks before r ⊎ (r ≡ Changed)
    at_end (rule.Port port) content b = absurd (true≢false content)
    at_end rule.NoRequest content (none, from) = inl (none, sym same_route ∙ from)
    at_end (rule.Malformed fault) content b = absurd (no_fault p (Message.Data k bytes) fault says.1 b.1.0)
    at_end rule.WrongKind content b = message rule.WrongKind b
    at_end rule.AfterError content b = message rule.AfterError b
    at_end rule.RequestChanged content b = message rule.RequestChanged b
    at_end rule.RequestAfterStart content b = message rule.RequestAfterStart b
    at_end rule.ReplyChanged content b = message rule.ReplyChanged b
    at_end (rule.Agreement x) content b = message (rule.Agreement x) b
    at_end rule.OackChanged content b = message rule.OackChanged b
    at_end rule.OackAfterStart content b = message rule.OackAfterStart b
    at_end (rule.Block x) content b = message (rule.Block x) b

  -- ---- between the ends

  module _ (s : TapSides) (earlier : List TapDatagram) (from to : PeerId) where
    abbrev d : TapDatagram
    d = record { source = from; destination = to; payload = p }

    abbrev x : TapDatagram
    x = record { source = from; destination = to; payload = q }

    passed : List TapDatagram
    passed = transfer_between s earlier

    same_way : tap_route s earlier d ≡ tap_route s earlier x
    same_way = rw (p_is, q_is) refl

    sides : (r : Rule) → SidesBreak (tap_route s earlier d) d r → SidesBreak (tap_route s earlier x) x r
    sides (rule.Port PortRule.Foreign) b = sym same_way ∙ b
    sides (rule.Port PortRule.Wrong) b = sym same_way ∙ b
    sides (rule.Port PortRule.BadAnswer) (inl b) = inl (sym same_way ∙ b)
    sides (rule.Port PortRule.BadAnswer) (inr b) = inr (sym same_way ∙ b.0, λ text error. let bad = spelled_once q (Message.Data k other) (Message.Error 5 text) said error in absurd (cc))
    sides _ b = absurd b

    passing : (r : Rule) → PassingBreaks s (transfer_between s earlier) (tap_route s earlier d) d r → PassingBreaks s (transfer_between s earlier) (tap_route s earlier x) x r
    passing rule.NoRequest (none, at) = (none, sym same_way ∙ at)
    passing (rule.Malformed fault) b = absurd (no_fault p (Message.Data k bytes) fault says.1 b.0)
    passing rule.WrongKind (asked, first, g, source, (n, spells, w)) = (asked, first, g, source, (Message.Data k other, said, wrong g asked.side (subst (IsWrongKind g asked.side) (one n spells) w)))
    passing rule.AfterError o = let bad = one (Message.Error o.code o.text) o.says in absurd (cc)
    passing rule.RequestChanged (first, now, at, source, spells, differs) = let bad = one (Message.Request now) spells in absurd (cc)
    passing _ b = absurd b

    late : (r : Rule) → LateBroken s (transfer_between s earlier) d r → LateBroken s (transfer_between s earlier) x r
    late r l = record { asked = l.asked; first = l.first; message = Message.Data k other; says = said; breaks = by r (subst (λ n. LateBreaks s l.asked.side (transfer_between s earlier) n r) (one l.message l.says) l.breaks) } where
      by : (r : Rule) → LateBreaks s l.asked.side (transfer_between s earlier) (Message.Data k bytes) r → LateBreaks s l.asked.side (transfer_between s earlier) (Message.Data k other) r
      by (rule.Block EndRule.NotStarted) b = b
      by _ b = absurd b

    left : (r : End) (ks : List TapDatagram) → is_left_out (tap_tests s) r d ks ≡ is_left_out (tap_tests s) r x ks
    left r ks = rw (p_is, q_is) refl

    own : (r : End) (payload : List ℕ) → same_peer from (side_of s r) ≡ true → recorded_at s r (record { source = from; destination = to; payload = payload }) ≡ record { dir = Out; local = from.port; host = to.host; remote = to.port; payload = payload }
    own r payload is = rw (is) refl

    theirs : (r : End) (payload : List ℕ) → same_peer from (side_of s r) ≡ false → recorded_at s r (record { source = from; destination = to; payload = payload }) ≡ record { dir = In; local = to.port; host = from.host; remote = from.port; payload = payload }
    theirs r payload is = rw (is) refl

    recorded : (h : Header) (ks : List Datagram) (e : End) (r : Rule) → is_of_ports r ≡ false → Broken h ks (recorded_at s e d) r → Broken h ks (recorded_at s e x) r ⊎ (r ≡ Changed)
    recorded h ks e r content b = elim (cases_Bool (same_peer from (side_of s e))) [
      | inl is ↦ elim (at_end h ks Out from.port to.host to.port r content (subst (λ (v : Datagram). Broken h ks v r) (own e p is) b)) [ inl too ↦ inl (subst (λ (v : Datagram). Broken h ks v r) (sym (own e q is)) too) | inr same ↦ inr same ]
      | inr is ↦ elim (at_end h ks In to.port from.host from.port r content (subst (λ (v : Datagram). Broken h ks v r) (theirs e p is) b)) [ inl too ↦ inl (subst (λ (v : Datagram). Broken h ks v r) (sym (theirs e q is)) too) | inr same ↦ inr same ]
    ]

    kept : (r : Rule) → KeptBreaks s (transfer_between s earlier) d r → KeptBreaks s (transfer_between s earlier) x r ⊎ (r ≡ Changed)
    kept r b = elim (recorded (header_at s b.asked.side) (kept_between s b.asked.side (transfer_between s earlier)) (receiver_of b.asked.side) r b.of_content b.breaks) [
      | inl too ↦ inl (record { of_content = b.of_content; asked = b.asked; first = b.first; stays = sym (left (receiver_of b.asked.side) _) ∙ b.stays; breaks = too })
      | inr same ↦ inr same
    ]

    breaks_too : (r : Rule) → TapBroken s earlier d r → TapBroken s earlier x r ⊎ (r ≡ Changed)
    breaks_too r (inl b) = inl (inl (sides r b))
    breaks_too r (inr (goes, inl b)) = inl (inr (ap is_passing (sym same_way) ∙ goes, inl (passing r b)))
    breaks_too r (inr (goes, inr (inl b))) = inl (inr (ap is_passing (sym same_way) ∙ goes, inr (inl (late r b))))
    breaks_too r (inr (goes, inr (inr b))) = elim (kept r b) [ inl too ↦ inl (inr (ap is_passing (sym same_way) ∙ goes, inr (inr too))) | inr same ↦ inr same ]

-- ---- a changed block

module _ (s : TapSides) (apart : AreApart s) where
  -- where what an end says goes, that is no request
  to_other : (e : End) (z : TapDatagram) → z.source ≡ side_of s e → asks_in z.payload ≡ false → is_passing (lossy_route s z) ≡ true → z.destination ≡ side_of s (other_end e)
  to_other Client z source plain goes = elim (cases_Bool (same_peer z.destination s.server)) [
    | inl is ↦ is_same z.destination s.server is
    | inr off ↦
        let route : lossy_route s z ≡ lossy_astray s z = rw (source_is s apart z Client Client source, plain, off) refl in
        absurd (elim (lossy_astray_is s apart z) [ inl bad ↦ true≢false (sym goes ∙ ap is_passing (route ∙ bad)) | inr bad ↦ true≢false (sym goes ∙ ap is_passing (route ∙ bad)) ])
  ]
  to_other Server z source plain goes = elim (cases_Bool (same_peer z.destination s.client)) [
    | inl is ↦ is_same z.destination s.client is
    | inr off ↦
        let route : lossy_route s z ≡ lossy_astray s z = rw (source_is s apart z Server Client source, source_is s apart z Server Server source, off) refl in
        absurd (elim (lossy_astray_is s apart z) [ inl bad ↦ true≢false (sym goes ∙ ap is_passing (route ∙ bad)) | inr bad ↦ true≢false (sym goes ∙ ap is_passing (route ∙ bad)) ])
  ]

  same_long : (b total k : ℕ) (long other : ℕ) → IsBlockLength b total k long → IsBlockLength b total k other → long ≡ other
  same_long b total k long other (inl x) (inl y) = x.1 ∙ sym y.1
  same_long b total k long other (inl x) (inr y) = absurd (omega (arith, x.0, y.0))
  same_long b total k long other (inr x) (inl y) = absurd (omega (arith, x.0, y.0))
  same_long b total k long other (inr x) (inr y) = x.1 ∙ sym y.1

  module _ (earlier : List TapDatagram) (passes : BreaksNoTapRule s earlier) (d : TapDatagram) (told : IsTold s earlier d (Some false)) where
    changed_by : (e : End) (k : ℕ) (bytes other : List ℕ) (asked : RequestParts) → IsSaid s earlier Client (Message.Request asked) → IsSaidBy s e (Message.Data k bytes) d → IsSaid s earlier e (Message.Data k other) → (r : Rule) → TapBroken s earlier d r → r ≡ Changed
    changed_by e k bytes other asked request says said r broken =
        let (x, at, was) = any_there (IsSaidBy s e (Message.Data k other)) earlier said in
        let same : x ≡ record { source = d.source; destination = d.destination; payload = x.payload } =
        let source = was.source ∙ sym says.source in
        let destination = to_other e x was.source (asks_says x.payload (Message.Data k other) was.spells) was.goes ∙ sym (to_other e d says.source (asks_says d.payload (Message.Data k bytes) says.spells) says.goes) in
        λ i. record { source = source i; destination = destination i; payload = x.payload } in
        let again = subst (TapPasses s earlier) same (passes_again s apart earlier passes x e k other was.source was.spells at) in
        elim (breaks_too k bytes other d.payload x.payload says.spells was.spells long s earlier d.source d.destination r broken) [ inl too ↦ absurd (again.lawful r too) | inr is ↦ is ]
      where
        nothing : (length bytes ≡ length other → ⊥) → NothingExplains s asked (d ∷ earlier)
        nothing differs agreed total ex = differs (same_long _ total k (length bytes) (length other) (ex.blocks e k bytes (now_said s apart earlier d e _ says)) (ex.blocks e k other (still s apart earlier d e _ says e _ said)))

        long : length bytes ≡ length other
        long = elim (cases_Bool (length bytes == length other)) [
          | inl is ↦ eqb-true (length bytes) (length other) is
          | inr off ↦
              let none = nothing (λ same. true≢false (sym (eq-eqb (length bytes) (length other) same) ∙ off)) in
              let bad = told.1 (rule.Block EndRule.BlockLength) (inr (inr (record { end = e; message = Message.Data k bytes; says = says; asked = asked; request = request; breaks = none }))) in absurd (cc)
        ]

    pub changed_alone : LossyBroken s earlier d Changed → (r : Rule) → TapBroken s earlier d r → r ≡ Changed
    changed_alone (inl b) r broken = absurd b
    changed_alone (inr (inl b)) r broken = absurd b
    changed_alone (inr (inr b)) r broken = by b.message b.says b.breaks where
      by : (n : Message) → IsSaidBy s b.end n d → LossyBreaks s earlier d b.asked b.end n Changed → r ≡ Changed
      by (Message.Data k bytes) says (other, said, differs) = changed_by b.end k bytes other b.asked b.request says said r broken
      by (Message.Request asked) says bad = absurd bad
      by (Message.Oack options) says bad = absurd bad
      by (Message.Ack j) says bad = absurd bad
      by (Message.Error c text) says bad = absurd bad
