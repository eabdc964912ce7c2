-- What breaks a rule that stands whatever is missing, after datagrams that break none, breaks a rule with losses.
use Rattle.std.proofs.Common.{◌≡◌, ◌≢◌, ◌⊎◌, ℕ, Bool, true, false, List, [], ◌∷◌, Contains, inl, inr, refl, sym, subst, ap, ◌∙◌, ◌==◌, ◌&&◌, ◌||◌, if◌then◌else◌, map}
use Rattle.std.specs.List.{list_any}
use Rattle.std.proofs.lemmas.Bool.{true≢false, cases_Bool, and_parts}
use Rattle.tftp_packet.specs.{OptionMap, Message, RequestParts, Spells, FirstFault, Side, Get, Put, End, Client, Server}
use Rattle.tftp_packet.specs.Hosts.{Datagram, Header, same_peer}
use Rattle.tftp_packet.specs.{Dir, In, Out}
use Rattle.law_model.specs.Model.Machines.{sender_of, receiver_of}
use Rattle.law_model.specs.Rules.{author_of, asks, is_from_client, begins_request, port_of_server, is_of_transfer, route_of, transfer_of, Passed, HasPassed, EndBroken}
use Rattle.law_model.specs.{EndRule, PortRule, Terms}
use Rattle.law_model.proofs.ModelLemmas.Members.{contains_first, contains_later, contains_cases, contains_none}
use Rattle.law_end.specs.{says_some, FirstAsked, FirstAnswer, Agrees, IsWrongKind, KindBreaks, MessageBreaks, MessageBroken, GoesOn, Broken, Rule}
use Rattle.law_end.specs.declared.rule.Rule.TheVariants as rule
use Rattle.law_end.proofs.Division.Divided.{any_first, any_later}
use Rattle.law_end.proofs.Division.RouteTests.{is_same, in_false, out_false}
use Rattle.law_end.proofs.Soundness.Searches.{oack_from}
use Rattle.law_tap.specs.{TapDatagram, TapSides, side_of, AreApart, kept_of, same_end, asks_in, ends_in, tap_tests, has_gone, route_astray, tap_route, is_passing, transfer_between, recorded_at, header_at, kept_between, FirstTapAsked, LateBroken, LateBreaks, SidesBreak, PassingBreaks, OtherError, KeptBreaks, TapBroken, BreaksNoTapRule, is_of_ports, TapRoute}
use Rattle.law_tap.specs.LossesBetween.{IsCertainBetween}
use Rattle.law_tap.specs.LossyRules.{lossy_route, lossy_astray, IsSaidBy, IsSaid, LossyBreaks, LossyBroken, StandsWhateverIsMissing}
use Rattle.law_tap.proofs.CertainBetween.{between_lossy}
use Rattle.law_tap.proofs.KeptOf.{none_of, some_of, kept_there, kept_quiet}
use Rattle.law_tap.proofs.LossyCertain.{broken_is_certain}
use Rattle.law_tap.proofs.LossyExplained.{told_request, told_oack, told_data, agrees, sends}
use Rattle.law_tap.proofs.LossyFacts.{read_passing, passing_end}
use Rattle.law_tap.proofs.LossySaid.{Known, known, any_there}
use Rattle.law_tap.proofs.TapBefore.{first_holds}
use Rattle.law_tap.proofs.TapLaw.{rules_are_runs}
use Rattle.law_tap.proofs.TapLawful.{parted, mains_lawful, none_asked, asks_is}
use Rattle.law_tap.proofs.TapMade.{recorded_payload}
use Rattle.law_tap.proofs.TapRecorded.{mains_carried, pair_tests, datagram_in}
use Rattle.law_tap.proofs.TapRouted.{mains, transfer_is}
use Rattle.law_tap.proofs.TapTests.{asks_says, ends_says, source_is}

said_in : (s : TapSides) (e : End) (n : Message) (xs : List TapDatagram) (x : TapDatagram) → Contains xs x → IsSaidBy s e n x → IsSaid s xs e n
said_in s e n [] x at says = absurd (contains_none x at)
said_in s e n (y ∷ xs) x at says = elim (contains_cases y xs x at) [
  | inl now ↦ any_first (IsSaidBy s e n) y xs (subst (IsSaidBy s e n) (sym now) says)
  | inr before ↦ any_later (IsSaidBy s e n) y xs (said_in s e n xs x before says)
]

wrong_breaks : (s : TapSides) (earlier : List TapDatagram) (d : TapDatagram) (asked : RequestParts) (e : End) (n : Message) → IsWrongKind e asked.side n → LossyBreaks s earlier d asked e n rule.WrongKind
wrong_breaks s earlier d asked e (Message.Request now) wrong = wrong
wrong_breaks s earlier d asked e (Message.Oack options) wrong = wrong
wrong_breaks s earlier d asked e (Message.Data k y) wrong = wrong
wrong_breaks s earlier d asked e (Message.Ack k) wrong = wrong
wrong_breaks s earlier d asked e (Message.Error c t) wrong = wrong

wrong_oack : (side : Side) (options : OptionMap) → IsWrongKind Client side (Message.Oack options)
wrong_oack Get options = tt
wrong_oack Put options = tt

module _ (s : TapSides) (apart : AreApart s) where
  -- ---- by the two sides

  -- the route of a datagram, and its route whatever is missing
  abbrev Routes : List TapDatagram → TapDatagram → Type 0
  Routes earlier d =
      ((tap_route s earlier d ≡ route_astray earlier d) × (lossy_route s d ≡ lossy_astray s d))
      ⊎ ((tap_route s earlier d ≡ lossy_route s d) ⊎ ((tap_route s earlier d ≡ TapRoute.WrongPort) × (lossy_route s d ≡ TapRoute.FromClient)))

  routes : (earlier : List TapDatagram) (d : TapDatagram) → Routes earlier d
  routes earlier d = elim (cases_Bool (same_peer d.source s.client)) [
    | inl client ↦ elim (cases_Bool (asks_in d.payload)) [
      | inl asking ↦ inr (inl (rw (client, asking) refl))
      | inr plain ↦ elim (cases_Bool (same_peer d.destination s.server)) [
        | inr off ↦ inl (rw (client, plain, off) refl, rw (client, plain, off) refl)
        | inl to ↦ elim (cases_Bool (has_gone s.server s.client earlier)) [
          | inl gone ↦ inr (inl (rw (client, plain, to, gone) refl))
          | inr none ↦ inr (inr (rw (client, plain, to, none) refl, rw (client, plain, to) refl))
        ]
      ]
    ]
    | inr other ↦ elim (cases_Bool (same_peer d.source s.server)) [
      | inr elsewhere ↦ inr (inl (rw (other, elsewhere) refl))
      | inl server ↦ elim (cases_Bool (same_peer d.destination s.client)) [
        | inl to ↦ inr (inl (rw (other, server, to) refl))
        | inr off ↦ inl (rw (other, server, off) refl, rw (other, server, off) refl)
      ]
    ]
  ]

  abbrev astray_by : Bool → Bool → TapRoute
  astray_by gone ends = if gone then (if ends then TapRoute.StrayAnswer else TapRoute.NoStrayAnswer) else TapRoute.WrongPort

  not_passing : (gone ends : Bool) → is_passing (astray_by gone ends) ≡ false
  not_passing true true = refl
  not_passing true false = refl
  not_passing false ends = refl

  not_foreign : (gone ends : Bool) → astray_by gone ends ≡ TapRoute.ForeignPort → ⊥
  not_foreign true true is = absurd (cc)
  not_foreign true false is = absurd (cc)
  not_foreign false ends is = absurd (cc)

  -- an answer to a stray is one still, or goes where it may not
  lossy_astray_is : (d : TapDatagram) → (lossy_astray s d ≡ TapRoute.WrongPort) ⊎ (lossy_astray s d ≡ TapRoute.StrayAnswer)
  lossy_astray_is d = by (same_peer d.destination s.client || same_peer d.destination s.server) (ends_in d.payload) where
    by : (own ends : Bool) → ((if own then TapRoute.WrongPort else if ends then TapRoute.StrayAnswer else TapRoute.WrongPort) ≡ TapRoute.WrongPort) ⊎ ((if own then TapRoute.WrongPort else if ends then TapRoute.StrayAnswer else TapRoute.WrongPort) ≡ TapRoute.StrayAnswer)
    by true ends = inl refl
    by false true = inr refl
    by false false = inl refl

  astray_no_answer : (d : TapDatagram) → ends_in d.payload ≡ false → lossy_astray s d ≡ TapRoute.WrongPort
  astray_no_answer d none = rw (none) (by (same_peer d.destination s.client || same_peer d.destination s.server)) where
    by : (own : Bool) → (if own then TapRoute.WrongPort else TapRoute.WrongPort) ≡ TapRoute.WrongPort
    by true = refl
    by false = refl

  no_answer_ends : (gone ends : Bool) → astray_by gone ends ≡ TapRoute.NoStrayAnswer → ends ≡ false
  no_answer_ends true true is = absurd (cc)
  no_answer_ends true false is = refl
  no_answer_ends false ends is = absurd (cc)

  pub passing_stays : (earlier : List TapDatagram) (d : TapDatagram) → is_passing (tap_route s earlier d) ≡ true → is_passing (lossy_route s d) ≡ true
  passing_stays earlier d goes = elim (routes earlier d) [
    | inl astray ↦ absurd (true≢false (sym goes ∙ ap is_passing astray.0 ∙ not_passing (has_gone d.destination d.source earlier) (ends_in d.payload)))
    | inr more ↦ elim more [ inl same ↦ ap is_passing (sym same) ∙ goes | inr client ↦ ap is_passing client.1 ]
  ]

  abbrev Found : List TapDatagram → TapDatagram → Type 0
  Found earlier d = (other : Rule) × LossyBroken s earlier d other

  wrong_port : (earlier : List TapDatagram) (d : TapDatagram) → lossy_route s d ≡ TapRoute.WrongPort → Found earlier d
  wrong_port earlier d is = (rule.Port PortRule.Wrong, inl is)

  foreign : (earlier : List TapDatagram) (d : TapDatagram) → tap_route s earlier d ≡ TapRoute.ForeignPort → Found earlier d
  foreign earlier d is = elim (routes earlier d) [
    | inl astray ↦ absurd (not_foreign (has_gone d.destination d.source earlier) (ends_in d.payload) (sym astray.0 ∙ is))
    | inr more ↦ elim more [ inl same ↦ (rule.Port PortRule.Foreign, inl (sym same ∙ is)) | inr client ↦ let bad : TapRoute.WrongPort ≡ TapRoute.ForeignPort = sym client.0 ∙ is in absurd (cc) ]
  ]

  no_answer : (earlier : List TapDatagram) (d : TapDatagram) → tap_route s earlier d ≡ TapRoute.NoStrayAnswer → Found earlier d
  no_answer earlier d is = elim (routes earlier d) [
    | inl astray ↦ wrong_port earlier d (astray.1 ∙ astray_no_answer d (no_answer_ends (has_gone d.destination d.source earlier) (ends_in d.payload) (sym astray.0 ∙ is)))
    | inr more ↦ elim more [ inl same ↦ (rule.Port PortRule.BadAnswer, inl (inl (sym same ∙ is))) | inr client ↦ let bad : TapRoute.WrongPort ≡ TapRoute.NoStrayAnswer = sym client.0 ∙ is in absurd (cc) ]
  ]

  bad_answer : (earlier : List TapDatagram) (d : TapDatagram) → tap_route s earlier d ≡ TapRoute.StrayAnswer → ((text : List ℕ) → Spells d.payload (Message.Error 5 text) → ⊥) → Found earlier d
  bad_answer earlier d is none = elim (routes earlier d) [
    | inl astray ↦ elim (lossy_astray_is d) [ inl wrong ↦ wrong_port earlier d (astray.1 ∙ wrong) | inr answer ↦ (rule.Port PortRule.BadAnswer, inl (inr (astray.1 ∙ answer, none))) ]
    | inr more ↦ elim more [ inl same ↦ (rule.Port PortRule.BadAnswer, inl (inr (sym same ∙ is, none))) | inr client ↦ let bad : TapRoute.WrongPort ≡ TapRoute.StrayAnswer = sym client.0 ∙ is in absurd (cc) ]
  ]

  sides_stand : (earlier : List TapDatagram) (d : TapDatagram) (broken : Rule) → StandsWhateverIsMissing broken → SidesBreak (tap_route s earlier d) d broken → Found earlier d
  sides_stand earlier d (rule.Port PortRule.Foreign) stands b = foreign earlier d b
  sides_stand earlier d (rule.Port PortRule.BadAnswer) stands (inl b) = no_answer earlier d b
  sides_stand earlier d (rule.Port PortRule.BadAnswer) stands (inr b) = bad_answer earlier d b.0 b.1
  sides_stand earlier d (rule.Port PortRule.Wrong) stands b = absurd stands
  sides_stand earlier d _ stands b = absurd b

  -- ---- what is said in the transfer

  transfer_there : (earlier : List TapDatagram) (x : TapDatagram) → Contains (transfer_between s earlier) x → Contains earlier x × (is_passing (lossy_route s x) ≡ true)
  transfer_there [] x at = absurd (contains_none x at)
  transfer_there (d ∷ earlier) x at = elim (cases_Bool (is_passing (tap_route s earlier d))) [
    | inr off ↦ let r = transfer_there earlier x (subst (λ l. Contains l x) (left off) at) in (contains_later d earlier x r.0, r.1)
    | inl goes ↦ elim (contains_cases d (transfer_between s earlier) x (subst (λ l. Contains l x) (taken goes) at)) [
      | inl now ↦ (subst (Contains (d ∷ earlier)) now (contains_first d earlier), subst (λ (v : TapDatagram). is_passing (lossy_route s v) ≡ true) now (passing_stays earlier d goes))
      | inr before ↦ let r = transfer_there earlier x before in (contains_later d earlier x r.0, r.1)
    ]
  ]
    where
      left : is_passing (tap_route s earlier d) ≡ false → transfer_between s (d ∷ earlier) ≡ transfer_between s earlier
      left off = rw (off) refl

      taken : is_passing (tap_route s earlier d) ≡ true → transfer_between s (d ∷ earlier) ≡ d ∷ transfer_between s earlier
      taken goes = rw (goes) refl

  transfer_read : (earlier : List TapDatagram) → BreaksNoTapRule s earlier → (x : TapDatagram) → Contains (transfer_between s earlier) x → (n : Message) × Spells x.payload n
  transfer_read [] passes x at = absurd (contains_none x at)
  transfer_read (d ∷ earlier) passes x at = elim (cases_Bool (is_passing (tap_route s earlier d))) [
    | inr off ↦ transfer_read earlier passes.1 x (subst (λ l. Contains l x) (left off) at)
    | inl goes ↦ elim (contains_cases d (transfer_between s earlier) x (subst (λ l. Contains l x) (taken goes) at)) [
      | inl now ↦ subst (λ (v : TapDatagram). (n : Message) × Spells v.payload n) now (read_passing s apart d (tap_route s earlier d) goes passes.0.read)
      | inr before ↦ transfer_read earlier passes.1 x before
    ]
  ]
    where
      left : is_passing (tap_route s earlier d) ≡ false → transfer_between s (d ∷ earlier) ≡ transfer_between s earlier
      left off = rw (off) refl

      taken : is_passing (tap_route s earlier d) ≡ true → transfer_between s (d ∷ earlier) ≡ d ∷ transfer_between s earlier
      taken goes = rw (goes) refl

  -- who sent what a capture at one end has
  author_is : (r e : End) (x : TapDatagram) → x.source ≡ side_of s e → author_of r (recorded_at s r x).dir ≡ e
  author_is r e x source = by r e (source_is s apart x e r source) where
    out : (r : End) → same_peer x.source (side_of s r) ≡ true → (recorded_at s r x).dir ≡ Out
    out r is = rw (is) refl

    back : (r : End) → same_peer x.source (side_of s r) ≡ false → (recorded_at s r x).dir ≡ In
    back r is = rw (is) refl

    by : (r e : End) → same_peer x.source (side_of s r) ≡ same_end r e → author_of r (recorded_at s r x).dir ≡ e
    by Client Client is = ap (author_of Client) (out Client is)
    by Client Server is = ap (author_of Client) (back Client is)
    by Server Client is = ap (author_of Server) (back Server is)
    by Server Server is = ap (author_of Server) (out Server is)

  inner_there : (h : Header) (r : End) (ks : List TapDatagram) (dir : Dir) (n : Message) → Passed dir n (transfer_of h (map (recorded_at s r) ks)) → (x : TapDatagram) × Contains ks x × ((recorded_at s r x).dir ≡ dir) × Spells x.payload n
  inner_there h r [] dir n p = absurd p
  inner_there h r (k ∷ ks) dir n p = elim (cases_Bool (is_of_transfer (route_of h (map (recorded_at s r) ks) (recorded_at s r k)))) [
    | inr off ↦ later (inner_there h r ks dir n (subst (Passed dir n) (left off) p))
    | inl in_it ↦ elim (subst (Passed dir n) (taken in_it) p) [
      | inl now ↦ (k, contains_first k ks, now.0, subst (λ l. Spells l n) (recorded_payload s r k) now.1)
      | inr before ↦ later (inner_there h r ks dir n before)
    ]
  ]
    where
      left : is_of_transfer (route_of h (map (recorded_at s r) ks) (recorded_at s r k)) ≡ false → transfer_of h (map (recorded_at s r) (k ∷ ks)) ≡ transfer_of h (map (recorded_at s r) ks)
      left off = rw (off) refl

      taken : is_of_transfer (route_of h (map (recorded_at s r) ks) (recorded_at s r k)) ≡ true → transfer_of h (map (recorded_at s r) (k ∷ ks)) ≡ recorded_at s r k ∷ transfer_of h (map (recorded_at s r) ks)
      taken in_it = rw (in_it) refl

      later : ((x : TapDatagram) × Contains ks x × ((recorded_at s r x).dir ≡ dir) × Spells x.payload n) → (x : TapDatagram) × Contains (k ∷ ks) x × ((recorded_at s r x).dir ≡ dir) × Spells x.payload n
      later (x, at, is, spells) = (x, contains_later k ks x at, is, spells)

  recorded_there : (r : End) (ks : List TapDatagram) (y : Datagram) → Contains (map (recorded_at s r) ks) y → (x : TapDatagram) × Contains ks x × (recorded_at s r x ≡ y)
  recorded_there r [] y at = absurd (contains_none y at)
  recorded_there r (k ∷ ks) y at = elim (contains_cases (recorded_at s r k) (map (recorded_at s r) ks) y at) [
    | inl now ↦ (k, contains_first k ks, now)
    | inr before ↦ let found = recorded_there r ks y before in (found.0, contains_later k ks found.0 found.1, found.2)
  ]

  client_author : (r : End) (y : Datagram) (dir : Dir) → y.dir ≡ dir → is_from_client r y ≡ true → author_of r dir ≡ Client
  client_author Client y Out is from = refl
  client_author Client y In is from = absurd (true≢false (sym from ∙ in_false y is))
  client_author Server y In is from = refl
  client_author Server y Out is from = absurd (true≢false (sym from ∙ out_false y is))

  module _ (earlier : List TapDatagram) where
    said_there : (e : End) (n : Message) (x : TapDatagram) → Contains (transfer_between s earlier) x → x.source ≡ side_of s e → Spells x.payload n → IsSaid s earlier e n
    said_there e n x at source spells = let r = transfer_there earlier x at in said_in s e n earlier x r.0 (record { goes = r.1; source = source; spells = spells })

    asked_said : (asked : RequestParts) → FirstTapAsked s (transfer_between s earlier) asked → IsSaid s earlier Client (Message.Request asked)
    asked_said asked (x, first, spells) =
        let there = first_holds (tap_tests s).asks (transfer_between s earlier) x first in
        let parts = and_parts (same_peer x.source s.client) (asks_in x.payload) there.0 in
        said_there Client (Message.Request asked) x there.1 (is_same x.source s.client parts.0) spells

    abbrev kept : End → List TapDatagram
    kept r = kept_of (tap_tests s) r (transfer_between s earlier)

    recorded_said : (r : End) (n : Message) (x : TapDatagram) (dir : Dir) → Contains (kept r) x → (recorded_at s r x).dir ≡ dir → Spells x.payload n → IsSaid s earlier (author_of r dir) n
    recorded_said r n x dir at is spells =
        let there = kept_there (tap_tests s) r (transfer_between s earlier) x at in
        let (e, source) = passing_end s apart x (transfer_there earlier x there).1 in
        let author : e ≡ author_of r dir = sym (author_is r e x source) ∙ ap (author_of r) is in
        subst (λ g. IsSaid s earlier g n) author (said_there e n x there source spells)

    inner_said : (h : Header) (r : End) (dir : Dir) (n : Message) → Passed dir n (transfer_of h (map (recorded_at s r) (kept r))) → IsSaid s earlier (author_of r dir) n
    inner_said h r dir n p = let (x, at, is, spells) = inner_there h r (kept r) dir n p in recorded_said r n x dir at is spells

    has_said : (h : Header) (r : End) (n : Message) → HasPassed n (transfer_of h (map (recorded_at s r) (kept r))) → (e : End) × IsSaid s earlier e n
    has_said h r n (inl came) = (author_of r In, inner_said h r In n came)
    has_said h r n (inr went) = (author_of r Out, inner_said h r Out n went)

    inner_asked : (side : Side) (asked : RequestParts) → FirstAsked (header_at s side) (kept_between s side (transfer_between s earlier)) asked → IsSaid s earlier Client (Message.Request asked)
    inner_asked side asked (y, first, spells) =
        let there = first_holds (asks (header_at s side)) (kept_between s side (transfer_between s earlier)) y first in
        let (x, at, is) = recorded_there (receiver_of side) (kept (receiver_of side)) y there.1 in
        let from = (and_parts (is_from_client (receiver_of side) y) (begins_request y) (and_parts (is_from_client (receiver_of side) y && begins_request y) (port_of_server (receiver_of side) y == s.asked.port) there.0).0).0 in
        let these : Spells x.payload (Message.Request asked) = subst (λ l. Spells l (Message.Request asked)) (ap (λ (v : Datagram). v.payload) (sym is) ∙ recorded_payload s (receiver_of side) x) spells in
        subst (λ g. IsSaid s earlier g (Message.Request asked)) (client_author (receiver_of side) y y.dir refl from)
        (recorded_said (receiver_of side) (Message.Request asked) x y.dir at (ap (λ (v : Datagram). v.dir) is) these)

    -- the receiver keeps no ERROR of its own
    quiet_there : (h : Header) (r : End) (code : ℕ) (text : List ℕ) → Passed Out (Message.Error code text) (transfer_of h (map (recorded_at s r) (kept r))) → ⊥
    quiet_there h r code text p =
        let (x, at, is, spells) = inner_there h r (kept r) Out (Message.Error code text) p in
        true≢false (sym (ending r x is spells) ∙ none_of ((tap_tests s).ends r) (kept r) x at (kept_quiet (tap_tests s) r (transfer_between s earlier)))
      where
        own : (r : End) (x : TapDatagram) → (recorded_at s r x).dir ≡ Out → same_peer x.source (side_of s r) ≡ true
        own r x out = elim (cases_Bool (same_peer x.source (side_of s r))) [ inl is ↦ is | inr other ↦ let turned : In ≡ Out = sym (back other) ∙ out in absurd (cc) ] where
          back : same_peer x.source (side_of s r) ≡ false → (recorded_at s r x).dir ≡ In
          back is = rw (is) refl

        ending : (r : End) (x : TapDatagram) → (recorded_at s r x).dir ≡ Out → Spells x.payload (Message.Error code text) → (tap_tests s).ends r x ≡ true
        ending r x out spells = rw (own r x out, ends_says x.payload (Message.Error code text) spells) refl

    -- ---- one datagram of the transfer

    module _ (passes : BreaksNoTapRule s earlier) (d : TapDatagram) (goes : is_passing (lossy_route s d) ≡ true) where
      abbrev k : Known s apart earlier
      k = known s apart earlier (between_lossy s earlier ((rules_are_runs s apart earlier).1 passes))

      breaks_it : (e : End) (n : Message) → d.source ≡ side_of s e → Spells d.payload n → (asked : RequestParts) → IsSaid s earlier Client (Message.Request asked) → (broken : Rule) → LossyBreaks s earlier d asked e n broken → Found earlier d
      breaks_it e n source spells asked request broken b =
          (broken, inr (inr (record { end = e; message = n; says = record { goes = goes; source = source; spells = spells }; asked = asked; request = request; breaks = b })))

      wrong_kind : (e : End) (n : Message) → d.source ≡ side_of s e → Spells d.payload n → (asked : RequestParts) → IsSaid s earlier Client (Message.Request asked) → IsWrongKind e asked.side n → Found earlier d
      wrong_kind e n source spells asked request wrong = breaks_it e n source spells asked request rule.WrongKind (wrong_breaks s earlier d asked e n wrong)

      request_of_payload : (y : TapDatagram) → asks_in y.payload ≡ true → (n : Message) → Spells y.payload n → (asked : RequestParts) × Spells y.payload (Message.Request asked)
      request_of_payload y asking (Message.Request asked) spells = (asked, spells)
      request_of_payload y asking (Message.Oack options) spells = absurd (true≢false (sym asking ∙ asks_says y.payload (Message.Oack options) spells))
      request_of_payload y asking (Message.Data i bytes) spells = absurd (true≢false (sym asking ∙ asks_says y.payload (Message.Data i bytes) spells))
      request_of_payload y asking (Message.Ack i) spells = absurd (true≢false (sym asking ∙ asks_says y.payload (Message.Ack i) spells))
      request_of_payload y asking (Message.Error c t) spells = absurd (true≢false (sym asking ∙ asks_says y.payload (Message.Error c t) spells))

      -- something was asked for where something was said
      some_request : (x : TapDatagram) → Contains (transfer_between s earlier) x → (asked : RequestParts) × IsSaid s earlier Client (Message.Request asked)
      some_request x at =
          let p = parted s apart earlier passes in
          let cs = mains p.division in
          let each = mains_carried s says_some p.division p.labels in
          let lawful = mains_lawful s apart p.division p.labels (subst (BreaksNoTapRule s) (sym p.whole) passes) in
          let same : transfer_between s earlier ≡ map datagram_in cs = ap (transfer_between s) (sym p.whole) ∙ transfer_is s apart p.division p.labels in
          elim (cases_Bool (list_any pair_tests.asks cs)) [
            | inr none ↦ absurd (contains_none x (subst (λ l. Contains l x) (same ∙ ap (map datagram_in) (none_asked s apart cs lawful each none)) at))
            | inl some ↦
                let (y, there, asking) = some_of (tap_tests s).asks (transfer_between s earlier) (ap (list_any (tap_tests s).asks) same ∙ asks_is s apart cs each ∙ some) in
                let parts = and_parts (same_peer y.source s.client) (asks_in y.payload) asking in
                let read = transfer_read earlier passes y there in
                let (asked, spells) = request_of_payload y parts.1 read.0 read.1 in
                (asked, said_there Client (Message.Request asked) y there (is_same y.source s.client parts.0) spells)
          ]

      -- ---- by what it says, after all that has passed

      errors_stand : OtherError s (transfer_between s earlier) d → Found earlier d
      errors_stand o =
          let (x, at, is) = any_there (λ (v : TapDatagram). (v.source ≡ side_of s o.end) × Spells v.payload (Message.Error o.first_code o.first_text)) (transfer_between s earlier) o.before in
          let (asked, request) = some_request x at in
          breaks_it o.end (Message.Error o.code o.text) o.source o.says asked request rule.AfterError
          (o.first_code, o.first_text, said_there o.end (Message.Error o.first_code o.first_text) x at is.0 is.1, λ same. o.differs (cc, cc))

      passing_stands : (broken : Rule) → StandsWhateverIsMissing broken → PassingBreaks s (transfer_between s earlier) (tap_route s earlier d) d broken → Found earlier d
      passing_stands (rule.Malformed fault) stands b = (rule.Malformed fault, inr (inl (goes, b)))
      passing_stands rule.WrongKind stands (asked, first, e, source, (n, spells, wrong)) = wrong_kind e n source spells asked (asked_said asked first) wrong
      passing_stands rule.AfterError stands b = errors_stand b
      passing_stands rule.RequestChanged stands (first, now, is, source, spells, differs) = breaks_it Client (Message.Request now) source spells first (asked_said first is) rule.RequestChanged differs
      passing_stands (rule.Port port) stands b = absurd b
      passing_stands (rule.Agreement broken) stands b = absurd b
      passing_stands rule.OackChanged stands b = absurd b
      passing_stands (rule.Block broken) stands b = absurd b
      passing_stands _ stands b = absurd stands

      late_stands : (broken : Rule) → StandsWhateverIsMissing broken → LateBroken s (transfer_between s earlier) d broken → Found earlier d
      late_stands broken stands l = absurd (by l.message broken stands l.breaks) where
        by : (n : Message) (broken : Rule) → StandsWhateverIsMissing broken → LateBreaks s l.asked.side (transfer_between s earlier) n broken → ⊥
        by (Message.Data i bytes) (rule.Block EndRule.NotStarted) stands b = stands
        by (Message.Ack j) (rule.Block EndRule.AckAhead) stands b = stands
        by (Message.Ack j) (rule.Block EndRule.AckZero) stands b = stands
        by _ _ stands b = b

      -- ---- by what the end that gets the file would keep

      module _ (side : Side) (e : End) (source : d.source ≡ side_of s e) where
        abbrev h : Header
        h = header_at s side

        abbrev inner : List Datagram
        inner = transfer_of h (kept_between s side (transfer_between s earlier))

        abbrev dir : Dir
        dir = (recorded_at s (receiver_of side) d).dir

        oack_changed : (asked : RequestParts) → IsSaid s earlier Client (Message.Request asked) → (options first : OptionMap) → Spells d.payload (Message.Oack options)
            → FirstAnswer asked.side inner (Agrees first) → (options ≢ first) → Found earlier d
        oack_changed asked request options first spells answer differs =
            let (f, said) = has_said h (receiver_of side) (Message.Oack first) (oack_from asked.side inner first answer) in
            by e source (subst (λ g. IsSaid s earlier g (Message.Oack first)) (agrees s apart earlier k f (told_oack s apart earlier k f first said).1).0 said)
          where
            by : (g : End) → d.source ≡ side_of s g → IsSaid s earlier Server (Message.Oack first) → Found earlier d
            by Client from said = wrong_kind Client (Message.Oack options) from spells asked request (wrong_oack asked.side options)
            by Server from said = breaks_it Server (Message.Oack options) from spells asked request rule.OackChanged (first, said, differs)

        block_changed : (asked : RequestParts) → IsSaid s earlier Client (Message.Request asked) → (i : ℕ) (bytes other : List ℕ) → Spells d.payload (Message.Data i bytes)
            → HasPassed (Message.Data i other) inner → (other ≢ bytes) → Found earlier d
        block_changed asked request i bytes other spells there differs =
            let (f, said) = has_said h (receiver_of side) (Message.Data i other) there in
            let sender : f ≡ sender_of asked.side = (sends s apart earlier k f i (told_data s apart earlier k f i other said).1).0 ∙ ap (λ (r : RequestParts). sender_of r.side) (sym (told_request s apart earlier k Client asked request).0) in
            by asked.side refl e source (subst (λ g. IsSaid s earlier g (Message.Data i other)) sender said)
          where
            changed : (g : End) → d.source ≡ side_of s g → IsSaid s earlier g (Message.Data i other) → Found earlier d
            changed g from said = breaks_it g (Message.Data i bytes) from spells asked request (rule.Block EndRule.BlockChanged) (other, said, λ same. differs (sym same))

            wrong : (g : End) → d.source ≡ side_of s g → IsWrongKind g asked.side (Message.Data i bytes) → Found earlier d
            wrong g from is = wrong_kind g (Message.Data i bytes) from spells asked request is

            by : (way : Side) → asked.side ≡ way → (g : End) → d.source ≡ side_of s g → IsSaid s earlier (sender_of asked.side) (Message.Data i other) → Found earlier d
            by Get is Client from said = wrong Client from (subst (λ w. IsWrongKind Client w (Message.Data i bytes)) (sym is) tt)
            by Get is Server from said = changed Server from (subst (λ w. IsSaid s earlier (sender_of w) (Message.Data i other)) is said)
            by Put is Server from said = wrong Server from (subst (λ w. IsWrongKind Server w (Message.Data i bytes)) (sym is) tt)
            by Put is Client from said = changed Client from (subst (λ w. IsSaid s earlier (sender_of w) (Message.Data i other)) is said)

        module _ (asked : RequestParts) (request : IsSaid s earlier Client (Message.Request asked)) where
          data_stands : (i : ℕ) (bytes : List ℕ) → Spells d.payload (Message.Data i bytes) → (broken : EndRule) → StandsWhateverIsMissing (rule.Block broken) → (t : Terms) → EndBroken t inner (Message.Data i bytes) broken → Found earlier d
          data_stands i bytes spells EndRule.BlockZero stands t b = breaks_it e (Message.Data i bytes) source spells asked request (rule.Block EndRule.BlockZero) b
          data_stands i bytes spells EndRule.BlockChanged stands t (other, there, differs) = block_changed asked request i bytes other spells there differs
          data_stands i bytes spells _ stands t b = absurd stands

          ack_stands : (i : ℕ) (broken : EndRule) → StandsWhateverIsMissing (rule.Block broken) → (t : Terms) → EndBroken t inner (Message.Ack i) broken → Found earlier d
          ack_stands i EndRule.BlockZero stands t b = absurd b
          ack_stands i EndRule.BlockChanged stands t b = absurd b
          ack_stands i _ stands t b = absurd stands

          kind_stands : (n : Message) → Spells d.payload n → (broken : Rule) → StandsWhateverIsMissing broken → KindBreaks h asked inner dir n broken → Found earlier d
          kind_stands (Message.Request now) spells rule.RequestChanged stands b = breaks_it e (Message.Request now) source spells asked request rule.RequestChanged b
          kind_stands (Message.Request now) spells rule.RequestAfterStart stands b = absurd stands
          kind_stands (Message.Request now) spells broken stands b = absurd b
          kind_stands (Message.Error code text) spells broken stands b = absurd b
          kind_stands (Message.Oack options) spells (rule.Agreement broken) stands b = breaks_it e (Message.Oack options) source spells asked request (rule.Agreement broken) b.1
          kind_stands (Message.Oack options) spells rule.OackChanged stands (first, answer, differs) = oack_changed asked request options first spells answer differs
          kind_stands (Message.Oack options) spells (rule.Port port) stands b = absurd b.1
          kind_stands (Message.Oack options) spells (rule.Malformed fault) stands b = absurd b.1
          kind_stands (Message.Oack options) spells rule.WrongKind stands b = absurd b.1
          kind_stands (Message.Oack options) spells rule.AfterError stands b = absurd b.1
          kind_stands (Message.Oack options) spells rule.RequestChanged stands b = absurd b.1
          kind_stands (Message.Oack options) spells (rule.Block EndRule.BlockZero) stands b = absurd b.1
          kind_stands (Message.Oack options) spells (rule.Block EndRule.BlockChanged) stands b = absurd b.1
          kind_stands (Message.Oack options) spells _ stands b = absurd stands
          kind_stands (Message.Data i bytes) spells broken stands (x, is, t, known, b) = data_stands i bytes spells x (subst StandsWhateverIsMissing is stands) t b
          kind_stands (Message.Ack i) spells broken stands (x, is, t, known, b) = ack_stands i x (subst StandsWhateverIsMissing is stands) t b

        goes_on_stands : (asked : RequestParts) → IsSaid s earlier Client (Message.Request asked) → (n : Message) → Spells d.payload n → GoesOn inner dir n → Found earlier d
        goes_on_stands asked request n spells (stop, (code, text, stopped), there, differs, inl out) =
            absurd (quiet_there h (receiver_of side) code text (subst (λ g. Passed g (Message.Error code text) inner) out (subst (λ v. Passed dir v inner) stopped there)))
        goes_on_stands asked request n spells (stop, (code, text, stopped), there, differs, inr (c, t, now)) =
            let said = subst (λ g. IsSaid s earlier g (Message.Error code text)) (author_is (receiver_of side) e d source) (inner_said h (receiver_of side) dir (Message.Error code text) (subst (λ v. Passed dir v inner) stopped there)) in
            breaks_it e (Message.Error c t) source (subst (Spells d.payload) now spells) asked request rule.AfterError (code, text, said, λ same. differs (now ∙ same ∙ sym stopped))

        message_stands : (broken : Rule) → StandsWhateverIsMissing broken → MessageBroken h (kept_between s side (transfer_between s earlier)) (recorded_at s (receiver_of side) d) broken → Found earlier d
        message_stands broken stands x = by x.breaks where
          spells : Spells d.payload x.message
          spells = subst (λ l. Spells l x.message) (recorded_payload s (receiver_of side) d) x.says.spells

          request : IsSaid s earlier Client (Message.Request x.asked)
          request = inner_asked side x.asked x.first

          by : MessageBreaks h x.asked inner dir x.message broken → Found earlier d
          by (inl (is, wrong)) = wrong_kind e x.message source spells x.asked request (subst (λ g. IsWrongKind g x.asked.side x.message) (author_is (receiver_of side) e d source) wrong)
          by (inr (inl (is, on))) = goes_on_stands x.asked request x.message spells on
          by (inr (inr b)) = kind_stands x.asked request x.message spells broken stands b

        kept_stands : (broken : Rule) → StandsWhateverIsMissing broken → is_of_ports broken ≡ false → Broken h (kept_between s side (transfer_between s earlier)) (recorded_at s (receiver_of side) d) broken → Found earlier d
        kept_stands (rule.Port port) stands content b = absurd (true≢false content)
        kept_stands (rule.Malformed fault) stands content b = (rule.Malformed fault, inr (inl (goes, subst (λ l. FirstFault l fault) (recorded_payload s (receiver_of side) d) b.1)))
        kept_stands rule.WrongKind stands content b = message_stands rule.WrongKind stands b
        kept_stands rule.AfterError stands content b = message_stands rule.AfterError stands b
        kept_stands rule.RequestChanged stands content b = message_stands rule.RequestChanged stands b
        kept_stands (rule.Agreement broken) stands content b = message_stands (rule.Agreement broken) stands b
        kept_stands rule.OackChanged stands content b = message_stands rule.OackChanged stands b
        kept_stands (rule.Block broken) stands content b = message_stands (rule.Block broken) stands b
        kept_stands _ stands content b = absurd stands

pub breaks_lossy : (s : TapSides) (earlier : List TapDatagram) (d : TapDatagram) (broken : Rule) → AreApart s → BreaksNoTapRule s earlier → TapBroken s earlier d broken → StandsWhateverIsMissing broken
    → (other : Rule) × LossyBroken s earlier d other
breaks_lossy s earlier d broken apart passes (inl b) stands = sides_stand s apart earlier d broken stands b
breaks_lossy s earlier d broken apart passes (inr (going, more)) stands = by more where
  goes : is_passing (lossy_route s d) ≡ true
  goes = passing_stays s apart earlier d going

  by : PassingBreaks s (transfer_between s earlier) (tap_route s earlier d) d broken ⊎ (LateBroken s (transfer_between s earlier) d broken ⊎ KeptBreaks s (transfer_between s earlier) d broken) → (other : Rule) × LossyBroken s earlier d other
  by (inl b) = passing_stands s apart earlier passes d goes broken stands b
  by (inr (inl b)) = late_stands s apart earlier passes d goes broken stands b
  by (inr (inr b)) = let (e, source) = passing_end s apart d goes in kept_stands s apart earlier passes d goes b.asked.side e source broken stands b.of_content b.breaks

pub standing_is_certain : (s : TapSides) (earlier : List TapDatagram) (d : TapDatagram) (broken : Rule) → AreApart s → BreaksNoTapRule s earlier → TapBroken s earlier d broken → StandsWhateverIsMissing broken → IsCertainBetween s earlier d
standing_is_certain s earlier d broken apart passes b stand = let (other, lossy) = breaks_lossy s earlier d broken apart passes b stand in broken_is_certain s earlier d other apart lossy
