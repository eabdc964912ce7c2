-- What breaks no rule between the ends divides; and what its main datagrams break none of.
use Rattle.std.proofs.Common.{◌≡◌, ◌⊎◌, Bool, true, false, List, [], ◌∷◌, Any, Some, None, Option, inl, inr, refl, sym, subst, ap, ◌∙◌, map}
use Rattle.std.specs.List.{list_any}
use Rattle.std.proofs.lemmas.Bool.{true≢false, cases_Bool}
use Rattle.tftp_packet.specs.{Message, RequestParts, Spells, Side, Get, Put, End, Client, Server}
use Rattle.law_model.specs.Model.Machines.{sender_of, receiver_of}
use Rattle.law_model.specs.Model.{MachinePacket, Req, Oack, Data, Ack, Error}
use Rattle.law_model.specs.Rules.{first_of, or_this}
use Rattle.law_end.specs.{packet_in, says_some, IsWrongKind, Rule}
use Rattle.law_end.specs.declared.rule.Rule.TheVariants as rule
use Rattle.law_end.proofs.FirstBroken.FirstRequests.{some_same, or_none, first_stays}
use Rattle.law_end.proofs.Soundness.SameOrNot.{same_request}
use Rattle.law_end.proofs.Division.Divided.{any_none, any_cases}
use Rattle.law_tap.specs.{Pass, TapDatagram, TapSides, side_of, AreApart, same_end, TapLabel, Main, TapLabelled, TapDivision, tapped_of, IsMainFrom, CarriesPass, HasTapLabel, HaveTapLabels, tap_tests, tap_route, is_passing, transfer_between, FirstTapAsked, PassingBreaks, LateBroken, KeptBreaks, TapPasses, BreaksNoTapRule}
use Rattle.law_tap.specs.TapDress.{Stray, StrayAnswer}
use Rattle.law_tap.proofs.KeptOf.{any_here, any_skip, any_more}
use Rattle.law_tap.proofs.TapPlacing.{has_label}
use Rattle.law_tap.proofs.TapRouted.{Carried, add_main, mains, pass_route, route_is, transfer_is, passing_is}
use Rattle.law_tap.proofs.TapRecorded.{Each, asks_same, IsCarried, pair_tests, datagram_in, datagrams_each}

-- ---- it divides

pub record Parted (s : TapSides) (tapped : List TapDatagram) : Type 0 where
  pub division : TapDivision
  pub whole : tapped_of division ≡ tapped
  pub labels : HaveTapLabels s says_some division

pub parted : (s : TapSides) → AreApart s → (tapped : List TapDatagram) → BreaksNoTapRule s tapped → Parted s tapped
parted s apart [] passes = record { division = []; whole = refl; labels = tt }
parted s apart (d ∷ earlier) passes =
    let before = parted s apart earlier passes.1 in
    let now = has_label s apart before.division before.labels d (subst (λ l. TapPasses s l d) (sym before.whole) passes.0) in
    record { division = record { datagram = d; label = now.0 } ∷ before.division; whole = ap (λ l. d ∷ l) before.whole; labels = (now.1, before.labels) }

-- ---- what a main datagram keeps to

pub record Lawful (s : TapSides) (c : Carried) (cs : List Carried) : Type 0 where
  pub answered : c.pass.from ≡ Client → (c.pass.packet ≡ Req → ⊥) → list_any pair_tests.answers cs ≡ true
  pub passing : (broken : Rule) → PassingBreaks s (map datagram_in cs) (pass_route c.pass.from c.pass.packet) c.datagram broken → ⊥
  pub late : (broken : Rule) → LateBroken s (map datagram_in cs) c.datagram broken → ⊥
  pub kept : (broken : Rule) → KeptBreaks s (map datagram_in cs) c.datagram broken → ⊥

abbrev pub AreLawful : TapSides → List Carried → Type 0
AreLawful s [] = Unit {0}
AreLawful s (c ∷ cs) = Lawful s c cs × AreLawful s cs

module _ (s : TapSides) (apart : AreApart s) where
  main_answers : (division : TapDivision) → Any (λ p. IsMainFrom Server p.label) division → list_any pair_tests.answers (mains division) ≡ true
  main_answers [] any = absurd (any_none (λ (p : TapLabelled). IsMainFrom Server p.label) any)
  main_answers (p ∷ division) any = elim (any_cases (λ (q : TapLabelled). IsMainFrom Server q.label) p division any) [
    | inl (packet, now) ↦ subst (λ label. list_any pair_tests.answers (add_main p.datagram label (mains division)) ≡ true) (sym now) (any_here pair_tests.answers (record { datagram = p.datagram; pass = record { from = Server; packet = packet } }) (mains division) refl)
    | inr before ↦ by p.label (main_answers division before)
  ]
    where
      by : (label : TapLabel) → list_any pair_tests.answers (mains division) ≡ true → list_any pair_tests.answers (add_main p.datagram label (mains division)) ≡ true
      by (Main x) some = any_more pair_tests.answers (record { datagram = p.datagram; pass = x }) (mains division) some
      by Stray some = some
      by StrayAnswer some = some

  main_lawful : (division : TapDivision) → HaveTapLabels s says_some division → (d : TapDatagram) (x : Pass) → CarriesPass s says_some division d x → TapPasses s (tapped_of division) d → Lawful s (record { datagram = d; pass = x }) (mains division)
  main_lawful division labels d x c passes = record {
    answered = answered x.from x.packet c;
    passing = λ broken b. broken_none broken (inl (subst (λ l. PassingBreaks s l (tap_route s (tapped_of division) d) d broken) (sym transfer) (subst (λ route. PassingBreaks s (map datagram_in (mains division)) route d broken) (sym route) b)));
    late = λ broken b. broken_none broken (inr (inl (subst (λ l. LateBroken s l d broken) (sym transfer) b)));
    kept = λ broken b. broken_none broken (inr (inr (subst (λ l. KeptBreaks s l d broken) (sym transfer) b)));
  }
    where
      transfer : transfer_between s (tapped_of division) ≡ map datagram_in (mains division)
      transfer = transfer_is s apart division labels

      route : tap_route s (tapped_of division) d ≡ pass_route x.from x.packet
      route = route_is s apart division labels d (Main x) c

      broken_none : (broken : Rule) → PassingBreaks s (transfer_between s (tapped_of division)) (tap_route s (tapped_of division) d) d broken
          ⊎ (LateBroken s (transfer_between s (tapped_of division)) d broken ⊎ KeptBreaks s (transfer_between s (tapped_of division)) d broken) → ⊥
      broken_none broken b = passes.lawful broken (inr (ap is_passing route ∙ passing_is x.from x.packet, b))

      answered : (f : End) (p : MachinePacket) → CarriesPass s says_some division d (record { from = f; packet = p }) → f ≡ Client → (p ≡ Req → ⊥) → list_any pair_tests.answers (mains division) ≡ true
      answered Client Req c same other = absurd (other refl)
      answered Server p c same other = absurd (cc)
      answered Client _ c same other = main_answers division c.goes.1

  pub mains_lawful : (division : TapDivision) → HaveTapLabels s says_some division → BreaksNoTapRule s (tapped_of division) → AreLawful s (mains division)
  mains_lawful [] labels passes = tt
  mains_lawful (p ∷ division) labels passes = by p.label labels.0 (mains_lawful division labels.1 passes.1) where
    by : (label : TapLabel) → HasTapLabel s says_some division p.datagram label → AreLawful s (mains division) → AreLawful s (add_main p.datagram label (mains division))
    by (Main x) c before = (main_lawful division labels.1 p.datagram x c passes.0, before)
    by Stray c before = before
    by StrayAnswer c before = before

  -- ---- the first request

  pub asks_is : (cs : List Carried) → Each (IsCarried s says_some) cs → list_any (tap_tests s).asks (map datagram_in cs) ≡ list_any pair_tests.asks cs
  asks_is cs each = asks_same datagram_in pair_tests (tap_tests s) cs (datagrams_each s apart cs each)

  -- each packet of the server's follows a request
  pub server_after : (c : Carried) (cs : List Carried) → Lawful s c cs → c.pass.from ≡ Server → Each (IsCarried s says_some) cs → list_any pair_tests.asks cs ≡ true
  server_after c cs lawful server each = elim (cases_Bool (list_any pair_tests.asks cs)) [
    | inl is ↦ is
    | inr none ↦ absurd (lawful.passing rule.NoRequest (asks_is cs each ∙ none, ap (λ f. pass_route f c.pass.packet) server))
  ]

  pub is_req_or : (p : MachinePacket) → (p ≡ Req) ⊎ (p ≡ Req → ⊥)
  is_req_or Req = inl refl
  is_req_or _ = inr (λ is. cc)

  -- a list with a packet of the server's has a request
  pub answers_asked : (cs : List Carried) → AreLawful s cs → Each (IsCarried s says_some) cs → list_any pair_tests.answers cs ≡ true → list_any pair_tests.asks cs ≡ true
  answers_asked [] lawful each some = absurd (true≢false (sym some))
  answers_asked (c ∷ cs) lawful each some = any_more pair_tests.asks c cs (elim (cases_Bool (pair_tests.answers c)) [
    | inl now ↦ server_after c cs lawful.0 (server_is c.pass.from now) each.1
    | inr other ↦ answers_asked cs lawful.1 each.1 (sym (any_skip pair_tests.answers c cs other) ∙ some)
  ])
    where
      server_is : (f : End) → same_end Server f ≡ true → f ≡ Server
      server_is Server is = refl
      server_is Client is = absurd (true≢false (sym is))

  -- what has no request has nothing
  pub none_asked : (cs : List Carried) → AreLawful s cs → Each (IsCarried s says_some) cs → list_any pair_tests.asks cs ≡ false → cs ≡ []
  none_asked [] lawful each none = refl
  none_asked (c ∷ cs) lawful each none = absurd (true≢false (sym (some c.pass.from c.pass.packet refl refl) ∙ none)) where
    some : (f : End) (p : MachinePacket) → c.pass.from ≡ f → c.pass.packet ≡ p → list_any pair_tests.asks (c ∷ cs) ≡ true
    some Server p from packet = any_more pair_tests.asks c cs (server_after c cs lawful.0 from each.1)
    some Client p from packet = elim (is_req_or p) [
      | inl req ↦ any_here pair_tests.asks c cs (rw (from, packet, req) refl)
      | inr other ↦ any_more pair_tests.asks c cs (answers_asked cs lawful.1 each.1 (lawful.0.answered from (λ is. other (sym packet ∙ is))))
    ]

  -- ---- ends and kinds

  abbrev pub Sends : Side → End → MachinePacket → Type 0
  Sends side e Req = e ≡ Client
  Sends side e Oack = e ≡ Server
  Sends side e (Data k) = e ≡ sender_of side
  Sends side e (Ack j) = e ≡ receiver_of side
  Sends side e (Error code text) = Unit {0}

  sends_message : (side : Side) (e : End) (n : Message) (p : MachinePacket) → packet_in n ≡ Some p → (IsWrongKind e side n → ⊥) → Sends side e p
  sends_message side e n p is right = subst (Sends side e) (some_same (of n) p (sym (is_of n) ∙ is)) (by side e n right) where
    of : Message → MachinePacket
    of (Message.Request asked) = Req
    of (Message.Oack options) = Oack
    of (Message.Data k bytes) = Data k
    of (Message.Ack j) = Ack j
    of (Message.Error code text) = Error code text

    is_of : (n : Message) → packet_in n ≡ Some (of n)
    is_of (Message.Request asked) = refl
    is_of _ = refl

    by : (side : Side) (e : End) (n : Message) → (IsWrongKind e side n → ⊥) → Sends side e (of n)
    by side Client (Message.Request asked) right = refl
    by Get Server (Message.Request asked) right = absurd (right tt)
    by Put Server (Message.Request asked) right = absurd (right tt)
    by Get Client (Message.Oack options) right = absurd (right tt)
    by Put Client (Message.Oack options) right = absurd (right tt)
    by side Server (Message.Oack options) right = refl
    by Get Client (Message.Data k bytes) right = absurd (right tt)
    by Put Client (Message.Data k bytes) right = refl
    by Get Server (Message.Data k bytes) right = refl
    by Put Server (Message.Data k bytes) right = absurd (right tt)
    by Get Client (Message.Ack j) right = refl
    by Put Client (Message.Ack j) right = absurd (right tt)
    by Get Server (Message.Ack j) right = absurd (right tt)
    by Put Server (Message.Ack j) right = refl
    by side e (Message.Error code text) right = tt

-- ---- after the first request

none_first : {X : Type 0} (test : X → Bool) (xs : List X) → first_of test xs ≡ None → list_any test xs ≡ false
none_first test [] none = refl
none_first test (x ∷ xs) none = let both = or_none (first_of test xs) (test x) x none in any_skip test x xs both.1 ∙ none_first test xs both.0

pub some_first : {X : Type 0} (test : X → Bool) (xs : List X) → list_any test xs ≡ true → (o : Option X) → first_of test xs ≡ o → (x : X) × (first_of test xs ≡ Some x)
some_first test xs some (Some x) is = (x, is)
some_first test xs some None is = absurd (true≢false (sym some ∙ none_first test xs is))

module _ (s : TapSides) (apart : AreApart s) (asked : RequestParts) where
  -- the first request of a list is that of what it begins with
  pub begins_before : (c : Carried) (cs : List Carried) → AreLawful s cs → Each (IsCarried s says_some) cs → FirstTapAsked s (map datagram_in (c ∷ cs)) asked → (cs ≡ []) ⊎ FirstTapAsked s (map datagram_in cs) asked
  begins_before c cs lawful each (d, first, says) = elim (cases_Bool (list_any pair_tests.asks cs)) [
    | inr none ↦ inl (none_asked s apart cs lawful each none)
    | inl some ↦
        let found = some_first (tap_tests s).asks (map datagram_in cs) (asks_is s apart cs each ∙ some) (first_of (tap_tests s).asks (map datagram_in cs)) refl in
        let same : found.0 ≡ d = some_same found.0 d (sym (first_stays (tap_tests s).asks c.datagram found.0 (map datagram_in cs) found.1) ∙ first) in
        inr (d, found.1 ∙ ap Some same, says)
  ]

  alone : (c : Carried) → IsCarried s says_some c → Lawful s c [] → FirstTapAsked s (map datagram_in (c ∷ [])) asked → (c.pass.from ≡ Client) × (c.pass.packet ≡ Req) × Spells c.datagram.payload (Message.Request asked)
  alone c is lawful (d, first, says) = by c.pass.from c.pass.packet refl refl where
    by : (f : End) (p : MachinePacket) → c.pass.from ≡ f → c.pass.packet ≡ p → (c.pass.from ≡ Client) × (c.pass.packet ≡ Req) × Spells c.datagram.payload (Message.Request asked)
    by Server p from packet = absurd (true≢false (sym (server_after s apart c [] lawful from tt)))
    by Client p from packet = elim (is_req_or s apart p) [
      | inr other ↦ absurd (true≢false (sym (lawful.answered from (λ is. other (sym packet ∙ is)))))
      | inl req ↦ (from, packet ∙ req, subst (λ (x : TapDatagram). Spells x.payload (Message.Request asked)) (sym (here ((tap_tests s).asks c.datagram) first)) says)
    ]
      where
        here : (b : Bool) → or_this None b c.datagram ≡ Some d → c.datagram ≡ d
        here true is = cc
        here false is = absurd (cc)

  -- what each main datagram is, after the first request
  pub record Right (c : Carried) : Type 0 where
    pub sends : Sends s apart asked.side c.pass.from c.pass.packet
    pub request : c.pass.packet ≡ Req → Spells c.datagram.payload (Message.Request asked)

  right_later : (c : Carried) (cs : List Carried) → IsCarried s says_some c → Lawful s c cs → FirstTapAsked s (map datagram_in cs) asked → Right c
  right_later c cs is lawful first = record {
    sends = sends_message s apart asked.side c.pass.from is.spells.0 c.pass.packet is.spells.2 (λ wrong. lawful.passing rule.WrongKind (asked, first, c.pass.from, is.source, (is.spells.0, is.spells.1, wrong)));
    request = λ req. again req is.spells.0 is.spells.1 is.spells.2;
  }
    where
      from_client : c.pass.packet ≡ Req → c.datagram.source ≡ s.client
      from_client req =
          let sends = sends_message s apart asked.side c.pass.from is.spells.0 c.pass.packet is.spells.2 (λ wrong. lawful.passing rule.WrongKind (asked, first, c.pass.from, is.source, (is.spells.0, is.spells.1, wrong))) in
          let client : c.pass.from ≡ Client = subst (Sends s apart asked.side c.pass.from) req sends in
          is.source ∙ ap (side_of s) client

      again : c.pass.packet ≡ Req → (n : Message) → Spells c.datagram.payload n → packet_in n ≡ Some c.pass.packet → Spells c.datagram.payload (Message.Request asked)
      again req (Message.Request now) t at = elim (same_request now asked) [
        | inl same ↦ subst (λ q. Spells c.datagram.payload (Message.Request q)) same t
        | inr differs ↦ absurd (lawful.passing rule.RequestChanged (asked, now, first, from_client req, t, differs))
      ]
      again req (Message.Oack options) t at = let bad : Some Oack ≡ Some Req = at ∙ ap Some req in absurd (cc)
      again req (Message.Data k bytes) t at = let bad : Some (Data k) ≡ Some Req = at ∙ ap Some req in absurd (cc)
      again req (Message.Ack j) t at = let bad : Some (Ack j) ≡ Some Req = at ∙ ap Some req in absurd (cc)
      again req (Message.Error code text) t at = let bad : Some (Error code text) ≡ Some Req = at ∙ ap Some req in absurd (cc)

  pub rights : (cs : List Carried) → AreLawful s cs → Each (IsCarried s says_some) cs → (cs ≡ []) ⊎ FirstTapAsked s (map datagram_in cs) asked → Each Right cs
  rights [] lawful each begins = tt
  rights (c ∷ cs) lawful each (inl none) = absurd (cc)
  rights (c ∷ cs) lawful each (inr first) = elim (begins_before c cs lawful.1 each.1 first) [
    | inr before ↦ (right_later c cs each.0 lawful.0 before, rights cs lawful.1 each.1 (inr before))
    | inl none ↦
        let one = alone c each.0 (subst (Lawful s c) none lawful.0) (subst (λ l. FirstTapAsked s (map datagram_in (c ∷ l)) asked) none first) in
        (record { sends = subst (Sends s apart asked.side c.pass.from) (sym one.1) one.0; request = λ req. one.2 }, subst (Each Right) (sym none) tt)
  ]
