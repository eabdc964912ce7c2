-- A lawful list of which a capture is what was seen, where all that it says is said sometime in one run.
use Rattle.std.proofs.Common.{◌≡◌, ◌⊎◌, ℕ, true, false, List, [], ◌∷◌, Any, inl, inr, refl, sym, subst, ap, ◌∙◌, arith, ◌==◌, ◌&&◌}
use Rattle.std.specs.List.{AllByRecursion}
use Rattle.std.proofs.lemmas.Bool.{true≢false, cases_Bool, and_from, eq-eqb}
use Rattle.tftp_packet.specs.{Message, Spells, Side, Get, Put, End, Client, Server}
use Rattle.tftp_packet.specs.Hosts.{same_peer}
use Rattle.law_model.specs.Model.{Meaning, MachinePacket, Req, Oack, Data, Ack, Error, message_of, Sent, HasSent, MaySendError}
use Rattle.law_model.specs.Model.Machines.{sender_of, receiver_of}
use Rattle.law_model.proofs.ModelLemmas.Members.{contains_first, contains_later}
use Rattle.law_end.specs.{BeginsAsRequest, Fits, says_of}
use Rattle.law_end.proofs.Division.Divided.{any_first, any_later}
use Rattle.law_end.proofs.Division.RouteTests.{is_same, apart_is}
use Rattle.law_tap.specs.{Pass, TapStep, Does, Passes, did, passed_in, IsTappedRun, TapDatagram, TapSides, side_of, AreApart, Main, TapLabelled, TapDivision, tapped_of, passed_of, IsMainFrom, GoesThere, PassesAstray, HaveTapLabels, asks_in, ends_in, is_passing, IsTapRead, TapRoute}
use Rattle.law_tap.specs.TapDress.{Stray, StrayAnswer}
use Rattle.law_tap.specs.Losses.{Loses, kept, lost}
use Rattle.law_tap.specs.LossesBetween.{IsLawfulBetweenWithLosses}
use Rattle.law_tap.specs.LossyRules.{lossy_astray, lossy_route, IsSaidBy, IsSaid}
use Rattle.law_tap.proofs.Left.{loses_all}
use Rattle.law_tap.proofs.LossyEager.{Sometime}
use Rattle.law_tap.proofs.LossyTold.{Quiet, way_of, Telling, answered}
use Rattle.law_tap.proofs.OneRun.{did_pass}
use Rattle.law_tap.proofs.OneTap.{Has}
use Rattle.law_tap.proofs.Passed.{at_sent, at_took, sent_passed}
use Rattle.law_tap.proofs.TapTests.{asks_says}

begins_asks : (payload : List ℕ) → BeginsAsRequest payload → asks_in payload ≡ true
begins_asks payload (rest, inl is) = subst (λ p. asks_in p ≡ true) (sym is) refl
begins_asks payload (rest, inr is) = subst (λ p. asks_in p ≡ true) (sym is) refl

-- a packet that says what begins as a request goes where the client asks, another one to the server
asks_to : (s : TapSides) (m : Meaning) (wire : List ℕ) (d : TapDatagram) (p : MachinePacket) → asks_in d.payload ≡ true → d.destination ≡ s.asked → Spells d.payload (message_of m wire p) → d.destination ≡ way_of s Client p
asks_to s m wire d Req asks to spells = to
asks_to s m wire d Oack asks to spells = absurd (true≢false (sym asks ∙ asks_says d.payload (message_of m wire Oack) spells))
asks_to s m wire d (Data k) asks to spells = absurd (true≢false (sym asks ∙ asks_says d.payload (message_of m wire (Data k)) spells))
asks_to s m wire d (Ack k) asks to spells = absurd (true≢false (sym asks ∙ asks_says d.payload (message_of m wire (Ack k)) spells))
asks_to s m wire d (Error c t) asks to spells = absurd (true≢false (sym asks ∙ asks_says d.payload (message_of m wire (Error c t)) spells))

goes_to : (s : TapSides) (m : Meaning) (wire : List ℕ) (d : TapDatagram) (p : MachinePacket) → asks_in d.payload ≡ false → d.destination ≡ s.server → Spells d.payload (message_of m wire p) → d.destination ≡ way_of s Client p
goes_to s m wire d Req plain to spells = absurd (true≢false (sym (asks_says d.payload (message_of m wire Req) spells) ∙ plain))
goes_to s m wire d Oack plain to spells = to
goes_to s m wire d (Data k) plain to spells = to
goes_to s m wire d (Ack k) plain to spells = to
goes_to s m wire d (Error c t) plain to spells = to

goes_there : (s : TapSides) (division : TapDivision) (d : TapDatagram) (e : End) (p : MachinePacket) → d.destination ≡ way_of s e p → Any (λ p. IsMainFrom Server p.label) division → GoesThere s division d e p
goes_there s division d Client Req to known = to
goes_there s division d Client Oack to known = (to, known)
goes_there s division d Client (Data k) to known = (to, known)
goes_there s division d Client (Ack k) to known = (to, known)
goes_there s division d Client (Error c t) to known = (to, known)
goes_there s division d Server p to known = to

module _ (s : TapSides) (apart : AreApart s) (m : Meaning) (wire : List ℕ) (fits : Fits s.rollover m wire) (told : List Pass) (t : Telling s m wire told) (quiet : Quiet told)
    (all : (e : End) (p : MachinePacket) → Sometime m wire e p → Has told e p) (stop : End → ℕ × List ℕ) where
  -- ---- and each end sends an ERROR, which does not pass

  abbrev stopped : End → MachinePacket
  stopped e = Error (stop e).0 (stop e).1

  abbrev ended : List TapStep
  ended = Does Server (Sent (stopped Server)) ∷ Does Client (Sent (stopped Client)) ∷ t.steps

  asked : Has told Client Req
  asked = all Client Req refl

  client_may : MaySendError Client (did Client t.steps) (stop Client).0 (stop Client).1
  client_may = subst (λ h. MaySendError Client h (stop Client).0 (stop Client).1) (sym t.client) (record {
    asked = λ c. at_sent Client Req told asked;
    was_asked = λ c. absurd (cc);
    same = λ c x at. absurd (quiet Client c x (sent_passed Client (Error c x) told at));
  })

  server_may : MaySendError Server (did Server t.steps) (stop Server).0 (stop Server).1
  server_may = subst (λ h. MaySendError Server h (stop Server).0 (stop Server).1) (sym t.server) (record {
    asked = λ c. absurd (cc);
    was_asked = λ c. at_took Server Req told asked;
    same = λ c x at. absurd (quiet Server c x (sent_passed Server (Error c x) told at));
  })

  ended_run : IsTappedRun m wire ended
  ended_run = (server_may, (client_may, t.run))

  -- each end has sent all that it ever does
  abbrev pub CanSay : End → MachinePacket → Type 0
  CanSay e p = Sometime m wire e p ⊎ (p ≡ stopped e)

  sent : (e : End) (p : MachinePacket) → CanSay e p → HasSent (did e ended) p
  sent Client p (inl c) = contains_later (Sent (stopped Client)) (did Client t.steps) (Sent p) (subst (λ h. HasSent h p) (sym t.client) (at_sent Client p told (all Client p c)))
  sent Client p (inr is) = subst (λ q. HasSent (did Client ended) q) (sym is) (contains_first (Sent (stopped Client)) (did Client t.steps))
  sent Server p (inl c) = contains_later (Sent (stopped Server)) (did Server t.steps) (Sent p) (subst (λ h. HasSent h p) (sym t.server) (at_sent Server p told (all Server p c)))
  sent Server p (inr is) = subst (λ q. HasSent (did Server ended) q) (sym is) (contains_first (Sent (stopped Server)) (did Server t.steps))

  server_told : (q : MachinePacket) × Has told Server q
  server_told = by m.side refl where
    by : (side : Side) → m.side ≡ side → (q : MachinePacket) × Has told Server q
    by Get get = (Data 1, all Server (Data 1) (sym (ap sender_of get), omega arith, omega arith))
    by Put put = (Ack 1, all Server (Ack 1) (sym (ap receiver_of put), omega arith, λ none. absurd (omega (arith, none))))

  -- ---- and then all that was seen passes

  record Made (tapped : List TapDatagram) : Type 0 where
    steps : List TapStep
    run : IsTappedRun m wire steps
    division : TapDivision
    same : passed_in steps ≡ passed_of division
    labels : HaveTapLabels s (says_of m wire) division
    views : (e : End) → did e steps ≡ did e ended
    known : Any (λ p. IsMainFrom Server p.label) division
    left : Loses TapDatagram (tapped_of division) tapped

  made_none : Made []
  made_none = record {
    steps = ended;
    run = ended_run;
    division = t.division;
    same = t.passed ∙ sym t.same;
    labels = t.labels;
    views = λ e. refl;
    known = answered s m wire told t server_told.0 server_told.1;
    left = loses_all (tapped_of t.division);
  }

  module _ (d : TapDatagram) (tapped : List TapDatagram) (made : Made tapped) where
    main_one : (e : End) (p : MachinePacket) → CanSay e p → d.source ≡ side_of s e → d.destination ≡ way_of s e p → Spells d.payload (message_of m wire p) → Made (d ∷ tapped)
    main_one e p can source to spells = record {
      steps = Passes e p ∷ made.steps;
      run = (subst (λ h. HasSent h p) (sym (made.views e)) (sent e p can), made.run);
      division = record { datagram = d; label = Main (record { from = e; packet = p }) } ∷ made.division;
      same = ap (λ l. record { from = e; packet = p } ∷ l) made.same;
      labels = (record { source = source; goes = goes_there s made.division d e p to made.known; spells = spells }, made.labels);
      views = λ f. did_pass f e p made.steps ∙ made.views f;
      known = any_later (λ (x : TapLabelled). IsMainFrom Server x.label) (record { datagram = d; label = Main (record { from = e; packet = p }) }) made.division made.known;
      left = kept d (tapped_of made.division) tapped made.left;
    }

    stray_one : PassesAstray s d → Made (d ∷ tapped)
    stray_one astray = record {
      steps = made.steps;
      run = made.run;
      division = record { datagram = d; label = Stray } ∷ made.division;
      same = made.same;
      labels = (astray, made.labels);
      views = made.views;
      known = any_later (λ (x : TapLabelled). IsMainFrom Server x.label) (record { datagram = d; label = Stray }) made.division made.known;
      left = kept d (tapped_of made.division) tapped made.left;
    }

    -- what it answers was missed
    abbrev missed : TapDatagram
    missed = record { source = d.destination; destination = d.source; payload = [] }

    missed_astray : (e : End) → d.source ≡ side_of s e → (d.destination ≡ s.client → ⊥) → (d.destination ≡ s.server → ⊥) → PassesAstray s missed
    missed_astray e source no_client no_server = record {
      elsewhere = not_end;
      here = (e, source);
      no_request = λ to port begins. true≢false (sym (begins_asks [] begins));
    }
      where
        not_end : (f : End) → d.destination ≡ side_of s f → ⊥
        not_end Client is = no_client is
        not_end Server is = no_server is

    answer_one : (e : End) → d.source ≡ side_of s e → (d.destination ≡ s.client → ⊥) → (d.destination ≡ s.server → ⊥) → (text : List ℕ) × Spells d.payload (Message.Error 5 text) → Made (d ∷ tapped)
    answer_one e source no_client no_server spells = record {
      steps = made.steps;
      run = made.run;
      division = record { datagram = d; label = StrayAnswer } ∷ behind;
      same = made.same;
      labels = (
        record {
          own = (e, source);
          there = any_first (λ (p : TapLabelled). (p.label ≡ Stray) × (p.datagram.source ≡ d.destination) × (p.datagram.destination ≡ d.source)) (record { datagram = missed; label = Stray }) made.division (refl, refl, refl);
          spells = spells;
        },
        (missed_astray e source no_client no_server, made.labels),
      );
      views = made.views;
      known = any_later (λ (x : TapLabelled). IsMainFrom Server x.label) (record { datagram = d; label = StrayAnswer }) behind
          (any_later (λ (x : TapLabelled). IsMainFrom Server x.label) (record { datagram = missed; label = Stray }) made.division made.known);
      left = kept d (tapped_of behind) tapped (lost missed (tapped_of made.division) tapped made.left);
    }
      where
        behind : TapDivision
        behind = record { datagram = missed; label = Stray } ∷ made.division

    -- ---- by its route

    module _ (read : IsTapRead (lossy_route s d) d) (says : (e : End) (n : Message) → IsSaidBy s e n d → (p : MachinePacket) × CanSay e p × (n ≡ message_of m wire p)) where
      read_as : (r : TapRoute) → lossy_route s d ≡ r → IsTapRead r d
      read_as r route = subst (λ x. IsTapRead x d) route read

      main_at : (e : End) (r : TapRoute) → lossy_route s d ≡ r → is_passing r ≡ true → d.source ≡ side_of s e → (n : Message) × Spells d.payload n
          → ((p : MachinePacket) → Spells d.payload (message_of m wire p) → d.destination ≡ way_of s e p) → Made (d ∷ tapped)
      main_at e r route passing source (n, spells) to =
          let (p, can, is) = says e n (record { goes = ap is_passing route ∙ passing; source = source; spells = spells }) in
          let at = subst (Spells d.payload) is spells in
          main_one e p can source (to p at) at

      astray_at : (e : End) → d.source ≡ side_of s e → lossy_route s d ≡ lossy_astray s d → Made (d ∷ tapped)
      astray_at e source route = elim (cases_Bool (same_peer d.destination s.client)) [
        | inl client ↦ absurd (read_as TapRoute.WrongPort (route ∙ rw client refl))
        | inr no_client ↦ elim (cases_Bool (same_peer d.destination s.server)) [
          | inl server ↦ absurd (read_as TapRoute.WrongPort (route ∙ rw (no_client, server) refl))
          | inr no_server ↦ elim (cases_Bool (ends_in d.payload)) [
            | inr other ↦ absurd (read_as TapRoute.WrongPort (route ∙ rw (no_client, no_server, other) refl))
            | inl ends ↦ answer_one e source (apart_is d.destination s.client no_client) (apart_is d.destination s.server no_server) (read_as TapRoute.StrayAnswer (route ∙ rw (no_client, no_server, ends) refl))
          ]
        ]
      ]

      of_client : same_peer d.source s.client ≡ true → Made (d ∷ tapped)
      of_client client = elim (cases_Bool (asks_in d.payload)) [
        | inl asks ↦ elim (cases_Bool (same_peer d.destination s.asked)) [
          | inl to ↦
              let route : lossy_route s d ≡ TapRoute.Request = rw (client, asks, to) refl in
              main_at Client TapRoute.Request route refl (is_same d.source s.client client) (read_as TapRoute.Request route) (λ p at. asks_to s m wire d p asks (is_same d.destination s.asked to) at)
          | inr other ↦ absurd (read_as TapRoute.WrongPort (rw (client, asks, other) refl))
        ]
        | inr plain ↦ elim (cases_Bool (same_peer d.destination s.server)) [
          | inl to ↦
              let route : lossy_route s d ≡ TapRoute.FromClient = rw (client, plain, to) refl in
              main_at Client TapRoute.FromClient route refl (is_same d.source s.client client) (read_as TapRoute.FromClient route) (λ p at. goes_to s m wire d p plain (is_same d.destination s.server to) at)
          | inr other ↦ astray_at Client (is_same d.source s.client client) (rw (client, plain, other) refl)
        ]
      ]

      of_server : same_peer d.source s.client ≡ false → same_peer d.source s.server ≡ true → Made (d ∷ tapped)
      of_server no_client server = elim (cases_Bool (same_peer d.destination s.client)) [
        | inl to ↦
            let route : lossy_route s d ≡ TapRoute.FromServer = rw (no_client, server, to) refl in
            main_at Server TapRoute.FromServer route refl (is_same d.source s.server server) (read_as TapRoute.FromServer route) (λ p at. is_same d.destination s.client to)
        | inr other ↦ astray_at Server (is_same d.source s.server server) (rw (no_client, server, other) refl)
      ]

      elsewhere : same_peer d.source s.client ≡ false → same_peer d.source s.server ≡ false → (e : End) → d.source ≡ side_of s e → ⊥
      elsewhere no_client no_server Client is = apart_is d.source s.client no_client is
      elsewhere no_client no_server Server is = apart_is d.source s.server no_server is

      of_others : same_peer d.source s.client ≡ false → same_peer d.source s.server ≡ false → Made (d ∷ tapped)
      of_others no_client no_server = elim (cases_Bool (same_peer d.destination s.client)) [
        | inl client ↦ stray_one (record {
          elsewhere = elsewhere no_client no_server;
          here = (Client, is_same d.destination s.client client);
          no_request = λ to port begins. apart.server (sym (is_same d.destination s.client client) ∙ to);
        })
        | inr other ↦ elim (cases_Bool (same_peer d.destination s.server)) [
          | inr foreign ↦ absurd (read_as TapRoute.ForeignPort (rw (no_client, no_server, other, foreign) refl))
          | inl server ↦ elim (cases_Bool ((s.server.port == s.asked.port) && asks_in d.payload)) [
            | inl asks ↦ absurd (read_as TapRoute.ForeignPort (rw (no_client, no_server, other, server, asks) refl))
            | inr quiet_one ↦ stray_one (record {
              elsewhere = elsewhere no_client no_server;
              here = (Server, is_same d.destination s.server server);
              no_request = λ to port begins. true≢false (sym (and_from (s.server.port == s.asked.port) (asks_in d.payload) (eq-eqb s.server.port s.asked.port port) (begins_asks d.payload begins)) ∙ quiet_one);
            })
          ]
        ]
      ]

      one_more : Made (d ∷ tapped)
      one_more = elim (cases_Bool (same_peer d.source s.client)) [
        | inl client ↦ of_client client
        | inr no_client ↦ elim (cases_Bool (same_peer d.source s.server)) [ inl server ↦ of_server no_client server | inr no_server ↦ of_others no_client no_server ]
      ]

  made_of : (tapped : List TapDatagram) → AllByRecursion (λ d. IsTapRead (lossy_route s d) d) tapped → ((e : End) (n : Message) → IsSaid s tapped e n → (p : MachinePacket) × CanSay e p × (n ≡ message_of m wire p)) → Made tapped
  made_of [] read says = made_none
  made_of (d ∷ tapped) read says =
      one_more d tapped (made_of tapped read.1 (λ e n said. says e n (any_later (IsSaidBy s e n) d tapped said))) read.0 (λ e n said. says e n (any_first (IsSaidBy s e n) d tapped said))

  pub lawful_of : (tapped : List TapDatagram) → AllByRecursion (λ d. IsTapRead (lossy_route s d) d) tapped
      → ((e : End) (n : Message) → IsSaid s tapped e n → (p : MachinePacket) × CanSay e p × (n ≡ message_of m wire p)) → IsLawfulBetweenWithLosses s tapped
  lawful_of tapped read says =
      let made = made_of tapped read says in
      record {
        all = tapped_of made.division;
        lawful = (
          m,
          wire,
          record {
            fits = fits;
            passed = passed_of made.division;
            view = (made.steps, made.run, made.same);
            dressed = record { division = made.division; whole = refl; main = refl; labels = made.labels };
          },
        );
        left = made.left;
      }
