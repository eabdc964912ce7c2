-- Where a late request opened a transfer: what its server's view refuses may be of the transfer before.
use Rattle.std.proofs.Common.{◌≡◌, ◌≢◌, ◌⊎◌, ℕ, ◌≤◌, ◌&&◌, not, Bool, Option, Some, None, codes, true, false, List, [], ◌∷◌, ◌++◌, Contains, inl, inr, refl, sym, ap, subst, ◌∙◌, arith, filter, map}
use Rattle.std.specs.FinMap as finmap
use Rattle.std.specs.List.{AllByRecursion, list_any}
use Rattle.std.proofs.lemmas.Bool.{false≢true, and_from, and_parts, cases_eq, cases_lt, eqb-true, or_cases, or_left, or_right}
use Rattle.tftp_packet.specs.{Client, Message, Num, OptionValue, Server, Put, Spells}
use Rattle.tftp_packet.specs.Hosts.{Datagram, peer_of}
use Rattle.tftp_packet.specs.{Dir, In, Out}
use Rattle.law_model.specs.Model.{SomethingAgreed, HasSent, number_or, windowsize_of, Req, Oack, Data, Ack, Error, Deed, Sent, Took, IsOneSided, blksize_of, block, message_of, request_of}
use Rattle.law_model.specs.Rules.{Passed, first_of, goes_out, or_this, begins_request as says_request}
use Rattle.law_model.proofs.ModelLemmas.Defaults.{default_windowsize}
use Rattle.law_model.proofs.ModelLemmas.Members.{contains_cases, contains_none}
use Rattle.law_end.specs.{HasLabel, Main, OneEnded, datagrams_of, packet_of, view_in}
use Rattle.law_end.proofs.Division.RouteTests.{request_begins}
use Rattle.audit_flows.specs.Lines.{Recorded, Placed, begins_request, has_window, is_between, is_of, is_request, line, live, may_be_earlier, other_of, passes_in, same_endpoint, sends_blocks}
use Rattle.audit_flows.specs.Lines.Recording.{is_answer}
use Rattle.audit_flows.specs.Lines.Doubting.{before_talk, is_other_talk, may_follow}
use Rattle.audit_flows.specs.{Address, Endpoint, Talks, Transfer}
use Rattle.audit_flows.specs.Transfers.{client_view}
use Rattle.audit_flows.proofs.LinesLemmas.Endpoints.{same_itself}
use Rattle.audit_flows.proofs.LinesLemmas.Lines.{by_test}
use Rattle.audit_flows.proofs.TransfersLemmas.AllLines.{line_here}
use Rattle.audit_spared.proofs.FairLemmas.Thinned.{filter_kept, filter_dropped, kept_or_not}
use Rattle.audit_spared.specs.Spared.Seen.{is_with}
use Rattle.audit_spared.specs.Spared.{as_served, asks_from, comes_at, goes_from, goes_on_from}
use Rattle.audit_spared.proofs.SparedLemmas.Basics.{all_first}
use Rattle.audit_spared.proofs.SparedLemmas.Bottoms.{seen_of}
use Rattle.audit_spared.proofs.SparedLemmas.Lists.{map_append}
use Rattle.audit_spared.proofs.SparedLemmas.NextRuns.{IsNewest, agreed_or, all_done, newest_run, number_fits, server_receives, server_sends, told}
use Rattle.audit_spared.proofs.SparedLemmas.AskedWindows.{FirstOut, failed, first_out, oacked, silent}
use Rattle.audit_spared.proofs.SparedLemmas.LockStep.{lock_step, says_oack}
use Rattle.audit_spared.proofs.SparedLemmas.Places.{of_talk}
use Rattle.audit_spared.proofs.SparedLemmas.ServedLaw.{local_seen, name, payload_seen, peer_seen}
use Rattle.audit_spared.proofs.SparedLemmas.ServedRuns.{at}
use Rattle.audit_spared.proofs.SparedLemmas.ServedViews.{IsFair, same_seen, seen}
use Rattle.audit_spared.proofs.SparedLemmas.Spared.{TakenAt, rest_same}
use Rattle.audit_spared.proofs.SparedLemmas.Stands.{AreWith, BeginsOacked, Has, IsKnown, IsPlain, Same, Taken, goes_on_apart, new, talks, talks_apart}
use Rattle.audit_spared.proofs.SparedLemmas.Stands.IsPlain.{asks as asked}
use Rattle.audit_spared.proofs.SparedLemmas.SaidPayloads.{IsNumber, ack_told, answers_ack, answers_block, block_told, error_told, oack_told, passes_ack, passes_block, writes_of}
use Rattle.audit_spared.proofs.SparedLemmas.FarOff.{IsFarOff, any_refuted, far_offs, from_way, none_before, part_of, went_fars}
use Rattle.audit_spared.proofs.SparedLemmas.SecondBlocks.{done_each, kept_some, no_second, rest_of}
use Rattle.audit_spared.proofs.SparedLemmas.WideWindows.{first_came, first_seen, oack_sent, wides, windowed_in}

module _ (write : Address → List ℕ) (host : Address) (c : Endpoint) where
  abbrev see : Recorded → Datagram
  see = as_served write c

  abbrev all_seen : List Placed → List Datagram
  all_seen ps = map (seen write host c) ps

  -- ---- in a transfer that a late request opened

  known_with : (d : Recorded) → is_between c (other_of c d) d ≡ true → is_with c d ≡ true
  known_with d between = elim (or_cases (same_endpoint d.source c && same_endpoint d.target (other_of c d)) (same_endpoint d.source (other_of c d) && same_endpoint d.target c) between) [
    | inl sent ↦ or_left (same_endpoint d.source c) (same_endpoint d.target c) (and_parts (same_endpoint d.source c) (same_endpoint d.target (other_of c d)) sent).0
    | inr came ↦ or_right (same_endpoint d.source c) (same_endpoint d.target c) (and_parts (same_endpoint d.source (other_of c d)) (same_endpoint d.target c) came).1
  ]

  peers_known : (ps : List Placed) → AllByRecursion (IsKnown c) ps → AllByRecursion (λ e. peer_of e ≡ name write host c c) (all_seen ps)
  peers_known [] known = tt
  peers_known (q ∷ ps) known = (peer_seen write host c q.datagram (known_with q.datagram known.0.here), peers_known ps known.1)

  HasServerPort : ℕ → Datagram → Type 0
  HasServerPort port e = says_request e ≡ false → e.local ≡ port

  port_with : (o : Endpoint) (q : Placed) → IsKnown c q → (is_request q ≡ false → other_of c q.datagram ≡ o) → says_request (see q.datagram) ≡ false → (see q.datagram).local ≡ o.port
  port_with o q known with off = local_seen write host c q.datagram ∙ ap (λ (e : Endpoint). e.port) (with (known.kind ∙ ap (λ b. goes_from c q.datagram && b) (sym (ap begins_request (payload_seen write host c q.datagram)) ∙ off) ∙ and_none (goes_from c q.datagram)))
    where
      and_none : (b : Bool) → (b && false) ≡ false
      and_none true = refl
      and_none false = refl

  ports_with : (o : Endpoint) (ps : List Placed) → AllByRecursion (IsKnown c) ps → AreWith c o ps → AllByRecursion (λ e. says_request e ≡ false → e.local ≡ o.port) (all_seen ps)
  ports_with o [] known with = tt
  ports_with o (q ∷ ps) known with = (port_with o q known.0 with.0, ports_with o ps known.1 with.1)

  -- what holds of the capture's as they were seen holds of a part, and of requests in the same words
  of_part : (P : Datagram → Type 0) (i : ℕ) (ps : List Placed) → AllByRecursion P (all_seen ps) → AllByRecursion P (all_seen (filter (is_of i) ps))
  of_part P i [] all = tt
  of_part P i (q ∷ ps) all = kept_or_not (is_of i) q
      (λ is. subst (λ l. AllByRecursion P (all_seen l)) (sym (filter_kept (is_of i) q ps is)) (all.0, of_part P i ps all.1))
      (λ off. subst (λ l. AllByRecursion P (all_seen l)) (sym (filter_dropped (is_of i) q ps off)) (of_part P i ps all.1))

  of_there : (P : Datagram → Type 0) (r : Recorded) (ps : List Placed) → Contains (map (λ (q : Placed). q.datagram) ps) r → AllByRecursion P (all_seen ps) → P (see r)
  of_there P r [] there all = absurd (contains_none r there)
  of_there P r (q ∷ ps) there all = elim (contains_cases q.datagram (map (λ (s : Placed). s.datagram) ps) r there) [
    | inl this ↦ subst (λ d. P (see d)) this all.0
    | inr later ↦ of_there P r ps later all.1
  ]

  of_same : (P : Datagram → Type 0) (r : Recorded) (ps : List Placed) → AllByRecursion (λ q. (is_request q ≡ true) × Same q.datagram r) ps → P (see r) → AllByRecursion P (all_seen ps)
  of_same P r [] all holds = tt
  of_same P r (q ∷ ps) all holds = (subst P (sym (same_seen write host c q.datagram r all.0.1)) holds, of_same P r ps all.1 holds)

  all_two : (P : Datagram → Type 0) (ds es : List Datagram) → AllByRecursion P ds → AllByRecursion P es → AllByRecursion P (ds ++ es)
  all_two P [] es one other = other
  all_two P (d ∷ ds) es one other = (one.0, all_two P ds es one.1 other)

  module _ (k : List Recorded) (older kp rest : List Placed) (x : Transfer) (p : Placed) (has : Has c k (p ∷ older) (p ∷ kp) rest x) (passes : OneEnded at (map see k)) (a : Taken c k (p ∷ older) (p ∷ kp) rest x)
      (o : Endpoint) (with : AreWith c o (p ∷ kp)) (of : is_of x.number p ≡ true) (fair : IsFair write host c (client_view x.number older)) where
    abbrev i : ℕ
    i = x.number

    abbrev d : Recorded
    d = p.datagram

    no_request : is_request p ≡ false
    no_request = a.ends

    nx : IsNewest (see d) (all_seen kp)
    nx = newest_run (name write host c c) (see d) (all_seen kp) (seen_of at see (same_seen write host c) (p ∷ kp) k has.are passes) (peers_known (p ∷ kp) has.known)

    -- the view, as far as it went
    view_is : client_view i older ≡ filter (is_of i) kp ++ a.asked.before
    view_is = rest_same p (client_view i older) (filter (is_of i) kp ++ a.asked.before)
        (sym (filter_kept (is_of i) p older of) ∙ a.asked.view ∙ ap (λ l. l ++ a.asked.before) (filter_kept (is_of i) p kp of))

    view_seen : all_seen (client_view i older) ≡ all_seen (filter (is_of i) kp) ++ all_seen a.asked.before
    view_seen = ap all_seen view_is ∙ map_append (seen write host c) (filter (is_of i) kp) a.asked.before

    asked_there : Contains (map (λ (q : Placed). q.datagram) kp) a.asked.r
    asked_there = elim (contains_cases d (map (λ (q : Placed). q.datagram) kp) a.asked.r (subst (λ l. Contains l a.asked.r) (sym has.are) a.there)) [
      | inl this ↦ absurd (false≢true (sym (sym has.known.0.kind ∙ no_request) ∙ ap (asks_from c) this ∙ a.asks_it))
      | inr later ↦ later
    ]

    of_view : (P : Datagram → Type 0) → AllByRecursion P (all_seen kp) → AllByRecursion P (all_seen (filter (is_of i) kp) ++ all_seen a.asked.before)
    of_view P all = all_two P (all_seen (filter (is_of i) kp)) (all_seen a.asked.before) (of_part P i kp all) (of_same P a.asked.r a.asked.before a.asked.repeated (of_there P a.asked.r kp asked_there all))

    -- ---- where windows were agreed on

    module _ (n : ℕ) (two : 2 ≤ n) (is : (packet_of nx.deed ≡ Data n) ⊎ (packet_of nx.deed ≡ Ack n)) (differs : windowsize_of nx.m ≡ 1 → ⊥) where
      agreed : (dir : Dir) × Passed dir (Message.Oack nx.m.agreed) (all_seen kp)
      agreed = elim (agreed_or nx.m nx.wire (all_seen kp) nx.before n (omega (arith, two)) nx.deed is nx.now) [
        | inl nothing ↦ absurd (differs (default_windowsize nx.m nothing))
        | inr there ↦ there
      ]

      asked_value : (value : OptionValue) × (finmap.get nx.m.requested (codes "windowsize") ≡ Some value)
      asked_value = by (finmap.get nx.m.agreed (codes "windowsize")) refl where
        by : (found : Option OptionValue) → finmap.get nx.m.agreed (codes "windowsize") ≡ found → (value : OptionValue) × (finmap.get nx.m.requested (codes "windowsize") ≡ Some value)
        by None none = absurd (differs (ap (number_or 1) none))
        by (Some value) found = let (asked_number, given, get, same, may) = nx.fits.may_agree.asked (codes "windowsize") value found in (Num asked_number, get)

      oack_went : HasSent (view_in nx.before.division) Oack
      oack_went =
          let (deed, there, way, says_it) = told nx.m nx.wire (all_seen kp) nx.before agreed.0 (Message.Oack nx.m.agreed) agreed.1 in
          oack_sent write host c nx.m nx.wire (view_in nx.before.division) nx.before.own nx.m.agreed deed there says_it

      something : SomethingAgreed nx.m
      something nothing = differs (default_windowsize nx.m nothing)

      begins : BeginsOacked c k
      begins = by (first_out nx.m nx.wire something nx.before.ids nx.before.division nx.before.labels nx.before.mains nx.before.own) where
        by : FirstOut nx.m nx.wire something (view_in nx.before.division) (datagrams_of nx.before.division) → BeginsOacked c k
        by (silent none unsent) = absurd (unsent Oack oack_went)
        by (failed code text there no_oack) = absurd (no_oack oack_went)
        by (oacked e found spells) =
            let (r, first, same) = first_came write host c (first_of (comes_at c) (map (λ (q : Placed). q.datagram) kp)) e (sym (first_seen write host c kp) ∙ subst (λ l. first_of goes_out l ≡ Some e) nx.before.same found) in (
              r,
              nx.m.agreed,
              ap (first_of (comes_at c)) (sym has.are) ∙ ap (λ f. or_this f (comes_at c d) d) first,
              subst (λ l. Spells l (Message.Oack nx.m.agreed)) (ap (λ (x : Datagram). x.payload) (sym same) ∙ payload_seen write host c r) spells,
            )

      windowed : (request : Recorded) → Contains k request → asks_from c request ≡ true → has_window request.payload ≡ true
      windowed request there asks = elim (contains_cases d (map (λ (q : Placed). q.datagram) kp) request (subst (λ l. Contains l request) (sym has.are) there)) [
        | inl this ↦ absurd (false≢true (sym (sym has.known.0.kind ∙ no_request) ∙ ap (asks_from c) this ∙ asks))
        | inr later ↦ windowed_in write host c nx.m nx.wire (view_in nx.before.division) nx.before.own asked_value.0 asked_value.1 kp (done_each write host c nx.m nx.wire (view_in nx.before.division) kp (all_done nx.m nx.wire (all_seen kp) nx.before)) request later asks
      ]

    went : list_any (goes_on_apart c i) kp ≡ true
    went = elim (or_cases (goes_on_apart c i p) (list_any (goes_on_apart c i) kp) a.went) [
      | inl this ↦ absurd (false≢true (sym (ap not of) ∙ (and_parts (not (is_request p)) (not (is_of i p)) (and_parts (goes_on_from c d) (talks_apart i p) this).1).1))
      | inr later ↦ later
    ]

    -- ---- where it may not be earlier

    module _ (off : may_be_earlier p older ≡ false) where
      none : list_any (may_follow c o (goes_from c d) d.payload) (before_talk c o i (kp ++ rest)) ≡ false
      none = by has.plain.0 where
        by : IsPlain c p → list_any (may_follow c o (goes_from c d) d.payload) (before_talk c o i (kp ++ rest)) ≡ false
        by (asked z request there) = absurd (false≢true (sym no_request ∙ request))
        by (talks z there client) =
            let whole : line c (p ∷ older) ≡ p ∷ live p.moment (line c older) = ap (λ place. line c (new d p.moment place ∷ older)) there
            ∙ line_here c (new d p.moment (Talks z)) older (ap (λ e. same_endpoint e c) client ∙ same_itself c)
            ∙ ap (λ place. new d p.moment place ∷ live p.moment (line c older)) (sym there) in
            let rest_is : live p.moment (line c older) ≡ kp ++ rest = rest_same p (live p.moment (line c older)) (kp ++ rest) (sym whole ∙ has.whole) in
            let number : z.number ≡ i = eqb-true z.number i (sym (of_talk i p z there) ∙ of) in
            sym (ap (λ place. may_be_earlier (new d p.moment place) older) there
            ∙ ap (λ e. list_any (may_follow e (other_of e d) (same_endpoint d.source e) d.payload) (before_talk e (other_of e d) z.number (live p.moment (line e older)))) client
            ∙ ap (λ w. list_any (may_follow c w (goes_from c d) d.payload) (before_talk c w z.number (live p.moment (line c older)))) (with.0 no_request)
            ∙ ap (λ l. list_any (may_follow c o (goes_from c d) d.payload) (before_talk c o z.number l)) rest_is
            ∙ ap (λ j. list_any (may_follow c o (goes_from c d) d.payload) (before_talk c o j (kp ++ rest))) number) ∙ off

      fars : (n : ℕ) → passes_in (writes_of nx.m.side) (goes_from c d) d.payload ≡ true → IsNumber d.payload n → AllByRecursion (IsFarOff write host c nx.m.side n i) kp
      fars n right number = far_offs write host c o nx.m.side (goes_from c d) d.payload n i right number kp has.known.1 (all_first (IsPlain c) kp rest has.plain.1) with.1
          (all_first (λ q. is_other_talk c o i q ≡ true → may_follow c o (goes_from c d) d.payload q ≡ false) kp rest (none_before write host c o i (may_follow c o (goes_from c d) d.payload) (kp ++ rest) none))

      -- its number is 2 or more, since the client went on before
      not_low : (n : ℕ) → (n ≤ 1) ⊎ ((n ≤ 2) × (nx.m.side ≡ Put)) → passes_in (writes_of nx.m.side) (goes_from c d) d.payload ≡ true → IsNumber d.payload n → ⊥
      not_low n low right number = any_refuted write host c (goes_on_apart c i) kp
          (went_fars write host c nx.m nx.wire (view_in nx.before.division) nx.before.own n i low kp (fars n right number) (all_done nx.m nx.wire (all_seen kp) nx.before)) went

      says : (m : Message) → Spells (see d).payload m → Spells d.payload m
      says m spelled = subst (λ l. Spells l m) (payload_seen write host c d) spelled

      -- what opened the transfer was before it, since that is no answer
      opened_before : (n : ℕ) → 2 ≤ n → (packet_of nx.deed ≡ Data n) ⊎ (packet_of nx.deed ≡ Ack n) → (newer : List Placed) × (kp ≡ newer ++ a.opened.opener ∷ a.opened.early)
      opened_before n two is = by a.opened.newer refl where
        no_answer : is_answer d.payload ≡ true → ⊥
        no_answer answer = elim is [
          | inl data_is ↦
              let one = (answers_block d.payload n (block (blksize_of nx.m) nx.wire n) (says (Message.Data n (block (blksize_of nx.m) nx.wire n)) (subst (λ q. Spells (see d).payload (message_of nx.m nx.wire q)) data_is nx.has.spells)) answer).0 in
              omega (arith, one, two)
          | inr ack_is ↦
              let none_left = answers_ack d.payload n (says (Message.Ack n) (subst (λ q. Spells (see d).payload (message_of nx.m nx.wire q)) ack_is nx.has.spells)) answer in
              omega (arith, none_left, two)
        ]

        by : (newer : List Placed) → a.opened.newer ≡ newer → (later : List Placed) × (kp ≡ later ++ a.opened.opener ∷ a.opened.early)
        by [] e =
            let both : p ∷ kp ≡ a.opened.opener ∷ a.opened.early = a.opened.split ∙ ap (λ l. l ++ a.opened.opener ∷ a.opened.early) e in
            let this : a.opened.opener ≡ p = cc in
            absurd (no_answer (subst (λ (q : Placed). is_answer q.datagram.payload ≡ true) this a.opened.answers))
        by (q ∷ later) e =
            let both : p ∷ kp ≡ q ∷ (later ++ a.opened.opener ∷ a.opened.early) = a.opened.split ∙ ap (λ l. l ++ a.opened.opener ∷ a.opened.early) e in
            (later, rest_of write host c p q kp (later ++ a.opened.opener ∷ a.opened.early) both)

      goes_on : (n : ℕ) → 2 ≤ n → (packet_of nx.deed ≡ Data n) ⊎ (packet_of nx.deed ≡ Ack n) → passes_in (writes_of nx.m.side) (goes_from c d) d.payload ≡ true → IsNumber d.payload n → OneEnded at (see d ∷ all_seen (client_view i older))
      goes_on n two is right number = elim (cases_eq (windowsize_of nx.m) 1) [
        | inl single ↦ in_step single
        | inr differs ↦ absurd (any_refuted write host c (goes_on_apart c i) kp (wides write host c nx.m nx.wire (view_in nx.before.division) nx.before.own k o (goes_from c d) d.payload n i right number (windowed n two is differs) kp has.known.1
            (all_first (IsPlain c) kp rest has.plain.1) with.1 none_kp (done_each write host c nx.m nx.wire (view_in nx.before.division) kp (all_done nx.m nx.wire (all_seen kp) nx.before))
            (has.terms.talked o with (begins n two is differs)).1) went)
      ]
        where
          port : (see d).local ≡ o.port
          port = local_seen write host c d ∙ ap (λ (e : Endpoint). e.port) (with.0 no_request)

          opened : (newer : List Placed) × (kp ≡ newer ++ a.opened.opener ∷ a.opened.early)
          opened = opened_before n two is

          some : all_seen (filter (is_of i) kp) ++ all_seen a.asked.before ≢ []
          some = subst (λ l. all_seen (filter (is_of i) l) ++ all_seen a.asked.before ≢ []) (sym opened.1)
              (kept_some write host c i opened.0 a.opened.opener a.opened.early (all_seen a.asked.before) a.opened.own)

          none_kp : AllByRecursion (λ q. is_other_talk c o i q ≡ true → may_follow c o (goes_from c d) d.payload q ≡ false) kp
          none_kp = all_first (λ q. is_other_talk c o i q ≡ true → may_follow c o (goes_from c d) d.payload q ≡ false) kp rest (none_before write host c o i (may_follow c o (goes_from c d) d.payload) (kp ++ rest) none)

          refuted : windowsize_of nx.m ≡ 1 → n ≡ 2 → packet_of nx.deed ≡ Data n → list_any says_oack (all_seen (filter (is_of i) kp) ++ all_seen a.asked.before) ≡ false → ⊥
          refuted step is_two data_is none_said = by nx.deed data_is nx.now where
            by : (deed : Deed) → packet_of deed ≡ Data n → IsOneSided nx.m nx.wire Server (deed ∷ view_in nx.before.division) → ⊥
            by (Took q) kind now =
                let may = (subst (λ r. IsOneSided nx.m nx.wire Server (Took r ∷ view_in nx.before.division)) kind now).0 in
                not_low n (inr (omega (arith, is_two), server_receives nx.m.side may.receiver)) right number
            by (Sent q) kind now =
                let may = (subst (λ r. IsOneSided nx.m nx.wire Server (Sent r ∷ view_in nx.before.division)) kind now).0 in
                no_second write host c nx.m nx.wire i n is_two step p kp rest o nx.before may (fars n right number) has.known.1 with.1 a.opened opened.0 opened.1 (all_seen a.asked.before) none_said

          in_step : windowsize_of nx.m ≡ 1 → OneEnded at (see d ∷ all_seen (client_view i older))
          in_step single = subst (λ l. OneEnded at (see d ∷ l)) (sym view_seen) (lock_step (name write host c c) (see d) (all_seen kp) (all_seen (filter (is_of i) kp) ++ all_seen a.asked.before) nx single
              (subst (OneEnded at) view_seen fair) (of_view (λ e. peer_of e ≡ name write host c c) (peers_known kp has.known.1))
              (peer_seen write host c d (known_with d has.known.0.here)) some
              o.port (of_view (λ e. says_request e ≡ false → e.local ≡ o.port) (ports_with o kp has.known.1 with.1)) port n two is
              (part_of write host c nx.m nx.wire n i kp nx.before (fars n right number) a.asked.r a.asks_it asked_there a.asked.before a.asked.repeated)
              (refuted single))

      numbered_on : (n : ℕ) → (packet_of nx.deed ≡ Data n) ⊎ (packet_of nx.deed ≡ Ack n) → passes_in (writes_of nx.m.side) (goes_from c d) d.payload ≡ true → IsNumber d.payload n → OneEnded at (see d ∷ all_seen (client_view i older))
      numbered_on n is right number = elim (cases_lt n 2) [
        | inl less ↦ absurd (not_low n (inl (omega (arith, less))) right number)
        | inr two ↦ goes_on n two is right number
      ]

      by_deed : (deed : Deed) → nx.deed ≡ deed → HasLabel at nx.m nx.wire nx.before.ids nx.before.division (see d) (Main deed) → IsOneSided nx.m nx.wire Server (deed ∷ view_in nx.before.division) → OneEnded at (see d ∷ all_seen (client_view i older))
      by_deed (Sent Req) is label now = let wrong : Server ≡ Client = now.0.client in absurd (cc)
      by_deed (Took Req) is label now = absurd (false≢true (sym (sym has.known.0.kind ∙ no_request)
          ∙ and_from (goes_from c d) (begins_request d.payload) ((from_way write host c In d label.dir).0 refl) (request_begins d.payload (request_of nx.m) (says (Message.Request (request_of nx.m)) label.spells))))
      by_deed (Sent Oack) is label now =
          let told = oack_told d.payload nx.m.agreed (says (Message.Oack nx.m.agreed) label.spells) in
          let from = (from_way write host c Out d label.dir).1 refl in
          absurd (not_low 0 (inl (omega arith)) (ap (λ e. passes_in (writes_of nx.m.side) e d.payload) from ∙ told.0 (writes_of nx.m.side)) told.1)
      by_deed (Took Oack) is label now = let wrong : Server ≡ Client = now.0.client in absurd (cc)
      by_deed (Sent (Error code text)) is label now =
          let told = error_told d.payload code text (says (Message.Error code text) label.spells) in absurd (not_low 0 (inl (omega arith)) (told.0 (writes_of nx.m.side) (goes_from c d)) told.1)
      by_deed (Took (Error code text)) is label now =
          let told = error_told d.payload code text (says (Message.Error code text) label.spells) in absurd (not_low 0 (inl (omega arith)) (told.0 (writes_of nx.m.side) (goes_from c d)) told.1)
      by_deed (Sent (Data n)) is label now =
          let small = number_fits nx.m nx.wire nx.fits.numbered (view_in nx.before.division) (Sent (Data n)) now n (inl refl) in
          let (block_is, number) = block_told d.payload n (block (blksize_of nx.m) nx.wire n) (says (Message.Data n (block (blksize_of nx.m) nx.wire n)) label.spells) now.0.from_one in
          let side = server_sends nx.m.side now.0.sender in
          let from = (from_way write host c Out d label.dir).1 refl in
          numbered_on n (inl (ap packet_of is)) (passes_block (writes_of nx.m.side) (goes_from c d) d.payload block_is (λ j. sends_blocks (writes_of (side j)) (from j))) (number, small)
      by_deed (Took (Data n)) is label now =
          let small = number_fits nx.m nx.wire nx.fits.numbered (view_in nx.before.division) (Took (Data n)) now n (inl refl) in
          let (block_is, number) = block_told d.payload n (block (blksize_of nx.m) nx.wire n) (says (Message.Data n (block (blksize_of nx.m) nx.wire n)) label.spells) now.0.from_one in
          let side = server_receives nx.m.side now.0.receiver in
          let from = (from_way write host c In d label.dir).0 refl in
          numbered_on n (inl (ap packet_of is)) (passes_block (writes_of nx.m.side) (goes_from c d) d.payload block_is (λ j. sends_blocks (writes_of (side j)) (from j))) (number, small)
      by_deed (Sent (Ack n)) is label now =
          let small = number_fits nx.m nx.wire nx.fits.numbered (view_in nx.before.division) (Sent (Ack n)) now n (inr refl) in
          let (block_is, ack_is, number) = ack_told d.payload n (says (Message.Ack n) label.spells) in
          let side = server_receives nx.m.side now.0.receiver in
          let from = (from_way write host c Out d label.dir).1 refl in
          numbered_on n (inr (ap packet_of is)) (passes_ack (writes_of nx.m.side) (goes_from c d) d.payload block_is ack_is (λ j. sends_blocks (writes_of (side j)) (from j))) (number, small)
      by_deed (Took (Ack n)) is label now =
          let small = number_fits nx.m nx.wire nx.fits.numbered (view_in nx.before.division) (Took (Ack n)) now n (inr refl) in
          let (block_is, ack_is, number) = ack_told d.payload n (says (Message.Ack n) label.spells) in
          let side = server_sends nx.m.side now.0.sender in
          let from = (from_way write host c In d label.dir).0 refl in
          numbered_on n (inr (ap packet_of is)) (passes_ack (writes_of nx.m.side) (goes_from c d) d.payload block_is ack_is (λ j. sends_blocks (writes_of (side j)) (from j))) (number, small)

    -- so it may be of an earlier transfer, or the view goes on
    pub earlier_or : (may_be_earlier p older ≡ true) ⊎ IsFair write host c (client_view i (p ∷ older))
    earlier_or = by_test (may_be_earlier p older)
        (λ is. inl is)
        (λ off. inr (subst (IsFair write host c) (sym (filter_kept (is_of i) p older of)) (by_deed off nx.deed refl nx.has nx.now)))

  pub taken_or : (n : ℕ) (p : Placed) (older : List Placed) (t : TakenAt (λ k. OneEnded at (map see k)) c n p older) → is_of n p ≡ true → IsFair write host c (client_view n older)
      → (may_be_earlier p older ≡ true) ⊎ IsFair write host c (client_view n (p ∷ older))
  taken_or n p older t of fair = subst (λ j. (may_be_earlier p older ≡ true) ⊎ IsFair write host c (client_view j (p ∷ older))) t.number
      (earlier_or t.k older t.kp t.rest t.x p t.has t.good t.taken t.one t.with (subst (λ j. is_of j p ≡ true) (sym t.number) of) (subst (λ j. IsFair write host c (client_view j older)) (sym t.number) fair))
