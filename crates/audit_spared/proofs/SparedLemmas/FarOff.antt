-- What passed of another transfer between the same two is far from a datagram that may not be of it.
use Rattle.std.proofs.Common.{◌≡◌, ◌⊎◌, ℕ, ◌+◌, ◌≤◌, ◌==◌, ◌&&◌, ◌||◌, not, nat_le, Bool, true, false, List, [], ◌∷◌, ◌++◌, Contains, inl, inr, refl, sym, ap, subst, ◌∙◌, arith, filter, map, if◌then◌else◌}
use Rattle.std.specs.List.{AllByRecursion, list_any}
use Rattle.std.proofs.lemmas.Bool.{false≢true, and_from, and_parts, eqb-true, leb-false, or_cases, or_parts}
use Rattle.tftp_packet.specs.{Client, Message, Server, Side, Get, Put, Spells, opcode_of}
use Rattle.tftp_packet.specs.Hosts.{Datagram}
use Rattle.tftp_packet.specs.{Dir, In, Out}
use Rattle.law_model.specs.Model.{Meaning, Req, Oack, Data, Ack, Error, Deed, Sent, Took, History, IsOneSided, blksize_of, block, message_of}
use Rattle.law_model.specs.Rules.{Passed, brings_error, comes_in, goes_out, usable}
use Rattle.law_model.proofs.ModelLemmas.Members.{contains_cases, contains_none}
use Rattle.law_end.specs.{dir_of, packet_of, view_in}
use Rattle.law_end.proofs.Accord.FirstSpelled.{numbered}
use Rattle.law_end.proofs.Accord.PassedIsDone.{usable_passed}
use Rattle.law_end.proofs.Accord.Moments.{who_sent_ack, who_sent_data, who_took_ack, who_took_data, who_took_oack}
use Rattle.law_end.proofs.Division.RouteTests.{in_true, out_false, out_true, request_begins}
use Rattle.audit_flows.specs.Lines.{Recorded, Placed, begins_error, begins_request, is_ack, is_between, is_block, is_of, is_request, number_of, other_of, passes_in, same_endpoint}
use Rattle.audit_flows.specs.Lines.Doubting.{before_talk, far, is_other_talk, may_follow, writes_by}
use Rattle.audit_flows.specs.{Address, Endpoint, Talks, Transfer}
use Rattle.audit_flows.proofs.LinesLemmas.Lines.{by_test}
use Rattle.audit_spared.proofs.FairLemmas.Thinned.{filter_kept, filter_dropped, kept_or_not}
use Rattle.audit_spared.specs.Spared.{as_served, asks_from, goes_from, goes_on_from}
use Rattle.audit_spared.proofs.SparedLemmas.NextRuns.{AreMain, IsDone, IsNearBy, IsPartOf, sent_ack, sent_block, server_receives, server_sends, took_ack, took_block}
use Rattle.audit_spared.proofs.SparedLemmas.Places.{no_request_talks, of_talk}
use Rattle.audit_spared.proofs.SparedLemmas.ServedLaw.{came_seen, payload_seen}
use Rattle.audit_spared.proofs.SparedLemmas.ServedRuns.{at}
use Rattle.audit_spared.proofs.SparedLemmas.ServedViews.{same_seen, seen}
use Rattle.audit_spared.proofs.SparedLemmas.Stands.{AreWith, IsKnown, IsPlain, Same, goes_on_apart, new, talks, talks_apart}
use Rattle.audit_spared.proofs.SparedLemmas.Stands.IsPlain.{asks as asked}
use Rattle.audit_spared.proofs.SparedLemmas.SaidPayloads.{IsNumber, IsRight, ack_told, block_told, far_enough, right_plain, writes_of}

module _ (write : Address → List ℕ) (host : Address) (c : Endpoint) where
  abbrev see : Recorded → Datagram
  see = as_served write c

  abbrev all_seen : List Placed → List Datagram
  all_seen ps = map (seen write host c) ps

  -- whether it came from the client, by its way
  pub from_way : (dir : Dir) (d : Recorded) → (see d).dir ≡ dir → (dir ≡ In → goes_from c d ≡ true) × (dir ≡ Out → goes_from c d ≡ false)
  from_way dir d is = (
    (λ way. sym (came_seen write host c d) ∙ in_true (see d) (is ∙ way)),
    (λ way. sym (came_seen write host c d) ∙ out_false (see d) (is ∙ way)),
  )

  -- ---- what may follow

  block_by : (y : Transfer) (d : Recorded) → is_block d.payload ≡ true → writes_by c y d ≡ goes_from c d
  block_by y d block = ap (λ b. if b then same_endpoint d.source c else (if is_ack d.payload then not (same_endpoint d.source c) else y.writes)) block

  ack_by : (y : Transfer) (d : Recorded) → is_block d.payload ≡ false → is_ack d.payload ≡ true → writes_by c y d ≡ not (goes_from c d)
  ack_by y d block ack = ap (λ b. if b then same_endpoint d.source c else (if is_ack d.payload then not (same_endpoint d.source c) else y.writes)) block
      ∙ ap (λ b. if b then not (same_endpoint d.source c) else y.writes) ack

  -- it tells the side, and that so much may follow
  pub record Tells (side : Side) (y : Transfer) (d : Recorded) (n : ℕ) : Type 0 where
    pub writes : writes_by c y d ≡ writes_of side
    pub near : n ≤ number_of d.payload + 1

  pub tells : (side : Side) (dir : Dir) (x : Message) (y : Transfer) (d : Recorded) (n : ℕ) → IsRight side dir x → IsNearBy n x → (see d).dir ≡ dir → Spells d.payload x → Tells side y d n
  tells side In (Message.Data k bytes) y d n right near way says =
      let (block, number) = block_told d.payload k bytes says right.0 in
      record { writes = block_by y d block ∙ (from_way In d way).0 refl ∙ sym (ap writes_of right.1); near = subst (λ i. n ≤ i + 1) (sym number) near }
  tells side Out (Message.Data k bytes) y d n right near way says =
      let (block, number) = block_told d.payload k bytes says right.0 in
      record { writes = block_by y d block ∙ (from_way Out d way).1 refl ∙ sym (ap writes_of right.1); near = subst (λ i. n ≤ i + 1) (sym number) near }
  tells side In (Message.Ack j) y d n right near way says =
      let (block, ack, number) = ack_told d.payload j says in
      record { writes = ack_by y d block ack ∙ ap not ((from_way In d way).0 refl) ∙ sym (ap writes_of right); near = subst (λ i. n ≤ i + 1) (sym number) near }
  tells side Out (Message.Ack j) y d n right near way says =
      let (block, ack, number) = ack_told d.payload j says in
      record { writes = ack_by y d block ack ∙ ap not ((from_way Out d way).1 refl) ∙ sym (ap writes_of right); near = subst (λ i. n ≤ i + 1) (sym number) near }
  tells side In (Message.Request r) y d n right near way says = absurd right
  tells side Out (Message.Request r) y d n right near way says = absurd right
  tells side In (Message.Error code text) y d n right near way says = absurd right
  tells side Out (Message.Error code text) y d n right near way says = absurd right
  tells side In (Message.Oack options) y d n right near way says = absurd right
  tells side Out (Message.Oack options) y d n right near way says = absurd right

  may_come_of : (o : Endpoint) (side : Side) (e : Bool) (payload : List ℕ) (n : ℕ) → passes_in (writes_of side) e payload ≡ true → IsNumber payload n → (y : Transfer) (q : Placed) → is_between c o q.datagram ≡ true
      → Tells side y q.datagram n → may_follow c o e payload (new q.datagram q.moment (Talks y)) ≡ true
  may_come_of o side e payload n passes number y q between t =
      and_from (is_between c o q.datagram) (passes_in (writes_by c y q.datagram) e payload && nat_le (number_of payload) (far y q + 1)) between
      (and_from (passes_in (writes_by c y q.datagram) e payload) (nat_le (number_of payload) (far y q + 1)) (ap (λ w. passes_in w e payload) t.writes ∙ passes)
      (subst (λ i. nat_le i (far y q + 1) ≡ true) (sym number.0) (by_test (nat_le n (far y q + 1)) (λ is. is)
      (λ off.
      let past = leb-false n (far y q + 1) off in
      let enough : n ≤ far y q + 1 = far_enough y.has_window (number_of q.datagram.payload) n number.1 t.near in
      absurd (omega (arith, past, enough))))))

  -- ---- the lines of two ends that talked before

  none_all : (f : Placed → Bool) (g : Placed → Bool) (ps : List Placed) → list_any f ps ≡ false → AllByRecursion (λ q. g q ≡ true → f q ≡ false) ps
  none_all f g [] none = tt
  none_all f g (q ∷ ps) none = let parts = or_parts (f q) (list_any f ps) none in ((λ is. parts.0), none_all f g ps parts.1)

  pub none_before : (o : Endpoint) (n : ℕ) (f : Placed → Bool) (ps : List Placed) → list_any f (before_talk c o n ps) ≡ false → AllByRecursion (λ q. is_other_talk c o n q ≡ true → f q ≡ false) ps
  none_before o n f [] none = tt
  none_before o n f (q ∷ ps) none = by_test (is_other_talk c o n q)
      (λ is. none_all f (is_other_talk c o n) (q ∷ ps) (sym (ap (λ b. list_any f (if b then q ∷ ps else before_talk c o n ps)) is) ∙ none))
      (λ off. ((λ is. absurd (false≢true (sym off ∙ is))), none_before o n f ps (sym (ap (λ b. list_any f (if b then q ∷ ps else before_talk c o n ps)) off) ∙ none)))

  -- what passed before of another transfer is far from it
  abbrev pub IsFarOff : Side → ℕ → ℕ → Placed → Type 0
  IsFarOff side n i q = is_of i q ≡ false → (dir : Dir) (x : Message) → IsRight side dir x → IsNearBy n x → (see q.datagram).dir ≡ dir → Spells (see q.datagram).payload x → ⊥

  far_off : (o : Endpoint) (side : Side) (e : Bool) (payload : List ℕ) (n i : ℕ) → passes_in (writes_of side) e payload ≡ true → IsNumber payload n → (q : Placed) → IsKnown c q → IsPlain c q
      → (is_request q ≡ false → other_of c q.datagram ≡ o) → (is_other_talk c o i q ≡ true → may_follow c o e payload q ≡ false) → IsFarOff side n i q
  far_off o side e payload n i passes number q known plain with none off dir x right near way says = by plain where
    says_it : Spells q.datagram.payload x
    says_it = subst (λ l. Spells l x) (payload_seen write host c q.datagram) says

    by : IsPlain c q → ⊥
    by (asked z request there) = false≢true (sym (right_plain side dir x q.datagram.payload right says_it) ∙ (and_parts (goes_from c q.datagram) (begins_request q.datagram.payload) (sym known.kind ∙ request)).1)
    by (talks y there client) =
        let between : is_between c o q.datagram ≡ true = subst (λ w. is_between c w q.datagram ≡ true) (with (no_request_talks q y there)) known.here in
        let other : is_other_talk c o i q ≡ true = ap (λ place. is_other_talk c o i (new q.datagram q.moment place)) there
        ∙ and_from (is_between c o q.datagram) (not (y.number == i)) between (ap not (sym (of_talk i q y there) ∙ off)) in
        false≢true (sym (none other) ∙ ap (λ place. may_follow c o e payload (new q.datagram q.moment place)) there
        ∙ may_come_of o side e payload n passes number y q between (tells side dir x y q.datagram n right near way says_it))

  pub far_offs : (o : Endpoint) (side : Side) (e : Bool) (payload : List ℕ) (n i : ℕ) → passes_in (writes_of side) e payload ≡ true → IsNumber payload n → (ps : List Placed) → AllByRecursion (IsKnown c) ps → AllByRecursion (IsPlain c) ps
      → AreWith c o ps → AllByRecursion (λ q. is_other_talk c o i q ≡ true → may_follow c o e payload q ≡ false) ps → AllByRecursion (IsFarOff side n i) ps
  far_offs o side e payload n i passes number [] known plain with none = tt
  far_offs o side e payload n i passes number (q ∷ ps) known plain with none =
      (far_off o side e payload n i passes number q known.0 plain.0 with.0 none.0, far_offs o side e payload n i passes number ps known.1 plain.1 with.1 none.1)

  -- ---- so all that is near is in the transfer's view

  module _ (side : Side) (n i : ℕ) where
    own : List Placed → List Placed
    own ps = filter (is_of i) ps

    passed_kept : (ps : List Placed) → AllByRecursion (IsFarOff side n i) ps → (dir : Dir) (x : Message) → IsRight side dir x → IsNearBy n x → Passed dir x (all_seen ps) → Passed dir x (all_seen (filter (is_of i) ps))
    passed_kept [] far dir x right near p = p
    passed_kept (q ∷ ps) far dir x right near p = kept_or_not (is_of i) q
        (λ is. subst (λ l. Passed dir x (all_seen l)) (sym (filter_kept (is_of i) q ps is)) (elim p [ inl now ↦ inl now | inr before ↦ inr (passed_kept ps far.1 dir x right near before) ]))
        (λ off. subst (λ l. Passed dir x (all_seen l)) (sym (filter_dropped (is_of i) q ps off)) (elim p [ inl now ↦ absurd (far.0 off dir x right near now.0 now.1) | inr before ↦ passed_kept ps far.1 dir x right near before ]))

    passed_back : (ps : List Placed) (dir : Dir) (x : Message) → Passed dir x (all_seen (filter (is_of i) ps)) → Passed dir x (all_seen ps)
    passed_back [] dir x p = p
    passed_back (q ∷ ps) dir x p = kept_or_not (is_of i) q
        (λ is. elim (subst (λ l. Passed dir x (all_seen l)) (filter_kept (is_of i) q ps is) p) [ inl now ↦ inl now | inr before ↦ inr (passed_back ps dir x before) ])
        (λ off. inr (passed_back ps dir x (subst (λ l. Passed dir x (all_seen l)) (filter_dropped (is_of i) q ps off) p)))

  passed_left : (dir : Dir) (x : Message) (ds es : List Datagram) → Passed dir x ds → Passed dir x (ds ++ es)
  passed_left dir x [] es p = absurd p
  passed_left dir x (d ∷ ds) es p = elim p [ inl now ↦ inl now | inr before ↦ inr (passed_left dir x ds es before) ]

  passed_either : (dir : Dir) (x : Message) (ds es : List Datagram) → Passed dir x (ds ++ es) → Passed dir x ds ⊎ Passed dir x es
  passed_either dir x [] es p = inr p
  passed_either dir x (d ∷ ds) es p = elim p [
    | inl now ↦ inl (inl now)
    | inr before ↦ elim (passed_either dir x ds es before) [ inl one ↦ inl (inr one) | inr other ↦ inr other ]
  ]

  -- ---- what went out before an ERROR came

  pub past_is : (d : Datagram) (ds : List Datagram) → (goes_out d && list_any brings_error ds) ≡ true → usable (d ∷ ds) ≡ usable ds
  past_is d ds e = rw e refl

  pub now_is : (d : Datagram) (ds : List Datagram) → (goes_out d && list_any brings_error ds) ≡ false → usable (d ∷ ds) ≡ d ∷ usable ds
  now_is d ds e = rw e refl

  usable_more : (x : Message) (d : Datagram) (ds : List Datagram) → Passed Out x (usable ds) → Passed Out x (usable (d ∷ ds))
  usable_more x d ds p = by_test (goes_out d && list_any brings_error ds)
      (λ is. subst (Passed Out x) (sym (past_is d ds is)) p)
      (λ off. subst (Passed Out x) (sym (now_is d ds off)) (inr p))

  -- no ERROR came in the part where none did in the whole
  none_brought : (i : ℕ) (ps : List Placed) (es : List Datagram) → list_any brings_error es ≡ false → list_any brings_error (all_seen ps) ≡ false → list_any brings_error (all_seen (filter (is_of i) ps) ++ es) ≡ false
  none_brought i [] es none is = none
  none_brought i (q ∷ ps) es none is =
      let parts = or_parts (brings_error (see q.datagram)) (list_any brings_error (all_seen ps)) is in kept_or_not (is_of i) q
      (λ kept. ap (λ l. list_any brings_error (all_seen l ++ es)) (filter_kept (is_of i) q ps kept) ∙ ap (λ b. b || list_any brings_error (all_seen (filter (is_of i) ps) ++ es)) parts.0 ∙ none_brought i ps es none parts.1)
      (λ off. ap (λ l. list_any brings_error (all_seen l ++ es)) (filter_dropped (is_of i) q ps off) ∙ none_brought i ps es none parts.1)

  pub not_brought : (d : Datagram) (ds : List Datagram) → d.dir ≡ Out → (goes_out d && list_any brings_error ds) ≡ false → list_any brings_error ds ≡ false
  not_brought d ds way off = sym (ap (λ b. b && list_any brings_error ds) (out_true d way)) ∙ off

  used_kept : (side : Side) (n i : ℕ) (ps : List Placed) (es : List Datagram) → list_any brings_error es ≡ false → AllByRecursion (IsFarOff side n i) ps → (x : Message) → IsRight side Out x → IsNearBy n x
      → Passed Out x (usable (all_seen ps)) → Passed Out x (usable (all_seen (filter (is_of i) ps) ++ es))
  used_kept side n i [] es none far x right near p = absurd p
  used_kept side n i (q ∷ ps) es none far x right near p = by (used_kept side n i ps es none far.1 x right near) (kept_or_not (is_of i) q inl inr) where
    Step : Type 0
    Step = Passed Out x (usable (all_seen ps)) → Passed Out x (usable (all_seen (filter (is_of i) ps) ++ es))

    more : Step → (is_of i q ≡ true) ⊎ (is_of i q ≡ false) → Passed Out x (usable (all_seen ps)) → Passed Out x (usable (all_seen (filter (is_of i) (q ∷ ps)) ++ es))
    more before (inl is) there = subst (λ l. Passed Out x (usable (all_seen l ++ es))) (sym (filter_kept (is_of i) q ps is)) (usable_more x (see q.datagram) (all_seen (filter (is_of i) ps) ++ es) (before there))
    more before (inr off) there = subst (λ l. Passed Out x (usable (all_seen l ++ es))) (sym (filter_dropped (is_of i) q ps off)) (before there)

    and_none : (b : Bool) → (b && false) ≡ false
    and_none true = refl
    and_none false = refl

    here : (is_of i q ≡ true) ⊎ (is_of i q ≡ false) → (goes_out (see q.datagram) && list_any brings_error (all_seen ps)) ≡ false → ((see q.datagram).dir ≡ Out) × Spells (see q.datagram).payload x
        → Passed Out x (usable (all_seen (filter (is_of i) (q ∷ ps)) ++ es))
    here (inr off) unbrought now = absurd (far.0 off Out x right near now.0 now.1)
    here (inl is) unbrought now =
        let still : list_any brings_error (all_seen (filter (is_of i) ps) ++ es) ≡ false = none_brought i ps es none (not_brought (see q.datagram) (all_seen ps) now.0 unbrought) in
        let off : (goes_out (see q.datagram) && list_any brings_error (all_seen (filter (is_of i) ps) ++ es)) ≡ false = ap (λ b. goes_out (see q.datagram) && b) still ∙ and_none (goes_out (see q.datagram)) in
        subst (λ l. Passed Out x (usable (all_seen l ++ es))) (sym (filter_kept (is_of i) q ps is)) (subst (Passed Out x) (sym (now_is (see q.datagram) (all_seen (filter (is_of i) ps) ++ es) off)) (inl now))

    by : Step → (is_of i q ≡ true) ⊎ (is_of i q ≡ false) → Passed Out x (usable (all_seen (filter (is_of i) (q ∷ ps)) ++ es))
    by before which = by_test (goes_out (see q.datagram) && list_any brings_error (all_seen ps))
        (λ is. more before which (subst (Passed Out x) (past_is (see q.datagram) (all_seen ps) is) p))
        (λ off. elim (subst (Passed Out x) (now_is (see q.datagram) (all_seen ps) off) p) [ inl now ↦ here which off now | inr there ↦ more before which there ])

  -- ---- the whole and the part

  -- what is near goes right
  right_of : (m : Meaning) (wire : List ℕ) (ds : List Datagram) (a : AreMain m wire ds) (n : ℕ) (dir : Dir) (x : Message) → IsNearBy n x → Passed dir x ds → IsRight m.side dir x
  right_of m wire ds a n In (Message.Data k bytes) near p =
      let took = took_block m wire ds a k bytes p in
      ((numbered at m wire (view_in a.division) a.own (Took (Data k)) took k refl).0, server_receives m.side (who_took_data m wire Server (view_in a.division) a.own k took))
  right_of m wire ds a n Out (Message.Data k bytes) near p =
      let sent = sent_block m wire ds a k bytes p in
      ((numbered at m wire (view_in a.division) a.own (Sent (Data k)) sent k refl).0, server_sends m.side (who_sent_data m wire Server (view_in a.division) a.own k sent))
  right_of m wire ds a n In (Message.Ack j) near p = server_sends m.side (who_took_ack m wire Server (view_in a.division) a.own j (took_ack m wire ds a j p))
  right_of m wire ds a n Out (Message.Ack j) near p = server_receives m.side (who_sent_ack m wire Server (view_in a.division) a.own j (sent_ack m wire ds a j p))
  right_of m wire ds a n In (Message.Request r) near p = absurd near
  right_of m wire ds a n Out (Message.Request r) near p = absurd near
  right_of m wire ds a n In (Message.Error code text) near p = absurd near
  right_of m wire ds a n Out (Message.Error code text) near p = absurd near
  right_of m wire ds a n In (Message.Oack options) near p = absurd near
  right_of m wire ds a n Out (Message.Oack options) near p = absurd near

  -- requests in the same words have passed
  same_passed : (r : Recorded) (ps : List Placed) (dir : Dir) (x : Message) → AllByRecursion (λ q. (is_request q ≡ true) × Same q.datagram r) ps → Passed dir x (all_seen ps) → ((see r).dir ≡ dir) × Spells (see r).payload x
  same_passed r [] dir x all p = absurd p
  same_passed r (q ∷ ps) dir x all p = elim p [
    | inl now ↦ subst (λ (e : Datagram). (e.dir ≡ dir) × Spells e.payload x) (same_seen write host c q.datagram r all.0.1) now
    | inr before ↦ same_passed r ps dir x all.1 before
  ]

  passed_there : (r : Recorded) (ps : List Placed) (dir : Dir) (x : Message) → Contains (map (λ (q : Placed). q.datagram) ps) r → ((see r).dir ≡ dir) × Spells (see r).payload x → Passed dir x (all_seen ps)
  passed_there r [] dir x there says = absurd (contains_none r there)
  passed_there r (q ∷ ps) dir x there says = elim (contains_cases q.datagram (map (λ (s : Placed). s.datagram) ps) r there) [
    | inl this ↦ inl (subst (λ d. ((see d).dir ≡ dir) × Spells (see d).payload x) (sym this) says)
    | inr later ↦ inr (passed_there r ps dir x later says)
  ]

  -- a request brings no ERROR
  request_error : (payload : List ℕ) → begins_request payload ≡ true → (opcode_of payload == 5) ≡ false
  request_error payload is = elim (or_cases (opcode_of payload == 1) (opcode_of payload == 2) is) [
    | inl read ↦ ap (λ i. i == 5) (eqb-true (opcode_of payload) 1 read)
    | inr write ↦ ap (λ i. i == 5) (eqb-true (opcode_of payload) 2 write)
  ]

  none_brings : (r : Recorded) (ps : List Placed) → asks_from c r ≡ true → AllByRecursion (λ q. (is_request q ≡ true) × Same q.datagram r) ps → list_any brings_error (all_seen ps) ≡ false
  none_brings r [] asks all = refl
  none_brings r (q ∷ ps) asks all =
      let begins : begins_request r.payload ≡ true = (and_parts (goes_from c r) (begins_request r.payload) asks).1 in
      let off : (opcode_of (see q.datagram).payload == 5) ≡ false = ap (λ l. opcode_of l == 5) (payload_seen write host c q.datagram ∙ all.0.1.payload) ∙ request_error r.payload begins in
      ap (λ b. (comes_in (see q.datagram) && b) || list_any brings_error (all_seen ps)) off
      ∙ ap (λ b. b || list_any brings_error (all_seen ps)) (and_none (comes_in (see q.datagram)))
      ∙ none_brings r ps asks all.1
    where
      and_none : (b : Bool) → (b && false) ≡ false
      and_none true = refl
      and_none false = refl

  pub part_of : (m : Meaning) (wire : List ℕ) (n i : ℕ) (ps : List Placed) (a : AreMain m wire (all_seen ps)) → AllByRecursion (IsFarOff m.side n i) ps → (r : Recorded) → asks_from c r ≡ true → Contains (map (λ (q : Placed). q.datagram) ps) r
      → (before : List Placed) → AllByRecursion (λ q. (is_request q ≡ true) × Same q.datagram r) before → IsPartOf n (all_seen ps) (all_seen (filter (is_of i) ps) ++ all_seen before)
  part_of m wire n i ps a far r asks there before repeated = record {
    back = λ dir x p. elim (passed_either dir x (all_seen (filter (is_of i) ps)) (all_seen before) p) [
      | inl one ↦ passed_back m.side n i ps dir x one
      | inr other ↦ passed_there r ps dir x there (same_passed r before dir x repeated other)
    ];
    near = λ dir x near p. passed_left dir x (all_seen (filter (is_of i) ps)) (all_seen before)
        (passed_kept m.side n i ps far dir x (right_of m wire (all_seen ps) a n dir x near p) near p);
    used = λ x near p. used_kept m.side n i ps (all_seen before) (none_brings r before asks repeated) far x
        (right_of m wire (all_seen ps) a n Out x near (usable_whole x (all_seen ps) p)) near p;
  } where
    usable_whole : (x : Message) (ds : List Datagram) → Passed Out x (usable ds) → Passed Out x ds
    usable_whole = usable_passed Out

  -- ---- what its client went on by is near a number up to 1

  pub any_refuted : (test : Placed → Bool) (ps : List Placed) → AllByRecursion (λ q. test q ≡ true → ⊥) ps → list_any test ps ≡ true → ⊥
  any_refuted test [] all any = false≢true any
  any_refuted test (q ∷ ps) all any = elim (or_cases (test q) (list_any test ps) any) [ inl this ↦ all.0 this | inr later ↦ any_refuted test ps all.1 later ]

  pub no_error_there : (d : Recorded) → goes_on_from c d ≡ true → (begins_request d.payload ≡ false) × (goes_from c d ≡ true) × (begins_error d.payload ≡ false)
  no_error_there d on = by_test (begins_request d.payload)
      (λ is. absurd (false≢true (sym (ap (λ b. if b then false else (goes_from c d && not (begins_error d.payload))) is) ∙ on)))
      (λ off.
      let parts = and_parts (goes_from c d) (not (begins_error d.payload)) (sym (ap (λ b. if b then false else (goes_from c d && not (begins_error d.payload))) off) ∙ on) in
      (off, parts.0, by_test (begins_error d.payload) (λ is. absurd (false≢true (sym (ap not is) ∙ parts.1))) (λ none. none)))

  module _ (m : Meaning) (wire : List ℕ) (v : History) (own_v : IsOneSided m wire Server v) (n i : ℕ) (low : (n ≤ 1) ⊎ ((n ≤ 2) × (m.side ≡ Put))) where
    went_far : (q : Placed) → IsFarOff m.side n i q → IsDone m wire v (see q.datagram) → goes_on_apart c i q ≡ true → ⊥
    went_far q far (deed, is, way, says) test = by deed is way says where
      parts : (goes_on_from c q.datagram ≡ true) × (talks_apart i q ≡ true)
      parts = and_parts (goes_on_from c q.datagram) (talks_apart i q) test

      off : is_of i q ≡ false
      off = by_test (is_of i q) (λ is_it. absurd (false≢true (sym (ap not is_it) ∙ (and_parts (not (is_request q)) (not (is_of i q)) parts.1).1))) (λ none. none)

      plain : (begins_request q.datagram.payload ≡ false) × (goes_from c q.datagram ≡ true) × (begins_error q.datagram.payload ≡ false)
      plain = no_error_there q.datagram parts.0

      payload : (see q.datagram).payload ≡ q.datagram.payload
      payload = payload_seen write host c q.datagram

      went_out : (see q.datagram).dir ≡ Out → ⊥
      went_out out = false≢true (sym ((from_way Out q.datagram out).1 refl) ∙ plain.1)

      by : (deed : Deed) → Contains v deed → (see q.datagram).dir ≡ dir_of deed → Spells (see q.datagram).payload (message_of m wire (packet_of deed)) → ⊥
      by (Sent s) is way says = went_out way
      by (Took Req) is way says = false≢true (sym plain.0 ∙ ap begins_request (sym payload) ∙ request_begins (see q.datagram).payload _ says)
      by (Took Oack) is way says = let wrong : Server ≡ Client = who_took_oack m wire Server v own_v is in absurd (cc)
      by (Took (Error code text)) is way (b, (x, y, pair, string, says)) =
          false≢true (sym plain.2 ∙ ap begins_error (sym payload) ∙ subst (λ l. begins_error l ≡ true) (sym says) refl)
      by (Took (Data k)) is way says =
          let from_one = (numbered at m wire v own_v (Took (Data k)) is k refl).0 in
          let near : n ≤ k + 1 = elim low [ inl one ↦ omega (arith, one) | inr both ↦ (let two = both.0 in omega (arith, two, from_one)) ] in
          far off In (Message.Data k (block (blksize_of m) wire k)) (from_one, server_receives m.side (who_took_data m wire Server v own_v k is)) near way says
      by (Took (Ack j)) is way says =
          let get = server_sends m.side (who_took_ack m wire Server v own_v j is) in
          let near : n ≤ j + 1 = elim low [ inl one ↦ omega (arith, one) | inr both ↦ (let wrong : Get ≡ Put = sym get ∙ both.1 in absurd (cc)) ] in
          far off In (Message.Ack j) get near way says

    pub went_fars : (ps : List Placed) → AllByRecursion (IsFarOff m.side n i) ps → AllByRecursion (IsDone m wire v) (all_seen ps) → AllByRecursion (λ q. goes_on_apart c i q ≡ true → ⊥) ps
    went_fars [] far done = tt
    went_fars (q ∷ ps) far done = (went_far q far.0 done.0, went_fars ps far.1 done.1)
