-- A second block of a transfer that began without its OACK: the first was not acknowledged.
use Rattle.std.proofs.Common.{◌≡◌, ◌≢◌, ℕ, ◌==◌, ◌&&◌, not, Bool, Option, Some, None, true, false, List, [], ◌∷◌, ◌++◌, Contains, inl, inr, refl, sym, ap, subst, ◌∙◌, arith, filter, map, if◌then◌else◌}
use Rattle.std.specs.List.{AllByRecursion, list_any}
use Rattle.std.proofs.lemmas.Bool.{false≢true, and_from, and_parts, cases_eq, or_cases, or_left, or_parts, or_right}
use Rattle.tftp_packet.specs.{Client, Message, Server, Get, Put, Spells, opcode_of}
use Rattle.tftp_packet.specs.Hosts.{Datagram}
use Rattle.tftp_packet.specs.{In, Out}
use Rattle.law_model.specs.Model.{Meaning, MaySendData, HasSent, heard, windowsize_of, Req, Oack, Data, Ack, Error, Deed, Sent, Took, History, IsOneSided, blksize_of, block, message_of, request_of}
use Rattle.law_model.specs.Rules.{Passed, brings_error, comes_in, goes_out, usable}
use Rattle.law_model.specs.Model.Roles.{receiver_of}
use Rattle.law_end.specs.{dir_of, packet_of, view_in}
use Rattle.law_end.proofs.Accord.PassedIsDone.{usable_passed}
use Rattle.law_end.proofs.Accord.Moments.{who_sent_ack, who_sent_request, who_took_data, who_took_oack}
use Rattle.law_end.proofs.Division.RouteTests.{in_true, request_begins}
use Rattle.audit_flows.specs.Lines.{Recorded, Placed, begins_oack, begins_request, goes, is_ack_0, is_of, is_request, last_was_ack_0, newest_of, other_of, same_endpoint}
use Rattle.audit_flows.specs.Lines.Recording.{is_data_1}
use Rattle.audit_flows.specs.Lines.Doubting.{far}
use Rattle.audit_flows.specs.{Address, Endpoint}
use Rattle.audit_flows.proofs.LinesLemmas.Endpoints.{same_itself}
use Rattle.audit_flows.proofs.LinesLemmas.Lines.{by_test}
use Rattle.audit_spared.proofs.FairLemmas.Thinned.{filter_kept, filter_dropped, kept_or_not}
use Rattle.audit_spared.specs.Spared.{as_served, goes_from, goes_on_from}
use Rattle.audit_spared.proofs.SparedLemmas.Basics.{all_last, newest_all, newest_first, newest_some}
use Rattle.audit_spared.proofs.SparedLemmas.Lists.{map_append}
use Rattle.audit_spared.proofs.SparedLemmas.NextRuns.{AreMain, IsDone, all_done, heard_passed, server_receives, server_sends}
use Rattle.audit_spared.proofs.SparedLemmas.LockStep.{says_oack}
use Rattle.audit_spared.proofs.SparedLemmas.NearParts.{acked_heard}
use Rattle.audit_spared.proofs.SparedLemmas.ServedLaw.{payload_seen}
use Rattle.audit_spared.proofs.SparedLemmas.ServedViews.{seen}
use Rattle.audit_spared.proofs.SparedLemmas.Stands.{AreWith, IsKnown, OthersOf, Reopener}
use Rattle.audit_spared.proofs.SparedLemmas.SaidPayloads.{answers_block, zero_acks}
use Rattle.audit_spared.proofs.SparedLemmas.FarOff.{IsFarOff, from_way, no_error_there, not_brought, now_is, past_is}

module _ (write : Address → List ℕ) (host : Address) (c : Endpoint) where
  abbrev see : Recorded → Datagram
  see = as_served write c

  abbrev all_seen : List Placed → List Datagram
  all_seen ps = map (seen write host c) ps

  -- ---- what opened it is among the transfer's

  pub rest_of : (p q : Placed) (xs ys : List Placed) → p ∷ xs ≡ q ∷ ys → xs ≡ ys
  rest_of p q xs ys e = cc

  pub kept_some : (i : ℕ) (newer : List Placed) (q : Placed) (early : List Placed) (es : List Datagram) → is_of i q ≡ true → all_seen (filter (is_of i) (newer ++ q ∷ early)) ++ es ≢ []
  kept_some i [] q early es own none =
      let both : see q.datagram ∷ (all_seen (filter (is_of i) early) ++ es) ≡ [] = sym (ap (λ l. all_seen l ++ es) (filter_kept (is_of i) q early own)) ∙ none in absurd (cc)
  kept_some i (r ∷ newer) q early es own none = kept_or_not (is_of i) r
      (λ is. let both : see r.datagram ∷ (all_seen (filter (is_of i) (newer ++ q ∷ early)) ++ es) ≡ [] = sym (ap (λ l. all_seen l ++ es) (filter_kept (is_of i) r (newer ++ q ∷ early) is)) ∙ none in absurd (cc))
      (λ off. kept_some i newer q early es own (sym (ap (λ l. all_seen l ++ es) (filter_dropped (is_of i) r (newer ++ q ∷ early) off)) ∙ none))

  kept_any : (f : Datagram → Bool) (i : ℕ) (newer : List Placed) (q : Placed) (early : List Placed) (es : List Datagram) → is_of i q ≡ true → f (see q.datagram) ≡ true → list_any f (all_seen (filter (is_of i) (newer ++ q ∷ early)) ++ es) ≡ true
  kept_any f i [] q early es own is = ap (λ l. list_any f (all_seen l ++ es)) (filter_kept (is_of i) q early own) ∙ or_left (f (see q.datagram)) (list_any f (all_seen (filter (is_of i) early) ++ es)) is
  kept_any f i (r ∷ newer) q early es own is = kept_or_not (is_of i) r
      (λ kept. ap (λ l. list_any f (all_seen l ++ es)) (filter_kept (is_of i) r (newer ++ q ∷ early) kept) ∙ or_right (f (see r.datagram)) (list_any f (all_seen (filter (is_of i) (newer ++ q ∷ early)) ++ es)) (kept_any f i newer q early es own is))
      (λ off. ap (λ l. list_any f (all_seen l ++ es)) (filter_dropped (is_of i) r (newer ++ q ∷ early) off) ∙ kept_any f i newer q early es own is)

  pub done_each : (m : Meaning) (wire : List ℕ) (v : History) (ps : List Placed) → AllByRecursion (IsDone m wire v) (all_seen ps) → AllByRecursion (λ q. IsDone m wire v (see q.datagram)) ps
  done_each m wire v [] all = tt
  done_each m wire v (q ∷ ps) all = (all.0, done_each m wire v ps all.1)

  both_all : (P Q : Placed → Type 0) (ps : List Placed) → AllByRecursion P ps → AllByRecursion Q ps → AllByRecursion (λ q. P q × Q q) ps
  both_all P Q [] one other = tt
  both_all P Q (q ∷ ps) one other = ((one.0, other.0), both_all P Q ps one.1 other.1)

  -- ---- after an ERROR came nothing that goes out can be used

  stopped_usable : (x : Message) (ds es : List Datagram) → list_any brings_error es ≡ true → Passed Out x (usable (ds ++ es)) → Passed Out x (usable es)
  stopped_usable x [] es any p = p
  stopped_usable x (d ∷ ds) es any p = stopped_usable x ds es any (by_test (goes_out d && list_any brings_error (ds ++ es))
      (λ is. subst (Passed Out x) (past_is write host c d (ds ++ es) is) p)
      (λ off. elim (subst (Passed Out x) (now_is write host c d (ds ++ es) off) p) [
        | inl now ↦ absurd (false≢true (sym (not_brought write host c d (ds ++ es) now.0 off) ∙ any_last ds))
        | inr before ↦ before
      ]))
    where
      any_last : (ds : List Datagram) → list_any brings_error (ds ++ es) ≡ true
      any_last [] = any
      any_last (e ∷ ds) = or_right (brings_error e) (list_any brings_error (ds ++ es)) (any_last ds)

  -- ---- a second block whose transfer has no OACK was acknowledged before the transfer

  abbrev IsEarly : Meaning → List ℕ → History → ℕ → ℕ → Endpoint → Placed → Type 0
  IsEarly m wire v n i o q = (IsFarOff write host c m.side n i q × IsKnown c q) × ((is_request q ≡ false → other_of c q.datagram ≡ o) × IsDone m wire v (see q.datagram))

  acked_is : (o : Endpoint) (ps : List Placed) (q : Placed) → newest_of (λ r. not (is_request r) && goes c o r.datagram) ps ≡ Some q → last_was_ack_0 c o ps ≡ is_ack_0 q.datagram.payload
  acked_is o ps q found = rw found refl

  none_each : (ps : List Placed) → list_any brings_error (all_seen ps) ≡ false → AllByRecursion (λ q. brings_error (see q.datagram) ≡ false) ps
  none_each [] none = tt
  none_each (q ∷ ps) none = let parts = or_parts (brings_error (see q.datagram)) (list_any brings_error (all_seen ps)) none in (parts.0, none_each ps parts.1)

  module _ (m : Meaning) (wire : List ℕ) (v : History) (own_v : IsOneSided m wire Server v) (n i : ℕ) (is_two : n ≡ 2) (o : Endpoint) (get : m.side ≡ Get) where
    not_written : Server ≡ receiver_of m.side → ⊥
    not_written receiver = let put = server_receives m.side receiver in let wrong : Get ≡ Put = sym get ∙ put in cc

    spoke_to : (ps : List Placed) → AllByRecursion (IsEarly m wire v n i o) ps → list_any (λ q. goes_on_from c q.datagram) ps ≡ true → list_any (λ r. not (is_request r) && goes c o r.datagram) ps ≡ true
    spoke_to [] all any = absurd (false≢true any)
    spoke_to (q ∷ ps) all any = elim (or_cases (goes_on_from c q.datagram) (list_any (λ r. goes_on_from c r.datagram) ps) any) [
      | inl this ↦
          let told = no_error_there write host c q.datagram this in
          let plain : is_request q ≡ false = all.0.0.1.kind ∙ ap (λ b. b && begins_request q.datagram.payload) told.1 ∙ told.0 in
          let target : q.datagram.target ≡ o = sym (ap (λ b. if b then q.datagram.target else q.datagram.source) told.1) ∙ all.0.1.0 plain in
          or_left (not (is_request q) && goes c o q.datagram) (list_any (λ r. not (is_request r) && goes c o r.datagram) ps)
          (and_from (not (is_request q)) (goes c o q.datagram) (ap not plain)
          (and_from (same_endpoint q.datagram.source c) (same_endpoint q.datagram.target o) told.1 (subst (λ e. same_endpoint q.datagram.target e ≡ true) target (same_itself q.datagram.target))))
      | inr later ↦ or_right (not (is_request q) && goes c o q.datagram) (list_any (λ r. not (is_request r) && goes c o r.datagram) ps) (spoke_to ps all.1 later)
    ]

    -- its client's last word, if it is no ERROR, was ACK 0
    last_word : (q : Placed) → IsEarly m wire v n i o q → OthersOf i q → brings_error (see q.datagram) ≡ false → (not (is_request q) && goes c o q.datagram) ≡ true → is_ack_0 q.datagram.payload ≡ true
    last_word q early others unbrought test = by early.1.1.0 early.1.1.1 early.1.1.2 early.1.1.3 where
      parts : (not (is_request q) ≡ true) × (goes c o q.datagram ≡ true)
      parts = and_parts (not (is_request q)) (goes c o q.datagram) test

      plain : is_request q ≡ false
      plain = by_test (is_request q) (λ is. absurd (false≢true (sym (ap not is) ∙ parts.0))) (λ off. off)

      from : goes_from c q.datagram ≡ true
      from = (and_parts (same_endpoint q.datagram.source c) (same_endpoint q.datagram.target o) parts.1).0

      says_it : (x : Message) → Spells (see q.datagram).payload x → Spells q.datagram.payload x
      says_it x says = subst (λ l. Spells l x) (payload_seen write host c q.datagram) says

      by : (deed : Deed) → Contains v deed → (see q.datagram).dir ≡ dir_of deed → Spells (see q.datagram).payload (message_of m wire (packet_of deed)) → is_ack_0 q.datagram.payload ≡ true
      by (Sent s) is way says = absurd (false≢true (sym ((from_way write host c Out q.datagram way).1 refl) ∙ from))
      by (Took Req) is way says = absurd (false≢true (sym plain ∙ early.0.1.kind ∙ and_from (goes_from c q.datagram) (begins_request q.datagram.payload) from
          (request_begins q.datagram.payload (request_of m) (says_it (Message.Request (request_of m)) says))))
      by (Took Oack) is way says = let wrong : Server ≡ Client = who_took_oack m wire Server v own_v is in absurd (cc)
      by (Took (Data k)) is way says = absurd (not_written (who_took_data m wire Server v own_v k is))
      by (Took (Error code text)) is way (b, (x, y, pair, string, says)) = absurd (false≢true (sym unbrought ∙ and_from (comes_in (see q.datagram)) (opcode_of (see q.datagram).payload == 5) (in_true (see q.datagram) way)
          (subst (λ l. (opcode_of l == 5) ≡ true) (sym says) refl)))
      by (Took (Ack j)) is way says = elim (cases_eq j 0) [
        | inl zero_it ↦ zero_acks q.datagram.payload (says_it (Message.Ack 0) (subst (λ t. Spells (see q.datagram).payload (Message.Ack t)) zero_it says))
        | inr more ↦ absurd (early.0.0 (others plain) In (Message.Ack j) get (omega (arith, is_two, more)) way says)
      ]

    -- so an ERROR came
    error_came : (early rest : List Placed) → AllByRecursion (IsEarly m wire v n i o) early → AllByRecursion (OthersOf i) early → list_any (λ q. goes_on_from c q.datagram) early ≡ true → last_was_ack_0 c o (early ++ rest) ≡ false
        → list_any brings_error (all_seen early) ≡ true
    error_came early rest all others went last = by_test (list_any brings_error (all_seen early)) (λ is. is) (λ off. absurd (by off (newest_of test early) refl)) where
      test : Placed → Bool
      test r = not (is_request r) && goes c o r.datagram

      any : list_any (λ r. not (is_request r) && goes c o r.datagram) early ≡ true
      any = spoke_to early all went

      by : list_any brings_error (all_seen early) ≡ false → (found : Option Placed) → newest_of (λ r. not (is_request r) && goes c o r.datagram) early ≡ found → ⊥
      by off None none = false≢true (sym (newest_some (λ r. not (is_request r) && goes c o r.datagram) early none) ∙ any)
      by off (Some q) found =
          let (holds, tested) = newest_all (λ r. IsEarly m wire v n i o r × (OthersOf i r × (brings_error (see r.datagram) ≡ false))) (λ r. not (is_request r) && goes c o r.datagram) early q
          (both_all (IsEarly m wire v n i o) (λ r. OthersOf i r × (brings_error (see r.datagram) ≡ false)) early all (both_all (OthersOf i) (λ r. brings_error (see r.datagram) ≡ false) early others (none_each early off))) found in
          false≢true (sym last ∙ acked_is o (early ++ rest) q (newest_first (λ r. not (is_request r) && goes c o r.datagram) early rest any ∙ found) ∙ last_word q holds.0 holds.1.0 holds.1.1 tested)

    -- and no block 1 is among what passed before
    none_early : (ps : List Placed) → AllByRecursion (IsEarly m wire v n i o) ps → AllByRecursion (OthersOf i) ps → (bytes : List ℕ) → Passed Out (Message.Data 1 bytes) (all_seen ps) → ⊥
    none_early [] all others bytes p = p
    none_early (q ∷ ps) all others bytes p = elim p [
      | inl now ↦
          let off : goes_from c q.datagram ≡ false = (from_way write host c Out q.datagram now.0).1 refl in
          let plain : is_request q ≡ false = all.0.0.1.kind ∙ ap (λ b. b && begins_request q.datagram.payload) off in
          all.0.0.0 (others.0 plain) Out (Message.Data 1 bytes) (omega arith, get) (omega (arith, is_two)) now.0 now.1
      | inr before ↦ none_early ps all.1 others.1 bytes before
    ]

  -- what opened the transfer is DATA 1, though the client's last word was an ERROR: what was sent then is not acknowledged
  pub no_second : (m : Meaning) (wire : List ℕ) (i n : ℕ) → n ≡ 2 → windowsize_of m ≡ 1 → (p : Placed) (kp rest : List Placed) (o : Endpoint) (b : AreMain m wire (all_seen kp)) → MaySendData m wire Server (view_in b.division) n
      → AllByRecursion (IsFarOff write host c m.side n i) kp → AllByRecursion (IsKnown c) kp → AreWith c o kp → (op : Reopener c i (p ∷ kp) rest) → (newer : List Placed) → kp ≡ newer ++ op.opener ∷ op.early
      → (es : List Datagram) → list_any says_oack (all_seen (filter (is_of i) kp) ++ es) ≡ false → ⊥
  no_second m wire i n is_two single p kp rest o b may far known with op newer split es none_said = none_early m wire v b.own n i is_two o get op.early here.1 op.others (block (blksize_of m) wire 1) (usable_passed Out (Message.Data 1 (block (blksize_of m) wire 1)) (all_seen op.early) usable_early) where
    v : History
    v = view_in b.division

    get : m.side ≡ Get
    get = server_sends m.side may.sender

    here : IsEarly m wire (view_in b.division) n i o op.opener × AllByRecursion (IsEarly m wire (view_in b.division) n i o) op.early
    here = all_last (IsEarly m wire (view_in b.division) n i o) newer (op.opener ∷ op.early) (subst (AllByRecursion (IsEarly m wire (view_in b.division) n i o)) split
        (both_all (λ q. IsFarOff write host c m.side n i q × IsKnown c q) (λ q. (is_request q ≡ false → other_of c q.datagram ≡ o) × IsDone m wire (view_in b.division) (see q.datagram)) kp
        (both_all (IsFarOff write host c m.side n i) (IsKnown c) kp far known)
        (both_all (λ q. is_request q ≡ false → other_of c q.datagram ≡ o) (λ q. IsDone m wire (view_in b.division) (see q.datagram)) kp with (done_each m wire (view_in b.division) kp (all_done m wire (all_seen kp) b)))))

    went_out : (see op.opener.datagram).dir ≡ Out
    went_out = by here.0.1.1.0 here.0.1.1.2 where
      by : (deed : Deed) → (see op.opener.datagram).dir ≡ dir_of deed → (see op.opener.datagram).dir ≡ Out
      by (Sent q) way = way
      by (Took q) way = absurd (false≢true (sym op.from ∙ (from_way write host c In op.opener.datagram way).0 refl))

    is_first : is_data_1 op.opener.datagram.payload ≡ true
    is_first = by here.0.1.1.0 here.0.1.1.1 here.0.1.1.2 here.0.1.1.3 where
      by : (deed : Deed) → Contains (view_in b.division) deed → (see op.opener.datagram).dir ≡ dir_of deed → Spells (see op.opener.datagram).payload (message_of m wire (packet_of deed)) → is_data_1 op.opener.datagram.payload ≡ true
      by (Took q) is way says = absurd (false≢true (sym op.from ∙ (from_way write host c In op.opener.datagram way).0 refl))
      by (Sent Req) is way says = let wrong : Server ≡ Client = who_sent_request m wire Server (view_in b.division) b.own is in absurd (cc)
      by (Sent Oack) is way says = absurd (false≢true (sym none_said ∙ ap (λ l. list_any says_oack (all_seen (filter (is_of i) l) ++ es)) split
          ∙ kept_any says_oack i newer op.opener op.early es op.own (subst (λ l. begins_oack l ≡ true) (sym says.1.bytes) refl)))
      by (Sent (Error code text)) is way says = absurd (may.no_error code text is)
      by (Sent (Ack j)) is way says = absurd (not_written m wire (view_in b.division) b.own n i is_two o get (who_sent_ack m wire Server (view_in b.division) b.own j is))
      by (Sent (Data k)) is way says = (answers_block op.opener.datagram.payload k (block (blksize_of m) wire k)
          (subst (λ l. Spells l (Message.Data k (block (blksize_of m) wire k))) (payload_seen write host c op.opener.datagram) says) op.answers).1

    last : last_was_ack_0 c o (op.early ++ rest) ≡ false
    last = sym (ap (λ t. t && last_was_ack_0 c o (op.early ++ rest)) is_first)
        ∙ ap (λ e. is_data_1 op.opener.datagram.payload && last_was_ack_0 c e (op.early ++ rest)) (sym (here.0.1.0 (here.0.0.1.kind ∙ ap (λ t. t && begins_request op.opener.datagram.payload) op.from)))
        ∙ op.no_next

    came : list_any brings_error (all_seen op.early) ≡ true
    came = error_came m wire (view_in b.division) b.own n i is_two o get op.early rest here.1 op.others op.went last

    sent : HasSent (heard (view_in b.division)) (Data 1)
    sent =
        let w = may.in_window in
        let high = w.3 in
        elim w.1 [
          | inl none ↦ absurd (omega (arith, none, high, single, is_two))
          | inr taken ↦ acked_heard m wire (view_in b.division) b.own w.0 1 taken (omega arith) (omega (arith, high, single, is_two))
        ]

    usable_early : Passed Out (Message.Data 1 (block (blksize_of m) wire 1)) (usable (all_seen op.early))
    usable_early =
        let there = subst (λ l. Passed Out (Message.Data 1 (block (blksize_of m) wire 1)) (usable l)) (ap all_seen split ∙ map_append (seen write host c) newer (op.opener ∷ op.early))
        (heard_passed m wire (all_seen kp) b (Data 1) sent) in
        stopped_usable (Message.Data 1 (block (blksize_of m) wire 1)) (see op.opener.datagram ∷ []) (all_seen op.early) came
        (stopped_usable (Message.Data 1 (block (blksize_of m) wire 1)) (all_seen newer) (see op.opener.datagram ∷ all_seen op.early) (or_right (brings_error (see op.opener.datagram)) (list_any brings_error (all_seen op.early)) came) there)
