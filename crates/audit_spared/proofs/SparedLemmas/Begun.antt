-- What a run says of a client's lawful capture: when it asks again, and what comes to it first.
use Rattle.std.proofs.Common.{◌≡◌, ◌≤◌, ◌+◌, ℕ, zero, suc, Bool, true, false, List, [], ◌∷◌, Any, Contains, inl, inr, refl, sym, ap, subst, ◌∙◌, ◌&&◌, ◌||◌, not, reverse, arith, None}
use Rattle.std.specs.List.{list_any, AllByRecursion}
use Rattle.std.proofs.lemmas.Bool.{false≢true, or_left, or_right, and_parts, or_parts}
use Rattle.std.proofs.lemmas.List.{reverse-reverse}
use Rattle.tftp_packet.specs.{Message, Side, Get, Put, Client, Server, IsPlace, Spells}
use Rattle.tftp_packet.specs.Hosts.{Datagram, Header}
use Rattle.tftp_packet.specs.{In}
use Rattle.law_model.specs.Model.{Meaning, windowsize_of, MachinePacket, Req, Oack, Data, Ack, Error, Deed, Sent, Took, History, message_of, request_of, HasSent, HasTaken, IsStartedOn, MayAckZeroOn, LetsStartOn, IsOneSided, MayCome, heard}
use Rattle.law_model.specs.Model.Roles.{receiver_of}
use Rattle.law_model.proofs.ModelLemmas.Members.{contains_first, contains_later, contains_none}
use Rattle.law_model.proofs.ModelLemmas.Stops.{heard_done}
use Rattle.law_model.proofs.ModelLemmas.Defaults.{default_windowsize}
use Rattle.law_model.proofs.ModelLemmas.OneSided.{view_one_sided}
use Rattle.law_model.specs.Rules.{begins_error, begins_request, comes_in, goes_out}
use Rattle.law_end.specs.{Label, Main, Stray, Labelled, Division, datagrams_of, view_in, TransferIds, HasLabel, HaveLabels, OneEnded}
use Rattle.law_end.specs.Dress.{StrayAnswer}
use Rattle.law_end.proofs.Division.Divided.{divided_more, any_none, any_cases}
use Rattle.law_end.proofs.Division.Placing.{one}
use Rattle.law_end.proofs.Division.RouteTests.{in_false, in_true, out_false, request_begins, other_begins, error_begins}
use Rattle.law_end.proofs.Accord.Moments.{sent_moment, who_sent_oack}
use Rattle.law_end.proofs.Whole.TwoEnds.{lawful}
use Rattle.audit_flows.specs.Lines.{asked_part}
use Rattle.audit_flows.specs.Lines.Recording.{is_answer}
use Rattle.audit_spared.proofs.SparedLemmas.Alike.{asked_alike}
use Rattle.audit_spared.proofs.SparedLemmas.Basics.{all_map}
use Rattle.audit_flows.proofs.LinesLemmas.Lines.{by_test}

module _ (service : ℕ) where
  abbrev at : Header
  at = record { named = Client; service = service; rollover = None }

  -- the newest of a lawful capture, by some run
  record Newest (d : Datagram) (ds : List Datagram) : Type 0 where
    m : Meaning
    wire : List ℕ
    ids : TransferIds
    label : Label
    rest : Division
    are : datagrams_of rest ≡ ds
    labels : HaveLabels at m wire ids (one d label rest)
    own : IsOneSided m wire Client (view_in (one d label rest))

  newest : (d : Datagram) (ds : List Datagram) → OneEnded at (d ∷ ds) → Newest d ds
  newest d ds passes =
      let (m, wire, seen) = (lawful at (reverse (d ∷ ds))).1 (subst (OneEnded at) (sym (reverse-reverse (d ∷ ds))) passes) in
      let dress = seen.dressed in
      let whole : datagrams_of dress.division ≡ d ∷ ds = dress.whole ∙ reverse-reverse (d ∷ ds) in
      let own : IsOneSided m wire Client (view_in dress.division) = subst (IsOneSided m wire Client) (sym dress.main) (view_one_sided m wire Client seen.view seen.run) in
      let (p, rest, is, this, are) = divided_more dress.division d ds whole in
      let same : dress.division ≡ one d p.label rest = is ∙ ap (λ e. one e p.label rest) this in
      record {
        m = m;
        wire = wire;
        ids = dress.ids;
        label = p.label;
        rest = rest;
        are = are;
        labels = subst (HaveLabels at m wire dress.ids) same dress.labels;
        own = subst (λ l. IsOneSided m wire Client (view_in l)) same own;
      }

  module _ (m : Meaning) (wire : List ℕ) (ids : TransferIds) where
    -- ---- what the client sent after its requests

    abbrev went_on : Datagram → Bool
    went_on d = (goes_out d && not (begins_request d)) && not (begins_error d)

    abbrev AsksOnly : History → Type 0
    AsksOnly v = (p : MachinePacket) → HasSent v p → (p ≡ Oack → ⊥) × ((k : ℕ) → p ≡ Data k → ⊥) × ((j : ℕ) → p ≡ Ack j → ⊥)

    one_asks : (d : Datagram) (label : Label) (earlier : Division) → HasLabel at m wire ids earlier d label → AsksOnly (view_in (one d label earlier)) → went_on d ≡ false
    one_asks d label earlier has asks = by_test (went_on d) (λ is. absurd (by label has asks (split is).0 (split is).1 (split is).2)) (λ off. off) where
      split : went_on d ≡ true → (goes_out d ≡ true) × (not (begins_request d) ≡ true) × (not (begins_error d) ≡ true)
      split is =
          let parts = and_parts (goes_out d && not (begins_request d)) (not (begins_error d)) is in
          let two = and_parts (goes_out d) (not (begins_request d)) parts.0 in (two.0, two.1, parts.1)

      no_error : (code : ℕ) (text : List ℕ) → Spells d.payload (Message.Error code text) → not (begins_error d) ≡ true → ⊥
      no_error code text spells is = false≢true (sym (ap not (error_begins d code text spells).1) ∙ is)

      by : (label : Label) → HasLabel at m wire ids earlier d label → AsksOnly (view_in (one d label earlier)) → goes_out d ≡ true → not (begins_request d) ≡ true → not (begins_error d) ≡ true → ⊥
      by (Main (Sent Req)) has asks out plain other = false≢true (sym (ap not (request_begins d.payload _ has.spells)) ∙ plain)
      by (Main (Sent Oack)) has asks out plain other = (asks Oack (contains_first (Sent Oack) (view_in earlier))).0 refl
      by (Main (Sent (Data k))) has asks out plain other = (asks (Data k) (contains_first (Sent (Data k)) (view_in earlier))).1 k refl
      by (Main (Sent (Ack j))) has asks out plain other = (asks (Ack j) (contains_first (Sent (Ack j)) (view_in earlier))).2 j refl
      by (Main (Sent (Error code text))) has asks out plain other = no_error code text has.spells other
      by (Main (Took p)) has asks out plain other = false≢true (sym (in_false d has.dir) ∙ out)
      by Stray has asks out plain other = false≢true (sym (in_false d has.dir) ∙ out)
      by StrayAnswer has asks out plain other = no_error 5 has.spells.0 has.spells.1 other

    asks_before : (d : Datagram) (label : Label) (earlier : Division) → AsksOnly (view_in (one d label earlier)) → AsksOnly (view_in earlier)
    asks_before d (Main deed) earlier asks = λ p there. asks p (contains_later deed (view_in earlier) (Sent p) there)
    asks_before d Stray earlier asks = asks
    asks_before d StrayAnswer earlier asks = asks

    none_went_on : (division : Division) → HaveLabels at m wire ids division → AsksOnly (view_in division) → list_any went_on (datagrams_of division) ≡ false
    none_went_on [] labels asks = refl
    none_went_on (p ∷ division) labels asks = ap (λ b. b || list_any went_on (datagrams_of division)) (one_asks p.datagram p.label division labels.0 asks)
        ∙ none_went_on division labels.1 (asks_before p.datagram p.label division asks)

    -- a request is a request
    asks_label : (d : Datagram) (label : Label) (earlier : Division) → HasLabel at m wire ids earlier d label → goes_out d ≡ true → begins_request d ≡ true → label ≡ Main (Sent Req)
    asks_label d (Main (Sent Req)) earlier has out begins = refl
    asks_label d (Main (Sent Oack)) earlier has out begins = absurd (false≢true (sym (other_begins m wire d.payload Oack (λ e. absurd (cc)) has.spells) ∙ begins))
    asks_label d (Main (Sent (Data k))) earlier has out begins = absurd (false≢true (sym (other_begins m wire d.payload (Data k) (λ e. absurd (cc)) has.spells) ∙ begins))
    asks_label d (Main (Sent (Ack j))) earlier has out begins = absurd (false≢true (sym (other_begins m wire d.payload (Ack j) (λ e. absurd (cc)) has.spells) ∙ begins))
    asks_label d (Main (Sent (Error code text))) earlier has out begins = absurd (false≢true (sym (error_begins d code text has.spells).0 ∙ begins))
    asks_label d (Main (Took p)) earlier has out begins = absurd (false≢true (sym (in_false d has.dir) ∙ out))
    asks_label d Stray earlier has out begins = absurd (false≢true (sym (in_false d has.dir) ∙ out))
    asks_label d StrayAnswer earlier has out begins = absurd (false≢true (sym (error_begins d 5 has.spells.0 has.spells.1).0 ∙ begins))

    -- and spells the request
    asked_spell : (division : Division) → HaveLabels at m wire ids division
        → AllByRecursion (λ e. goes_out e ≡ true → begins_request e ≡ true → Spells e.payload (message_of m wire Req)) (datagrams_of division)
    asked_spell [] labels = tt
    asked_spell (p ∷ division) labels = (
      λ out begins. (subst (λ x. HasLabel at m wire ids division p.datagram x) (asks_label p.datagram p.label division labels.0 out begins) labels.0).spells,
      asked_spell division labels.1,
    )

    asks_only : (v : History) → IsOneSided m wire Client (Sent Req ∷ v) → AsksOnly v
    asks_only v own p there = (
      λ is. let server : Client ≡ Server = who_sent_oack m wire Client v own.1 (subst (HasSent v) is there) in absurd (cc),
      λ k is. own.0.no_data k (subst (HasSent v) is there),
      λ j is. own.0.no_ack j (subst (HasSent v) is there),
    )

    -- ---- what comes first

    any_came : (P : Labelled → Type 0) → ((p : Labelled) → P p → p.datagram.dir ≡ In) → (division : Division) → Any P division → list_any comes_in (datagrams_of division) ≡ true
    any_came P way [] any = absurd (any_none P any)
    any_came P way (p ∷ division) any = elim (any_cases P p division any) [
      | inl this ↦ or_left (comes_in p.datagram) (list_any comes_in (datagrams_of division)) (in_true p.datagram (way p this))
      | inr before ↦ or_right (comes_in p.datagram) (list_any comes_in (datagrams_of division)) (any_came P way division before)
    ]

    took_came : (division : Division) → HaveLabels at m wire ids division → list_any comes_in (datagrams_of division) ≡ false → (p : MachinePacket) → HasTaken (view_in division) p → ⊥
    took_came [] labels none p there = contains_none (Took p) there
    took_came (q ∷ division) labels none p there =
        let parts = or_parts (comes_in q.datagram) (list_any comes_in (datagrams_of division)) none in
        by q.label labels.0 parts.0 there (λ later. took_came division labels.1 parts.1 p later)
      where
        by : (label : Label) → HasLabel at m wire ids division q.datagram label → comes_in q.datagram ≡ false → HasTaken (view_in (one q.datagram label division)) p → (HasTaken (view_in division) p → ⊥) → ⊥
        by (Main (Took r)) has off there later = false≢true (sym off ∙ in_true q.datagram has.dir)
        by (Main (Sent r)) has off there later = later (sent_apart r (view_in division) there) where
          sent_apart : (r : MachinePacket) (v : History) → HasTaken (Sent r ∷ v) p → HasTaken v p
          sent_apart r v (zero, low, is) = absurd (cc)
          sent_apart r v (suc k, low, is) = (k, omega arith, is)
        by Stray has off there later = later there
        by StrayAnswer has off there later = later there

    module _ (v : History) (own : IsOneSided m wire Client v) (none : (p : MachinePacket) → HasTaken v p → ⊥) where
      no_start : (side : Side) (before : History) → ((x : Deed) → Contains before x → Contains v x) → IsStartedOn side m before → ⊥
      no_start Get before kept s = elim s [ inl x ↦ none Req (kept (Took Req) x.1) | inr x ↦ none (Ack 0) (kept (Took (Ack 0)) x.1) ]
      no_start Put before kept s = elim s [ inl x ↦ none (Ack 0) (kept (Took (Ack 0)) x.1) | inr x ↦ none Oack (kept (Took Oack) x.1) ]

      no_zero : (side : Side) (before : History) → ((x : Deed) → Contains before x → Contains v x) → MayAckZeroOn side m before → ⊥
      no_zero Get before kept s = none Oack (kept (Took Oack) s.1)
      no_zero Put before kept s = elim s [ inl x ↦ none Req (kept (Took Req) x.1) | inr x ↦ none (Data x.1) (kept (Took (Data x.1)) x.2) ]

      no_data : (k : ℕ) → HasSent v (Data k) → ⊥
      no_data k there = let (before, may, kept) = sent_moment m wire Client v own (Data k) there in no_start m.side before kept may.started

      no_ack : (j : ℕ) → HasSent v (Ack j) → ⊥
      no_ack zero there = let (before, may, kept) = sent_moment m wire Client v own (Ack zero) there in no_zero m.side before kept (may.zero refl)
      no_ack (suc j) there = let (before, may, kept) = sent_moment m wire Client v own (Ack (suc j)) there in none (Data 1) (kept (Took (Data 1)) (may.taken 1 (omega arith) (omega arith)))

      first_ack : (j : ℕ) → MayCome m wire Client v (Ack j) → j ≡ 0
      first_ack zero may = refl
      first_ack (suc j) may = absurd (no_data 1 (heard_done v (Sent (Data 1)) (may.sent 1 (omega arith) (omega arith))))

      plain_window : (side : Side) → Client ≡ receiver_of side → LetsStartOn side m (heard v) → windowsize_of m ≡ 1
      plain_window Get role s = elim s [ inl x ↦ default_windowsize m x.0 | inr x ↦ absurd (no_ack 0 (heard_done v (Sent (Ack 0)) x.1)) ]
      plain_window Put role s = absurd (cc)

      first_data : (k : ℕ) → MayCome m wire Client v (Data k) → k ≡ 1
      first_data k may =
          let window = plain_window m.side may.receiver may.started in
          let low : 1 ≤ k = may.from_one in
          let high : k ≤ may.in_window.0 + windowsize_of m = may.in_window.2 in
          elim may.in_window.1 [
            | inl none_sent ↦ let e : may.in_window.0 ≡ 0 = none_sent in omega arith
            | inr sent ↦ absurd (no_ack may.in_window.0 (heard_done v (Sent (Ack may.in_window.0)) sent))
          ]

  -- ---- of a capture

  pub went_on_none : (d : Datagram) (ds : List Datagram) → OneEnded at (d ∷ ds) → goes_out d ≡ true → begins_request d ≡ true
      → list_any (λ e. (goes_out e && not (begins_request e)) && not (begins_error e)) ds ≡ false
  went_on_none d ds passes out begins =
      let n = newest d ds passes in
      let is = asks_label n.m n.wire n.ids d n.label n.rest n.labels.0 out begins in
      let own : IsOneSided n.m n.wire Client (Sent Req ∷ view_in n.rest) = subst (λ x. IsOneSided n.m n.wire Client (view_in (one d x n.rest))) is n.own in
      ap (list_any (λ e. (goes_out e && not (begins_request e)) && not (begins_error e))) (sym n.are)
      ∙ none_went_on n.m n.wire n.ids n.rest n.labels.1 (asks_only n.m n.wire n.ids (view_in n.rest) own)

  -- each request is for the same file, on the same side
  pub requests_alike : (d : Datagram) (ds : List Datagram) → OneEnded at (d ∷ ds) → goes_out d ≡ true → begins_request d ≡ true
      → AllByRecursion (λ e. goes_out e ≡ true → begins_request e ≡ true → asked_part e.payload ≡ asked_part d.payload) ds
  requests_alike d ds passes out begins =
      let n = newest d ds passes in
      let is = asks_label n.m n.wire n.ids d n.label n.rest n.labels.0 out begins in
      let own : Spells d.payload (message_of n.m n.wire Req) = (subst (λ x. HasLabel at n.m n.wire n.ids n.rest d x) is n.labels.0).spells in
      subst (AllByRecursion (λ e. goes_out e ≡ true → begins_request e ≡ true → asked_part e.payload ≡ asked_part d.payload)) n.are
      (all_map (λ e. goes_out e ≡ true → begins_request e ≡ true → Spells e.payload (message_of n.m n.wire Req))
      (λ e. goes_out e ≡ true → begins_request e ≡ true → asked_part e.payload ≡ asked_part d.payload)
      (λ e spelled goes says. asked_alike e.payload d.payload (request_of n.m) (spelled goes says) own)
      (datagrams_of n.rest) (asked_spell n.m n.wire n.ids n.rest n.labels.1))

  pub ack_0 : (x y : ℕ) → IsPlace x y 0 → (x ≡ 0) × (y ≡ 0)
  ack_0 x y (low, is) = (omega arith, omega arith)

  pub data_1 : (x y : ℕ) → IsPlace x y 1 → (x ≡ 0) × (y ≡ 1)
  data_1 x y (low, is) = (omega arith, omega arith)

  pub says_ack_0 : (payload : List ℕ) (x y : ℕ) → (x ≡ 0) × (y ≡ 0) → payload ≡ 0 ∷ 4 ∷ x ∷ y ∷ [] → is_answer payload ≡ true
  says_ack_0 payload x y (left, right) is = subst (λ p. is_answer p ≡ true) (sym (is ∙ (λ i. 0 ∷ 4 ∷ left i ∷ right i ∷ []))) refl

  pub says_data_1 : (payload bytes : List ℕ) (x y : ℕ) → (x ≡ 0) × (y ≡ 1) → payload ≡ 0 ∷ 3 ∷ x ∷ y ∷ bytes → is_answer payload ≡ true
  says_data_1 payload bytes x y (left, right) is = subst (λ p. is_answer p ≡ true) (sym (is ∙ (λ i. 0 ∷ 3 ∷ left i ∷ right i ∷ bytes))) refl

  pub first_answers : (d : Datagram) (ds : List Datagram) → OneEnded at (d ∷ ds) → comes_in d ≡ true → list_any comes_in ds ≡ false → is_answer d.payload ≡ true
  first_answers d ds passes came none = by n.label n.labels.0 n.own where
    n : Newest d ds
    n = newest d ds passes

    none_in : list_any comes_in (datagrams_of n.rest) ≡ false
    none_in = ap (list_any comes_in) n.are ∙ none

    no_took : (p : MachinePacket) → HasTaken (view_in n.rest) p → ⊥
    no_took = took_came n.m n.wire n.ids n.rest n.labels.1 none_in

    by : (label : Label) → HasLabel at n.m n.wire n.ids n.rest d label → IsOneSided n.m n.wire Client (view_in (one d label n.rest)) → is_answer d.payload ≡ true
    by (Main (Sent p)) has own = absurd (false≢true (sym (out_false d has.dir) ∙ came))
    by (Main (Took Req)) has own = let role : Client ≡ Server = own.0 in absurd (cc)
    by (Main (Took Oack)) has own = subst (λ p. is_answer p ≡ true) (sym has.spells.1.bytes) refl
    by (Main (Took (Error code text))) has own = let (b, (x, y, pair, string, is)) = has.spells in subst (λ p. is_answer p ≡ true) (sym is) refl
    by (Main (Took (Ack j))) has own =
        let (b, (x, y, pair, is)) = has.spells in
        says_ack_0 d.payload x y (ack_0 x y (subst (IsPlace x y) (first_ack n.m n.wire n.ids (view_in n.rest) own.1 no_took j own.0) pair)) is
    by (Main (Took (Data k))) has own =
        let (b, (x, y, pair, is)) = has.spells in
        says_data_1 d.payload _ x y (data_1 x y (subst (IsPlace x y) (first_data n.m n.wire n.ids (view_in n.rest) own.1 no_took k own.0) pair)) is
    by Stray has own = absurd (false≢true (sym none_in ∙ any_came n.m n.wire n.ids _ (λ p main. main.1) n.rest has.after))
    by StrayAnswer has own = absurd (false≢true (sym (out_false d has.dir) ∙ came))
