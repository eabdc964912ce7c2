-- Where windows were asked for, a datagram of any number may be of an earlier transfer.
use Rattle.std.proofs.Common.{◌≡◌, ℕ, ◌+◌, ◌==◌, ◌&&◌, not, nat_le, Bool, Option, Some, None, codes, option_map, true, false, List, [], ◌∷◌, Contains, inl, inr, refl, sym, ap, subst, ◌∙◌, arith, map, if◌then◌else◌}
use Rattle.std.specs.FinMap as finmap
use Rattle.std.specs.List.{AllByRecursion}
use Rattle.std.proofs.lemmas.Bool.{false≢true, and_from, and_parts, leb-false}
use Rattle.tftp_packet.specs.{Client, Message, OptionMap, OptionValue, Server, Side, Spells}
use Rattle.tftp_packet.specs.Hosts.{Datagram}
use Rattle.tftp_packet.specs.{In, Out}
use Rattle.law_model.specs.Model.{Meaning, HasSent, Req, Oack, Data, Ack, Error, Deed, Sent, Took, History, IsOneSided, blksize_of, block, message_of, request_of}
use Rattle.law_model.specs.Rules.{first_of, goes_out, or_this}
use Rattle.law_model.proofs.ModelLemmas.Members.{contains_cases, contains_none}
use Rattle.law_end.specs.{dir_of, packet_of}
use Rattle.law_end.proofs.Accord.FirstSpelled.{numbered}
use Rattle.law_end.proofs.Accord.Moments.{who_took_ack, who_took_data, who_took_oack}
use Rattle.law_end.proofs.Division.RouteTests.{other_begins, request_begins}
use Rattle.audit_flows.specs.Lines.{Recorded, Placed, begins_error, begins_request, has_window, is_between, is_of, is_request, number_of, other_of, passes_in}
use Rattle.audit_flows.specs.Lines.Doubting.{far, is_other_talk, may_follow, writes_by}
use Rattle.audit_flows.specs.{Address, Endpoint, Talks, Transfer}
use Rattle.audit_flows.proofs.LinesLemmas.Lines.{by_test, map_or}
use Rattle.audit_spared.specs.Spared.{as_served, asks_from, comes_at, goes_from, goes_on_from}
use Rattle.audit_spared.proofs.SparedLemmas.NextRuns.{IsDone, IsNearBy, server_receives, server_sends}
use Rattle.audit_spared.proofs.SparedLemmas.AskedWindows.{window_asked}
use Rattle.audit_spared.proofs.SparedLemmas.Places.{no_request_talks, of_talk}
use Rattle.audit_spared.proofs.SparedLemmas.ServedLaw.{went_seen, payload_seen}
use Rattle.audit_spared.proofs.SparedLemmas.ServedRuns.{at}
use Rattle.audit_spared.proofs.SparedLemmas.ServedViews.{seen}
use Rattle.audit_spared.proofs.SparedLemmas.Stands.{AreWith, HasTerms, IsKnown, IsPlain, goes_on_apart, new, talks, talks_apart}
use Rattle.audit_spared.proofs.SparedLemmas.Stands.IsPlain.{asks as asked}
use Rattle.audit_spared.proofs.SparedLemmas.SaidPayloads.{IsNumber, IsRight, writes_of}
use Rattle.audit_spared.proofs.SparedLemmas.FarOff.{from_way, no_error_there, tells}

module _ (write : Address → List ℕ) (host : Address) (c : Endpoint) where
  abbrev see : Recorded → Datagram
  see = as_served write c

  abbrev all_seen : List Placed → List Datagram
  all_seen ps = map (seen write host c) ps

  -- ---- where windows were asked for, any number may follow

  may_come_wide : (o : Endpoint) (side : Side) (e : Bool) (payload : List ℕ) (n : ℕ) → passes_in (writes_of side) e payload ≡ true → IsNumber payload n → (y : Transfer) (q : Placed) → is_between c o q.datagram ≡ true
      → writes_by c y q.datagram ≡ writes_of side → y.has_window ≡ true → may_follow c o e payload (new q.datagram q.moment (Talks y)) ≡ true
  may_come_wide o side e payload n passes number y q between writes wide =
      and_from (is_between c o q.datagram) (passes_in (writes_by c y q.datagram) e payload && nat_le (number_of payload) (far y q + 1)) between
      (and_from (passes_in (writes_by c y q.datagram) e payload) (nat_le (number_of payload) (far y q + 1)) (ap (λ w. passes_in w e payload) writes ∙ passes)
      (subst (λ i. nat_le i (far y q + 1) ≡ true) (sym number.0) (by_test (nat_le n (far y q + 1)) (λ is. is)
      (λ off.
      let past = leb-false n (far y q + 1) off in
      let long : far y q ≡ 65535 = ap (λ b. if b then 65535 else number_of q.datagram.payload) wide in
      let low = number.1 in
      absurd (omega (arith, past, long, low))))))

  module _ (m : Meaning) (wire : List ℕ) (v : History) (own_v : IsOneSided m wire Server v) where
    -- what the client goes on by is its own on this side
    went_right : (q : Placed) → IsDone m wire v (see q.datagram) → goes_on_from c q.datagram ≡ true → (x : Message) × IsRight m.side In x × ((see q.datagram).dir ≡ In) × Spells (see q.datagram).payload x
    went_right q (deed, is, way, says) on = by deed is way says where
      told : (begins_request q.datagram.payload ≡ false) × (goes_from c q.datagram ≡ true) × (begins_error q.datagram.payload ≡ false)
      told = no_error_there write host c q.datagram on

      payload : (see q.datagram).payload ≡ q.datagram.payload
      payload = payload_seen write host c q.datagram

      by : (deed : Deed) → Contains v deed → (see q.datagram).dir ≡ dir_of deed → Spells (see q.datagram).payload (message_of m wire (packet_of deed))
          → (x : Message) × IsRight m.side In x × ((see q.datagram).dir ≡ In) × Spells (see q.datagram).payload x
      by (Sent s) is way says = absurd (false≢true (sym ((from_way write host c Out q.datagram way).1 refl) ∙ told.1))
      by (Took Req) is way says = absurd (false≢true (sym told.0 ∙ ap begins_request (sym payload) ∙ request_begins (see q.datagram).payload (request_of m) says))
      by (Took Oack) is way says = let wrong : Server ≡ Client = who_took_oack m wire Server v own_v is in absurd (cc)
      by (Took (Error code text)) is way (b, (x, y, pair, string, says)) =
          absurd (false≢true (sym told.2 ∙ ap begins_error (sym payload) ∙ subst (λ l. begins_error l ≡ true) (sym says) refl))
      by (Took (Data k)) is way says = (
        Message.Data k (block (blksize_of m) wire k),
        ((numbered at m wire v own_v (Took (Data k)) is k refl).0, server_receives m.side (who_took_data m wire Server v own_v k is)),
        way,
        says,
      )
      by (Took (Ack j)) is way says = (Message.Ack j, server_sends m.side (who_took_ack m wire Server v own_v j is), way, says)

    wide_refuted : (k : List Recorded) (o : Endpoint) (e : Bool) (payload : List ℕ) (n i : ℕ) → passes_in (writes_of m.side) e payload ≡ true → IsNumber payload n
        → ((request : Recorded) → Contains k request → asks_from c request ≡ true → has_window request.payload ≡ true) → (q : Placed) → IsKnown c q → IsPlain c q → (is_request q ≡ false → other_of c q.datagram ≡ o)
        → (is_other_talk c o i q ≡ true → may_follow c o e payload q ≡ false) → IsDone m wire v (see q.datagram) → HasTerms c k q → goes_on_apart c i q ≡ true → ⊥
    wide_refuted k o e payload n i passes number windowed q known plain with none done terms test = by plain where
      parts : (goes_on_from c q.datagram ≡ true) × (talks_apart i q ≡ true)
      parts = and_parts (goes_on_from c q.datagram) (talks_apart i q) test

      both : (not (is_request q) ≡ true) × (not (is_of i q) ≡ true)
      both = and_parts (not (is_request q)) (not (is_of i q)) parts.1

      by : IsPlain c q → ⊥
      by (asked z request there) = false≢true (sym (ap not request) ∙ both.0)
      by (talks y there client) =
          let between : is_between c o q.datagram ≡ true = subst (λ w. is_between c w q.datagram ≡ true) (with (no_request_talks q y there)) known.here in
          let other : is_other_talk c o i q ≡ true = ap (λ place. is_other_talk c o i (new q.datagram q.moment place)) there
          ∙ and_from (is_between c o q.datagram) (not (y.number == i)) between (ap not (sym (of_talk i q y there)) ∙ both.1) in
          let t = terms y there in
          let wide : y.has_window ≡ true = t.same ∙ windowed t.request t.there t.asks in
          let (x, right, way, says) = went_right q done parts.0 in
          let writes = (tells write host c m.side In x y q.datagram 0 right (near_none x right) way (subst (λ l. Spells l x) (payload_seen write host c q.datagram) says)).writes in
          false≢true (sym (none other) ∙ ap (λ place. may_follow c o e payload (new q.datagram q.moment place)) there ∙ may_come_wide o m.side e payload n passes number y q between writes wide)
        where
          near_none : (x : Message) → IsRight m.side In x → IsNearBy 0 x
          near_none (Message.Data k bytes) right = omega arith
          near_none (Message.Ack j) right = omega arith
          near_none (Message.Request r) right = absurd right
          near_none (Message.Error code text) right = absurd right
          near_none (Message.Oack options) right = absurd right

    pub wides : (k : List Recorded) (o : Endpoint) (e : Bool) (payload : List ℕ) (n i : ℕ) → passes_in (writes_of m.side) e payload ≡ true → IsNumber payload n
        → ((request : Recorded) → Contains k request → asks_from c request ≡ true → has_window request.payload ≡ true) → (ps : List Placed) → AllByRecursion (IsKnown c) ps → AllByRecursion (IsPlain c) ps → AreWith c o ps
        → AllByRecursion (λ q. is_other_talk c o i q ≡ true → may_follow c o e payload q ≡ false) ps → AllByRecursion (λ q. IsDone m wire v (see q.datagram)) ps → AllByRecursion (HasTerms c k) ps → AllByRecursion (λ q. goes_on_apart c i q ≡ true → ⊥) ps
    wides k o e payload n i passes number windowed [] known plain with none done terms = tt
    wides k o e payload n i passes number windowed (q ∷ ps) known plain with none done terms =
        (wide_refuted k o e payload n i passes number windowed q known.0 plain.0 with.0 none.0 done.0 terms.0, wides k o e payload n i passes number windowed ps known.1 plain.1 with.1 none.1 done.1 terms.1)

    -- each request of the capture asks for windows as the meaning has it
    pub windowed_in : (value : OptionValue) → finmap.get m.requested (codes "windowsize") ≡ Some value → (ps : List Placed) → AllByRecursion (λ q. IsDone m wire v (see q.datagram)) ps
        → (request : Recorded) → Contains (map (λ (q : Placed). q.datagram) ps) request → asks_from c request ≡ true → has_window request.payload ≡ true
    windowed_in value get [] done request there asks = absurd (contains_none request there)
    windowed_in value get (q ∷ ps) done request there asks = elim (contains_cases q.datagram (map (λ (r : Placed). r.datagram) ps) request there) [
      | inl this ↦ subst (λ (r : Recorded). has_window r.payload ≡ true) this (by done.0.0 done.0.2 (subst (λ l. Spells l (message_of m wire (packet_of done.0.0))) (payload_seen write host c q.datagram) done.0.3) (subst (λ r. asks_from c r ≡ true) (sym this) asks))
      | inr later ↦ windowed_in value get ps done.1 request later asks
    ] where
      by : (deed : Deed) → (see q.datagram).dir ≡ dir_of deed → Spells q.datagram.payload (message_of m wire (packet_of deed)) → asks_from c q.datagram ≡ true → has_window q.datagram.payload ≡ true
      by deed way says asks_it = said deed way says where
        parts : (goes_from c q.datagram ≡ true) × (begins_request q.datagram.payload ≡ true)
        parts = and_parts (goes_from c q.datagram) (begins_request q.datagram.payload) asks_it

        none : {A : Type 0} → begins_request q.datagram.payload ≡ false → A
        none off = absurd (false≢true (sym off ∙ parts.1))

        said : (deed : Deed) → (see q.datagram).dir ≡ dir_of deed → Spells q.datagram.payload (message_of m wire (packet_of deed)) → has_window q.datagram.payload ≡ true
        said (Sent s) way says = absurd (false≢true (sym ((from_way write host c Out q.datagram way).1 refl) ∙ parts.0))
        said (Took Req) way says = window_asked q.datagram.payload (request_of m) value says get
        said (Took Oack) way says = none (other_begins m wire q.datagram.payload Oack (λ e. absurd (cc)) says)
        said (Took (Data k)) way says = none (other_begins m wire q.datagram.payload (Data k) (λ e. absurd (cc)) says)
        said (Took (Ack j)) way says = none (other_begins m wire q.datagram.payload (Ack j) (λ e. absurd (cc)) says)
        said (Took (Error code text)) way says = none (other_begins m wire q.datagram.payload (Error code text) (λ e. absurd (cc)) says)

  -- what went out first is what came first
  pub first_seen : (ps : List Placed) → first_of goes_out (all_seen ps) ≡ option_map see (first_of (comes_at c) (map (λ (q : Placed). q.datagram) ps))
  first_seen [] = refl
  first_seen (q ∷ ps) = ap (λ o. or_this o (goes_out (see q.datagram)) (see q.datagram)) (first_seen ps)
      ∙ ap (λ b. or_this (option_map see (first_of (comes_at c) (map (λ (r : Placed). r.datagram) ps))) b (see q.datagram)) (went_seen write host c q.datagram)
      ∙ sym (map_or see (first_of (comes_at c) (map (λ (r : Placed). r.datagram) ps)) (comes_at c q.datagram) q.datagram)

  pub first_came : (o : Option Recorded) (e : Datagram) → option_map see o ≡ Some e → (r : Recorded) × (o ≡ Some r) × (see r ≡ e)
  first_came None e is = absurd (cc)
  first_came (Some r) e is = (r, refl, cc)

  -- an OACK that passed went out
  pub oack_sent : (m : Meaning) (wire : List ℕ) (v : History) → IsOneSided m wire Server v → (options : OptionMap) (deed : Deed) → Contains v deed → message_of m wire (packet_of deed) ≡ Message.Oack options → HasSent v Oack
  oack_sent m wire v own_v options (Sent Oack) is says = is
  oack_sent m wire v own_v options (Took Oack) is says = let wrong : Server ≡ Client = who_took_oack m wire Server v own_v is in absurd (cc)
  oack_sent m wire v own_v options (Sent Req) is says = absurd (cc)
  oack_sent m wire v own_v options (Sent (Data k)) is says = absurd (cc)
  oack_sent m wire v own_v options (Sent (Ack j)) is says = absurd (cc)
  oack_sent m wire v own_v options (Sent (Error code text)) is says = absurd (cc)
  oack_sent m wire v own_v options (Took Req) is says = absurd (cc)
  oack_sent m wire v own_v options (Took (Data k)) is says = absurd (cc)
  oack_sent m wire v own_v options (Took (Ack j)) is says = absurd (cc)
  oack_sent m wire v own_v options (Took (Error code text)) is says = absurd (cc)
