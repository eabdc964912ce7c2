-- A test that a list of steps is a run, and that an end's view is complete.
use Rattle.std.proofs.Common.{◌≡◌, ℕ, ◌+◌, ◌-◌, ◌<◌, ◌≤◌, ◌==◌, ◌&&◌, ◌||◌, not, nat_lt, nat_le, Bool, true, false, List, [], ◌∷◌, inl, inr, refl, sym, ap, ◌∙◌, subst, arith}
use Rattle.std.proofs.lemmas.Bool.{and_parts, or_cases, leb-true, ltb-true, eqb-true, false≢true}
use Rattle.tftp_packet.specs.{Side, Get, Put, End, Client, Server}
use Rattle.law_model.specs.Model.{Meaning, SomethingAgreed, NothingAgreed, windowsize_of, blksize_of, block_count, Deed, Sent, Took, MachinePacket, Req, Oack, Data, Ack, Error, History, HasSent, HasTaken, IsAcknowledged, IsStartedOn, MayAckZeroOn, MaySendReq, MaySendOack, MaySendData, MaySendAck, MaySendError, MaySend, NoErrorSent, is_error, Step, view_of, MayFollow, IsRun, IsComplete}
use Rattle.law_model.specs.Model.Roles.{sender_of, receiver_of, other_end}
use Rattle.law_model.proofs.ModelLemmas.Members.{contains_first, contains_later}
pub use Rattle.law_model.proofs.ModelLemmas.HistoryTests.{same_end, same_packet, has_sent, has_taken, all_sent, is_no_data, is_no_ack, is_no_error, is_data_up_to, took_data, took_up_to, end_is, packet_is, sent_is, taken_is, all_is, none_sent, took_data_is, took_up_to_is}

-- ---- the tests

abbrev pub acked_for : ℕ → ℕ → MachinePacket → Bool
acked_for w k (Ack a) = nat_lt a k && nat_le k (a + w)
acked_for w k _ = false

abbrev pub in_window : ℕ → ℕ → History → Bool
in_window w k [] = nat_le k w
in_window w k (Sent q ∷ h) = in_window w k h
in_window w k (Took q ∷ h) = acked_for w k q || in_window w k h

-- what is computed of a transfer
pub record Plan : Type 0 where
  pub agreed : Bool
  pub windowsize : ℕ
  pub blocks : ℕ

abbrev pub is_started : Side → Bool → History → Bool
is_started Get true h = has_taken h (Ack 0)
is_started Get false h = has_taken h Req
is_started Put true h = has_taken h Oack
is_started Put false h = has_taken h (Ack 0)

abbrev pub may_ack_zero : Side → Bool → History → Bool
may_ack_zero Get true h = has_taken h Oack
may_ack_zero Get false h = false
may_ack_zero Put true h = took_data h
may_ack_zero Put false h = has_taken h Req

-- an ERROR that was sent before is this one
abbrev pub is_error_again : MachinePacket → MachinePacket → Bool
is_error_again p q = is_no_error q || same_packet q p

abbrev pub may_send_error : End → History → MachinePacket → Bool
may_send_error Client h p = has_sent h Req && all_sent (is_error_again p) h
may_send_error Server h p = has_taken h Req && all_sent (is_error_again p) h

-- where no ERROR was sent
abbrev pub may_go_on : Side → Plan → End → History → MachinePacket → Bool
may_go_on side plan e h Req = same_end e Client && (all_sent is_no_data h && all_sent is_no_ack h)
may_go_on side plan e h Oack = same_end e Server && (plan.agreed && (has_taken h Req && all_sent is_no_data h))
may_go_on side plan e h (Data k) =
    same_end e (sender_of side)
    && (nat_le 1 k && (nat_le k plan.blocks && (is_started side plan.agreed h && ((k == 1 || has_sent h (Data (k - 1))) && (in_window plan.windowsize k h && (not (plan.windowsize == 1) || all_sent (is_data_up_to k) h))))))
may_go_on side plan e h (Ack j) = same_end e (receiver_of side) && ((not (j == 0) || may_ack_zero side plan.agreed h) && took_up_to h j)
may_go_on side plan e h (Error code text) = false

abbrev pub may_send : Side → Plan → End → History → MachinePacket → Bool
may_send side plan e h p = (all_sent is_no_error h && may_go_on side plan e h p) || (is_error p && may_send_error e h p)

abbrev pub may_follow : Side → Plan → List Step → End → Deed → Bool
may_follow side plan earlier e (Sent p) = may_send side plan e (view_of e earlier) p
may_follow side plan earlier e (Took p) = has_sent (view_of (other_end e) earlier) p

abbrev pub is_run : Side → Plan → List Step → Bool
is_run side plan [] = true
is_run side plan (s ∷ earlier) = may_follow side plan earlier s.actor s.deed && is_run side plan earlier

abbrev pub is_complete : Side → Plan → End → History → Bool
is_complete side plan e h = is_told (same_end e (sender_of side)) where
  is_told : Bool → Bool
  is_told true = has_taken h (Ack plan.blocks)
  is_told false = took_up_to h plan.blocks && has_sent h (Ack plan.blocks)

-- ---- what they tell

abbrev InWindow : ℕ → ℕ → History → Type 0
InWindow w k h = (a : ℕ) × IsAcknowledged h a × (a < k) × (k ≤ a + w)

window_later : (w k : ℕ) (d : Deed) (h : History) → InWindow w k h → InWindow w k (d ∷ h)
window_later w k d h (a, acked, low, high) = (a, elim acked [ inl none ↦ inl none | inr taken ↦ inr (contains_later d h (Took (Ack a)) taken) ], low, high)

window_at : (w k : ℕ) (q : MachinePacket) (h : History) → acked_for w k q ≡ true → InWindow w k (Took q ∷ h)
window_at w k (Ack a) h e = let parts = and_parts (nat_lt a k) (nat_le k (a + w)) e in (a, inr (contains_first (Took (Ack a)) h), ltb-true a k parts.0, leb-true k (a + w) parts.1)
window_at w k _ h e = absurd (false≢true e)

window_is : (w k : ℕ) (h : History) → 1 ≤ k → in_window w k h ≡ true → InWindow w k h
window_is w k [] low e = let high = leb-true k w e in (0, inl refl, omega arith, omega arith)
window_is w k (Sent q ∷ h) low e = window_later w k (Sent q) h (window_is w k h low e)
window_is w k (Took q ∷ h) low e = elim (or_cases (acked_for w k q) (in_window w k h) e) [
  | inl here ↦ window_at w k q h here
  | inr more ↦ window_later w k (Took q) h (window_is w k h low more)
]

-- the plan is the meaning's
pub record IsPlan (m : Meaning) (wire : List ℕ) (plan : Plan) : Type 0 where
  pub something : plan.agreed ≡ true → SomethingAgreed m
  pub nothing : plan.agreed ≡ false → NothingAgreed m
  pub windowsize : windowsize_of m ≡ plan.windowsize
  pub blocks : block_count (blksize_of m) wire ≡ plan.blocks

started_is : (side : Side) (agreed : Bool) (m : Meaning) (h : History) → (agreed ≡ true → SomethingAgreed m) → (agreed ≡ false → NothingAgreed m)
    → is_started side agreed h ≡ true → IsStartedOn side m h
started_is Get true m h so not_so e = inr (so refl, taken_is h (Ack 0) e)
started_is Get false m h so not_so e = inl (not_so refl, taken_is h Req e)
started_is Put true m h so not_so e = inr (so refl, taken_is h Oack e)
started_is Put false m h so not_so e = inl (not_so refl, taken_is h (Ack 0) e)

zero_is : (side : Side) (agreed : Bool) (m : Meaning) (h : History) → (agreed ≡ true → SomethingAgreed m) → (agreed ≡ false → NothingAgreed m)
    → may_ack_zero side agreed h ≡ true → MayAckZeroOn side m h
zero_is Get true m h so not_so e = (so refl, taken_is h Oack e)
zero_is Get false m h so not_so e = absurd (false≢true e)
zero_is Put true m h so not_so e = let t = took_data_is h e in inr (so refl, t.0, t.1)
zero_is Put false m h so not_so e = inl (not_so refl, taken_is h Req e)

req_is : (m : Meaning) (plan : Plan) (e : End) (h : History) → NoErrorSent h → may_go_on m.side plan e h Req ≡ true → MaySendReq e h
req_is m plan e h none t =
    let a = and_parts (same_end e Client) (all_sent is_no_data h && all_sent is_no_ack h) t in
    let b = and_parts (all_sent is_no_data h) (all_sent is_no_ack h) a.1 in
    record {
      client = end_is e Client a.0;
      no_error = none;
      no_data = λ k at. false≢true (all_is is_no_data h (Data k) b.0 at);
      no_ack = λ j at. false≢true (all_is is_no_ack h (Ack j) b.1 at);
    }

oack_is : (m : Meaning) (wire : List ℕ) (plan : Plan) (e : End) (h : History) → IsPlan m wire plan → NoErrorSent h → may_go_on m.side plan e h Oack ≡ true → MaySendOack m e h
oack_is m wire plan e h is none t =
    let a = and_parts (same_end e Server) (plan.agreed && (has_taken h Req && all_sent is_no_data h)) t in
    let b = and_parts plan.agreed (has_taken h Req && all_sent is_no_data h) a.1 in
    let c = and_parts (has_taken h Req) (all_sent is_no_data h) b.1 in
    record {
      server = end_is e Server a.0;
      no_error = none;
      agreed = is.something b.0;
      asked = taken_is h Req c.0;
      no_data = λ side k at. false≢true (all_is is_no_data h (Data k) c.1 at);
    }

data_is : (m : Meaning) (wire : List ℕ) (plan : Plan) (e : End) (h : History) (k : ℕ) → IsPlan m wire plan → NoErrorSent h → may_go_on m.side plan e h (Data k) ≡ true → MaySendData m wire e h k
data_is m wire plan e h k is none t =
    let step = not (plan.windowsize == 1) || all_sent (is_data_up_to k) h in
    let window = in_window plan.windowsize k h && step in
    let order = (k == 1 || has_sent h (Data (k - 1))) && window in
    let start = is_started m.side plan.agreed h && order in
    let a = and_parts (same_end e (sender_of m.side)) (nat_le 1 k && (nat_le k plan.blocks && start)) t in
    let b = and_parts (nat_le 1 k) (nat_le k plan.blocks && start) a.1 in
    let c = and_parts (nat_le k plan.blocks) start b.1 in
    let d = and_parts (is_started m.side plan.agreed h) order c.1 in
    let f = and_parts (k == 1 || has_sent h (Data (k - 1))) window d.1 in
    let g = and_parts (in_window plan.windowsize k h) step f.1 in
    let count = is.blocks in
    let size = is.windowsize in
    let low = leb-true 1 k b.0 in
    let high = leb-true k plan.blocks c.0 in
    let w = window_is plan.windowsize k h low g.0 in
    let w_low = w.2 in
    let w_high = w.3 in
    record {
      sender = end_is e (sender_of m.side) a.0;
      no_error = none;
      from_one = low;
      in_wire = omega arith;
      started = started_is m.side plan.agreed m h is.something is.nothing d.0;
      in_order = elim (or_cases (k == 1) (has_sent h (Data (k - 1))) f.0) [ inl one ↦ inl (eqb-true k 1 one) | inr sent ↦ inr (sent_is h (Data (k - 1)) sent) ];
      in_window = (w.0, w.1, w_low, omega arith);
      in_step = λ one higher at. elim (or_cases (not (plan.windowsize == 1)) (all_sent (is_data_up_to k) h) g.1) [
        | inl many ↦ absurd (no_step plan.windowsize (omega arith) many)
        | inr all ↦ leb-true higher k (all_is (is_data_up_to k) h (Data higher) all at)
      ];
    }
  where
    no_step : (n : ℕ) → n ≡ 1 → not (n == 1) ≡ true → ⊥
    no_step n one many = false≢true (subst (λ x. not (x == 1) ≡ true) one many)

ack_is : (m : Meaning) (wire : List ℕ) (plan : Plan) (e : End) (h : History) (j : ℕ) → IsPlan m wire plan → NoErrorSent h → may_go_on m.side plan e h (Ack j) ≡ true → MaySendAck m e h j
ack_is m wire plan e h j is free t =
    let a = and_parts (same_end e (receiver_of m.side)) ((not (j == 0) || may_ack_zero m.side plan.agreed h) && took_up_to h j) t in
    let b = and_parts (not (j == 0) || may_ack_zero m.side plan.agreed h) (took_up_to h j) a.1 in
    record {
      receiver = end_is e (receiver_of m.side) a.0;
      no_error = free;
      zero = λ none. elim (or_cases (not (j == 0)) (may_ack_zero m.side plan.agreed h) b.0) [
        | inl some ↦ absurd (false≢true (subst (λ x. not (x == 0) ≡ true) none some))
        | inr may ↦ zero_is m.side plan.agreed m h is.something is.nothing may
      ];
      taken = took_up_to_is h j b.1;
    }

again_is : (h : History) (code : ℕ) (text : List ℕ) → all_sent (is_error_again (Error code text)) h ≡ true → (c : ℕ) (t : List ℕ) → HasSent h (Error c t) → (c ≡ code) × (t ≡ text)
again_is h code text all c t at = same (packet_is (Error c t) (Error code text) (all_is (is_error_again (Error code text)) h (Error c t) all at)) where
  same : Error c t ≡ Error code text → (c ≡ code) × (t ≡ text)
  same e = (cc, cc)

error_is : (e : End) (h : History) (code : ℕ) (text : List ℕ) → may_send_error e h (Error code text) ≡ true → MaySendError e h code text
error_is Client h code text t =
    let parts = and_parts (has_sent h Req) (all_sent (is_error_again (Error code text)) h) t in
    record { asked = λ _. sent_is h Req parts.0; was_asked = λ e. absurd (cc); same = again_is h code text parts.1 }
error_is Server h code text t =
    let parts = and_parts (has_taken h Req) (all_sent (is_error_again (Error code text)) h) t in
    record { asked = λ e. absurd (cc); was_asked = λ _. taken_is h Req parts.0; same = again_is h code text parts.1 }

go_on_is : (m : Meaning) (wire : List ℕ) (plan : Plan) (e : End) (h : History) (p : MachinePacket) → IsPlan m wire plan → NoErrorSent h → may_go_on m.side plan e h p ≡ true → MaySend m wire e h p
go_on_is m wire plan e h Req is none t = req_is m plan e h none t
go_on_is m wire plan e h Oack is none t = oack_is m wire plan e h is none t
go_on_is m wire plan e h (Data k) is none t = data_is m wire plan e h k is none t
go_on_is m wire plan e h (Ack j) is none t = ack_is m wire plan e h j is none t
go_on_is m wire plan e h (Error code text) is none t = absurd (false≢true t)

stops_is : (m : Meaning) (wire : List ℕ) (e : End) (h : History) (p : MachinePacket) → (is_error p && may_send_error e h p) ≡ true → MaySend m wire e h p
stops_is m wire e h (Error code text) t = error_is e h code text t
stops_is m wire e h _ t = absurd (false≢true t)

pub may_send_is : (m : Meaning) (wire : List ℕ) (plan : Plan) (e : End) (h : History) (p : MachinePacket) → IsPlan m wire plan → may_send m.side plan e h p ≡ true → MaySend m wire e h p
may_send_is m wire plan e h p is t =
    elim (or_cases (all_sent is_no_error h && may_go_on m.side plan e h p) (is_error p && may_send_error e h p) t) [
      | inl goes ↦ let parts = and_parts (all_sent is_no_error h) (may_go_on m.side plan e h p) goes in go_on_is m wire plan e h p is (none_sent h parts.0) parts.1
      | inr stops ↦ stops_is m wire e h p stops
    ]

follow_is : (m : Meaning) (wire : List ℕ) (plan : Plan) (earlier : List Step) (e : End) (d : Deed) → IsPlan m wire plan → may_follow m.side plan earlier e d ≡ true → MayFollow m wire earlier e d
follow_is m wire plan earlier e (Sent p) is t = may_send_is m wire plan e (view_of e earlier) p is t
follow_is m wire plan earlier e (Took p) is t = sent_is (view_of (other_end e) earlier) p t

pub run_is : (m : Meaning) (wire : List ℕ) (plan : Plan) (steps : List Step) → IsPlan m wire plan → is_run m.side plan steps ≡ true → IsRun m wire steps
run_is m wire plan [] is t = tt
run_is m wire plan (s ∷ earlier) is t =
    let parts = and_parts (may_follow m.side plan earlier s.actor s.deed) (is_run m.side plan earlier) t in
    (follow_is m wire plan earlier s.actor s.deed is parts.0, run_is m wire plan earlier is parts.1)

-- ---- the end

told_is : (m : Meaning) (wire : List ℕ) (plan : Plan) (e : End) (h : History) → IsPlan m wire plan → e ≡ sender_of m.side → (e ≡ receiver_of m.side → ⊥)
    → has_taken h (Ack plan.blocks) ≡ true → IsComplete m wire e h
told_is m wire plan e h is sends other t = record {
  took = λ r. absurd (other r);
  acknowledged = λ r. absurd (other r);
  was_told = λ s. subst (λ n. HasTaken h (Ack n)) (sym is.blocks) (taken_is h (Ack plan.blocks) t);
}

received_is : (m : Meaning) (wire : List ℕ) (plan : Plan) (e : End) (h : History) → IsPlan m wire plan → (e ≡ sender_of m.side → ⊥)
    → (took_up_to h plan.blocks && has_sent h (Ack plan.blocks)) ≡ true → IsComplete m wire e h
received_is m wire plan e h is other t =
    let parts = and_parts (took_up_to h plan.blocks) (has_sent h (Ack plan.blocks)) t in
    let count = is.blocks in
    record {
      took = λ r k low high. took_up_to_is h plan.blocks parts.0 k low (omega arith);
      acknowledged = λ r. subst (λ n. HasSent h (Ack n)) (sym is.blocks) (sent_is h (Ack plan.blocks) parts.1);
      was_told = λ s. absurd (other s);
    }

pub complete_is : (m : Meaning) (wire : List ℕ) (plan : Plan) (e : End) (h : History) → IsPlan m wire plan → is_complete m.side plan e h ≡ true → IsComplete m wire e h
complete_is m wire plan e h is t = by m.side e refl refl t
  where
    apart : Client ≡ Server → ⊥
    apart same = absurd (cc)

    by : (side : Side) (a : End) → m.side ≡ side → e ≡ a → is_complete side plan a h ≡ true → IsComplete m wire e h
    by Get Client s c u = received_is m wire plan e h is (λ x. apart (sym c ∙ x ∙ ap sender_of s)) u
    by Get Server s c u = told_is m wire plan e h is (c ∙ sym (ap sender_of s)) (λ x. apart (sym (ap receiver_of s) ∙ sym x ∙ c)) u
    by Put Client s c u = told_is m wire plan e h is (c ∙ sym (ap sender_of s)) (λ x. apart (sym c ∙ x ∙ ap receiver_of s)) u
    by Put Server s c u = received_is m wire plan e h is (λ x. apart (sym (ap sender_of s) ∙ sym x ∙ c)) u
