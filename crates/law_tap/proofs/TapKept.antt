-- What is kept of what passed may pass, and the other way round.
use Rattle.std.proofs.Common.{◌≡◌, ℕ, Bool, true, false, List, [], ◌∷◌, Contains, inl, inr, refl, sym, subst, ap, ◌∙◌, ◌&&◌}
use Rattle.std.specs.List.{list_any}
use Rattle.std.proofs.lemmas.Bool.{true≢false, or_parts, cases_Bool, and_parts}
use Rattle.tftp_packet.specs.{End, Client, Server}
use Rattle.law_model.specs.Model.{Meaning, MachinePacket, Req, Ack, Error, HasSent, is_error, takes_error, heard, IsOneSided}
use Rattle.law_model.specs.Model.Machines.{other_end, receiver_of}
use Rattle.law_tap.specs.{Pass, deed_at, as_at, MayPass, MayPassEach, KeepsOrder, KeepsOrderEach, is_left_out, before_error, same_end, is_request, pass_tests, kept_at}
use Rattle.law_tap.proofs.Passed.{at_sent, at_took, sent_passed, took_passed}
use Rattle.law_tap.proofs.Ordered.{ack_asked, client_reads}
use Rattle.law_tap.proofs.OneTap.{Has}
use Rattle.law_tap.proofs.AtReceiver.{receiver_is}
use Rattle.law_tap.proofs.KeptOf.{any_of, none_of, some_of, none_in, before_all, before_less, before_more, kept_out, kept_in, kept_there, kept_plain, kept_asks, kept_quiet}
use Rattle.law_tap.proofs.LeftOut.{Serves, come_by}

-- ---- what an end has heard is what passed before the other's ERROR

takes_is : (e f : End) (p : MachinePacket) → takes_error (deed_at e f p) ≡ (same_end (other_end e) f && is_error p)
takes_is Client Client p = refl
takes_is Client Server p = refl
takes_is Server Client p = refl
takes_is Server Server p = refl

any_takes : (e : End) (passed : List Pass) → list_any takes_error (as_at e passed) ≡ list_any (pass_tests.ends (other_end e)) passed
any_takes e [] = refl
any_takes e (x ∷ passed) = rw (takes_is e x.from x.packet, any_takes e passed) refl

pub heard_is : (e : End) (passed : List Pass) → heard (as_at e passed) ≡ as_at e (before_error pass_tests (other_end e) passed)
heard_is e [] = refl
heard_is e (x ∷ passed) = elim (cases_Bool (list_any (pass_tests.ends (other_end e)) (x ∷ passed))) [
  | inl some ↦ over (any_takes e (x ∷ passed) ∙ some) ∙ heard_is e passed ∙ ap (as_at e) (sym (before_less pass_tests (other_end e) x passed some))
  | inr none ↦ going (any_takes e (x ∷ passed) ∙ none) ∙ ap (as_at e) (sym (before_all pass_tests (other_end e) (x ∷ passed) none))
]
  where
    over : list_any takes_error (as_at e (x ∷ passed)) ≡ true → heard (as_at e (x ∷ passed)) ≡ heard (as_at e passed)
    over is = rw (is) refl

    going : list_any takes_error (as_at e (x ∷ passed)) ≡ false → heard (as_at e (x ∷ passed)) ≡ as_at e (x ∷ passed)
    going is = rw (is) refl

pub sent_before : (e : End) (passed : List Pass) (p : MachinePacket) → HasSent (heard (as_at e passed)) p → Has (before_error pass_tests (other_end e) passed) e p
sent_before e passed p at = sent_passed e p (before_error pass_tests (other_end e) passed) (subst (λ h. HasSent h p) (heard_is e passed) at)

pub before_sent : (e : End) (passed : List Pass) (p : MachinePacket) → Has (before_error pass_tests (other_end e) passed) e p → HasSent (heard (as_at e passed)) p
before_sent e passed p at = subst (λ h. HasSent h p) (sym (heard_is e passed)) (at_sent e p (before_error pass_tests (other_end e) passed) at)

-- ---- tests of packets

quiet_of : (f : End) (p : MachinePacket) → is_error p ≡ false → (e : End) → (same_end e f && is_error p) ≡ false
quiet_of f p plain e = by (same_end e f) where
  by : (b : Bool) → (b && is_error p) ≡ false
  by true = plain
  by false = refl

request_plain : (f : End) (p : MachinePacket) → (same_end Client f && is_request p) ≡ true → (e : End) → (same_end e f && is_error p) ≡ false
request_plain f (Error code text) asks e = absurd (true≢false (sym (and_parts (same_end Client f) false asks).1))
request_plain f p asks e = quiet_of f p refl e

pub request_is : (x : Pass) → pass_tests.asks x ≡ true → x ≡ record { from = Client; packet = Req }
request_is x asks = by x.from x.packet refl refl asks where
  by : (f : End) (p : MachinePacket) → x.from ≡ f → x.packet ≡ p → (same_end Client f && is_request p) ≡ true → x ≡ record { from = Client; packet = Req }
  by Client Req one other is = λ i. record { from = one i; packet = other i }
  by _ _ one other is = absurd (true≢false (sym is))

-- ---- what is kept of packets

module _ (r : End) where
  asked_kept : (passed : List Pass) → Has passed Client Req → Has (kept_at r passed) Client Req
  asked_kept passed at =
      let some = any_of pass_tests.asks passed (record { from = Client; packet = Req }) at refl in
      let found = some_of pass_tests.asks (kept_at r passed) (kept_asks pass_tests r passed (λ x asks. request_plain x.from x.packet asks) some) in
      subst (Contains (kept_at r passed)) (request_is found.0 found.2) found.1

  -- whatever is no ERROR
  no_request : (e : End) → (same_end Client e && false) ≡ false
  no_request Client = refl
  no_request Server = refl

  pub has_kept : (passed : List Pass) (e : End) (p : MachinePacket) → is_error p ≡ false → Has passed e p → Has (kept_at r passed) e p
  has_kept passed Client Req plain at = asked_kept passed at
  has_kept passed Server Req plain at = kept_plain pass_tests r passed (record { from = Server; packet = Req }) at refl (quiet_of Server Req plain)
  has_kept passed e (Error code text) plain at = absurd (true≢false plain)
  has_kept passed e p plain at = kept_plain pass_tests r passed (record { from = e; packet = p }) at (no_request e) (quiet_of e p plain)

  pub any_kept : (o : End) (x : Pass) (passed : List Pass) → list_any (pass_tests.ends o) (x ∷ passed) ≡ false → list_any (pass_tests.ends o) (kept_at r (x ∷ passed)) ≡ false
  any_kept o x passed none = none_in (pass_tests.ends o) (kept_at r (x ∷ passed)) (λ y at. none_of (pass_tests.ends o) (x ∷ passed) y (kept_there pass_tests r (x ∷ passed) y at) none)

  -- what is kept of what passed before an ERROR is before it in what is kept
  pub before_kept : (o : End) (passed : List Pass) (e : End) (p : MachinePacket) → is_error p ≡ false → Has (before_error pass_tests o passed) e p → Has (before_error pass_tests o (kept_at r passed)) e p
  before_kept o [] e p plain at = at
  before_kept o (x ∷ passed) e p plain at = elim (cases_Bool (list_any (pass_tests.ends o) (x ∷ passed))) [
    | inl some ↦
        let before = before_kept o passed e p plain (subst (λ v. Has v e p) (before_less pass_tests o x passed some) at) in
        elim (cases_Bool (is_left_out pass_tests r x (kept_at r passed))) [
          | inl out ↦ subst (λ v. Has (before_error pass_tests o v) e p) (sym (kept_out pass_tests r x passed out)) before
          | inr stays ↦ subst (λ v. Has (before_error pass_tests o v) e p) (sym (kept_in pass_tests r x passed stays)) (before_more pass_tests o x (kept_at r passed) (record { from = e; packet = p }) before)
        ]
    | inr none ↦ subst (λ v. Has v e p) (sym (before_all pass_tests o (kept_at r (x ∷ passed)) (any_kept o x passed none)))
        (has_kept (x ∷ passed) e p plain (subst (λ v. Has v e p) (before_all pass_tests o (x ∷ passed) none) at))
  ]

-- ---- what may come after the one history may come after the other

module _ (r : End) where
  suits_kept : (e : End) (passed : List Pass) → Serves (as_at e passed) (as_at e (kept_at r passed))
  suits_kept e passed = record {
    sent = λ p plain at. before_sent e (kept_at r passed) p (before_kept r (other_end e) passed e p plain (sent_before e passed p at));
    asked = λ at. at_sent e Req (kept_at r passed) (has_kept r passed e Req refl (sent_passed e Req passed at));
    errors = λ code text at. at_took e (Error code text) passed (kept_there pass_tests r passed _ (took_passed e (Error code text) (kept_at r passed) at));
  }

-- ---- what is kept may pass, and in order

module _ (m : Meaning) (wire : List ℕ) where
  pub kept_may : (r : End) (passed : List Pass) → MayPassEach m wire passed → MayPassEach m wire (kept_at r passed)
  kept_may r [] may = tt
  kept_may r (x ∷ passed) may = elim (cases_Bool (is_left_out pass_tests r x (kept_at r passed))) [
    | inl out ↦ subst (MayPassEach m wire) (sym (kept_out pass_tests r x passed out)) (kept_may r passed may.1)
    | inr stays ↦ subst (MayPassEach m wire) (sym (kept_in pass_tests r x passed stays))
        (come_by m wire (other_end x.from) (as_at (other_end x.from) passed) (as_at (other_end x.from) (kept_at r passed)) (suits_kept r (other_end x.from) passed) x.packet may.0, kept_may r passed may.1)
  ]

  no_error_kept : (r : End) (passed : List Pass) (code : ℕ) (text : List ℕ) → HasSent (as_at r (kept_at r passed)) (Error code text) → ⊥
  no_error_kept r passed code text at =
      true≢false (sym (any_of (pass_tests.ends r) (kept_at r passed) (record { from = r; packet = Error code text }) (sent_passed r (Error code text) (kept_at r passed) at) (own r)) ∙ kept_quiet pass_tests r passed)
    where
      own : (e : End) → (same_end e e && true) ≡ true
      own Client = refl
      own Server = refl

  no_ack_first : (passed : List Pass) → Client ≡ receiver_of m.side → MayPassEach m wire (kept_at Client passed)
      → is_left_out pass_tests Client (record { from = Client; packet = Req }) (kept_at Client passed) ≡ false → (j : ℕ) → HasSent (as_at Client (kept_at Client passed)) (Ack j) → ⊥
  no_ack_first passed is may stays j at =
      let first = or_parts (list_any pass_tests.asks (kept_at Client passed)) _ stays in
      let asked = ack_asked m wire (kept_at Client passed) may (client_reads m.side is) j (sent_passed Client (Ack j) (kept_at Client passed) at) in
      true≢false (sym (any_of pass_tests.asks (kept_at Client passed) (record { from = Client; packet = Req }) asked refl) ∙ first.0)

  own_order : (r : End) → r ≡ receiver_of m.side → (p : MachinePacket) (passed : List Pass) → MayPass m wire passed r p → MayPassEach m wire (kept_at r passed)
      → is_left_out pass_tests r (record { from = r; packet = p }) (kept_at r passed) ≡ false → KeepsOrder r (as_at r (kept_at r passed)) p
  own_order Client is Req passed allowed may stays = record { after_error = λ plain. no_error_kept Client passed; request = λ same. no_ack_first passed is may stays; asked = λ error. absurd (true≢false (sym error)) }
  own_order Server is Req passed allowed may stays = absurd (cc)
  own_order Client is (Error code text) passed allowed may stays = absurd (true≢false stays)
  own_order Server is (Error code text) passed allowed may stays = absurd (true≢false stays)
  own_order r is _ passed allowed may stays = record { after_error = λ plain. no_error_kept r passed; request = λ same. absurd (cc); asked = λ error. absurd (true≢false (sym error)) }

  order_of : (r f : End) → r ≡ receiver_of m.side → (p : MachinePacket) (passed : List Pass) → MayPass m wire passed f p → MayPassEach m wire (kept_at r passed)
      → is_left_out pass_tests r (record { from = f; packet = p }) (kept_at r passed) ≡ false
      → KeepsOrderEach r (as_at r (kept_at r passed)) → KeepsOrderEach r (deed_at r f p ∷ as_at r (kept_at r passed))
  order_of Client Server is p passed allowed may stays order = order
  order_of Server Client is p passed allowed may stays order = order
  order_of Server Server is p passed allowed may stays order = (own_order Server is p passed allowed may stays, order)
  order_of Client Client is p passed allowed may stays order = (own_order Client is p passed allowed may stays, order)

  pub kept_order : (r : End) → r ≡ receiver_of m.side → (passed : List Pass) → MayPassEach m wire passed → KeepsOrderEach r (as_at r (kept_at r passed))
  kept_order r is [] may = tt
  kept_order r is (x ∷ passed) may = elim (cases_Bool (is_left_out pass_tests r x (kept_at r passed))) [
    | inl out ↦ subst (λ v. KeepsOrderEach r (as_at r v)) (sym (kept_out pass_tests r x passed out)) (kept_order r is passed may.1)
    | inr stays ↦ subst (λ v. KeepsOrderEach r (as_at r v)) (sym (kept_in pass_tests r x passed stays))
        (order_of r x.from is x.packet passed may.0 (kept_may r passed may.1) stays (kept_order r is passed may.1))
  ]

  -- So the receiver, judged by what is kept, is lawful.
  pub kept_one_sided : (passed : List Pass) → MayPassEach m wire passed → IsOneSided m wire (receiver_of m.side) (as_at (receiver_of m.side) (kept_at (receiver_of m.side) passed))
  kept_one_sided passed may = (receiver_is m wire (kept_at (receiver_of m.side) passed)).1 (kept_may (receiver_of m.side) passed may, kept_order (receiver_of m.side) refl passed may)
