-- Where no ERROR of the receiver has passed, the list without its late requests is in order.
use Rattle.std.proofs.Common.{◌≡◌, ℕ, zero, suc, ◌⊎◌, List, [], ◌∷◌, Contains, inl, inr, refl, sym, subst, ap, arith}
use Rattle.std.proofs.lemmas.Bool.{true≢false}
use Rattle.tftp_packet.specs.{Side, Get, Put, End, Client, Server}
use Rattle.law_model.specs.Model.{Meaning, Deed, Sent, Took, MachinePacket, Req, Oack, Data, Ack, Error, History, HasSent, NoErrorSent}
use Rattle.law_model.specs.Model.Machines.{sender_of, receiver_of}
use Rattle.law_model.proofs.ModelLemmas.Members.{contains_first, contains_later, contains_cases, contains_none}
use Rattle.law_tap.specs.{Pass, deed_at, as_at, MayPass, MayPassEach, IsTapView, KeepsOrder, KeepsOrderEach, request_passes, LeavesOut, none, keeps, drops}
use Rattle.law_tap.proofs.Passed.{sent_passed}
use Rattle.law_tap.proofs.LeftOut.{to_rest}
use Rattle.law_tap.proofs.OneTap.{Has, pass_moment, heard_passed, asked_by_oack, zero_get, begun}
use Rattle.law_tap.proofs.Replays.{tap_view_is}

pub client_reads : (side : Side) → Client ≡ receiver_of side → side ≡ Get
client_reads Get is = refl
client_reads Put is = absurd (cc)

-- an ACK of the end has passed, or none
some_ack : (h : History) → ((j : ℕ) × HasSent h (Ack j)) ⊎ ((j : ℕ) → HasSent h (Ack j) → ⊥)
some_ack [] = inr (λ j at. contains_none (Sent (Ack j)) at)
some_ack (d ∷ h) = elim (some_ack h) [ inl found ↦ inl (found.0, contains_later d h (Sent (Ack found.0)) found.1) | inr not ↦ now d not ] where
  now : (d : Deed) → ((j : ℕ) → HasSent h (Ack j) → ⊥) → ((j : ℕ) × HasSent (d ∷ h) (Ack j)) ⊎ ((j : ℕ) → HasSent (d ∷ h) (Ack j) → ⊥)
  now (Sent (Ack i)) not = inl (i, contains_first (Sent (Ack i)) h)
  now (Sent Req) not = inr (λ j at. elim (contains_cases (Sent Req) h (Sent (Ack j)) at) [ inl same ↦ absurd (cc) | inr before ↦ not j before ])
  now (Sent Oack) not = inr (λ j at. elim (contains_cases (Sent Oack) h (Sent (Ack j)) at) [ inl same ↦ absurd (cc) | inr before ↦ not j before ])
  now (Sent (Data k)) not = inr (λ j at. elim (contains_cases (Sent (Data k)) h (Sent (Ack j)) at) [ inl same ↦ absurd (cc) | inr before ↦ not j before ])
  now (Sent (Error code text)) not = inr (λ j at. elim (contains_cases (Sent (Error code text)) h (Sent (Ack j)) at) [ inl same ↦ absurd (cc) | inr before ↦ not j before ])
  now (Took p) not = inr (λ j at. elim (contains_cases (Took p) h (Sent (Ack j)) at) [ inl same ↦ absurd (cc) | inr before ↦ not j before ])

module _ (m : Meaning) (wire : List ℕ) where
  -- an ACK of a client that reads: its request has passed
  pub ack_asked : (passed : List Pass) → MayPassEach m wire passed → m.side ≡ Get → (j : ℕ) → Has passed Client (Ack j) → Has passed Client Req
  ack_asked passed may get zero at = asked_by_oack m wire passed may (zero_get m wire passed may get at)
  ack_asked passed may get (suc j) at =
      let past = pass_moment m wire passed Client (Ack (suc j)) may at in
      let block = heard_passed m wire passed may Server (Data 1) Client (Ack (suc j)) past (past.allowed.sent 1 (omega arith) (omega arith)) in
      let sender : Server ≡ sender_of m.side = ap sender_of (sym get) in
      (begun m wire passed may 1 (subst (λ x. Has passed x (Data 1)) sender block)).0

  -- no ERROR of this end has passed
  abbrev pub NoErrorPassed : End → List Pass → Type 0
  NoErrorPassed e passed = (code : ℕ) (text : List ℕ) → Contains passed (record { from = e; packet = Error code text }) → ⊥

  abbrev pub Ordered : End → List Pass → Type 0
  Ordered e passed = (rest : List Pass) × LeavesOut passed rest × KeepsOrderEach e (as_at e rest)

  all_has : (all rest : List Pass) → LeavesOut all rest → (x : Pass) → Contains rest x → Contains all x
  all_has _ _ none x at = at
  all_has _ _ (keeps y all rest l) x at = elim (contains_cases y rest x at) [ inl now ↦ subst (λ z. Contains (z ∷ all) x) (sym now) (contains_first x all) | inr before ↦ contains_later y all x (all_has all rest l x before) ]
  all_has _ _ (drops all rest l there) x at = contains_later request_passes all x (all_has all rest l x at)

  module _ (e : End) (is : e ≡ receiver_of m.side) (passed : List Pass) (may : MayPassEach m wire passed) (quiet : NoErrorPassed e passed) (o : Ordered e passed) where
    no_error : NoErrorSent (as_at e o.0)
    no_error code text at = quiet code text (all_has passed o.0 o.1 _ (sent_passed e (Error code text) o.0 at))

    kept_own : (p : MachinePacket) → deed_at e e p ≡ Sent p → KeepsOrder e (as_at e o.0) p → Ordered e (record { from = e; packet = p } ∷ passed)
    kept_own p sent order = (record { from = e; packet = p } ∷ o.0, keeps (record { from = e; packet = p }) passed o.0 o.1, subst (λ d. KeepsOrderEach e (d ∷ as_at e o.0)) (sym sent) (order, o.2))

  own : (e : End) → e ≡ receiver_of m.side → (p : MachinePacket) (passed : List Pass) → MayPassEach m wire passed → MayPass m wire passed e p → deed_at e e p ≡ Sent p → NoErrorPassed e (record { from = e; packet = p } ∷ passed) → Ordered e passed → Ordered e (record { from = e; packet = p } ∷ passed)
  own Client is Req passed may allowed sent quiet o = elim (some_ack (as_at Client o.0)) [
    | inl found ↦ (o.0, drops passed o.0 o.1 (ack_asked o.0 (to_rest m wire passed o.0 o.1 may) (client_reads m.side is) found.0 (sent_passed Client (Ack found.0) o.0 found.1)), o.2)
    | inr not ↦ kept_own Client is passed may (less Client Req passed quiet) o Req sent (record { after_error = λ plain. no_error Client is passed may (less Client Req passed quiet) o; request = λ same. not; asked = λ error. absurd (true≢false (sym error)) })
  ]
    where
      less : (e : End) (p : MachinePacket) (passed : List Pass) → NoErrorPassed e (record { from = e; packet = p } ∷ passed) → NoErrorPassed e passed
      less e p passed quiet code text at = quiet code text (contains_later (record { from = e; packet = p }) passed _ at)
  own Server is Req passed may allowed sent quiet o = absurd (cc)
  own e is Oack passed may allowed sent quiet o = kept_own e is passed may (λ c t at. quiet c t (contains_later _ passed _ at)) o Oack sent (record { after_error = λ plain. no_error e is passed may (λ c t at. quiet c t (contains_later _ passed _ at)) o; request = λ same. absurd (cc); asked = λ error. absurd (true≢false (sym error)) })
  own e is (Data k) passed may allowed sent quiet o = kept_own e is passed may (λ c t at. quiet c t (contains_later _ passed _ at)) o (Data k) sent (record { after_error = λ plain. no_error e is passed may (λ c t at. quiet c t (contains_later _ passed _ at)) o; request = λ same. absurd (cc); asked = λ error. absurd (true≢false (sym error)) })
  own e is (Ack j) passed may allowed sent quiet o = kept_own e is passed may (λ c t at. quiet c t (contains_later _ passed _ at)) o (Ack j) sent (record { after_error = λ plain. no_error e is passed may (λ c t at. quiet c t (contains_later _ passed _ at)) o; request = λ same. absurd (cc); asked = λ error. absurd (true≢false (sym error)) })
  own e is (Error code text) passed may allowed sent quiet o = absurd (quiet code text (contains_first _ passed))

  step : (e f : End) → e ≡ receiver_of m.side → (p : MachinePacket) (passed : List Pass) → MayPassEach m wire passed → MayPass m wire passed f p → NoErrorPassed e (record { from = f; packet = p } ∷ passed) → Ordered e passed → Ordered e (record { from = f; packet = p } ∷ passed)
  step Client Client is p passed may allowed quiet o = own Client is p passed may allowed refl quiet o
  step Server Server is p passed may allowed quiet o = own Server is p passed may allowed refl quiet o
  step Client Server is p passed may allowed quiet o = (record { from = Server; packet = p } ∷ o.0, keeps (record { from = Server; packet = p }) passed o.0 o.1, o.2)
  step Server Client is p passed may allowed quiet o = (record { from = Client; packet = p } ∷ o.0, keeps (record { from = Client; packet = p }) passed o.0 o.1, o.2)

  ordered : (e : End) → e ≡ receiver_of m.side → (passed : List Pass) → MayPassEach m wire passed → NoErrorPassed e passed → Ordered e passed
  ordered e is [] may quiet = ([], none, tt)
  ordered e is (x ∷ passed) may quiet = step e x.from is x.packet passed may.1 may.0 quiet (ordered e is passed may.1 (λ c t at. quiet c t (contains_later x passed _ at)))

  pub in_order : (passed : List Pass) → IsTapView m wire passed → ((code : ℕ) (text : List ℕ) → Contains passed (record { from = receiver_of m.side; packet = Error code text }) → ⊥)
      → (rest : List Pass) × LeavesOut passed rest × KeepsOrderEach (receiver_of m.side) (as_at (receiver_of m.side) rest)
  in_order passed view quiet = ordered (receiver_of m.side) refl passed ((tap_view_is m wire passed).0 view) quiet
