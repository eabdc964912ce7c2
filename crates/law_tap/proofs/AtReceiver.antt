-- The law at a tap is the law at the receiver but for the order of what the receiver sends.
use Rattle.std.proofs.Common.{◌≡◌, ℕ, List, [], ◌∷◌, Contains, inl, inr, refl, sym, subst, ap, ◌∙◌, ◌↔◌}
use Rattle.std.proofs.lemmas.Bool.{true≢false}
use Rattle.tftp_packet.specs.{Side, Get, Put, End, Client, Server}
use Rattle.law_model.specs.Model.{Meaning, Sent, Took, MachinePacket, Req, Oack, Data, Ack, Error, History, HasSent, HasTaken, MayAckZeroOn, MaySend, heard, LetsAckZeroOn, IsOneSided}
use Rattle.law_model.specs.Model.Machines.{other_end, sender_of, receiver_of}
use Rattle.law_model.proofs.ModelLemmas.Members.{contains_cases, contains_none}
use Rattle.law_model.proofs.ModelLemmas.Stops.{heard_done}
use Rattle.law_model.proofs.ModelLemmas.MadeRuns.{one_sided_view}
use Rattle.law_model.proofs.ModelLemmas.OtherEnd.{other_other, other_sends}
use Rattle.law_tap.specs.{Pass, deed_at, as_at, pass_of, tapped_at, MayPass, MayPassEach, IsTapView, KeepsOrder, KeepsOrderEach}
use Rattle.law_tap.proofs.Passed.{sent_passed, at_took}
use Rattle.law_tap.proofs.Beside.{view_is_tapped}
use Rattle.law_tap.proofs.Replays.{tap_view_is}

-- ---- from the tap

pub not_sender : (side : Side) → receiver_of side ≡ sender_of side → ⊥
not_sender Get is = absurd (cc)
not_sender Put is = absurd (cc)

server_receives : (side : Side) → Server ≡ receiver_of side → side ≡ Get → ⊥
server_receives Get is get = absurd (cc)
server_receives Put is get = absurd (cc)

module _ (m : Meaning) (wire : List ℕ) where
  -- who sends blocks is no receiver
  no_data : (passed : List Pass) → MayPassEach m wire passed → (k : ℕ) → HasSent (as_at (receiver_of m.side) passed) (Data k) → ⊥
  no_data [] may k at = contains_none _ at
  no_data (x ∷ passed) may k at = elim (contains_cases (deed_at (receiver_of m.side) x.from x.packet) (as_at (receiver_of m.side) passed) (Sent (Data k)) at) [
    | inl now ↦ by (receiver_of m.side) refl x.from x.packet may.0 now
    | inr before ↦ no_data passed may.1 k before
  ]
    where
      wrong : (e : End) → e ≡ receiver_of m.side → MayPass m wire passed e (Data k) → ⊥
      wrong e is allowed = not_sender m.side (sym is ∙ sym (other_other e) ∙ ap other_end allowed.receiver ∙ other_sends m.side)

      by : (e : End) → e ≡ receiver_of m.side → (f : End) (q : MachinePacket) → MayPass m wire passed f q → deed_at e f q ≡ Sent (Data k) → ⊥
      by Client is Client q allowed now = let same : q ≡ Data k = cc in wrong Client is (subst (MayPass m wire passed Client) same allowed)
      by Server is Server q allowed now = let same : q ≡ Data k = cc in wrong Server is (subst (MayPass m wire passed Server) same allowed)
      by Client is Server q allowed now = absurd (cc)
      by Server is Client q allowed now = absurd (cc)

  -- what had passed towards the receiver it has taken
  taken : (e : End) (p : MachinePacket) (passed : List Pass) → HasSent (as_at (other_end e) passed) p → HasTaken (as_at e passed) p
  taken e p passed at = at_took e p passed (sent_passed (other_end e) p passed at)

  may_send : (e : End) → e ≡ receiver_of m.side → (p : MachinePacket) (passed : List Pass) → MayPassEach m wire passed → MayPass m wire passed e p → KeepsOrder e (as_at e passed) p → MaySend m wire e (as_at e passed) p
  may_send e is Req passed may allowed order = record {
    client = sym (other_other e) ∙ ap other_end allowed;
    no_error = order.after_error refl;
    no_data = λ k at. no_data passed may k (subst (λ x. HasSent (as_at x passed) (Data k)) is at);
    no_ack = order.request refl;
  }
  may_send e is Oack passed may allowed order =
      let server : e ≡ Server = sym (other_other e) ∙ ap other_end allowed.client in
      record {
        server = server;
        no_error = order.after_error refl;
        agreed = allowed.agreed;
        asked = taken e Req passed allowed.asked;
        no_data = λ get k at. server_receives m.side (sym server ∙ is) get;
      }
  may_send e is (Data k) passed may allowed order = absurd (not_sender m.side (sym is ∙ sym (other_other e) ∙ ap other_end allowed.receiver ∙ other_sends m.side))
  may_send e is (Ack j) passed may allowed order = record {
    receiver = is;
    no_error = order.after_error refl;
    zero = λ none. zero m.side (allowed.zero none);
    taken = λ k low high. heard_taken (Data k) (allowed.sent k low high);
  }
    where
      heard_taken : (p : MachinePacket) → HasSent (heard (as_at (other_end e) passed)) p → HasTaken (as_at e passed) p
      heard_taken p at = taken e p passed (heard_done (as_at (other_end e) passed) (Sent p) at)

      zero : (side : Side) → LetsAckZeroOn side m (heard (as_at (other_end e) passed)) → MayAckZeroOn side m (as_at e passed)
      zero Get z = (z.0, heard_taken Oack z.1)
      zero Put z = elim z [ inl plain ↦ inl (plain.0, heard_taken Req plain.1) | inr oacked ↦ inr (oacked.0, oacked.1, heard_taken (Data oacked.1) oacked.2) ]
  may_send e is (Error code text) passed may allowed order = record {
    asked = λ client. order.asked refl client;
    was_asked = λ server. taken e Req passed (allowed.asked (ap other_end server));
    same = λ c t at. allowed.same c t (at_took (other_end e) (Error c t) passed (subst (λ x. Contains passed (record { from = x; packet = Error c t })) (sym (other_other e)) (sent_passed e (Error c t) passed at)));
  }

  own : (e f : End) → e ≡ receiver_of m.side → (p : MachinePacket) (passed : List Pass) → MayPassEach m wire passed → MayPass m wire passed f p → KeepsOrderEach e (deed_at e f p ∷ as_at e passed)
      → (KeepsOrderEach e (as_at e passed) → IsOneSided m wire e (as_at e passed)) → IsOneSided m wire e (deed_at e f p ∷ as_at e passed)
  own Client Client is p passed may allowed order rest = (may_send Client is p passed may allowed order.0, rest order.1)
  own Server Server is p passed may allowed order rest = (may_send Server is p passed may allowed order.0, rest order.1)
  own Client Server is p passed may allowed order rest = (allowed, rest order)
  own Server Client is p passed may allowed order rest = (allowed, rest order)

  from_tap : (e : End) → e ≡ receiver_of m.side → (passed : List Pass) → MayPassEach m wire passed → KeepsOrderEach e (as_at e passed) → IsOneSided m wire e (as_at e passed)
  from_tap e is [] may order = tt
  from_tap e is (x ∷ passed) may order = own e x.from is x.packet passed may.1 may.0 order (λ before. from_tap e is passed may.1 before)

  -- ---- from the receiver

  keeps : (e : End) (p : MachinePacket) (h : History) → MaySend m wire e h p → KeepsOrder e h p
  keeps e Req h may = record { after_error = λ plain. may.no_error; request = λ is. may.no_ack; asked = λ is. absurd (true≢false (sym is)) }
  keeps e (Error code text) h may = record { after_error = λ plain. absurd (true≢false plain); request = λ is. absurd (cc); asked = λ is client. may.asked client }
  keeps e _ h may = record { after_error = λ plain. may.no_error; request = λ is. absurd (cc); asked = λ is. absurd (true≢false (sym is)) }

  keeps_each : (e : End) (h : History) → IsOneSided m wire e h → KeepsOrderEach e h
  keeps_each e [] lawful = tt
  keeps_each e (Sent p ∷ h) lawful = (keeps e p h lawful.0, keeps_each e h lawful.1)
  keeps_each e (Took p ∷ h) lawful = keeps_each e h lawful.1

  same_pass : (e : End) (x : Pass) → pass_of e (deed_at e x.from x.packet) ≡ x
  same_pass e x = by e x.from x.packet where
    by : (e f : End) (p : MachinePacket) → pass_of e (deed_at e f p) ≡ record { from = f; packet = p }
    by Client Client p = refl
    by Client Server p = refl
    by Server Client p = refl
    by Server Server p = refl

  same_passed : (e : End) (passed : List Pass) → tapped_at e (as_at e passed) ≡ passed
  same_passed e [] = refl
  same_passed e (x ∷ passed) = ap (λ y. y ∷ tapped_at e (as_at e passed)) (same_pass e x) ∙ ap (λ l. x ∷ l) (same_passed e passed)

  to_tap : (e : End) (passed : List Pass) → IsOneSided m wire e (as_at e passed) → MayPassEach m wire passed
  to_tap e passed lawful =
      (tap_view_is m wire passed).0 (subst (IsTapView m wire) (same_passed e passed) (view_is_tapped m wire e (as_at e passed) (one_sided_view m wire e (as_at e passed) lawful)))

  pub receiver_is : (passed : List Pass) → IsOneSided m wire (receiver_of m.side) (as_at (receiver_of m.side) passed) ↔ (MayPassEach m wire passed × KeepsOrderEach (receiver_of m.side) (as_at (receiver_of m.side) passed))
  receiver_is passed = (
    λ lawful. (to_tap (receiver_of m.side) passed lawful, keeps_each (receiver_of m.side) (as_at (receiver_of m.side) passed) lawful),
    λ both. from_tap (receiver_of m.side) refl passed both.0 both.1,
  )
