-- A request that had passed before changes nothing at a tap.
use Rattle.std.proofs.Common.{◌≡◌, ℕ, false, List, [], ◌∷◌, inl, inr, refl, sym, subst, ◌∙◌, ◌↔◌}
use Rattle.tftp_packet.specs.{Side, Get, Put, End, Client, Server}
use Rattle.law_model.specs.Model.{Meaning, Deed, Sent, Took, MachinePacket, Req, Oack, Data, Ack, Error, History, HasSent, HasTaken, heard, LetsStartOn, LetsAckZeroOn, MayCome, is_error}
use Rattle.law_model.specs.Model.Machines.{other_end}
use Rattle.law_model.proofs.ModelLemmas.Members.{contains_first, contains_later, contains_cases}
use Rattle.law_model.proofs.ModelLemmas.Stops.{stopped, either, heard_all, heard_stopped, heard_more, heard_sent, going_before}
use Rattle.law_tap.specs.{Pass, deed_at, as_at, MayPassEach, IsTapView, request_passes, LeavesOut, none, keeps, drops}
use Rattle.law_tap.proofs.Passed.{at_sent}
use Rattle.law_tap.proofs.Replays.{tap_view_is}

-- what may come after the one history may come after the other
pub record Serves (h other : History) : Type 0 where
  pub sent : (p : MachinePacket) → is_error p ≡ false → HasSent (heard h) p → HasSent (heard other) p
  pub asked : HasSent h Req → HasSent other Req
  pub errors : (code : ℕ) (text : List ℕ) → HasTaken other (Error code text) → HasTaken h (Error code text)

pub come_by : (m : Meaning) (wire : List ℕ) (e : End) (h other : History) → Serves h other → (p : MachinePacket) → MayCome m wire e h p → MayCome m wire e other p
come_by m wire e h other s Req may = may
come_by m wire e h other s Oack may = record { client = may.client; agreed = may.agreed; asked = s.asked may.asked }
come_by m wire e h other s (Error code text) may = record { asked = λ is. s.asked (may.asked is); same = λ c t at. may.same c t (s.errors c t at) }
come_by m wire e h other s (Data k) may = record {
  receiver = may.receiver;
  from_one = may.from_one;
  in_wire = may.in_wire;
  started = start m.side may.started;
  in_window = (may.in_window.0, elim may.in_window.1 [ inl first ↦ inl first | inr acked ↦ inr (s.sent (Ack may.in_window.0) refl acked) ], may.in_window.2);
}
  where
    start : (side : Side) → LetsStartOn side m (heard h) → LetsStartOn side m (heard other)
    start Get l = elim l [ inl plain ↦ inl (plain.0, s.sent Req refl plain.1) | inr oacked ↦ inr (oacked.0, s.sent (Ack 0) refl oacked.1) ]
    start Put l = elim l [ inl plain ↦ inl (plain.0, s.sent (Ack 0) refl plain.1) | inr oacked ↦ inr (oacked.0, s.sent Oack refl oacked.1) ]
come_by m wire e h other s (Ack j) may = record { sender = may.sender; zero = λ is. zero m.side (may.zero is); sent = λ k low high. s.sent (Data k) refl (may.sent k low high) } where
  zero : (side : Side) → LetsAckZeroOn side m (heard h) → LetsAckZeroOn side m (heard other)
  zero Get z = (z.0, s.sent Oack refl z.1)
  zero Put z = elim z [ inl plain ↦ inl (plain.0, s.sent Req refl plain.1) | inr oacked ↦ inr (oacked.0, oacked.1, s.sent (Data oacked.1) refl oacked.2) ]

-- one more deed of both
serves_more : (d : Deed) (h other : History) → stopped h ≡ stopped other → Serves h other → Serves (d ∷ h) (d ∷ other)
serves_more d h other same s = record {
  sent = λ p plain at. elim (either (d ∷ h)) [
    | inl over ↦ subst (λ v. HasSent v p) (sym (heard_stopped d other (sym both ∙ over))) (s.sent p plain (subst (λ v. HasSent v p) (heard_stopped d h over) at))
    | inr going ↦ subst (λ v. HasSent v p) (sym (heard_all (d ∷ other) (sym both ∙ going))) (elim (contains_cases d h (Sent p) (subst (λ v. HasSent v p) (heard_all (d ∷ h) going) at)) [
      | inl now ↦ subst (λ x. HasSent (x ∷ other) p) (sym now) (contains_first (Sent p) other)
      | inr before ↦ contains_later d other (Sent p) (subst (λ v. HasSent v p) (heard_all other (sym same ∙ before_it going)) (s.sent p plain (subst (λ v. HasSent v p) (sym (heard_all h (before_it going))) before)))
    ])
  ];
  asked = λ at. elim (contains_cases d h (Sent Req) at) [ inl now ↦ subst (λ x. HasSent (x ∷ other) Req) (sym now) (contains_first (Sent Req) other) | inr before ↦ contains_later d other (Sent Req) (s.asked before) ];
  errors = λ code text at. elim (contains_cases d other (Took (Error code text)) at) [
    | inl now ↦ subst (λ x. HasTaken (x ∷ h) (Error code text)) (sym now) (contains_first (Took (Error code text)) h)
    | inr before ↦ contains_later d h (Took (Error code text)) (s.errors code text before)
  ];
}
  where
    both : stopped (d ∷ h) ≡ stopped (d ∷ other)
    both = rw (same) refl

    before_it : stopped (d ∷ h) ≡ false → stopped h ≡ false
    before_it going = going_before d h going

-- ---- a request more

record Same (e : End) (all rest : List Pass) : Type 0 where
  to : Serves (as_at e all) (as_at e rest)
  from : Serves (as_at e rest) (as_at e all)
  stops : stopped (as_at e all) ≡ stopped (as_at e rest)

same_more : (e : End) (x : Pass) (all rest : List Pass) → Same e all rest → Same e (x ∷ all) (x ∷ rest)
same_more e x all rest s = record {
  to = serves_more (deed_at e x.from x.packet) (as_at e all) (as_at e rest) s.stops s.to;
  from = serves_more (deed_at e x.from x.packet) (as_at e rest) (as_at e all) (sym s.stops) s.from;
  stops = rw (s.stops) refl;
}

client_drops : (all rest : List Pass) → Same Client all rest → HasSent (as_at Client rest) Req → Same Client (request_passes ∷ all) rest
client_drops all rest s there = record {
  to = record {
    sent = λ p plain at. elim (either (as_at Client all)) [
      | inl over ↦ s.to.sent p plain (subst (λ v. HasSent v p) (heard_stopped (Sent Req) (as_at Client all) over) at)
      | inr going ↦ elim (contains_cases (Sent Req) (as_at Client all) (Sent p) (subst (λ v. HasSent v p) (heard_all (Sent Req ∷ as_at Client all) going) at)) [
        | inl now ↦ let is : Req ≡ p = cc in subst (λ v. HasSent v p) (sym (heard_all (as_at Client rest) (sym s.stops ∙ going))) (subst (HasSent (as_at Client rest)) is there)
        | inr before ↦ s.to.sent p plain (subst (λ v. HasSent v p) (sym (heard_all (as_at Client all) going)) before)
      ]
    ];
    asked = λ at. there;
    errors = λ code text at. contains_later (Sent Req) (as_at Client all) (Took (Error code text)) (s.to.errors code text at);
  };
  from = record {
    sent = λ p plain at. heard_more (Sent Req) (as_at Client all) (Sent p) (s.from.sent p plain at);
    asked = λ at. contains_first (Sent Req) (as_at Client all);
    errors = λ code text at. s.from.errors code text (elim (contains_cases (Sent Req) (as_at Client all) (Took (Error code text)) at) [ inl now ↦ absurd (cc) | inr before ↦ before ]);
  };
  stops = s.stops;
}

server_drops : (all rest : List Pass) → Same Server all rest → Same Server (request_passes ∷ all) rest
server_drops all rest s = record {
  to = record {
    sent = λ p plain at. s.to.sent p plain (heard_sent Req p (as_at Server all) at);
    asked = λ at. s.to.asked (elim (contains_cases (Took Req) (as_at Server all) (Sent Req) at) [ inl now ↦ absurd (cc) | inr before ↦ before ]);
    errors = λ code text at. contains_later (Took Req) (as_at Server all) (Took (Error code text)) (s.to.errors code text at);
  };
  from = record {
    sent = λ p plain at. heard_more (Took Req) (as_at Server all) (Sent p) (s.from.sent p plain at);
    asked = λ at. contains_later (Took Req) (as_at Server all) (Sent Req) (s.from.asked at);
    errors = λ code text at. s.from.errors code text (elim (contains_cases (Took Req) (as_at Server all) (Took (Error code text)) at) [ inl now ↦ absurd (cc) | inr before ↦ before ]);
  };
  stops = s.stops;
}

nothing_differs : (e : End) → Same e [] []
nothing_differs e = record {
  to = record { sent = λ p plain at. at; asked = λ at. at; errors = λ code text at. at };
  from = record { sent = λ p plain at. at; asked = λ at. at; errors = λ code text at. at };
  stops = refl;
}

same_at : (e : End) (all rest : List Pass) → LeavesOut all rest → Same e all rest
same_at e _ _ none = nothing_differs e
same_at e _ _ (keeps x all rest l) = same_more e x all rest (same_at e all rest l)
same_at Client _ _ (drops all rest l there) = client_drops all rest (same_at Client all rest l) (at_sent Client Req rest there)
same_at Server _ _ (drops all rest l there) = server_drops all rest (same_at Server all rest l)

module _ (m : Meaning) (wire : List ℕ) where
  pub to_rest : (all rest : List Pass) → LeavesOut all rest → MayPassEach m wire all → MayPassEach m wire rest
  to_rest _ _ none may = tt
  to_rest _ _ (keeps x all rest l) may = (come_by m wire (other_end x.from) (as_at (other_end x.from) all) (as_at (other_end x.from) rest) (same_at (other_end x.from) all rest l).to x.packet may.0, to_rest all rest l may.1)
  to_rest _ _ (drops all rest l there) may = to_rest all rest l may.1

  to_all : (all rest : List Pass) → LeavesOut all rest → MayPassEach m wire rest → MayPassEach m wire all
  to_all _ _ none may = tt
  to_all _ _ (keeps x all rest l) may = (come_by m wire (other_end x.from) (as_at (other_end x.from) rest) (as_at (other_end x.from) all) (same_at (other_end x.from) all rest l).from x.packet may.0, to_all all rest l may.1)
  to_all _ _ (drops all rest l there) may = (refl, to_all all rest l may)

  pub left_out : (all rest : List Pass) → LeavesOut all rest → IsTapView m wire all ↔ IsTapView m wire rest
  left_out all rest l = (
    λ view. (tap_view_is m wire rest).1 (to_rest all rest l ((tap_view_is m wire all).0 view)),
    λ view. (tap_view_is m wire all).1 (to_all all rest l ((tap_view_is m wire rest).0 view)),
  )
