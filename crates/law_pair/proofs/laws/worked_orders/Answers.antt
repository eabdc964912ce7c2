use Rattle.std.proofs.Common.{◌≡◌, List, [], ◌∷◌, inl, inr, refl, subst, arith}
use Rattle.tftp_packet.specs.{End, Client, Server}
use Rattle.law_model.specs.Model.{MachinePacket, Data, Ack, Deed, Sent, Took, History}
use Rattle.law_model.specs.Model.Roles.{other_end}
use Rattle.law_model.proofs.ModelLemmas.Members.{contains_first, contains_later, contains_none}
use Rattle.law_pair.specs.{Event, seen_at, AreAllOpen, IsOpen, AreMerged, did}
use Rattle.law_pair.proofs.Merged.{earlier_all, IsShutAt, no_longer}
use Rattle.law_pair.proofs.laws.worked_orders.Goals as goal

-- it is there, where it was sent last or before the last
last : (p : MachinePacket) (h : History) → IsOpen (Sent p ∷ h) (Took p)
last p h = contains_first (Sent p) h

nothing_sent : (events : List (Event Deed)) → AreAllOpen IsOpen events → seen_at Client events ≡ Took (Data 1) ∷ [] → seen_at Server events ≡ [] → ⊥
nothing_sent [] all client server = absurd (cc)
nothing_sent (s ∷ events) all client server = by s.place s.it all.0 client server where
  by : (e : End) (d : Deed) → IsOpen (seen_at (other_end e) events) d → seen_at Client (did e d ∷ events) ≡ Took (Data 1) ∷ [] → seen_at Server (did e d ∷ events) ≡ [] → ⊥
  by Client d now x y = let is : d ≡ Took (Data 1) = cc in contains_none (Sent (Data 1)) (subst (λ h. IsOpen h (Took (Data 1))) y (subst (IsOpen (seen_at Server events)) is now))
  by Server d now x y = absurd (cc)

-- each waits for the other
open_later : (d e : Deed) (h : History) → IsOpen h d → IsOpen (e ∷ h) d
open_later (Sent p) e h now = tt
open_later (Took p) e h now = contains_later e h (Sent p) now

waits : (p q : MachinePacket) → IsShutAt IsOpen [] (Sent p ∷ Took q ∷ []) []
waits p q x more now = elim more [
  | inl same ↦ absurd (cc)
  | inr before ↦ elim before [ inl same ↦ let is : x ≡ Took q = cc in contains_none (Sent q) (subst (IsOpen []) is now) | inr none ↦ absurd (cc) ]
]

neither : AreMerged (Sent (Data 1) ∷ Took (Ack 0) ∷ []) (Sent (Ack 0) ∷ Took (Data 1) ∷ []) → ⊥
neither merged =
    let client : History = Sent (Data 1) ∷ Took (Ack 0) ∷ [] in
    let server : History = Sent (Ack 0) ∷ Took (Data 1) ∷ [] in
    let low = no_longer IsOpen open_later [] [] client server (inr (inr refl)) (inr (inr refl)) (waits (Data 1) (Ack 0)) (waits (Ack 0) (Data 1)) client server merged (earlier_all client) (earlier_all server) in
    omega (arith, low.0)

pub returns : goal.returns
returns c = record {
  brought = (last (Data 1) [], (tt, tt));
  too_early = λ all. contains_none (Sent (Data 1)) all.1.0;
  its_own = λ all. contains_none (Sent (Data 1)) all.0;
  lost = record { events = did Server (Sent (Data 1)) ∷ []; open_each = (tt, tt); client_list = refl; server_list = refl };
  repeated = record {
    events = did Client (Took (Data 1)) ∷ did Client (Took (Data 1)) ∷ did Server (Sent (Data 1)) ∷ [];
    open_each = (last (Data 1) [], (last (Data 1) [], (tt, tt)));
    client_list = refl;
    server_list = refl;
  };
  reordered = record {
    events = did Client (Took (Data 1)) ∷ did Client (Took (Data 2)) ∷ did Server (Sent (Data 2)) ∷ did Server (Sent (Data 1)) ∷ [];
    open_each = (contains_later (Sent (Data 2)) (Sent (Data 1) ∷ []) (Sent (Data 1)) (last (Data 1) []), (last (Data 2) (Sent (Data 1) ∷ []), (tt, (tt, tt))));
    client_list = refl;
    server_list = refl;
  };
  unsent = λ merged. nothing_sent merged.events merged.open_each merged.client_list merged.server_list;
  neither_first = neither;
}
