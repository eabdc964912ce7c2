-- What of all that passed a tap the receiver of the file is judged by, in the order in which it passed. Lists have the newest
-- first.
use Rattle.std.specs.Prelude.{◌≡◌, ◌⊎◌, ◌&&◌, ◌||◌, not, ℕ, Bool, true, false, List, [], ◌∷◌, Contains, if◌then◌else◌}
use Rattle.std.specs.List.{list_any}
use Rattle.tftp_packet.specs.{End, Client, Server, Side, Get, Put}
use Rattle.law_model.specs.Model.{Meaning, MachinePacket, Req, Oack, Data, Ack, Error, is_error}
use Rattle.law_tap.specs.Tap.{Pass, MayPass}

-- what is asked of one that passed: whether it is the client's request, whether the server's, and whose ERROR it is
pub record Tests (X : Type 0) : Type 0 where
  pub asks : X → Bool
  pub answers : X → Bool
  pub ends : End → X → Bool

-- A request after the first one, an ERROR of the receiver, and an ERROR of the client before anything is kept of the server's
-- say nothing of the rest: they may have passed earlier or later than they were sent.
abbrev pub is_left_out : {X : Type 0} → Tests X → End → X → List X → Bool
is_left_out t receiver x kept = (t.asks x && list_any t.asks kept) || (t.ends receiver x || (t.ends Client x && not (list_any t.answers kept)))

abbrev pub kept_of : {X : Type 0} → Tests X → End → List X → List X
kept_of t receiver [] = []
kept_of t receiver (x ∷ earlier) = if is_left_out t receiver x (kept_of t receiver earlier) then kept_of t receiver earlier else x ∷ kept_of t receiver earlier

-- what passed before the first ERROR of this end passed
abbrev pub before_error : {X : Type 0} → Tests X → End → List X → List X
before_error t e [] = []
before_error t e (x ∷ earlier) = if list_any (t.ends e) (x ∷ earlier) then before_error t e earlier else x ∷ earlier

-- ---- of packets

abbrev pub same_end : End → End → Bool
same_end Client Client = true
same_end Client Server = false
same_end Server Client = false
same_end Server Server = true

abbrev pub is_request : MachinePacket → Bool
is_request Req = true
is_request _ = false

abbrev pub pass_tests : Tests Pass
pass_tests = record {
  asks = λ x. same_end Client x.from && is_request x.packet;
  answers = λ x. same_end Server x.from;
  ends = λ e x. same_end e x.from && is_error x.packet;
}

abbrev pub kept_at : End → List Pass → List Pass
kept_at receiver passed = kept_of pass_tests receiver passed

-- What the receiver's order of sending does not tell. On a write a block answers an OACK or ACK 0 that passed before the
-- client's first ERROR. An ACK and an ERROR are judged by all that passed, since some of it is left out above.
abbrev pub IsAnsweredInTime : Side → List Pass → Type 0
IsAnsweredInTime Get earlier = Unit {0}
IsAnsweredInTime Put earlier =
    Contains (before_error pass_tests Client earlier) (record { from = Server; packet = Oack })
    ⊎ Contains (before_error pass_tests Client earlier) (record { from = Server; packet = Ack 0 })

abbrev pub IsInTime : Meaning → List ℕ → List Pass → End → MachinePacket → Type 0
IsInTime m wire earlier e Req = e ≡ Client
IsInTime m wire earlier e Oack = Unit {0}
IsInTime m wire earlier e (Data k) = IsAnsweredInTime m.side earlier
IsInTime m wire earlier e (Ack j) = MayPass m wire earlier e (Ack j)
IsInTime m wire earlier e (Error code text) = MayPass m wire earlier e (Error code text)

abbrev pub AreInTime : Meaning → List ℕ → List Pass → Type 0
AreInTime m wire [] = Unit {0}
AreInTime m wire (x ∷ earlier) = IsInTime m wire earlier x.from x.packet × AreInTime m wire earlier
