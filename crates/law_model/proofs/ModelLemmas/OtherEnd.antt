-- The other end, and the steps of one end.
use Rattle.std.proofs.Common.{◌≡◌, List, ◌∷◌, refl}
use Rattle.tftp_packet.specs.{Side, Get, Put, End, Client, Server}
use Rattle.law_model.specs.Model.Machines.{other_end, sender_of, receiver_of}
use Rattle.law_model.specs.Model.{Deed, Step, view_of}

-- ---- the two ends

pub other_other : (e : End) → other_end (other_end e) ≡ e
other_other Client = refl
other_other Server = refl

pub sender_other : (e : End) (side : Side) → other_end e ≡ sender_of side → e ≡ receiver_of side
sender_other Client Put is = absurd (cc)
sender_other Server Get is = absurd (cc)
sender_other _ _ is = refl

pub receiver_other : (e : End) (side : Side) → other_end e ≡ receiver_of side → e ≡ sender_of side
receiver_other Client Put is = refl
receiver_other Server Get is = refl
receiver_other _ _ is = absurd (cc)

pub other_sends : (side : Side) → other_end (receiver_of side) ≡ sender_of side
other_sends Get = refl
other_sends Put = refl

pub other_receives : (side : Side) → other_end (sender_of side) ≡ receiver_of side
other_receives Get = refl
other_receives Put = refl

pub client_other : (e : End) → other_end e ≡ Client → e ≡ Server
client_other Client is = absurd (cc)
client_other Server is = refl

pub server_other : (e : End) → other_end e ≡ Server → e ≡ Client
server_other Client is = refl
server_other Server is = absurd (cc)

-- ---- steps of one end

abbrev pub by_own : End → Deed → List Step → List Step
by_own e d steps = record { actor = e; deed = d } ∷ steps

abbrev pub by_other : End → Deed → List Step → List Step
by_other e d steps = record { actor = other_end e; deed = d } ∷ steps

pub own_view : (e : End) (d : Deed) (steps : List Step) → view_of e (by_own e d steps) ≡ d ∷ view_of e steps
own_view Client d steps = refl
own_view Server d steps = refl

pub other_view : (e : End) (d : Deed) (steps : List Step) → view_of e (by_other e d steps) ≡ view_of e steps
other_view Client d steps = refl
other_view Server d steps = refl

pub hidden_view : (e : End) (d : Deed) (steps : List Step) → view_of (other_end e) (by_own e d steps) ≡ view_of (other_end e) steps
hidden_view Client d steps = refl
hidden_view Server d steps = refl
