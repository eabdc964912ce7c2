-- What went on at the two ends, put into one order. `Open other x`: what the other end has done so far lets x be. The network
-- loses, repeats and reorders, and makes nothing up (RFC 1350, section 2). Lists have the newest first.
use Rattle.std.specs.Prelude.{◌≡◌, List, [], ◌∷◌, filter_map, Option, Some, None}
use Rattle.tftp_packet.specs.{End, Client, Server}
use Rattle.law_model.specs.Model.Roles.{other_end}

-- It went on at an end.
pub record Event (X : Type 0) : Type 0 where
  pub place : End
  pub it : X

-- it, where it is that end's
abbrev pub it_at : {X : Type 0} → End → Event X → Option X
it_at {X} e s = by e s.place where
  by : End → End → Option X
  by Client Client = Some s.it
  by Client Server = None
  by Server Client = None
  by Server Server = Some s.it

-- all that went on at an end
abbrev pub seen_at : {X : Type 0} → End → List (Event X) → List X
seen_at e events = filter_map (it_at e) events

-- Each is open by what the other end had done before it.
abbrev pub AreAllOpen : {X : Type 0} → (List X → X → Type 0) → List (Event X) → Type 0
AreAllOpen Open [] = Unit {0}
AreAllOpen Open (s ∷ earlier) = Open (seen_at (other_end s.place) earlier) s.it × AreAllOpen Open earlier

-- the two lists can be put into one order in which each is open
pub record HaveOneOrder {X : Type 0} (Open : List X → X → Type 0) (client server : List X) : Type 0 where
  pub events : List (Event X)
  pub open_each : AreAllOpen Open events
  pub client_list : seen_at Client events ≡ client
  pub server_list : seen_at Server events ≡ server
