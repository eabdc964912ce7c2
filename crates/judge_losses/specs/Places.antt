-- Which datagrams must be missing: where they are put in, and which way they went. The lists of `Fills` have the newest datagram and
-- the last place first.
use Rattle.std.specs.Prelude.{◌≡◌, ◌≢◌, ℕ, ◌+◌, List, [], ◌∷◌, ◌++◌, length, reverse}
use Rattle.tftp_packet.specs.Hosts.{Datagram, Header}
use Rattle.tftp_packet.specs.{Dir, In, Out}
use Rattle.law_end.specs.{IsLawful}
use Rattle.judge_losses.specs.declared.place.Place.{Place}

-- 1 where the two ways are one
abbrev pub one_if_same : Dir → Dir → ℕ
one_if_same In In = 1
one_if_same Out Out = 1
one_if_same In Out = 0
one_if_same Out In = 0

-- how many of them went this way
abbrev pub going : Dir → List Datagram → ℕ
going way [] = 0
going way (d ∷ datagrams) = one_if_same way d.dir + going way datagrams

-- These are put in at the place: behind so many that were recorded, and before the next one.
pub record IsPlaceOf (place : Place) (recorded : ℕ) (put : List Datagram) : Type 0 where
  pub before : place.before ≡ recorded + 1
  pub some : put ≢ []
  pub came : place.came ≡ going In put
  pub sent : place.sent ≡ going Out put

-- The first list of datagrams is the second one with what is put in at these places, and nowhere else.
pub data Fills : List Place → List Datagram → List Datagram → Type 0 where
  none : Fills [] [] []
  whole : (d : Datagram) (places : List Place) (all recorded : List Datagram) → Fills places all recorded → Fills places (d ∷ all) (d ∷ recorded)
  missing : (d : Datagram) (put : List Datagram) (place : Place) (places : List Place) (all recorded : List Datagram) → Fills places all recorded
      → IsPlaceOf place (length recorded) put → Fills (place ∷ places) (d ∷ put ++ all) (d ∷ recorded)

-- how many are missing at all these places
abbrev pub missing_at : List Place → ℕ
missing_at [] = 0
missing_at (place ∷ places) = place.came + place.sent + missing_at places

-- The datagrams are lawful with some that are put in at these places; here the oldest datagram and the first place come first.
pub record AreMissing (header : Header) (places : List Place) (recorded : List Datagram) : Type 0 where
  pub all : List Datagram
  pub lawful : IsLawful header all
  pub filled : Fills (reverse places) (reverse all) (reverse recorded)
