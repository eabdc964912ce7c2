-- How far two captures are merged while they are read, and what waits. Lists have the newest datagram first.
use Rattle.std.specs.Prelude.{◌≡◌, ℕ, true, List, ◌∷◌, Option, Some, None}
use Rattle.tftp_packet.specs.{Message, Spells}
use Rattle.tftp_packet.specs.Hosts.{Datagram, Header}
use Rattle.tftp_packet.specs.{In, Out}
use Rattle.law_model.specs.Rules.{route_of, is_of_transfer, transfer_of, Passed}
use Rattle.law_pair.specs.{AreMergedBy}
use Rattle.judge_pair.specs.declared.judge.waiting.Wait.{Wait}
use Rattle.judge_pair.specs.declared.judge.waiting.Wait.TheVariants.{Unsent, SentLater}

-- the payload says what one that went out says
abbrev pub WasSent : List ℕ → List Datagram → Type 0
WasSent payload passed = (m : Message) × Spells payload m × Passed Out m passed

-- what is merged, and behind it the datagram that waits
abbrev pub with_held : Option Datagram → List Datagram → List Datagram
with_held None merged = merged
with_held (Some d) merged = d ∷ merged

-- What waits is of the transfer and came in, and the other end has not sent what it says.
abbrev pub Waits : Header → List Datagram → Option Datagram → List Datagram → Type 0
Waits h merged None other = Unit {0}
Waits h merged (Some d) other = (is_of_transfer (route_of h merged d) ≡ true) × (d.dir ≡ In) × (WasSent d.payload other → ⊥)

-- Of the datagrams that were read at one end and at the other, all are merged but the last of an end where it waits.
pub record AreMergedBut (held other_held : Option Datagram) (h : Header) (read : List Datagram) (other_h : Header) (other_read : List Datagram) : Type 0 where
  pub part : List Datagram
  pub other_part : List Datagram
  pub is : read ≡ with_held held part
  pub other_is : other_read ≡ with_held other_held other_part
  pub waits : Waits h part held (transfer_of other_h other_part)
  pub other_waits : Waits other_h other_part other_held (transfer_of h part)
  pub merged : AreMergedBy (transfer_of h part) (transfer_of other_h other_part)

-- what waits goes on exactly if it was sent
abbrev pub IsAskedAgain : Option Datagram → Option Datagram → List Datagram → Type 0
IsAskedAgain None held sent = held ≡ None
IsAskedAgain (Some d) None sent = WasSent d.payload sent
IsAskedAgain (Some d) (Some held) sent = (held ≡ d) × (WasSent d.payload sent → ⊥)

-- why what waits does, where the other end has sent these
abbrev pub IsWaitFor : Option Datagram → List Datagram → Option Wait → Type 0
IsWaitFor None sent why = why ≡ None
IsWaitFor (Some d) sent None = ⊥
IsWaitFor (Some d) sent (Some Unsent) = WasSent d.payload sent → ⊥
IsWaitFor (Some d) sent (Some SentLater) = WasSent d.payload sent
