-- What a mender keeps, and for which datagrams that stands. The lists have the newest first.
use Rattle.std.specs.Prelude.{◌≡◌, ℕ, Bool, false, List, length}
use Rattle.tftp_packet.specs.Hosts.{Datagram, Header}
use Rattle.tftp_judge.specs.{IsJudgeAfter, Judge, Refusal}
use Rattle.tftp_judge.specs.declared.refusal.Refusal.TheVariants as refusal
use Rattle.judge_losses.specs.Places.{Fills}
use Rattle.judge_losses.specs.declared.place.Place.{Place}
use Rattle.judge_losses.specs.declared.unmended.Unmended.{Unmended}
use Rattle.judge_losses.specs.declared.unmended.Unmended.TheVariants.{Unexplained, Memory}

-- why no missing datagrams are told where one is refused so
abbrev pub unmended_by : Refusal → Unmended
unmended_by (refusal.Memory count) = Memory
unmended_by _ = Unexplained

pub record Mender : Type 0 where
  pub judge : Judge
  pub places : List Place
  pub recorded : ℕ
  pub gave_up : Bool

-- The mender stands for these datagrams: its judge has accepted them, with what was put in at its places.
pub record IsMended (m : Mender) (h : Header) (recorded : List Datagram) : Type 0 where
  pub all : List Datagram
  pub judged : IsJudgeAfter m.judge h all
  pub filled : Fills m.places all recorded
  pub count : m.recorded ≡ length recorded
  pub goes_on : m.gave_up ≡ false
