-- What it means that a refusal stands whatever datagrams were missed. Lists have the newest first.
use Rattle.std.specs.Prelude.{◌≡◌, ℕ, ◌+◌, List, ◌∷◌, ◌++◌, length, reverse}
use Rattle.tftp_packet.specs.Hosts.{Datagram, Header}
use Rattle.law_tap.specs.{TapDatagram, IsCertain, IsCertainBetween}
use Rattle.judge_tap.specs.{HasBegun, IsNotCertain}
use Rattle.audit_flows.specs.Lines.{Placed}
use Rattle.audit_flows.specs.{Transfer}
use Rattle.audit_recording.specs.Between.{between_capture, sides_of}

-- The datagram of this number among those that passed between the ends, counted from 1, and those before it.
pub record IsNumbered (x : Transfer) (whole : List Placed) (number : ℕ) (earlier : List TapDatagram) (d : TapDatagram) : Type 0 where
  pub later : List TapDatagram
  pub are : between_capture x whole ≡ later ++ d ∷ earlier
  pub number_is : number ≡ length earlier + 1

-- No lawful list has it after those before it, however many more it has.
abbrev pub IsCertainAt : Transfer → List Placed → ℕ → Type 0
IsCertainAt x whole number = (earlier : List TapDatagram) × (d : TapDatagram) × IsNumbered x whole number earlier d × IsCertainBetween (sides_of x whole) earlier d

-- That is not so, where what was recorded of the transfer begins with its request.
abbrev pub IsOpenAt : Transfer → List Placed → ℕ → Type 0
IsOpenAt x whole number =
    (earlier : List TapDatagram) × (d : TapDatagram) × IsNumbered x whole number earlier d
    × (HasBegun (sides_of x whole) (d ∷ earlier) → IsNotCertain (sides_of x whole) earlier d)

-- At an end, of what was captured there: no lawful list has the datagram of this number, counted from 1, and those before it, however
-- many more it has.
abbrev pub IsCertainAtEnd : Header → List Datagram → ℕ → Type 0
IsCertainAtEnd h captured number = (i : ℕ) × (number ≡ i + 1) × IsCertain h (reverse captured) i
