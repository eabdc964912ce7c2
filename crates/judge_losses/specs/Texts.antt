-- Which datagrams must be missing of a capture text.
use Rattle.std.specs.Prelude.{ℕ, List}
use Rattle.tftp_packet.specs.Hosts.{Header}
use Rattle.tftp_capture.specs.{IsCapture, Numbered}
use Rattle.tftp_judge.specs.{unnumbered}
use Rattle.judge_losses.specs.Places.{AreMissing}
use Rattle.judge_losses.specs.declared.place.Place.{Place}

-- The text is a capture, and these are missing of its datagrams.
abbrev pub AreMissingOf : List ℕ → List Place → Type 0
AreMissingOf text places = (header : Header) × (datagrams : List Numbered) × IsCapture text header datagrams × AreMissing header places (unnumbered datagrams)
