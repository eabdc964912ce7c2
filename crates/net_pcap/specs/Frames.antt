-- What a recording says of one frame.
use Rattle.std.specs.Prelude.{ℕ, Bool, false, List, [], Option, None}
use Rattle.net_pcap.specs.declared.frame.Direction.TheVariants.{Unknown}
use Rattle.std.specs.List.{slice_range}
use Rattle.net_pcap.specs.declared.frame.Direction.{Direction}
use Rattle.net_pcap.specs.declared.place.Place.{Place}

-- the section of the recording and the number of the interface in it, both 0 in a classic recording; the link type; the
-- nanoseconds since 1970; which way it went; whether it was received with an error; how many packets were lost before it; how
-- many bytes it had; and those that were kept
pub record FrameParts : Type 0 where
  pub section : ℕ
  pub interface : ℕ
  pub link : ℕ
  pub time : Option ℕ
  pub direction : Direction
  pub damaged : Bool
  pub missed : ℕ
  pub original : ℕ
  pub bytes : List ℕ

-- the most bytes of a frame
abbrev pub longest_frame : ℕ
longest_frame = 262144

-- the frame that lies at a place in some bytes
abbrev pub frame_at : Place → List ℕ → FrameParts
frame_at p bytes = record { section = p.section; interface = p.interface; link = p.link; time = p.time; direction = p.direction; damaged = p.damaged; missed = p.missed; original = p.original; bytes = slice_range bytes p.start p.end }

-- a frame as a reader fills it: its number, what it says, and how many bytes there is room for
pub record FrameState : Type 0 where
  pub number : ℕ
  pub parts : FrameParts
  pub room : ℕ

abbrev pub no_frame : FrameParts
no_frame = record { section = 0; interface = 0; link = 0; time = None; direction = Unknown; damaged = false; missed = 0; original = 0; bytes = [] }
