-- Frames that are lost behind headers that are not read. Lists of frames have the newest first.
use Rattle.std.specs.Prelude.{◌≡◌, ℕ, Bool, List, ◌∷◌, Option, Some, None, filter, map}
use Rattle.std.specs.List.{AllByRecursion}
use Rattle.std.specs.Str.{bytes_eq}
use Rattle.net_udp.specs.Frames.Unread.{header_name}
use Rattle.net_udp.specs.declared.frames.unread.UnreadHeader.{UnreadHeader}
use Rattle.audit_recording.specs.Session.Firsts.{firsts}
use Rattle.audit_recording.specs.Session.Told.{AreFramesOf}
use Rattle.audit_recording.specs.declared.session.behind.Behind.{Behind}

-- a frame, and the header at which its reading ends
pub record Hidden : Type 0 where
  pub header : UnreadHeader
  pub frame : ℕ

abbrev pub hidden_frames : List Hidden → List ℕ
hidden_frames hidden = map (λ h. h.frame) hidden

-- they have one name
abbrev pub same_header : UnreadHeader → UnreadHeader → Bool
same_header one other = bytes_eq (header_name one) (header_name other)

-- the headers, each once, in the order of their first frames
abbrev pub headers_of : List Hidden → List UnreadHeader
headers_of hidden = firsts same_header (map (λ h. h.header) hidden)

-- the frames behind one of them
abbrev pub frames_behind : UnreadHeader → List Hidden → List ℕ
frames_behind header hidden = hidden_frames (filter (λ h. same_header h.header header) hidden)

-- one frame more, where it has such a header
abbrev pub hiding : Option UnreadHeader → ℕ → List Hidden → List Hidden
hiding None frame hidden = hidden
hiding (Some header) frame hidden = record { header = header; frame = frame } ∷ hidden

-- They stand for these frames: for those of each header, in the order of the first ones.
pub record AreBehindOf (b : Behind) (hidden : List Hidden) : Type 0 where
  pub headers : map (λ k. k.header) b.kinds.items ≡ headers_of hidden
  pub frames : AllByRecursion (λ k. AreFramesOf k.frames (frames_behind k.header hidden)) b.kinds.items
