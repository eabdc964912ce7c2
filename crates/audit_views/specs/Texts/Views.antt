-- The capture text of what an end of a transfer saw. Lists of placed datagrams have the newest first.
use Rattle.std.specs.Prelude.{◌≡◌, ℕ, Bool, List, [], ◌∷◌, All, filter, flat_map, map, reverse, if◌then◌else◌}
use Rattle.tftp_packet.specs.{Dir}
use Rattle.tftp_packet.specs.{End, Client, Server}
use Rattle.tftp_capture.specs.CaptureText.{Datagram, Header}
use Rattle.tftp_capture.specs.{Entry, commented_text, said_in}
use Rattle.tftp_capture.specs.Commented.Entry.{Comment, Passed}
use Rattle.audit_flows.specs.Lines.{Placed, is_of}
use Rattle.audit_flows.specs.{Transfer}
use Rattle.audit_flows.specs.Transfers.{is_at_server}
use Rattle.audit_views.specs.Texts.Comments.{IsComment, Worded, placed_in}
use Rattle.audit_views.specs.Views.{Naming, captured, client_header, server_header, way_at_client, way_at_server}

-- of the transfer with this number the datagram is in the end's view
abbrev pub is_seen : End → ℕ → List Placed → Placed → Bool
is_seen Client n whole p = is_of n p
is_seen Server n whole p = is_at_server n whole p

-- which way it went there
abbrev pub way_at : End → Transfer → List Placed → Placed → Dir
way_at Client x whole p = way_at_client x p
way_at Server x whole p = way_at_server x whole p

abbrev pub captured_at : End → Naming → Transfer → List Placed → Placed → Datagram
captured_at end name x whole p = captured name (way_at end x whole p) p.datagram

-- Of a part of the whole, what the end saw, as its capture has it.
abbrev pub capture_at : End → Naming → Transfer → List Placed → List Placed → List Datagram
capture_at end name x whole part = map (captured_at end name x whole) (filter (is_seen end x.number whole) part)

abbrev pub header_at : End → Transfer → Header
header_at Client x = client_header x
header_at Server x = server_header x

-- ---- texts

abbrev pub HasComment : Entry → Type 0
HasComment (Comment words) = IsComment words
HasComment (Passed d) = Unit {0}

-- A text of version 2, with comments, of these datagrams, the newest first.
pub record IsTextOf (text : List ℕ) (h : Header) (given : List Datagram) : Type 0 where
  pub entries : List Entry
  pub are : text ≡ commented_text h entries
  pub says : said_in entries ≡ reverse given
  pub comments : All HasComment entries

-- ---- the exact text

-- a datagram that the end saw, behind its comment; nothing of one that it did not see
abbrev pub entries_of : End → Naming → Transfer → List Placed → Worded → List Entry
entries_of end name x whole w = if is_seen end x.number whole w.placed then Comment w.words ∷ Passed (captured_at end name x whole w.placed) ∷ [] else []

-- those of a part of the whole, one after another
abbrev pub entries_at : End → Naming → Transfer → List Placed → List Worded → List Entry
entries_at end name x whole part = flat_map (entries_of end name x whole) part

-- The text of an end: its header, a comment, and of all datagrams those that the end saw, the oldest first, each behind the comment
-- that it was noted with.
abbrev pub text_at : End → Naming → Transfer → List ℕ → List Worded → List ℕ
text_at end name x heading worded =
    commented_text (header_at end x) (Comment heading ∷ entries_at end name x (placed_in worded) (reverse worded))
