-- The comments of a text, and the datagrams that are noted with one each.
use Rattle.std.specs.Prelude.{ℕ, ◌≤◌, List, length, map}
use Rattle.tftp_capture.specs.{HasNoEnd}
use Rattle.audit_flows.specs.Lines.{Placed}

-- what a comment is: words in one line, which with its sign has at most 131,116 bytes
abbrev pub IsComment : List ℕ → Type 0
IsComment words = HasNoEnd words × (length words ≤ 131114)

-- a datagram of a recording with its place, and the words of the comment with which it is noted
pub record Worded : Type 0 where
  pub placed : Placed
  pub words : List ℕ

abbrev pub placed_in : List Worded → List Placed
placed_in worded = map (λ w. w.placed) worded
