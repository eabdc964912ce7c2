-- A text of version 1 as one of version 2, in which each datagram's host is `-`.
use Rattle.std.specs.Prelude.{ℕ, ◌==◌, ◌||◌, Bool, if◌then◌else◌, List, [], ◌∷◌, map, codes, bytes_eq}
use Rattle.std.specs.List.{slice_split, join_with_byte}
use Rattle.tftp_packet.specs.Hosts.{no_host}
use Rattle.tftp_capture.specs.declared.version.Version.TheVariants.{Two}
use Rattle.tftp_capture.specs.CaptureText.{head_line, pieces}

-- a datagram's line begins with this word
abbrev pub is_way : List ℕ → Bool
is_way word = bytes_eq word (codes "in") || bytes_eq word (codes "out")

-- the four pieces of a datagram's line get `-` as a third, before the other port; other pieces stay
abbrev pub pieces_in_two : List (List ℕ) → List (List ℕ)
pieces_in_two (word ∷ local ∷ remote ∷ digits ∷ []) = if is_way word then (word ∷ local ∷ no_host ∷ remote ∷ digits ∷ []) else (word ∷ local ∷ remote ∷ digits ∷ [])
pieces_in_two ps = ps

abbrev pub line_in_two : List ℕ → List ℕ
line_in_two line = join_with_byte 32 (pieces_in_two (pieces line))

-- the first line is that of version 2
abbrev pub lines_in_two : List (List ℕ) → List (List ℕ)
lines_in_two [] = []
lines_in_two (first ∷ others) = head_line Two ∷ map line_in_two others

-- the text, divided at LF, with its lines as those of version 2
abbrev pub in_version_two : List ℕ → List ℕ
in_version_two text = join_with_byte 10 (lines_in_two (slice_split (λ b. b == 10) text))
