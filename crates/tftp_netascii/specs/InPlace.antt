-- A text that is read where it stands.
use Rattle.std.specs.Prelude.{ℕ, List, ◌++◌, take, drop}
use Rattle.tftp_netascii.specs.Netascii.{file_of}

-- the file of the text: what was written over its beginning, and what the rest of it reads as
abbrev pub file_at : List ℕ → ℕ → ℕ → List ℕ
file_at bytes read written = take written bytes ++ file_of (drop read bytes)
