-- What a capture gives: its transfers' texts, and how they are numbered where something is told of them.
use Rattle.std.specs.Prelude.{ℕ, List, Option, None, Some, codes}
use Rattle.tftp_packet.specs.{Rollover}
use Rattle.audit_recording.specs.declared.session.fault.TextFault.TheVariants.{Alloc, LongName, NoTransfer, NotWhole}
use Rattle.tftp_match.specs.Choice.{Texts}
use Rattle.tftp_match.specs.declared.texts.LackFault.{LackFault}
use Rattle.tftp_match.specs.declared.texts.LackFault.TheVariants.{Memory, Text}
use Rattle.tftp_match.specs.declared.texts.Text.{Text as Given}
use Rattle.tftp_match.specs.declared.texts.Text.TheVariants.{Kept, Written}

abbrev pub bytes_of : Given → List ℕ
bytes_of (Kept bytes) = bytes.now
bytes_of (Written bytes) = bytes.items

-- the words that tell it, but for a number that no transfer has
abbrev pub lack_words : LackFault → Option (List ℕ)
lack_words Memory = Some (codes "out of memory")
lack_words (Text (Alloc e)) = Some (codes "out of memory")
lack_words (Text (NoTransfer number count)) = None
lack_words (Text NotWhole) = Some (codes "nothing is written, since the recording is not whole")
lack_words (Text LongName) = Some (codes "the file's name is too long for a text")

-- the texts of two captures, as each says which they are
abbrev pub texts_of : Option Rollover → (ℕ → List ℕ → Type 0) → (ℕ → List ℕ → Type 0) → Texts
texts_of rollover client server = record { rollover = rollover; client = client; server = server }
