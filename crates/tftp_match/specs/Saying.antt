-- What is printed of two captures, and what a call does to its writer that prints it.
use Rattle.std.specs.Prelude.{◌≡◌, ℕ, Bool, true, false, List, Option, Result, Ok, Err}
use Rattle.net_streams.specs.Streams.{Sink, Stops, Wrote}
use Rattle.judge_pair.specs.declared.match_texts.said.PairSaid.{PairSaid}
use Rattle.tftp_match.specs.Lines.{all_lines}
use Rattle.tftp_match.specs.Objects.{json_line}
use Rattle.tftp_match.specs.declared.copies.Copies.{Copies}
use Rattle.tftp_match.specs.declared.objects.Captured.{Captured}
use Rattle.tftp_match.specs.declared.saying.SayFault.{SayFault}
use Rattle.tftp_match.specs.declared.saying.SayFault.TheVariants.{Memory, Output}

-- JSON (RFC 8259) where that is asked for, else lines
abbrev pub printed : Bool → Captured → Captured → PairSaid → Option (List Copies) → List ℕ
printed true client server s copies = json_line client server s copies
printed false client server s copies = all_lines s copies

-- However it ends: the text was written; or a write failed, and a part of it was, from its start; or memory ran out, and
-- nothing was.
abbrev pub Says : {W : Type 0} → (W → Option (List ℕ)) → Sink W → Sink W → Result (Unit {0}) SayFault → List ℕ → Type 0
Says contents old new (Ok _) bytes = Wrote contents old new bytes
Says contents old new (Err Output) bytes = Stops contents old new bytes
Says contents old new (Err Memory) bytes = new ≡ old
