-- What is told of a transfer's times is that of its pace.
use Rattle.std.proofs.Common.{◌≡◌, ℕ, List, Option, sym}
use Rattle.audit_flows.specs.{Transfer}
use Rattle.audit_recording.specs.Blame.Frames.{Framed}
use Rattle.audit_recording.specs.Endings.Pace.{IsPaceOf}
use Rattle.audit_recording.specs.Endings.Told.{last_word}
use Rattle.audit_recording.specs.declared.blame.closing.Word.{Word}
use Rattle.audit_recording.specs.declared.blame.pace.Pace.{Pace}
use Rattle.tftp_rows.specs.Times.{AreTimesIn, lasted, rate}
use Rattle.tftp_rows.specs.declared.times.Times.{Times}

pub times_of_pace : (pace : Pace) (t : Times) (x : Transfer) (bytes : Option ℕ) (view : List Framed) (last : Option Word) → IsPaceOf pace x view → last ≡ last_word x view
    → t.nanoseconds ≡ lasted pace.began last → t.bytes_per_second ≡ rate bytes t.nanoseconds
    → t.repeats.client ≡ pace.client.count → t.repeats.server ≡ pace.server.count → t.silence ≡ pace.silence → AreTimesIn t x bytes view
times_of_pace pace t x bytes view last p l n b client server silence = record {
  nanoseconds = rw (sym p.began) (rw (sym l) n);
  bytes_per_second = b;
  repeats_of_client = rw (sym p.repeats_of_client) client;
  repeats_of_server = rw (sym p.repeats_of_server) server;
  silence = rw (sym p.silence) silence;
}
