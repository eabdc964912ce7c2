-- Pairs of captures and transfers, of which the worked examples say what there is to say.
use Rattle.std.specs.Prelude.{◌≡◌, ◌++◌, ◌∷◌, [], ℕ, Bool, List, Option, Some, None, Result, Err, codes}
use Rattle.tftp_packet.specs.{End}
use Rattle.tftp_judge.specs.{Verdict}
use Rattle.judge_pair.specs.{Apart, Carried, Wait}
use Rattle.judge_pair.specs.declared.judge.matched.Matched.{Matched}
use Rattle.judge_pair.specs.declared.match_texts.said.PairSaid.{PairSaid}
use Rattle.judge_pair.specs.declared.counts.packets.CountedPacket.{CountedPacket}
use Rattle.audit_recording.specs.declared.session.requests.Asked.{Asked}
use Rattle.tftp_match.specs.{Captured, Tried}
use Rattle.tftp_match.specs.declared.copies.Copies.{Copies}

-- of a client's capture n datagrams are lawful and i matched, of a server's k and j, and the first of each behind them waits for this
abbrev pub numbers : ℕ → ℕ → Option Wait → ℕ → ℕ → Option Wait → Option Carried → Matched
numbers n i why k j other_why carried = record {
  client_lawful = n;
  server_lawful = k;
  client_matched = i;
  server_matched = j;
  client_why = why;
  server_why = other_why;
  client_counts = None;
  server_counts = None;
  carried = carried;
}

-- this is said of a client's capture and of a server's, and of both
abbrev pub said : Verdict → Verdict → Result Matched Apart → PairSaid
said client server together = record { client = Err client; server = Err server; together = together }

-- the client's transfer with this number was tried with the server's with that one
abbrev pub tried : ℕ → ℕ → Bool → Tried
tried client server is_matched = record { client = client; server = server; is_matched = is_matched }

-- this packet of an end was sent there so often, and taken at the other end so often
abbrev pub counted : End → CountedPacket → ℕ → ℕ → Copies
counted from packet sent taken = record { from = from; packet = packet; sent = sent; taken = taken }

-- the captures are of these files, the client's is a text and the server's the second transfer of a recording
pub record AreNamed (client server : Captured) : Type 0 where
  pub client_file : client.file.now ≡ codes "a"
  pub client_number : client.number ≡ None
  pub server_file : server.file.now ≡ codes "b"
  pub server_number : server.number ≡ Some 2

-- a transfer with this number, whose request reads the file of this name
pub record Asks (t : Asked) (number : ℕ) (name : List ℕ) : Type 0 where
  pub is_number : t.number ≡ number
  pub payload : t.payload.now ≡ 0 ∷ 1 ∷ name ++ 0 ∷ codes "octet" ++ 0 ∷ []
