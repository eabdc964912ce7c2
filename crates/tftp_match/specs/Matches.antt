-- What a call does that matches two files, however it ends.
use Rattle.std.specs.Prelude.{◌≡◌, ◌⊎◌, ℕ, Bool, true, false, List, Option, Result, Ok, Err}
use Rattle.net_streams.specs.Streams.{Sink, Stops, Wrote}
use Rattle.tftp_packet.specs.Hosts.{Datagram}
use Rattle.tftp_rows.specs.declared.remarks.Remarks.{Remarks}
use Rattle.tftp_match.specs.Copies.{HavePassed, told_copies}
use Rattle.tftp_match.specs.Matching.{IsSaidOfFiles, IsTold, IsToldOfFiles, IsUnsaidOfFiles}
use Rattle.tftp_match.specs.Saying.{printed}
use Rattle.tftp_match.specs.Status.{status_of}
use Rattle.tftp_match.specs.declared.copies.Copies.{Copies}
use Rattle.tftp_match.specs.declared.faults.MatchFault.{MatchFault}
use Rattle.tftp_match.specs.declared.faults.MatchFault.TheVariants.{Alloc, Memory, Output, Uncounted}
use Rattle.tftp_match.specs.declared.judging.Matching.{Matching}
use Rattle.tftp_match.specs.declared.objects.Captured.{Captured}
use Rattle.tftp_match.specs.declared.unread.UnreadFault.{UnreadFault}
use Rattle.tftp_words.specs.declared.match_request.MatchRequest.{MatchRequest}

-- ---- what is written of two captures of which this is said

module _ {W : Type 0} (contents : W → Option (List ℕ)) (r : MatchRequest) (m : Matching) (old new : Sink W) where
  -- It is the text; where copies are wanted, those of what was counted are told.
  pub record IsTextOf (text : List ℕ) : Type 0 where
    pub copies : Option (List Copies)
    pub counted : (client server : List Datagram) → HavePassed m.said client server → copies ≡ told_copies r.counts m.said client server
    pub is : text ≡ printed r.json (record { file = r.client; number = m.client }) (record { file = r.server; number = m.server }) m.said copies

  -- The text was written, and this is the status; or a write failed, and a part of it was; or memory ran out, and nothing was.
  abbrev pub SaysMatching : Result ℕ MatchFault → Type 0
  SaysMatching (Ok status) = (text : List ℕ) × IsTextOf text × Wrote contents old new text × (status ≡ status_of m.said)
  SaysMatching (Err Output) = (text : List ℕ) × IsTextOf text × Stops contents old new text
  SaysMatching (Err Memory) = new ≡ old
  SaysMatching (Err Uncounted) = new ≡ old
  SaysMatching (Err (Alloc e)) = new ≡ old
  SaysMatching (Err fault) = ⊥

-- ---- of two files, of which `holds` says what they hold, and `opens` which are known to open; `AreWords` says which words tell a fault of one

module _ {W E : Type 0} (contents : W → Option (List ℕ)) (errors : E → Option (List ℕ)) (AreWords : UnreadFault → List ℕ → Type 0) (opens : List ℕ → Bool) (holds : List ℕ → Option (List ℕ)) (r : MatchRequest) (old new : Sink W) (remarks told : Remarks E) where
  abbrev pub before : Option (List ℕ)
  before = errors remarks.errors.0

  abbrev pub after : Option (List ℕ)
  after = errors told.errors.0

  -- This is said of their captures, and nothing else is told.
  abbrev pub IsSaidOfNamed : Matching → Type 0
  IsSaidOfNamed = IsSaidOfFiles r remarks.program.now (holds r.client.now) (holds r.server.now) before after

  -- Nothing is said of them, and that is told: one does not open, or their captures are not judged.
  pub data IsToldOfNamed : Type 0 where
    client_unopened : opens r.client.now ≡ false → IsTold remarks.program.now r.client.now before after → IsToldOfNamed
    server_unopened : opens r.server.now ≡ false → IsTold remarks.program.now r.server.now before after → IsToldOfNamed
    unsaid : IsToldOfFiles AreWords r remarks.program.now (holds r.client.now) (holds r.server.now) before after → IsToldOfNamed

  -- What the call does.
  abbrev pub MatchesFiles : Result ℕ MatchFault → Type 0
  MatchesFiles (Ok status) = ((m : Matching) × IsSaidOfNamed m × SaysMatching contents r m old new (Ok status)) ⊎ ((status ≡ 2) × (new ≡ old) × IsToldOfNamed)
  MatchesFiles (Err fault) = ((m : Matching) × IsSaidOfNamed m × SaysMatching contents r m old new (Err fault)) ⊎ ((new ≡ old) × IsUnsaidOfFiles r (holds r.client.now) (holds r.server.now) told.errors.1 fault)
