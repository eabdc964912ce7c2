-- A classic recording says of no packet that it was lost.
use Rattle.std.proofs.Common.{◌≡◌, ℕ, false, List, Option, Some, None}
use Rattle.net_pcap.specs.{BeginsAsClassic, FrameParts, PcapFault, StandsFor as Frames, lost_of, may_lose}
use Rattle.net_pcap.proofs.Lossless.{begins_as_classic, classic_loses_none}
use Rattle.net_udp.specs.Recording.{RecordingState, RefusedTells, StandsFor, Step}

-- the frames that its reader of frames gave
frames_given : (refused : Option PcapFault) (r : RecordingState) (bytes : List ℕ) (history : List Step) → RefusedTells refused r bytes history → (frames : List FrameParts) × Frames r.frames bytes frames
frames_given None r bytes history tells = (_, tells.0)
frames_given (Some fault) r bytes history tells = (_, tells.1)

module _ (reader : RecordingState) (bytes : List ℕ) (history : List Step) (stands : StandsFor reader bytes history) where
  given : (frames : List FrameParts) × Frames reader.frames bytes frames
  given = frames_given reader.refused reader bytes history stands.1

  pub begins_lossless : may_lose reader.frames.pieces.mode.layout ≡ false → BeginsAsClassic bytes
  begins_lossless quiet = begins_as_classic reader.frames bytes given.0 given.1 quiet

  pub lost_none : BeginsAsClassic bytes → lost_of reader.frames.pieces.mode ≡ 0
  lost_none classic = classic_loses_none reader.frames bytes given.0 given.1 classic
