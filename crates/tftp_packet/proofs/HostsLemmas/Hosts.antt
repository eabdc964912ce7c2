-- How the bytes of a host are held.
use Rattle.std.proofs.Common.{◌≡◌, List, ℕ, ◌++◌, length, take, drop, replicate, ap, subst, sym, ◌∙◌}
use Rattle.std.proofs.Math.Seq.{take-append_seam}
use Rattle.std.proofs.lemmas.List.{drop-replicate}
use Rattle.tftp_packet.specs.Hosts.{Holds, IsHost, padded}

-- a host's bytes, written over the first of 45 zeros
pub held : (bytes : List ℕ) → IsHost bytes → Holds (record { bytes = bytes ++ drop (length bytes) (replicate 45 0); len = length bytes })
held bytes h =
    let front : take (length bytes) (bytes ++ drop (length bytes) (replicate 45 0)) ≡ bytes = take-append_seam bytes (drop (length bytes) (replicate 45 0)) in
    record {
      host = subst IsHost (sym front) h;
      sized = ap length front;
      rest = ap (λ zeros. bytes ++ zeros) (drop-replicate (length bytes) 45 0) ∙ ap padded (sym front);
    }
