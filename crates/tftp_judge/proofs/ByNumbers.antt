-- What a text means by a rollover is what some run shows by numbers.
use Rattle.std.proofs.Common.{◌≡◌, ℕ, suc, ◌<◌, inl, inr, List, [], ◌∷◌, subst, sym}
use Rattle.std.specs.List.{AllByRecursion, AllZip}
use Rattle.hex.specs.Hex.{IsBytes}
use Rattle.hex.proofs.HexLemmas.{decode_of-ok}
use Rattle.tftp_capture.specs.{IsCapture, Numbered, SaysDatagram, SpellsPayload, Version}
use Rattle.tftp_packet.specs.Hosts.{Header}
use Rattle.law_rollover.specs.{AreBytes}
use Rattle.tftp_judge.specs.{unnumbered}

all_bytes : (bytes : List ℕ) → IsBytes bytes → AllByRecursion (λ b. b < 256) bytes
all_bytes [] are = tt
all_bytes (b ∷ bytes) are = (are 0, all_bytes bytes (λ i. are (suc i)))

payload_bytes : (digits payload : List ℕ) → SpellsPayload digits payload → AllByRecursion (λ b. b < 256) payload
payload_bytes digits payload (inl none) = subst (λ (p : List ℕ). AllByRecursion (λ b. b < 256) p) (sym none.1) tt
payload_bytes digits payload (inr some) = all_bytes payload (decode_of-ok digits payload some.1).3

said_bytes : (version : Version) (bodies : List (ℕ × List ℕ)) (datagrams : List Numbered) → AllZip (λ line d. (line.0 ≡ d.0) × SaysDatagram version line.1 d.1) bodies datagrams
    → AreBytes (unnumbered datagrams)
said_bytes version [] [] all = tt
said_bytes version (line ∷ bodies) (d ∷ datagrams) all = (payload_bytes all.0.1.digits d.1.payload all.0.1.payload, said_bytes version bodies datagrams all.1)
said_bytes version [] (d ∷ datagrams) all = absurd all
said_bytes version (line ∷ bodies) [] all = tt

-- the payloads that a text says are bytes
pub capture_bytes : (text : List ℕ) (header : Header) (datagrams : List Numbered) → IsCapture text header datagrams → AreBytes (unnumbered datagrams)
capture_bytes text header datagrams (version, lines, stands) = let (before, are, says) = stands.says in said_bytes version says.bodies datagrams says.each
