-- The other host, by the bytes that name it.
use Rattle.std.specs.Prelude.{◌≡◌, ℕ, ◌-◌, ◌≤◌, List, ◌++◌, length, take, replicate, codes}
use Rattle.std.proofs.Common.{sym, ap, ◌∙◌}
use Rattle.std.specs.List.{AllByRecursion}
use Rattle.tftp_packet.specs.declared.hosts.host.Host.TheInside.{Inside}

-- an ASCII sign that is seen: any but space (RFC 20, section 4)
abbrev pub IsSign : ℕ → Type 0
IsSign b = (33 ≤ b) × (b ≤ 126)

-- the bytes name a host: 1 to 45 signs, so that each address fits that is written in text (RFC 4291, section 2.2)
pub record IsHost (bytes : List ℕ) : Type 0 where
  pub some : 1 ≤ length bytes
  pub few : length bytes ≤ 45
  pub signs : AllByRecursion IsSign bytes

-- the host that stands where none is named
abbrev pub no_host : List ℕ
no_host = codes "-"

-- ---- how a host is held

-- the bytes, and zeros up to 45
abbrev pub padded : List ℕ → List ℕ
padded bytes = bytes ++ replicate (45 - length bytes) 0

abbrev pub held_bytes : Inside → List ℕ
held_bytes h = take h.len h.bytes

-- a host's bytes are held, and zeros after them
pub record Holds (h : Inside) : Type 0 where
  pub host : IsHost (held_bytes h)
  pub sized : length (held_bytes h) ≡ h.len
  pub rest : h.bytes ≡ padded (held_bytes h)

-- how the bytes of a host are held
abbrev pub held_as : List ℕ → Inside
held_as bytes = record { bytes = padded bytes; len = length bytes }

-- a host's bytes are held in one way
pub held_again : (h : Inside) → Holds h → held_as (held_bytes h) ≡ h
held_again h p = ap (λ bytes. record { bytes = bytes; len = length (held_bytes h) }) (sym p.rest) ∙ ap (λ len. record { bytes = h.bytes; len = len }) p.sized
