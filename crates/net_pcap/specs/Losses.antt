-- How many packets the recorder says it lost (draft-ietf-opsawg-pcapng, sections 4.3.1 and 4.6).
use Rattle.std.specs.Prelude.{◌+◌, max, ℕ, zero, suc, List, [], ◌∷◌}
use Rattle.net_pcap.specs.Blocks.{capped}
use Rattle.net_pcap.specs.declared.layout.NamedInterface.{NamedInterface}

-- Statistics blocks count since the capture began, so the greatest count of an interface is that of all of them.
abbrev pub with_reported : ℕ → NamedInterface → NamedInterface
with_reported count i = record i { reported = max i.reported count }

-- The counts of packet blocks are of what was lost since the packet before, so they add up.
abbrev pub with_missed : ℕ → NamedInterface → NamedInterface
with_missed count i = record i { missed = capped (i.missed + count) }

-- the interface of that number, changed so
abbrev pub changed : (NamedInterface → NamedInterface) → ℕ → List NamedInterface → List NamedInterface
changed f number [] = []
changed f zero (i ∷ is) = f i ∷ is
changed f (suc number) (i ∷ is) = i ∷ changed f number is

-- Both count the same packets, so that the greater number is how many were lost at an interface at least.
abbrev pub lost_at : NamedInterface → ℕ
lost_at i = max i.reported i.missed

-- at all interfaces of a section
abbrev pub lost_in : List NamedInterface → ℕ
lost_in [] = 0
lost_in (i ∷ is) = lost_at i + lost_in is
