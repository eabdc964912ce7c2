-- What is no tunnel over UDP, and what is one.
use Rattle.std.proofs.Common.{◌≡◌, ◌&&◌, ◌||◌, ◌==◌, ◌≤◌, not, ℕ, nat_le, Bool, true, false, List, ◌∷◌, length, refl, ap, ◌∙◌, arith, Some, None}
use Rattle.net_udp.specs.Frames.{Linked, Reached, at, held_of, is_opened, is_over_udp, is_tunnel, pair, payload_of}
use Rattle.std.specs.Option.{is_some}
use Rattle.net_udp.specs.Frames.OverUdp.{is_geneve, is_vxlan}
use Rattle.net_udp.specs.declared.frames.link.Network.{Network}
use Rattle.net_udp.specs.declared.frames.link.Network.TheVariants.{Ipv4}
use Rattle.net_udp.specs.declared.frames.packet.Direction.TheVariants.{Unknown}

-- a packet of IP, with what the link says of it
abbrev pub of_ip : Network → List ℕ → Linked
of_ip network bytes = record { direction = Unknown; network = Some network; content = bytes }

-- what a whole packet of IPv4 carries
abbrev pub carried : List ℕ → Reached
carried bytes = record { protocol = at bytes 9; fragment = None; content = held_of Ipv4 bytes }

-- ---- a packet of TFTP is none

no_vxlan : (code : ℕ) (rest : List ℕ) → is_vxlan (0 ∷ code ∷ rest) ≡ false
no_vxlan code rest = grind arith

no_geneve : (code : ℕ) (rest : List ℕ) → 1 ≤ code → code ≤ 6 → is_geneve (0 ∷ code ∷ rest) ≡ false
no_geneve code rest some few = grind (arith, some, few)

neither : (long one other vxlan geneve : Bool) → vxlan ≡ false → geneve ≡ false → (long && ((one && vxlan) || (other && geneve))) ≡ false
neither false one other vxlan geneve p q = refl
neither true false false vxlan geneve p q = refl
neither true false true vxlan geneve p q = q
neither true true false false geneve p q = refl
neither true true false true geneve p q = p
neither true true true false geneve p q = q
neither true true true true geneve p q = p

pub opens_none : (bytes rest : List ℕ) (code : ℕ) → payload_of bytes ≡ 0 ∷ code ∷ rest → 1 ≤ code → code ≤ 6 → is_over_udp bytes ≡ false
opens_none bytes rest code is some few =
    neither (nat_le 8 (length bytes)) (pair bytes 2 == 4789) (pair bytes 2 == 6081) (is_vxlan (payload_of bytes)) (is_geneve (payload_of bytes))
    (ap is_vxlan is ∙ no_vxlan code rest) (ap is_geneve is ∙ no_geneve code rest some few)

either_of : (tunnel of_udp whole opens : Bool) → tunnel ≡ false → opens ≡ false → (tunnel || (of_udp && whole && opens)) ≡ false
either_of false false whole opens p q = refl
either_of false true false opens p q = refl
either_of false true true opens p q = q
either_of true of_udp whole opens p q = p

pub opens_none_in : (r : Reached) (rest : List ℕ) (code : ℕ) → r.protocol ≡ 17 → payload_of r.content ≡ 0 ∷ code ∷ rest → 1 ≤ code → code ≤ 6 → is_opened r ≡ false
opens_none_in r rest code udp is some few =
    either_of (is_tunnel r.protocol) (r.protocol == 17) (not (is_some r.fragment)) (is_over_udp r.content) (ap is_tunnel udp) (opens_none r.content rest code is some few)
