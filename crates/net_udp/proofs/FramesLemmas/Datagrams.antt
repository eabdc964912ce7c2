-- A content is one datagram or has one fault.
use Rattle.std.proofs.Common.{Bool, true, false, if◌then◌else◌, ◌≡◌, ◌≢◌, ◌↔◌, ◌⊎◌, inl, inr, ℕ, ◌-◌, ◌<◌, ◌≤◌, List, length, take, drop, refl, sym, ap, subst, ◌∙◌, arith, None, Result, Ok, Err, IsOkAnd}
use Rattle.std.proofs.lemmas.Bool.{false≢true}
use Rattle.net_udp.specs.Frames.{pair, Reached, ReachesOver, Udp, HasUdp, IsHidden, IsSized, SpellsUdp, HoldsUdp, JudgesUdp, datagram, is_hidden_in, is_over_udp}
use Rattle.net_udp.specs.declared.frames.checksum.Checksum.{Checksum}
use Rattle.net_udp.specs.declared.frames.packet.UdpDatagram.{UdpDatagram}
use Rattle.net_udp.specs.declared.frames.fault.UdpFault.{UdpFault}
use Rattle.net_udp.specs.declared.frames.fault.UdpFault.TheVariants.{Port}
use Rattle.net_udp.specs.declared.frames.fault.UdpFault.TheVariants.{Protocol, Extension, Header, Length}
use Rattle.net_udp.proofs.FramesLemmas.Extensions.{reaches_one}

pub has_one : (protocol : ℕ) (content a b : List ℕ) → HasUdp protocol content a → HasUdp protocol content b → a ≡ b
has_one protocol content a b p q = ap (λ (r : Reached). r.content) (reaches_one protocol content _ _ p.0 q.0)

-- a verdict where the header's checksum is right, and where it is not
pub headed : (is_headed : Bool) (one other wrong : Checksum) → is_headed ≡ true → one ≡ other → one ≡ (if is_headed then other else wrong)
headed true one other wrong right same = same
headed false one other wrong right same = absurd (false≢true right)

pub not_headed : (is_headed : Bool) (one other right : Checksum) → is_headed ≡ false → one ≡ other → one ≡ (if is_headed then right else other)
not_headed true one other right wrong same = absurd (false≢true (sym wrong))
not_headed false one other right wrong same = same

pub udp_one : (protocol : ℕ) (content : List ℕ) (d e : Udp) → SpellsUdp protocol content d → SpellsUdp protocol content e → d ≡ e
udp_one protocol content d e (a, has_a, _, _, _, _, is) (b, has_b, _, _, _, _, as_well) =
    let same = has_one protocol content a b has_a has_b in
    is ∙ ap (λ (bytes : List ℕ). let u : Udp = record { source_port = pair bytes 0; target_port = pair bytes 2; payload = take (pair bytes 4 - 8) (drop 8 bytes) } in u) same ∙ sym as_well

-- how far the bytes of a content are in order: up to which fault
abbrev Upto : UdpFault → List ℕ → Type 0
Upto Protocol bytes = ⊥
Upto Extension bytes = ⊥
Upto Header bytes = length bytes < 8
Upto Length bytes = (8 ≤ length bytes) × ((pair bytes 4 < 8) ⊎ (length bytes < pair bytes 4))
Upto Port bytes = (8 ≤ length bytes) × IsSized bytes × ((pair bytes 0 ≡ 0) ⊎ (pair bytes 2 ≡ 0))

upto : (protocol : ℕ) (content bytes : List ℕ) (f : UdpFault) → HasUdp protocol content bytes → HoldsUdp f protocol content → Upto f bytes
upto protocol content bytes Protocol has none = none.0 bytes has
upto protocol content bytes Extension has hidden = false≢true (sym has.1 ∙ hidden (record { protocol = 17; fragment = None; content = bytes }) has.0)
upto protocol content bytes Header has (b, has_b, short) = subst (Upto Header) (has_one protocol content b bytes has_b has) short
upto protocol content bytes Length has (b, has_b, long, wrong) = subst (Upto Length) (has_one protocol content b bytes has_b has) (long, wrong)
upto protocol content bytes Port has (b, has_b, long, sized, zero) = subst (Upto Port) (has_one protocol content b bytes has_b has) (long, sized, zero)

not_sized : (bytes : List ℕ) → (pair bytes 4 < 8) ⊎ (length bytes < pair bytes 4) → IsSized bytes → ⊥
not_sized bytes (inl small) sized = omega (arith, small, sized.0)
not_sized bytes (inr large) sized = omega (arith, large, sized.1)

pub no_fault : (protocol : ℕ) (content : List ℕ) (d : Udp) (f : UdpFault) → SpellsUdp protocol content d → HoldsUdp f protocol content → ⊥
no_fault protocol content d f (bytes, has, long, sized, source, target, is) h = none f (upto protocol content bytes f has h)
  where
    none : (g : UdpFault) → Upto g bytes → ⊥
    none Protocol k = k
    none Extension k = k
    none Header k = omega (arith, k, long)
    none Length k = not_sized bytes k.1 sized
    none Port (_, _, inl zero) = source zero
    none Port (_, _, inr zero) = target zero

-- a fault says where the bytes of UDP are, unless there are none
upto_one : (bytes : List ℕ) (f g : UdpFault) → Upto f bytes → Upto g bytes → f ≡ g
upto_one bytes Protocol g p q = absurd p
upto_one bytes Extension g p q = absurd p
upto_one bytes f Protocol p q = absurd q
upto_one bytes f Extension p q = absurd q
upto_one bytes Header Header p q = refl
upto_one bytes Header Length p q = absurd (omega (arith, p, q.0))
upto_one bytes Header Port p q = absurd (omega (arith, p, q.0))
upto_one bytes Length Header p q = absurd (omega (arith, q, p.0))
upto_one bytes Length Length p q = refl
upto_one bytes Length Port p q = absurd (not_sized bytes p.1 q.1)
upto_one bytes Port Header p q = absurd (omega (arith, q, p.0))
upto_one bytes Port Length p q = absurd (not_sized bytes q.1 p.1)
upto_one bytes Port Port p q = refl

pub fault_one : (protocol : ℕ) (content : List ℕ) (f g : UdpFault) → HoldsUdp f protocol content → HoldsUdp g protocol content → f ≡ g
fault_one protocol content Protocol Protocol p q = refl
fault_one protocol content Protocol Extension p q = absurd (p.1 q)
fault_one protocol content Protocol Header p q = absurd (p.0 q.0 q.1)
fault_one protocol content Protocol Length p q = absurd (p.0 q.0 q.1)
fault_one protocol content Protocol Port p q = absurd (p.0 q.0 q.1)
fault_one protocol content Extension Protocol p q = absurd (q.1 p)
fault_one protocol content Extension Extension p q = refl
fault_one protocol content Extension Header p q = absurd (upto protocol content q.0 Extension q.1 p)
fault_one protocol content Extension Length p q = absurd (upto protocol content q.0 Extension q.1 p)
fault_one protocol content Extension Port p q = absurd (upto protocol content q.0 Extension q.1 p)
fault_one protocol content Header g p q = upto_one p.0 Header g (upto protocol content p.0 Header p.1 p) (upto protocol content p.0 g p.1 q)
fault_one protocol content Length g p q = upto_one p.0 Length g (upto protocol content p.0 Length p.1 p) (upto protocol content p.0 g p.1 q)
fault_one protocol content Port g p q = upto_one p.0 Port g (upto protocol content p.0 Port p.1 p) (upto protocol content p.0 g p.1 q)

pub only_of : (protocol : ℕ) (content : List ℕ) (r : Result UdpDatagram UdpFault) → JudgesUdp protocol content r → (d : Udp) → SpellsUdp protocol content d → IsOkAnd r (λ found. datagram found ≡ d)
only_of protocol content (Ok found) judged d s = udp_one protocol content (datagram found) d judged s
only_of protocol content (Err f) judged d s = absurd (no_fault protocol content d f s judged)

pub fault_of : (protocol : ℕ) (content : List ℕ) (r : Result UdpDatagram UdpFault) → JudgesUdp protocol content r → (f : UdpFault) → (r ≡ Err f) ↔ HoldsUdp f protocol content
fault_of protocol content (Ok found) judged f = ((λ e. absurd (let x : ⊥ = cc in x)), λ h. absurd (no_fault protocol content (datagram found) f judged h))
fault_of protocol content (Err g) judged f = ((λ e. let same : g ≡ f = cc in subst (λ (x : UdpFault). HoldsUdp x protocol content) same judged), λ h. ap Err (fault_one protocol content g f judged h))

-- what is reached is not UDP, or a fragment of it, or a tunnel over it
pub other_protocol : (protocol : ℕ) (content : List ℕ) (r : Reached) → ReachesOver protocol content r → r.protocol ≢ 17 → (bytes : List ℕ) → HasUdp protocol content bytes → ⊥
other_protocol protocol content r reaches other bytes has = other (ap (λ (x : Reached). x.protocol) (reaches_one protocol content _ _ reaches has.0))

pub is_part_only : (protocol : ℕ) (content : List ℕ) (r : Reached) → ReachesOver protocol content r → r.fragment ≢ None → (bytes : List ℕ) → HasUdp protocol content bytes → ⊥
is_part_only protocol content r reaches part bytes has = part (ap (λ (x : Reached). x.fragment) (reaches_one protocol content _ _ reaches has.0))

pub is_tunnel_only : (protocol : ℕ) (content : List ℕ) (r : Reached) → ReachesOver protocol content r → is_over_udp r.content ≡ true → (bytes : List ℕ) → HasUdp protocol content bytes → ⊥
is_tunnel_only protocol content r reaches tunnel bytes has =
    false≢true (sym has.1 ∙ ap (λ (x : Reached). is_over_udp x.content) (reaches_one protocol content _ _ has.0 reaches) ∙ tunnel)

-- what is reached tells whether it is hidden
pub hidden : (protocol : ℕ) (content : List ℕ) (r : Reached) → ReachesOver protocol content r → is_hidden_in r ≡ true → IsHidden protocol content
hidden protocol content r reaches is s again = ap is_hidden_in (reaches_one protocol content s r again reaches) ∙ is

pub not_hidden : (protocol : ℕ) (content : List ℕ) (r : Reached) → ReachesOver protocol content r → is_hidden_in r ≡ false → IsHidden protocol content → ⊥
not_hidden protocol content r reaches plain all = false≢true (sym plain ∙ all r reaches)
