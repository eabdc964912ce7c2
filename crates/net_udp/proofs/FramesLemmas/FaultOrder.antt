-- The faults stand in one order, and a packet has none.
use Rattle.std.proofs.Common.{◌≡◌, ◌↔◌, inl, inr, ℕ, ◌<◌, ◌≤◌, true, false, List, length, refl, sym, ap, subst, ◌∙◌, arith, None, Some, Result, Ok, Err, IsOkAnd}
use Rattle.std.proofs.lemmas.Bool.{cases_lt, false≢true}
use Rattle.net_udp.specs.Frames.{Linked, IsCarried, link_named, Reached, Packet, HasHeader, size_of, total_of, Reaches, may_be_udp, packet_of, SpellsIp, IsLinked, SpellsFrame, Holds, HoldsIp, place, FirstFault, FirstIpFault, IsNotWhole, Judges, JudgesIp, shown}
use Rattle.net_udp.specs.declared.frames.link.LinkType.{LinkType}
use Rattle.net_udp.specs.declared.frames.packet.Direction.{Direction}
use Rattle.net_udp.specs.declared.frames.packet.IpPacket.{IpPacket}
use Rattle.net_udp.specs.declared.frames.fault.FrameFault.{FrameFault}
use Rattle.net_udp.specs.declared.frames.fault.FrameFault.TheVariants.{Cut}
use Rattle.net_udp.specs.declared.frames.link.Network.{Network}
use Rattle.net_udp.specs.declared.frames.fault.FrameFault.TheVariants.{Link, Frame, Network as NotIp, Header, Protocol, Length, Extension}
use Rattle.net_udp.proofs.FramesLemmas.Tunnels.{linked_one}
use Rattle.net_udp.proofs.FramesLemmas.Uppers.{upper_one}

place_injective : (f g : FrameFault) → place f ≡ place g → f ≡ g
place_injective Link Link e = refl
place_injective Link _ e = absurd (omega arith)
place_injective Frame Frame e = refl
place_injective Frame _ e = absurd (omega arith)
place_injective NotIp NotIp e = refl
place_injective NotIp _ e = absurd (omega arith)
place_injective Header Header e = refl
place_injective Header _ e = absurd (omega arith)
place_injective Protocol Protocol e = refl
place_injective Protocol _ e = absurd (omega arith)
place_injective Length Length e = refl
place_injective Length _ e = absurd (omega arith)
place_injective Cut Cut e = refl
place_injective Cut _ e = absurd (omega arith)
place_injective Extension Extension e = refl
place_injective Extension _ e = absurd (omega arith)

-- of two first faults neither stands before the other
pub first_one : (number : ℕ) (frame : List ℕ) (f g : FrameFault) → FirstFault number frame f → FirstFault number frame g → f ≡ g
first_one number frame f g p q = elim (cases_lt (place f) (place g)) [
  | inl below ↦ absurd (q.1 f below p.0)
  | inr above ↦ elim (cases_lt (place g) (place f)) [
    | inl over ↦ absurd (p.1 g over q.0)
    | inr under ↦ place_injective f g (omega arith)
  ]
]

ip_one : (direction : Direction) (network : Network) (bytes : List ℕ) (p q : Packet) → SpellsIp direction network bytes p → SpellsIp direction network bytes q → p ≡ q
ip_one direction network bytes p q s t =
    s.packet ∙ ap (packet_of direction network bytes) (upper_one network bytes s.upper t.upper s.reaches t.reaches) ∙ sym t.packet

-- a packet has no fault
ip_has_no_fault : (direction : Direction) (network : Network) (bytes : List ℕ) (p : Packet) (f : FrameFault) → SpellsIp direction network bytes p → HoldsIp f network bytes → ⊥
ip_has_no_fault direction network bytes p Header s h = h s.header
ip_has_no_fault direction network bytes p Protocol s (header, (r, reaches, other)) =
    false≢true (sym other ∙ ap (may_be_udp network) (upper_one network bytes r s.upper reaches s.reaches) ∙ s.udp)
ip_has_no_fault direction network bytes p Length s h = omega (arith, h.1, s.whole.0)
ip_has_no_fault direction network bytes p Cut s h = omega (arith, h.1, s.whole.1)
ip_has_no_fault direction network bytes p Extension s h = h.1 s.upper s.reaches
ip_has_no_fault direction network bytes p _ s h = h

-- ---- a frame that carries a packet

module _ (number : ℕ) (frame : List ℕ) (c : Linked) (network : Network) (carried : IsLinked number frame c) (is_ip : c.network ≡ Some network) where
  lift : (f : FrameFault) → HoldsIp f network c.content → Holds f number frame
  lift Link h = absurd h
  lift Frame h = absurd h
  lift NotIp h = absurd h
  lift _ h = (c, network, carried, is_ip, h)

  same_network : (d : Linked) (other : Network) → IsLinked number frame d → d.network ≡ Some other → (P : Network → List ℕ → Type 0) → P other d.content → P network c.content
  same_network d other again is P h =
      let one : d ≡ c = linked_one number frame d c again carried in
      let network_is : Some other ≡ Some network = sym is ∙ (λ i. (one i).network) ∙ is_ip in
      let same : other ≡ network = cc in
      subst (λ (n : Network). P n c.content) same (subst (λ (x : Linked). P other x.content) one h)

  lower : (f : FrameFault) → Holds f number frame → HoldsIp f network c.content
  lower Link h = let no : ⊥ = cc (h, carried.1) in no
  lower Frame (link, named, none) =
      let same : link ≡ carried.0 = cc (named, carried.1) in
      none c (subst (λ (l : LinkType). IsCarried l frame c) (sym same) carried.2)
  lower NotIp (d, again, none) =
      let one : d ≡ c = linked_one number frame d c again carried in
      let wrong : Some network ≡ None = sym is_ip ∙ sym (ap (λ (x : Linked). x.network) one) ∙ none in
      let no : ⊥ = cc in
      no
  lower Header (d, other, again, is, h) = same_network d other again is (HoldsIp Header) h
  lower Protocol (d, other, again, is, h) = same_network d other again is (HoldsIp Protocol) h
  lower Length (d, other, again, is, h) = same_network d other again is (HoldsIp Length) h
  lower Cut (d, other, again, is, h) = same_network d other again is (HoldsIp Cut) h
  lower Extension (d, other, again, is, h) = same_network d other again is (HoldsIp Extension) h

  pub judged : (r : Result IpPacket FrameFault) → JudgesIp c.direction network c.content r → Judges number frame r
  judged (Ok p) s = (c, network, carried, is_ip, s)
  judged (Err f) first = (lift f first.0, λ earlier before h. first.1 earlier before (lower earlier h))

  pub spelled_has_no_fault : (p : Packet) (f : FrameFault) → SpellsIp c.direction network c.content p → Holds f number frame → ⊥
  spelled_has_no_fault p f s h = ip_has_no_fault c.direction network c.content p f s (lower f h)

  pub spelled_one : (p q : Packet) → SpellsIp c.direction network c.content p → SpellsFrame number frame q → p ≡ q
  spelled_one p q s (d, other, again, is, t) =
      let one : d ≡ c = linked_one number frame d c again carried in
      let network_is : Some other ≡ Some network = sym is ∙ (λ i. (one i).network) ∙ is_ip in
      let same : other ≡ network = cc in
      let moved : SpellsIp c.direction other c.content q = subst (λ (x : Linked). SpellsIp x.direction other x.content q) one t in
      ip_one c.direction network c.content p q s (subst (λ (n : Network). SpellsIp c.direction n c.content q) same moved)

pub no_fault : (number : ℕ) (frame : List ℕ) (p : Packet) (f : FrameFault) → SpellsFrame number frame p → Holds f number frame → ⊥
no_fault number frame p f (c, network, carried, is, s) h = spelled_has_no_fault number frame c network carried is p f s h

pub packet_one : (number : ℕ) (frame : List ℕ) (p q : Packet) → SpellsFrame number frame p → SpellsFrame number frame q → p ≡ q
packet_one number frame p q (c, network, carried, is, s) t = spelled_one number frame c network carried is p q s t

-- ---- from what the parts answer to what `read_frame` promises

pub only_of : (number : ℕ) (frame : List ℕ) (r : Result IpPacket FrameFault) → Judges number frame r → (p : Packet) → SpellsFrame number frame p → IsOkAnd r (λ found. shown found ≡ p)
only_of number frame (Ok found) judged p s = packet_one number frame (shown found) p judged s
only_of number frame (Err f) judged p s = absurd (no_fault number frame p f s judged.0)

pub fault_of : (number : ℕ) (frame : List ℕ) (r : Result IpPacket FrameFault) → Judges number frame r → (f : FrameFault) → (r ≡ Err f) ↔ FirstFault number frame f
fault_of number frame (Ok found) judged f = ((λ e. absurd (let x : ⊥ = cc in x)), λ first. absurd (no_fault number frame (shown found) f judged first.0))
fault_of number frame (Err g) judged f = ((λ e. let same : g ≡ f = cc in subst (FirstFault number frame) same judged), λ first. ap Err (first_one number frame g f judged first))

-- ---- a packet that may be UDP, and whose length is wrong

pub length_first : (network : Network) (bytes : List ℕ) (upper : Reached) (fault : FrameFault) → HasHeader network bytes → Reaches network bytes upper → may_be_udp network upper ≡ true → IsNotWhole fault network bytes → FirstIpFault network bytes fault
length_first network bytes upper fault header reaches udp wrong = first fault wrong
  where
    no_other : HoldsIp Protocol network bytes → ⊥
    no_other (again, (r, reaches_r, other)) = false≢true (sym other ∙ ap (may_be_udp network) (upper_one network bytes r upper reaches_r reaches) ∙ udp)

    below_length : (f : FrameFault) → place f < 6 → HoldsIp f network bytes → ⊥
    below_length Header below h = h header
    below_length Protocol below h = no_other h
    below_length Length below h = omega arith
    below_length Cut below h = omega arith
    below_length Extension below h = omega arith
    below_length _ below h = h

    below_cut : size_of network bytes ≤ total_of network bytes → (f : FrameFault) → place f < 7 → HoldsIp f network bytes → ⊥
    below_cut long Header below h = h header
    below_cut long Protocol below h = no_other h
    below_cut long Length below h = omega (arith, h.1, long)
    below_cut long Cut below h = omega arith
    below_cut long Extension below h = omega arith
    below_cut long _ below h = h

    first : (f : FrameFault) → IsNotWhole f network bytes → FirstIpFault network bytes f
    first Length short = ((header, short), below_length)
    first Cut (long, cut) = ((header, cut), below_cut long)
    first _ k = absurd k

-- ---- a whole packet in which nothing is reached

pub extension_first : (network : Network) (bytes : List ℕ) → HasHeader network bytes → size_of network bytes ≤ total_of network bytes → total_of network bytes ≤ length bytes → ((r : Reached) → Reaches network bytes r → ⊥) → FirstIpFault network bytes Extension
extension_first network bytes header long whole none = ((header, none), earlier)
  where
    earlier : (f : FrameFault) → place f < 8 → HoldsIp f network bytes → ⊥
    earlier Header below h = h header
    earlier Protocol below h = none h.1.0 h.1.1
    earlier Length below h = omega (arith, h.1, long)
    earlier Cut below h = omega (arith, h.1, whole)
    earlier Extension below h = omega arith
    earlier _ below h = h

-- ---- the faults of a frame that carries no packet

pub frame_first : (number : ℕ) (frame : List ℕ) (link : LinkType) → link_named number ≡ Some link → ((c : Linked) → IsCarried link frame c → ⊥) → FirstFault number frame Frame
frame_first number frame link named none = ((link, named, none), earlier)
  where
    earlier : (f : FrameFault) → place f < 2 → Holds f number frame → ⊥
    earlier Link below h = let no : ⊥ = cc (h, named) in no
    earlier _ below h = omega arith

pub network_first : (number : ℕ) (frame : List ℕ) (c : Linked) → IsLinked number frame c → c.network ≡ None → FirstFault number frame NotIp
network_first number frame c carried no_ip = ((c, carried, no_ip), earlier)
  where
    earlier : (f : FrameFault) → place f < 3 → Holds f number frame → ⊥
    earlier Link below h = let no : ⊥ = cc (h, carried.1) in no
    earlier Frame below (link, named, none) =
        let same : link ≡ carried.0 = cc (named, carried.1) in
        none c (subst (λ (l : LinkType). IsCarried l frame c) (sym same) carried.2)
    earlier _ below h = omega arith

pub protocol_first : (network : Network) (bytes : List ℕ) (upper : Reached) → HasHeader network bytes → Reaches network bytes upper → may_be_udp network upper ≡ false → FirstIpFault network bytes Protocol
protocol_first network bytes upper header reaches other = ((header, (upper, reaches, other)), earlier)
  where
    earlier : (f : FrameFault) → place f < 5 → HoldsIp f network bytes → ⊥
    earlier Header below h = h header
    earlier Protocol below h = omega arith
    earlier Length below h = omega arith
    earlier Cut below h = omega arith
    earlier Extension below h = omega arith
    earlier _ below h = h
