-- What a frame does among the fragments that wait.
use Rattle.std.proofs.Common.{◌≡◌, ◌≢◌, ℕ, inr, List, [], Option, None, Result, Ok, Err, sym, ap, ◌∙◌, subst, arith}
use Rattle.std.specs.Result.{IsOkAnd}
use Rattle.net_udp.specs.Frames.{SpellsFrame, Packet, shown, HasUdp, HoldsUdp, SpellsUdp, Udp, datagram}
use Rattle.net_udp.specs.declared.frames.fault.FrameFault.{FrameFault}
use Rattle.net_udp.specs.declared.frames.packet.UdpDatagram.{UdpDatagram}
use Rattle.net_udp.specs.declared.frames.fault.UdpFault.{UdpFault}
use Rattle.net_udp.specs.declared.frames.packet.IpPacket.{IpPacket}
use Rattle.net_udp.specs.Fragments.{Arrival, SetState, IsTried, MayBePut, PutEnds, Sets, room_of_all}
use Rattle.net_udp.specs.declared.fragments.outcome.Outcome.{Outcome}
use Rattle.net_udp.specs.declared.fragments.outcome.Outcome.TheVariants.{Full}
use Rattle.net_udp.specs.Fragments.Whole.{Content, Part}
use Rattle.net_udp.specs.Recording.{MakesRoom, content_of}

pub spells_here : (link other : ℕ) (bytes others : List ℕ) (p : Packet) → other ≡ link → others ≡ bytes → SpellsFrame link bytes p → SpellsFrame other others p
spells_here link other bytes others p e f h = subst (λ (l : ℕ). SpellsFrame l others p) (sym e) (subst (λ (l : List ℕ). SpellsFrame link l p) (sym f) h)

pub spells_udp_here : (protocol other : ℕ) (bytes others : List ℕ) (udp : Udp) → protocol ≡ other → bytes ≡ others → SpellsUdp protocol bytes udp → SpellsUdp other others udp
spells_udp_here protocol other bytes others udp e f h = subst (λ (n : ℕ). SpellsUdp n others udp) e (subst (λ (l : List ℕ). SpellsUdp protocol l udp) f h)

pub holds_udp_here : (fault : UdpFault) (protocol other : ℕ) (bytes others : List ℕ) → protocol ≡ other → bytes ≡ others → HoldsUdp fault protocol bytes → HoldsUdp fault other others
holds_udp_here fault protocol other bytes others e f h = subst (λ (n : ℕ). HoldsUdp fault n others) e (subst (λ (l : List ℕ). HoldsUdp fault protocol l) f h)

pub has_udp_here : (protocol other : ℕ) (bytes others found : List ℕ) → protocol ≡ other → bytes ≡ others → HasUdp other others found → HasUdp protocol bytes found
has_udp_here protocol other bytes others found e f h = subst (λ (n : ℕ). HasUdp n bytes found) (sym e) (subst (λ (l : List ℕ). HasUdp other l found) (sym f) h)

pub has_udp_of : (p q : Packet) (whole : Option Content) (found : List ℕ) → q ≡ p → HasUdp (content_of p whole).protocol (content_of p whole).bytes found → HasUdp (content_of q whole).protocol (content_of q whole).bytes found
has_udp_of p q whole found same has = subst (λ (x : Packet). HasUdp (content_of x whole).protocol (content_of x whole).bytes found) (sym same) has

-- the packet that was read is that of the frame
pub packet_read : (r : Result IpPacket FrameFault) (p : Packet) (packet : IpPacket) → r ≡ Ok packet → IsOkAnd r (λ found. shown found ≡ p) → shown packet ≡ p
packet_read r p packet is only = subst (λ (x : Result IpPacket FrameFault). IsOkAnd x (λ found. shown found ≡ p)) is only

pub none_read : (r : Result IpPacket FrameFault) (p : Packet) (e : FrameFault) → r ≡ Err e → IsOkAnd r (λ found. shown found ≡ p) → ⊥
none_read (Ok found) p e is only = cc
none_read (Err f) p e is only = only

pub no_udp_read : (r : Result UdpDatagram UdpFault) (udp : Udp) (e : UdpFault) → r ≡ Err e → IsOkAnd r (λ found. datagram found ≡ udp) → ⊥
no_udp_read (Ok found) udp e is only = cc
no_udp_read (Err f) udp e is only = only

pub spells_udp_of : (p q : Packet) (whole : Option Content) (udp : Udp) → q ≡ p → SpellsUdp (content_of p whole).protocol (content_of p whole).bytes udp → SpellsUdp (content_of q whole).protocol (content_of q whole).bytes udp
spells_udp_of p q whole udp same spells = subst (λ (x : Packet). SpellsUdp (content_of x whole).protocol (content_of x whole).bytes udp) (sym same) spells

-- a frame that is no packet, and one that is a whole one
pub not_read : (r : Result IpPacket FrameFault) (p : Packet) (e : FrameFault) → r ≡ Err e → IsOkAnd r (λ found. shown found ≡ p) → ⊥
not_read (Ok found) p e is only = cc
not_read (Err f) p e is only = only

pub no_packet : (r : Result IpPacket FrameFault) (p : Packet) (e : FrameFault) → r ≡ Err e → IsOkAnd r (λ found. shown found ≡ p) → p.fragment ≡ None
no_packet (Ok found) p e is only = cc
no_packet (Err f) p e is only = absurd only

pub whole_packet : (r : Result IpPacket FrameFault) (p : Packet) (packet : IpPacket) → r ≡ Ok packet → packet.fragment ≡ None → IsOkAnd r (λ found. shown found ≡ p) → p.fragment ≡ None
whole_packet r p packet is none only =
    let same : shown packet ≡ p = subst (λ (x : Result IpPacket FrameFault). IsOkAnd x (λ found. shown found ≡ p)) is only in
    sym (ap (λ (x : Packet). x.fragment) same) ∙ none

-- there is room for a part where nothing waits
pub never_full : (old new : Option SetState) (roomy : Sets) (a : Arrival) (outcome : Outcome) → roomy ≡ [] → PutEnds old new (room_of_all roomy) a outcome → outcome ≢ Full
never_full old new roomy a outcome none ends full =
    let h = subst (PutEnds old new (room_of_all roomy) a) full ends in
    absurd (omega (arith, h.1, h.2, ap room_of_all none))

pub may_be_put : (all : ℕ) (p : Part) (outcome : Outcome) → outcome ≡ Full → IsTried all p outcome → MayBePut p
may_be_put all p outcome full t = (subst (IsTried all p) full t).0

-- all that waited makes room
pub makes_room : (key_old key_new : Option SetState) (young roomy ousted : Sets) (a : Arrival) (outcome : Outcome) → outcome ≡ Full → PutEnds key_old key_new (room_of_all young) a outcome → ousted ≡ young → roomy ≡ []
    → MayBePut a.part → MakesRoom a.part young roomy ousted
makes_room key_old key_new young roomy ousted a outcome full ends same none may = inr ((subst (PutEnds key_old key_new (room_of_all young) a) full ends).1, same, none, may)
