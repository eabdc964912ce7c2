-- A packet carries one content, and a frame tells one thing at most of what did not arrive.
use Rattle.std.proofs.Common.{◌≡◌, ◌<◌, inl, refl, ℕ, List, length, drop, ap, sym, subst, ◌∙◌, arith, Option, Some, None, MatchOption, true, false}
use Rattle.std.proofs.lemmas.Bool.{false≢true}
use Rattle.std.specs.Option.{is_some}
use Rattle.net_udp.specs.Frames.{HasHeader, IsCarried, IsLinked, Linked, Reached, Reaches, SpellsLink, at, held_of, is_opened, is_wrapping, link_named}
use Rattle.net_udp.specs.Frames.Ip.{part_of}
use Rattle.net_udp.specs.Frames.Unreachable.{CarriesWhole, Quotes, Tells, TellsUnreachable, icmp_number, unreachable_type}
use Rattle.net_udp.specs.declared.frames.link.LinkType.{LinkType}
use Rattle.net_udp.specs.declared.frames.link.LinkType.TheVariants.{RawIpv4}
use Rattle.net_udp.specs.declared.frames.link.Network.TheVariants.{Ipv4}
use Rattle.net_udp.specs.declared.frames.packet.Direction.TheVariants.{Unknown}
use Rattle.net_udp.specs.declared.frames.link.Network.{Network}
use Rattle.net_udp.specs.declared.frames.unreachable.Quoted.{Quoted}
use Rattle.net_udp.specs.declared.frames.unreachable.Unreachable.{Unreachable}
use Rattle.net_udp.proofs.FramesLemmas.Tunnels.{linked_one, plainly}
use Rattle.net_udp.proofs.FramesLemmas.Uppers.{upper_one}

pub carries_one : (network : Network) (bytes : List ℕ) (protocol : ℕ) (x y : List ℕ) → CarriesWhole network bytes protocol x → CarriesWhole network bytes protocol y → x ≡ y
carries_one network bytes protocol x y p q =
    p.carried ∙ ap (λ (r : Reached). r.content) (upper_one network bytes p.upper q.upper p.reaches q.reaches) ∙ sym q.carried

-- ---- a packet that carries something else

pub another_protocol : (network : Network) (bytes : List ℕ) (protocol : ℕ) (r : Reached) → Reaches network bytes r → (r.protocol ≡ protocol → ⊥)
    → (content : List ℕ) → CarriesWhole network bytes protocol content → ⊥
another_protocol network bytes protocol r reaches other content p =
    other (sym (ap (λ (x : Reached). x.protocol) (upper_one network bytes p.upper r p.reaches reaches)) ∙ p.is)

pub in_part : (network : Network) (bytes : List ℕ) (protocol : ℕ) (r : Reached) → Reaches network bytes r → is_some r.fragment ≡ true
    → (content : List ℕ) → CarriesWhole network bytes protocol content → ⊥
in_part network bytes protocol r reaches part content p =
    let one = ap (λ (x : Reached). is_some x.fragment) (upper_one network bytes p.upper r p.reaches reaches) in
    false≢true (sym (ap is_some p.whole) ∙ one ∙ part)

pub too_short : (network : Network) (bytes udp : List ℕ) → CarriesWhole network bytes 17 udp → length udp < 4 → (q : Quoted) → Quotes network bytes q → ⊥
too_short network bytes udp carries less q quotes =
    let same = ap length (carries_one network bytes 17 quotes.udp udp quotes.carries carries) in
    omega (arith, same, quotes.ports, less)

module _ (network : Network) (bytes message : List ℕ) (carries : CarriesWhole network bytes (icmp_number network) message) (u : Unreachable) (t : Tells network bytes u) where
  same_message : t.message ≡ message
  same_message = carries_one network bytes (icmp_number network) t.message message t.carries carries

  pub no_header : length message < 8 → ⊥
  no_header less =
      let same = ap length same_message in
      omega (arith, same, t.header, less)

  pub another_type : (at message 0 ≡ unreachable_type network → ⊥) → ⊥
  another_type other = other (sym (ap (λ m. at m 0) same_message) ∙ t.kind)

  pub no_quote : ((q : Quoted) → Quotes network (drop 8 message) q → ⊥) → ⊥
  no_quote none = none u.quoted (subst (λ m. Quotes network (drop 8 m) u.quoted) same_message t.quotes)

-- ---- frames

is_some_of : (n m : Network) → Some n ≡ Some m → n ≡ m
is_some_of n m e = cc

-- what is known of the packet that a frame carries tells what the frame tells
pub told_within : (number : ℕ) (frame : List ℕ) (c : Linked) (network : Network) → IsLinked number frame c → c.network ≡ Some network
    → (u : Unreachable) → TellsUnreachable number frame u → Tells network c.content u
told_within number frame c network linked is u b =
    let one = linked_one number frame b.linked c b.carries linked in
    let same = is_some_of b.network network (sym b.of_ip ∙ ap (λ (l : Linked). l.network) one ∙ is) in
    subst (λ n. Tells n c.content u) same (subst (λ (l : Linked). Tells b.network l.content u) one b.tells)

none_told : (number : ℕ) (frame : List ℕ) (c : Linked) (network : Network) → IsLinked number frame c → c.network ≡ Some network
    → ((u : Unreachable) → Tells network c.content u → ⊥) → (u : Unreachable) → TellsUnreachable number frame u → ⊥
none_told number frame c network linked is bare u b = bare u (told_within number frame c network linked is u b)

pub told_found : (number : ℕ) (frame : List ℕ) (c : Linked) (network : Network) → IsLinked number frame c → c.network ≡ Some network → (found : Option Unreachable)
    → MatchOption found ((u : Unreachable) → Tells network c.content u → ⊥) (λ u. Tells network c.content u)
    → MatchOption found ((u : Unreachable) → TellsUnreachable number frame u → ⊥) (λ u. TellsUnreachable number frame u)
told_found number frame c network linked is None bare = none_told number frame c network linked is bare
told_found number frame c network linked is (Some u) tells = record { linked = c; network = network; carries = linked; of_ip = is; tells = tells }

-- what carries nothing of IP tells nothing
pub no_network_told : (number : ℕ) (frame : List ℕ) (c : Linked) → IsLinked number frame c → c.network ≡ None → (u : Unreachable) → TellsUnreachable number frame u → ⊥
no_network_told number frame c linked is u b =
    let bad : Some b.network ≡ None = sym b.of_ip ∙ ap (λ (l : Linked). l.network) (linked_one number frame b.linked c b.carries linked) ∙ is in cc

-- nor does what carries nothing
pub none_carried_told : (number : ℕ) (frame : List ℕ) (link : LinkType) → link_named number ≡ Some link → ((c : Linked) → IsCarried link frame c → ⊥)
    → (u : Unreachable) → TellsUnreachable number frame u → ⊥
none_carried_told number frame link named none u b =
    let same : b.carries.0 ≡ link = cc (b.carries.1, named) in
    none b.linked (subst (λ (l : LinkType). IsCarried l frame b.linked) same b.carries.2)

-- ---- worked examples

-- what a packet of IPv4 carries that is no fragment
pub carries_ipv4 : (bytes : List ℕ) → HasHeader Ipv4 bytes → is_wrapping (at bytes 9) ≡ false → part_of bytes ≡ None → CarriesWhole Ipv4 bytes (at bytes 9) (held_of Ipv4 bytes)
carries_ipv4 bytes header plain none = record {
  header = header;
  upper = record { protocol = at bytes 9; fragment = part_of bytes; content = held_of Ipv4 bytes };
  reaches = inl (plain, refl);
  whole = none;
  is = refl;
  carried = refl;
}

-- the bytes are a packet of IPv4 without a link, and no tunnel
pub raw_ipv4 : (bytes : List ℕ) → is_wrapping (at bytes 9) ≡ false
    → is_opened (record { protocol = at bytes 9; fragment = part_of bytes; content = held_of Ipv4 bytes }) ≡ false
    → SpellsLink RawIpv4 bytes (record { direction = Unknown; network = Some Ipv4; content = bytes })
    → IsLinked 228 bytes (record { direction = Unknown; network = Some Ipv4; content = bytes })
raw_ipv4 bytes plain no_tunnel spells =
    (RawIpv4, refl, plainly RawIpv4 bytes (record { direction = Unknown; network = Some Ipv4; content = bytes }) Ipv4 (record { protocol = at bytes 9; fragment = part_of bytes; content = held_of Ipv4 bytes }) spells refl (inl (plain, refl)) no_tunnel)
