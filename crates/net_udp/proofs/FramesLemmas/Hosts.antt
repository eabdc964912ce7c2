-- A frame that tells hosts names two.
use Rattle.std.proofs.Common.{◌≡◌, ℕ, List, ◌∙◌, ap, sym, subst, Option, Some, None, MatchOption}
use Rattle.std.specs.declared.net.ip_addr.IpAddr.{IpAddr}
use Rattle.net_udp.specs.Frames.{Linked, TellsHosts, source_of, target_of, link_named, IsBetween, IsCarried, IsLinked}
use Rattle.net_udp.specs.declared.frames.link.LinkType.{LinkType}
use Rattle.net_udp.specs.declared.frames.link.Network.{Network}
use Rattle.net_udp.proofs.FramesLemmas.Tunnels.{linked_one}

is_some : (n m : Network) → Some n ≡ Some m → n ≡ m
is_some n m e = cc

-- what is linked and tells none names none
pub none_between : (number : ℕ) (frame : List ℕ) (c : Linked) (network : Network) → IsLinked number frame c → c.network ≡ Some network
    → (TellsHosts network c.content → ⊥) → (source target : IpAddr) → IsBetween number frame source target → ⊥
none_between number frame c network linked is bare source target b =
    let one = linked_one number frame b.linked c b.carries linked in
    let same = is_some b.network network (sym b.of_ip ∙ ap (λ (l : Linked). l.network) one ∙ is) in
    bare (subst (λ n. TellsHosts n c.content) same (subst (λ (l : Linked). TellsHosts b.network l.content) one b.tells))

pub hosts_found : (number : ℕ) (frame : List ℕ) (c : Linked) (network : Network) → IsLinked number frame c → c.network ≡ Some network → (found : Option (IpAddr × IpAddr))
    → MatchOption found (TellsHosts network c.content → ⊥) (λ hosts. TellsHosts network c.content × (hosts ≡ (source_of network c.content, target_of network c.content)))
    → MatchOption found ((source target : IpAddr) → IsBetween number frame source target → ⊥) (λ hosts. IsBetween number frame hosts.0 hosts.1)
hosts_found number frame c network linked is None bare = none_between number frame c network linked is bare
hosts_found number frame c network linked is (Some hosts) (has, are) = record {
  linked = c;
  network = network;
  carries = linked;
  of_ip = is;
  tells = has;
  from = ap (λ h. h.0) are;
  to = ap (λ h. h.1) are;
}

-- what carries nothing of IP names none
pub no_network : (number : ℕ) (frame : List ℕ) (c : Linked) → IsLinked number frame c → c.network ≡ None → (source target : IpAddr) → IsBetween number frame source target → ⊥
no_network number frame c linked is source target b =
    let bad : Some b.network ≡ None = sym b.of_ip ∙ ap (λ (l : Linked). l.network) (linked_one number frame b.linked c b.carries linked) ∙ is in cc

-- nor does what carries nothing
pub none_carried : (number : ℕ) (frame : List ℕ) (link : LinkType) → link_named number ≡ Some link → ((c : Linked) → IsCarried link frame c → ⊥) → (source target : IpAddr) → IsBetween number frame source target → ⊥
none_carried number frame link named none source target b =
    let same : b.carries.0 ≡ link = cc (b.carries.1, named) in
    none b.linked (subst (λ (l : LinkType). IsCarried l frame b.linked) same b.carries.2)
