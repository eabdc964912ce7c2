-- Of no two addresses is the same written.
use Rattle.std.proofs.Common.{◌≡◌, ◌↔◌, List, ℕ, ap, subst}
use Rattle.std.specs.declared.net.ip_addr.IpAddr.{IpAddr}
use Rattle.std.specs.declared.net.ip_addr.IpAddr.TheVariants.{V4, V6}
use Rattle.std.specs.Net.Addr.{IsIpv4Addr, IsIpv6Addr, MatchIp}
use Rattle.std.specs.Net.Text.{ip_text}
use Rattle.std.specs.Net.Grammar.{IsIpText}
use Rattle.std.proofs.NetLemmas.Texts.{IsDotted-ipv4_text, IsColonHex-ipv6_text}
use Rattle.std.proofs.NetLemmas.Theorems.{IsIpText_unique}

spells_itself : (a : IpAddr) → MatchIp a IsIpv4Addr IsIpv6Addr → IsIpText (ip_text a) a
spells_itself (V4 a) h = IsDotted-ipv4_text _ h.0 h.1
spells_itself (V6 a) h = IsColonHex-ipv6_text _ h.0 h.1

pub written_one : (a b : IpAddr) → MatchIp a IsIpv4Addr IsIpv6Addr → MatchIp b IsIpv4Addr IsIpv6Addr → (a ≡ b) ↔ (ip_text a ≡ ip_text b)
written_one a b h k = (
  ap ip_text,
  λ same. IsIpText_unique (ip_text b) a b (subst (λ (text : List ℕ). IsIpText text a) same (spells_itself a h)) (spells_itself b k),
)
