-- Which fragments are of one packet (RFC 791, section 3.2; RFC 8200, section 4.5).
use Rattle.std.specs.Prelude.{Bool}
use Rattle.std.specs.declared.cmp.Ordering.{Ordering}
use Rattle.std.specs.declared.net.ip_addr.IpAddr.{IpAddr}
use Rattle.std.specs.Option.{option_cmp}
use Rattle.std.specs.Ordering.{is_eq, nat_cmp, on, then_cmp}
use Rattle.std.specs.contracts.net.ip_addr.IpAddrOrd.TheImpl as address_order
use Rattle.net_udp.specs.declared.fragments.key.Key.{Key}

-- the order of addresses
abbrev pub address_cmp : IpAddr → IpAddr → Ordering
address_cmp = (address_order.cmp-value).it

-- an order of keys: by each of the four in turn
abbrev pub key_cmp : Key → Key → Ordering
key_cmp = then_cmp (on (λ k. k.id) nat_cmp) (then_cmp (on (λ k. k.protocol) (option_cmp nat_cmp)) (then_cmp (on (λ k. k.source) address_cmp) (on (λ k. k.target) address_cmp)))

-- no part of the two keys tells them apart
abbrev pub same_key : Key → Key → Bool
same_key key other = is_eq (key_cmp key other)
