-- The order of keys is one.
use Rattle.std.specs.Cmp.{IsTotalOrder, on_total, then_total, nat_cmp_total}
use Rattle.std.specs.Cmp.Lexicographic.{options_total}
use Rattle.std.specs.contracts.net.ip_addr.IpAddrOrd.TheImpl.Laws as address_laws
use Rattle.net_udp.specs.declared.fragments.key.Key.{Key}
use Rattle.net_udp.specs.Fragments.Key.{address_cmp, key_cmp}

pub address_total : IsTotalOrder address_cmp
address_total = address_laws.total-law

pub key_total : IsTotalOrder key_cmp
key_total = then_total (on_total (λ (k : Key). k.id) nat_cmp_total) (then_total (on_total (λ (k : Key). k.protocol) (options_total nat_cmp_total)) (then_total (on_total (λ (k : Key). k.source) address_total) (on_total (λ (k : Key). k.target) address_total)))
