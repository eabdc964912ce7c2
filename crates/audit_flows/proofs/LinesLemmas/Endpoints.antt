-- The order of endpoints, and their equality.
use Rattle.std.proofs.Common.{◌≡◌, true, rules, refl, sym, ap, ◌==◌, bytes_eq}
use Rattle.std.specs.Cmp.Rules.{comparing}
use Rattle.std.specs.Ordering.{is_eq}
use Rattle.std.proofs.lemmas.Bool.{false≢true, and_from, and_parts, eqb-true, eq-eqb}
use Rattle.std.proofs.lemmas.Slice.Eq.{bytes_eq-Decides}
use Rattle.audit_flows.specs.Lines.{version_of, bytes_of, same_address, same_endpoint, endpoint_cmp}
use Rattle.audit_flows.specs.declared.lines.endpoint.Address.{Address}
use Rattle.audit_flows.specs.declared.lines.endpoint.Address.TheVariants.{V4, V6}
use Rattle.audit_flows.specs.declared.lines.endpoint.Endpoint.{Endpoint}

pub same_by_order : (one other : Endpoint) → is_eq (endpoint_cmp one other) ≡ same_endpoint one other
same_by_order one other = sym (search (comparing, rules))

of_parts : (x y : Address) → bytes_of x ≡ bytes_of y → (version_of x == version_of y) ≡ true → x ≡ y
of_parts (V4 x) (V4 y) bytes version = ap V4 bytes
of_parts (V6 x) (V6 y) bytes version = ap V6 bytes
of_parts _ _ bytes version = absurd (false≢true version)

pub is_same_address : (x y : Address) → same_address x y ≡ true → x ≡ y
is_same_address x y e =
    let parts = and_parts (bytes_eq (bytes_of x) (bytes_of y)) (version_of x == version_of y) e in
    of_parts x y ((bytes_eq-Decides (bytes_of x) (bytes_of y)).0 parts.0) parts.1

pub is_same : (one other : Endpoint) → same_endpoint one other ≡ true → one ≡ other
is_same one other e =
    let parts = and_parts (one.port == other.port) (same_address one.address other.address) e in
    let address = is_same_address one.address other.address parts.1 in
    let port = eqb-true one.port other.port parts.0 in
    λ i. record { address = address i; port = port i }

pub address_itself : (x : Address) → same_address x x ≡ true
address_itself x = and_from _ _ ((bytes_eq-Decides (bytes_of x) (bytes_of x)).1 refl) (eq-eqb (version_of x) (version_of x) refl)

pub same_itself : (one : Endpoint) → same_endpoint one one ≡ true
same_itself one = and_from _ _ (eq-eqb one.port one.port refl) (address_itself one.address)
