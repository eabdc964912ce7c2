-- A host's name tells its address.
use Rattle.std.proofs.Common.{◌≡◌, ◌↔◌, ℕ, suc, ◌+◌, ◌-◌, ◌*◌, ◌/◌, ◌%◌, ◌^◌, ◌<◌, true, List, [], ◌∷◌, length, refl, arith, ap, sym, subst, ◌∙◌}
use Rattle.std.proofs.lemmas.List.Elements.{recursion_from_All}
use Rattle.std.proofs.NetLemmas.Texts.{IsDotted-ipv4_text, IsColonHex-ipv6_text}
use Rattle.std.proofs.NetLemmas.Theorems.{IsIpText_unique}
use Rattle.std.specs.declared.net.ip_addr.IpAddr.{IpAddr}
use Rattle.std.specs.declared.net.ip_addr.IpAddr.TheVariants as Ip
use Rattle.std.specs.Net.Addr.{octets_of, segments_of}
use Rattle.std.specs.Net.Grammar.{IsIpText}
use Rattle.std.specs.Net.Text.{ip_text, ipv4_text, ipv6_text}
use Rattle.tftp_packet.specs.Hosts.{IsHost, IsSign}
use Rattle.audit_flows.specs.Lines.{same_address}
use Rattle.audit_flows.specs.{Address, V4, V6}
use Rattle.audit_flows.proofs.LinesLemmas.Endpoints.{is_same_address, address_itself}
use Rattle.audit_views.specs.Parties.{AreBytes, IsAddress, address_of, host_name}
use Rattle.audit_views.proofs.PartiesLemmas.Names.{ipv4_few, ipv4_signs, ipv4_some, ipv6_few, ipv6_signs, ipv6_some, same_segments, segments_fit, some_segments}

pub called_as_written : (a : IpAddr) → host_name (address_of a) ≡ ip_text a
called_as_written (Ip.V4 a) = refl
called_as_written (Ip.V6 a) = ap ipv6_text (same_segments _)

-- ---- the address that a name tells

abbrev ip_of : Address → IpAddr
ip_of (V4 bytes) = Ip.V4 (record { octets = bytes })
ip_of (V6 bytes) = Ip.V6 (record { segments = segments_of bytes })

-- the segments of so many bytes, two by two
segments_of_pairs : (n : ℕ) (o : List ℕ) → length o ≡ 2 * n → length (segments_of o) ≡ n
segments_of_pairs n [] is = omega (arith, is)
segments_of_pairs n (a ∷ []) is = absurd (omega (arith, is))
segments_of_pairs n (a ∷ b ∷ o) is =
    let more : length (segments_of o) ≡ n - 1 = segments_of_pairs (n - 1) o (omega (arith, is)) in
    omega (arith, is, more)

called_by : (a : Address) → IsAddress a → IsIpText (host_name a) (ip_of a)
called_by (V4 bytes) is = IsDotted-ipv4_text bytes is.0 is.1
called_by (V6 bytes) is = IsColonHex-ipv6_text (segments_of bytes) (segments_of_pairs 8 bytes is.0) (segments_fit bytes is.1)

same_bytes : (n : ℕ) (o : List ℕ) → length o ≡ 2 * n → AreBytes o → octets_of (segments_of o) ≡ o
same_bytes n [] is fits = refl
same_bytes n (a ∷ []) is fits = absurd (omega (arith, is))
same_bytes n (a ∷ b ∷ o) is fits =
    let more : octets_of (segments_of o) ≡ o = same_bytes (n - 1) o (omega (arith, is)) (λ j. fits (suc (suc j))) in
    let second : b < 2 ^ 8 = fits 1 in
    let high : (a * 256 + b) / 256 ≡ a = omega (arith, second) in
    let low : (a * 256 + b) % 256 ≡ b = omega (arith, second) in
    ap (λ (x : ℕ). x ∷ ((a * 256 + b) % 256) ∷ octets_of (segments_of o)) high ∙ ap (λ (x : ℕ). a ∷ x ∷ octets_of (segments_of o)) low ∙ ap (λ (l : List ℕ). a ∷ b ∷ l) more

abbrev address_in : IpAddr → Address
address_in (Ip.V4 a) = V4 a.octets
address_in (Ip.V6 a) = V6 (octets_of a.segments)

told_again : (a : Address) → IsAddress a → address_in (ip_of a) ≡ a
told_again (V4 bytes) is = refl
told_again (V6 bytes) is = ap V6 (same_bytes 8 bytes is.0 is.1)

one_called : (a b : Address) → IsAddress a → IsAddress b → host_name a ≡ host_name b → a ≡ b
one_called a b is_a is_b same =
    let one : ip_of a ≡ ip_of b = IsIpText_unique (host_name b) (ip_of a) (ip_of b) (subst (λ (text : List ℕ). IsIpText text (ip_of a)) same (called_by a is_a)) (called_by b is_b) in
    sym (told_again a is_a) ∙ ap address_in one ∙ told_again b is_b

pub called_one : (a b : Address) → IsAddress a → IsAddress b → (same_address a b ≡ true) ↔ (host_name a ≡ host_name b)
called_one a b is_a is_b = (
  λ same. ap host_name (is_same_address a b same),
  λ same. subst (λ (x : Address). same_address a x ≡ true) (one_called a b is_a is_b same) (address_itself a),
)

pub is_host : (a : Address) → IsAddress a → IsHost (host_name a)
is_host (V4 bytes) is = record {
  some = ipv4_some bytes;
  few = omega (arith, ipv4_few bytes is.1);
  signs = recursion_from_All IsSign (ipv4_text bytes) (ipv4_signs bytes is.1);
}
is_host (V6 bytes) is = record {
  some = ipv6_some (segments_of bytes) (some_segments bytes (omega (arith, is.0)));
  few = ipv6_few (segments_of bytes) (segments_of_pairs 8 bytes is.0) (segments_fit bytes is.1);
  signs = recursion_from_All IsSign (ipv6_text (segments_of bytes)) (ipv6_signs (segments_of bytes) (segments_fit bytes is.1));
}
