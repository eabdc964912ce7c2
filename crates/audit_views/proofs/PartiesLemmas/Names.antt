-- The text of an address names a host: 1 sign at least, and signs only.
use Rattle.std.proofs.Common.{◌≡◌, ℕ, zero, suc, ◌+◌, ◌*◌, ◌/◌, ◌%◌, ◌^◌, ◌<◌, ◌≤◌, Bool, List, [], ◌∷◌, ◌++◌, get_or, length, take, drop, decimal, refl, arith, inl, inr, ap, sym, subst, ◌∙◌, length-append, length-drop, length-take-le, codes, flat_map, nat_lt}
use Rattle.std.proofs.lemmas.Fmt.{length-decimal-le}
use Rattle.std.specs.List.{All}
use Rattle.std.specs.Str.{bytes_eq}
use Rattle.std.proofs.lemmas.Bool.Decides.{nat_tests}
use Rattle.std.specs.Char.{digit_char}
use Rattle.std.specs.declared.net.ip_addr.IpAddr.{IpAddr}
use Rattle.std.specs.declared.net.ip_addr.IpAddr.TheVariants.{V4, V6}
use Rattle.std.specs.Net.Addr.{ipv4_octets, ipv6_segments, octets_of, segments_of, IsV4And, IsV6And}
use Rattle.std.specs.Net.Text.{ipv4_text, ipv6_text, ip_text, hex, groups_text, compressed_text, hex_groups_text, leading_zero_digits, longest_zero_run}
use Rattle.std.proofs.lemmas.Bool.{cond_both, ltb-true}
use Rattle.std.proofs.lemmas.List.Elements.{All-append, All-from_recursion}
use Rattle.std.proofs.NetLemmas.Alphabet.{IsDigitOrDot, IsHexOrColon, All-ipv4_text, All-hex_groups_text}
use Rattle.std.proofs.NetLemmas.Texts.{AllSegments, AllSegments-drop, IsZeroRun-longest_zero_run}
use Rattle.tftp_packet.specs.Hosts.{IsSign}

digit_is_sign : (b : ℕ) → IsDigitOrDot b → IsSign b
digit_is_sign b (inl d) = omega (arith, d)
digit_is_sign b (inr dot) = omega (arith, dot)

hex_is_sign : (b : ℕ) → IsHexOrColon b → IsSign b
hex_is_sign b (inl d) = omega (arith, d)
hex_is_sign b (inr h) = omega (arith, h)

pub ipv4_signs : (o : List ℕ) → ((k : ℕ) → get_or o k 0 < 2 ^ 8) → All IsSign (ipv4_text o)
ipv4_signs o fits k d lt = digit_is_sign _ (All-ipv4_text o fits k d lt)

groups_signs : (s : List ℕ) → AllSegments s → All IsSign (hex_groups_text s)
groups_signs s fits k d lt = hex_is_sign _ (All-hex_groups_text s fits k d lt)

-- ---- one sign at least

some_before : (xs ys : List ℕ) → 1 ≤ length xs → 1 ≤ length (xs ++ ys)
some_before xs ys some = omega (arith, some, length-append xs ys)

some_after : (xs ys : List ℕ) → 1 ≤ length ys → 1 ≤ length (xs ++ ys)
some_after xs ys some = omega (arith, some, length-append xs ys)

some_between : (xs ys zs : List ℕ) → 1 ≤ length ys → 1 ≤ length (xs ++ ys ++ zs)
some_between xs ys zs some = some_before (xs ++ ys) zs (some_after xs ys some)

pub ipv4_some : (o : List ℕ) → 1 ≤ length (ipv4_text o)
ipv4_some o = some_before (decimal (get_or o 0 0) ++ codes "." ++ decimal (get_or o 1 0) ++ codes "." ++ decimal (get_or o 2 0) ++ codes ".") (decimal (get_or o 3 0))
    (some_after (decimal (get_or o 0 0) ++ codes "." ++ decimal (get_or o 1 0) ++ codes "." ++ decimal (get_or o 2 0)) (codes ".") (omega arith))

zeros_few : (n : ℕ) → leading_zero_digits n ≤ 3
zeros_few n = grind (arith, nat_tests)

hex_some : (n : ℕ) → 1 ≤ length (hex n)
unfolding hex
hex_some n = omega (arith, zeros_few n, length-drop (leading_zero_digits n) (digit_char (n / 0x1000) ∷ digit_char (n / 0x100 % 16) ∷ digit_char (n / 0x10 % 16) ∷ digit_char (n % 16) ∷ []))

groups_some : (x : ℕ) (s : List ℕ) (run : ℕ × ℕ) → 1 ≤ length (compressed_text (x ∷ s) run)
groups_some x s run = cond_both (nat_lt 1 run.1) (groups_text (take run.0 (x ∷ s)) ++ codes "::" ++ groups_text (drop (run.0 + run.1) (x ∷ s))) (groups_text (x ∷ s)) (λ (t : List ℕ). 1 ≤ length t)
    (λ _. some_between (groups_text (take run.0 (x ∷ s))) (codes "::") (groups_text (drop (run.0 + run.1) (x ∷ s))) (omega arith))
    (λ _. some_before (hex x) (flat_map (λ t. codes ":" ++ hex t) s) (hex_some x))

hex_groups_some : (s : List ℕ) → 1 ≤ length s → 1 ≤ length (hex_groups_text s)
unfolding hex_groups_text
hex_groups_some [] none = absurd (omega (arith, none))
hex_groups_some (x ∷ s) some = groups_some x s (longest_zero_run (x ∷ s))

abbrev is_mapped : List ℕ → Bool
is_mapped s = bytes_eq (take 6 s) (0 ∷ 0 ∷ 0 ∷ 0 ∷ 0 ∷ 0xffff ∷ [])

abbrev mapped_text : List ℕ → List ℕ
mapped_text s = codes "::ffff:" ++ ipv4_text (octets_of (drop 6 s))

pub ipv6_some : (s : List ℕ) → 1 ≤ length s → 1 ≤ length (ipv6_text s)
unfolding ipv6_text
ipv6_some s some = cond_both (is_mapped s) (mapped_text s) (hex_groups_text s) (λ (t : List ℕ). 1 ≤ length t) (λ _. omega arith) (λ _. hex_groups_some s some)

-- ---- numbers that fit

pub segments_fit : (o : List ℕ) → ((k : ℕ) → get_or o k 0 < 2 ^ 8) → AllSegments (segments_of o)
segments_fit [] fits k = omega arith
segments_fit (a ∷ []) fits k = omega arith
segments_fit (a ∷ b ∷ o) fits k =
    let first = fits 0 in
    let second = fits 1 in
    let later = segments_fit o (λ j. fits (suc (suc j))) in
    elim k as (λ j. get_or ((a * 256 + b) ∷ segments_of o) j 0 < 2 ^ 16) [ zero ↦ omega (arith, first, second) | suc j ↦ later j ]

octets_fit : (s : List ℕ) → AllSegments s → (k : ℕ) → get_or (octets_of s) k 0 < 2 ^ 8
octets_fit [] fits k = omega arith
octets_fit (x ∷ s) fits k =
    let first : x < 2 ^ 16 = fits 0 in
    let later = octets_fit s (λ j. fits (suc j)) in
    elim k as (λ j. get_or (x / 256 ∷ x % 256 ∷ octets_of s) j 0 < 2 ^ 8) [
      | zero ↦ omega (arith, first)
      | suc j ↦ elim j as (λ j. get_or (x % 256 ∷ octets_of s) j 0 < 2 ^ 8) [ zero ↦ omega arith | suc j ↦ later j ]
    ]

mapped_signs : All IsSign (58 ∷ 58 ∷ 102 ∷ 102 ∷ 102 ∷ 102 ∷ 58 ∷ [])
mapped_signs = All-from_recursion IsSign (58 ∷ 58 ∷ 102 ∷ 102 ∷ 102 ∷ 102 ∷ 58 ∷ []) (omega arith)

pub ipv6_signs : (s : List ℕ) → AllSegments s → All IsSign (ipv6_text s)
unfolding ipv6_text
ipv6_signs s fits =
    let inner = ipv4_signs (octets_of (drop 6 s)) (octets_fit (drop 6 s) (AllSegments-drop 6 s fits)) in
    cond_both (is_mapped s) (mapped_text s) (hex_groups_text s) (λ (t : List ℕ). All IsSign t)
    (λ _. All-append IsSign (58 ∷ 58 ∷ 102 ∷ 102 ∷ 102 ∷ 102 ∷ 58 ∷ []) (ipv4_text (octets_of (drop 6 s))) mapped_signs inner)
    (λ _. groups_signs s fits)

-- ---- 45 signs at most

decimal_few : (n : ℕ) → n < 2 ^ 8 → length (decimal n) ≤ 3
decimal_few n fits = length-decimal-le 3 n (omega arith) (omega arith) (omega (arith, fits))

dotted_few : (a b c d : List ℕ) → length a ≤ 3 → length b ≤ 3 → length c ≤ 3 → length d ≤ 3
    → length (a ++ codes "." ++ b ++ codes "." ++ c ++ codes "." ++ d) ≤ 15
dotted_few a b c d = grind (arith, length-append)

pub ipv4_few : (o : List ℕ) → ((k : ℕ) → get_or o k 0 < 2 ^ 8) → length (ipv4_text o) ≤ 15
ipv4_few o fits = dotted_few (decimal (get_or o 0 0)) (decimal (get_or o 1 0)) (decimal (get_or o 2 0)) (decimal (get_or o 3 0))
    (decimal_few _ (fits 0)) (decimal_few _ (fits 1)) (decimal_few _ (fits 2)) (decimal_few _ (fits 3))

hex_few : (n : ℕ) → length (hex n) ≤ 4
unfolding hex
hex_few n = omega (arith, length-drop (leading_zero_digits n) (digit_char (n / 0x1000) ∷ digit_char (n / 0x100 % 16) ∷ digit_char (n / 0x10 % 16) ∷ digit_char (n % 16) ∷ []))

more_few : (s : List ℕ) → length (flat_map (λ t. codes ":" ++ hex t) s) ≤ 5 * length s
more_few [] = omega arith
more_few (x ∷ s) = omega (arith, length-append (hex x) (flat_map (λ t. codes ":" ++ hex t) s), hex_few x, more_few s)

groups_few : (s : List ℕ) → length (groups_text s) ≤ 5 * length s
groups_few [] = omega arith
groups_few (x ∷ s) = omega (arith, length-append (hex x) (flat_map (λ t. codes ":" ++ hex t) s), hex_few x, more_few s)

parted_few : (head tail : List ℕ) → length head + length tail ≤ 7 → length (groups_text head ++ codes "::" ++ groups_text tail) ≤ 40
parted_few head tail few = omega (arith, few, groups_few head, groups_few tail, length-append (groups_text head ++ codes "::") (groups_text tail), length-append (groups_text head) (codes "::"))

compressed_few : (s : List ℕ) (run : ℕ × ℕ) → length s ≡ 8 → run.0 + run.1 ≤ 8 → length (compressed_text s run) ≤ 40
compressed_few s run eight within = cond_both (nat_lt 1 run.1) (groups_text (take run.0 s) ++ codes "::" ++ groups_text (drop (run.0 + run.1) s)) (groups_text s) (λ (t : List ℕ). length t ≤ 40)
    (λ long. parted_few (take run.0 s) (drop (run.0 + run.1) s)
    (omega (arith, eight, within, ltb-true 1 run.1 long, length-take-le run.0 s (omega (arith, eight, within)), length-drop (run.0 + run.1) s)))
    (λ _. omega (arith, groups_few s, eight))

hex_groups_few : (s : List ℕ) → length s ≡ 8 → length (hex_groups_text s) ≤ 40
unfolding hex_groups_text
hex_groups_few s eight = compressed_few s (longest_zero_run s) eight (omega (arith, eight, (IsZeroRun-longest_zero_run s).0))

pub ipv6_few : (s : List ℕ) → length s ≡ 8 → AllSegments s → length (ipv6_text s) ≤ 45
unfolding ipv6_text
ipv6_few s eight fits = cond_both (is_mapped s) (mapped_text s) (hex_groups_text s) (λ (t : List ℕ). length t ≤ 45)
    (λ _. omega (arith, ipv4_few (octets_of (drop 6 s)) (octets_fit (drop 6 s) (AllSegments-drop 6 s fits))))
    (λ _. omega (arith, hex_groups_few s eight))

-- ---- an address of bytes

pub v4_signs : (ip : IpAddr) (o : List ℕ) → IsV4And ip (λ a. ipv4_octets a ≡ o) → ((k : ℕ) → get_or o k 0 < 2 ^ 8) → All IsSign (ip_text ip)
v4_signs (V4 a) o is fits = subst (λ (o : List ℕ). All IsSign (ipv4_text o)) (sym is) (ipv4_signs o fits)
v4_signs (V6 a) o is fits = absurd is

pub v6_signs : (ip : IpAddr) (o : List ℕ) → IsV6And ip (λ a. ipv6_segments a ≡ segments_of o) → ((k : ℕ) → get_or o k 0 < 2 ^ 8) → All IsSign (ip_text ip)
v6_signs (V4 a) o is fits = absurd is
v6_signs (V6 a) o is fits = subst (λ (s : List ℕ). All IsSign (ipv6_text s)) (sym is) (ipv6_signs (segments_of o) (segments_fit o fits))

pub some_segments : (o : List ℕ) → 2 ≤ length o → 1 ≤ length (segments_of o)
some_segments [] none = absurd (omega (arith, none))
some_segments (a ∷ []) one = absurd (omega (arith, one))
some_segments (a ∷ b ∷ o) two = omega arith

pub v6_some : (ip : IpAddr) (o : List ℕ) → IsV6And ip (λ a. ipv6_segments a ≡ segments_of o) → length o ≡ 16 → 1 ≤ length (ip_text ip)
v6_some (V4 a) o is sixteen = absurd is
v6_some (V6 a) o is sixteen = subst (λ (s : List ℕ). 1 ≤ length (ipv6_text s)) (sym is) (ipv6_some (segments_of o) (some_segments o (omega (arith, sixteen))))

-- two bytes of a segment are that segment again
pub same_segments : (s : List ℕ) → segments_of (octets_of s) ≡ s
same_segments [] = refl
same_segments (x ∷ s) =
    let first : x / 256 * 256 + x % 256 ≡ x = omega arith in
    ap (λ (y : ℕ). y ∷ segments_of (octets_of s)) first ∙ ap (λ (t : List ℕ). x ∷ t) (same_segments s)
