-- Frames with a header that is not read, for worked examples, by Python's struct: tshark 4.0.17 names the same header in each.
use Rattle.std.specs.Prelude.{ℕ, List, [], ◌∷◌, ◌++◌, take, drop}
use Rattle.net_udp.specs.Frames.Worked.{enciphered, ipv4_authenticated, two_tags}
use Rattle.net_udp.specs.Frames.WorkedTunnels.{secured_head}

-- the head of a frame of MACsec behind two tags
abbrev pub secured_behind_tags : List ℕ
secured_behind_tags = take 20 two_tags ++ drop 12 secured_head

-- A binding refresh request (RFC 6275, section 6.1.2) behind destination options, from 2001:db8::7 to 2001:db8::1.
abbrev pub mobile : List ℕ
mobile = 96 ∷ 0 ∷ 0 ∷ 0 ∷ 0 ∷ 16 ∷ 60 ∷ 64 ∷ 32 ∷ 1 ∷ 13 ∷ 184 ∷ 0 ∷ 0 ∷ 0 ∷ 0 ∷ 0 ∷ 0 ∷ 0 ∷ 0 ∷ 0 ∷ 0 ∷ 0 ∷ 7 ∷ 32 ∷ 1 ∷ 13 ∷ 184 ∷ 0 ∷ 0 ∷ 0 ∷ 0 ∷ 0 ∷ 0 ∷ 0 ∷ 0 ∷ 0 ∷ 0 ∷ 0 ∷ 1 ∷ 135 ∷ 0 ∷ 1 ∷ 4 ∷ 0 ∷ 0 ∷ 0 ∷ 0 ∷ 59 ∷ 0 ∷ 0 ∷ 0 ∷ 104 ∷ 246 ∷ 0 ∷ 0 ∷ []

-- the packet that ESP enciphers, as the fragment of another: its first, which more follow
abbrev pub enciphered_part : List ℕ
enciphered_part = take 6 enciphered ++ 32 ∷ 0 ∷ 64 ∷ 50 ∷ 214 ∷ 44 ∷ drop 12 enciphered

-- ESP behind an authentication header
abbrev pub enciphered_authenticated : List ℕ
enciphered_authenticated = take 20 ipv4_authenticated ++ 50 ∷ drop 21 ipv4_authenticated
