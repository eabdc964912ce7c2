-- What stands between a type, in a link's header or in that of a tunnel, and what is carried: tags, LLC, PPPoE, labels, and a frame
-- of Ethernet. Each of them says which type follows it, if it is read.
use Rattle.std.specs.Prelude.{◌≡◌, ◌≤◌, ◌/◌, ◌%◌, ◌==◌, ◌||◌, ◌&&◌, nat_le, ℕ, zero, suc, Bool, true, false, List, length, drop, Option, Some, None, if◌then◌else◌}
use Rattle.net_udp.specs.Frames.Number.{at, pair}

-- the types of a tag: 0x8100 (IEEE 802.1Q), 0x88a8 (IEEE 802.1ad) and 0x9100, which was used before it
abbrev pub is_tag_type : ℕ → Bool
is_tag_type n = n == 33024 || n == 34984 || n == 37120

-- 0x8864 is the type of PPPoE in a session (RFC 2516, section 4)
abbrev pub is_session : ℕ → Bool
is_session n = n == 34916

-- 0x8847 and 0x8848 are the types of MPLS (RFC 3032, section 5; RFC 5332, section 3)
abbrev pub is_labelled : ℕ → Bool
is_labelled n = n == 34887 || n == 34888

-- 0x6558 is the type of a frame of Ethernet (RFC 1701, section 3)
abbrev pub is_bridged : ℕ → Bool
is_bridged n = n == 25944

-- 0x892f is the type of the tag of HSR (IEC 62439-3), 0xf1c1 that of FRER (IEEE 802.1CB): a number, by which a node knows the frame
-- when it comes again on another path
abbrev pub is_numbered : ℕ → Bool
is_numbered n = n == 35119 || n == 61889

-- Types behind which a packet may stand that is not read: 0x88e5 of MACsec (IEEE 802.1AE), whose frames may be enciphered, 0x88e7
-- (IEEE 802.1ah), 0x893f (IEEE 802.1BR), 0x22f3 of TRILL (RFC 6325), 0x894f of NSH (RFC 8300), and 0xdada, which Linux gives the tags of
-- Marvell's switches.
abbrev pub is_sealed : ℕ → Bool
is_sealed n = (n == 35045 || n == 35047 || n == 35135) || (n == 8947 || n == 35151 || n == 56026)

-- the byte at the place is this one, if it is there
abbrev pub is_said : List ℕ → ℕ → ℕ → Bool
is_said bytes place n = nat_le (length bytes) place || (at bytes place == n)

-- A type up to 1500 is a length, behind which LLC stands (IEEE 802.3, clause 3.2.6). It names a type where it is SNAP with the
-- organization 0 (IEEE 802.2; RFC 1042).
abbrev pub is_snap : ℕ → List ℕ → Bool
is_snap type bytes = nat_le type 1500 && ((is_said bytes 0 170 && is_said bytes 1 170 && is_said bytes 2 3) && (is_said bytes 3 0 && is_said bytes 4 0 && is_said bytes 5 0))

-- behind the type stands one of them
abbrev pub is_shim : ℕ → List ℕ → Bool
is_shim type bytes = (is_tag_type type || is_session type || is_labelled type || is_bridged type || is_snap type bytes) || (is_numbered type || is_sealed type)

-- A tag and a label have 4 bytes, a tag with a number 6, Ethernet has 14, PPPoE has 6 and PPP in it 2, LLC with SNAP has 8.
abbrev pub shim_size : ℕ → ℕ
shim_size type = if is_tag_type type || is_labelled type then 4 else (if is_numbered type then 6 else (if is_bridged type then 14 else 8))

-- 0x0021 is IPv4 in PPP (RFC 1332), and 0x0057 IPv6 (RFC 5072). What begins at 0x4000 carries no datagrams of a network (RFC
-- 1661, section 2): it is of a type that is none of these here, 0xffff. What compresses, enciphers or parts datagrams is not read.
abbrev pub ppp_type : ℕ → Option ℕ
ppp_type n = if n == 33 then Some 2048 else (if n == 87 then Some 34525 else (if nat_le 16384 n && (n / 256 % 2 == 0) then Some 65535 else None))

-- version 1, type 1 and code 0 (RFC 2516, section 4)
abbrev pub session_type : List ℕ → Option ℕ
session_type bytes = if pair bytes 0 == 4352 then ppp_type (pair bytes 6) else None

-- The last bit of a label's third byte says that it is the last one (RFC 3032, section 2.1). Behind that the version tells IPv4
-- from IPv6, and nothing else is read (RFC 4928, section 3).
abbrev pub label_type : ℕ → List ℕ → Option ℕ
label_type type bytes =
    if at bytes 2 % 2 == 0 then Some type
    else (if at bytes 4 / 16 == 4 then Some 2048 else (if at bytes 4 / 16 == 6 then Some 34525 else None))

-- the type that it names; none where it is not read
abbrev pub next_type : ℕ → List ℕ → Option ℕ
next_type type bytes =
    if is_tag_type type then Some (pair bytes 2)
    else (if is_session type then session_type bytes
    else (if is_labelled type then label_type type bytes
    else (if is_numbered type then Some (pair bytes 4)
    else (if is_sealed type then None
    else (if is_bridged type then Some (pair bytes 12)
    else Some (pair bytes 6))))))

-- behind the type stands one of them, whole, which names the next type
abbrev pub IsOver : ℕ → List ℕ → ℕ → Type 0
IsOver type bytes next = (is_shim type bytes ≡ true) × (shim_size type ≤ length bytes) × (next_type type bytes ≡ Some next)

-- after a type stand so many of them, and then the last type and the content
abbrev pub LeadsOver : ℕ → ℕ → List ℕ → ℕ → List ℕ → Type 0
LeadsOver zero type bytes last content = (is_shim type bytes ≡ false) × (last ≡ type) × (content ≡ bytes)
LeadsOver (suc shims) type bytes last content = (next : ℕ) × IsOver type bytes next × LeadsOver shims next (drop (shim_size type) bytes) last content

-- after a type, over any number of them
abbrev pub LeadsTo : ℕ → List ℕ → ℕ → List ℕ → Type 0
LeadsTo type bytes last content = (shims : ℕ) × LeadsOver shims type bytes last content
