-- Parts for worked examples: ten bytes, cut at 8.
use Rattle.std.specs.Prelude.{[], ◌∷◌, true, false}
use Rattle.net_udp.specs.Fragments.Whole.{Content, Part}

-- the first part, whose fragment names UDP
abbrev pub first_of_udp : Part
first_of_udp = record { protocol = 17; place = 0; more = true; content = 1 ∷ 2 ∷ 3 ∷ 4 ∷ 5 ∷ 6 ∷ 7 ∷ 8 ∷ []; may_overlap = false }

-- the same, whose fragment names ICMP of IPv6
abbrev pub first_of_icmp : Part
first_of_icmp = record first_of_udp { protocol = 58 }

-- the last part, whose fragment does so too
abbrev pub last_of_icmp : Part
last_of_icmp = record { protocol = 58; place = 8; more = false; content = 9 ∷ 10 ∷ []; may_overlap = false }

-- a part that begins in the first one, and has the same bytes there
abbrev pub across_of_udp : Part
across_of_udp = record { protocol = 17; place = 4; more = false; content = 5 ∷ 6 ∷ 7 ∷ 8 ∷ 9 ∷ 10 ∷ []; may_overlap = false }

-- a part of IPv4 in its place
abbrev pub in_ipv4 : Part → Part
in_ipv4 p = record p { may_overlap = true }

-- all of it, of UDP
abbrev pub worked_content : Content
worked_content = record { protocol = 17; bytes = 1 ∷ 2 ∷ 3 ∷ 4 ∷ 5 ∷ 6 ∷ 7 ∷ 8 ∷ 9 ∷ 10 ∷ [] }
