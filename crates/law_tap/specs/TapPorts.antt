-- What the ports of a tap keep of the datagrams that have passed: not the datagrams, but from where to where they went (RFC
-- 1350, section 4).
use Rattle.std.specs.Prelude.{◌≡◌, ◌&&◌, Bool, List}
use Rattle.std.specs.List.{list_any}
use Rattle.std.specs.declared.cmp.Ordering.{Ordering}
use Rattle.std.specs.Ordering.{on, then_cmp}
use Rattle.tftp_packet.specs.Hosts.{same_peer, peer_cmp}
use Rattle.law_tap.specs.TapCapture.{PeerId, TapDatagram, TapSides}
use Rattle.law_tap.specs.TapRoutes.{has_gone}

-- from where, and to where
pub record WayIds : Type 0 where
  pub from : PeerId
  pub to : PeerId

abbrev pub same_way : WayIds → WayIds → Bool
same_way one other = same_peer one.from other.from && same_peer one.to other.to

-- an order of ways
abbrev pub way_cmp : WayIds → WayIds → Ordering
way_cmp = then_cmp (on (λ w. w.from) peer_cmp) (on (λ w. w.to) peer_cmp)

abbrev pub is_noted : WayIds → List WayIds → Bool
is_noted way ways = list_any (same_way way) ways

-- the sides of the transfer, and the ways that datagrams went
pub record KnownWays : Type 0 where
  pub sides : TapSides
  pub ways : List WayIds

-- These are the sides, and a way is noted exactly if something has gone that way.
pub record StandsForTap (known : KnownWays) (s : TapSides) (earlier : List TapDatagram) : Type 0 where
  pub sides : known.sides ≡ s
  pub ways : (way : WayIds) → is_noted way known.ways ≡ has_gone way.from way.to earlier
