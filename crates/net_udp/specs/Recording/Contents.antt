-- Of which frames a content is that was put together.
use Rattle.std.specs.Prelude.{◌≡◌, ◌⊎◌, ◌+◌, ℕ, true, List, [], ◌∷◌, length, map, reverse}
use Rattle.std.specs.List.{AllByRecursion}
use Rattle.net_udp.specs.Frames.{Packet}
use Rattle.net_udp.specs.declared.frames.packet.Fragment.{Fragment}
use Rattle.net_udp.specs.Fragments.{same_key, Arrival, parts_of, PutTogether}
use Rattle.net_udp.specs.Fragments.Whole.{Content}
use Rattle.net_udp.specs.declared.fragments.key.Key.{Key}
use Rattle.net_udp.specs.Recording.Brought.{IsPart, arrival_of, key_of}
use Rattle.net_udp.specs.Recording.History.{Step}

-- one of the frames brought the fragment, which is of the packet of that key
abbrev pub IsBrought : List Step → Key → Arrival → Type 0
IsBrought [] key a = ⊥
IsBrought (step ∷ before) key a =
    ((p : Packet) × (f : Fragment) × IsPart step.frame p f × (same_key key (key_of p f) ≡ true) × (a ≡ arrival_of step.frame (length before + 1) p f))
    ⊎ IsBrought before key a

-- the content is that of a packet: it is put together of fragments of one key, each of which one of the frames brought, and
-- these are the frames
pub record IsPutTogether (history : List Step) (content : Content) (frames : List ℕ) : Type 0 where
  pub key : Key
  pub arrivals : List Arrival
  pub brought : AllByRecursion (IsBrought history key) arrivals
  pub give : PutTogether (parts_of arrivals) content
  pub frames_are : frames ≡ reverse (map (λ a. a.frame) arrivals)
