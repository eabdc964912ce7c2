-- What waits under each key, and what becomes of a fragment.
use Rattle.std.specs.Prelude.{◌≡◌, ◌≢◌, ℕ, ◌+◌, ◌-◌, ◌*◌, ◌<◌, ◌≤◌, ◌||◌, nat_lt, Bool, true, false, List, [], ◌∷◌, ◌++◌, length, Option, Some, None}
use Rattle.std.specs.List.{sum_by}
use Rattle.std.specs.Map.{lookup, values_of}
use Rattle.net_udp.specs.declared.fragments.key.Key.{Key}
use Rattle.net_udp.specs.declared.fragments.outcome.Outcome.{Outcome}
use Rattle.net_udp.specs.declared.fragments.outcome.Outcome.TheVariants.{Waits, Whole, Apart, Empty, TooLong, Full}
use Rattle.net_udp.specs.declared.fragments.fragments.Joined.{Joined}
use Rattle.net_udp.specs.declared.fragments.fragments.Joined.TheVariants as joined
use Rattle.net_udp.specs.Fragments.Whole.{Content, Give, HasPart, Part, end_of}
use Rattle.net_udp.specs.Fragments.Overlaps.{PutTogether}
use Rattle.net_udp.specs.Fragments.Pieces.{IsComplete, content_of}
use Rattle.net_udp.specs.Fragments.Key.{same_key}
use Rattle.net_udp.specs.Fragments.Set.{Arrival, AreNone, IsSetOf, MayJoin, SetState, TakeEnds, parts_of, room_of}

-- what waits, by its keys
abbrev pub Sets : Type 0
Sets = List (Key × SetState)

abbrev pub set_at : Key → Sets → Option SetState
set_at key sets = lookup (same_key key) sets

-- for how many bytes all that waits is counted
abbrev pub room_of_all : Sets → ℕ
room_of_all sets = sum_by room_of (values_of sets)

-- the most of them: 64 MB
abbrev pub most_room : ℕ
most_room = 67108864

-- for how many bytes what waits under a key is counted
abbrev pub room_under : Option SetState → ℕ
room_under None = 0
room_under (Some s) = room_of s

-- what waits under the key is counted as it is now, and all else as before
abbrev pub CountsAt : Key → Sets → Sets → Type 0
CountsAt key old new = room_of_all new + room_under (set_at key old) ≡ room_of_all old + room_under (set_at key new)

-- where so many bytes wait there is room for the part: it is counted for at most 276 more than two for each byte
abbrev pub HasRoom : ℕ → Part → Type 0
HasRoom all p = all + (2 * end_of p + 276) ≤ most_room

-- there is none
abbrev pub IsFull : ℕ → Part → Type 0
IsFull all p = most_room < all + (2 * end_of p + 276)

-- how many bytes wait is counted, and they are not too many
pub record IsCounted (sets : Sets) (counted : ℕ) : Type 0 where
  pub counts : counted ≡ room_of_all sets
  pub few : counted ≤ most_room

-- more than 30 s lie between the two times, where both are known
abbrev pub is_long : Option ℕ → Option ℕ → Bool
is_long (Some began) (Some time) = nat_lt 30000000000 (time - began) || nat_lt 30000000000 (began - time)
is_long None time = false
is_long (Some began) None = false

-- when the first of the fragments came, the last one standing first
abbrev pub began_of : List Arrival → Option ℕ
began_of [] = None
began_of (a ∷ []) = a.time
began_of (a ∷ b ∷ before) = began_of (b ∷ before)

-- what is kept under a key is that of these fragments, the last one first
abbrev pub IsKeptOf : Option SetState → List Arrival → Type 0
IsKeptOf None arrivals = arrivals ≡ []
IsKeptOf (Some s) arrivals = (arrivals ≢ []) × (s.began ≡ began_of arrivals) × IsSetOf s arrivals

-- the frames that wait under a key
abbrev pub frames_of : Option SetState → List ℕ
frames_of None = []
frames_of (Some s) = s.frames

-- a fragment comes to those that wait under its key, or is the first there
abbrev pub Comes : Option SetState → Option SetState → Arrival → Type 0
Comes old new a = (arrivals : List Arrival) → IsKeptOf old arrivals → IsKeptOf new (a ∷ arrivals)

-- what becomes of a fragment, and of what waits under its key; so many bytes waited under all keys
abbrev pub PutEnds : Option SetState → Option SetState → ℕ → Arrival → Outcome → Type 0
PutEnds old new all a Waits = Comes old new a × ((arrivals : List Arrival) (whole : Content) → IsKeptOf old arrivals → Give (parts_of (a ∷ arrivals)) whole → ⊥) × (frames_of new ≡ frames_of old ++ a.frame ∷ [])
PutEnds old new all a (Whole content frames) = (new ≡ None) × ((arrivals : List Arrival) → IsKeptOf old arrivals → PutTogether (parts_of (a ∷ arrivals)) (content_of content)) × (frames.items ≡ frames_of old ++ a.frame ∷ [])
PutEnds old new all a (Apart frames) = Comes old new a × (frames.items ≡ frames_of old) × ((arrivals : List Arrival) → IsKeptOf old arrivals → AreNone (parts_of (a ∷ arrivals))) × (frames_of new ≡ [])
PutEnds old new all a Empty = (new ≡ old) × (a.part.content ≡ [])
PutEnds old new all a TooLong = (new ≡ old) × ((whole : Content) → HasPart whole a.part → 65535 < length whole.bytes)
PutEnds old new all a Full = (new ≡ old) × IsFull all a.part × (end_of a.part ≤ 65535)

-- how many bytes the part's packet has behind it at least
abbrev pub least_behind : Bool → ℕ
least_behind true = 1
least_behind false = 0

-- the part brings bytes, and its packet may be of 65,535 bytes at most
abbrev pub MayBePut : Part → Type 0
MayBePut p = (1 ≤ length p.content) × (end_of p + least_behind p.more ≤ 65535)

-- what is told of a part by itself comes first: that it brings no byte, and then that its packet would be too long; and
-- then whether there is room, where so many bytes wait
abbrev pub IsTried : ℕ → Part → Outcome → Type 0
IsTried all p Waits = MayBePut p × HasRoom all p
IsTried all p (Whole content frames) = MayBePut p × HasRoom all p
IsTried all p (Apart frames) = MayBePut p × HasRoom all p
IsTried all p Empty = p.content ≡ []
IsTried all p TooLong = (1 ≤ length p.content) × (65535 < end_of p + least_behind p.more)
IsTried all p Full = MayBePut p × IsFull all p

-- memory is wanted only for a fragment that is taken: it brings bytes, its packet may be as long, there is room for it, and
-- it may come to those that wait
pub record WantsMemory (old : Option SetState) (all : ℕ) (p : Part) : Type 0 where
  pub some : 1 ≤ length p.content
  pub short : end_of p ≤ 65535
  pub room : HasRoom all p
  pub agrees : (s : SetState) → old ≡ Some s → (s.spoiled ≡ false) × MayJoin s p

-- the same of a fragment that comes to a set that waits, or to none
abbrev pub JoinEnds : Option SetState → Option SetState → Part → ℕ → Joined → Type 0
JoinEnds old new part frame joined.NoSet = (old ≡ None) × (new ≡ None)
JoinEnds old new part frame joined.Waits = (s t : SetState) × (old ≡ Some s) × (new ≡ Some t) × (t.began ≡ s.began) × TakeEnds s t part frame None × (IsComplete t.held → ⊥)
JoinEnds old new part frame joined.Whole = (s t : SetState) × (old ≡ Some s) × (new ≡ Some t) × (t.began ≡ s.began) × TakeEnds s t part frame None × IsComplete t.held
JoinEnds old new part frame (joined.Apart frames) = (s t : SetState) × (old ≡ Some s) × (new ≡ Some t) × (t.began ≡ s.began) × TakeEnds s t part frame (Some frames)
