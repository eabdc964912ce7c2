-- What becomes of the last fragment of a packet.
use Rattle.std.proofs.Common.{◌≡◌, ◌≢◌, ℕ, ◌≤◌, List, [], ◌∷◌, Option, Vec, Global, length, refl, arith}
use Rattle.net_udp.specs.declared.fragments.content.Content.{Content as Given}
use Rattle.net_udp.specs.Fragments.{AreSame, IsCutInto, content_of, Arrival, SetState, parts_of, IsKeptOf, PutEnds}
use Rattle.net_udp.specs.declared.fragments.outcome.Outcome.{Outcome}
use Rattle.net_udp.specs.declared.fragments.outcome.Outcome.TheVariants.{Waits, Apart, Empty, TooLong, Full}
use Rattle.net_udp.specs.declared.fragments.outcome.Outcome.TheVariants.{Whole}
use Rattle.net_udp.specs.Fragments.Whole.{Content, Part}
use Rattle.net_udp.proofs.FragmentsLemmas.Contents.{in_any_order, one_content}
use Rattle.net_udp.proofs.FragmentsLemmas.Distinct.{made_in_any_order}
use Rattle.net_udp.proofs.FragmentsLemmas.Sets.{none_made}

pub last_gives : (old new : Option SetState) (all : ℕ) (arrivals : List Arrival) (a : Arrival) (parts : List Part) (whole : Content) (outcome : Outcome)
    → IsCutInto whole parts → AreSame parts (parts_of (a ∷ arrivals)) → length whole.bytes ≤ 65535 → a.part.content ≢ [] → IsKeptOf old arrivals → PutEnds old new all a outcome → outcome ≢ Full
    → (content : Given) × (frames : Vec ℕ Global) × (outcome ≡ Whole content frames) × (content_of content ≡ whole)
last_gives old new all arrivals a parts whole Waits row same few some kept ends not_full = absurd (ends.1 arrivals whole kept (in_any_order parts (parts_of (a ∷ arrivals)) whole row same))
last_gives old new all arrivals a parts whole (Whole content frames) row same few some kept ends not_full =
    (content, frames, refl, one_content (parts_of (a ∷ arrivals)) (content_of content) whole (ends.1 arrivals kept).0 (in_any_order parts (parts_of (a ∷ arrivals)) whole row same))
last_gives old new all arrivals a parts whole (Apart frames) row same few some kept ends not_full =
    absurd (none_made (parts_of (a ∷ arrivals)) whole (ends.2 arrivals kept) (made_in_any_order parts (parts_of (a ∷ arrivals)) whole row same))
last_gives old new all arrivals a parts whole Empty row same few some kept ends not_full = absurd (some ends.1)
last_gives old new all arrivals a parts whole TooLong row same few some kept ends not_full =
    let long = ends.1 whole (in_any_order parts (parts_of (a ∷ arrivals)) whole row same).each.0 in absurd (omega (arith, long, few))
last_gives old new all arrivals a parts whole Full row same few some kept ends not_full = absurd (not_full refl)
