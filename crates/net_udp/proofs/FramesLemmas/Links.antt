-- A frame of a link carries one thing.
use Rattle.std.proofs.Common.{◌≡◌, ℕ, ◌≤◌, List, length, drop, sym, ap, subst, ◌∙◌, Option, Some, None, MatchOption}
use Rattle.net_udp.specs.Frames.{pair, least, Linked, CarriesTyped, Carries, SpellsLink, direction_said, type_network, linked}
use Rattle.net_udp.specs.declared.frames.link.LinkType.{LinkType}
use Rattle.net_udp.specs.declared.frames.link.LinkType.TheVariants.{Ethernet, Cooked, CookedTwo}
use Rattle.net_udp.specs.declared.frames.link.LinkContent.{LinkContent}
use Rattle.net_udp.specs.declared.frames.packet.Direction.{Direction}
use Rattle.net_udp.proofs.FramesLemmas.Tags.{leads_one}

-- an answer of one function, made that of another
pub answer_of : {X : Type 0} (r : Option X) (A B : Type 0) (P Q : X → Type 0) → (A → B) → ((x : X) → P x → Q x) → MatchOption r A P → MatchOption r B Q
answer_of None A B P Q f g m = f m
answer_of (Some x) A B P Q f g m = g x m

abbrev pub Answers : LinkType → List ℕ → Option LinkContent → Type 0
Answers link frame r = MatchOption r ((c : Linked) → SpellsLink link frame c → ⊥) (λ found. SpellsLink link frame (linked found))

abbrev pub AnswersTyped : ℕ → List ℕ → Direction → Option LinkContent → Type 0
AnswersTyped kind after direction r = MatchOption r ((c : Linked) → CarriesTyped kind after c → ⊥) (λ found. CarriesTyped kind after (linked found) × (found.direction ≡ direction))

-- a link with a type, and what it carries
typed : (link : LinkType) (frame : List ℕ) (kind : ℕ) (after : List ℕ) (direction : Direction) (r : Option LinkContent)
    → ((c : Linked) → Carries link frame c → CarriesTyped kind after c) → ((c : Linked) → CarriesTyped kind after c → Carries link frame c)
    → direction ≡ direction_said link frame → least link ≤ length frame → AnswersTyped kind after direction r → Answers link frame r
typed link frame kind after direction r down up said long =
    answer_of r _ _ _ _ (λ none c s. none c (down c s.2)) (λ found s. (long, s.1 ∙ said, up (linked found) s.0))

-- the same of what was read
pub as_read : (kind type : ℕ) (after bytes : List ℕ) (direction : Direction) (r : Option LinkContent) → kind ≡ type → after ≡ bytes → AnswersTyped kind after direction r → AnswersTyped type bytes direction r
as_read kind type after bytes direction r kind_is after_is answers =
    subst (λ (n : ℕ). AnswersTyped n bytes direction r) kind_is (subst (λ (x : List ℕ). AnswersTyped kind x direction r) after_is answers)

pub ethernet : (link : LinkType) (frame : List ℕ) (kind : ℕ) (after : List ℕ) (direction : Direction) (r : Option LinkContent) → link ≡ Ethernet → kind ≡ pair frame 12 → after ≡ drop 14 frame
    → direction ≡ direction_said Ethernet frame → least link ≤ length frame → AnswersTyped kind after direction r → Answers link frame r
ethernet link frame kind after direction r is kind_is after_is said long answers =
    subst (λ (l : LinkType). Answers l frame r) (sym is)
    (typed Ethernet frame (pair frame 12) (drop 14 frame) direction r (λ c s. s) (λ c s. s) said (subst (λ (l : LinkType). least l ≤ length frame) is long) (as_read kind _ after _ direction r kind_is after_is answers))

pub cooked : (link : LinkType) (frame : List ℕ) (kind : ℕ) (after : List ℕ) (direction : Direction) (r : Option LinkContent) → link ≡ Cooked → kind ≡ pair frame 14 → after ≡ drop 16 frame
    → direction ≡ direction_said Cooked frame → least link ≤ length frame → AnswersTyped kind after direction r → Answers link frame r
cooked link frame kind after direction r is kind_is after_is said long answers =
    subst (λ (l : LinkType). Answers l frame r) (sym is)
    (typed Cooked frame (pair frame 14) (drop 16 frame) direction r (λ c s. s) (λ c s. s) said (subst (λ (l : LinkType). least l ≤ length frame) is long) (as_read kind _ after _ direction r kind_is after_is answers))

pub cooked_two : (link : LinkType) (frame : List ℕ) (kind : ℕ) (after : List ℕ) (direction : Direction) (r : Option LinkContent) → link ≡ CookedTwo → kind ≡ pair frame 0 → after ≡ drop 20 frame
    → direction ≡ direction_said CookedTwo frame → least link ≤ length frame → AnswersTyped kind after direction r → Answers link frame r
cooked_two link frame kind after direction r is kind_is after_is said long answers =
    subst (λ (l : LinkType). Answers l frame r) (sym is)
    (typed CookedTwo frame (pair frame 0) (drop 20 frame) direction r (λ c s. s) (λ c s. s) said (subst (λ (l : LinkType). least l ≤ length frame) is long) (as_read kind _ after _ direction r kind_is after_is answers))

-- ---- one thing is carried

abbrev pub Same : Linked → Linked → Type 0
Same c d = (c.network ≡ d.network) × (c.content ≡ d.content)

pub typed_one : (type : ℕ) (after : List ℕ) (c d : Linked) → CarriesTyped type after c → CarriesTyped type after d → Same c d
typed_one type after c d (last, leads, network) (final, ends, other) =
    let same = leads_one type after last final c.content d.content leads ends in
    (network ∙ ap type_network same.0 ∙ sym other, same.1)

carries_one : (link : LinkType) (frame : List ℕ) (c d : Linked) → Carries link frame c → Carries link frame d → Same c d
carries_one Ethernet frame c d p q = typed_one _ _ c d p q
carries_one Cooked frame c d p q = typed_one _ _ c d p q
carries_one CookedTwo frame c d p q = typed_one _ _ c d p q
carries_one _ frame c d p q = (p.0 ∙ sym q.0, p.1 ∙ sym q.1)

pub link_one : (link : LinkType) (frame : List ℕ) (c d : Linked) → SpellsLink link frame c → SpellsLink link frame d → c ≡ d
link_one link frame c d p q =
    let said : c.direction ≡ d.direction = p.1 ∙ sym q.1 in
    let same = carries_one link frame c d p.2 q.2 in
    λ i. record { direction = said i; network = same.0 i; content = same.1 i }
