-- What the body of a block says, by its type.
use Rattle.std.proofs.Common.{◌≡◌, ◌≢◌, inl, inr, ℕ, ◌+◌, ◌-◌, ◌%◌, ◌≤◌, List, [], ◌++◌, length, take, append-nil, refl, sym, ap, ◌∙◌, subst, arith, ◌⊎◌, Option, Some, None, MatchOption}
use Rattle.net_pcap.specs.{number_at, FrameParts, frame_at, SpellsInterface, SpellsPacket, SpellsStatistics, section_type, longest_block, Said, BodySays, BlockSays, Says, OpensAgain, said_of, Order, Place, Dropped, Interface, NamedInterface, Layout, Unopened, Found}
use Rattle.net_pcap.specs.Pieces.Said.{Opens, Names, Gives, Counts, Skips}
use Rattle.net_pcap.specs.declared.layout.Layout.TheVariants.{Classic, Blocks}
use Rattle.net_pcap.specs.declared.found.Found.TheVariants as found
use Rattle.net_pcap.proofs.Whole.{block_says, body_says, packet_moved, body_of, section_known}

pub no_interface : (order : Order) (interfaces : List NamedInterface) (body : List ℕ) → ((interface : Interface) → SpellsInterface order body interface → ⊥) → (said : Said) → BodySays order interfaces 1 body said → ⊥
no_interface order interfaces body never (Opens layout) says = says
no_interface order interfaces body never (Names interface) says = never interface says.1
no_interface order interfaces body never (Gives frame) (inl p) = omega (arith, p.0)
no_interface order interfaces body never (Gives frame) (inr (inl p)) = omega (arith, p.0)
no_interface order interfaces body never (Gives frame) (inr (inr p)) = omega (arith, p.0)
no_interface order interfaces body never (Counts dropped) says = omega (arith, says.0)
no_interface order interfaces body never Skips says = says.0 refl

pub no_statistics : (order : Order) (interfaces : List NamedInterface) (body : List ℕ) → ((dropped : Dropped) → SpellsStatistics order interfaces body dropped → ⊥) → (said : Said) → BodySays order interfaces 5 body said → ⊥
no_statistics order interfaces body never (Opens layout) says = says
no_statistics order interfaces body never (Names interface) says = omega (arith, says.0)
no_statistics order interfaces body never (Gives frame) (inl p) = omega (arith, p.0)
no_statistics order interfaces body never (Gives frame) (inr (inl p)) = omega (arith, p.0)
no_statistics order interfaces body never (Gives frame) (inr (inr p)) = omega (arith, p.0)
no_statistics order interfaces body never (Counts dropped) says = never dropped says.1
no_statistics order interfaces body never Skips says = says.4 refl

module _ (order : Order) (interfaces : List NamedInterface) (s : List ℕ) (enough : 12 ≤ length s) (sized : length s ≡ number_at order s 4) (words : length s % 4 ≡ 0) (few : length s ≤ longest_block)
    (other : take 4 s ≢ section_type) (kind : ℕ) (is : kind ≡ number_at order s 0) where
  pub wrong_end : (again : ℕ) → again ≡ number_at order s (length s - 4) → again ≢ length s → (said : Said) → BlockSays order interfaces s said → ⊥
  wrong_end again at differs said says = differs (at ∙ sym (body_says order interfaces s kind is said says).1)

  module _ (again : length s ≡ number_at order s (length s - 4)) where
    pub interface_answer : kind ≡ 1 → (result : Option Found)
        → MatchOption result ((said : Said) → BodySays order interfaces 1 (body_of s) said → ⊥) (λ f. (interface : Interface) × (f ≡ found.Names interface) × BodySays order interfaces 1 (body_of s) (Names interface))
        → MatchOption result ((said : Said) → BlockSays order interfaces s said → ⊥) (λ f. BlockSays order interfaces s (said_of f s))
    interface_answer one None never = λ said says. never said (subst (λ (k : ℕ). BodySays order interfaces k (body_of s) said) one (body_says order interfaces s kind is said says).0)
    interface_answer one (Some f) (interface, same, says) =
        subst (λ (g : Found). BlockSays order interfaces s (said_of g s)) (sym same)
        (block_says order interfaces s enough sized words few other again kind is (Names interface) (subst (λ (k : ℕ). BodySays order interfaces k (body_of s) (Names interface)) (sym one) says))

    pub statistics_answer : kind ≡ 5 → (result : Option Found)
        → MatchOption result ((said : Said) → BodySays order interfaces 5 (body_of s) said → ⊥) (λ f. (dropped : Dropped) × (f ≡ found.Counts dropped) × BodySays order interfaces 5 (body_of s) (Counts dropped))
        → MatchOption result ((said : Said) → BlockSays order interfaces s said → ⊥) (λ f. BlockSays order interfaces s (said_of f s))
    statistics_answer five None never = λ said says. never said (subst (λ (k : ℕ). BodySays order interfaces k (body_of s) said) five (body_says order interfaces s kind is said says).0)
    statistics_answer five (Some f) (dropped, same, says) =
        subst (λ (g : Found). BlockSays order interfaces s (said_of g s)) (sym same)
        (block_says order interfaces s enough sized words few other again kind is (Counts dropped) (subst (λ (k : ℕ). BodySays order interfaces k (body_of s) (Counts dropped)) (sym five) says))

    pub skipped : kind ≢ 1 → kind ≢ 5 → ((kind ≡ 6) ⊎ (kind ≡ 3) ⊎ (kind ≡ 2) → ⊥) → BlockSays order interfaces s Skips
    skipped plain uncounted none = block_says order interfaces s enough sized words few other again kind is Skips (plain, (λ e. none (inr (inr e))), (λ e. none (inr (inl e))), (λ e. none (inl e)), uncounted)

    pub packet_found : (place : Place) → place.start ≤ place.end → place.end ≤ length (body_of s) → SpellsPacket order interfaces kind (body_of s) (frame_at place (body_of s))
        → (moved : Place) → moved ≡ record place { start = 8 + place.start; end = 8 + place.end } → BlockSays order interfaces s (Gives (frame_at moved s))
    packet_found place order_is within spelled moved same =
        let frame : frame_at moved s ≡ frame_at place (body_of s) = ap (λ (p : Place). frame_at p s) same ∙ packet_moved order interfaces s place (frame_at place s) order_is within enough in
        block_says order interfaces s enough sized words few other again kind is (Gives (frame_at moved s)) (subst (λ (f : FrameParts). SpellsPacket order interfaces kind (body_of s) f) (sym frame) spelled)

    pub no_packet : kind ≢ 1 → kind ≢ 5 → (kind ≡ 6) ⊎ (kind ≡ 3) ⊎ (kind ≡ 2) → ((frame : FrameParts) → SpellsPacket order interfaces kind (body_of s) frame → ⊥) → (said : Said) → BlockSays order interfaces s said → ⊥
    no_packet plain uncounted packet never said says = cases said (body_says order interfaces s kind is said says).0
      where
        cases : (t : Said) → BodySays order interfaces kind (body_of s) t → ⊥
        cases (Opens layout) h = h
        cases (Names interface) h = plain h.0
        cases (Gives frame) h = never frame h
        cases (Counts dropped) h = uncounted h.0
        cases Skips h = elim packet [ inl e ↦ h.3 e | inr (inl e) ↦ h.2 e | inr (inr e) ↦ h.1 e ]

-- ---- blocks among pieces

pub block_piece : (order : Order) (interfaces : List NamedInterface) (s : List ℕ) (said : Said) → BlockSays order interfaces s said → Says (Blocks order) interfaces s said
block_piece order interfaces s (Opens layout) (type, body, kind, block, plain, typed, says) = absurd says
block_piece order interfaces s (Names interface) says = says
block_piece order interfaces s (Gives frame) says = says
block_piece order interfaces s (Counts dropped) says = says
block_piece order interfaces s Skips says = says

-- a block that is no section header opens nothing
pub block_none : (order : Order) (interfaces : List NamedInterface) (s : List ℕ) → take 4 s ≢ section_type → ((said : Said) → BlockSays order interfaces s said → ⊥) → (said : Said) → Says (Blocks order) interfaces s said → ⊥
block_none order interfaces s plain never = cases
  where
    opened : (layout : Layout) → OpensAgain s layout → ⊥
    opened Unopened h = h
    opened (Classic classic) h = h
    opened (Blocks own) h = plain (append-nil-first (section_known s [] own h).0)
      where
        append-nil-first : take 4 (s ++ []) ≡ section_type → take 4 s ≡ section_type
        append-nil-first e = ap (take 4) (sym (append-nil s)) ∙ e

    cases : (said : Said) → Says (Blocks order) interfaces s said → ⊥
    cases (Opens layout) h = opened layout h
    cases (Names interface) h = never (Names interface) h
    cases (Gives frame) h = never (Gives frame) h
    cases (Counts dropped) h = never (Counts dropped) h
    cases Skips h = never Skips h

pub block_answer : (order : Order) (interfaces : List NamedInterface) (s : List ℕ) → take 4 s ≢ section_type → (result : Option Found)
    → MatchOption result ((said : Said) → BlockSays order interfaces s said → ⊥) (λ f. BlockSays order interfaces s (said_of f s))
    → MatchOption result ((said : Said) → Says (Blocks order) interfaces s said → ⊥) (λ f. Says (Blocks order) interfaces s (said_of f s))
block_answer order interfaces s plain None never = block_none order interfaces s plain never
block_answer order interfaces s plain (Some f) says = block_piece order interfaces s (said_of f s) says
