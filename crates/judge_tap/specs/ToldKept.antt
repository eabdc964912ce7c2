-- What is kept of what passed between the ends, to tell whether a refusal stands whatever is missing, and what is told then. The
-- list `earlier` has the datagrams that have passed, the newest first.
use Rattle.std.specs.Prelude.{◌≡◌, ◌⊎◌, Bool, true, false, List, ◌∷◌, Option, Some, None, Result, Ok, Err}
use Rattle.tftp_packet.specs.{Message, OptionMap, RequestParts, End, Rollover}
use Rattle.law_model.specs.{EndRule}
use Rattle.law_end.specs.{Rule}
use Rattle.law_end.specs.declared.rule.Rule.TheVariants as rule
use Rattle.law_tap.specs.{TapDatagram, TapSides, AreFigures, IsCertainBetween, Figures, FitsSaid, IsOffered, IsSaid, IsTapRead, LossyBreaks, LossyBroken, StandsWhateverIsMissing, lossy_route}
use Rattle.judge_tap.specs.LossyKept.{HasBegun, IsNotCertain}
use Rattle.tftp_judge.specs.declared.pass_error.PassError.{PassError}
use Rattle.tftp_judge.specs.declared.pass_error.PassError.TheVariants.{Broken as Breaks, Memory}

-- ---- what is kept

pub record Told : Type 0 where
  pub rollover : Option Rollover  -- what comes after block 65535, where anything does
  pub figures : Figures  -- of the numbers of blocks and ACKs
  pub offered : Option OptionMap  -- what the OACK agrees to, if one has passed
  pub known : Bool  -- whether that is kept: memory may have been wanting for it

-- an OACK was said
abbrev pub SomeOack : TapSides → List TapDatagram → Type 0
SomeOack s earlier = (e : End) × (options : OptionMap) × IsSaid s earlier e (Message.Oack options)

-- what the OACK agrees to is kept, or an OACK was said
abbrev pub IsOfferKept : TapSides → List TapDatagram → Bool → Option OptionMap → Type 0
IsOfferKept s earlier true offered = IsOffered s earlier offered
IsOfferKept s earlier false offered = SomeOack s earlier

-- That is kept of these datagrams.
pub record AreTold (t : Told) (s : TapSides) (earlier : List TapDatagram) : Type 0 where
  pub rollover : t.rollover ≡ s.rollover
  pub figures : AreFigures t.figures s earlier
  pub offered : IsOfferKept s earlier t.known t.offered

-- ---- one packet more

-- the figures with it, where there are some
abbrev pub figures_after : Option Figures → Figures → Figures
figures_after None before = before
figures_after (Some now) before = now

-- what an OACK agrees to is kept where it is the first, or memory was wanting for it
abbrev pub IsNoted : Told → OptionMap → Told → Type 0
IsNoted t options after =
    (after.known ≡ false)
    ⊎ ((after.known ≡ t.known) × (((agreed : OptionMap) × (t.offered ≡ Some agreed) × (after.offered ≡ Some agreed)) ⊎ (after.offered ≡ Some options)))

-- ---- what is told of a datagram that is refused

-- the figures fit nothing that may have been agreed to, or there are none; or they fit something; or that is not known
abbrev pub IsUnfit : RequestParts → Told → Option Figures → Option Bool → Type 0
IsUnfit asked t None answer = answer ≡ Some true
IsUnfit asked t (Some f) (Some true) = (t.known ≡ true) × (FitsSaid asked t.offered f → ⊥)
IsUnfit asked t (Some f) (Some false) = (t.known ≡ true) × FitsSaid asked t.offered f
IsUnfit asked t (Some f) None = t.known ≡ false

-- What is told of a message: it breaks a rule with losses; or none, but that it may change a block; or memory was wanting to tell,
-- as it may be for an OACK alone.
abbrev pub IsToldOf : TapSides → List TapDatagram → TapDatagram → RequestParts → End → Message → Option Bool → Type 0
IsToldOf s earlier d asked e m (Some true) = (broken : Rule) × LossyBreaks s earlier d asked e m broken
IsToldOf s earlier d asked e m (Some false) = (broken : Rule) → LossyBreaks s earlier d asked e m broken → broken ≡ rule.Block EndRule.BlockChanged
IsToldOf s earlier d asked e m None = SomeOack s (d ∷ earlier)

-- the same of any datagram
abbrev pub IsTold : TapSides → List TapDatagram → TapDatagram → Option Bool → Type 0
IsTold s earlier d (Some true) = (broken : Rule) × LossyBroken s earlier d broken
IsTold s earlier d (Some false) = IsTapRead (lossy_route s d) d × ((broken : Rule) → LossyBroken s earlier d broken → broken ≡ rule.Block EndRule.BlockChanged)
IsTold s earlier d None = SomeOack s (d ∷ earlier)

-- what is answered of a refusal: by its rule's name where that tells it, and else what is told of the datagram
abbrev pub IsStandingBy : Rule → Option Bool → Option Bool → Type 0
IsStandingBy broken told answer = (StandsWhateverIsMissing broken × (answer ≡ Some true)) ⊎ ((StandsWhateverIsMissing broken → ⊥) × (answer ≡ told))

-- the same of a datagram that breaks a rule
abbrev pub IsToldIfBroken : TapSides → List TapDatagram → TapDatagram → Result (Unit {0}) PassError → Option Bool → Type 0
IsToldIfBroken s earlier d (Ok _) told = Unit {0}
IsToldIfBroken s earlier d (Err (Breaks rule)) told = IsTold s earlier d told
IsToldIfBroken s earlier d (Err Memory) told = Unit {0}

-- ---- whether a refusal stands

-- Whether the refusal of a datagram by this rule stands whatever is missing. It does: no lawful list has the datagram after those
-- before it, however many more it has. It does not: it cannot be that none has, where what was recorded of the transfer begins with
-- its request. Or memory was wanting to tell, as it may be where an OACK was said. What stands by its rule's name does.
abbrev pub IsStandingAtTap : TapSides → List TapDatagram → TapDatagram → Rule → Option Bool → Type 0
IsStandingAtTap s earlier d broken (Some true) = IsCertainBetween s earlier d
IsStandingAtTap s earlier d broken (Some false) = (StandsWhateverIsMissing broken → ⊥) × (HasBegun s (d ∷ earlier) → IsNotCertain s earlier d)
IsStandingAtTap s earlier d broken None = (StandsWhateverIsMissing broken → ⊥) × SomeOack s (d ∷ earlier)
