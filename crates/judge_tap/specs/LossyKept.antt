-- What the judge of a capture with losses keeps, for which datagrams that stands, and what it refuses. The list `earlier` has the
-- datagrams that were recorded, the newest first.
use Rattle.std.specs.Prelude.{◌≡◌, ◌⊎◌, ◌+◌, ℕ, Bool, true, false, List, length, Option, Some, None, Result, Ok, Err}
use Rattle.std.specs.List.{AllByRecursion}
use Rattle.tftp_packet.specs.{Message, End}
use Rattle.law_tap.specs.{TapDatagram, TapSides, AreApart, BeginsWithRequest, BreaksNoLossyRule, IsCertainBetween, IsSaidBy, LossyBroken, is_passing, lossy_route}
use Rattle.judge_tap.specs.Said.{AreSaidNotes, IsNewlySaid, SaidNotes}
use Rattle.judge_tap.specs.declared.lossy_refusal.LossyRefusal.{LossyRefusal}
use Rattle.judge_tap.specs.declared.lossy_refusal.LossyRefusal.TheVariants.{Certain, Memory as WantsMemory}
use Rattle.tftp_judge.specs.declared.pass_error.PassError.{PassError}
use Rattle.tftp_judge.specs.declared.pass_error.PassError.TheVariants.{Broken as Breaks, Memory}

-- none of the datagrams is of the transfer
abbrev pub NoneIsSaid : TapSides → List TapDatagram → Type 0
NoneIsSaid s earlier = AllByRecursion (λ x. is_passing (lossy_route s x) ≡ false) earlier

-- what was recorded of the transfer begins with its request (RFC 1350, section 4), if anything was
abbrev pub HasBegun : TapSides → List TapDatagram → Type 0
HasBegun s earlier = NoneIsSaid s earlier ⊎ BeginsWithRequest s earlier

pub record LossyState : Type 0 where
  pub sides : TapSides
  pub notes : Option SaidNotes  -- from the request on
  pub late : Bool  -- something was recorded of the transfer before its request

-- nothing was said; or the request was first, and the notes stand for all that was said; or something else was first
abbrev pub IsKeptWithLosses : TapSides → List TapDatagram → Bool → Option SaidNotes → Type 0
IsKeptWithLosses s earlier false None = BreaksNoLossyRule s earlier × NoneIsSaid s earlier
IsKeptWithLosses s earlier false (Some notes) = BreaksNoLossyRule s earlier × BeginsWithRequest s earlier × AreSaidNotes notes s earlier
IsKeptWithLosses s earlier true notes = HasBegun s earlier → ⊥

pub record HasKeptWithLosses (k : LossyState) (s : TapSides) (earlier : List TapDatagram) : Type 0 where
  pub sides : k.sides ≡ s
  pub kept : IsKeptWithLosses s earlier k.late k.notes

pub record LossyJudge : Type 0 where
  pub state : LossyState
  pub fed : ℕ
  pub refused : Option LossyRefusal  -- what is answered for good

-- The judge stands for these datagrams: it has accepted them, and has refused none.
pub record IsLossyJudge (j : LossyJudge) (s : TapSides) (earlier : List TapDatagram) : Type 0 where
  pub apart : AreApart s
  pub kept : HasKeptWithLosses j.state s earlier
  pub fed : j.fed ≡ length earlier
  pub goes_on : j.refused ≡ None

-- ---- one datagram more

-- memory is taken for it
abbrev pub TakesMemoryWithLosses : TapSides → List TapDatagram → TapDatagram → Type 0
TakesMemoryWithLosses s earlier d = (e : End) × (m : Message) × IsSaidBy s e m d × IsNewlySaid s earlier e m

-- what is found of a datagram after those that were recorded: it breaks no rule with losses, or this one; or memory is wanting
abbrev pub FindsWithLosses : TapSides → List TapDatagram → TapDatagram → Type 0 → Result (Unit {0}) PassError → Type 0
FindsWithLosses s earlier d After (Ok _) = After
FindsWithLosses s earlier d After (Err (Breaks broken)) = LossyBroken s earlier d broken
FindsWithLosses s earlier d After (Err Memory) = TakesMemoryWithLosses s earlier d

-- The refusal of the datagram after those that were fed: with it they are certain to break the law, whatever is missing.
abbrev pub RefusesWithLosses : TapSides → List TapDatagram → TapDatagram → LossyRefusal → Type 0
RefusesWithLosses s earlier d (Certain index broken) = (index ≡ length earlier + 1) × LossyBroken s earlier d broken × IsCertainBetween s earlier d
RefusesWithLosses s earlier d (WantsMemory count) = (count ≡ length earlier) × TakesMemoryWithLosses s earlier d

-- The datagram is not certain to break the law with those before it, where what was recorded of the transfer begins with its
-- request: it cannot be that no lawful list has them.
abbrev pub IsNotCertain : TapSides → List TapDatagram → TapDatagram → Type 0
IsNotCertain s earlier d = IsCertainBetween s earlier d → ⊥
