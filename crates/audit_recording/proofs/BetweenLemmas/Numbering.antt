-- There is a highest block of whatever has passed between the ends, and so a block for each number; and what datagrams are taken for
-- there.
use Rattle.std.proofs.Common.{◌≡◌, ℕ, List, [], ◌∷◌, ◌++◌, Option, Some, None, inl, inr, length, map, refl, sym, ap, subst, ◌∙◌, arith}
use Rattle.tftp_packet.specs.{Message, Spells, In, Rollover}
use Rattle.tftp_packet.specs.Hosts.{Datagram}
use Rattle.law_model.specs.Rules.{HasPassed, IsHigh}
use Rattle.law_end.proofs.Accord.HighestNumbers.{renamed}
use Rattle.law_end.proofs.Division.Divided.{any_cases, any_first, any_later, any_none}
use Rattle.law_end.proofs.Soundness.Settled.{either}
use Rattle.law_tap.specs.{TapDatagram, TapSides, AreUnrolledBetween, HasKind, IsBlock, IsHighBetween, IsUnrolledBetween, Says}
use Rattle.law_tap.proofs.TapUnrolled.{in_one_way}
use Rattle.audit_views.proofs.ViewsLemmas.Numbers.{unrolled_there as unrolled_at_end}
use Rattle.audit_recording.specs.Between.{HoldsBetween, sides_by}

-- ---- the highest block

-- its payload, as an end would have recorded it
abbrev recorded : TapDatagram → Datagram
recorded d = record { dir = In; local = 0; host = []; remote = 0; payload = d.payload }

block_there : (ds : List TapDatagram) (k : ℕ) → (bytes : List ℕ) × HasPassed (Message.Data k bytes) (map recorded ds) → HasKind (IsBlock k) ds
block_there [] k (bytes, inl none) = absurd none
block_there [] k (bytes, inr none) = absurd none
block_there (d ∷ ds) k (bytes, has) = elim (either (Message.Data k bytes) (recorded d) (map recorded ds) has) [
  | inl now ↦ any_first (Says (IsBlock k)) d ds (Message.Data k bytes, now, refl)
  | inr before ↦ any_later (Says (IsBlock k)) d ds (block_there ds k (bytes, before))
]

recorded_later : (m : Message) (d : TapDatagram) (ds : List TapDatagram) → HasPassed m (map recorded ds) → HasPassed m (map recorded (d ∷ ds))
recorded_later m d ds (inl came) = inl (inr came)
recorded_later m d ds (inr went) = inr (inr went)

block_recorded : (ds : List TapDatagram) (k : ℕ) → HasKind (IsBlock k) ds → (bytes : List ℕ) × HasPassed (Message.Data k bytes) (map recorded ds)
block_recorded [] k some = absurd (any_none (Says (IsBlock k)) some)
block_recorded (d ∷ ds) k some = elim (any_cases (Says (IsBlock k)) d ds some) [
  | inl says ↦ by says.0 says.1 says.2
  | inr before ↦ let (bytes, has) = block_recorded ds k before in (bytes, recorded_later (Message.Data k bytes) d ds has)
]
  where
    by : (m : Message) → Spells d.payload m → IsBlock k m → (bytes : List ℕ) × HasPassed (Message.Data k bytes) (map recorded (d ∷ ds))
    by (Message.Data i bytes) spells kind = (bytes, inl (inl (refl, subst (λ j. Spells d.payload (Message.Data j bytes)) kind spells)))
    by _ spells kind = absurd kind

high_there : (ds : List TapDatagram) (high : ℕ) → IsHigh (map recorded ds) high → IsHighBetween ds high
high_there ds high is = renamed (λ k. (bytes : List ℕ) × HasPassed (Message.Data k bytes) (map recorded ds)) (λ k. HasKind (IsBlock k) ds) (λ k some has. block_there ds k has) (λ k some. block_recorded ds k some) high is

-- whatever has passed, a number is taken for some block
pub unrolled_there : (r : Rollover) (passed : List TapDatagram) (d : TapDatagram) → (now : TapDatagram) × IsUnrolledBetween r passed d now
unrolled_there r passed d =
    let (other, (high, top, same)) = unrolled_at_end r (map recorded passed) (recorded d) in
    (_, (high, high_there passed high top, refl))

-- ---- what datagrams are taken for

abbrev pub AreTakenBetween : Option Rollover → TapSides → List TapDatagram → List TapDatagram → Type 0
AreTakenBetween None s given taken = taken ≡ given
AreTakenBetween (Some r) s given taken = AreUnrolledBetween r (sides_by (Some r) s) given taken

pub between_one : (rollover : Option Rollover) (s : TapSides) (given one other : List TapDatagram) → AreTakenBetween rollover s given one → AreTakenBetween rollover s given other → one ≡ other
between_one None s given one other a b = a ∙ sym b
between_one (Some r) s given one other a b = in_one_way r (sides_by (Some r) s) given one other a b

pub between_length : (rollover : Option Rollover) (s : TapSides) (given taken : List TapDatagram) → AreTakenBetween rollover s given taken → length taken ≡ length given
between_length None s given taken are = ap length are
between_length (Some r) s [] [] are = refl
between_length (Some r) s [] (x ∷ taken) are = absurd are
between_length (Some r) s (d ∷ given) [] are = absurd are
between_length (Some r) s (d ∷ given) (x ∷ taken) are = let rest = between_length (Some r) s given taken are.1 in omega (arith, rest)

-- what the first ones are taken for is the first of what all are
pub between_front : (rollover : Option Rollover) (s : TapSides) (later given taken : List TapDatagram) → AreTakenBetween rollover s (later ++ given) taken
    → (more rest : List TapDatagram) × (taken ≡ more ++ rest) × AreTakenBetween rollover s given rest
between_front None s later given taken are = (later, given, are, refl)
between_front (Some r) s [] given taken are = ([], taken, refl, are)
between_front (Some r) s (d ∷ later) given [] are = absurd are
between_front (Some r) s (d ∷ later) given (x ∷ taken) are = let (more, rest, is, front) = between_front (Some r) s later given taken are.1 in (x ∷ more, rest, ap (λ us. x ∷ us) is, front)

-- ---- what holds of it

pub holds_more : (rollover : Option Rollover) (One Other : TapSides → List TapDatagram → Type 0) (s : TapSides) (given : List TapDatagram) → ((k : TapSides) (taken : List TapDatagram) → One k taken → Other k taken)
    → HoldsBetween rollover One s given → HoldsBetween rollover Other s given
holds_more None One Other s given so holds = so s given holds
holds_more (Some r) One Other s given so (taken, are, holds) = (taken, are, so (sides_by (Some r) s) taken holds)

module _ (rollover : Option Rollover) (Holds : TapSides → List TapDatagram → Type 0) (s : TapSides) (given : List TapDatagram) where
  -- by the sides with the rollover
  pub taken_there : HoldsBetween rollover Holds (sides_by rollover s) given → (taken : List TapDatagram) × AreTakenBetween rollover s given taken × Holds (sides_by rollover s) taken
  taken_there holds = by rollover holds where
    by : (o : Option Rollover) → HoldsBetween o Holds (sides_by o s) given → (taken : List TapDatagram) × AreTakenBetween o s given taken × Holds (sides_by o s) taken
    by None has = (given, refl, has)
    by (Some r) has = has

  pub taken_of : s.rollover ≡ None → HoldsBetween rollover Holds s given → (taken : List TapDatagram) × AreTakenBetween rollover s given taken × Holds (sides_by rollover s) taken
  taken_of plain holds = by rollover holds where
    by : (o : Option Rollover) → HoldsBetween o Holds s given → (taken : List TapDatagram) × AreTakenBetween o s given taken × Holds (sides_by o s) taken
    by None has = (given, refl, subst (λ o. Holds (sides_by o s) given) plain has)
    by (Some r) has = has

  pub of_taken : s.rollover ≡ None → (taken : List TapDatagram) → AreTakenBetween rollover s given taken → Holds (sides_by rollover s) taken → HoldsBetween rollover Holds s given
  of_taken plain taken are has = by rollover are has where
    by : (o : Option Rollover) → AreTakenBetween o s given taken → Holds (sides_by o s) taken → HoldsBetween o Holds s given
    by None same holds = subst (λ o. Holds (sides_by o s) given) (sym plain) (subst (Holds (sides_by None s)) same holds)
    by (Some r) unrolled holds = (taken, unrolled, holds)
