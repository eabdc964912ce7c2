-- What is kept of the transfers of a recording beside their judges: their trails. Lists have the newest first; a transfer is known by
-- its number.
use Rattle.std.specs.Prelude.{◌≡◌, ◌⊎◌, ◌∷◌, ℕ, true, false, List, Option, Some, None, IfSome}
use Rattle.std.specs.BTreeMap.{BTreeMap, get}
use Rattle.std.specs.Ordering.{nat_cmp}
use Rattle.law_model.specs.Rules.{first_of}
use Rattle.audit_flows.specs.Lines.{Placed}
use Rattle.audit_flows.specs.{Transfer}
use Rattle.audit_flows.specs.Transfers.{opened_it}
use Rattle.audit_recording.specs.Blame.Frames.{Carried, Framed, framed, framed_after, whole_of}
use Rattle.audit_recording.specs.Blame.Kept.{IsTrailBetween, IsTrailOf}
use Rattle.audit_recording.specs.Judges.{is_among, opened}
use Rattle.audit_recording.specs.declared.blame.trail.Trail.{Trail}
use Rattle.audit_recording.specs.declared.judges.judging.Judging.{Judging}

-- its first frame and its request are those of this datagram
abbrev pub IsBegunBy : Trail → Framed → Type 0
IsBegunBy t f = (f.carried.frame ≡ t.first) × (f.carried.datagram.payload ≡ t.request.items)

-- the datagram that opened the transfer, in its frame
abbrev pub opening_of : ℕ → List ℕ → List Carried → Option Framed
opening_of n named carried = first_of (λ f. opened_it n f.placed) (framed named carried)

-- It is the trail of this transfer: of its own datagrams in their frames, from its request on, and of no other's.
pub record IsTrailAfter (t : Trail) (judging : Judging) (x : Transfer) (named : List ℕ) (carried : List Carried) : Type 0 where
  pub own : IsTrailOf t judging x named carried
  pub between : IsTrailBetween t judging x named carried
  pub begun : IfSome (opening_of x.number named carried) (IsBegunBy t)

-- What is kept of the transfer with this number: its trail, by `fed`, where it was not handed out; or nothing, where no request opened
-- it or it was handed out.
abbrev pub IsTrailKept : Judging → List ℕ → List ℕ → List Placed → List Carried → ℕ → Option Trail → Type 0
IsTrailKept judging named out all fed n None = (opened n all ≡ None) ⊎ (is_among n out ≡ true)
IsTrailKept judging named out all fed n (Some t) = (opened n all ≡ Some t.transfer) × (is_among n out ≡ false) × IsTrailAfter t judging t.transfer named fed

-- of each transfer
abbrev pub AreTrailsKept : BTreeMap ℕ Trail → Judging → List ℕ → List ℕ → List Carried → Type 0
AreTrailsKept trails judging named out carried = (n : ℕ) → IsTrailKept judging named out (whole_of named carried) carried n (get nat_cmp trails n)

-- The newest datagram was not yet handed to one; but where it opens a transfer, that one's trail has begun with it.
abbrev pub AreTrailsBegun : BTreeMap ℕ Trail → Judging → List ℕ → List ℕ → Carried → List Carried → Type 0
AreTrailsBegun trails judging named out c older =
    (n : ℕ) → IsTrailKept judging named out (whole_of named (c ∷ older)) older n (get nat_cmp trails n)
    × (opened_it n (framed_after named older c).placed ≡ true → IfSome (get nat_cmp trails n) (λ t. IsBegunBy t (framed_after named older c)))
