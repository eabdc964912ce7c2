-- Which rows of a recording accuse nobody. Tellings have the newest first.
use Rattle.std.specs.Prelude.{◌≡◌, ℕ, List, [], ◌∷◌, Contains, IfSome, None}
use Rattle.law_tap.specs.{AreApart}
use Rattle.audit_flows.specs.{Endpoint}
use Rattle.audit_recording.specs.Between.{sides_of}
use Rattle.audit_recording.specs.Blame.Frames.{Carried, whole_of}
use Rattle.audit_recording.specs.declared.judges.judging.Judging.{Judging}
use Rattle.audit_recording.specs.declared.rows.row.Place.{Place}
use Rattle.audit_recording.specs.declared.rows.row.Place.TheVariants.{Client, Server, Both, Between}
use Rattle.audit_cleared.specs.Accusing.{IsServerKnown}
use Rattle.tftp_rows.specs.Whole.{IsToldPart, Telling}
use Rattle.tftp_rows.specs.declared.row.VerdictRow.{VerdictRow}

-- the row tells what was seen at the client, alone or as at its server
abbrev pub IsOfClient : Place → Type 0
IsOfClient Client = Unit {0}
IsOfClient Both = Unit {0}
IsOfClient _ = ⊥

-- or at the server
abbrev pub IsOfServer : Place → Type 0
IsOfServer Server = Unit {0}
IsOfServer _ = ⊥

-- or between the two
abbrev pub IsBetween : Place → Type 0
IsBetween Between = Unit {0}
IsBetween _ = ⊥

-- Of the transfers of these clients, no row that tells of such a place accuses an end.
abbrev pub AccuseNobody : (Place → Type 0) → List Endpoint → List Telling → Type 0
AccuseNobody IsThere clients [] = Unit {0}
AccuseNobody IsThere clients (t ∷ older) =
    (Contains clients t.transfer.client → (row : VerdictRow) → Contains t.rows row → IsThere row.place → row.charge.accused ≡ None)
    × AccuseNobody IsThere clients older

-- The same between the ends, of clients that do not serve themselves, where it was known by the refused datagram who the server is.
abbrev pub AccuseNobodyBetween : List Endpoint → List Carried → List Telling → Type 0
AccuseNobodyBetween clients carried [] = Unit {0}
AccuseNobodyBetween clients carried (t ∷ older) =
    (Contains clients t.transfer.client → AreApart (sides_of t.transfer (whole_of [] carried)) → IfSome t.judged.between (IsServerKnown t.transfer carried)
    → (row : VerdictRow) → Contains t.rows row → IsBetween row.place → row.charge.accused ≡ None)
    × AccuseNobodyBetween clients carried older

-- The same of a transfer that was told in part, behind these.
abbrev pub PartAccusesNobody : (Place → Type 0) → List Endpoint → List ℕ → Judging → List Carried → List Telling → Type 0
PartAccusesNobody IsThere clients name judging carried tellings = (t : Telling) → IsToldPart name judging [] carried t tellings → AccuseNobody IsThere clients (t ∷ [])

abbrev pub PartAccusesNobodyBetween : List Endpoint → List ℕ → Judging → List Carried → List Telling → Type 0
PartAccusesNobodyBetween clients name judging carried tellings = (t : Telling) → IsToldPart name judging [] carried t tellings → AccuseNobodyBetween clients carried (t ∷ [])
