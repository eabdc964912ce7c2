-- A row of a recording accuses as what was seen at its place does.
use Rattle.std.proofs.Common.{◌≡◌, ◌&&◌, ℕ, Bool, true, false, List, [], ◌∷◌, ◌++◌, Contains, Option, Some, None, ◌⊎◌, inl, inr, refl, sym, ap, subst, true≢false, ◌∙◌}
use Rattle.std.specs.List.{AllByRecursion}
use Rattle.std.specs.Prelude.{IfSome, is_some, if◌then◌else◌}
use Rattle.tftp_packet.specs.{Rollover}
use Rattle.law_model.proofs.ModelLemmas.Members.{contains_cases, contains_none}
use Rattle.law_tap.specs.{AreApart}
use Rattle.audit_flows.specs.{Endpoint, Transfer}
use Rattle.audit_recording.specs.{Telling as Said}
use Rattle.audit_recording.specs.Between.{sides_of}
use Rattle.audit_recording.specs.Blame.Frames.{Carried, whole_of}
use Rattle.audit_recording.specs.Judges.{opened}
use Rattle.audit_recording.specs.Judges.Points.{points_of, rollover_of}
use Rattle.audit_recording.specs.Rows.Told.{between_told, both_row, ends_told, is_told_at_ends, plain_row, row_of, rows_told}
use Rattle.audit_recording.specs.declared.blame.doubted.Doubted.{Doubted}
use Rattle.audit_recording.specs.declared.judges.judging.Judging.{Judging}
use Rattle.audit_recording.specs.declared.judges.judging.Judging.TheVariants.{BetweenBy, ClientBy, ServerBy}
use Rattle.audit_recording.specs.declared.rows.row.Place.{Place}
use Rattle.audit_recording.specs.declared.rows.row.Point.{Point}
use Rattle.audit_recording.specs.declared.rows.row.Point.TheVariants as point
use Rattle.audit_recording.specs.declared.rows.row.Row.{Row}
use Rattle.audit_recording.specs.declared.rows.said.Said.{Said as SaidThere}
use Rattle.audit_rows.specs.{IsJudgedOf}
use Rattle.audit_rows.specs.Charging.{dropped_reasons, unless_listed}
use Rattle.audit_rows.specs.Judging.{are_alike, said_there, view_at}
use Rattle.audit_rows.specs.Viewing.{IsViewBy, found_in}
use Rattle.audit_rows.specs.declared.judged.Judged.{Judged}
use Rattle.audit_rows.specs.declared.viewed.Viewed.{Viewed}
use Rattle.audit_cleared.specs.Accusing.{AccusesNobody, IsServerKnown, TellsOf}
use Rattle.tftp_rows.specs.Accusing.{AccuseNobody, AccuseNobodyBetween, IsBetween, IsOfClient, IsOfServer, PartAccusesNobody, PartAccusesNobodyBetween}
use Rattle.tftp_rows.specs.Telling.{AreRowsAt, IsRowAt, IsRowWith, places_of}
use Rattle.tftp_rows.specs.Verdicts.{has_same_words}
use Rattle.tftp_rows.specs.Whole.{AreOf, AreTold, IsEndOf, IsToldPart, Part, Telling, counted}
use Rattle.tftp_rows.specs.declared.row.VerdictRow.{VerdictRow}
use Rattle.tftp_rows.proofs.FinalLemmas.{are_of}
use Rattle.tftp_rows.proofs.TellingLemmas.{all_appended, all_first}
use Rattle.tftp_rows.proofs.WholeLemmas.{told_by_end}

-- ---- the places of rows

-- a row of one end alone, or of both
abbrev IsRowThere : Row → Type 0
IsRowThere r = (r ≡ plain_row r.point) ⊎ (r ≡ both_row)

plain_there : (at : Point) → IsRowThere (plain_row at)
plain_there point.Client = inl refl
plain_there point.Server = inl refl
plain_there point.Between = inl refl

one_there : (at : Point) (said : Option SaidThere) → AllByRecursion IsRowThere (row_of at said)
one_there at None = tt
one_there at (Some said) = (plain_there at, tt)

ends_there : (client server : Option SaidThere) (b : Bool) → AllByRecursion IsRowThere (if b then both_row ∷ [] else row_of point.Client client ++ row_of point.Server server)
ends_there client server true = (inr refl, tt)
ends_there client server false = all_appended IsRowThere (row_of point.Client client) (row_of point.Server server) (one_there point.Client client) (one_there point.Server server)

between_there : (between : Option SaidThere) (b : Bool) → AllByRecursion IsRowThere (if b then [] else row_of point.Between between)
between_there between true = tt
between_there between false = one_there point.Between between

all_there : (client server between : Option SaidThere) (alike : Bool) → AllByRecursion IsRowThere (rows_told client server between alike)
all_there client server between alike = all_appended IsRowThere (ends_told client server alike) (between_told client server between)
    (ends_there client server (is_some client && (is_some server && alike))) (between_there between (is_told_at_ends client server between))

all_places : (j : Judged) → AllByRecursion IsRowThere (places_of j)
all_places j = all_there (said_there j.client) (said_there j.server) (said_there j.between) (are_alike j.client j.server (has_same_words (found_in j.client) (found_in j.server)))

part_places : (j : Judged) (first others : List Row) → places_of j ≡ first ++ others → AllByRecursion IsRowThere first
part_places j first others are = all_first IsRowThere first others (subst (AllByRecursion IsRowThere) are (all_places j))

-- so a row of a place is told by what was seen at its point
client_point : (r : Row) → IsRowThere r → IsOfClient r.place → r.point ≡ point.Client
client_point r (inl plain) of = by r.point refl where
  by : (at : Point) → r.point ≡ at → r.point ≡ point.Client
  by point.Client is = is
  by point.Server is = absurd (subst IsOfClient (ap (λ (q : Row). q.place) plain ∙ ap (λ at. (plain_row at).place) is) of)
  by point.Between is = absurd (subst IsOfClient (ap (λ (q : Row). q.place) plain ∙ ap (λ at. (plain_row at).place) is) of)
client_point r (inr both) of = ap (λ (q : Row). q.point) both

server_point : (r : Row) → IsRowThere r → IsOfServer r.place → r.point ≡ point.Server
server_point r (inl plain) of = by r.point refl where
  by : (at : Point) → r.point ≡ at → r.point ≡ point.Server
  by point.Server is = is
  by point.Client is = absurd (subst IsOfServer (ap (λ (q : Row). q.place) plain ∙ ap (λ at. (plain_row at).place) is) of)
  by point.Between is = absurd (subst IsOfServer (ap (λ (q : Row). q.place) plain ∙ ap (λ at. (plain_row at).place) is) of)
server_point r (inr both) of = absurd (subst IsOfServer (ap (λ (q : Row). q.place) both) of)

-- ---- one of the rows

record IsAt (name : List ℕ) (n : ℕ) (j : Judged) (row : VerdictRow) : Type 0 where
  place : Row
  there : IsRowThere place
  is : IsRowAt name n j place row

at_place : (name : List ℕ) (n : ℕ) (j : Judged) (places : List Row) (rows : List VerdictRow) (row : VerdictRow) → AllByRecursion IsRowThere places → AreRowsAt name n j places rows → Contains rows row
    → IsAt name n j row
at_place name n j [] rows row there are among = absurd (contains_none row (subst (λ l. Contains l row) are among))
at_place name n j (place ∷ more) rows row there (one, others, parts, is, rest) among = elim (contains_cases one others row (subst (λ l. Contains l row) parts among)) [
  | inl same ↦ record { place = place; there = there.0; is = subst (IsRowAt name n j place) same is }
  | inr later ↦ at_place name n j more others row there.1 rest later
]

between_point : (r : Row) → IsRowThere r → IsBetween r.place → r.point ≡ point.Between
between_point r (inl plain) of = by r.point refl where
  by : (at : Point) → r.point ≡ at → r.point ≡ point.Between
  by point.Between is = is
  by point.Client is = absurd (subst IsBetween (ap (λ (q : Row). q.place) plain ∙ ap (λ at. (plain_row at).place) is) of)
  by point.Server is = absurd (subst IsBetween (ap (λ (q : Row). q.place) plain ∙ ap (λ at. (plain_row at).place) is) of)
between_point r (inr both) of = absurd (subst IsBetween (ap (λ (q : Row). q.place) both) of)

-- ---- what it tells

on_some : (P : Viewed → Type 0) (o : Option Viewed) (v : Viewed) → IfSome o P → o ≡ Some v → P v
on_some P o v holds is = subst (λ p. IfSome p P) is holds

module _ (judging : Judging) (carried : List Carried) where
  -- nobody is accused by what this verdict was on, at this point of this transfer
  abbrev pub IsClear : Point → Transfer → Viewed → Type 0
  IsClear at x v = (d : Doubted) (t : Said) → TellsOf at x carried d t v → AccusesNobody x carried d t v

  row_clear : (name : List ℕ) (n : ℕ) (j : Judged) (x : Transfer) (r : Row) (row : VerdictRow) (at : Point) → opened x.number (whole_of [] carried) ≡ Some x → IsJudgedOf j judging x [] carried
      → r.point ≡ at → IsRowAt name n j r row → ((v : Viewed) → view_at at j ≡ Some v → IsViewBy None at x [] carried v × IsClear at x v) → row.charge.accused ≡ None
  row_clear name n j x r row at opens of is (told, to, rows) clear =
      let there = clear told.view.now (subst (λ p. view_at p j ≡ Some told.view.now) is to.view) in
      (rows.charge judging x [] carried of).accused
      ∙ there.1 j.doubted told.telling (record { opens = opens; view = there.0; doubts = of.kept.number; point = to.point ∙ is; said = to.said })

  -- what a row of this place tells of the transfer accuses nobody
  some_clear : (IsThere : Place → Type 0) (at : Point) → ((r : Row) → IsRowThere r → IsThere r.place → r.point ≡ at)
      → (name : List ℕ) (n : ℕ) (t : Telling) (places : List Row) → AllByRecursion IsRowThere places
      → opened t.transfer.number (whole_of [] carried) ≡ Some t.transfer → IsJudgedOf t.judged judging t.transfer [] carried
      → AreRowsAt name n t.judged places t.rows → ((v : Viewed) → view_at at t.judged ≡ Some v → IsViewBy None at t.transfer [] carried v × IsClear at t.transfer v)
      → (row : VerdictRow) → Contains t.rows row → IsThere row.place → row.charge.accused ≡ None
  some_clear IsThere at point_of name n t places are_there opens of rows clear row among there =
      let it = at_place name n t.judged places t.rows row are_there rows among in
      let (told, to, is) = it.is in
      row_clear name n t.judged t.transfer it.place row at opens of (point_of it.place it.there (subst IsThere (is.place ∙ to.place) there)) it.is clear

  -- what is told of it whole, and in part
  rows_clear : (IsThere : Place → Type 0) (at : Point) → ((r : Row) → IsRowThere r → IsThere r.place → r.point ≡ at)
      → (name : List ℕ) (n : ℕ) (t : Telling) → opened t.transfer.number (whole_of [] carried) ≡ Some t.transfer → IsJudgedOf t.judged judging t.transfer [] carried
      → AreRowsAt name n t.judged (places_of t.judged) t.rows → ((v : Viewed) → view_at at t.judged ≡ Some v → IsViewBy None at t.transfer [] carried v × IsClear at t.transfer v)
      → (row : VerdictRow) → Contains t.rows row → IsThere row.place → row.charge.accused ≡ None
  rows_clear IsThere at point_of name n t opens of rows clear = some_clear IsThere at point_of name n t (places_of t.judged) (all_places t.judged) opens of rows clear

  part_clear : (IsThere : Place → Type 0) (at : Point) → ((r : Row) → IsRowThere r → IsThere r.place → r.point ≡ at)
      → (name : List ℕ) (older : List Telling) (t : Telling) → IsToldPart name judging [] carried t older
      → ((v : Viewed) → view_at at t.judged ≡ Some v → IsViewBy None at t.transfer [] carried v × IsClear at t.transfer v)
      → (row : VerdictRow) → Contains t.rows row → IsThere row.place → row.charge.accused ≡ None
  part_clear IsThere at point_of name older t told clear =
      some_clear IsThere at point_of name (counted (t ∷ older)) t told.first (part_places t.judged told.first told.others told.places) told.next.opens told.of told.rows clear

  module _ (none : rollover_of judging ≡ None) where
    view_of : (at : Point) (o : Option Viewed) (x : Transfer) (v : Viewed) → IfSome o (IsViewBy (rollover_of judging) at x [] carried) → o ≡ Some v → IsViewBy None at x [] carried v
    view_of at o x v holds is = subst (λ (r : Option Rollover). IsViewBy r at x [] carried v) none (on_some (IsViewBy (rollover_of judging) at x [] carried) o v holds is)

    pub clients_clear : (clients : List Endpoint) → ((x : Transfer) (v : Viewed) → Contains clients x.client → IsClear point.Client x v)
        → (name : List ℕ) (tellings : List Telling) → AreOf name judging [] carried tellings → AccuseNobody IsOfClient clients tellings
    clients_clear clients clear name [] of = tt
    clients_clear clients clear name (t ∷ older) (opens, of, rows, rest) = (
      λ is_client. rows_clear IsOfClient point.Client client_point name (counted (t ∷ older)) t opens of rows
          (λ v is. (view_of point.Client t.judged.client t.transfer v of.client is, clear t.transfer v is_client)),
      clients_clear clients clear name older rest,
    )

    pub servers_clear : (clients : List Endpoint) → ((x : Transfer) (v : Viewed) → Contains clients x.client → IsClear point.Server x v)
        → (name : List ℕ) (tellings : List Telling) → AreOf name judging [] carried tellings → AccuseNobody IsOfServer clients tellings
    servers_clear clients clear name [] of = tt
    servers_clear clients clear name (t ∷ older) (opens, of, rows, rest) = (
      λ is_client. rows_clear IsOfServer point.Server server_point name (counted (t ∷ older)) t opens of rows
          (λ v is. (view_of point.Server t.judged.server t.transfer v of.server is, clear t.transfer v is_client)),
      servers_clear clients clear name older rest,
    )

    pub client_part : (clients : List Endpoint) → ((x : Transfer) (v : Viewed) → Contains clients x.client → IsClear point.Client x v)
        → (name : List ℕ) (tellings : List Telling) → PartAccusesNobody IsOfClient clients name judging carried tellings
    client_part clients clear name tellings t told = (
      λ is_client. part_clear IsOfClient point.Client client_point name tellings t told
          (λ v is. (view_of point.Client t.judged.client t.transfer v told.of.client is, clear t.transfer v is_client)),
      tt,
    )

    pub server_part : (clients : List Endpoint) → ((x : Transfer) (v : Viewed) → Contains clients x.client → IsClear point.Server x v)
        → (name : List ℕ) (tellings : List Telling) → PartAccusesNobody IsOfServer clients name judging carried tellings
    server_part clients clear name tellings t told = (
      λ is_client. part_clear IsOfServer point.Server server_point name tellings t told
          (λ v is. (view_of point.Server t.judged.server t.transfer v told.of.server is, clear t.transfer v is_client)),
      tt,
    )

  -- what is found between the ends is by none, unless it is judged there by a rollover
  module _ (plain : (rollover : Rollover) → judging ≡ BetweenBy rollover → ⊥) (x : Transfer) (j : Judged) (v : Viewed) (of : IsJudgedOf j judging x [] carried) (apart : AreApart (sides_of x (whole_of [] carried))) (is : j.between ≡ Some v) where
    not_there : (k : Judging) → judging ≡ k → (points_of k x).between ≡ false → ⊥
    not_there k same none = true≢false (sym (ap is_some is) ∙ of.at_between ∙ ap (λ k. (points_of k x).between) same ∙ none)

    by_none : IsViewBy None point.Between x [] carried v
    by_none = by judging refl where
      found : IsViewBy (rollover_of judging) point.Between x [] carried v
      found = on_some (IsViewBy (rollover_of judging) point.Between x [] carried) j.between v (of.between apart) is

      by : (k : Judging) → judging ≡ k → IsViewBy None point.Between x [] carried v
      by (ClientBy r) same = absurd (not_there (ClientBy r) same refl)
      by (ServerBy r) same = absurd (not_there (ServerBy r) same refl)
      by (BetweenBy r) same = absurd (plain r same)
      by _ same = subst (λ (o : Option Rollover). IsViewBy o point.Between x [] carried v) (ap rollover_of same) found

  pub between_clear : ((rollover : Rollover) → judging ≡ BetweenBy rollover → ⊥) → (clients : List Endpoint) → ((x : Transfer) (v : Viewed) → Contains clients x.client → IsServerKnown x carried v → IsClear point.Between x v)
      → (name : List ℕ) (tellings : List Telling) → AreOf name judging [] carried tellings → AccuseNobodyBetween clients carried tellings
  between_clear plain clients clear name [] of = tt
  between_clear plain clients clear name (t ∷ older) (opens, of, rows, rest) = (
    λ is_client apart known. rows_clear IsBetween point.Between between_point name (counted (t ∷ older)) t opens of rows
        (λ v is. (
          by_none plain t.transfer t.judged v of apart is,
          clear t.transfer v is_client (on_some (IsServerKnown t.transfer carried) t.judged.between v known is),
        )),
    between_clear plain clients clear name older rest,
  )

  pub between_part : ((rollover : Rollover) → judging ≡ BetweenBy rollover → ⊥) → (clients : List Endpoint) → ((x : Transfer) (v : Viewed) → Contains clients x.client → IsServerKnown x carried v → IsClear point.Between x v)
      → (name : List ℕ) (tellings : List Telling) → PartAccusesNobodyBetween clients name judging carried tellings
  between_part plain clients clear name tellings t told = (
    λ is_client apart known. part_clear IsBetween point.Between between_point name tellings t told
        (λ v is. (
          by_none plain t.transfer t.judged v told.of apart is,
          clear t.transfer v is_client (on_some (IsServerKnown t.transfer carried) t.judged.between v known is),
        )),
    tt,
  )

-- what was told before a fault is of the datagrams by then
pub are_of_part : {W : Type 0} (contents : W → Option (List ℕ)) (name : List ℕ) (judging : Judging) (named : List ℕ) (file : Option (List ℕ)) (end : Option Part) (all : Part) (ts : List Telling)
    → IfSome end (IsEndOf file all) → AreTold name judging named end all ts → AreOf name judging named all.carried ts
are_of_part contents name judging named file None all ts ended told =
    are_of name judging named all all all ts refl (record { next_frames = []; next_carried = []; frames = refl; datagrams = refl }) (told_by_end contents name judging named (Some all) all ts told)
are_of_part contents name judging named file (Some last) all ts ended told =
    are_of name judging named last all all ts (ap (λ (p : Part). p.carried) ended.3) (record { next_frames = []; next_carried = []; frames = refl; datagrams = refl }) told

-- what was lost makes none accuse
pub still_none : (dropped : ℕ) (row last : VerdictRow) → IsRowWith dropped row last → row.charge.accused ≡ None → last.charge.accused ≡ None
still_none dropped row last is none = is.accused ∙ ap (unless_listed (dropped_reasons row.charge.is_refusal dropped)) none ∙ never (dropped_reasons row.charge.is_refusal dropped) where
  never : (reasons : List _) → unless_listed reasons None ≡ None
  never [] = refl
  never (reason ∷ more) = refl
