-- What one pass keeps of the datagrams before: of each client's line, and of each endpoint that served.
use Rattle.std.specs.Prelude.{◌≡◌, ◌⊎◌, ◌+◌, ℕ, Bool, true, false, List, [], length, Option, Some, None, option_map, IsSomeAnd, nat_le}
use Rattle.std.specs.BTreeMap.{get, BTreeMap}
use Rattle.std.specs.List.{list_any}
use Rattle.std.specs.Ordering.{nat_cmp, is_eq}
use Rattle.audit_flows.specs.Lines.{Recorded, endpoint_cmp, Placed, clock, newest_of, silence, AreLinesOf, comes_in, follows_request, follows_strays, follows_unanswered, goes_on_with_first, agrees_late, says_first_word, says_unknown_id, is_late, is_disordered, is_asked_again, is_near, is_stray_at, may_be_tftp}
use Rattle.audit_flows.specs.declared.lines.endpoint.Endpoint.{Endpoint}
use Rattle.audit_flows.specs.declared.lines.place.Place.{Place}
use Rattle.audit_flows.specs.declared.lines.place.Place.TheVariants.{Opens, Repeats, Beside, Nowhere}
use Rattle.audit_flows.specs.declared.transfers.attribution.Attribution.{Attribution}
use Rattle.audit_flows.specs.declared.transfers.attribution.Served.{Served}
use Rattle.audit_flows.specs.declared.transfers.attribution.Strayed.{Strayed}
use Rattle.audit_flows.specs.declared.transfers.doubted.TransferDoubts.{TransferDoubts}
use Rattle.audit_flows.specs.declared.transfers.views.TransferEnds.{TransferEnds}
use Rattle.audit_flows.specs.Transfers.Places.{is_service, last_served, served_by}
use Rattle.audit_flows.specs.Transfers.Views.{asked_of, answered_by, went_on_with}
use Rattle.audit_flows.specs.Transfers.Doubts.{is_answered_apart, some_of}

-- the ports are the service ports
abbrev pub AreServices : List ℕ → List ℕ → List Placed → Type 0
AreServices ports named older = (port : ℕ) → is_service named older port ≡ list_any (λ n. is_eq (nat_cmp port n)) ports

-- What is kept of whom an endpoint served. None is kept only where it served nobody in the last 300 s.
abbrev pub IsServedKept : Endpoint → List Placed → Option Served → Type 0
IsServedKept o older None = served_by o (clock older) older ≡ None
IsServedKept o older (Some s) = last_served o older ≡ Some s

-- who served whom
abbrev pub AreServed : BTreeMap Endpoint Served → List Placed → Type 0
AreServed served older = (o : Endpoint) → IsServedKept o older (get endpoint_cmp served o)

-- What is kept of when something of no line passed at an endpoint. None is kept only where nothing did in the last 300 s.
abbrev pub IsStrayKept : Endpoint → List Placed → Option Strayed → Type 0
IsStrayKept e older None = is_near (clock older) (newest_of (is_stray_at e) older) ≡ false
IsStrayKept e older (Some s) = option_map (λ q. q.moment) (newest_of (is_stray_at e) older) ≡ Some s.moment

-- at which endpoints something of no line passed
abbrev pub AreStrays : BTreeMap Endpoint Strayed → List Placed → Type 0
AreStrays strays older = (e : Endpoint) → IsStrayKept e older (get endpoint_cmp strays e)

-- What is kept of an endpoint stays, or it is let go: its newest datagram is older than 300 s.
abbrev pub Forgets : {V : Type 0} → (V → ℕ) → ℕ → BTreeMap Endpoint V → BTreeMap Endpoint V → Type 0
Forgets moment now kept left = (o : Endpoint) → (get endpoint_cmp left o ≡ get endpoint_cmp kept o)
    ⊎ ((get endpoint_cmp left o ≡ None) × IsSomeAnd (get endpoint_cmp kept o) (λ v. nat_le now (moment v + silence) ≡ false))

-- It stands for these datagrams of a recording; the ports were named.
pub record IsAfter (a : Attribution) (named : List ℕ) (older : List Placed) : Type 0 where
  pub failed : a.failed ≡ false
  pub count : a.count ≡ length older
  pub clock : a.clock ≡ clock older
  pub fixed : AreServices a.named.keys named []
  pub services : AreServices a.services.keys named older
  pub lines : AreLinesOf a.lines older
  pub served : AreServed a.served older
  pub strays : AreStrays a.strays older

abbrev pub is_asked : Place → Bool
is_asked (Opens x) = true
is_asked (Repeats x) = true
is_asked place = false

-- a datagram as it was recorded
pub record IsRecorded (d : Recorded) (at : ℕ) (from to : Endpoint) (bytes : List ℕ) (spelled : Bool) : Type 0 where
  pub time : d.time ≡ at
  pub source : d.source ≡ from
  pub target : d.target ≡ to
  pub payload : d.payload ≡ bytes
  pub is_spelled : d.is_spelled ≡ spelled

-- what is of no client's line takes no memory, unless it looks as if it were of a transfer
abbrev pub takes_memory : Place → Recorded → Bool
takes_memory (Beside x) d = may_be_tftp d
takes_memory Nowhere d = may_be_tftp d
takes_memory place d = true

-- ---- the doubts of a transfer

-- They are those of all these datagrams.
pub record IsDoubtedAfter (t : TransferDoubts) (placed : List Placed) : Type 0 where
  pub agrees_late : t.agrees_late ≡ some_of t.number agrees_late placed
  pub says_unknown_id : t.says_unknown_id ≡ some_of t.number (λ q before. says_unknown_id q) placed
  pub says_first_word : t.says_first_word ≡ some_of t.number says_first_word placed
  pub is_late : t.is_late ≡ some_of t.number is_late placed
  pub is_disordered : t.is_disordered ≡ some_of t.number is_disordered placed
  pub is_asked_again : t.is_asked_again ≡ some_of t.number is_asked_again placed
  pub is_answered_apart : t.is_answered_apart ≡ is_answered_apart t.number placed
  pub follows_strays : t.follows_strays ≡ some_of t.number follows_strays placed
  pub follows_unanswered : t.follows_unanswered ≡ some_of t.number follows_unanswered placed
  pub follows_request : t.follows_request ≡ some_of t.number follows_request placed
  pub comes_in : t.comes_in ≡ some_of t.number comes_in placed
  pub goes_on_with_first : t.goes_on_with_first ≡ some_of t.number goes_on_with_first placed

-- ---- the ends of a transfer

-- They are those of all these datagrams.
pub record AreEndsAfter (t : TransferEnds) (placed : List Placed) : Type 0 where
  pub asked : t.asked ≡ asked_of t.number placed
  pub answered : t.answered ≡ answered_by t.number placed
  pub went_on : t.went_on ≡ went_on_with t.number placed
