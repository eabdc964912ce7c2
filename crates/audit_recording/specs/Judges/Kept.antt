-- What the judge of a recording keeps, and for which recordings it stands. Lists have the newest first.
use Rattle.std.specs.Prelude.{◌≡◌, ◌≤◌, ◌<◌, ◌^◌, ◌⊎◌, ◌==◌, ◌∷◌, ℕ, Bool, true, false, List, All, Option, Some, None, Err, is_some, length, unwrap_or, IfSome, IsSome, if◌then◌else◌}
use Rattle.std.specs.BTreeMap.{BTreeMap, get}
use Rattle.std.specs.List.{list_any}
use Rattle.std.specs.Ordering.{nat_cmp}
use Rattle.audit_flows.specs.Transfers.{placed, is_about, opened_it, is_answered_apart, IsAfter, IsDoubtedAfter}
use Rattle.audit_flows.specs.{Attribution, TransferDoubts}
use Rattle.audit_flows.specs.Lines.{Recorded, Placed, newest_of, transfer_of}
use Rattle.audit_flows.specs.{Transfer}
use Rattle.audit_views.specs.Views.{Naming, Client, IsClientAfterBy, IsViewAfterBy, View, fed_to, has_refused}
use Rattle.audit_views.specs.{Party}
use Rattle.audit_views.specs.Parties.{host_name}
use Rattle.audit_recording.specs.Between.{IsBetweenAfterBy, View as Between, given_to, has_refused as refused_there}
use Rattle.tftp_packet.specs.{Rollover}
use Rattle.tftp_judge.specs.{Refusal}
use Rattle.judge_tap.specs.{TapRefusal}
use Rattle.tftp_judge.specs.declared.refusal.Refusal.TheVariants.{Memory}
use Rattle.judge_tap.specs.declared.refusal.TapRefusal.TheVariants.{Memory as TapMemory}
use Rattle.audit_recording.specs.declared.judges.judging.Judging.{Judging}
use Rattle.audit_recording.specs.declared.judges.judging.Points.{Points}
use Rattle.audit_recording.specs.declared.judges.verdicts.Verdicts.{Verdicts}
use Rattle.audit_recording.specs.Judges.Points.{points_of, rollover_of}

-- ---- one transfer

-- The judges of a transfer, each where it is judged; or memory ran out for a datagram.
pub record Judges : Type 0 where
  pub client : Option Client
  pub server : Option View
  pub between : Option Between
  pub failed : Bool

-- The judge at a point, if there is one, is this transfer's and was fed these datagrams of a recording, and nothing else.
abbrev pub StandsAs : {J : Type 0} → (J → Transfer) → (J → Naming → List Placed → Type 0) → Option J → Transfer → Naming → List Placed → Type 0
StandsAs judged stands judge x name placed = IfSome judge (λ j. (judged j ≡ x) × stands j name placed)

-- by what comes after block 65535
abbrev pub ClientStands : Option Rollover → Option Client → Transfer → Naming → List Placed → Type 0
ClientStands rollover = StandsAs (λ (c : Client). c.transfer) (λ c name placed. IsClientAfterBy rollover c name placed)

abbrev pub ServerStands : Option Rollover → Option View → Transfer → Naming → List Placed → Type 0
ServerStands rollover = StandsAs (λ (v : View). v.transfer) (λ v name placed. IsViewAfterBy rollover v name placed)

-- the judge between the ends wants the hosts called by their addresses
abbrev pub BetweenStands : Option Rollover → Option Between → Transfer → Naming → List Placed → Type 0
BetweenStands rollover = StandsAs (λ (v : Between). v.transfer) (λ v name placed. name ≡ host_name → IsBetweenAfterBy rollover v placed)

-- how many datagrams the judge at a point has accepted, or holds
abbrev pub fed_by : {J : Type 0} → (J → ℕ) → Option J → ℕ
fed_by counted None = 0
fed_by counted (Some j) = counted j

abbrev pub fed_at_client : Option Client → ℕ
fed_at_client = fed_by (λ (c : Client). c.end.judge.fed)

abbrev pub fed_at_server : Option View → ℕ
fed_at_server = fed_by fed_to

abbrev pub fed_between : Option Between → ℕ
fed_between = fed_by given_to

-- none of them has more than this
pub record HaveAtMost (j : Judges) (count : ℕ) : Type 0 where
  pub client : fed_at_client j.client ≤ count
  pub server : fed_at_server j.server ≤ count
  pub between : fed_between j.between ≤ count

-- each of them, and none has more datagrams than these
pub record AreJudgesAfter (rollover : Option Rollover) (j : Judges) (x : Transfer) (name : Naming) (placed : List Placed) : Type 0 where
  pub works : j.failed ≡ false
  pub client : ClientStands rollover j.client x name placed
  pub server : ServerStands rollover j.server x name placed
  pub between : BetweenStands rollover j.between x name placed
  pub counted : HaveAtMost j (length placed)

-- each is this transfer's
pub record AreOf (j : Judges) (x : Transfer) : Type 0 where
  pub client : IfSome j.client (λ c. c.transfer ≡ x)
  pub server : IfSome j.server (λ v. v.transfer ≡ x)
  pub between : IfSome j.between (λ v. v.transfer ≡ x)

-- they stand at these points, and at no others
pub record AreAt (j : Judges) (points : Points) : Type 0 where
  pub client : is_some j.client ≡ points.client
  pub server : is_some j.server ≡ points.server
  pub between : is_some j.between ≡ points.between

-- one of them has as many as can be counted
abbrev pub IsCrowded : Judges → Type 0
IsCrowded j = (2 ^ 40 ≤ fed_at_client j.client) ⊎ (2 ^ 40 ≤ fed_at_server j.server) ⊎ (2 ^ 40 ≤ fed_between j.between)

-- none of them has
pub record AreFew (j : Judges) : Type 0 where
  pub client : fed_at_client j.client < 2 ^ 40
  pub server : fed_at_server j.server < 2 ^ 40
  pub between : fed_between j.between < 2 ^ 40

-- something is said at these points, and at no others
pub record AreTold (v : Verdicts) (points : Points) : Type 0 where
  pub client : is_some v.client ≡ points.client
  pub server : is_some v.server ≡ points.server
  pub between : is_some v.between ≡ points.between

-- what the judge at a point has refused; none where there is no judge
abbrev pub refused_by : {J R : Type 0} → (J → Option R) → Option J → Option R
refused_by refused None = None
refused_by refused (Some j) = refused j

abbrev pub refused_at_client : Option Client → Option Refusal
refused_at_client = refused_by (λ (c : Client). c.end.judge.refused)

abbrev pub refused_at_server : Option View → Option Refusal
refused_at_server = refused_by has_refused

abbrev pub refused_between : Option Between → Option TapRefusal
refused_between = refused_by refused_there

-- What is known to be refused at a point is told there, whatever memory there is since.
pub record AreRefusalsTold (j : Judges) (v : Verdicts) : Type 0 where
  pub client : (refusal : Refusal) → refused_at_client j.client ≡ Some refusal → v.client ≡ Some (Err refusal)
  pub server : (refusal : Refusal) → refused_at_server j.server ≡ Some refusal → v.server ≡ Some (Err refusal)
  pub between : (refusal : TapRefusal) → refused_between j.between ≡ Some refusal → v.between ≡ Some (Err refusal)

-- at each point it is what was refused there, and else that memory ran out
pub record AreWants (j : Judges) (v : Verdicts) : Type 0 where
  pub client : IfSome v.client (λ said. said ≡ Err (unwrap_or (refused_at_client j.client) (Memory (fed_at_client j.client))))
  pub server : IfSome v.server (λ said. said ≡ Err (unwrap_or (refused_at_server j.server) (Memory (fed_at_server j.server))))
  pub between : IfSome v.between (λ said. said ≡ Err (unwrap_or (refused_between j.between) (TapMemory (fed_between j.between))))

-- A transfer, its judges, and what is doubtful of it.
pub record Watched : Type 0 where
  pub transfer : Transfer
  pub judges : Judges
  pub doubts : TransferDoubts

-- It is this transfer, judged at the points where it is to be: its judges were fed these datagrams of a recording, and the
-- doubts are those of all of them.
pub record IsWatching (w : Watched) (judging : Judging) (x : Transfer) (name : Naming) (placed : List Placed) : Type 0 where
  pub transfer : w.transfer ≡ x
  pub points : AreAt w.judges (points_of judging x)
  pub judges : AreJudgesAfter (rollover_of judging) w.judges x name placed
  pub number : w.doubts.number ≡ x.number
  pub doubts : IsDoubtedAfter w.doubts placed

-- ---- all transfers

-- one of them is crowded
pub record AreCrowded (watched : BTreeMap ℕ Watched) : Type 0 where
  pub number : ℕ
  pub one : Watched
  pub kept : get nat_cmp watched number ≡ Some one
  pub crowded : IsCrowded one.judges

-- the transfer with this number, if a request opened it
abbrev pub opened : ℕ → List Placed → Option Transfer
opened n placed = by (newest_of (opened_it n) placed) where
  by : Option Placed → Option Transfer
  by None = None
  by (Some p) = transfer_of p.place

abbrev pub is_among : ℕ → List ℕ → Bool
is_among n numbers = list_any (λ k. k == n) numbers

-- What is kept of the transfer with this number: its judges, fed with `fed`, where it was not handed out; or nothing, where no
-- request opened it or it was handed out.
abbrev pub IsKept : Judging → Naming → List ℕ → List Placed → List Placed → ℕ → Option Watched → Type 0
IsKept judging name out all fed n None = (opened n all ≡ None) ⊎ (is_among n out ≡ true)
IsKept judging name out all fed n (Some w) = (opened n all ≡ Some w.transfer) × (is_among n out ≡ false) × IsWatching w judging w.transfer name fed

-- of each transfer that was opened in `all`
abbrev pub AreKept : BTreeMap ℕ Watched → Judging → Naming → List ℕ → List Placed → List Placed → Type 0
AreKept watched judging name out all fed = (n : ℕ) → IsKept judging name out all fed n (get nat_cmp watched n)

-- a request opened each transfer with one of these numbers
abbrev pub WereOpened : List ℕ → List Placed → Type 0
WereOpened numbers placed = (n : ℕ) → is_among n numbers ≡ true → IsSome (opened n placed)

-- What the judge of a recording keeps: what places the datagrams, the transfers by their numbers, whether memory ran out
-- for a datagram, and where transfers are to be judged.
pub record RecordingJudge : Type 0 where
  pub attribution : Attribution
  pub watched : BTreeMap ℕ Watched
  pub failed : Bool
  pub judging : Judging

-- What places the datagrams and the judges of the transfers were fed this recording, and nothing else: each transfer of it
-- has its judges where it is to be judged, but for those that were handed out. `named` are the service ports that were named,
-- `name` names each host.
pub record StandsAfter (judge : RecordingJudge) (named : List ℕ) (name : Naming) (out : List ℕ) (recorded : List Recorded) : Type 0 where
  pub works : judge.failed ≡ false
  pub attribution : IsAfter judge.attribution named (placed named recorded)
  pub transfers : AreKept judge.watched judge.judging name out (placed named recorded) (placed named recorded)
  pub handed : WereOpened out (placed named recorded)

-- the host of an end is called by its name
abbrev pub IsCalled : Naming → Party → Type 0
IsCalled name p = p.host ≡ name p.end.address

-- ---- one datagram more, handed to the transfers one by one

-- no datagram has told anything of the transfer with this number
abbrev pub IsUnheard : ℕ → List Placed → Type 0
IsUnheard n placed = All (λ (p : Placed). is_about n p ≡ false) placed × (is_answered_apart n placed ≡ false)

-- no datagram has told anything of it, nor was it handed out
abbrev pub IsNew : ℕ → List ℕ → List Placed → Type 0
IsNew n out placed = IsUnheard n placed × (is_among n out ≡ false)

-- The newest datagram was handed to the transfers with these numbers, and not yet to the others.
abbrev pub AreHanded : (ℕ → Bool) → BTreeMap ℕ Watched → Judging → Naming → List ℕ → Placed → List Placed → Type 0
AreHanded got watched judging name out p older =
    (n : ℕ) → IsKept judging name out (p ∷ older) (if got n then p ∷ older else older) n (get nat_cmp watched n)
