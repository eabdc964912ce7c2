-- What is kept of a transfer stands for each datagram that tells nothing of it.
use Rattle.std.proofs.Common.{arith, ◌≡◌, ◌≤◌, ◌+◌, ℕ, length, Bool, true, false, List, [], ◌∷◌, Option, Some, None, Result, Ok, Err, sym, ap, ◌∙◌, subst, IfSome, OnOk}
use Rattle.std.proofs.lemmas.Bool.{or_parts}
use Rattle.std.specs.Bool.{then_some}
use Rattle.std.proofs.lemmas.List.Elements.{All-head, All-tail}
use Rattle.tftp_packet.specs.{Rollover}
use Rattle.audit_flows.specs.Lines.{Placed, may_be_answer_of}
use Rattle.audit_flows.specs.{Transfer}
use Rattle.audit_flows.specs.Transfers.{is_about, is_answered_apart, is_it}
use Rattle.audit_views.specs.Views.{Naming, Client, View}
use Rattle.audit_recording.specs.Between.{View as Between}
use Rattle.audit_recording.proofs.BetweenLemmas.Holding.{passes_by as between_passes_by}
use Rattle.audit_flows.proofs.TransfersLemmas.OwnDatagrams.{about_none}
use Rattle.audit_views.proofs.ViewsLemmas.Holding.{view_passes}
use Rattle.audit_views.proofs.ViewsLemmas.Passing.{client_passes, doubts_pass_by}
use Rattle.audit_recording.specs.Judges.{AreJudgesAfter, BetweenStands, ClientStands, HaveAtMost, IsUnheard, IsWatching, Judges, ServerStands, Watched, rollover_of}
use Rattle.audit_recording.specs.Judges.Kept.{fed_at_client, fed_at_server, fed_between, fed_by}
use Rattle.audit_recording.specs.declared.judges.judging.Judging.{Judging}

-- ---- at each point

pub on_ok_when : {X E A : Type 0} (C : Type 0) (r : Result X E) → (A → OnOk r C) → OnOk r (A → C)
on_ok_when C (Ok x) then = then
on_ok_when C (Err e) then = tt

pub on_some_if : {A : Type 0} (P : A → Type 0) {o : Option A} (b : Bool) (a : A) → o ≡ then_some b a → P a → IfSome o P
on_some_if P true a is holds = subst (λ o. IfSome o P) (sym is) holds
on_some_if P false a none holds = subst (λ o. IfSome o P) (sym none) tt

-- the judge of a transfer is of none that the datagram is about
pub away_of : {X : Type 0} (transfer_of : X → Transfer) (judge : Option X) (x : Transfer) (p : Placed) → is_about x.number p ≡ false
    → IfSome judge (λ j. transfer_of j ≡ x) → IfSome judge (λ j. is_about (transfer_of j).number p ≡ false)
away_of transfer_of None x p off of = of
away_of transfer_of (Some j) x p off of = ap (λ (y : Transfer). is_about y.number p) of ∙ off

client_on : (rollover : Option Rollover) (client : Option Client) (x : Transfer) (name : Naming) (p : Placed) (older : List Placed) → is_about x.number p ≡ false
    → ClientStands rollover client x name older → ClientStands rollover client x name (p ∷ older)
client_on rollover None x name p older off stands = stands
client_on rollover (Some c) x name p older off stands = (stands.0, client_passes rollover c name p older (ap (λ (y : Transfer). is_about y.number p) stands.0 ∙ off) stands.1)

server_on : (rollover : Option Rollover) (server : Option View) (x : Transfer) (name : Naming) (p : Placed) (older : List Placed) → is_about x.number p ≡ false
    → ServerStands rollover server x name older → ServerStands rollover server x name (p ∷ older)
server_on rollover None x name p older off stands = stands
server_on rollover (Some v) x name p older off stands = (stands.0, view_passes rollover v name p older (ap (λ (y : Transfer). is_about y.number p) stands.0 ∙ off) stands.1)

between_on : (rollover : Option Rollover) (between : Option Between) (x : Transfer) (name : Naming) (p : Placed) (older : List Placed) → is_about x.number p ≡ false
    → BetweenStands rollover between x name older → BetweenStands rollover between x name (p ∷ older)
between_on rollover None x name p older off stands = stands
between_on rollover (Some v) x name p older off stands =
    (stands.0, λ is. between_passes_by rollover v p older (about_none v.transfer.number p (ap (λ (y : Transfer). is_about y.number p) stands.0 ∙ off)) (stands.1 is))

-- ---- how many each has

pub fed_some_if : {A : Type 0} (counted : A → ℕ) {o : Option A} (b : Bool) (a : A) → o ≡ then_some b a → counted a ≡ 0 → fed_by counted o ≤ 0
fed_some_if counted true a is none = subst (λ o. fed_by counted o ≤ 0) (sym is) (omega (arith, none))
fed_some_if counted false a is none = subst (λ o. fed_by counted o ≤ 0) (sym is) (omega arith)

-- no more than with one datagram more
one_higher : (m : ℕ) (p : Placed) (older : List Placed) → m ≤ length older → m ≤ length (p ∷ older)
one_higher m p older le = grind arith

pub both_higher : (m k : ℕ) (p : Placed) (older : List Placed) → m ≤ k + 1 → k ≤ length older → m ≤ length (p ∷ older)
both_higher m k p older up le = grind arith

counted_on : (j : Judges) (p : Placed) (older : List Placed) → HaveAtMost j (length older) → HaveAtMost j (length (p ∷ older))
counted_on j p older few = record {
  client = one_higher (fed_at_client j.client) p older few.client;
  server = one_higher (fed_at_server j.server) p older few.server;
  between = one_higher (fed_between j.between) p older few.between;
}

-- ---- all of them

pub judges_on : (rollover : Option Rollover) (j : Judges) (x : Transfer) (name : Naming) (p : Placed) (older : List Placed) → is_about x.number p ≡ false
    → AreJudgesAfter rollover j x name older → AreJudgesAfter rollover j x name (p ∷ older)
judges_on rollover j x name p older off after = record {
  works = after.works;
  client = client_on rollover j.client x name p older off after.client;
  server = server_on rollover j.server x name p older off after.server;
  between = between_on rollover j.between x name p older off after.between;
  counted = counted_on j p older after.counted;
}

-- ---- the whole

pub watching_on : (w : Watched) (judging : Judging) (x : Transfer) (name : Naming) (p : Placed) (older : List Placed) → is_about x.number p ≡ false → is_it x.number (may_be_answer_of p older) ≡ false
    → IsWatching w judging x name older → IsWatching w judging x name (p ∷ older)
watching_on w judging x name p older off apart is = record {
  transfer = is.transfer;
  points = is.points;
  judges = judges_on (rollover_of judging) w.judges x name p older off is.judges;
  number = is.number;
  doubts = doubts_pass_by w.doubts p older (ap (λ n. is_about n p) is.number ∙ off) (ap (λ n. is_it n (may_be_answer_of p older)) is.number ∙ apart) is.doubts;
}

-- so the judges of a transfer that nothing was heard of stand for all that passed
pub watching_unheard : (w : Watched) (judging : Judging) (x : Transfer) (name : Naming) (older : List Placed) → IsUnheard x.number older → IsWatching w judging x name [] → IsWatching w judging x name older
watching_unheard w judging x name [] unheard is = is
watching_unheard w judging x name (p ∷ older) unheard is =
    let parts = or_parts (is_it x.number (may_be_answer_of p older)) (is_answered_apart x.number older) unheard.1 in
    watching_on w judging x name p older (All-head (λ (q : Placed). is_about x.number q ≡ false) p older unheard.0) parts.0
    (watching_unheard w judging x name older (All-tail (λ (q : Placed). is_about x.number q ≡ false) p older unheard.0, parts.1) is)
