-- A run is what the two ends might do, and what the network brought.
use Rattle.std.proofs.Common.{◌≡◌, ℕ, List, [], ◌∷◌, refl, sym, subst, ap, ◌↔◌}
use Rattle.tftp_packet.specs.{End, Client, Server}
use Rattle.law_model.specs.Model.{Meaning, Deed, Sent, Took, History, HasSent, MaySend, Step, view_of, MayFollow, IsRun, IsView}
use Rattle.law_model.specs.Model.Machines.{other_end}
use Rattle.law_pair.specs.{ArePair, IsOpen, AreMerged, MaySendEach}
use Rattle.law_pair.proofs.Merged.{nothing, at_client, at_server, by_order}

-- ---- from a run

follow_open : (m : Meaning) (wire : List ℕ) (earlier : List Step) (e : End) (d : Deed) → MayFollow m wire earlier e d → IsOpen (view_of (other_end e) earlier) d
follow_open m wire earlier e (Sent p) may = tt
follow_open m wire earlier e (Took p) may = may

run_merged : (m : Meaning) (wire : List ℕ) (steps : List Step) → IsRun m wire steps → AreMerged (view_of Client steps) (view_of Server steps)
run_merged m wire [] run = nothing IsOpen
run_merged m wire (s ∷ steps) run = by s.actor s.deed run.0 (run_merged m wire steps run.1) where
  by : (e : End) (d : Deed) → MayFollow m wire steps e d → AreMerged (view_of Client steps) (view_of Server steps)
      → AreMerged (view_of Client (record { actor = e; deed = d } ∷ steps)) (view_of Server (record { actor = e; deed = d } ∷ steps))
  by Client d may before = at_client IsOpen d (view_of Client steps) (view_of Server steps) (follow_open m wire steps Client d may) before
  by Server d may before = at_server IsOpen d (view_of Client steps) (view_of Server steps) (follow_open m wire steps Server d may) before

deed_each : (m : Meaning) (wire : List ℕ) (earlier : List Step) (e : End) (d : Deed) → MayFollow m wire earlier e d → MaySendEach m wire e (view_of e earlier) → MaySendEach m wire e (d ∷ view_of e earlier)
deed_each m wire earlier e (Sent p) may before = (may, before)
deed_each m wire earlier e (Took p) may before = before

step_each : (m : Meaning) (wire : List ℕ) (earlier : List Step) (e a : End) (d : Deed) → MayFollow m wire earlier a d → MaySendEach m wire e (view_of e earlier) → MaySendEach m wire e (view_of e (record { actor = a; deed = d } ∷ earlier))
step_each m wire earlier Client Client d may before = deed_each m wire earlier Client d may before
step_each m wire earlier Client Server d may before = before
step_each m wire earlier Server Client d may before = before
step_each m wire earlier Server Server d may before = deed_each m wire earlier Server d may before

run_each : (m : Meaning) (wire : List ℕ) (e : End) (steps : List Step) → IsRun m wire steps → MaySendEach m wire e (view_of e steps)
run_each m wire e [] run = tt
run_each m wire e (s ∷ steps) run = step_each m wire steps e s.actor s.deed run.0 (run_each m wire e steps run.1)

-- ---- to a run

pub each_tail : (m : Meaning) (wire : List ℕ) (e : End) (d : Deed) (h : History) → MaySendEach m wire e (d ∷ h) → MaySendEach m wire e h
each_tail m wire e (Sent p) h each = each.1
each_tail m wire e (Took p) h each = each

each_follows : (m : Meaning) (wire : List ℕ) (earlier : List Step) (e : End) (own other : History) → view_of e earlier ≡ own → view_of (other_end e) earlier ≡ other
    → (d : Deed) → MaySendEach m wire e (d ∷ own) → IsOpen other d → MayFollow m wire earlier e d
each_follows m wire earlier e own other is other_is (Sent p) each now = subst (λ h. MaySend m wire e h p) (sym is) each.0
each_follows m wire earlier e own other is other_is (Took p) each now = subst (λ h. HasSent h p) (sym other_is) now

merged_pair : (m : Meaning) (wire : List ℕ) (client server : History) → AreMerged client server → MaySendEach m wire Client client → MaySendEach m wire Server server → ArePair m wire client server
merged_pair m wire = by_order IsOpen (λ client server. MaySendEach m wire Client client → MaySendEach m wire Server server → ArePair m wire client server)
    (λ one other. record { steps = []; run = tt; client_view = refl; server_view = refl })
    (λ d client server now merged before each other.
    let pair = before (each_tail m wire Client d client each) other in
    record {
      steps = record { actor = Client; deed = d } ∷ pair.steps;
      run = (each_follows m wire pair.steps Client client server pair.client_view pair.server_view d each now, pair.run);
      client_view = ap (λ h. d ∷ h) pair.client_view;
      server_view = pair.server_view;
    })
    (λ d client server now merged before other each.
    let pair = before other (each_tail m wire Server d server each) in
    record {
      steps = record { actor = Server; deed = d } ∷ pair.steps;
      run = (each_follows m wire pair.steps Server server client pair.server_view pair.client_view d each now, pair.run);
      client_view = pair.client_view;
      server_view = ap (λ h. d ∷ h) pair.server_view;
    })

pub pair_is : (m : Meaning) (wire : List ℕ) (client server : History) → ArePair m wire client server ↔ (MaySendEach m wire Client client × MaySendEach m wire Server server × AreMerged client server)
pair_is m wire client server = (
  λ pair. (
    subst (MaySendEach m wire Client) pair.client_view (run_each m wire Client pair.steps pair.run),
    subst (MaySendEach m wire Server) pair.server_view (run_each m wire Server pair.steps pair.run),
    subst (λ h. AreMerged h server) pair.client_view (subst (AreMerged (view_of Client pair.steps)) pair.server_view (run_merged m wire pair.steps pair.run)),
  ),
  λ parts. merged_pair m wire client server parts.2 parts.0 parts.1,
)

pub view_each : (m : Meaning) (wire : List ℕ) (e : End) (h : History) → IsView m wire e h → MaySendEach m wire e h
view_each m wire e h (steps, run, is) = subst (MaySendEach m wire e) is (run_each m wire e steps run)
