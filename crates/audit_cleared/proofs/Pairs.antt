-- The datagrams of a transfer at its client, each with its label there, as they are divided there and between the ends.
use Rattle.std.proofs.Common.{◌≡◌, true, false, List, [], ◌∷◌, Any, Contains, inl, inr, refl, sym, ap, subst, ◌∙◌, map, if◌then◌else◌}
use Rattle.std.specs.List.{AllByRecursion}
use Rattle.std.proofs.lemmas.Bool.{false≢true}
use Rattle.tftp_packet.specs.{Client}
use Rattle.tftp_packet.specs.Hosts.{Datagram}
use Rattle.tftp_packet.specs.{In, Out}
use Rattle.law_end.specs.{Label, Labelled, Division, datagrams_of, view_in}
use Rattle.law_end.specs.Dress.{Main, Stray, StrayAnswer}
use Rattle.law_end.proofs.Division.Divided.{divided_more, divided_none}
use Rattle.audit_flows.specs.Lines.{same_endpoint, Placed}
use Rattle.audit_flows.specs.{Transfer}
use Rattle.audit_flows.proofs.LinesLemmas.Endpoints.{is_same, same_itself}
use Rattle.audit_flows.proofs.LinesLemmas.Lines.{by_test}
use Rattle.law_model.proofs.ModelLemmas.Members.{contains_cases, contains_none}
use Rattle.law_tap.specs.{pass_of, tapped_at, TapLabel, TapLabelled, TapDivision, tapped_of}
use Rattle.law_tap.specs.TapDress as tap
use Rattle.audit_views.specs.Views.{captured, captured_at_client}
use Rattle.audit_views.specs.Parties.{host_name}
use Rattle.audit_recording.specs.Between.{passed_of}
use Rattle.audit_cleared.proofs.Own.{IsOwn, as_request, as_talk}

pub record Pair : Type 0 where
  pub placed : Placed
  pub label : Label

abbrev pub placed_in : List Pair → List Placed
placed_in pairs = map (λ q. q.placed) pairs

-- at the client
abbrev pub labelled : Transfer → Pair → Labelled
labelled x q = record { datagram = captured_at_client host_name x q.placed; label = q.label }

abbrev pub division_of : Transfer → List Pair → Division
division_of x pairs = map (labelled x) pairs

-- between the ends
abbrev pub label_there : Label → TapLabel
label_there (Main deed) = tap.Main (pass_of Client deed)
label_there Stray = tap.Stray
label_there StrayAnswer = tap.StrayAnswer

abbrev pub labelled_there : Pair → TapLabelled
labelled_there q = record { datagram = passed_of q.placed.datagram; label = label_there q.label }

abbrev pub division_there : List Pair → TapDivision
division_there pairs = map labelled_there pairs

-- ---- a division of the capture is one of the datagrams

pub record Paired (x : Transfer) (ps : List Placed) (division : Division) : Type 0 where
  pub pairs : List Pair
  pub placed : placed_in pairs ≡ ps
  pub divided : division_of x pairs ≡ division

pub paired : (x : Transfer) (ps : List Placed) (division : Division) → datagrams_of division ≡ map (captured_at_client host_name x) ps → Paired x ps division
paired x [] division is = record { pairs = []; placed = refl; divided = sym (divided_none division is) }
paired x (p ∷ ps) division is =
    let (q, rest, same, this, more) = divided_more division (captured_at_client host_name x p) (map (captured_at_client host_name x) ps) is in
    let r = paired x ps rest more in
    record {
      pairs = record { placed = p; label = q.label } ∷ r.pairs;
      placed = ap (λ l. p ∷ l) r.placed;
      divided = ap (λ (d : Datagram). record { datagram = d; label = q.label } ∷ division_of x r.pairs) (sym this) ∙ ap (λ l. q ∷ l) r.divided ∙ sym same;
    }

-- the same passed there
pub same_there : (pairs : List Pair) → tapped_of (division_there pairs) ≡ map (λ p. passed_of p.datagram) (placed_in pairs)
same_there [] = refl
same_there (q ∷ pairs) = ap (λ l. passed_of q.placed.datagram ∷ l) (same_there pairs)

pub same_passed : (x : Transfer) (pairs : List Pair) → tap.passed_of (division_there pairs) ≡ tapped_at Client (view_in (division_of x pairs))
same_passed x [] = refl
same_passed x (q ∷ pairs) = by q.label (same_passed x pairs) where
  by : (label : Label) → tap.passed_of (division_there pairs) ≡ tapped_at Client (view_in (division_of x pairs))
      → tap.passed_of (division_there (record { placed = q.placed; label = label } ∷ pairs)) ≡ tapped_at Client (view_in (division_of x (record { placed = q.placed; label = label } ∷ pairs)))
  by (Main deed) before = ap (λ l. pass_of Client deed ∷ l) before
  by Stray before = before
  by StrayAnswer before = before

-- ---- which way a datagram went

pub data Way (x : Transfer) (p : Placed) : Type 0 where
  went : p.datagram.source ≡ x.client → captured_at_client host_name x p ≡ captured host_name Out p.datagram → Way x p
  came : same_endpoint p.datagram.source x.client ≡ false → captured_at_client host_name x p ≡ captured host_name In p.datagram → Way x p

pub way : (x : Transfer) (p : Placed) → Way x p
way x p = by_test (same_endpoint p.datagram.source x.client)
    (λ is. went (is_same p.datagram.source x.client is) (ap (λ b. captured host_name (if b then Out else In) p.datagram) is))
    (λ off. came off (ap (λ b. captured host_name (if b then Out else In) p.datagram) off))

-- what came in came to the client
pub came_to : (x : Transfer) (p : Placed) → IsOwn x p → same_endpoint p.datagram.source x.client ≡ false → p.datagram.target ≡ x.client
came_to x p (as_request is begins source opens) off = absurd (false≢true (sym off ∙ subst (λ e. same_endpoint e x.client ≡ true) (sym source) (same_itself x.client)))
came_to x p (as_talk at (inl source) asks) off = absurd (false≢true (sym off ∙ subst (λ e. same_endpoint e x.client ≡ true) source (same_itself x.client)))
came_to x p (as_talk at (inr target) asks) off = sym target

-- ---- lists

pub any_weaker : {X : Type 0} (P Q : X → Type 0) → ((y : X) → P y → Q y) → (ys : List X) → Any P ys → Any Q ys
any_weaker P Q so ys (k, y, low, at, holds) = (k, y, low, at, so y holds)

pub at_all : {X : Type 0} (P : X → Type 0) (xs : List X) (x : X) → AllByRecursion P xs → Contains xs x → P x
at_all P [] x all at = absurd (contains_none x at)
at_all P (y ∷ xs) x all at = elim (contains_cases y xs x at) [
  | inl now ↦ subst P now all.0
  | inr before ↦ at_all P xs x all.1 before
]
