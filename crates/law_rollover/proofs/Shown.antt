-- A capture shows a run by numbers exactly if it shows the run with the blocks near in their place.
use Rattle.std.proofs.Common.{◌≡◌, ◌⊎◌, ℕ, ◌<◌, ◌≤◌, max, List, [], ◌∷◌, Contains, reverse, inl, inr, refl, sym, subst, ap, ◌∙◌, arith}
use Rattle.std.specs.List.{AllByRecursion}
use Rattle.std.proofs.lemmas.Bool.{cases_lt}
use Rattle.std.proofs.lemmas.List.{reverse-reverse}
use Rattle.tftp_packet.specs.{Message, Spells}
use Rattle.tftp_packet.specs.Hosts.{Datagram, Header}
use Rattle.law_model.specs.Model.{Meaning, MachinePacket, Req, Oack, Data, Ack, Error, Deed, History, IsOneSided, IsView, message_of, blksize_of, block}
use Rattle.law_model.specs.Rules.{IsGreatest, IsHigh, transfer_of}
use Rattle.law_model.proofs.ModelLemmas.Members.{contains_first, contains_later}
use Rattle.law_end.specs.Dress.{StrayAnswer}
use Rattle.law_end.specs.{AreRouted, BeginsAsRequest, Division, HasLabelBy, HaveLabels, HaveLabelsBy, IsDressed, Label, Main, Stray, TransferIds, datagrams_of, packet_of, dir_of, says_of, view_in}
use Rattle.law_end.proofs.Accord.HighestNumbers.{either_way, some_way}
use Rattle.law_end.proofs.Accord.PassedIsDone.{passed_told, told_passed, data_only}
use Rattle.law_end.proofs.Division.Routed.{routed_by, starts_of, told_of}
use Rattle.law_end.proofs.Written.EachOf.{all_reverse}
use Rattle.tftp_packet.specs.{Rollover}
use Rattle.law_rollover.specs.{AreBytes, AreNear, AreUnrolled, IsNearPacket, IsDressedByNumber, high_of, higher_of, says_by_number, unrolled_payload, with_payload}
use Rattle.law_rollover.proofs.Timely.{data_below}
use Rattle.law_rollover.proofs.Dressing.{Alike, label_moves}
use Rattle.law_rollover.proofs.Payloads.{begins_on, begins_back, error_on, error_back, says_on, says_back}

-- ---- the highest block

pub one_greatest : (P : ℕ → Type 0) (a b : ℕ) → IsGreatest P a → IsGreatest P b → a ≡ b
one_greatest P a b x y =
    let up : a ≤ b = elim x.member [ inl none ↦ omega (arith, none) | inr is ↦ y.most a is ] in
    let down : b ≤ a = elim y.member [ inl none ↦ omega (arith, none) | inr is ↦ x.most b is ] in
    omega (arith, up, down)

-- it is 0, or some deed has it
high_reached : (view : History) → (high_of view ≡ 0) ⊎ ((d : Deed) × Contains view d × (packet_of d ≡ Data (high_of view)))
high_reached [] = inl refl
high_reached (d ∷ view) = by (packet_of d) refl (high_reached view) where
  before : (high : ℕ) → (high ≡ 0) ⊎ ((e : Deed) × Contains view e × (packet_of e ≡ Data high)) → (high ≡ 0) ⊎ ((e : Deed) × Contains (d ∷ view) e × (packet_of e ≡ Data high))
  before high (inl none) = inl none
  before high (inr (e, at, is)) = inr (e, contains_later d view e at, is)

  by : (p : MachinePacket) → packet_of d ≡ p → (high_of view ≡ 0) ⊎ ((e : Deed) × Contains view e × (packet_of e ≡ Data (high_of view)))
      → (higher_of p (high_of view) ≡ 0) ⊎ ((e : Deed) × Contains (d ∷ view) e × (packet_of e ≡ Data (higher_of p (high_of view))))
  by Req is old = before (high_of view) old
  by Oack is old = before (high_of view) old
  by (Ack j) is old = before (high_of view) old
  by (Error code text) is old = before (high_of view) old
  by (Data k) is old = elim (cases_lt (high_of view) k) [
    | inl more ↦ let top : k ≡ max (high_of view) k = omega (arith, more) in inr (d, contains_first d view, is ∙ ap Data top)
    | inr less ↦ let top : high_of view ≡ max (high_of view) k = omega (arith, less) in
        subst (λ high. (high ≡ 0) ⊎ ((e : Deed) × Contains (d ∷ view) e × (packet_of e ≡ Data high))) top (before (high_of view) old)
  ]

module _ (r : Rollover) (h : Header) (m : Meaning) (wire : List ℕ) where
  high_is : (division : Division) → AreRouted h m wire division → IsHigh (transfer_of h (datagrams_of division)) (high_of (view_in division))
  high_is division routed = record {
    member = elim (high_reached (view_in division)) [
      | inl none ↦ inl none
      | inr (d, at, is) ↦ inr (block (blksize_of m) wire (high_of (view_in division)), either_way (dir_of d) (Message.Data (high_of (view_in division)) (block (blksize_of m) wire (high_of (view_in division)))) _ (rw (sym (ap (message_of m wire) is)) (told_passed h m wire division routed d at)))
    ];
    most = λ n some.
        let (dir, passed) = some_way (Message.Data n some.0) _ some.1 in
        let (deed, at, way, said) = passed_told h m wire division routed dir (Message.Data n some.0) passed in
        data_below (view_in division) deed n (data_only h m wire (packet_of deed) n some.0 said).0 at;
  }

  -- ---- from numbers to blocks

  abbrev payload_at : Division → Datagram → List ℕ
  payload_at earlier d = unrolled_payload r (high_of (view_in earlier)) d.payload

  abbrev pub unroll : Division → Division
  unroll [] = []
  unroll (p ∷ earlier) = record { datagram = with_payload p.datagram (payload_at earlier p.datagram); label = p.label } ∷ unroll earlier

  pub view_same : (division : Division) → view_in (unroll division) ≡ view_in division
  view_same [] = refl
  view_same (p ∷ earlier) = by p.label (view_same earlier) where
    by : (label : Label) → view_in (unroll earlier) ≡ view_in earlier → view_in (record { datagram = with_payload p.datagram (payload_at earlier p.datagram); label = label } ∷ unroll earlier) ≡ view_in (record { datagram = p.datagram; label = label } ∷ earlier)
    by (Main deed) before = ap (λ view. deed ∷ view) before
    by Stray before = before
    by StrayAnswer before = before

  alike : (division : Division) → Alike division (unroll division)
  alike [] = tt
  alike (p ∷ earlier) = (refl, (payload_at earlier p.datagram, refl), alike earlier)

  near_before : (d : Datagram) (label : Label) (earlier : Division) → AreNear r (view_in (record { datagram = d; label = label } ∷ earlier)) → AreNear r (view_in earlier)
  near_before d (Main deed) earlier near = near.1
  near_before d Stray earlier near = near
  near_before d StrayAnswer earlier near = near

  near_main : (d : Datagram) (label : Label) (earlier : Division) (deed : Deed) → label ≡ Main deed → AreNear r (view_in (record { datagram = d; label = label } ∷ earlier))
      → IsNearPacket r (high_of (view_in earlier)) (packet_of deed)
  near_main d label earlier deed is near = (subst (λ x. AreNear r (view_in (record { datagram = d; label = x } ∷ earlier))) is near).0

  pub labels_on : (ids : TransferIds) (division : Division) → AreNear r (view_in division) → HaveLabelsBy h (says_by_number r m wire) ids division → HaveLabels h m wire ids (unroll division)
  labels_on ids [] near labels = tt
  labels_on ids (p ∷ earlier) near labels = (
    label_moves h ids earlier (unroll earlier) (alike earlier) p.datagram (payload_at earlier p.datagram) (says_by_number r m wire) (says_of m wire) p.label labels.0
        (λ deed is says. says_on r (high_of (view_in earlier)) p.datagram.payload m wire (packet_of deed) (near_main p.datagram p.label earlier deed is near) says)
        (begins_back r (high_of (view_in earlier)) p.datagram.payload)
        (λ text spells. error_on r (high_of (view_in earlier)) p.datagram.payload 5 text spells),
    labels_on ids earlier (near_before p.datagram p.label earlier near) labels.1,
  )

  pub unrolled_are : (division : Division) → AreRouted h m wire (unroll division) → AreUnrolled r h (datagrams_of division) (datagrams_of (unroll division))
  unrolled_are [] routed = tt
  unrolled_are (p ∷ earlier) routed = (
    (high_of (view_in earlier), subst (λ view. IsHigh (transfer_of h (datagrams_of (unroll earlier))) (high_of view)) (view_same earlier) (high_is (unroll earlier) routed.2), refl),
    unrolled_are earlier routed.2,
  )

  -- ---- and back

  abbrev pub roll : List Datagram → Division → Division
  roll [] division = []
  roll (d ∷ ds) [] = []
  roll (d ∷ ds) (p ∷ rest) = record { datagram = d; label = p.label } ∷ roll ds rest

  pub rolled_whole : (ds : List Datagram) (division : Division) → AreUnrolled r h ds (datagrams_of division) → datagrams_of (roll ds division) ≡ ds
  rolled_whole [] [] are = refl
  rolled_whole [] (p ∷ rest) are = absurd are
  rolled_whole (d ∷ ds) [] are = absurd are
  rolled_whole (d ∷ ds) (p ∷ rest) are = ap (λ x. d ∷ x) (rolled_whole ds rest are.1)

  pub rolled_view : (ds : List Datagram) (division : Division) → AreUnrolled r h ds (datagrams_of division) → view_in (roll ds division) ≡ view_in division
  rolled_view [] [] are = refl
  rolled_view [] (p ∷ rest) are = absurd are
  rolled_view (d ∷ ds) [] are = absurd are
  rolled_view (d ∷ ds) (p ∷ rest) are = by p.label (rolled_view ds rest are.1) where
    by : (label : Label) → view_in (roll ds rest) ≡ view_in rest → view_in (record { datagram = d; label = label } ∷ roll ds rest) ≡ view_in (record { datagram = p.datagram; label = label } ∷ rest)
    by (Main deed) before = ap (λ view. deed ∷ view) before
    by Stray before = before
    by StrayAnswer before = before

  rolled_alike : (ds : List Datagram) (division : Division) → AreUnrolled r h ds (datagrams_of division) → Alike division (roll ds division)
  rolled_alike [] [] are = tt
  rolled_alike [] (p ∷ rest) are = absurd are
  rolled_alike (d ∷ ds) [] are = absurd are
  rolled_alike (d ∷ ds) (p ∷ rest) are = (refl, (d.payload, sym (ap (λ x. with_payload x d.payload) are.0.2)), rolled_alike ds rest are.1)

  more_near : (d : Datagram) (label : Label) (rest : Division) → AreNear r (view_in rest)
      → ((deed : Deed) → label ≡ Main deed → IsNearPacket r (high_of (view_in rest)) (packet_of deed)) → AreNear r (view_in (record { datagram = d; label = label } ∷ rest))
  more_near d (Main deed) rest near one = (one deed refl, near)
  more_near d Stray rest near one = near
  more_near d StrayAnswer rest near one = near

  pub labels_back : (ids : TransferIds) (ds : List Datagram) (division : Division) → AllByRecursion (λ (d : Datagram). AllByRecursion (λ b. b < 256) d.payload) ds
      → AreUnrolled r h ds (datagrams_of division) → AreRouted h m wire division → HaveLabels h m wire ids division
      → HaveLabelsBy h (says_by_number r m wire) ids (roll ds division) × AreNear r (view_in division)
  labels_back ids [] [] bytes are routed labels = (tt, tt)
  labels_back ids [] (p ∷ rest) bytes are routed labels = absurd are
  labels_back ids (d ∷ ds) [] bytes are routed labels = absurd are
  labels_back ids (d ∷ ds) (p ∷ rest) bytes are routed labels =
      let (high, is_high, same) = are.0 in
      let payload_is : p.datagram.payload ≡ unrolled_payload r high d.payload = ap (λ (x : Datagram). x.payload) same in
      let top : high ≡ high_of (view_in rest) = one_greatest _ high (high_of (view_in rest)) is_high (high_is rest routed.2) in
      let others = labels_back ids ds rest bytes.1 are.1 routed.2 labels.1 in
      let says = λ (deed : Deed) (spells : says_of m wire (packet_of deed) p.datagram.payload).
      says_back r high d.payload m wire bytes.0 (packet_of deed) (subst (says_of m wire (packet_of deed)) payload_is spells) in
      let moved = label_moves h ids rest (roll ds rest) (rolled_alike ds rest are.1) p.datagram d.payload (says_of m wire) (says_by_number r m wire) p.label labels.0
      (λ deed is spells. (says deed spells).0)
      (λ begins. subst BeginsAsRequest (sym payload_is) (begins_on r high d.payload begins))
      (λ text spells. error_back r high d.payload 5 text (subst (λ payload. Spells payload (Message.Error 5 text)) payload_is spells)) in (
        (subst (λ x. HasLabelBy h (says_by_number r m wire) ids (roll ds rest) x p.label) (ap (λ x. with_payload x d.payload) same) moved, others.0),
        more_near p.datagram p.label rest others.1 (λ deed is. subst (λ x. IsNearPacket r x (packet_of deed)) top (says deed (main_says deed is labels.0)).1),
      )
    where
      main_says : (deed : Deed) → p.label ≡ Main deed → HasLabelBy h (says_of m wire) ids rest p.datagram p.label → says_of m wire (packet_of deed) p.datagram.payload
      main_says deed is has = (subst (λ x. HasLabelBy h (says_of m wire) ids rest p.datagram x) is has).spells

  -- ---- captures

  module _ (one_sided : (view : History) → IsView m wire h.named view → IsOneSided m wire h.named view) where
    -- a division as a run is seen has the routes of its labels
    routed : (ids : TransferIds) (division : Division) (view : History) → view_in division ≡ view → IsView m wire h.named view → HaveLabels h m wire ids division → AreRouted h m wire division
    routed ids division view is run labels =
        routed_by h (says_of m wire) (told_of m wire) ids division labels
        (starts_of h m wire ids division labels (subst (IsOneSided m wire h.named) (sym is) (one_sided view run)))

    pub dressed_on : (datagrams : List Datagram) (view : History) → IsView m wire h.named view → AreNear r view → IsDressedByNumber r h m wire view datagrams
        → (unrolled : List Datagram) × AreUnrolled r h (reverse datagrams) (reverse unrolled) × IsDressed h m wire view unrolled
    dressed_on datagrams view run near dressed =
        let division = dressed.division in
        let labels = labels_on dressed.ids division (subst (AreNear r) (sym dressed.main) near) dressed.labels in
        let main : view_in (unroll division) ≡ view = view_same division ∙ dressed.main in
        let are = unrolled_are division (routed dressed.ids (unroll division) view main run labels) in
        let back : reverse (reverse (datagrams_of (unroll division))) ≡ datagrams_of (unroll division) = reverse-reverse (datagrams_of (unroll division)) in (
          reverse (datagrams_of (unroll division)),
          subst (λ us. AreUnrolled r h (reverse datagrams) us) (sym back) (subst (λ ds. AreUnrolled r h ds (datagrams_of (unroll division))) dressed.whole are),
          record { ids = dressed.ids; division = unroll division; whole = sym back; main = main; labels = labels },
        )

    pub dressed_back : (datagrams unrolled : List Datagram) (view : History) → AreBytes datagrams → IsView m wire h.named view
        → AreUnrolled r h (reverse datagrams) (reverse unrolled) → IsDressed h m wire view unrolled → AreNear r view × IsDressedByNumber r h m wire view datagrams
    dressed_back datagrams unrolled view bytes run all dressed =
        let division = dressed.division in
        let are = subst (λ us. AreUnrolled r h (reverse datagrams) us) (sym dressed.whole) all in
        let by_routes = routed dressed.ids division view dressed.main run dressed.labels in
        let labels = labels_back dressed.ids (reverse datagrams) division (all_reverse (λ (d : Datagram). AllByRecursion (λ b. b < 256) d.payload) datagrams bytes) are by_routes dressed.labels in (
          subst (AreNear r) dressed.main labels.1,
          record {
            ids = dressed.ids;
            division = roll (reverse datagrams) division;
            whole = rolled_whole (reverse datagrams) division are;
            main = rolled_view (reverse datagrams) division are ∙ dressed.main;
            labels = labels.0;
          },
        )
