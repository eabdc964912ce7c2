-- What an end says in a list that is lawful with losses is a packet of a run.
use Rattle.std.proofs.Common.{◌≡◌, ℕ, List, [], ◌∷◌, Any, Contains, inl, inr, refl, sym, subst, ap, ◌∙◌}
use Rattle.std.proofs.lemmas.Bool.{true≢false}
use Rattle.tftp_packet.specs.{Message, Spells, End}
use Rattle.law_model.specs.Model.{Meaning, MachinePacket, message_of}
use Rattle.law_model.proofs.ModelLemmas.Members.{contains_first, contains_later, contains_cases, contains_none}
use Rattle.law_end.specs.{Fits, says_of, says_some}
use Rattle.law_end.proofs.Division.Divided.{any_none, any_cases}
use Rattle.law_end.proofs.Spelled.{spelled_once}
use Rattle.law_tap.specs.{Pass, MayPassEach, TapDatagram, TapSides, AreApart, TapLabel, Main, TapLabelled, TapDivision, tapped_of, passed_of, HasTapLabel, HaveTapLabels, is_passing}
use Rattle.law_tap.specs.TapDress.{Stray, StrayAnswer}
use Rattle.law_tap.specs.LossesBetween.{IsLawfulBetweenWithLosses, IsSentInOneRun}
use Rattle.law_tap.specs.LossyRules.{lossy_route, IsSaidBy, IsSaid}
use Rattle.law_tap.proofs.Left.{loses_none, left_was_there}
use Rattle.law_tap.proofs.LossyRoutes.{lossy_label}
use Rattle.law_tap.proofs.OneRun.{sent_in_one}
use Rattle.law_tap.proofs.OneTap.{Has}
use Rattle.law_tap.proofs.OneTapDivision.{labels_some, one_end}
use Rattle.law_tap.proofs.Projects.{view_may_pass}
use Rattle.law_tap.proofs.TapRouted.{label_route}

pub any_there : {X : Type 0} (P : X → Type 0) (xs : List X) → Any P xs → (x : X) × Contains xs x × P x
any_there P [] any = absurd (any_none P any)
any_there P (x ∷ xs) any = elim (any_cases P x xs any) [
  | inl now ↦ (x, contains_first x xs, now)
  | inr before ↦ let r = any_there P xs before in (r.0, contains_later x xs r.0 r.1, r.2)
]

pub passed_main : (q : TapLabelled) (x : Pass) (rest : TapDivision) → q.label ≡ Main x → passed_of (q ∷ rest) ≡ x ∷ passed_of rest
passed_main q x rest is = subst (λ l. passed_of (record { datagram = q.datagram; label = l } ∷ rest) ≡ x ∷ passed_of rest) (sym is) refl

passed_later : (q : TapLabelled) (rest : TapDivision) (x : Pass) → Contains (passed_of rest) x → Contains (passed_of (q ∷ rest)) x
passed_later q rest x at = by q.label where
  by : (l : TapLabel) → Contains (passed_of (record { datagram = q.datagram; label = l } ∷ rest)) x
  by (Main y) = contains_later y (passed_of rest) x at
  by Stray = at
  by StrayAnswer = at

module _ (s : TapSides) (apart : AreApart s) where
  module _ (m : Meaning) (wire : List ℕ) where
    -- a datagram that an end says something in is a main one
    record IsPacket (division : TapDivision) (e : End) (n : Message) : Type 0 where
      packet : MachinePacket
      passed : Contains (passed_of division) (record { from = e; packet = packet })
      message : n ≡ message_of m wire packet

    main_says : (rest : TapDivision) → HaveTapLabels s (says_of m wire) rest → (q : TapLabelled) → HasTapLabel s (says_of m wire) rest q.datagram q.label → (e : End) (n : Message)
        → IsSaidBy s e n q.datagram → IsPacket (q ∷ rest) e n
    main_says rest labels q has e n said = by q.label refl has where
      by : (l : TapLabel) → q.label ≡ l → HasTapLabel s (says_of m wire) rest q.datagram l → IsPacket (q ∷ rest) e n
      by (Main x) is c =
          let from : x.from ≡ e = one_end s apart x.from e (sym c.source ∙ said.source) in
          let same : x ≡ record { from = e; packet = x.packet } = λ i. record { from = from i; packet = x.packet } in
          record {
            packet = x.packet;
            passed = subst (λ l. Contains l (record { from = e; packet = x.packet })) (sym (passed_main q x rest is)) (subst (Contains (x ∷ passed_of rest)) same (contains_first x (passed_of rest)));
            message = spelled_once q.datagram.payload n (message_of m wire x.packet) said.spells c.spells;
          }
      by Stray is c = absurd (c.elsewhere e said.source)
      by StrayAnswer is c =
          let route = lossy_label s apart rest (labels_some s m wire rest labels) q.datagram StrayAnswer c in
          absurd (true≢false (sym said.goes ∙ ap is_passing route))

    said_passed : (division : TapDivision) → HaveTapLabels s (says_of m wire) division → (d : TapDatagram) → Contains (tapped_of division) d → (e : End) (n : Message) → IsSaidBy s e n d → IsPacket division e n
    said_passed [] labels d at e n said = absurd (contains_none d at)
    said_passed (q ∷ rest) labels d at e n said = elim (contains_cases q.datagram (tapped_of rest) d at) [
      | inl now ↦ main_says rest labels.1 q labels.0 e n (subst (IsSaidBy s e n) (sym now) said)
      | inr before ↦ let r = said_passed rest labels.1 d before e n said in record { packet = r.packet; passed = passed_later q rest _ r.passed; message = r.message }
    ]

    pub passed_spelled : (division : TapDivision) → HaveTapLabels s (says_of m wire) division → (x : Pass) → Contains (passed_of division) x → (payload : List ℕ) × Spells payload (message_of m wire x.packet)
    passed_spelled [] labels x at = absurd (contains_none x at)
    passed_spelled (q ∷ rest) labels x at = by q.label refl labels.0 (passed_spelled rest labels.1 x) where
      by : (l : TapLabel) → q.label ≡ l → HasTapLabel s (says_of m wire) rest q.datagram l → (Contains (passed_of rest) x → (payload : List ℕ) × Spells payload (message_of m wire x.packet))
          → (payload : List ℕ) × Spells payload (message_of m wire x.packet)
      by (Main y) is c later = elim (contains_cases y (passed_of rest) x (subst (λ l. Contains l x) (passed_main q y rest is) at)) [
        | inl now ↦ (q.datagram.payload, subst (λ (z : Pass). Spells q.datagram.payload (message_of m wire z.packet)) now c.spells)
        | inr before ↦ later before
      ]
      by Stray is c later = later (subst (λ l. Contains (passed_of (record { datagram = q.datagram; label = l } ∷ rest)) x) is at)
      by StrayAnswer is c later = later (subst (λ l. Contains (passed_of (record { datagram = q.datagram; label = l } ∷ rest)) x) is at)

  -- what is known of a list that is lawful with losses
  pub record Known (tapped : List TapDatagram) : Type 0 where
    pub m : Meaning
    pub wire : List ℕ
    pub fits : Fits s.rollover m wire
    pub passed : List Pass
    pub may : MayPassEach m wire passed
    pub sent : IsSentInOneRun m wire passed
    pub says : (e : End) (n : Message) → IsSaid s tapped e n → (p : MachinePacket) × Has passed e p × (n ≡ message_of m wire p)
    pub spelled : (x : Pass) → Contains passed x → (payload : List ℕ) × Spells payload (message_of m wire x.packet)

  pub known : (tapped : List TapDatagram) → IsLawfulBetweenWithLosses s tapped → Known tapped
  known tapped lossy =
      let (m, wire, seen) = lossy.lawful in
      let dress = seen.dressed in
      let division = dress.division in
      record {
        m = m;
        wire = wire;
        fits = seen.fits;
        passed = seen.passed;
        may = view_may_pass m wire seen.passed seen.view;
        sent = sent_in_one m wire seen.passed (record { all = seen.passed; view = seen.view; left = loses_none seen.passed });
        says = λ e n said.
            let (d, at, is) = any_there (IsSaidBy s e n) tapped said in
            let r = said_passed m wire division dress.labels d (subst (λ l. Contains l d) (sym dress.whole) (left_was_there lossy.all tapped d lossy.left at)) e n is in
            (r.packet, subst (λ l. Contains l (record { from = e; packet = r.packet })) dress.main r.passed, r.message);
        spelled = λ x at. passed_spelled m wire division dress.labels x (subst (λ l. Contains l x) (sym dress.main) at);
      }

  -- the label that a datagram has there
  pub record IsLabelled (d : TapDatagram) : Type 0 where
    pub label : TapLabel
    pub route : lossy_route s d ≡ label_route label
    pub earlier : TapDivision
    pub has : HasTapLabel s says_some earlier d label

  label_in : (division : TapDivision) → HaveTapLabels s says_some division → (d : TapDatagram) → Contains (tapped_of division) d → IsLabelled d
  label_in [] labels d at = absurd (contains_none d at)
  label_in (q ∷ rest) labels d at = elim (contains_cases q.datagram (tapped_of rest) d at) [
    | inl now ↦ subst IsLabelled now (record { label = q.label; route = lossy_label s apart rest labels.1 q.datagram q.label labels.0; earlier = rest; has = labels.0 })
    | inr before ↦ label_in rest labels.1 d before
  ]

  pub label_at : (tapped : List TapDatagram) → IsLawfulBetweenWithLosses s tapped → (d : TapDatagram) → Contains tapped d → IsLabelled d
  label_at tapped lossy d at =
      let (m, wire, seen) = lossy.lawful in
      let dress = seen.dressed in
      label_in dress.division (labels_some s m wire dress.division dress.labels) d (subst (λ l. Contains l d) (sym dress.whole) (left_was_there lossy.all tapped d lossy.left at))
