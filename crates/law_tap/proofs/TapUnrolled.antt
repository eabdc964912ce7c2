-- A capture between the ends shows a run by numbers exactly if it shows the run with the blocks near in their place.
use Rattle.std.proofs.Common.{◌≡◌, ℕ, List, [], ◌∷◌, Any, inl, inr, refl, sym, subst, ap, ◌∙◌}
use Rattle.tftp_packet.specs.{Message, Spells, End, Client, Server, Rollover}
use Rattle.law_model.specs.Model.{Meaning, MachinePacket, Req}
use Rattle.law_end.specs.{BeginsAsRequest, Saying, says_of}
use Rattle.law_end.proofs.Division.Divided.{any_none, any_cases, any_first, any_later}
use Rattle.law_rollover.specs.{IsNearPacket, says_by_number, unrolled_payload}
use Rattle.law_rollover.proofs.Payloads.{begins_on, begins_back, error_on, error_back, says_on, says_back}
use Rattle.law_rollover.proofs.Shown.{one_greatest}
use Rattle.law_tap.specs.{Pass, TapDatagram, TapSides, AreApart, GoesThere, HasTapLabel, HaveTapLabels, IsMainFrom, IsSeenBetween, Main, ShowsBetween, TapDivision, TapLabel, TapLabelled, passed_of, tapped_of, transfer_between}
use Rattle.law_tap.specs.{AreNearBetween, AreTapBytes, AreUnrolledBetween, IsHighBetween, IsSeenBetweenByNumber, IsTapDressedByNumber, ShowsBetweenByNumber, high_between, with_tap_payload}
use Rattle.law_tap.specs.TapDress.{IsTapDressed, Stray, StrayAnswer}
use Rattle.law_tap.proofs.TapHighest.{high_is}

-- ---- labels go from datagrams to others that differ in their payloads alone

abbrev pub Alike : TapDivision → TapDivision → Type 0
Alike [] [] = Unit {0}
Alike (p ∷ a) (q ∷ b) = (q.label ≡ p.label) × ((payload : List ℕ) × (q.datagram ≡ with_tap_payload p.datagram payload)) × Alike a b
Alike _ _ = ⊥

any_moves : (P : TapLabelled → Type 0) → ((p q : TapLabelled) → q.label ≡ p.label → (payload : List ℕ) → q.datagram ≡ with_tap_payload p.datagram payload → P p → P q)
    → (a b : TapDivision) → Alike a b → Any P a → Any P b
any_moves P move [] b alike any = absurd (any_none P any)
any_moves P move (p ∷ a) [] alike any = absurd alike
any_moves P move (p ∷ a) (q ∷ b) (label, (payload, same), alike) any = elim (any_cases P p a any) [
  | inl here ↦ any_first P q b (move p q label payload same here)
  | inr later ↦ any_later P q b (any_moves P move a b alike later)
]

module _ (s : TapSides) (a b : TapDivision) (alike : Alike a b) (d : TapDatagram) (payload : List ℕ) where
  goes_moves : (e : End) (packet : MachinePacket) → GoesThere s a d e packet → GoesThere s b (with_tap_payload d payload) e packet
  goes_moves Client Req goes = goes
  goes_moves Server p goes = goes
  goes_moves Client _ goes = (goes.0, any_moves (λ (p : TapLabelled). IsMainFrom Server p.label) (λ p q label other same is. subst (IsMainFrom Server) (sym label) is) a b alike goes.1)

  -- what is said of the one payload is said of the other, as far as labels go
  label_moves : (says other : Saying) (label : TapLabel) → HasTapLabel s says a d label
      → ((x : Pass) → label ≡ Main x → says x.packet d.payload → other x.packet payload)
      → (BeginsAsRequest payload → BeginsAsRequest d.payload)
      → ((text : List ℕ) → Spells d.payload (Message.Error 5 text) → Spells payload (Message.Error 5 text))
      → HasTapLabel s other b (with_tap_payload d payload) label
  label_moves says other (Main x) has say begins spell = record { source = has.source; goes = goes_moves x.from x.packet has.goes; spells = say x refl has.spells }
  label_moves says other Stray has say begins spell = record { elsewhere = has.elsewhere; here = has.here; no_request = λ to port begun. has.no_request to port (begins begun) }
  label_moves says other StrayAnswer has say begins spell = record {
    own = has.own;
    there = any_moves (λ (p : TapLabelled). (p.label ≡ Stray) × (p.datagram.source ≡ d.destination) × (p.datagram.destination ≡ d.source))
        (λ p q label other same is. (label ∙ is.0, ap (λ (x : TapDatagram). x.source) same ∙ is.1, ap (λ (x : TapDatagram). x.destination) same ∙ is.2)) a b alike has.there;
    spells = (has.spells.0, spell has.spells.0 has.spells.1);
  }

module _ (r : Rollover) (s : TapSides) (apart : AreApart s) (m : Meaning) (wire : List ℕ) where
  -- ---- from numbers to blocks

  abbrev payload_at : TapDivision → TapDatagram → List ℕ
  payload_at earlier d = unrolled_payload r (high_between (passed_of earlier)) d.payload

  abbrev unroll : TapDivision → TapDivision
  unroll [] = []
  unroll (p ∷ earlier) = record { datagram = with_tap_payload p.datagram (payload_at earlier p.datagram); label = p.label } ∷ unroll earlier

  passed_same : (division : TapDivision) → passed_of (unroll division) ≡ passed_of division
  passed_same [] = refl
  passed_same (p ∷ earlier) = by p.label (passed_same earlier) where
    by : (label : TapLabel) → passed_of (unroll earlier) ≡ passed_of earlier
        → passed_of (record { datagram = with_tap_payload p.datagram (payload_at earlier p.datagram); label = label } ∷ unroll earlier) ≡ passed_of (record { datagram = p.datagram; label = label } ∷ earlier)
    by (Main x) before = ap (λ passed. x ∷ passed) before
    by Stray before = before
    by StrayAnswer before = before

  alike : (division : TapDivision) → Alike division (unroll division)
  alike [] = tt
  alike (p ∷ earlier) = (refl, (payload_at earlier p.datagram, refl), alike earlier)

  near_before : (d : TapDatagram) (label : TapLabel) (earlier : TapDivision) → AreNearBetween r (passed_of (record { datagram = d; label = label } ∷ earlier)) → AreNearBetween r (passed_of earlier)
  near_before d (Main x) earlier near = near.1
  near_before d Stray earlier near = near
  near_before d StrayAnswer earlier near = near

  near_main : (d : TapDatagram) (label : TapLabel) (earlier : TapDivision) (x : Pass) → label ≡ Main x → AreNearBetween r (passed_of (record { datagram = d; label = label } ∷ earlier))
      → IsNearPacket r (high_between (passed_of earlier)) x.packet
  near_main d label earlier x is near = (subst (λ l. AreNearBetween r (passed_of (record { datagram = d; label = l } ∷ earlier))) is near).0

  labels_on : (division : TapDivision) → AreNearBetween r (passed_of division) → HaveTapLabels s (says_by_number r m wire) division → HaveTapLabels s (says_of m wire) (unroll division)
  labels_on [] near labels = tt
  labels_on (p ∷ earlier) near labels = (
    label_moves s earlier (unroll earlier) (alike earlier) p.datagram (payload_at earlier p.datagram) (says_by_number r m wire) (says_of m wire) p.label labels.0
        (λ x is says. says_on r (high_between (passed_of earlier)) p.datagram.payload m wire x.packet (near_main p.datagram p.label earlier x is near) says)
        (begins_back r (high_between (passed_of earlier)) p.datagram.payload)
        (λ text spells. error_on r (high_between (passed_of earlier)) p.datagram.payload 5 text spells),
    labels_on earlier (near_before p.datagram p.label earlier near) labels.1,
  )

  unrolled_are : (division : TapDivision) → HaveTapLabels s (says_of m wire) (unroll division) → AreUnrolledBetween r s (tapped_of division) (tapped_of (unroll division))
  unrolled_are [] labels = tt
  unrolled_are (p ∷ earlier) labels = (
    (
      high_between (passed_of earlier),
      subst (λ passed. IsHighBetween (transfer_between s (tapped_of (unroll earlier))) (high_between passed)) (passed_same earlier) (high_is s m wire apart (unroll earlier) labels.1),
      refl,
    ),
    unrolled_are earlier labels.1,
  )

  -- ---- and back

  abbrev roll : List TapDatagram → TapDivision → TapDivision
  roll [] division = []
  roll (d ∷ ds) [] = []
  roll (d ∷ ds) (p ∷ rest) = record { datagram = d; label = p.label } ∷ roll ds rest

  rolled_whole : (ds : List TapDatagram) (division : TapDivision) → AreUnrolledBetween r s ds (tapped_of division) → tapped_of (roll ds division) ≡ ds
  rolled_whole [] [] are = refl
  rolled_whole [] (p ∷ rest) are = absurd are
  rolled_whole (d ∷ ds) [] are = absurd are
  rolled_whole (d ∷ ds) (p ∷ rest) are = ap (λ x. d ∷ x) (rolled_whole ds rest are.1)

  rolled_passed : (ds : List TapDatagram) (division : TapDivision) → AreUnrolledBetween r s ds (tapped_of division) → passed_of (roll ds division) ≡ passed_of division
  rolled_passed [] [] are = refl
  rolled_passed [] (p ∷ rest) are = absurd are
  rolled_passed (d ∷ ds) [] are = absurd are
  rolled_passed (d ∷ ds) (p ∷ rest) are = by p.label (rolled_passed ds rest are.1) where
    by : (label : TapLabel) → passed_of (roll ds rest) ≡ passed_of rest → passed_of (record { datagram = d; label = label } ∷ roll ds rest) ≡ passed_of (record { datagram = p.datagram; label = label } ∷ rest)
    by (Main x) before = ap (λ passed. x ∷ passed) before
    by Stray before = before
    by StrayAnswer before = before

  rolled_alike : (ds : List TapDatagram) (division : TapDivision) → AreUnrolledBetween r s ds (tapped_of division) → Alike division (roll ds division)
  rolled_alike [] [] are = tt
  rolled_alike [] (p ∷ rest) are = absurd are
  rolled_alike (d ∷ ds) [] are = absurd are
  rolled_alike (d ∷ ds) (p ∷ rest) are = (refl, (d.payload, sym (ap (λ (x : TapDatagram). with_tap_payload x d.payload) are.0.2)), rolled_alike ds rest are.1)

  more_near : (d : TapDatagram) (label : TapLabel) (rest : TapDivision) → AreNearBetween r (passed_of rest)
      → ((x : Pass) → label ≡ Main x → IsNearPacket r (high_between (passed_of rest)) x.packet) → AreNearBetween r (passed_of (record { datagram = d; label = label } ∷ rest))
  more_near d (Main x) rest near one = (one x refl, near)
  more_near d Stray rest near one = near
  more_near d StrayAnswer rest near one = near

  labels_back : (ds : List TapDatagram) (division : TapDivision) → AreTapBytes ds → AreUnrolledBetween r s ds (tapped_of division) → HaveTapLabels s (says_of m wire) division
      → HaveTapLabels s (says_by_number r m wire) (roll ds division) × AreNearBetween r (passed_of division)
  labels_back [] [] bytes are labels = (tt, tt)
  labels_back [] (p ∷ rest) bytes are labels = absurd are
  labels_back (d ∷ ds) [] bytes are labels = absurd are
  labels_back (d ∷ ds) (p ∷ rest) bytes are labels =
      let (high, is_high, same) = are.0 in
      let payload_is : p.datagram.payload ≡ unrolled_payload r high d.payload = ap (λ (x : TapDatagram). x.payload) same in
      let top : high ≡ high_between (passed_of rest) = one_greatest _ high (high_between (passed_of rest)) is_high (high_is s m wire apart rest labels.1) in
      let others = labels_back ds rest bytes.1 are.1 labels.1 in
      let says = λ (x : Pass) (spells : says_of m wire x.packet p.datagram.payload).
      says_back r high d.payload m wire bytes.0 x.packet (subst (says_of m wire x.packet) payload_is spells) in
      let moved = label_moves s rest (roll ds rest) (rolled_alike ds rest are.1) p.datagram d.payload (says_of m wire) (says_by_number r m wire) p.label labels.0
      (λ x is spells. (says x spells).0)
      (λ begins. subst BeginsAsRequest (sym payload_is) (begins_on r high d.payload begins))
      (λ text spells. error_back r high d.payload 5 text (subst (λ payload. Spells payload (Message.Error 5 text)) payload_is spells)) in (
        (subst (λ x. HasTapLabel s (says_by_number r m wire) (roll ds rest) x p.label) (ap (λ (x : TapDatagram). with_tap_payload x d.payload) same) moved, others.0),
        more_near p.datagram p.label rest others.1 (λ x is. subst (λ n. IsNearPacket r n x.packet) top (says x (main_says x is labels.0)).1),
      )
    where
      main_says : (x : Pass) → p.label ≡ Main x → HasTapLabel s (says_of m wire) rest p.datagram p.label → says_of m wire x.packet p.datagram.payload
      main_says x is has = (subst (λ l. HasTapLabel s (says_of m wire) rest p.datagram l) is has).spells

  -- ---- captures

  pub dressed_on : (tapped : List TapDatagram) (passed : List Pass) → AreNearBetween r passed → IsTapDressedByNumber r s m wire passed tapped
      → (unrolled : List TapDatagram) × AreUnrolledBetween r s tapped unrolled × IsTapDressed s m wire passed unrolled
  dressed_on tapped passed near dressed =
      let division = dressed.division in
      let labels = labels_on division (subst (AreNearBetween r) (sym dressed.main) near) dressed.labels in (
        tapped_of (unroll division),
        subst (λ ds. AreUnrolledBetween r s ds (tapped_of (unroll division))) dressed.whole (unrolled_are division labels),
        record { division = unroll division; whole = refl; main = passed_same division ∙ dressed.main; labels = labels },
      )

  pub dressed_back : (tapped unrolled : List TapDatagram) (passed : List Pass) → AreTapBytes tapped → AreUnrolledBetween r s tapped unrolled → IsTapDressed s m wire passed unrolled
      → AreNearBetween r passed × IsTapDressedByNumber r s m wire passed tapped
  dressed_back tapped unrolled passed bytes all dressed =
      let division = dressed.division in
      let are = subst (λ us. AreUnrolledBetween r s tapped us) (sym dressed.whole) all in
      let labels = labels_back tapped division bytes are dressed.labels in (
        subst (AreNearBetween r) dressed.main labels.1,
        record {
          division = roll tapped division;
          whole = rolled_whole tapped division are;
          main = rolled_passed tapped division are ∙ dressed.main;
          labels = labels.0;
        },
      )

  pub seen_on : (tapped : List TapDatagram) → IsSeenBetweenByNumber r s m wire tapped → (unrolled : List TapDatagram) × AreUnrolledBetween r s tapped unrolled × IsSeenBetween s m wire unrolled
  seen_on tapped seen =
      let (unrolled, are, dressed) = dressed_on tapped seen.passed seen.near seen.dressed in
      (unrolled, are, record { fits = seen.fits; passed = seen.passed; view = seen.view; dressed = dressed })

  pub seen_back : (tapped unrolled : List TapDatagram) → AreTapBytes tapped → AreUnrolledBetween r s tapped unrolled → IsSeenBetween s m wire unrolled → IsSeenBetweenByNumber r s m wire tapped
  seen_back tapped unrolled bytes are seen =
      let (near, dressed) = dressed_back tapped unrolled seen.passed bytes are seen.dressed in
      record { fits = seen.fits; passed = seen.passed; view = seen.view; near = near; dressed = dressed }

  pub shows_on : (tapped : List TapDatagram) → ShowsBetweenByNumber r s m wire tapped → (unrolled : List TapDatagram) × AreUnrolledBetween r s tapped unrolled × ShowsBetween s m wire unrolled
  shows_on tapped shows =
      let (unrolled, are, dressed) = dressed_on tapped shows.seen.passed shows.seen.near shows.seen.dressed in
      (unrolled, are, record { seen = record { fits = shows.seen.fits; passed = shows.seen.passed; view = shows.seen.view; dressed = dressed }; whole = shows.whole })

  pub shows_back : (tapped unrolled : List TapDatagram) → AreTapBytes tapped → AreUnrolledBetween r s tapped unrolled → ShowsBetween s m wire unrolled → ShowsBetweenByNumber r s m wire tapped
  shows_back tapped unrolled bytes are shows =
      let (near, dressed) = dressed_back tapped unrolled shows.seen.passed bytes are shows.seen.dressed in
      record { seen = record { fits = shows.seen.fits; passed = shows.seen.passed; view = shows.seen.view; near = near; dressed = dressed }; whole = shows.whole }

-- ---- a capture is unrolled in one way

pub in_one_way : (r : Rollover) (s : TapSides) (tapped one other : List TapDatagram) → AreUnrolledBetween r s tapped one → AreUnrolledBetween r s tapped other → one ≡ other
in_one_way r s [] [] [] a b = refl
in_one_way r s [] [] (y ∷ other) a b = absurd b
in_one_way r s [] (x ∷ one) other a b = absurd a
in_one_way r s (d ∷ ds) [] other a b = absurd a
in_one_way r s (d ∷ ds) (x ∷ one) [] a b = absurd b
in_one_way r s (d ∷ ds) (x ∷ one) (y ∷ other) a b =
    let rest : one ≡ other = in_one_way r s ds one other a.1 b.1 in
    let high : a.0.0 ≡ b.0.0 = one_greatest _ a.0.0 b.0.0 a.0.1 (subst (λ (us : List TapDatagram). IsHighBetween (transfer_between s us) b.0.0) (sym rest) b.0.1) in
    let first : x ≡ y = a.0.2 ∙ ap (λ k. with_tap_payload d (unrolled_payload r k d.payload)) high ∙ sym b.0.2 in
    ap (λ us. x ∷ us) rest ∙ ap (λ u. u ∷ other) first
