-- A capture between the ends divides in one way.
use Rattle.std.proofs.Common.{◌≡◌, ℕ, List, [], ◌∷◌, Any, Some, inl, inr, refl, sym, subst, ap, ◌∙◌}
use Rattle.tftp_packet.specs.{Message, End, Client, Server}
use Rattle.law_model.specs.Model.{Meaning, MachinePacket, Req, Oack, Data, Ack, Error, message_of}
use Rattle.law_end.specs.{says_of, packet_in, says_some}
use Rattle.law_end.proofs.Spelled.{spelled_once}
use Rattle.law_end.proofs.Division.Divided.{any_none, any_cases}
use Rattle.law_tap.specs.{Pass, PeerId, TapDatagram, TapSides, side_of, AreApart, TapLabel, Main, TapLabelled, TapDivision, tapped_of, GoesThere, CarriesPass, AnswersTapStray, HasTapLabel, HaveTapLabels}
use Rattle.law_tap.specs.TapDress.{Stray, StrayAnswer}

-- ---- what is told

pub packet_one : (payload : List ℕ) (p q : MachinePacket) → says_some p payload → says_some q payload → p ≡ q
packet_one payload p q (m, s, is) (n, t, at) = some_one (sym is ∙ ap packet_in (spelled_once payload m n s t) ∙ at) where
  some_one : Some p ≡ Some q → p ≡ q
  some_one e = cc

pub some_of : (m : Meaning) (wire : List ℕ) (p : MachinePacket) (payload : List ℕ) → says_of m wire p payload → says_some p payload
some_of m wire Req payload s = (message_of m wire Req, s, refl)
some_of m wire Oack payload s = (message_of m wire Oack, s, refl)
some_of m wire (Data k) payload s = (message_of m wire (Data k), s, refl)
some_of m wire (Ack j) payload s = (message_of m wire (Ack j), s, refl)
some_of m wire (Error code text) payload s = (message_of m wire (Error code text), s, refl)

module _ (s : TapSides) (m : Meaning) (wire : List ℕ) where
  some_label : (earlier : TapDivision) (d : TapDatagram) (label : TapLabel) → HasTapLabel s (says_of m wire) earlier d label → HasTapLabel s says_some earlier d label
  some_label earlier d (Main x) p = record { source = p.source; goes = p.goes; spells = some_of m wire x.packet d.payload p.spells }
  some_label earlier d Stray p = p
  some_label earlier d StrayAnswer p = p

  -- a division of a run is one whatever it means
  pub labels_some : (division : TapDivision) → HaveTapLabels s (says_of m wire) division → HaveTapLabels s says_some division
  labels_some [] labels = tt
  labels_some (p ∷ earlier) labels = (some_label earlier p.datagram p.label labels.0, labels_some earlier labels.1)

-- ---- one way

module _ (s : TapSides) (apart : AreApart s) where
  pub one_end : (e f : End) → side_of s e ≡ side_of s f → e ≡ f
  one_end Client Server is = absurd (apart.server is)
  one_end Server Client is = absurd (apart.server (sym is))
  one_end _ _ is = refl

  same_pass : (x y : Pass) → x.from ≡ y.from → x.packet ≡ y.packet → x ≡ y
  same_pass x y one other = λ i. record { from = one i; packet = other i }

  -- where a stray came from is none of the two ends
  pub no_stray_side : (earlier : TapDivision) → HaveTapLabels s says_some earlier → (e : End) (to from : PeerId) → from ≡ side_of s e
      → Any (λ p. (p.label ≡ Stray) × (p.datagram.source ≡ from) × (p.datagram.destination ≡ to)) earlier → ⊥
  no_stray_side [] labels e to from at any = any_none (λ (p : TapLabelled). (p.label ≡ Stray) × (p.datagram.source ≡ from) × (p.datagram.destination ≡ to)) any
  no_stray_side (p ∷ earlier) labels e to from at any = elim (any_cases (λ (q : TapLabelled). (q.label ≡ Stray) × (q.datagram.source ≡ from) × (q.datagram.destination ≡ to)) p earlier any) [
    | inl now ↦ (subst (HasTapLabel s says_some earlier p.datagram) now.0 labels.0).elsewhere e (now.1 ∙ at)
    | inr before ↦ no_stray_side earlier labels.1 e to from at before
  ]

  not_both : (earlier : TapDivision) → HaveTapLabels s says_some earlier → (d : TapDatagram) (x : Pass) → CarriesPass s says_some earlier d x → AnswersTapStray s earlier d → ⊥
  not_both earlier labels d x p q = by x.from x.packet p.source p.goes p.spells where
    says_error : (packet : MachinePacket) → packet ≡ Req → says_some packet d.payload → ⊥
    says_error packet is (n, t, at) = by n (spelled_once d.payload n (Message.Error 5 q.spells.0) t q.spells.1) at where
      by : (n : Message) → n ≡ Message.Error 5 q.spells.0 → packet_in n ≡ Some packet → ⊥
      by n e at = let both : Some (Error 5 q.spells.0) ≡ Some Req = ap packet_in (sym e) ∙ at ∙ ap Some is in absurd (cc)

    goes_to : (e : End) → d.destination ≡ side_of s e → ⊥
    goes_to e at = no_stray_side earlier labels e d.source d.destination at q.there

    by : (e : End) (packet : MachinePacket) → d.source ≡ side_of s e → GoesThere s earlier d e packet → says_some packet d.payload → ⊥
    by Client Req source goes says = says_error Req refl says
    by Server packet source goes says = goes_to Client goes
    by Client _ source goes says = goes_to Server goes.0

  one_part : (earlier : TapDivision) → HaveTapLabels s says_some earlier → (d : TapDatagram) (one other : TapLabel)
      → HasTapLabel s says_some earlier d one → HasTapLabel s says_some earlier d other → one ≡ other
  one_part earlier labels d (Main x) (Main y) p q = ap Main (same_pass x y (one_end x.from y.from (sym p.source ∙ q.source)) (packet_one d.payload x.packet y.packet p.spells q.spells))
  one_part earlier labels d (Main x) Stray p q = absurd (q.elsewhere x.from p.source)
  one_part earlier labels d (Main x) StrayAnswer p q = absurd (not_both earlier labels d x p q)
  one_part earlier labels d Stray (Main y) p q = absurd (p.elsewhere y.from q.source)
  one_part earlier labels d Stray StrayAnswer p q = absurd (p.elsewhere q.own.0 q.own.1)
  one_part earlier labels d StrayAnswer (Main y) p q = absurd (not_both earlier labels d y q p)
  one_part earlier labels d StrayAnswer Stray p q = absurd (q.elsewhere p.own.0 p.own.1)
  one_part earlier labels d _ _ p q = refl

  pub one_division : (one other : TapDivision) → HaveTapLabels s says_some one → HaveTapLabels s says_some other → tapped_of one ≡ tapped_of other → one ≡ other
  one_division [] [] p q same = refl
  one_division [] (y ∷ other) p q same = absurd (cc)
  one_division (x ∷ one) [] p q same = absurd (cc)
  one_division (x ∷ one) (y ∷ other) p q same =
      let rest = one_division one other p.1 q.1 (cc) in
      let datagram : x.datagram ≡ y.datagram = cc in
      let other_label = subst (λ (v : TapDivision). HasTapLabel s says_some v x.datagram y.label) (sym rest) (subst (λ d. HasTapLabel s says_some other d y.label) (sym datagram) q.0) in
      let label = one_part one p.1 x.datagram x.label y.label p.0 other_label in
      λ i. record { datagram = datagram i; label = label i } ∷ rest i
