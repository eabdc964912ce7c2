-- The highest block of a DATA between the ends, and what a payload is taken for there.
use Rattle.std.proofs.Common.{◌≡◌, ℕ, ◌<◌, ◌≤◌, max, List, [], ◌∷◌, map, inl, inr, refl, sym, subst, ◌∙◌, arith}
use Rattle.std.proofs.lemmas.Bool.{cases_lt}
use Rattle.tftp_packet.specs.{Message, Spells}
use Rattle.law_model.specs.Model.{Meaning, MachinePacket, Req, Oack, Data, Ack, Error, message_of}
use Rattle.law_end.specs.{says_of}
use Rattle.law_end.proofs.Division.Divided.{any_none, any_cases, any_first, any_later}
use Rattle.law_end.proofs.Spelled.{spelled_once}
use Rattle.law_rollover.specs.{higher_of}
use Rattle.law_tap.specs.{TapDatagram, TapSides, AreApart, HaveTapLabels, IsBlock, Says, TapDivision, passed_of, tapped_of, transfer_between, IsHighBetween, high_between}
use Rattle.law_tap.proofs.OneTapDivision.{labels_some}
use Rattle.law_tap.proofs.TapRouted.{Carried, mains, transfer_is}
use Rattle.law_tap.proofs.TapRecorded.{Each, IsCarried, datagram_in, mains_carried, pass_in, passed_is}

-- ---- one datagram more

pub nothing_high : IsHighBetween [] 0
nothing_high = record { member = inl refl; most = λ k some. absurd (any_none (Says (IsBlock k)) some) }

abbrev pub higher_by : Message → ℕ → ℕ
higher_by (Message.Request asked) high = high
higher_by (Message.Oack options) high = high
higher_by (Message.Data k bytes) high = max high k
higher_by (Message.Ack j) high = high
higher_by (Message.Error code text) high = high

module _ (d : TapDatagram) (passed : List TapDatagram) (m : Message) (said : Spells d.payload m) (high : ℕ) (is : IsHighBetween passed high) where
  -- another message leaves it
  same_high : ((k : ℕ) → IsBlock k m → ⊥) → IsHighBetween (d ∷ passed) high
  same_high other = record {
    member = elim is.member [ inl none ↦ inl none | inr before ↦ inr (any_later (Says (IsBlock high)) d passed before) ];
    most = λ k some. elim (any_cases (Says (IsBlock k)) d passed some) [
      | inl (n, spells, kind) ↦ absurd (other k (subst (IsBlock k) (spelled_once d.payload n m spells said) kind))
      | inr before ↦ is.most k before
    ];
  }

  -- a block that is higher is the highest
  above_high : (k : ℕ) (bytes : List ℕ) → m ≡ Message.Data k bytes → high < k → IsHighBetween (d ∷ passed) k
  above_high k bytes same above = record {
    member = inr (any_first (Says (IsBlock k)) d passed (m, said, subst (IsBlock k) (sym same) refl));
    most = λ i some. elim (any_cases (Says (IsBlock i)) d passed some) [
      | inl (n, spells, kind) ↦ let e : k ≡ i = subst (IsBlock i) (spelled_once d.payload n m spells said ∙ same) kind in omega (arith, e)
      | inr before ↦ let low = is.most i before in omega (arith, low, above)
    ];
  }

  below_high : (k : ℕ) (bytes : List ℕ) → m ≡ Message.Data k bytes → k ≤ high → IsHighBetween (d ∷ passed) high
  below_high k bytes same below = record {
    member = elim is.member [ inl none ↦ inl none | inr before ↦ inr (any_later (Says (IsBlock high)) d passed before) ];
    most = λ i some. elim (any_cases (Says (IsBlock i)) d passed some) [
      | inl (n, spells, kind) ↦ let e : k ≡ i = subst (IsBlock i) (spelled_once d.payload n m spells said ∙ same) kind in omega (arith, e, below)
      | inr before ↦ is.most i before
    ];
  }

  pub one_more_high : IsHighBetween (d ∷ passed) (higher_by m high)
  one_more_high = by m refl where
    by : (n : Message) → m ≡ n → IsHighBetween (d ∷ passed) (higher_by n high)
    by (Message.Request asked) same = same_high (λ k kind. subst (IsBlock k) same kind)
    by (Message.Oack options) same = same_high (λ k kind. subst (IsBlock k) same kind)
    by (Message.Ack j) same = same_high (λ k kind. subst (IsBlock k) same kind)
    by (Message.Error code text) same = same_high (λ k kind. subst (IsBlock k) same kind)
    by (Message.Data k bytes) same = elim (cases_lt high k) [
      | inl above ↦ let top : k ≡ max high k = omega (arith, above) in subst (IsHighBetween (d ∷ passed)) top (above_high k bytes same above)
      | inr below ↦ let top : high ≡ max high k = omega (arith, below) in subst (IsHighBetween (d ∷ passed)) top (below_high k bytes same (omega (arith, below)))
    ]

-- ---- of a division

module _ (s : TapSides) (m : Meaning) (wire : List ℕ) where
  higher_same : (p : MachinePacket) (high : ℕ) → higher_by (message_of m wire p) high ≡ higher_of p high
  higher_same Req high = refl
  higher_same Oack high = refl
  higher_same (Data k) high = refl
  higher_same (Ack j) high = refl
  higher_same (Error code text) high = refl

  mains_high : (cs : List Carried) → Each (IsCarried s (says_of m wire)) cs → IsHighBetween (map datagram_in cs) (high_between (map pass_in cs))
  mains_high [] each = nothing_high
  mains_high (c ∷ cs) each =
      subst (IsHighBetween (c.datagram ∷ map datagram_in cs)) (higher_same c.pass.packet (high_between (map pass_in cs)))
      (one_more_high c.datagram (map datagram_in cs) (message_of m wire c.pass.packet) each.0.spells (high_between (map pass_in cs)) (mains_high cs each.1))

  pub high_is : AreApart s → (division : TapDivision) → HaveTapLabels s (says_of m wire) division → IsHighBetween (transfer_between s (tapped_of division)) (high_between (passed_of division))
  high_is apart division labels =
      subst (λ (l : List TapDatagram). IsHighBetween l (high_between (passed_of division))) (sym (transfer_is s apart division (labels_some s m wire division labels)))
      (subst (λ passed. IsHighBetween (map datagram_in (mains division)) (high_between passed)) (sym (passed_is division)) (mains_high (mains division) (mains_carried s (says_of m wire) division labels)))
