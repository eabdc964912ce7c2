-- A capture between the ends shows one transfer, names one first broken rule, and tells its server.
use Rattle.std.proofs.Common.{◌≡◌, ℕ, Bool, true, false, List, [], ◌∷◌, Contains, Some, inl, inr, refl, sym, subst, ap, ◌∙◌, arith, ◌||◌, not}
use Rattle.std.proofs.lemmas.Bool.{true≢false, cases_lt, or_parts, and_parts}
use Rattle.tftp_packet.specs.{Message, End, Client, Server}
use Rattle.tftp_packet.specs.Hosts.{same_peer}
use Rattle.law_model.specs.Model.{Meaning, MachinePacket, Req, Error, is_error}
use Rattle.law_model.specs.Rules.{first_of}
use Rattle.law_model.proofs.ModelLemmas.Members.{contains_cases, contains_none}
use Rattle.law_end.specs.{says_of, says_some, number_of, Rule}
use Rattle.law_end.proofs.Division.RouteTests.{is_same}
use Rattle.law_tap.specs.{Tapped, AreCarried, IsSeenAtTap, ShowsAtTap, TapDatagram, TapSides, side_of, AreApart, TapLabel, Main, TapDivision, tapped_of, passed_of, GoesThere, HasTapLabel, HaveTapLabels, IsSeenBetween, ShowsBetween, IsLawfulBetween, is_request, asks_in, ends_in, FirstTapBroken, BreaksNoTapRule, IsTapRefused, goes_on_to, told_server}
use Rattle.law_tap.specs.TapDress.{Stray, StrayAnswer}
use Rattle.law_tap.proofs.OneTap.{shown_one}
use Rattle.law_tap.proofs.OneTapDivision.{labels_some, one_division}
use Rattle.law_tap.proofs.TapTests.{asks_some, ends_some, ends_says}
use Rattle.law_tap.proofs.TapBefore.{first_holds}

-- ---- one transfer

abbrev carried_by : TapDatagram → TapLabel → List Tapped → List Tapped
carried_by d (Main x) rest = record { from = x.from; payload = d.payload } ∷ rest
carried_by d Stray rest = rest
carried_by d StrayAnswer rest = rest

abbrev carried_of : TapDivision → List Tapped
carried_of [] = []
carried_of (p ∷ division) = carried_by p.datagram p.label (carried_of division)

module _ (s : TapSides) (m : Meaning) (wire : List ℕ) where
  are_carried : (division : TapDivision) → HaveTapLabels s (says_of m wire) division → AreCarried m wire (passed_of division) (carried_of division)
  are_carried [] labels = tt
  are_carried (p ∷ division) labels = by p.label labels.0 (are_carried division labels.1) where
    by : (label : TapLabel) → HasTapLabel s (says_of m wire) division p.datagram label → AreCarried m wire (passed_of division) (carried_of division)
        → AreCarried m wire (passed_of (record { datagram = p.datagram; label = label } ∷ division)) (carried_by p.datagram label (carried_of division))
    by (Main x) c before = (refl, c.spells, before)
    by Stray c before = before
    by StrayAnswer c before = before

  seen_as : (tapped : List TapDatagram) (x : IsSeenBetween s m wire tapped) → IsSeenAtTap s.rollover m wire (carried_of x.dressed.division)
  seen_as tapped x = record {
    fits = x.fits;
    passed = x.passed;
    view = x.view;
    carried = subst (λ l. AreCarried m wire l (carried_of x.dressed.division)) x.dressed.main (are_carried x.dressed.division x.dressed.labels);
  }

  shows_as : (tapped : List TapDatagram) (x : ShowsBetween s m wire tapped) → ShowsAtTap s.rollover m wire (carried_of x.seen.dressed.division)
  unfolding seen_as
  shows_as tapped x = record { seen = seen_as tapped x.seen; whole = x.whole }

pub shows_one : (s : TapSides) (m n : Meaning) (wire other : List ℕ) (tapped : List TapDatagram) → AreApart s → ShowsBetween s m wire tapped → ShowsBetween s n other tapped → (m ≡ n) × (wire ≡ other)
shows_one s m n wire other tapped apart one two =
    let same = one_division s apart two.seen.dressed.division one.seen.dressed.division (labels_some s n other two.seen.dressed.division two.seen.dressed.labels) (labels_some s m wire one.seen.dressed.division one.seen.dressed.labels)
    (two.seen.dressed.whole ∙ sym one.seen.dressed.whole) in
    shown_one s.rollover m n wire other (carried_of one.seen.dressed.division) (shows_as s m wire tapped one) (subst (λ d. ShowsAtTap s.rollover n other (carried_of d)) same (shows_as s n other tapped two))

-- ---- one rule

pub first_broken_one : (s : TapSides) (earlier : List TapDatagram) (d : TapDatagram) (one other : Rule) → FirstTapBroken s earlier d one → FirstTapBroken s earlier d other → number_of one ≡ number_of other
first_broken_one s earlier d one other p q = elim (cases_lt (number_of one) (number_of other)) [
  | inl below ↦ absurd (q.first one below p.breaks)
  | inr up ↦ elim (cases_lt (number_of other) (number_of one)) [ inl above ↦ absurd (p.first other above q.breaks) | inr down ↦ omega (arith, up, down) ]
]

pub refused_not_lawful : (s : TapSides) (earlier : List TapDatagram) (d : TapDatagram) (broken : Rule) → IsTapRefused s earlier d broken → BreaksNoTapRule s (d ∷ earlier) → ⊥
refused_not_lawful s earlier d broken refused passes = passes.0.lawful broken refused.refused.breaks

-- ---- the server

goes_server : (s : TapSides) (m : Meaning) (wire : List ℕ) (division : TapDivision) (d : TapDatagram) (label : TapLabel) → AreApart s → HasTapLabel s (says_of m wire) division d label → HasTapLabel s says_some division d label
    → d.source ≡ s.client → asks_in d.payload ≡ false → ends_in d.payload ≡ false → d.destination ≡ s.server
goes_server s m wire division d (Main x) apart c known source plain quiet = by x.from x.packet c.source c.goes (sym (asks_some d.payload x.packet known.spells) ∙ plain) (sym (ends_some d.payload x.packet known.spells) ∙ quiet) where
  by : (e : End) (p : MachinePacket) → d.source ≡ side_of s e → GoesThere s division d e p → is_request p ≡ false → is_error p ≡ false → d.destination ≡ s.server
  by Server p at goes plain quiet = absurd (apart.server (sym source ∙ at))
  by Client Req at goes plain quiet = absurd (true≢false plain)
  by Client (Error code text) at goes plain quiet = absurd (true≢false quiet)
  by Client _ at goes plain quiet = goes.0
goes_server s m wire division d Stray apart c known source plain quiet = absurd (c.elsewhere Client source)
goes_server s m wire division d StrayAnswer apart c known source plain quiet = absurd (true≢false (sym (ends_says d.payload (Message.Error 5 c.spells.0) c.spells.1) ∙ quiet))

pub all_go : (s : TapSides) (m : Meaning) (wire : List ℕ) (division : TapDivision) → AreApart s → HaveTapLabels s (says_of m wire) division → (d : TapDatagram) → Contains (tapped_of division) d
    → goes_on_to s d ≡ true → d.destination ≡ s.server
all_go s m wire [] apart labels d at goes = absurd (contains_none d at)
all_go s m wire (p ∷ division) apart labels d at goes = elim (contains_cases p.datagram (tapped_of division) d at) [
  | inr before ↦ all_go s m wire division apart labels.1 d before goes
  | inl now ↦
      let mine : goes_on_to s p.datagram ≡ true = ap (goes_on_to s) now ∙ goes in
      let both = and_parts (same_peer p.datagram.source s.client) (not (asks_in p.datagram.payload || ends_in p.datagram.payload)) mine in
      let neither = or_parts (asks_in p.datagram.payload) (ends_in p.datagram.payload) (not_true (asks_in p.datagram.payload || ends_in p.datagram.payload) both.1) in
      sym (ap (λ (x : TapDatagram). x.destination) now) ∙ goes_server s m wire division p.datagram p.label apart labels.0 (labels_some s m wire (p ∷ division) labels).0 (is_same p.datagram.source s.client both.0) neither.0 neither.1
]
  where
    not_true : (b : Bool) → not b ≡ true → b ≡ false
    not_true true is = absurd (true≢false (sym is))
    not_true false is = refl

pub server_told : (s : TapSides) (tapped : List TapDatagram) (d : TapDatagram) → AreApart s → IsLawfulBetween s tapped → first_of (goes_on_to s) tapped ≡ Some d → told_server s tapped ≡ Some s.server
server_told s tapped d apart (m, wire, seen) first =
    let there = first_holds (goes_on_to s) tapped d first in
    let goes = all_go s m wire seen.dressed.division apart seen.dressed.labels d (subst (λ l. Contains l d) (sym seen.dressed.whole) there.1) there.0 in
    told first ∙ ap Some goes
  where
    told : first_of (goes_on_to s) tapped ≡ Some d → told_server s tapped ≡ Some d.destination
    told is = rw (is) refl
