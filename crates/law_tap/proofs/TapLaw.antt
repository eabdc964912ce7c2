-- The rules between the ends are the runs that pass there.
use Rattle.std.proofs.Common.{◌≡◌, ◌↔◌, ℕ, true, List, [], ◌∷◌, inl, inr, refl, sym, subst, ap, ◌∙◌, map}
use Rattle.std.specs.List.{list_any}
use Rattle.std.proofs.lemmas.Bool.{cases_Bool, and_parts}
use Rattle.tftp_packet.specs.{Message, RequestParts, Spells, Get}
use Rattle.law_model.specs.Model.{Meaning}
use Rattle.law_model.specs.Rules.{first_of}
use Rattle.law_end.specs.{says_of, says_some}
use Rattle.law_end.proofs.Soundness.MadeMeaning.{some_accord}
use Rattle.law_end.proofs.FirstBroken.FirstRequests.{begins_asked}
use Rattle.law_tap.specs.{MayPassEach, TapDatagram, TapSides, AreApart, TapLabel, Main, TapDivision, tapped_of, passed_of, HasTapLabel, HaveTapLabels, IsLawfulBetween, asks_in, tap_tests, header_at, FirstTapAsked, BreaksNoTapRule}
use Rattle.law_tap.specs.TapDress.{Stray, StrayAnswer}
use Rattle.law_tap.proofs.Replays.{tap_view_is}
use Rattle.law_tap.proofs.TapRouted.{Carried, add_main, mains}
use Rattle.law_tap.proofs.TapRecorded.{Each, IsCarried, mains_carried, passed_is, pair_tests, datagram_in, pass_in}
use Rattle.law_tap.proofs.TapBefore.{first_holds, carried_at}
use Rattle.law_tap.proofs.TapLawful.{parted, mains_lawful, asks_is, none_asked, some_first}
use Rattle.law_tap.proofs.TapRun.{Made, made}
use Rattle.law_tap.proofs.TapRunsBreak.{runs_break_none}

module _ (s : TapSides) (m : Meaning) (wire : List ℕ) where
  -- a division whose main datagrams say what the meaning says is one of it
  pub said_labels : (division : TapDivision) → HaveTapLabels s says_some division → Each (λ c. says_of m wire c.pass.packet c.datagram.payload) (mains division) → HaveTapLabels s (says_of m wire) division
  said_labels [] labels says = tt
  said_labels (p ∷ division) labels says = by p.label labels.0 says (said_labels division labels.1) where
    by : (label : TapLabel) → HasTapLabel s says_some division p.datagram label → Each (λ c. says_of m wire c.pass.packet c.datagram.payload) (add_main p.datagram label (mains division))
        → (Each (λ c. says_of m wire c.pass.packet c.datagram.payload) (mains division) → HaveTapLabels s (says_of m wire) division) → HasTapLabel s (says_of m wire) division p.datagram label × HaveTapLabels s (says_of m wire) division
    by (Main x) c says rest = (record { source = c.source; goes = c.goes; spells = says.0 }, rest says.1)
    by Stray c says rest = (c, rest says)
    by StrayAnswer c says rest = (c, rest says)

module _ (s : TapSides) (apart : AreApart s) where
  first_request : (cs : List Carried) → Each (IsCarried s says_some) cs → list_any pair_tests.asks cs ≡ true → (asked : RequestParts) × FirstTapAsked s (map datagram_in cs) asked
  first_request cs each some =
      let found = some_first (tap_tests s).asks (map datagram_in cs) (asks_is s apart cs each ∙ some) (first_of (tap_tests s).asks (map datagram_in cs)) refl in
      let holds = first_holds (tap_tests s).asks (map datagram_in cs) found.0 found.1 in
      let (c, at, is, same) = carried_at (IsCarried s says_some) cs each found.0 holds.1 in
      let begins : asks_in found.0.payload ≡ true = (and_parts _ (asks_in found.0.payload) holds.0).1 in
      let spelled = subst (λ (d : TapDatagram). Spells d.payload is.spells.0) same is.spells.1 in
      let asked = begins_asked found.0.payload is.spells.0 spelled begins in
      (asked.0, (found.0, found.1, subst (Spells found.0.payload) {y = Message.Request asked.0} asked.1 spelled))

  seen_by : (asked : RequestParts) (tapped : List TapDatagram) (division : TapDivision) → tapped_of division ≡ tapped → HaveTapLabels s says_some division → Made s apart asked (mains division) → IsLawfulBetween s tapped
  seen_by asked tapped division whole labels x = (
    x.m,
    x.wire,
    record {
      fits = x.fits;
      passed = passed_of division;
      view = (tap_view_is x.m x.wire (passed_of division)).1 (subst (MayPassEach x.m x.wire) (sym (passed_is division)) x.may);
      dressed = record { division = division; whole = whole; main = refl; labels = said_labels s x.m x.wire division labels x.says };
    },
  )

  -- before the first request any meaning will do
  seen_none : (tapped : List TapDatagram) (division : TapDivision) → tapped_of division ≡ tapped → HaveTapLabels s says_some division → mains division ≡ [] → IsLawfulBetween s tapped
  seen_none tapped division whole labels none =
      let (m, wire, acc) = some_accord (header_at s Get) [] tt in
      let passed : passed_of division ≡ [] = passed_is division ∙ ap (map pass_in) none in (
        m,
        wire,
        record {
          fits = acc.fits;
          passed = passed_of division;
          view = (tap_view_is m wire (passed_of division)).1 (subst (MayPassEach m wire) (sym passed) tt);
          dressed = record { division = division; whole = whole; main = refl; labels = said_labels s m wire division labels (subst (Each (λ c. says_of m wire c.pass.packet c.datagram.payload)) (sym none) tt) };
        },
      )

  pub rules_run : (tapped : List TapDatagram) → BreaksNoTapRule s tapped → IsLawfulBetween s tapped
  rules_run tapped passes =
      let x = parted s apart tapped passes in
      let each = mains_carried s says_some x.division x.labels in
      let lawful = mains_lawful s apart x.division x.labels (subst (BreaksNoTapRule s) (sym x.whole) passes) in
      elim (cases_Bool (list_any pair_tests.asks (mains x.division))) [
        | inr none ↦ seen_none tapped x.division x.whole x.labels (none_asked s apart (mains x.division) lawful each none)
        | inl some ↦
            let asked = first_request (mains x.division) each some in
            seen_by asked.0 tapped x.division x.whole x.labels (made s apart asked.0 (mains x.division) each lawful asked.1 some)
      ]

  pub rules_are_runs : (tapped : List TapDatagram) → IsLawfulBetween s tapped ↔ BreaksNoTapRule s tapped
  rules_are_runs tapped = (λ lawful. runs_break_none s lawful.0 lawful.1 tapped apart lawful.2, rules_run tapped)
