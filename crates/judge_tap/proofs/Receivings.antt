-- What the end that gets the file keeps, after one more datagram, and what it finds of it.
use Rattle.std.proofs.Common.{◌≡◌, inl, inr, ℕ, Bool, true, false, List, [], ◌∷◌, Err, refl, sym, subst, ap, ◌∙◌, ◌||◌, ◌&&◌, ◌==◌, map, Option}
use Rattle.std.specs.List.{list_any}
use Rattle.std.proofs.lemmas.Bool.{true≢false, eqb-true, cases_Bool}
use Rattle.tftp_packet.specs.{Side, End, Client, Server, opcode_of}
use Rattle.tftp_packet.specs.{Rollover}
use Rattle.tftp_packet.specs.Hosts.{Datagram}
use Rattle.law_model.specs.Model.Roles.{receiver_of}
use Rattle.tftp_judge.specs.{NoneBreaks, Refuses, IsJudgeAfter, Judge, TakesMemory, Refusal, Finds}
use Rattle.tftp_judge.specs.declared.refusal.Refusal.TheVariants as of_end
use Rattle.law_tap.specs.{TapDatagram, TapSides, side_of, AreApart, is_left_out, same_end, asks_in, ends_in, tap_tests, header_at, kept_between, recorded_at}
use Rattle.law_tap.proofs.KeptOf.{any_here, any_more, kept_in}
use Rattle.law_tap.proofs.TapTests.{source_is}
use Rattle.law_tap.proofs.TapMade.{recorded_payload}
use Rattle.law_end.proofs.Division.RouteTests.{same_is}
use Rattle.judge_tap.specs.{IsReceiving, IsRecordedFor, Receiving, kept_there, ReceiverBreaks, error_by_refusal}
use Rattle.tftp_capture.specs.{datagram_of}
use Rattle.tftp_capture.specs.declared.datagram.Datagram.{Datagram as OwnedDatagram}
use Rattle.law_model.specs.Rules.{transfer_of}
use Rattle.tftp_judge.proofs.Taken.{opcode_taken}
use Rattle.tftp_judge.specs.declared.pass_error.PassError.TheVariants as stop

module _ (s : TapSides) (side : Side) (passed : List TapDatagram) (d : TapDatagram) (stays : is_left_out (tap_tests s) (receiver_of side) d (kept_there s side passed) ≡ false) where
  abbrev now : Datagram
  now = recorded_at s (receiver_of side) d

  -- what the judge there refuses
  pub refused_found : (refusal : Refusal) → Refuses (header_at s side) (kept_between s side passed) now refusal → (After : Type 0) → Finds (ReceiverBreaks s side passed d) After (Err (error_by_refusal refusal))
  refused_found (of_end.Unlawful index rule) r After = ((stays, r.1.0), λ other low b. r.1.1 other low b.1)
  refused_found (of_end.Memory count) r After = λ rule b. r.1.lawful rule b.1
  refused_found _ r After = absurd r

  -- what it keeps
  kept_now : kept_there s side (d ∷ passed) ≡ d ∷ kept_there s side passed
  kept_now = kept_in (tap_tests s) (receiver_of side) d passed stays

  module _ (apart : AreApart s) (from : End) (source : d.source ≡ side_of s from) where
    any_answers : list_any (tap_tests s).answers (d ∷ kept_there s side passed) ≡ (same_end Server from || list_any (tap_tests s).answers (kept_there s side passed))
    any_answers = ap (λ b. b || list_any (tap_tests s).answers (kept_there s side passed)) (source_is s apart d from Server source)

    pub kept_more : (old : Receiving) (judge : Judge) (answered : Bool) → IsReceiving old s side passed → IsJudgeAfter judge (header_at s side) (now ∷ kept_between s side passed) → answered ≡ (same_end Server from || old.answered)
        → IsReceiving (record { judge = judge; end = old.end; answered = answered }) s side (d ∷ passed)
    kept_more old judge answered is after said = record {
      end = is.end;
      judge = subst (λ l. IsJudgeAfter judge (header_at s side) (map (recorded_at s (receiver_of side)) l)) (sym kept_now) after;
      asked = subst (λ l. list_any (tap_tests s).asks l ≡ true) (sym kept_now) (any_more (tap_tests s).asks d (kept_there s side passed) is.asked);
      answered = said ∙ ap (λ b. same_end Server from || b) is.answered ∙ sym any_answers ∙ ap (list_any (tap_tests s).answers) (sym kept_now);
    }

-- what is left out changes nothing at that end, and breaks no rule there
pub left_out : (s : TapSides) (side : Side) (passed : List TapDatagram) (d : TapDatagram) (r : Receiving) → is_left_out (tap_tests s) (receiver_of side) d (kept_there s side passed) ≡ true → IsReceiving r s side passed
    → NoneBreaks (ReceiverBreaks s side passed d) × IsReceiving r s side (d ∷ passed)
left_out s side passed d r left is =
    let same : kept_there s side (d ∷ passed) ≡ kept_there s side passed = rw left refl in (
      λ rule b. true≢false (sym left ∙ b.0),
      record {
        end = is.end;
        judge = subst (λ l. IsJudgeAfter r.judge (header_at s side) (map (recorded_at s (receiver_of side)) l)) (sym same) is.judge;
        asked = subst (λ l. list_any (tap_tests s).asks l ≡ true) (sym same) is.asked;
        answered = subst (λ l. r.answered ≡ list_any (tap_tests s).answers l) (sym same) is.answered;
      },
    )

-- nothing is kept before the first request, which is
pub kept_alone : (s : TapSides) (side : Side) (d : TapDatagram) → AreApart s → d.source ≡ s.client → asks_in d.payload ≡ true → kept_there s side (d ∷ []) ≡ d ∷ []
kept_alone s side d apart source asks = kept_in (tap_tests s) (receiver_of side) d [] stays where
  quiet : ends_in d.payload ≡ false
  quiet = elim (cases_Bool (ends_in d.payload)) [
    | inr other ↦ other
    | inl is ↦ absurd (true≢false (sym asks ∙ ap (λ (n : ℕ). (n == 1) || (n == 2)) (eqb-true (opcode_of d.payload) 5 is)))
  ]

  nothing : (b : Bool) → ((b && false) || false) ≡ false
  nothing true = refl
  nothing false = refl

  stays : is_left_out (tap_tests s) (receiver_of side) d [] ≡ false
  stays = rw (source_is s apart d Client Client source, source_is s apart d Client (receiver_of side) source, quiet, asks) (nothing (same_end (receiver_of side) Client))

pub kept_first : (s : TapSides) (side : Side) (d : TapDatagram) (judge : Judge) → AreApart s → d.source ≡ s.client → asks_in d.payload ≡ true → IsJudgeAfter judge (header_at s side) (recorded_at s (receiver_of side) d ∷ [])
    → IsReceiving (record { judge = judge; end = receiver_of side; answered = false }) s side (d ∷ [])
kept_first s side d judge apart source asks after =
    let now = kept_alone s side d apart source asks in
    record {
      end = refl;
      judge = subst (λ l. IsJudgeAfter judge (header_at s side) (map (recorded_at s (receiver_of side)) l)) (sym now) after;
      asked = subst (λ l. list_any (tap_tests s).asks l ≡ true) (sym now) (any_here (tap_tests s).asks d [] (rw (same_is d.source s.client source, asks) refl));
      answered = sym (ap (list_any (tap_tests s).answers) now ∙ rw (source_is s apart d Client Server source) refl);
    }

pub recorded_same : (s : TapSides) (end : End) (d : TapDatagram) (x : Datagram) → x ≡ recorded_at s end d → d.payload ≡ x.payload
recorded_same s end d x is = sym (ap (λ (y : Datagram). y.payload) is ∙ recorded_payload s end d)

-- what it takes the value in memory for has its opcode
pub opcode_there : (s : TapSides) (side : Side) (passed : List TapDatagram) (d : TapDatagram) (rollover : Option Rollover) (owned : OwnedDatagram) → IsRecordedFor rollover s side passed d owned
    → opcode_of d.payload ≡ opcode_of owned.payload
opcode_there s side passed d rollover owned taken =
    ap opcode_of (sym (recorded_payload s (receiver_of side) d))
    ∙ opcode_taken (transfer_of (header_at s side) (kept_between s side passed)) (datagram_of owned).payload (recorded_at s (receiver_of side) d).payload rollover taken.1

pub refused_takes : (s : TapSides) (side : Side) (passed : List TapDatagram) (d : TapDatagram) (refusal : Refusal) → Refuses (header_at s side) (kept_between s side passed) (recorded_at s (receiver_of side) d) refusal → error_by_refusal refusal ≡ stop.Memory → TakesMemory (header_at s side) (kept_between s side passed) (recorded_at s (receiver_of side) d)
refused_takes s side passed d (of_end.Unlawful index rule) r is = cc
refused_takes s side passed d (of_end.Memory count) r is = r.2
refused_takes s side passed d _ r is = absurd r

-- whether something of the server's is kept, after one more
pub said_server : (b c : Bool) → b ≡ true → true ≡ (b || c)
said_server b c is = rw (is) refl

pub said_client : (b c : Bool) → b ≡ false → c ≡ (b || c)
said_client b c is = rw (is) refl

pub header_is : (s : TapSides) (side : Side) (end : End) (service : ℕ) (rollover : Option Rollover) → end ≡ receiver_of side → service ≡ s.asked.port → rollover ≡ s.rollover
    → record { named = end; service = service; rollover = rollover } ≡ header_at s side
header_is s side end service rollover one other same = λ i. record { named = one i; service = other i; rollover = same i }
