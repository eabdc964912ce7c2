-- Captures in which an ERROR is sent: the runs that they show, and those that no run has.
use Rattle.std.proofs.Common.{◌≡◌, ◌⊎◌, ℕ, ◌+◌, ◌≤◌, nat_le, Bool, true, List, [], ◌∷◌, ◌++◌, Any, codes, inl, inr, refl, sym, subst, ap, ◌∙◌, arith, None}
use Rattle.std.proofs.lemmas.Bool.{leb-true}
use Rattle.tftp_packet.specs.{Message, Get, Client}
use Rattle.tftp_packet.specs.Hosts.{Datagram}
use Rattle.tftp_packet.specs.{In, Out}
use Rattle.law_model.specs.Model.{Meaning, request_of, option_or, windowsize_of, MachinePacket, Sent, Took, Req, Oack, Data, Ack, Error, History, IsOneSided, Step, IsView, client, server, two_bytes, ten_bytes, eight_a_block, read_refused_view, read_given_up_view, given_up_view, stopped_at_the_end_view, one_block_view, block_after_error_view}
use Rattle.law_model.proofs.ModelLemmas.Members.{contains_first}
use Rattle.law_model.proofs.ModelLemmas.Worked.{one_block_plan, two_is_plan, eights_plan, ten_is_plan, blocks_of_eight, one_at_a_time}
use Rattle.law_model.proofs.ModelLemmas.WorkedErrors.{read_refused_is_view, read_given_up_is_view, stopped_at_the_end_is_view, stopped_at_the_end_complete, block_after_error_is_view}
use Rattle.law_model.proofs.ModelLemmas.Computed.{run_is, complete_is, all_is}
use Rattle.law_model.proofs.ModelLemmas.OneSided.{view_one_sided}
use Rattle.law_end.specs.Dress.{StrayAnswer}
use Rattle.law_end.specs.{Label, Main, Stray, Labelled, IsMain, TransferIds, HasLabel, HaveLabels, IsDressed, IsLawful, Shows}
use Rattle.law_end.proofs.Division.Divided.{divided_more, divided_none, any_none, any_cases}
use Rattle.law_end.proofs.Spelled.{spelled_once}
use Rattle.law_end.proofs.Whole.NothingAgreed.{two_bytes_fit}
use Rattle.tests_worked.specs.{at_client, acknowledges_hi, request, oack, by_eight, asks, comes, is_asked, at_service, says_forbidden, read_refused, read_refused_twice, read_given_up, read_given_up_twice, stopped_at_the_end, stopped_after_the_end, block_after_error, before_late_answer, late_answer, only_offered, stops_unanswered}
use Rattle.tests_worked.proofs.Spelled.{request_spelled}
use Rattle.tests_worked.proofs.Payloads.{Spelled}
use Rattle.tests_worked.proofs.Exchanges.{came, stop, eight_news, stopped_news, after_news}
use Rattle.tests_worked.proofs.Dressed.{dressed_by}
use Rattle.tests_worked.proofs.Meant.{deeds_for, client_meant}
use Rattle.tests_worked.proofs.ReadShown.{ids, read_dressed, two_shown}
use Rattle.tests_worked.proofs.MoreShown.{eights_fit}
use Rattle.tests_worked.proofs.Bases.{asks_for, plain_asks, plain_hi, plain_begun, read_by_eight}
use Rattle.tests_worked.proofs.RefusedErrors.{not_found_spelled, stop_spelled, not_found, forbidden, full, plain_ack}
use Rattle.tests_worked.proofs.Chains.{same_oack}

-- ---- reads of two bytes

abbrev refuses : MachinePacket
refuses = Error 1 (codes "File not found")

-- what a view of the two bytes, dressed as these datagrams, shows
two_lawful : (view : History) (ds : List Datagram) → IsView two_bytes two_bytes.file Client view → IsDressed at_client two_bytes two_bytes.file view ds → IsLawful at_client ds
two_lawful view ds run dressed = (two_bytes, two_bytes.file, record { fits = two_bytes_fit None; view = view; run = run; dressed = dressed })

pub refused_lawful : IsLawful at_client read_refused
refused_lawful = two_lawful read_refused_view read_refused read_refused_is_view (read_dressed (not_found ∷ []) read_refused_view read_refused refl refl refl)

-- the ERROR comes again
abbrev refused_again : History
refused_again = Took refuses ∷ read_refused_view

abbrev refused_again_steps : List Step
refused_again_steps = client (Took refuses) ∷ server (Sent refuses) ∷ client (Took refuses) ∷ server (Sent refuses) ∷ server (Took Req) ∷ client (Sent Req) ∷ []

pub refused_again_lawful : IsLawful at_client read_refused_twice
refused_again_lawful = two_lawful refused_again read_refused_twice (refused_again_steps, run_is two_bytes two_bytes.file one_block_plan refused_again_steps two_is_plan refl, refl)
    (read_dressed (not_found ∷ not_found ∷ []) refused_again read_refused_twice refl refl refl)

-- the client says once that it has no room
abbrev given_up_steps : List Step
given_up_steps = client (Sent (Error 3 [])) ∷ client (Took (Data 1)) ∷ server (Sent (Data 1)) ∷ server (Took Req) ∷ client (Sent Req) ∷ []

pub given_up_lawful : IsLawful at_client read_given_up
given_up_lawful = two_lawful given_up_view read_given_up (given_up_steps, run_is two_bytes two_bytes.file one_block_plan given_up_steps two_is_plan refl, refl)
    (read_dressed (full ∷ plain_hi ∷ []) given_up_view read_given_up refl refl refl)

pub given_up_again_lawful : IsLawful at_client read_given_up_twice
given_up_again_lawful = two_lawful read_given_up_view read_given_up_twice read_given_up_is_view (read_dressed (full ∷ plain_hi ∷ full ∷ plain_hi ∷ []) read_given_up_view read_given_up_twice refl refl refl)

-- ---- whole reads

pub stopped_shown : Shows at_client two_bytes stopped_at_the_end
stopped_shown = two_shown at_client stopped_at_the_end_view stopped_at_the_end stopped_at_the_end_is_view stopped_at_the_end_complete
    (read_dressed (plain_ack ∷ stop ∷ plain_hi ∷ []) stopped_at_the_end_view stopped_at_the_end refl refl refl)

abbrev after_view : History
after_view = Took (Error 0 []) ∷ Sent (Ack 1) ∷ Took (Data 1) ∷ Sent Req ∷ []

abbrev after_steps : List Step
after_steps =
    client (Took (Error 0 []))
    ∷ server (Sent (Error 0 []))
    ∷ client (Sent (Ack 1))
    ∷ client (Took (Data 1))
    ∷ server (Sent (Data 1))
    ∷ server (Took Req)
    ∷ client (Sent Req)
    ∷ []

pub stopped_after_shown : Shows at_client two_bytes stopped_after_the_end
stopped_after_shown = two_shown at_client after_view stopped_after_the_end (after_steps, run_is two_bytes two_bytes.file one_block_plan after_steps two_is_plan refl, refl) (complete_is two_bytes two_bytes.file one_block_plan Client after_view two_is_plan refl)
    (read_dressed (stop ∷ plain_ack ∷ plain_hi ∷ []) after_view stopped_after_the_end refl refl refl)

-- ---- a block after the ERROR

pub after_lawful : IsLawful at_client block_after_error
after_lawful = (
  ten_bytes,
  ten_bytes.file,
  record {
    fits = eights_fit;
    view = block_after_error_view;
    run = block_after_error_is_view;
    dressed = dressed_by at_client ten_bytes ten_bytes.file 8 ids after_news read_by_eight.es block_after_error_view block_after_error blocks_of_eight refl read_by_eight.spelled refl refl;
  },
)

-- ---- an ACK after the ERROR

abbrev late_view : History
late_view = Sent (Ack 1) ∷ Took (Error 0 []) ∷ one_block_view

abbrev late_steps : List Step
late_steps =
    client (Sent (Ack 1))
    ∷ client (Took (Error 0 []))
    ∷ server (Sent (Error 0 []))
    ∷ client (Took (Data 1))
    ∷ server (Sent (Data 1))
    ∷ server (Took (Ack 0))
    ∷ client (Sent (Ack 0))
    ∷ client (Took Oack)
    ∷ server (Sent Oack)
    ∷ server (Took Req)
    ∷ client (Sent Req)
    ∷ []

pub late_lawful : IsLawful at_client before_late_answer
late_lawful = (
  ten_bytes,
  ten_bytes.file,
  record {
    fits = eights_fit;
    view = late_view;
    run = (late_steps, run_is ten_bytes ten_bytes.file (eights_plan 1 2) late_steps ten_is_plan refl, refl);
    dressed = dressed_by at_client ten_bytes ten_bytes.file 8 ids stopped_news read_by_eight.es late_view before_late_answer blocks_of_eight refl read_by_eight.spelled refl refl;
  },
)

-- ---- and what no run has

one_sided_as : (m : Meaning) (wire : List ℕ) (view v : History) → IsView m wire Client view → view ≡ v → IsOneSided m wire Client v
one_sided_as m wire view v run is = subst (IsOneSided m wire Client) is (view_one_sided m wire Client view run)

abbrev another : List Spelled
another = forbidden ∷ not_found ∷ plain_asks ∷ []

pub another_is_unlawful : IsLawful at_client (read_refused ++ says_forbidden ∷ []) → ⊥
another_is_unlawful (m, wire, seen) =
    let dress = seen.dressed in
    let meant = client_meant m wire dress.ids (forbidden ∷ []) not_found plain_asks dress.division dress.whole dress.labels (not_found_spelled, (request_spelled, tt)) refl in
    let same = (one_sided_as m wire seen.view (deeds_for another) seen.run (sym dress.main ∙ meant.0)).0.same 1 (codes "File not found") (contains_first (Took refuses) (Sent Req ∷ [])) in
    let one : 1 ≡ 2 = same.0 in
    omega (arith, one)

abbrev goes_on : List Spelled
goes_on = plain_ack ∷ full ∷ plain_hi ∷ plain_asks ∷ []

pub ack_is_unlawful : IsLawful at_client (read_given_up ++ acknowledges_hi ∷ []) → ⊥
ack_is_unlawful (m, wire, seen) =
    let dress = seen.dressed in
    let meant = client_meant m wire dress.ids (plain_ack ∷ full ∷ []) plain_hi plain_asks dress.division dress.whole dress.labels plain_begun.spelled refl in
    (one_sided_as m wire seen.view (deeds_for goes_on) seen.run (sym dress.main ∙ meant.0)).0.no_error 3 [] (contains_first (Sent (Error 3 [])) (Took (Data 1) ∷ Sent Req ∷ []))

abbrev in_lock_step : List Spelled
in_lock_step = eight_news ++ read_by_eight.es

abbrev late_all : List Spelled
late_all = came 2 (codes "89") ∷ stopped_news

abbrev late : List Spelled
late = late_all ++ read_by_eight.es

abbrev is_ack_zero : MachinePacket → Bool
is_ack_zero (Ack j) = nat_le j 0
is_ack_zero _ = true

-- what the client did before the ERROR came
abbrev before_stop : History
before_stop = deeds_for in_lock_step

late_is_out : (m : Meaning) (wire : List ℕ) → IsOneSided m wire Client (deeds_for late) → windowsize_of m ≡ 1 → ⊥
late_is_out m wire one lock_step =
    let w = one.0.in_window in
    let near : 2 ≤ w.0 + windowsize_of m = w.2 in
    elim w.1 [ inl none ↦ omega arith | inr sent ↦ let most = leb-true w.0 0 (all_is is_ack_zero before_stop (Ack w.0) refl sent) in omega arith ]

pub late_is_unlawful : IsLawful at_client (before_late_answer ++ late_answer ∷ []) → ⊥
late_is_unlawful (m, wire, seen) =
    let dress = seen.dressed in
    let meant = client_meant m wire dress.ids late_all (comes (oack by_eight), Message.Oack eight_a_block) (asks (request 1 by_eight), Message.Request (asks_for Get eight_a_block)) dress.division dress.whole dress.labels read_by_eight.spelled refl in
    let agreed : m.agreed ≡ eight_a_block = same_oack m.agreed eight_a_block meant.1.1.1.1.1.1.0 in
    late_is_out m wire (one_sided_as m wire seen.view (deeds_for late) seen.run (sym dress.main ∙ meant.0)) (ap (λ o. option_or 1 o (codes "windowsize")) agreed ∙ one_at_a_time)

-- ---- at a server that has not answered

not_yet : (q : Labelled) → q.datagram.dir ≡ In → (In ≡ Out) ⊎ Any (λ (p : Labelled). p.datagram.dir ≡ Out) (q ∷ []) → ⊥
not_yet q way (inl e) = absurd (cc)
not_yet q way (inr any) = elim (any_cases (λ (p : Labelled). p.datagram.dir ≡ Out) q [] any) [
  | inl first ↦ let e : In ≡ Out = sym way ∙ first in absurd (cc)
  | inr none ↦ any_none (λ (p : Labelled). p.datagram.dir ≡ Out) none
]

no_label : (m : Meaning) (wire : List ℕ) (ids : TransferIds) (q : Labelled) (label : Label) → q.datagram.dir ≡ In → HasLabel at_service m wire ids (q ∷ []) stops_unanswered label → ⊥
no_label m wire ids q (Main (Took Req)) way h = let e = spelled_once stops_unanswered.payload (Message.Request (request_of m)) (Message.Error 0 []) h.spells stop_spelled in absurd (cc)
no_label m wire ids q (Main (Sent p)) way h = let e = h.dir in absurd (cc)
no_label m wire ids q Stray way h = elim (any_cases (λ (p : Labelled). IsMain p.label × (p.datagram.dir ≡ Out)) q [] h.after) [
  | inl first ↦ let e : In ≡ Out = sym way ∙ first.1 in absurd (cc)
  | inr none ↦ any_none (λ (p : Labelled). IsMain p.label × (p.datagram.dir ≡ Out)) none
]
no_label m wire ids q StrayAnswer way h = let e = h.dir in absurd (cc)
no_label m wire ids q _ way h = not_yet q way h.server.1

pub unanswered_is_unlawful : IsLawful at_service (only_offered ++ stops_unanswered ∷ []) → ⊥
unanswered_is_unlawful (m, wire, seen) =
    let dress = seen.dressed in
    let offer = is_asked (request 2 []) in
    let (p, rest, is, last, more) = divided_more dress.division stops_unanswered (offer ∷ []) dress.whole in
    let (q, none, then_is, first, no_more) = divided_more rest offer [] more in
    let one : rest ≡ q ∷ [] = then_is ∙ ap (λ r. q ∷ r) (divided_none none no_more) in
    let labels : HaveLabels at_service m wire dress.ids (p ∷ rest) = subst (HaveLabels at_service m wire dress.ids) is dress.labels in
    let two : HaveLabels at_service m wire dress.ids (p ∷ q ∷ []) = subst (λ r. HaveLabels at_service m wire dress.ids (p ∷ r)) one labels in
    no_label m wire dress.ids q p.label (ap (λ d. d.dir) first) (subst (λ d. HasLabel at_service m wire dress.ids (q ∷ []) d p.label) last two.0)
