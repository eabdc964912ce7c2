-- Captures that no run of two ends has.
use Rattle.std.proofs.Common.{◌≡◌, ℕ, not, nat_le, Bool, true, List, [], ◌∷◌, ◌++◌, codes, inl, inr, refl, sym, subst, ap, ◌∙◌, arith}
use Rattle.std.proofs.lemmas.Bool.{false≢true, leb-true}
use Rattle.tftp_packet.specs.{Message, RequestParts, Get, Put, Client}
use Rattle.law_model.specs.Model.{Meaning, request_of, number_or, option_or, windowsize_of, MachinePacket, Data, Ack, HasSent, HasTaken, Step, view_of, IsRun, eight_by_four, six_blocks}
use Rattle.law_model.specs.Model.Roles.{sender_of, receiver_of}
use Rattle.law_model.proofs.ModelLemmas.Moments.{taken_was_sent}
use Rattle.law_model.proofs.ModelLemmas.Blocks.{blocks_sent, block_in_given_window}
use Rattle.law_model.proofs.ModelLemmas.Computed.{same_packet, taken_is, sent_is, all_is}
use Rattle.law_model.proofs.ModelLemmas.Worked.{four_of_both}
use Rattle.law_end.specs.{IsLawful, IsLawfulUpTo}
use Rattle.law_end.proofs.Whole.Beginnings.{beginning_is_lawful, shown_is_lawful}
use Rattle.tests_worked.specs.{at_client, request, oack, block, ack, by_four, by_two, asks, goes, comes, before_overrun, block_seven, before_skip, block_two, window_out_of_order}
use Rattle.tests_worked.proofs.Payloads.{eight_by_two, Spelled}
use Rattle.tests_worked.proofs.Exchanges.{went, came, twos, four_news}
use Rattle.tests_worked.proofs.Bases.{asks_for, read_by_four, write_by_two}
use Rattle.tests_worked.proofs.WindowsShown.{six_shown}
use Rattle.tests_worked.proofs.Meant.{deeds_for, client_meant}
use Rattle.tests_worked.proofs.Chains.{same_oack}

-- ---- a block beyond the window

abbrev pub overrun_news : List Spelled
overrun_news = came 7 (codes "77777777") ∷ four_news

abbrev pub overrun : List Spelled
overrun = overrun_news ++ read_by_four.es

abbrev is_ack_up_to : ℕ → MachinePacket → Bool
is_ack_up_to n (Ack j) = nat_le j n
is_ack_up_to n _ = true

same_side : (p q : RequestParts) → Message.Request p ≡ Message.Request q → p.side ≡ q.side
same_side p q e = cc

-- no ACK that was sent allows the block
overrun_run : (m : Meaning) (wire : List ℕ) (steps : List Step) → IsRun m wire steps → m.side ≡ Get → windowsize_of m ≡ 4 → view_of Client steps ≡ deeds_for overrun → ⊥
overrun_run m wire steps run get four is =
    let took : HasTaken (view_of Client steps) (Data 7) = subst (λ v. HasTaken v (Data 7)) (sym is) (taken_is (deeds_for overrun) (Data 7) refl) in
    let sent : HasSent (view_of (sender_of m.side) steps) (Data 7) = subst (λ side. HasSent (view_of (sender_of side) steps) (Data 7)) (sym get) (taken_was_sent m wire steps run Client (Data 7) took) in
    let (a, given, low, high) = block_in_given_window m wire steps run 7 sent in
    elim given [
      | inl none ↦ omega arith
      | inr acked ↦
          let at : HasSent (deeds_for overrun) (Ack a) = subst (λ v. HasSent v (Ack a)) is (subst (λ side. HasSent (view_of (receiver_of side) steps) (Ack a)) get acked) in
          let most = leb-true a 2 (all_is (is_ack_up_to 2) (deeds_for overrun) (Ack a) refl at) in
          omega arith
    ]

pub overrun_is_unlawful : IsLawful at_client (before_overrun ++ block_seven ∷ []) → ⊥
overrun_is_unlawful (m, wire, seen) =
    let dress = seen.dressed in
    let meant = client_meant m wire dress.ids overrun_news (comes (oack by_four), Message.Oack eight_by_four) (asks (request 1 by_four), Message.Request (asks_for Get eight_by_four)) dress.division dress.whole dress.labels read_by_four.spelled refl in
    let says = meant.1.1.1.1.1.1.1 in
    let agreed : m.agreed ≡ eight_by_four = same_oack m.agreed eight_by_four says.0 in
    let side : m.side ≡ Get = same_side (request_of m) (asks_for Get eight_by_four) says.1.0 in
    let four : windowsize_of m ≡ 4 = ap (λ o. option_or 1 o (codes "windowsize")) agreed ∙ ap (number_or 1) four_of_both in
    overrun_run m wire seen.run.0 seen.run.1 side four (seen.run.2 ∙ sym dress.main ∙ meant.0)

pub overrun_is_first : IsLawfulUpTo at_client (before_overrun ++ block_seven ∷ []) 7
overrun_is_first = record {
  within = omega arith;
  lawful = beginning_is_lawful at_client before_overrun
      (comes (block 3 (codes "33333333")) ∷ comes (block 4 (codes "44444444")) ∷ comes (block 5 (codes "55555555")) ∷ comes (block 6 (codes "666")) ∷ goes (ack 6) ∷ [])
      (shown_is_lawful at_client six_blocks window_out_of_order six_shown);
  unlawful = overrun_is_unlawful;
}

-- ---- a block that was left out

abbrev pub skips : List Spelled
skips = went 2 twos ∷ write_by_two.es

abbrev is_not_first : MachinePacket → Bool
is_not_first p = not (same_packet p (Data 1))

skips_run : (m : Meaning) (wire : List ℕ) (steps : List Step) → IsRun m wire steps → m.side ≡ Put → view_of Client steps ≡ deeds_for skips → ⊥
skips_run m wire steps run put is =
    let sent : HasSent (view_of (sender_of m.side) steps) (Data 2) = subst (λ side. HasSent (view_of (sender_of side) steps) (Data 2)) (sym put) (subst (λ v. HasSent v (Data 2)) (sym is) (sent_is (deeds_for skips) (Data 2) refl)) in
    let (top, all) = blocks_sent m wire steps run in
    let range = (all 2).0 sent in
    let high = range.1 in
    let first = (all 1).1 (omega arith, omega arith) in
    let at : HasSent (deeds_for skips) (Data 1) = subst (λ v. HasSent v (Data 1)) is (subst (λ side. HasSent (view_of (sender_of side) steps) (Data 1)) put first) in
    false≢true (all_is is_not_first (deeds_for skips) (Data 1) refl at)

pub skip_is_unlawful : IsLawful at_client (before_skip ++ block_two ∷ []) → ⊥
skip_is_unlawful (m, wire, seen) =
    let dress = seen.dressed in
    let meant = client_meant m wire dress.ids (went 2 twos ∷ []) (comes (oack by_two), Message.Oack eight_by_two) (asks (request 2 by_two), Message.Request (asks_for Put eight_by_two)) dress.division dress.whole dress.labels write_by_two.spelled refl in
    let side : m.side ≡ Put = same_side (request_of m) (asks_for Put eight_by_two) meant.1.1.1.0 in
    skips_run m wire seen.run.0 seen.run.1 side (seen.run.2 ∙ sym dress.main ∙ meant.0)
