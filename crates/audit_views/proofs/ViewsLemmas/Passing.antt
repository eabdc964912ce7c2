-- What is not about a transfer changes nothing of it.
use Rattle.std.proofs.Common.{◌≡◌, ℕ, Bool, false, cond, List, ◌∷◌, None, Option, sym, ap, ◌∙◌, subst, map, ◌&&◌, ◌||◌, filter}
use Rattle.tftp_packet.specs.{Rollover}
use Rattle.audit_flows.specs.Transfers.{is_answered_apart, is_it, some_of, IsDoubtedAfter, is_about}
use Rattle.audit_flows.specs.{TransferDoubts}
use Rattle.audit_flows.specs.Lines.{comes_in, follows_request, follows_strays, follows_unanswered, agrees_late, goes_on_with_first, is_asked_again, is_disordered, is_late, may_be_answer_of, says_first_word, says_unknown_id, Placed, is_of}
use Rattle.audit_flows.proofs.TransfersLemmas.OwnDatagrams.{about_none}
use Rattle.audit_views.specs.Views.{Naming, captured_at_client, client_header, HasJudgedBy, Client, IsClientAfter, IsClientAfterBy}

pub client_passes : (rollover : Option Rollover) (c : Client) (name : Naming) (p : Placed) (older : List Placed) → is_about c.transfer.number p ≡ false → IsClientAfterBy rollover c name older → IsClientAfterBy rollover c name (p ∷ older)
client_passes rollover c name p older off = subst (HasJudgedBy rollover c.end.judge (client_header c.transfer))
    (sym (ap (λ b. map (captured_at_client name c.transfer) (cond b (p ∷ filter (is_of c.transfer.number) older) (filter (is_of c.transfer.number) older))) (about_none c.transfer.number p off)))

pub client_passes_by : (c : Client) (name : Naming) (p : Placed) (older : List Placed) → is_about c.transfer.number p ≡ false → IsClientAfter c name older → IsClientAfter c name (p ∷ older)
client_passes_by = client_passes None

none_of : (n : ℕ) (test : Placed → List Placed → Bool) (p : Placed) (older : List Placed) → is_about n p ≡ false → some_of n test (p ∷ older) ≡ some_of n test older
none_of n test p older off = ap (λ b. (b && test p older) || some_of n test older) (about_none n p off)

pub doubts_pass_by : (t : TransferDoubts) (p : Placed) (older : List Placed) → is_about t.number p ≡ false → is_it t.number (may_be_answer_of p older) ≡ false → IsDoubtedAfter t older → IsDoubtedAfter t (p ∷ older)
doubts_pass_by t p older off apart after = record {
  agrees_late = after.agrees_late ∙ sym (none_of t.number agrees_late p older off);
  says_unknown_id = after.says_unknown_id ∙ sym (none_of t.number (λ q before. says_unknown_id q) p older off);
  says_first_word = after.says_first_word ∙ sym (none_of t.number says_first_word p older off);
  is_late = after.is_late ∙ sym (none_of t.number is_late p older off);
  is_disordered = after.is_disordered ∙ sym (none_of t.number is_disordered p older off);
  is_asked_again = after.is_asked_again ∙ sym (none_of t.number is_asked_again p older off);
  follows_strays = after.follows_strays ∙ sym (none_of t.number follows_strays p older off);
  follows_unanswered = after.follows_unanswered ∙ sym (none_of t.number follows_unanswered p older off);
  follows_request = after.follows_request ∙ sym (none_of t.number follows_request p older off);
  comes_in = after.comes_in ∙ sym (none_of t.number comes_in p older off);
  goes_on_with_first = after.goes_on_with_first ∙ sym (none_of t.number goes_on_with_first p older off);
  is_answered_apart = after.is_answered_apart ∙ sym (ap (λ b. b || is_answered_apart t.number older) apart);
}
