-- What no end does in a worked transfer, and views that are not complete.
use Rattle.std.proofs.Common.{◌≤◌, [], ◌∷◌, inl, inr, refl, arith}
use Rattle.std.proofs.lemmas.Bool.{false≢true}
use Rattle.tftp_packet.specs.{Client, Server}
use Rattle.law_model.specs.Model.{block_count, blksize_of, Sent, Took, Req, Oack, Data, Ack, IsView, IsComplete, two_bytes, ten_bytes, asked_again_view, agreed_late_view, block_repeated, gone_back_view}
use Rattle.law_model.proofs.ModelLemmas.Members.{contains_first, contains_cases, contains_none}
use Rattle.law_model.proofs.ModelLemmas.HistoryTests.{is_no_ack, all_is}
use Rattle.law_model.proofs.ModelLemmas.Worked.{one_at_a_time}
use Rattle.law_model.proofs.ModelLemmas.OneSided.{view_one_sided}

pub no_request_after : IsView ten_bytes ten_bytes.file Client asked_again_view → ⊥
no_request_after view =
    (view_one_sided ten_bytes ten_bytes.file Client asked_again_view view).0.no_ack 0 (contains_first (Sent (Ack 0)) (Took Oack ∷ Sent Req ∷ []))

pub not_back : IsView block_repeated block_repeated.file Client gone_back_view → ⊥
not_back view =
    let low : 2 ≤ 1 = (view_one_sided block_repeated block_repeated.file Client gone_back_view view).0.in_step one_at_a_time 2 (contains_first (Sent (Data 2)) (Took (Ack 1) ∷ Sent (Data 1) ∷ Took Oack ∷ Sent Req ∷ [])) in
    absurd (omega (arith, low))

pub no_oack_after : IsView ten_bytes ten_bytes.file Server agreed_late_view → ⊥
no_oack_after view =
    (view_one_sided ten_bytes ten_bytes.file Server agreed_late_view view).0.no_data refl 1 (contains_first (Sent (Data 1)) (Took (Ack 0) ∷ Sent Oack ∷ Took Req ∷ []))

pub not_acknowledged : IsComplete two_bytes two_bytes.file Client (Took (Data 1) ∷ Sent Req ∷ []) → ⊥
not_acknowledged whole = false≢true (all_is is_no_ack (Took (Data 1) ∷ Sent Req ∷ []) (Ack (block_count (blksize_of two_bytes) two_bytes.file)) refl (whole.acknowledged refl))

pub not_told : IsComplete two_bytes two_bytes.file Server (Sent (Data 1) ∷ Took Req ∷ []) → ⊥
not_told whole = elim (contains_cases (Sent (Data 1)) (Took Req ∷ []) (Took (Ack (block_count (blksize_of two_bytes) two_bytes.file))) (whole.was_told refl)) [
  | inl is ↦ cc
  | inr more ↦ elim (contains_cases (Took Req) [] (Took (Ack (block_count (blksize_of two_bytes) two_bytes.file))) more) [
    | inl is ↦ cc
    | inr none ↦ contains_none (Took (Ack (block_count (blksize_of two_bytes) two_bytes.file))) none
  ]
]
