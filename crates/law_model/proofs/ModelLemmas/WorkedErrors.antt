-- The worked transfers that an ERROR ends are runs, by computation, and what no end does after one is none.
use Rattle.std.proofs.Common.{◌≡◌, ℕ, ◌+◌, ◌≤◌, ◌==◌, Bool, true, [], ◌∷◌, inl, inr, refl, sym, arith}
use Rattle.std.proofs.lemmas.Bool.{eqb-true}
use Rattle.tftp_packet.specs.{Client, Server}
use Rattle.law_model.specs.Model.{windowsize_of, Sent, Took, MachinePacket, Req, Data, Ack, HasSent, IsRun, IsView, IsComplete, two_bytes, ten_bytes, disk_full, stopped_short, read_refused_steps, read_refused_view, read_refused_server_view, read_given_up_steps, given_up_view, read_given_up_view, stopped_at_the_end_steps, stopped_at_the_end_view, one_block_view, block_after_error_steps, block_after_error_view, answer_to_late_ack_view}
use Rattle.law_model.proofs.ModelLemmas.Members.{contains_first}
use Rattle.law_model.proofs.ModelLemmas.Worked.{one_block_plan, two_is_plan, eights_plan, ten_is_plan, one_at_a_time}
use Rattle.law_model.proofs.ModelLemmas.Computed.{run_is, complete_is, all_is}
use Rattle.law_model.proofs.ModelLemmas.OneSided.{view_one_sided}

-- ---- runs

pub read_refused_run : IsRun two_bytes two_bytes.file read_refused_steps
read_refused_run = run_is two_bytes two_bytes.file one_block_plan read_refused_steps two_is_plan refl

pub read_refused_is_view : IsView two_bytes two_bytes.file Client read_refused_view
read_refused_is_view = (read_refused_steps, read_refused_run, refl)

pub read_refused_is_server_view : IsView two_bytes two_bytes.file Server read_refused_server_view
read_refused_is_server_view = (read_refused_steps, read_refused_run, refl)

pub read_given_up_is_view : IsView two_bytes two_bytes.file Client read_given_up_view
read_given_up_is_view = (read_given_up_steps, run_is two_bytes two_bytes.file one_block_plan read_given_up_steps two_is_plan refl, refl)

pub stopped_at_the_end_is_view : IsView two_bytes two_bytes.file Client stopped_at_the_end_view
stopped_at_the_end_is_view = (stopped_at_the_end_steps, run_is two_bytes two_bytes.file one_block_plan stopped_at_the_end_steps two_is_plan refl, refl)

pub stopped_at_the_end_complete : IsComplete two_bytes two_bytes.file Client stopped_at_the_end_view
stopped_at_the_end_complete = complete_is two_bytes two_bytes.file one_block_plan Client stopped_at_the_end_view two_is_plan refl

pub block_after_error_is_view : IsView ten_bytes ten_bytes.file Client block_after_error_view
block_after_error_is_view = (block_after_error_steps, run_is ten_bytes ten_bytes.file (eights_plan 1 2) block_after_error_steps ten_is_plan refl, refl)

-- ---- and none

-- after its ERROR the client sends no ACK
pub no_ack_after : IsView two_bytes two_bytes.file Client (Sent (Ack 1) ∷ given_up_view) → ⊥
no_ack_after view = (view_one_sided two_bytes two_bytes.file Client (Sent (Ack 1) ∷ given_up_view) view).0.no_error 3 [] (contains_first (Sent disk_full) (Took (Data 1) ∷ Sent Req ∷ []))

-- nor another ERROR
pub no_other_error : IsView two_bytes two_bytes.file Client (Sent stopped_short ∷ given_up_view) → ⊥
no_other_error view =
    let same = (view_one_sided two_bytes two_bytes.file Client (Sent stopped_short ∷ given_up_view) view).0.same 3 [] (contains_first (Sent disk_full) (Took (Data 1) ∷ Sent Req ∷ [])) in
    let zero : 0 ≡ 3 = sym same.0 in
    omega (arith, zero)

-- what the server may have used has no ACK but 0
abbrev is_zero : MachinePacket → Bool
is_zero (Ack j) = j == 0
is_zero _ = true

used_zero : (a : ℕ) → HasSent one_block_view (Ack a) → a ≡ 0
used_zero a at = eqb-true a 0 (all_is is_zero one_block_view (Ack a) refl at)

pub no_answer_to_late_ack : IsView ten_bytes ten_bytes.file Client answer_to_late_ack_view → ⊥
no_answer_to_late_ack view =
    let w = (view_one_sided ten_bytes ten_bytes.file Client answer_to_late_ack_view view).0.in_window in
    let one = one_at_a_time in
    let near : 2 ≤ w.0 + windowsize_of ten_bytes = w.2 in
    elim w.1 [ inl none ↦ omega arith | inr sent ↦ let zero = used_zero w.0 sent in omega arith ]
