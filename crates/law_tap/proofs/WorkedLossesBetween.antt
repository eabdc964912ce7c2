-- The worked lists of what passed between the ends and was not all seen.
use Rattle.std.proofs.Common.{ℕ, List, [], refl, arith}
use Rattle.tftp_packet.specs.{Server}
use Rattle.law_model.specs.Model.{Sent, Oack, IsRun, Step, view_of, HasSent, two_bytes, two_bytes_steps}
use Rattle.law_model.proofs.ModelLemmas.Worked.{two_bytes_run}
use Rattle.law_tap.specs.WorkedTap.{worked_sides, read_between, ack_of_nothing, request_passes, hi_passes, stray_passes, answer_passes, ack_passes}
use Rattle.law_tap.specs.Losses.{nothing, kept, lost}
use Rattle.law_tap.specs.LossesBetween.{IsTapViewWithLosses, IsLawfulBetweenWithLosses}
use Rattle.law_tap.specs.WorkedLosses.{ack_between, read_backwards, oack_of_nothing}
use Rattle.law_tap.proofs.Left.{one_left, was_allowed}
use Rattle.law_tap.proofs.OneRun.{sent_in_one, passes_late}
use Rattle.law_tap.proofs.WorkedTap.{read_shown}

pub ack_unseen_between : IsTapViewWithLosses two_bytes two_bytes.file ack_of_nothing
ack_unseen_between = passes_late two_bytes two_bytes.file ack_of_nothing (two_bytes_steps, two_bytes_run, ((0, omega arith, refl), ((2, omega arith, refl), tt)))

pub read_between_lossy : IsLawfulBetweenWithLosses worked_sides ack_between
read_between_lossy = record {
  all = read_between;
  lawful = (two_bytes, two_bytes.file, read_shown.seen);
  left = kept ack_passes _ _ (lost answer_passes _ _ (lost stray_passes _ _ (lost hi_passes _ _ (kept request_passes _ _ nothing))));
}

pub read_turned : IsTapViewWithLosses two_bytes two_bytes.file read_backwards
read_turned = passes_late two_bytes two_bytes.file read_backwards (two_bytes_steps, two_bytes_run, ((2, omega arith, refl), ((1, omega arith, refl), ((0, omega arith, refl), tt))))

never_sent : (steps : List Step) → IsRun two_bytes two_bytes.file steps → HasSent (view_of Server steps) Oack → ⊥
never_sent steps run at =
    let was = was_allowed two_bytes two_bytes.file Server Oack [] (record {
      all = view_of Server steps;
      view = (steps, run, refl);
      left = one_left (view_of Server steps) (Sent Oack) at;
    }) in
    was.3.agreed refl

pub oack_unlawful : IsTapViewWithLosses two_bytes two_bytes.file oack_of_nothing → ⊥
oack_unlawful lossy = let (steps, run, sent) = sent_in_one two_bytes two_bytes.file oack_of_nothing lossy in never_sent steps run sent.0
