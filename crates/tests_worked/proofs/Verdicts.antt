-- Worked verdicts, from the runs and the rules.
use Rattle.std.proofs.Common.{List, [], ◌∷◌, ◌++◌, reverse, Ok, Err, refl}
use Rattle.tftp_packet.specs.Hosts.{Datagram, Header}
use Rattle.law_model.specs.Model.{Meaning, two_bytes, six_blocks}
use Rattle.law_model.specs.{EndRule}
use Rattle.law_end.specs.{Rule, Shows, IsNotAborted}
use Rattle.tftp_judge.specs.{IsVerdict, IsVerdictByRules, Unlawful, Incomplete}
use Rattle.tests_worked.specs.{at_client, one_block_read, read_without_its_ack, window_out_of_order, before_overrun, block_seven}
use Rattle.tests_worked.proofs.Bases.{plain_begun}
use Rattle.tests_worked.proofs.Unfinished.{no_errors}
use Rattle.law_end.proofs.Whole.Beginnings.{shown_is_lawful}
use Rattle.tests_worked.proofs.ReadShown.{read_is_shown, begin_is_lawful, begin_shows_nothing}
use Rattle.tests_worked.proofs.WindowsShown.{six_shown}
use Rattle.tests_worked.proofs.Refused.{overrun_refused}
use Rattle.tests_worked.proofs.Accepted.{plain_passes, plain_meant}
use Rattle.tests_worked.proofs.ByRules.{refused_by_rules, refused_verdict}

pub accepted : (header : Header) (m : Meaning) (datagrams : List Datagram) → Shows header m datagrams → IsVerdict header datagrams (Ok m)
accepted header m datagrams shows = (shown_is_lawful header m datagrams shows, (shows.wire, shows.shown), shows.writable)

pub read_accepted : IsVerdict at_client one_block_read (Ok two_bytes)
read_accepted = accepted at_client two_bytes one_block_read read_is_shown

pub window_accepted : IsVerdict at_client window_out_of_order (Ok six_blocks)
window_accepted = accepted at_client six_blocks window_out_of_order six_shown

begin_has_no_error : IsNotAborted at_client (reverse read_without_its_ack)
begin_has_no_error = no_errors plain_begun.es plain_begun.spelled refl

pub begin_incomplete : IsVerdict at_client read_without_its_ack (Err (Incomplete 2))
begin_incomplete = (begin_is_lawful, (λ m shown. begin_shows_nothing m shown.0 shown.1), begin_has_no_error, refl)

pub overrun_verdict : IsVerdict at_client (before_overrun ++ block_seven ∷ []) (Err (Unlawful 8 (Rule.Block EndRule.WindowOverrun)))
overrun_verdict = refused_verdict at_client before_overrun block_seven (Rule.Block EndRule.WindowOverrun) 8 refl refl overrun_refused

pub read_by_rules : IsVerdictByRules at_client one_block_read (Ok two_bytes)
read_by_rules = (plain_passes, plain_meant, read_is_shown.writable)

pub overrun_by_rules : IsVerdictByRules at_client (before_overrun ++ block_seven ∷ []) (Err (Unlawful 8 (Rule.Block EndRule.WindowOverrun)))
overrun_by_rules = refused_by_rules at_client before_overrun block_seven [] (Rule.Block EndRule.WindowOverrun) 8 refl refl overrun_refused
