use Rattle.std.proofs.Common.{inl}
use Rattle.tftp_capture.specs.declared.fault.CaptureFault.TheVariants.{Memory}
use Rattle.tftp_judge.proofs.TextFound.{found_no_header}
use Rattle.judge_pair.proofs.MatchTextsLemmas.Begun.{is_stopped, not_begun}
use Rattle.judge_pair.proofs.MatchTextsLemmas.Halting.{judged_of}
use Rattle.judge_pair.proofs.match_texts.pair.judge_both.Goals as goal

pub returns-in_default : goal.returns-in_default
returns-in_default g c =
    let mine = g.R.Read.remaining c.args.client.now.0 in
    let theirs = g.S.Read.remaining c.args.server.now.0 in
    record {
      at_client = judged_of c.args.rollover mine mine c.args.client.now.1 _ (found_no_header c.args.rollover mine mine c.args.client.now.1 (Memory 1) (not_begun mine) (λ h. absurd h) (λ h. absurd h) (λ h. c.requires.client_clean));
      at_server = judged_of c.args.rollover theirs theirs c.args.server.now.1 _ (found_no_header c.args.rollover theirs theirs c.args.server.now.1 (Memory 1) (not_begun theirs) (λ h. absurd h) (λ h. absurd h) (λ h. c.requires.server_clean));
      numbers = tt;
      why = inl (is_stopped mine mine (Memory 1) (not_begun mine) (λ h. absurd h));
    }
