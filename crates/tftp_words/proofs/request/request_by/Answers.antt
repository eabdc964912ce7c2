use Rattle.std.proofs.Common.{rules, ◌≡◌, None, ap, sym, ◌∙◌, map}
use Rattle.tftp_words.proofs.Asking.{no_number}
use Rattle.tftp_words.proofs.request.request_by.Goals as goal

pub returns-in_err-ok_or-in-false-None-None-len3-clause-only : goal.returns-in_err-ok_or-in-false-None-None-len3-clause-only
returns-in_err-ok_or-in-false-None-None-len3-clause-only c = λ ps a h calls argues.
    let none : c.transfer_of.result ≡ None = search rules in
    absurd (no_number c.as_slice-in-Text.result.now _ ps a (h.0.4 ∙ ap (map (λ w. w.now)) (sym c.as_slice-in-Text.ensures.value)) (rw c.in-Text.is at calls) argues (rw none at c.transfer_of.ensures))
