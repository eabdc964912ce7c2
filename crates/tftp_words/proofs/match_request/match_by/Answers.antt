use Rattle.std.proofs.Common.{rules, ◌≡◌, length, sym, ap, ◌∙◌, map}
use Rattle.tftp_words.proofs.Asking.{same_match, two_items}
use Rattle.tftp_words.proofs.match_request.match_by.Goals as goal

pub returns-in-None-len2-clause-only : goal.returns-in-None-len2-clause-only
returns-in-None-len2-clause-only c = λ ps a h compares.
    let two : length c.as_slice.result.now ≡ 2 = search rules in
    same_match a ps _ _ _ _ _ _ _ _ _ _ h.0 h.1 (ap (map (λ w. w.now)) (sym c.as_slice.ensures.value) ∙ two_items _ _ two) compares
