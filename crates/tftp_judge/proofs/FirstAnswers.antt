-- The first answer to a request is one, and so is what is known of the transfer.
use Rattle.std.proofs.Common.{◌≡◌, ℕ, List, [], ◌∷◌, inl, inr, sym, ap, ◌∙◌}
use Rattle.tftp_packet.specs.{Message, RequestParts, Get}
use Rattle.tftp_packet.specs.Hosts.{Datagram, Header}
use Rattle.tftp_packet.specs.{Dir}
use Rattle.law_model.specs.Rules.{Passed}
use Rattle.law_model.specs.{Terms}
use Rattle.law_end.specs.{Begins, NotAnswered, terms_after, AreTermsAfter}
use Rattle.law_end.proofs.FirstBroken.FirstAnswered.{first_one, not_both}

pub terms_once : (h : Header) (asked : RequestParts) (ds : List Datagram) (t u : Terms) → AreTermsAfter h asked ds t → AreTermsAfter h asked ds u → t ≡ u
terms_once h asked ds t u (inl none) (inl other) = none.1 ∙ sym other.1
terms_once h asked ds t u (inl none) (inr (b, first, is)) = absurd (not_both asked.side ds b none.0 first)
terms_once h asked ds t u (inr (a, first, is)) (inl none) = absurd (not_both asked.side ds a none.0 first)
terms_once h asked ds t u (inr (a, first, is)) (inr (b, other, are)) = is ∙ ap (terms_after h asked) (first_one asked.side ds a b first other) ∙ sym are

-- on a read a block is an answer
pub block_answers : (dir : Dir) (k : ℕ) (bytes : List ℕ) (ds : List Datagram) → Passed dir (Message.Data k bytes) ds → NotAnswered Get ds → ⊥
block_answers dir k bytes [] p none = p
block_answers dir k bytes (d ∷ ds) (inl here) none = none.0 Begins (Message.Data k bytes, here.1, tt)
block_answers dir k bytes (d ∷ ds) (inr before) none = block_answers dir k bytes ds before none.1
