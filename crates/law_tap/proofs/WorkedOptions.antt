-- The worked read that asks for a block size and for no window.
use Rattle.std.proofs.Common.{◌≡◌, [], ◌∷◌, Some, None, codes, inl, inr, sym, ◌∙◌}
use Rattle.std.specs.FinMap as map
use Rattle.tftp_packet.specs.{Num}
use Rattle.law_model.specs.Model.{request_of, ten_bytes}
use Rattle.law_model.proofs.ModelLemmas.Worked.{eight_for_blksize}
use Rattle.std.specs.Cmp.Lexicographic.{nat_list_cmp_total}
use Rattle.law_tap.specs.StandingAtEnd.{IsKnownOption}

pub window_known : IsKnownOption (codes "windowsize") (request_of ten_bytes) []
window_known = inl (map.get-from_entries nat_list_cmp_total ((codes "blksize", Num 8) ∷ []) (codes "windowsize"))

pub size_unknown : IsKnownOption (codes "blksize") (request_of ten_bytes) [] → ⊥
size_unknown (inl none) = let both : None ≡ Some (Num 8) = sym none ∙ eight_for_blksize in absurd (cc)
size_unknown (inr (agreed, answer)) = absurd answer
