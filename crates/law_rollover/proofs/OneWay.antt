-- A capture is unrolled in one way.
use Rattle.std.proofs.Common.{◌≡◌, List, [], ◌∷◌, refl, ap, sym, ◌∙◌, subst}
use Rattle.tftp_packet.specs.Hosts.{Datagram, Header}
use Rattle.law_model.specs.Rules.{transfer_of, IsHigh}
use Rattle.tftp_packet.specs.{Rollover}
use Rattle.law_rollover.specs.{AreUnrolled, with_payload, unrolled_payload}
use Rattle.law_rollover.proofs.Shown.{one_greatest}

pub in_one_way : (r : Rollover) (h : Header) (datagrams one other : List Datagram) → AreUnrolled r h datagrams one → AreUnrolled r h datagrams other → one ≡ other
in_one_way r h [] [] [] a b = refl
in_one_way r h [] [] (y ∷ other) a b = absurd b
in_one_way r h [] (x ∷ one) other a b = absurd a
in_one_way r h (d ∷ ds) [] other a b = absurd a
in_one_way r h (d ∷ ds) (x ∷ one) [] a b = absurd b
in_one_way r h (d ∷ ds) (x ∷ one) (y ∷ other) a b =
    let rest : one ≡ other = in_one_way r h ds one other a.1 b.1 in
    let high : a.0.0 ≡ b.0.0 = one_greatest _ a.0.0 b.0.0 a.0.1 (subst (λ (us : List Datagram). IsHigh (transfer_of h us) b.0.0) (sym rest) b.0.1) in
    let first : x ≡ y = a.0.2 ∙ ap (λ k. with_payload d (unrolled_payload r k d.payload)) high ∙ sym b.0.2 in
    ap (λ us. x ∷ us) rest ∙ ap (λ u. u ∷ other) first
