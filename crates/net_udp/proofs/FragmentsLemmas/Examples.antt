-- The worked examples.
use Rattle.std.proofs.Common.{◌≡◌, ◌≢◌, ℕ, true, false, inl, inr, List, [], ◌∷◌, refl, ap, arith}
use Rattle.net_udp.specs.Fragments.Whole.{Part}
use Rattle.net_udp.specs.declared.fragments.extent.Extent.{Extent}
use Rattle.net_udp.specs.Fragments.{Among, Give, IsCutInto, PutTogether, across_of_udp, extent_of, first_of_udp, last_of_icmp, worked_content}
use Rattle.net_udp.proofs.FragmentsLemmas.Contents.{in_any_order, row_gives}
use Rattle.net_udp.proofs.FragmentsLemmas.Distinct.{made_in_any_order}

some_bytes : (x : ℕ) (xs : List ℕ) → (x ∷ xs) ≢ []
some_bytes x xs e = cc

cut : IsCutInto worked_content (first_of_udp ∷ last_of_icmp ∷ [])
cut = ((9 ∷ 10 ∷ [], refl, refl, some_bytes _ _, some_bytes _ _, refl, (refl, refl, refl)), refl)

exchanged : (p q r : Part) → Among (λ x. x ≡ r) (p ∷ q ∷ []) → Among (λ x. x ≡ r) (q ∷ p ∷ [])
exchanged p q r (inl e) = inr (inl e)
exchanged p q r (inr (inl e)) = inl e
exchanged p q r (inr (inr h)) = absurd h

pub both_cut : Give (first_of_udp ∷ last_of_icmp ∷ []) worked_content
both_cut = row_gives (first_of_udp ∷ last_of_icmp ∷ []) worked_content cut

pub other_order : Give (last_of_icmp ∷ first_of_udp ∷ []) worked_content
other_order = in_any_order (first_of_udp ∷ last_of_icmp ∷ []) (last_of_icmp ∷ first_of_udp ∷ []) worked_content cut (record { there = λ p a. exchanged first_of_udp last_of_icmp p a; back = λ p a. exchanged last_of_icmp first_of_udp p a })

-- ---- overlaps

pub not_one : extent_of across_of_udp ≢ extent_of first_of_udp
not_one e = absurd (omega (arith, ap (λ (x : Extent). x.place) e))

pub other_way : extent_of first_of_udp ≢ extent_of across_of_udp
other_way e = absurd (omega (arith, ap (λ (x : Extent). x.place) e))

pub true_not_false : true ≡ false → ⊥
true_not_false e = cc

again : (p q r : Part) → Among (λ x. x ≡ r) (p ∷ q ∷ []) → Among (λ x. x ≡ r) (p ∷ q ∷ p ∷ [])
again p q r (inl e) = inl e
again p q r (inr (inl e)) = inr (inl e)
again p q r (inr (inr h)) = absurd h

once : (p q r : Part) → Among (λ x. x ≡ r) (p ∷ q ∷ p ∷ []) → Among (λ x. x ≡ r) (p ∷ q ∷ [])
once p q r (inl e) = inl e
once p q r (inr (inl e)) = inr (inl e)
once p q r (inr (inr (inl e))) = inl e
once p q r (inr (inr (inr h))) = absurd h

pub first_again : PutTogether (first_of_udp ∷ last_of_icmp ∷ first_of_udp ∷ []) worked_content
first_again = made_in_any_order (first_of_udp ∷ last_of_icmp ∷ []) (first_of_udp ∷ last_of_icmp ∷ first_of_udp ∷ []) worked_content cut (record { there = λ p a. again first_of_udp last_of_icmp p a; back = λ p a. once first_of_udp last_of_icmp p a })
