-- Values that have a code are the same or not.
use Rattle.std.proofs.Common.{◌≡◌, ◌⊎◌, ℕ, List, inl, inr, refl, ap}
use Rattle.std.proofs.lemmas.Bool.{cases_eq}
use Rattle.std.specs.Coded.{coded_ℕ, coded_list}
use Rattle.tftp_packet.specs.{OptionMap, RequestParts, parts_code, options_code}
use base.Stored.{Gv, gnil, gnum, gcons, Coded}

both_same : (a b c d : Gv) → (a ≡ c) ⊎ (a ≡ c → ⊥) → (b ≡ d) ⊎ (b ≡ d → ⊥) → (gcons a b ≡ gcons c d) ⊎ (gcons a b ≡ gcons c d → ⊥)
both_same a b c d (inl p) (inl q) = inl (λ i. gcons (p i) (q i))
both_same a b c d (inl p) (inr no_q) = inr (λ e. no_q (cc))
both_same a b c d (inr no_p) q = inr (λ e. no_p (cc))

codes_same : (x y : Gv) → (x ≡ y) ⊎ (x ≡ y → ⊥)
codes_same gnil gnil = inl refl
codes_same gnil (gnum n) = inr (λ e. cc)
codes_same gnil (gcons c d) = inr (λ e. cc)
codes_same (gnum n) gnil = inr (λ e. cc)
codes_same (gnum n) (gnum k) = elim (cases_eq n k) [ inl e ↦ inl (ap gnum e) | inr other ↦ inr (λ e. other (cc)) ]
codes_same (gnum n) (gcons c d) = inr (λ e. cc)
codes_same (gcons a b) gnil = inr (λ e. cc)
codes_same (gcons a b) (gnum n) = inr (λ e. cc)
codes_same (gcons a b) (gcons c d) = both_same a b c d (codes_same a c) (codes_same b d)

coded_same : {A : Type 0} → Coded A → (a b : A) → (a ≡ b) ⊎ (a ≡ b → ⊥)
coded_same c a b = elim (codes_same (c.code a) (c.code b)) [ inl e ↦ inl (c.inj a b e) | inr other ↦ inr (λ e. other (ap c.code e)) ]

pub same_request : (a b : RequestParts) → (a ≡ b) ⊎ (a ≡ b → ⊥)
same_request = coded_same parts_code

pub same_options : (a b : OptionMap) → (a ≡ b) ⊎ (a ≡ b → ⊥)
same_options = coded_same options_code

pub same_text : (a b : List ℕ) → (a ≡ b) ⊎ (a ≡ b → ⊥)
same_text = coded_same (coded_list coded_ℕ)
