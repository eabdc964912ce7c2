-- What is refused where strays come, by names that no other host has.
use Rattle.std.proofs.Common.{◌≡◌, ◌⊎◌, ℕ, ◌||◌, true, Bool, List, [], ◌∷◌, ◌++◌, Contains, Some, inl, inr, map, subst, sym}
use Rattle.law_end.specs.{IsRefused, OneEnded, Rule}
use Rattle.audit_flows.specs.Lines.{Placed, Recorded, transfer_of}
use Rattle.audit_flows.specs.{Address, Endpoint, Transfer}
use Rattle.audit_spared.specs.Spared.{HaveOwnNames, needs_doubt}
use Rattle.audit_spared.specs.Spared.Seen.{as_seen_by, at_client_of}
use Rattle.audit_spared.proofs.SparedLemmas.ClientEnd.{by_four, refused_or_led, seen_or_led}
use Rattle.audit_spared.proofs.SparedLemmas.Strays.{IsStrayedAt}
use Rattle.audit_spared.proofs.SparedLemmas.Renamed.{renamed, renamed_one}
use Rattle.audit_spared.proofs.SparedLemmas.Retold.{seen_before, seen_here}
use Rattle.audit_spared.proofs.SparedLemmas.Whole.{AreAll}
use Rattle.audit_flows.specs.Transfers.{client_view, is_led_astray, placed}

-- ---- with names that no other host has

module _ (write : Address → List ℕ) (strays : Recorded → Bool) (clients : List Endpoint) (recorded : List Recorded) (hosts : HaveOwnNames write recorded)
    (all : AreAll (IsStrayedAt (renamed write recorded) strays) clients recorded) where
  abbrev named : Address → List ℕ
  named = renamed write recorded

  module _ (newer older : List Placed) (p : Placed) (are : placed [] recorded ≡ newer ++ p ∷ older) (x : Transfer) (at : transfer_of p.place ≡ Some x) (is_client : Contains clients x.client) where
    -- a doubt is there, or the view up to this datagram breaks no rule, or something is a stray
    pub view_or : (needs_doubt x.number (placed [] recorded) p older ≡ true)
        ⊎ (OneEnded (at_client_of x.asked.port) (as_seen_by write x.client p.datagram ∷ map (λ q. as_seen_by write x.client q.datagram) (client_view x.number older)) ⊎ ((q : Placed) × (strays q.datagram ≡ true)))
    view_or = elim (seen_or_led named (renamed_one write recorded hosts) strays clients recorded all newer older p are x at is_client) [
      | inl doubt ↦ inl doubt
      | inr (inl fair) ↦ inr (inl (subst (λ l. OneEnded (at_client_of x.asked.port) (as_seen_by write x.client p.datagram ∷ l)) (seen_before write recorded newer older p are x.client x.number)
          (subst (λ d. OneEnded (at_client_of x.asked.port) (d ∷ map (λ q. as_seen_by named x.client q.datagram) (client_view x.number older))) (seen_here write recorded newer older p are x.client) fair)))
      | inr (inr led) ↦ inr (inr (led.0, led.2))
    ]

  module _ (newer older : List Placed) (p : Placed) (are : placed [] recorded ≡ newer ++ p ∷ older) (x : Transfer) (at : transfer_of p.place ≡ Some x) (is_client : Contains clients x.client) (rule : Rule)
      (refused : IsRefused (at_client_of x.asked.port) (map (λ q. as_seen_by write x.client q.datagram) (client_view x.number older)) (as_seen_by write x.client p.datagram) rule) where
    refused_named : IsRefused (at_client_of x.asked.port) (map (λ q. as_seen_by named x.client q.datagram) (client_view x.number older)) (as_seen_by named x.client p.datagram) rule
    refused_named = subst (λ l. IsRefused (at_client_of x.asked.port) l (as_seen_by named x.client p.datagram) rule) (sym (seen_before write recorded newer older p are x.client x.number))
        (subst (λ d. IsRefused (at_client_of x.asked.port) (map (λ q. as_seen_by write x.client q.datagram) (client_view x.number older)) d rule) (sym (seen_here write recorded newer older p are x.client)) refused)

    pub strayed_or : (needs_doubt x.number (placed [] recorded) p older ≡ true) ⊎ ((q : Placed) × (strays q.datagram ≡ true))
    strayed_or = elim (refused_or_led named (renamed_one write recorded hosts) strays clients recorded all newer older p are x at is_client rule refused_named) [
      | inl doubt ↦ inl doubt
      | inr led ↦ inr (led.0, led.2)
    ]

    pub strayed_by_four : (needs_doubt x.number (placed [] recorded) p older || is_led_astray x.number (placed [] recorded) p older) ≡ true
    strayed_by_four = by_four named (renamed_one write recorded hosts) strays clients recorded all newer older p are x at is_client rule refused_named
