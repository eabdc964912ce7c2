-- What an end saw, from the oldest datagram on.
use Rattle.std.proofs.Common.{◌≡◌, Bool, true, false, cond, List, [], ◌∷◌, ◌++◌, map, reverse, refl, sym, ap, ◌∙◌, filter, None}
use Rattle.std.proofs.lemmas.List.{map-append, reverse-append}
use Rattle.std.proofs.lemmas.List.Elements.{filter-append}
use Rattle.tftp_packet.specs.{End, Client, Server}
use Rattle.audit_flows.specs.Lines.{Placed}
use Rattle.audit_flows.specs.{Transfer}
use Rattle.audit_views.specs.Views.{Naming}
use Rattle.audit_views.specs.Texts.{capture_at, captured_at, header_at, is_seen}

pub header_is : (end : End) (x : Transfer) → record { named = end; service = x.asked.port; rollover = None } ≡ header_at end x
header_is Client x = refl
header_is Server x = refl

module _ (end : End) (name : Naming) (x : Transfer) (whole : List Placed) where
  pub capture_more : (ps qs : List Placed) → capture_at end name x whole (ps ++ qs) ≡ capture_at end name x whole ps ++ capture_at end name x whole qs
  capture_more ps qs = ap (map (captured_at end name x whole)) (filter-append (is_seen end x.number whole) ps qs)
      ∙ map-append (captured_at end name x whole) (filter (is_seen end x.number whole) ps) (filter (is_seen end x.number whole) qs)

  single : (p : Placed) → reverse (capture_at end name x whole (p ∷ [])) ≡ capture_at end name x whole (p ∷ [])
  single p = elim (is_seen end x.number whole p) as (λ (b : Bool). reverse (map (captured_at end name x whole) (cond b (p ∷ []) [])) ≡ map (captured_at end name x whole) (cond b (p ∷ []) [])) [
    | true ↦ refl
    | false ↦ refl
  ]

  pub capture_back : (ps : List Placed) → capture_at end name x whole (reverse ps) ≡ reverse (capture_at end name x whole ps)
  capture_back [] = refl
  capture_back (p ∷ ps) =
      ap (capture_at end name x whole) (reverse-append (p ∷ []) ps) ∙ capture_more (reverse ps) (p ∷ [])
      ∙ ap (λ l. l ++ capture_at end name x whole (p ∷ [])) (capture_back ps)
      ∙ ap (λ l. reverse (capture_at end name x whole ps) ++ l) (sym (single p))
      ∙ sym (ap reverse (capture_more (p ∷ []) ps) ∙ reverse-append (capture_at end name x whole (p ∷ [])) (capture_at end name x whole ps))
