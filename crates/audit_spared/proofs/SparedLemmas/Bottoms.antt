-- What was asked before in the same words changes nothing of a view, at either end.
use Rattle.std.proofs.Common.{◌≡◌, ℕ, true, List, [], ◌∷◌, ◌++◌, refl, sym, ap, subst, ◌∙◌, map, append_assoc, append-nil}
use Rattle.std.specs.List.{AllByRecursion, filter}
use Rattle.tftp_packet.specs.Hosts.{Datagram, Header}
use Rattle.law_end.specs.{OneEnded}
use Rattle.audit_flows.specs.Lines.{Recorded, Placed, is_of, is_request}
use Rattle.audit_flows.specs.Transfers.{client_view}
use Rattle.audit_spared.proofs.FairLemmas.Thinned.{filter_kept, filter_dropped, kept_or_not}
use Rattle.audit_spared.proofs.SparedLemmas.Stands.{Same, Bottom, AskedBefore}

-- the oldest is this
abbrev pub EndsWith : Datagram → List Datagram → Type 0
EndsWith s [] = ⊥
EndsWith s (d ∷ []) = d ≡ s
EndsWith s (d ∷ e ∷ ds) = EndsWith s (e ∷ ds)

ends_more : (s d : Datagram) (ds : List Datagram) → EndsWith s ds → EndsWith s (d ∷ ds)
ends_more s d [] is = absurd is
ends_more s d (e ∷ ds) is = is

ends_last : (s : Datagram) (ds : List Datagram) → EndsWith s (ds ++ s ∷ [])
ends_last s [] = refl
ends_last s (d ∷ []) = refl
ends_last s (d ∷ e ∷ ds) = ends_last s (e ∷ ds)

-- the oldest request may have passed once more
abbrev pub IsRepeatable : Header → Type 0
IsRepeatable h = (s : Datagram) (ds : List Datagram) → EndsWith s ds → OneEnded h ds → OneEnded h (ds ++ s ∷ [])

pub filter_whole : (n : ℕ) (ps : List Placed) → AllByRecursion (λ q. is_of n q ≡ true) ps → filter (is_of n) ps ≡ ps
filter_whole n [] all = refl
filter_whole n (p ∷ ps) all = filter_kept (is_of n) p ps all.0 ∙ ap (λ l. p ∷ l) (filter_whole n ps all.1)

pub own_all : (n : ℕ) (r : Recorded) (ps : List Placed) → AllByRecursion (λ q. (is_request q ≡ true) × (is_of n q ≡ true) × Same q.datagram r) ps → AllByRecursion (λ q. is_of n q ≡ true) ps
own_all n r [] all = tt
own_all n r (p ∷ ps) all = (all.0.1, own_all n r ps all.1)

module _ (h : Header) (see : Recorded → Datagram) (same_see : (d e : Recorded) → Same d e → see d ≡ see e) where
  abbrev seen : Placed → Datagram
  seen q = see q.datagram

  map_both : (ps qs : List Placed) → map seen (ps ++ qs) ≡ map seen ps ++ map seen qs
  map_both [] qs = refl
  map_both (p ∷ ps) qs = ap (λ l. seen p ∷ l) (map_both ps qs)

  bottom_seen : (r : Recorded) (n : ℕ) (ps : List Placed) → Bottom r n ps → EndsWith (see r) (map seen (filter (is_of n) ps))
  bottom_seen r n [] is = absurd is
  bottom_seen r n (q ∷ []) is = subst (λ l. EndsWith (see r) (map seen l)) (sym (filter_kept (is_of n) q [] is.1)) (same_see q.datagram r is.2)
  bottom_seen r n (q ∷ s ∷ ps) is = kept_or_not (is_of n) q
      (λ kept. subst (λ l. EndsWith (see r) (map seen l)) (sym (filter_kept (is_of n) q (s ∷ ps) kept)) (ends_more (see r) (seen q) (map seen (filter (is_of n) (s ∷ ps))) (bottom_seen r n (s ∷ ps) is)))
      (λ off. subst (λ l. EndsWith (see r) (map seen l)) (sym (filter_dropped (is_of n) q (s ∷ ps) off)) (bottom_seen r n (s ∷ ps) is))

  pub repeated_lawful : IsRepeatable h → (r : Recorded) (before : List Placed) (ds : List Datagram) → AllByRecursion (λ q. (is_request q ≡ true) × Same q.datagram r) before → EndsWith (see r) ds
      → OneEnded h ds → OneEnded h (ds ++ map seen before)
  repeated_lawful may r [] ds all ends lawful = subst (OneEnded h) (sym (append-nil ds)) lawful
  repeated_lawful may r (b ∷ before) ds all ends lawful =
      let more = repeated_lawful may r before (ds ++ (see r ∷ [])) all.1 (ends_last (see r) ds) (may (see r) ds ends lawful) in
      let join : (ds ++ (see r ∷ [])) ++ map seen before ≡ ds ++ (see r ∷ map seen before) = append_assoc ds (see r ∷ []) (map seen before) in
      let same : ds ++ (see r ∷ map seen before) ≡ ds ++ (see b.datagram ∷ map seen before) = ap (λ e. ds ++ (e ∷ map seen before)) (sym (same_see b.datagram r all.0.1)) in
      subst (OneEnded h) (join ∙ same) more

  -- so where the part of the capture is lawful, the view is
  pub view_lawful : IsRepeatable h → (older kp : List Placed) (n : ℕ) (asked : AskedBefore older kp n) → Bottom asked.r n kp → OneEnded h (map seen (filter (is_of n) kp))
      → OneEnded h (map seen (client_view n older))
  view_lawful may older kp n asked bottom lawful = subst (OneEnded h) (sym (ap (map seen) asked.view ∙ map_both (filter (is_of n) kp) asked.before))
      (repeated_lawful may asked.r asked.before (map seen (filter (is_of n) kp)) asked.repeated (bottom_seen asked.r n kp bottom) lawful)

  -- what was asked for in the same words and nothing else
  pub all_same : IsRepeatable h → (r : Recorded) (ps : List Placed) → AllByRecursion (λ q. (is_request q ≡ true) × Same q.datagram r) ps → OneEnded h (see r ∷ []) → OneEnded h (map seen ps)
  all_same may r [] all lawful = tt
  all_same may r (q ∷ ps) all lawful = subst (λ s. OneEnded h (s ∷ map seen ps)) (sym (same_see q.datagram r all.0.1)) (repeated_lawful may r ps (see r ∷ []) all.1 refl lawful)

  -- the capture's datagrams, as they were placed
  pub seen_of : (kp : List Placed) (k : List Recorded) → map (λ p. p.datagram) kp ≡ k → OneEnded h (map see k) → OneEnded h (map seen kp)
  seen_of kp k are lawful = subst (OneEnded h) (twice kp) (subst (λ l. OneEnded h (map see l)) (sym are) lawful) where
    twice : (ps : List Placed) → map see (map (λ p. p.datagram) ps) ≡ map seen ps
    twice [] = refl
    twice (p ∷ ps) = ap (λ l. seen p ∷ l) (twice ps)
