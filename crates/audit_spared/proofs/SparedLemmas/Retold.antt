-- A recording whose hosts are renamed as before looks as it did.
use Rattle.std.proofs.Common.{◌≡◌, ℕ, Bool, true, false, List, [], ◌∷◌, ◌++◌, refl, sym, ap, subst, ◌∙◌, map, reverse, filter, not, if◌then◌else◌}
use Rattle.std.specs.List.{AllByRecursion, flat_map}
use Rattle.tftp_packet.specs.Hosts.{Datagram}
use Rattle.tftp_packet.specs.{In, Out}
use Rattle.audit_flows.specs.Lines.{Recorded, Placed, is_of, same_endpoint}
use Rattle.audit_flows.specs.{Address, Endpoint, Transfer}
use Rattle.audit_flows.specs.Transfers.{client_view, is_at_server, placed}
use Rattle.audit_spared.specs.Spared.{as_served, captured_there, seen_at_server, server_saw, went_out}
use Rattle.audit_spared.specs.Spared.Seen.{as_seen_by}
use Rattle.audit_spared.proofs.SparedLemmas.Basics.{all_last, all_map}
use Rattle.audit_spared.proofs.SparedLemmas.Lists.{all_flat, filter_with, map_reversed}
use Rattle.audit_spared.proofs.SparedLemmas.Renamed.{IsNamedAsBefore, as_before, renamed}

map_same : {X Y : Type 0} (f g : X → Y) (xs : List X) → AllByRecursion (λ x. f x ≡ g x) xs → map f xs ≡ map g xs
map_same f g [] all = refl
map_same f g (x ∷ xs) all = λ i. all.0 i ∷ map_same f g xs all.1 i

reverse_same : {X Y : Type 0} (f g : X → Y) (xs : List X) → AllByRecursion (λ x. f x ≡ g x) xs → map f (reverse xs) ≡ map g (reverse xs)
reverse_same f g xs all = map_reversed f xs ∙ ap reverse (map_same f g xs all) ∙ sym (map_reversed g xs)

-- what follows from two things that hold of all holds of all
pub all_both : {X : Type 0} (P Q R : X → Type 0) → ((x : X) → P x → Q x → R x) → (xs : List X) → AllByRecursion P xs → AllByRecursion Q xs → AllByRecursion R xs
all_both P Q R f [] all also = tt
all_both P Q R f (x ∷ xs) all also = (f x all.0 also.0, all_both P Q R f xs all.1 also.1)

module _ (write : Address → List ℕ) (recorded : List Recorded) where
  abbrev AsBefore : Recorded → Type 0
  AsBefore = IsNamedAsBefore write recorded

  abbrev named : Address → List ℕ
  named = renamed write recorded

  there_same : (out : Bool) (d : Recorded) → AsBefore d → captured_there named out d ≡ captured_there write out d
  there_same true d is = λ i. record { dir = Out; local = d.source.port; host = is.target i; remote = d.target.port; payload = d.payload }
  there_same false d is = λ i. record { dir = In; local = d.target.port; host = is.source i; remote = d.source.port; payload = d.payload }

  abbrev seen_if : (Address → List ℕ) → Recorded → Bool → Datagram
  seen_if name d b =
      if b then record { dir = Out; local = d.source.port; host = name d.target.address; remote = d.target.port; payload = d.payload }
      else record { dir = In; local = d.target.port; host = name d.source.address; remote = d.source.port; payload = d.payload }

  seen_same : (d : Recorded) → AsBefore d → (b : Bool) → seen_if named d b ≡ seen_if write d b
  seen_same d is true = there_same true d is
  seen_same d is false = there_same false d is

  -- of each capture all hosts have the names that they had
  pub captures_before : (test : Recorded → Bool) (each : List (List Recorded)) → filter test recorded ≡ flat_map (λ capture. capture) each → AllByRecursion (λ k. AllByRecursion AsBefore k) each
  captures_before test each same = all_flat AsBefore each (subst (AllByRecursion AsBefore) same
      (all_map (λ d. (test d ≡ true) × AsBefore d) AsBefore (λ d both. both.1) (filter test recorded) (filter_with AsBefore test recorded (as_before write recorded))))

  pub capture_same : (c : Endpoint) (k : List Recorded) → AllByRecursion AsBefore k → map (as_seen_by named c) (reverse k) ≡ map (as_seen_by write c) (reverse k)
  capture_same c k all = reverse_same (as_seen_by named c) (as_seen_by write c) k
      (all_map AsBefore (λ d. as_seen_by named c d ≡ as_seen_by write c d) (λ d is. seen_same d is (same_endpoint d.source c)) k all)

  pub served_same : (c : Endpoint) (k : List Recorded) → AllByRecursion AsBefore k → map (as_served named c) k ≡ map (as_served write c) k
  served_same c k all = map_same (as_served named c) (as_served write c) k
      (all_map AsBefore (λ d. as_served named c d ≡ as_served write c d) (λ d is. there_same (not (same_endpoint d.source c)) d is) k all)

  -- ---- what was seen of a transfer

  module _ (newer older : List Placed) (p : Placed) (are : placed [] recorded ≡ newer ++ p ∷ older) where
    of_placed : (ds : List Recorded) → AllByRecursion AsBefore ds → AllByRecursion (λ q. AsBefore q.datagram) (placed [] ds)
    of_placed [] all = tt
    of_placed (d ∷ ds) all = (all.0, of_placed ds all.1)

    from_here : AllByRecursion (λ q. AsBefore q.datagram) (p ∷ older)
    from_here = all_last (λ q. AsBefore q.datagram) newer (p ∷ older) (subst (AllByRecursion (λ q. AsBefore q.datagram)) are (of_placed recorded (as_before write recorded)))

    passing_before : (test : Placed → Bool) → AllByRecursion (λ q. AsBefore q.datagram) (filter test older)
    passing_before test = all_map (λ q. (test q ≡ true) × AsBefore q.datagram) (λ q. AsBefore q.datagram) (λ q both. both.1) (filter test older) (filter_with (λ q. AsBefore q.datagram) test older from_here.1)

    pub seen_here : (c : Endpoint) → as_seen_by named c p.datagram ≡ as_seen_by write c p.datagram
    seen_here c = seen_same p.datagram from_here.0 (same_endpoint p.datagram.source c)

    pub seen_before : (c : Endpoint) (n : ℕ) → map (λ (q : Placed). as_seen_by named c q.datagram) (client_view n older) ≡ map (λ (q : Placed). as_seen_by write c q.datagram) (client_view n older)
    seen_before c n = map_same (λ (q : Placed). as_seen_by named c q.datagram) (λ (q : Placed). as_seen_by write c q.datagram) (client_view n older)
        (all_map (λ q. AsBefore q.datagram) (λ q. as_seen_by named c q.datagram ≡ as_seen_by write c q.datagram) (λ q is. seen_same q.datagram is (same_endpoint q.datagram.source c)) (client_view n older) (passing_before (is_of n)))

    pub server_here : (x : Transfer) (whole : List Placed) → seen_at_server named x whole p ≡ seen_at_server write x whole p
    server_here x whole = there_same (went_out x whole p) p.datagram from_here.0

    pub server_before : (x : Transfer) (whole : List Placed) → server_saw named x whole older ≡ server_saw write x whole older
    server_before x whole = map_same (seen_at_server named x whole) (seen_at_server write x whole) (filter (is_at_server x.number whole) older)
        (all_map (λ q. AsBefore q.datagram) (λ q. seen_at_server named x whole q ≡ seen_at_server write x whole q) (λ q is. there_same (went_out x whole q) q.datagram is)
        (filter (is_at_server x.number whole) older) (passing_before (is_at_server x.number whole)))
