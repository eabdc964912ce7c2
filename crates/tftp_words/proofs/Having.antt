-- What more parts have.
use Rattle.std.proofs.Common.{◌≡◌, ℕ, ◌+◌, List, [], ◌∷◌, ◌++◌, length, Bool, true, Option, Some, None, option_to_list, is_some, false, map, Bor, refl, sym, ap, ◌∙◌, ◌≤◌, append-nil, arith}
use Rattle.std.proofs.lemmas.List.{map-append}
use Rattle.tftp_packet.specs.{Rollover}
use Rattle.tftp_words.specs.{Point, Word, Part, Service, Json, At, Again, Counts, Transfer, ServerTransfer, Plain, services, jsons, points, rollovers, plains, countings, transfers, server_transfers, Have, Choose, IsOnce}

services-append : (ps qs : List Part) → services (ps ++ qs) ≡ services ps ++ services qs
services-append [] qs = refl
services-append (Service port ∷ ps) qs = ap (λ xs. port ∷ xs) (services-append ps qs)
services-append (_ ∷ ps) qs = services-append ps qs

points-append : (ps qs : List Part) → points (ps ++ qs) ≡ points ps ++ points qs
points-append [] qs = refl
points-append (At point ∷ ps) qs = ap (λ xs. point ∷ xs) (points-append ps qs)
points-append (_ ∷ ps) qs = points-append ps qs

rollovers-append : (ps qs : List Part) → rollovers (ps ++ qs) ≡ rollovers ps ++ rollovers qs
rollovers-append [] qs = refl
rollovers-append (Again rollover ∷ ps) qs = ap (λ xs. rollover ∷ xs) (rollovers-append ps qs)
rollovers-append (_ ∷ ps) qs = rollovers-append ps qs

plains-append : (ps qs : List Part) → plains (ps ++ qs) ≡ plains ps ++ plains qs
plains-append [] qs = refl
plains-append (Plain word ∷ ps) qs = ap (λ xs. word ∷ xs) (plains-append ps qs)
plains-append (_ ∷ ps) qs = plains-append ps qs

jsons-append : (ps qs : List Part) → jsons (ps ++ qs) ≡ jsons ps + jsons qs
jsons-append [] qs = omega arith
jsons-append (Json ∷ ps) qs = omega (arith, jsons-append ps qs)
jsons-append (_ ∷ ps) qs = jsons-append ps qs

pub have_service : (ps : List Part) (ports : List ℕ) (json : Bool) (at : Option Point) (over : Option Rollover) (words : List Word) (port : ℕ) → Have ps ports json at over words → Have (ps ++ Service port ∷ []) (ports ++ port ∷ []) json at over words
have_service ps ports json at over words port h = (
  services-append ps (Service port ∷ []) ∙ ap (λ xs. xs ++ port ∷ []) h.0,
  omega (arith, jsons-append ps (Service port ∷ []), h.1),
  points-append ps (Service port ∷ []) ∙ append-nil (points ps) ∙ h.2,
  rollovers-append ps (Service port ∷ []) ∙ append-nil (rollovers ps) ∙ h.3,
  plains-append ps (Service port ∷ []) ∙ append-nil (plains ps) ∙ h.4,
)

pub have_json : (ps : List Part) (ports : List ℕ) (json : Bool) (at : Option Point) (over : Option Rollover) (words : List Word) → json ≡ false → Have ps ports json at over words → Have (ps ++ Json ∷ []) ports true at over words
have_json ps ports true at over words not h = cc
have_json ps ports false at over words not h = (
  services-append ps (Json ∷ []) ∙ append-nil (services ps) ∙ h.0,
  omega (arith, jsons-append ps (Json ∷ []), h.1),
  points-append ps (Json ∷ []) ∙ append-nil (points ps) ∙ h.2,
  rollovers-append ps (Json ∷ []) ∙ append-nil (rollovers ps) ∙ h.3,
  plains-append ps (Json ∷ []) ∙ append-nil (plains ps) ∙ h.4,
)

pub have_point : (ps : List Part) (ports : List ℕ) (json : Bool) (at : Option Point) (over : Option Rollover) (words : List Word) (point : Point) → is_some at ≡ false → Have ps ports json at over words → Have (ps ++ At point ∷ []) ports json (Some point) over words
have_point ps ports json (Some x) over words point not h = cc
have_point ps ports json None over words point not h = (
  services-append ps (At point ∷ []) ∙ append-nil (services ps) ∙ h.0,
  omega (arith, jsons-append ps (At point ∷ []), h.1),
  points-append ps (At point ∷ []) ∙ ap (λ xs. xs ++ point ∷ []) h.2,
  rollovers-append ps (At point ∷ []) ∙ append-nil (rollovers ps) ∙ h.3,
  plains-append ps (At point ∷ []) ∙ append-nil (plains ps) ∙ h.4,
)

pub have_rollover : (ps : List Part) (ports : List ℕ) (json : Bool) (at : Option Point) (over : Option Rollover) (words : List Word) (rollover : Rollover) → is_some over ≡ false → Have ps ports json at over words → Have (ps ++ Again rollover ∷ []) ports json at (Some rollover) words
have_rollover ps ports json at (Some x) words rollover not h = cc
have_rollover ps ports json at None words rollover not h = (
  services-append ps (Again rollover ∷ []) ∙ append-nil (services ps) ∙ h.0,
  omega (arith, jsons-append ps (Again rollover ∷ []), h.1),
  points-append ps (Again rollover ∷ []) ∙ append-nil (points ps) ∙ h.2,
  rollovers-append ps (Again rollover ∷ []) ∙ ap (λ xs. xs ++ rollover ∷ []) h.3,
  plains-append ps (Again rollover ∷ []) ∙ append-nil (plains ps) ∙ h.4,
)

have_plain : (ps : List Part) (ports : List ℕ) (json : Bool) (at : Option Point) (over : Option Rollover) (words : List Word) (word : Word) → Have ps ports json at over words → Have (ps ++ Plain word ∷ []) ports json at over (words ++ word ∷ [])
have_plain ps ports json at over words word h = (
  services-append ps (Plain word ∷ []) ∙ append-nil (services ps) ∙ h.0,
  omega (arith, jsons-append ps (Plain word ∷ []), h.1),
  points-append ps (Plain word ∷ []) ∙ append-nil (points ps) ∙ h.2,
  rollovers-append ps (Plain word ∷ []) ∙ append-nil (rollovers ps) ∙ h.3,
  plains-append ps (Plain word ∷ []) ∙ ap (λ xs. xs ++ word ∷ []) h.4,
)

-- ---- what `tftp-match` alone can be asked for

countings-append : (ps qs : List Part) → countings (ps ++ qs) ≡ countings ps + countings qs
countings-append [] qs = omega arith
countings-append (Counts ∷ ps) qs = omega (arith, countings-append ps qs)
countings-append (_ ∷ ps) qs = countings-append ps qs

transfers-append : (ps qs : List Part) → transfers (ps ++ qs) ≡ transfers ps ++ transfers qs
transfers-append [] qs = refl
transfers-append (Transfer number ∷ ps) qs = ap (λ xs. number ∷ xs) (transfers-append ps qs)
transfers-append (_ ∷ ps) qs = transfers-append ps qs

server_transfers-append : (ps qs : List Part) → server_transfers (ps ++ qs) ≡ server_transfers ps ++ server_transfers qs
server_transfers-append [] qs = refl
server_transfers-append (ServerTransfer number ∷ ps) qs = ap (λ xs. number ∷ xs) (server_transfers-append ps qs)
server_transfers-append (_ ∷ ps) qs = server_transfers-append ps qs

-- a part that neither wants counts nor chooses a transfer
pub choose_beside : (ps : List Part) (p : Part) (counts : Bool) (transfer server : Option ℕ) → countings (p ∷ []) ≡ 0 → transfers (p ∷ []) ≡ [] → server_transfers (p ∷ []) ≡ []
    → Choose ps counts transfer server → Choose (ps ++ p ∷ []) counts transfer server
choose_beside ps p counts transfer server zero none nothing h = (
  omega (arith, countings-append ps (p ∷ []), zero, h.0),
  transfers-append ps (p ∷ []) ∙ ap (λ xs. transfers ps ++ xs) none ∙ append-nil (transfers ps) ∙ h.1,
  server_transfers-append ps (p ∷ []) ∙ ap (λ xs. server_transfers ps ++ xs) nothing ∙ append-nil (server_transfers ps) ∙ h.2,
)

-- a part that does nothing else
pub have_beside : (ps : List Part) (p : Part) (ports : List ℕ) (json : Bool) (at : Option Point) (over : Option Rollover) (words : List Word)
    → services (p ∷ []) ≡ [] → jsons (p ∷ []) ≡ 0 → points (p ∷ []) ≡ [] → rollovers (p ∷ []) ≡ [] → plains (p ∷ []) ≡ [] → Have ps ports json at over words → Have (ps ++ p ∷ []) ports json at over words
have_beside ps p ports json at over words a b c d e h = (
  services-append ps (p ∷ []) ∙ ap (λ xs. services ps ++ xs) a ∙ append-nil (services ps) ∙ h.0,
  omega (arith, jsons-append ps (p ∷ []), b, h.1),
  points-append ps (p ∷ []) ∙ ap (λ xs. points ps ++ xs) c ∙ append-nil (points ps) ∙ h.2,
  rollovers-append ps (p ∷ []) ∙ ap (λ xs. rollovers ps ++ xs) d ∙ append-nil (rollovers ps) ∙ h.3,
  plains-append ps (p ∷ []) ∙ ap (λ xs. plains ps ++ xs) e ∙ append-nil (plains ps) ∙ h.4,
)

pub choose_counts : (ps : List Part) (counts : Bool) (transfer server : Option ℕ) → counts ≡ false → Choose ps counts transfer server → Choose (ps ++ Counts ∷ []) true transfer server
choose_counts ps true transfer server not h = cc
choose_counts ps false transfer server not h = (
  omega (arith, countings-append ps (Counts ∷ []), h.0),
  transfers-append ps (Counts ∷ []) ∙ append-nil (transfers ps) ∙ h.1,
  server_transfers-append ps (Counts ∷ []) ∙ append-nil (server_transfers ps) ∙ h.2,
)

pub choose_transfer : (ps : List Part) (counts : Bool) (transfer server : Option ℕ) (number : ℕ) → is_some transfer ≡ false → Choose ps counts transfer server → Choose (ps ++ Transfer number ∷ []) counts (Some number) server
choose_transfer ps counts (Some x) server number not h = cc
choose_transfer ps counts None server number not h = (
  omega (arith, countings-append ps (Transfer number ∷ []), h.0),
  transfers-append ps (Transfer number ∷ []) ∙ ap (λ xs. xs ++ number ∷ []) h.1,
  server_transfers-append ps (Transfer number ∷ []) ∙ append-nil (server_transfers ps) ∙ h.2,
)

pub choose_server_transfer : (ps : List Part) (counts : Bool) (transfer server : Option ℕ) (number : ℕ) → is_some server ≡ false → Choose ps counts transfer server → Choose (ps ++ ServerTransfer number ∷ []) counts transfer (Some number)
choose_server_transfer ps counts transfer (Some x) number not h = cc
choose_server_transfer ps counts transfer None number not h = (
  omega (arith, countings-append ps (ServerTransfer number ∷ []), h.0),
  transfers-append ps (ServerTransfer number ∷ []) ∙ append-nil (transfers ps) ∙ h.1,
  server_transfers-append ps (ServerTransfer number ∷ []) ∙ ap (λ xs. xs ++ number ∷ []) h.2,
)

pub chooses_nothing : (ps : List Part) (counts : Bool) (transfer server : Option ℕ) → Choose ps counts transfer server → Choose ps false None None → (counts ≡ false) × (is_some transfer ≡ false) × (is_some server ≡ false)
chooses_nothing ps true transfer server h none = absurd (omega (arith, h.0, none.0))
chooses_nothing ps false (Some x) server h none = (let bad : [] ≡ x ∷ [] = sym none.1 ∙ h.1 in cc)
chooses_nothing ps false None (Some x) h none = (let bad : [] ≡ x ∷ [] = sym none.2 ∙ h.2 in cc)
chooses_nothing ps false None None h none = (refl, refl, refl)

pub chooses : (ps : List Part) (counts : Bool) (transfer server : Option ℕ) → counts ≡ false → is_some transfer ≡ false → is_some server ≡ false → Choose ps counts transfer server → Choose ps false None None
chooses ps true transfer server a b c h = cc
chooses ps false (Some x) server a b c h = cc
chooses ps false None (Some x) a b c h = cc
chooses ps false None None a b c h = h

-- ---- what is said once at most

pub json_twice : (ps qs : List Part) → jsons ps ≡ 1 → IsOnce (ps ++ Json ∷ qs) → ⊥
json_twice ps qs one once = omega (arith, jsons-append ps (Json ∷ qs), one, once.0)

pub counts_twice : (ps qs : List Part) → countings ps ≡ 1 → IsOnce (ps ++ Counts ∷ qs) → ⊥
counts_twice ps qs one once = omega (arith, countings-append ps (Counts ∷ qs), one, once.3)

two_of_them : {A : Type 0} (all before after : List A) (said : Option A) (y : A) → all ≡ before ++ (y ∷ after) → before ≡ option_to_list said → is_some said ≡ true → length all ≤ 1 → ⊥
two_of_them all before after None y are is some one = cc
two_of_them all before after (Some x) y are is some one =
    let more = ap length (are ∙ ap (λ xs. xs ++ (y ∷ after)) is) in
    omega (arith, more, one)

pub point_twice : (ps qs : List Part) (at : Option Point) (y : Point) → is_some at ≡ true → points ps ≡ option_to_list at → IsOnce (ps ++ At y ∷ qs) → ⊥
point_twice ps qs at y some are once = two_of_them (points (ps ++ At y ∷ qs)) (points ps) (points qs) at y (points-append ps (At y ∷ qs)) are some once.1

pub rollover_twice : (ps qs : List Part) (over : Option Rollover) (y : Rollover) → is_some over ≡ true → rollovers ps ≡ option_to_list over → IsOnce (ps ++ Again y ∷ qs) → ⊥
rollover_twice ps qs over y some are once = two_of_them (rollovers (ps ++ Again y ∷ qs)) (rollovers ps) (rollovers qs) over y (rollovers-append ps (Again y ∷ qs)) are some once.2

pub transfer_twice : (ps qs : List Part) (said : Option ℕ) (y : ℕ) → is_some said ≡ true → transfers ps ≡ option_to_list said → IsOnce (ps ++ Transfer y ∷ qs) → ⊥
transfer_twice ps qs said y some are once = two_of_them (transfers (ps ++ Transfer y ∷ qs)) (transfers ps) (transfers qs) said y (transfers-append ps (Transfer y ∷ qs)) are some once.4

pub server_transfer_twice : (ps qs : List Part) (said : Option ℕ) (y : ℕ) → is_some said ≡ true → server_transfers ps ≡ option_to_list said → IsOnce (ps ++ ServerTransfer y ∷ qs) → ⊥
server_transfer_twice ps qs said y some are once =
    two_of_them (server_transfers (ps ++ ServerTransfer y ∷ qs)) (server_transfers ps) (server_transfers qs) said y (server_transfers-append ps (ServerTransfer y ∷ qs)) are some once.5

pub have_word : (ps : List Part) (ports : List ℕ) (json : Bool) (at : Option Point) (over : Option Rollover) (items : List (Bor Word)) (word : Bor Word) → Have ps ports json at over (map (λ w. w.now) items)
    → Have (ps ++ Plain word.now ∷ []) ports json at over (map (λ w. w.now) (items ++ word ∷ []))
have_word ps ports json at over items word h = rw (map-append (λ (w : Bor Word). w.now) items (word ∷ [])) (have_plain ps ports json at over (map (λ w. w.now) items) word.now h)
