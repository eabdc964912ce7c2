-- What is found of a datagram by its route, before it is read and after.
use Rattle.std.proofs.Common.{◌≡◌, ◌⊎◌, ℕ, zero, suc, ◌<◌, Bool, true, false, List, [], ◌∷◌, None, inl, inr, refl, sym, ap, ◌∙◌, arith}
use Rattle.std.specs.List.{AllByRecursion}
use Rattle.std.specs.Str.{bytes_eq}
use Rattle.std.proofs.lemmas.Bool.{cases_lt, false≢true}
use Rattle.std.proofs.lemmas.Slice.Eq.{bytes_eq-Decides}
use Rattle.tftp_packet.specs.{Message, RequestParts, IsString, terminated, Spells, IsPair}
use Rattle.tftp_packet.specs.Hosts.{Datagram, Header}
use Rattle.law_model.specs.Rules.{Route, asks, first_of, route_of, is_of_transfer, SaysUnknownId, PortBroken}
use Rattle.law_model.specs.{PortRule}
use Rattle.law_end.specs.{FirstAsked, Broken, Rule, IsRead, Passes}
use Rattle.law_end.proofs.FirstBroken.OneMessage.{only_ports, only_messages}

-- ---- a datagram is ERROR 5, or it is not

bytes_cases : (xs : List ℕ) → AllByRecursion (λ b. b < 256) xs ⊎ (AllByRecursion (λ b. b < 256) xs → ⊥)
bytes_cases [] = inl tt
bytes_cases (x ∷ xs) = elim (cases_lt x 256) [
  | inl low ↦ elim (bytes_cases xs) [ inl all ↦ inl (low, all) | inr other ↦ inr (λ all. other all.1) ]
  | inr high ↦ inr (λ all. let low = all.0 in omega arith)
]

abbrev IsEnded : List ℕ → Type 0
IsEnded body = (text : List ℕ) × IsString text × (body ≡ terminated text)

none_ends : IsEnded [] → ⊥
none_ends ([], s, e) = cc
none_ends (t ∷ ts, s, e) = cc

zero_ends : (x : ℕ) (xs : List ℕ) → IsEnded (0 ∷ x ∷ xs) → ⊥
zero_ends x xs ([], s, e) = cc
zero_ends x xs (t ∷ ts, s, e) = let is : 0 ≡ t = cc in s.0 (sym is)

more_ends : (b : ℕ) (body : List ℕ) → IsEnded body → IsEnded (suc b ∷ body)
more_ends b body (text, s, e) = (suc b ∷ text, ((λ is. omega arith), s), ap (λ (ys : List ℕ). suc b ∷ ys) e)

less_ends : (b : ℕ) (body : List ℕ) → IsEnded (suc b ∷ body) → IsEnded body
less_ends b body ([], s, e) = let is : suc b ≡ 0 = cc in absurd (omega arith)
less_ends b body (t ∷ ts, s, e) = (ts, s.1, cc)

ended_cases : (body : List ℕ) → IsEnded body ⊎ (IsEnded body → ⊥)
ended_cases [] = inr none_ends
ended_cases (zero ∷ []) = inl ([], tt, refl)
ended_cases (zero ∷ x ∷ xs) = inr (zero_ends x xs)
ended_cases (suc b ∷ body) = elim (ended_cases body) [
  | inl ended ↦ inl (more_ends b body ended)
  | inr other ↦ inr (λ ended. other (less_ends b body ended))
]

after_four : List ℕ → List ℕ
after_four (a ∷ b ∷ x ∷ y ∷ body) = body
after_four _ = []

abbrev begun : List ℕ → List ℕ
begun payload = 0 ∷ 5 ∷ 0 ∷ 5 ∷ after_four payload

five : (x y : ℕ) → IsPair x y 5 → (x ≡ 0) × (y ≡ 5)
five x y pair = let is = pair.2 in (omega arith, omega arith)

says_begun : (payload text : List ℕ) → Spells payload (Message.Error 5 text) → payload ≡ 0 ∷ 5 ∷ 0 ∷ 5 ∷ terminated text
says_begun payload text (all, (x, y, pair, s, e)) =
    let is = five x y pair in
    e ∙ ap (λ (n : ℕ). 0 ∷ 5 ∷ n ∷ y ∷ terminated text) is.0 ∙ ap (λ (n : ℕ). 0 ∷ 5 ∷ 0 ∷ n ∷ terminated text) is.1

body_is : (payload body : List ℕ) → payload ≡ 0 ∷ 5 ∷ 0 ∷ 5 ∷ body → after_four payload ≡ body
unfolding after_four
body_is payload body e = ap after_four e

unknown_by : (d : Datagram) (b : Bool) → bytes_eq d.payload (begun d.payload) ≡ b → SaysUnknownId d ⊎ (SaysUnknownId d → ⊥)
unknown_by d true t =
    let is : d.payload ≡ begun d.payload = (bytes_eq-Decides d.payload (begun d.payload)).0 t in
    elim (bytes_cases d.payload) [
      | inl all ↦ elim (ended_cases (after_four d.payload)) [
        | inl ended ↦ let (text, s, e) = ended in inl (text, (all, (0, 5, (omega arith, omega arith, omega arith), s, is ∙ ap (λ (ys : List ℕ). 0 ∷ 5 ∷ 0 ∷ 5 ∷ ys) e)))
        | inr other ↦ inr (λ says. let (text, spells) = says in other (text, spells.1.3, body_is d.payload (terminated text) (says_begun d.payload text spells)))
      ]
      | inr other ↦ inr (λ says. other says.1.0)
    ]
unknown_by d false t = inr (λ says. never says) where
  never : SaysUnknownId d → ⊥
  never (text, spells) =
      let e = says_begun d.payload text spells in
      let same = e ∙ ap (λ (ys : List ℕ). 0 ∷ 5 ∷ 0 ∷ 5 ∷ ys) (sym (body_is d.payload (terminated text) e)) in
      false≢true (sym t ∙ (bytes_eq-Decides d.payload (begun d.payload)).1 same)

unknown_so : (d : Datagram) → ((SaysUnknownId d → ⊥) → ⊥) → SaysUnknownId d
unknown_so d other = elim (unknown_by d (bytes_eq d.payload (begun d.payload)) refl) [ inl says ↦ says | inr never ↦ absurd (other never) ]

-- ---- a datagram that is none of the transfer

off_read : (r : Route) (d : Datagram) → is_of_transfer r ≡ false → (r ≡ Route.ForeignPort → ⊥) → (r ≡ Route.WrongPort → ⊥) → ((r ≡ Route.NoStrayAnswer) ⊎ ((r ≡ Route.StrayAnswer) × (SaysUnknownId d → ⊥)) → ⊥) → IsRead r d
off_read Route.Request d off foreign wrong bad = absurd (false≢true (sym off))
off_read Route.Peer d off foreign wrong bad = absurd (false≢true (sym off))
off_read Route.Stray d off foreign wrong bad = tt
off_read Route.StrayAnswer d off foreign wrong bad = unknown_so d (λ never. bad (inr (refl, never)))
off_read Route.ForeignPort d off foreign wrong bad = absurd (foreign refl)
off_read Route.WrongPort d off foreign wrong bad = absurd (wrong refl)
off_read Route.NoStrayAnswer d off foreign wrong bad = absurd (bad (inl refl))

module _ (h : Header) (ds : List Datagram) (d : Datagram) where
  module _ (off : is_of_transfer (route_of h ds d) ≡ false) (kept : (port : PortRule) → PortBroken h ds d port → ⊥) where
    pub off_passes : Passes h ds d
    off_passes = record {
      read = off_read (route_of h ds d) d off (kept PortRule.Foreign) (kept PortRule.Wrong) (kept PortRule.BadAnswer);
      lawful = only_ports h ds d off kept;
    }

  -- ---- a datagram of the transfer

  main_read : (r : Route) (m : Message) → is_of_transfer r ≡ true → Spells d.payload m → IsRead r d
  main_read Route.Request m on s = (m, s)
  main_read Route.Peer m on s = (m, s)
  main_read _ m on s = absurd (false≢true on)

  pub main_passes : (m : Message) → is_of_transfer (route_of h ds d) ≡ true → Spells d.payload m → ((rule : Rule) → Broken h ds d rule → ⊥) → Passes h ds d
  main_passes m on s lawful = record { read = main_read (route_of h ds d) m on s; lawful = lawful }

  -- the first request
  pub first_lawful : (m : Message) → is_of_transfer (route_of h ds d) ≡ true → Spells d.payload m → ((asked : RequestParts) → FirstAsked h ds asked → ⊥)
      → (first_of (asks h) ds ≡ None → route_of h ds d ≡ Route.Peer → ⊥) → (rule : Rule) → Broken h ds d rule → ⊥
  first_lawful m on spells never begun rule b = let said = only_messages h ds d m on spells begun rule b in never said.asked said.first
