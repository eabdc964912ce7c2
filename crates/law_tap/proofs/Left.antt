-- What is left of a list, and what of its whole is known from it.
use Rattle.std.proofs.Common.{◌≡◌, ℕ, zero, suc, ◌≤◌, List, [], ◌∷◌, Contains, take, inl, inr, sym, subst, arith}
use Rattle.tftp_packet.specs.{End}
use Rattle.law_model.specs.Model.{Meaning, Deed, Sent, MachinePacket, Req, Data, Ack, Error, History, HasSent, MaySend, windowsize_of, IsView}
use Rattle.law_model.proofs.ModelLemmas.Members.{contains_first, contains_later, contains_cases, contains_none}
use Rattle.law_model.proofs.ModelLemmas.Moments.{earlier_view}
use Rattle.law_model.proofs.ModelLemmas.OneSided.{view_one_sided, error_again}
use Rattle.law_tap.specs.Losses.{Loses, nothing, kept, lost, IsSeenOf}

module _ {X : Type 0} where
  pub loses_none : (xs : List X) → Loses X xs xs
  loses_none [] = nothing
  loses_none (x ∷ xs) = kept x xs xs (loses_none xs)

  pub loses_all : (xs : List X) → Loses X xs []
  loses_all [] = nothing
  loses_all (x ∷ xs) = lost x xs [] (loses_all xs)

  pub loses_more : (a b c : List X) → Loses X a b → Loses X b c → Loses X a c
  loses_more _ b c nothing l = l
  loses_more _ _ _ (kept x all rest k) (kept y rest' end l) = kept x all end (loses_more all rest end k l)
  loses_more _ _ c (kept x all rest k) (lost y rest' end l) = lost x all c (loses_more all rest c k l)
  loses_more _ b c (lost x all rest k) l = lost x all c (loses_more all b c k l)

  pub left_was_there : (all seen : List X) (x : X) → Loses X all seen → Contains seen x → Contains all x
  left_was_there _ _ x nothing at = at
  left_was_there _ _ x (kept y all seen l) at = elim (contains_cases y seen x at) [
    | inl now ↦ subst (λ z. Contains (z ∷ all) x) (sym now) (contains_first x all)
    | inr before ↦ contains_later y all x (left_was_there all seen x l before)
  ]
  left_was_there _ seen x (lost y all seen' l) at = contains_later y all x (left_was_there all seen x l at)

  -- all but one may be missing
  pub one_left : (xs : List X) (x : X) → Contains xs x → Loses X xs (x ∷ [])
  one_left [] x at = absurd (contains_none x at)
  one_left (y ∷ xs) x at = elim (contains_cases y xs x at) [
    | inl now ↦ subst (λ z. Loses X (z ∷ xs) (x ∷ [])) (sym now) (kept x xs [] (loses_all xs))
    | inr before ↦ lost y xs (x ∷ []) (one_left xs x before)
  ]

  -- a list has its beginnings, and each has the shorter ones
  pub longer_begins : (i j : ℕ) (xs : List X) → i ≤ j → Loses X (take j xs) (take i xs)
  longer_begins zero j xs low = loses_all (take j xs)
  longer_begins (suc i) zero xs low = absurd (omega (arith, low))
  longer_begins (suc i) (suc j) [] low = nothing
  longer_begins (suc i) (suc j) (x ∷ xs) low = kept x (take j xs) (take i xs) (longer_begins i j xs (omega (arith, low)))

  pub list_begins : (i : ℕ) (xs : List X) → Loses X xs (take i xs)
  list_begins zero xs = loses_all xs
  list_begins (suc i) [] = nothing
  list_begins (suc i) (x ∷ xs) = kept x xs (take i xs) (list_begins i xs)

module _ (m : Meaning) (wire : List ℕ) (e : End) where
  -- the moment of the newest deed that was seen
  seen_at : (d : Deed) (seen all : History) → Loses Deed all (d ∷ seen) → IsView m wire e all → (before : History) × IsView m wire e (d ∷ before) × Loses Deed before seen
  seen_at d seen _ (kept x all rest l) view = (all, view, l)
  seen_at d seen _ (lost x all rest l) view = seen_at d seen all l (earlier_view m wire e x all view)

  pub last_seen : (d : Deed) (seen : History) → IsSeenOf m wire e (d ∷ seen) → (before : History) × IsView m wire e (d ∷ before) × Loses Deed before seen
  last_seen d seen s = seen_at d seen s.all s.left s.view

  pub was_allowed : (p : MachinePacket) (seen : History) → IsSeenOf m wire e (Sent p ∷ seen) → (before : History) × IsView m wire e before × Loses Deed before seen × MaySend m wire e before p
  was_allowed p seen s =
      let was = last_seen (Sent p) seen s in
      (was.0, earlier_view m wire e (Sent p) was.0 was.1, was.2, (view_one_sided m wire e (Sent p ∷ was.0) was.1).0)

  pub silent : (p : MachinePacket) (seen : History) (code : ℕ) (text : List ℕ) → IsSeenOf m wire e (Sent p ∷ seen) → HasSent seen (Error code text) → p ≡ Error code text
  silent p seen code text s at =
      let was = last_seen (Sent p) seen s in
      error_again m wire e p was.0 code text was.1 (left_was_there was.0 seen (Sent (Error code text)) was.2 at)

  pub goes_on : (k higher : ℕ) (seen : History) → windowsize_of m ≡ 1 → IsSeenOf m wire e (Sent (Data k) ∷ seen) → HasSent seen (Data higher) → higher ≤ k
  goes_on k higher seen lock s at =
      let was = was_allowed (Data k) seen s in
      was.3.in_step lock higher (left_was_there was.0 seen (Sent (Data higher)) was.2 at)

  pub asks_first : (seen : History) → IsSeenOf m wire e (Sent Req ∷ seen) → ((k : ℕ) → HasSent seen (Data k) → ⊥) × ((j : ℕ) → HasSent seen (Ack j) → ⊥)
  asks_first seen s =
      let was = was_allowed Req seen s in
      (λ k at. was.3.no_data k (left_was_there was.0 seen (Sent (Data k)) was.2 at), λ j at. was.3.no_ack j (left_was_there was.0 seen (Sent (Ack j)) was.2 at))
