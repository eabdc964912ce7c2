-- A list with what is put in at some places: which of it was recorded, and how many more there are.
use Rattle.std.proofs.Common.{◌≡◌, ◌+◌, List, [], ◌∷◌, ◌++◌, length, reverse, refl, sym, ap, subst, arith, length-append}
use Rattle.std.proofs.lemmas.List.{length-reverse, reverse-append, reverse-reverse}
use Rattle.tftp_packet.specs.Hosts.{Datagram, Header}
use Rattle.tftp_packet.specs.{Dir, In, Out}
use Rattle.law_tap.specs.{IsLawfulWithLosses, Loses, kept, lost, nothing}
use Rattle.judge_losses.specs.Places.{AreMissing, Fills, going, missing, missing_at, none, one_if_same, whole}
use Rattle.judge_losses.specs.declared.place.Place.{Place}

module _ {X : Type 0} where
  -- all that is put in in front may be lost
  loses_front : (put all seen : List X) → Loses X all seen → Loses X (put ++ all) seen
  loses_front [] all seen l = l
  loses_front (x ∷ put) all seen l = lost x (put ++ all) seen (loses_front put all seen l)

  keeps_last : (all seen : List X) (x : X) → Loses X all seen → Loses X (all ++ x ∷ []) (seen ++ x ∷ [])
  keeps_last _ _ x nothing = kept x [] [] nothing
  keeps_last _ _ x (kept y all seen l) = kept y (all ++ x ∷ []) (seen ++ x ∷ []) (keeps_last all seen x l)
  keeps_last _ _ x (lost y all seen l) = lost y (all ++ x ∷ []) (seen ++ x ∷ []) (keeps_last all seen x l)

  loses_last : (all seen : List X) (x : X) → Loses X all seen → Loses X (all ++ x ∷ []) seen
  loses_last _ _ x nothing = lost x [] [] nothing
  loses_last _ _ x (kept y all seen l) = kept y (all ++ x ∷ []) seen (loses_last all seen x l)
  loses_last _ _ x (lost y all seen l) = lost y (all ++ x ∷ []) seen (loses_last all seen x l)

  newest_last : (x : X) (xs : List X) → reverse (x ∷ xs) ≡ reverse xs ++ x ∷ []
  newest_last x xs = reverse-append (x ∷ []) xs

  -- the same from the other end
  loses_reverse : (all seen : List X) → Loses X all seen → Loses X (reverse all) (reverse seen)
  loses_reverse _ _ nothing = nothing
  loses_reverse _ _ (kept x all seen l) =
      subst (λ xs. Loses X xs (reverse (x ∷ seen))) (sym (newest_last x all))
      (subst (λ xs. Loses X (reverse all ++ x ∷ []) xs) (sym (newest_last x seen)) (keeps_last (reverse all) (reverse seen) x (loses_reverse all seen l)))
  loses_reverse _ seen (lost x all _ l) =
      subst (λ xs. Loses X xs (reverse seen)) (sym (newest_last x all)) (loses_last (reverse all) (reverse seen) x (loses_reverse all seen l))

-- what was recorded is what is left
left_of : (places : List Place) (all recorded : List Datagram) → Fills places all recorded → Loses Datagram all recorded
left_of _ _ _ none = nothing
left_of _ _ _ (whole d places all recorded f) = kept d all recorded (left_of places all recorded f)
left_of _ _ _ (missing d put place places all recorded f at) = kept d (put ++ all) recorded (loses_front put all recorded (left_of places all recorded f))

pub lossy_lawful : (h : Header) (places : List Place) (recorded : List Datagram) → AreMissing h places recorded → IsLawfulWithLosses h recorded
lossy_lawful h places recorded x = record {
  all = x.all;
  lawful = x.lawful;
  left = subst (λ ds. Loses Datagram ds recorded) (reverse-reverse x.all) (subst (λ ds. Loses Datagram (reverse (reverse x.all)) ds) (reverse-reverse recorded)
      (loses_reverse (reverse x.all) (reverse recorded) (left_of (reverse places) (reverse x.all) (reverse recorded) x.filled)));
}

-- ---- how many

-- each goes one way
pub one_way : (way : Dir) → one_if_same In way + one_if_same Out way ≡ 1
one_way In = refl
one_way Out = refl

pub both_ways : (put : List Datagram) → going In put + going Out put ≡ length put
both_ways [] = refl
both_ways (d ∷ put) = let rest = both_ways put in let one = one_way d.dir in omega (arith, rest, one)

counted : (places : List Place) (all recorded : List Datagram) → Fills places all recorded → length all ≡ length recorded + missing_at places
counted _ _ _ none = refl
counted _ _ _ (whole d places all recorded f) = let rest = counted places all recorded f in omega (arith, rest)
counted _ _ _ (missing d put place places all recorded f at) =
    let rest = counted places all recorded f in
    let both = both_ways put in
    omega (arith, rest, both, at.came, at.sent, length-append put all)

-- the order of the places counts for nothing
missing_joined : (one other : List Place) → missing_at (one ++ other) ≡ missing_at one + missing_at other
missing_joined [] other = omega arith
missing_joined (place ∷ one) other = let rest = missing_joined one other in omega (arith, rest)

missing_reversed : (places : List Place) → missing_at (reverse places) ≡ missing_at places
missing_reversed [] = refl
missing_reversed (place ∷ places) =
    let rest = missing_reversed places in
    let joined = missing_joined (reverse places) (place ∷ []) in
    let is = ap missing_at (newest_last place places) in
    omega (arith, rest, joined, is)

pub all_counted : (h : Header) (places : List Place) (recorded : List Datagram) (x : AreMissing h places recorded) → length x.all ≡ length recorded + missing_at places
all_counted h places recorded x =
    let is = counted (reverse places) (reverse x.all) (reverse recorded) x.filled in
    omega (arith, is, length-reverse x.all, length-reverse recorded, missing_reversed places)
