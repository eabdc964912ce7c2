-- What the datagrams of a text are taken for, the newest first, as a judge is given them.
use Rattle.std.proofs.Common.{◌≡◌, List, [], ◌∷◌, ◌++◌, length, Option, Some, None, reverse, refl, sym, subst, ap, ◌∙◌, arith}
use Rattle.std.proofs.lemmas.List.{reverse-append, reverse-reverse}
use Rattle.tftp_packet.specs.Hosts.{Datagram, Header}
use Rattle.tftp_packet.specs.{Rollover}
use Rattle.law_model.specs.Rules.{transfer_of}
use Rattle.law_end.specs.{IsLawful}
use Rattle.law_end.proofs.Whole.Beginnings.{beginning_is_lawful}
use Rattle.law_rollover.specs.{AreUnrolled, IsTaken, with_payload}
use Rattle.law_rollover.proofs.OneWay.{in_one_way}
use Rattle.tftp_judge.specs.{HoldsBy, header_by}
use Rattle.tftp_judge.proofs.Taken.{as_unrolled}

abbrev pub AreTaken : Option Rollover → Header → List Datagram → List Datagram → Type 0
AreTaken None h ds taken = taken ≡ ds
AreTaken (Some r) h ds taken = AreUnrolled r (header_by (Some r) h) ds taken

pub none_taken : (rollover : Option Rollover) (h : Header) → AreTaken rollover h [] []
none_taken None h = refl
none_taken (Some r) h = tt

-- without a rollover a datagram is taken as it is
pub itself_taken : (passed : List Datagram) (d now : Datagram) → IsTaken None passed d now → now ≡ d
itself_taken passed d now (same, is) = same ∙ ap (with_payload d) is

pub next_taken : (rollover : Option Rollover) (h : Header) (ds taken : List Datagram) (d now : Datagram) → AreTaken rollover h ds taken
    → IsTaken rollover (transfer_of (header_by rollover h) taken) d now → AreTaken rollover h (d ∷ ds) (now ∷ taken)
next_taken None h ds taken d now are is = ap (λ us. now ∷ us) are ∙ ap (λ u. u ∷ ds) (itself_taken taken d now is)
next_taken (Some r) h ds taken d now are is = (as_unrolled r (transfer_of (header_by (Some r) h) taken) d now is, are)

pub one_taken : (rollover : Option Rollover) (h : Header) (ds one other : List Datagram) → AreTaken rollover h ds one → AreTaken rollover h ds other → one ≡ other
one_taken None h ds one other a b = a ∙ sym b
one_taken (Some r) h ds one other a b = in_one_way r (header_by (Some r) h) ds one other a b

pub taken_length : (rollover : Option Rollover) (h : Header) (ds taken : List Datagram) → AreTaken rollover h ds taken → length taken ≡ length ds
taken_length None h ds taken are = ap length are
taken_length (Some r) h [] [] are = refl
taken_length (Some r) h [] (x ∷ taken) are = absurd are
taken_length (Some r) h (d ∷ ds) [] are = absurd are
taken_length (Some r) h (d ∷ ds) (x ∷ taken) are = let rest = taken_length (Some r) h ds taken are.1 in omega (arith, rest)

-- what the first ones are taken for is the first of what all are
pub front_taken : (rollover : Option Rollover) (h : Header) (later ds taken : List Datagram) → AreTaken rollover h (later ++ ds) taken
    → (more rest : List Datagram) × (taken ≡ more ++ rest) × AreTaken rollover h ds rest
front_taken None h later ds taken are = (later, ds, are, refl)
front_taken (Some r) h [] ds taken are = ([], taken, refl, are)
front_taken (Some r) h (d ∷ later) ds [] are = absurd are
front_taken (Some r) h (d ∷ later) ds (x ∷ taken) are = let (more, rest, is, front) = front_taken (Some r) h later ds taken are.1 in (x ∷ more, rest, ap (λ us. x ∷ us) is, front)

module _ (rollover : Option Rollover) (Holds : Header → List Datagram → Type 0) (h : Header) (ds : List Datagram) where
  pub holds_of : (taken : List Datagram) → AreTaken rollover h (reverse ds) taken → Holds (header_by rollover h) (reverse taken) → HoldsBy rollover Holds h ds
  holds_of taken are holds = by rollover are holds where
    by : (r : Option Rollover) → AreTaken r h (reverse ds) taken → Holds (header_by r h) (reverse taken) → HoldsBy r Holds h ds
    by None same has = subst (Holds h) (ap reverse same ∙ reverse-reverse ds) has
    by (Some r) unrolled has = (reverse taken, subst (AreUnrolled r (header_by (Some r) h) (reverse ds)) (sym (reverse-reverse taken)) unrolled, has)

  pub of_held : HoldsBy rollover Holds h ds → (taken : List Datagram) × AreTaken rollover h (reverse ds) taken × Holds (header_by rollover h) (reverse taken)
  of_held holds = by rollover holds where
    by : (r : Option Rollover) → HoldsBy r Holds h ds → (taken : List Datagram) × AreTaken r h (reverse ds) taken × Holds (header_by r h) (reverse taken)
    by None has = (reverse ds, refl, subst (Holds h) (sym (reverse-reverse ds)) has)
    by (Some r) (taken, are, has) = (reverse taken, are, subst (Holds (header_by (Some r) h)) (sym (reverse-reverse taken)) has)

-- what follows from it holds too
pub holds_also : (rollover : Option Rollover) (One Other : Header → List Datagram → Type 0) (h : Header) (ds : List Datagram) → ((k : Header) (taken : List Datagram) → One k taken → Other k taken)
    → HoldsBy rollover One h ds → HoldsBy rollover Other h ds
holds_also None One Other h ds so holds = so h ds holds
holds_also (Some r) One Other h ds so (taken, are, holds) = (taken, are, so (header_by (Some r) h) taken holds)

-- the datagrams that come first of lawful ones are lawful
pub first_lawful : (rollover : Option Rollover) (h : Header) (ds more : List Datagram) → HoldsBy rollover IsLawful h (ds ++ more) → HoldsBy rollover IsLawful h ds
first_lawful rollover h ds more lawful =
    let (taken, are, has) = of_held rollover IsLawful h (ds ++ more) lawful in
    let (later, rest, is, front) = front_taken rollover h (reverse more) (reverse ds) taken (subst (λ us. AreTaken rollover h us taken) (reverse-append ds more) are) in
    holds_of rollover IsLawful h ds rest front (beginning_is_lawful (header_by rollover h) (reverse rest) (reverse later) (subst (IsLawful (header_by rollover h)) (ap reverse is ∙ reverse-append later rest) has))
