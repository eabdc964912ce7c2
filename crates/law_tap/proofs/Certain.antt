-- Which datagrams are certain, whatever is missing.
use Rattle.std.proofs.Common.{◌≡◌, ℕ, zero, suc, ◌+◌, ◌<◌, ◌≤◌, List, [], take, length, inl, inr, subst, arith, take_all}
use Rattle.std.proofs.lemmas.Bool.{cases_lt}
use Rattle.tftp_packet.specs.Hosts.{Datagram, Header}
use Rattle.law_end.specs.{IsLawful, IsLawfulUpTo}
use Rattle.law_end.proofs.Whole.Beginnings.{empty_is_lawful}
use Rattle.law_tap.specs.Losses.{Loses, IsLawfulWithLosses, IsCertain, IsFirstCertain}
use Rattle.law_tap.proofs.Left.{loses_none, loses_more, longer_begins, list_begins}

pub lawful_lossy : (header : Header) (datagrams : List Datagram) → IsLawful header datagrams → IsLawfulWithLosses header datagrams
lawful_lossy header datagrams lawful = record { all = datagrams; lawful = lawful; left = loses_none datagrams }

pub less_lossy : (header : Header) (datagrams rest : List Datagram) → Loses Datagram datagrams rest → IsLawfulWithLosses header datagrams → IsLawfulWithLosses header rest
less_lossy header datagrams rest l lossy = record { all = lossy.all; lawful = lossy.lawful; left = loses_more lossy.all datagrams rest lossy.left l }

module _ (header : Header) where
  pub stays : (all datagrams : List Datagram) (i j : ℕ) → IsCertain header datagrams i → j < length all → Loses Datagram (take (j + 1) all) (take (i + 1) datagrams) → IsCertain header all j
  stays all datagrams i j certain within l = record {
    within = within;
    unlawful = λ lossy. certain.unlawful (less_lossy header (take (j + 1) all) (take (i + 1) datagrams) l lossy);
  }

  pub later : (datagrams : List Datagram) (i j : ℕ) → IsCertain header datagrams i → i ≤ j → j < length datagrams → IsCertain header datagrams j
  later datagrams i j certain low within = stays datagrams datagrams i j certain within (longer_begins (i + 1) (j + 1) datagrams (omega (arith, low)))

  pub none_certain : (datagrams : List Datagram) (i : ℕ) → IsLawfulWithLosses header datagrams → IsCertain header datagrams i → ⊥
  none_certain datagrams i lossy certain = certain.unlawful (less_lossy header datagrams (take (i + 1) datagrams) (list_begins (i + 1) datagrams) lossy)

  -- a list that begins with what is certain is not lawful with losses
  begins_certain : (datagrams : List Datagram) (i j : ℕ) → IsCertain header datagrams i → i < j → IsLawfulWithLosses header (take j datagrams) → ⊥
  begins_certain datagrams i j certain low lossy = certain.unlawful (less_lossy header (take j datagrams) (take (i + 1) datagrams) (longer_begins (i + 1) j datagrams (omega (arith, low))) lossy)

  pub one_first : (datagrams : List Datagram) (i j : ℕ) → IsFirstCertain header datagrams i → IsFirstCertain header datagrams j → i ≡ j
  one_first datagrams i j one other = elim (cases_lt i j) [
    | inl low ↦ absurd (begins_certain datagrams i j one.certain low other.lawful)
    | inr high ↦ elim (cases_lt j i) [ inl low ↦ absurd (begins_certain datagrams j i other.certain low one.lawful) | inr same ↦ omega (arith, high, same) ]
  ]

  -- where no datagram is the first certain one, each beginning is lawful with losses, as far as can be said
  none_before : (datagrams : List Datagram) → ((i : ℕ) → IsFirstCertain header datagrams i → ⊥) → (n : ℕ) → n ≤ length datagrams → (IsLawfulWithLosses header (take n datagrams) → ⊥) → ⊥
  none_before datagrams none zero within unlawful = unlawful (lawful_lossy header [] (empty_is_lawful header))
  none_before datagrams none (suc n) within unlawful =
      let next : suc n ≡ n + 1 = omega arith in
      none_before datagrams none n (omega (arith, within)) (λ lossy. none n (record {
        certain = record { within = omega (arith, within); unlawful = subst (λ k. IsLawfulWithLosses header (take k datagrams) → ⊥) next unlawful };
        lawful = lossy;
      }))

  pub some_first : (datagrams : List Datagram) → (IsLawfulWithLosses header datagrams → ⊥) → ((i : ℕ) → IsFirstCertain header datagrams i → ⊥) → ⊥
  some_first datagrams unlawful none = none_before datagrams none (length datagrams) (omega arith) (λ lossy. unlawful (subst (IsLawfulWithLosses header) (take_all (length datagrams) datagrams (omega arith)) lossy))

  pub not_before_refusal : (datagrams : List Datagram) (i j : ℕ) → IsCertain header datagrams i → IsLawfulUpTo header datagrams j → j ≤ i
  not_before_refusal datagrams i j certain refused = elim (cases_lt i j) [
    | inl low ↦ absurd (begins_certain datagrams i j certain low (lawful_lossy header (take j datagrams) refused.lawful))
    | inr high ↦ omega (arith, high)
  ]
