-- The first ERROR of a transfer: it is one, or there is none.
use Rattle.std.proofs.Common.{◌≡◌, ◌⊎◌, ℕ, List, [], ◌∷◌, inl, inr, refl, sym, ◌∙◌}
use Rattle.tftp_packet.specs.{Message, Spells}
use Rattle.tftp_packet.specs.Hosts.{Datagram, Header}
use Rattle.law_model.specs.Rules.{transfer_of}
use Rattle.law_end.specs.{AbortedBy, OneEnded, by_of, IsErrorBy, NoErrorPassed, FirstError, IsAborted, IsNotAborted}
use Rattle.law_end.proofs.Spelled.{spelled_once}
use Rattle.law_end.proofs.Accord.HighestNumbers.{AllSpelled, transfer_spelled}

-- ---- one at most

error_once : (d : Datagram) (by other : AbortedBy) (code number : ℕ) → IsErrorBy d by code → IsErrorBy d other number → (by ≡ other) × (code ≡ number)
error_once d by other code number (who, text, s) (whose, words, t) = (sym who ∙ whose, let is = spelled_once d.payload (Message.Error code text) (Message.Error number words) s t in cc)

pub none_first : (passed : List Datagram) → NoErrorPassed passed → (by : AbortedBy) (code : ℕ) → FirstError passed by code → ⊥
none_first [] none by code first = first
none_first (d ∷ passed) none by code first = elim first [ inl before ↦ none_first passed none.1 by code before | inr now ↦ none.0 by code now.1 ]

pub one_first : (passed : List Datagram) (by other : AbortedBy) (code number : ℕ) → FirstError passed by code → FirstError passed other number → (by ≡ other) × (code ≡ number)
one_first [] by other code number first second = absurd first
one_first (d ∷ passed) by other code number first second = elim first [
  | inl before ↦ elim second [ inl too ↦ one_first passed by other code number before too | inr now ↦ absurd (none_first passed now.0 by code before) ]
  | inr now ↦ elim second [ inl before ↦ absurd (none_first passed now.0 other number before) | inr too ↦ error_once d by other code number now.1 too.1 ]
]

-- ---- or none

is_error_by : (d : Datagram) (m : Message) → Spells d.payload m → ((by : AbortedBy) × (code : ℕ) × IsErrorBy d by code) ⊎ ((by : AbortedBy) (code : ℕ) → IsErrorBy d by code → ⊥)
is_error_by d (Message.Error code text) s = inl (by_of d.dir, code, (refl, text, s))
is_error_by d (Message.Request asked) s = inr (λ by code e. let is = spelled_once d.payload (Message.Request asked) (Message.Error code e.1) s e.2 in cc)
is_error_by d (Message.Oack options) s = inr (λ by code e. let is = spelled_once d.payload (Message.Oack options) (Message.Error code e.1) s e.2 in cc)
is_error_by d (Message.Data k bytes) s = inr (λ by code e. let is = spelled_once d.payload (Message.Data k bytes) (Message.Error code e.1) s e.2 in cc)
is_error_by d (Message.Ack j) s = inr (λ by code e. let is = spelled_once d.payload (Message.Ack j) (Message.Error code e.1) s e.2 in cc)

first_or_none : (passed : List Datagram) → AllSpelled passed → ((by : AbortedBy) × (code : ℕ) × FirstError passed by code) ⊎ NoErrorPassed passed
first_or_none [] all = inr tt
first_or_none (d ∷ passed) all = elim (first_or_none passed all.1) [
  | inl before ↦ inl (before.0, before.1, inl before.2)
  | inr none ↦ elim (is_error_by d all.0.0 all.0.1) [ inl now ↦ inl (now.0, now.1, inr (none, now.2)) | inr other ↦ inr (other, none) ]
]

pub aborted_or_not : (h : Header) (earlier : List Datagram) → OneEnded h earlier → ((by : AbortedBy) × (code : ℕ) × IsAborted h earlier by code) ⊎ IsNotAborted h earlier
aborted_or_not h earlier lawful = first_or_none (transfer_of h earlier) (transfer_spelled h earlier lawful)
