-- What the worked pairs say.
use Rattle.std.proofs.Common.{◌≡◌, ℕ, ◌<◌, nat_lt, nat_eq, true, List, [], ◌∷◌, inl, inr, refl, sym, ap}
use Rattle.std.proofs.lemmas.Bool.{and_parts, ltb-true, false≢true}
use Rattle.std.specs.List.{AllByRecursion, list_all}
use Rattle.tftp_packet.specs.{Message, IsPlace, Spells}
use Rattle.tftp_packet.proofs.Unique.{one_message}
use Rattle.tftp_packet.specs.{Out}
use Rattle.law_model.specs.Rules.{Passed}
use Rattle.tftp_packet.proofs.HostsLemmas.Ways.{in_not_out}
use Rattle.law_pair.specs.{block_of, acknowledged, at_the_server}

bytes_are : (xs : List ℕ) → list_all (λ b. nat_lt b 256) xs ≡ true → AllByRecursion (λ b. b < 256) xs
bytes_are [] e = tt
bytes_are (x ∷ xs) e = let parts = and_parts (nat_lt x 256) (list_all (λ b. nat_lt b 256) xs) e in (ltb-true x 256 parts.0, bytes_are xs parts.1)

one_is : IsPlace 0 1 1
one_is = (ltb-true 1 256 refl, refl)

pub sent_block : Spells (block_of 105) (Message.Data 1 (104 ∷ 105 ∷ []))
sent_block = let bytes = bytes_are (block_of 105) refl in ((bytes.0, (bytes.1.0, bytes.1.1.1)), (0, 1, one_is, refl))

pub other_block : Spells (block_of 106) (Message.Data 1 (104 ∷ 106 ∷ []))
other_block = let bytes = bytes_are (block_of 106) refl in ((bytes.0, (bytes.1.0, bytes.1.1.1)), (0, 1, one_is, refl))

pub an_ack : Spells acknowledged (Message.Ack 1)
an_ack = let bytes = bytes_are acknowledged refl in ((bytes.0, (bytes.1.0, bytes.1.1.1)), (0, 1, one_is, refl))

-- What came in as DATA 1 with another last byte was not sent: a payload has the bytes of one block.
last_byte : Message → ℕ
last_byte (Message.Data k (x ∷ y ∷ bytes)) = y
last_byte m = 0

pub not_sent : Passed Out (Message.Data 1 (104 ∷ 106 ∷ [])) (at_the_server 105) → ⊥
unfolding last_byte
not_sent passed = elim passed [
  | inl ack_in ↦ in_not_out ack_in.0
  | inr before ↦ elim before [
    | inl sent ↦ let same = ap last_byte (one_message (block_of 105) (Message.Data 1 (104 ∷ 106 ∷ [])) (Message.Data 1 (104 ∷ 105 ∷ [])) sent.1.1 sent_block.1) in false≢true (ap (λ n. nat_eq n 106) (sym same))
    | inr none ↦ none
  ]
]
