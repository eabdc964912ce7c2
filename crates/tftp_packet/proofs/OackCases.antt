-- What the bytes of an OACK's body say of the whole payload, case by case.
use Rattle.std.proofs.Common.{◌≡◌, ◌≢◌, inl, inr, ℕ, ◌%◌, List, [], ◌∷◌, length, refl, sym, ap, subst, ◌∙◌, arith}
use Rattle.tftp_packet.specs.{AreStrings, strings, pair_strings, AreNamed, OptionFault, PacketFault, Short, Opcode, AckLength, NoTerminator, OddOptions, EmptyOptionName, DuplicateOption, UnknownMode, MailMode, RequestTooLong, Holds, FirstFault, IsRequest, HasOptionStrings, EndsWithZero, opcode_of}
use Rattle.tftp_packet.proofs.FaultOrder.{first_fault}
use Rattle.tftp_packet.proofs.Strings.{strings_injective, strings_end}
use Rattle.tftp_packet.proofs.PairStrings.{pair_strings_injective, not_odd, none_of_all}

not_short : (body : List ℕ) → Holds Short (0 ∷ 6 ∷ body) → ⊥
not_short body (inl short) = omega arith
not_short body (inr (inl op, short)) = omega arith
not_short body (inr (inr op, short)) = omega arith

not_opcode : (body : List ℕ) → Holds Opcode (0 ∷ 6 ∷ body) → ⊥
not_opcode body (inl op) = omega arith
not_opcode body (inr op) = omega arith

not_ack : (body : List ℕ) → Holds AckLength (0 ∷ 6 ∷ body) → ⊥
not_ack body (op, long) = omega arith

no_request : (body other : List ℕ) → IsRequest (0 ∷ 6 ∷ body) other → ⊥
no_request body other (inl e) = let six = ap opcode_of e in omega arith
no_request body other (inr e) = let six = ap opcode_of e in omega arith

all_end : (all : List (List ℕ)) → strings all ≢ [] → EndsWithZero (strings all)
all_end [] some = absurd (some refl)
all_end (s ∷ all) some = strings_end s all

not_unended : (all : List (List ℕ)) → Holds NoTerminator (0 ∷ 6 ∷ strings all) → ⊥
not_unended all (inl (body, begins, why)) = no_request _ _ begins
not_unended all (inr (inl (body, oack, some, never))) = let same : strings all ≡ body = cc in never (subst EndsWithZero same (all_end all (λ none. some (sym same ∙ none))))
not_unended all (inr (inr (x, y, text, error, never))) = let five = ap opcode_of error in omega arith

same_options : (all other : List (List ℕ)) → AreStrings all → HasOptionStrings (0 ∷ 6 ∷ strings all) other → other ≡ all
same_options all other strung (inl (name, mode_text, is)) = absurd (no_request _ _ is.0)
same_options all other strung (inr (e, q)) = let same : strings other ≡ strings all = cc in strings_injective other all q strung same

-- the first fault of the options is that of the payload
pub oack_fault : (body : List ℕ) (f : PacketFault) → OptionFault body f → FirstFault (0 ∷ 6 ∷ body) f
oack_fault body NoTerminator (some, never) = first_fault (0 ∷ 6 ∷ body) NoTerminator (inr (inl (body, refl, some, never))) (not_short body) (not_opcode body) (not_ack body)
oack_fault body OddOptions (all, is, strung, odd) = subst (λ b. FirstFault (0 ∷ 6 ∷ b) OddOptions) (sym is)
    (first_fault (0 ∷ 6 ∷ strings all) OddOptions (all, inr (refl, strung), odd) (not_short (strings all)) (not_opcode (strings all)) (not_ack (strings all)) (not_unended all))
oack_fault body EmptyOptionName (pairs, is, strung, empty) =
    let all = pair_strings pairs in
    subst (λ b. FirstFault (0 ∷ 6 ∷ b) EmptyOptionName) (sym is)
    (first_fault (0 ∷ 6 ∷ strings all) EmptyOptionName (pairs, inr (refl, strung), empty) (not_short (strings all)) (not_opcode (strings all)) (not_ack (strings all)) (not_unended all)
    (λ (other, has, odd). not_odd pairs (ap (λ o. length o % 2) (sym (same_options all other strung has)) ∙ odd)))
oack_fault body DuplicateOption (pairs, is, strung, named, repeat) =
    let all = pair_strings pairs in
    subst (λ b. FirstFault (0 ∷ 6 ∷ b) DuplicateOption) (sym is)
    (first_fault (0 ∷ 6 ∷ strings all) DuplicateOption (pairs, inr (refl, strung), repeat) (not_short (strings all)) (not_opcode (strings all)) (not_ack (strings all)) (not_unended all)
    (λ (other, has, odd). not_odd pairs (ap (λ o. length o % 2) (sym (same_options all other strung has)) ∙ odd))
    (λ (other, has, empty). none_of_all (λ pair. pair.0 ≡ []) other (subst AreNamed (sym (pair_strings_injective other pairs (same_options all (pair_strings other) strung has))) named) empty))
oack_fault body Short is = elim is [ ]
oack_fault body Opcode is = elim is [ ]
oack_fault body AckLength is = elim is [ ]
oack_fault body UnknownMode is = elim is [ ]
oack_fault body MailMode is = elim is [ ]
oack_fault body RequestTooLong is = elim is [ ]
