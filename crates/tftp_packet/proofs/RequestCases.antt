-- What the bytes of a request's body say of the whole payload, case by case.
use Rattle.std.proofs.Common.{◌≡◌, ◌≢◌, ◌⊎◌, inl, inr, ℕ, ◌<◌, List, [], ◌∷◌, ◌++◌, length, refl, sym, ap, subst, ◌∙◌, append_assoc, arith, codes}
use Rattle.tftp_packet.specs.{lower, IsString, AreStrings, terminated, strings, Pair, pair_strings, AreNamed, AreApart, mode_name, OptionFault, Mode, Octet, Netascii, PacketFault, Short, Opcode, AckLength, NoTerminator, OddOptions, EmptyOptionName, DuplicateOption, UnknownMode, MailMode, RequestTooLong, FirstFault, EndsWithZero, ModeFault}
use Rattle.tftp_packet.proofs.FaultOrder.{first_fault}
use Rattle.tftp_packet.proofs.Strings.{string_has_no_zero, end_after, strings_end}
use Rattle.tftp_packet.proofs.Requests.{not_short, not_opcode, not_ack, begins, same_mode, not_unended, unended, paired, all_named, all_apart}

one_string_why : (name rest body : List ℕ) → IsString name → IsString rest → body ≡ name ++ 0 ∷ rest → (EndsWithZero body → ⊥) ⊎ ((only : List ℕ) × IsString only × (body ≡ terminated only))
one_string_why name [] body p q e = inr (name, p, e)
one_string_why name (b ∷ rest) body p q e = inl (λ ends. elim (end_after (terminated name) (b ∷ rest) ends.0 (append_assoc name (0 ∷ []) (b ∷ rest) ∙ sym e ∙ ends.1)) [
  | inl none ↦ absurd (let f : ⊥ = cc in f)
  | inr again ↦ string_has_no_zero (b ∷ rest) again.0 [] q again.1
])

mail_apart : (mode : Mode) → codes "mail" ≡ mode_name mode → ⊥
mail_apart Octet e = let f : ⊥ = cc in f
mail_apart Netascii e = let f : ⊥ = cc in f

known_mode : (mode : Mode) (text : List ℕ) → text ≡ mode_name mode → text ≢ codes "octet" → text ≢ codes "netascii" → ⊥
known_mode Octet text e octet netascii = octet e
known_mode Netascii text e octet netascii = netascii e

module _ (k : ℕ) (request : (k ≡ 1) ⊎ (k ≡ 2)) where
  -- the first string has no end
  pub no_string : (body : List ℕ) → IsString body → FirstFault (0 ∷ k ∷ body) NoTerminator
  no_string body string = first_fault _ NoTerminator (unended k request body (inl (λ ends. string_has_no_zero body ends.0 [] string ends.1)))
      (not_short k request body) (not_opcode k request body) (not_ack k request body)

  -- the second string has no end, or is not there
  pub one_string : (name rest body : List ℕ) → IsString name → IsString rest → body ≡ name ++ 0 ∷ rest → FirstFault (0 ∷ k ∷ body) NoTerminator
  one_string name rest body p q e = first_fault _ NoTerminator (unended k request body (one_string_why name rest body p q e))
      (not_short k request body) (not_opcode k request body) (not_ack k request body)

  -- a body that begins with two strings
  module _ (name mode_text rest body : List ℕ) (p : IsString name) (q : IsString mode_text) (e : body ≡ name ++ 0 ∷ (mode_text ++ 0 ∷ rest)) where
    pub body_of : (more : List (List ℕ)) → rest ≡ strings more → body ≡ strings (name ∷ mode_text ∷ more)
    body_of more is = e ∙ sym (append_assoc name (0 ∷ []) _) ∙ ap (λ x. terminated name ++ x) (sym (append_assoc mode_text (0 ∷ []) rest) ∙ ap (λ x. terminated mode_text ++ x) is)

    open_body : rest ≢ [] → (EndsWithZero rest → ⊥) → EndsWithZero body → ⊥
    open_body some never ends = elim (end_after (terminated name ++ terminated mode_text) rest ends.0 (append_assoc (terminated name) (terminated mode_text) rest ∙ sym body_as ∙ ends.1)) [
      | inl none ↦ some none
      | inr again ↦ never again
    ]
      where
        body_as : body ≡ terminated name ++ (terminated mode_text ++ rest)
        body_as = e ∙ sym (append_assoc name (0 ∷ []) _) ∙ ap (λ x. terminated name ++ x) (sym (append_assoc mode_text (0 ∷ []) rest))

    -- the first fault of the options is that of the payload
    pub options_fault : (f : PacketFault) → OptionFault rest f → FirstFault (0 ∷ k ∷ body) f
    options_fault NoTerminator (some, never) = first_fault _ NoTerminator (unended k request body (inl (open_body some never)))
        (not_short k request body) (not_opcode k request body) (not_ack k request body)
    options_fault OddOptions (all, is, strung, odd) =
        let whole = name ∷ mode_text ∷ all in
        subst (λ b. FirstFault (0 ∷ k ∷ b) OddOptions) (sym (body_of all is))
        (first_fault (0 ∷ k ∷ strings whole) OddOptions (all, inl (name, mode_text, (begins k request (strings whole), (p, (q, strung)))), odd)
        (not_short k request (strings whole)) (not_opcode k request (strings whole)) (not_ack k request (strings whole))
        (not_unended k request name mode_text all (p, (q, strung)) (strings_end name (mode_text ∷ all))))
    options_fault EmptyOptionName (pairs, is, strung, empty) =
        let whole = name ∷ mode_text ∷ pair_strings pairs in
        subst (λ b. FirstFault (0 ∷ k ∷ b) EmptyOptionName) (sym (body_of (pair_strings pairs) is))
        (first_fault (0 ∷ k ∷ strings whole) EmptyOptionName (pairs, inl (name, mode_text, (begins k request (strings whole), (p, (q, strung)))), empty)
        (not_short k request (strings whole)) (not_opcode k request (strings whole)) (not_ack k request (strings whole))
        (not_unended k request name mode_text (pair_strings pairs) (p, (q, strung)) (strings_end name (mode_text ∷ pair_strings pairs)))
        (paired k request name mode_text pairs (p, (q, strung))))
    options_fault DuplicateOption (pairs, is, strung, named, repeat) =
        let whole = name ∷ mode_text ∷ pair_strings pairs in
        subst (λ b. FirstFault (0 ∷ k ∷ b) DuplicateOption) (sym (body_of (pair_strings pairs) is))
        (first_fault (0 ∷ k ∷ strings whole) DuplicateOption (pairs, inl (name, mode_text, (begins k request (strings whole), (p, (q, strung)))), repeat)
        (not_short k request (strings whole)) (not_opcode k request (strings whole)) (not_ack k request (strings whole))
        (not_unended k request name mode_text (pair_strings pairs) (p, (q, strung)) (strings_end name (mode_text ∷ pair_strings pairs)))
        (paired k request name mode_text pairs (p, (q, strung))) (all_named k request name mode_text pairs (p, (q, strung)) named))
    options_fault Short is = elim is [ ]
    options_fault Opcode is = elim is [ ]
    options_fault AckLength is = elim is [ ]
    options_fault UnknownMode is = elim is [ ]
    options_fault MailMode is = elim is [ ]
    options_fault RequestTooLong is = elim is [ ]

    -- with options that have no fault
    module _ (pairs : List Pair) (is : rest ≡ strings (pair_strings pairs)) (strung : AreStrings (pair_strings pairs)) (named : AreNamed pairs) (apart : AreApart pairs) where
      whole : List (List ℕ)
      whole = name ∷ mode_text ∷ pair_strings pairs

      all_strung : AreStrings (name ∷ mode_text ∷ pair_strings pairs)
      all_strung = (p, (q, strung))

      -- the fault of its mode is the payload's first
      pub mode_fault : (f : PacketFault) → ModeFault (lower mode_text) f → FirstFault (0 ∷ k ∷ body) f
      unfolding whole
      mode_fault MailMode mail = subst (λ b. FirstFault (0 ∷ k ∷ b) MailMode) (sym (body_of (pair_strings pairs) is))
          (first_fault (0 ∷ k ∷ strings whole) MailMode (mode_text, (name, pair_strings pairs, (begins k request (strings whole), all_strung)), mail)
          (not_short k request (strings whole)) (not_opcode k request (strings whole)) (not_ack k request (strings whole))
          (not_unended k request name mode_text (pair_strings pairs) all_strung (strings_end name (mode_text ∷ pair_strings pairs)))
          (paired k request name mode_text pairs all_strung) (all_named k request name mode_text pairs all_strung named) (all_apart k request name mode_text pairs all_strung apart)
          (λ (m, has, octet, netascii, other). other (ap lower (same_mode k request name mode_text (pair_strings pairs) all_strung m has) ∙ mail)))
      mode_fault UnknownMode unknown = subst (λ b. FirstFault (0 ∷ k ∷ b) UnknownMode) (sym (body_of (pair_strings pairs) is))
          (first_fault (0 ∷ k ∷ strings whole) UnknownMode (mode_text, (name, pair_strings pairs, (begins k request (strings whole), all_strung)), unknown.0, unknown.1, unknown.2)
          (not_short k request (strings whole)) (not_opcode k request (strings whole)) (not_ack k request (strings whole))
          (not_unended k request name mode_text (pair_strings pairs) all_strung (strings_end name (mode_text ∷ pair_strings pairs)))
          (paired k request name mode_text pairs all_strung) (all_named k request name mode_text pairs all_strung named) (all_apart k request name mode_text pairs all_strung apart))
      mode_fault _ none = elim none [ ]

      -- with a mode that is known
      pub too_long : (mode : Mode) → lower mode_text ≡ mode_name mode → pairs ≢ [] → 510 < length body → FirstFault (0 ∷ k ∷ body) RequestTooLong
      unfolding whole
      too_long mode known some long = subst (λ b. FirstFault (0 ∷ k ∷ b) RequestTooLong) (sym (body_of (pair_strings pairs) is))
          (first_fault (0 ∷ k ∷ strings whole) RequestTooLong (name, mode_text, pair_strings pairs, (begins k request (strings whole), all_strung), (λ none. some (nothing pairs none)), (let same = ap length (body_of (pair_strings pairs) is) in omega arith))
          (not_short k request (strings whole)) (not_opcode k request (strings whole)) (not_ack k request (strings whole))
          (not_unended k request name mode_text (pair_strings pairs) all_strung (strings_end name (mode_text ∷ pair_strings pairs)))
          (paired k request name mode_text pairs all_strung) (all_named k request name mode_text pairs all_strung named) (all_apart k request name mode_text pairs all_strung apart)
          (λ (m, has, octet, netascii, other). let same = ap lower (same_mode k request name mode_text (pair_strings pairs) all_strung m has) in known_mode mode (lower m) (same ∙ known) octet netascii)
          (λ (m, has, mail). mail_apart mode (sym mail ∙ ap lower (same_mode k request name mode_text (pair_strings pairs) all_strung m has) ∙ known)))
        where
          nothing : (ps : List Pair) → pair_strings ps ≡ [] → ps ≡ []
          nothing [] none = refl
          nothing (p ∷ ps) none = absurd (let f : ⊥ = cc in f)
