-- What holds of a payload that begins as a request, by what its bytes are after the opcode.
use Rattle.std.proofs.Common.{◌≡◌, ◌⊎◌, inl, inr, ℕ, ◌%◌, List, [], ◌∷◌, length, sym, ap, subst, ◌∙◌, arith}
use Rattle.std.proofs.lemmas.List.{append-nil}
use Rattle.tftp_packet.specs.{IsString, AreStrings, terminated, strings, Pair, pair_strings, AreNamed, AreApart, Short, Opcode, AckLength, NoTerminator, OddOptions, EmptyOptionName, DuplicateOption, Holds, IsRequest, IsRequestOf, HasOptionStrings, HasMode, EndsWithZero}
use Rattle.tftp_packet.proofs.PairStrings.{pair_strings_injective, not_odd, none_of_all, no_repeat}
use Rattle.tftp_packet.proofs.Strings.{strings_injective}

module _ (k : ℕ) (request : (k ≡ 1) ⊎ (k ≡ 2)) where
  pub same_body : (body other : List ℕ) → IsRequest (0 ∷ k ∷ body) other → body ≡ other
  same_body body other (inl e) = cc
  same_body body other (inr e) = cc

  pub not_short : (body : List ℕ) → Holds Short (0 ∷ k ∷ body) → ⊥
  not_short body (inl short) = omega arith
  not_short body (inr (inl op, short)) = elim request [ inl a ↦ omega arith | inr a ↦ omega arith ]
  not_short body (inr (inr op, short)) = elim request [ inl a ↦ omega arith | inr a ↦ omega arith ]

  pub not_opcode : (body : List ℕ) → Holds Opcode (0 ∷ k ∷ body) → ⊥
  not_opcode body (inl op) = elim request [ inl a ↦ omega arith | inr a ↦ omega arith ]
  not_opcode body (inr op) = elim request [ inl a ↦ omega arith | inr a ↦ omega arith ]

  pub not_ack : (body : List ℕ) → Holds AckLength (0 ∷ k ∷ body) → ⊥
  not_ack body (op, long) = elim request [ inl a ↦ omega arith | inr a ↦ omega arith ]

  no_oack : (body other : List ℕ) → 0 ∷ k ∷ body ≡ 0 ∷ 6 ∷ other → ⊥
  no_oack body other e = let six : k ≡ 6 = cc in elim request [ inl a ↦ omega arith | inr a ↦ omega arith ]

  pub begins : (body : List ℕ) → IsRequest (0 ∷ k ∷ body) body
  begins body = elim request as (λ _. IsRequest (0 ∷ k ∷ body) body) [ inl a ↦ inl (let e = a in cc) | inr a ↦ inr (let e = a in cc) ]

  -- the strings of a request are those after its opcode
  pub same_strings : (all other : List (List ℕ)) → AreStrings all → IsRequestOf (0 ∷ k ∷ strings all) other → other ≡ all
  same_strings all other p (begins, q) = sym (strings_injective all other p q (same_body (strings all) (strings other) begins))

  module _ (name mode_text : List ℕ) (options : List (List ℕ)) (strung : AreStrings (name ∷ mode_text ∷ options)) where
    pub same_options : (other : List (List ℕ)) → HasOptionStrings (0 ∷ k ∷ strings (name ∷ mode_text ∷ options)) other → other ≡ options
    same_options other (inl (n, m, is)) = let e = same_strings (name ∷ mode_text ∷ options) (n ∷ m ∷ other) strung is in cc
    same_options other (inr (oack, q)) = absurd (no_oack _ _ oack)

    pub same_mode : (other : List ℕ) → HasMode (0 ∷ k ∷ strings (name ∷ mode_text ∷ options)) other → other ≡ mode_text
    same_mode other (n, o, is) = let e = same_strings (name ∷ mode_text ∷ options) (n ∷ other ∷ o) strung is in cc

    -- its strings are ended, and there are two at least
    pub not_unended : EndsWithZero (strings (name ∷ mode_text ∷ options)) → Holds NoTerminator (0 ∷ k ∷ strings (name ∷ mode_text ∷ options)) → ⊥
    not_unended ends (inl (body, begins, inl never)) = never (rw (← same_body _ _ begins) ends)
    not_unended ends (inl (body, begins, inr (only, q, e))) =
        let one = strings_injective (name ∷ mode_text ∷ options) (only ∷ []) strung (q, tt) (same_body _ _ begins ∙ e ∙ sym (append-nil (terminated only))) in cc
    not_unended ends (inr (inl (body, oack, some, never))) = no_oack _ _ oack
    not_unended ends (inr (inr (x, y, text, error, more))) = let five : k ≡ 5 = cc in elim request [ inl a ↦ omega arith | inr a ↦ omega arith ]

  -- a request whose options are pairs, named and apart, has no fault of options
  module _ (name mode_text : List ℕ) (pairs : List Pair) (strung : AreStrings (name ∷ mode_text ∷ pair_strings pairs)) where
    pub paired : Holds OddOptions (0 ∷ k ∷ strings (name ∷ mode_text ∷ pair_strings pairs)) → ⊥
    paired (options, has, odd) =
        not_odd pairs (ap (λ o. length o % 2) (sym (same_options name mode_text (pair_strings pairs) strung options has)) ∙ odd)

    same_pairs : (other : List Pair) → HasOptionStrings (0 ∷ k ∷ strings (name ∷ mode_text ∷ pair_strings pairs)) (pair_strings other) → other ≡ pairs
    same_pairs other has = pair_strings_injective other pairs (same_options name mode_text (pair_strings pairs) strung (pair_strings other) has)

    pub all_named : AreNamed pairs → Holds EmptyOptionName (0 ∷ k ∷ strings (name ∷ mode_text ∷ pair_strings pairs)) → ⊥
    all_named named (other, has, empty) = none_of_all (λ pair. pair.0 ≡ []) other (subst AreNamed (sym (same_pairs other has)) named) empty

    pub all_apart : AreApart pairs → Holds DuplicateOption (0 ∷ k ∷ strings (name ∷ mode_text ∷ pair_strings pairs)) → ⊥
    all_apart apart (other, has, repeat) = no_repeat other (subst AreApart (sym (same_pairs other has)) apart) repeat

  -- the first string, or the second, has no end
  pub unended : (body : List ℕ) → ((EndsWithZero body → ⊥) ⊎ ((only : List ℕ) × IsString only × (body ≡ terminated only))) → Holds NoTerminator (0 ∷ k ∷ body)
  unended body why = inl (body, begins body, why)
