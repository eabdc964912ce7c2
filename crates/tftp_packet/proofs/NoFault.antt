-- A payload that spells a message has no fault.
use Rattle.std.proofs.Common.{◌≡◌, ◌≢◌, ◌⊎◌, inl, inr, ℕ, ◌%◌, ◌<◌, ◌≤◌, List, [], ◌∷◌, length, refl, sym, ap, subst, ◌∙◌, arith, codes}
use Rattle.tftp_packet.specs.{lower, Message, Request, Data, Ack, Error, Oack, IsString, AreStrings, terminated, strings, Pair, pair_strings, AreNamed, AreApart, side_opcode, mode_name, Layout, Mode, Octet, Netascii, PacketFault, Short, Opcode, AckLength, NoTerminator, OddOptions, EmptyOptionName, DuplicateOption, UnknownMode, MailMode, RequestTooLong, Holds, IsRequest, HasOptionStrings, EndsWithZero, opcode_of}
use Rattle.tftp_packet.proofs.Strings.{strings_injective, strings_end}
use Rattle.tftp_packet.proofs.PairStrings.{pair_strings_injective, not_odd, none_of_all, no_repeat}
use Rattle.tftp_packet.proofs.Requests.{not_short, not_opcode, not_ack, not_unended, paired, all_named, all_apart, same_mode, same_strings}
use Rattle.tftp_packet.proofs.Unique.{side_opcodes}

-- the opcodes of what each fault speaks of
begins_opcode : (payload body : List ℕ) → IsRequest payload body → (opcode_of payload ≡ 1) ⊎ (opcode_of payload ≡ 2)
begins_opcode payload body (inl e) = inl (ap opcode_of e)
begins_opcode payload body (inr e) = inr (ap opcode_of e)

options_opcode : (payload : List ℕ) (options : List (List ℕ)) → HasOptionStrings payload options → (opcode_of payload ≡ 1) ⊎ (opcode_of payload ≡ 2) ⊎ (opcode_of payload ≡ 6)
options_opcode payload options (inl (name, mode_text, is)) = elim (begins_opcode payload _ is.0) [ inl a ↦ inl a | inr b ↦ inr (inl b) ]
options_opcode payload options (inr (e, strung)) = inr (inr (ap opcode_of e))

-- a block or an acknowledgement
module _ (payload : List ℕ) (k : ℕ) (is : opcode_of payload ≡ k) (low : 2 < k) (high : k < 5) where
  no_begin : (body : List ℕ) → IsRequest payload body → ⊥
  no_begin body begins = elim (begins_opcode payload body begins) [ inl a ↦ omega arith | inr a ↦ omega arith ]

  no_options : (options : List (List ℕ)) → HasOptionStrings payload options → ⊥
  no_options options has = elim (options_opcode payload options has) [ inl a ↦ omega arith | inr b ↦ elim b [ inl c ↦ omega arith | inr d ↦ omega arith ] ]

  numbered : (f : PacketFault) → (Holds Short payload → ⊥) → (Holds AckLength payload → ⊥) → Holds f payload → ⊥
  numbered Short short ack h = short h
  numbered Opcode short ack (inl h) = omega arith
  numbered Opcode short ack (inr h) = omega arith
  numbered AckLength short ack h = ack h
  numbered NoTerminator short ack (inl (body, begins, why)) = no_begin body begins
  numbered NoTerminator short ack (inr (inl (body, oack, some, never))) = omega (arith, ap opcode_of oack)
  numbered NoTerminator short ack (inr (inr (x, y, text, error, never))) = omega (arith, ap opcode_of error)
  numbered OddOptions short ack (options, has, why) = no_options options has
  numbered EmptyOptionName short ack (pairs, has, why) = no_options (pair_strings pairs) has
  numbered DuplicateOption short ack (pairs, has, why) = no_options (pair_strings pairs) has
  numbered UnknownMode short ack (mode_text, (name, options, is), octet, netascii, mail) = no_begin _ is.0
  numbered MailMode short ack (mode_text, (name, options, is), why) = no_begin _ is.0
  numbered RequestTooLong short ack (name, mode_text, options, is, some, long) = no_begin _ is.0

-- an error
module _ (payload message : List ℕ) (x y : ℕ) (string : IsString message) (e : payload ≡ 0 ∷ 5 ∷ x ∷ y ∷ terminated message) where
  five : opcode_of payload ≡ 5
  five = ap opcode_of e

  error_no_begin : (body : List ℕ) → IsRequest payload body → ⊥
  error_no_begin body begins = elim (begins_opcode payload body begins) [ inl a ↦ omega (arith, five) | inr a ↦ omega (arith, five) ]

  error_no_options : (options : List (List ℕ)) → HasOptionStrings payload options → ⊥
  error_no_options options has = elim (options_opcode payload options has) [ inl a ↦ omega (arith, five) | inr b ↦ elim b [ inl c ↦ omega (arith, five) | inr d ↦ omega (arith, five) ] ]

  error : (f : PacketFault) → Holds f payload → ⊥
  error Short (inl h) = omega (arith, ap length e)
  error Short (inr (op, h)) = omega (arith, ap length e)
  error Opcode (inl h) = omega (arith, five)
  error Opcode (inr h) = omega (arith, five)
  error AckLength (op, h) = omega (arith, five)
  error NoTerminator (inl (body, begins, why)) = error_no_begin body begins
  error NoTerminator (inr (inl (body, oack, some, never))) = omega (arith, five, ap opcode_of oack)
  error NoTerminator (inr (inr (x', y', text, is, never))) =
      let both : 0 ∷ 5 ∷ x ∷ y ∷ terminated message ≡ 0 ∷ 5 ∷ x' ∷ y' ∷ text = sym e ∙ is in
      let tail : text ≡ terminated message = cc in
      never message string tail
  error OddOptions (options, has, why) = error_no_options options has
  error EmptyOptionName (pairs, has, why) = error_no_options (pair_strings pairs) has
  error DuplicateOption (pairs, has, why) = error_no_options (pair_strings pairs) has
  error UnknownMode (mode_text, (name, options, is), octet, netascii, mail) = error_no_begin _ is.0
  error MailMode (mode_text, (name, options, is), why) = error_no_begin _ is.0
  error RequestTooLong (name, mode_text, options, is, some, long) = error_no_begin _ is.0

-- an OACK
oack_ends : (pairs : List Pair) → strings (pair_strings pairs) ≢ [] → EndsWithZero (strings (pair_strings pairs))
oack_ends [] some = absurd (some refl)
oack_ends (pair ∷ pairs) some = strings_end pair.0 (pair.1 ∷ pair_strings pairs)

module _ (payload : List ℕ) (pairs : List Pair) (e : payload ≡ 0 ∷ 6 ∷ strings (pair_strings pairs)) (strung : AreStrings (pair_strings pairs)) where
  six : opcode_of payload ≡ 6
  six = ap opcode_of e

  oack_no_begin : (body : List ℕ) → IsRequest payload body → ⊥
  oack_no_begin body begins = elim (begins_opcode payload body begins) [ inl a ↦ omega (arith, six) | inr a ↦ omega (arith, six) ]

  oack_same : (options : List (List ℕ)) → HasOptionStrings payload options → options ≡ pair_strings pairs
  oack_same options (inl (name, mode_text, is)) = absurd (oack_no_begin _ is.0)
  oack_same options (inr (is, s)) =
      let both : 0 ∷ 6 ∷ strings options ≡ 0 ∷ 6 ∷ strings (pair_strings pairs) = sym is ∙ e in
      let tail : strings options ≡ strings (pair_strings pairs) = cc in
      strings_injective options (pair_strings pairs) s strung tail

  oack : (f : PacketFault) → AreNamed pairs → AreApart pairs → Holds f payload → ⊥
  oack Short named apart (inl h) = omega (arith, ap length e)
  oack Short named apart (inr (inl op, h)) = omega (arith, six)
  oack Short named apart (inr (inr op, h)) = omega (arith, six)
  oack Opcode named apart (inl h) = omega (arith, six)
  oack Opcode named apart (inr h) = omega (arith, six)
  oack AckLength named apart (op, h) = omega (arith, six)
  oack NoTerminator named apart (inl (body, begins, why)) = oack_no_begin body begins
  oack NoTerminator named apart (inr (inl (body, is, some, never))) =
      let both : 0 ∷ 6 ∷ strings (pair_strings pairs) ≡ 0 ∷ 6 ∷ body = sym e ∙ is in
      let tail : strings (pair_strings pairs) ≡ body = cc in
      never (subst EndsWithZero tail (oack_ends pairs (λ none. some (sym tail ∙ none))))
  oack NoTerminator named apart (inr (inr (x, y, text, is, never))) = omega (arith, six, ap opcode_of is)
  oack OddOptions named apart (options, has, odd) = not_odd pairs (ap (λ o. length o % 2) (sym (oack_same options has)) ∙ odd)
  oack EmptyOptionName named apart (other, has, empty) =
      none_of_all (λ pair. pair.0 ≡ []) other (subst AreNamed (sym (pair_strings_injective other pairs (oack_same (pair_strings other) has))) named) empty
  oack DuplicateOption named apart (other, has, repeat) =
      no_repeat other (subst AreApart (sym (pair_strings_injective other pairs (oack_same (pair_strings other) has))) apart) repeat
  oack UnknownMode named apart (mode_text, (name, options, is), octet, netascii, mail) = oack_no_begin _ is.0
  oack MailMode named apart (mode_text, (name, options, is), why) = oack_no_begin _ is.0
  oack RequestTooLong named apart (name, mode_text, options, is, some, long) = oack_no_begin _ is.0

-- a request
mode_is : (mode : Mode) (text : List ℕ) → text ≡ mode_name mode → (text ≡ codes "octet") ⊎ (text ≡ codes "netascii")
mode_is Octet text e = inl e
mode_is Netascii text e = inr e

mode_no_mail : (mode : Mode) → mode_name mode ≡ codes "mail" → ⊥
mode_no_mail Octet e = let f : ⊥ = cc in f
mode_no_mail Netascii e = let f : ⊥ = cc in f

module _ (payload : List ℕ) (k : ℕ) (begins : (k ≡ 1) ⊎ (k ≡ 2)) (name mode_text : List ℕ) (mode : Mode) (pairs : List Pair)
    (strung : AreStrings (name ∷ mode_text ∷ pair_strings pairs)) (is_mode : lower mode_text ≡ mode_name mode) where
  written : List ℕ
  written = 0 ∷ k ∷ strings (name ∷ mode_text ∷ pair_strings pairs)

  request : (f : PacketFault) → AreNamed pairs → AreApart pairs → (pairs ≢ [] → length written ≤ 512) → Holds f written → ⊥
  unfolding written
  request Short named apart short h = not_short k begins (strings (name ∷ mode_text ∷ pair_strings pairs)) h
  request Opcode named apart short h = not_opcode k begins (strings (name ∷ mode_text ∷ pair_strings pairs)) h
  request AckLength named apart short h = not_ack k begins (strings (name ∷ mode_text ∷ pair_strings pairs)) h
  request NoTerminator named apart short h = not_unended k begins name mode_text (pair_strings pairs) strung (strings_end name (mode_text ∷ pair_strings pairs)) h
  request OddOptions named apart short h = paired k begins name mode_text pairs strung h
  request EmptyOptionName named apart short h = all_named k begins name mode_text pairs strung named h
  request DuplicateOption named apart short h = all_apart k begins name mode_text pairs strung apart h
  request UnknownMode named apart short (other, has, octet, netascii, mail) =
      let same = ap lower (same_mode k begins name mode_text (pair_strings pairs) strung other has) in
      elim (mode_is mode (lower mode_text) is_mode) [ inl a ↦ octet (same ∙ a) | inr b ↦ netascii (same ∙ b) ]
  request MailMode named apart short (other, has, mail) =
      mode_no_mail mode (sym is_mode ∙ sym (ap lower (same_mode k begins name mode_text (pair_strings pairs) strung other has)) ∙ mail)
  request RequestTooLong named apart short (n, m, options, has, some, long) =
      let same = same_strings k begins (name ∷ mode_text ∷ pair_strings pairs) (n ∷ m ∷ options) strung has in
      let these : options ≡ pair_strings pairs = cc in
      let fits = short (λ none. some (these ∙ ap pair_strings none)) in
      omega arith

pub no_fault : (payload : List ℕ) (m : Message) (f : PacketFault) → Layout payload m → Holds f payload → ⊥
unfolding written
no_fault payload (Request parts) f p h =
    request payload (side_opcode parts.side) (side_opcodes parts.side) parts.name p.mode_text parts.mode p.pairs p.strung p.mode f p.named p.apart
    (λ some. subst (λ x. length x ≤ 512) p.bytes (p.short some)) (subst (Holds f) p.bytes h)
no_fault payload (Data block bytes) f (x, y, is, e) h =
    numbered payload 3 (ap opcode_of e) (omega arith) (omega arith) f (λ short. block_long bytes x y payload e short) (λ ack. omega (arith, ap opcode_of e)) h
  where
    block_long : (bytes : List ℕ) (x y : ℕ) (payload : List ℕ) → payload ≡ 0 ∷ 3 ∷ x ∷ y ∷ bytes → Holds Short payload → ⊥
    block_long bytes x y payload e (inl short) = omega (arith, ap length e)
    block_long bytes x y payload e (inr (op, short)) = omega (arith, ap length e)
no_fault payload (Ack block) f (x, y, is, e) h =
    numbered payload 4 (ap opcode_of e) (omega arith) (omega arith) f (λ short. ack_long x y payload e short) (λ ack. ack.1 (ap length e)) h
  where
    ack_long : (x y : ℕ) (payload : List ℕ) → payload ≡ 0 ∷ 4 ∷ x ∷ y ∷ [] → Holds Short payload → ⊥
    ack_long x y payload e (inl short) = omega (arith, ap length e)
    ack_long x y payload e (inr (op, short)) = omega (arith, ap length e)
no_fault payload (Error code message) f (x, y, is, string, e) h = error payload message x y string e f h
no_fault payload (Oack options) f p h = oack payload p.pairs p.bytes p.strung f p.named p.apart h
