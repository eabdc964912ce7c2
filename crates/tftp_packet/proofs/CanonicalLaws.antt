-- What is written for a message spells it, and nothing shorter does.
use Rattle.std.proofs.Common.{◌≡◌, ℕ, ◌/◌, ◌%◌, ◌<◌, ◌≤◌, List, [], ◌∷◌, length, length-append, refl, sym, ap, subst, ◌∙◌, arith, rules}
use Rattle.std.specs.List.{AllByRecursion}
use Rattle.tftp_packet.specs.{OptionMap, lower, RequestParts, Message, Request, Data, Ack, Error, Oack, IsString, terminated, strings, pair_strings, map_of, IsPair, IsPlace, but_third, side_opcode, mode_name, SpellsRequest, SpellsOack, Spells, canonical, canonical_pairs, shown_pairs, Side, Get, Put, Mode, Octet, Netascii}
use Rattle.tftp_packet.proofs.CanonicalOptions.{Bytes, bytes_of_strings, strings_bytes, Canonical, canonical_good, no_entry, length_lower}

numbered : (x y n : ℕ) → IsPair x y n → IsPair (n / 256) (n % 256) n
numbered x y n is = (omega arith, omega arith, omega arith)

place_again : (n : ℕ) → IsPlace (n / 256) (n % 256) n
place_again n = (omega arith, omega arith)

mode_bytes : (mode : Mode) → Bytes (mode_name mode)
mode_bytes Octet = search rules
mode_bytes Netascii = search rules

mode_string : (mode : Mode) → IsString (mode_name mode)
mode_string Octet = search rules
mode_string Netascii = search rules

mode_lower : (mode : Mode) → lower (mode_name mode) ≡ mode_name mode
mode_lower Octet = refl
mode_lower Netascii = refl

side_byte : (side : Side) → side_opcode side < 256
side_byte Get = omega arith
side_byte Put = omega arith

module _ (payload : List ℕ) (request : RequestParts) (all : Bytes payload) (p : SpellsRequest payload request) where
  written : AllByRecursion Bytes (request.name ∷ p.mode_text ∷ pair_strings p.pairs)
  written = bytes_of_strings (request.name ∷ p.mode_text ∷ pair_strings p.pairs) (subst Bytes p.bytes all).1.1

  good : Canonical p.pairs request.options
  good = canonical_good p.pairs request.options p.options (p.strung.1.1, p.named, p.apart) written.1.1

  request_short : length (canonical (Request request)) ≤ length payload
  request_short =
      let whole = ap length p.bytes in
      let a = length-append (terminated request.name) (strings (p.mode_text ∷ pair_strings p.pairs)) in
      let b = length-append (terminated p.mode_text) (strings (pair_strings p.pairs)) in
      let c = length-append p.mode_text (0 ∷ []) in
      let d = length-append (terminated request.name) (strings (mode_name request.mode ∷ pair_strings (canonical_pairs request.options))) in
      let e = length-append (terminated (mode_name request.mode)) (strings (pair_strings (canonical_pairs request.options))) in
      let f = length-append (mode_name request.mode) (0 ∷ []) in
      let mode = sym (length_lower p.mode_text) ∙ ap length p.mode in
      let short = good.short in
      omega arith

  none_of_none : p.pairs ≡ [] → canonical_pairs request.options ≡ []
  none_of_none none = ap canonical_pairs (p.options ∙ ap map_of none) ∙ ap shown_pairs no_entry

  request_spells : Spells (canonical (Request request)) (Request request)
  request_spells = (
    (omega arith, (side_byte request.side, strings_bytes (request.name ∷ mode_name request.mode ∷ pair_strings (canonical_pairs request.options)) (written.0, (mode_bytes request.mode, good.bytes)))),
    record {
      mode_text = mode_name request.mode;
      pairs = canonical_pairs request.options;
      bytes = refl;
      strung = (p.strung.0, (mode_string request.mode, good.options.0));
      named = good.options.1;
      apart = good.options.2;
      mode = mode_lower request.mode;
      options = good.stands;
      short = λ some. (let short = request_short in let limit = p.short (λ none. some (none_of_none none)) in omega arith);
    },
  )

module _ (payload : List ℕ) (options : OptionMap) (all : Bytes payload) (p : SpellsOack payload options) where
  oack_good : Canonical p.pairs options
  oack_good = canonical_good p.pairs options p.map (p.strung, p.named, p.apart) (bytes_of_strings (pair_strings p.pairs) (subst Bytes p.bytes all).1.1)

  oack_short : length (canonical (Oack options)) ≤ length payload
  oack_short = let whole = ap length p.bytes in let short = oack_good.short in omega arith

  oack_spells : Spells (canonical (Oack options)) (Oack options)
  oack_spells = (
    (omega arith, (omega arith, strings_bytes (pair_strings (canonical_pairs options)) oack_good.bytes)),
    record {
      pairs = canonical_pairs options;
      bytes = refl;
      strung = oack_good.options.0;
      named = oack_good.options.1;
      apart = oack_good.options.2;
      map = oack_good.stands;
    },
  )

pub spells_again : (payload : List ℕ) (m : Message) → Spells payload m → Spells (canonical m) m
spells_again payload (Request request) (all, p) = request_spells payload request all p
spells_again payload (Data block bytes) (all, (x, y, is, e)) =
    let new = place_again block in
    ((omega arith, (omega arith, (new.0, (subst (λ (p : List ℕ). Bytes (but_third p)) e all).1.1.1))), (block / 256, block % 256, new, refl))
spells_again payload (Ack block) (all, (x, y, is, e)) =
    let new = place_again block in
    ((omega arith, (omega arith, (new.0, tt))), (block / 256, block % 256, new, refl))
spells_again payload (Error code message) (all, (x, y, is, string, e)) =
    let new = numbered x y code is in
    ((omega arith, (omega arith, (new.0, (new.1, (subst Bytes e all).1.1.1.1)))), (code / 256, code % 256, new, string, refl))
spells_again payload (Oack options) (all, p) = oack_spells payload options all p

pub shortest : (payload : List ℕ) (m : Message) → Spells payload m → length (canonical m) ≤ length payload
shortest payload (Request request) (all, p) = request_short payload request all p
shortest payload (Data block bytes) (all, (x, y, is, e)) = omega (arith, ap length e)
shortest payload (Ack block) (all, (x, y, is, e)) = omega (arith, ap length e)
shortest payload (Error code message) (all, (x, y, is, string, e)) = omega (arith, ap length e)
shortest payload (Oack options) (all, p) = oack_short payload options all p
