-- The lines of datagrams.
use Rattle.std.proofs.Common.{◌≡◌, ◌↔◌, inl, inr, ℕ, ◌+◌, List, [], ◌∷◌, ◌++◌, length, codes, decimal, Option, None, Some, Result, Ok, Err, IfOk, refl, sym, ap, ◌∙◌, append_assoc, append-nil, arith}
use Rattle.tftp_capture.specs.{Numbered, dir_word}
use Rattle.tftp_packet.specs.{Dir, Rollover}
use Rattle.tftp_packet.specs.Hosts.{Datagram, Header}
use Rattle.tftp_packet.specs.{Spells, FirstFault, meaning, Packet, PacketFault}
use Rattle.tftp_commands.specs.{packet_fault_name, message_text, beside, AreLines, IsDatagramLine, IsHighFor, IsKept, IsPayloadText}
use Rattle.tftp_commands.specs.declared.numbers.Numbers.{Numbers}

-- the datagrams that have passed after these, the newest first
abbrev pub passed_after : List Datagram → List Numbered → List Datagram
passed_after earlier [] = earlier
passed_after earlier (d ∷ ds) = passed_after (d.1 ∷ earlier) ds

pub passed_more : (earlier : List Datagram) (ds : List Numbered) (d : Numbered) → passed_after earlier (ds ++ d ∷ []) ≡ d.1 ∷ passed_after earlier ds
passed_more earlier [] d = refl
passed_more earlier (e ∷ es) d = passed_more (e.1 ∷ earlier) es d

pub passed_count : (earlier : List Datagram) (ds : List Numbered) → length (passed_after earlier ds) ≡ length earlier + length ds
passed_count earlier [] = omega (arith)
passed_count earlier (e ∷ es) = let rest = passed_count (e.1 ∷ earlier) es in omega (arith, rest)

-- by what the numbers are read that pass next
pub kept_high : (rollover : Option Rollover) (kept : Numbers) (h : Header) (earlier : List Datagram) → IsKept rollover kept h earlier → IsHighFor rollover h earlier kept.highest
kept_high None kept h earlier is = is
kept_high (Some r) kept h earlier is = (is.unrolled, is.are, is.high)

-- the lines of some datagrams, and that of one more
pub lines_more : (rollover : Option Rollover) (h : Header) (earlier : List Datagram) (ds : List Numbered) (bytes : List ℕ) (d : Numbered) (high : ℕ) (line : List ℕ) → AreLines rollover h earlier ds bytes
    → IsHighFor rollover h (passed_after earlier ds) high → IsDatagramLine rollover high (length (passed_after earlier ds) + 1) d.1 line → AreLines rollover h earlier (ds ++ d ∷ []) (bytes ++ line)
lines_more rollover h earlier [] bytes d high line are top is = (high, top, line, [], is, refl, ap (λ l. l ++ line) are ∙ sym (append-nil line))
lines_more rollover h earlier (e ∷ es) bytes d high line (first, low, row, more, says, are, joined) top is =
    (first, low, row, more ++ line, says, lines_more rollover h (e.1 ∷ earlier) es more d high line are top is, ap (λ l. l ++ line) joined ∙ append_assoc row more line)

-- ---- the line of one datagram

-- something is said of each payload
pub payload_said : (rollover : Option Rollover) (high : ℕ) (payload : List ℕ) (read : Result Packet PacketFault) → IfOk read (λ p. Spells payload (meaning p)) → ((f : PacketFault) → (read ≡ Err f) ↔ FirstFault payload f)
    → (text : List ℕ) × IsPayloadText rollover high payload text
payload_said rollover high payload (Ok packet) found fault = (message_text (meaning packet) ++ beside rollover high (meaning packet), inl (meaning packet, found, refl))
payload_said rollover high payload (Err first) found fault = (codes "malformed " ++ packet_fault_name first, inr (first, (fault first).0 refl, refl))

-- the pieces of a line are the line
pub line_pieces : (number : ℕ) (dir : Dir) (n d text : List ℕ) → n ≡ decimal number → d ≡ dir_word dir
    → (n ++ (32 ∷ (d ++ 32 ∷ []))) ++ (text ++ 10 ∷ []) ≡ decimal number ++ codes " " ++ dir_word dir ++ codes " " ++ text ++ codes "\n"
line_pieces number dir n d text is_number is_dir =
    let tail = text ++ 10 ∷ [] in
    append_assoc n (32 ∷ (d ++ 32 ∷ [])) tail
    ∙ ap (λ l. n ++ (32 ∷ l)) (append_assoc d (32 ∷ []) tail)
    ∙ ap (λ l. l ++ (32 ∷ (d ++ (32 ∷ tail)))) is_number
    ∙ ap (λ l. decimal number ++ (32 ∷ (l ++ (32 ∷ tail)))) is_dir
    ∙ sym
    (append_assoc (decimal number ++ codes " " ++ dir_word dir ++ codes " ") text (10 ∷ [])
    ∙ append_assoc (decimal number ++ codes " " ++ dir_word dir) (32 ∷ []) tail
    ∙ append_assoc (decimal number ++ codes " ") (dir_word dir) (32 ∷ tail)
    ∙ append_assoc (decimal number) (32 ∷ []) (dir_word dir ++ (32 ∷ tail)))
