-- What is wrong with a text, by what was taken of it.
use Rattle.std.proofs.Common.{◌≡◌, ℕ, ◌+◌, ◌-◌, ◌^◌, ◌<◌, false, List, [], ◌∷◌, ◌++◌, length, Err, refl, sym, ap, ◌∙◌, arith, append_assoc, append-nil, length-append}
use Rattle.tftp_capture.specs.{TextFault, BadHeader, BadEnd, BadService, LineTooLong, BadLine, BadPort, BadHost, BadHex, PayloadTooLong, TotalWrong, Truncated, TrailingText, TextTooLong, Version, LineError, BodyFault, ByteFault, Due, FailsAt, HasFault, IsOver, Numbered, Stands, Unfinished, longest, longest_line, says_nothing, FaultTells, FirstTells, MemoryTells, IsPartOfLine, LineEnds, TextEnds, fault_at}
use Rattle.tftp_capture.specs.declared.line_error.LineError.TheVariants.{Text, Read, Memory}
use Rattle.tftp_capture.specs.CaptureText.{Header}
use Rattle.tftp_capture.specs.CaptureText.Due.{Body, Nothing}
use Rattle.tftp_capture.proofs.Texts.{stands-part}

-- a line wants no memory
pub no_want : (error : LineError) (line bytes : List ℕ) (most room at : ℕ) → LineEnds {T = Unit {0}} (Err error) line most room bytes → (text : List ℕ) (datagrams : List Numbered) → MemoryTells (fault_at error at) text datagrams
no_want (Text fault) line bytes most room at e text datagrams = tt
no_want Read line bytes most room at e text datagrams = tt
no_want Memory line bytes most room at e text datagrams = absurd e

pub no_first_want : (error : LineError) (line bytes : List ℕ) (most room at : ℕ) → LineEnds {T = Unit {0}} (Err error) line most room bytes → (text ahead : List ℕ) → FirstTells (fault_at error at) text ahead
no_first_want (Text fault) line bytes most room at e text ahead = tt
no_first_want Read line bytes most room at e text ahead = tt
no_first_want Memory line bytes most room at e text ahead = absurd e

module _ (text : List ℕ) (lines : List (List ℕ)) (due : Due) (datagrams : List Numbered) (not_yet : IsOver due → ⊥) (stands : Stands text lines [] due datagrams) where
  unfinished : (bytes : List ℕ) → IsPartOfLine bytes (longest due) (2 ^ 40 - length text) → Unfinished (text ++ bytes) datagrams (length lines + 1) due
  unfinished bytes part = record { lines = lines; rest = bytes; stands = stands-part text bytes lines due datagrams not_yet part stands; at_line = refl }

  -- the byte after these fails
  fails : (bytes : List ℕ) (byte : ℕ) (fault : TextFault) → IsPartOfLine bytes (longest due) (2 ^ 40 - length text) → ByteFault (length (text ++ bytes)) bytes due (length datagrams) byte fault
      → FailsAt (text ++ bytes) byte datagrams (length lines + 1) fault
  fails bytes byte fault part wrong = record { lines = lines; rest = bytes; due = due; stands = stands-part text bytes lines due datagrams not_yet part stands; at_line = refl; wrong = wrong }

  -- reading stopped in a line
  pub fault_in_line : (line bytes : List ℕ) (error : LineError) → LineEnds {T = Unit {0}} (Err error) line (longest due) (2 ^ 40 - length text) bytes → FaultTells (fault_at error (length lines + 1)) (text ++ bytes) datagrams
  fault_in_line line bytes (Text LineTooLong) e =
      let at = e.1 in
      let part : IsPartOfLine at.front (longest due) (2 ^ 40 - length text) = record { no_end = at.no_end; narrow = omega (arith, at.sized); short = omega (arith, at.sized, e.3) } in
      let wrong : ByteFault (length (text ++ at.front)) at.front due (length datagrams) e.0 LineTooLong = (omega (arith, length-append text at.front, at.sized, e.3), not_yet, at.sized, e.2) in
      (text ++ at.front, at.more, e.0, ap (λ l. text ++ l) at.are ∙ sym (append_assoc text at.front (e.0 ∷ at.more)), fails at.front e.0 LineTooLong part wrong)
  fault_in_line line bytes (Text TextTooLong) e =
      let at = e.1 in
      let part : IsPartOfLine at.front (longest due) (2 ^ 40 - length text) = record { no_end = at.no_end; narrow = omega (arith, at.sized, e.2); short = omega (arith, at.sized) } in
      let wrong : ByteFault (length (text ++ at.front)) at.front due (length datagrams) e.0 TextTooLong = omega (arith, length-append text at.front, at.sized, stands.short) in
      (text ++ at.front, at.more, e.0, ap (λ l. text ++ l) at.are ∙ sym (append_assoc text at.front (e.0 ∷ at.more)), fails at.front e.0 TextTooLong part wrong)
  fault_in_line line bytes (Text Truncated) e = (due, unfinished bytes e, not_yet)
  fault_in_line line bytes Read e = (due, unfinished bytes e)
  fault_in_line line bytes Memory e = absurd e
  fault_in_line line bytes (Text BadHeader) e = absurd e
  fault_in_line line bytes (Text BadEnd) e = absurd e
  fault_in_line line bytes (Text BadService) e = absurd e
  fault_in_line line bytes (Text BadLine) e = absurd e
  fault_in_line line bytes (Text BadPort) e = absurd e
  fault_in_line line bytes (Text BadHost) e = absurd e
  fault_in_line line bytes (Text BadHex) e = absurd e
  fault_in_line line bytes (Text PayloadTooLong) e = absurd e
  fault_in_line line bytes (Text TotalWrong) e = absurd e
  fault_in_line line bytes (Text TrailingText) e = absurd e

  -- the LF of a line whose content is wrong fails
  pub fault_at_end : (line : List ℕ) (fault : TextFault) → IsPartOfLine line (longest due) (2 ^ 40 - length text) → ByteFault (length (text ++ line)) line due (length datagrams) 10 fault
      → (read more : List ℕ) × (byte : ℕ) × (text ++ (line ++ 10 ∷ []) ≡ read ++ byte ∷ more) × FailsAt read byte datagrams (length lines + 1) fault
  fault_at_end line fault part wrong = (text ++ line, [], 10, sym (append_assoc text line (10 ∷ [])), fails line 10 fault part wrong)

-- a line where a datagram or the total is due is wrong
pub body_fault : (version : Version) (text line : List ℕ) (lines : List (List ℕ)) (header : Header) (datagrams : List Numbered) → Stands text lines [] (Body version header) datagrams
    → IsPartOfLine line (longest_line version) (2 ^ 40 - length text) → length line < 2 ^ 40 - length text → says_nothing line ≡ false → (fault : TextFault) → BodyFault version (length datagrams) line fault
    → HasFault (text ++ (line ++ 10 ∷ [])) datagrams (length lines + 1) fault
body_fault version text line lines header datagrams stands part within said BadLine h =
    fault_at_end text lines (Body version header) datagrams (λ o. o) stands line BadLine part (omega (arith, length-append text line), refl, (said, h))
body_fault version text line lines header datagrams stands part within said BadPort h =
    fault_at_end text lines (Body version header) datagrams (λ o. o) stands line BadPort part (omega (arith, length-append text line), refl, (said, h))
body_fault version text line lines header datagrams stands part within said BadHost h =
    fault_at_end text lines (Body version header) datagrams (λ o. o) stands line BadHost part (omega (arith, length-append text line), refl, (said, h))
body_fault version text line lines header datagrams stands part within said BadHex h =
    fault_at_end text lines (Body version header) datagrams (λ o. o) stands line BadHex part (omega (arith, length-append text line), refl, (said, h))
body_fault version text line lines header datagrams stands part within said PayloadTooLong h =
    fault_at_end text lines (Body version header) datagrams (λ o. o) stands line PayloadTooLong part (omega (arith, length-append text line), refl, (said, h))
body_fault version text line lines header datagrams stands part within said TotalWrong h =
    fault_at_end text lines (Body version header) datagrams (λ o. o) stands line TotalWrong part (omega (arith, length-append text line), refl, (said, h))
body_fault version text line lines header datagrams stands part within said BadHeader h = absurd h
body_fault version text line lines header datagrams stands part within said BadEnd h = absurd h
body_fault version text line lines header datagrams stands part within said BadService h = absurd h
body_fault version text line lines header datagrams stands part within said LineTooLong h = absurd h
body_fault version text line lines header datagrams stands part within said Truncated h = absurd h
body_fault version text line lines header datagrams stands part within said TrailingText h = absurd h
body_fault version text line lines header datagrams stands part within said TextTooLong h = absurd h

-- the text goes on after its total, or does not
pub end_fault : (version : Version) (text bytes : List ℕ) (lines : List (List ℕ)) (header : Header) (datagrams : List Numbered) (error : LineError) → Stands text lines [] (Nothing version header) datagrams
    → TextEnds {T = Unit {0}} (Err error) (length text) bytes → FaultTells (fault_at error (length lines + 1)) (text ++ bytes) datagrams
end_fault version text bytes lines header datagrams (Text TrailingText) stands e =
    (text, e.1, e.0, ap (λ l. text ++ l) e.2, record { lines = lines; rest = []; due = Nothing version header; stands = stands; at_line = refl; wrong = (e.3, tt) })
end_fault version text bytes lines header datagrams (Text TextTooLong) stands e =
    (text, e.1, e.0, ap (λ l. text ++ l) e.2, record { lines = lines; rest = []; due = Nothing version header; stands = stands; at_line = refl; wrong = e.3 })
end_fault version text bytes lines header datagrams Read stands e =
    (Nothing version header, record { lines = lines; rest = []; stands = rw (e, append-nil) stands; at_line = refl })
end_fault version text bytes lines header datagrams Memory stands e = absurd e
end_fault version text bytes lines header datagrams (Text BadHeader) stands e = absurd e
end_fault version text bytes lines header datagrams (Text BadEnd) stands e = absurd e
end_fault version text bytes lines header datagrams (Text BadService) stands e = absurd e
end_fault version text bytes lines header datagrams (Text LineTooLong) stands e = absurd e
end_fault version text bytes lines header datagrams (Text BadLine) stands e = absurd e
end_fault version text bytes lines header datagrams (Text BadPort) stands e = absurd e
end_fault version text bytes lines header datagrams (Text BadHost) stands e = absurd e
end_fault version text bytes lines header datagrams (Text BadHex) stands e = absurd e
end_fault version text bytes lines header datagrams (Text PayloadTooLong) stands e = absurd e
end_fault version text bytes lines header datagrams (Text TotalWrong) stands e = absurd e
end_fault version text bytes lines header datagrams (Text Truncated) stands e = absurd e
