-- A text has one reading.
use Rattle.std.proofs.Common.{◌≡◌, ◌≢◌, ℕ, ◌+◌, ◌^◌, ◌<◌, inl, inr, List, [], ◌∷◌, ◌++◌, length, codes, refl, sym, ap, ◌∙◌, subst, arith, length-append}
use Rattle.std.proofs.lemmas.Bool.{cases_lt}
use Rattle.tftp_capture.specs.{TextFault, BadHeader, BadEnd, BadService, LineTooLong, BadLine, BadPort, BadHost, BadHex, PayloadTooLong, TotalWrong, Truncated, TrailingText, TextTooLong, BodyFault, ByteFault, Due, FailsAt, HasFault, HasFields, HasPorts, IsCapture, IsOver, LineFault, Numbered, Reading, Reads, Says, SpellsPayload, SpellsPort, Stands, Unfinished, pieces, Version}
use Rattle.tftp_capture.specs.CaptureText.{Header}
use Rattle.tftp_packet.specs.Hosts.{IsHost}
use Rattle.tftp_capture.specs.CaptureText.Due.{Head, EndLine, ServiceLine, Body, Nothing}
use Rattle.tftp_capture.specs.CaptureText.Reading.{Capture, Fault}
use Rattle.tftp_capture.proofs.Pieces.{fields_same, ports_same, total_no_fields}
use Rattle.tftp_capture.proofs.Uniqueness.{no_longer, snoc_cases}
use Rattle.tftp_capture.proofs.Walks.{head_or, says_same, tail_of}

-- ---- one place has one fault

data BodyIs (version : Version) (count : ℕ) (line : List ℕ) : TextFault → Type 0 where
  b_line : BodyFault version count line BadLine → BodyIs version count line BadLine
  b_port : BodyFault version count line BadPort → BodyIs version count line BadPort
  b_host : BodyFault version count line BadHost → BodyIs version count line BadHost
  b_hex : BodyFault version count line BadHex → BodyIs version count line BadHex
  b_long : BodyFault version count line PayloadTooLong → BodyIs version count line PayloadTooLong
  b_total : BodyFault version count line TotalWrong → BodyIs version count line TotalWrong

body_is : (version : Version) (count : ℕ) (line : List ℕ) (fault : TextFault) → BodyFault version count line fault → BodyIs version count line fault
body_is version count line BadLine h = b_line h
body_is version count line BadPort h = b_port h
body_is version count line BadHost h = b_host h
body_is version count line BadHex h = b_hex h
body_is version count line PayloadTooLong h = b_long h
body_is version count line TotalWrong h = b_total h
body_is version count line BadHeader h = absurd h
body_is version count line BadEnd h = absurd h
body_is version count line BadService h = absurd h
body_is version count line LineTooLong h = absurd h
body_is version count line Truncated h = absurd h
body_is version count line TrailingText h = absurd h
body_is version count line TextTooLong h = absurd h

module _ (version : Version) (count : ℕ) (line : List ℕ) where
  fields_or_total : (word local host remote digits number : List ℕ) → HasFields version line word local host remote digits → pieces line ≡ codes "total" ∷ number ∷ [] → ⊥
  fields_or_total word local host remote digits number p e = total_no_fields version line word local host remote digits (number ∷ []) e p

  ports_or_total : (host digits number : List ℕ) → HasPorts version line host digits → pieces line ≡ codes "total" ∷ number ∷ [] → ⊥
  ports_or_total host digits number p e = fields_or_total p.word p.local host p.remote digits number p.fields e

  line_or_ports : (host digits : List ℕ) → BodyFault version count line BadLine → HasPorts version line host digits → ⊥
  line_or_ports host digits h p = h.0 p.word p.local host p.remote digits p.fields

  port_or_ports : (host digits : List ℕ) → BodyFault version count line BadPort → HasPorts version line host digits → ⊥
  port_or_ports host digits h p =
      let same = fields_same version (pieces line) p.word p.local host p.remote digits h.0 h.1 h.2 h.3 h.4 p.fields.cut h.5.cut in
      h.6 p.local_port.0 p.remote_port.0 (subst (λ l. SpellsPort l p.local_port.0) same.1 p.local_port.1) (subst (λ l. SpellsPort l p.remote_port.0) same.3 p.remote_port.1)

  host_or_named : (host digits : List ℕ) → BodyFault version count line BadHost → HasPorts version line host digits → IsHost host → ⊥
  host_or_named host digits h p named = h.3 (subst IsHost (ports_same version line host digits h.0 h.1 p h.2).0 named)

  hex_or_spelled : (host digits payload : List ℕ) → BodyFault version count line BadHex → HasPorts version line host digits → SpellsPayload digits payload → ⊥
  hex_or_spelled host digits payload h p s = h.4 payload (subst (λ l. SpellsPayload l payload) (ports_same version line host digits h.0 h.1 p h.2).1 s)

  body_same : (f g : TextFault) → BodyIs version count line f → BodyIs version count line g → f ≡ g
  body_same _ _ (b_line h) (b_line k) = refl
  body_same _ _ (b_line h) (b_port k) = absurd (h.0 k.0 k.1 k.2 k.3 k.4 k.5)
  body_same _ _ (b_line h) (b_host k) = absurd (line_or_ports k.0 k.1 h k.2)
  body_same _ _ (b_line h) (b_hex k) = absurd (line_or_ports k.0 k.1 h k.2)
  body_same _ _ (b_line h) (b_long k) = absurd (line_or_ports k.0 k.1 h k.3)
  body_same _ _ (b_line h) (b_total k) = absurd (h.1 k.0 k.1)
  body_same _ _ (b_port h) (b_line k) = absurd (k.0 h.0 h.1 h.2 h.3 h.4 h.5)
  body_same _ _ (b_port h) (b_port k) = refl
  body_same _ _ (b_port h) (b_host k) = absurd (port_or_ports k.0 k.1 h k.2)
  body_same _ _ (b_port h) (b_hex k) = absurd (port_or_ports k.0 k.1 h k.2)
  body_same _ _ (b_port h) (b_long k) = absurd (port_or_ports k.0 k.1 h k.3)
  body_same _ _ (b_port h) (b_total k) = absurd (fields_or_total h.0 h.1 h.2 h.3 h.4 k.0 h.5 k.1)
  body_same _ _ (b_host h) (b_line k) = absurd (line_or_ports h.0 h.1 k h.2)
  body_same _ _ (b_host h) (b_port k) = absurd (port_or_ports h.0 h.1 k h.2)
  body_same _ _ (b_host h) (b_host k) = refl
  body_same _ _ (b_host h) (b_hex k) = absurd (host_or_named k.0 k.1 h k.2 k.3)
  body_same _ _ (b_host h) (b_long k) = absurd (host_or_named k.0 k.1 h k.3 k.4)
  body_same _ _ (b_host h) (b_total k) = absurd (ports_or_total h.0 h.1 k.0 h.2 k.1)
  body_same _ _ (b_hex h) (b_line k) = absurd (line_or_ports h.0 h.1 k h.2)
  body_same _ _ (b_hex h) (b_port k) = absurd (port_or_ports h.0 h.1 k h.2)
  body_same _ _ (b_hex h) (b_host k) = absurd (host_or_named h.0 h.1 k h.2 h.3)
  body_same _ _ (b_hex h) (b_hex k) = refl
  body_same _ _ (b_hex h) (b_long k) = absurd (hex_or_spelled k.0 k.1 k.2 h k.3 k.5)
  body_same _ _ (b_hex h) (b_total k) = absurd (ports_or_total h.0 h.1 k.0 h.2 k.1)
  body_same _ _ (b_long h) (b_line k) = absurd (line_or_ports h.0 h.1 k h.3)
  body_same _ _ (b_long h) (b_port k) = absurd (port_or_ports h.0 h.1 k h.3)
  body_same _ _ (b_long h) (b_host k) = absurd (host_or_named h.0 h.1 k h.3 h.4)
  body_same _ _ (b_long h) (b_hex k) = absurd (hex_or_spelled h.0 h.1 h.2 k h.3 h.5)
  body_same _ _ (b_long h) (b_long k) = refl
  body_same _ _ (b_long h) (b_total k) = absurd (ports_or_total h.0 h.1 k.0 h.3 k.1)
  body_same _ _ (b_total h) (b_line k) = absurd (k.1 h.0 h.1)
  body_same _ _ (b_total h) (b_port k) = absurd (fields_or_total k.0 k.1 k.2 k.3 k.4 h.0 k.5 h.1)
  body_same _ _ (b_total h) (b_host k) = absurd (ports_or_total k.0 k.1 h.0 k.2 h.1)
  body_same _ _ (b_total h) (b_hex k) = absurd (ports_or_total k.0 k.1 h.0 k.2 h.1)
  body_same _ _ (b_total h) (b_long k) = absurd (ports_or_total k.0 k.1 h.0 k.3 h.1)
  body_same _ _ (b_total h) (b_total k) = refl

line_same : (due : Due) (count : ℕ) (line : List ℕ) (f g : TextFault) → LineFault due count line f → LineFault due count line g → f ≡ g
line_same Head count line f g p q = p.0 ∙ sym q.0
line_same (EndLine version) count line f g p q = p.0 ∙ sym q.0
line_same (ServiceLine version named) count line f g p q = p.0 ∙ sym q.0
line_same (Body version header) count line f g p q = body_same version count line f g (body_is version count line f p.1) (body_is version count line g q.1)
line_same (Nothing version header) count line f g p q = absurd p

over_or_fault : (due : Due) (count : ℕ) (line : List ℕ) (f : TextFault) → IsOver due → LineFault due count line f → ⊥
over_or_fault Head count line f o h = o
over_or_fault (EndLine version) count line f o h = o
over_or_fault (ServiceLine version named) count line f o h = o
over_or_fault (Body version header) count line f o h = o
over_or_fault (Nothing version header) count line f o h = h

data ByteIs (size : ℕ) (rest : List ℕ) (due : Due) (count byte : ℕ) : TextFault → Type 0 where
  too_long : size ≡ 2 ^ 40 → ByteIs size rest due count byte TextTooLong
  trailing : size < 2 ^ 40 → IsOver due → ByteIs size rest due count byte TrailingText
  long_line : size < 2 ^ 40 → (IsOver due → ⊥) → byte ≢ 10 → ByteIs size rest due count byte LineTooLong
  content : {fault : TextFault} → size < 2 ^ 40 → byte ≡ 10 → LineFault due count rest fault → ByteIs size rest due count byte fault

byte_is : (size : ℕ) (rest : List ℕ) (due : Due) (count byte : ℕ) (fault : TextFault) → ByteFault size rest due count byte fault → ByteIs size rest due count byte fault
byte_is size rest due count byte TextTooLong h = too_long h
byte_is size rest due count byte TrailingText h = trailing h.0 h.1
byte_is size rest due count byte LineTooLong h = long_line h.0 h.1 h.3
byte_is size rest due count byte Truncated h = absurd h
byte_is size rest due count byte BadHeader h = content h.0 h.1 h.2
byte_is size rest due count byte BadEnd h = content h.0 h.1 h.2
byte_is size rest due count byte BadService h = content h.0 h.1 h.2
byte_is size rest due count byte BadLine h = content h.0 h.1 h.2
byte_is size rest due count byte BadPort h = content h.0 h.1 h.2
byte_is size rest due count byte BadHost h = content h.0 h.1 h.2
byte_is size rest due count byte BadHex h = content h.0 h.1 h.2
byte_is size rest due count byte PayloadTooLong h = content h.0 h.1 h.2
byte_is size rest due count byte TotalWrong h = content h.0 h.1 h.2

byte_same : (size : ℕ) (rest : List ℕ) (due : Due) (count byte : ℕ) (f g : TextFault) → ByteIs size rest due count byte f → ByteIs size rest due count byte g → f ≡ g
byte_same size rest due count byte _ _ (too_long p) (too_long q) = refl
byte_same size rest due count byte _ _ (too_long p) (trailing q o) = absurd (omega (arith, p, q))
byte_same size rest due count byte _ _ (too_long p) (long_line q n b) = absurd (omega (arith, p, q))
byte_same size rest due count byte _ _ (too_long p) (content q b h) = absurd (omega (arith, p, q))
byte_same size rest due count byte _ _ (trailing p o) (too_long q) = absurd (omega (arith, p, q))
byte_same size rest due count byte _ _ (trailing p o) (trailing q o2) = refl
byte_same size rest due count byte _ _ (trailing p o) (long_line q n b) = absurd (n o)
byte_same size rest due count byte _ g (trailing p o) (content q b h) = absurd (over_or_fault due count rest g o h)
byte_same size rest due count byte _ _ (long_line p n b) (too_long q) = absurd (omega (arith, p, q))
byte_same size rest due count byte _ _ (long_line p n b) (trailing q o) = absurd (n o)
byte_same size rest due count byte _ _ (long_line p n b) (long_line q n2 b2) = refl
byte_same size rest due count byte _ _ (long_line p n b) (content q b2 h) = absurd (b b2)
byte_same size rest due count byte _ _ (content p b h) (too_long q) = absurd (omega (arith, p, q))
byte_same size rest due count byte f _ (content p b h) (trailing q o) = absurd (over_or_fault due count rest f o h)
byte_same size rest due count byte _ _ (content p b h) (long_line q n b2) = absurd (b2 b)
byte_same size rest due count byte f g (content p b h) (content q b2 k) = line_same due count rest f g h k

-- ---- one text has one reading

stands_same : (text : List ℕ) (lines lines' : List (List ℕ)) (rest rest' : List ℕ) (due due' : Due) (ds ds' : List Numbered) → Stands text lines rest due ds → Stands text lines' rest' due' ds'
    → (lines ≡ lines') × (rest ≡ rest') × (due ≡ due') × (ds ≡ ds')
stands_same text lines lines' rest rest' due due' ds ds' p q =
    let whole = sym p.divided ∙ q.divided in
    let parts : (lines ≡ lines') × (rest ≡ rest') =
    elim (snoc_cases lines lines' [] rest rest' whole) as (λ _. (lines ≡ lines') × (rest ≡ rest')) [
      | inl e ↦ (e.0, e.1)
      | inr e ↦ absurd (omega (arith, ap length e.1, ap length whole, length-append lines' (rest' ∷ e.0), length-append lines (rest ∷ []), length-append lines' (rest' ∷ [])))
    ] in
    let says = says_same lines' due due' ds ds' (subst (λ l. Says l due ds) parts.0 p.says) q.says in
    (parts.0, parts.1, says.0, says.1)

split_longer : (xs ys : List ℕ) (x y : ℕ) (ms ns : List ℕ) → xs ++ x ∷ ms ≡ ys ++ y ∷ ns → length xs < length ys → (more : List ℕ) × (ys ≡ xs ++ x ∷ more)
split_longer [] [] x y ms ns e h = absurd (omega arith)
split_longer [] (b ∷ bs) x y ms ns e h = (bs, ap (λ v. v ∷ bs) (sym (ap (head_or x) e)))
split_longer (a ∷ vs) [] x y ms ns e h = absurd (omega arith)
split_longer (a ∷ vs) (b ∷ bs) x y ms ns e h =
    let more = split_longer vs bs x y ms ns (ap tail_of e) (omega arith) in
    (more.0, ap (λ v. v ∷ bs) (sym (ap (head_or a) e)) ∙ ap (λ v. a ∷ v) more.1)

split_equal : (xs ys : List ℕ) (x y : ℕ) (ms ns : List ℕ) → xs ++ x ∷ ms ≡ ys ++ y ∷ ns → length xs ≡ length ys → (xs ≡ ys) × (x ≡ y)
split_equal [] [] x y ms ns e h = (refl, ap (head_or x) e)
split_equal [] (b ∷ bs) x y ms ns e h = absurd (omega arith)
split_equal (a ∷ vs) [] x y ms ns e h = absurd (omega arith)
split_equal (a ∷ vs) (b ∷ bs) x y ms ns e h =
    let more = split_equal vs bs x y ms ns (ap tail_of e) (omega arith) in
    (ap (λ v. v ∷ vs) (ap (head_or a) e) ∙ ap (λ v. b ∷ v) more.0, more.1)

-- a text that stands has no byte that is wrong
fails_or_stands : (read more text : List ℕ) (byte : ℕ) (ds ds' : List Numbered) (line : ℕ) (fault : TextFault) (lines : List (List ℕ)) (rest : List ℕ) (due : Due) → text ≡ read ++ byte ∷ more
    → FailsAt read byte ds line fault → Stands text lines rest due ds' → ⊥
fails_or_stands read more text byte ds ds' line fault lines rest due e p q =
    no_longer read more byte p.lines lines p.rest rest p.due due ds ds' p.stands (subst (λ t. Stands t lines rest due ds') e q) fault p.wrong

fails_same : (r1 r2 m1 m2 : List ℕ) (b1 b2 : ℕ) (ds1 ds2 : List Numbered) (l1 l2 : ℕ) (f1 f2 : TextFault) → r1 ++ b1 ∷ m1 ≡ r2 ++ b2 ∷ m2 → FailsAt r1 b1 ds1 l1 f1 → FailsAt r2 b2 ds2 l2 f2
    → (ds1 ≡ ds2) × (l1 ≡ l2) × (f1 ≡ f2)
fails_same r1 r2 m1 m2 b1 b2 ds1 ds2 l1 l2 f1 f2 e p q =
    elim (cases_lt (length r1) (length r2)) as (λ _. (ds1 ≡ ds2) × (l1 ≡ l2) × (f1 ≡ f2)) [
      | inl h ↦ let longer = split_longer r1 r2 b1 b2 m1 m2 e h in absurd (fails_or_stands r1 longer.0 r2 b1 ds1 ds2 l1 f1 q.lines q.rest q.due longer.1 p q.stands)
      | inr h ↦ elim (cases_lt (length r2) (length r1)) as (λ _. (ds1 ≡ ds2) × (l1 ≡ l2) × (f1 ≡ f2)) [
        | inl k ↦ let longer = split_longer r2 r1 b2 b1 m2 m1 (sym e) k in absurd (fails_or_stands r2 longer.0 r1 b2 ds2 ds1 l2 f2 p.lines p.rest p.due longer.1 q p.stands)
        | inr k ↦
            let same = split_equal r1 r2 b1 b2 m1 m2 e (omega arith) in
            let at = stands_same r2 p.lines q.lines p.rest q.rest p.due q.due ds1 ds2 (subst (λ t. Stands t p.lines p.rest p.due ds1) same.0 p.stands) q.stands in
            let wrong : ByteFault (length r2) q.rest q.due (length ds2) b2 f1 =
            subst (λ x. ByteFault (length r2) q.rest q.due (length ds2) x f1) same.1 (subst (λ x. ByteFault (length r2) q.rest q.due (length x) b1 f1) at.3 (subst (λ x. ByteFault (length r2) q.rest x (length ds1) b1 f1) at.2
            (subst (λ x. ByteFault (length r2) x p.due (length ds1) b1 f1) at.1 (subst (λ x. ByteFault (length x) p.rest p.due (length ds1) b1 f1) same.0 p.wrong)))) in (
              at.3,
              p.at_line ∙ ap (λ x. length x + 1) at.0 ∙ sym q.at_line,
              byte_same (length r2) q.rest q.due (length ds2) b2 f1 f2 (byte_is (length r2) q.rest q.due (length ds2) b2 f1 wrong) (byte_is (length r2) q.rest q.due (length ds2) b2 f2 q.wrong),
            )
      ]
    ]

-- a fault, as the byte at which it is, or the text's end
pub data FaultIs (text : List ℕ) (ds : List Numbered) (line : ℕ) : TextFault → Type 0 where
  cut : (due : Due) → Unfinished text ds line due → (IsOver due → ⊥) → FaultIs text ds line Truncated
  wrong : {fault : TextFault} (read more : List ℕ) (byte : ℕ) → text ≡ read ++ byte ∷ more → FailsAt read byte ds line fault → FaultIs text ds line fault

pub fault_is : (text : List ℕ) (ds : List Numbered) (line : ℕ) (fault : TextFault) → HasFault text ds line fault → FaultIs text ds line fault
fault_is text ds line Truncated h = cut h.0 h.1 h.2
fault_is text ds line BadHeader h = wrong h.0 h.1 h.2 h.3 h.4
fault_is text ds line BadEnd h = wrong h.0 h.1 h.2 h.3 h.4
fault_is text ds line BadService h = wrong h.0 h.1 h.2 h.3 h.4
fault_is text ds line LineTooLong h = wrong h.0 h.1 h.2 h.3 h.4
fault_is text ds line BadLine h = wrong h.0 h.1 h.2 h.3 h.4
fault_is text ds line BadPort h = wrong h.0 h.1 h.2 h.3 h.4
fault_is text ds line BadHost h = wrong h.0 h.1 h.2 h.3 h.4
fault_is text ds line BadHex h = wrong h.0 h.1 h.2 h.3 h.4
fault_is text ds line PayloadTooLong h = wrong h.0 h.1 h.2 h.3 h.4
fault_is text ds line TotalWrong h = wrong h.0 h.1 h.2 h.3 h.4
fault_is text ds line TrailingText h = wrong h.0 h.1 h.2 h.3 h.4
fault_is text ds line TextTooLong h = wrong h.0 h.1 h.2 h.3 h.4

fault_same : (text : List ℕ) (ds1 ds2 : List Numbered) (l1 l2 : ℕ) (f1 f2 : TextFault) → FaultIs text ds1 l1 f1 → FaultIs text ds2 l2 f2 → (ds1 ≡ ds2) × (l1 ≡ l2) × (f1 ≡ f2)
fault_same text ds1 ds2 l1 l2 _ _ (cut d1 p n) (cut d2 q k) =
    let at = stands_same text p.lines q.lines p.rest q.rest d1 d2 ds1 ds2 p.stands q.stands in (at.3, p.at_line ∙ ap (λ x. length x + 1) at.0 ∙ sym q.at_line, refl)
fault_same text ds1 ds2 l1 l2 _ f2 (cut d1 p n) (wrong r m b e q) = absurd (fails_or_stands r m text b ds2 ds1 l2 f2 p.lines p.rest d1 e q p.stands)
fault_same text ds1 ds2 l1 l2 f1 _ (wrong r m b e p) (cut d2 q k) = absurd (fails_or_stands r m text b ds1 ds2 l1 f1 q.lines q.rest d2 e p q.stands)
fault_same text ds1 ds2 l1 l2 f1 f2 (wrong r1 m1 b1 e1 p) (wrong r2 m2 b2 e2 q) = fails_same r1 r2 m1 m2 b1 b2 ds1 ds2 l1 l2 f1 f2 (sym e1 ∙ e2) p q

capture_or_fault : (text : List ℕ) (header : Header) (ds ds' : List Numbered) (line : ℕ) (fault : TextFault) → IsCapture text header ds → FaultIs text ds' line fault → ⊥
capture_or_fault text header ds ds' line _ p (cut due q n) =
    let at = stands_same text p.1 q.lines [] q.rest (Nothing p.0 header) due ds ds' p.2 q.stands in n (subst IsOver at.2 tt)
capture_or_fault text header ds ds' line fault p (wrong r m b e q) = fails_or_stands r m text b ds' ds line fault p.1 [] (Nothing p.0 header) e q p.2

pub reads_same : (text : List ℕ) (a b : Reading) → Reads text a → Reads text b → a ≡ b
reads_same text (Capture h ds) (Capture h' ds') p q =
    let at = stands_same text p.1 q.1 [] [] (Nothing p.0 h) (Nothing q.0 h') ds ds' p.2 q.2 in
    let same : Nothing p.0 h ≡ Nothing q.0 h' = at.2 in
    let header : h ≡ h' = cc in
    ap (λ x. Capture x ds) header ∙ ap (λ x. Capture h' x) at.3
reads_same text (Capture h ds) (Fault ds' line fault) p q = absurd (capture_or_fault text h ds ds' line fault p (fault_is text ds' line fault q))
reads_same text (Fault ds line fault) (Capture h' ds') p q = absurd (capture_or_fault text h' ds' ds line fault q (fault_is text ds line fault p))
reads_same text (Fault ds line fault) (Fault ds' line' fault') p q =
    let same = fault_same text ds ds' line line' fault fault' (fault_is text ds line fault p) (fault_is text ds' line' fault' q) in
    ap (λ x. Fault x line fault) same.0 ∙ ap (λ x. Fault ds' x fault) same.1 ∙ ap (λ x. Fault ds' line' x) same.2
