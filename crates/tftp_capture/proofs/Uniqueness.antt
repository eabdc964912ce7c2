-- A text says one thing only.
use Rattle.std.proofs.Common.{◌≡◌, ◌≢◌, ℕ, ◌+◌, ◌^◌, ◌<◌, ◌≤◌, ◌==◌, ◌⊎◌, inl, inr, false, true≢false, List, [], ◌∷◌, ◌++◌, length, All, codes, decimal, refl, sym, ap, ◌∙◌, subst, arith, append-nil, length-append, ne_eqb}
use Rattle.std.specs.List.{join_with_byte, onto_first}
use Rattle.std.proofs.lemmas.List.Sums.{count_by-le-length}
use Rattle.std.proofs.lemmas.List.Splits.{join_with_byte-slice_split, length-slice_split, slice_split_none}
use Rattle.std.proofs.lemmas.Bool.{cases_eq}
use Rattle.std.proofs.lemmas.List.Elements.{All-head, All-tail}
use Rattle.tftp_packet.specs.Hosts.{IsHost}
use Rattle.tftp_capture.specs.{TextFault, BadHeader, BadEnd, BadService, LineTooLong, BadLine, BadPort, BadHost, BadHex, PayloadTooLong, TotalWrong, Truncated, TrailingText, TextTooLong, BodyFault, ByteFault, Due, HasFields, HasPorts, IsOver, LineFault, Numbered, SaysDatagram, Says, Stands, SpellsPayload, SpellsPort, dir_word, longest, pieces, total_line, Version}
use Rattle.tftp_capture.specs.CaptureText.{Datagram}
use Rattle.tftp_capture.specs.CaptureText.Due.{Head, EndLine, ServiceLine, Body, Nothing}
use Rattle.tftp_capture.proofs.Canonical.{no_space, plain_decimal}
use Rattle.tftp_capture.proofs.Pieces.{fields_same, has_ports, ports_same, total_no_fields}
use Rattle.tftp_capture.proofs.Texts.{at_ends, at_ends-after, some_line}
use Rattle.tftp_capture.proofs.Walks.{Step, head_or, line_fits, may_follow, payload_same, says_count, says_same, tail_of}

-- the ports of a line that says a datagram
says_ports : (version : Version) (line : List ℕ) (d : Datagram) (p : SaysDatagram version line d) → HasPorts version line d.host p.digits
says_ports version line d p = has_ports version line p.local d.host p.remote p.digits d.dir d.local d.remote p.cut p.local_port p.remote_port

-- a line that says a datagram has no fault
datagram_ok : (version : Version) (count : ℕ) (line : List ℕ) (d : Datagram) (fault : TextFault) → SaysDatagram version line d → BodyFault version count line fault → ⊥
datagram_ok version count line d BadLine p h = h.0 (dir_word d.dir) p.local d.host p.remote p.digits (record { cut = p.cut; dir = (d.dir, refl) })
datagram_ok version count line d BadPort p h =
    let same = fields_same version (pieces line) (dir_word d.dir) p.local d.host p.remote p.digits h.0 h.1 h.2 h.3 h.4 p.cut h.5.cut in
    h.6 d.local d.remote (subst (λ l. SpellsPort l d.local) same.1 p.local_port) (subst (λ l. SpellsPort l d.remote) same.3 p.remote_port)
datagram_ok version count line d BadHost p h = h.3 (subst IsHost (ports_same version line d.host p.digits h.0 h.1 (says_ports version line d p) h.2).0 p.host)
datagram_ok version count line d BadHex p h =
    let digits = (ports_same version line d.host p.digits h.0 h.1 (says_ports version line d p) h.2).1 in
    h.4 d.payload (subst (λ l. SpellsPayload l d.payload) digits p.payload)
datagram_ok version count line d PayloadTooLong p h =
    let digits = (ports_same version line d.host p.digits h.0 h.1 (says_ports version line d p) h.3).1 in
    let same = payload_same h.1 d.payload h.2 (subst (λ l. SpellsPayload l d.payload) digits p.payload) h.5 in
    absurd (omega (arith, ap length same, h.6, p.fits))
datagram_ok version count line d TotalWrong p h = total_no_fields version line (dir_word d.dir) p.local d.host p.remote p.digits (h.0 ∷ []) h.1 (record { cut = p.cut; dir = (d.dir, refl) })
datagram_ok version count line d BadHeader p h = h
datagram_ok version count line d BadEnd p h = h
datagram_ok version count line d BadService p h = h
datagram_ok version count line d LineTooLong p h = h
datagram_ok version count line d Truncated p h = h
datagram_ok version count line d TrailingText p h = h
datagram_ok version count line d TextTooLong p h = h

-- the total line has no fault
no_fields : (version : Version) (count : ℕ) (line word local host remote digits : List ℕ) → line ≡ total_line count → HasFields version line word local host remote digits → ⊥
no_fields version count line word local host remote digits e h = total_no_fields version line word local host remote digits (pieces (decimal count)) (ap pieces e) h

no_ports : (version : Version) (count : ℕ) (line host digits : List ℕ) → line ≡ total_line count → HasPorts version line host digits → ⊥
no_ports version count line host digits e h = no_fields version count line h.word h.local host h.remote digits e h.fields

total_ok : (version : Version) (count : ℕ) (line : List ℕ) (fault : TextFault) → count < 2 ^ 64 → line ≡ total_line count → BodyFault version count line fault → ⊥
total_ok version count line BadLine small e h =
    h.1 (decimal count) (ap pieces e ∙ ap (λ s. codes "total" ∷ s) (slice_split_none (λ b. b == 32) (decimal count) (no_space (decimal count) (plain_decimal count small))))
total_ok version count line BadPort small e h = no_fields version count line h.0 h.1 h.2 h.3 h.4 e h.5
total_ok version count line BadHost small e h = no_ports version count line h.0 h.1 e h.2
total_ok version count line BadHex small e h = no_ports version count line h.0 h.1 e h.2
total_ok version count line PayloadTooLong small e h = no_ports version count line h.0 h.1 e h.3
total_ok version count line TotalWrong small e h =
    let cut : codes "total" ∷ pieces (decimal count) ≡ codes "total" ∷ h.0 ∷ [] = sym (ap pieces e) ∙ h.1 in
    let rest : pieces (decimal count) ≡ h.0 ∷ [] = cc in
    h.2 (sym (sym (join_with_byte-slice_split 32 (decimal count)) ∙ ap (join_with_byte 32) rest))
total_ok version count line BadHeader small e h = h
total_ok version count line BadEnd small e h = h
total_ok version count line BadService small e h = h
total_ok version count line LineTooLong small e h = h
total_ok version count line Truncated small e h = h
total_ok version count line TrailingText small e h = h
total_ok version count line TextTooLong small e h = h

-- a line that may follow has no fault
pub line_ok : (due : Due) (k : ℕ) (ds : List Numbered) (line : List ℕ) (mid : Due) (after : List Numbered) (fault : TextFault) → length ds < 2 ^ 64 → Step due k ds line mid after → LineFault due (length ds) line fault → ⊥
line_ok Head k ds line mid after fault small p h = h.1 p.0 p.1
line_ok (EndLine version) k ds line mid after fault small (inl p) h = true≢false (sym p.0 ∙ h.1)
line_ok (EndLine version) k ds line mid after fault small (inr p) h = h.2 p.0 p.1
line_ok (ServiceLine version named) k ds line mid after fault small (inl p) h = true≢false (sym p.0 ∙ h.1)
line_ok (ServiceLine version named) k ds line mid after fault small (inr p) h = h.2 p.0 p.1 p.2
line_ok (Body version header) k ds line mid after fault small (inl p) h = true≢false (sym p.0 ∙ h.0)
line_ok (Body version header) k ds line mid after fault small (inr (inl p)) h = datagram_ok version (length ds) line p.0 fault p.2 h.1
line_ok (Body version header) k ds line mid after fault small (inr (inr p)) h = total_ok version (length ds) line fault small p.0 h.1
line_ok (Nothing version header) k ds line mid after fault small p h = p

-- ---- where a byte is wrong, no longer text stands

nothing_follows : (due : Due) (line : List ℕ) (ds : List Numbered) → IsOver due → (k : ℕ) × (mid : Due) × (after : List Numbered) × Step due k ds line mid after → ⊥
nothing_follows Head line ds over s = over
nothing_follows (EndLine version) line ds over s = over
nothing_follows (ServiceLine version named) line ds over s = over
nothing_follows (Body version header) line ds over s = over
nothing_follows (Nothing version header) line ds over s = s.3

pub snoc_cases : {A : Type 0} (xs ys zs : List A) (x y : A) → xs ++ x ∷ [] ≡ ys ++ y ∷ zs → ((xs ≡ ys) × (x ≡ y) × (zs ≡ [])) ⊎ ((more : List A) × (xs ≡ ys ++ y ∷ more))
snoc_cases [] [] zs x y e = inl (refl, ap (head_or x) e, sym (ap tail_of e))
snoc_cases (a ∷ vs) [] zs x y e = inr (vs, ap (λ v. v ∷ vs) (ap (head_or a) e))
snoc_cases [] (w ∷ ws) zs x y e = absurd (omega (arith, ap length e, length-append ws (y ∷ zs)))
snoc_cases (a ∷ vs) (w ∷ ws) zs x y e =
    let first : a ≡ w = ap (head_or a) e in
    elim (snoc_cases vs ws zs x y (ap tail_of e)) as (λ _. (((a ∷ vs) ≡ w ∷ ws) × (x ≡ y) × (zs ≡ [])) ⊎ ((more : _) × ((a ∷ vs) ≡ (w ∷ ws) ++ y ∷ more))) [
      | inl p ↦ inl (ap (λ v. v ∷ vs) first ∙ ap (λ v. w ∷ v) p.0, p.1, p.2)
      | inr p ↦ inr (p.0, ap (λ v. v ∷ vs) first ∙ ap (λ v. w ∷ v) p.1)
    ]

all_at : (size : ℕ) (lines more : List (List ℕ)) (line : List ℕ) → All (λ (l : List ℕ). length l ≤ size) (lines ++ line ∷ more) → length line ≤ size
all_at size [] more line h = All-head (λ (l : List ℕ). length l ≤ size) line more h
all_at size (l ∷ ls) more line h = all_at size ls more line (All-tail (λ (x : List ℕ). length x ≤ size) l (ls ++ line ∷ more) h)

module _ (read more : List ℕ) (byte : ℕ) (lines lines' : List (List ℕ)) (rest rest' : List ℕ) (due due' : Due) (ds ds' : List Numbered)
    (stands : Stands read lines rest due ds) (longer : Stands (read ++ byte ∷ more) lines' rest' due' ds') where
  few : length ds < 2 ^ 64
  few =
      let lines_few : length lines + 1 ≤ length read + 1 = omega (arith, ap length stands.divided, length-append lines (rest ∷ []), length-slice_split (λ b. b == 10) read, count_by-le-length (λ b. b == 10) read) in
      omega (arith, says_count lines due ds stands.says, stands.short)

  -- the byte ends the line
  at_lf : byte ≡ 10 → (others : List (List ℕ)) × (lines' ≡ lines ++ rest ∷ others)
  at_lf is =
      let other = some_line more in
      let after : at_ends (byte ∷ more) ≡ [] ∷ other.0 ∷ other.1 = rw is (ap (λ s. [] ∷ s) other.2) in
      let whole = sym longer.divided ∙ at_ends-after read (byte ∷ more) lines rest [] (other.0 ∷ other.1) stands.divided after in
      elim (snoc_cases lines' lines (other.0 ∷ other.1) rest' (rest ++ []) whole) as (λ _. (others : List (List ℕ)) × (lines' ≡ lines ++ rest ∷ others)) [
        | inl p ↦ absurd (omega (arith, ap length p.2))
        | inr p ↦ (p.0, rw append-nil at p.1)
      ]

  -- the byte belongs to the line
  in_line : byte ≢ 10 → (tail : List ℕ) × (((others : List (List ℕ)) × (lines' ≡ lines ++ (rest ++ byte ∷ tail) ∷ others)) ⊎ ((lines' ≡ lines) × (rest' ≡ rest ++ byte ∷ tail)))
  in_line is =
      let other = some_line more in
      let no : (byte == 10) ≡ false = ne_eqb byte 10 is in
      let after : at_ends (byte ∷ more) ≡ (byte ∷ other.0) ∷ other.1 = rw no (ap (onto_first byte) other.2) in
      let whole = sym longer.divided ∙ at_ends-after read (byte ∷ more) lines rest (byte ∷ other.0) other.1 stands.divided after in (
        other.0,
        elim (snoc_cases lines' lines other.1 rest' (rest ++ byte ∷ other.0) whole) as (λ _. ((others : List (List ℕ)) × (lines' ≡ lines ++ (rest ++ byte ∷ other.0) ∷ others)) ⊎ ((lines' ≡ lines) × (rest' ≡ rest ++ byte ∷ other.0))) [
          | inl p ↦ inr (p.0, p.1)
          | inr p ↦ inl (p.0, p.1)
        ],
      )

  -- the line whose LF the byte is has no fault
  no_line_fault : byte ≡ 10 → (fault : TextFault) → LineFault due (length ds) rest fault → ⊥
  no_line_fault is fault h =
      let at = at_lf is in
      let step = may_follow lines at.0 rest due due' ds ds' stands.says (subst (λ l. Says l due' ds') at.1 longer.says) in
      line_ok due step.0 ds rest step.1 step.2 fault few step.3 h

  not_over_after : IsOver due → ⊥
  not_over_after over =
      let empty : rest ≡ [] = stands.last over in
      let follow : (line : List ℕ) (others : List (List ℕ)) → lines' ≡ lines ++ line ∷ others → ⊥ =
      λ line others e. nothing_follows due line ds over (may_follow lines others line due due' ds ds' stands.says (subst (λ l. Says l due' ds') e longer.says)) in
      elim (cases_eq byte 10) as (λ _. ⊥) [
        | inl is ↦ let at = at_lf is in follow rest at.0 at.1
        | inr is ↦ elim (in_line is).1 as (λ _. ⊥) [
          | inl p ↦ follow (rest ++ byte ∷ (in_line is).0) p.0 p.1
          | inr p ↦
              let same = says_same lines due due' ds ds' stands.says (subst (λ l. Says l due' ds') p.0 longer.says) in
              let none : rest' ≡ [] = longer.last (subst IsOver same.0 over) in
              absurd (omega (arith, ap length (sym none ∙ p.1), length-append rest (byte ∷ (in_line is).0)))
        ]
      ]

  not_too_long : byte ≢ 10 → length rest ≡ longest due → ⊥
  not_too_long is size =
      let line = rest ++ byte ∷ (in_line is).0 in
      elim (in_line is).1 as (λ _. ⊥) [
        | inl p ↦
            let narrow : length line ≤ longest due' = all_at (longest due') lines p.0 line (subst (λ l. All (λ (x : List ℕ). length x ≤ longest due') l) p.1 longer.narrow) in
            absurd (omega (arith, line_fits lines p.0 line due due' ds ds' stands.says (subst (λ l. Says l due' ds') p.1 longer.says) narrow, length-append rest (byte ∷ (in_line is).0), size))
        | inr p ↦
            let same = says_same lines due due' ds ds' stands.says (subst (λ l. Says l due' ds') p.0 longer.says) in
            absurd (omega (arith, ap length p.1, longer.narrow_rest, ap longest same.0, length-append rest (byte ∷ (in_line is).0), size))
      ]

  no_room : length read ≡ 2 ^ 40 → ⊥
  no_room size = absurd (omega (arith, longer.short, length-append read (byte ∷ more), size))

-- where a byte is wrong, no longer text stands
pub no_longer : (read more : List ℕ) (byte : ℕ) (lines lines' : List (List ℕ)) (rest rest' : List ℕ) (due due' : Due) (ds ds' : List Numbered) → Stands read lines rest due ds
    → Stands (read ++ byte ∷ more) lines' rest' due' ds' → (fault : TextFault) → ByteFault (length read) rest due (length ds) byte fault → ⊥
no_longer read more byte lines lines' rest rest' due due' ds ds' p q TextTooLong h = no_room read more byte lines lines' rest rest' due due' ds ds' p q h
no_longer read more byte lines lines' rest rest' due due' ds ds' p q TrailingText h = not_over_after read more byte lines lines' rest rest' due due' ds ds' p q h.1
no_longer read more byte lines lines' rest rest' due due' ds ds' p q LineTooLong h = not_too_long read more byte lines lines' rest rest' due due' ds ds' p q h.3 h.2
no_longer read more byte lines lines' rest rest' due due' ds ds' p q Truncated h = h
no_longer read more byte lines lines' rest rest' due due' ds ds' p q BadHeader h = no_line_fault read more byte lines lines' rest rest' due due' ds ds' p q h.1 BadHeader h.2
no_longer read more byte lines lines' rest rest' due due' ds ds' p q BadEnd h = no_line_fault read more byte lines lines' rest rest' due due' ds ds' p q h.1 BadEnd h.2
no_longer read more byte lines lines' rest rest' due due' ds ds' p q BadService h = no_line_fault read more byte lines lines' rest rest' due due' ds ds' p q h.1 BadService h.2
no_longer read more byte lines lines' rest rest' due due' ds ds' p q BadLine h = no_line_fault read more byte lines lines' rest rest' due due' ds ds' p q h.1 BadLine h.2
no_longer read more byte lines lines' rest rest' due due' ds ds' p q BadPort h = no_line_fault read more byte lines lines' rest rest' due due' ds ds' p q h.1 BadPort h.2
no_longer read more byte lines lines' rest rest' due due' ds ds' p q BadHost h = no_line_fault read more byte lines lines' rest rest' due due' ds ds' p q h.1 BadHost h.2
no_longer read more byte lines lines' rest rest' due due' ds ds' p q BadHex h = no_line_fault read more byte lines lines' rest rest' due due' ds ds' p q h.1 BadHex h.2
no_longer read more byte lines lines' rest rest' due due' ds ds' p q PayloadTooLong h = no_line_fault read more byte lines lines' rest rest' due due' ds ds' p q h.1 PayloadTooLong h.2
no_longer read more byte lines lines' rest rest' due due' ds ds' p q TotalWrong h = no_line_fault read more byte lines lines' rest rest' due due' ds ds' p q h.1 TotalWrong h.2
