-- What the pieces of a line say, and what is wrong with them.
use Rattle.std.proofs.Common.{◌≡◌, ◌≢◌, ℕ, ◌≤◌, ◌==◌, true, false, List, [], ◌∷◌, length, codes, decimal, Option, None, Some, Err, MatchOption, Result, Ok, is_some, true≢false, refl, sym, ap, ◌∙◌, subst, arith}
use Rattle.std.specs.List.{join_with_byte}
use Rattle.std.proofs.lemmas.List.Splits.{length-slice_split, join_with_byte-slice_split}
use Rattle.tftp_packet.specs.Hosts.{IsHost}
use Rattle.tftp_packet.specs.{Dir, In, Out}
use Rattle.tftp_capture.specs.{BadHeader, BadEnd, BadService, LineTooLong, BadLine, BadPort, BadHost, BadHex, PayloadTooLong, TotalWrong, Truncated, TrailingText, TextTooLong, LineError, BeginWithFields, BodyEnds, DatagramEnds, PayloadEnds, TotalEnds, filled, dir_word, pieces, total_line, AreFields, BodyFault, HasFields, HasPorts, SpellsPort, Version, One, Two}
use Rattle.tftp_capture.specs.declared.line_error.LineError.TheVariants.{Text, Read, Memory}

pub some_piece : (xs : List ℕ) → 1 ≤ length (pieces xs)
some_piece xs = omega (arith, length-slice_split (λ b. b == 32) xs)

pub dir_not_total : (dir : Dir) → dir_word dir ≢ codes "total"
dir_not_total In e = absurd (omega (arith, ap length e))
dir_not_total Out e = absurd (omega (arith, ap length e))

-- ---- the fields of a datagram's line

pub fields_word : (version : Version) (first : List ℕ) (ps : List (List ℕ)) (word local host remote digits : List ℕ) → AreFields version (first ∷ ps) word local host remote digits → first ≡ word
fields_word One first ps word local host remote digits p = let is : first ∷ ps ≡ word ∷ local ∷ remote ∷ digits ∷ [] = p.0 in cc
fields_word Two first ps word local host remote digits p = let is : first ∷ ps ≡ word ∷ local ∷ host ∷ remote ∷ digits ∷ [] = p in cc

-- pieces are one word and one list of fields
pub fields_same : (version : Version) (ps : List (List ℕ)) (w l h r d w' l' h' r' d' : List ℕ) → AreFields version ps w l h r d → AreFields version ps w' l' h' r' d' → (w ≡ w') × (l ≡ l') × (h ≡ h') × (r ≡ r') × (d ≡ d')
fields_same One ps w l h r d w' l' h' r' d' p q =
    let cut : w ∷ l ∷ r ∷ d ∷ [] ≡ w' ∷ l' ∷ r' ∷ d' ∷ [] = sym p.0 ∙ q.0 in
    (cc, cc, p.1 ∙ sym q.1, cc, cc)
fields_same Two ps w l h r d w' l' h' r' d' p q =
    let cut : w ∷ l ∷ h ∷ r ∷ d ∷ [] ≡ w' ∷ l' ∷ h' ∷ r' ∷ d' ∷ [] = sym p ∙ q in
    (cc, cc, cc, cc, cc)

-- ---- what is wrong with the pieces

-- a first word that is a direction, and no fields
pub bad_fields : (version : Version) (count : ℕ) (line : List ℕ) (dir : Dir) (rest : List (List ℕ)) → pieces line ≡ dir_word dir ∷ rest
    → ((local host remote digits : List ℕ) → AreFields version (dir_word dir ∷ rest) (dir_word dir) local host remote digits → ⊥) → BodyFault version count line BadLine
bad_fields version count line dir rest is none = (
  λ word local host remote digits h.
      let cut : AreFields version (dir_word dir ∷ rest) word local host remote digits = rw is at h.cut in
      let same : dir_word dir ≡ word = fields_word version (dir_word dir) rest word local host remote digits cut in
      none local host remote digits (subst (λ w. AreFields version (dir_word dir ∷ rest) w local host remote digits) (sym same) cut),
  λ number e. dir_not_total dir (let same : dir_word dir ∷ rest ≡ codes "total" ∷ number ∷ [] = sym is ∙ e in cc),
)

-- a line of the total has no fields of a datagram
pub total_no_fields : (version : Version) (line word local host remote digits : List ℕ) (rest : List (List ℕ)) → pieces line ≡ codes "total" ∷ rest → HasFields version line word local host remote digits → ⊥
total_no_fields version line word local host remote digits rest is h =
    dir_not_total h.dir.0 (sym h.dir.1 ∙ sym (fields_word version (codes "total") rest word local host remote digits (rw is at h.cut)))

-- `total` and not one piece after it
pub bad_total : (version : Version) (count : ℕ) (line : List ℕ) (rest : List (List ℕ)) → pieces line ≡ codes "total" ∷ rest → length rest ≢ 1 → BodyFault version count line BadLine
bad_total version count line rest is few = (
  λ word local host remote digits h. total_no_fields version line word local host remote digits rest is h,
  λ number e. few (omega (arith, ap length (sym is ∙ e))),
)

pub is_total : (count : ℕ) (line : List ℕ) → pieces line ≡ codes "total" ∷ decimal count ∷ [] → line ≡ total_line count
is_total count line is = sym (join_with_byte-slice_split 32 line) ∙ ap (join_with_byte 32) is

pub has_ports : (version : Version) (line local host remote digits : List ℕ) (dir : Dir) (l r : ℕ) → AreFields version (pieces line) (dir_word dir) local host remote digits → SpellsPort local l → SpellsPort remote r → HasPorts version line host digits
has_ports version line local host remote digits dir l r is sl sr = record {
  word = dir_word dir;
  local = local;
  remote = remote;
  fields = record { cut = is; dir = (dir, refl) };
  local_port = (l, sl);
  remote_port = (r, sr);
}

pub ports_same : (version : Version) (line host digits host' digits' : List ℕ) → HasPorts version line host digits → HasPorts version line host' digits' → (host ≡ host') × (digits ≡ digits')
ports_same version line host digits host' digits' p q =
    let same = fields_same version (pieces line) p.word p.local host p.remote digits q.word q.local host' q.remote digits' p.fields.cut q.fields.cut in
    (same.2, same.4)

pub cut_some : {P : Type 0} (first rest : P → List ℕ) (xs : List ℕ) (r : Option P) → MatchOption r (pieces xs ≡ xs ∷ []) (λ p. pieces xs ≡ first p ∷ pieces (rest p))
    → true ≡ is_some r → (a b : List ℕ) × (pieces xs ≡ a ∷ pieces b)
cut_some first rest xs None m e = absurd (true≢false e)
cut_some first rest xs (Some p) m e = (first p, rest p, m)

pub cut_none : {P : Type 0} (first rest : P → List ℕ) (xs : List ℕ) (r : Option P) → MatchOption r (pieces xs ≡ xs ∷ []) (λ p. pieces xs ≡ first p ∷ pieces (rest p))
    → false ≡ is_some r → pieces xs ≡ xs ∷ []
cut_none first rest xs None m e = m
cut_none first rest xs (Some p) m e = absurd (true≢false (sym e))

-- the fields and digits of one piece
pub whole_fields : (version : Version) (ps : List (List ℕ)) (word local host remote digits : List ℕ) → BeginWithFields version ps word local host remote (pieces digits) → pieces digits ≡ digits ∷ []
    → AreFields version ps word local host remote digits
whole_fields One ps word local host remote digits p one = (p.0 ∙ ap (λ l. word ∷ local ∷ remote ∷ l) one, p.1)
whole_fields Two ps word local host remote digits p one = p ∙ ap (λ l. word ∷ local ∷ host ∷ remote ∷ l) one

-- where they are more pieces, the line has one too many
pub too_many : (version : Version) (ps : List (List ℕ)) (word local host remote a b : List ℕ) (rest : List (List ℕ)) → BeginWithFields version ps word local host remote rest → rest ≡ a ∷ pieces b
    → (w l h r d : List ℕ) → AreFields version ps w l h r d → ⊥
too_many One ps word local host remote a b rest p more w l h r d q = absurd (omega (arith, ap length p.0, ap length more, some_piece b, ap length q.0))
too_many Two ps word local host remote a b rest p more w l h r d q = absurd (omega (arith, ap length p, ap length more, some_piece b, ap length q))

-- the last field spells no payload, or memory was refused for the one that it spells
pub payload_stop : (version : Version) (count : ℕ) (line local host remote digits : List ℕ) (dir : Dir) (l r : ℕ) → AreFields version (pieces line) (dir_word dir) local host remote digits → SpellsPort local l → SpellsPort remote r → IsHost host
    → (error : LineError) → PayloadEnds (Err error) digits → DatagramEnds version (Err error) line count
payload_stop version count line local host remote digits dir l r is sl sr sh (Text BadHex) p = (host, digits, has_ports version line local host remote digits dir l r is sl sr, sh, p)
payload_stop version count line local host remote digits dir l r is sl sr sh (Text PayloadTooLong) p = (host, digits, p.0, has_ports version line local host remote digits dir l r is sl sr, sh, p.1, p.2)
payload_stop version count line local host remote digits dir l r is sl sr sh Memory p = (
  record { dir = dir; local = l; host = host; remote = r; payload = p.0 },
  record { local = local; remote = remote; digits = digits; cut = is; local_port = sl; host = sh; remote_port = sr; payload = p.1; fits = p.2 },
)
payload_stop version count line local host remote digits dir l r is sl sr sh Read p = absurd p
payload_stop version count line local host remote digits dir l r is sl sr sh (Text BadHeader) p = absurd p
payload_stop version count line local host remote digits dir l r is sl sr sh (Text BadEnd) p = absurd p
payload_stop version count line local host remote digits dir l r is sl sr sh (Text BadService) p = absurd p
payload_stop version count line local host remote digits dir l r is sl sr sh (Text LineTooLong) p = absurd p
payload_stop version count line local host remote digits dir l r is sl sr sh (Text BadLine) p = absurd p
payload_stop version count line local host remote digits dir l r is sl sr sh (Text BadPort) p = absurd p
payload_stop version count line local host remote digits dir l r is sl sr sh (Text BadHost) p = absurd p
payload_stop version count line local host remote digits dir l r is sl sr sh (Text TotalWrong) p = absurd p
payload_stop version count line local host remote digits dir l r is sl sr sh (Text Truncated) p = absurd p
payload_stop version count line local host remote digits dir l r is sl sr sh (Text TrailingText) p = absurd p
payload_stop version count line local host remote digits dir l r is sl sr sh (Text TextTooLong) p = absurd p

-- the datagram that was filled with the payload, or why there is none
pub payload_ends : (version : Version) (count : ℕ) (line local host remote digits : List ℕ) (dir : Dir) (l r : ℕ) → AreFields version (pieces line) (dir_word dir) local host remote digits → SpellsPort local l → SpellsPort remote r → IsHost host
    → (ended : Result (Unit {0}) LineError) (payload : List ℕ) → PayloadEnds (filled ended payload) digits
    → DatagramEnds version (filled ended (record { dir = dir; local_port = l; remote_host = host; remote_port = r; payload = payload })) line count
payload_ends version count line local host remote digits dir l r is sl sr sh (Ok _) payload p =
    record { local = local; remote = remote; digits = digits; cut = is; local_port = sl; host = sh; remote_port = sr; payload = p.0; fits = p.1 }
payload_ends version count line local host remote digits dir l r is sl sr sh (Err error) payload p = payload_stop version count line local host remote digits dir l r is sl sr sh error p

-- what is wrong with a line of the total is wrong with a line
pub total_stop : (version : Version) (count : ℕ) (line : List ℕ) (error : LineError) → TotalEnds version (Err error) line count → BodyEnds version (Err error) line count
total_stop version count line (Text fault) p = p
total_stop version count line Read p = absurd p
total_stop version count line Memory p = absurd p
