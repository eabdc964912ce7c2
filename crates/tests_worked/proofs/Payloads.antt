-- What payloads spell, by computation.
use Rattle.std.proofs.Common.{◌≡◌, ◌≢◌, ℕ, ◌<◌, ◌+◌, ◌*◌, ◌/◌, ◌%◌, ◌&&◌, not, nat_lt, nat_le, Bool, true, false, List, [], ◌∷◌, ◌++◌, length, codes, map as each, refl, sym, ap, subst, arith}
use Rattle.std.proofs.Math.Nat.{div-add-mod}
use Rattle.std.proofs.lemmas.Bool.{and_parts, leb-true, ltb-true, false≢true}
use Rattle.std.proofs.lemmas.Slice.Eq.{bytes_eq-Decides}
use Rattle.std.specs.Str.{bytes_eq}
use Rattle.std.specs.List.{AllByRecursion, list_all}
use Rattle.std.specs.FinMap as map
use Rattle.tftp_packet.specs.{OptionMap, Num, lower, value_of, is_known_number, is_number, range_of, Message, IsString, AreStrings, Pair, pair_strings, AreNamed, SameName, AreApart, map_of, Spells, mode_name, side_opcode, Side, Mode, Octet}
use Rattle.tftp_packet.specs.Hosts.{Datagram}
use Rattle.tests_worked.specs.{request, request_for, oack, block, ack, by_eight, by_four, by_two, error}
use Rattle.law_model.specs.Model.{eight_a_block, eight_by_four}

-- a datagram with what it spells
abbrev pub Spelled : Type 0
Spelled = Datagram × Message

abbrev pub datagrams : List Spelled → List Datagram
datagrams es = each (λ (e : Spelled). e.0) es

abbrev pub AllSpelled : List Spelled → Type 0
AllSpelled [] = Unit {0}
AllSpelled (e ∷ es) = Spells e.0.payload e.1 × AllSpelled es

module _ {X : Type 0} (test : X → Bool) (P : X → Type 0) (tells : (x : X) → test x ≡ true → P x) where
  pub all_from : (xs : List X) → list_all test xs ≡ true → AllByRecursion P xs
  all_from [] e = tt
  all_from (x ∷ xs) e = let parts = and_parts (test x) (list_all test xs) e in (tells x parts.0, all_from xs parts.1)

abbrev pub all_bytes : List ℕ → Bool
all_bytes xs = list_all (λ b. nat_lt b 256) xs

abbrev pub is_string : List ℕ → Bool
is_string s = list_all (λ b. nat_lt 0 b) s

abbrev pub is_some : List ℕ → Bool
is_some s = nat_lt 0 (length s)

abbrev pub are_apart : List Pair → Bool
are_apart [] = true
are_apart (pair ∷ pairs) = list_all (λ later. not (bytes_eq (lower pair.0) (lower later.0))) pairs && are_apart pairs

pub bytes_are : (xs : List ℕ) → all_bytes xs ≡ true → AllByRecursion (λ b. b < 256) xs
bytes_are = all_from (λ b. nat_lt b 256) (λ b. b < 256) (λ b e. ltb-true b 256 e)

string_is : (s : List ℕ) → is_string s ≡ true → IsString s
string_is = all_from (λ b. nat_lt 0 b) (λ b. b ≢ 0) (λ b e is. let low = ltb-true 0 b e in omega arith)

strings_are : (ss : List (List ℕ)) → list_all is_string ss ≡ true → AreStrings ss
strings_are = all_from is_string IsString string_is

named_are : (pairs : List Pair) → list_all (λ (pair : Pair). is_some pair.0) pairs ≡ true → AreNamed pairs
named_are = all_from (λ (pair : Pair). is_some pair.0) (λ pair. pair.0 ≢ []) (λ pair e none. let low = ltb-true 0 (length pair.0) e in let no = ap length none in omega arith)

apart_from : (pair later : Pair) → not (bytes_eq (lower pair.0) (lower later.0)) ≡ true → SameName pair later → ⊥
apart_from pair later e same =
    let is = (bytes_eq-Decides (lower pair.0) (lower later.0)).1 same in
    false≢true (subst (λ (b : Bool). not b ≡ true) is e)

apart_are : (pairs : List Pair) → are_apart pairs ≡ true → AreApart pairs
apart_are [] e = tt
apart_are (pair ∷ pairs) e =
    let parts = and_parts (list_all (λ later. not (bytes_eq (lower pair.0) (lower later.0))) pairs) (are_apart pairs) e in
    (all_from (λ (later : Pair). not (bytes_eq (lower pair.0) (lower later.0))) (λ later. SameName pair later → ⊥) (apart_from pair) pairs parts.0, apart_are pairs parts.1)

abbrev pub pairs_ok : List Pair → Bool
pairs_ok pairs = list_all (λ (pair : Pair). is_some pair.0) pairs && are_apart pairs

abbrev pub request_for_ok : List ℕ → List ℕ → Side → List Pair → Bool
request_for_ok name mode_text side pairs =
    all_bytes (request_for name mode_text (side_opcode side) pairs)
    && (nat_le (length (request_for name mode_text (side_opcode side) pairs)) 512 && (list_all is_string (name ∷ mode_text ∷ pair_strings pairs) && pairs_ok pairs))

pub request_for_spells : (name mode_text : List ℕ) (mode : Mode) (side : Side) (pairs : List Pair) (options : OptionMap) → request_for_ok name mode_text side pairs ≡ true → lower mode_text ≡ mode_name mode
    → options ≡ map_of pairs → Spells (request_for name mode_text (side_opcode side) pairs) (Message.Request (record { side = side; name = name; mode = mode; options = options }))
request_for_spells name mode_text mode side pairs options e named is =
    let payload = request_for name mode_text (side_opcode side) pairs in
    let strung = list_all is_string (name ∷ mode_text ∷ pair_strings pairs) && pairs_ok pairs in
    let a = and_parts (all_bytes payload) (nat_le (length payload) 512 && strung) e in
    let b = and_parts (nat_le (length payload) 512) strung a.1 in
    let c = and_parts (list_all is_string (name ∷ mode_text ∷ pair_strings pairs)) (pairs_ok pairs) b.1 in
    let d = and_parts (list_all (λ (pair : Pair). is_some pair.0) pairs) (are_apart pairs) c.1 in (
      bytes_are payload a.0,
      record {
        mode_text = mode_text;
        pairs = pairs;
        bytes = refl;
        strung = strings_are (name ∷ mode_text ∷ pair_strings pairs) c.0;
        named = named_are pairs d.0;
        apart = apart_are pairs d.1;
        mode = named;
        options = is;
        short = λ some. leb-true (length payload) 512 b.0;
      },
    )

abbrev pub request_ok : Side → List Pair → Bool
request_ok side pairs = request_for_ok (codes "a") (codes "octet") side pairs

pub request_spells : (side : Side) (pairs : List Pair) (options : OptionMap) → request_ok side pairs ≡ true → options ≡ map_of pairs
    → Spells (request (side_opcode side) pairs) (Message.Request (record { side = side; name = codes "a"; mode = Octet; options = options }))
request_spells side pairs options e is = request_for_spells (codes "a") (codes "octet") Octet side pairs options e refl is

abbrev pub oack_ok : List Pair → Bool
oack_ok pairs = all_bytes (oack pairs) && (list_all is_string (pair_strings pairs) && pairs_ok pairs)

pub oack_spells : (pairs : List Pair) (options : OptionMap) → oack_ok pairs ≡ true → options ≡ map_of pairs → Spells (oack pairs) (Message.Oack options)
oack_spells pairs options e is =
    let a = and_parts (all_bytes (oack pairs)) (list_all is_string (pair_strings pairs) && pairs_ok pairs) e in
    let c = and_parts (list_all is_string (pair_strings pairs)) (pairs_ok pairs) a.1 in
    let d = and_parts (list_all (λ (pair : Pair). is_some pair.0) pairs) (are_apart pairs) c.1 in (
      bytes_are (oack pairs) a.0,
      record {
        pairs = pairs;
        bytes = refl;
        strung = strings_are (pair_strings pairs) c.0;
        named = named_are pairs d.0;
        apart = apart_are pairs d.1;
        map = is;
      },
    )

-- a block whose number is x and y
pub block_spells : (x y : ℕ) (bytes : List ℕ) (k : ℕ) → all_bytes (0 ∷ 3 ∷ x ∷ y ∷ bytes) ≡ true → k ≡ 256 * x + y → Spells (0 ∷ 3 ∷ x ∷ y ∷ bytes) (Message.Data k bytes)
block_spells x y bytes k e is =
    let all = bytes_are (0 ∷ 3 ∷ x ∷ y ∷ bytes) e in
    ((all.0, (all.1.0, all.1.1.1)), (x, y, (all.1.1.1.0, is), refl))

pub data_spells : (k : ℕ) (bytes : List ℕ) → all_bytes (block k bytes) ≡ true → Spells (block k bytes) (Message.Data k bytes)
data_spells k bytes e = block_spells 0 k bytes k e (omega arith)

pub ack_spells : (j : ℕ) → all_bytes (ack j) ≡ true → Spells (ack j) (Message.Ack j)
ack_spells j e =
    let all = bytes_are (ack j) e in
    ((all.0, (all.1.0, all.1.1.1)), (0, j, (all.1.1.1.0, omega arith), refl))

pub error_spells : (code : ℕ) (text : List ℕ) → all_bytes (error code text) ≡ true → is_string text ≡ true → Spells (error code text) (Message.Error code text)
error_spells code text e strung =
    let all = bytes_are (error code text) e in
    (all, (0, code, (omega arith, all.1.1.1.0, omega arith), string_is text strung, refl))

-- what a block, an ACK or an ERROR spells, by computation
abbrev pub spells_it : List ℕ → Message → Bool
spells_it payload (Message.Data k bytes) = bytes_eq payload (0 ∷ 3 ∷ k / 256 ∷ k % 256 ∷ bytes) && all_bytes payload
spells_it payload (Message.Ack j) = bytes_eq payload (ack j) && all_bytes payload
spells_it payload (Message.Error code text) = bytes_eq payload (error code text) && (all_bytes payload && is_string text)
spells_it payload _ = false

spelled_as : (payload form : List ℕ) (m : Message) → bytes_eq payload form ≡ true → Spells form m → Spells payload m
spelled_as payload form m same s = subst (λ p. Spells p m) (sym ((bytes_eq-Decides payload form).0 same)) s

bytes_as : (payload form : List ℕ) → bytes_eq payload form ≡ true → all_bytes payload ≡ true → all_bytes form ≡ true
bytes_as payload form same all = subst (λ p. all_bytes p ≡ true) ((bytes_eq-Decides payload form).0 same) all

pub spelled_it : (payload : List ℕ) (m : Message) → spells_it payload m ≡ true → Spells payload m
spelled_it payload (Message.Data k bytes) e =
    let form = 0 ∷ 3 ∷ k / 256 ∷ k % 256 ∷ bytes in
    let parts = and_parts (bytes_eq payload form) (all_bytes payload) e in
    spelled_as payload form (Message.Data k bytes) parts.0 (block_spells (k / 256) (k % 256) bytes k (bytes_as payload form parts.0 parts.1) (sym (div-add-mod k 256)))
spelled_it payload (Message.Ack j) e =
    let parts = and_parts (bytes_eq payload (ack j)) (all_bytes payload) e in
    spelled_as payload (ack j) (Message.Ack j) parts.0 (ack_spells j (bytes_as payload (ack j) parts.0 parts.1))
spelled_it payload (Message.Error code text) e =
    let parts = and_parts (bytes_eq payload (error code text)) (all_bytes payload && is_string text) e in
    let more = and_parts (all_bytes payload) (is_string text) parts.1 in
    spelled_as payload (error code text) (Message.Error code text) parts.0 (error_spells code text (bytes_as payload (error code text) parts.0 more.0) more.1)
spelled_it payload (Message.Request r) e = absurd (false≢true e)
spelled_it payload (Message.Oack o) e = absurd (false≢true e)

abbrev pub all_spell : List Spelled → Bool
all_spell es = list_all (λ (e : Spelled). spells_it e.0.payload e.1) es

pub spelled_all : (news es : List Spelled) → all_spell news ≡ true → AllSpelled es → AllSpelled (news ++ es)
spelled_all [] es t s = s
spelled_all (e ∷ news) es t s = let parts = and_parts (spells_it e.0.payload e.1) (all_spell news) t in (spelled_it e.0.payload e.1 parts.0, spelled_all news es parts.1 s)

-- the maps of the worked options
pub eight_is : eight_a_block ≡ map_of by_eight
unfolding value_of is_known_number is_number range_of
eight_is = refl

pub four_is : eight_by_four ≡ map_of by_four
unfolding value_of is_known_number is_number range_of
four_is = refl

abbrev pub eight_by_two : OptionMap
eight_by_two = map.from_entries ((codes "blksize", Num 8) ∷ (codes "windowsize", Num 2) ∷ [])

pub two_is : eight_by_two ≡ map_of by_two
unfolding value_of is_known_number is_number range_of
two_is = refl
