-- A capture that the rules accept has one meaning.
use Rattle.std.proofs.Common.{◌≡◌, ℕ, zero, suc, ◌+◌, ◌-◌, ◌*◌, ◌<◌, ◌≤◌, true, List, [], ◌∷◌, ◌++◌, length, take, drop, Option, Some, codes, inl, inr, refl, sym, subst, ap, ◌∙◌, arith}
use Rattle.std.specs.FinMap as map
use Rattle.std.proofs.Math.Nat.{mul-suc, suc-mul, lt-mul-div-succ}
use Rattle.std.proofs.lemmas.List.{take-append-drop, length-drop, drop-drop}
use Rattle.tftp_packet.specs.{OptionMap, OptionValue, Num, is_within, range_of, Message, RequestParts, Layout, Side, Get, Put, Mode, Octet, Netascii}
use Rattle.law_end.specs.{meaning_from, ReadsAs, Answer, Agrees, Begins, IsAnswer, Answers, FirstAnswer, AreTerms, IsAgreed, IsJoined, Meant}
use Rattle.tftp_netascii.proofs.ReadsLemmas.{Reads-unique}
use Rattle.tftp_nego.specs.{number_or, AreInRange}
use Rattle.tftp_nego.proofs.Numbers.{map_in_range, blksize_range}
use Rattle.tftp_packet.specs.Hosts.{Datagram, Header}
use Rattle.law_model.specs.Model.{Meaning, request_of, block, block_count}
use Rattle.law_model.specs.Rules.{transfer_of, IsLast}
use Rattle.law_model.specs.{Terms}
use Rattle.law_end.proofs.Soundness.Settled.{Settled, settled, last_one}
use Rattle.law_end.proofs.FirstBroken.FirstAnswered.{first_one, terms_one}
use Rattle.law_end.proofs.FirstBroken.FirstRequests.{asked_once}

-- ---- numbers that were agreed are in range

answer_in : (side : Side) (passed : List Datagram) (a : Answer) → FirstAnswer side passed a → (d : Datagram) × Answers side d a
answer_in side [] a first = absurd first
answer_in side (d ∷ passed) a first = elim first [ inl before ↦ answer_in side passed a before | inr now ↦ (d, now.1) ]

agreed_by : (side : Side) (d : Datagram) (options : OptionMap) → Answers side d (Agrees options) → AreInRange options
agreed_by side d options (m, s, is) = by side m s.1 is where
  by : (way : Side) (n : Message) → Layout d.payload n → IsAnswer way n (Agrees options) → AreInRange options
  by Get (Message.Oack given) oack is = subst AreInRange (sym oack.map ∙ is) (map_in_range oack.pairs)
  by Put (Message.Oack given) oack is = subst AreInRange (sym oack.map ∙ is) (map_in_range oack.pairs)
  by _ _ s is = absurd is

size_from_eight : (o : Option OptionValue) → ((n : ℕ) → o ≡ Some (Num n) → is_within (range_of (codes "blksize")) n ≡ true) → 8 ≤ number_or 512 o
size_from_eight (Some (Num n)) range = (blksize_range n (range n refl)).0
size_from_eight _ range = omega arith

-- a block has room for eight bytes (RFC 2348)
pub size_at_least : (h : Header) (earlier : List Datagram) (t : Terms) → AreTerms h earlier t → 8 ≤ t.blksize
size_at_least h earlier t (asked, first, inl none) = subst (λ (u : Terms). 8 ≤ u.blksize) (sym none.1) (omega arith)
size_at_least h earlier t (asked, first, inr (Begins, answer, is)) = subst (λ (u : Terms). 8 ≤ u.blksize) (sym is) (omega arith)
size_at_least h earlier t (asked, first, inr (Agrees options, answer, is)) =
    let found = answer_in asked.side (transfer_of h earlier) (Agrees options) answer in
    subst (λ (u : Terms). 8 ≤ u.blksize) (sym is) (size_from_eight (map.get options (codes "blksize")) (agreed_by asked.side found.0 options found.1 (codes "blksize")))

-- ---- a wire is known by its blocks

empty_is : (v : List ℕ) → length v ≤ 0 → v ≡ []
empty_is [] e = refl
empty_is (x ∷ v) e = absurd (omega arith)

later : (b k : ℕ) (v : List ℕ) → 1 ≤ k → block b (drop b v) k ≡ block b v (k + 1)
later b zero v low = absurd (omega arith)
later b (suc j) v low =
    let now : suc j - 1 ≡ j = omega arith in
    let next : suc j + 1 - 1 ≡ suc j = omega arith in
    ap (take b) (ap (λ i. drop (i * b) (drop b v)) now ∙ drop-drop (j * b) b v ∙ ap (λ i. drop i v) (sum b (j * b) ∙ sym (suc-mul j b)) ∙ ap (λ i. drop (i * b) v) (sym next))
  where
    sum : (m n : ℕ) → m + n ≡ n + m
    sum m n = omega arith

first_block : (b : ℕ) (v : List ℕ) → block b v 1 ≡ take b v
first_block b v = ap (λ i. take b (drop i v)) none where
  none : (1 - 1) * b ≡ 0
  none = omega arith

blocks_one : (b n : ℕ) (v w : List ℕ) → length v ≤ b * n → length w ≤ b * n → ((k : ℕ) → 1 ≤ k → k ≤ n → block b v k ≡ block b w k) → v ≡ w
blocks_one b zero v w low high same = empty_is v (omega (arith, low)) ∙ sym (empty_is w (omega (arith, high)))
blocks_one b (suc n) v w low high same =
    let rest = blocks_one b n (drop b v) (drop b w) (shorter v low) (shorter w high)
    (λ k from to. later b k v from ∙ same (k + 1) (omega arith) (omega arith) ∙ sym (later b k w from)) in
    sym (take-append-drop b v) ∙ ap (λ x. x ++ drop b v) (sym (first_block b v) ∙ same 1 (omega arith) (omega arith) ∙ first_block b w) ∙ ap (λ x. take b w ++ x) rest ∙ take-append-drop b w
  where
    shorter : (x : List ℕ) → length x ≤ b * suc n → length (drop b x) ≤ b * n
    shorter x bound = let full : length x ≤ b * n + b = subst (λ i. length x ≤ i) (mul-suc b n) bound in subst (λ i. i ≤ b * n) (sym (length-drop b x)) (omega arith)

count_bound : (b n : ℕ) (v : List ℕ) → 0 < b → block_count b v ≡ n → length v ≤ b * n
count_bound b n v some is = let below = subst (λ i. length v < b * i) is (lt-mul-div-succ (length v) some) in omega arith

pub wire_one : (side : Side) (t : Terms) (passed : List Datagram) → Settled side t passed → 0 < t.blksize → (last : ℕ) (v w : List ℕ) → IsJoined t.blksize passed last v → IsJoined t.blksize passed last w → v ≡ w
wire_one side t passed s some last v w one other =
    blocks_one t.blksize last v w (count_bound t.blksize last v some one.count) (count_bound t.blksize last w some other.count)
    (λ k from to. s.once k (block t.blksize v k) (block t.blksize w k) (one.blocks k from to) (other.blocks k from to))

-- ---- the parts of a meaning

agreed_one : (asked : RequestParts) (passed : List Datagram) (a b : OptionMap) → IsAgreed asked passed a → IsAgreed asked passed b → a ≡ b
agreed_one asked passed a b (inl x) (inl y) = let same : Agrees a ≡ Agrees b = first_one asked.side passed (Agrees a) (Agrees b) x y in cc
agreed_one asked passed a b (inl x) (inr y) = absurd (y.1 a x)
agreed_one asked passed a b (inr x) (inl y) = absurd (x.1 b y)
agreed_one asked passed a b (inr x) (inr y) = x.0 ∙ sym y.0

pub file_one : (mode : Mode) (wire f g : List ℕ) → ReadsAs mode wire f → ReadsAs mode wire g → f ≡ g
file_one Octet wire f g one other = sym one ∙ other
file_one Netascii wire f g one other = Reads-unique wire f g one other

whole : (a b : RequestParts) (c d : OptionMap) (f g : List ℕ) → a ≡ b → c ≡ d → f ≡ g → meaning_from (a, (c, f)) ≡ meaning_from (b, (d, g))
whole a b c d f g e p q = λ i. meaning_from (e i, (p i, q i))

pub one_meaning : (h : Header) (earlier : List Datagram) (m n : Meaning) → Meant h earlier m → Meant h earlier n → m ≡ n
one_meaning h earlier m n one other =
    let request = asked_once h earlier (request_of m) (request_of n) one.asked other.asked in
    let terms = terms_one h earlier other.ended.terms one.ended.terms other.ended.known one.ended.known in
    let s = settled h earlier one.ended.lawful (request_of m) one.asked one.ended.terms one.ended.known in
    let agreed = agreed_one (request_of m) (transfer_of h earlier) m.agreed n.agreed one.agreed (subst (λ r. IsAgreed r (transfer_of h earlier) n.agreed) (sym request) other.agreed) in
    let known = subst (λ (u : Terms). IsLast u (transfer_of h earlier) other.ended.last) terms other.ended.whole.known in
    let last = last_one m.side one.ended.terms (transfer_of h earlier) s other.ended.last one.ended.last known one.ended.whole.known in
    let joined = subst (λ k. IsJoined one.ended.terms.blksize (transfer_of h earlier) k other.wire) last (subst (λ (u : Terms). IsJoined u.blksize (transfer_of h earlier) other.ended.last other.wire) terms other.joined) in
    let some : 0 < one.ended.terms.blksize = let low = size_at_least h earlier one.ended.terms one.ended.known in omega arith in
    let wire = wire_one m.side one.ended.terms (transfer_of h earlier) s some one.ended.last other.wire one.wire joined one.joined in
    let mode : n.mode ≡ m.mode = ap (λ (r : RequestParts). r.mode) (sym request) in
    let file = file_one m.mode one.wire m.file n.file one.file (subst (λ w. ReadsAs m.mode w n.file) wire (subst (λ x. ReadsAs x other.wire n.file) mode other.file)) in
    whole (request_of m) (request_of n) m.agreed n.agreed m.file n.file request agreed file
