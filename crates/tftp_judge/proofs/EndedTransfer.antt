-- When a transfer is whole by what the named end keeps.
use Rattle.std.proofs.Common.{◌≡◌, ◌↔◌, ◌⊎◌, ℕ, ◌+◌, ◌*◌, ◌/◌, ◌≤◌, zero, suc, List, [], ◌∷◌, length, All, Option, Some, None, Ok, Err, codes, inl, inr, refl, sym, subst, ap, ◌∙◌, arith, reverse}
use Rattle.std.specs.FinMap as map
use Rattle.std.proofs.lemmas.List.{reverse-reverse, length-reverse}
use Rattle.std.proofs.lemmas.List.Elements.{All-from_recursion, recursion_from_All}
use Rattle.tftp_packet.specs.{OptionMap, no_options, Mode, Message, RequestParts}
use Rattle.std.proofs.lemmas.Bool.{cases_eq}
use Rattle.tftp_packet.specs.Hosts.{Datagram, Header}
use Rattle.tftp_packet.specs.{Dir, In, Out}
use Rattle.law_model.specs.Model.{Meaning, option_or}
use Rattle.tftp_ends.specs.{NamedEnd, Sends, Receives, terms_of, held_of, IsEndAfter, IsEndDone, HoldsWire, AreBlocks, IsHeld, IsBeforeBlocks}
use Rattle.law_model.specs.Rules.{transfer_of, Passed}
use Rattle.law_model.specs.{Terms, NoReply}
use Rattle.law_model.specs.Model.Roles.{sender_of, receiver_of}
use Rattle.tftp_ends.specs.Blocks.{Held, IsHeldFront, IsJoin}
use Rattle.law_end.specs.{CanBeWritten, ReadsAs, written_wire, IsWritable, OneEnded, IsAgreed, IsEnded, IsWhole, Meant, meaning_from, Answer, AreTerms, FirstAnswer, FirstAsked, NotAnswered, plain_terms, terms_after}
use Rattle.law_end.proofs.Written.EachOf.{all_reverse}
use Rattle.law_end.proofs.FirstBroken.FirstAnswered.{known_by, terms_one, first_one}
use Rattle.law_end.proofs.Whole.OneMeaning.{one_meaning}
use Rattle.law_end.proofs.Soundness.Settled.{settled, last_one}
use Rattle.law_end.proofs.Whole.TwoEnds.{whole}
use Rattle.law_end.proofs.Accord.WhoSends.{two_parts}
use Rattle.law_end.proofs.Written.Written.{shown_can_be_written}
use Rattle.tftp_judge.specs.{IsUnfinished, HasBegun, IsExchange, Transfer, IsTransferAfter, IsVerdictByRules, Refusal, NormalTooLong}
use Rattle.tftp_judge.specs.Kept.{Exchange}
use Rattle.tftp_judge.specs.declared.refusal.Refusal.TheVariants.{Memory}
use Rattle.tftp_judge.proofs.Ended.{end_is, unfinished_by}
use Rattle.tftp_judge.proofs.FirstAnswers.{terms_once}
use Rattle.tftp_judge.proofs.WhoAcknowledges.{ack_in_to_sender, ack_out_of_receiver}
use Rattle.tftp_judge.proofs.Replied.{terms_named, terms_side}

-- ---- the front of what is held

abbrev place_in : List ℕ → ℕ
place_in [] = 0
place_in (a ∷ []) = 0
place_in (a ∷ b ∷ []) = 0
place_in (a ∷ b ∷ x ∷ []) = 0
place_in (a ∷ b ∷ x ∷ y ∷ rest) = 256 * x + y

-- no block that has passed is above this
abbrev most_of : List Datagram → ℕ
most_of [] = 0
most_of (d ∷ passed) = place_in d.payload + most_of passed

small_block : (dir : Dir) (k : ℕ) (bytes : List ℕ) (passed : List Datagram) → Passed dir (Message.Data k bytes) passed → k ≤ most_of passed
small_block dir k bytes [] p = absurd p
small_block dir k bytes (d ∷ passed) (inl (way, (all, (x, y, (also, is), text)))) = let at : place_in d.payload ≡ 256 * x + y = ap place_in text in omega arith
small_block dir k bytes (d ∷ passed) (inr before) = let low = small_block dir k bytes passed before in omega arith

module _ (held : Held) where
  front_below : (n : ℕ) → ((k : ℕ) → 1 ≤ k → k ≤ n → IsHeld held k) ⊎ ((front : ℕ) × IsHeldFront held front)
  front_below zero = inl (λ k some none. absurd (omega (arith, some, none)))
  front_below (suc n) = elim (front_below n) [
    | inr found ↦ inr found
    | inl all ↦ by all (map.get held (n + 1)) refl
  ]
    where
      by : ((k : ℕ) → 1 ≤ k → k ≤ n → IsHeld held k) → (o : Option (List ℕ)) → map.get held (n + 1) ≡ o → ((k : ℕ) → 1 ≤ k → k ≤ suc n → IsHeld held k) ⊎ ((front : ℕ) × IsHeldFront held front)
      by all None is = inr (n, record { below = all; next = is })
      by all (Some bytes) is = inl (λ k some within. elim (cases_eq k (n + 1)) [
        | inl here ↦ (bytes, ap (map.get held) here ∙ is)
        | inr other ↦ all k some (omega (arith, within, other))
      ])

  -- the numbers of blocks end, and so there is a front
  pub some_front : (passed : List Datagram) → AreBlocks passed held → (front : ℕ) × IsHeldFront held front
  some_front passed blocks = elim (front_below (most_of passed + 1)) [
    | inr found ↦ found
    | inl all ↦
        let last = all (most_of passed + 1) (omega arith) (omega arith) in
        let small : most_of passed + 1 ≤ most_of passed = elim ((blocks (most_of passed + 1) last.0).1 last.1) [ inl p ↦ small_block In (most_of passed + 1) last.0 passed p | inr p ↦ small_block Out (most_of passed + 1) last.0 passed p ] in
        absurd (omega (arith, small))
  ]

pub front_of_end : (end : NamedEnd) (passed : List Datagram) → IsEndAfter end passed → (front : ℕ) × IsHeldFront (held_of end) front
front_of_end (Sends s) passed after = some_front s.held passed after.blocks
front_of_end (Receives r) passed after = some_front r.held passed after.blocks

-- ---- done is whole

module _ (h : Header) (earlier : List Datagram) (lawful : OneEnded h earlier) (asked : RequestParts) (first : FirstAsked h earlier asked) (answer : Answer) where
  abbrev through : List Datagram
  through = transfer_of h earlier

  done_by : (end : NamedEnd) → IsEndAfter end through → terms_of end ≡ terms_after h asked answer → IsEndDone end through → (last : ℕ) × IsWhole (terms_of end) through last
  done_by (Sends s) after is (last, known, told) =
      let sends : s.terms.named ≡ sender_of s.terms.side = ap (λ (t : Terms). t.named) is ∙ terms_named h asked answer ∙ ack_in_to_sender h earlier asked last lawful first told ∙ ap sender_of (sym (ap (λ (t : Terms). t.side) is ∙ terms_side h asked answer)) in (
        last,
        record {
          known = known;
          front = λ receives. absurd (two_parts s.terms.side s.terms.named sends receives);
          acknowledged = λ receives. absurd (two_parts s.terms.side s.terms.named sends receives);
          was_told = λ _. told;
        },
      )
  done_by (Receives r) after is (last, known, front, went) =
      let receives : r.terms.named ≡ receiver_of r.terms.side = ap (λ (t : Terms). t.named) is ∙ terms_named h asked answer ∙ ack_out_of_receiver h earlier asked last lawful first went ∙ ap receiver_of (sym (ap (λ (t : Terms). t.side) is ∙ terms_side h asked answer)) in (
        last,
        record {
          known = known;
          front = λ _. front;
          acknowledged = λ _. went;
          was_told = λ sends. absurd (two_parts r.terms.side r.terms.named sends receives);
        },
      )

  whole_by : (end : NamedEnd) → IsEndAfter end through → (last : ℕ) → IsWhole (terms_of end) through last → IsEndDone end through
  whole_by (Sends s) after last whole = elim (end_is s.terms.named s.terms.side) [
    | inl receives ↦ absurd (after.takes_acks last (whole.acknowledged receives))
    | inr sends ↦ (last, whole.known, whole.was_told sends)
  ]
  whole_by (Receives r) after last whole = elim (end_is r.terms.named r.terms.side) [
    | inl receives ↦ (last, whole.known, whole.front receives, whole.acknowledged receives)
    | inr sends ↦ absurd (after.sends_acks last (whole.was_told sends))
  ]

-- ---- what is said of a transfer

-- the answer agrees to these options, or none was needed
abbrev pub IsAnsweredBy : Answer → OptionMap → Type 0
IsAnsweredBy (Answer.Agrees options) agreed = agreed ≡ options
IsAnsweredBy Answer.Begins agreed = agreed ≡ no_options

begins_alone : (options : OptionMap) → Answer.Begins ≡ Answer.Agrees options → ⊥
begins_alone options e = cc

agreed_by : (asked : RequestParts) (passed : List Datagram) (answer : Answer) (agreed : OptionMap) → FirstAnswer asked.side passed answer → IsAnsweredBy answer agreed → IsAgreed asked passed agreed
agreed_by asked passed (Answer.Agrees options) agreed first is = inl (subst (λ o. FirstAnswer asked.side passed (Answer.Agrees o)) (sym is) first)
agreed_by asked passed Answer.Begins agreed first is = inr (is, λ options other. begins_alone options (first_one asked.side passed Answer.Begins (Answer.Agrees options) first other))

-- the blocks up to the front are a wire that reads as the file
abbrev pub HoldsFile : Held → Mode → List ℕ → Type 0
HoldsFile held mode file = (front : ℕ) → IsHeldFront held front → (wire : List ℕ) × IsJoin held front wire × ReadsAs mode wire file

module _ (h : Header) (earlier : List Datagram) (lawful : OneEnded h earlier) (asked : RequestParts) (first : FirstAsked h earlier asked) where
  abbrev passed : List Datagram
  passed = transfer_of h earlier

  -- nothing is meant before the request is answered
  pub unanswered_not_meant : NotAnswered asked.side passed → IsBeforeBlocks passed → (m : Meaning) → Meant h earlier m → ⊥
  unanswered_not_meant none before m meant =
      let known = known_by h earlier asked meant.ended.terms first meant.ended.known in
      let is = terms_once h asked passed meant.ended.terms (plain_terms h asked.side NoReply) known (inl (none, refl)) in
      elim meant.ended.whole.known [
        | inl short ↦ before.no_block meant.ended.last short.0 short.1
        | inr sized ↦ no_size sized.0 (sym (ap (λ (t : Terms). t.size) is) ∙ sized.1)
      ]
    where
      no_size : (size : ℕ) → None ≡ Some size → ⊥
      no_size size e = cc

  module _ (end : NamedEnd) (answer : Answer) (begun : HasBegun h asked passed answer end) where
    known : AreTerms h earlier (terms_of end)
    known = (asked, first, inr (answer, begun.answered, begun.terms))

    -- nothing is meant before the transfer is over
    pub undone_not_meant : (IsEndDone end passed → ⊥) → (m : Meaning) → Meant h earlier m → ⊥
    undone_not_meant undone m meant =
        let same = terms_one h earlier meant.ended.terms (terms_of end) meant.ended.known known in
        undone (whole_by h earlier lawful asked first answer end begun.after meant.ended.last (subst (λ (t : Terms). IsWhole t passed meant.ended.last) same meant.ended.whole))

    pub ended_by : IsEndDone end passed → IsEnded h earlier
    ended_by done =
        let whole = done_by h earlier lawful asked first answer end begun.after begun.terms done in
        record { lawful = lawful; terms = terms_of end; known = known; last = whole.0; whole = whole.1 }

    -- the file of the blocks that are held is meant
    pub meant_by : (agreed : OptionMap) (file : List ℕ) → IsEndDone end passed → HoldsWire end passed → IsAnsweredBy answer agreed → HoldsFile (held_of end) asked.mode file
        → Meant h earlier (meaning_from (asked, (agreed, file)))
    meant_by agreed file done holds is held =
        let (last, whole) = done_by h earlier lawful asked first answer end begun.after begun.terms done in
        let (front, at) = front_of_end end passed begun.after in
        let (wire, join, reads) = held front at in
        let (here, joined) = holds front wire at join in
        let same : front ≡ last = last_one asked.side (terms_of end) passed (settled h earlier lawful asked first (terms_of end) known) front last here whole.known in
        record {
          ended = record { lawful = lawful; terms = terms_of end; known = known; last = last; whole = whole };
          asked = first;
          agreed = agreed_by asked passed answer agreed begun.answered is;
          wire = wire;
          joined = record { count = joined.count ∙ same; blocks = λ k low high. joined.blocks k low (subst (λ n. k ≤ n) (sym same) high) };
          file = reads;
        }

-- ---- what a transfer keeps of its reply

-- the end began with the reply, which agreed to these options
abbrev pub BeganBy : Header → RequestParts → List Datagram → OptionMap → NamedEnd → Type 0
BeganBy h asked through agreed end = (answer : Answer) × HasBegun h asked through answer end × IsAnsweredBy answer agreed

module _ (h : Header) (t : Transfer) (through : List Datagram) (after : IsTransferAfter t h through) where
  pub begun_by : (end : NamedEnd) (agreed : OptionMap) → t.exchange ≡ Exchange.Begun end → agreed ≡ no_options → BeganBy h t.asked through agreed end
  begun_by end agreed is none = (Answer.Begins, subst (IsExchange h t.asked through) is after.exchange, none)

  pub agreed_to : (end : NamedEnd) (agreed : OptionMap) → t.exchange ≡ Exchange.Agreed agreed end → BeganBy h t.asked through agreed end
  agreed_to end agreed is = (Answer.Agrees agreed, subst (IsExchange h t.asked through) is after.exchange, refl)

  pub unanswered_by : t.exchange ≡ Exchange.Unanswered → NotAnswered t.asked.side through × IsBeforeBlocks through
  unanswered_by is = subst (IsExchange h t.asked through) is after.exchange

pub held_file : (held other : Held) (mode wanted : Mode) (file : List ℕ) → held ≡ other → mode ≡ wanted → HoldsFile held mode file → HoldsFile other wanted file
held_file held other mode wanted file is same holds = subst (λ x. HoldsFile x wanted file) is (subst (λ x. HoldsFile held x file) same holds)

-- the blocks of a file fit by its length
pub fits_by : (greatest : ℕ) (mode wanted : Mode) (size : ℕ) (agreed : OptionMap) (file written : List ℕ) → mode ≡ wanted → size ≡ option_or 512 agreed (codes "blksize") → file ≡ written
    → (length (written_wire mode file) / size + 1 ≤ greatest) ↔ (length (written_wire wanted written) / option_or 512 agreed (codes "blksize") + 1 ≤ greatest)
fits_by greatest mode wanted size agreed file written is sized same =
    let count : length (written_wire mode file) / size + 1 ≡ length (written_wire wanted written) / option_or 512 agreed (codes "blksize") + 1 =
    ap (λ x. length (written_wire x file) / size + 1) is ∙ ap (λ x. length (written_wire wanted x) / size + 1) same ∙ ap (λ x. length (written_wire wanted written) / x + 1) sized in
    ((λ few. subst (λ n. n ≤ greatest) count few), (λ few. subst (λ n. n ≤ greatest) (sym count) few))

-- ---- what is answered

-- what is meant, of payloads that go into packets of UDP, is shown by a run, and so it can be written
pub can_be_written : (h : Header) (earlier : List Datagram) (m : Meaning) → All (λ (d : Datagram). length d.payload ≤ 65527) earlier → Meant h earlier m → IsWritable h.rollover m → CanBeWritten h.rollover m
can_be_written h earlier m short meant fits =
    let (wire, shown) = (whole h m (reverse earlier)).0 (subst (λ ds. Meant h ds m) (sym (reverse-reverse earlier)) meant) in
    shown_can_be_written h m (reverse earlier) (All-from_recursion (λ (d : Datagram). length d.payload ≤ 65527) (reverse earlier) (all_reverse (λ (d : Datagram). length d.payload ≤ 65527) earlier (recursion_from_All (λ (d : Datagram). length d.payload ≤ 65527) earlier short)))
    (record { writable = fits; wire = wire; shown = shown })

pub meant_verdict : (h : Header) (earlier : List Datagram) (m : Meaning) → OneEnded h earlier → Meant h earlier m → IsWritable h.rollover m → IsVerdictByRules h (reverse earlier) (Ok m)
meant_verdict h earlier m lawful meant fits =
    (subst (OneEnded h) (sym (reverse-reverse earlier)) lawful, subst (λ ds. Meant h ds m) (sym (reverse-reverse earlier)) meant, fits)

pub long_verdict : (h : Header) (earlier : List Datagram) (m : Meaning) → OneEnded h earlier → Meant h earlier m → (IsWritable h.rollover m → ⊥) → IsVerdictByRules h (reverse earlier) (Err NormalTooLong)
long_verdict h earlier m lawful meant long = (
  subst (OneEnded h) back lawful,
  (m, subst (λ ds. Meant h ds m) back meant),
  λ other also fits. long (subst (IsWritable h.rollover) (one_meaning h earlier other m (subst (λ ds. Meant h ds other) (reverse-reverse earlier) also) meant) fits),
)
  where
    back : earlier ≡ reverse (reverse earlier)
    back = sym (reverse-reverse earlier)

pub memory_verdict : (h : Header) (earlier : List Datagram) (count : ℕ) → OneEnded h earlier → IsEnded h earlier → count ≡ length earlier → IsVerdictByRules h (reverse earlier) (Err (Memory count))
memory_verdict h earlier count lawful ended is = (subst (OneEnded h) back lawful, subst (IsEnded h) back ended, is ∙ sym (length-reverse earlier))
  where
    back : earlier ≡ reverse (reverse earlier)
    back = sym (reverse-reverse earlier)

pub unfinished_verdict : (h : Header) (earlier : List Datagram) (total : ℕ) (refusal : Refusal) → OneEnded h earlier → ((m : Meaning) → Meant h earlier m → ⊥) → total ≡ length earlier
    → IsUnfinished (transfer_of h earlier) total refusal → IsVerdictByRules h (reverse earlier) (Err refusal)
unfinished_verdict h earlier total refusal lawful none is left =
    unfinished_by h (reverse earlier) total refusal (subst (OneEnded h) back lawful) (subst (λ ds. (m : Meaning) → Meant h ds m → ⊥) back none) (is ∙ sym (length-reverse earlier))
    (subst (λ ds. IsUnfinished (transfer_of h ds) total refusal) back left)
  where
    back : earlier ≡ reverse (reverse earlier)
    back = sym (reverse-reverse earlier)
