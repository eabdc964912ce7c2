-- What is kept of one end stands for its datagrams.
use Rattle.std.proofs.Common.{◌≡◌, ◌≤◌, ◌<◌, ◌+◌, ◌↔◌, if◌then◌else◌, ℕ, suc, Bool, true, false, IsTrue, List, [], ◌∷◌, length, Option, Some, None, IfNone, IfSome, Result, Ok, Err, inl, inr, refl, sym, subst, ap, ◌∙◌, arith, IfErr, OnOk}
use Rattle.tftp_packet.specs.{Message, Spells}
use Rattle.tftp_packet.specs.Hosts.{Datagram, Header}
use Rattle.tftp_packet.specs.{In, Out, Rollover}
use Rattle.law_rollover.specs.{IsTaken, unrolled_payload}
use Rattle.law_end.proofs.Spelled.{spelled_once}
use Rattle.law_model.specs.Rules.{IsHigh, route_of, is_of_transfer, transfer_of, Passed}
use Rattle.law_end.proofs.FirstBroken.FirstAnswered.{main_none, main_some}
use Rattle.tftp_judge.specs.{IsJudgeAfter, IsKept, Judge, Transfer, AreFlags, HasSentBy, HasSentIn, Refusal}
use Rattle.judge_pair.proofs.JudgeLemmas.SentByKept.{sent_by_kept}
use Rattle.judge_pair.specs.Blocks.{at_block, with_block}
use Rattle.judge_pair.specs.Counts.{AreCounted, AreTooMany, Counted}
use Rattle.judge_pair.proofs.CountsLemmas.Growing.{many_of_many}
use Rattle.judge_pair.specs.Judge.{Acks, AreMergedBut, AreSidesAfter, HasSame, IsAskedAgain, IsSideAfter, Side, WasSent, flags_in}
use Rattle.judge_pair.proofs.JudgeLemmas.Blocks.{taken_block}
use Rattle.judge_pair.proofs.JudgeLemmas.Highest.{high_low}
use Rattle.judge_pair.proofs.JudgeLemmas.Merging.{but_turned, merges_held, merges_in, merges_out, merges_stray}

-- ---- what was sent

pub sent_by_side : (s : Side) (h : Header) (read : List Datagram) → IsSideAfter s h read → (m : Message) → Passed Out m (transfer_of h read) ↔ HasSentIn s.judge.state.transfer (flags_in s.acks) m
sent_by_side s h read after m = by s.judge.state.transfer after.kept where
  by : (t : Option Transfer) → IsKept h read t → Passed Out m (transfer_of h read) ↔ HasSentIn t (flags_in s.acks) m
  by None kept = (λ p. absurd (subst (λ (ds : List Datagram). Passed Out m (transfer_of h ds)) kept p), λ none. absurd none)
  by (Some t) kept = sent_by_kept t h read (flags_in s.acks) (record { lawful = after.lawful; short = after.short; asked = kept.0; after = kept.1 }) after.acks m

-- but of ACKs the flags tell nothing
other_sent : (t : Transfer) (flags other : ℕ → Bool) (m : Message) → ((j : ℕ) → m ≡ Message.Ack j → ⊥) → HasSentBy t flags m → HasSentBy t other m
other_sent t flags other (Message.Request asked) none is = is
other_sent t flags other (Message.Oack options) none is = is
other_sent t flags other (Message.Data k bytes) none is = is
other_sent t flags other (Message.Ack j) none is = absurd (none j refl)
other_sent t flags other (Message.Error code text) none is = is

other_sent_in : (o : Option Transfer) (flags other : ℕ → Bool) (m : Message) → ((j : ℕ) → m ≡ Message.Ack j → ⊥) → HasSentIn o flags m → HasSentIn o other m
other_sent_in None flags other m none is = is
other_sent_in (Some t) flags other m none is = other_sent t flags other m none is

pub other_sent_by : (s : Side) (h : Header) (read : List Datagram) → IsSideAfter s h read → (m : Message) → ((j : ℕ) → m ≡ Message.Ack j → ⊥) → (flags : ℕ → Bool) (b : Bool)
    → IsTrue b ↔ HasSentIn s.judge.state.transfer flags m → IsTrue b ↔ Passed Out m (transfer_of h read)
other_sent_by s h read after m none flags b is = (
  λ sent. (sent_by_side s h read after m).1 (other_sent_in s.judge.state.transfer flags (flags_in s.acks) m none (is.0 sent)),
  λ passed. is.1 (other_sent_in s.judge.state.transfer (flags_in s.acks) flags m none ((sent_by_side s h read after m).0 passed)),
)

-- a payload that spells this message
pub payload_sent : (passed : List Datagram) (payload : List ℕ) (m : Message) → Spells payload m → (b : Bool)
    → IsTrue b ↔ Passed Out m passed → IsTrue b ↔ WasSent payload passed
payload_sent passed payload m spells b is = (
  λ sent. (m, spells, is.0 sent),
  λ was. is.1 (subst (λ x. Passed Out x passed) (spelled_once payload was.0 m was.1 spells) was.2),
)

-- ---- the flags of ACKs

-- a datagram that is no ACK that goes out
pub flags_stay : (flags : ℕ → Bool) (passed : List Datagram) (d : Datagram) → ((j : ℕ) → d.dir ≡ Out → Spells d.payload (Message.Ack j) → ⊥) → AreFlags flags passed → AreFlags flags (d ∷ passed)
flags_stay flags passed d other are j = (
  λ set. inr ((are j).0 set),
  λ p. elim p [ inl this ↦ absurd (other j this.0 this.1) | inr p ↦ (are j).1 p ],
)

pub flags_after_stray : (flags : ℕ → Bool) (h : Header) (read : List Datagram) (d : Datagram) → is_of_transfer (route_of h read d) ≡ false → AreFlags flags (transfer_of h read) → AreFlags flags (transfer_of h (d ∷ read))
flags_after_stray flags h read d is are = subst (AreFlags flags) (sym (main_none (is_of_transfer (route_of h read d)) d (transfer_of h read) is)) are

pub flags_after_main : (flags : ℕ → Bool) (h : Header) (read : List Datagram) (d : Datagram) → is_of_transfer (route_of h read d) ≡ true → AreFlags flags (d ∷ transfer_of h read) → AreFlags flags (transfer_of h (d ∷ read))
flags_after_main flags h read d is are = subst (AreFlags flags) (sym (main_some (is_of_transfer (route_of h read d)) d (transfer_of h read) is)) are

-- ---- the side

pub side_of_judge : (s : Side) (h : Header) (read : List Datagram) → IsJudgeAfter s.judge h read → AreFlags (flags_in s.acks) (transfer_of h read) → AreCounted s.counts (transfer_of h read)
    → IsHigh (transfer_of h read) s.highest → length read ≤ 1099511627776 → IsSideAfter s h read
side_of_judge s h read j acks counted high few = record { goes_on = λ _. j; lawful = j.lawful; short = j.short; kept = j.has_kept.kept; fed = j.fed; few = few; acks = acks; high = high; counted = counted }

-- one more, where the judge has accepted fewer than 2^40
pub one_more : (fed n : ℕ) → fed ≡ n → fed < 1099511627776 → suc n ≤ 1099511627776
one_more fed n is low = omega (arith, is, low)

transfer_within : (h : Header) (read : List Datagram) → length (transfer_of h read) ≤ length read
transfer_within h [] = omega arith
transfer_within h (d ∷ read) = by (is_of_transfer (route_of h read d)) (transfer_within h read) where
  by : (main : Bool) → length (transfer_of h read) ≤ length read → length (if main then d ∷ transfer_of h read else transfer_of h read) ≤ suc (length read)
  by true low = omega (arith, low)
  by false low = omega (arith, low)

-- No more is lost, or made, between two sides than fits 64 bits.
pub not_too_many : (own other : Side) (h k : Header) (read other_read : List Datagram) → IsSideAfter own h read → IsSideAfter other k other_read → AreTooMany (transfer_of h read) (transfer_of k other_read) → ⊥
not_too_many own other h k read other_read after other_after many =
    few_between (length read) (length other_read) (length (transfer_of h read)) (length (transfer_of k other_read)) after.few other_after.few
    (transfer_within h read) (transfer_within k other_read) (many_of_many (transfer_of h read) (transfer_of k other_read) many)
  where
    few_between : (n k i j : ℕ) → n ≤ 1099511627776 → k ≤ 1099511627776 → i ≤ n → j ≤ k → 18446744073709551616 ≤ i + j → ⊥
    few_between n k i j few other_few in_n in_k many = omega (arith, few, other_few, in_n, in_k, many)

pub none_map : {T : Type 0} {P Q : Type 0} (o : Option T) → (P → Q) → IfNone o P → IfNone o Q
none_map None to is = to is
none_map (Some x) to is = tt

pub some_map : {T : Type 0} {P Q : T → Type 0} (o : Option T) → ((x : T) → P x → Q x) → IfSome o P → IfSome o Q
some_map None to is = tt
some_map (Some x) to is = to x is

pub counted_after_main : (counts : Option Counted) (h : Header) (read : List Datagram) (d : Datagram) → is_of_transfer (route_of h read d) ≡ true → AreCounted counts (d ∷ transfer_of h read) → AreCounted counts (transfer_of h (d ∷ read))
counted_after_main counts h read d is are = subst (AreCounted counts) (sym (main_some (is_of_transfer (route_of h read d)) d (transfer_of h read) is)) are

pub counted_after_stray : (counts : Option Counted) (h : Header) (read : List Datagram) (d : Datagram) → is_of_transfer (route_of h read d) ≡ false → AreCounted counts (transfer_of h read) → AreCounted counts (transfer_of h (d ∷ read))
counted_after_stray counts h read d is are = subst (AreCounted counts) (sym (main_none (is_of_transfer (route_of h read d)) d (transfer_of h read) is)) are

pub same_side : (old new : Side) (h : Header) (read : List Datagram) → HasSame old new → IsSideAfter old h read → IsSideAfter new h read
same_side old new h read same after = record {
  goes_on = λ none. subst (λ (j : Judge). IsJudgeAfter j h read) (sym same.0) (after.goes_on (ap (λ (j : Judge). j.refused) (sym same.0) ∙ none));
  lawful = after.lawful;
  short = after.short;
  kept = subst (λ (j : Judge). IsKept h read j.state.transfer) (sym same.0) after.kept;
  fed = ap (λ (j : Judge). j.fed) same.0 ∙ after.fed;
  few = after.few;
  acks = subst (λ (a : Acks). AreFlags (flags_in a) (transfer_of h read)) (sym same.1) after.acks;
  high = subst (IsHigh (transfer_of h read)) (sym same.3) after.high;
  counted = subst (λ (counts : Option Counted). AreCounted counts (transfer_of h read)) (sym same.2) after.counted;
}

pub not_refused : {A : Type 0} → (refused : Option Refusal) (result : Result A Refusal) (answer : A) → ((r : Refusal) → refused ≡ Some r → result ≡ Err r) → result ≡ Ok answer → refused ≡ None
not_refused None result answer good is = refl
not_refused (Some r) result answer good is = let apart : Ok answer ≡ Err r = sym is ∙ good r refl in absurd (cc)

-- ---- two sides

pub turned_sides : (own other : Side) (h k : Header) (read other_read : List Datagram) → AreSidesAfter own other h read k other_read → AreSidesAfter other own k other_read h read
turned_sides own other h k read other_read sides = record { own_side = sides.other_side; other_side = sides.own_side; merged = but_turned own.held other.held h k read other_read sides.merged }

module _ (h k : Header) (read other_read : List Datagram) (d : Datagram) where
  pub sides_stray : (own other : Side) → own.held ≡ None → IsSideAfter own h (d ∷ read) → IsSideAfter other k other_read → AreMergedBut None other.held h read k other_read
      → is_of_transfer (route_of h read d) ≡ false → AreSidesAfter own other h (d ∷ read) k other_read
  sides_stray own other free mine theirs but is = record {
    own_side = mine;
    other_side = theirs;
    merged = subst (λ (o : Option Datagram). AreMergedBut o other.held h (d ∷ read) k other_read) (sym free) (merges_stray h k read other_read d other.held but is);
  }

  pub sides_out : (own other now : Side) → own.held ≡ None → IsSideAfter own h (d ∷ read) → IsSideAfter other k other_read → HasSame other now → AreMergedBut None other.held h read k other_read
      → is_of_transfer (route_of h read d) ≡ true → d.dir ≡ Out → IsAskedAgain other.held now.held (transfer_of h (d ∷ read)) → AreSidesAfter own now h (d ∷ read) k other_read
  sides_out own other now free mine theirs same but is out asked = record {
    own_side = mine;
    other_side = same_side other now k other_read same theirs;
    merged = subst (λ (o : Option Datagram). AreMergedBut o now.held h (d ∷ read) k other_read) (sym free) (merges_out h k read other_read d other.held now.held but is out asked);
  }

  pub sides_in : (own other : Side) → own.held ≡ None → IsSideAfter own h (d ∷ read) → IsSideAfter other k other_read → AreMergedBut None other.held h read k other_read
      → is_of_transfer (route_of h read d) ≡ true → d.dir ≡ In → WasSent d.payload (transfer_of k other_read) → AreSidesAfter own other h (d ∷ read) k other_read
  sides_in own other free mine theirs but is came sent = record {
    own_side = mine;
    other_side = theirs;
    merged = subst (λ (o : Option Datagram). AreMergedBut o other.held h (d ∷ read) k other_read) (sym free) (merges_in h k read other_read d other.held but is came sent);
  }

  pub sides_held : (own now other : Side) → HasSame own now → now.held ≡ Some d → IsSideAfter own h (d ∷ read) → IsSideAfter other k other_read → AreMergedBut None other.held h read k other_read
      → is_of_transfer (route_of h read d) ≡ true → d.dir ≡ In → (WasSent d.payload (transfer_of k other_read) → ⊥) → AreSidesAfter now other h (d ∷ read) k other_read
  sides_held own now other same held mine theirs but is came unsent = record {
    own_side = same_side own now h (d ∷ read) same mine;
    other_side = theirs;
    merged = subst (λ (o : Option Datagram). AreMergedBut o other.held h (d ∷ read) k other_read) (sym held) (merges_held h k read other_read d other.held but is came unsent);
  }

-- ---- answers

pub on_ok : {A E : Type 0} → (result : Result A E) (P Q : Type 0) → (P → Q) → OnOk result P → OnOk result Q
on_ok (Ok x) P Q f is = f is
on_ok (Err e) P Q f is = is

pub on_err : {A E : Type 0} → (result : Result A E) (P Q : E → Type 0) → ((e : E) → P e → Q e) → IfErr result P → IfErr result Q
on_err (Ok x) P Q f is = is
on_err (Err e) P Q f is = f e is

pub any_err : {A E : Type 0} → (result : Result A E) (P : Type 0) → P → IfErr result (λ _. P)
any_err (Ok x) P is = tt
any_err (Err e) P is = is

-- ---- what a datagram is read as

pub read_by : (s : Side) (h : Header) (read : List Datagram) → IsSideAfter s h read → (rollover : Option Rollover) (block : Option ℕ) (payload : List ℕ) (here d : Datagram) → payload ≡ here.payload
    → (rollover ≡ None → block ≡ None) → ((r : Rollover) → rollover ≡ Some r → s.highest ≤ 8388607 → with_block block payload ≡ unrolled_payload r s.highest payload)
    → IsTaken rollover (transfer_of h read) here d → d ≡ at_block block here
read_by s h read after rollover block payload here d same none near taken =
    taken_block rollover (transfer_of h read) s.highest block here d after.high none
    (λ r is low. subst (λ bytes. with_block block bytes ≡ unrolled_payload r s.highest bytes) same (near r is low))
    (high_low h read after.lawful s.judge.state.transfer after.kept s.highest after.high) taken

-- a refusal leaves all as it was
pub side_refused : (old new : Side) (h : Header) (read : List Datagram) (refusal : Refusal) → IsSideAfter old h read → new.judge.state.transfer ≡ old.judge.state.transfer → new.judge.fed ≡ old.judge.fed
    → new.judge.refused ≡ Some refusal → new.acks ≡ old.acks → new.highest ≡ old.highest → new.counts ≡ old.counts → IsSideAfter new h read
side_refused old new h read refusal after transfer fed refused acks highest counts = record {
  goes_on = λ none. let apart : None ≡ Some refusal = sym none ∙ refused in absurd (cc);
  lawful = after.lawful;
  short = after.short;
  kept = subst (IsKept h read) (sym transfer) after.kept;
  fed = fed ∙ after.fed;
  few = after.few;
  acks = subst (λ (a : Acks). AreFlags (flags_in a) (transfer_of h read)) (sym acks) after.acks;
  high = subst (IsHigh (transfer_of h read)) (sym highest) after.high;
  counted = subst (λ (o : Option Counted). AreCounted o (transfer_of h read)) (sym counts) after.counted;
}
