-- The rules of blocks and acknowledgements at one end (RFC 1350, sections 2, 4 and 5; RFC 2347; RFC 2348; RFC 7440,
-- section 4). The list `passed` has the datagrams of the transfer that have passed at the named end, the newest first.
use Rattle.std.specs.Prelude.{◌≡◌, ◌≢◌, ◌⊎◌, ℕ, ◌+◌, ◌/◌, ◌%◌, ◌<◌, ◌≤◌, List, [], ◌∷◌, length, Bool, Some, None, ◌&&◌, if◌then◌else◌}
use Rattle.std.specs.List.{list_any}
use Rattle.tftp_packet.specs.{IsFirst, Message, Data, Ack, Spells, Side, Get, Put}
use Rattle.tftp_packet.specs.Hosts.{Datagram}
use Rattle.tftp_packet.specs.{Dir, In, Out}
use Rattle.law_model.specs.Model.Roles.{sender_of, receiver_of}
use Rattle.law_model.specs.Rules.Ports.{goes_out, comes_in, begins_error}
use Rattle.law_model.specs.declared.rules.rule.EndRule.{EndRule}
use Rattle.law_model.specs.declared.rules.rule.EndRule.TheVariants.{NotStarted, BlockZero, BeyondBlock65535, BlockLength, WindowOverrun, BlockSkipped, GoneBack, BlockChanged, AckAhead, AckZero}
use Rattle.law_model.specs.declared.rules.terms.Reply.{Reply}
use Rattle.law_model.specs.declared.rules.terms.Reply.TheVariants.{NoReply, Plain, Oacked}
use Rattle.law_model.specs.declared.rules.terms.Terms.{Terms}

-- a datagram that goes this way and spells this has passed
abbrev pub Passed : Dir → Message → List Datagram → Type 0
Passed dir m [] = ⊥
Passed dir m (d ∷ passed) = ((d.dir ≡ dir) × Spells d.payload m) ⊎ Passed dir m passed

abbrev pub HasPassed : Message → List Datagram → Type 0
HasPassed m passed = Passed In m passed ⊎ Passed Out m passed

-- an ERROR of the other end
abbrev pub brings_error : Datagram → Bool
brings_error d = comes_in d && begins_error d

-- What the other end can have used, and all that came in: what goes out after its first ERROR has come in is left out. By
-- then it had sent all that it ever sends, but that ERROR again (RFC 1350, section 7). The four rules that judge what comes
-- in by what has gone out read this.
abbrev pub usable : List Datagram → List Datagram
usable [] = []
usable (d ∷ passed) = if goes_out d && list_any brings_error passed then usable passed else d ∷ usable passed

-- some block with this number
abbrev pub BlockPassed : Dir → ℕ → List Datagram → Type 0
BlockPassed dir k passed = (bytes : List ℕ) × Passed dir (Data k bytes) passed

-- the greatest of these numbers, or 0
pub record IsGreatest (P : ℕ → Type 0) (greatest : ℕ) : Type 0 where
  pub member : (greatest ≡ 0) ⊎ P greatest
  pub most : (n : ℕ) → P n → n ≤ greatest

-- the highest block that was sent, or 0
abbrev pub IsTop : List Datagram → ℕ → Type 0
IsTop passed top = IsGreatest (λ k. BlockPassed Out k passed) top

-- the highest ACK that came in, or 0
abbrev pub IsAnswered : List Datagram → ℕ → Type 0
IsAnswered passed answered = IsGreatest (λ j. Passed In (Ack j) passed) answered

-- the highest ACK that was sent, or 0
abbrev pub IsAcked : List Datagram → ℕ → Type 0
IsAcked passed acked = IsGreatest (λ j. Passed Out (Ack j) passed) acked

-- the highest block that was sent or came in, or 0
abbrev pub IsHigh : List Datagram → ℕ → Type 0
IsHigh passed high = IsGreatest (λ k. (bytes : List ℕ) × HasPassed (Data k bytes) passed) high

-- the highest c such that the blocks 1 to c came in
pub record IsFront (passed : List Datagram) (front : ℕ) : Type 0 where
  pub below : (k : ℕ) → 1 ≤ k → k ≤ front → BlockPassed In k passed
  pub next : BlockPassed In (front + 1) passed → ⊥

-- The last block: one that is shorter than a block, or the one that ends a wire of the size that was agreed.
abbrev pub IsLast : Terms → List Datagram → ℕ → Type 0
IsLast t passed last =
    ((bytes : List ℕ) × HasPassed (Data last bytes) passed × (length bytes < t.blksize))
    ⊎ ((size : ℕ) × (t.size ≡ Some size) × (last ≡ size / t.blksize + 1))

pub record LastIsUnknown (t : Terms) (passed : List Datagram) : Type 0 where
  pub no_size : t.size ≡ None
  pub all_whole : (k : ℕ) (bytes : List ℕ) → HasPassed (Data k bytes) passed → t.blksize ≤ length bytes

-- a length that block k can't have, where the last block is known
abbrev pub IsNotLengthOf : Terms → ℕ → ℕ → ℕ → Type 0
IsNotLengthOf t last k long =
    (last < k)
    ⊎ (((k < last) × (long ≢ t.blksize))
    ⊎ (((k ≡ last) × (long ≡ t.blksize))
    ⊎ ((k ≡ last) × (size : ℕ) × (t.size ≡ Some size) × (long ≢ size % t.blksize))))

-- a block longer than a block; or of a length that its place does not allow; or short, and so the last, where one at
-- or above it has passed
abbrev pub HasWrongLength : Terms → List Datagram → ℕ → ℕ → Type 0
HasWrongLength t passed k long =
    (t.blksize < long)
    ⊎ (((last : ℕ) × IsLast t passed last × IsNotLengthOf t last k long)
    ⊎ (LastIsUnknown t passed × (long < t.blksize) × ((high : ℕ) × IsHigh passed high × (k ≤ high))))

-- Blocks wait, on a read with options, for the ACK 0 that takes them; on a write, for a reply.
abbrev pub BlocksWait : Side → Reply → List Datagram → Type 0
BlocksWait Get Oacked passed = HasPassed (Ack 0) passed → ⊥
BlocksWait Put NoReply passed = Unit {0}
BlocksWait _ _ passed = ⊥

-- ACK 0 has nothing to answer: on a read without options, and on a write with options before a block.
abbrev pub AckZeroWaits : Side → Reply → List Datagram → Type 0
AckZeroWaits Get NoReply passed = Unit {0}
AckZeroWaits Get Plain passed = Unit {0}
AckZeroWaits Put Oacked passed = (k : ℕ) (bytes : List ℕ) → HasPassed (Data k bytes) passed → ⊥
AckZeroWaits _ _ passed = ⊥

abbrev pub IsSender : Terms → Type 0
IsSender t = t.named ≡ sender_of t.side

abbrev pub IsReceiver : Terms → Type 0
IsReceiver t = t.named ≡ receiver_of t.side

-- the highest ACK that came in at the sender, or that the receiver sent, or 0
abbrev pub IsAckedAt : Terms → List Datagram → ℕ → Type 0
IsAckedAt t passed acked = (IsSender t × IsAnswered passed acked) ⊎ (IsReceiver t × IsAcked passed acked)

-- the highest block that may be acknowledged: the top at the sender, the front at the receiver
abbrev pub IsReachedAt : Terms → List Datagram → ℕ → Type 0
IsReachedAt t passed reached = (IsSender t × IsTop passed reached) ⊎ (IsReceiver t × IsFront passed reached)

-- the numbers of these rules, in the order in which all rules are tried
abbrev pub end_number : EndRule → ℕ
end_number NotStarted = 18
end_number BlockZero = 19
end_number BeyondBlock65535 = 20
end_number BlockLength = 21
end_number WindowOverrun = 22
end_number BlockSkipped = 23
end_number GoneBack = 24
end_number BlockChanged = 25
end_number AckAhead = 26
end_number AckZero = 27

-- these rules, in their order
abbrev pub end_rules : List EndRule
end_rules = NotStarted ∷ BlockZero ∷ BeyondBlock65535 ∷ BlockLength ∷ WindowOverrun ∷ BlockSkipped ∷ GoneBack ∷ BlockChanged ∷ AckAhead ∷ AckZero ∷ []

-- how many rules there are: these, and 17 that stand before them
abbrev pub rule_count : ℕ
rule_count = 17 + length end_rules

-- when block k with these bytes breaks each rule of blocks
abbrev pub BlockBreaks : Terms → List Datagram → ℕ → List ℕ → EndRule → Type 0
-- it comes before the request is answered, or the answer is taken (RFC 1350, section 4; RFC 2347)
BlockBreaks t passed k bytes NotStarted = BlocksWait t.side t.reply (usable passed)
-- blocks are numbered from 1 up to the greatest, which is 65535 by two bytes (RFC 1350, section 5)
BlockBreaks t passed k bytes BlockZero = k ≡ 0
BlockBreaks t passed k bytes BeyondBlock65535 = (t.greatest < k) ⊎ ((k ≡ t.greatest) × (t.blksize ≤ length bytes))
-- a block shorter than the others is the last (RFC 1350, section 2; RFC 2348; RFC 2349)
BlockBreaks t passed k bytes BlockLength = HasWrongLength t passed k (length bytes)
-- no more than a window goes ahead of what was acknowledged (RFC 7440, section 4; a window of 1 is RFC 1350, section 2)
BlockBreaks t passed k bytes WindowOverrun = (acked : ℕ) × IsAckedAt t (usable passed) acked × (acked + t.windowsize < k)
-- a sender leaves no block out, and in lock step does not go back (RFC 1350, section 2)
BlockBreaks t passed k bytes BlockSkipped = IsSender t × ((top : ℕ) × IsTop passed top × (top + 1 < k))
BlockBreaks t passed k bytes GoneBack = IsSender t × (t.windowsize ≡ 1) × ((top : ℕ) × IsTop passed top × (k < top))
-- a block that comes again is the same
BlockBreaks t passed k bytes BlockChanged = (other : List ℕ) × HasPassed (Data k other) passed × (other ≢ bytes)
BlockBreaks t passed k bytes _ = ⊥

-- when an ACK of block j breaks each rule of acknowledgements
abbrev pub AckBreaks : Terms → List Datagram → ℕ → EndRule → Type 0
-- an ACK says that this block and all before it have come (RFC 1350, section 2; RFC 7440, section 4)
AckBreaks t passed j AckAhead = (reached : ℕ) × IsReachedAt t (usable passed) reached × (reached < j)
-- ACK 0 answers an OACK, a request to write, or says that the first block was lost (RFC 1350, section 4; RFC 2347)
AckBreaks t passed j AckZero = (j ≡ 0) × AckZeroWaits t.side t.reply (usable passed)
AckBreaks t passed j _ = ⊥

-- when a message breaks each of these rules
abbrev pub EndBroken : Terms → List Datagram → Message → EndRule → Type 0
EndBroken t passed (Data k bytes) rule = BlockBreaks t passed k bytes rule
EndBroken t passed (Ack j) rule = AckBreaks t passed j rule
EndBroken t passed _ rule = ⊥

-- the first of these rules that the message breaks
abbrev pub FirstEndBroken : Terms → List Datagram → Message → EndRule → Type 0
FirstEndBroken t passed m rule = IsFirst end_number (EndBroken t passed m) rule
