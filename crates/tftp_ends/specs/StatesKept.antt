-- What is so of the numbers that a state keeps, and what its blocks tell of the last one.
use Rattle.std.specs.Prelude.{◌≡◌, ◌↔◌, ◌⊎◌, ℕ, ◌+◌, ◌/◌, ◌<◌, ◌≤◌, Bool, true, cond, nat_eq, List, length, Option, Some, None, refl}
use Rattle.std.specs.Coded.{Coded, code_by, coded×, coded_ℕ, coded_bool, coded_list, coded_option}
use Rattle.std.specs.FinMap as map
use Rattle.tftp_packet.specs.{Ack, side_code, Side, End, Client, Server}
use Rattle.tftp_packet.specs.Hosts.{Datagram}
use Rattle.law_model.specs.Rules.{HasPassed, IsSender, IsReceiver, IsAckedAt, usable}
use Rattle.law_model.specs.{Reply, NoReply, Plain, Oacked, Terms}
use Rattle.tftp_ends.specs.Blocks.{Held, IsHighest, IsHeldLast}
use Rattle.tftp_ends.specs.States.{Sender, Receiver, AreBlocks, IsHeld, HasLengthBySize}

-- each block that is held has the length that an agreed size leaves it
abbrev pub AreSized : Terms → Held → Type 0
AreSized t held = (size k : ℕ) (bytes : List ℕ) → t.size ≡ Some size → map.get held k ≡ Some bytes → HasLengthBySize t.blksize size k (length bytes)

-- Blocks are numbered from 1 up to the greatest (RFC 1350, section 5).
pub record IsSound (t : Terms) (held : Held) : Type 0 where
  pub blksize : 8 ≤ t.blksize
  pub windowsize : 1 ≤ t.windowsize
  pub from_one : map.get held 0 ≡ None
  pub numbers : (k : ℕ) → IsHeld held k → k ≤ t.greatest
  pub sized : AreSized t held

-- The sender leaves no block out, and what was acknowledged it had sent.
pub record IsSoundSender (s : Sender) : Type 0 where
  pub sound : IsSound s.terms s.held
  pub sends : IsSender s.terms
  pub in_order : (k above : ℕ) → IsHeld s.held above → 1 ≤ k → k ≤ above → IsHeld s.held k
  pub sent : (s.usable_top ≡ 0) ⊎ IsHeld s.held s.usable_top
  pub answered : s.answered ≤ s.usable_top

-- What the receiver acknowledged has come.
pub record IsSoundReceiver (r : Receiver) : Type 0 where
  pub sound : IsSound r.terms r.held
  pub receives : IsReceiver r.terms
  pub taken : (k : ℕ) → 1 ≤ k → k ≤ r.acked → IsHeld r.held k
  pub usable : r.usable_acked ≤ r.acked

-- ---- what the blocks tell of the last one

-- each block that is held below the last is whole
abbrev pub AreWholeBelow : ℕ → Held → ℕ → Type 0
AreWholeBelow b held last = (k : ℕ) (bytes : List ℕ) → map.get held k ≡ Some bytes → k < last → length bytes ≡ b

-- the last block is held, and none above it
pub record IsShortTop (b : ℕ) (held : Held) (last : ℕ) : Type 0 where
  pub short : IsHeldLast b held last
  pub only : (other : ℕ) → IsHeldLast b held other → other ≡ last
  pub most : (k : ℕ) → IsHeld held k → k ≤ last
  pub whole : AreWholeBelow b held last

abbrev pub AreWhole : ℕ → Held → Type 0
AreWhole b held = (k : ℕ) (bytes : List ℕ) → map.get held k ≡ Some bytes → b ≤ length bytes

-- the last block by those that are held or by the size that was agreed, and there is but one
pub record IsEnd (t : Terms) (held : Held) (last : ℕ) : Type 0 where
  pub known : IsHeldLast t.blksize held last ⊎ ((size : ℕ) × (t.size ≡ Some size) × (last ≡ size / t.blksize + 1))
  pub by_block : (other : ℕ) → IsHeldLast t.blksize held other → other ≡ last
  pub by_size : (size : ℕ) → t.size ≡ Some size → last ≡ size / t.blksize + 1
  pub most : (k : ℕ) → IsHeld held k → k ≤ last
  pub whole : AreWholeBelow t.blksize held last
  pub short : (bytes : List ℕ) → map.get held last ≡ Some bytes → length bytes < t.blksize

-- nothing tells which block is the last
pub record HasNoEnd (t : Terms) (held : Held) : Type 0 where
  pub no_size : t.size ≡ None
  pub all_whole : AreWhole t.blksize held

-- a length that block k can't have where no size tells the last one: it lies above the short block, or is short below it,
-- or whole at its place; or it is short, and one at or above it is held
abbrev pub EndsElsewhere : ℕ → Held → ℕ → ℕ → Type 0
EndsElsewhere b held k long =
    ((last : ℕ) × IsShortTop b held last × ((last < k) ⊎ (((k < last) × (long < b)) ⊎ ((k ≡ last) × (long ≡ b)))))
    ⊎ (AreWhole b held × (long < b) × ((high : ℕ) × IsHighest held high × (k ≤ high)))

-- a length that it may have then
abbrev pub EndsThere : ℕ → Held → ℕ → ℕ → Type 0
EndsThere b held k long =
    ((last : ℕ) × IsShortTop b held last × (((k < last) × (long ≡ b)) ⊎ ((k ≡ last) × (long < b))))
    ⊎ (AreWhole b held × ((long ≡ b) ⊎ ((high : ℕ) × IsHighest held high × (high < k))))

-- a length that block k may have beside those that are held
pub record HasRightLength (t : Terms) (held : Held) (k long : ℕ) : Type 0 where
  pub fits : long ≤ t.blksize
  pub before_last : (last : ℕ) → IsHeldLast t.blksize held last → ((k < last) × (long ≡ t.blksize)) ⊎ ((k ≡ last) × (long < t.blksize))
  pub is_last : long < t.blksize → ((last : ℕ) × IsHeldLast t.blksize held last) ⊎ ((other : ℕ) (bytes : List ℕ) → map.get held other ≡ Some bytes → other < k)
  pub sized : (size : ℕ) → t.size ≡ Some size → HasLengthBySize t.blksize size k long

-- ---- the rules

-- what a state must know of what has passed for the rules of blocks that are the same at both ends
pub record IsKnown (t : Terms) (passed : List Datagram) (held : Held) (has_zero : Bool) (highest : ℕ) : Type 0 where
  pub blocks : AreBlocks passed held
  pub zero : (has_zero ≡ true) ↔ HasPassed (Ack 0) (usable passed)
  pub acked : IsAckedAt t (usable passed) highest
  pub only : (other : ℕ) → IsAckedAt t (usable passed) other → other ≡ highest

-- ---- codes

abbrev pub number_of_end : End → ℕ
number_of_end Client = 0
number_of_end Server = 1

abbrev pub end_from : ℕ → End
end_from n = cond (nat_eq n 0) Client Server

abbrev pub end_back : (e : End) → end_from (number_of_end e) ≡ e
end_back Client = refl
end_back Server = refl

abbrev pub reply_number : Reply → ℕ
reply_number NoReply = 0
reply_number Plain = 1
reply_number Oacked = 2

abbrev pub reply_from : ℕ → Reply
reply_from n = cond (nat_eq n 0) NoReply (cond (nat_eq n 1) Plain Oacked)

abbrev pub reply_back : (reply : Reply) → reply_from (reply_number reply) ≡ reply
reply_back NoReply = refl
reply_back Plain = refl
reply_back Oacked = refl

abbrev pub terms_code : Coded Terms
terms_code =
    code_by (End × (Side × (Reply × (ℕ × (ℕ × (ℕ × Option ℕ))))))
    (coded× (code_by ℕ coded_ℕ number_of_end end_from end_back) (coded× side_code (coded× (code_by ℕ coded_ℕ reply_number reply_from reply_back) (coded× coded_ℕ (coded× coded_ℕ (coded× coded_ℕ (coded_option coded_ℕ)))))))
    (λ t. (t.named, (t.side, (t.reply, (t.blksize, (t.windowsize, (t.greatest, t.size)))))))
    (λ p. record { named = p.0; side = p.1.0; reply = p.1.1.0; blksize = p.1.1.1.0; windowsize = p.1.1.1.1.0; greatest = p.1.1.1.1.1.0; size = p.1.1.1.1.1.1 })
    (λ _. refl)

abbrev pub held_code : Coded Held
held_code = map.code coded_ℕ (coded_list coded_ℕ)

abbrev pub sender_code : Coded Sender
sender_code =
    code_by (Terms × (Held × (ℕ × (Bool × (ℕ × Bool))))) (coded× terms_code (coded× held_code (coded× coded_ℕ (coded× coded_bool (coded× coded_ℕ coded_bool)))))
    (λ s. (s.terms, (s.held, (s.answered, (s.zero, (s.usable_top, s.stopped))))))
    (λ p. record { terms = p.0; held = p.1.0; answered = p.1.1.0; zero = p.1.1.1.0; usable_top = p.1.1.1.1.0; stopped = p.1.1.1.1.1 })
    (λ _. refl)

abbrev pub receiver_code : Coded Receiver
receiver_code =
    code_by (Terms × (Held × (ℕ × (ℕ × (Bool × Bool))))) (coded× terms_code (coded× held_code (coded× coded_ℕ (coded× coded_ℕ (coded× coded_bool coded_bool)))))
    (λ r. (r.terms, (r.held, (r.acked, (r.usable_acked, (r.zero, r.stopped))))))
    (λ p. record { terms = p.0; held = p.1.0; acked = p.1.1.0; usable_acked = p.1.1.1.0; zero = p.1.1.1.1.0; stopped = p.1.1.1.1.1 })
    (λ _. refl)
