-- What had passed of a transfer between the ends, and what is kept of that. The list `passed` has the datagrams of the transfer,
-- the newest first.
use Rattle.std.specs.Prelude.{◌≡◌, ◌⊎◌, ◌↔◌, ℕ, ◌+◌, ◌<◌, ◌≤◌, Bool, true, false, List, Any, Option, Some, None}
use Rattle.std.specs.List.{list_any}
use Rattle.std.specs.Ordering.{nat_cmp, is_eq}
use Rattle.tftp_packet.specs.{Message, Spells, End, Client, Server}
use Rattle.law_tap.specs.{TapDatagram, TapSides, side_of, before_error, tap_tests, HasKind, IsBlock, IsSomeBlock, IsOack, IsReply}
use Rattle.judge_tap.specs.declared.seen.Marks.{Marks}

-- ---- what has passed

abbrev pub has_number : ℕ → List ℕ → Bool
has_number k numbers = list_any (λ other. is_eq (nat_cmp k other)) numbers

pub record Seen : Type 0 where
  pub marks : Marks
  pub above : List ℕ  -- the blocks above the front, when they passed

-- what is marked has passed, and what is not marked has not
pub record AreMarks (marks : Marks) (passed : List TapDatagram) : Type 0 where
  pub below : (k : ℕ) → 1 ≤ k → k ≤ marks.front → HasKind (IsBlock k) passed
  pub next : marks.front < 4294967295 → HasKind (IsBlock (marks.front + 1)) passed → ⊥
  pub block : (marks.block ≡ true) ↔ HasKind IsSomeBlock passed
  pub oack : (marks.oack ≡ true) ↔ HasKind IsOack passed
  pub reply : (marks.reply ≡ true) ↔ HasKind IsReply passed

pub record AreSeen (seen : Seen) (passed : List TapDatagram) : Type 0 where
  pub marks : AreMarks seen.marks passed
  pub noted : (k : ℕ) → has_number k seen.above ≡ true → HasKind (IsBlock k) passed
  pub all : (k : ℕ) → HasKind (IsBlock k) passed → (k ≤ seen.marks.front) ⊎ (has_number k seen.above ≡ true)

-- ---- the first ERROR of an end

pub record Stopped : Type 0 where
  pub code : ℕ
  pub text : List ℕ
  pub before : Marks  -- what had passed before it

abbrev pub ErrorPassed : TapSides → End → List TapDatagram → ℕ → List ℕ → Type 0
ErrorPassed s e passed code text = Any (λ (x : TapDatagram). (x.source ≡ side_of s e) × Spells x.payload (Message.Error code text)) passed

pub record IsStoppedBy (s : TapSides) (e : End) (passed : List TapDatagram) (stopped : Stopped) : Type 0 where
  pub ended : list_any ((tap_tests s).ends e) passed ≡ true
  pub before : AreMarks stopped.before (before_error (tap_tests s) e passed)
  pub sent : ErrorPassed s e passed stopped.code stopped.text
  pub one : (code : ℕ) (text : List ℕ) → ErrorPassed s e passed code text → (code ≡ stopped.code) × (text ≡ stopped.text)

abbrev pub IsStop : TapSides → End → List TapDatagram → Option Stopped → Type 0
IsStop s e passed None = list_any ((tap_tests s).ends e) passed ≡ false
IsStop s e passed (Some stopped) = IsStoppedBy s e passed stopped

-- ---- what is kept of all that

pub record Notes : Type 0 where
  pub seen : Seen
  pub client : Option Stopped  -- the client's first ERROR
  pub server : Option Stopped

abbrev pub stop_of : Notes → End → Option Stopped
stop_of notes Client = notes.client
stop_of notes Server = notes.server

-- the notes stand for these datagrams of a transfer
pub record AreNotes (notes : Notes) (s : TapSides) (passed : List TapDatagram) : Type 0 where
  pub seen : AreSeen notes.seen passed
  pub stops : (e : End) → IsStop s e passed (stop_of notes e)

-- the first ERROR is kept
abbrev pub first_stop : Option Stopped → Stopped → Option Stopped
first_stop None now = Some now
first_stop (Some before) now = Some before

-- a block of which none with its number has passed
abbrev pub IsNewBlock : List TapDatagram → Message → Type 0
IsNewBlock passed (Message.Data k bytes) = HasKind (IsBlock k) passed → ⊥
IsNewBlock passed _ = ⊥

-- such a block, or the first ERROR of its end
abbrev pub IsNew : TapSides → List TapDatagram → End → Message → Type 0
IsNew s passed e (Message.Error code text) = (other : ℕ) (words : List ℕ) → ErrorPassed s e passed other words → ⊥
IsNew s passed e m = IsNewBlock passed m
