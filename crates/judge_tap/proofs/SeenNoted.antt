-- What has passed, after one more.
use Rattle.std.proofs.Common.{◌≡◌, ◌⊎◌, ◌↔◌, ℕ, ◌+◌, ◌<◌, ◌≤◌, Bool, true, false, List, ◌∷◌, inl, inr, refl, sym, subst, ap, ◌∙◌, arith, cond}
use Rattle.std.specs.Ordering.{nat_cmp, is_eq}
use Rattle.std.specs.Cmp.{nat_cmp_is}
use Rattle.std.specs.declared.cmp.Ordering.TheVariants.{Less, Equal, Greater}
use Rattle.std.proofs.lemmas.Bool.{true≢false, cases_lt}
use Rattle.tftp_packet.specs.{Message, Spells}
use Rattle.law_tap.specs.{TapDatagram, HasKind, IsBlock, IsSomeBlock, IsOack, IsReply}
use Rattle.judge_tap.specs.{Marks, has_number, Seen, AreMarks, AreSeen}
use Rattle.judge_tap.proofs.KindsPassed.{kind_now, kind_before, kind_cases}

-- a flag that is set where it was, or where this message is of its kind
abbrev pub Flags : (Message → Type 0) → Message → Bool → Bool → Type 0
Flags Kind m old new = (new ≡ true) ↔ (Kind m ⊎ (old ≡ true))

module _ (passed : List TapDatagram) (d : TapDatagram) (m : Message) (says : Spells d.payload m) where
  flagged : (Kind : Message → Type 0) (old new : Bool) → Flags Kind m old new → (old ≡ true) ↔ HasKind Kind passed → (new ≡ true) ↔ HasKind Kind (d ∷ passed)
  flagged Kind old new flags was = (
    λ is. elim (flags.0 is) [ inl now ↦ kind_now Kind passed d m says now | inr before ↦ kind_before Kind passed d m says (was.0 before) ],
    λ has. flags.1 (elim (kind_cases Kind passed d m says has) [ inl now ↦ inl now | inr before ↦ inr (was.1 before) ]),
  )

  -- a message that is no block
  pub seen_with : (old : Seen) (marks : Marks) → AreSeen old passed → ((k : ℕ) → IsBlock k m → ⊥) → marks.front ≡ old.marks.front
      → Flags IsSomeBlock m old.marks.block marks.block → Flags IsOack m old.marks.oack marks.oack → Flags IsReply m old.marks.reply marks.reply
      → AreSeen (record { marks = marks; above = old.above }) (d ∷ passed)
  seen_with old marks are none front block oack reply = record {
    marks = record {
      below = λ k low high. kind_before (IsBlock k) passed d m says (are.marks.below k low (subst (λ n. k ≤ n) front high));
      next = λ low has. elim (kind_cases (IsBlock (marks.front + 1)) passed d m says has) [
        | inl now ↦ none (marks.front + 1) now
        | inr before ↦ are.marks.next (subst (λ n. n < 4294967295) front low) (subst (λ n. HasKind (IsBlock (n + 1)) passed) front before)
      ];
      block = flagged IsSomeBlock old.marks.block marks.block block are.marks.block;
      oack = flagged IsOack old.marks.oack marks.oack oack are.marks.oack;
      reply = flagged IsReply old.marks.reply marks.reply reply are.marks.reply;
    };
    noted = λ k is. kind_before (IsBlock k) passed d m says (are.noted k is);
    all = λ k has. elim (kind_cases (IsBlock k) passed d m says has) [
      | inl now ↦ absurd (none k now)
      | inr before ↦ elim (are.all k before) [ inl low ↦ inl (subst (λ n. k ≤ n) (sym front) low) | inr above ↦ inr above ]
    ];
  }

-- ---- blocks

is_same : (a b : ℕ) → is_eq (nat_cmp a b) ≡ true → a ≡ b
is_same a b is = elim (cases_lt a b) [
  | inl below ↦ absurd (true≢false (sym is ∙ ap is_eq (sym (nat_cmp_is a b Less below))))
  | inr up ↦ elim (cases_lt b a) [
    | inl above ↦ absurd (true≢false (sym is ∙ ap is_eq (sym (nat_cmp_is a b Greater above))))
    | inr down ↦ omega (arith, up, down)
  ]
]

cond_cases : (b c : Bool) → cond b true c ≡ true → (b ≡ true) ⊎ (c ≡ true)
cond_cases true c is = inl refl
cond_cases false c is = inr is

module _ (passed : List TapDatagram) (d : TapDatagram) (number : ℕ) (bytes : List ℕ) (says : Spells d.payload (Message.Data number bytes)) (old : Seen) (are : AreSeen old passed) where
  later : (k : ℕ) → HasKind (IsBlock k) passed → HasKind (IsBlock k) (d ∷ passed)
  later k has = kind_before (IsBlock k) passed d (Message.Data number bytes) says has

  this : (k : ℕ) → number ≡ k → HasKind (IsBlock k) (d ∷ passed)
  this k is = kind_now (IsBlock k) passed d (Message.Data number bytes) says is

  cases : (k : ℕ) → HasKind (IsBlock k) (d ∷ passed) → (number ≡ k) ⊎ HasKind (IsBlock k) passed
  cases k has = kind_cases (IsBlock k) passed d (Message.Data number bytes) says has

  marks_with : (front : ℕ) (marks : Marks) → marks.front ≡ front → marks.block ≡ true → marks.oack ≡ old.marks.oack → marks.reply ≡ old.marks.reply
      → ((k : ℕ) → 1 ≤ k → k ≤ front → HasKind (IsBlock k) (d ∷ passed)) → (front < 4294967295 → HasKind (IsBlock (front + 1)) (d ∷ passed) → ⊥) → AreMarks marks (d ∷ passed)
  marks_with front marks is block oack reply below next = record {
    below = λ k low high. below k low (subst (λ n. k ≤ n) is high);
    next = λ low has. next (subst (λ n. n < 4294967295) is low) (subst (λ n. HasKind (IsBlock (n + 1)) (d ∷ passed)) is has);
    block = (λ _. kind_now IsSomeBlock passed d (Message.Data number bytes) says tt, λ _. block);
    oack = flagged passed d (Message.Data number bytes) says IsOack old.marks.oack marks.oack (λ on. inr (sym oack ∙ on), λ on. elim on [ inl never ↦ absurd never | inr was ↦ oack ∙ was ]) are.marks.oack;
    reply = flagged passed d (Message.Data number bytes) says IsReply old.marks.reply marks.reply (λ on. inr (sym reply ∙ on), λ on. elim on [ inl never ↦ absurd never | inr was ↦ reply ∙ was ]) are.marks.reply;
  }

  -- one that has passed, or has no place
  pub block_again : (marks : Marks) → marks.front ≡ old.marks.front → marks.block ≡ true → marks.oack ≡ old.marks.oack → marks.reply ≡ old.marks.reply → number ≤ old.marks.front
      → AreSeen (record { marks = marks; above = old.above }) (d ∷ passed)
  block_again marks front block oack reply low = record {
    marks = marks_with old.marks.front marks front block oack reply (λ k one high. later k (are.marks.below k one high))
        (λ fits has. elim (cases (old.marks.front + 1) has) [ inl now ↦ omega (arith, now, low) | inr before ↦ are.marks.next fits before ]);
    noted = λ k is. later k (are.noted k is);
    all = λ k has. elim (cases k has) [
      | inl now ↦ inl (subst (λ n. n ≤ marks.front) now (subst (λ n. number ≤ n) (sym front) low))
      | inr before ↦ elim (are.all k before) [ inl below ↦ inl (subst (λ n. k ≤ n) (sym front) below) | inr above ↦ inr above ]
    ];
  }

  -- the next one
  pub block_next : (front : ℕ) (marks : Marks) → marks.front ≡ front → marks.block ≡ true → marks.oack ≡ old.marks.oack → marks.reply ≡ old.marks.reply → number ≡ old.marks.front + 1 → number ≤ front
      → ((k : ℕ) → number < k → k ≤ front → has_number k old.above ≡ true) → (front < 4294967295 → has_number (front + 1) old.above ≡ false)
      → AreSeen (record { marks = marks; above = old.above }) (d ∷ passed)
  block_next front marks is block oack reply next within held gap = record {
    marks = marks_with front marks is block oack reply below above_it;
    noted = λ k above. later k (are.noted k above);
    all = λ k has. elim (cases k has) [
      | inl now ↦ inl (subst (λ n. n ≤ marks.front) now (subst (λ n. number ≤ n) (sym is) within))
      | inr before ↦ elim (are.all k before) [ inl low ↦ inl (subst (λ n. k ≤ n) (sym is) (omega (arith, low, next, within))) | inr above ↦ inr above ]
    ];
  }
    where
      below : (k : ℕ) → 1 ≤ k → k ≤ front → HasKind (IsBlock k) (d ∷ passed)
      below k one high = elim (cases_lt k number) [
        | inl low ↦ later k (are.marks.below k one (omega (arith, low, next)))
        | inr up ↦ elim (cases_lt number k) [
          | inl above ↦ later k (are.noted k (held k above high))
          | inr down ↦ this k (omega (arith, up, down))
        ]
      ]

      above_it : front < 4294967295 → HasKind (IsBlock (front + 1)) (d ∷ passed) → ⊥
      above_it fits has = elim (cases (front + 1) has) [
        | inl now ↦ omega (arith, now, within)
        | inr before ↦ elim (are.all (front + 1) before) [ inl low ↦ omega (arith, low, next, within) | inr above ↦ true≢false (sym above ∙ gap fits) ]
      ]

  -- one above that
  pub block_above : (marks : Marks) (above : List ℕ) → marks.front ≡ old.marks.front → marks.block ≡ true → marks.oack ≡ old.marks.oack → marks.reply ≡ old.marks.reply → old.marks.front + 1 < number
      → ((k : ℕ) → has_number k above ≡ cond (is_eq (nat_cmp number k)) true (has_number k old.above))
      → AreSeen (record { marks = marks; above = above }) (d ∷ passed)
  block_above marks above front block oack reply high has_now = record {
    marks = marks_with old.marks.front marks front block oack reply (λ k one low. later k (are.marks.below k one low))
        (λ fits has. elim (cases (old.marks.front + 1) has) [ inl now ↦ omega (arith, now, high) | inr before ↦ are.marks.next fits before ]);
    noted = λ k is. elim (cond_cases (is_eq (nat_cmp number k)) (has_number k old.above) (sym (has_now k) ∙ is)) [ inl now ↦ this k (is_same number k now) | inr before ↦ later k (are.noted k before) ];
    all = λ k has. elim (cases k has) [
      | inl now ↦ inr (has_now k ∙ subst (λ n. cond (is_eq (nat_cmp number n)) true (has_number n old.above) ≡ true) now same)
      | inr before ↦ elim (are.all k before) [
        | inl low ↦ inl (subst (λ n. k ≤ n) (sym front) low)
        | inr was ↦ inr (has_now k ∙ either (is_eq (nat_cmp number k)) k was)
      ]
    ];
  }
    where
      same : cond (is_eq (nat_cmp number number)) true (has_number number old.above) ≡ true
      same = ap (λ o. cond (is_eq o) true (has_number number old.above)) (sym (nat_cmp_is number number Equal refl))

      either : (b : Bool) (k : ℕ) → has_number k old.above ≡ true → cond b true (has_number k old.above) ≡ true
      either true k was = refl
      either false k was = was

-- ---- an OACK, an ACK 0, and what tells nothing here

pub oack_seen : (passed : List TapDatagram) (d : TapDatagram) (m : Message) (old : Seen) → AreSeen old passed → Spells d.payload m → IsOack m
    → AreSeen (record { marks = record { front = old.marks.front; block = old.marks.block; oack = true; reply = true }; above = old.above }) (d ∷ passed)
oack_seen passed d (Message.Oack options) old are says is = seen_with passed d (Message.Oack options) says old _ are (λ k none. none) refl
    (λ on. inr on, λ on. elim on [ inl none ↦ absurd none | inr was ↦ was ]) (λ on. inl tt, λ on. refl) (λ on. inl tt, λ on. refl)
oack_seen passed d _ old are says is = absurd is

pub zero_seen : (passed : List TapDatagram) (d : TapDatagram) (old : Seen) → AreSeen old passed → Spells d.payload (Message.Ack 0)
    → AreSeen (record { marks = record { front = old.marks.front; block = old.marks.block; oack = old.marks.oack; reply = true }; above = old.above }) (d ∷ passed)
zero_seen passed d old are says = seen_with passed d (Message.Ack 0) says old _ are (λ k none. none) refl
    (λ on. inr on, λ on. elim on [ inl none ↦ absurd none | inr was ↦ was ]) (λ on. inr on, λ on. elim on [ inl none ↦ absurd none | inr was ↦ was ]) (λ on. inl refl, λ on. refl)

-- a message that is neither a block nor an answer
abbrev pub IsQuiet : Message → Type 0
IsQuiet (Message.Request q) = Unit {0}
IsQuiet (Message.Error code text) = Unit {0}
IsQuiet (Message.Ack j) = j ≡ 0 → ⊥
IsQuiet _ = ⊥

pub quiet_seen : (passed : List TapDatagram) (d : TapDatagram) (m : Message) (old : Seen) → AreSeen old passed → Spells d.payload m → IsQuiet m → AreSeen old (d ∷ passed)
quiet_seen passed d m old are says quiet = seen_with passed d m says old old.marks are (no_block m quiet) refl (same IsSomeBlock (no_some m quiet)) (same IsOack (no_oack m quiet)) (same IsReply (no_reply m quiet)) where
  same : (Kind : Message → Type 0) → (Kind m → ⊥) → {b : Bool} → Flags Kind m b b
  same Kind none = (λ on. inr on, λ on. elim on [ inl now ↦ absurd (none now) | inr was ↦ was ])

  no_block : (n : Message) → IsQuiet n → (k : ℕ) → IsBlock k n → ⊥
  no_block (Message.Data i bytes) quiet k is = quiet
  no_block (Message.Oack options) quiet k is = quiet
  no_block _ quiet k is = is

  no_some : (n : Message) → IsQuiet n → IsSomeBlock n → ⊥
  no_some (Message.Data i bytes) quiet is = quiet
  no_some (Message.Oack options) quiet is = quiet
  no_some _ quiet is = is

  no_oack : (n : Message) → IsQuiet n → IsOack n → ⊥
  no_oack (Message.Data i bytes) quiet is = quiet
  no_oack (Message.Oack options) quiet is = quiet
  no_oack _ quiet is = is

  no_reply : (n : Message) → IsQuiet n → IsReply n → ⊥
  no_reply (Message.Request q) quiet is = is
  no_reply (Message.Error code text) quiet is = is
  no_reply (Message.Ack j) quiet is = quiet is
  no_reply (Message.Data i bytes) quiet is = quiet
  no_reply (Message.Oack options) quiet is = quiet

-- a block that is neither up to the front nor among those above it has not passed
pub block_absent : (passed : List TapDatagram) (old : Seen) (number : ℕ) → AreSeen old passed → old.marks.front < number → has_number number old.above ≡ false → HasKind (IsBlock number) passed → ⊥
block_absent passed old number are high absent has = elim (are.all number has) [ inl low ↦ omega (arith, low, high) | inr above ↦ true≢false (sym above ∙ absent) ]
