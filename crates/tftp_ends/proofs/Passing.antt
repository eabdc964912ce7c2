-- What a datagram adds to what has passed.
use Rattle.std.proofs.Common.{◌≡◌, ◌↔◌, ◌⊎◌, ℕ, ◌≤◌, max, Bool, true, false, ◌&&◌, ◌||◌, ◌==◌, List, [], ◌∷◌, Some, inl, inr, refl, sym, subst, ap, ◌∙◌, arith}
use Rattle.std.proofs.lemmas.Bool.{cases_lt, cases_eq, true≢false}
use Rattle.std.specs.FinMap as map
use Rattle.tftp_packet.specs.{Message, Request, Data, Ack, Error, Oack, Spells, Side, Get, Put}
use Rattle.tftp_packet.proofs.Unique.{message_opcode, layout_opcode, one_message}
use Rattle.tftp_packet.specs.Hosts.{Datagram}
use Rattle.tftp_packet.specs.{Dir, In, Out}
use Rattle.law_model.specs.Rules.{goes_out, begins_error, Passed, HasPassed, BlockPassed, IsGreatest, brings_error, usable}
use Rattle.tftp_ends.specs.Blocks.{Held, Placing, Differs, Places}
use Rattle.tftp_ends.specs.{has_stopped, AreBlocks, Says, IsAside}
use Rattle.tftp_ends.proofs.BlocksLemmas.Stores.{placed_is_held, others_are_kept}

-- ---- one datagram

-- what is said by it is what it says, and goes its way
pub now_or_before : (d : Datagram) (way dir : Dir) (m n : Message) (passed : List Datagram) → Says d way m → Passed dir n (d ∷ passed) → ((way ≡ dir) × (m ≡ n)) ⊎ Passed dir n passed
now_or_before d way dir m n passed says p = elim p [
  | inl here ↦ inl (sym says.0 ∙ here.0, one_message d.payload m n says.1.1 here.1.1)
  | inr before ↦ inr before
]

-- what goes the other way, or says something else, had passed before
pub another_way : (d : Datagram) (way dir : Dir) (m n : Message) (passed : List Datagram) → Says d way m → (way ≡ dir → ⊥) → Passed dir n (d ∷ passed) → Passed dir n passed
another_way d way dir m n passed says other p = elim (now_or_before d way dir m n passed says p) [ inl here ↦ absurd (other here.0) | inr before ↦ before ]

pub another : (d : Datagram) (way dir : Dir) (m n : Message) (passed : List Datagram) → Says d way m → (m ≡ n → ⊥) → Passed dir n (d ∷ passed) → Passed dir n passed
another d way dir m n passed says other p = elim (now_or_before d way dir m n passed says p) [ inl here ↦ absurd (other here.1) | inr before ↦ before ]

-- ---- ERRORs that come in

pub begins_as : (d : Datagram) (m : Message) → Spells d.payload m → begins_error d ≡ (message_opcode m == 5)
begins_as d m spells = ap (λ n. n == 5) (layout_opcode d.payload m spells.1)

no_error_out : (d : Datagram) → d.dir ≡ Out → brings_error d ≡ false
no_error_out d out = rw (out) refl

pub stopped_out : (d : Datagram) (passed : List Datagram) → d.dir ≡ Out → has_stopped (d ∷ passed) ≡ has_stopped passed
stopped_out d passed out = ap (λ b. b || has_stopped passed) (no_error_out d out)

pub stopped_with : (d : Datagram) (m : Message) (passed : List Datagram) → Says d In m → has_stopped (d ∷ passed) ≡ ((message_opcode m == 5) || has_stopped passed)
stopped_with d m passed says = ap (λ b. b || has_stopped passed) (by (begins_error d) (begins_as d m says.1)) where
  by : (b : Bool) → begins_error d ≡ (message_opcode m == 5) → brings_error d ≡ (message_opcode m == 5)
  by b is = rw (says.0, is) refl

-- ---- what the other end can have used

pub unusable : (d : Datagram) (passed : List Datagram) → d.dir ≡ Out → has_stopped passed ≡ true → usable (d ∷ passed) ≡ usable passed
unusable d passed out stopped = rw (out, stopped) refl

pub usable_out : (d : Datagram) (passed : List Datagram) → d.dir ≡ Out → has_stopped passed ≡ false → usable (d ∷ passed) ≡ d ∷ usable passed
usable_out d passed out stopped = rw (out, stopped) refl

pub usable_in : (d : Datagram) (passed : List Datagram) → d.dir ≡ In → usable (d ∷ passed) ≡ d ∷ usable passed
usable_in d passed in_ = rw (in_) refl

-- what came in is usable
pub came_usable : (m : Message) (passed : List Datagram) → Passed In m passed → Passed In m (usable passed)
came_usable m [] p = p
came_usable m (d ∷ passed) p = by (goes_out d && has_stopped passed) refl (λ q. came_usable m passed q) where
  by : (b : Bool) → (goes_out d && has_stopped passed) ≡ b → (Passed In m passed → Passed In m (usable passed)) → Passed In m (usable (d ∷ passed))
  by true is more = rw (is) (elim p [ inl now ↦ absurd (true≢false (sym is ∙ rw (now.0) refl)) | inr before ↦ more before ])
  by false is more = rw (is) (elim p [ inl now ↦ inl now | inr before ↦ inr (more before) ])

-- what is usable has passed
pub usable_passed : (dir : Dir) (m : Message) (passed : List Datagram) → Passed dir m (usable passed) → Passed dir m passed
usable_passed dir m [] p = p
usable_passed dir m (d ∷ passed) p = by (goes_out d && has_stopped passed) refl (λ q. usable_passed dir m passed q) where
  by : (b : Bool) → (goes_out d && has_stopped passed) ≡ b → (Passed dir m (usable passed) → Passed dir m passed) → Passed dir m (d ∷ passed)
  by true is more = inr (more (rw is at p))
  by false is more = elim (rw is at p) [ inl now ↦ inl now | inr before ↦ inr (more before) ]

pub usable_has : (m : Message) (passed : List Datagram) → HasPassed m (usable passed) → HasPassed m passed
usable_has m passed p = elim p [ inl came ↦ inl (usable_passed In m passed came) | inr went ↦ inr (usable_passed Out m passed went) ]

-- ---- greatest numbers

pub greatest_kept : (P Q : ℕ → Type 0) → ((n : ℕ) → P n → Q n) → ((n : ℕ) → Q n → P n) → (x : ℕ) → IsGreatest P x → IsGreatest Q x
greatest_kept P Q to from x is = record {
  member = elim is.member [ inl zero ↦ inl zero | inr one ↦ inr (to x one) ];
  most = λ n q. is.most n (from n q);
}

cases_le : (a b : ℕ) → (a ≤ b) ⊎ (b ≤ a)
cases_le a b = elim (cases_lt a b) [ inl below ↦ inl (omega arith) | inr above ↦ inr above ]

pub greatest_more : (P Q : ℕ → Type 0) (k : ℕ) → ((n : ℕ) → P n → Q n) → Q k → ((n : ℕ) → Q n → (n ≡ k) ⊎ P n) → (x y : ℕ) → y ≡ max x k → IsGreatest P x → IsGreatest Q y
greatest_more P Q k to one from x y is greatest = record {
  member = elim (cases_le x k) [
    | inl below ↦ let same : k ≡ y = omega arith in inr (subst Q same one)
    | inr above ↦ let same : x ≡ y = omega arith in elim greatest.member [ inl zero ↦ inl (omega arith) | inr p ↦ inr (subst Q same (to x p)) ]
  ];
  most = λ n q. elim (from n q) [ inl here ↦ omega arith | inr p ↦ let below = greatest.most n p in omega arith ];
}

pub greatest_one : (P : ℕ → Type 0) (x y : ℕ) → IsGreatest P x → IsGreatest P y → x ≡ y
greatest_one P x y a b =
    let under = below a b in
    let over = below b a in
    omega arith
  where
    below : {m n : ℕ} → IsGreatest P m → IsGreatest P n → m ≤ n
    below {m} {n} p q = elim p.member [ inl zero ↦ omega (arith, zero) | inr one ↦ q.most m one ]

pub none_greatest : (P : ℕ → Type 0) → ((n : ℕ) → P n → ⊥) → IsGreatest P 0
none_greatest P none = record { member = inl refl; most = λ n p. absurd (none n p) }

-- ---- blocks

-- The block that passes is held with those before it.
pub with_block : (d : Datagram) (way : Dir) (k : ℕ) (bytes : List ℕ) (passed : List Datagram) (old new : Held) (placing : Placing) → AreBlocks passed old → Says d way (Data k bytes)
    → Places old new k bytes placing → ((other : List ℕ) → map.get old k ≡ Some other → other ≡ bytes) → AreBlocks (d ∷ passed) new
with_block d way k bytes passed old new placing blocks says places same n other = (to, from) where
  not_other : placing ≡ Differs → ⊥
  not_other is = let differs = subst (Places old new k bytes) is places in differs.0.2 (same differs.0.0 differs.0.1)

  there : map.get new k ≡ Some bytes
  there = placed_is_held old new k bytes placing places not_other

  at : (dir : Dir) → Passed dir (Data n other) (d ∷ passed) → (Passed dir (Data n other) passed → map.get old n ≡ Some other) → map.get new n ≡ Some other
  at dir p earlier = elim (now_or_before d way dir (Data k bytes) (Data n other) passed says p) [
    | inl here ↦ let number : k ≡ n = cc in let all : bytes ≡ other = cc in ap (map.get new) (sym number) ∙ there ∙ ap Some all
    | inr before ↦ elim (cases_eq n k) [
      | inl is ↦ let all = same other (ap (map.get old) (sym is) ∙ earlier before) in ap (map.get new) is ∙ there ∙ ap Some (sym all)
      | inr differs ↦ others_are_kept old new k bytes placing places n differs ∙ earlier before
    ]
  ]

  to : HasPassed (Data n other) (d ∷ passed) → map.get new n ≡ Some other
  to p = elim p [ inl came ↦ at In came (λ q. (blocks n other).0 (inl q)) | inr went ↦ at Out went (λ q. (blocks n other).0 (inr q)) ]

  itself : (dir : Dir) → way ≡ dir → Data k bytes ≡ Data n other → HasPassed (Data n other) (d ∷ passed)
  itself In is m = inl (inl (says.0 ∙ is, subst (Spells d.payload) m says.1))
  itself Out is m = inr (inl (says.0 ∙ is, subst (Spells d.payload) m says.1))

  from : map.get new n ≡ Some other → HasPassed (Data n other) (d ∷ passed)
  from is = elim (cases_eq n k) [
    | inl number ↦
        let both : Some other ≡ Some bytes = sym is ∙ ap (map.get new) number ∙ there in
        let all : other ≡ bytes = cc in
        itself way refl (ap (λ x. Data x bytes) (sym number) ∙ ap (Data n) (sym all))
    | inr differs ↦ elim ((blocks n other).1 (sym (others_are_kept old new k bytes placing places n differs) ∙ is)) [ inl came ↦ inl (inr came) | inr went ↦ inr (inr went) ]
  ]

-- Anything else leaves them as they are.
pub without_block : (d : Datagram) (way : Dir) (m : Message) (passed : List Datagram) (held : Held) → AreBlocks passed held → Says d way m
    → ((k : ℕ) (bytes : List ℕ) → m ≡ Data k bytes → ⊥) → AreBlocks (d ∷ passed) held
without_block d way m passed held blocks says none k bytes = (
  (λ p. (blocks k bytes).0 (elim p [
    | inl came ↦ inl (another d way In m (Data k bytes) passed says (none k bytes) came)
    | inr went ↦ inr (another d way Out m (Data k bytes) passed says (none k bytes) went)
  ])),
  (λ is. elim ((blocks k bytes).1 is) [ inl came ↦ inl (inr came) | inr went ↦ inr (inr went) ]),
)

-- ---- what says something else

aside_passed : (d : Datagram) (way dir : Dir) (m n : Message) (passed : List Datagram) → Says d way m → (m ≡ n → ⊥) → Passed dir n (d ∷ passed) ↔ Passed dir n passed
aside_passed d way dir m n passed says other = ((λ p. another d way dir m n passed says other p), (λ p. inr p))

pub aside_usable : (d : Datagram) (way dir : Dir) (m n : Message) (passed : List Datagram) → Says d way m → (m ≡ n → ⊥) → Passed dir n (usable (d ∷ passed)) ↔ Passed dir n (usable passed)
aside_usable d way dir m n passed says other = by (goes_out d && has_stopped passed) refl where
  by : (b : Bool) → (goes_out d && has_stopped passed) ≡ b → Passed dir n (usable (d ∷ passed)) ↔ Passed dir n (usable passed)
  by true is = rw (is) ((λ p. p), (λ p. p))
  by false is = rw (is) (aside_passed d way dir m n (usable passed) says other)

pub aside_has : (d : Datagram) (way : Dir) (m n : Message) (passed : List Datagram) → Says d way m → (m ≡ n → ⊥) → HasPassed n (usable (d ∷ passed)) ↔ HasPassed n (usable passed)
aside_has d way m n passed says other = (
  (λ p. elim p [ inl came ↦ inl ((aside_usable d way In m n passed says other).0 came) | inr went ↦ inr ((aside_usable d way Out m n passed says other).0 went) ]),
  (λ p. elim p [ inl came ↦ inl ((aside_usable d way In m n passed says other).1 came) | inr went ↦ inr ((aside_usable d way Out m n passed says other).1 went) ]),
)

-- a number that another message leaves as it is
pub aside_block : (d : Datagram) (way dir : Dir) (m : Message) (passed : List Datagram) (top : ℕ) → Says d way m → ((k : ℕ) (bytes : List ℕ) → m ≡ Data k bytes → ⊥)
    → IsGreatest (λ k. BlockPassed dir k (usable passed)) top → IsGreatest (λ k. BlockPassed dir k (usable (d ∷ passed))) top
aside_block d way dir m passed top says other is = greatest_kept (λ k. BlockPassed dir k (usable passed)) (λ k. BlockPassed dir k (usable (d ∷ passed)))
    (λ k p. (p.0, (aside_usable d way dir m (Data k p.0) passed says (other k p.0)).1 p.1)) (λ k p. (p.0, (aside_usable d way dir m (Data k p.0) passed says (other k p.0)).0 p.1)) top is

pub aside_ack : (d : Datagram) (way dir : Dir) (m : Message) (passed : List Datagram) (top : ℕ) → Says d way m → ((j : ℕ) → m ≡ Ack j → ⊥)
    → IsGreatest (λ j. Passed dir (Ack j) passed) top → IsGreatest (λ j. Passed dir (Ack j) (d ∷ passed)) top
aside_ack d way dir m passed top says other is = greatest_kept (λ j. Passed dir (Ack j) passed) (λ j. Passed dir (Ack j) (d ∷ passed)) (λ j p. inr p) (λ j p. another d way dir m (Ack j) passed says (other j) p) top is

pub aside_usable_ack : (d : Datagram) (way dir : Dir) (m : Message) (passed : List Datagram) (top : ℕ) → Says d way m → ((j : ℕ) → m ≡ Ack j → ⊥)
    → IsGreatest (λ j. Passed dir (Ack j) (usable passed)) top → IsGreatest (λ j. Passed dir (Ack j) (usable (d ∷ passed))) top
aside_usable_ack d way dir m passed top says other is = greatest_kept (λ j. Passed dir (Ack j) (usable passed)) (λ j. Passed dir (Ack j) (usable (d ∷ passed)))
    (λ j p. (aside_usable d way dir m (Ack j) passed says (other j)).1 p) (λ j p. (aside_usable d way dir m (Ack j) passed says (other j)).0 p) top is

both_ways : {A B C : Type 0} → (A ↔ B) → (C ↔ B) → A ↔ C
both_ways ab cb = ((λ a. cb.1 (ab.0 a)), (λ c. ab.1 (cb.0 c)))

pub aside_zero : (d : Datagram) (way : Dir) (m : Message) (passed : List Datagram) (zero : Bool) → Says d way m → (m ≡ Ack 0 → ⊥)
    → ((zero ≡ true) ↔ HasPassed (Ack 0) (usable passed)) → (zero ≡ true) ↔ HasPassed (Ack 0) (usable (d ∷ passed))
aside_zero d way m passed zero says other is = both_ways is (aside_has d way m (Ack 0) passed says other)

no_error : (d : Datagram) → begins_error d ≡ false → brings_error d ≡ false
no_error d is = by (goes_out d) refl where
  by : (b : Bool) → goes_out d ≡ b → brings_error d ≡ false
  by true out = rw (out) refl
  by false out = rw (out, is) refl

-- A request, an OACK and an ERROR that goes out stop nothing.
pub aside_stopped : (d : Datagram) (m : Message) (passed : List Datagram) → Spells d.payload m → IsAside d.dir m → has_stopped (d ∷ passed) ≡ has_stopped passed
aside_stopped d (Request r) passed spells is = ap (λ b. b || has_stopped passed) (no_error d (begins_as d (Request r) spells ∙ by r.side refl)) where
  by : (side : Side) → r.side ≡ side → (message_opcode (Request r) == 5) ≡ false
  by Get at = rw (at) refl
  by Put at = rw (at) refl
aside_stopped d (Oack options) passed spells is = ap (λ b. b || has_stopped passed) (no_error d (begins_as d (Oack options) spells))
aside_stopped d (Error code text) passed spells is = stopped_out d passed is
aside_stopped d (Data k bytes) passed spells is = absurd is
aside_stopped d (Ack j) passed spells is = absurd is

pub aside_no_block : (dir : Dir) (m : Message) → IsAside dir m → (k : ℕ) (bytes : List ℕ) → m ≡ Data k bytes → ⊥
aside_no_block dir m is k bytes e = subst (IsAside dir) e is

pub aside_no_ack : (dir : Dir) (m : Message) → IsAside dir m → (j : ℕ) → m ≡ Ack j → ⊥
aside_no_ack dir m is j e = subst (IsAside dir) e is
