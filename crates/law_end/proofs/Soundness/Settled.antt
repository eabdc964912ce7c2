-- What the rules leave of the blocks that have passed: a block has one text, and one block is the last.
use Rattle.std.proofs.Common.{◌≡◌, ◌⊎◌, ℕ, ◌+◌, ◌/◌, ◌<◌, ◌≤◌, Bool, true, false, List, [], ◌∷◌, length, Option, Some, None, inl, inr, refl, sym, subst, ap, ◌∙◌, arith}
use Rattle.std.proofs.lemmas.Bool.{false≢true, cases_lt, cases_eq}
use Rattle.std.proofs.lemmas.Slice.Eq.{bytes_eq-Decides}
use Rattle.std.specs.Str.{bytes_eq}
use Rattle.tftp_packet.specs.{OptionMap, Message, RequestParts, Spells, Side, Get, Put}
use Rattle.tftp_packet.specs.Rounds.{greatest_of}
use Rattle.tftp_packet.specs.Hosts.{Datagram, Header}
use Rattle.law_model.specs.Rules.{or_this, first_of, asks, route_of, is_of_transfer, transfer_of, HasPassed, IsLast, LastIsUnknown, IsNotLengthOf, BlocksWait, EndBroken, usable}
use Rattle.law_model.specs.{NoReply, Terms, EndRule}
use Rattle.law_end.specs.{FirstAsked, Agrees, Begins, IsAnswer, Answers, NotAnswered, plain_terms, AreTerms, Passes, OneEnded, AreTermsAfter}
use Rattle.law_end.proofs.Spelled.{spelled_once}
use Rattle.law_end.proofs.Accord.HighestNumbers.{AllSpelled, transfer_spelled, has_short, high_of}
use Rattle.law_end.proofs.FirstBroken.FirstAnswered.{not_both, known_by, or_new, main_none, main_some}
use Rattle.law_end.proofs.FirstBroken.OneMessage.{no_end_by}
use Rattle.law_end.proofs.FirstBroken.FirstRequests.{some_same, first_stays, none_before}

-- ---- blocks

abbrev pub NoBlock : List Datagram → Type 0
NoBlock passed = (k : ℕ) (bytes : List ℕ) → HasPassed (Message.Data k bytes) passed → ⊥

-- what the rules leave of the blocks
pub record Settled (side : Side) (t : Terms) (passed : List Datagram) : Type 0 where
  pub answered : (k : ℕ) (bytes : List ℕ) → HasPassed (Message.Data k bytes) passed → NotAnswered side passed → ⊥
  pub once : (k : ℕ) (one other : List ℕ) → HasPassed (Message.Data k one) passed → HasPassed (Message.Data k other) passed → one ≡ other
  pub last : (k l : ℕ) (one other : List ℕ) → HasPassed (Message.Data k one) passed → length one < t.blksize → HasPassed (Message.Data l other) passed → length other < t.blksize → k ≡ l
  pub sized : (size k : ℕ) (bytes : List ℕ) → t.size ≡ Some size → HasPassed (Message.Data k bytes) passed → length bytes < t.blksize → k ≡ size / t.blksize + 1
  pub numbered : (k : ℕ) (bytes : List ℕ) → HasPassed (Message.Data k bytes) passed → 1 ≤ k
  pub within : (k : ℕ) (bytes : List ℕ) → HasPassed (Message.Data k bytes) passed → length bytes ≤ t.blksize
  pub ended : (bytes : List ℕ) → HasPassed (Message.Data t.greatest bytes) passed → length bytes < t.blksize
  pub low : (k : ℕ) (bytes : List ℕ) → HasPassed (Message.Data k bytes) passed → k ≤ t.greatest
  pub placed : (k last : ℕ) (bytes : List ℕ) → HasPassed (Message.Data k bytes) passed → IsLast t passed last → IsNotLengthOf t last k (length bytes) → ⊥

none_settled : (side : Side) (t : Terms) (passed : List Datagram) → NoBlock passed → Settled side t passed
none_settled side t passed none = record {
  answered = λ k bytes p. absurd (none k bytes p);
  once = λ k one other p. absurd (none k one p);
  last = λ k l one other p. absurd (none k one p);
  sized = λ size k bytes is p. absurd (none k bytes p);
  numbered = λ k bytes p. absurd (none k bytes p);
  within = λ k bytes p. absurd (none k bytes p);
  ended = λ bytes p. absurd (none t.greatest bytes p);
  low = λ k bytes p. absurd (none k bytes p);
  placed = λ k last bytes p. absurd (none k bytes p);
}

pub either : (m : Message) (d : Datagram) (passed : List Datagram) → HasPassed m (d ∷ passed) → Spells d.payload m ⊎ HasPassed m passed
either m d passed (inl (inl now)) = inl now.1
either m d passed (inl (inr before)) = inr (inl before)
either m d passed (inr (inl now)) = inl now.1
either m d passed (inr (inr before)) = inr (inr before)

bytes_same : (k l : ℕ) (one other : List ℕ) → Message.Data k one ≡ Message.Data l other → one ≡ other
bytes_same k l one other e = cc

number_same : (k l : ℕ) (one other : List ℕ) → Message.Data k one ≡ Message.Data l other → k ≡ l
number_same k l one other e = cc

-- a block that breaks none of these rules after the others
record Fits (t : Terms) (d : Datagram) (passed : List Datagram) : Type 0 where
  pub same : (k : ℕ) (bytes other : List ℕ) → Spells d.payload (Message.Data k bytes) → HasPassed (Message.Data k other) passed → other ≡ bytes
  pub placed : (k last : ℕ) (bytes : List ℕ) → Spells d.payload (Message.Data k bytes) → length bytes < t.blksize → IsLast t passed last → k ≡ last
  pub numbered : (k : ℕ) (bytes : List ℕ) → Spells d.payload (Message.Data k bytes) → 1 ≤ k
  pub within : (k : ℕ) (bytes : List ℕ) → Spells d.payload (Message.Data k bytes) → length bytes ≤ t.blksize
  pub ended : (bytes : List ℕ) → Spells d.payload (Message.Data t.greatest bytes) → length bytes < t.blksize
  pub low : (k : ℕ) (bytes : List ℕ) → Spells d.payload (Message.Data k bytes) → k ≤ t.greatest
  pub right : (k last : ℕ) (bytes : List ℕ) → Spells d.payload (Message.Data k bytes) → IsLast t passed last → IsNotLengthOf t last k (length bytes) → ⊥
  pub opens : (k : ℕ) (bytes : List ℕ) → Spells d.payload (Message.Data k bytes) → LastIsUnknown t passed → length bytes < t.blksize
      → (j : ℕ) (other : List ℕ) → HasPassed (Message.Data j other) passed → j < k
  pub known : LastIsUnknown t passed ⊎ ((last : ℕ) × IsLast t passed last)

one_last : (t : Terms) (k last long : ℕ) → long < t.blksize → (IsNotLengthOf t last k long → ⊥) → k ≡ last
one_last t k last long short right = elim (cases_lt last k) [
  | inl past ↦ absurd (right (inl past))
  | inr within ↦ elim (cases_lt k last) [
    | inl early ↦ absurd (right (inr (inl (early, λ whole. omega (arith, short, whole)))))
    | inr at ↦ omega (arith, within, at)
  ]
]

-- the last block is unknown, or known
pub known_last : (t : Terms) (passed : List Datagram) → AllSpelled passed → LastIsUnknown t passed ⊎ ((last : ℕ) × IsLast t passed last)
known_last t passed all = by t.size refl where
  by : (o : Option ℕ) → t.size ≡ o → LastIsUnknown t passed ⊎ ((last : ℕ) × IsLast t passed last)
  by (Some size) is = inr (size / t.blksize + 1, inr (size, is, refl))
  by None is = elim (has_short t.blksize passed all) [
    | inl f ↦ inr (f.0, inl (f.1, f.2, f.3))
    | inr whole ↦ inl (record { no_size = is; all_whole = whole })
  ]

module _ (side : Side) (t : Terms) (d : Datagram) (passed : List Datagram) (s : Settled side t passed) (f : Fits t d passed) where
  -- a block that came before, where the new one is short and so the last
  old_placed : (k l : ℕ) (bytes short : List ℕ) → HasPassed (Message.Data k bytes) passed → Spells d.payload (Message.Data l short) → length short < t.blksize → IsNotLengthOf t l k (length bytes) → ⊥
  old_placed k l bytes short p x less wrong = elim f.known [
    | inr known ↦
        let is : l ≡ known.0 = f.placed l known.0 short x less known.1 in
        s.placed k known.0 bytes p known.1 (subst (λ i. IsNotLengthOf t i k (length bytes)) is wrong)
    | inl unknown ↦
        let below : k < l = f.opens l short x unknown less k bytes p in
        let whole = unknown.all_whole k bytes p in
        let fits = s.within k bytes p in
        elim wrong [
          | inl past ↦ omega (arith, below, past)
          | inr rest ↦ elim rest [
            | inl early ↦ early.1 (omega arith)
            | inr at ↦ elim at [ inl x ↦ let e = x.0 in omega (arith, below) | inr x ↦ let e = x.0 in omega (arith, below) ]
          ]
        ]
  ]

  -- the new block, where it is short itself
  new_placed : (k : ℕ) (bytes : List ℕ) → Spells d.payload (Message.Data k bytes) → length bytes < t.blksize → IsNotLengthOf t k k (length bytes) → ⊥
  new_placed k bytes x less (inl past) = omega (arith, past)
  new_placed k bytes x less (inr (inl early)) = let low = early.0 in omega (arith, low)
  new_placed k bytes x less (inr (inr (inl full))) = let e = full.1 in omega (arith, less)
  new_placed k bytes x less (inr (inr (inr (same, size, is, differs)))) =
      let at : IsLast t passed (size / t.blksize + 1) = inr (size, is, refl) in
      f.right k (size / t.blksize + 1) bytes x at (inr (inr (inr (f.placed k (size / t.blksize + 1) bytes x less at, size, is, differs))))

  all_placed : (k last : ℕ) (bytes : List ℕ) → HasPassed (Message.Data k bytes) (d ∷ passed) → IsLast t (d ∷ passed) last → IsNotLengthOf t last k (length bytes) → ⊥
  all_placed k last bytes p (inr size) wrong = elim (either (Message.Data k bytes) d passed p) [
    | inl x ↦ f.right k last bytes x (inr size) wrong
    | inr x ↦ s.placed k last bytes x (inr size) wrong
  ]
  all_placed k last bytes p (inl (short, q, less)) wrong = elim (either (Message.Data last short) d passed q) [
    | inr y ↦ elim (either (Message.Data k bytes) d passed p) [
      | inl x ↦ f.right k last bytes x (inl (short, y, less)) wrong
      | inr x ↦ s.placed k last bytes x (inl (short, y, less)) wrong
    ]
    | inl y ↦ elim (either (Message.Data k bytes) d passed p) [
      | inl x ↦
          let both = spelled_once d.payload (Message.Data k bytes) (Message.Data last short) x y in
          let same : bytes ≡ short = bytes_same k last bytes short both in
          new_placed last short y less (subst (λ b. IsNotLengthOf t last last (length b)) same (subst (λ i. IsNotLengthOf t last i (length bytes)) (number_same k last bytes short both) wrong))
      | inr x ↦ old_placed k last bytes short x y less wrong
    ]
  ]

extended : (side : Side) (t : Terms) (d : Datagram) (passed : List Datagram) → Settled side t passed → Fits t d passed → (NotAnswered side (d ∷ passed) → ⊥) → Settled side t (d ∷ passed)
extended side t d passed s f answered = record {
  answered = λ k bytes p. answered;
  once = λ k one other p q. elim (either (Message.Data k one) d passed p) [
    | inl x ↦ elim (either (Message.Data k other) d passed q) [
      | inl y ↦ bytes_same k k one other (spelled_once d.payload (Message.Data k one) (Message.Data k other) x y)
      | inr y ↦ sym (f.same k one other x y)
    ]
    | inr x ↦ elim (either (Message.Data k other) d passed q) [ inl y ↦ f.same k other one y x | inr y ↦ s.once k one other x y ]
  ];
  last = λ k l one other p short q less. elim (either (Message.Data k one) d passed p) [
    | inl x ↦ elim (either (Message.Data l other) d passed q) [
      | inl y ↦ number_same k l one other (spelled_once d.payload (Message.Data k one) (Message.Data l other) x y)
      | inr y ↦ f.placed k l one x short (inl (other, y, less))
    ]
    | inr x ↦ elim (either (Message.Data l other) d passed q) [
      | inl y ↦ sym (f.placed l k other y less (inl (one, x, short)))
      | inr y ↦ s.last k l one other x short y less
    ]
  ];
  sized = λ size k bytes is p short. elim (either (Message.Data k bytes) d passed p) [
    | inl x ↦ f.placed k (size / t.blksize + 1) bytes x short (inr (size, is, refl))
    | inr x ↦ s.sized size k bytes is x short
  ];
  numbered = λ k bytes p. elim (either (Message.Data k bytes) d passed p) [ inl x ↦ f.numbered k bytes x | inr x ↦ s.numbered k bytes x ];
  within = λ k bytes p. elim (either (Message.Data k bytes) d passed p) [ inl x ↦ f.within k bytes x | inr x ↦ s.within k bytes x ];
  ended = λ bytes p. elim (either (Message.Data t.greatest bytes) d passed p) [ inl x ↦ f.ended bytes x | inr x ↦ s.ended bytes x ];
  low = λ k bytes p. elim (either (Message.Data k bytes) d passed p) [ inl x ↦ f.low k bytes x | inr x ↦ s.low k bytes x ];
  placed = all_placed side t d passed s f;
}

-- ---- one datagram more

module _ (h : Header) (earlier : List Datagram) (d : Datagram) (lawful : OneEnded h earlier) (passes : Passes h earlier d) (main : is_of_transfer (route_of h earlier d) ≡ true) where
  abbrev passed : List Datagram
  passed = transfer_of h earlier

  keeps : (t : Terms) → AreTerms h earlier t → (m : Message) → Spells d.payload m → (rule : EndRule) → EndBroken t passed m rule → ⊥
  keeps t (asked, first, known) m s = no_end_by h earlier d m asked main s first passes.lawful t known

  one_or_more : (t : Terms) → AreTerms h earlier t → (k : ℕ) (bytes : List ℕ) → Spells d.payload (Message.Data k bytes) → 1 ≤ k
  one_or_more t known k bytes s = elim (cases_eq k 0) [
    | inl zero ↦ absurd (keeps t known (Message.Data k bytes) s EndRule.BlockZero zero)
    | inr some ↦ omega (arith, some)
  ]

  no_longer : (t : Terms) → AreTerms h earlier t → (k : ℕ) (bytes : List ℕ) → Spells d.payload (Message.Data k bytes) → length bytes ≤ t.blksize
  no_longer t known k bytes s = elim (cases_lt t.blksize (length bytes)) [
    | inl long ↦ absurd (keeps t known (Message.Data k bytes) s EndRule.BlockLength (inl long))
    | inr fits ↦ fits
  ]

  low_enough : (t : Terms) → AreTerms h earlier t → (k : ℕ) (bytes : List ℕ) → Spells d.payload (Message.Data k bytes) → k ≤ t.greatest
  low_enough t known k bytes s = elim (cases_lt t.greatest k) [
    | inl above ↦ absurd (keeps t known (Message.Data k bytes) s EndRule.BeyondBlock65535 (inl above))
    | inr within ↦ within
  ]

  short_end : (t : Terms) → AreTerms h earlier t → (bytes : List ℕ) → Spells d.payload (Message.Data t.greatest bytes) → length bytes < t.blksize
  short_end t known bytes s = elim (cases_lt (length bytes) t.blksize) [
    | inl short ↦ short
    | inr whole ↦ absurd (keeps t known (Message.Data t.greatest bytes) s EndRule.BeyondBlock65535 (inr (refl, whole)))
  ]

  -- after these terms
  fits : (t : Terms) → AreTerms h earlier t → Fits t d passed
  fits t known = record {
    same = λ k bytes other s p. same k bytes other s p (bytes_eq other bytes) refl;
    placed = λ k last bytes s short is. one_last t k last (length bytes) short
        (λ wrong. keeps t known (Message.Data k bytes) s EndRule.BlockLength (inr (inl (last, is, wrong))));
    numbered = one_or_more t known;
    within = no_longer t known;
    ended = short_end t known;
    low = low_enough t known;
    right = λ k last bytes s is wrong. keeps t known (Message.Data k bytes) s EndRule.BlockLength (inr (inl (last, is, wrong)));
    opens = λ k bytes s unknown less j other p.
        let high = high_of passed (transfer_spelled h earlier lawful) in
        let most = high.1.most j (other, p) in
        elim (cases_lt high.0 k) [
          | inl over ↦ omega arith
          | inr under ↦ absurd (keeps t known (Message.Data k bytes) s EndRule.BlockLength (inr (inr (unknown, less, (high.0, high.1, under)))))
        ];
    known = known_last t passed (transfer_spelled h earlier lawful);
  }
    where
      same : (k : ℕ) (bytes other : List ℕ) → Spells d.payload (Message.Data k bytes) → HasPassed (Message.Data k other) passed → (b : Bool) → bytes_eq other bytes ≡ b → other ≡ bytes
      same k bytes other s p true e = (bytes_eq-Decides other bytes).0 e
      same k bytes other s p false e =
          absurd (keeps t known (Message.Data k bytes) s EndRule.BlockChanged (other, p, λ is. false≢true (sym e ∙ (bytes_eq-Decides other bytes).1 is)))

  not_started : (t : Terms) → AreTerms h earlier t → (k : ℕ) (bytes : List ℕ) → Spells d.payload (Message.Data k bytes) → BlocksWait t.side t.reply (usable passed) → ⊥
  not_started t known k bytes s wait = keeps t known (Message.Data k bytes) s EndRule.NotStarted wait

  -- the first request was asked before
  module _ (asked : RequestParts) (first : FirstAsked h earlier asked) (before : (t : Terms) → AreTermsAfter h asked passed t → Settled asked.side t passed) where
    -- before the answer no block has passed
    no_block_before : NotAnswered asked.side passed → NoBlock passed
    no_block_before none k bytes p = (before (plain_terms h asked.side NoReply) (inl (none, refl))).answered k bytes p none

    -- nor is this one, which is no answer
    no_block : NotAnswered asked.side (d ∷ passed) → NoBlock (d ∷ passed)
    no_block none k bytes p = elim (either (Message.Data k bytes) d passed p) [
      | inl s ↦ by asked.side refl k bytes s
      | inr q ↦ no_block_before none.1 k bytes q
    ]
      where
        by : (side : Side) → asked.side ≡ side → (k : ℕ) (bytes : List ℕ) → Spells d.payload (Message.Data k bytes) → ⊥
        by Get is k bytes s = none.0 Begins (subst (λ (x : Side). Answers x d Begins) (sym is) (Message.Data k bytes, s, tt))
        by Put is k bytes s = not_started (plain_terms h asked.side NoReply) (asked, first, inl (none.1, refl)) k bytes s (subst (λ (x : Side). BlocksWait x NoReply (usable passed)) (sym is) tt)

    one_block : (t : Terms) → t.blksize ≡ 512 → t.greatest ≡ greatest_of h.rollover → t.size ≡ None → NotAnswered asked.side passed → (NotAnswered asked.side (d ∷ passed) → ⊥) → Settled asked.side t (d ∷ passed)
    one_block t usual same unsized none answered = extended asked.side t d passed (none_settled asked.side t passed (no_block_before none)) fit answered where
      fit : Fits t d passed
      fit = record {
        same = λ k bytes other s p. absurd (no_block_before none k other p);
        placed = λ k last bytes s short is. absurd (no_last last is);
        numbered = one_or_more before_it asks_it;
        within = λ k bytes s. subst (λ b. length bytes ≤ b) (sym usual) (no_longer before_it asks_it k bytes s);
        ended = λ bytes s. subst (λ b. length bytes < b) (sym usual) (short_end before_it asks_it bytes (subst (λ k. Spells d.payload (Message.Data k bytes)) same s));
        low = λ k bytes s. subst (λ g. k ≤ g) (sym same) (low_enough before_it asks_it k bytes s);
        right = λ k last bytes s is wrong. no_last last is;
        opens = λ k bytes s unknown less j other p. absurd (no_block_before none j other p);
        known = inl (record { no_size = unsized; all_whole = λ k bytes p. absurd (no_block_before none k bytes p) });
      }
        where
          before_it : Terms
          before_it = plain_terms h asked.side NoReply

          asks_it : AreTerms h earlier before_it
          asks_it = (asked, first, inl (none, refl))

          no_last : (last : ℕ) → IsLast t passed last → ⊥
          no_last last (inl block) = no_block_before none last block.0 block.1
          no_last last (inr size) = let both : None ≡ Some size.0 = sym unsized ∙ size.1 in cc

    no_more : (t : Terms) → NotAnswered asked.side passed → ((k : ℕ) (bytes : List ℕ) → Spells d.payload (Message.Data k bytes) → ⊥) → Settled asked.side t (d ∷ passed)
    no_more t none other = none_settled asked.side t (d ∷ passed) (λ k bytes p. elim (either (Message.Data k bytes) d passed p) [
      | inl s ↦ other k bytes s
      | inr q ↦ no_block_before none k bytes q
    ])

    -- an OACK is no block
    oack_first : (t : Terms) (options : OptionMap) → NotAnswered asked.side passed → Answers asked.side d (Agrees options) → Settled asked.side t (d ∷ passed)
    oack_first t options none (m, s, is) = no_more t none (λ k bytes block. by asked.side k bytes
        (subst (λ n. IsAnswer asked.side n (Agrees options)) (spelled_once d.payload m (Message.Data k bytes) s block) is))
      where
        by : (side : Side) (k : ℕ) (bytes : List ℕ) → IsAnswer side (Message.Data k bytes) (Agrees options) → ⊥
        by Get k bytes a = a
        by Put k bytes a = a

    now_settled : (t : Terms) → AreTermsAfter h asked (d ∷ passed) t → Settled asked.side t (d ∷ passed)
    now_settled t (inl none) = none_settled asked.side t (d ∷ passed) (no_block none.0)
    now_settled t (inr (a, inl earlier_answer, is)) =
        let known : AreTermsAfter h asked passed t = inr (a, earlier_answer, is) in
        extended asked.side t d passed (before t known) (fits t (asked, first, known)) (λ none. not_both asked.side passed a none.1 earlier_answer)
    now_settled t (inr (Begins, inr now, is)) = one_block t (ap (λ (u : Terms). u.blksize) is) (ap (λ (u : Terms). u.greatest) is) (ap (λ (u : Terms). u.size) is) now.0 (λ none. none.0 Begins now.1)
    now_settled t (inr (Agrees options, inr now, is)) = oack_first t options now.0 now.1

-- ---- all of them

settled_by : (h : Header) (earlier : List Datagram) (d : Datagram) → Passes h earlier d → (asked : RequestParts) → FirstAsked h (d ∷ earlier) asked
    → ((t : Terms) → FirstAsked h earlier asked → AreTermsAfter h asked (transfer_of h earlier) t → Settled asked.side t (transfer_of h earlier))
    → OneEnded h earlier → (o : Option Datagram) → first_of (asks h) earlier ≡ o → (b : Bool) → is_of_transfer (route_of h earlier d) ≡ b
    → (t : Terms) → AreTermsAfter h asked (transfer_of h (d ∷ earlier)) t → Settled asked.side t (transfer_of h (d ∷ earlier))
settled_by h earlier d passes asked first before lawful (Some was) is true main t known =
    let more = main_some (is_of_transfer (route_of h earlier d)) d (transfer_of h earlier) main in
    let stays : FirstAsked h earlier asked = (was, is, subst (λ (x : Datagram). Spells x.payload (Message.Request asked)) (some_same first.0 was (sym first.1 ∙ first_stays (asks h) d was earlier is)) first.2) in
    subst (Settled asked.side t) (sym more) (now_settled h earlier d lawful passes main asked stays (λ u k. before u stays k) t (subst (λ ds. AreTermsAfter h asked ds t) more known))
settled_by h earlier d passes asked first before lawful (Some was) is false main t known =
    let same = main_none (is_of_transfer (route_of h earlier d)) d (transfer_of h earlier) main in
    let stays : FirstAsked h earlier asked = (was, is, subst (λ (x : Datagram). Spells x.payload (Message.Request asked)) (some_same first.0 was (sym first.1 ∙ first_stays (asks h) d was earlier is)) first.2) in
    subst (Settled asked.side t) (sym same) (before t stays (subst (λ ds. AreTermsAfter h asked ds t) same known))
settled_by h earlier d passes asked first before lawful None is true main t known =
    let more = main_some (is_of_transfer (route_of h earlier d)) d (transfer_of h earlier) main ∙ ap (λ ds. d ∷ ds) (none_before h earlier is lawful) in
    let request : d ≡ first.0 = or_new (asks h d) d first.0 (sym (ap (λ o. or_this o (asks h d) d) is) ∙ first.1) in
    let s : Spells d.payload (Message.Request asked) = subst (λ (x : Datagram). Spells x.payload (Message.Request asked)) (sym request) first.2 in
    subst (Settled asked.side t) (sym more) (none_settled asked.side t (d ∷ []) (λ k bytes p. elim (either (Message.Data k bytes) d [] p) [
      | inl block ↦ let e : Message.Request asked ≡ Message.Data k bytes = spelled_once d.payload (Message.Request asked) (Message.Data k bytes) s block in cc
      | inr q ↦ elim q [ inl x ↦ x | inr x ↦ x ]
    ]))
settled_by h earlier d passes asked first before lawful None is false main t known =
    let none = main_none (is_of_transfer (route_of h earlier d)) d (transfer_of h earlier) main ∙ none_before h earlier is lawful in
    subst (Settled asked.side t) (sym none) (none_settled asked.side t [] (λ k bytes p. elim p [ inl x ↦ x | inr x ↦ x ]))

settled_known : (h : Header) (earlier : List Datagram) → OneEnded h earlier → (asked : RequestParts) → FirstAsked h earlier asked → (t : Terms) → AreTermsAfter h asked (transfer_of h earlier) t → Settled asked.side t (transfer_of h earlier)
settled_known h [] lawful asked first t known = let none : None ≡ Some first.0 = first.1 in absurd (cc)
settled_known h (d ∷ earlier) lawful asked first t known =
    settled_by h earlier d lawful.0 asked first (λ u stays k. settled_known h earlier lawful.1 asked stays u k) lawful.1 (first_of (asks h) earlier) refl (is_of_transfer (route_of h earlier d)) refl t known

-- of lawful datagrams a block has one text, and one block is the last
pub settled : (h : Header) (earlier : List Datagram) → OneEnded h earlier → (asked : RequestParts) → FirstAsked h earlier asked → (t : Terms) → AreTerms h earlier t → Settled asked.side t (transfer_of h earlier)
settled h earlier lawful asked first t known = settled_known h earlier lawful asked first t (known_by h earlier asked t first known)

pub last_one : (side : Side) (t : Terms) (ds : List Datagram) → Settled side t ds → (k l : ℕ) → IsLast t ds k → IsLast t ds l → k ≡ l
last_one side t ds s k l (inl x) (inl y) = s.last k l x.0 y.0 x.1 x.2 y.1 y.2
last_one side t ds s k l (inl x) (inr y) = s.sized y.0 k x.0 y.1 x.1 x.2 ∙ sym y.2
last_one side t ds s k l (inr x) (inl y) = x.2 ∙ sym (s.sized x.0 l y.0 x.1 y.1 y.2)
last_one side t ds s k l (inr x) (inr y) = x.2 ∙ ap (λ n. n / t.blksize + 1) (some_same x.0 y.0 (sym x.1 ∙ y.1)) ∙ sym y.2
