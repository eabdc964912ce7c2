-- A line of version 1 as one of version 2.
use Rattle.std.proofs.Common.{◌≡◌, ◌≢◌, ℕ, ◌+◌, ◌==◌, ◌⊎◌, inl, inr, Bool, true, false, cond, true≢false, List, [], ◌∷◌, ◌++◌, length, codes, All, bytes_eq, ◌||◌, refl, sym, ap, ◌∙◌, subst, arith, append_assoc, length-append, ne_eqb}
use Rattle.std.specs.List.{slice_split, join_with_byte, onto_first}
use Rattle.std.proofs.lemmas.List.Elements.{All-append, All-cons, All-head, All-nil, All-tail, All-weaker}
use Rattle.std.proofs.lemmas.Bool.Decides.{Decides-eqb}
use Rattle.std.proofs.lemmas.List.Splits.{join_with_byte-slice_split, slice_split_at, slice_split_none}
use Rattle.std.proofs.lemmas.Slice.Eq.{bytes_eq-Decides}
use Rattle.tftp_packet.specs.Hosts.{no_host}
use Rattle.tftp_packet.specs.{Dir, In, Out}
use Rattle.tftp_capture.specs.{dir_word, pieces, says_nothing, is_way, line_in_two, pieces_in_two}

-- ---- lists that are cut at a byte

-- no element is this byte
abbrev pub Lacks : ℕ → List ℕ → Type 0
Lacks c bytes = All (λ b. b ≢ c) bytes

some_part : (c : ℕ) (xs : List ℕ) → (first : List ℕ) × (others : List (List ℕ)) × (slice_split (λ b. b == c) xs ≡ first ∷ others)
some_part c [] = ([], [], refl)
some_part c (x ∷ xs) =
    let rest = some_part c xs in
    elim (x == c) as (λ b. (first : List ℕ) × (others : List (List ℕ)) × (cond b ([] ∷ slice_split (λ b. b == c) xs) (onto_first x (slice_split (λ b. b == c) xs)) ≡ first ∷ others)) [
      | true ↦ ([], slice_split (λ b. b == c) xs, refl)
      | false ↦ (x ∷ rest.0, rest.1, ap (onto_first x) rest.2)
    ]

-- a part lacks the byte at which it was cut
pub parts_lack : (c : ℕ) (xs : List ℕ) → All (Lacks c) (slice_split (λ b. b == c) xs)
parts_lack c [] = All-cons (Lacks c) [] [] (All-nil (λ b. b ≢ c)) (All-nil (Lacks c))
parts_lack c (x ∷ xs) =
    let rest = some_part c xs in
    let more : All (Lacks c) (rest.0 ∷ rest.1) = subst (λ l. All (Lacks c) l) rest.2 (parts_lack c xs) in
    let go : (b : Bool) → b ≡ (x == c) → All (Lacks c) (cond b ([] ∷ slice_split (λ b. b == c) xs) (onto_first x (slice_split (λ b. b == c) xs))) =
    λ b is. elim b as (λ v. v ≡ (x == c) → All (Lacks c) (cond v ([] ∷ slice_split (λ b. b == c) xs) (onto_first x (slice_split (λ b. b == c) xs)))) [
      | true ↦ λ t. All-cons (Lacks c) [] (slice_split (λ b. b == c) xs) (All-nil (λ b. b ≢ c)) (parts_lack c xs)
      | false ↦ λ t.
          let other : x ≢ c = λ e. true≢false (sym ((Decides-eqb x c).1 e) ∙ sym t) in
          subst (λ l. All (Lacks c) (onto_first x l)) (sym rest.2)
          (All-cons (Lacks c) (x ∷ rest.0) rest.1 (All-cons (λ b. b ≢ c) x rest.0 other (All-head (Lacks c) rest.0 rest.1 more)) (All-tail (Lacks c) rest.0 rest.1 more))
    ] is in
    go (x == c) refl

no_cut : (c : ℕ) (xs : List ℕ) → Lacks c xs → All (λ b. (b == c) ≡ false) xs
no_cut c xs h = All-weaker (λ b. b ≢ c) (λ b. (b == c) ≡ false) (λ b n. ne_eqb b c n) xs h

-- parts that lack the byte, joined by it, are cut into these parts again
pub cut_again : (c : ℕ) (part : List ℕ) (parts : List (List ℕ)) → All (Lacks c) (part ∷ parts) → slice_split (λ b. b == c) (join_with_byte c (part ∷ parts)) ≡ part ∷ parts
cut_again c part [] h = slice_split_none (λ b. b == c) part (no_cut c part (All-head (Lacks c) part [] h))
cut_again c part (next ∷ parts) h =
    slice_split_at (λ b. b == c) part c (join_with_byte c (next ∷ parts)) (no_cut c part (All-head (Lacks c) part (next ∷ parts) h)) ((Decides-eqb c c).1 refl)
    ∙ ap (λ ps. part ∷ ps) (cut_again c next parts (All-tail (Lacks c) part (next ∷ parts) h))

-- ---- one line

way_is : (word : List ℕ) → is_way word ≡ true → (word ≡ codes "in") ⊎ (word ≡ codes "out")
way_is word h =
    let go : (b : Bool) → b ≡ bytes_eq word (codes "in") → (b || bytes_eq word (codes "out")) ≡ true → (word ≡ codes "in") ⊎ (word ≡ codes "out") =
    λ b is. elim b as (λ v. v ≡ bytes_eq word (codes "in") → (v || bytes_eq word (codes "out")) ≡ true → (word ≡ codes "in") ⊎ (word ≡ codes "out")) [
      | true ↦ λ t k. inl ((bytes_eq-Decides word (codes "in")).0 (sym t))
      | false ↦ λ t k. inr ((bytes_eq-Decides word (codes "out")).0 k)
    ] is in
    go (bytes_eq word (codes "in")) refl h

pub dir_is_way : (dir : Dir) → is_way (dir_word dir) ≡ true
dir_is_way In = refl
dir_is_way Out = refl

-- pieces whose first is no direction stay
pub no_way_stays : (word : List ℕ) (ps : List (List ℕ)) → is_way word ≡ false → pieces_in_two (word ∷ ps) ≡ word ∷ ps
no_way_stays word [] h = refl
no_way_stays word (a ∷ []) h = refl
no_way_stays word (a ∷ b ∷ []) h = refl
no_way_stays word (a ∷ b ∷ c ∷ []) h = rw h refl
no_way_stays word (a ∷ b ∷ c ∷ d ∷ ps) h = refl

-- the pieces of a line with a datagram's first word and three more
pub record IsCutInFour (line : List ℕ) : Type 0 where
  pub word : List ℕ
  pub local : List ℕ
  pub remote : List ℕ
  pub digits : List ℕ
  pub cut : pieces line ≡ word ∷ local ∷ remote ∷ digits ∷ []
  pub way : is_way word ≡ true

pieces_kind : (ps : List (List ℕ)) → (pieces_in_two ps ≡ ps) ⊎ ((word local remote digits : List ℕ) × (ps ≡ word ∷ local ∷ remote ∷ digits ∷ []) × (is_way word ≡ true))
pieces_kind [] = inl refl
pieces_kind (a ∷ []) = inl refl
pieces_kind (a ∷ b ∷ []) = inl refl
pieces_kind (a ∷ b ∷ c ∷ []) = inl refl
pieces_kind (a ∷ b ∷ c ∷ d ∷ []) =
    let go : (v : Bool) → v ≡ is_way a → (cond v (a ∷ b ∷ no_host ∷ c ∷ d ∷ []) (a ∷ b ∷ c ∷ d ∷ []) ≡ a ∷ b ∷ c ∷ d ∷ [])
    ⊎ ((word local remote digits : List ℕ) × (a ∷ b ∷ c ∷ d ∷ [] ≡ word ∷ local ∷ remote ∷ digits ∷ []) × (is_way word ≡ true)) =
    λ v is. elim v as (λ w. w ≡ is_way a → (cond w (a ∷ b ∷ no_host ∷ c ∷ d ∷ []) (a ∷ b ∷ c ∷ d ∷ []) ≡ a ∷ b ∷ c ∷ d ∷ [])
    ⊎ ((word local remote digits : List ℕ) × (a ∷ b ∷ c ∷ d ∷ [] ≡ word ∷ local ∷ remote ∷ digits ∷ []) × (is_way word ≡ true))) [
      | true ↦ λ t. inr (a, b, c, d, refl, sym t)
      | false ↦ λ t. inl refl
    ] is in
    go (is_way a) refl
pieces_kind (a ∷ b ∷ c ∷ d ∷ e ∷ ps) = inl refl

-- a line stays, or gets `-` as its third piece
pub line_kind : (line : List ℕ) → (line_in_two line ≡ line) ⊎ IsCutInFour line
line_kind line = elim (pieces_kind (pieces line)) as (λ _. (line_in_two line ≡ line) ⊎ IsCutInFour line) [
  | inl e ↦ inl (ap (join_with_byte 32) e ∙ join_with_byte-slice_split 32 line)
  | inr e ↦ inr (record { word = e.0; local = e.1; remote = e.2; digits = e.3; cut = e.4; way = e.5 })
]

lacking_front : (xs ys : List ℕ) → Lacks 10 (xs ++ ys) → Lacks 10 xs
lacking_front [] ys h = All-nil (λ b. b ≢ 10)
lacking_front (x ∷ xs) ys h = All-cons (λ b. b ≢ 10) x xs (All-head (λ b. b ≢ 10) x (xs ++ ys) h) (lacking_front xs ys (All-tail (λ b. b ≢ 10) x (xs ++ ys) h))

lacking_back : (xs ys : List ℕ) → Lacks 10 (xs ++ ys) → Lacks 10 ys
lacking_back [] ys h = h
lacking_back (x ∷ xs) ys h = lacking_back xs ys (All-tail (λ b. b ≢ 10) x (xs ++ ys) h)

module _ (line : List ℕ) (four : IsCutInFour line) where
  pub as_two : pieces_in_two (pieces line) ≡ four.word ∷ four.local ∷ no_host ∷ four.remote ∷ four.digits ∷ []
  as_two = ap pieces_in_two four.cut ∙ rw four.way refl

  front : List ℕ
  front = four.word ++ 32 ∷ (four.local ++ 32 ∷ [])

  back : List ℕ
  back = four.remote ++ 32 ∷ four.digits

  line_is : line ≡ front ++ back
  unfolding front back
  line_is = sym (join_with_byte-slice_split 32 line) ∙ ap (join_with_byte 32) four.cut ∙ simp append_assoc

  two_is : line_in_two line ≡ front ++ 45 ∷ 32 ∷ back
  unfolding front back
  two_is = ap (join_with_byte 32) as_two ∙ simp append_assoc

  pub two_longer : length (line_in_two line) ≡ length line + 2
  two_longer = omega (arith, ap length two_is, ap length line_is, length-append front (45 ∷ 32 ∷ back), length-append front back)

  pub two_whole : Lacks 10 line → Lacks 10 (line_in_two line)
  two_whole h =
      let parts : Lacks 10 (front ++ back) = subst (Lacks 10) line_is h in
      subst (Lacks 10) (sym two_is)
      (All-append (λ b. b ≢ 10) front (45 ∷ 32 ∷ back) (lacking_front front back parts) (All-cons (λ b. b ≢ 10) 45 (32 ∷ back) (λ e. absurd (omega (arith, e))) (All-cons (λ b. b ≢ 10) 32 back (λ e. absurd (omega (arith, e))) (lacking_back front back parts))))

  starts : (rest : List ℕ) → says_nothing (four.word ++ rest) ≡ false
  starts rest = elim (way_is four.word four.way) as (λ _. says_nothing (four.word ++ rest) ≡ false) [
    | inl e ↦ rw e refl
    | inr e ↦ rw e refl
  ]

  pub two_said : (says_nothing line ≡ false) × (says_nothing (line_in_two line) ≡ false)
  two_said = (
    ap says_nothing (sym (join_with_byte-slice_split 32 line) ∙ ap (join_with_byte 32) four.cut) ∙ starts _,
    ap says_nothing (ap (join_with_byte 32) as_two) ∙ starts _,
  )
