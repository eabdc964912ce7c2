-- What the blocks that are held tell of the last one, and of lengths.
use Rattle.std.proofs.Common.{◌≡◌, ◌⊎◌, ℕ, ◌+◌, ◌/◌, ◌%◌, ◌<◌, ◌≤◌, List, length, Option, Some, None, inl, inr, refl, sym, subst, ap, ◌∙◌, arith}
use Rattle.std.proofs.lemmas.Bool.{cases_lt, cases_eq}
use Rattle.std.proofs.lemmas.Nat.{mod_below}
use Rattle.std.specs.FinMap as map
use Rattle.tftp_packet.specs.Hosts.{Datagram}
use Rattle.law_model.specs.Rules.{IsLast, IsNotLengthOf, HasWrongLength}
use Rattle.law_model.specs.{Terms}
use Rattle.tftp_ends.specs.Blocks.{Held, IsHeldLast, IsHighest, IsOrderly}
use Rattle.tftp_ends.specs.{AreBlocks, AreWhole, IsHeld, HasLengthBySize, IsShortTop, IsEnd, EndsThere, HasRightLength, IsSound}

less_than_size : (size b : ℕ) → 8 ≤ b → size % b < b
less_than_size size b some = mod_below size b (omega arith)

one_size : (t : Terms) (a b : ℕ) → t.size ≡ Some a → t.size ≡ Some b → a ≡ b
one_size t a b is other = let both : Some a ≡ Some b = sym is ∙ other in cc

module _ (t : Terms) (held : Held) (sound : IsSound t held) (size : ℕ) (is : t.size ≡ Some size) where
  short_there : (k : ℕ) → IsHeldLast t.blksize held k → k ≡ size / t.blksize + 1
  short_there k last = elim (sound.sized size k last.0 is last.1) [
    | inl below ↦ let short = last.2 in absurd (omega arith)
    | inr there ↦ there.0
  ]

  none_above : (k : ℕ) → IsHeld held k → k ≤ size / t.blksize + 1
  none_above k there = elim (sound.sized size k there.0 is there.1) [ inl below ↦ omega arith | inr last ↦ omega arith ]

  pub end_by_size : IsEnd t held (size / t.blksize + 1)
  end_by_size = record {
    known = inr (size, is, refl);
    by_block = short_there;
    by_size = λ other equal. ap (λ n. n / t.blksize + 1) (one_size t size other is equal);
    most = none_above;
    whole = λ k bytes there below. elim (sound.sized size k bytes is there) [ inl whole ↦ whole.1 | inr last ↦ absurd (omega arith) ];
    short = λ bytes there. let less = less_than_size size t.blksize sound.blksize in elim (sound.sized size (size / t.blksize + 1) bytes is there) [ inl whole ↦ absurd (omega arith) | inr last ↦ omega arith ];
  }

  pub right_by_size : (k long : ℕ) → HasLengthBySize t.blksize size k long → HasRightLength t held k long
  right_by_size k long right =
      let less = less_than_size size t.blksize sound.blksize in
      record {
        fits = elim right [ inl whole ↦ omega arith | inr last ↦ omega arith ];
        before_last = λ last known. let at = short_there last known in elim right [ inl whole ↦ inl (omega arith, whole.1) | inr there ↦ inr (omega arith, omega arith) ];
        is_last = λ short. elim right [
          | inl whole ↦ absurd (omega arith)
          | inr there ↦ by (map.get held k) refl there.0
        ];
        sized = λ other equal. subst (λ n. HasLengthBySize t.blksize n k long) (one_size t size other is equal) right;
      }
    where
      by : (o : Option (List ℕ)) → map.get held k ≡ o → k ≡ size / t.blksize + 1
          → ((last : ℕ) × IsHeldLast t.blksize held last) ⊎ ((other : ℕ) (bytes : List ℕ) → map.get held other ≡ Some bytes → other < k)
      by (Some bytes) there at =
          let less = less_than_size size t.blksize sound.blksize in
          inl (k, (bytes, there, elim (sound.sized size k bytes is there) [ inl whole ↦ absurd (omega arith) | inr last ↦ omega arith ]))
      by None there at = inr (λ other bytes held_other.
          let most = none_above other (bytes, held_other) in
          elim (cases_eq other k) [
            | inl same ↦ let no : None ≡ Some bytes = sym there ∙ ap (map.get held) (sym same) ∙ held_other in absurd (cc)
            | inr apart ↦ omega (arith, apart)
          ])

  pub wrong_by_size : (passed : List Datagram) (k long : ℕ) → (HasLengthBySize t.blksize size k long → ⊥) → HasWrongLength t passed k long
  wrong_by_size passed k long wrong = inr (inl (size / t.blksize + 1, inr (size, is, refl), misfit)) where
    misfit : IsNotLengthOf t (size / t.blksize + 1) k long
    misfit = elim (cases_lt (size / t.blksize + 1) k) [
      | inl above ↦ inl above
      | inr most ↦ elim (cases_eq k (size / t.blksize + 1)) [
        | inl at ↦ inr (inr (inr (at, size, is, λ equal. wrong (inr (at, equal)))))
        | inr apart ↦ inr (inl (omega (arith, apart), λ equal. wrong (inl (omega (arith, apart), equal))))
      ]
    ]

-- ---- without a size

no_size_some : (t : Terms) (size : ℕ) → t.size ≡ None → t.size ≡ Some size → ⊥
no_size_some t size none is = let no : None ≡ Some size = sym none ∙ is in cc

pub end_by_block : (t : Terms) (held : Held) (last : ℕ) → t.size ≡ None → IsShortTop t.blksize held last → IsEnd t held last
end_by_block t held last none top = record {
  known = inl top.short;
  by_block = top.only;
  by_size = λ size is. absurd (no_size_some t size none is);
  most = top.most;
  whole = top.whole;
  short = λ bytes there. let both : Some bytes ≡ Some top.short.0 = sym there ∙ top.short.1 in let same : bytes ≡ top.short.0 = cc in let less = top.short.2 in rw same less;
}

pub right_by_block : (t : Terms) (held : Held) (k long : ℕ) → t.size ≡ None → long ≤ t.blksize → EndsThere t.blksize held k long → HasRightLength t held k long
right_by_block t held k long none fits there = record {
  fits = fits;
  before_last = λ last known. elim there [
    | inl top ↦ let same = top.1.only last known in elim top.2 [ inl below ↦ inl (omega arith, below.1) | inr at ↦ inr (omega arith, at.1) ]
    | inr whole ↦ let long_there = whole.0 last known.0 known.1 in let short = known.2 in absurd (omega arith)
  ];
  is_last = λ short. elim there [
    | inl top ↦ inl (top.0, top.1.short)
    | inr whole ↦ elim whole.1 [
      | inl exact ↦ absurd (omega arith)
      | inr above ↦ inr (λ other bytes is. let most = above.1.most other bytes is in let less = above.2 in omega arith)
    ]
  ];
  sized = λ size is. absurd (no_size_some t size none is);
}

-- ---- a length that is right is not wrong

pub right_not_wrong : (t : Terms) (held : Held) (passed : List Datagram) (k : ℕ) (bytes : List ℕ) (long : ℕ) → AreBlocks passed held → IsSound t held → length bytes ≡ long → (k ≡ 0 → ⊥)
    → HasRightLength t held k long → HasWrongLength t passed k (length bytes) → ⊥
right_not_wrong t held passed k bytes long blocks sound is some right wrong = elim wrong [
  | inl over ↦ let fits = right.fits in absurd (omega arith)
  | inr more ↦ elim more [
    | inl misfit ↦ by_last misfit.0 misfit.1 misfit.2
    | inr ends ↦ elim (right.is_last (let short = ends.1 in omega arith)) [
      | inl last ↦ let whole = ends.0.all_whole last.0 last.1.0 ((blocks last.0 last.1.0).1 last.1.1) in let short = last.1.2 in absurd (omega arith)
      | inr above ↦ elim ends.2.1.member [
        | inl none ↦ let most = ends.2.2 in absurd (omega (arith, some, none, most))
        | inr there ↦ let less = above ends.2.0 there.0 ((blocks ends.2.0 there.0).0 there.1) in let most = ends.2.2 in absurd (omega arith)
      ]
    ]
  ]
] where
  fails : (last : ℕ) → ((k < last) × (long ≡ t.blksize)) ⊎ ((k ≡ last) × (long < t.blksize)) → ((size : ℕ) → t.size ≡ Some size → (k ≡ last) → long ≡ size % t.blksize) → IsNotLengthOf t last k (length bytes) → ⊥
  fails last either sized misfit = elim misfit [
    | inl above ↦ elim either [ inl below ↦ omega (arith, below.0) | inr at ↦ omega (arith, at.0) ]
    | inr rest ↦ elim rest [
      | inl below ↦ elim either [ inl before ↦ below.1 (is ∙ before.1) | inr at ↦ omega (arith, at.0, below.0) ]
      | inr at_last ↦ elim at_last [
        | inl whole ↦ elim either [ inl before ↦ omega (arith, before.0, whole.0) | inr at ↦ omega (arith, at.1, whole.1, is) ]
        | inr by_size ↦ by_size.3 (is ∙ sized by_size.1 by_size.2 by_size.0)
      ]
    ]
  ]

  less : (size : ℕ) → size % t.blksize < t.blksize
  less size = less_than_size size t.blksize sound.blksize

  by_last : (last : ℕ) → IsLast t passed last → IsNotLengthOf t last k (length bytes) → ⊥
  by_last last known misfit = elim known [
    | inl short ↦
        let held_last : IsHeldLast t.blksize held last = (short.0, (blocks last short.0).0 short.1, short.2) in
        let either = right.before_last last held_last in
        fails last either (λ size sized at. elim (right.sized size sized) [
          | inl whole ↦ elim either [ inl before ↦ absurd (omega (arith, before.0, at)) | inr there ↦ absurd (omega (arith, there.1, whole.1)) ]
          | inr there ↦ there.1
        ]) misfit
    | inr agreed ↦
        let small = less agreed.0 in
        elim (right.sized agreed.0 agreed.1) [
          | inl whole ↦ let at = agreed.2 in fails last (inl (omega (arith, whole.0, at), whole.1)) (λ size sized same. absurd (omega (arith, whole.0, at, same))) misfit
          | inr there ↦ fails last (inr (there.0 ∙ sym agreed.2, omega (arith, there.1, small))) (λ size sized same. there.1 ∙ ap (λ n. n % t.blksize) (one_size t agreed.0 size agreed.1 sized)) misfit
        ]
  ]

-- the highest block is the last one by its length, or all are whole
pub short_top : (b : ℕ) (held : Held) (high : ℕ) → IsHighest held high → IsOrderly b held → 1 ≤ high → IsShortTop b held high ⊎ AreWhole b held
short_top b held high highest orderly some =
    let there = highest.held_there some in
    elim (cases_lt (length there.0) b) [
      | inl short ↦ inl (record {
        short = (there.0, there.1, short);
        only = λ other known. let low = highest.most other known.0 known.1 in let less = known.2 in elim (cases_lt other high) [
          | inl below ↦ let whole = orderly.whole other high known.0 there.0 known.1 there.1 below in absurd (omega arith)
          | inr not ↦ omega arith
        ];
        most = λ k is. highest.most k is.0 is.1;
        whole = λ k bytes is below. orderly.whole k high bytes there.0 is there.1 below;
      })
      | inr long ↦ inr (λ k bytes is. let low = highest.most k bytes is in elim (cases_lt k high) [
        | inl below ↦ let whole = orderly.whole k high bytes there.0 is there.1 below in omega arith
        | inr not ↦
            let at : k ≡ high = omega arith in
            let same : Some bytes ≡ Some there.0 = sym is ∙ ap (map.get held) at ∙ there.1 in
            let equal : bytes ≡ there.0 = cc in
            let lengths = ap length equal in omega arith
      ])
    ]
