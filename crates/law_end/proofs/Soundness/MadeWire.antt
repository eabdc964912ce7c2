-- A wire whose blocks are those that have passed, with zeros where none has.
use Rattle.std.proofs.Common.{◌≡◌, ℕ, zero, suc, ◌+◌, ◌-◌, ◌*◌, ◌/◌, ◌%◌, ◌<◌, ◌≤◌, List, [], ◌∷◌, ◌++◌, length, Option, Some, None, inl, inr, refl, sym, subst, ap, ◌∙◌, arith, replicate}
use Rattle.std.proofs.Math.Nat.{zero-mul}
use Rattle.std.proofs.lemmas.Nat.{div-mul-add, mod_below, div-add-mod'}
use Rattle.std.proofs.lemmas.List.{length-append, length-replicate}
use Rattle.std.proofs.lemmas.Bool.{cases_lt, cases_eq}
use Rattle.tftp_packet.specs.{Message, Side}
use Rattle.tftp_packet.specs.Hosts.{Datagram}
use Rattle.tftp_packet.specs.{Dir}
use Rattle.law_model.specs.Model.{block, block_count}
use Rattle.law_model.specs.Rules.{Passed, HasPassed, IsLast, LastIsUnknown}
use Rattle.law_model.specs.{Terms}
use Rattle.law_model.proofs.RulesLemmas.Joined.{block_added, block_kept, size_more}
use Rattle.law_end.proofs.Accord.HighestNumbers.{AllSpelled, has_block, high_of}
use Rattle.law_end.proofs.Soundness.Settled.{Settled, known_last, last_one}

-- the blocks that have passed are those of the wire
pub record Carries (t : Terms) (passed : List Datagram) (wire : List ℕ) : Type 0 where
  pub numbered : block_count t.blksize wire ≤ t.greatest
  pub blocks : (k : ℕ) (bytes : List ℕ) → HasPassed (Message.Data k bytes) passed → (k ≤ block_count t.blksize wire) × (bytes ≡ block t.blksize wire k)
  pub size : (size : ℕ) → t.size ≡ Some size → length wire ≡ size

-- a wire of so many whole blocks, and those of them that have passed
pub record Filled (b : ℕ) (passed : List Datagram) (count : ℕ) (wire : List ℕ) : Type 0 where
  pub whole : length wire ≡ count * b
  pub blocks : (k : ℕ) (bytes : List ℕ) → HasPassed (Message.Data k bytes) passed → k ≤ count → bytes ≡ block b wire k

module _ (side : Side) (t : Terms) (passed : List Datagram) (s : Settled side t passed) (all : AllSpelled passed) where
  -- with one block more, of at most this length
  appended : (n : ℕ) (w x : List ℕ) → Filled t.blksize passed n w → length x ≤ t.blksize → ((bytes : List ℕ) → HasPassed (Message.Data (suc n) bytes) passed → bytes ≡ x)
      → (k : ℕ) (bytes : List ℕ) → HasPassed (Message.Data k bytes) passed → k ≤ suc n → bytes ≡ block t.blksize (w ++ x) k
  appended n w x f fits next k bytes p up =
      let now : n ≡ suc n - 1 = omega arith in
      let size : length w ≡ (suc n - 1) * t.blksize = f.whole ∙ ap (λ i. i * t.blksize) now in
      elim (cases_lt k (suc n)) [
        | inl before ↦ f.blocks k bytes p (omega (arith, before)) ∙ sym (block_kept t.blksize k (suc n) w x (s.numbered k bytes p) before size)
        | inr over ↦
            let is : k ≡ suc n = omega (arith, over) in
            next bytes (subst (λ i. HasPassed (Message.Data i bytes) passed) is p) ∙ sym (block_added t.blksize (suc n) w x size fits) ∙ ap (block t.blksize (w ++ x)) (sym is)
      ]

  -- what has passed as block k, or zeros
  here : (k long : ℕ) → ((bytes : List ℕ) → HasPassed (Message.Data k bytes) passed → length bytes ≡ long)
      → (x : List ℕ) × (length x ≡ long) × ((bytes : List ℕ) → HasPassed (Message.Data k bytes) passed → bytes ≡ x)
  here k long is = elim (has_block k passed all) [
    | inl f ↦ (f.0, is f.0 f.1, λ bytes p. s.once k bytes f.0 p f.1)
    | inr none ↦ (replicate long 0, length-replicate long 0, λ bytes p. absurd (none bytes p))
  ]

  fill : (count : ℕ) → ((k : ℕ) (bytes : List ℕ) → HasPassed (Message.Data k bytes) passed → k ≤ count → length bytes ≡ t.blksize) → (wire : List ℕ) × Filled t.blksize passed count wire
  fill zero whole = ([], record { whole = sym (zero-mul t.blksize); blocks = λ k bytes p up. let low = s.numbered k bytes p in absurd (omega (arith, up)) })
  fill (suc n) whole =
      let (w, f) = fill n (λ k bytes p up. whole k bytes p (omega (arith, up))) in
      let (x, long, is) = here (suc n) t.blksize (λ bytes p. whole (suc n) bytes p (omega arith)) in
      let now : n ≡ suc n - 1 = omega arith in
      let next : suc n + 1 - 1 ≡ suc n = omega arith in (
        w ++ x,
        record {
          whole = size_more t.blksize (suc n) w x (omega arith) (f.whole ∙ ap (λ i. i * t.blksize) now) long ∙ ap (λ i. i * t.blksize) next;
          blocks = appended n w x f (omega (arith, long)) is;
        },
      )

  -- so long a wire has one block more
  counted : (n : ℕ) (w x : List ℕ) → length w ≡ n * t.blksize → length x < t.blksize → block_count t.blksize (w ++ x) ≡ n + 1
  counted n w x whole short = ap (λ l. l / t.blksize + 1) (length-append w x ∙ ap (λ l. l + length x) whole) ∙ ap (λ i. i + 1) (div-mul-add n t.blksize (length x) short)

  -- where the last block is unknown, the wire ends after the highest one
  open_wire : 0 < t.blksize → 1 ≤ t.greatest → LastIsUnknown t passed → (wire : List ℕ) × Carries t passed wire
  open_wire some room unknown =
      let (high, most) = high_of passed all in
      let (w, f) = fill high (λ k bytes p up. let a = unknown.all_whole k bytes p in let b = s.within k bytes p in omega arith) in
      let count : block_count t.blksize w ≡ high + 1 = ap (λ l. l / t.blksize + 1) (f.whole ∙ plus_none (high * t.blksize)) ∙ ap (λ i. i + 1) (div-mul-add high t.blksize 0 some) in (
        w,
        record {
          numbered = subst (λ n. n ≤ t.greatest) (sym count) (elim most.member [
            | inl none ↦ omega (arith, none)
            | inr p ↦ elim (cases_eq high t.greatest) [
              | inl is ↦
                  let short = s.ended p.0 (subst (λ i. HasPassed (Message.Data i p.0) passed) is p.1) in
                  let whole = unknown.all_whole high p.0 p.1 in
                  absurd (omega (arith, short, whole))
              | inr other ↦ let low = s.low high p.0 p.1 in omega (arith, other, low)
            ]
          ]);
          blocks = λ k bytes p.
              let up = most.most k (bytes, p) in
              (subst (λ n. k ≤ n) (sym count) (omega (arith, up)), f.blocks k bytes p up);
          size = λ size is. let both : None ≡ Some size = sym unknown.no_size ∙ is in absurd (cc);
        },
      )
    where
      plus_none : (n : ℕ) → n ≡ n + 0
      plus_none n = omega arith

  -- and has what is left of a size that was agreed
  last_left : (last : ℕ) → IsLast t passed last → (size : ℕ) → t.size ≡ Some size → (bytes : List ℕ) → HasPassed (Message.Data last bytes) passed → length bytes ≡ size % t.blksize
  last_left last known size is bytes p = elim (cases_eq (length bytes) (size % t.blksize)) [
    | inl same ↦ same
    | inr other ↦ absurd (s.placed last last bytes p known (inr (inr (inr (refl, size, is, other)))))
  ]

  abbrev Tail : ℕ → Type 0
  Tail last = (x : List ℕ) × (length x < t.blksize) × ((bytes : List ℕ) → HasPassed (Message.Data last bytes) passed → bytes ≡ x) × ((size : ℕ) → t.size ≡ Some size → length x ≡ size % t.blksize)

  tail_by : 0 < t.blksize → (o : Option ℕ) → t.size ≡ o → (last : ℕ) → IsLast t passed last → Tail last
  tail_by some (Some size) is last known =
      let (x, long, same) = here last (size % t.blksize) (last_left last known size is) in
      let low = mod_below size t.blksize some in
      (x, omega (arith, long, low), same, λ other also. let both : Some size ≡ Some other = sym is ∙ also in let e : size ≡ other = cc in long ∙ ap (λ i. i % t.blksize) e)
  tail_by some None is last (inl (bytes, p, short)) = (bytes, short, λ other q. s.once last other bytes q p, λ size also. let both : None ≡ Some size = sym is ∙ also in absurd (cc))
  tail_by some None is last (inr (size, also, at)) = let both : None ≡ Some size = sym is ∙ also in absurd (cc)

  -- the last block is among those that are numbered, if that of the size is
  last_small : ((size : ℕ) → t.size ≡ Some size → size / t.blksize + 1 ≤ t.greatest) → (last : ℕ) → IsLast t passed last → (1 ≤ last) × (last ≤ t.greatest)
  last_small limit last (inl (bytes, p, short)) = (s.numbered last bytes p, s.low last bytes p)
  last_small limit last (inr (size, is, at)) = let low = limit size is in (omega (arith, at), omega (arith, at, low))

  ended_wire : 0 < t.blksize → ((size : ℕ) → t.size ≡ Some size → size / t.blksize + 1 ≤ t.greatest) → (n : ℕ) → IsLast t passed (suc n) → (wire : List ℕ) × Carries t passed wire
  ended_wire some limit n known =
      let (w, f) = fill n (λ k bytes p up. elim (cases_eq (length bytes) t.blksize) [
        | inl same ↦ same
        | inr other ↦ absurd (s.placed k (suc n) bytes p known (inr (inl (omega (arith, up), other))))
      ]) in
      let (x, short, is, left) = tail_by some t.size refl (suc n) known in
      let count = counted n w x f.whole short in (
        w ++ x,
        record {
          numbered = let few = (last_small limit (suc n) known).1 in subst (λ i. i ≤ t.greatest) (sym count) (omega (arith, few));
          blocks = λ k bytes p.
              let up : k ≤ suc n = elim (cases_lt (suc n) k) [ inl past ↦ absurd (s.placed k (suc n) bytes p known (inl past)) | inr within ↦ within ] in
              (subst (λ i. k ≤ i) (sym count) (omega (arith, up)), appended n w x f (omega (arith, short)) is k bytes p up);
          size = λ size agreed.
              let at : suc n ≡ size / t.blksize + 1 = last_one side t passed s (suc n) (size / t.blksize + 1) known (inr (size, agreed, refl)) in
              let n_is : n ≡ size / t.blksize = omega (arith, at) in
              length-append w x ∙ ap (λ l. l + length x) (f.whole ∙ ap (λ i. i * t.blksize) n_is) ∙ ap (λ l. size / t.blksize * t.blksize + l) (left size agreed) ∙ div-add-mod' size t.blksize;
        },
      )

  pub carried : 0 < t.blksize → 1 ≤ t.greatest → ((size : ℕ) → t.size ≡ Some size → size / t.blksize + 1 ≤ t.greatest) → (wire : List ℕ) × Carries t passed wire
  carried some room limit = elim (known_last t passed all) [
    | inl unknown ↦ open_wire some room unknown
    | inr known ↦ by known.0 known.1
  ]
    where
      by : (last : ℕ) → IsLast t passed last → (wire : List ℕ) × Carries t passed wire
      by zero known = let low = (last_small limit zero known).0 in absurd (omega (arith, low))
      by (suc n) known = ended_wire some limit n known
