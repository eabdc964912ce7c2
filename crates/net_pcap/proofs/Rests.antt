-- The rest of a piece, after its first bytes.
use Rattle.std.proofs.Common.{◌≡◌, ◌≢◌, inl, inr, ℕ, ◌+◌, ◌-◌, ◌<◌, ◌≤◌, List, ◌++◌, length, length-append, take, drop, refl, sym, ap, ◌∙◌, append_assoc, arith, ◌⊎◌, Bool, true, false, Result, Ok, Err}
use Rattle.std.proofs.lemmas.Grind.{common_steps}
use Rattle.net_pcap.specs.{number_at, section_type, Announces, IsSize, Said, Says, front_of, EndReached, IsSkipped, IsWhole, RestEnds, Order, NamedInterface, Layout, FaultKind, Truncated, Bad, Read, Memory}
use Rattle.net_pcap.specs.declared.layout.Layout.TheVariants.{Blocks}
use Rattle.net_pcap.specs.declared.found.Found.TheVariants as found
use Rattle.net_pcap.proofs.Whole.{number_dropped}
use Rattle.net_pcap.proofs.Bodies.{skipped, wrong_end, block_none}
use Rattle.net_pcap.proofs.Fronts.{front_some, grown_cut, grown_part, grown_whole, skipped_more}

module _ (layout : Layout) (interfaces : List NamedInterface) (first bytes : List ℕ) (size : ℕ) (front : length first ≡ front_of layout) (announced : Announces layout first size) (sized : IsSize layout size) where
  pub rest_cut : (piece : List ℕ) → length (first ++ bytes) < size → RestEnds layout interfaces (Err Truncated) piece (first ++ bytes)
  rest_cut piece short = grown_cut layout first (first ++ bytes) bytes size refl announced (omega (arith, front)) (front_some layout) sized short

  pub rest_whole : length (first ++ bytes) ≡ size → IsWhole layout (first ++ bytes)
  rest_whole whole = grown_whole layout first (first ++ bytes) bytes size refl announced sized whole

  pub rest_failed : (kind : FaultKind) (piece : List ℕ) → piece ≡ first ++ bytes → (kind ≡ Read) ⊎ (kind ≡ Memory) → length (first ++ bytes) < size → RestEnds layout interfaces (Err kind) piece (first ++ bytes)
  rest_failed kind piece are (inl is) short = rw is (grown_part layout first (first ++ bytes) bytes size refl announced short)
  rest_failed kind piece are (inr is) short = rw is (grown_part layout first (first ++ bytes) bytes size refl announced short, sym are)

  pub rest_read : (kind : FaultKind) (piece : List ℕ) → kind ≡ Read → length (first ++ bytes) < size → RestEnds layout interfaces (Err kind) piece (first ++ bytes)
  rest_read kind piece is short = rw is (grown_part layout first (first ++ bytes) bytes size refl announced short)

  pub rest_bad : (piece : List ℕ) → length (first ++ bytes) ≡ size → ((said : Said) → Says layout interfaces (first ++ bytes) said → ⊥) → RestEnds layout interfaces (Err Bad) piece (first ++ bytes)
  rest_bad piece whole never = inr (rest_whole whole, never)

-- ---- a block that is skipped

plain_size : (order : Order) (s : List ℕ) (size : ℕ) → take 4 s ≢ section_type → Announces (Blocks order) s size → size ≡ number_at order s 4
plain_size order s size plain (long, inl a) = absurd (plain a.0)
plain_size order s size plain (long, inr a) = a.1

module _ (order : Order) (interfaces : List NamedInterface) (first more piece : List ℕ) (size : ℕ) (front : length first ≡ 12) (announced : Announces (Blocks order) first size) (sized : IsSize (Blocks order) size)
    (other : IsSkipped (Blocks order) first) (reached : EndReached (Ok true) size (first ++ more) piece) where
  abbrev pub taken : List ℕ
  taken = first ++ more

  whole : IsWhole (Blocks order) taken
  whole = grown_whole (Blocks order) first (first ++ more) more size refl announced sized reached.0

  there : IsSkipped (Blocks order) taken
  there = skipped_more (Blocks order) first more (omega (arith, front)) other

  enough : 12 ≤ length taken
  enough = whole.0.0

  -- the repeated length, where it is held
  last : number_at order piece 8 ≡ number_at order taken (length taken - 4)
  last = sym (number_dropped order piece 8) ∙ ap (λ l. number_at order l 0) reached.2 ∙ number_dropped order taken (size - 4) ∙ ap (λ (n : ℕ). number_at order taken (n - 4)) (sym reached.0)

  pub skip_says : (again : ℕ) → again ≡ number_at order piece 8 → again ≡ size → RestEnds (Blocks order) interfaces (Ok found.Skips) piece taken
  skip_says again at same = (
    skipped order interfaces taken enough (plain_size order taken (length taken) there.0 whole.0) whole.1.1.1 whole.1.0 there.0 (number_at order taken 0) refl (reached.0 ∙ sym same ∙ at ∙ last) there.1 there.5
        (λ packet. elim packet as (λ _. ⊥) [ inl e ↦ there.4 e | inr (inl e) ↦ there.3 e | inr (inr e) ↦ there.2 e ]),
    inl refl,
  )

  pub skip_bad : (again : ℕ) → again ≡ number_at order piece 8 → again ≢ size → RestEnds (Blocks order) interfaces (Err Bad) piece taken
  skip_bad again at differs =
      inr (
        whole,
        block_none order interfaces taken there.0
            (wrong_end order interfaces taken enough (plain_size order taken (length taken) there.0 whole.0) whole.1.1.1 whole.1.0 there.0 (number_at order taken 0) refl again (at ∙ last) (λ e. differs (e ∙ reached.0))),
      )

-- ---- the end of such a block

module _ (first bytes last : List ℕ) (size : ℕ) (front : length first ≡ 12) (large : 16 ≤ size) (passed : length bytes ≡ size - 16) where
  long : length (first ++ (bytes ++ last)) ≡ size - 4 + length last
  long = omega (arith, front, large, passed, length-append first (bytes ++ last), length-append bytes last)

  eight : length (take 8 first) ≡ 8
  eight = grind (arith, common_steps)

  short : (piece : List ℕ) → piece ≡ take 8 first ++ last → length piece < 12 → length (first ++ (bytes ++ last)) < size
  short piece are few = omega (arith, few, eight, ap length are, length-append (take 8 first) last, long, large)

  drop_first : (a b : List ℕ) (n : ℕ) → length a ≡ n → drop n (a ++ b) ≡ b
  drop_first a b n is = grind (arith, common_steps)

  pub end_reached : (result : Result Bool FaultKind) (piece : List ℕ) → piece ≡ take 8 first ++ last → (result ≡ Ok true → length piece ≡ 12) → (result ≢ Ok true → length piece < 12) → EndReached result size (first ++ (bytes ++ last)) piece
  end_reached (Ok true) piece are at_end part =
      let twelve = at_end refl in
      let four : length last ≡ 4 = omega (arith, twelve, eight, ap length are, length-append (take 8 first) last) in (
        omega (arith, long, four, large),
        twelve,
        ap (drop 8) are ∙ drop_first (take 8 first) last 8 eight ∙ sym (drop_first (first ++ bytes) last (size - 4) (omega (arith, front, large, passed, length-append first bytes))) ∙ ap (drop (size - 4)) (append_assoc first bytes last),
      )
  end_reached (Ok false) piece are at_end part = short piece are (part (λ e. let x : ⊥ = cc in x))
  end_reached (Err kind) piece are at_end part = short piece are (part (λ e. let x : ⊥ = cc in x))
