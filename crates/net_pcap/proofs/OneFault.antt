-- Bytes have one fault.
use Rattle.std.proofs.Common.{◌≡◌, inl, inr, ℕ, List, [], ◌∷◌, ◌++◌, length, refl, sym, ap, ◌∙◌, subst, append_assoc, arith, flat_map}
use Rattle.net_pcap.specs.{FrameParts, Said, Says, Mode, Follows, next_mode, given, start, IsBad, IsCut, Stops, IsTooLong, FailsAs, IsWrong, FaultKind, NotARecording, Truncated, Bad, TooLong, TooMany, Read, Memory}
use Rattle.net_pcap.proofs.Fronts.{announces_one, announces_enough, begins_of}
use Rattle.net_pcap.proofs.OneReading.{no_piece, piece_one, says_one}

-- ---- two faults are of the same pieces

-- no piece begins in front of the bytes
abbrev BeginsNone : Mode → List ℕ → Type 0
BeginsNone mode part = (q rest : List ℕ) (said : Said) → Says mode.layout mode.interfaces q said → q ++ rest ≡ part → ⊥

-- what two readings of the same bytes have in common
abbrev AreAlike : Mode → Mode → List FrameParts → List FrameParts → List ℕ → List ℕ → Type 0
AreAlike one other fs gs part end = (one ≡ other) × (fs ≡ gs) × (part ≡ end)

alike : (mode : Mode) (ps qs : List (List ℕ)) (one other : Mode) (fs gs : List FrameParts) (part end : List ℕ) → Follows mode ps one fs → Follows mode qs other gs → BeginsNone one part → BeginsNone other end
    → flat_map (λ p. p) ps ++ part ≡ flat_map (λ q. q) qs ++ end → AreAlike one other fs gs part end
alike mode [] [] one other fs gs part end (a, x) (b, y) none never e = (a ∙ sym b, x ∙ sym y, e)
alike mode [] (q ∷ qs) one other fs gs part end (a, x) (t, gs', says, are, more) none never e =
    absurd (none q (flat_map (λ x. x) qs ++ end) t (subst (λ (m : Mode). Says m.layout m.interfaces q t) (sym a) says) (sym (append_assoc q (flat_map (λ x. x) qs) end) ∙ sym e))
alike mode (p ∷ ps) [] one other fs gs part end (s, fs', says, are, more) (b, y) none never e =
    absurd (never p (flat_map (λ x. x) ps ++ part) s (subst (λ (m : Mode). Says m.layout m.interfaces p s) (sym b) says) (sym (append_assoc p (flat_map (λ x. x) ps) part) ∙ e))
alike mode (p ∷ ps) (q ∷ qs) one other fs gs part end (s, fs', says, are, more) (t, gs', says', are', more') none never e =
    let same = piece_one mode.layout mode.interfaces p q (flat_map (λ x. x) ps ++ part) (flat_map (λ x. x) qs ++ end) s t says says' (sym (append_assoc p (flat_map (λ x. x) ps) part) ∙ e ∙ append_assoc q (flat_map (λ x. x) qs) end) in
    let said = says_one mode.layout mode.interfaces q s t (subst (λ (l : List ℕ). Says mode.layout mode.interfaces l s) same.0 says) says' in
    let rest = alike (next_mode mode t) ps qs one other fs' gs' part end (subst (λ (x : Said). Follows (next_mode mode x) ps one fs') said more) more' none never same.1 in
    (rest.0, are ∙ (λ i. given (said i) ++ rest.1 i) ∙ sym are', rest.2)

-- ---- and of the same kind

module _ (mode : Mode) (part : List ℕ) where
  text_or_cut : Stops NotARecording mode 0 part → IsCut mode.layout part → ⊥
  text_or_cut text cut = text.1 (cut.2 text.0)

  text_or_bad : Stops NotARecording mode 0 part → IsBad mode.layout mode.interfaces part → ⊥
  text_or_bad text (inl irregular) = text.1 (irregular.2 text.0)
  text_or_bad text (inr (whole, never)) = text.1 (begins_of mode.layout part (length part) whole.0 text.0)

  text_or_long : Stops NotARecording mode 0 part → IsTooLong mode.layout part → ⊥
  text_or_long text (size, announced, long) = text.1 (begins_of mode.layout part size announced text.0)

  cut_or_bad : IsCut mode.layout part → IsBad mode.layout mode.interfaces part → ⊥
  cut_or_bad (inl short, some, begins) (inl irregular) = omega (arith, short, irregular.0)
  cut_or_bad (inl short, some, begins) (inr (whole, never)) = omega (arith, short, announces_enough mode.layout part (length part) whole.0)
  cut_or_bad (inr (size, announced, sized, short), some, begins) (inl irregular) = (irregular.1 size announced).1 sized.1
  cut_or_bad (inr (size, announced, sized, short), some, begins) (inr (whole, never)) = omega (arith, short, announces_one mode.layout part size (length part) announced whole.0)

  cut_or_long : IsCut mode.layout part → IsTooLong mode.layout part → ⊥
  cut_or_long (inl short, some, begins) (size, announced, long) = omega (arith, short, announces_enough mode.layout part size announced)
  cut_or_long (inr (own, said, sized, short), some, begins) (size, announced, long) = omega (arith, sized.0, long, announces_one mode.layout part own size said announced)

  bad_or_long : IsBad mode.layout mode.interfaces part → IsTooLong mode.layout part → ⊥
  bad_or_long (inl irregular) (size, announced, long) = let few = (irregular.1 size announced).0 in omega (arith, few, long)
  bad_or_long (inr (whole, never)) (size, announced, long) = omega (arith, whole.1.0, long, announces_one mode.layout part (length part) size whole.0 announced)

  kind_one : (k l : FaultKind) (m n : ℕ) → IsWrong k → IsWrong l → Stops k mode m part → Stops l mode n part → k ≡ l
  kind_one NotARecording NotARecording m n v w x y = refl
  kind_one NotARecording Truncated m n v w x y = absurd (text_or_cut x y)
  kind_one NotARecording Bad m n v w x y = absurd (text_or_bad x y)
  kind_one NotARecording TooLong m n v w x y = absurd (text_or_long x y)
  kind_one Truncated NotARecording m n v w x y = absurd (text_or_cut y x)
  kind_one Truncated Truncated m n v w x y = refl
  kind_one Truncated Bad m n v w x y = absurd (cut_or_bad x y)
  kind_one Truncated TooLong m n v w x y = absurd (cut_or_long x y)
  kind_one Bad NotARecording m n v w x y = absurd (text_or_bad y x)
  kind_one Bad Truncated m n v w x y = absurd (cut_or_bad y x)
  kind_one Bad Bad m n v w x y = refl
  kind_one Bad TooLong m n v w x y = absurd (bad_or_long x y)
  kind_one TooLong NotARecording m n v w x y = absurd (text_or_long y x)
  kind_one TooLong Truncated m n v w x y = absurd (cut_or_long y x)
  kind_one TooLong Bad m n v w x y = absurd (bad_or_long y x)
  kind_one TooLong TooLong m n v w x y = refl
  kind_one TooMany l m n v w x y = absurd v
  kind_one Read l m n v w x y = absurd v
  kind_one Memory l m n v w x y = absurd v
  kind_one k TooMany m n v w x y = absurd w
  kind_one k Read m n v w x y = absurd w
  kind_one k Memory m n v w x y = absurd w

pub fault_one : (bytes : List ℕ) (fs gs : List FrameParts) (k l : FaultKind) → IsWrong k → IsWrong l → FailsAs bytes fs k → FailsAs bytes gs l → (fs ≡ gs) × (k ≡ l)
fault_one bytes fs gs k l v w p q =
    let none : BeginsNone p.mode p.part = λ a rest said. no_piece k p.mode p.count p.part a rest said v p.rest in
    let never : BeginsNone q.mode q.part = λ a rest said. no_piece l q.mode q.count q.part a rest said w q.rest in
    let (mode, frames, part) = alike start p.stands.pieces q.stands.pieces p.mode q.mode fs gs p.part q.part p.stands.follows q.stands.follows none never (ap (λ x. x ++ p.part) (sym p.stands.are) ∙ sym p.are ∙ q.are ∙ ap (λ x. x ++ q.part) q.stands.are) in
    let there = subst (λ (m : Mode). Stops k m p.count q.part) mode (subst (Stops k p.mode p.count) part p.rest) in
    (frames, kind_one q.mode q.part k l p.count q.count v w there q.rest)
