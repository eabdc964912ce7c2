-- What begins as a recording is not said to be none.
use Rattle.std.proofs.Common.{◌≡◌, ◌≢◌, ◌≤◌, ℕ, List, [], ◌∷◌, ◌++◌, length, take, flat_map, Some, None, inl, inr, refl, sym, ap, ◌∙◌, subst, append_assoc, append-nil, arith}
use Rattle.net_pcap.specs.{BeginsAsOne, Follows, FrameParts, Layout, Mode, NamedInterface, NotARecording, Said, Says, Stands, Stops, Unopened, next_mode, start}
use Rattle.net_pcap.specs.Pieces.Said.{Opens, Names, Gives, Counts, Skips}
use Rattle.net_pcap.specs.declared.layout.Layout.TheVariants.{Classic, Blocks}
use Rattle.audit_recording.specs.Session.Opened.{BeginsNot}

-- ---- what was opened stays open

never_unopened : (layout : Layout) (interfaces : List NamedInterface) (piece : List ℕ) → Says layout interfaces piece (Opens Unopened) → ⊥
never_unopened Unopened interfaces piece says = says
never_unopened (Classic classic) interfaces piece says = says
never_unopened (Blocks order) interfaces piece says = says

still_open : (mode : Mode) (piece : List ℕ) (said : Said) → mode.layout ≢ Unopened → Says mode.layout mode.interfaces piece said → (next_mode mode said).layout ≢ Unopened
still_open mode piece (Opens Unopened) opened says = absurd (never_unopened mode.layout mode.interfaces piece says)
still_open mode piece (Opens (Classic classic)) opened says = λ e. let x : ⊥ = cc in x
still_open mode piece (Opens (Blocks order)) opened says = λ e. let x : ⊥ = cc in x
still_open mode piece (Names interface) opened says = opened
still_open mode piece (Gives frame) opened says = opened
still_open mode piece (Counts dropped) opened says = opened
still_open mode piece Skips opened says = opened

first_open : (piece : List ℕ) (said : Said) → Says Unopened [] piece said → (next_mode start said).layout ≢ Unopened
first_open piece (Opens Unopened) says = absurd says
first_open piece (Opens (Classic classic)) says = λ e. let x : ⊥ = cc in x
first_open piece (Opens (Blocks order)) says = λ e. let x : ⊥ = cc in x
first_open piece _ says = absurd says

stays_open : (mode end : Mode) (pieces : List (List ℕ)) (frames : List FrameParts) → mode.layout ≢ Unopened → Follows mode pieces end frames → end.layout ≢ Unopened
stays_open mode end [] frames opened (is, none) = λ e. opened (sym (ap (λ (m : Mode). m.layout) is) ∙ e)
stays_open mode end (piece ∷ pieces) frames opened (said, rest, says, given_is, follows) = stays_open (next_mode mode said) end pieces rest (still_open mode piece said opened says) follows

-- so where nothing was opened no piece stood
nothing_stood : (good : List ℕ) (mode : Mode) (count : ℕ) (frames : List FrameParts) → mode.layout ≡ Unopened → Stands good mode count frames → good ≡ []
nothing_stood good mode count frames is stands = stands.are ∙ by stands.pieces stands.follows where
  by : (pieces : List (List ℕ)) → Follows start pieces mode frames → flat_map (λ piece. piece) pieces ≡ []
  by [] follows = refl
  by (piece ∷ pieces) (said, rest, says, given_is, follows) = absurd (stays_open (next_mode start said) mode pieces rest (first_open piece said says) follows is)

-- ---- the first bytes

same_first : (taken more : List ℕ) → 12 ≤ length taken → take 4 (taken ++ more) ≡ take 4 taken
same_first (w ∷ x ∷ y ∷ z ∷ rest) more long = refl
same_first (w ∷ x ∷ y ∷ []) more long = absurd (omega (arith, long))
same_first (w ∷ x ∷ []) more long = absurd (omega (arith, long))
same_first (w ∷ []) more long = absurd (omega (arith, long))
same_first [] more long = absurd (omega (arith, long))

begins_too : (bytes other : List ℕ) → take 4 bytes ≡ take 4 other → BeginsAsOne bytes → BeginsAsOne other
begins_too bytes other same (inl section) = inl (sym same ∙ section)
begins_too bytes other same (inr (order, nano, is)) = inr (order, nano, sym same ∙ is)

pub not_none : (bytes : List ℕ) → BeginsAsOne bytes → BeginsNot (Some bytes) NotARecording → ⊥
not_none bytes begins (None, fault, fails, kind) = fails.consumed
not_none bytes begins (Some left, fault, fails, kind) =
    let f = fails.tells.fails in
    let stop = subst (λ k. Stops k f.mode f.count f.part) kind f.rest in
    let part : fails.taken ≡ f.part = f.are ∙ ap (λ l. l ++ f.part) (nothing_stood f.good f.mode f.count [] stop.0 f.stands) in
    let whole : bytes ≡ fails.taken ++ (fails.ahead ++ left) = fails.consumed ∙ append_assoc fails.taken fails.ahead left in
    let begun : BeginsAsOne fails.taken = elim (fails.text kind) [
      | inl end ↦ begins_too bytes fails.taken (ap (take 4) (whole ∙ ap (λ l. fails.taken ++ l) end ∙ append-nil fails.taken)) begins
      | inr long ↦ begins_too bytes fails.taken (ap (take 4) whole ∙ same_first fails.taken (fails.ahead ++ left) long) begins
    ] in
    stop.1 (subst BeginsAsOne part begun)
