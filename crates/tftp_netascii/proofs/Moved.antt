-- A run that is moved to where the next byte is to be written, with what its CR stands for behind it.
use Rattle.std.proofs.Common.{◌≡◌, ℕ, suc, ◌+◌, ◌-◌, ◌≤◌, List, [], ◌∷◌, ◌++◌, length, take, drop, inl, inr, sym, subst, ap, ◌∙◌, arith, length-append}
use Rattle.std.proofs.Math.ListN.{set}
use Rattle.std.proofs.Math.Seq.{paste, take-append_seam, drop-append_seam}
use Rattle.std.proofs.lemmas.List.{drop-drop, length-drop, drop-set-lt, take_more_set}
use Rattle.std.proofs.lemmas.List.Edits.{take-paste, drop-paste}
use Rattle.tftp_netascii.specs.{ReadsAfterReturn}

-- the bytes of a tail that are still to be read
pub left_of_tail : (tail after : List ℕ) (byte : ℕ) → ReadsAfterReturn tail byte after → (after ≡ drop (length tail - length after) tail) × (length after ≤ length tail)
left_of_tail [] after byte stands = (stands.1 ∙ ap (λ n. drop n []) (let e : 0 ≡ 0 - length after = omega arith in e), let none = ap length stands.1 in omega (arith, none))
left_of_tail (y ∷ ys) after byte stands = elim stands [
  | inl feed ↦ one feed.2
  | inr others ↦ elim others [
    | inl bare ↦ one bare.2
    | inr lone ↦ all lone.3
  ]
] where
  one : after ≡ ys → (after ≡ drop (length (y ∷ ys) - length after) (y ∷ ys)) × (length after ≤ length (y ∷ ys))
  one is =
      let size = ap length is in
      let step : 1 ≡ length (y ∷ ys) - length after = omega (arith, size) in
      (is ∙ ap (λ n. drop n (y ∷ ys)) step, omega (arith, size))

  all : after ≡ y ∷ ys → (after ≡ drop (length (y ∷ ys) - length after) (y ∷ ys)) × (length after ≤ length (y ∷ ys))
  all is =
      let size = ap length is in
      let step : 0 ≡ length (y ∷ ys) - length after = omega (arith, size) in
      (is ∙ ap (λ n. drop n (y ∷ ys)) step, omega (arith, size))

dropped_on : (xs ys : List ℕ) (i j : ℕ) → i ≤ j → drop i xs ≡ drop i ys → drop j xs ≡ drop j ys
dropped_on xs ys i j low same =
    let at : i + (j - i) ≡ j = omega (arith, low) in
    subst (λ n. drop n xs ≡ drop n ys) at (sym (drop-drop (j - i) i xs) ∙ ap (λ l. drop (j - i) l) same ∙ drop-drop (j - i) i ys)

module _ (bytes run tail after : List ℕ) (byte read written : ℕ) (behind : written ≤ read) (within : read ≤ length bytes) (parts : drop read bytes ≡ run ++ 13 ∷ tail) (stands : ReadsAfterReturn tail byte after) where
  abbrev size : ℕ
  size = length run

  abbrev moved : List ℕ
  moved = set (paste bytes written (drop read bytes) size) (written + size) byte

  abbrev next : ℕ
  next = length bytes - length after

  lengths : length bytes ≡ read + (size + suc (length tail))
  lengths = let all = ap length parts ∙ length-append run (13 ∷ tail) in let rest = length-drop read bytes in omega (arith, all, rest, within)

  pub further : (read + size + 1 ≤ next) × (next ≤ length bytes)
  further = let fewer = (left_of_tail tail after byte stands).1 in let all = lengths in (omega (arith, fewer, all), omega arith)

  tail_is : drop (read + (size + 1)) bytes ≡ tail
  tail_is =
      sym (drop-drop (size + 1) read bytes) ∙ ap (λ l. drop (size + 1) l) parts ∙ sym (drop-drop 1 size (run ++ 13 ∷ tail)) ∙ ap (λ l. drop 1 l) (drop-append_seam run (13 ∷ tail))

  pub rest_is : drop next bytes ≡ after
  rest_is =
      let fewer = left_of_tail tail after byte stands in
      let all = lengths in
      let less = fewer.1 in
      let at : read + (size + 1) + (length tail - length after) ≡ next = omega (arith, less, all) in
      ap (λ n. drop n bytes) (sym at) ∙ sym (drop-drop (length tail - length after) (read + (size + 1)) bytes) ∙ ap (λ l. drop (length tail - length after) l) tail_is ∙ sym fewer.0

  room : size ≤ length (drop read bytes)
  room = let all = lengths in let rest = length-drop read bytes in omega (arith, all, rest)

  pub kept : (length (paste bytes written (drop read bytes) size) ≡ length bytes) → drop next moved ≡ after
  kept same =
      let on = further.0 in
      drop-set-lt next (paste bytes written (drop read bytes) size) (written + size) byte (omega (arith, on, behind))
      ∙ dropped_on (paste bytes written (drop read bytes) size) bytes (written + size) next (omega (arith, on, behind)) (drop-paste bytes written (drop read bytes) size (omega (arith, behind, within)) room)
      ∙ rest_is

  pub done : (length (paste bytes written (drop read bytes) size) ≡ length bytes) → take (written + size + 1) moved ≡ take written bytes ++ run ++ byte ∷ []
  done same =
      let all = lengths in
      take_more_set (paste bytes written (drop read bytes) size) (written + size) byte (omega (arith, behind, all, same))
      ∙ ap (λ l. l ++ byte ∷ []) (take-paste bytes written (drop read bytes) size (omega (arith, behind, within)) room ∙ ap (λ l. take written bytes ++ take size l) parts ∙ ap (λ l. take written bytes ++ l) (take-append_seam run (13 ∷ tail)))
