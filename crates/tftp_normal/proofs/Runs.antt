-- A run of bytes that go over the wire as they are, and a block that is filled from some place on.
use Rattle.std.proofs.Common.{◌≡◌, ℕ, ◌+◌, ◌-◌, ◌≤◌, List, ◌++◌, All, take, drop, length, length-take-le, refl, sym, subst, ap, ◌∙◌, arith}
use Rattle.std.specs.List.{AllByRecursion}
use Rattle.std.proofs.lemmas.List.{take-append-drop, take-take}
use Rattle.std.proofs.lemmas.List.Elements.{recursion_from_All}
use Rattle.std.proofs.Math.Seq.{take-append_seam, drop-append_seam, take-add}
use Rattle.std.specs.List.{between}
use Rattle.tftp_packet.specs.{Mode, Octet, Netascii}
use Rattle.tftp_netascii.specs.{IsPlain}
use Rattle.tftp_netascii.proofs.CanonicalLemmas.{canonical_run}
use Rattle.law_end.specs.{written_wire}

written_run : (mode : Mode) (run rest : List ℕ) → AllByRecursion IsPlain run → written_wire mode (run ++ rest) ≡ run ++ written_wire mode rest
written_run Octet run rest plain = refl
written_run Netascii run rest plain = canonical_run run rest plain

-- the first i bytes of a file are such a run
module _ (mode : Mode) (file : List ℕ) (i : ℕ) (inside : i ≤ length file) (plain : All IsPlain (take i file)) where
  split : written_wire mode file ≡ take i file ++ written_wire mode (drop i file)
  split = ap (written_wire mode) (sym (take-append-drop i file)) ∙ written_run mode (take i file) (drop i file) (recursion_from_All _ (take i file) plain)

  size : length (take i file) ≡ i
  size = length-take-le i file inside

  pub run_first : take i (written_wire mode file) ≡ take i file
  run_first = ap (take i) split ∙ subst (λ n. take n (take i file ++ written_wire mode (drop i file)) ≡ take i file) size (take-append_seam (take i file) (written_wire mode (drop i file)))

  pub run_rest : drop i (written_wire mode file) ≡ written_wire mode (drop i file)
  run_rest = ap (drop i) split ∙ subst (λ n. drop n (take i file ++ written_wire mode (drop i file)) ≡ written_wire mode (drop i file)) size (drop-append_seam (take i file) (written_wire mode (drop i file)))

-- A block with ys from place a on, up to the byte after the first r of them.
pub filled_more : (block ys all : List ℕ) (a e r : ℕ) → e ≡ a + length ys → take a block ≡ take a all → between a e block ≡ ys → r ≤ length ys → take r ys ≡ take r (drop a all) → take (a + r) block ≡ take (a + r) all
filled_more block ys all a e r end before middle short after =
    let size : e - a ≡ length ys = omega (arith, end) in
    let here : take r (drop a block) ≡ take r ys = sym (take-take r (e - a) (drop a block) (omega (arith, short, size))) ∙ ap (take r) middle in
    take-add a r block ∙ ap (λ l. l ++ take r (drop a block)) before ∙ ap (λ l. take a all ++ l) (here ∙ after) ∙ sym (take-add a r all)
