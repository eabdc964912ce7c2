-- What a run of bytes without a CR reads as, and what the CR after it does.
use Rattle.std.proofs.Common.{◌≡◌, ◌≢◌, ℕ, List, [], ◌∷◌, ◌++◌, All, inl, inr, sym, subst, ⊎_elim}
use Rattle.std.specs.List.{AllByRecursion}
use Rattle.std.proofs.lemmas.List.Elements.{recursion_from_All}
use Rattle.tftp_netascii.specs.{Reads, end, line_end, bare_return, itself, ReadsAfterReturn}
use Rattle.tftp_netascii.proofs.ReadsLemmas.{no_pair}

nothing : (file : List ℕ) → Reads [] file → Reads (13 ∷ []) (13 ∷ file)
nothing _ end = itself 13 [] [] (λ p. p) end

pub return_reads : (tail after file : List ℕ) (byte : ℕ) → ReadsAfterReturn tail byte after → Reads after file → Reads (13 ∷ tail) (byte ∷ file)
return_reads [] after file byte stands reads =
    subst (λ b. Reads (13 ∷ []) (b ∷ file)) (sym stands.0) (nothing file (subst (λ w. Reads w file) stands.1 reads))
return_reads (y ∷ ys) after file byte stands reads = elim stands [
  | inl feed ↦
      subst (λ b. Reads (13 ∷ y ∷ ys) (b ∷ file)) (sym feed.1)
      (subst (λ x. Reads (13 ∷ x ∷ ys) (10 ∷ file)) (sym feed.0) (line_end ys file (subst (λ w. Reads w file) feed.2 reads)))
  | inr others ↦ elim others [
    | inl bare ↦
        subst (λ b. Reads (13 ∷ y ∷ ys) (b ∷ file)) (sym bare.1)
        (subst (λ x. Reads (13 ∷ x ∷ ys) (13 ∷ file)) (sym bare.0) (bare_return ys file (subst (λ w. Reads w file) bare.2 reads)))
    | inr lone ↦
        subst (λ b. Reads (13 ∷ y ∷ ys) (b ∷ file)) (sym lone.2)
        (itself 13 (y ∷ ys) file (λ pair. ⊎_elim (λ is. lone.0 is) (λ is. lone.1 is) pair.1) (subst (λ w. Reads w file) lone.3 reads))
  ]
]

run_before : (run wire file : List ℕ) → AllByRecursion (λ x. x ≢ 13) run → Reads wire file → Reads (run ++ wire) (run ++ file)
run_before [] wire file all reads = reads
run_before (x ∷ run) wire file all reads = itself x (run ++ wire) (run ++ file) (no_pair x (run ++ wire) all.0) (run_before run wire file all.1 reads)

pub run_and_return : (rest run tail after file : List ℕ) (byte : ℕ) → rest ≡ run ++ 13 ∷ tail → All (λ x. x ≢ 13) run → ReadsAfterReturn tail byte after → Reads after file
    → Reads rest (run ++ byte ∷ file)
run_and_return rest run tail after file byte parts all stands reads =
    subst (λ w. Reads w (run ++ byte ∷ file)) (sym parts) (run_before run (13 ∷ tail) (byte ∷ file) (recursion_from_All _ run all) (return_reads tail after file byte stands reads))

run_alone : (run : List ℕ) → AllByRecursion (λ x. x ≢ 13) run → Reads run run
run_alone [] all = end
run_alone (x ∷ run) all = itself x run run (no_pair x run all.0) (run_alone run all.1)

pub run_to_end : (run : List ℕ) → All (λ x. x ≢ 13) run → Reads run run
run_to_end run all = run_alone run (recursion_from_All _ run all)
