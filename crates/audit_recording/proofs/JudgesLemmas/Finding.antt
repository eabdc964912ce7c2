-- What is found of a transfer is what is kept of it.
use Rattle.std.proofs.Common.{◌≡◌, ◌⊎◌, ℕ, Bor, true, List, Option, Some, None, MatchOption, option_copied, sym, subst}
use Rattle.audit_flows.specs.Lines.{Placed}
use Rattle.audit_views.specs.Views.{Naming}
use Rattle.audit_recording.specs.Judges.{IsKept, IsWatching, Watched, is_among, opened}
use Rattle.audit_recording.specs.declared.judges.judging.Judging.{Judging}

pub kept_found : (judging : Judging) (name : Naming) (out : List ℕ) (all : List Placed) (n : ℕ) (found : Option (Bor Watched)) (kept : Option Watched) → option_copied found ≡ kept
    → IsKept judging name out all all n kept
    → MatchOption found ((opened n all ≡ None) ⊎ (is_among n out ≡ true)) (λ w. (opened n all ≡ Some w.now.transfer) × IsWatching w.now judging w.now.transfer name all)
kept_found judging name out all n None kept same is = subst (IsKept judging name out all all n) (sym same) is
kept_found judging name out all n (Some w) kept same is = let held : IsKept judging name out all all n (Some w.now) = subst (IsKept judging name out all all n) (sym same) is in (held.0, held.2)
