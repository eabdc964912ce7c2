-- What holds where nothing is agreed.
use Rattle.std.proofs.Common.{◌≡◌, codes, sym, ap, subst}
use Rattle.std.specs.FinMap as map
use Rattle.std.specs.Ordering.{nat_cmp}
use Rattle.std.specs.Cmp.Lexicographic.{slice_cmp}
use Rattle.law_model.specs.Model.{Meaning, NothingAgreed, number_or, option_or, blksize_of, windowsize_of}

pub default_blksize : (m : Meaning) → NothingAgreed m → blksize_of m ≡ 512
default_blksize m none = subst (λ o. option_or 512 o (codes "blksize") ≡ 512) (sym none) (ap (number_or 512) (map.get-empty (slice_cmp nat_cmp) (codes "blksize")))

pub default_windowsize : (m : Meaning) → NothingAgreed m → windowsize_of m ≡ 1
default_windowsize m none = subst (λ o. option_or 1 o (codes "windowsize") ≡ 1) (sym none) (ap (number_or 1) (map.get-empty (slice_cmp nat_cmp) (codes "windowsize")))
