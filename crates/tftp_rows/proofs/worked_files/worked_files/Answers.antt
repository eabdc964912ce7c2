use Rattle.std.proofs.Common.{◌++◌, ◌∷◌, ◌==◌, ◌&&◌, [], ap, append-nil, max, if◌then◌else◌, refl, sym, true}
use Rattle.tftp_rows.specs.Faults.Why.{Unopened}
use Rattle.tftp_rows.specs.Files.{any_has_none}
use Rattle.tftp_rows.specs.Files.Outcome.{Faulty, Told}
use Rattle.tftp_rows.specs.Remarks.{remark_text, remarks_text}
use Rattle.tftp_rows.proofs.worked_files.worked_files.Goals as goal

pub returns-clause-told : goal.returns-clause-told
returns-clause-told g c opens holds judging named program a b words before after tellings rest not told is = record {
  outcomes = Faulty Unopened [] ∷ Told tellings true rest ∷ [];
  came = (before, (not, refl, refl), (after, told, refl));
  said =
      let one = remark_text program a words in
      let other = remarks_text program b rest in
      (one ++ other, (one, other, refl, ([], [], words, refl, refl, refl), (other, [], sym (append-nil other), refl, refl)), refl);
  is =
      sym (ap (λ w. if (max 2 (max (max w 0) 0) == 0) && any_has_none (Faulty Unopened [] ∷ Told tellings true rest ∷ []) then 3 else max 2 (max (max w 0) 0)) is);
}

pub returns-clause-untold : goal.returns-clause-untold
returns-clause-untold g c opens holds judging named a b before not = record {
  fails = refl;
  first = [];
  last = a;
  others = b ∷ [];
  all = refl;
  between = before;
  outcomes = [];
  came = refl;
  why = Unopened;
  rest = [];
  came_last = (not, refl, refl);
}
