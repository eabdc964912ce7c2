-- One step of a mender.
use Rattle.std.proofs.Common.{◌≡◌, ◌≢◌, ℕ, ◌+◌, ◌<◌, List, [], ◌∷◌, ◌++◌, reverse, refl, sym, ap, ◌∙◌, subst, arith}
use Rattle.std.proofs.lemmas.List.{reverse-reverse}
use Rattle.tftp_packet.specs.Hosts.{Datagram, Header}
use Rattle.tftp_packet.specs.{In, Out}
use Rattle.law_end.specs.{OneEnded}
use Rattle.law_end.proofs.Whole.TwoEnds.{lawful}
use Rattle.tftp_judge.specs.{IsJudgeAfter, Judge}
use Rattle.judge_losses.specs.Places.{AreMissing, Fills, going, missing, one_if_same, whole}
use Rattle.judge_losses.specs.Mended.{IsMended, Mender}
use Rattle.judge_losses.specs.declared.place.Place.{Place}
use Rattle.judge_losses.proofs.Filled.{both_ways}

-- where some went, some were put in
put_some : (put : List Datagram) → 0 < going In put + going Out put → put ≢ []
put_some put some is = let none = ap (λ ds. going In ds + going Out ds) is in absurd (omega (arith, some, none))

-- nothing was put in where none went
put_none : (put : List Datagram) → going In put ≡ 0 → going Out put ≡ 0 → put ≡ []
put_none [] came sent = refl
put_none (d ∷ put) came sent = let both = both_ways (d ∷ put) in absurd (omega (arith, both, came, sent))

module _ (old new : Mender) (h : Header) (recorded put : List Datagram) (d : Datagram) (mended : IsMended old h recorded) (judged : IsJudgeAfter new.judge h (d ∷ (put ++ mended.all)))
    (count : new.recorded ≡ old.recorded + 1) (gave_up : new.gave_up ≡ old.gave_up) where
  -- nothing was put in before it
  pub mended_whole : new.places ≡ old.places → going In put ≡ 0 → going Out put ≡ 0 → IsMended new h (d ∷ recorded)
  mended_whole places came sent = record {
    all = d ∷ mended.all;
    judged = subst (λ ds. IsJudgeAfter new.judge h (d ∷ (ds ++ mended.all))) (put_none put came sent) judged;
    filled = subst (λ ps. Fills ps (d ∷ mended.all) (d ∷ recorded)) (sym places) (whole d old.places mended.all recorded mended.filled);
    count = omega (arith, count, mended.count);
    goes_on = gave_up ∙ mended.goes_on;
  }

  -- some were
  pub mended_at : (place : Place) → new.places ≡ place ∷ old.places → place.before ≡ old.recorded + 1 → place.came ≡ going In put → place.sent ≡ going Out put
      → 0 < place.came + place.sent → IsMended new h (d ∷ recorded)
  mended_at place places before came sent some = record {
    all = d ∷ (put ++ mended.all);
    judged = judged;
    filled = subst (λ ps. Fills ps (d ∷ (put ++ mended.all)) (d ∷ recorded)) (sym places) (missing d put place old.places mended.all recorded mended.filled (record {
      before = before ∙ ap (λ n. n + 1) mended.count;
      some = put_some put (omega (arith, some, came, sent));
      came = came;
      sent = sent;
    }));
    count = omega (arith, count, mended.count);
    goes_on = gave_up ∙ mended.goes_on;
  }

-- a mender that stands for these datagrams has places at which some are missing
pub are_missing : (m : Mender) (h : Header) (recorded : List Datagram) (places : List Place) → m.places ≡ reverse places → IsMended m h recorded → AreMissing h places (reverse recorded)
are_missing m h recorded places is mended = record {
  all = reverse mended.all;
  lawful = (lawful h (reverse mended.all)).1 (subst (OneEnded h) (sym (reverse-reverse mended.all)) mended.judged.lawful);
  filled = subst (λ ps. Fills ps (reverse (reverse mended.all)) (reverse (reverse recorded))) is
      (subst (λ ds. Fills m.places ds (reverse (reverse recorded))) (sym (reverse-reverse mended.all)) (subst (λ ds. Fills m.places mended.all ds) (sym (reverse-reverse recorded)) mended.filled));
}

-- from one judge to another some were put in, of which so many came in and went out
abbrev pub Puts : Judge → Judge → ℕ → ℕ → Type 0
Puts before now came sent = (h : Header) (all : List Datagram) → IsJudgeAfter before h all
    → (put : List Datagram) × IsJudgeAfter now h (put ++ all) × (came ≡ going In put) × (sent ≡ going Out put)

-- and one more was
pub puts_one : (before now next : Judge) (came sent more_came more_sent : ℕ) (made : Datagram) → Puts before now came sent → ((h : Header) (all : List Datagram) → IsJudgeAfter now h all → IsJudgeAfter next h (made ∷ all))
    → more_came ≡ one_if_same In made.dir + came → more_sent ≡ one_if_same Out made.dir + sent → Puts before next more_came more_sent
puts_one before now next came sent more_came more_sent made puts takes one other h all judged =
    let (put, took, in_all, out_all) = puts h all judged in
    (made ∷ put, takes h (put ++ all) took, one ∙ ap (λ n. one_if_same In made.dir + n) in_all, other ∙ ap (λ n. one_if_same Out made.dir + n) out_all)
