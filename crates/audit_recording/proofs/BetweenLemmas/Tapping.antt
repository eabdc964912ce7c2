-- What a tap's judge stands for after one datagram more, and the verdict on what it was given.
use Rattle.std.proofs.Common.{◌≡◌, List, [], ◌∷◌, Option, Some, None, Result, Ok, Err, refl, sym, ap, ◌∙◌, subst, inl, inr, OnOk, IfErr}
use Rattle.law_model.specs.Model.{Meaning}
use Rattle.tftp_packet.specs.{Rollover}
use Rattle.law_tap.specs.{TapDatagram, TapSides, BreaksNoTapRule, IsUnrolledBetween, TapPasses, transfer_between}
use Rattle.judge_tap.specs.{IsTapJudge, TapJudge, RefusesAtTap, IsTapVerdict, TapRefusal, Unlawful}
use Rattle.judge_tap.specs.declared.refusal.TapRefusal.TheVariants.{Memory}
use Rattle.audit_recording.specs.Between.{HasTapped, HasTappedBy, IsBetweenFoundBy, IsBetweenVerdict, IsTapRefusedIn, TappedBy, sides_by}
use Rattle.audit_recording.proofs.BetweenLemmas.Numbering.{holds_more, unrolled_there}

-- ---- none yet

pub tapped_new : (j : TapJudge) (s : TapSides) → IsTapJudge j s [] → HasTappedBy s.rollover j s []
tapped_new j s after = by s.rollover refl where
  by : (o : Option Rollover) → s.rollover ≡ o → HasTappedBy o j s []
  by None is = subst (λ refused. TappedBy refused j s []) (sym after.goes_on) after
  by (Some r) is =
      let k : TapSides = sides_by (Some r) s in
      ([], tt, subst (λ refused. TappedBy refused j k []) (sym after.goes_on) (subst (λ o. IsTapJudge j (sides_by o s) []) is after))

-- ---- one datagram more

module _ (old new : TapJudge) (s : TapSides) (given : List TapDatagram) (d : TapDatagram) (result : Result (Unit {0}) TapRefusal)
    (accepts : IsTapJudge old s given → OnOk result (TapPasses s given d × IsTapJudge new s (d ∷ given)))
    (refuses : IsTapJudge old s given → IfErr result (RefusesAtTap s given d))
    (keeps : IfErr result (λ refusal. new.refused ≡ Some refusal))
    (for_good : (refusal : TapRefusal) → old.refused ≡ Some refusal → (result ≡ Err refusal) × (new ≡ old))
    (goes_on : old.refused ≡ None → OnOk result (new.refused ≡ None)) where
  refused_before : (refusal : TapRefusal) → old.refused ≡ Some refusal → IsTapRefusedIn s given refusal → HasTapped new s (d ∷ given)
  refused_before refusal is was =
      let same : new.refused ≡ Some refusal = ap (λ (j : TapJudge). j.refused) (for_good refusal is).1 ∙ is in
      subst (λ o. TappedBy o new s (d ∷ given)) (sym same) (record { later = d ∷ was.later; datagram = was.datagram; earlier = was.earlier; are = ap (λ l. d ∷ l) was.are; lawful = was.lawful; refused = was.refused })

  fed_now : (r : Result (Unit {0}) TapRefusal) → OnOk r (TapPasses s given d × IsTapJudge new s (d ∷ given)) → IfErr r (RefusesAtTap s given d) → IfErr r (λ refusal. new.refused ≡ Some refusal)
      → OnOk r (new.refused ≡ None) → BreaksNoTapRule s given → HasTapped new s (d ∷ given)
  fed_now (Ok u) after none kept on lawful = subst (λ o. TappedBy o new s (d ∷ given)) (sym on) after.1
  fed_now (Err refusal) none is kept on lawful = subst (λ o. TappedBy o new s (d ∷ given)) (sym kept) (record { later = []; datagram = d; earlier = given; are = refl; lawful = lawful; refused = is })

  pub given_more : HasTapped old s given → HasTapped new s (d ∷ given)
  given_more = by old.refused refl where
    by : (o : Option TapRefusal) → old.refused ≡ o → TappedBy o old s given → HasTapped new s (d ∷ given)
    by None is after = fed_now result (accepts after) (refuses after) keeps (goes_on is) after.lawful
    by (Some refusal) is was = refused_before refusal is was

-- what was refused stays refused, and what comes after it is not looked at
pub rests_more : (j : TapJudge) (s : TapSides) (given : List TapDatagram) (d : TapDatagram) (refusal : TapRefusal) → j.refused ≡ Some refusal → HasTapped j s given → HasTapped j s (d ∷ given)
rests_more j s given d refusal is tapped =
    let was : IsTapRefusedIn s given refusal = subst (λ o. TappedBy o j s given) is tapped in
    subst (λ o. TappedBy o j s (d ∷ given)) (sym is) (record { later = d ∷ was.later; datagram = was.datagram; earlier = was.earlier; are = ap (λ l. d ∷ l) was.are; lawful = was.lawful; refused = was.refused })

-- the same by a rollover
pub rests_more_by : (rollover : Option Rollover) (j : TapJudge) (s : TapSides) (given : List TapDatagram) (d : TapDatagram) (refusal : TapRefusal) → j.refused ≡ Some refusal → HasTappedBy rollover j s given → HasTappedBy rollover j s (d ∷ given)
rests_more_by None j s given d refusal is tapped = rests_more j s given d refusal is tapped
rests_more_by (Some r) j s given d refusal is (taken, are, tapped) =
    let k = sides_by (Some r) s in
    let (now, is_now) = unrolled_there r (transfer_between k taken) d in
    (now ∷ taken, (is_now, are), rests_more j k taken now refusal is tapped)

-- ---- numbers that begin again

-- what a judge is given by a rollover, of which it accepts or refuses what each datagram is taken for
module _ (r : Rollover) (old new : TapJudge) (s : TapSides) (given : List TapDatagram) (d : TapDatagram) (result : Result (Unit {0}) TapRefusal)
    (accepts : (k : TapSides) (taken : List TapDatagram) (now : TapDatagram) → IsTapJudge old k taken → IsUnrolledBetween r (transfer_between k taken) d now → OnOk result (TapPasses k taken now × IsTapJudge new k (now ∷ taken)))
    (refuses : (k : TapSides) (taken : List TapDatagram) (now : TapDatagram) → IsTapJudge old k taken → IsUnrolledBetween r (transfer_between k taken) d now → IfErr result (RefusesAtTap k taken now))
    (keeps : IfErr result (λ refusal. new.refused ≡ Some refusal))
    (for_good : (refusal : TapRefusal) → old.refused ≡ Some refusal → (result ≡ Err refusal) × (new ≡ old))
    (goes_on : old.refused ≡ None → OnOk result (new.refused ≡ None)) where
  pub numbered_more : HasTappedBy (Some r) old s given → HasTappedBy (Some r) new s (d ∷ given)
  numbered_more (taken, are, tapped) =
      let k = sides_by (Some r) s in
      let (now, is) = unrolled_there r (transfer_between k taken) d in
      (now ∷ taken, (is, are), given_more old new k taken now result (λ after. accepts k taken now after is) (λ after. refuses k taken now after is) keeps for_good goes_on tapped)

-- ---- the verdict

module _ (s : TapSides) (given : List TapDatagram) where
  as_whole : (said : Result Meaning TapRefusal) → IsTapVerdict s given said → IsBetweenVerdict s given said
  as_whole (Err (Unlawful index rule stands)) is = absurd is
  as_whole (Err (Memory count)) is = inr is
  as_whole _ is = is

  as_refused : (refusal : TapRefusal) → IsTapRefusedIn s given refusal → IsBetweenVerdict s given (Err refusal)
  as_refused (Unlawful index rule stands) at = at
  as_refused (Memory count) at = inl at
  as_refused _ at = absurd at.refused

  pub finished : (j : TapJudge) (said : Result Meaning TapRefusal) → (IsTapJudge j s given → IsTapVerdict s given said) → ((refusal : TapRefusal) → j.refused ≡ Some refusal → said ≡ Err refusal)
      → HasTapped j s given → IsBetweenVerdict s given said
  finished j said is for_good = by j.refused refl where
    by : (o : Option TapRefusal) → j.refused ≡ o → TappedBy o j s given → IsBetweenVerdict s given said
    by None none after = as_whole said (is after)
    by (Some refusal) was at = subst (IsBetweenVerdict s given) (sym (for_good refusal was)) (as_refused refusal at)

-- the same by a rollover
pub finished_by : (rollover : Option Rollover) (s : TapSides) (given : List TapDatagram) (j : TapJudge) (said : Result Meaning TapRefusal)
    → ((k : TapSides) (taken : List TapDatagram) → IsTapJudge j k taken → IsTapVerdict k taken said) → ((refusal : TapRefusal) → j.refused ≡ Some refusal → said ≡ Err refusal)
    → HasTappedBy rollover j s given → IsBetweenFoundBy rollover s given said
finished_by rollover s given j said is for_good tapped =
    holds_more rollover (HasTapped j) (λ k taken. IsBetweenVerdict k taken said) s given (λ k taken. finished k taken j said (is k taken) for_good) tapped
