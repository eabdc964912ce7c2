-- The verdict on what a judge was given, and on the text that has just that.
use Rattle.std.proofs.Common.{◌≡◌, ◌⊎◌, inl, inr, ℕ, ◌+◌, List, [], ◌∷◌, ◌++◌, reverse, Option, Some, None, Result, Ok, Err, refl, sym, ap, ◌∙◌, subst, append_assoc, OnOk, IfErr}
use Rattle.std.proofs.lemmas.List.{length-reverse, reverse-append, reverse-reverse}
use Rattle.tftp_capture.specs.{IsCapture, Numbered, numbered, text_with_hosts}
use Rattle.tftp_capture.proofs.Beginnings.{capture_begins}
use Rattle.tftp_capture.proofs.Canonical.{hosts_are_read}
use Rattle.tftp_packet.specs.{End, Rollover}
use Rattle.tftp_packet.specs.Hosts.{Datagram, Header}
use Rattle.law_model.specs.Model.{Meaning}
use Rattle.law_model.specs.Rules.{transfer_of}
use Rattle.law_end.specs.{OneEnded, Passes, FirstBroken, Rule}
use Rattle.law_rollover.specs.{AreUnrolled, IsUnrolled}
use Rattle.tftp_judge.specs.{Refuses, IsJudgeAfter, Judge, IsTextVerdictBy, unnumbered, IsSaid, IsSaidBy, IsVerdict, IsVerdictByRules, Refusal, Unlawful, header_by}
use Rattle.tftp_judge.specs.declared.refusal.Refusal.TheVariants.{Aborted, Incomplete, Memory, NormalTooLong}
use Rattle.tftp_judge.proofs.ByRuns.{verdict}
use Rattle.audit_views.specs.Views.{AreWritten, HasJudged, HasJudgedBy, HoldsOf, IsFoundBy, IsJudgedBy, IsRefusedIn, IsWanting, JudgedBy, StandsBy, of_text}
use Rattle.audit_views.proofs.ViewsLemmas.Numbers.{unrolled_there}

-- ---- one datagram more

-- of one that has refused a datagram
refused_too : (j : Judge) (h : Header) (given : List Datagram) (d : Datagram) (refusal : Refusal) → j.refused ≡ Some refusal → HasJudged j h given → HasJudged j h (d ∷ given)
refused_too j h given d refusal is judged =
    let was : IsRefusedIn h given refusal = subst (λ o. JudgedBy o j h given) is judged in
    subst (λ o. JudgedBy o j h (d ∷ given)) (sym is) (record { later = d ∷ was.later; datagram = was.datagram; earlier = was.earlier; are = ap (λ l. d ∷ l) was.are; lawful = was.lawful; refused = was.refused })

module _ (old new : Judge) (h : Header) (given : List Datagram) (d : Datagram) (result : Result (Unit {0}) Refusal)
    (accepts : IsJudgeAfter old h given → OnOk result (Passes h given d × IsJudgeAfter new h (d ∷ given)))
    (refuses : IsJudgeAfter old h given → IfErr result (Refuses h given d))
    (keeps : IfErr result (λ refusal. new.refused ≡ Some refusal))
    (for_good : (refusal : Refusal) → old.refused ≡ Some refusal → (result ≡ Err refusal) × (new ≡ old))
    (goes_on : old.refused ≡ None → OnOk result (new.refused ≡ None)) where
  refused_before : (refusal : Refusal) → old.refused ≡ Some refusal → HasJudged old h given → HasJudged new h (d ∷ given)
  refused_before refusal is judged = subst (λ (j : Judge). HasJudged j h (d ∷ given)) (sym (for_good refusal is).1) (refused_too old h given d refusal is judged)

  fed_now : (r : Result (Unit {0}) Refusal) → OnOk r (Passes h given d × IsJudgeAfter new h (d ∷ given)) → IfErr r (Refuses h given d) → IfErr r (λ refusal. new.refused ≡ Some refusal)
      → OnOk r (new.refused ≡ None) → OneEnded h given → HasJudged new h (d ∷ given)
  fed_now (Ok u) after none kept on lawful = subst (λ o. JudgedBy o new h (d ∷ given)) (sym on) after.1
  fed_now (Err refusal) none is kept on lawful = subst (λ o. JudgedBy o new h (d ∷ given)) (sym kept) (record { later = []; datagram = d; earlier = given; are = refl; lawful = lawful; refused = is })

  pub given_more : HasJudged old h given → HasJudged new h (d ∷ given)
  given_more = by old.refused refl where
    by : (o : Option Refusal) → old.refused ≡ o → JudgedBy o old h given → HasJudged new h (d ∷ given)
    by None is after = fed_now result (accepts after) (refuses after) keeps (goes_on is) after.lawful
    by (Some refusal) is was = refused_before refusal is (subst (λ o. JudgedBy o old h given) (sym is) was)

-- what has refused nothing stands for all that it was given
pub stands_for : (j : Judge) (h : Header) (given : List Datagram) → j.refused ≡ None → HasJudged j h given → IsJudgeAfter j h given
stands_for j h given none judged = subst (λ o. JudgedBy o j h given) none judged

-- ---- the verdict

newest_last : (later earlier : List Datagram) (d : Datagram) → reverse (later ++ d ∷ earlier) ≡ reverse earlier ++ d ∷ reverse later
newest_last later earlier d = reverse-append later (d ∷ earlier) ∙ ap (λ l. l ++ reverse later) (reverse-append (d ∷ []) earlier) ∙ append_assoc (reverse earlier) (d ∷ []) (reverse later)

module _ (h : Header) (given : List Datagram) where
  by_rules : (index : ℕ) (rule : Rule) → IsRefusedIn h given (Unlawful index rule) → IsVerdictByRules h (reverse given) (Err (Unlawful index rule))
  by_rules index rule at = record {
    before = reverse at.earlier;
    datagram = at.datagram;
    rest = reverse at.later;
    split = ap reverse at.are ∙ newest_last at.later at.earlier at.datagram;
    index_is = at.refused.0 ∙ ap (λ n. n + 1) (sym (length-reverse at.earlier));
    lawful = subst (OneEnded h) (sym (reverse-reverse at.earlier)) at.lawful;
    unlawful = λ legal. (subst (OneEnded h) whole legal).0.lawful rule at.refused.1.0;
    broken = subst (λ l. FirstBroken h l at.datagram rule) (sym (reverse-reverse at.earlier)) at.refused.1;
  }
    where
      whole : reverse (reverse at.earlier ++ at.datagram ∷ []) ≡ at.datagram ∷ at.earlier
      whole = reverse-append (reverse at.earlier) (at.datagram ∷ []) ∙ ap (λ l. at.datagram ∷ l) (reverse-reverse at.earlier)

  refused_verdict : (refusal : Refusal) → IsRefusedIn h given refusal → IsSaid (Err refusal) → IsVerdict h (reverse given) (Err refusal)
  refused_verdict (Unlawful index rule) at said = (verdict h (reverse given) (Err (Unlawful index rule))).1 (by_rules index rule at)
  refused_verdict (Memory count) at said = absurd said
  refused_verdict _ at said = absurd at.refused

  pub finished : (j : Judge) (said : Result Meaning Refusal) → (IsJudgeAfter j h given → IsVerdict h (reverse given) said) → ((refusal : Refusal) → j.refused ≡ Some refusal → said ≡ Err refusal)
      → HasJudged j h given → IsSaid said → IsVerdict h (reverse given) said
  finished j said is for_good = by j.refused refl where
    by : (o : Option Refusal) → j.refused ≡ o → JudgedBy o j h given → IsSaid said → IsVerdict h (reverse given) said
    by None none after of = is after
    by (Some refusal) was at of = let same = for_good refusal was in
        subst (IsVerdict h (reverse given)) (sym same) (refused_verdict refusal at (subst IsSaid same of))

  -- memory ran out for one of them, or in the end
  pub wanting : (count : ℕ) (j : Judge) (said : Result Meaning Refusal) → (IsJudgeAfter j h given → IsVerdict h (reverse given) said) → ((refusal : Refusal) → j.refused ≡ Some refusal → said ≡ Err refusal)
      → HasJudged j h given → said ≡ Err (Memory count) → IsRefusedIn h given (Memory count) ⊎ IsVerdict h (reverse given) (Err (Memory count))
  wanting count j said is for_good has none = by j.refused refl has where
    by : (o : Option Refusal) → j.refused ≡ o → JudgedBy o j h given → IsRefusedIn h given (Memory count) ⊎ IsVerdict h (reverse given) (Err (Memory count))
    by None going after = inr (subst (IsVerdict h (reverse given)) none (is after))
    by (Some refusal) was at =
        let both : Err refusal ≡ Err (Memory count) = sym (for_good refusal was) ∙ none in
        let this : refusal ≡ Memory count = cc in
        inl (subst (IsRefusedIn h given) this at)

-- ---- numbers that begin again

-- what a judge is given by a rollover, of which it accepts or refuses what each datagram is taken for
module _ (r : Rollover) (old new : Judge) (h : Header) (given : List Datagram) (d : Datagram) (result : Result (Unit {0}) Refusal)
    (accepts : (k : Header) (taken : List Datagram) (now : Datagram) → IsJudgeAfter old k taken → IsUnrolled r (transfer_of k taken) d now → OnOk result (Passes k taken now × IsJudgeAfter new k (now ∷ taken)))
    (refuses : (k : Header) (taken : List Datagram) (now : Datagram) → IsJudgeAfter old k taken → IsUnrolled r (transfer_of k taken) d now → IfErr result (Refuses k taken now))
    (keeps : IfErr result (λ refusal. new.refused ≡ Some refusal))
    (for_good : (refusal : Refusal) → old.refused ≡ Some refusal → (result ≡ Err refusal) × (new ≡ old))
    (goes_on : old.refused ≡ None → OnOk result (new.refused ≡ None)) where
  pub numbered_more : HasJudgedBy (Some r) old h given → HasJudgedBy (Some r) new h (d ∷ given)
  numbered_more (taken, are, judged) =
      let k = header_by (Some r) h in
      let (now, is) = unrolled_there r (transfer_of k taken) d in
      (now ∷ taken, (is, are), given_more old new k taken now result (λ after. accepts k taken now after is) (λ after. refuses k taken now after is) keeps for_good goes_on judged)

-- it goes on for good with what it has refused
still_refused : (j : Judge) (refusal : Refusal) → j.refused ≡ Some refusal → (rollover : Option Rollover) (h : Header) (given : List Datagram) (d : Datagram) → HasJudgedBy rollover j h given → HasJudgedBy rollover j h (d ∷ given)
still_refused j refusal is rollover h given d = by rollover where
  more : (k : Header) (taken : List Datagram) (now : Datagram) → HasJudged j k taken → HasJudged j k (now ∷ taken)
  more k taken now judged = refused_too j k taken now refusal is judged

  by : (o : Option Rollover) → HasJudgedBy o j h given → HasJudgedBy o j h (d ∷ given)
  by None judged = more h given d judged
  by (Some r) (taken, are, judged) =
      let k = header_by (Some r) h in
      let (now, is_now) = unrolled_there r (transfer_of k taken) d in
      (now ∷ taken, (is_now, are), more k taken now judged)

-- the header of the text says of which rollover it stands
kept_header : (rollover : Option Rollover) (j : Judge) (h : Header) (given : List Datagram) → j.refused ≡ None → HasJudgedBy rollover j h given → j.state.header ≡ header_by rollover h
kept_header None j h given none judged = (stands_for j h given none judged).has_kept.header
kept_header (Some r) j h given none (taken, are, judged) = (stands_for j (header_by (Some r) h) taken none judged).has_kept.header

own_rollover : (rollover : Option Rollover) (h : Header) → h.rollover ≡ None → (header_by rollover h).rollover ≡ rollover
own_rollover None h plain = plain
own_rollover (Some r) h plain = refl

-- what stands by one rollover stands by no other
module _ (own : Option Rollover) (old new : Judge) (d : Datagram) (stands : StandsBy own old)
    (gives : (h : Header) (given : List Datagram) → HasJudgedBy own old h given → HasJudgedBy own new h (d ∷ given))
    (for_good : (refusal : Refusal) → old.refused ≡ Some refusal → new ≡ old) where
  going_on : (rollover : Option Rollover) (h : Header) (given : List Datagram) → h.rollover ≡ None → old.refused ≡ None → HasJudgedBy rollover old h given → HasJudgedBy rollover new h (d ∷ given)
  going_on rollover h given plain none judged =
      let one = stands none in
      let same : own ≡ rollover = sym (own_rollover own one.0 one.2) ∙ ap (λ (k : Header). k.rollover) (sym (kept_header own old one.0 one.1 none one.3) ∙ kept_header rollover old h given none judged) ∙ own_rollover rollover h plain in
      subst (λ o. HasJudgedBy o new h (d ∷ given)) same (gives h given (subst (λ o. HasJudgedBy o old h given) (sym same) judged))

  pub given_by : (rollover : Option Rollover) (h : Header) (given : List Datagram) → h.rollover ≡ None → HasJudgedBy rollover old h given → HasJudgedBy rollover new h (d ∷ given)
  given_by rollover h given plain judged = by old.refused refl where
    by : (o : Option Refusal) → old.refused ≡ o → HasJudgedBy rollover new h (d ∷ given)
    by None none = going_on rollover h given plain none judged
    by (Some refusal) is = subst (λ (j : Judge). HasJudgedBy rollover j h (d ∷ given)) (sym (for_good refusal is)) (still_refused old refusal is rollover h given d judged)

  pub stands_on : StandsBy own new
  stands_on goes = by old.refused refl where
    by : (o : Option Refusal) → old.refused ≡ o → (h : Header) × (given : List Datagram) × (h.rollover ≡ None) × HasJudgedBy own new h given
    by None none = let one = stands none in (one.0, d ∷ one.1, one.2, gives one.0 one.1 one.3)
    by (Some refusal) is = let both : Some refusal ≡ None = sym is ∙ ap (λ (j : Judge). j.refused) (sym (for_good refusal is)) ∙ goes in absurd (cc)

-- before any datagram
pub begins_by : (rollover : Option Rollover) (j : Judge) (named : End) (service : ℕ) → HasJudged j (record { named = named; service = service; rollover = rollover }) []
    → HasJudgedBy rollover j (record { named = named; service = service; rollover = None }) []
begins_by None j named service judged = judged
begins_by (Some r) j named service judged = ([], tt, judged)

pub stands_new : (h : Header) (j : Judge) → IsJudgeAfter j h [] → StandsBy h.rollover j
stands_new h j after none = (record { named = h.named; service = h.service; rollover = None }, [], refl, begins_by h.rollover j h.named h.service (subst (λ o. JudgedBy o j h []) (sym none) after))

-- ---- what holds of what the datagrams are taken for

pub holds_of : (rollover : Option Rollover) (One Other : Header → List Datagram → Type 0) (h : Header) (given : List Datagram) → ((k : Header) (taken : List Datagram) → One k taken → Other k taken)
    → HoldsOf rollover One h given → HoldsOf rollover Other h given
holds_of None One Other h given so holds = so h given holds
holds_of (Some r) One Other h given so (taken, are, holds) = (taken, are, so (header_by (Some r) h) taken holds)

-- of the oldest first
pub said_by : (rollover : Option Rollover) (said : Result Meaning Refusal) (h : Header) (given : List Datagram) → HoldsOf rollover (λ k taken. IsVerdict k (reverse taken) said) h given → IsSaidBy rollover said h (reverse given)
said_by None said h given is = is
said_by (Some r) said h given (taken, are, is) = (
  reverse taken,
  subst (λ l. AreUnrolled r (header_by (Some r) h) l (reverse (reverse taken))) (sym (reverse-reverse given)) (subst (AreUnrolled r (header_by (Some r) h) given) (sym (reverse-reverse taken)) are),
  is,
)

-- ---- the text

without_numbers : (n : ℕ) (ds : List Datagram) → unnumbered (numbered n ds) ≡ ds
without_numbers n [] = refl
without_numbers n (d ∷ ds) = ap (λ l. d ∷ l) (without_numbers (n + 1) ds)

-- a text of a capture has the verdict of its datagrams
module _ (rollover : Option Rollover) (text : List ℕ) (h : Header) (ds : List Numbered) (capture : IsCapture text h ds) where
  pub text_verdict : (said : Result Meaning Refusal) → IsSaid said → IsSaidBy rollover said h (unnumbered ds) → IsTextVerdictBy rollover text (of_text said)
  text_verdict (Err (Unlawful index rule)) of is = (h, ds, capture_begins text h ds capture, is)
  text_verdict (Err (Memory count)) of is = absurd of
  text_verdict _ of is = (h, ds, capture, is)

pub said_of_text : (rollover : Option Rollover) (h : Header) (given : List Datagram) (said : Result Meaning Refusal) → AreWritten h given → IsSaid said → IsSaidBy rollover said h (reverse given)
    → IsTextVerdictBy rollover (text_with_hosts h (reverse given)) (of_text said)
said_of_text rollover h given said written of is =
    let ds = reverse given in
    text_verdict rollover (text_with_hosts h ds) h (numbered 4 ds) (hosts_are_read h ds written.service written.plain written.lawful written.short) said of
    (subst (λ l. IsSaidBy rollover said h l) (sym (without_numbers 4 ds)) is)

judged_so : (rollover : Option Rollover) (h : Header) (given : List Datagram) (said : Result Meaning Refusal) → IsSaid said → IsSaidBy rollover said h (reverse given) → IsJudgedBy rollover h given said
judged_so rollover h given said of is = record { verdict = is; text = λ written. said_of_text rollover h given said written of is }

pub judged_with : (rollover : Option Rollover) (h : Header) (given : List Datagram) (said : Result Meaning Refusal) → (IsSaid said → IsSaidBy rollover said h (reverse given))
    → ((count : ℕ) → said ≡ Err (Memory count) → IsWanting rollover h given count) → IsFoundBy rollover h given said
judged_with rollover h given (Ok m) is wants = judged_so rollover h given (Ok m) tt (is tt)
judged_with rollover h given (Err (Memory count)) is wants = wants count refl
judged_with rollover h given (Err (Unlawful index rule)) is wants = judged_so rollover h given (Err (Unlawful index rule)) tt (is tt)
judged_with rollover h given (Err (Aborted end code)) is wants = judged_so rollover h given (Err (Aborted end code)) tt (is tt)
judged_with rollover h given (Err (Incomplete count)) is wants = judged_so rollover h given (Err (Incomplete count)) tt (is tt)
judged_with rollover h given (Err NormalTooLong) is wants = judged_so rollover h given (Err NormalTooLong) tt (is tt)
