-- Two captures are said to be matched exactly if one run has both.
use Rattle.std.proofs.Common.{◌≡◌, ◌⊎◌, ◌↔◌, inl, inr, ℕ, Bool, false, true≢false, List, Option, Some, Result, Ok, Err, refl, sym, ◌∙◌, subst, None}
use Rattle.tftp_packet.specs.{Client, Server}
use Rattle.tftp_capture.specs.{IsCapture, Numbered}
use Rattle.tftp_capture.specs.CaptureText.Reading.{Capture as Says}
use Rattle.tftp_capture.specs.declared.fault.CaptureFault.TheVariants.{Text, Read, Memory as NoMemory}
use Rattle.tftp_capture.proofs.Beginnings.{capture_begins, capture_has}
use Rattle.tftp_capture.proofs.Readings.{reads_same}
use Rattle.tftp_packet.specs.Hosts.{Header}
use Rattle.law_model.specs.Model.{Meaning}
use Rattle.law_end.specs.{IsLawful}
use Rattle.law_end.proofs.Whole.TwoEnds.{lawful}
use Rattle.tftp_judge.specs.{IsOfText, IsTextVerdict, SaysReadFailed, WantsMemory, unnumbered, IsVerdict, Unlawful, Verdict, Capture, Refused}
use Rattle.tftp_judge.specs.declared.refusal.Refusal.TheVariants.{Memory}
use Rattle.tftp_judge.proofs.OneTextVerdict.{captured_or_faulty, longer_unlawful}
use Rattle.tftp_judge.proofs.OneVerdict.{not_lawful}
use Rattle.tftp_judge.proofs.TextFound.{answers}
use Rattle.law_pair.specs.{AreConsistent}
use Rattle.law_pair.proofs.PairVerdict.{kept_all, lawful_whole, pair_decides}
use Rattle.judge_pair.specs.MatchTexts.{capture_of, IsJudged, IsAllLawful, IsPairSaid, IsPairSaidBy, IsTextFault, SaysMatched}
use Rattle.judge_pair.specs.declared.judge.matched.Matched.{Matched}
use Rattle.judge_pair.specs.declared.match_texts.said.Apart.{Apart}
use Rattle.judge_pair.specs.declared.match_texts.said.Apart.TheVariants.{WrongEnd, Stopped}
use Rattle.judge_pair.proofs.MatchTextsLemmas.Fronts.{has_all}

-- ---- one capture

lawful_capture : (text : List ℕ) (h k : Header) (ds es : List Numbered) → IsCapture text h ds → IsCapture text k es → IsLawful k (unnumbered es) → IsLawful h (unnumbered ds)
lawful_capture text h k ds es one other is = let same = reads_same text (Says k es) (Says h ds) other one in moved same where
  moved : Says k es ≡ Says h ds → IsLawful h (unnumbered ds)
  moved same =
      let a : k ≡ h = cc in
      let b : es ≡ ds = cc in
      subst (λ x. IsLawful x (unnumbered ds)) a (subst (λ l. IsLawful k (unnumbered l)) b is)

all_lawful : (text : List ℕ) (h : Header) (ds : List Numbered) (r : Result Meaning Verdict) → IsCapture text h ds → IsOfText r → IsTextVerdict text r → IsAllLawful r ↔ IsLawful h (unnumbered ds)
all_lawful text h ds (Err (Refused (Unlawful index rule))) capture of (k, es, begins, is) = (
  λ none. absurd none,
  λ lawful.
      let first = capture_has text h k ds es capture begins in
      not_lawful h (unnumbered ds) index rule (longer_unlawful h ds es index rule first.1 (subst (λ x. IsVerdict x (unnumbered es) (Err (Unlawful index rule))) first.0 is)) lawful,
)
all_lawful text h ds (Err (Refused (Memory count))) capture of is = absurd of
all_lawful text h ds (Err (Capture (Text line fault))) capture of is = absurd (captured_or_faulty text h ds is.0.0 line fault capture is.0.1)
all_lawful text h ds (Err (Capture (Read line))) capture of is = absurd of
all_lawful text h ds (Err (Capture (NoMemory line))) capture of is = absurd of
all_lawful text h ds _ capture of (k, es, other, is) = (λ _. lawful_capture text h k ds es capture other is.0, λ _. tt)

not_faulty : (text : List ℕ) (h : Header) (ds : List Numbered) (r : Result Meaning Verdict) → IsCapture text h ds → IsTextVerdict text r → IsTextFault r → ⊥
not_faulty text h ds (Err (Capture (Text line why))) capture is fault = captured_or_faulty text h ds is.0.0 line why capture is.0.1
not_faulty text h ds _ capture is fault = fault

-- a text says nothing of what comes after block 65535
plain_of : (text : List ℕ) (h : Header) (ds : List Numbered) → IsCapture text h ds → h.rollover ≡ None
plain_of text h ds (version, lines, stands) = let (before, are, says) = stands.says in says.plain

-- ---- where numbers do not begin again

pub plain_said : (before after other_before other_after : Option (List ℕ)) (failed other_failed : Bool) (c s : Result Meaning Verdict) (t : Result Matched Apart) → IsPairSaidBy None before after other_before other_after failed other_failed c s t
    → IsPairSaid before after other_before other_after failed other_failed c s t
plain_said before after other_before other_after failed other_failed c s (Ok m) pair = record {
  at_client = pair.at_client;
  at_server = pair.at_server;
  numbers = λ text other is other_is h k ds es has other_has. pair.numbers text other is other_is h k ds es has other_has (unnumbered ds) (unnumbered es) refl refl;
  why = tt;
}
plain_said before after other_before other_after failed other_failed c s (Err why) pair = record { at_client = pair.at_client; at_server = pair.at_server; numbers = tt; why = pair.why }

-- ---- two captures

module _ (before after other_before other_after : Option (List ℕ)) (failed other_failed : Bool) (c s : Result Meaning Verdict) (text other : List ℕ) (is : before ≡ Some text) (other_is : other_before ≡ Some other) (clean : failed ≡ false) (other_clean : other_failed ≡ false)
    (h k : Header) (ds es : List Numbered) (capture : IsCapture text h ds) (other_capture : IsCapture other k es) where
  abbrev Consistent : Type 0
  Consistent = AreConsistent (capture_of h ds) (capture_of k es)

  said : (t : Result Matched Apart) → IsPairSaid before after other_before other_after failed other_failed c s t → IsOfText c → IsOfText s → SaysMatched c s t ↔ Consistent
  said (Ok m) pair of other_of =
      let (named, other_named, verdict, whys, carried) = pair.numbers text other is other_is h k ds es (has_all text h ds capture) (has_all other k es other_capture) in
      let mine = all_lawful text h ds c capture of (pair.at_client.whole text is clean) in
      let theirs = all_lawful other k es s other_capture other_of (pair.at_server.whole other other_is other_clean) in
      let decides = pair_decides (capture_of h ds) (capture_of k es) m.client_lawful m.server_lawful m.client_matched m.server_matched named other_named (plain_of text h ds capture ∙ sym (plain_of other k es other_capture)) verdict in (
        λ matched. decides.1 (record {
          client_lawful = lawful_whole (capture_of h ds) m.client_lawful verdict.client_part ((lawful h (unnumbered ds)).0 (mine.0 matched.0));
          server_lawful = lawful_whole (capture_of k es) m.server_lawful verdict.server_part ((lawful k (unnumbered es)).0 (theirs.0 matched.1));
          client_matched = matched.2.0;
          server_matched = matched.2.1;
        }),
        λ consistent.
            let whole = decides.0 consistent in (
              mine.1 ((lawful h (unnumbered ds)).1 (kept_all (capture_of h ds) m.client_lawful whole.client_lawful verdict.client_part.keeps)),
              theirs.1 ((lawful k (unnumbered es)).1 (kept_all (capture_of k es) m.server_lawful whole.server_lawful verdict.server_part.keeps)),
              (whole.client_matched, whole.server_matched),
            ),
      )
  said (Err (WrongEnd Client)) pair of other_of = (
    λ matched. absurd matched.2,
    λ consistent. let at = consistent.2.at_client in let named = pair.why text is h ds (capture_begins text h ds capture) in let e : Client ≡ Server = sym at ∙ named in absurd (cc),
  )
  said (Err (WrongEnd Server)) pair of other_of = (
    λ matched. absurd matched.2,
    λ consistent. let at = consistent.2.at_server in let named = pair.why other other_is k es (capture_begins other k es other_capture) in let e : Server ≡ Client = sym at ∙ named in absurd (cc),
  )
  said (Err Stopped) pair of other_of = absurd (elim pair.why as (λ _. ⊥) [
    | inl stopped ↦ not_faulty text h ds c capture (pair.at_client.whole text is clean) (stopped of).0
    | inr stopped ↦ not_faulty other k es s other_capture (pair.at_server.whole other other_is other_clean) (stopped other_of).0
  ])

  read_well : (b a : Option (List ℕ)) (f : Bool) (r : Result Meaning Verdict) → IsJudged b a f r → f ≡ false → SaysReadFailed r → ⊥
  read_well b a f r judged none reads = absurd (true≢false (sym (judged.read reads) ∙ none))

  pub says_consistent : (t : Result Matched Apart) → IsPairSaid before after other_before other_after failed other_failed c s t → (SaysMatched c s t ↔ Consistent) ⊎ (WantsMemory c ⊎ WantsMemory s)
  says_consistent t pair = elim (answers c) as (λ _. (SaysMatched c s t ↔ Consistent) ⊎ (WantsMemory c ⊎ WantsMemory s)) [
    | inr (inl reads) ↦ absurd (read_well before after failed c pair.at_client clean reads)
    | inr (inr wants) ↦ inr (inl wants)
    | inl of ↦ elim (answers s) as (λ _. (SaysMatched c s t ↔ Consistent) ⊎ (WantsMemory c ⊎ WantsMemory s)) [
      | inr (inl reads) ↦ absurd (read_well other_before other_after other_failed s pair.at_server other_clean reads)
      | inr (inr wants) ↦ inr (inr wants)
      | inl other_of ↦ inl (said t pair of other_of)
    ]
  ]
