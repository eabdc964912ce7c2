-- Where a row accuses, it tells what is refused, and lists no reason. Lists have the newest first.
use Rattle.std.proofs.Common.{◌≡◌, ◌+◌, ℕ, length, Bool, true, false, List, [], ◌∷◌, ◌++◌, Option, Some, None, Result, Ok, Err, filter, map, refl, sym, ap, subst, ◌∙◌}
use Rattle.std.specs.Prelude.{option_map, reverse}
use Rattle.tftp_packet.specs.{Rollover}
use Rattle.tftp_packet.specs.Hosts.{Datagram, Header}
use Rattle.law_model.specs.Model.{Meaning}
use Rattle.law_end.specs.{IsRefused, Rule}
use Rattle.tftp_judge.specs.{IsVerdict, Refusal}
use Rattle.tftp_judge.specs.declared.refusal.Refusal.TheVariants as refusal
use Rattle.law_tap.specs.{FirstTapBroken, TapDatagram}
use Rattle.judge_tap.specs.{TapRefusal}
use Rattle.judge_tap.specs.declared.refusal.TapRefusal.TheVariants as tap
use Rattle.audit_flows.specs.Lines.{Placed, is_of}
use Rattle.audit_flows.specs.{Transfer}
use Rattle.audit_views.specs.Views.{IsFoundBy}
use Rattle.audit_recording.specs.{Accused, Telling}
use Rattle.audit_recording.specs.Between.{IsBetweenVerdict, between_capture, passed_of, sides_of}
use Rattle.audit_recording.specs.Blame.Facts.{blamed_of, refused_between, refused_in}
use Rattle.audit_recording.specs.Blame.Frames.{Carried, Framed, is_seen, seen_as, whole_of}
use Rattle.audit_recording.specs.Reasons.Listed.{reasons_of, where_so}
use Rattle.audit_recording.specs.Rows.Told.{telling_depends}
use Rattle.audit_recording.specs.declared.blame.blame.Blamed.{Blamed}
use Rattle.audit_recording.specs.declared.blame.doubted.Doubted.{Doubted}
use Rattle.audit_recording.specs.declared.blame.reason.Reason.{Reason}
use Rattle.audit_recording.specs.declared.blame.reason.Reason.TheVariants.{Unplaced, Unseen, SpeaksFirst, GoesOver, Stranger}
use Rattle.audit_recording.specs.declared.rows.row.Point.{Point}
use Rattle.audit_recording.specs.declared.rows.row.Point.TheVariants as point
use Rattle.audit_recording.specs.declared.rows.said.Said.{Said}
use Rattle.audit_recording.specs.declared.rows.said.Said.TheVariants.{Refused}
use Rattle.audit_rows.specs.Accusing.{accused_of_row}
use Rattle.audit_rows.specs.Doubting.{goes_over, is_spoken_first, is_strangers, is_unseen, reasons_told, refusal_reasons, row_reasons}
use Rattle.audit_rows.specs.Viewing.{IsFoundAt, number_in, said_by}
use Rattle.audit_rows.specs.declared.found.Found.{Found}
use Rattle.audit_rows.specs.declared.found.Found.TheVariants.{AtEnd, Between}
use Rattle.audit_rows.specs.declared.viewed.Viewed.{Viewed}
use Rattle.audit_rows.proofs.Behind.{there}
use Rattle.audit_rows.proofs.First.{IsOf, of_verdict}
use Rattle.audit_rows.proofs.Named.{IsNamed, named_by}
use Rattle.audit_rows.proofs.Sent.{IsSent, sent}
use Rattle.audit_cleared.specs.Accusing.{TellsOf}

-- ---- no reason

no_left : {A : Type 0} (xs ys : List A) → xs ++ ys ≡ [] → xs ≡ []
no_left [] ys is = refl
no_left (x ∷ xs) ys is = absurd (cc)

no_right : {A : Type 0} (xs ys : List A) → xs ++ ys ≡ [] → ys ≡ []
no_right [] ys is = is
no_right (x ∷ xs) ys is = absurd (cc)

not_so : (reason : Reason) (holds : Bool) → where_so reason holds ≡ [] → holds ≡ false
not_so reason true is = absurd (cc)
not_so reason false is = refl

pub record IsUnlisted (x : Transfer) (whole : List Placed) (d : Doubted) (t : Telling) (b : Blamed) : Type 0 where
  pub unseen : is_unseen t b ≡ false
  pub spoken : is_spoken_first t b ≡ false
  pub over : goes_over x t b ≡ false
  pub division : reasons_of whole d b ≡ []

unlisted : (x : Transfer) (whole : List Placed) (d : Doubted) (t : Telling) (b : Blamed) → refusal_reasons x whole d t b ≡ [] → IsUnlisted x whole d t b
unlisted x whole d t b none =
    let unseen = where_so Unplaced (telling_depends t) ++ where_so Unseen (is_unseen t b) in
    let spoken = unseen ++ where_so SpeaksFirst (is_spoken_first t b) in
    let over = spoken ++ where_so GoesOver (goes_over x t b) in
    let strangers = over ++ where_so Stranger (is_strangers x whole b) in
    let no_strangers = no_left strangers (reasons_of whole d b) none in
    let no_over = no_left over (where_so Stranger (is_strangers x whole b)) no_strangers in
    let no_spoken = no_left spoken (where_so GoesOver (goes_over x t b)) no_over in
    let no_unseen = no_left unseen (where_so SpeaksFirst (is_spoken_first t b)) no_spoken in
    record {
      unseen = not_so Unseen (is_unseen t b) (no_right (where_so Unplaced (telling_depends t)) (where_so Unseen (is_unseen t b)) no_unseen);
      spoken = not_so SpeaksFirst (is_spoken_first t b) (no_right unseen (where_so SpeaksFirst (is_spoken_first t b)) no_spoken);
      over = not_so GoesOver (goes_over x t b) (no_right spoken (where_so GoesOver (goes_over x t b)) no_over);
      division = no_right strangers (reasons_of whole d b) none;
    }

-- of a refusal that is told
told_unlisted : (x : Transfer) (whole : List Placed) (d : Doubted) (t : Telling) (v : Viewed) (rule : Rule) (frame : Option ℕ) (b : Blamed)
    → t.said ≡ Refused rule frame → v.blamed ≡ Some b → row_reasons x whole d t v ≡ [] → IsUnlisted x whole d t b
told_unlisted x whole d t v rule frame b said blamed none = unlisted x whole d t b
    (ap (λ (s : Said). reasons_told x whole d t v s (Some b)) (sym said) ∙ ap (λ (o : Option Blamed). reasons_told x whole d t v t.said o) (sym blamed) ∙ none)

-- ---- what an end refuses

record IsRefusalOf (h : Header) (given : List Datagram) (number : ℕ) (said : Result Meaning Refusal) : Type 0 where
  rule : Rule
  is : said ≡ Err (refusal.Unlawful number rule)
  of : IsOf h given number rule

refusal_of : (h : Header) (given : List Datagram) (number : ℕ) (said : Result Meaning Refusal) → IsFoundBy None h given said → refused_in said ≡ Some number → IsRefusalOf h given number said
refusal_of h given number (Ok m) found is = let none : None ≡ Some number = is in absurd (cc)
refusal_of h given number (Err (refusal.Unlawful k rule)) found is =
    let same : k ≡ number = cc in
    record {
      rule = rule;
      is = ap (λ (j : ℕ). Err (refusal.Unlawful j rule)) same;
      of = of_verdict h given number rule (subst (λ j. IsVerdict h (reverse given) (Err (refusal.Unlawful j rule))) same found.verdict);
    }
refusal_of h given number (Err (refusal.Aborted end code)) found is = let none : None ≡ Some number = is in absurd (cc)
refusal_of h given number (Err (refusal.Incomplete count)) found is = let none : None ≡ Some number = is in absurd (cc)
refusal_of h given number (Err refusal.NormalTooLong) found is = let none : None ≡ Some number = is in absurd (cc)
refusal_of h given number (Err (refusal.Memory count)) found is = let none : None ≡ Some number = is in absurd (cc)

-- ---- the datagram that a row accuses of

module _ (at : Point) (h : Header) (x : Transfer) (carried : List Carried) (capture : Placed → Datagram) (d : Doubted) (t : Telling) (v : Viewed) where
  abbrev whole : List Placed
  whole = whole_of [] carried

  abbrev there_seen : Placed → Bool
  there_seen = is_seen at x.number whole

  -- It was seen there, and is refused after those before it; and no reason is listed.
  pub record IsAccusedOf : Type 0 where
    pub blamed : Blamed
    pub framed : Framed
    pub rule : Rule
    pub newer : List Placed
    pub is : blamed ≡ blamed_of x framed
    pub parts : whole ≡ newer ++ framed.placed ∷ framed.before
    pub seen : there_seen framed.placed ≡ true
    pub refused : IsRefused h (map capture (filter there_seen framed.before)) (capture framed.placed) rule
    pub unlisted : IsUnlisted x whole d t blamed

  pub accused_of : ((said : Result Meaning Refusal) → IsFoundAt None at x whole (AtEnd said) → IsFoundBy None h (map capture (filter there_seen whole)) said)
      → ((said : Result Meaning TapRefusal) → IsFoundAt None at x whole (Between said) → ⊥)
      → TellsOf at x carried d t v → (a : Accused) → accused_of_row x whole t v.blamed (row_reasons x whole d t v) ≡ Some a → IsAccusedOf
  accused_of end between tells a is = by v.found refl (subst (λ (o : Option Rollover). IsFoundAt o at x whole v.found) tells.view.0 tells.view.1.found) where
    s : IsSent x whole t v.blamed (row_reasons x whole d t v) a
    s = sent x whole t v.blamed (row_reasons x whole d t v) a is

    n : IsNamed at x [] carried (number_in v.found) s.datagram
    n = named_by at x [] carried v s.datagram tells.view.1 s.blamed

    by : (found : Found) → v.found ≡ found → IsFoundAt None at x whole found → IsAccusedOf
    by (Between said) e found = absurd (between said found)
    by (AtEnd said) e found =
        let r = refusal_of h (map capture (filter there_seen whole)) n.number said (end said found) (ap number_in (sym e) ∙ n.refuses) in
        let it = r.of in
        let th = there there_seen [] capture carried n.number it.later it.datagram it.earlier it.are it.number_is n.datagram n.seen in
        let frame = option_map (λ (b : Blamed). b.frame) v.blamed in
        let told : t.said ≡ Refused r.rule frame = tells.said ∙ ap (λ (f : Found). said_by f frame) (e ∙ ap AtEnd r.is) in
        record {
          blamed = s.datagram;
          framed = n.datagram;
          rule = r.rule;
          newer = th.newer;
          is = n.is;
          parts = th.whole;
          seen = th.passes;
          refused = subst (λ l. IsRefused h l (capture n.datagram.placed) r.rule) th.before (subst (λ q. IsRefused h it.earlier q r.rule) th.this it.refused);
          unlisted = told_unlisted x whole d t v r.rule frame s.datagram told s.blamed s.sure;
        }

-- ---- the same between the ends

record IsTapRefusalOf (x : Transfer) (given : List TapDatagram) (all : List Placed) (number : ℕ) (said : Result Meaning TapRefusal) : Type 0 where
  rule : Rule
  stands : Option Bool
  is : said ≡ Err (tap.Unlawful number rule stands)
  later : List TapDatagram
  datagram : TapDatagram
  earlier : List TapDatagram
  are : given ≡ later ++ datagram ∷ earlier
  at : number ≡ length earlier + 1
  broken : FirstTapBroken (sides_of x all) earlier datagram rule

tap_refusal_of : (x : Transfer) (given : List TapDatagram) (all : List Placed) (number : ℕ) (said : Result Meaning TapRefusal) → IsBetweenVerdict (sides_of x all) given said → refused_between said ≡ Some number
    → IsTapRefusalOf x given all number said
tap_refusal_of x given all number (Ok m) found is = let none : None ≡ Some number = is in absurd (cc)
tap_refusal_of x given all number (Err (tap.Unlawful k rule stands)) found is =
    let same : k ≡ number = cc in
    record {
      rule = rule;
      stands = stands;
      is = ap (λ (j : ℕ). Err (tap.Unlawful j rule stands)) same;
      later = found.later;
      datagram = found.datagram;
      earlier = found.earlier;
      are = found.are;
      at = sym same ∙ found.refused.0;
      broken = found.refused.1;
    }
tap_refusal_of x given all number (Err (tap.Aborted end code)) found is = let none : None ≡ Some number = is in absurd (cc)
tap_refusal_of x given all number (Err (tap.Incomplete count)) found is = let none : None ≡ Some number = is in absurd (cc)
tap_refusal_of x given all number (Err tap.NormalTooLong) found is = let none : None ≡ Some number = is in absurd (cc)
tap_refusal_of x given all number (Err (tap.Memory count)) found is = let none : None ≡ Some number = is in absurd (cc)

module _ (x : Transfer) (carried : List Carried) (d : Doubted) (t : Telling) (v : Viewed) where
  abbrev passed : List Placed
  passed = whole_of [] carried

  -- It passed, and is refused after those before it; and no reason is listed.
  pub record IsAccusedBetween : Type 0 where
    pub blamed : Blamed
    pub framed : Framed
    pub rule : Rule
    pub number : ℕ
    pub newer : List Placed
    pub is : blamed ≡ blamed_of x framed
    pub found : number_in v.found ≡ Some number
    pub at : seen_as point.Between x.number [] carried number ≡ Some framed
    pub parts : passed ≡ newer ++ framed.placed ∷ framed.before
    pub seen : is_of x.number framed.placed ≡ true
    pub broken : FirstTapBroken (sides_of x passed) (between_capture x framed.before) (passed_of framed.placed.datagram) rule
    pub unlisted : IsUnlisted x passed d t blamed

  pub accused_between : TellsOf point.Between x carried d t v → (a : Accused) → accused_of_row x passed t v.blamed (row_reasons x passed d t v) ≡ Some a → IsAccusedBetween
  accused_between tells a is = by v.found refl (subst (λ (o : Option Rollover). IsFoundAt o point.Between x passed v.found) tells.view.0 tells.view.1.found) where
    s : IsSent x passed t v.blamed (row_reasons x passed d t v) a
    s = sent x passed t v.blamed (row_reasons x passed d t v) a is

    n : IsNamed point.Between x [] carried (number_in v.found) s.datagram
    n = named_by point.Between x [] carried v s.datagram tells.view.1 s.blamed

    by : (found : Found) → v.found ≡ found → IsFoundAt None point.Between x passed found → IsAccusedBetween
    by (AtEnd said) e found = absurd found
    by (Between said) e found =
        let capture : Placed → TapDatagram = λ q. passed_of q.datagram in
        let r = tap_refusal_of x (between_capture x passed) passed n.number said found (ap number_in (sym e) ∙ n.refuses) in
        let th = there (is_of x.number) [] capture carried n.number r.later r.datagram r.earlier r.are r.at n.datagram n.seen in
        let frame = option_map (λ (b : Blamed). b.frame) v.blamed in
        let told : t.said ≡ Refused r.rule frame = tells.said ∙ ap (λ (f : Found). said_by f frame) (e ∙ ap Between r.is) in
        record {
          blamed = s.datagram;
          framed = n.datagram;
          rule = r.rule;
          number = n.number;
          newer = th.newer;
          is = n.is;
          found = n.refuses;
          at = n.seen;
          parts = th.whole;
          seen = th.passes;
          broken = subst (λ l. FirstTapBroken (sides_of x passed) l (passed_of n.datagram.placed.datagram) r.rule) th.before
              (subst (λ q. FirstTapBroken (sides_of x passed) r.earlier q r.rule) th.this r.broken);
          unlisted = told_unlisted x passed d t v r.rule frame s.datagram told s.blamed s.sure;
        }

-- nobody is accused who is none
pub nobody : (o : Option Accused) → ((a : Accused) → o ≡ Some a → ⊥) → o ≡ None
nobody None never = refl
nobody (Some a) never = absurd (never a refl)
