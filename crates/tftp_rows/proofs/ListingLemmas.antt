-- Transfers that are listed one after another.
use Rattle.std.proofs.Common.{◌≡◌, ◌∷◌, ◌++◌, [], ℕ, false, List, Option, Some, None, IfSome, ap, inl, inr, max, ◌∙◌, refl, sym, subst}
use Rattle.std.proofs.lemmas.Bool.{false≢true}
use Rattle.net_udp.specs.Recording.{Step}
use Rattle.tftp_packet.specs.{End}
use Rattle.audit_flows.specs.{Transfer}
use Rattle.audit_recording.specs.Blame.Frames.{Carried, Framed}
use Rattle.audit_recording.specs.Blame.Kept.{IsTrailOf}
use Rattle.audit_recording.specs.Endings.Told.{IsEnding}
use Rattle.audit_recording.specs.Endings.Undelivered.{undelivered_of}
use Rattle.audit_recording.specs.Reasons.Clock.{IsClockAfter, last_of}
use Rattle.audit_recording.specs.Session.Kept.{IsSessionOf}
use Rattle.audit_recording.specs.Session.Noted.{AreNotesOf, Noticed}
use Rattle.audit_recording.specs.Session.Trails.{IsBegunBy}
use Rattle.audit_recording.specs.declared.blame.ending.Ending.{Ending}
use Rattle.audit_recording.specs.declared.blame.trail.Trail.{Trail}
use Rattle.audit_recording.specs.declared.blame.undelivered.Undelivered.{Undelivered}
use Rattle.audit_recording.specs.declared.judges.judging.Judging.{Judging}
use Rattle.audit_recording.specs.declared.judges.judging.Judging.TheVariants.{Nowhere}
use Rattle.audit_recording.specs.declared.session.session.Session.{Session}
use Rattle.audit_recording.proofs.SessionLemmas.Recording.{reached_is}
use Rattle.tftp_rows.specs.Asked.{AreAskedBy}
use Rattle.tftp_rows.specs.Ended.{Concludes}
use Rattle.tftp_rows.specs.Listed.{IsEndOf, IsListRowOf, ListsInTurn, ListsNext, ListsPart, ListsTurns, ListsTurnsPart, at_server}
use Rattle.tftp_rows.specs.Whole.{moment_of}
use Rattle.tftp_rows.specs.declared.asked.AskedWords.{AskedWords}
use Rattle.tftp_rows.specs.declared.conclusion.Conclusion.{Conclusion}
use Rattle.tftp_rows.specs.declared.lister.Lister.{Lister}
use Rattle.tftp_rows.specs.declared.listing.ListRow.{ListRow}

-- what the request that opened a transfer asks for
pub asked_of : (w : AskedWords) (t : Trail) (opening : Option Framed) → AreAskedBy w t.request.items → IfSome opening (IsBegunBy t) → IfSome opening (λ f. AreAskedBy w f.carried.datagram.payload)
asked_of w t None p begun = begun
asked_of w t (Some f) p begun = subst (AreAskedBy w) (sym begun.1) p

-- how it ended, and what did not reach its server
pub ended_of : (c : Conclusion) (t : Trail) (now : ℕ) (x : Transfer) (named : List ℕ) (carried : List Carried) (e : Ending) (u v : Option (End × Undelivered)) → u ≡ undelivered_of t → v ≡ at_server u
    → IsEnding x named carried false now e → Concludes e false false v c → IsEndOf c t now x named carried
ended_of c t now x named carried e u v p q is told = (e, is, subst (λ w. Concludes e false false w c) (q ∙ ap at_server p) told)

-- what is kept of a transfer is so wherever it is judged, also nowhere
pub kept_nowhere : (t : Trail) (judging : Judging) (x : Transfer) (named : List ℕ) (carried : List Carried) → IsTrailOf t judging x named carried → IsTrailOf t Nowhere x named carried
kept_nowhere t judging x named carried is = record {
  transfer = is.transfer;
  number = is.number;
  ends = is.ends;
  first = is.first;
  last = is.last;
  count = is.count;
  last_time = is.last_time;
  is_answered = is.is_answered;
  has_gone_on = is.has_gone_on;
  options = is.options;
  twice = is.twice;
  copied_from = is.copied_from;
  damaged = is.damaged;
  spoilt = is.spoilt;
  joined = is.joined;
  goes_on = is.goes_on;
  closing = is.closing;
  blame = record { client = λ no. absurd (false≢true no); server = λ no. absurd (false≢true no) };
}

-- the moment up to which it was read
pub moment_is : (b : Session) (now : ℕ) (s : Noticed) → AreNotesOf b.notes s → ((times : List ℕ) → IsClockAfter b.notes.clock times → now ≡ max (last_of times) b.notes.clock.reached) → now ≡ moment_of s
moment_is b now s notes reads = reads s.times notes.clock ∙ ap (λ n. max (last_of s.times) n) (reached_is b.notes.clock s.times notes.clock)

-- the row by that moment
pub row_then : (row : ListRow) (n now : ℕ) (t : Trail) (s : Noticed) (x : Transfer) (named : List ℕ) (carried : List Carried) → now ≡ moment_of s → IsListRowOf row n t now x named carried
    → IsListRowOf row n t (moment_of s) x named carried
row_then row n now t s x named carried same is = subst (λ m. IsListRowOf row n t m x named carried) same is

module _ {W : Type 0} (contents : W → Option (List ℕ)) (Holds : Session → Type 0) (named : List ℕ) (history : List Step) (carried : List Carried) (s : Noticed) where
  -- nothing was listed
  pub none_listed : (t : Lister W) (b : Session) (out : List ℕ) → IsSessionOf b named out history carried s → ListsTurns contents Holds t t b named out history carried s
  none_listed t b out is = record { rows = []; left = out; turns = (refl, refl); handed_out = is }

  turn_listed : (rows : List ListRow) (row : ListRow) (t u v : Lister W) (d e : Session) (out left : List ℕ) → ListsInTurn contents Holds named history carried s rows t u out left
      → IsSessionOf d named left history carried s → Holds d → (step : ListsNext contents u v row e named left history carried s)
      → ListsInTurn contents Holds named history carried s (rows ++ row ∷ []) t v out (step.transfer.number ∷ left)
  turn_listed [] row t u v d e out left p is holds step =
      subst (λ (k : List ℕ). ListsInTurn contents Holds named history carried s (row ∷ []) t v k (step.transfer.number ∷ left)) p.1
      (subst (λ (k : Lister W). ListsInTurn contents Holds named history carried s (row ∷ []) k v left (step.transfer.number ∷ left)) p.0
      (v, d, e, is, holds, step, (refl, refl)))
  turn_listed (r ∷ rows) row t u v d e out left p is holds step =
      (p.0, p.1, p.2, p.3, p.4, p.5, turn_listed rows row p.0 u v d e (p.5.transfer.number ∷ out) left p.6 is holds step)

  -- one transfer more was listed
  pub one_listed : (t u v : Lister W) (d e : Session) (out : List ℕ) (p : ListsTurns contents Holds t u d named out history carried s) → Holds d
      → (row : ListRow) × ListsNext contents u v row e named p.left history carried s → ListsTurns contents Holds t v e named out history carried s
  one_listed t u v d e out p holds step = record {
    rows = p.rows ++ step.0 ∷ [];
    left = step.1.transfer.number ∷ p.left;
    turns = turn_listed p.rows step.0 t u v d e out p.left p.turns p.handed_out holds step.1;
    handed_out = step.1.handed_out;
  }

  -- and then no more was listed
  abbrev pub kept_listed : (t u v : Lister W) (d e : Session) (out : List ℕ) (p : ListsTurns contents Holds t u d named out history carried s) → v ≡ u
      → IsSessionOf e named p.left history carried s → ListsTurns contents Holds t v e named out history carried s
  kept_listed t u v d e out p kept is = record {
    rows = p.rows;
    left = p.left;
    turns = subst (λ (k : Lister W). ListsInTurn contents Holds named history carried s p.rows t k out p.left) (sym kept) p.turns;
    handed_out = is;
  }

  -- some were listed, and the next one in part
  pub part_listed : (t u v : Lister W) (d : Session) (out : List ℕ) (p : ListsTurns contents Holds t u d named out history carried s) → Holds d
      → ListsPart contents u v named p.left history carried s → ListsTurnsPart contents Holds t v named out history carried s
  part_listed t u v d out p holds (inl same) = record { mid = u; between = d; turns = p; part = inl same }
  part_listed t u v d out p holds (inr next) = record { mid = u; between = d; turns = p; part = inr (holds, next) }

  -- and then no more was printed
  pub end_listed : (t u : Lister W) (d : Session) (out : List ℕ) → ListsTurns contents Holds t u d named out history carried s → ListsTurnsPart contents Holds t u named out history carried s
  end_listed t u d out p = record { mid = u; between = d; turns = p; part = inl refl }
