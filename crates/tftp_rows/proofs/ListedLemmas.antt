-- What is read and listed of a recording, transfer by transfer and frame by frame.
use Rattle.std.proofs.Common.{◌≡◌, ◌⊎◌, ◌∷◌, ◌++◌, ◌+◌, ◌≤◌, ◌<◌, nat_le, length, [], ℕ, Bool, true, false, List, Option, Some, None, IsSome, if◌then◌else◌, inl, inr, refl, sym, ap, ◌∙◌, subst, arith}
use Rattle.std.specs.Io.KnownBytes.{Consumes, IsAtEnd}
use Rattle.std.specs.List.{AllByRecursion}
use Rattle.std.proofs.lemmas.Bool.{leb-true, leb-false}
use Rattle.net_streams.specs.{Standing}
use Rattle.net_udp.specs.Recording.{RecordingState, StandsFor, Step, standing_of}
use Rattle.audit_flows.proofs.LinesLemmas.Lines.{by_test}
use Rattle.audit_recording.specs.Blame.Frames.{Carried, whole_of}
use Rattle.audit_recording.specs.Judges.{is_among, opened}
use Rattle.audit_recording.specs.Session.Kept.{IsOneMore, IsSessionAfter, IsSessionOf}
use Rattle.audit_recording.specs.Session.Noted.{AreNotesOf, Noticed, frames_in, giving_up, nothing_noticed}
use Rattle.audit_recording.specs.Session.Opened.{HasEnded, IsSessionClosed}
use Rattle.audit_recording.specs.Session.Over.{IsOldestOver}
use Rattle.audit_recording.specs.Session.Recording.{IsNoticedOf}
use Rattle.audit_recording.specs.declared.judges.judging.Judging.TheVariants.{Nowhere}
use Rattle.audit_recording.specs.declared.session.notes.Notes.{Notes}
use Rattle.audit_recording.specs.declared.session.session.Session.{Session}
use Rattle.tftp_rows.specs.Files.{is_read_whole}
use Rattle.tftp_rows.specs.Listed.{IsListRowOf, ListsInTurn, ListsNext, ListsNextPart, ListsTurns, ListsTurnsPart}
use Rattle.tftp_rows.specs.ListedWhole.{AreAscending, AreListed, Entry, HasListed, IsListedNext, IsListedOn, IsListedThrough, IsRecordingListed, IsRecordingListedInPart, counted_in, numbers_in, rows_in}
use Rattle.tftp_rows.specs.Listing.{list_lines}
use Rattle.tftp_rows.specs.Printing.{PrintsPart}
use Rattle.tftp_rows.specs.Whole.{IsDue, IsPartOf, Part, moment_of, once_ended, so_far}
use Rattle.tftp_rows.specs.declared.lister.Lister.{Lister}
use Rattle.tftp_rows.specs.declared.listing.ListRow.{ListRow}
use Rattle.tftp_rows.specs.declared.printing.RowPrinter.{RowPrinter}
use Rattle.tftp_rows.proofs.DueLemmas.{over_then}
use Rattle.tftp_rows.proofs.OrderLemmas.{below_unless_same, neither, opened_below, opened_by_then, part_of}
use Rattle.tftp_rows.proofs.PrintingLemmas.{prints_all_so, prints_both, prints_nothing, prints_part}
use Rattle.tftp_rows.proofs.ReadingLemmas.{among_them, ended_too, not_open, one_frame_more}
use Rattle.tftp_rows.proofs.WholeLemmas.{one_more}

-- ---- what was listed stays so

-- whatever is read next
pub listed_longer : (named : List ℕ) (end : Option Part) (all longer : Part) (es : List Entry) → IsPartOf all longer → AreListed named end all es → AreListed named end longer es
listed_longer named end all longer [] more listed = tt
listed_longer named end all longer (e ∷ older) more listed = (listed.0, part_of listed.0 all longer listed.1 more, listed.2, listed.3)

-- once the recording has ended
pub listed_by_end : (named : List ℕ) (end : Option Part) (all : Part) (es : List Entry) → AreListed named None all es → AreListed named end all es
listed_by_end named end all [] listed = tt
listed_by_end named end all (e ∷ older) listed = (
  listed.0,
  listed.1,
  record { next = listed.2.next; due = elim listed.2.due [ inl over ↦ inl over | inr none ↦ absurd (cc) ]; kept = listed.2.kept; undelivered = listed.2.undelivered; row = listed.2.row },
  listed_by_end named end listed.0 older listed.3,
)

-- ---- what is listed later has a greater number

-- each of these that were listed is before one that was not
before_it : (named : List ℕ) (end : Option Part) (all : Part) (n : ℕ) (es : List Entry) → AreListed named end all es → IsSome (opened n (whole_of named all.carried)) → is_among n (numbers_in es) ≡ false
    → AllByRecursion (λ m. m < n) (numbers_in es)
before_it named end all n [] listed some not = tt
before_it named end all n (u ∷ us) listed some not =
    let later = listed.1.next_carried in
    let carried = listed.0.carried in
    let others = neither _ (is_among n (numbers_in us)) not in
    let here : IsSome (opened n (whole_of named (later ++ carried))) = subst (λ l. IsSome (opened n (whole_of named l))) listed.1.datagrams some in (
      by_test (nat_le (length carried) n)
          (λ up.
          let most = leb-true (length carried) n up in
          let below = opened_below named carried u.transfer.number u.transfer listed.2.next.opens in omega arith)
          (λ down.
          let low = leb-false (length carried) n down in
          let first : u.transfer.number ≤ n = listed.2.next.oldest n (opened_by_then named later carried n (omega arith) here) others.1 in
          below_unless_same u.transfer.number n first others.0),
      before_it named end all n us (listed_longer named end listed.0 all us listed.1 listed.3) some others.1,
    )

pub are_ascending : (named : List ℕ) (end : Option Part) (all : Part) (es : List Entry) → AreListed named end all es → AreAscending es
are_ascending named end all [] listed = tt
are_ascending named end all (e ∷ older) listed = (
  before_it named end listed.0 e.transfer.number older listed.3 (subst IsSome (sym listed.2.next.opens) refl) listed.2.next.first_time,
  are_ascending named end listed.0 older listed.3,
)

module _ {W : Type 0} (contents : W → Option (List ℕ)) where
  -- ---- one transfer more

  -- nothing was listed
  pub nothing_listed : (begun : Lister W) (named : List ℕ) → begun.told ≡ 0 → HasListed contents begun begun named None (so_far [] [] nothing_noticed) []
  nothing_listed begun named zero = record { listed = tt; prints = prints_nothing contents list_lines begun.printer; number = zero; status = refl }

  -- the entry of a turn
  abbrev pub entry_of : {t u : Lister W} {row : ListRow} {after : Session} {named out : List ℕ} {history : List Step} {carried : List Carried} {s : Noticed}
      → ListsNext contents t u row after named out history carried s → Entry
  entry_of {t} {u} {row} step = record { transfer = step.transfer; trail = step.trail; row = row }

  -- the entry of a turn that has failed
  abbrev pub entry_in : {t u : Lister W} {named out : List ℕ} {history : List Step} {carried : List Carried} {s : Noticed} → ListsNextPart contents t u named out history carried s → Entry
  entry_in step = record { transfer = step.transfer; trail = step.trail; row = step.row }

  listed_next : (named : List ℕ) (history : List Step) (carried : List Carried) (s : Noticed) (end : Option Part) (t u : Lister W) (row : ListRow) (after : Session) (es : List Entry) → t.told ≡ counted_in es
      → (step : ListsNext contents t u row after named (numbers_in es) history carried s) → IsDue end named (so_far history carried s) step.trail
      → IsListedNext named end (so_far history carried s) (entry_of step) es
  listed_next named history carried s end t u row after es number step due = record {
    next = step.next;
    due = due;
    kept = step.kept;
    undelivered = step.undelivered;
    row = subst (λ n. IsListRowOf row n step.trail (moment_of s) step.transfer named carried) (one_more t.told u.told (length es) step.number number) step.of;
  }

  part_next : (named : List ℕ) (history : List Step) (carried : List Carried) (s : Noticed) (end : Option Part) (t u : Lister W) (es : List Entry) → t.told ≡ counted_in es
      → (step : ListsNextPart contents t u named (numbers_in es) history carried s) → IsDue end named (so_far history carried s) step.trail
      → IsListedNext named end (so_far history carried s) (entry_in step) es
  part_next named history carried s end t u es number step due = record {
    next = step.next;
    due = due;
    kept = step.kept;
    undelivered = step.undelivered;
    row = subst (λ n. IsListRowOf step.row n step.trail (moment_of s) step.transfer named carried) (one_more t.told _ (length es) refl number) step.of;
  }

  -- one that is over
  pub over_listed : (begun t u : Lister W) (row : ListRow) (before after : Session) (named : List ℕ) (history : List Step) (carried : List Carried) (s : Noticed) (es : List Entry)
      → HasListed contents begun t named None (so_far history carried s) es → IsNoticedOf named history carried s → IsSessionOf before named (numbers_in es) history carried s → IsOldestOver before named carried s
      → (step : ListsNext contents t u row after named (numbers_in es) history carried s) → HasListed contents begun u named None (so_far history carried s) (entry_of step ∷ es)
  over_listed begun t u row before after named history carried s es h came is oldest step =
      let over = over_then before named (numbers_in es) history carried s step.transfer step.trail Nowhere is oldest step.next step.kept in
      record {
        listed = (
          so_far history carried s,
          record { next_frames = []; next_carried = []; frames = refl; datagrams = refl },
          listed_next named history carried s None t u row after es h.number step (inl (came, over)),
          h.listed,
        );
        prints = prints_both contents list_lines begun.printer t.printer u.printer (rows_in es) (row ∷ []) h.prints step.prints;
        number = one_more t.told u.told (length es) step.number h.number;
        status = step.status ∙ h.status;
      }

  -- one more, where the recording has ended
  pub last_listed : (begun t u : Lister W) (row : ListRow) (after : Session) (named : List ℕ) (history : List Step) (carried : List Carried) (s last : Noticed) (es : List Entry)
      → HasListed contents begun t named (Some (so_far history carried last)) (so_far history carried s) es
      → (step : ListsNext contents t u row after named (numbers_in es) history carried last)
      → HasListed contents begun u named (Some (so_far history carried last)) (so_far history carried s) (entry_of step ∷ es)
  last_listed begun t u row after named history carried s last es h step =
      let end = so_far history carried last in
      record {
        listed = (
          end,
          record { next_frames = []; next_carried = []; frames = refl; datagrams = refl },
          listed_next named history carried last (Some end) t u row after es h.number step (inr refl),
          listed_longer named (Some end) (so_far history carried s) end es (record { next_frames = []; next_carried = []; frames = refl; datagrams = refl }) h.listed,
        );
        prints = prints_both contents list_lines begun.printer t.printer u.printer (rows_in es) (row ∷ []) h.prints step.prints;
        number = one_more t.told u.told (length es) step.number h.number;
        status = step.status ∙ h.status;
      }

  -- The same of several turns, of what one turn keeps.
  module _ (Holds : Session → Type 0) (named : List ℕ) (history : List Step) (carried : List Carried) (s : Noticed) (Listed : Lister W → List Entry → Type 0)
      (one : (t u : Lister W) (row : ListRow) (before after : Session) (es : List Entry) → Listed t es → IsSessionOf before named (numbers_in es) history carried s → Holds before → (step : ListsNext contents t u row after named (numbers_in es) history carried s) → Listed u (entry_of step ∷ es)) where
    pub listed_in_turn : (rows : List ListRow) (t u : Lister W) (es : List Entry) (left : List ℕ) → Listed t es → ListsInTurn contents Holds named history carried s rows t u (numbers_in es) left
        → (more : List Entry) × Listed u more × (left ≡ numbers_in more)
    listed_in_turn [] t u es left h p = (es, subst (λ v. Listed v es) (sym p.0) h, p.1)
    listed_in_turn (row ∷ rows) t u es left h p = listed_in_turn rows p.0 u (entry_of p.5 ∷ es) left (one t p.0 row p.1 p.2 es h p.3 p.4 p.5) p.6

  -- ---- where a call has failed

  -- the first rows of some that were listed were printed, and nothing else
  abbrev IsPart : Lister W → Lister W → List ℕ → Option Part → Part → Type 0
  IsPart begun now named end all = (es : List Entry) × AreListed named end all es × PrintsPart contents list_lines begun.printer now.printer (rows_in es)

  all_so : (begun now : Lister W) (named : List ℕ) (end : Option Part) (all : Part) (es : List Entry) → HasListed contents begun now named end all es → IsPart begun now named end all
  all_so begun now named end all es h = (es, h.listed, prints_all_so contents list_lines begun.printer now.printer (rows_in es) h.prints)

  -- some were listed, and then one more in part, or nothing was printed
  then_part : (begun mid now : Lister W) (named : List ℕ) (end : Option Part) (all p : Part) (s : Noticed) (es : List Entry) (P : Type 0) → HasListed contents begun mid named end all es
      → (P → (step : ListsNextPart contents mid now named (numbers_in es) p.history p.carried s) → AreListed named end all (entry_in step ∷ es))
      → (now.printer ≡ mid.printer) ⊎ (P × ListsNextPart contents mid now named (numbers_in es) p.history p.carried s) → IsPart begun now named end all
  then_part begun mid now named end all p s es P h more (inl same) =
      (es, h.listed, subst (λ (q : RowPrinter W). PrintsPart contents list_lines begun.printer q (rows_in es)) (sym same) (prints_all_so contents list_lines begun.printer mid.printer (rows_in es) h.prints))
  then_part begun mid now named end all p s es P h more (inr next) =
      (entry_in next.1 ∷ es, more next.0 next.1, prints_part contents list_lines begun.printer mid.printer now.printer (rows_in es) (next.1.row ∷ []) h.prints next.1.prints)

  -- ---- while it is read

  part_on : (step : Step) (history : List Step) (carried all : List Carried) (s t : Noticed) → IsOneMore carried all → IsPartOf (so_far history carried s) (so_far (step ∷ history) all t)
  part_on step history carried all s t (inl same) = record { next_frames = step ∷ []; next_carried = []; frames = refl; datagrams = same }
  part_on step history carried all s t (inr more) = record { next_frames = step ∷ []; next_carried = more.0 ∷ []; frames = refl; datagrams = more.1 }

  -- before the first frame
  pub begins_listing : (begun : Lister W) (Is : List Step → Type 0) (session : Session) (named : List ℕ) → begun.told ≡ 0 → Is [] → IsSessionAfter session named [] [] [] nothing_noticed
      → IsListedOn contents begun begun Is session named
  begins_listing begun Is session named zero read is =
      record { history = []; carried = []; noticed = nothing_noticed; entries = []; read = read; session_is = is; has_listed = nothing_listed begun named zero }

  -- the next frame, before what is over then is listed
  pub frame_on : (begun now : Lister W) (Was Is : List Step → Type 0) (old new : Session) (named : List ℕ) (step : Step) (all : List Carried) (t : Noticed) → (is : IsListedOn contents begun now Was old named)
      → IsOneMore is.carried all → Is (step ∷ is.history) × IsSessionAfter new named (numbers_in is.entries) (step ∷ is.history) all t → IsListedOn contents begun now Is new named
  frame_on begun now Was Is old new named step all t is one p = record {
    history = step ∷ is.history;
    carried = all;
    noticed = t;
    entries = is.entries;
    read = p.0;
    session_is = p.1;
    has_listed = record {
      listed = listed_longer named None (so_far is.history is.carried is.noticed) (so_far (step ∷ is.history) all t) is.entries (part_on step is.history is.carried all is.noticed t one) is.has_listed.listed;
      prints = is.has_listed.prints;
      number = is.has_listed.number;
      status = is.has_listed.status;
    };
  }

  pub frame_on_for : (n : ℕ) (begun now : Lister W) (Was Is : List Step → Type 0) (old new : Session) (named : List ℕ) (step : Step) (all : List Carried) (t : Noticed) → (is : IsListedOn contents begun now Was old named)
      → (one : IsOneMore is.carried all) → (p : Is (step ∷ is.history) × IsSessionAfter new named (numbers_in is.entries) (step ∷ is.history) all t)
      → n ≤ length is.history → n + 1 ≤ length (frame_on begun now Was Is old new named step all t is one p).history
  unfolding frame_on
  frame_on_for n begun now Was Is old new named step all t is one p le = one_frame_more n step is.history le

  -- the recording's end
  pub end_on : (begun now : Lister W) (Was Is : List Step → Type 0) (old new : Session) (named : List ℕ) → (is : IsListedOn contents begun now Was old named)
      → Is is.history × IsSessionAfter new named (numbers_in is.entries) is.history is.carried is.noticed → IsListedOn contents begun now Is new named
  end_on begun now Was Is old new named is p =
      record { history = is.history; carried = is.carried; noticed = is.noticed; entries = is.entries; read = p.0; session_is = p.1; has_listed = is.has_listed }

  abbrev HasOver : Lister W → List ℕ → List Step → List Carried → Noticed → Lister W → List Entry → Type 0
  HasOver begun named history carried s t es = HasListed contents begun t named None (so_far history carried s) es

  over_turns : (begun old new : Lister W) (named : List ℕ) (history : List Step) (carried : List Carried) (s : Noticed) (es : List Entry) (after : Session) → IsNoticedOf named history carried s
      → HasOver begun named history carried s old es → (turns : ListsTurns contents (λ b. IsOldestOver b named carried s) old new after named (numbers_in es) history carried s)
      → (more : List Entry) × HasOver begun named history carried s new more × (turns.left ≡ numbers_in more)
  over_turns begun old new named history carried s es after came h turns =
      listed_in_turn (λ b. IsOldestOver b named carried s) named history carried s (HasOver begun named history carried s)
      (λ t u row d e us was at holds step. over_listed begun t u row d e named history carried s us was came at holds step) turns.rows old new es turns.left h turns.turns

  -- what is over is listed
  pub over_on : (begun old new : Lister W) (Is : List Step → Type 0) (before after : Session) (named : List ℕ) → (is : IsListedOn contents begun old Is before named)
      → ListsTurns contents (λ b. IsOldestOver b named is.carried is.noticed) old new after named (numbers_in is.entries) is.history is.carried is.noticed → IsListedOn contents begun new Is after named
  over_on begun old new Is before after named is turns =
      let more = over_turns begun old new named is.history is.carried is.noticed is.entries after is.session_is.noticed is.has_listed turns in
      record {
        history = is.history;
        carried = is.carried;
        noticed = is.noticed;
        entries = more.0;
        read = is.read;
        session_is = record { noticed = is.session_is.noticed; kept = subst (λ out. IsSessionOf after named out is.history is.carried is.noticed) more.2 turns.handed_out };
        has_listed = more.1;
      }

  -- so many frames at least were read, and listed as they should be
  abbrev pub IsListedOnFor : ℕ → Lister W → Lister W → (List Step → Type 0) → Session → List ℕ → Type 0
  IsListedOnFor n begun now Is session named = (so : IsListedOn contents begun now Is session named) × (n ≤ length so.history)

  pub over_on_for : (n : ℕ) (begun old new : Lister W) (Is : List Step → Type 0) (before after : Session) (named : List ℕ) → (is : IsListedOn contents begun old Is before named)
      → ListsTurns contents (λ b. IsOldestOver b named is.carried is.noticed) old new after named (numbers_in is.entries) is.history is.carried is.noticed
      → n ≤ length is.history → IsListedOnFor n begun new Is after named
  unfolding over_on
  over_on_for n begun old new Is before after named is turns many = (over_on begun old new Is before after named is turns, many)

  -- ---- the same where a call has failed

  -- nothing was read
  pub lists_none : (begun now : Lister W) (file : Option (List ℕ)) (named : List ℕ) → now.printer ≡ begun.printer → IsRecordingListedInPart contents begun now file named
  lists_none begun now file named same = record {
    history = [];
    carried = [];
    noticed = nothing_noticed;
    entries = [];
    end = None;
    read = inl refl;
    came = (refl, refl);
    ended = tt;
    listed = tt;
    in_order = tt;
    prints = subst (λ (p : RowPrinter W). PrintsPart contents list_lines begun.printer p []) (sym same) (prints_all_so contents list_lines begun.printer begun.printer [] (prints_nothing contents list_lines begun.printer));
  }

  stopped : (Q : List ℕ → List Step → Type 0) (begun now : Lister W) (file left : Option (List ℕ)) (recording : RecordingState) (named : List ℕ) (history : List Step) (carried : List Carried) (s : Noticed)
      → (bytes : List ℕ) × Consumes file left bytes × StandsFor recording bytes history × Q bytes history → IsNoticedOf named history carried s → IsPart begun now named None (so_far history carried s)
      → IsRecordingListedInPart contents begun now file named
  stopped Q begun now file left recording named history carried s read came part = record {
    history = history;
    carried = carried;
    noticed = s;
    entries = part.0;
    end = None;
    read = inr (recording, read.0, left, read.1, read.2);
    came = came;
    ended = tt;
    listed = part.1;
    in_order = are_ascending named None (so_far history carried s) part.0 part.1;
    prints = part.2;
  }

  -- what was read before was listed as it should be
  pub stops_listing : {Q : List ℕ → List Step → Type 0} (begun now : Lister W) (file left : Option (List ℕ)) (recording : RecordingState) (session : Session) (named : List ℕ)
      → IsListedOn contents begun now (λ history. (bytes : List ℕ) × Consumes file left bytes × StandsFor recording bytes history × Q bytes history) session named
      → IsRecordingListedInPart contents begun now file named
  stops_listing {Q} begun now file left recording session named is =
      stopped Q begun now file left recording named is.history is.carried is.noticed is.read is.session_is.noticed
      (all_so begun now named None (so_far is.history is.carried is.noticed) is.entries is.has_listed)

  -- what is over is listed, and the last one in part
  pub stops_over : {Q : List ℕ → List Step → Type 0} (begun old new : Lister W) (file left : Option (List ℕ)) (recording : RecordingState) (before : Session) (named : List ℕ)
      → (is : IsListedOn contents begun old (λ frames. (bytes : List ℕ) × Consumes file left bytes × StandsFor recording bytes frames × Q bytes frames) before named)
      → ListsTurnsPart contents (λ b. IsOldestOver b named is.carried is.noticed) old new named (numbers_in is.entries) is.history is.carried is.noticed
      → IsRecordingListedInPart contents begun new file named
  stops_over {Q} begun old new file left recording before named is turns =
      let all = so_far is.history is.carried is.noticed in
      let more = over_turns begun old turns.mid named is.history is.carried is.noticed is.entries turns.between is.session_is.noticed is.has_listed turns.turns in
      let handed = subst (λ out. IsSessionOf turns.between named out is.history is.carried is.noticed) more.2 turns.turns.handed_out in
      stopped Q begun new file left recording named is.history is.carried is.noticed is.read is.session_is.noticed
      (then_part begun turns.mid new named None all all is.noticed more.0 (IsOldestOver turns.between named is.carried is.noticed) more.1
      (λ oldest step. (
        all,
        record { next_frames = []; next_carried = []; frames = refl; datagrams = refl },
        part_next named is.history is.carried is.noticed None turns.mid new more.0 more.1.number step
            (inl (is.session_is.noticed, over_then turns.between named (numbers_in more.0) is.history is.carried is.noticed step.transfer step.trail Nowhere handed oldest step.next step.kept)),
        more.1.listed,
      ))
      (subst (λ out. (new.printer ≡ turns.mid.printer) ⊎ (IsOldestOver turns.between named is.carried is.noticed × ListsNextPart contents turns.mid new named out is.history is.carried is.noticed)) more.2 turns.part))

  -- ---- the recording is closed

  pub closed_listing : {Q : List ℕ → List Step → Type 0} (begun now : Lister W) (file left : Option (List ℕ)) (recording : RecordingState) (before after : Session) (named : List ℕ)
      → IsListedOn contents begun now (λ history. (bytes : List ℕ) × Consumes file left bytes × StandsFor recording bytes history × Q bytes history) before named
      → (standing_of recording ≡ Standing.Over → IsAtEnd left) → HasEnded recording before.notes → after.notes.fault ≡ before.notes.fault
      → ((out : List ℕ) (history : List Step) (carried : List Carried) (s : Noticed) → IsSessionAfter before named out history carried s → IsSessionClosed after recording named out history carried s)
      → IsListedThrough contents begun now file after named
  closed_listing begun now file left recording before after named is at_end ended fault closes = record {
    recording = recording;
    history = is.history;
    carried = is.carried;
    noticed = is.noticed;
    entries = is.entries;
    read = record { bytes = is.read.0; left = left; had = is.read.1; frames = is.read.2; at_end = at_end };
    ended = ended_too recording before.notes after.notes fault ended;
    closed = closes (numbers_in is.entries) is.history is.carried is.noticed is.session_is;
    has_listed = is.has_listed;
  }

  abbrev HasLast : Lister W → List ℕ → List Step → List Carried → Noticed → Noticed → Lister W → List Entry → Type 0
  HasLast begun named history carried s last t es = HasListed contents begun t named (Some (so_far history carried last)) (so_far history carried s) es

  last_turns : (begun old new : Lister W) (named : List ℕ) (history : List Step) (carried : List Carried) (s last : Noticed) (es : List Entry) (after : Session)
      → HasListed contents begun old named None (so_far history carried s) es → (turns : ListsTurns contents (λ b. Unit {0}) old new after named (numbers_in es) history carried last)
      → (more : List Entry) × HasLast begun named history carried s last new more × (turns.left ≡ numbers_in more)
  last_turns begun old new named history carried s last es after h turns =
      listed_in_turn (λ b. Unit {0}) named history carried last (HasLast begun named history carried s last)
      (λ t u row d e us was at holds step. last_listed begun t u row e named history carried s last us was step) turns.rows old new es turns.left
      (record { listed = listed_by_end named (Some (so_far history carried last)) (so_far history carried s) es h.listed; prints = h.prints; number = h.number; status = h.status }) turns.turns

  -- the rest is listed, and the status is 2 where it was not read whole
  pub rest_listed : (begun mid late now : Lister W) (file : Option (List ℕ)) (session after : Session) (named : List ℕ) (whole : Bool) → (is : IsListedThrough contents begun mid file session named)
      → after.notes ≡ session.notes → ((s : Noticed) → AreNotesOf after.notes s → whole ≡ is_read_whole after.notes s)
      → now ≡ record late { status = if whole then late.status else 2 }
      → (turns : ListsTurns contents (λ b. Unit {0}) mid late after named (numbers_in is.entries) is.history is.carried (giving_up (frames_in is.recording.waiting) is.noticed))
      × ((n : ℕ) → (opened n (whole_of named is.carried) ≡ None) ⊎ (is_among n turns.left ≡ true))
      → IsRecordingListed contents begun now file named after.notes
  rest_listed begun mid late now file session after named whole is same notes now_is told =
      let last = giving_up (frames_in is.recording.waiting) is.noticed in
      let all = so_far is.history is.carried is.noticed in
      let more = last_turns begun mid late named is.history is.carried is.noticed last is.entries after is.has_listed told.0 in
      let noted : AreNotesOf after.notes last = subst (λ (n : Notes). AreNotesOf n last) (sym same) is.closed.kept.notes in
      subst (λ (v : Lister W). IsRecordingListed contents begun v file named after.notes) (sym now_is) (record {
        recording = is.recording;
        history = is.history;
        carried = is.carried;
        noticed = is.noticed;
        entries = more.0;
        read = is.read;
        ended = subst (λ (n : Notes). HasEnded is.recording n) (sym same) is.ended;
        came = is.closed.noticed;
        noted = noted;
        listed = more.1.listed;
        in_order = are_ascending named (Some (once_ended is.recording all)) all more.0 more.1.listed;
        none_left_out = λ n some. among_them n (whole_of named is.carried) told.0.left (numbers_in more.0) more.2 some (told.1 n);
        prints = more.1.prints;
        number = more.1.number;
        status = ap (λ b. if b then late.status else 2) (notes last noted) ∙ ap (λ n. if is_read_whole after.notes last then n else 2) more.1.status;
      })

  -- of the rest a part
  pub rest_in_part : (begun mid now : Lister W) (file : Option (List ℕ)) (session : Session) (named : List ℕ) → (is : IsListedThrough contents begun mid file session named)
      → ListsTurnsPart contents (λ b. Unit {0}) mid now named (numbers_in is.entries) is.history is.carried (giving_up (frames_in is.recording.waiting) is.noticed)
      → IsRecordingListedInPart contents begun now file named
  rest_in_part begun mid now file session named is turns =
      let last = giving_up (frames_in is.recording.waiting) is.noticed in
      let all = so_far is.history is.carried is.noticed in
      let end = once_ended is.recording all in
      let more = last_turns begun mid turns.mid named is.history is.carried is.noticed last is.entries turns.between is.has_listed turns.turns in
      let part = then_part begun turns.mid now named (Some end) all all last more.0 (Unit {0}) more.1
      (λ u step. (
        end,
        record { next_frames = []; next_carried = []; frames = refl; datagrams = refl },
        part_next named is.history is.carried last (Some end) turns.mid now more.0 more.1.number step (inr refl),
        listed_longer named (Some end) all end more.0 (record { next_frames = []; next_carried = []; frames = refl; datagrams = refl }) more.1.listed,
      ))
      (subst (λ out. (now.printer ≡ turns.mid.printer) ⊎ (Unit {0} × ListsNextPart contents turns.mid now named out is.history is.carried last)) more.2 turns.part) in
      record {
        history = is.history;
        carried = is.carried;
        noticed = is.noticed;
        entries = part.0;
        end = Some end;
        read = inr (is.recording, is.read.bytes, is.read.left, is.read.had, is.read.frames);
        came = is.closed.noticed;
        ended = (is.recording, is.read, not_open is.recording session.notes is.ended, refl);
        listed = part.1;
        in_order = are_ascending named (Some end) all part.0 part.1;
        prints = part.2;
      }
