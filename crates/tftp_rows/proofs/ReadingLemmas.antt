-- What is read and told of a recording, frame by frame.
use Rattle.std.proofs.Common.{◌≡◌, ◌⊎◌, ◌∷◌, ◌≤◌, ◌+◌, ◌-◌, ◌^◌, [], ℕ, Bool, true, false, List, length, arith, Option, Some, None, IsSome, Result, Ok, Err, OnErr, OnOk, inl, inr, refl, sym, subst, ◌∙◌}
use Rattle.std.proofs.lemmas.Bool.{false≢true}
use Rattle.std.specs.Io.KnownBytes.{Consumes, IsAtEnd}
use Rattle.net_pcap.specs.{BeginsAsClassic}
use Rattle.net_streams.specs.{Standing}
use Rattle.net_udp.specs.Recording.{RecordingState, StandsFor, Step, standing_of}
use Rattle.audit_flows.specs.Lines.{Placed}
use Rattle.audit_recording.specs.Blame.Frames.{Carried, whole_of}
use Rattle.audit_recording.specs.Judges.{is_among, opened}
use Rattle.audit_recording.specs.Session.Kept.{IsOneMore, IsSessionAfter, IsSessionOf, ReadsOn}
use Rattle.audit_recording.specs.Session.Noted.{AreNotesOf, Noticed, frames_in, giving_up, nothing_noticed}
use Rattle.audit_recording.specs.Session.Opened.{HasEnded, IsSessionClosed, lost_in}
use Rattle.audit_recording.specs.Session.Over.{IsOldestOver}
use Rattle.audit_recording.specs.declared.judges.judging.Judging.{Judging}
use Rattle.audit_recording.specs.declared.session.fault.ReadFault.{ReadFault}
use Rattle.audit_recording.specs.declared.session.notes.Notes.{Notes}
use Rattle.audit_recording.specs.declared.session.session.Session.{Session}
use Rattle.tftp_rows.specs.Faults.{HasManyFrames}
use Rattle.tftp_rows.specs.Telling.{JudgesAs, PrintsAllWith, PrintsPartWith, TellsNextPart, TellsTurns, TellsTurnsPart}
use Rattle.tftp_rows.specs.Whole.{HasTold, HasToldAll, HasToldInPart, HasToldPart, IsPartOf, IsReadAndTold, IsReadInPart, IsReadOn, IsReadThrough, IsRecordingTold, IsRecordingToldInPart, Part, Telling, numbers_of, once_ended, so_far}
use Rattle.tftp_rows.specs.declared.teller.Teller.{Teller}
use Rattle.tftp_rows.proofs.OrderLemmas.{are_in_order, told_longer}
use Rattle.tftp_rows.proofs.WholeLemmas.{HasToldSo, all_part_next, all_so_far, has_told_all, has_told_so, held_in_part, held_told, loses_too, nothing_told, told_in_turn, told_part, told_so_far}

pub frame_came : (P : List Step → List Carried → Noticed → Type 0) (history : List Step) (carried : List Carried) (s : Noticed) (goes : Bool) → goes ≡ true
    → ReadsOn {F = ReadFault} P history carried s (Ok goes) → (step : Step) × (all : List Carried) × (t : Noticed) × IsOneMore carried all × P (step ∷ history) all t
frame_came P history carried s true e p = p
frame_came P history carried s false e p = absurd (false≢true e)

pub none_came : (P : List Step → List Carried → Noticed → Type 0) (history : List Step) (carried : List Carried) (s : Noticed) (goes : Bool) → goes ≡ false
    → ReadsOn {F = ReadFault} P history carried s (Ok goes) → P history carried s
none_came P history carried s false e p = p
none_came P history carried s true e p = absurd (false≢true (sym e))

pub ended_too : (recording : RecordingState) (before after : Notes) → after.fault ≡ before.fault → HasEnded recording before → HasEnded recording after
ended_too recording before after same (inl over) = inl over
ended_too recording before after same (inr failed) = inr (failed.0, failed.1, same ∙ failed.2)

pub not_open : (recording : RecordingState) (notes : Notes) → HasEnded recording notes → standing_of recording ≡ Standing.Open → ⊥
not_open recording notes (inl over) still = let both : Standing.Over ≡ Standing.Open = sym over ∙ still in cc
not_open recording notes (inr failed) still = let both : Standing.Failed failed.0 ≡ Standing.Open = sym failed.1 ∙ still in cc

pub among_them : (n : ℕ) (all : List Placed) (left numbers : List ℕ) → left ≡ numbers → IsSome (opened n all) → (opened n all ≡ None) ⊎ (is_among n left ≡ true) → is_among n numbers ≡ true
among_them n all left numbers are some (inl none) = let no : false ≡ true = subst IsSome none some in absurd (false≢true no)
among_them n all left numbers are some (inr told) = subst (λ l. is_among n l ≡ true) are told

pub one_frame_more : (n : ℕ) (step : Step) (history : List Step) → n ≤ length history → n + 1 ≤ length (step ∷ history)
one_frame_more n step history le = grind arith

at_least : (m n k : ℕ) → m ≤ n → n ≤ k → m ≤ k
at_least m n k le many = grind arith

pub many_frames : (Q : List ℕ → List Step → Type 0) (file left : Option (List ℕ)) (recording : RecordingState) (history : List Step) (n : ℕ) → (bytes : List ℕ) × Consumes file left bytes × StandsFor recording bytes history × Q bytes history → n ≤ length history
    → 2 ^ 64 - 1 ≤ n → HasManyFrames file
many_frames Q file left recording history n read many enough = (history, (recording, read.0, left, read.1, read.2), at_least (2 ^ 64 - 1) n (length history) enough many)

module _ {W : Type 0} (contents : W → Option (List ℕ)) (lose : Bool) where
  -- so many frames at least were read, and told as they should be
  abbrev pub IsReadOnFor : ℕ → Teller W → Teller W → (List Step → Type 0) → Session → List ℕ → Type 0
  IsReadOnFor n begun now Is session named = (so : IsReadOn contents begun now lose Is session named) × (n ≤ length so.0)

  -- what was told stays so with the next frame
  part_on : (step : Step) (history : List Step) (carried all : List Carried) (s t : Noticed) → IsOneMore carried all → IsPartOf (so_far history carried s) (so_far (step ∷ history) all t)
  part_on step history carried all s t (inl same) = record { next_frames = step ∷ []; next_carried = []; frames = refl; datagrams = same }
  part_on step history carried all s t (inr more) = record { next_frames = step ∷ []; next_carried = more.0 ∷ []; frames = refl; datagrams = more.1 }

  pub told_on : (begun now : Teller W) (judging : Judging) (named : List ℕ) (all longer : Part) (ts : List Telling) → IsPartOf all longer
      → HasTold contents begun now lose judging named all ts → HasTold contents begun now lose judging named longer ts
  told_on begun now judging named all longer ts more h = record {
    told = told_longer begun.file.now judging named None all longer ts more h.told;
    printed = h.printed;
    rows = h.rows;
    prints = h.prints;
    file = h.file;
    number = h.number;
    status = h.status;
    dropped = h.dropped;
    calm = h.calm;
  }

  -- before the first frame
  pub begins_reading : (begun : Teller W) (Is : List Step → Type 0) (session : Session) (named : List ℕ) → begun.held.items ≡ [] → begun.told ≡ 0 → Is [] → IsSessionAfter session named [] [] [] nothing_noticed
      → IsReadOn contents begun begun lose Is session named
  begins_reading begun Is session named none zero read is = (
    [],
    [],
    nothing_noticed,
    [],
    record { read = read; session_is = is; has_told = nothing_told contents lose begun session.audit.judge.judging named none zero },
  )

  -- the next frame, before what is over then is told
  pub read_one : (begun now : Teller W) (Was Is : List Step → Type 0) (old new : Session) (named : List ℕ) (step : Step) (history : List Step) (carried all : List Carried) (s t : Noticed) (ts : List Telling)
      → IsReadAndTold contents begun now lose Was old named history carried s ts → JudgesAs old new → IsOneMore carried all
      → Is (step ∷ history) × IsSessionAfter new named (numbers_of ts) (step ∷ history) all t
      → IsReadAndTold contents begun now lose Is new named (step ∷ history) all t ts
  read_one begun now Was Is old new named step history carried all s t ts is judges one p = record {
    read = p.0;
    session_is = p.1;
    has_told = told_on begun now new.audit.judge.judging named (so_far history carried s) (so_far (step ∷ history) all t) ts (part_on step history carried all s t one)
        (subst (λ (k : Judging). HasTold contents begun now lose k named (so_far history carried s) ts) (sym judges) is.has_told);
  }

  -- the recording's end
  pub read_end : (begun now : Teller W) (Was Is : List Step → Type 0) (old new : Session) (named : List ℕ) (history : List Step) (carried : List Carried) (s : Noticed) (ts : List Telling)
      → IsReadAndTold contents begun now lose Was old named history carried s ts → JudgesAs old new
      → Is history × IsSessionAfter new named (numbers_of ts) history carried s
      → IsReadOn contents begun now lose Is new named
  read_end begun now Was Is old new named history carried s ts is judges p = (
    history,
    carried,
    s,
    ts,
    record {
      read = p.0;
      session_is = p.1;
      has_told = subst (λ (k : Judging). HasTold contents begun now lose k named (so_far history carried s) ts) (sym judges) is.has_told;
    },
  )

  -- what is over is told
  pub told_over : (begun old new : Teller W) (yet : Bool) (Is : List Step → Type 0) (before after : Session) (named : List ℕ) (history : List Step) (carried : List Carried) (s : Noticed) (ts : List Telling)
      → IsReadAndTold contents begun old lose Is before named history carried s ts → JudgesAs before after → yet ≡ lose
      → TellsTurns contents (λ b. IsOldestOver b named carried s × JudgesAs before b) (record old { may_lose = yet }) new after named (numbers_of ts) history carried s
      → IsReadOn contents begun new lose Is after named
  told_over begun old new yet Is before after named history carried s ts is judges same turns =
      let more = told_in_turn contents (λ b. IsOldestOver b named carried s × JudgesAs before b) named history carried s
      (HasToldSo contents lose begun before.audit.judge.judging named (so_far history carried s))
      (λ t u d e us told at holds step. has_told_so contents lose begun t u d e before.audit.judge.judging named history carried s us told holds.1 is.session_is.noticed at holds.0 step)
      turns.told (record old { may_lose = yet }) new ts turns.left (loses_too contents lose begun old yet _ named (so_far history carried s) ts is.has_told, same) turns.turns in (
        history,
        carried,
        s,
        more.0,
        record {
          read = is.read;
          session_is = record { noticed = is.session_is.noticed; kept = subst (λ out. IsSessionOf after named out history carried s) more.2 turns.handed_out };
          has_told = subst (λ (k : Judging). HasTold contents begun new lose k named (so_far history carried s) more.0) (sym judges) more.1.0;
        },
      )

  pub told_over_for : (n : ℕ) (begun old new : Teller W) (yet : Bool) (Is : List Step → Type 0) (before after : Session) (named : List ℕ) (history : List Step) (carried : List Carried) (s : Noticed) (ts : List Telling)
      → IsReadAndTold contents begun old lose Is before named history carried s ts → JudgesAs before after → yet ≡ lose
      → TellsTurns contents (λ b. IsOldestOver b named carried s × JudgesAs before b) (record old { may_lose = yet }) new after named (numbers_of ts) history carried s
      → n ≤ length history → IsReadOnFor n begun new Is after named
  unfolding told_over
  told_over_for n begun old new yet Is before after named history carried s ts is judges same turns many = (told_over begun old new yet Is before after named history carried s ts is judges same turns, many)

  -- the recording is closed
  pub closed_then : {Q : List ℕ → List Step → Type 0} (begun now : Teller W) (file left : Option (List ℕ)) (recording : RecordingState) (before after : Session) (named : List ℕ)
      → IsReadOn contents begun now lose (λ history. (bytes : List ℕ) × Consumes file left bytes × StandsFor recording bytes history × Q bytes history) before named
      → (standing_of recording ≡ Standing.Over → IsAtEnd left) → HasEnded recording before.notes → JudgesAs before after → after.notes.fault ≡ before.notes.fault
      → ((out : List ℕ) (history : List Step) (carried : List Carried) (s : Noticed) → IsSessionAfter before named out history carried s → IsSessionClosed after recording named out history carried s)
      → ((history : List Step) → (bytes : List ℕ) × Consumes file left bytes × StandsFor recording bytes history × Q bytes history → lose ≡ false → lost_in recording ≡ 0)
      → ((bytes : List ℕ) (frames : List Step) → Q bytes frames → lose ≡ false → BeginsAsClassic bytes)
      → IsReadThrough contents begun now file after named
  closed_then begun now file left recording before after named is at_end ended judges fault closes lossless classic = record {
    recording = recording;
    history = is.0;
    carried = is.1;
    noticed = is.2;
    tellings = is.3;
    read = record { bytes = is.4.read.0; left = left; had = is.4.read.1; frames = is.4.read.2; at_end = at_end };
    ended = ended_too recording before.notes after.notes fault ended;
    closed = closes (numbers_of is.3) is.0 is.1 is.2 is.4.session_is;
    may_lose = lose;
    lossless = lossless is.0 is.4.read;
    classic = λ none. (is.4.read.0, left, is.4.read.1, classic is.4.read.0 is.0 is.4.read.3 none);
    has_told = subst (λ (k : Judging). HasTold contents begun now lose k named (so_far is.0 is.1 is.2) is.3) (sym judges) is.4.has_told;
  }

  -- ---- where a call has failed

  judged_as : (begun now : Teller W) (k j : Judging) (named : List ℕ) (all : Part) (ts : List Telling) → k ≡ j → HasTold contents begun now lose k named all ts → HasTold contents begun now lose j named all ts
  judged_as begun now k j named all ts same h = subst (λ (i : Judging). HasTold contents begun now lose i named all ts) same h

  -- what was read before was told as it should be
  pub stops_there : {Q : List ℕ → List Step → Type 0} (begun now : Teller W) (file left : Option (List ℕ)) (recording : RecordingState) (session : Session) (judging : Judging) (named : List ℕ)
      → IsReadOn contents begun now lose (λ history. (bytes : List ℕ) × Consumes file left bytes × StandsFor recording bytes history × Q bytes history) session named → session.audit.judge.judging ≡ judging
      → ((bytes : List ℕ) (frames : List Step) → Q bytes frames → lose ≡ false → BeginsAsClassic bytes) → IsReadInPart contents begun now file judging named
  stops_there begun now file left recording session judging named is same classic = record {
    history = is.0;
    carried = is.1;
    noticed = is.2;
    tellings = is.3;
    read = inr (recording, is.4.read.0, left, is.4.read.1, is.4.read.2);
    came = is.4.session_is.noticed;
    may_lose = lose;
    classic = λ none. (is.4.read.0, left, is.4.read.1, classic is.4.read.0 is.0 is.4.read.3 none);
    has_told = told_so_far contents lose begun now judging named (so_far is.0 is.1 is.2) is.3
        (judged_as begun now session.audit.judge.judging judging named (so_far is.0 is.1 is.2) is.3 same is.4.has_told);
  }

  part_told : (begun mid now : Teller W) (judging : Judging) (named : List ℕ) (all : Part) (ts : List Telling) → HasToldSo contents lose begun judging named all mid ts
      → (now ≡ mid) ⊎ TellsNextPart contents mid now judging named (numbers_of ts) all.carried → HasToldPart contents begun now lose judging named all ts
  part_told begun mid now judging named all ts so (inl same) = subst (λ (t : Teller W). HasToldPart contents begun t lose judging named all ts) (sym same) (told_so_far contents lose begun mid judging named all ts so.0)
  part_told begun mid now judging named all ts so (inr step) = told_part contents lose begun mid now judging named all ts so.0 so.1 step

  -- what is over is told, and the last one in part
  pub stops_telling : {Q : List ℕ → List Step → Type 0} (begun old new : Teller W) (yet : Bool) (file left : Option (List ℕ)) (recording : RecordingState) (before : Session) (judging : Judging) (named : List ℕ) (history : List Step) (carried : List Carried) (s : Noticed) (ts : List Telling)
      → IsReadAndTold contents begun old lose (λ frames. (bytes : List ℕ) × Consumes file left bytes × StandsFor recording bytes frames × Q bytes frames) before named history carried s ts → before.audit.judge.judging ≡ judging → yet ≡ lose
      → TellsTurnsPart contents (λ b. IsOldestOver b named carried s × JudgesAs before b) (record old { may_lose = yet }) new before.audit.judge.judging named (numbers_of ts) history carried s
      → ((bytes : List ℕ) (frames : List Step) → Q bytes frames → lose ≡ false → BeginsAsClassic bytes) → IsReadInPart contents begun new file judging named
  stops_telling begun old new yet file left recording before judging named history carried s ts is same calm turns classic =
      let here = before.audit.judge.judging in
      let more = told_in_turn contents (λ b. IsOldestOver b named carried s × JudgesAs before b) named history carried s
      (HasToldSo contents lose begun here named (so_far history carried s))
      (λ t u d e us told at holds step. has_told_so contents lose begun t u d e here named history carried s us told holds.1 is.session_is.noticed at holds.0 step)
      turns.turns.told (record old { may_lose = yet }) turns.mid ts turns.turns.left (loses_too contents lose begun old yet here named (so_far history carried s) ts is.has_told, calm) turns.turns.turns in
      record {
        history = history;
        carried = carried;
        noticed = s;
        tellings = more.0;
        read = inr (recording, is.read.0, left, is.read.1, is.read.2);
        came = is.session_is.noticed;
        may_lose = lose;
        classic = λ none. (is.read.0, left, is.read.1, classic is.read.0 history is.read.3 none);
        has_told = subst (λ (k : Judging). HasToldPart contents begun new lose k named (so_far history carried s) more.0) same
            (part_told begun turns.mid new here named (so_far history carried s) more.0 more.1
            (subst (λ out. (new ≡ turns.mid) ⊎ TellsNextPart contents turns.mid new here named out carried) more.2 turns.part));
      }

  -- none waits, and the next transfer was told in part, or not
  all_told : (begun mid now : Teller W) (dropped : ℕ) (judging : Judging) (named : List ℕ) (end : Option Part) (all : Part) (ts : List Telling) → HasToldAll contents begun mid lose dropped judging named end all ts
      → (now ≡ mid) ⊎ TellsNextPart contents mid now judging named (numbers_of ts) all.carried → HasToldInPart contents begun now lose dropped judging named end all ts
  all_told begun mid now dropped judging named end all ts h (inl same) =
      subst (λ (t : Teller W). HasToldInPart contents begun t lose dropped judging named end all ts) (sym same) (all_so_far contents lose begun mid dropped judging named end all ts h)
  all_told begun mid now dropped judging named end all ts h (inr step) = all_part_next contents lose begun mid now dropped judging named end all ts h step

-- ---- the whole

module _ {W : Type 0} (contents : W → Option (List ℕ)) where
  -- what waited was printed, and the rest told
  pub rest_told : (begun mid late now : Teller W) (file : Option (List ℕ)) (session after : Session) (judging : Judging) (named : List ℕ) → (is : IsReadThrough contents begun mid file session named)
      → PrintsAllWith contents session.notes.dropped mid.printer late.printer mid.held.items → late.held.items ≡ []
      → late ≡ record mid { printer = late.printer; held = late.held; may_lose = false; dropped = session.notes.dropped }
      → session.audit.judge.judging ≡ judging → after.notes ≡ session.notes
      → (turns : TellsTurns contents (JudgesAs session) late now after named (numbers_of is.tellings) is.history is.carried (giving_up (frames_in is.recording.waiting) is.noticed))
      × ((n : ℕ) → (opened n (whole_of named is.carried) ≡ None) ⊎ (is_among n turns.left ≡ true))
      → IsRecordingTold contents begun now file judging named after.notes
  rest_told begun mid late now file session after judging named is prints none late_is judges same told =
      let lost = lost_in is.recording in
      let waiting = frames_in is.recording.waiting in
      let all = so_far is.history is.carried is.noticed in
      let last = once_ended is.recording all in
      let held : HasToldAll contents begun late is.may_lose session.notes.dropped session.audit.judge.judging named (Some last) all is.tellings =
      held_told contents is.may_lose begun mid late session.notes.dropped session.audit.judge.judging named (Some last) all is.tellings is.has_told prints none late_is in
      let more = told_in_turn contents (JudgesAs session) named is.history is.carried (giving_up waiting is.noticed)
      (λ t us. HasToldAll contents begun t is.may_lose session.notes.dropped session.audit.judge.judging named (Some last) all us)
      (λ t u d e us was at holds step. has_told_all contents is.may_lose begun t u session.notes.dropped d e session.audit.judge.judging named is.history is.carried is.noticed waiting us was holds is.closed.noticed step)
      told.0.told late now is.tellings told.0.left held told.0.turns in
      let whole : HasToldAll contents begun now is.may_lose lost judging named (Some last) all more.0 =
      subst (λ (k : Judging). HasToldAll contents begun now is.may_lose lost k named (Some last) all more.0) judges
      (subst (λ n. HasToldAll contents begun now is.may_lose n session.audit.judge.judging named (Some last) all more.0) is.closed.dropped more.1) in
      record {
        recording = is.recording;
        history = is.history;
        carried = is.carried;
        noticed = is.noticed;
        tellings = more.0;
        read = is.read;
        ended = subst (λ (n : Notes). HasEnded is.recording n) (sym same) is.ended;
        came = is.closed.noticed;
        may_lose = is.may_lose;
        lossless = is.lossless;
        noted = subst (λ (n : Notes). AreNotesOf n (giving_up waiting is.noticed)) (sym same) is.closed.kept.notes;
        told = whole;
        in_order = are_in_order begun.file.now judging named (Some last) all more.0 whole.told;
        none_left_out = λ n some. among_them n (whole_of named is.carried) told.0.left (numbers_of more.0) more.2 some (told.1 n);
      }

  -- nothing was read
  pub reads_none : (begun : Teller W) (file : Option (List ℕ)) (judging : Judging) (named : List ℕ) → begun.held.items ≡ [] → begun.told ≡ 0 → IsReadInPart contents begun begun file judging named
  reads_none begun file judging named none zero = record {
    history = [];
    carried = [];
    noticed = nothing_noticed;
    tellings = [];
    read = inl refl;
    came = (refl, refl);
    may_lose = true;
    classic = λ sure. absurd (false≢true (sym sure));
    has_told = told_so_far contents true begun begun judging named (so_far [] [] nothing_noticed) [] (nothing_told contents true begun judging named none zero);
  }

  -- a recording that was read through was read
  through_so : (begun now : Teller W) (file : Option (List ℕ)) (session : Session) (judging : Judging) (named : List ℕ) → IsReadThrough contents begun now file session named → session.audit.judge.judging ≡ judging
      → IsReadInPart contents begun now file judging named
  through_so begun now file session judging named is same = record {
    history = is.history;
    carried = is.carried;
    noticed = is.noticed;
    tellings = is.tellings;
    read = inr (is.recording, is.read.bytes, is.read.left, is.read.had, is.read.frames);
    came = is.closed.noticed;
    may_lose = is.may_lose;
    classic = is.classic;
    has_told = told_so_far contents is.may_lose begun now judging named (so_far is.history is.carried is.noticed) is.tellings
        (judged_as contents is.may_lose begun now session.audit.judge.judging judging named (so_far is.history is.carried is.noticed) is.tellings same is.has_told);
  }

  pub either_way : {A E : Type 0} (r : Result A E) (begun now : Teller W) (file : Option (List ℕ)) (session : Session) (judging : Judging) (named : List ℕ) → OnOk r (IsReadThrough contents begun now file session named)
      → OnErr r (IsReadInPart contents begun now file judging named) → session.audit.judge.judging ≡ judging → IsReadInPart contents begun now file judging named
  either_way (Ok x) begun now file session judging named through part same = through_so begun now file session judging named through same
  either_way (Err e) begun now file session judging named through part same = part

  -- what waited is told then, or in part
  pub part_of_recording : (begun mid now : Teller W) (dropped : ℕ) (file : Option (List ℕ)) (judging : Judging) (named : List ℕ) → IsReadInPart contents begun mid file judging named
      → PrintsPartWith contents dropped mid.printer now.printer mid.held.items → now.held.items ≡ [] → IsRecordingToldInPart contents begun now file judging named
  part_of_recording begun mid now dropped file judging named is prints none = record {
    history = is.history;
    carried = is.carried;
    noticed = is.noticed;
    tellings = is.tellings;
    dropped = dropped;
    end = None;
    read = is.read;
    came = is.came;
    ended = tt;
    may_lose = is.may_lose;
    classic = is.classic;
    told = held_in_part contents is.may_lose begun mid now dropped judging named (so_far is.history is.carried is.noticed) is.tellings is.has_told prints none;
    in_order = are_in_order begun.file.now judging named None (so_far is.history is.carried is.noticed) is.tellings is.has_told.told;
  }

  -- what waited is told, and of the rest a part
  pub rest_in_part : (begun mid late now : Teller W) (file : Option (List ℕ)) (session : Session) (judging : Judging) (named : List ℕ) → (is : IsReadThrough contents begun mid file session named)
      → PrintsAllWith contents session.notes.dropped mid.printer late.printer mid.held.items → late.held.items ≡ []
      → late ≡ record mid { printer = late.printer; held = late.held; may_lose = false; dropped = session.notes.dropped }
      → session.audit.judge.judging ≡ judging
      → TellsTurnsPart contents (JudgesAs session) late now session.audit.judge.judging named (numbers_of is.tellings) is.history is.carried (giving_up (frames_in is.recording.waiting) is.noticed)
      → IsRecordingToldInPart contents begun now file judging named
  rest_in_part begun mid late now file session judging named is prints none late_is same turns =
      let here = session.audit.judge.judging in
      let lost = session.notes.dropped in
      let waiting = frames_in is.recording.waiting in
      let all = so_far is.history is.carried is.noticed in
      let last = once_ended is.recording all in
      let held : HasToldAll contents begun late is.may_lose lost here named (Some last) all is.tellings = held_told contents is.may_lose begun mid late lost here named (Some last) all is.tellings is.has_told prints none late_is in
      let more = told_in_turn contents (JudgesAs session) named is.history is.carried (giving_up waiting is.noticed)
      (λ t us. HasToldAll contents begun t is.may_lose lost here named (Some last) all us)
      (λ t u d e us was at holds step. has_told_all contents is.may_lose begun t u lost d e here named is.history is.carried is.noticed waiting us was holds is.closed.noticed step)
      turns.turns.told late turns.mid is.tellings turns.turns.left held turns.turns.turns in
      record {
        history = is.history;
        carried = is.carried;
        noticed = is.noticed;
        tellings = more.0;
        dropped = lost;
        end = Some last;
        read = inr (is.recording, is.read.bytes, is.read.left, is.read.had, is.read.frames);
        came = is.closed.noticed;
        ended = (is.recording, is.read, not_open is.recording session.notes is.ended, refl);
        may_lose = is.may_lose;
        classic = is.classic;
        told = subst (λ (k : Judging). HasToldInPart contents begun now is.may_lose lost k named (Some last) all more.0) same
            (all_told contents is.may_lose begun turns.mid now lost here named (Some last) all more.0 more.1
            (subst (λ out. (now ≡ turns.mid) ⊎ TellsNextPart contents turns.mid now here named out is.carried) more.2 turns.part));
        in_order = are_in_order begun.file.now here named (Some last) all more.0 more.1.told;
      }
