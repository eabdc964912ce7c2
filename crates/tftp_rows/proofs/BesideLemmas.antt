-- What is noted beside a transfer that is over stays as it is.
use Rattle.std.proofs.Common.{◌≡◌, ◌≤◌, ◌<◌, ◌+◌, ◌==◌, ◌&&◌, ◌∷◌, ◌++◌, nat_le, min, max, ℕ, Bool, true, false, cond, List, [], length, Option, Some, None, inl, inr, refl, sym, ap, subst, ◌∙◌, append_assoc, length-append, unwrap_or, arith}
use Rattle.std.specs.List.{AllByRecursion}
use Rattle.std.proofs.lemmas.Bool.Decides.{nat_tests}
use Rattle.net_udp.specs.{Fate}
use Rattle.net_udp.specs.Recording.{EventState, Step}
use Rattle.net_udp.specs.declared.recording.fate.Fate.TheVariants.{Datagram, Discarded, Left, Waits}
use Rattle.net_udp.specs.declared.recording.fate.LeftOut.{LeftOut}
use Rattle.law_model.specs.Rules.{or_this}
use Rattle.audit_flows.specs.Lines.{Recorded, silence}
use Rattle.audit_flows.specs.{Place, Transfer}
use Rattle.audit_flows.specs.declared.lines.place.Place.TheVariants.{Opens, Repeats, Talks, Apart, Beside, Nowhere}
use Rattle.audit_flows.specs.Transfers.{is_about}
use Rattle.audit_flows.proofs.LinesLemmas.Lines.{by_test}
use Rattle.audit_spared.specs.Finality.{IsSilent}
use Rattle.audit_recording.specs.Blame.Frames.{Carried, framed_after, whole_of}
use Rattle.audit_recording.specs.Judges.{opened}
use Rattle.audit_recording.specs.Losses.Kept.{lesser}
use Rattle.audit_recording.specs.Reasons.Clock.{last_of}
use Rattle.audit_recording.specs.Reasons.Listed.{up_to}
use Rattle.audit_recording.specs.Reasons.Unplaced.{after, latest_at}
use Rattle.audit_recording.specs.Session.Beside.{Mark, discarded_beside, events_of, gone_of, is_newest_at, last_time_of, left_out_of}
use Rattle.audit_recording.specs.Session.Beside.Mark.{Begins, Discards, Joins, Strays}
use Rattle.audit_recording.specs.Session.Discards.{before_opening, newest_at}
use Rattle.audit_recording.specs.Session.Noted.{Noticed, finding, giving_up, is_none, may_be_datagram, sharers_of, with_time}
use Rattle.audit_recording.specs.Session.Recording.{AddsOne, IsNoticedOf, Leaves, gone_by, letting_go, marks_with, placing, reached_by}
use Rattle.audit_recording.specs.declared.judges.judging.Judging.{Judging}
use Rattle.audit_recording.proofs.SessionLemmas.Marking.{placing_beside}
use Rattle.tftp_rows.specs.Whole.{AreBeside, AreTold, IsBesideTold, IsPartOf, IsToldNext, Part, Telling}
use Rattle.tftp_rows.proofs.FinalLemmas.{new_apart, silent_of}
use Rattle.tftp_rows.proofs.LackingLemmas.{trail_within}
use Rattle.tftp_rows.proofs.LaterLemmas.{as_many, behind, noticed_once, one_carried, reached_with, rest_same}
use Rattle.tftp_rows.proofs.OrderLemmas.{part_of}

-- ---- marks of others

-- It is of another transfer than this one; or passed at this moment or later; or stands in a frame behind these.
abbrev IsOther : ℕ → ℕ → ℕ → Mark → Type 0
IsOther n newest moment (Begins x time) = (x.number == n) ≡ false
IsOther n newest moment (Joins m time) = (m == n) ≡ false
IsOther n newest moment (Strays source target payload m when) = moment ≤ when
IsOther n newest moment (Discards g) = newest < g.frame

abbrev AreOthers : ℕ → ℕ → ℕ → List Mark → Type 0
AreOthers n newest moment later = AllByRecursion (IsOther n newest moment) later

last_time_still : (n newest moment : ℕ) (later marks : List Mark) → AreOthers n newest moment later → last_time_of n (later ++ marks) ≡ last_time_of n marks
last_time_still n newest moment [] marks others = refl
last_time_still n newest moment (Begins x time ∷ later) marks others =
    ap (λ b. cond b 0 (last_time_of n (later ++ marks))) others.0 ∙ last_time_still n newest moment later marks others.1
last_time_still n newest moment (Joins m time ∷ later) marks others =
    ap (λ b. cond b (max (last_time_of n (later ++ marks)) time) (last_time_of n (later ++ marks))) others.0 ∙ last_time_still n newest moment later marks others.1
last_time_still n newest moment (Strays source target payload m when ∷ later) marks others = last_time_still n newest moment later marks others.1
last_time_still n newest moment (Discards g ∷ later) marks others = last_time_still n newest moment later marks others.1

and_off : (a b : Bool) → b ≡ false → (a && b) ≡ false
and_off true b off = off
and_off false b off = refl

or_off : (o : Option ℕ) (b : Bool) (frame : ℕ) → b ≡ false → or_this o b frame ≡ o
or_off None b frame off = ap (λ k. or_this None k frame) off
or_off (Some k) b frame off = refl

beyond_time : (when last moment : ℕ) → last + silence < moment → moment ≤ when → nat_le when (last + silence) ≡ false
beyond_time when last moment late up = grind (arith, nat_tests)

left_still : (n newest moment : ℕ) (later marks : List Mark) → last_time_of n marks + silence < moment → AreOthers n newest moment later → left_out_of n (later ++ marks) ≡ left_out_of n marks
left_still n newest moment [] marks late others = refl
left_still n newest moment (Begins x time ∷ later) marks late others =
    ap (λ b. cond b (after time (latest_at x.client (events_of (later ++ marks)))) (left_out_of n (later ++ marks))) others.0 ∙ left_still n newest moment later marks late others.1
left_still n newest moment (Joins m time ∷ later) marks late others = left_still n newest moment later marks late others.1
left_still n newest moment (Strays source target payload m when ∷ later) marks late others =
    let all = later ++ marks in
    let same = last_time_still n newest moment later marks others.1 in
    let off : nat_le when (last_time_of n all + silence) ≡ false = ap (λ k. nat_le when (k + silence)) same ∙ beyond_time when (last_time_of n marks) moment late others.0 in
    or_off (left_out_of n all) (is_newest_at n source target all && nat_le when (last_time_of n all + silence)) m.frame
    (and_off (is_newest_at n source target all) (nat_le when (last_time_of n all + silence)) off)
    ∙ left_still n newest moment later marks late others.1
left_still n newest moment (Discards g ∷ later) marks late others = left_still n newest moment later marks late others.1

-- a frame behind that one
low_min : (j k frame : ℕ) → frame < k → cond (nat_le (min j k) frame) (Some (min j k)) None ≡ cond (nat_le j frame) (Some j) None
low_min j k frame late = by_test (nat_le j frame)
    (λ is. let same : min j k ≡ j = grind (arith, nat_tests) in ap (λ m. cond (nat_le m frame) (Some m) None) same)
    (λ off.
    let high : nat_le (min j k) frame ≡ false = grind (arith, nat_tests) in
    ap (λ b. cond b (Some (min j k)) None) high ∙ sym (ap (λ b. cond b (Some j) None) off))

beyond_frame : (b : Bool) (o : Option ℕ) (k frame : ℕ) → frame < k → up_to frame (cond b (lesser o (Some k)) o) ≡ up_to frame o
beyond_frame false o k frame late = refl
beyond_frame true None k frame late = let high : nat_le k frame ≡ false = grind (arith, nat_tests) in ap (λ b. cond b (Some k) None) high
beyond_frame true (Some j) k frame late = low_min j k frame late

discards_still : (n newest moment : ℕ) (later marks : List Mark) (frame : ℕ) → frame ≤ newest → AreOthers n newest moment later
    → up_to frame (discarded_beside n (later ++ marks)) ≡ up_to frame (discarded_beside n marks)
discards_still n newest moment [] marks frame low others = refl
discards_still n newest moment (Begins x time ∷ later) marks frame low others =
    ap (λ b. up_to frame (cond b (before_opening time (newest_at x.client (gone_of (later ++ marks)))) (discarded_beside n (later ++ marks)))) others.0
    ∙ discards_still n newest moment later marks frame low others.1
discards_still n newest moment (Joins m time ∷ later) marks frame low others = discards_still n newest moment later marks frame low others.1
discards_still n newest moment (Strays source target payload m when ∷ later) marks frame low others = discards_still n newest moment later marks frame low others.1
discards_still n newest moment (Discards g ∷ later) marks frame low others =
    let behind_it : frame < g.frame = (let up = others.0 in omega arith) in
    beyond_frame (is_newest_at n g.source g.target (later ++ marks)) (discarded_beside n (later ++ marks)) g.frame frame behind_it
    ∙ discards_still n newest moment later marks frame low others.1

-- ---- what one frame adds

placing_times : (place : Place) (event : EventState) (c : Carried) (s : Noticed) → (placing place event c s).times ≡ with_time c.time s.times
placing_times (Opens x) event c s = refl
placing_times (Repeats x) event c s = refl
placing_times (Talks x) event c s = refl
placing_times (Apart e) event c s = refl
placing_times (Beside x) event c s = refl
placing_times Nowhere event c s = refl

module _ (n newest moment : ℕ) (was : List Mark) where
  -- behind these marks others have come
  abbrev HaveCome : List Mark → Type 0
  HaveCome marks = (later : List Mark) × (marks ≡ later ++ was) × AreOthers n newest moment later

  abbrev GoesBy : Noticed → Type 0
  GoesBy s = HaveCome s.beside × (moment ≤ reached_by s.times)

  same_marks : (s t : Noticed) → t.beside ≡ s.beside → t.times ≡ s.times → GoesBy s → GoesBy t
  same_marks s t marks times by = (subst HaveCome (sym marks) by.0, subst (λ l. moment ≤ reached_by l) (sym times) by.1)

  stray_later : (time : Option ℕ) (times : List ℕ) → moment ≤ reached_by times → moment ≤ max (unwrap_or time (last_of times)) (reached_by times)
  stray_later time times up = omega arith

  marks_by : (d : Recorded) (now : ℕ) (place : Place) → is_about n (record { datagram = d; moment = now; place = place }) ≡ false → (c : Carried) (times : List ℕ) (marks : List Mark) → moment ≤ reached_by times
      → HaveCome marks → HaveCome (marks_with place c times marks)
  marks_by d now (Opens x) off c times marks up come =
      (Joins x.number (unwrap_or c.time 0) ∷ Begins x (unwrap_or c.time (last_of times)) ∷ come.0, ap (λ l. Joins x.number (unwrap_or c.time 0) ∷ Begins x (unwrap_or c.time (last_of times)) ∷ l) come.1, (off, (off, come.2)))
  marks_by d now (Repeats x) off c times marks up come = (Joins x.number (unwrap_or c.time 0) ∷ come.0, ap (λ l. Joins x.number (unwrap_or c.time 0) ∷ l) come.1, (off, come.2))
  marks_by d now (Talks x) off c times marks up come = (Joins x.number (unwrap_or c.time 0) ∷ come.0, ap (λ l. Joins x.number (unwrap_or c.time 0) ∷ l) come.1, (off, come.2))
  marks_by d now (Apart e) off c times marks up come = come
  marks_by d now (Beside x) off c times marks up come = come
  marks_by d now Nowhere off c times marks up come =
      let one : Mark = Strays c.datagram.source c.datagram.target c.datagram.payload (record { frame = c.frame; time = unwrap_or c.time (last_of times) }) (max (unwrap_or c.time (last_of times)) (reached_by times)) in
      (one ∷ come.0, ap (λ l. one ∷ l) come.1, (stray_later c.time times up, come.2))

  module _ (event : EventState) (after_these : newest < event.frame.number) where
    left_by : (b : Bool) (why : LeftOut) (s t : Noticed) → Leaves b why event s t → GoesBy s → GoesBy t
    left_by true why s t (hosts, header, are, is, same) by = same_marks s t (ap (λ (r : Noticed). r.beside) same) (ap (λ (r : Noticed). r.times) same) by
    left_by false why s t same by =
        same_marks s t
        (ap (λ (r : Noticed). r.beside) same ∙ either_beside (is_none why))
        (ap (λ (r : Noticed). r.times) same ∙ either_times (is_none why)) by
      where
        either_beside : (b : Bool) → (cond b (finding (reached_by s.times) (sharers_of event) s) s).beside ≡ s.beside
        either_beside true = refl
        either_beside false = refl

        either_times : (b : Bool) → (cond b (finding (reached_by s.times) (sharers_of event) s) s).times ≡ s.times
        either_times true = refl
        either_times false = refl

    adds_by : (named : List ℕ) (fate : Fate) (older : List Carried) (s : Noticed) (all : List Carried) (t : Noticed) → AddsOne named event fate older s all t
        → ((c : Carried) → is_about n (framed_after named older c).placed ≡ false) → GoesBy s → GoesBy t
    adds_by named (Datagram given) older s all t (c, is, more, same) off by =
        let p = (framed_after named older c).placed in
        let up : moment ≤ reached_by (with_time c.time s.times) = (let before = by.1 in let more_of = reached_with c.time s.times in omega arith) in (
          subst HaveCome (sym (ap (λ (r : Noticed). r.beside) same ∙ placing_beside p.place event c s)) (marks_by p.datagram p.moment p.place (off c) c (with_time c.time s.times) s.beside up by.0),
          subst (λ l. moment ≤ reached_by l) (sym (ap (λ (r : Noticed). r.times) same ∙ placing_times p.place event c s)) up,
        )
    adds_by named (Left why) older s all t (more, leaves) off by = left_by (may_be_datagram why) why s t leaves by
    adds_by named Waits older s all t (more, (hosts, are, same)) off by = same_marks s t (ap (λ (r : Noticed). r.beside) same) (ap (λ (r : Noticed). r.times) same) by
    adds_by named (Discarded given) older s all t (more, same) off by = (
      subst HaveCome (sym (ap (λ (r : Noticed). r.beside) same)) (Discards (gone_by event given s.times) ∷ by.0.0, ap (λ l. Discards (gone_by event given s.times) ∷ l) by.0.1, (after_these, by.0.2)),
      subst (λ l. moment ≤ reached_by l) (sym (ap (λ (r : Noticed). r.times) same)) by.1,
    )

-- ---- what later frames add

module _ (named : List ℕ) (history : List Step) (carried : List Carried) (s : Noticed) (came : IsNoticedOf named history carried s) (x : Transfer) (opens : opened x.number (whole_of named carried) ≡ Some x)
    (silent : IsSilent x.client (whole_of named carried)) where
  as_it_was : (later all : List Carried) (t : Noticed) → all ≡ later ++ carried → IsNoticedOf named history all t → t ≡ s
  as_it_was [] all t is whole = noticed_once named history carried t s (subst (λ (l : List Carried). IsNoticedOf named history l t) is whole) came
  as_it_was (c ∷ later) all t is whole =
      let many : length all ≡ length carried = as_many named history all carried t s whole came in
      let more : length all ≡ length (c ∷ later ++ carried) = ap length is in
      let sum = length-append later carried in
      absurd (omega (arith, many, more, sum))

  goes_by : (next : List Step) (later all : List Carried) (t : Noticed) → all ≡ later ++ carried → IsNoticedOf named (next ++ history) all t → GoesBy x.number (length history) (reached_by s.times) s.beside t
  goes_by [] later all t is whole =
      subst (GoesBy x.number (length history) (reached_by s.times) s.beside) (sym (as_it_was later all t is whole)) (([], refl, tt), omega arith)
  goes_by (step ∷ next) later all t is whole =
      let older = whole.0 in
      let u = whole.1 in
      let event = whole.2 in
      let at = behind named next history older u whole.4 in
      let one = one_carried named event whole.3 older (letting_go event.brought u) all t whole.7 in
      let total : later ++ carried ≡ (one.0 ++ at.later) ++ at.carried = sym is ∙ (one.1 ∙ (ap (λ l. one.0 ++ l) at.datagrams ∙ sym (append_assoc one.0 at.later at.carried))) in
      let same : carried ≡ at.carried = rest_same later (one.0 ++ at.later) carried at.carried total (as_many named history carried at.carried s at.noticed came at.came) in
      let before : older ≡ at.later ++ carried = at.datagrams ∙ ap (λ l. at.later ++ l) (sym same) in
      let by = goes_by next at.later older u before whole.4 in
      let long = length-append next history in
      let number = whole.5.number in
      let after_these : length history < event.frame.number = omega (arith, long, number) in
      adds_by x.number (length history) (reached_by s.times) s.beside event after_these named whole.3 older (letting_go event.brought u) all t whole.7
      (λ c. subst (λ (l : List Carried). is_about x.number (framed_after named l c).placed ≡ false) (sym before) (new_apart named carried x opens silent c at.later))
      (same_marks x.number (length history) (reached_by s.times) s.beside u (letting_go event.brought u) refl refl by)

  module _ (late : last_time_of x.number s.beside + silence < reached_by s.times) (next : List Step) (later : List Carried) (t : Noticed) (whole : IsNoticedOf named (next ++ history) (later ++ carried) t) where
    come : HaveCome x.number (length history) (reached_by s.times) s.beside t.beside
    come = (goes_by next later (later ++ carried) t refl whole).0

    pub left_out_stays : left_out_of x.number t.beside ≡ left_out_of x.number s.beside
    left_out_stays = ap (left_out_of x.number) come.1 ∙ left_still x.number (length history) (reached_by s.times) come.0 s.beside late come.2

    pub discarded_stays : (frame : ℕ) → frame ≤ length history → up_to frame (discarded_beside x.number t.beside) ≡ up_to frame (discarded_beside x.number s.beside)
    discarded_stays frame low =
        ap (λ l. up_to frame (discarded_beside x.number l)) come.1 ∙ discards_still x.number (length history) (reached_by s.times) come.0 s.beside frame low come.2

-- ---- what is told of it

beside_one : (name : List ℕ) (judging : Judging) (named : List ℕ) (waiting : List ℕ) (p all : Part) (t : Telling) (older : List Telling) → IsPartOf p all → IsNoticedOf named all.history all.carried all.noticed
    → IsToldNext name judging named (Some (record all { noticed = giving_up waiting all.noticed })) p t older → IsBesideTold all.noticed.beside t
beside_one name judging named waiting p all t older part whole told =
    elim told.due [
      | inl over ↦ (
          let here : IsNoticedOf named (part.next_frames ++ p.history) (part.next_carried ++ p.carried) all.noticed =
          subst (λ (l : List Carried). IsNoticedOf named (part.next_frames ++ p.history) l all.noticed) part.datagrams
          (subst (λ (h : List Step). IsNoticedOf named h all.carried all.noticed) part.frames whole) in
          let silent = silent_of t.judged judging t.transfer named p.carried p.noticed told.of over.1 in
          let late : last_time_of t.transfer.number p.noticed.beside + silence < reached_by p.noticed.times =
          subst (λ k. k + silence < reached_by p.noticed.times) told.beside.last_time over.1.past.silent in
          let last = trail_within named p.history p.carried p.noticed t.transfer t.judged.trail judging over.0 told.next.opens told.of.trail in
          record {
            left_out = told.beside.left_out ∙ sym (left_out_stays named p.history p.carried p.noticed over.0 t.transfer told.next.opens silent late part.next_frames part.next_carried all.noticed here);
            discarded = λ frame low. ap (up_to frame) told.beside.discarded
                ∙ sym (discarded_stays named p.history p.carried p.noticed over.0 t.transfer told.next.opens silent late part.next_frames part.next_carried all.noticed here frame (omega arith));
          })
      | inr end ↦ (
          let this : record all { noticed = giving_up waiting all.noticed } ≡ p = cc in
          let same : all.noticed.beside ≡ p.noticed.beside = ap (λ (q : Part). q.noticed.beside) this in
          record {
            left_out = told.beside.left_out ∙ ap (left_out_of t.transfer.number) (sym same);
            discarded = λ frame low. ap (up_to frame) (told.beside.discarded ∙ ap (discarded_beside t.transfer.number) (sym same));
          })
    ]

pub are_beside : (name : List ℕ) (judging : Judging) (named : List ℕ) (waiting : List ℕ) (all p : Part) (ts : List Telling) → IsPartOf p all → IsNoticedOf named all.history all.carried all.noticed
    → AreTold name judging named (Some (record all { noticed = giving_up waiting all.noticed })) p ts → AreBeside all.noticed.beside ts
are_beside name judging named waiting all p [] part whole told = tt
are_beside name judging named waiting all p (t ∷ older) part whole told =
    let here = part_of told.0 p all told.1 part in
    (beside_one name judging named waiting told.0 all t older here whole told.2, are_beside name judging named waiting all told.0 older here whole told.3)
