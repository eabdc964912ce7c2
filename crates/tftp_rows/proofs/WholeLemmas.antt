-- What is told of a recording, transfer by transfer.
use Rattle.std.proofs.Common.{◌≡◌, ◌⊎◌, ◌∷◌, ◌++◌, ◌+◌, ◌-◌, ◌^◌, suc, [], ℕ, Bool, length, max, min, false, List, Option, Some, None, inl, inr, refl, sym, ap, ◌∙◌, subst, append_assoc, append-nil, arith}
use Rattle.net_udp.specs.Recording.{Step}
use Rattle.audit_flows.specs.Lines.{same_address}
use Rattle.audit_recording.specs.Blame.Frames.{Carried}
use Rattle.audit_recording.specs.Losses.Noted.{IsAsked}
use Rattle.audit_recording.specs.Session.Kept.{IsSessionOf}
use Rattle.audit_recording.specs.Session.Noted.{Noticed, giving_up, nothing_noticed}
use Rattle.audit_recording.specs.Session.Over.{IsOldestOver}
use Rattle.audit_recording.specs.Session.Recording.{IsNoticedOf}
use Rattle.audit_recording.specs.declared.judges.judging.Judging.{Judging}
use Rattle.audit_recording.specs.declared.session.session.Session.{Session}
use Rattle.audit_rows.specs.{IsJudgedOf}
use Rattle.audit_rows.specs.declared.judged.Judged.{Judged}
use Rattle.tftp_rows.specs.Printing.{PrintsPart, verdict_lines}
use Rattle.tftp_rows.specs.Telling.{AreRowsAt, AreRowsWith, PrintsAllWith, PrintsPartWith, RefuseNothing, TellsInTurn, TellsNext, TellsNextPart, places_of}
use Rattle.tftp_rows.specs.Whole.{AreMissing, AreTold, HasTold, HasToldAll, HasToldInPart, HasToldPart, IsDue, IsPartOf, IsToldNext, IsToldPart, Part, Telling, all_rows, counted, numbers_of, so_far, worst_of}
use Rattle.tftp_rows.specs.declared.printing.RowPrinter.{RowPrinter}
use Rattle.tftp_rows.specs.declared.row.VerdictRow.{VerdictRow}
use Rattle.tftp_rows.specs.declared.teller.Teller.{Teller}
use Rattle.tftp_rows.proofs.DueLemmas.{asked_in, asked_then, over_then}
use Rattle.tftp_rows.proofs.OrderLemmas.{told_longer}
use Rattle.tftp_rows.proofs.PrintingLemmas.{first_of_none, prints_all_so, prints_both, prints_nothing, prints_part, prints_part_only}
use Rattle.tftp_rows.proofs.TellingLemmas.{all_appended, all_both, all_first, all_part, all_so, with_both}

raised : (a b c w x : ℕ) → c ≡ max b x → b ≡ max a w → c ≡ max a (max w x)
raised a b c w x p q = omega arith

max_none : (a : ℕ) → a ≡ max a 0
max_none a = omega arith

pub one_more : (n m k : ℕ) → m ≡ min (n + 1) (2 ^ 64 - 1) → n ≡ min k (2 ^ 64 - 1) → m ≡ min (suc k) (2 ^ 64 - 1)
one_more n m k p q = omega arith

module _ {W : Type 0} (contents : W → Option (List ℕ)) where
  -- the transfer of a turn
  abbrev pub telling_of : {t u : Teller W} {before after : Session} {named out : List ℕ} {history : List Step} {carried : List Carried} {s : Noticed}
      → TellsNext contents t u before after named out history carried s → Telling
  telling_of step = record { transfer = step.transfer; judged = step.judged; rows = step.rows.rows }

  -- itself is a part of it
  whole_part : (p : Part) → IsPartOf p p
  whole_part p = record { next_frames = []; next_carried = []; frames = refl; datagrams = refl }

  module _ (named : List ℕ) (history : List Step) (carried : List Carried) (s : Noticed) where
    -- what may be missing of the next transfer, by what was noticed, with what has waited in vain or without
    missing_then : (began : Noticed) (waited : List ℕ) (t u : Teller W) (before after : Session) (out : List ℕ) → IsNoticedOf named history carried began
        → (began ≡ s) ⊎ (giving_up waited began ≡ s)
        → (step : TellsNext contents t u before after named out history carried s) → AreMissing step.judged.doubted.missing step.judged.trail s
    missing_then began waited t u before after out came how step =
        let trail = step.judged.trail in
        let asked = asked_in named history carried began step.transfer trail before.audit.judge.judging came step.next.opens step.of.trail in
        record {
          first = step.missing;
          within = step.within (elim how [
            | inl same ↦ subst (λ (r : Noticed). IsAsked (λ host. same_address host trail.transfer.client.address) trail.first r.events) same asked
            | inr same ↦ subst (λ (r : Noticed). IsAsked (λ host. same_address host trail.transfer.client.address) trail.first r.events) same
                (asked_then (λ host. same_address host trail.transfer.client.address) trail.first waited began asked)
          ]);
        }

    told_next : (end : Option Part) (began : Noticed) (waited : List ℕ) (begun t u : Teller W) (before after : Session) (judging : Judging) (ts : List Telling)
        → t.file ≡ begun.file → t.told ≡ counted ts → before.audit.judge.judging ≡ judging → IsNoticedOf named history carried began → (began ≡ s) ⊎ (giving_up waited began ≡ s)
        → (step : TellsNext contents t u before after named (numbers_of ts) history carried s) → IsDue end named (so_far history carried s) step.judged.trail
        → IsToldNext begun.file.now judging named end (so_far history carried s) (telling_of step) ts
    told_next end began waited begun t u before after judging ts file number e came how step due = record {
      next = step.next;
      due = due;
      of = subst (λ k. IsJudgedOf step.judged k step.transfer named carried) e step.of;
      missing = missing_then began waited t u before after (numbers_of ts) came how step;
      beside = step.beside;
      undelivered = step.undelivered;
      until = step.until;
      rows = subst (λ n. AreRowsAt begun.file.now n step.judged (places_of step.judged) step.rows.rows) (one_more t.told u.told (length ts) step.number number)
          (subst (λ f. AreRowsAt f.now u.told step.judged (places_of step.judged) step.rows.rows) file step.rows.are);
    }

  part_next : (begun t u : Teller W) (judging : Judging) (named : List ℕ) (carried : List Carried) (ts : List Telling) → t.file ≡ begun.file → t.told ≡ counted ts
      → (step : TellsNextPart contents t u judging named (numbers_of ts) carried)
      → IsToldPart begun.file.now judging named carried (record { transfer = step.transfer; judged = step.judged; rows = step.rows.rows }) ts
  part_next begun t u judging named carried ts file number step = record {
    next = step.next;
    of = step.of;
    first = step.rows.first;
    others = step.rows.others;
    places = step.rows.all;
    rows = subst (λ n. AreRowsAt begun.file.now n step.judged step.rows.first step.rows.rows) (one_more t.told _ (length ts) refl number)
        (subst (λ f. AreRowsAt f.now (min (t.told + 1) (2 ^ 64 - 1)) step.judged step.rows.first step.rows.rows) file step.rows.are);
  }

  -- what waited was printed then, or in part
  pub held_in_part : (lose : Bool) (begun t u : Teller W) (dropped : ℕ) (judging : Judging) (named : List ℕ) (all : Part) (ts : List Telling) → HasToldPart contents begun t lose judging named all ts
      → PrintsPartWith contents dropped t.printer u.printer t.held.items → u.held.items ≡ [] → HasToldInPart contents begun u lose dropped judging named None all ts
  held_in_part lose begun t u dropped judging named all ts h p none = elim h.prints [
    | inl whole ↦ record {
      told = h.told;
      next = h.next;
      are_next = h.are_next;
      early = h.printed;
      late = p.due;
      left = p.others ++ h.left;
      rows = h.rows ∙ ap (λ l. h.printed ++ l) (ap (λ l. l ++ h.left) p.are ∙ append_assoc p.due p.others h.left);
      first = whole.printed;
      last = p.printed;
      are_first = whole.last;
      are_last = p.last;
      prints = prints_part contents verdict_lines begun.printer t.printer u.printer whole.printed p.printed whole.prints p.prints;
      none_waits = none;
      calm = h.calm;
    }
    | inr cut ↦
        (let part = cut.0 in
        let no_due : p.due ≡ [] = first_of_none p.due p.others (sym cut.1 ∙ p.are) in
        let no_rows : p.printed ≡ [] = subst (λ l. AreRowsWith dropped l p.printed) no_due p.last in
        record {
          told = h.told;
          next = h.next;
          are_next = h.are_next;
          early = part.due;
          late = [];
          left = part.others ++ (t.held.items ++ h.left);
          rows = h.rows ∙ (ap (λ l. l ++ (t.held.items ++ h.left)) part.are ∙ append_assoc part.due part.others (t.held.items ++ h.left));
          first = part.printed;
          last = [];
          are_first = part.last;
          are_last = refl;
          prints = subst (PrintsPart contents verdict_lines begun.printer u.printer) (sym (append-nil part.printed))
              (prints_part_only contents verdict_lines begun.printer t.printer u.printer part.printed part.prints (subst (PrintsPart contents verdict_lines t.printer u.printer) no_rows p.prints));
          none_waits = none;
          calm = λ yet. all_first (λ (row : VerdictRow). row.frame ≡ None) part.due part.others (subst RefuseNothing part.are (h.calm yet));
        })
  ]

  as_part : (dropped : ℕ) (s t : RowPrinter W) (rows : List VerdictRow) (P : Type 0) → PrintsAllWith contents dropped s t rows ⊎ (PrintsPartWith contents dropped s t rows × P) → PrintsPartWith contents dropped s t rows
  as_part dropped s t rows P (inl all) = all_so contents dropped s t rows all
  as_part dropped s t rows P (inr part) = part.0

  -- what was over is so once the recording has ended
  pub told_by_end : (name : List ℕ) (judging : Judging) (named : List ℕ) (end : Option Part) (all : Part) (ts : List Telling) → AreTold name judging named None all ts → AreTold name judging named end all ts
  told_by_end name judging named end all [] told = tt
  told_by_end name judging named end all (t ∷ older) told = (
    told.0,
    told.1,
    record {
      next = told.2.next;
      due = elim told.2.due [ inl over ↦ inl over | inr none ↦ absurd (cc) ];
      of = told.2.of;
      missing = told.2.missing;
      beside = told.2.beside;
      undelivered = told.2.undelivered;
      until = told.2.until;
      rows = told.2.rows;
    },
    told_by_end name judging named end told.0 older told.3,
  )

  -- The same of several turns, of what one turn keeps.
  module _ (Holds : Session → Type 0) (named : List ℕ) (history : List Step) (carried : List Carried) (s : Noticed) (Told : Teller W → List Telling → Type 0)
      (one : (t u : Teller W) (before after : Session) (ts : List Telling) → Told t ts → IsSessionOf before named (numbers_of ts) history carried s → Holds before → (step : TellsNext contents t u before after named (numbers_of ts) history carried s) → Told u (telling_of step ∷ ts)) where
    pub told_in_turn : (js : List Judged) (t u : Teller W) (ts : List Telling) (left : List ℕ) → Told t ts → TellsInTurn contents Holds named history carried s js t u (numbers_of ts) left
        → (us : List Telling) × Told u us × (left ≡ numbers_of us)
    told_in_turn [] t u ts left h p = (ts, subst (λ v. Told v ts) (sym p.0) h, p.1)
    told_in_turn (j ∷ js) t u ts left h p = told_in_turn js p.0 u (telling_of p.5 ∷ ts) left (one t p.0 p.1 p.2 ts h p.3 p.4 p.5) p.7

  -- ---- where the recorder may tell later that it lost packets, or not

  module _ (lose : Bool) where
    -- nothing was told since the file was begun
    pub nothing_told : (begun : Teller W) (judging : Judging) (named : List ℕ) → begun.held.items ≡ [] → begun.told ≡ 0 → HasTold contents begun begun lose judging named (so_far [] [] nothing_noticed) []
    nothing_told begun judging named none zero = record {
      told = tt;
      printed = [];
      rows = sym none;
      prints = record { printed = []; last = refl; prints = prints_nothing contents verdict_lines begun.printer };
      file = refl;
      number = zero;
      status = max_none begun.status;
      dropped = refl;
      calm = λ yet. tt;
    }

    -- one transfer more, which is over
    pub has_told : (begun t u : Teller W) (before after : Session) (judging : Judging) (named : List ℕ) (history : List Step) (carried : List Carried) (s : Noticed) (ts : List Telling)
        → HasTold contents begun t lose judging named (so_far history carried s) ts → before.audit.judge.judging ≡ judging → IsNoticedOf named history carried s
        → IsSessionOf before named (numbers_of ts) history carried s → IsOldestOver before named carried s → t.may_lose ≡ lose
        → (step : TellsNext contents t u before after named (numbers_of ts) history carried s) → HasTold contents begun u lose judging named (so_far history carried s) (telling_of step ∷ ts)
    has_told begun t u before after judging named history carried s ts h e came is oldest same step =
        let tells = step.rows.tells in
        let over = over_then before named (numbers_of ts) history carried s step.transfer step.judged.trail before.audit.judge.judging is oldest step.next step.of.trail in
        record {
          told = (
            so_far history carried s,
            whole_part (so_far history carried s),
            told_next named history carried s None s [] begun t u before after judging ts h.file h.number e came (inl refl) step (inl (came, over)),
            h.told,
          );
          printed = h.printed ++ tells.due;
          rows = ap (λ l. l ++ step.rows.rows) h.rows ∙ (append_assoc h.printed t.held.items step.rows.rows
              ∙ (ap (λ l. h.printed ++ l) tells.are ∙ sym (append_assoc h.printed tells.due u.held.items)));
          prints = all_both contents begun.dropped begun.printer t.printer u.printer h.printed tells.due h.prints
              (subst (λ d. PrintsAllWith contents d t.printer u.printer tells.due) h.dropped tells.prints);
          file = tells.file ∙ h.file;
          number = one_more t.told u.told (length ts) step.number h.number;
          status = raised begun.status t.status u.status (worst_of ts) _ step.status h.status;
          dropped = tells.dropped ∙ h.dropped;
          calm = λ yet. all_appended (λ (row : VerdictRow). row.frame ≡ None) h.printed tells.due (h.calm yet) (tells.calm (same ∙ yet));
        }

    -- one transfer more, where none waits and the recording has ended
    pub has_told_all : (begun t u : Teller W) (dropped : ℕ) (before after : Session) (judging : Judging) (named : List ℕ) (history : List Step) (carried : List Carried) (s : Noticed) (waited : List ℕ) (ts : List Telling)
        → HasToldAll contents begun t lose dropped judging named (Some (so_far history carried (giving_up waited s))) (so_far history carried s) ts → before.audit.judge.judging ≡ judging → IsNoticedOf named history carried s
        → (step : TellsNext contents t u before after named (numbers_of ts) history carried (giving_up waited s))
        → HasToldAll contents begun u lose dropped judging named (Some (so_far history carried (giving_up waited s))) (so_far history carried s) (telling_of step ∷ ts)
    has_told_all begun t u dropped before after judging named history carried s waited ts h e came step =
        let last = so_far history carried (giving_up waited s) in
        let tells = step.rows.tells in
        let none : u.held.items ≡ [] = tells.none_waits h.may_lose h.none_waits in
        let due : step.rows.rows ≡ tells.due = ap (λ l. l ++ step.rows.rows) (sym h.none_waits) ∙ (tells.are ∙ (ap (λ l. tells.due ++ l) none ∙ append-nil tells.due)) in
        let prints = subst (λ d. PrintsAllWith contents d t.printer u.printer tells.due) h.dropped_now tells.prints in
        record {
          told = (
            last,
            record { next_frames = []; next_carried = []; frames = refl; datagrams = refl },
            told_next named history carried (giving_up waited s) (Some last) s waited begun t u before after judging ts h.file h.number e came (inr refl) step (inr refl),
            told_longer begun.file.now judging named (Some last) (so_far history carried s) last ts (record { next_frames = []; next_carried = []; frames = refl; datagrams = refl }) h.told,
          );
          early = h.early;
          late = h.late ++ tells.due;
          rows = ap (λ l. l ++ step.rows.rows) h.rows ∙ (ap (λ l. (h.early ++ h.late) ++ l) due ∙ append_assoc h.early h.late tells.due);
          first = h.first;
          last = h.last ++ prints.printed;
          are_first = h.are_first;
          are_last = with_both dropped h.late tells.due h.last prints.printed h.are_last prints.last;
          prints = rw (sym (append_assoc h.first h.last prints.printed)) (prints_both contents verdict_lines begun.printer t.printer u.printer (h.first ++ h.last) prints.printed h.prints prints.prints);
          none_waits = none;
          may_lose = tells.may_lose ∙ h.may_lose;
          file = tells.file ∙ h.file;
          number = one_more t.told u.told (length ts) step.number h.number;
          status = raised begun.status t.status u.status (worst_of ts) _ step.status h.status;
          dropped_now = tells.dropped ∙ h.dropped_now;
          calm = h.calm;
        }

    -- whether the recorder may tell later that it lost packets changes nothing of what was told
    pub loses_too : (begun t : Teller W) (yet : Bool) (judging : Judging) (named : List ℕ) (all : Part) (ts : List Telling)
        → HasTold contents begun t lose judging named all ts → HasTold contents begun (record t { may_lose = yet }) lose judging named all ts
    loses_too begun t yet judging named all ts h =
        record { told = h.told; printed = h.printed; rows = h.rows; prints = h.prints; file = h.file; number = h.number; status = h.status; dropped = h.dropped; calm = h.calm }

    -- what was told, by a teller that knows whether packets may yet be lost
    abbrev pub HasToldSo : Teller W → Judging → List ℕ → Part → Teller W → List Telling → Type 0
    HasToldSo begun judging named all t us = HasTold contents begun t lose judging named all us × (t.may_lose ≡ lose)

    -- one transfer more, by such a teller
    pub has_told_so : (begun t u : Teller W) (before after : Session) (judging : Judging) (named : List ℕ) (history : List Step) (carried : List Carried) (s : Noticed) (ts : List Telling)
        → HasToldSo begun judging named (so_far history carried s) t ts → before.audit.judge.judging ≡ judging → IsNoticedOf named history carried s
        → IsSessionOf before named (numbers_of ts) history carried s → IsOldestOver before named carried s
        → (step : TellsNext contents t u before after named (numbers_of ts) history carried s) → HasToldSo begun judging named (so_far history carried s) u (telling_of step ∷ ts)
    has_told_so begun t u before after judging named history carried s ts (h, same) e came is oldest step =
        (has_told begun t u before after judging named history carried s ts h e came is oldest same step, step.rows.tells.may_lose ∙ same)

    -- those that waited were printed
    pub held_told : (begun t u : Teller W) (dropped : ℕ) (judging : Judging) (named : List ℕ) (end : Option Part) (all : Part) (ts : List Telling) → HasTold contents begun t lose judging named all ts
        → PrintsAllWith contents dropped t.printer u.printer t.held.items → u.held.items ≡ [] → u ≡ record t { printer = u.printer; held = u.held; may_lose = false; dropped = dropped }
        → HasToldAll contents begun u lose dropped judging named end all ts
    held_told begun t u dropped judging named end all ts h p none is = record {
      told = told_by_end begun.file.now judging named end all ts h.told;
      early = h.printed;
      late = t.held.items;
      rows = h.rows;
      first = h.prints.printed;
      last = p.printed;
      are_first = h.prints.last;
      are_last = p.last;
      prints = prints_both contents verdict_lines begun.printer t.printer u.printer h.prints.printed p.printed h.prints.prints p.prints;
      none_waits = none;
      may_lose = ap {A = Teller W} (λ v. v.may_lose) is;
      file = ap {A = Teller W} (λ v. v.file) is ∙ h.file;
      number = ap {A = Teller W} (λ v. v.told) is ∙ h.number;
      status = ap {A = Teller W} (λ v. v.status) is ∙ h.status;
      dropped_now = ap {A = Teller W} (λ v. v.dropped) is;
      calm = h.calm;
    }

    pub told_so_far : (begun now : Teller W) (judging : Judging) (named : List ℕ) (all : Part) (ts : List Telling) → HasTold contents begun now lose judging named all ts
        → HasToldPart contents begun now lose judging named all ts
    told_so_far begun now judging named all ts h = record {
      told = h.told;
      next = [];
      are_next = inl refl;
      printed = h.printed;
      left = [];
      rows = append-nil (all_rows ts) ∙ (h.rows ∙ ap (λ l. h.printed ++ l) (sym (append-nil now.held.items)));
      prints = inl h.prints;
      calm = h.calm;
    }

    -- the next transfer was told in part
    pub told_part : (begun t u : Teller W) (judging : Judging) (named : List ℕ) (all : Part) (ts : List Telling) → HasTold contents begun t lose judging named all ts
        → t.may_lose ≡ lose → TellsNextPart contents t u judging named (numbers_of ts) all.carried → HasToldPart contents begun u lose judging named all ts
    told_part begun t u judging named all ts h same step =
        let rows = step.rows.rows in
        let tells = step.rows.tells in
        record {
          told = h.told;
          next = rows;
          are_next = inr (record { transfer = step.transfer; judged = step.judged; rows = rows }, refl, part_next begun t u judging named all.carried ts h.file h.number step);
          printed = h.printed ++ tells.due;
          left = tells.left;
          rows = ap (λ l. l ++ rows) h.rows ∙ (append_assoc h.printed t.held.items rows
              ∙ (ap (λ l. h.printed ++ l) tells.are ∙ sym (append_assoc h.printed tells.due (u.held.items ++ tells.left))));
          prints = elim tells.prints [
            | inl all ↦ inl (all_both contents begun.dropped begun.printer t.printer u.printer h.printed tells.due h.prints
                (subst (λ d. PrintsAllWith contents d t.printer u.printer tells.due) h.dropped all))
            | inr part ↦ inr (
              all_part contents begun.dropped begun.printer t.printer u.printer h.printed tells.due h.prints
                  (subst (λ d. PrintsPartWith contents d t.printer u.printer tells.due) h.dropped part.0),
              part.1,
            )
          ];
          calm = λ yet. all_appended (λ (row : VerdictRow). row.frame ≡ None) h.printed tells.due (h.calm yet) (tells.calm (same ∙ yet));
        }

    -- none waits, and no more was told
    pub all_so_far : (begun t : Teller W) (dropped : ℕ) (judging : Judging) (named : List ℕ) (end : Option Part) (all : Part) (ts : List Telling) → HasToldAll contents begun t lose dropped judging named end all ts
        → HasToldInPart contents begun t lose dropped judging named end all ts
    all_so_far begun t dropped judging named end all ts h = record {
      told = h.told;
      next = [];
      are_next = inl refl;
      early = h.early;
      late = h.late;
      left = [];
      rows = append-nil (all_rows ts) ∙ (h.rows ∙ ap (λ l. h.early ++ l) (sym (append-nil h.late)));
      first = h.first;
      last = h.last;
      are_first = h.are_first;
      are_last = h.are_last;
      prints = prints_all_so contents verdict_lines begun.printer t.printer (h.first ++ h.last) h.prints;
      none_waits = h.none_waits;
      calm = h.calm;
    }

    -- none waits, and the next transfer was told in part
    pub all_part_next : (begun t u : Teller W) (dropped : ℕ) (judging : Judging) (named : List ℕ) (end : Option Part) (all : Part) (ts : List Telling) → HasToldAll contents begun t lose dropped judging named end all ts
        → TellsNextPart contents t u judging named (numbers_of ts) all.carried → HasToldInPart contents begun u lose dropped judging named end all ts
    all_part_next begun t u dropped judging named end all ts h step =
        let rows = step.rows.rows in
        let tells = step.rows.tells in
        let none : u.held.items ≡ [] = tells.none_waits h.may_lose h.none_waits in
        let part = as_part dropped t.printer u.printer tells.due (u.held.items ≡ []) (subst (λ d. PrintsAllWith contents d t.printer u.printer tells.due ⊎ (PrintsPartWith contents d t.printer u.printer tells.due × (u.held.items ≡ []))) h.dropped_now tells.prints) in
        let due : rows ≡ part.due ++ (part.others ++ tells.left) =
        ap (λ l. l ++ rows) (sym h.none_waits) ∙ (tells.are ∙ (ap (λ l. tells.due ++ (l ++ tells.left)) none ∙ (ap (λ l. l ++ tells.left) part.are ∙ append_assoc part.due part.others tells.left))) in
        record {
          told = h.told;
          next = rows;
          are_next = inr (record { transfer = step.transfer; judged = step.judged; rows = rows }, refl, part_next begun t u judging named all.carried ts h.file h.number step);
          early = h.early;
          late = h.late ++ part.due;
          left = part.others ++ tells.left;
          rows = ap (λ l. l ++ rows) h.rows ∙ (append_assoc h.early h.late rows
              ∙ ap (λ l. h.early ++ l) (ap (λ l. h.late ++ l) due ∙ sym (append_assoc h.late part.due (part.others ++ tells.left))));
          first = h.first;
          last = h.last ++ part.printed;
          are_first = h.are_first;
          are_last = with_both dropped h.late part.due h.last part.printed h.are_last part.last;
          prints = subst (PrintsPart contents verdict_lines begun.printer u.printer) (append_assoc h.first h.last part.printed)
              (prints_part contents verdict_lines begun.printer t.printer u.printer (h.first ++ h.last) part.printed h.prints part.prints);
          none_waits = none;
          calm = h.calm;
        }
