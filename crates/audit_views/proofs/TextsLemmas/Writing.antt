-- What one datagram, and then the whole, adds to a text.
use Rattle.std.proofs.Common.{◌≡◌, ℕ, Bool, true, false, cond, List, [], ◌∷◌, ◌++◌, All, Option, Result, Ok, Err, reverse, take, append_assoc, append-nil, sym, ap, ◌∙◌, subst, OnOk}
use Rattle.std.specs.Io.KnownBytes.{Appends}
use Rattle.std.proofs.lemmas.List.Elements.{All-cons, All-nil}
use Rattle.tftp_capture.specs.CaptureText.{Datagram, Header}
use Rattle.tftp_capture.specs.{Entry, HasWrittenHosts}
use Rattle.net_streams.specs.Streams.{Sink, Writes, Wrote}
use Rattle.net_streams.specs.{WriteFault}
use Rattle.tftp_capture.specs.Commented.Entry.{Comment, Passed}
use Rattle.tftp_packet.specs.{Dir}
use Rattle.tftp_packet.specs.{End}
use Rattle.audit_flows.specs.Lines.{Placed}
use Rattle.audit_flows.specs.{Transfer}
use Rattle.audit_flows.specs.Transfers.{AreEndsAfter}
use Rattle.audit_views.specs.Views.{Naming, captured, captured_as}
use Rattle.audit_views.proofs.ViewsLemmas.Feeding.{fed_as}
use Rattle.audit_views.specs.Texts.{AreNotesAfter, HasComment, IsComment, IsNoted, Notes, Worded, about_in, captured_at, entries_at, entries_of, is_seen, placed_in, way_at}
use Rattle.audit_views.specs.declared.texts.noted.Noted.{Noted}

pub on_written : {A B : Type 0} (r : Result (Unit {0}) WriteFault) → (A → B) → OnOk r A → OnOk r B
on_written (Ok u) f a = f a
on_written (Err e) f a = tt

-- what was written of a text that was closed
pub on_closed : {W A : Type 0} (contents : W → Option (List ℕ)) (s t u : Sink W) (r : Result (Unit {0}) WriteFault) (total bytes : List ℕ) → s.failed ≡ false → Writes contents t u r total
    → OnOk r (Appends (contents s.inner) (contents u.inner) (s.waits ++ bytes)) → (Wrote contents s u bytes → A) → OnOk r A
on_closed contents s t u (Ok x) total bytes clean closed appended f = f (clean, closed.1, closed.2, appended)
on_closed contents s t u (Err e) total bytes clean closed appended f = tt

module _ {W : Type 0} (contents : W → Option (List ℕ)) (start now : Sink W) (count : ℕ) (header : Header) (entries : List Entry) where
  -- entries were added, of which this is known
  abbrev pub HasAdded : (List Entry → Type 0) → Type 0
  HasAdded P = (more : List Entry) × HasWrittenHosts contents start now count header (entries ++ more) × All HasComment more × P more

  pub added_none : (P : List Entry → Type 0) → HasWrittenHosts contents start now count header entries → P [] → HasAdded P
  added_none P h none = ([], subst (HasWrittenHosts contents start now count header) (sym (append-nil entries)) h, All-nil HasComment, none)

  pub added_one : (words : List ℕ) (d : Datagram) (P : List Entry → Type 0) → IsComment words → P (Comment words ∷ Passed d ∷ []) → HasWrittenHosts contents start now count header ((entries ++ Comment words ∷ []) ++ Passed d ∷ []) → HasAdded P
  added_one words d P comment is h = (
    Comment words ∷ Passed d ∷ [],
    subst (HasWrittenHosts contents start now count header) (append_assoc entries (Comment words ∷ []) (Passed d ∷ [])) h,
    All-cons HasComment (Comment words) (Passed d ∷ []) comment (All-cons HasComment (Passed d) [] tt (All-nil HasComment)),
    is,
  )

module _ (end : End) (name : Naming) (x : Transfer) (whole : List Placed) (w : Worded) where
  abbrev entry_pair : Datagram → List Entry
  entry_pair d = Comment w.words ∷ Passed d ∷ []

  pub unseen : is_seen end x.number whole w.placed ≡ false → [] ≡ entries_of end name x whole w
  unseen off = sym (ap (λ (b : Bool). cond b (entry_pair (captured_at end name x whole w.placed)) []) off)

  module _ (n : Noted) (is_noted : IsNoted name n w) (is : is_seen end x.number whole w.placed ≡ true) where
    pub shown : (way : Dir) → way ≡ way_at end x whole w.placed → Comment n.comment ∷ Passed (captured_as way n.held.source n.held.target n.held.payload) ∷ [] ≡ entries_of end name x whole w
    shown way is_way =
        ap (λ (l : List ℕ). Comment l ∷ Passed (captured_as way n.held.source n.held.target n.held.payload) ∷ []) is_noted.words
        ∙ ap entry_pair (sym (ap (λ (v : Dir). captured name v w.placed.datagram) (sym is_way) ∙ fed_as name w.placed n.held is_noted.fed way))
        ∙ sym (ap (λ (b : Bool). cond b (entry_pair (captured_at end name x whole w.placed)) []) is)

-- these are what a datagram that was noted so adds to the end's text
abbrev pub ShowsNote : End → Notes → Noted → List Entry → Type 0
ShowsNote end t n more = (name : Naming) (w : Worded) (placed : List Placed) → AreEndsAfter t.ends placed → t.ends.number ≡ t.transfer.number
    → IsNoted name n w → more ≡ entries_of end name t.transfer placed w

-- these are what the first of the notes add to the end's text
abbrev pub ShowsNotes : End → Notes → ℕ → List Entry → Type 0
ShowsNotes end t count more = (name : Naming) (worded : List Worded) → AreNotesAfter t name worded
    → more ≡ entries_at end name t.transfer (placed_in worded) (take count (reverse (about_in t.transfer.number worded)))
