-- The entries of a text, and the capture that it is.
use Rattle.std.proofs.Common.{◌≡◌, ℕ, ◌≤◌, ◌^◌, Bool, true, false, cond, List, [], ◌∷◌, ◌++◌, length, filter, map, reverse, All, None, Option, Result, append-nil, refl, sym, ap, ◌∙◌, subst}
use Rattle.std.proofs.lemmas.List.{map-append, reverse-append}
use Rattle.std.proofs.lemmas.List.Concat.{flat_map-append}
use Rattle.std.proofs.lemmas.List.Elements.{All-cons, All-head, All-nil, All-tail}
use Rattle.tftp_capture.specs.CaptureText.{Datagram, Header}
use Rattle.tftp_capture.specs.{IsCapture, IsLawful, IsPort, Entry, IsEntry, numbered_in, said_in}
use Rattle.tftp_capture.specs.Commented.Entry.{Comment, Passed}
use Rattle.tftp_capture.proofs.Commented.{commented_is_read, unnumbered-in}
use Rattle.law_model.specs.Model.{Meaning}
use Rattle.tftp_packet.specs.{Rollover}
use Rattle.tftp_judge.specs.{IsTextVerdictBy, unnumbered, IsSaid, IsSaidBy, Refusal}
use Rattle.tftp_packet.specs.{End, Client, Server}
use Rattle.audit_flows.specs.Lines.{Placed}
use Rattle.audit_flows.specs.{Transfer}
use Rattle.audit_flows.specs.Transfers.{is_about}
use Rattle.audit_flows.proofs.LinesLemmas.Lines.{by_test}
use Rattle.audit_flows.proofs.TransfersLemmas.OwnDatagrams.{about_none, seen_none}
use Rattle.audit_views.specs.Views.{Naming, of_text}
use Rattle.audit_views.proofs.ViewsLemmas.Judging.{text_verdict}
use Rattle.audit_views.specs.Texts.{HasComment, IsTextOf, Worded, about_in, capture_at, captured_at, entries_at, entries_of, is_seen, placed_in}
use Rattle.audit_views.proofs.TextsLemmas.Captures.{capture_back}

pub said-append : (entries more : List Entry) → said_in (entries ++ more) ≡ said_in entries ++ said_in more
said-append [] more = refl
said-append (Comment words ∷ es) more = said-append es more
said-append (Passed d ∷ es) more = ap (λ l. d ∷ l) (said-append es more)

can_stand : (entries : List Entry) → All HasComment entries → All IsLawful (said_in entries) → All IsEntry entries
can_stand [] c l = All-nil IsEntry
can_stand (Comment words ∷ es) c l = All-cons IsEntry (Comment words) es (All-head HasComment (Comment words) es c) (can_stand es (All-tail HasComment (Comment words) es c) l)
can_stand (Passed d ∷ es) c l =
    All-cons IsEntry (Passed d) es (All-head IsLawful d (said_in es) l) (can_stand es (All-tail HasComment (Passed d) es c) (All-tail IsLawful d (said_in es) l))

module _ (text : List ℕ) (h : Header) (given : List Datagram) (t : IsTextOf text h given) (port : IsPort h.service) (plain : h.rollover ≡ None) (lawful : All IsLawful (reverse given)) (short : length text ≤ 2 ^ 40) where
  pub is_read : IsCapture text h (numbered_in 4 t.entries)
  is_read =
      rw t.are (commented_is_read h t.entries port plain (can_stand t.entries t.comments (subst (All IsLawful) (sym t.says) lawful)) (subst (λ l. length l ≤ 2 ^ 40) t.are short))

  pub said_so : unnumbered (numbered_in 4 t.entries) ≡ reverse given
  said_so = unnumbered-in 4 t.entries ∙ t.says

  pub has_verdict : (rollover : Option Rollover) (said : Result Meaning Refusal) → IsSaid said → IsSaidBy rollover said h (reverse given) → IsTextVerdictBy rollover text (of_text said)
  has_verdict rollover said of is = text_verdict rollover text h (numbered_in 4 t.entries) is_read said of (subst (λ l. IsSaidBy rollover said h l) (sym said_so) is)

-- ---- the entries of what an end saw

unseen_by : (end : End) (n : ℕ) (whole : List Placed) (p : Placed) → is_about n p ≡ false → is_seen end n whole p ≡ false
unseen_by Client n whole p off = about_none n p off
unseen_by Server n whole p off = seen_none n whole p off

module _ (end : End) (name : Naming) (x : Transfer) (whole : List Placed) where
  pub entries_more : (vs ws : List Worded) → entries_at end name x whole (vs ++ ws) ≡ entries_at end name x whole vs ++ entries_at end name x whole ws
  entries_more vs ws = flat_map-append (entries_of end name x whole) vs ws

  pub entries_one : (w : Worded) → entries_at end name x whole (w ∷ []) ≡ entries_of end name x whole w
  entries_one w = append-nil (entries_of end name x whole w)

  none_of : (w : Worded) → is_about x.number w.placed ≡ false → entries_of end name x whole w ≡ []
  none_of w off = ap (λ (b : Bool). cond b (Comment w.words ∷ Passed (captured_at end name x whole w.placed) ∷ []) []) (unseen_by end x.number whole w.placed off)

  newest_last : (w : Worded) (ws : List Worded) → entries_at end name x whole (reverse (w ∷ ws)) ≡ entries_at end name x whole (reverse ws) ++ entries_of end name x whole w
  newest_last w ws = ap (entries_at end name x whole) (reverse-append (w ∷ []) ws) ∙ entries_more (reverse ws) (w ∷ []) ∙ ap (λ l. entries_at end name x whole (reverse ws) ++ l) (entries_one w)

  -- the transfer's own datagrams are enough
  pub own_entries : (ws : List Worded) → entries_at end name x whole (reverse (about_in x.number ws)) ≡ entries_at end name x whole (reverse ws)
  own_entries [] = refl
  own_entries (w ∷ ws) = by_test (is_about x.number w.placed)
      (λ is. ap (λ (b : Bool). entries_at end name x whole (reverse (cond b (w ∷ about_in x.number ws) (about_in x.number ws)))) is
      ∙ newest_last w (about_in x.number ws) ∙ ap (λ l. l ++ entries_of end name x whole w) (own_entries ws) ∙ sym (newest_last w ws))
      (λ off. ap (λ (b : Bool). entries_at end name x whole (reverse (cond b (w ∷ about_in x.number ws) (about_in x.number ws)))) off
      ∙ own_entries ws ∙ sym (newest_last w ws ∙ ap (λ l. entries_at end name x whole (reverse ws) ++ l) (none_of w off) ∙ append-nil (entries_at end name x whole (reverse ws))))

  -- without their comments they are its capture
  pub said_at : (ws : List Worded) → said_in (entries_at end name x whole ws) ≡ capture_at end name x whole (placed_in ws)
  said_at [] = refl
  said_at (w ∷ ws) = by (is_seen end x.number whole w.placed) (said_at ws) where
    by : (b : Bool) → said_in (entries_at end name x whole ws) ≡ capture_at end name x whole (placed_in ws) → said_in (cond b (Comment w.words ∷ Passed (captured_at end name x whole w.placed) ∷ []) [] ++ entries_at end name x whole ws)
        ≡ map (captured_at end name x whole) (cond b (w.placed ∷ filter (is_seen end x.number whole) (placed_in ws)) (filter (is_seen end x.number whole) (placed_in ws)))
    by true rest = ap (λ l. captured_at end name x whole w.placed ∷ l) rest
    by false rest = rest

placed_back : (ws : List Worded) → placed_in (reverse ws) ≡ reverse (placed_in ws)
placed_back [] = refl
placed_back (w ∷ ws) =
    ap placed_in (reverse-append (w ∷ []) ws) ∙ map-append (λ (v : Worded). v.placed) (reverse ws) (w ∷ [])
    ∙ ap (λ l. l ++ w.placed ∷ []) (placed_back ws) ∙ sym (reverse-append (w.placed ∷ []) (placed_in ws))

pub said_of_all : (end : End) (name : Naming) (x : Transfer) (ws : List Worded)
    → said_in (entries_at end name x (placed_in ws) (reverse ws)) ≡ reverse (capture_at end name x (placed_in ws) (placed_in ws))
said_of_all end name x ws =
    said_at end name x (placed_in ws) (reverse ws) ∙ ap (capture_at end name x (placed_in ws)) (placed_back ws) ∙ capture_back end name x (placed_in ws) (placed_in ws)
