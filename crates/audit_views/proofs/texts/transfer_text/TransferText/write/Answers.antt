use Rattle.std.proofs.Common.{◌≡◌, ◌∷◌, ◌++◌, [], ℕ, List, length, take, reverse, arith, append_assoc, refl, sym, ap, ◌∙◌, subst}
use Rattle.std.proofs.lemmas.List.Elements.{All-append, All-cons}
use Rattle.tftp_capture.specs.{Entry, commented_text, said_in, HasWrittenHosts}
use Rattle.tftp_capture.specs.Commented.Entry.{Comment}
use Rattle.net_streams.specs.Streams.{Wrote}
use Rattle.audit_views.specs.Texts.{AreNoted, HasComment, IsNoted, Notes, about_in, entries_at, header_at, placed_in}
use Rattle.audit_views.specs.declared.texts.noted.Noted.{Noted}
use Rattle.audit_views.proofs.TextsLemmas.Captures.{header_is}
use Rattle.audit_views.proofs.TextsLemmas.Entries.{entries_more, entries_one, own_entries, said_of_all}
use Rattle.audit_views.proofs.TextsLemmas.Notes.{all_taken, at_place}
use Rattle.audit_views.proofs.TextsLemmas.Writing.{ShowsNotes, added_none, on_closed}
use Rattle.audit_views.proofs.texts.transfer_text.TransferText.write.Goals as goal

pub loop-noted-init : goal.loop-noted-init
loop-noted-init g c =
    let none = c.in_ok-capture.ensures.begun.are in
    let same = c.in_ok-comment.ensures.counted in
    record {
      counted = omega (arith, none, same);
      written = λ start header entries h. added_none g.W.Write.contents start _ c.comment.new.self header entries (ShowsNotes c.args.end c.args.self.now 0) h (λ name worded notes. refl);
    }

pub loop-noted-preserved : goal.loop-noted-preserved
loop-noted-preserved g c =
    let end = c.args.end in
    let x = c.args.self.now.transfer in
    let items : c.deref-noted-items.result.now ≡ c.args.self.now.noted = c.deref-noted-items.ensures.value ∙ ap (λ (t : Notes). t.noted) c.self.view_is in
    record {
      counted = omega (arith, c.in_ok-put.ensures.counted, c.loop-noted.invariant.counted);
      written = λ start header entries h.
          let so = c.loop-noted.invariant.written start header entries h in
          let one = c.in_ok-put.ensures.written start header (entries ++ so.0) so.1 in (
            so.0 ++ one.0,
            subst (HasWrittenHosts g.W.Write.contents start _ c.put.new.capture header) (append_assoc entries so.0 one.0) one.1,
            All-append HasComment so.0 one.0 so.2 one.2,
            λ name worded notes.
                let whole = placed_in worded in
                let own = reverse (about_in x.number worded) in
                let r = at_place name c.deref-noted-items.result.now own c.loop-noted.noted-index c.noted-item.result (subst (λ (l : List Noted). AreNoted name l own) (sym items) notes.noted) c.loop-noted-test.true in
                ap (λ l. l ++ one.0) (so.3 name worded notes)
                ∙ ap (λ l. entries_at end name x whole (take c.loop-noted.noted-index own) ++ l)
                (one.3 name r.0 whole notes.ends notes.number (subst (λ (n : Noted). IsNoted name n r.0) (sym c.noted-item.is) r.2) ∙ sym (entries_one end name x whole r.0))
                ∙ sym (entries_more end name x whole (take c.loop-noted.noted-index own) (r.0 ∷ []))
                ∙ ap (entries_at end name x whole) (sym r.1),
          );
    }

pub returns-clause-written : goal.returns-clause-written
returns-clause-written g c = λ name worded notes.
    let end = c.args.end in
    let x = c.args.self.now.transfer in
    let whole = placed_in worded in
    let own = reverse (about_in x.number worded) in
    let items : c.deref-noted-items.result.now ≡ c.args.self.now.noted = c.deref-noted-items.ensures.value ∙ ap (λ (t : Notes). t.noted) c.self.view_is in
    let begun = c.in_ok-capture.ensures.begun in
    let headed = c.in_ok-comment.ensures.written _ _ _ begun in
    let so = c.loop-noted.invariant.written _ _ _ headed in
    let ended : c.loop-noted.noted-index ≡ length c.deref-noted-items.result.now = omega (arith, c.loop-noted-test.false, c.loop-noted.auto.noted-index-end) in
    let all : take c.loop-noted.noted-index own ≡ own =
    ap (λ k. take k own) ended ∙ all_taken name c.deref-noted-items.result.now own (subst (λ (l : List Noted). AreNoted name l own) (sym items) notes.noted) in
    let entries : so.0 ≡ entries_at end name x whole (reverse worded) = so.3 name worded notes ∙ ap (entries_at end name x whole) all ∙ own_entries end name x whole worded in
    on_closed g.W.Write.contents c.args.writer.now _ c.close.new.writer c.close.result _ _ c.in_ok-capture.ensures.adds.0 c.close.ensures.writes (c.close.ensures.written _ _ _ so.1) (λ wrote. (
      _,
      wrote,
      record {
        entries = Comment c.words.result.now ∷ so.0;
        are = ap (λ h. commented_text h (Comment c.words.result.now ∷ so.0)) (header_is end c.self.inside.transfer ∙ ap (λ (t : Notes). header_at end t.transfer) c.self.view_is);
        says = ap said_in entries ∙ said_of_all end name x worded;
        comments = All-cons HasComment (Comment c.words.result.now) so.0 c.words.ensures.comment so.2;
      },
    ))

pub returns-clause-exact : goal.returns-clause-exact
returns-clause-exact g c = λ name worded notes.
    let end = c.args.end in
    let x = c.args.self.now.transfer in
    let whole = placed_in worded in
    let own = reverse (about_in x.number worded) in
    let items : c.deref-noted-items.result.now ≡ c.args.self.now.noted = c.deref-noted-items.ensures.value ∙ ap (λ (t : Notes). t.noted) c.self.view_is in
    let begun = c.in_ok-capture.ensures.begun in
    let headed = c.in_ok-comment.ensures.written _ _ _ begun in
    let so = c.loop-noted.invariant.written _ _ _ headed in
    let ended : c.loop-noted.noted-index ≡ length c.deref-noted-items.result.now = omega (arith, c.loop-noted-test.false, c.loop-noted.auto.noted-index-end) in
    let all : take c.loop-noted.noted-index own ≡ own =
    ap (λ k. take k own) ended ∙ all_taken name c.deref-noted-items.result.now own (subst (λ (l : List Noted). AreNoted name l own) (sym items) notes.noted) in
    let entries : so.0 ≡ entries_at end name x whole (reverse worded) = so.3 name worded notes ∙ ap (entries_at end name x whole) all ∙ own_entries end name x whole worded in
    on_closed g.W.Write.contents c.args.writer.now _ c.close.new.writer c.close.result _ _ c.in_ok-capture.ensures.adds.0 c.close.ensures.writes (c.close.ensures.written _ _ _ so.1)
    (subst (Wrote g.W.Write.contents c.args.writer.now c.close.new.writer)
    (ap (λ h. commented_text h (Comment c.words.result.now ∷ so.0)) (header_is end c.self.inside.transfer ∙ ap (λ (t : Notes). header_at end t.transfer) c.self.view_is)
    ∙ ap (λ (words : List ℕ). commented_text (header_at end x) (Comment words ∷ so.0)) c.words.ensures.words
    ∙ ap (λ (l : List Entry). commented_text (header_at end x) (Comment c.args.heading.now ∷ l)) entries))
