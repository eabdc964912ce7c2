use Rattle.std.proofs.Common.{◌≡◌, ◌∷◌, [], List, false, true, reverse, sym, ap, ◌∙◌, subst, arith}
use Rattle.std.specs.List.{All}
use Rattle.std.proofs.lemmas.List.Elements.{All-append, All-from_recursion}
use Rattle.audit_flows.specs.Transfers.{is_about}
use Rattle.audit_views.specs.Views.{IsFed}
use Rattle.audit_views.specs.declared.views.held.Held.{Held}
use Rattle.audit_views.specs.Texts.{AreNoted, AreNotesAfter, Notes, about_in, placed_in}
use Rattle.audit_views.specs.declared.texts.noted.Noted.{Noted}
use Rattle.audit_views.specs.Texts.Kept.{CanBeWritten}
use Rattle.audit_views.proofs.TextsLemmas.Notes.{noted_newest, passes_by}
use Rattle.audit_views.proofs.texts.transfer_text.TransferText.note.Goals as goal

pub returns-then-not-is_about-clause-after : goal.returns-then-not-is_about-clause-after
returns-then-not-is_about-clause-after c name w older after fed says =
    let t : Notes = record { transfer = c.self.inside.transfer; ends = c.self.inside.ends; noted = c.self.inside.noted.items } in
    let before : AreNotesAfter t name older = subst (λ (t : Notes). AreNotesAfter t name older) (sym c.self.view_is) after in
    let off : is_about t.transfer.number w.placed ≡ false = ap (λ n. is_about n w.placed) (sym c.self.invariant.0) ∙ sym (c.is_about.ensures w.placed fed.belongs) ∙ c.if-not-is_about.true in
    subst (λ (t : Notes). AreNotesAfter t name (w ∷ older)) c.self.view_is (passes_by t name w older off before)

pub invariant_of-self-2 : goal.invariant_of-self-2
invariant_of-self-2 c =
    let noted : Held → Noted = λ h. record { held = h; comment = c.args.comment } in
    let one : CanBeWritten (noted c.in_ok-held.held) =
    subst (λ (h : Held). CanBeWritten (noted h)) (sym c.in_ok-held.ensures.held) (record { source = c.requires.source; target = c.requires.target; short = c.requires.short }) in
    let all : All CanBeWritten c.push.new.self.items = subst (All CanBeWritten) (sym c.in_ok-push.ensures.items)
    (All-append CanBeWritten c.self.inside.noted.items (noted c.in_ok-held.held ∷ []) c.self.invariant.3 (All-from_recursion CanBeWritten (noted c.in_ok-held.held ∷ []) (one, tt))) in
    let few = c.if-len-ge-MOST.false in
    let counted = c.len.ensures in
    let len = c.in_ok-push.ensures.len in
    (c.note.ensures.number ∙ c.self.invariant.0, c.self.invariant.1, omega arith, all)

pub returns-clause-after : goal.returns-clause-after
returns-clause-after c name w older after fed says =
    let t : Notes = record { transfer = c.self.inside.transfer; ends = c.self.inside.ends; noted = c.self.inside.noted.items } in
    let before : AreNotesAfter t name older = subst (λ (t : Notes). AreNotesAfter t name older) (sym c.self.view_is) after in
    let h : Held = c.in_ok-held.held in
    let as_held : IsFed name w.placed h = subst (IsFed name w.placed) (sym c.in_ok-held.ensures.held) fed in
    let of_it : is_about t.transfer.number w.placed ≡ true = ap (λ n. is_about n w.placed) (sym c.self.invariant.0) ∙ sym (c.is_about.ensures w.placed fed.belongs) ∙ c.if-not-is_about.false in
    let one : Noted = record { held = h; comment = c.args.comment } in
    record {
      number = c.note.ensures.number ∙ c.self.invariant.0;
      ends = c.note.ensures.stands w.placed (placed_in older) before.ends fed.belongs fed.from fed.to fed.carries;
      noted =
          subst (λ (l : List Noted). AreNoted name l (reverse (about_in t.transfer.number (w ∷ older)))) (sym c.in_ok-push.ensures.items)
          (noted_newest t.transfer.number name t.noted older one w of_it before.noted (record { fed = as_held; words = says }));
    }
