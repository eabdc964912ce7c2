-- The datagrams that are kept, one after another, each with its comment.
use Rattle.std.proofs.Common.{◌≡◌, ℕ, suc, zero, true, false, cond, ◌+◌, ◌<◌, List, [], ◌∷◌, ◌++◌, get_or, length, reverse, take, refl, sym, ap, ◌∙◌, subst, arith}
use Rattle.std.proofs.lemmas.List.{reverse-append}
use Rattle.audit_flows.specs.Transfers.{is_about}
use Rattle.audit_flows.proofs.TransfersLemmas.OwnDatagrams.{about_none}
use Rattle.audit_views.specs.Views.{Naming}
use Rattle.audit_views.specs.Texts.{AreNoted, AreNotesAfter, IsNoted, Notes, Worded, about_in, placed_in}
use Rattle.audit_views.specs.declared.texts.noted.Noted.{Noted}
use Rattle.audit_views.proofs.ViewsLemmas.Holding.{ends_too}

pub at_place : (name : Naming) (ns : List Noted) (ws : List Worded) (i : ℕ) (d : Noted) → AreNoted name ns ws → i < length ns
    → (w : Worded) × (take (i + 1) ws ≡ take i ws ++ w ∷ []) × IsNoted name (get_or ns i d) w
at_place name [] ws i d are lt = absurd (omega (arith, lt))
at_place name (n ∷ ns) [] i d are lt = absurd are
at_place name (n ∷ ns) (w ∷ ws) zero d are lt = (w, refl, are.0)
at_place name (n ∷ ns) (w ∷ ws) (suc i) d are lt =
    let r = at_place name ns ws i d are.1 (omega (arith, lt)) in
    let more : suc i + 1 ≡ suc (i + 1) = omega arith in
    (r.0, ap (λ k. take k (w ∷ ws)) more ∙ ap (λ l. w ∷ l) r.1, r.2)

pub all_taken : (name : Naming) (ns : List Noted) (ws : List Worded) → AreNoted name ns ws → take (length ns) ws ≡ ws
all_taken name [] [] are = refl
all_taken name (n ∷ ns) (w ∷ ws) are = ap (λ l. w ∷ l) (all_taken name ns ws are.1)
all_taken name _ _ are = absurd are

noted_more : (name : Naming) (ns : List Noted) (ws : List Worded) (n : Noted) (w : Worded) → AreNoted name ns ws → IsNoted name n w → AreNoted name (ns ++ n ∷ []) (ws ++ w ∷ [])
noted_more name [] [] n w are is = (is, tt)
noted_more name (m ∷ ns) (v ∷ ws) n w are is = (are.0, noted_more name ns ws n w are.1 is)
noted_more name _ _ n w are is = absurd are

-- one more of the transfer's
pub noted_newest : (number : ℕ) (name : Naming) (ns : List Noted) (older : List Worded) (n : Noted) (w : Worded) → is_about number w.placed ≡ true → AreNoted name ns (reverse (about_in number older)) → IsNoted name n w
    → AreNoted name (ns ++ n ∷ []) (reverse (about_in number (w ∷ older)))
noted_newest number name ns older n w about are is =
    subst (AreNoted name (ns ++ n ∷ [])) (sym (ap (λ b. reverse (cond b (w ∷ about_in number older) (about_in number older))) about ∙ reverse-append (w ∷ []) (about_in number older)))
    (noted_more name ns (reverse (about_in number older)) n w are is)

-- one more that is not of the transfer
pub passes_by : (t : Notes) (name : Naming) (w : Worded) (older : List Worded) → is_about t.transfer.number w.placed ≡ false → AreNotesAfter t name older → AreNotesAfter t name (w ∷ older)
passes_by t name w older off was = record {
  number = was.number;
  ends = ends_too t.transfer.number (is_about t.transfer.number) (about_none t.transfer.number) w.placed (placed_in older) off t.ends was.number was.ends;
  noted = subst (λ (l : List Worded). AreNoted name t.noted (reverse l)) (sym (ap (λ b. cond b (w ∷ about_in t.transfer.number older) (about_in t.transfer.number older)) off)) was.noted;
}
