-- What a lawful capture begins with is lawful.
use Rattle.std.proofs.Common.{◌≡◌, ℕ, ◌+◌, ◌<◌, ◌⊎◌, List, [], ◌∷◌, ◌++◌, take, drop, reverse, inl, inr, refl, sym, subst, ap, ◌∙◌, arith, append_assoc, append-nil, take-append-drop, take-take}
use Rattle.std.proofs.lemmas.Bool.{cases_lt}
use Rattle.std.proofs.lemmas.List.{reverse-append}
use Rattle.law_model.specs.Model.{Meaning, Deed, History, IsView, two_bytes}
use Rattle.law_model.proofs.ModelLemmas.Moments.{earlier_view}
use Rattle.law_end.specs.{Label, Main, Stray, Labelled, Division, datagrams_of, view_in, HaveLabels, IsLawful, Shows, IsLawfulUpTo}
use Rattle.law_end.specs.Dress.{StrayAnswer}
use Rattle.law_end.proofs.Division.Divided.{divided_more}
use Rattle.law_end.proofs.Whole.NothingAgreed.{two_bytes_fit}
use Rattle.tftp_packet.specs.Hosts.{Datagram, Header}

pub empty_is_lawful : (header : Header) → IsLawful header []
empty_is_lawful header = (
  two_bytes,
  two_bytes.file,
  record {
    fits = two_bytes_fit header.rollover;
    view = [];
    run = ([], tt, refl);
    dressed = record { ids = record { own = 0; peer = record { host = []; port = 0 }; asked = [] }; division = []; whole = refl; main = refl; labels = tt };
  },
)

-- the newest datagram is in the view, or the view has no more than the others
view_labels : (d : Datagram) (label : Label) (rest : Division) (view : History) → view_in (record { datagram = d; label = label } ∷ rest) ≡ view → ((last : Deed) × (view ≡ last ∷ view_in rest)) ⊎ (view ≡ view_in rest)
view_labels d (Main deed) rest view is = inl (deed, sym is)
view_labels d Stray rest view is = inr (sym is)
view_labels d StrayAnswer rest view is = inr (sym is)

begin_view : (header : Header) (m : Meaning) (wire : List ℕ) (p : Labelled) (rest : Division) (view : History) → view_in (p ∷ rest) ≡ view → IsView m wire header.named view → IsView m wire header.named (view_in rest)
begin_view header m wire p rest view is run = elim (view_labels p.datagram p.label rest view is) [
  | inl more ↦ earlier_view m wire header.named more.0 (view_in rest) (subst (IsView m wire header.named) more.1 run)
  | inr same ↦ subst (IsView m wire header.named) same run
]

without_last : (header : Header) (datagrams : List Datagram) (d : Datagram) → IsLawful header (datagrams ++ d ∷ []) → IsLawful header datagrams
without_last header datagrams d (m, wire, seen) =
    let dress = seen.dressed in
    let whole : datagrams_of dress.division ≡ d ∷ reverse datagrams = dress.whole ∙ reverse-append datagrams (d ∷ []) in
    let (p, rest, is, last, more) = divided_more dress.division d (reverse datagrams) whole in
    let have : HaveLabels header m wire dress.ids (p ∷ rest) = subst (HaveLabels header m wire dress.ids) is dress.labels in (
      m,
      wire,
      record {
        fits = seen.fits;
        view = view_in rest;
        run = begin_view header m wire p rest seen.view (sym (ap view_in is) ∙ dress.main) seen.run;
        dressed = record { ids = dress.ids; division = rest; whole = more; main = refl; labels = have.1 };
      },
    )

pub beginning_is_lawful : (header : Header) (datagrams more : List Datagram) → IsLawful header (datagrams ++ more) → IsLawful header datagrams
beginning_is_lawful header datagrams [] lawful = subst (IsLawful header) (append-nil datagrams) lawful
beginning_is_lawful header datagrams (d ∷ more) lawful =
    without_last header datagrams d (beginning_is_lawful header (datagrams ++ d ∷ []) more (subst (IsLawful header) (sym (append_assoc datagrams (d ∷ []) more)) lawful))

not_before : (header : Header) (datagrams : List Datagram) (i j : ℕ) → IsLawfulUpTo header datagrams i → IsLawfulUpTo header datagrams j → i < j → ⊥
not_before header datagrams i j first second low =
    let whole : take (i + 1) datagrams ++ drop (i + 1) (take j datagrams) ≡ take j datagrams =
    subst (λ x. x ++ drop (i + 1) (take j datagrams) ≡ take j datagrams) (take-take (i + 1) j datagrams (omega arith)) (take-append-drop (i + 1) (take j datagrams)) in
    first.unlawful (beginning_is_lawful header (take (i + 1) datagrams) (drop (i + 1) (take j datagrams)) (subst (IsLawful header) (sym whole) second.lawful))

pub one_end : (header : Header) (datagrams : List Datagram) (i j : ℕ) → IsLawfulUpTo header datagrams i → IsLawfulUpTo header datagrams j → i ≡ j
one_end header datagrams i j first second = elim (cases_lt i j) [
  | inl low ↦ absurd (not_before header datagrams i j first second low)
  | inr high ↦ elim (cases_lt j i) [
    | inl low ↦ absurd (not_before header datagrams j i second first low)
    | inr same ↦ omega arith
  ]
]

pub shown_is_lawful : (header : Header) (m : Meaning) (datagrams : List Datagram) → Shows header m datagrams → IsLawful header datagrams
shown_is_lawful header m datagrams shows = (m, shows.wire, shows.shown.seen)
