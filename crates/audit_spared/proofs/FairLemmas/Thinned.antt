-- A division has labels, and the same view, without some of the peers that are none of the transfer's.
use Rattle.std.proofs.Common.{◌≡◌, ◌⊎◌, Bool, true, false, List, [], ◌∷◌, ◌++◌, Any, inl, inr, refl, sym, subst, ap, ◌∙◌, reverse, ◌||◌, not}
use Rattle.std.specs.List.{AllByRecursion, filter}
use Rattle.std.proofs.lemmas.Bool.{false≢true, and_parts}
use Rattle.std.proofs.lemmas.List.{reverse-append}
use Rattle.tftp_packet.specs.{End, Client, Server}
use Rattle.tftp_packet.specs.Hosts.{Datagram, Header, PeerId, peer_of}
use Rattle.law_model.specs.Model.{MachinePacket, Req}
use Rattle.law_model.specs.Rules.{goes_out, begins_request}
use Rattle.law_end.specs.{from_server, Label, Main, Stray, Labelled, Division, datagrams_of, view_in, TransferIds, Saying, HasLabelBy, HaveLabelsBy, IsMain, packet_of, GoesToServer}
use Rattle.law_end.specs.Dress.{StrayAnswer}
use Rattle.law_end.proofs.Division.RouteTests.{error_begins}
use Rattle.law_end.proofs.Division.Divided.{any_none, any_cases, any_first, any_later, divided_more}
use Rattle.law_end.proofs.Division.Placing.{one, MainGoing, StrayFrom}
use Rattle.audit_spared.specs.Fair.{stays, is_own_request}

-- ---- lists

module _ {X : Type 0} (test : X → Bool) where
  pub filter_kept : (x : X) (xs : List X) → test x ≡ true → filter test (x ∷ xs) ≡ x ∷ filter test xs
  filter_kept x xs is = rw is refl

  pub filter_dropped : (x : X) (xs : List X) → test x ≡ false → filter test (x ∷ xs) ≡ filter test xs
  filter_dropped x xs is = rw is refl

  pub kept_or_not : {P : Type 0} (x : X) → (test x ≡ true → P) → (test x ≡ false → P) → P
  kept_or_not {P} x if_kept if_not = by (test x) refl where
    by : (b : Bool) → test x ≡ b → P
    by true is = if_kept is
    by false is = if_not is

  pub filter_both : (xs ys : List X) → filter test (xs ++ ys) ≡ filter test xs ++ filter test ys
  filter_both [] ys = refl
  filter_both (x ∷ xs) ys = kept_or_not x
      (λ is. filter_kept x (xs ++ ys) is ∙ ap (λ zs. x ∷ zs) (filter_both xs ys) ∙ ap (λ zs. zs ++ filter test ys) (sym (filter_kept x xs is)))
      (λ is. filter_dropped x (xs ++ ys) is ∙ filter_both xs ys ∙ ap (λ zs. zs ++ filter test ys) (sym (filter_dropped x xs is)))

  pub filter_reverse : (xs : List X) → filter test (reverse xs) ≡ reverse (filter test xs)
  filter_reverse [] = refl
  filter_reverse (x ∷ xs) = ap (filter test) (reverse-append (x ∷ []) xs) ∙ filter_both (reverse xs) (x ∷ []) ∙ kept_or_not x
      (λ is. ap (λ zs. filter test (reverse xs) ++ zs) (filter_kept x [] is) ∙ ap (λ zs. zs ++ x ∷ []) (filter_reverse xs) ∙ sym (reverse-append (x ∷ []) (filter test xs)) ∙ ap reverse (sym (filter_kept x xs is)))
      (λ is. ap (λ zs. filter test (reverse xs) ++ zs) (filter_dropped x [] is) ∙ append_none (filter test (reverse xs)) ∙ filter_reverse xs ∙ ap reverse (sym (filter_dropped x xs is)))
    where
      append_none : (ys : List X) → ys ++ [] ≡ ys
      append_none [] = refl
      append_none (y ∷ ys) = ap (λ zs. y ∷ zs) (append_none ys)

pub all_of : {X : Type 0} (P : X → Type 0) → ((x : X) → P x) → (xs : List X) → AllByRecursion P xs
all_of P each [] = tt
all_of P each (x ∷ xs) = (each x, all_of P each xs)

-- ---- whatever came from the server's side, a main datagram did

module _ (h : Header) (says : Saying) (ids : TransferIds) where
  abbrev pub ServerSent : Labelled → Type 0
  ServerSent = MainGoing (from_server h.named)

  abbrev pub FromServer : Labelled → Type 0
  FromServer p = p.datagram.dir ≡ from_server h.named

  stray_after : (peer : PeerId) (division : Division) → HaveLabelsBy h says ids division → Any (StrayFrom peer) division → Any ServerSent division
  stray_after peer [] labels any = absurd (any_none (StrayFrom peer) any)
  stray_after peer (p ∷ earlier) labels any = any_later ServerSent p earlier (elim (any_cases (StrayFrom peer) p earlier any) [
    | inl this ↦ (subst (λ x. HasLabelBy h says ids earlier p.datagram x) this.0 labels.0).after
    | inr before ↦ stray_after peer earlier labels.1 before
  ])

  label_sent : (earlier : Division) (d : Datagram) (label : Label) → HaveLabelsBy h says ids (one d label earlier) → d.dir ≡ from_server h.named → Any ServerSent (one d label earlier)
  label_sent earlier d (Main deed) labels way = any_first ServerSent (record { datagram = d; label = Main deed }) earlier ((deed, refl), way)
  label_sent earlier d Stray labels way = any_later ServerSent (record { datagram = d; label = Stray }) earlier labels.0.after
  label_sent earlier d StrayAnswer labels way = any_later ServerSent (record { datagram = d; label = StrayAnswer }) earlier (stray_after (peer_of d) earlier labels.1 labels.0.there)

  server_sent : (division : Division) → HaveLabelsBy h says ids division → Any FromServer division → Any ServerSent division
  server_sent [] labels any = absurd (any_none FromServer any)
  server_sent (p ∷ earlier) labels any = elim (any_cases FromServer p earlier any) [
    | inl this ↦ label_sent earlier p.datagram p.label labels this
    | inr before ↦ any_later ServerSent p earlier (server_sent earlier labels.1 before)
  ]

  main_from : (division : Division) → Any ServerSent division → Any FromServer division
  main_from [] any = absurd (any_none ServerSent any)
  main_from (p ∷ earlier) any = elim (any_cases ServerSent p earlier any) [
    | inl this ↦ any_first FromServer p earlier this.1
    | inr before ↦ any_later FromServer p earlier (main_from earlier before)
  ]

  -- ---- without the peers

  module _ (out : PeerId → Bool) where
    abbrev pub keeps : Labelled → Bool
    keeps p = stays h.named out p.datagram

    abbrev pub thin : Division → Division → Division
    thin newer older = filter keeps newer ++ older

    abbrev pub MainKept : Labelled → Type 0
    MainKept p = IsMain p.label → keeps p ≡ true

    thin_kept : (p : Labelled) (newer older : Division) → keeps p ≡ true → thin (p ∷ newer) older ≡ p ∷ thin newer older
    thin_kept p newer older is = ap (λ x. x ++ older) (filter_kept keeps p newer is)

    thin_dropped : (p : Labelled) (newer older : Division) → keeps p ≡ false → thin (p ∷ newer) older ≡ thin newer older
    thin_dropped p newer older is = ap (λ x. x ++ older) (filter_dropped keeps p newer is)

    any_thin : (P : Labelled → Type 0) (newer older : Division) → AllByRecursion (λ p. P p → keeps p ≡ true) newer → Any P (newer ++ older) → Any P (thin newer older)
    any_thin P [] older all any = any
    any_thin P (p ∷ newer) older all any = elim (any_cases P p (newer ++ older) any) [
      | inl this ↦ subst (Any P) (sym (thin_kept p newer older (all.0 this))) (any_first P p (thin newer older) this)
      | inr before ↦ let more = any_thin P newer older all.1 before in kept_or_not keeps p
          (λ is. subst (Any P) (sym (thin_kept p newer older is)) (any_later P p (thin newer older) more))
          (λ is. subst (Any P) (sym (thin_dropped p newer older is)) more)
    ]

    sent_kept : (newer : Division) → AllByRecursion MainKept newer → AllByRecursion (λ p. ServerSent p → keeps p ≡ true) newer
    sent_kept [] all = tt
    sent_kept (p ∷ newer) all = (λ sent. all.0 sent.0, sent_kept newer all.1)

    any_sent : (newer older : Division) → AllByRecursion MainKept newer → Any ServerSent (newer ++ older) → Any ServerSent (thin newer older)
    any_sent newer older all any = any_thin ServerSent newer older (sent_kept newer all) any

    module _ (newer older : Division) (all : AllByRecursion MainKept newer) (labels : HaveLabelsBy h says ids (newer ++ older)) where
      abbrev Way : Division → Datagram → Type 0
      Way earlier d = (d.dir ≡ from_server h.named) ⊎ Any FromServer earlier

      way_thin : (d : Datagram) → Way (newer ++ older) d → Way (thin newer older) d
      way_thin d way = elim way [
        | inl this ↦ inl this
        | inr before ↦ inr (main_from (thin newer older) (any_sent newer older all (server_sent (newer ++ older) labels before)))
      ]

      goes_thin : (d : Datagram) (p : MachinePacket) → GoesToServer h ids (newer ++ older) d p → GoesToServer h ids (thin newer older) d p
      goes_thin d Req goes = goes
      goes_thin d _ goes = (goes.0, way_thin d goes.1)

      -- no ERROR is the client's request
      answer_free : (e : End) (d : Datagram) → stays e out d ≡ true → begins_request d ≡ false → out (peer_of d) ≡ false
      answer_free e d stay other = by (out (peer_of d)) refl where
        not_own : (e : End) → is_own_request e d ≡ true → ⊥
        not_own Client own = false≢true (sym other ∙ (and_parts (goes_out d) (begins_request d) own).1)
        not_own Server own = false≢true own

        by : (b : Bool) → out (peer_of d) ≡ b → out (peer_of d) ≡ false
        by false is = is
        by true is = absurd (not_own e (sym (ap (λ b. not b || is_own_request e d) is) ∙ stay))

      from_free : (d : Datagram) → out (peer_of d) ≡ false → (p : Labelled) → StrayFrom (peer_of d) p → keeps p ≡ true
      from_free d free p from = ap (λ b. not b || is_own_request h.named p.datagram) (ap out from.1 ∙ free)

      label_thin : (d : Datagram) (label : Label) → stays h.named out d ≡ true → HasLabelBy h says ids (newer ++ older) d label → HasLabelBy h says ids (thin newer older) d label
      label_thin d (Main deed) stay has = record { dir = has.dir; client = has.client; server = goes_thin d (packet_of deed) has.server; spells = has.spells }
      label_thin d Stray stay has = record { dir = has.dir; here = has.here; elsewhere = has.elsewhere; after = any_sent newer older all has.after; no_request = has.no_request }
      label_thin d StrayAnswer stay has = record {
        dir = has.dir;
        here = has.here;
        there = any_thin (StrayFrom (peer_of d)) newer older
            (all_of (λ p. StrayFrom (peer_of d) p → keeps p ≡ true) (from_free d (answer_free h.named d stay (error_begins d 5 has.spells.0 has.spells.1).0)) newer) has.there;
        spells = has.spells;
      }

    pub labels_thin : (newer older : Division) → AllByRecursion MainKept newer → HaveLabelsBy h says ids (newer ++ older) → HaveLabelsBy h says ids (thin newer older)
    labels_thin [] older all labels = labels
    labels_thin (p ∷ newer) older all labels =
        let before = labels_thin newer older all.1 labels.1 in kept_or_not keeps p
        (λ is. subst (HaveLabelsBy h says ids) (sym (thin_kept p newer older is)) (label_thin newer older all.1 labels.1 p.datagram p.label is labels.0, before))
        (λ is. subst (HaveLabelsBy h says ids) (sym (thin_dropped p newer older is)) before)

    -- the view stays
    view_one : (d : Datagram) (label : Label) (rest other : Division) → view_in rest ≡ view_in other → view_in (one d label rest) ≡ view_in (one d label other)
    view_one d (Main deed) rest other same = ap (λ v. deed ∷ v) same
    view_one d Stray rest other same = same
    view_one d StrayAnswer rest other same = same

    view_dropped : (d : Datagram) (label : Label) (rest : Division) → (IsMain label → stays h.named out d ≡ true) → stays h.named out d ≡ false → view_in rest ≡ view_in (one d label rest)
    view_dropped d (Main deed) rest main drop = absurd (false≢true (sym drop ∙ main (deed, refl)))
    view_dropped d _ rest main drop = refl

    pub view_thin : (newer older : Division) → AllByRecursion MainKept newer → view_in (thin newer older) ≡ view_in (newer ++ older)
    view_thin [] older all = refl
    view_thin (p ∷ newer) older all =
        let same = view_thin newer older all.1 in kept_or_not keeps p
        (λ is. ap view_in (thin_kept p newer older is) ∙ view_one p.datagram p.label (thin newer older) (newer ++ older) same)
        (λ is. ap view_in (thin_dropped p newer older is) ∙ same ∙ view_dropped p.datagram p.label (newer ++ older) all.0 is)

    pub datagrams_thin : (newer older : Division) → datagrams_of (thin newer older) ≡ filter (stays h.named out) (datagrams_of newer) ++ datagrams_of older
    datagrams_thin [] older = refl
    datagrams_thin (p ∷ newer) older =
        let same = datagrams_thin newer older in kept_or_not keeps p
        (λ is. ap datagrams_of (thin_kept p newer older is) ∙ ap (λ ds. p.datagram ∷ ds) same ∙ ap (λ ds. ds ++ datagrams_of older) (sym (filter_kept (stays h.named out) p.datagram (datagrams_of newer) is)))
        (λ is. ap datagrams_of (thin_dropped p newer older is) ∙ same ∙ ap (λ ds. ds ++ datagrams_of older) (sym (filter_dropped (stays h.named out) p.datagram (datagrams_of newer) is)))

-- a division divides as its datagrams do
pub record Halves (division : Division) (xs ys : List Datagram) : Type 0 where
  pub newer : Division
  pub older : Division
  pub whole : division ≡ newer ++ older
  pub first : datagrams_of newer ≡ xs
  pub rest : datagrams_of older ≡ ys

pub halves : (xs ys : List Datagram) (division : Division) → datagrams_of division ≡ xs ++ ys → Halves division xs ys
halves [] ys division is = record { newer = []; older = division; whole = refl; first = refl; rest = is }
halves (x ∷ xs) ys division is =
    let (p, earlier, whole, last, more) = divided_more division x (xs ++ ys) is in
    let h = halves xs ys earlier more in record {
      newer = p ∷ h.newer;
      older = h.older;
      whole = whole ∙ ap (λ e. p ∷ e) h.whole;
      first = ap (λ ds. p.datagram ∷ ds) h.first ∙ ap (λ d. d ∷ xs) last;
      rest = h.rest;
    }
