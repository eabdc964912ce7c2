-- A lawful capture at either end stays so where its first request passed once more at once.
use Rattle.std.proofs.Common.{◌≡◌, ℕ, false, List, [], ◌∷◌, ◌++◌, Any, Contains, inl, inr, refl, sym, subst, ap, ◌∙◌, ◌||◌, reverse, if◌then◌else◌, None}
use Rattle.std.specs.List.{list_any}
use Rattle.std.proofs.lemmas.List.{reverse-reverse}
use Rattle.std.proofs.lemmas.List.Elements.{filter_map-append}
use Rattle.tftp_packet.specs.{Side, Get, Put, End, Client, Server}
use Rattle.tftp_packet.specs.Hosts.{Datagram, Header}
use Rattle.law_model.specs.Model.{Meaning, MachinePacket, Req, Oack, Data, Ack, Error, Deed, Sent, Took, History, IsStartedOn, MayAckZeroOn, MaySend, LetsStartOn, LetsAckZeroOn, MayComeData, MayComeAck, MayCome, IsOneSided}
use Rattle.law_model.specs.Model.OneSide.{heard, takes_error}
use Rattle.law_model.proofs.ModelLemmas.Members.{contains_first, contains_later, contains_cases, contains_none}
use Rattle.law_model.proofs.ModelLemmas.OneSided.{view_one_sided}
use Rattle.law_model.proofs.ModelLemmas.MadeRuns.{one_sided_view}
use Rattle.law_end.specs.{Label, Main, Stray, Labelled, Division, datagrams_of, view_in, TransferIds, HasLabel, HaveLabels, Starts, IsLawful, OneEnded, request_at}
use Rattle.law_end.specs.Dress.{StrayAnswer, deed_in}
use Rattle.law_end.proofs.Division.Divided.{any_none, any_cases, any_first, any_later}
use Rattle.law_end.proofs.Division.Placing.{one, starts_before}
use Rattle.law_end.proofs.Division.Routed.{starts_of}
use Rattle.law_end.proofs.Whole.TwoEnds.{lawful}
use Rattle.audit_flows.proofs.LinesLemmas.Lines.{by_test}
use Rattle.audit_spared.proofs.SparedLemmas.Bottoms.{EndsWith}

-- ---- what may be sent or come is a matter of what was done

record Alike (v w : History) : Type 0 where
  into : (x : Deed) → Contains v x → Contains w x
  back : (x : Deed) → Contains w x → Contains v x

module _ (m : Meaning) (wire : List ℕ) (e : End) (v w : History) (same : Alike v w) where
  started_alike : (side : Side) → IsStartedOn side m v → IsStartedOn side m w
  started_alike Get s = elim s [ inl x ↦ inl (x.0, same.into (Took Req) x.1) | inr x ↦ inr (x.0, same.into (Took (Ack 0)) x.1) ]
  started_alike Put s = elim s [ inl x ↦ inl (x.0, same.into (Took (Ack 0)) x.1) | inr x ↦ inr (x.0, same.into (Took Oack) x.1) ]

  zero_alike : (side : Side) → MayAckZeroOn side m v → MayAckZeroOn side m w
  zero_alike Get s = (s.0, same.into (Took Oack) s.1)
  zero_alike Put s = elim s [ inl x ↦ inl (x.0, same.into (Took Req) x.1) | inr x ↦ inr (x.0, x.1, same.into (Took (Data x.1)) x.2) ]

  lets_start_alike : (side : Side) → LetsStartOn side m v → LetsStartOn side m w
  lets_start_alike Get s = elim s [ inl x ↦ inl (x.0, same.into (Sent Req) x.1) | inr x ↦ inr (x.0, same.into (Sent (Ack 0)) x.1) ]
  lets_start_alike Put s = elim s [ inl x ↦ inl (x.0, same.into (Sent (Ack 0)) x.1) | inr x ↦ inr (x.0, same.into (Sent Oack) x.1) ]

  lets_zero_alike : (side : Side) → LetsAckZeroOn side m v → LetsAckZeroOn side m w
  lets_zero_alike Get s = (s.0, same.into (Sent Oack) s.1)
  lets_zero_alike Put s = elim s [ inl x ↦ inl (x.0, same.into (Sent Req) x.1) | inr x ↦ inr (x.0, x.1, same.into (Sent (Data x.1)) x.2) ]

  may_send_alike : (p : MachinePacket) → MaySend m wire e v p → MaySend m wire e w p
  may_send_alike Req may = record {
    client = may.client;
    no_error = λ code text at. may.no_error code text (same.back (Sent (Error code text)) at);
    no_data = λ k at. may.no_data k (same.back (Sent (Data k)) at);
    no_ack = λ j at. may.no_ack j (same.back (Sent (Ack j)) at);
  }
  may_send_alike Oack may = record {
    server = may.server;
    no_error = λ code text at. may.no_error code text (same.back (Sent (Error code text)) at);
    agreed = may.agreed;
    asked = same.into (Took Req) may.asked;
    no_data = λ get k at. may.no_data get k (same.back (Sent (Data k)) at);
  }
  may_send_alike (Data k) may = record {
    sender = may.sender;
    no_error = λ code text at. may.no_error code text (same.back (Sent (Error code text)) at);
    from_one = may.from_one;
    in_wire = may.in_wire;
    started = started_alike m.side may.started;
    in_order = elim may.in_order [ inl x ↦ inl x | inr x ↦ inr (same.into _ x) ];
    in_window = (may.in_window.0, elim may.in_window.1 [ inl x ↦ inl x | inr x ↦ inr (same.into _ x) ], may.in_window.2, may.in_window.3);
    in_step = λ w1 higher at. may.in_step w1 higher (same.back (Sent (Data higher)) at);
  }
  may_send_alike (Ack j) may = record {
    receiver = may.receiver;
    no_error = λ code text at. may.no_error code text (same.back (Sent (Error code text)) at);
    zero = λ none. zero_alike m.side (may.zero none);
    taken = λ k low high. same.into (Took (Data k)) (may.taken k low high);
  }
  may_send_alike (Error code text) may = record {
    asked = λ is. same.into (Sent Req) (may.asked is);
    was_asked = λ is. same.into (Took Req) (may.was_asked is);
    same = λ c t at. may.same c t (same.back (Sent (Error c t)) at);
  }

  data_alike : (k : ℕ) → MayComeData m wire e v k → MayComeData m wire e w k
  data_alike k may = record {
    receiver = may.receiver;
    from_one = may.from_one;
    in_wire = may.in_wire;
    started = lets_start_alike m.side may.started;
    in_window = (may.in_window.0, elim may.in_window.1 [ inl x ↦ inl x | inr x ↦ inr (same.into _ x) ], may.in_window.2);
  }

  ack_alike : (j : ℕ) → MayComeAck m e v j → MayComeAck m e w j
  ack_alike j may = record {
    sender = may.sender;
    zero = λ none. lets_zero_alike m.side (may.zero none);
    sent = λ k low high. same.into (Sent (Data k)) (may.sent k low high);
  }

-- ---- what was heard

asks_no_error : (e : End) → takes_error (request_at e) ≡ false
asks_no_error Client = refl
asks_no_error Server = refl

heard_once : (e : End) → heard (request_at e ∷ []) ≡ request_at e ∷ []
heard_once Client = refl
heard_once Server = refl

module _ (named : End) where
  -- ---- with one request more at its beginning

  abbrev BeginsAsked : History → Type 0
  BeginsAsked [] = ⊥
  BeginsAsked (d ∷ []) = d ≡ request_at named
  BeginsAsked (d ∷ e ∷ v) = BeginsAsked (e ∷ v)

  contains_more : (v : History) (x : Deed) → Contains v x → Contains (v ++ request_at named ∷ []) x
  contains_more [] x at = absurd (contains_none x at)
  contains_more (d ∷ v) x at = elim (contains_cases d v x at) [
    | inl this ↦ subst (Contains (d ∷ (v ++ request_at named ∷ []))) this (contains_first d (v ++ request_at named ∷ []))
    | inr later ↦ contains_later d (v ++ request_at named ∷ []) x (contains_more v x later)
  ]

  contains_less : (v : History) → BeginsAsked v → (x : Deed) → Contains (v ++ request_at named ∷ []) x → Contains v x
  contains_less [] asked x at = absurd asked
  contains_less (d ∷ []) asked x at = elim (contains_cases d (request_at named ∷ []) x at) [
    | inl this ↦ subst (Contains (d ∷ [])) this (contains_first d [])
    | inr later ↦ elim (contains_cases (request_at named) [] x later) [
      | inl this ↦ subst (Contains (d ∷ [])) (asked ∙ this) (contains_first d [])
      | inr none ↦ absurd (contains_none x none)
    ]
  ]
  contains_less (d ∷ e ∷ v) asked x at = elim (contains_cases d (e ∷ (v ++ request_at named ∷ [])) x at) [
    | inl this ↦ subst (Contains (d ∷ e ∷ v)) this (contains_first d (e ∷ v))
    | inr later ↦ contains_later d (e ∷ v) x (contains_less (e ∷ v) asked x later)
  ]

  alike : (v : History) → BeginsAsked v → Alike v (v ++ request_at named ∷ [])
  alike v asked = record { into = contains_more v; back = contains_less v asked }

  errors_more : (v : History) → list_any takes_error (v ++ request_at named ∷ []) ≡ list_any takes_error v
  errors_more [] = ap (λ b. b || false) (asks_no_error named)
  errors_more (d ∷ v) = ap (λ b. takes_error d || b) (errors_more v)

  heard_more : (v : History) → heard (v ++ request_at named ∷ []) ≡ heard v ++ request_at named ∷ []
  heard_more [] = heard_once named
  heard_more (d ∷ v) = by_test (list_any takes_error (d ∷ v))
      (λ is. ap (λ b. if b then heard (v ++ request_at named ∷ []) else d ∷ (v ++ request_at named ∷ [])) (errors_more (d ∷ v) ∙ is) ∙ heard_more v
      ∙ sym (ap (λ b. (if b then heard v else d ∷ v) ++ request_at named ∷ []) is))
      (λ off. ap (λ b. if b then heard (v ++ request_at named ∷ []) else d ∷ (v ++ request_at named ∷ [])) (errors_more (d ∷ v) ∙ off)
      ∙ sym (ap (λ b. (if b then heard v else d ∷ v) ++ request_at named ∷ []) off))

  heard_asked : (v : History) → BeginsAsked v → BeginsAsked (heard v)
  heard_asked [] asked = asked
  heard_asked (d ∷ []) asked = subst (λ x. BeginsAsked (heard (x ∷ []))) (sym asked) (subst BeginsAsked (sym (heard_once named)) refl)
  heard_asked (d ∷ e ∷ v) asked = by_test (list_any takes_error (d ∷ e ∷ v))
      (λ is. subst BeginsAsked (sym (ap (λ b. if b then heard (e ∷ v) else d ∷ e ∷ v) is)) (heard_asked (e ∷ v) asked))
      (λ off. subst BeginsAsked (sym (ap (λ b. if b then heard (e ∷ v) else d ∷ e ∷ v) off)) asked)

  module _ (m : Meaning) (wire : List ℕ) where
    may_come_more : (v : History) → BeginsAsked v → (p : MachinePacket) → MayCome m wire named v p → MayCome m wire named (v ++ request_at named ∷ []) p
    may_come_more v asked Req may = may
    may_come_more v asked Oack may = record { client = may.client; agreed = may.agreed; asked = contains_more v (Sent Req) may.asked }
    may_come_more v asked (Data k) may = subst (λ h. MayComeData m wire named h k) (sym (heard_more v))
        (data_alike m wire named (heard v) (heard v ++ request_at named ∷ []) (alike (heard v) (heard_asked v asked)) k may)
    may_come_more v asked (Ack j) may = subst (λ h. MayComeAck m named h j) (sym (heard_more v))
        (ack_alike m wire named (heard v) (heard v ++ request_at named ∷ []) (alike (heard v) (heard_asked v asked)) j may)
    may_come_more v asked (Error code text) may = record {
      asked = λ is. contains_more v (Sent Req) (may.asked is);
      same = λ c t at. may.same c t (contains_less v asked (Took (Error c t)) at);
    }

    only_asked : (x : Deed) → (Sent Req ≡ x → ⊥) → Contains (Sent Req ∷ []) x → ⊥
    only_asked x other at = elim (contains_cases (Sent Req) [] x at) [ inl is ↦ other is | inr none ↦ contains_none x none ]

    asked_twice : (e : End) → IsOneSided m wire e (request_at e ∷ request_at e ∷ [])
    asked_twice Server = (refl, (refl, tt))
    asked_twice Client = (
      record {
        client = refl;
        no_error = λ code text at. only_asked (Sent (Error code text)) (λ is. absurd (cc)) at;
        no_data = λ k at. only_asked (Sent (Data k)) (λ is. absurd (cc)) at;
        no_ack = λ j at. only_asked (Sent (Ack j)) (λ is. absurd (cc)) at;
      },
      (
        record {
          client = refl;
          no_error = λ code text at. contains_none (Sent (Error code text)) at;
          no_data = λ k at. contains_none (Sent (Data k)) at;
          no_ack = λ j at. contains_none (Sent (Ack j)) at;
        },
        tt,
      ),
    )

    one_sided_more : (v : History) → BeginsAsked v → IsOneSided m wire named v → IsOneSided m wire named (v ++ request_at named ∷ [])
    one_sided_more [] asked own = absurd asked
    one_sided_more (d ∷ []) asked own = subst (λ x. IsOneSided m wire named (x ∷ request_at named ∷ [])) (sym asked) (asked_twice named)
    one_sided_more (Sent p ∷ e ∷ v) asked own = (
      may_send_alike m wire named (e ∷ v) (e ∷ (v ++ request_at named ∷ [])) (alike (e ∷ v) asked) p own.0,
      one_sided_more (e ∷ v) asked own.1,
    )
    one_sided_more (Took p ∷ e ∷ v) asked own = (may_come_more (e ∷ v) asked p own.0, one_sided_more (e ∷ v) asked own.1)

  -- ---- the same of a division

  abbrev asked_label : Datagram → Labelled
  asked_label s = record { datagram = s; label = Main (request_at named) }

  -- its oldest is a request, and this datagram
  abbrev Bottomed : Datagram → Division → Type 0
  Bottomed s [] = ⊥
  Bottomed s (p ∷ []) = p ≡ asked_label s
  Bottomed s (p ∷ q ∷ division) = Bottomed s (q ∷ division)

  any_more : {X : Type 0} (P : X → Type 0) (xs ys : List X) → Any P xs → Any P (xs ++ ys)
  any_more P [] ys any = absurd (any_none P any)
  any_more P (x ∷ xs) ys any = elim (any_cases P x xs any) [
    | inl this ↦ any_first P x (xs ++ ys) this
    | inr later ↦ any_later P x (xs ++ ys) (any_more P xs ys later)
  ]

  module _ (service : ℕ) (m : Meaning) (wire : List ℕ) (ids : TransferIds) where
    abbrev at : Header
    at = record { named = named; service = service; rollover = None }

    label_more : (earlier more : Division) (d : Datagram) (label : Label) → HasLabel at m wire ids earlier d label → HasLabel at m wire ids (earlier ++ more) d label
    label_more earlier more d (Main (Sent Req)) has = record { dir = has.dir; client = has.client; server = has.server; spells = has.spells }
    label_more earlier more d (Main (Took Req)) has = record { dir = has.dir; client = has.client; server = has.server; spells = has.spells }
    label_more earlier more d Stray has =
        record { dir = has.dir; here = has.here; elsewhere = has.elsewhere; after = any_more _ earlier more has.after; no_request = has.no_request }
    label_more earlier more d StrayAnswer has = record { dir = has.dir; here = has.here; there = any_more _ earlier more has.there; spells = has.spells }
    label_more earlier more d (Main _) has = record {
      dir = has.dir;
      client = has.client;
      server = (has.server.0, elim has.server.1 [ inl x ↦ inl x | inr x ↦ inr (any_more _ earlier more x) ]);
      spells = has.spells;
    }

    labels_more : (s : Datagram) (division : Division) → Bottomed s division → HaveLabels at m wire ids division → HaveLabels at m wire ids (division ++ asked_label s ∷ [])
    labels_more s [] bottom labels = absurd bottom
    labels_more s (p ∷ []) bottom labels = (
      label_more [] (asked_label s ∷ []) p.datagram p.label labels.0,
      (subst (λ (q : Labelled). HasLabel at m wire ids [] q.datagram q.label) bottom labels.0, tt),
    )
    labels_more s (p ∷ q ∷ division) bottom labels = (label_more (q ∷ division) (asked_label s ∷ []) p.datagram p.label labels.0, labels_more s (q ∷ division) bottom labels.1)

    -- the oldest is a main one, and so the request
    bottom_label : (s : Datagram) (p : Labelled) → p.datagram ≡ s → HaveLabels at m wire ids (p ∷ []) → Starts named (view_in (p ∷ [])) → p ≡ asked_label s
    bottom_label s p is labels starts = by p.label refl labels.0 starts where
      by : (label : Label) → p.label ≡ label → HasLabel at m wire ids [] p.datagram p.label → Starts named (view_in (p ∷ [])) → p ≡ asked_label s
      by (Main deed) here has starts =
          let first : Starts named (deed ∷ []) = subst (λ x. Starts named (view_in (one p.datagram x []))) here starts in
          let same : p.label ≡ Main (request_at named) = here ∙ ap Main (first.0.first refl) in
          λ i. record { datagram = is i; label = same i }
      by Stray here has starts = absurd (any_none _ (subst (λ x. HasLabel at m wire ids [] p.datagram x) here has).after)
      by StrayAnswer here has starts = absurd (any_none _ (subst (λ x. HasLabel at m wire ids [] p.datagram x) here has).there)

    bottomed : (s : Datagram) (division : Division) → EndsWith s (datagrams_of division) → HaveLabels at m wire ids division → Starts named (view_in division) → Bottomed s division
    bottomed s [] ends labels starts = ends
    bottomed s (p ∷ []) ends labels starts = bottom_label s p ends labels starts
    bottomed s (p ∷ q ∷ division) ends labels starts = bottomed s (q ∷ division) ends labels.1 (starts_before named p.datagram p.label (q ∷ division) starts)

  -- the view has the request once more
  begins_view : (s : Datagram) (division : Division) → Bottomed s division → BeginsAsked (view_in division)
  begins_view s [] bottom = bottom
  begins_view s (p ∷ []) bottom = subst (λ x. BeginsAsked (view_in (x ∷ []))) (sym bottom) refl
  begins_view s (p ∷ q ∷ division) bottom = by p.label (begins_view s (q ∷ division) bottom) where
    more : (deed : Deed) (v : History) → BeginsAsked v → BeginsAsked (deed ∷ v)
    more deed [] is = absurd is
    more deed (e ∷ v) is = is

    by : (label : Label) → BeginsAsked (view_in (q ∷ division)) → BeginsAsked (view_in (one p.datagram label (q ∷ division)))
    by (Main deed) is = more deed (view_in (q ∷ division)) is
    by Stray is = is
    by StrayAnswer is = is

  view_more : (s : Datagram) (division : Division) → view_in (division ++ asked_label s ∷ []) ≡ view_in division ++ request_at named ∷ []
  view_more s division = filter_map-append deed_in division (asked_label s ∷ [])

  datagrams_more : (s : Datagram) (division : Division) → datagrams_of (division ++ asked_label s ∷ []) ≡ datagrams_of division ++ s ∷ []
  datagrams_more s [] = refl
  datagrams_more s (p ∷ division) = ap (λ l. p.datagram ∷ l) (datagrams_more s division)

  -- ---- the capture

  repeated : (service : ℕ) (s : Datagram) (ds : List Datagram) → EndsWith s ds → IsLawful (record { named = named; service = service; rollover = None }) (reverse ds)
      → IsLawful (record { named = named; service = service; rollover = None }) (reverse (ds ++ s ∷ []))
  repeated service s ds ends (m, wire, seen) =
      let dress = seen.dressed in
      let whole : datagrams_of dress.division ≡ ds = dress.whole ∙ reverse-reverse ds in
      let own : IsOneSided m wire named (view_in dress.division) = subst (IsOneSided m wire named) (sym dress.main) (view_one_sided m wire named seen.view seen.run) in
      let starts = starts_of (record { named = named; service = service; rollover = None }) m wire dress.ids dress.division dress.labels own in
      let bottom = bottomed service m wire dress.ids s dress.division (subst (EndsWith s) (sym whole) ends) dress.labels starts in (
        m,
        wire,
        record {
          fits = seen.fits;
          view = view_in dress.division ++ request_at named ∷ [];
          run = one_sided_view m wire named (view_in dress.division ++ request_at named ∷ []) (one_sided_more m wire (view_in dress.division) (begins_view s dress.division bottom) own);
          dressed = record {
            ids = dress.ids;
            division = dress.division ++ asked_label s ∷ [];
            whole = datagrams_more s dress.division ∙ ap (λ l. l ++ s ∷ []) whole ∙ sym (reverse-reverse (ds ++ s ∷ []));
            main = view_more s dress.division;
            labels = labels_more service m wire dress.ids s dress.division bottom dress.labels;
          };
        },
      )

  -- a lawful capture stays so where its oldest datagram passed once more at once
  pub repeated_passes : (service : ℕ) (s : Datagram) (ds : List Datagram) → EndsWith s ds → OneEnded (record { named = named; service = service; rollover = None }) ds → OneEnded (record { named = named; service = service; rollover = None }) (ds ++ s ∷ [])
  repeated_passes service s ds ends passes =
      let h : Header = record { named = named; service = service; rollover = None } in
      subst (OneEnded (record { named = named; service = service; rollover = None })) (reverse-reverse (ds ++ s ∷ []))
      ((lawful (record { named = named; service = service; rollover = None }) (reverse (ds ++ s ∷ []))).0
      (repeated service s ds ends ((lawful (record { named = named; service = service; rollover = None }) (reverse ds)).1 (subst (OneEnded (record { named = named; service = service; rollover = None })) (sym (reverse-reverse ds)) passes))))
