-- The labels at the server, and of what it did not see those of strays and their answers, are labels between the ends.
use Rattle.std.proofs.Common.{◌≡◌, ◌⊎◌, ℕ, Bool, true, false, cond, List, [], ◌∷◌, Any, inl, inr, refl, sym, ap, subst, ◌∙◌, map, filter, None}
use Rattle.std.specs.List.{AllByRecursion}
use Rattle.std.proofs.lemmas.Bool.{false≢true}
use Rattle.tftp_packet.specs.{Message, Spells, End, Client, Server}
use Rattle.tftp_packet.specs.Hosts.{Datagram, PeerId}
use Rattle.tftp_packet.specs.{In, Out}
use Rattle.law_model.specs.Model.{Meaning, MachinePacket, Deed, Sent, Took, Req, Oack, Data, Ack, Error}
use Rattle.law_end.specs.{Label, Labelled, Division, datagrams_of, view_in, TransferIds, IsMain, CarriesDeed, HasLabelBy, HaveLabelsBy, says_of}
use Rattle.law_end.specs.Dress.{Main, Stray, StrayAnswer}
use Rattle.law_end.proofs.Division.Divided.{any_none, any_cases, any_first, any_later, divided_more, divided_none, view_main}
use Rattle.law_end.proofs.Division.Placing.{WentOut, MainOut, StrayFrom, any_main_out}
use Rattle.law_end.proofs.Division.Routed.{told_of}
use Rattle.audit_flows.specs.Lines.{Recorded, begins_request, Placed, is_of}
use Rattle.audit_flows.specs.{Endpoint, Transfer}
use Rattle.law_tap.specs.{pass_of, tapped_at, PeerId, TapDatagram, TapSides, side_of, TapLabel, TapLabelled, TapDivision, tapped_of, IsMainFrom, GoesThere, HasTapLabel, HaveTapLabels}
use Rattle.law_tap.specs.TapDress as tap
use Rattle.audit_views.specs.Views.{captured, server_header}
use Rattle.audit_views.specs.Parties.{host_name}
use Rattle.audit_recording.specs.Between.{passed_of, peer_of as side}

-- ---- the datagrams that pass a test

pub kept_first : (test : Placed → Bool) (p : Placed) (qs : List Placed) → test p ≡ true → filter test (p ∷ qs) ≡ p ∷ filter test qs
kept_first test p qs is = ap (λ b. cond b (p ∷ filter test qs) (filter test qs)) is

pub left_first : (test : Placed → Bool) (p : Placed) (qs : List Placed) → test p ≡ false → filter test (p ∷ qs) ≡ filter test qs
left_first test p qs off = ap (λ b. cond b (p ∷ filter test qs) (filter test qs)) off

-- `server` is who served the transfer, `seen` which datagrams it saw, and `cap` how they are captured there.
module _ (x : Transfer) (server : Endpoint) (seen : Placed → Bool) (cap : Placed → Datagram) where
  abbrev pub s : TapSides
  s = record { client = side x.client; asked = side x.asked; server = side server; rollover = None }

  -- between the client and the server
  pub data AtServer (p : Placed) : Type 0 where
    asks : p.datagram.source ≡ x.client → p.datagram.target ≡ x.asked → begins_request p.datagram.payload ≡ true → cap p ≡ captured host_name In p.datagram → AtServer p
    to_server : p.datagram.source ≡ x.client → p.datagram.target ≡ server → (begins_request p.datagram.payload ≡ true → p.datagram.target.port ≡ x.asked.port → ⊥)
        → cap p ≡ captured host_name In p.datagram → AtServer p
    from_server : p.datagram.source ≡ server → p.datagram.target ≡ x.client → cap p ≡ captured host_name Out p.datagram → AtServer p

  -- between the client and another
  pub data Elsewhere (p : Placed) : Type 0 where
    sends : p.datagram.source ≡ x.client → (side p.datagram.target ≡ side server → ⊥) → (begins_request p.datagram.payload ≡ true → p.datagram.target.port ≡ x.asked.port → ⊥) → Elsewhere p
    gets : p.datagram.target ≡ x.client → (side p.datagram.source ≡ side server → ⊥) → (side p.datagram.source ≡ side x.client → ⊥) → Elsewhere p

  -- between the server and another
  pub record Aside (p : Placed) : Type 0 where
    pub source : side p.datagram.source ≡ side x.client → ⊥
    pub target : side p.datagram.target ≡ side x.client → ⊥
    pub captured_so : (cap p ≡ captured host_name In p.datagram) ⊎ (cap p ≡ captured host_name Out p.datagram)

  pub data Seat (p : Placed) : Type 0 where
    both : is_of x.number p ≡ true → seen p ≡ true → AtServer p → Seat p
    own : is_of x.number p ≡ true → seen p ≡ false → Elsewhere p → Seat p
    aside : is_of x.number p ≡ false → seen p ≡ true → Aside p → Seat p
    neither : is_of x.number p ≡ false → seen p ≡ false → Seat p

  -- ---- what the client sent elsewhere answers what strayed to it

  pub record IsStrayIn (there : PeerId) (p : Placed) : Type 0 where
    pub from : side p.datagram.source ≡ there
    pub to : side p.datagram.target ≡ side x.client
    pub not_client : side p.datagram.source ≡ side x.client → ⊥
    pub not_server : side p.datagram.source ≡ side server → ⊥

  pub record AnswersOne (p : Placed) (earlier : List Placed) : Type 0 where
    pub text : List ℕ
    pub spells : Spells p.datagram.payload (Message.Error 5 text)
    pub strayed : Any (IsStrayIn (side p.datagram.target)) (filter (is_of x.number) earlier)

  abbrev pub Answered : List Placed → Type 0
  Answered [] = Unit {0}
  Answered (p ∷ qs) = (is_of x.number p ≡ true → seen p ≡ false → p.datagram.source ≡ x.client → AnswersOne p qs) × Answered qs

  module _ (m : Meaning) (wire : List ℕ) (ids : TransferIds) (peer : ids.peer ≡ side x.client) (apart : side x.client ≡ side server → ⊥) where
    abbrev Labels : Division → Type 0
    Labels division = HaveLabelsBy (server_header x) (says_of m wire) ids division

    abbrev LabelAt : Division → Datagram → Label → Type 0
    LabelAt earlier d label = HasLabelBy (server_header x) (says_of m wire) ids earlier d label

    abbrev IsStrayThere : PeerId → TapLabelled → Type 0
    IsStrayThere there p = (p.label ≡ tap.Stray) × (p.datagram.source ≡ there) × (p.datagram.destination ≡ side x.client)

    -- a division of what passed between, beside one of what the server saw
    pub record Merged (qs : List Placed) (division : Division) : Type 0 where
      pub there : TapDivision
      pub whole : tapped_of there ≡ map (λ p. passed_of p.datagram) (filter (is_of x.number) qs)
      pub main : tap.passed_of there ≡ tapped_at Server (view_in division)
      pub labels : HaveTapLabels s (says_of m wire) there
      pub from_there : Any MainOut division → Any (λ p. IsMainFrom Server p.label) there
      pub strays : (from : PeerId) → Any (IsStrayIn from) (filter (is_of x.number) qs) → Any (IsStrayThere from) there

    -- no stray is the client's
    no_stray : (division : Division) → Labels division → Any (StrayFrom ids.peer) division → ⊥
    no_stray [] labels any = any_none (StrayFrom ids.peer) any
    no_stray (p ∷ earlier) labels any = elim (any_cases (StrayFrom ids.peer) p earlier any) [
      | inl now ↦ (subst (LabelAt earlier p.datagram) now.0 labels.0).elsewhere now.1
      | inr before ↦ no_stray earlier labels.1 before
    ]

    -- ---- one label

    module _ (earlier : Division) (labels : Labels earlier) (d : Recorded) where
      pub record TakenAs (label : Label) : Type 0 where
        pub packet : MachinePacket
        pub is : label ≡ Main (Took packet)
        pub carried : CarriesDeed (server_header x) m wire ids earlier (captured host_name In d) (Took packet)

      pub record SentAs (label : Label) : Type 0 where
        pub packet : MachinePacket
        pub is : label ≡ Main (Sent packet)
        pub carried : CarriesDeed (server_header x) m wire ids earlier (captured host_name Out d) (Sent packet)

      taken_as : side d.source ≡ side x.client → (label : Label) → LabelAt earlier (captured host_name In d) label → TakenAs label
      taken_as source (Main (Took p)) has = record { packet = p; is = refl; carried = has }
      taken_as source (Main (Sent p)) has = let both : In ≡ Out = has.dir in absurd (cc)
      taken_as source Stray has = absurd (has.elsewhere (source ∙ sym peer))
      taken_as source StrayAnswer has = let both : In ≡ Out = has.dir in absurd (cc)

      sent_as : side d.target ≡ side x.client → (label : Label) → LabelAt earlier (captured host_name Out d) label → SentAs label
      sent_as target (Main (Sent p)) has = record { packet = p; is = refl; carried = has }
      sent_as target (Main (Took p)) has = let both : Out ≡ In = has.dir in absurd (cc)
      sent_as target Stray has = let both : Out ≡ In = has.dir in absurd (cc)
      sent_as target StrayAnswer has = absurd (no_stray earlier labels (subst (λ to. Any (StrayFrom to) earlier) (target ∙ sym peer) has.there))

      -- what passed aside is no packet of the transfer
      not_main_in : (side d.source ≡ side x.client → ⊥) → (label : Label) → LabelAt earlier (captured host_name In d) label → IsMain label → ⊥
      not_main_in off (Main (Took p)) has is = off (has.client ∙ peer)
      not_main_in off (Main (Sent p)) has is = let both : In ≡ Out = has.dir in cc
      not_main_in off Stray has is = let both : Stray ≡ Main is.0 = is.1 in cc
      not_main_in off StrayAnswer has is = let both : StrayAnswer ≡ Main is.0 = is.1 in cc

      not_main_out : (side d.target ≡ side x.client → ⊥) → (label : Label) → LabelAt earlier (captured host_name Out d) label → IsMain label → ⊥
      not_main_out off (Main (Sent p)) has is = off (has.client ∙ peer)
      not_main_out off (Main (Took p)) has is = let both : Out ≡ In = has.dir in cc
      not_main_out off Stray has is = let both : Stray ≡ Main is.0 = is.1 in cc
      not_main_out off StrayAnswer has is = let both : StrayAnswer ≡ Main is.0 = is.1 in cc

    -- ---- one datagram more

    -- which neither saw
    with_neither : (p : Placed) (qs : List Placed) (division : Division) → is_of x.number p ≡ false → Merged qs division → Merged (p ∷ qs) division
    with_neither p qs division off r = record {
      there = r.there;
      whole = r.whole ∙ ap (map (λ q. passed_of q.datagram)) (sym (left_first (is_of x.number) p qs off));
      main = r.main;
      labels = r.labels;
      from_there = r.from_there;
      strays = λ from any. r.strays from (subst (Any (IsStrayIn from)) (left_first (is_of x.number) p qs off) any);
    }

    view_aside : (l : Labelled) (rest : Division) → (IsMain l.label → ⊥) → view_in (l ∷ rest) ≡ view_in rest
    view_aside l rest other = by l.label other where
      by : (label : Label) → (IsMain label → ⊥) → view_in (record { datagram = l.datagram; label = label } ∷ rest) ≡ view_in rest
      by (Main deed) other = absurd (other (deed, refl))
      by Stray other = refl
      by StrayAnswer other = refl

    -- which the server alone saw
    with_aside : (p : Placed) (qs : List Placed) (l : Labelled) (rest : Division) → is_of x.number p ≡ false → (IsMain l.label → ⊥) → Merged qs rest → Merged (p ∷ qs) (l ∷ rest)
    with_aside p qs l rest off other r = record {
      there = r.there;
      whole = r.whole ∙ ap (map (λ q. passed_of q.datagram)) (sym (left_first (is_of x.number) p qs off));
      main = r.main ∙ ap (tapped_at Server) (sym (view_aside l rest other));
      labels = r.labels;
      from_there = λ any. elim (any_cases MainOut l rest any) [ inl now ↦ absurd (other now.0) | inr before ↦ r.from_there before ];
      strays = λ from any. r.strays from (subst (Any (IsStrayIn from)) (left_first (is_of x.number) p qs off) any);
    }

    -- which the client alone saw
    with_own : (p : Placed) (qs : List Placed) (division : Division) (label : TapLabel) → is_of x.number p ≡ true → (r : Merged qs division)
        → HasTapLabel s (says_of m wire) r.there (passed_of p.datagram) label → (tap.passed_of (record { datagram = passed_of p.datagram; label = label } ∷ r.there) ≡ tap.passed_of r.there)
        → ((from : PeerId) → IsStrayIn from p → IsStrayThere from (record { datagram = passed_of p.datagram; label = label })) → Merged (p ∷ qs) division
    with_own p qs division label of r has no_main strays = record {
      there = record { datagram = passed_of p.datagram; label = label } ∷ r.there;
      whole = ap (λ l. passed_of p.datagram ∷ l) r.whole ∙ ap (map (λ q. passed_of q.datagram)) (sym (kept_first (is_of x.number) p qs of));
      main = no_main ∙ r.main;
      labels = (has, r.labels);
      from_there = λ any. any_later (λ (q : TapLabelled). IsMainFrom Server q.label) (record { datagram = passed_of p.datagram; label = label }) r.there (r.from_there any);
      strays = λ from any. elim (any_cases (IsStrayIn from) p (filter (is_of x.number) qs) (subst (Any (IsStrayIn from)) (kept_first (is_of x.number) p qs of) any)) [
        | inl now ↦ any_first (IsStrayThere from) (record { datagram = passed_of p.datagram; label = label }) r.there (strays from now)
        | inr before ↦ any_later (IsStrayThere from) (record { datagram = passed_of p.datagram; label = label }) r.there (r.strays from before)
      ];
    }

    -- which both saw
    with_both : (p : Placed) (qs : List Placed) (l : Labelled) (rest : Division) (deed : Deed) → is_of x.number p ≡ true → l.label ≡ Main deed → (r : Merged qs rest)
        → HasTapLabel s (says_of m wire) r.there (passed_of p.datagram) (tap.Main (pass_of Server deed)) → (l.datagram.dir ≡ Out → IsMainFrom Server (tap.Main (pass_of Server deed)))
        → ((from : PeerId) → IsStrayIn from p → ⊥) → Merged (p ∷ qs) (l ∷ rest)
    with_both p qs l rest deed of is r has out not_stray = record {
      there = record { datagram = passed_of p.datagram; label = tap.Main (pass_of Server deed) } ∷ r.there;
      whole = ap (λ l. passed_of p.datagram ∷ l) r.whole ∙ ap (map (λ q. passed_of q.datagram)) (sym (kept_first (is_of x.number) p qs of));
      main = ap (λ l. pass_of Server deed ∷ l) r.main ∙ ap (tapped_at Server) (sym (view_main l deed rest is));
      labels = (has, r.labels);
      from_there = λ any. elim (any_cases MainOut l rest any) [
        | inl now ↦ any_first (λ (q : TapLabelled). IsMainFrom Server q.label) (record { datagram = passed_of p.datagram; label = tap.Main (pass_of Server deed) }) r.there (out now.1)
        | inr before ↦ any_later (λ (q : TapLabelled). IsMainFrom Server q.label) (record { datagram = passed_of p.datagram; label = tap.Main (pass_of Server deed) }) r.there (r.from_there before)
      ];
      strays = λ from any. elim (any_cases (IsStrayIn from) p (filter (is_of x.number) qs) (subst (Any (IsStrayIn from)) (kept_first (is_of x.number) p qs of) any)) [
        | inl now ↦ absurd (not_stray from now)
        | inr before ↦ any_later (IsStrayThere from) (record { datagram = passed_of p.datagram; label = tap.Main (pass_of Server deed) }) r.there (r.strays from before)
      ];
    }

    -- ---- by where it passed

    goes_on_there : (there : TapDivision) (d : TapDatagram) (p : MachinePacket) → (p ≡ Req → ⊥) → d.destination ≡ side server → Any (λ p. IsMainFrom Server p.label) there → GoesThere s there d Client p
    goes_on_there there d Req other to before = absurd (other refl)
    goes_on_there there d _ other to before = (to, before)

    module _ (p : Placed) (qs : List Placed) (l : Labelled) (rest : Division) (labels : Labels rest) (of : is_of x.number p ≡ true) (r : Merged qs rest) where
      -- a request
      with_asks : p.datagram.source ≡ x.client → p.datagram.target ≡ x.asked → begins_request p.datagram.payload ≡ true → l.datagram ≡ captured host_name In p.datagram → TakenAs rest labels p.datagram l.label → Merged (p ∷ qs) (l ∷ rest)
      with_asks source target begins at t = by t.packet t.is t.carried where
        other : (q : MachinePacket) → (q ≡ Req → ⊥) → CarriesDeed (server_header x) m wire ids rest (captured host_name In p.datagram) (Took q) → ⊥
        other q off c = false≢true (sym ((told_of m wire).other q off p.datagram.payload c.spells) ∙ begins)

        by : (q : MachinePacket) → l.label ≡ Main (Took q) → CarriesDeed (server_header x) m wire ids rest (captured host_name In p.datagram) (Took q) → Merged (p ∷ qs) (l ∷ rest)
        by Req is c = with_both p qs l rest (Took Req) of is r (record { source = ap side source; goes = ap side target; spells = c.spells })
            (λ way. let both : In ≡ Out = sym (ap (λ (d : Datagram). d.dir) at) ∙ way in absurd (cc)) (λ from stray. stray.not_client (ap side source))
        by Oack is c = absurd (other Oack (λ e. cc) c)
        by (Data k) is c = absurd (other (Data k) (λ e. cc) c)
        by (Ack j) is c = absurd (other (Ack j) (λ e. cc) c)
        by (Error code text) is c = absurd (other (Error code text) (λ e. cc) c)

      -- what the client sent to the server
      with_to_server : p.datagram.source ≡ x.client → p.datagram.target ≡ server → (begins_request p.datagram.payload ≡ true → p.datagram.target.port ≡ x.asked.port → ⊥) → l.datagram ≡ captured host_name In p.datagram
          → TakenAs rest labels p.datagram l.label → Merged (p ∷ qs) (l ∷ rest)
      with_to_server source target asks_not at t = by t.packet t.is t.carried where
        went_out : (In ≡ Out) ⊎ Any WentOut rest → Any MainOut rest
        went_out (inl is) = absurd (cc)
        went_out (inr before) = any_main_out x.asked.port None (says_of m wire) ids rest labels before

        more : (q : MachinePacket) → (q ≡ Req → ⊥) → l.label ≡ Main (Took q) → says_of m wire q p.datagram.payload → (In ≡ Out) ⊎ Any WentOut rest → Merged (p ∷ qs) (l ∷ rest)
        more q other is says before = with_both p qs l rest (Took q) of is r (record {
          source = ap side source;
          goes = goes_on_there r.there (passed_of p.datagram) q other (ap side target) (r.from_there (went_out before));
          spells = says;
        })
            (λ way. let both : In ≡ Out = sym (ap (λ (d : Datagram). d.dir) at) ∙ way in absurd (cc)) (λ from stray. stray.not_client (ap side source))

        by : (q : MachinePacket) → l.label ≡ Main (Took q) → CarriesDeed (server_header x) m wire ids rest (captured host_name In p.datagram) (Took q) → Merged (p ∷ qs) (l ∷ rest)
        by Req is c = absurd (asks_not ((told_of m wire).request p.datagram.payload c.spells) c.server.0)
        by Oack is c = more Oack (λ e. cc) is c.spells c.server.1
        by (Data k) is c = more (Data k) (λ e. cc) is c.spells c.server.1
        by (Ack j) is c = more (Ack j) (λ e. cc) is c.spells c.server.1
        by (Error code text) is c = more (Error code text) (λ e. cc) is c.spells c.server.1

      -- what the server sent to it
      with_from_server : p.datagram.source ≡ server → p.datagram.target ≡ x.client → SentAs rest labels p.datagram l.label → Merged (p ∷ qs) (l ∷ rest)
      with_from_server source target t = with_both p qs l rest (Sent t.packet) of t.is r (record { source = ap side source; goes = ap side target; spells = t.carried.spells })
          (λ way. (t.packet, refl)) (λ from stray. stray.not_server (ap side source))

      with_seat : AtServer p → l.datagram ≡ cap p → LabelAt rest l.datagram l.label → Merged (p ∷ qs) (l ∷ rest)
      with_seat (asks source target begins way) same has = with_asks source target begins (same ∙ way)
          (taken_as rest labels p.datagram (ap side source) l.label (subst (λ d. LabelAt rest d l.label) (same ∙ way) has))
      with_seat (to_server source target asks_not way) same has = with_to_server source target asks_not (same ∙ way)
          (taken_as rest labels p.datagram (ap side source) l.label (subst (λ d. LabelAt rest d l.label) (same ∙ way) has))
      with_seat (from_server source target way) same has = with_from_server source target
          (sent_as rest labels p.datagram (ap side target) l.label (subst (λ d. LabelAt rest d l.label) (same ∙ way) has))

    -- what passed elsewhere
    with_elsewhere : (p : Placed) (qs : List Placed) (division : Division) → is_of x.number p ≡ true → (p.datagram.source ≡ x.client → AnswersOne p qs) → Elsewhere p → Merged qs division → Merged (p ∷ qs) division
    with_elsewhere p qs division of answered (sends source off asks_not) r =
        let a = answered source in
        with_own p qs division tap.StrayAnswer of r (record {
          own = (Client, ap side source);
          there = subst (λ to. Any (λ (q : TapLabelled). (q.label ≡ tap.Stray) × (q.datagram.source ≡ side p.datagram.target) × (q.datagram.destination ≡ to)) r.there) (ap side (sym source)) (r.strays (side p.datagram.target) a.strayed);
          spells = (a.text, a.spells);
        }) refl (λ from stray. absurd (stray.not_client (ap side source)))
    with_elsewhere p qs division of answered (gets target off other) r = with_own p qs division tap.Stray of r (record {
      elsewhere = not_end;
      here = (Client, ap side target);
      no_request = λ to. absurd (apart (sym (ap side target) ∙ to));
    }) refl (λ from stray. (refl, stray.from, ap side target))
      where
        not_end : (e : End) → side p.datagram.source ≡ side_of s e → ⊥
        not_end Client same = other same
        not_end Server same = off same

    with_beside : (p : Placed) (qs : List Placed) (l : Labelled) (rest : Division) → Labels rest → is_of x.number p ≡ false → Aside p → l.datagram ≡ cap p → LabelAt rest l.datagram l.label → Merged qs rest → Merged (p ∷ qs) (l ∷ rest)
    with_beside p qs l rest labels off a same has r = with_aside p qs l rest off (by a.captured_so) r where
      by : (cap p ≡ captured host_name In p.datagram) ⊎ (cap p ≡ captured host_name Out p.datagram) → IsMain l.label → ⊥
      by (inl way) = not_main_in rest labels p.datagram a.source l.label (subst (λ d. LabelAt rest d l.label) (same ∙ way) has)
      by (inr way) = not_main_out rest labels p.datagram a.target l.label (subst (λ d. LabelAt rest d l.label) (same ∙ way) has)

    -- ---- all of them

    abbrev IsDivided : List Placed → Division → Type 0
    IsDivided qs division = datagrams_of division ≡ map cap (filter seen qs)

    merge_one : (p : Placed) (qs : List Placed) → Seat p → (is_of x.number p ≡ true → seen p ≡ false → p.datagram.source ≡ x.client → AnswersOne p qs)
        → ((rest : Division) → IsDivided qs rest → Labels rest → Merged qs rest) → (division : Division) → IsDivided (p ∷ qs) division → Labels division → Merged (p ∷ qs) division
    merge_one p qs (neither of off) answered before division is labels = with_neither p qs division of (before division (is ∙ ap (map cap) (left_first seen p qs off)) labels)
    merge_one p qs (own of off there) answered before division is labels = with_elsewhere p qs division of (answered of off) there (before division (is ∙ ap (map cap) (left_first seen p qs off)) labels)
    merge_one p qs (both of sees at) answered before division is labels =
        let (l, rest, same, this, more) = divided_more division (cap p) (map cap (filter seen qs)) (is ∙ ap (map cap) (kept_first seen p qs sees)) in
        let all = subst Labels same labels in
        subst (Merged (p ∷ qs)) (sym same) (with_seat p qs l rest all.1 of (before rest more all.1) at this all.0)
    merge_one p qs (aside of sees a) answered before division is labels =
        let (l, rest, same, this, more) = divided_more division (cap p) (map cap (filter seen qs)) (is ∙ ap (map cap) (kept_first seen p qs sees)) in
        let all = subst Labels same labels in
        subst (Merged (p ∷ qs)) (sym same) (with_beside p qs l rest all.1 of a this all.0 (before rest more all.1))

    none_merged : Merged [] []
    none_merged = record { there = []; whole = refl; main = refl; labels = tt; from_there = λ any. absurd (any_none MainOut any); strays = λ from any. absurd (any_none (IsStrayIn from) any) }

    pub merged : (qs : List Placed) → AllByRecursion Seat qs → Answered qs → (division : Division) → IsDivided qs division → Labels division → Merged qs division
    merged [] seats answered division is labels = subst (Merged []) (sym (divided_none division is)) none_merged
    merged (p ∷ qs) seats answered division is labels = merge_one p qs seats.0 answered.0 (λ rest. merged qs seats.1 answered.1 rest) division is labels
