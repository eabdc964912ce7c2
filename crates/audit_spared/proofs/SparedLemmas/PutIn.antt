-- Strays that came after the first answer, and the answers to them, may be put into a lawful capture.
use Rattle.std.proofs.Common.{◌≡◌, ◌≢◌, ℕ, Bool, true, false, List, [], ◌∷◌, ◌++◌, Any, Contains, inl, inr, refl, sym, ap, subst, ◌∙◌, ◌&&◌, ◌||◌, not, map, reverse, if◌then◌else◌}
use Rattle.std.specs.List.{list_any, AllByRecursion, filter}
use Rattle.std.proofs.lemmas.Bool.{false≢true, or_cases, or_left, or_right, and_from, and_parts}
use Rattle.std.proofs.lemmas.List.{reverse-reverse}
use Rattle.tftp_packet.specs.{Client, Server, Message, Spells}
use Rattle.tftp_packet.specs.Hosts.{Datagram, Header, peer_of}
use Rattle.tftp_packet.specs.{Dir, In, Out}
use Rattle.law_model.specs.Model.{Meaning, MachinePacket, Req, Oack, Data, Ack, Error, Sent, Took, IsOneSided}
use Rattle.law_model.proofs.ModelLemmas.OneSided.{view_one_sided}
use Rattle.law_model.specs.Rules.{comes_in}
use Rattle.law_model.proofs.ModelLemmas.Members.{contains_cases, contains_first, contains_later}
use Rattle.law_end.specs.{from_server, GoesToServer, IsLawful, IsMain, Label, Main, Stray, Labelled, Division, datagrams_of, view_in, TransferIds, HasLabel, HaveLabels, OneEnded}
use Rattle.law_end.specs.Dress.{StrayAnswer}
use Rattle.law_end.proofs.Division.Divided.{any_cases, any_first, any_later, any_none, divided_more}
use Rattle.law_end.proofs.Division.Placing.{one}
use Rattle.law_end.proofs.Division.RouteTests.{in_true, out_false}
use Rattle.law_end.proofs.Whole.TwoEnds.{lawful}
use Rattle.audit_flows.specs.Lines.{Recorded, Placed, same_endpoint, other_of, is_between, goes}
use Rattle.audit_flows.specs.{Address, Endpoint}
use Rattle.audit_flows.proofs.LinesLemmas.Endpoints.{is_same}
use Rattle.audit_flows.proofs.LinesLemmas.Lines.{by_test}
use Rattle.audit_spared.proofs.FairLemmas.Thinned.{filter_kept, filter_dropped, kept_or_not}
use Rattle.audit_spared.specs.Spared.Seen.{as_seen_by, at_client_of}
use Rattle.audit_spared.specs.Spared.{comes_at, goes_from}
use Rattle.audit_spared.proofs.SparedLemmas.Places.{comes_to_it}
use Rattle.audit_spared.proofs.SparedLemmas.Stands.{came_from}
use Rattle.audit_spared.proofs.SparedLemmas.Views.{goes_seen, name, name_one, payload_seen, peer_seen, seen}

abbrev pub at : Header
at = at_client_of 69

abbrev local_of : Datagram → ℕ
local_of d = d.local

abbrev way_of : Datagram → Dir
way_of d = d.dir

-- ---- labels with more before

any_kept : (P : Labelled → Type 0) (one_part other : Division) → ((p : Labelled) → Contains one_part p → Contains other p) → Any P one_part → Any P other
any_kept P one_part other kept (k, x, low, is, holds) = let there = kept x (k, low, is) in (there.0, x, there.1, there.2, holds)

module _ (m : Meaning) (wire : List ℕ) (ids : TransferIds) where
  goes_more : (p : MachinePacket) (d : Datagram) (earlier more : Division) → ((p : Labelled) → Contains earlier p → Contains more p) → GoesToServer at ids earlier d p → GoesToServer at ids more d p
  goes_more Req d earlier more kept is = is
  goes_more Oack d earlier more kept is = (is.0, elim is.1 [ inl way ↦ inl way | inr any ↦ inr (any_kept (λ p. p.datagram.dir ≡ from_server Client) earlier more kept any) ])
  goes_more (Data k) d earlier more kept is = (is.0, elim is.1 [ inl way ↦ inl way | inr any ↦ inr (any_kept (λ p. p.datagram.dir ≡ from_server Client) earlier more kept any) ])
  goes_more (Ack j) d earlier more kept is = (is.0, elim is.1 [ inl way ↦ inl way | inr any ↦ inr (any_kept (λ p. p.datagram.dir ≡ from_server Client) earlier more kept any) ])
  goes_more (Error code text) d earlier more kept is = (is.0, elim is.1 [ inl way ↦ inl way | inr any ↦ inr (any_kept (λ p. p.datagram.dir ≡ from_server Client) earlier more kept any) ])

  label_more : (d : Datagram) (label : Label) (earlier more : Division) → ((p : Labelled) → Contains earlier p → Contains more p) → HasLabel at m wire ids earlier d label → HasLabel at m wire ids more d label
  label_more d (Main (Sent p)) earlier more kept has = record { dir = has.dir; client = has.client; server = goes_more p d earlier more kept has.server; spells = has.spells }
  label_more d (Main (Took p)) earlier more kept has = record { dir = has.dir; client = has.client; server = goes_more p d earlier more kept has.server; spells = has.spells }
  label_more d Stray earlier more kept has = record { dir = has.dir; here = has.here; elsewhere = has.elsewhere; after = any_kept (λ p. IsMain p.label × (p.datagram.dir ≡ from_server Client)) earlier more kept has.after; no_request = has.no_request }
  label_more d StrayAnswer earlier more kept has = record { dir = has.dir; here = has.here; there = any_kept (λ p. (p.label ≡ Stray) × (peer_of p.datagram ≡ peer_of d)) earlier more kept has.there; spells = has.spells }

view_more : (d : Datagram) (label : Label) (one_rest other_rest : Division) → view_in one_rest ≡ view_in other_rest → view_in (one d label one_rest) ≡ view_in (one d label other_rest)
view_more d (Main deed) a b same = ap (λ v. deed ∷ v) same
view_more d Stray a b same = same
view_more d StrayAnswer a b same = same

-- ---- one by one

module _ (write : Address → List ℕ) (write_one : (a b : Address) → write a ≡ write b → a ≡ b) (c : Endpoint) (keep more : Placed → Bool) (opener : Placed) (early : List Placed) where
  abbrev pub both : Placed → Bool
  both q = keep q || more q

  abbrev pub is_put : Placed → Bool
  is_put q = not (keep q) && more q

  pub same_both : (ps : List Placed) → AllByRecursion (λ q. is_put q ≡ false) ps → filter both ps ≡ filter keep ps
  same_both [] all = refl
  same_both (q ∷ ps) all = kept_or_not keep q
      (λ is. filter_kept both q ps (or_left (keep q) (more q) is) ∙ ap (λ l. q ∷ l) (same_both ps all.1) ∙ sym (filter_kept keep q ps is))
      (λ off. filter_dropped both q ps (ap (λ b. b || more q) off ∙ sym (ap (λ b. not b && more q) off) ∙ all.0) ∙ same_both ps all.1 ∙ sym (filter_dropped keep q ps off))

  -- A stray is of another endpoint than the first that came; an answer goes to where another came from, and says so.
  pub record IsPutIn (ps : List Placed) (q : Placed) : Type 0 where
    pub here : is_between c (other_of c q.datagram) q.datagram ≡ true
    pub apart : goes_from c q.datagram ≡ false → other_of c q.datagram ≢ other_of c opener.datagram
    pub there : goes_from c q.datagram ≡ true → list_any (λ e. is_put e && came_from c (other_of c q.datagram) e.datagram) ps ≡ true
    pub says : goes_from c q.datagram ≡ true → (text : List ℕ) × Spells q.datagram.payload (Message.Error 5 text)

  abbrev pub ArePutIn : List Placed → Type 0
  ArePutIn [] = Unit {0}
  ArePutIn (q ∷ newer) = (is_put q ≡ true → IsPutIn (newer ++ opener ∷ early) q) × ArePutIn newer

  -- it came, and is the transfer's
  abbrev pub IsMainIn : Labelled → Type 0
  IsMainIn p = IsMain p.label × (p.datagram.dir ≡ In)

  -- a stray of this endpoint
  abbrev pub IsStrayOf : Endpoint → Labelled → Type 0
  IsStrayOf o p = (p.label ≡ Stray) × (peer_of p.datagram ≡ name write c o)

  module _ (m : Meaning) (wire : List ℕ) (ids : TransferIds) where
    pub record IsMerged (ps : List Placed) (D : Division) : Type 0 where
      pub division : Division
      pub are : datagrams_of division ≡ map (seen write c) (filter both ps)
      pub view : view_in division ≡ view_in D
      pub labels : HaveLabels at m wire ids division
      pub any : (p : Labelled) → Contains D p → Contains division p
      pub strayed : (o : Endpoint) → list_any (λ e. is_put e && came_from c o e.datagram) ps ≡ true → Any (IsStrayOf o) division
      pub main : Any IsMainIn division
      pub own : ids.own ≡ c.port
      pub peer : ids.peer ≡ name write c (other_of c opener.datagram)

    -- the port here is the client's
    local_here : (d : Recorded) → is_between c (other_of c d) d ≡ true → (as_seen_by write c d).local ≡ c.port
    local_here d here = by_test (same_endpoint d.source c)
        (λ is. ap (λ b. local_of (if b then record { dir = Out; local = d.source.port; host = write d.target.address; remote = d.target.port; payload = d.payload }
        else record { dir = In; local = d.target.port; host = write d.source.address; remote = d.source.port; payload = d.payload })) is ∙ ap (λ (o : Endpoint). o.port) (is_same d.source c is))
        (λ off. ap (λ b. local_of (if b then record { dir = Out; local = d.source.port; host = write d.target.address; remote = d.target.port; payload = d.payload }
        else record { dir = In; local = d.target.port; host = write d.source.address; remote = d.source.port; payload = d.payload })) off
        ∙ ap (λ (o : Endpoint). o.port) (is_same d.target c (and_parts (same_endpoint d.source (other_of c d)) (same_endpoint d.target c) (comes_to_it c d off here)).1))

    dir_here : (d : Recorded) (b : Bool) → goes_from c d ≡ b → (as_seen_by write c d).dir ≡ (if b then Out else In)
    dir_here d true is = ap (λ b. way_of (if b then record { dir = Out; local = d.source.port; host = write d.target.address; remote = d.target.port; payload = d.payload }
        else record { dir = In; local = d.target.port; host = write d.source.address; remote = d.source.port; payload = d.payload })) is
    dir_here d false is = ap (λ b. way_of (if b then record { dir = Out; local = d.source.port; host = write d.target.address; remote = d.target.port; payload = d.payload }
        else record { dir = In; local = d.target.port; host = write d.source.address; remote = d.source.port; payload = d.payload })) is

    put_kept : (newer : List Placed) (q : Placed) (label : Label) (D : Division) → keep q ≡ true → HasLabel at m wire ids D (seen write c q) label → IsMerged (newer ++ opener ∷ early) D
        → IsMerged (q ∷ newer ++ opener ∷ early) (one (seen write c q) label D)
    put_kept newer q label D kept has merged = record {
      division = one (seen write c q) label merged.division;
      are = ap (λ l. seen write c q ∷ l) merged.are ∙ sym (ap (map (seen write c)) (filter_kept both q (newer ++ opener ∷ early) (or_left (keep q) (more q) kept)));
      view = view_more (seen write c q) label merged.division D merged.view;
      labels = (label_more m wire ids (seen write c q) label D merged.division merged.any has, merged.labels);
      any = λ r there. elim (contains_cases (record { datagram = seen write c q; label = label }) D r there) [
        | inl this ↦ subst (Contains (one (seen write c q) label merged.division)) this (contains_first (record { datagram = seen write c q; label = label }) merged.division)
        | inr later ↦ contains_later (record { datagram = seen write c q; label = label }) merged.division r (merged.any r later)
      ];
      strayed = λ o there. any_later (IsStrayOf o) (record { datagram = seen write c q; label = label }) merged.division
          (merged.strayed o (sym (ap (λ b. ((not b && more q) && came_from c o q.datagram) || list_any (λ e. is_put e && came_from c o e.datagram) (newer ++ opener ∷ early)) kept) ∙ there));
      main = any_later IsMainIn (record { datagram = seen write c q; label = label }) merged.division merged.main;
      own = merged.own;
      peer = merged.peer;
    }

    put_not : (newer : List Placed) (q : Placed) (D : Division) → both q ≡ false → IsMerged (newer ++ opener ∷ early) D → IsMerged (q ∷ newer ++ opener ∷ early) D
    put_not newer q D off merged = record {
      division = merged.division;
      are = merged.are ∙ sym (ap (map (seen write c)) (filter_dropped both q (newer ++ opener ∷ early) off));
      view = merged.view;
      labels = merged.labels;
      any = merged.any;
      strayed = λ o there. merged.strayed o (sym (ap (λ b. (b && came_from c o q.datagram) || list_any (λ e. is_put e && came_from c o e.datagram) (newer ++ opener ∷ early)) (none (keep q) (more q) off)) ∙ there);
      main = merged.main;
      own = merged.own;
      peer = merged.peer;
    } where
      none : (a b : Bool) → (a || b) ≡ false → (not a && b) ≡ false
      none true b is = absurd (false≢true (sym is))
      none false b is = is

    put_stray : (newer : List Placed) (q : Placed) (D : Division) → is_put q ≡ true → IsPutIn (newer ++ opener ∷ early) q → IsMerged (newer ++ opener ∷ early) D → IsMerged (q ∷ newer ++ opener ∷ early) D
    put_stray newer q D stray put merged = by_test (goes_from c q.datagram) told came where
      is_both : both q ≡ true
      is_both = or_right (keep q) (more q) (and_parts (not (keep q)) (more q) stray).1

      with : (label : Label) → view_in (one (seen write c q) label merged.division) ≡ view_in merged.division → HasLabel at m wire ids merged.division (seen write c q) label
          → ((o : Endpoint) → came_from c o q.datagram ≡ true → (label ≡ Stray) × (peer_of (seen write c q) ≡ name write c o)) → IsMerged (q ∷ newer ++ opener ∷ early) D
      with label view has here = record {
        division = one (seen write c q) label merged.division;
        are = ap (λ l. seen write c q ∷ l) merged.are ∙ sym (ap (map (seen write c)) (filter_kept both q (newer ++ opener ∷ early) is_both));
        view = view ∙ merged.view;
        labels = (has, merged.labels);
        any = λ r there. contains_later (record { datagram = seen write c q; label = label }) merged.division r (merged.any r there);
        strayed = λ o there. elim (or_cases (is_put q && came_from c o q.datagram) (list_any (λ e. is_put e && came_from c o e.datagram) (newer ++ opener ∷ early)) there) [
          | inl this ↦ any_first (IsStrayOf o) (record { datagram = seen write c q; label = label }) merged.division (here o (and_parts (is_put q) (came_from c o q.datagram) this).1)
          | inr later ↦ any_later (IsStrayOf o) (record { datagram = seen write c q; label = label }) merged.division (merged.strayed o later)
        ];
        main = any_later IsMainIn (record { datagram = seen write c q; label = label }) merged.division merged.main;
        own = merged.own;
        peer = merged.peer;
      }

      local : (seen write c q).local ≡ ids.own
      local = local_here q.datagram put.here ∙ sym merged.own

      came : goes_from c q.datagram ≡ false → IsMerged (q ∷ newer ++ opener ∷ early) D
      came off = with Stray refl
          (record {
            dir = dir_here q.datagram false off;
            here = local;
            elsewhere = λ same. put.apart off (name_one write c write_one (other_of c q.datagram) (other_of c opener.datagram) (sym (peer_seen write c q.datagram) ∙ same ∙ merged.peer));
            after = merged.main;
            no_request = λ is. absurd (cc);
          })
          (λ o from. (
            refl,
            peer_seen write c q.datagram ∙ ap (name write c) (ap (λ b. if b then q.datagram.target else q.datagram.source) off
                ∙ is_same q.datagram.source o (and_parts (same_endpoint q.datagram.source o) (same_endpoint q.datagram.target c) (and_parts (goes o c q.datagram) (comes_at c q.datagram) from).0).0),
          ))

      told : goes_from c q.datagram ≡ true → IsMerged (q ∷ newer ++ opener ∷ early) D
      told is = with StrayAnswer refl
          (record {
            dir = dir_here q.datagram true is;
            here = local;
            there = subst (λ n. Any (λ p. (p.label ≡ Stray) × (peer_of p.datagram ≡ n)) merged.division) (sym (peer_seen write c q.datagram)) (merged.strayed (other_of c q.datagram) (put.there is));
            spells = subst (λ l. (text : List ℕ) × Spells l (Message.Error 5 text)) (sym (payload_seen write c q.datagram)) (put.says is);
          })
          (λ o from. absurd (false≢true (sym (ap not is) ∙ (and_parts (goes o c q.datagram) (comes_at c q.datagram) from).1)))

    -- so all that came after are put in
    merge : (newer : List Placed) (D : Division) → datagrams_of D ≡ map (seen write c) (filter keep (newer ++ opener ∷ early)) → HaveLabels at m wire ids D → IsOneSided m wire Client (view_in D) → ArePutIn newer
        → ((D0 : Division) → datagrams_of D0 ≡ map (seen write c) (filter keep (opener ∷ early)) → HaveLabels at m wire ids D0 → IsOneSided m wire Client (view_in D0) → IsMerged (opener ∷ early) D0)
        → IsMerged (newer ++ opener ∷ early) D
    merge [] D are labels own put base = base D are labels own
    merge (q ∷ newer) D are labels own put base = kept_or_not keep q
        (λ kept.
        let (p, rest, is, this, later) = divided_more D (seen write c q) (map (seen write c) (filter keep (newer ++ opener ∷ early))) (are ∙ ap (map (seen write c)) (filter_kept keep q (newer ++ opener ∷ early) kept)) in
        let same : D ≡ one (seen write c q) p.label rest = is ∙ ap (λ e. one e p.label rest) this in
        let has : HaveLabels at m wire ids (one (seen write c q) p.label rest) = subst (HaveLabels at m wire ids) same labels in
        let before : IsOneSided m wire Client (view_in rest) = own_rest p.label (seen write c q) rest (subst (λ l. IsOneSided m wire Client (view_in l)) same own) in
        subst (IsMerged (q ∷ newer ++ opener ∷ early)) (sym same) (put_kept newer q p.label rest kept has.0 (merge newer rest later has.1 before put.1 base)))
        (λ off.
        let before = merge newer D (are ∙ ap (map (seen write c)) (filter_dropped keep q (newer ++ opener ∷ early) off)) labels own put.1 base in
        by_test (more q)
        (λ is. let stray : is_put q ≡ true = and_from (not (keep q)) (more q) (ap not off) is in put_stray newer q D stray (put.0 stray) before)
        (λ none. put_not newer q D (ap (λ b. b || more q) off ∙ none) before))
      where
        own_rest : (label : Label) (d : Datagram) (rest : Division) → IsOneSided m wire Client (view_in (one d label rest)) → IsOneSided m wire Client (view_in rest)
        own_rest (Main (Sent p)) d rest own_all = own_all.1
        own_rest (Main (Took p)) d rest own_all = own_all.1
        own_rest Stray d rest own_all = own_all
        own_rest StrayAnswer d rest own_all = own_all

    -- ---- the first that came

    any_in : (P : Labelled → Type 0) → ((p : Labelled) → P p → p.datagram.dir ≡ In) → (division : Division) → Any P division → list_any comes_in (datagrams_of division) ≡ true
    any_in P way [] there = absurd (any_none P there)
    any_in P way (p ∷ division) there = elim (any_cases P p division there) [
      | inl this ↦ or_left (comes_in p.datagram) (list_any comes_in (datagrams_of division)) (in_true p.datagram (way p this))
      | inr before ↦ or_right (comes_in p.datagram) (list_any comes_in (datagrams_of division)) (any_in P way division before)
    ]

    came_seen : (ps : List Placed) → list_any comes_in (map (seen write c) ps) ≡ list_any (λ q. comes_at c q.datagram) ps
    came_seen [] = refl
    came_seen (q ∷ ps) = λ i. not (goes_seen write c q.datagram i) || came_seen ps i

    module _ (kept : keep opener ≡ true) (from : goes_from c opener.datagram ≡ false) (here : is_between c (other_of c opener.datagram) opener.datagram ≡ true)
        (none : list_any (λ q. comes_at c q.datagram) (filter keep early) ≡ false) (clear : AllByRecursion (λ q. is_put q ≡ false) early) where
      no_stray : (o : Endpoint) (ps : List Placed) → AllByRecursion (λ q. is_put q ≡ false) ps → list_any (λ e. is_put e && came_from c o e.datagram) ps ≡ false
      no_stray o [] all = refl
      no_stray o (q ∷ ps) all = ap (λ b. (b && came_from c o q.datagram) || list_any (λ e. is_put e && came_from c o e.datagram) ps) all.0 ∙ no_stray o ps all.1

      opener_clear : is_put opener ≡ false
      opener_clear = ap (λ b. not b && more opener) kept

      came : comes_in (seen write c opener) ≡ true
      came = ap not (goes_seen write c opener.datagram ∙ from)

      base : (D : Division) → datagrams_of D ≡ map (seen write c) (filter keep (opener ∷ early)) → HaveLabels at m wire ids D → IsOneSided m wire Client (view_in D) → IsMerged (opener ∷ early) D
      base D are labels own =
          let (p, rest, is, this, later) = divided_more D (seen write c opener) (map (seen write c) (filter keep early)) (are ∙ ap (map (seen write c)) (filter_kept keep opener early kept)) in
          let same : D ≡ one (seen write c opener) p.label rest = is ∙ ap (λ e. one e p.label rest) this in
          let has : HaveLabels at m wire ids (one (seen write c opener) p.label rest) = subst (HaveLabels at m wire ids) same labels in
          by p.label rest later same has (subst (λ l. IsOneSided m wire Client (view_in l)) same own)
        where
          found : (p : MachinePacket) (rest : Division) → D ≡ one (seen write c opener) (Main (Took p)) rest → (seen write c opener).local ≡ ids.own → peer_of (seen write c opener) ≡ ids.peer → IsMerged (opener ∷ early) D
          found p rest same local peer = record {
            division = D;
            are = are ∙ sym (ap (map (seen write c)) (same_both (opener ∷ early) (opener_clear, clear)));
            view = refl;
            labels = labels;
            any = λ r there. there;
            strayed = λ o there. absurd (false≢true (sym (no_stray o (opener ∷ early) (opener_clear, clear)) ∙ there));
            main = subst (Any IsMainIn) (sym same) (any_first IsMainIn (record { datagram = seen write c opener; label = Main (Took p) }) rest ((Took p, refl), dir_here opener.datagram false from));
            own = sym local ∙ local_here opener.datagram here;
            peer = sym peer ∙ peer_seen write c opener.datagram;
          }

          by : (label : Label) (rest : Division) → datagrams_of rest ≡ map (seen write c) (filter keep early) → D ≡ one (seen write c opener) label rest → HaveLabels at m wire ids (one (seen write c opener) label rest)
              → IsOneSided m wire Client (view_in (one (seen write c opener) label rest)) → IsMerged (opener ∷ early) D
          by (Main (Sent p)) rest later same has own_all = absurd (false≢true (sym (out_false (seen write c opener) has.0.dir) ∙ came))
          by (Main (Took Req)) rest later same has own_all = let role : Client ≡ Server = own_all.0 in absurd (cc)
          by (Main (Took Oack)) rest later same has own_all = found Oack rest same has.0.client has.0.server.0
          by (Main (Took (Data k))) rest later same has own_all = found (Data k) rest same has.0.client has.0.server.0
          by (Main (Took (Ack j))) rest later same has own_all = found (Ack j) rest same has.0.client has.0.server.0
          by (Main (Took (Error code text))) rest later same has own_all = found (Error code text) rest same has.0.client has.0.server.0
          by Stray rest later same has own_all = absurd (false≢true (sym none ∙ sym (came_seen (filter keep early)) ∙ ap (list_any comes_in) (sym later)
              ∙ any_in IsMainIn (λ q main. main.1) rest has.0.after))
          by StrayAnswer rest later same has own_all = absurd (false≢true (sym (out_false (seen write c opener) has.0.dir) ∙ came))

  -- so the list with them is lawful too
  pub put_in : keep opener ≡ true → goes_from c opener.datagram ≡ false → is_between c (other_of c opener.datagram) opener.datagram ≡ true
      → list_any (λ q. comes_at c q.datagram) (filter keep early) ≡ false → AllByRecursion (λ q. is_put q ≡ false) early → (newer : List Placed) → ArePutIn newer
      → OneEnded at (map (seen write c) (filter keep (newer ++ opener ∷ early))) → OneEnded at (map (seen write c) (filter both (newer ++ opener ∷ early)))
  put_in kept from here none clear newer put fair =
      let ds = map (seen write c) (filter keep (newer ++ opener ∷ early)) in
      let (m, wire, seen_all) = (lawful at (reverse ds)).1 (subst (OneEnded at) (sym (reverse-reverse ds)) fair) in
      let dress = seen_all.dressed in
      let own : IsOneSided m wire Client (view_in dress.division) = subst (IsOneSided m wire Client) (sym dress.main) (view_one_sided m wire Client seen_all.view seen_all.run) in
      let merged = merge m wire dress.ids newer dress.division (dress.whole ∙ reverse-reverse ds) dress.labels own put (base m wire dress.ids kept from here none clear) in
      let more_ds = map (seen write c) (filter both (newer ++ opener ∷ early)) in
      let shown : IsLawful at (reverse more_ds) = (
        m,
        wire,
        record {
          fits = seen_all.fits;
          view = seen_all.view;
          run = seen_all.run;
          dressed = record {
            ids = dress.ids;
            division = merged.division;
            whole = merged.are ∙ sym (reverse-reverse more_ds);
            main = merged.view ∙ dress.main;
            labels = merged.labels;
          };
        },
      ) in
      subst (OneEnded at) (reverse-reverse more_ds) ((lawful at (reverse more_ds)).0 shown)
