-- What may pass next at a server after a part of a lawful capture in lock step, though the part may not have what was agreed on.
use Rattle.std.proofs.Common.{◌≡◌, ◌≢◌, ◌⊎◌, ℕ, ◌-◌, ◌<◌, ◌≤◌, Bool, true, false, List, [], ◌∷◌, Contains, Some, None, codes, length, inl, inr, refl, sym, ap, subst, ◌∙◌, arith}
use Rattle.std.specs.FinMap as map
use Rattle.std.specs.Ordering.{nat_cmp}
use Rattle.std.specs.Cmp.Lexicographic.{slice_cmp}
use Rattle.std.specs.List.{AllByRecursion, list_any}
use Rattle.std.proofs.lemmas.Bool.{false≢true, cases_eq, cases_lt, or_cases, or_parts}
use Rattle.tftp_packet.specs.{Message, Num, OptionMap, OptionValue, RequestParts, Side, Get, Put, Client, Server, Spells, no_options, side_opcode}
use Rattle.tftp_packet.specs.Hosts.{Datagram, PeerId, peer_of}
use Rattle.tftp_packet.specs.{Dir, In, Out}
use Rattle.law_model.specs.Model.{Meaning, NothingAgreed, request_of, blksize_of, block, block_count, windowsize_of, MachinePacket, Req, Oack, Data, Ack, Error, Deed, Sent, Took, History, message_of, HasSent, HasTaken, IsOneSided}
use Rattle.law_model.specs.Rules.{HasPassed, Passed, begins_request, transfer_of}
use Rattle.law_model.proofs.ModelLemmas.Defaults.{default_blksize, default_windowsize}
use Rattle.law_model.proofs.ModelLemmas.Members.{contains_first, contains_later}
use Rattle.law_model.proofs.ModelLemmas.Stops.{heard_done}
use Rattle.law_model.proofs.RulesLemmas.Joined.{whole_block}
use Rattle.law_end.specs.{Accords, Begins, Division, FirstAnswer, Fits, HaveLabels, IsMain, OneEnded, Starts, TransferIds, datagrams_of, packet_of, view_in}
use Rattle.law_end.proofs.Accord.FirstReply.{sent_data, took_data}
use Rattle.law_end.proofs.Accord.FirstSpelled.{numbered}
use Rattle.law_end.proofs.Accord.Moments.{sent_below, sent_moment, took_moment, who_sent_data, who_took_data, who_took_oack}
use Rattle.law_end.proofs.Completeness.NextDeed.{wire_blocks}
use Rattle.law_end.proofs.Division.Divided.{view_main}
use Rattle.law_end.proofs.Division.Routed.{starts_of}
use Rattle.law_end.proofs.Whole.TwoEnds.{some}
use Rattle.audit_flows.specs.Lines.{begins_oack}
use Rattle.audit_flows.proofs.LinesLemmas.Lines.{by_test}
use Rattle.audit_spared.proofs.SparedLemmas.NearParts.{IsNearPart, acked_taken}
use Rattle.audit_spared.proofs.SparedLemmas.NextRuns.{AreMain, IsDone, IsNewest, IsPartOf, agreed_or, all_done, asked_there, divided_main, first_oack, has_there, near_part, nothing_read, nothing_written, part_main, passed, passes_by, request_only, routes, sub_passed, through, told}
use Rattle.audit_spared.proofs.SparedLemmas.ServedRuns.{at}

abbrev pub says_oack : Datagram → Bool
says_oack e = begins_oack e.payload

-- ---- who says an OACK

oack_said : (m : Meaning) (wire : List ℕ) (q : MachinePacket) (payload : List ℕ) → Spells payload (message_of m wire q) → begins_oack payload ≡ true → q ≡ Oack
oack_said m wire Oack payload s is = refl
oack_said m wire Req payload s is = absurd (by m.side payload s.1.bytes is) where
  by : {rest : List ℕ} (side : Side) (l : List ℕ) → l ≡ 0 ∷ side_opcode side ∷ rest → begins_oack l ≡ true → ⊥
  by Get l e is = false≢true (sym (subst (λ x. begins_oack x ≡ false) (sym e) refl) ∙ is)
  by Put l e is = false≢true (sym (subst (λ x. begins_oack x ≡ false) (sym e) refl) ∙ is)
oack_said m wire (Data k) payload (b, (x, y, pair, e)) is = absurd (false≢true (sym (subst (λ l. begins_oack l ≡ false) (sym e) refl) ∙ is))
oack_said m wire (Ack j) payload (b, (x, y, pair, e)) is = absurd (false≢true (sym (subst (λ l. begins_oack l ≡ false) (sym e) refl) ∙ is))
oack_said m wire (Error code text) payload (b, (x, y, pair, string, e)) is = absurd (false≢true (sym (subst (λ l. begins_oack l ≡ false) (sym e) refl) ∙ is))

oack_done : (m : Meaning) (wire : List ℕ) (v : History) (ds : List Datagram) → AllByRecursion (IsDone m wire v) ds → list_any says_oack ds ≡ true → HasSent v Oack ⊎ HasTaken v Oack
oack_done m wire v [] all any = absurd (false≢true any)
oack_done m wire v (e ∷ ds) all any = elim (or_cases (says_oack e) (list_any says_oack ds) any) [
  | inl this ↦ by all.0.0 all.0.1 all.0.3 this
  | inr later ↦ oack_done m wire v ds all.1 later
] where
  by : (deed : Deed) → Contains v deed → Spells e.payload (message_of m wire (packet_of deed)) → says_oack e ≡ true → HasSent v Oack ⊎ HasTaken v Oack
  by (Sent q) is spells this = inl (subst (HasSent v) (oack_said m wire q e.payload spells this) is)
  by (Took q) is spells this = inr (subst (HasTaken v) (oack_said m wire q e.payload spells this) is)

none_said : (ds : List Datagram) → list_any says_oack ds ≡ false → (dir : Dir) (options : OptionMap) → Passed dir (Message.Oack options) ds → ⊥
none_said [] none dir options p = p
none_said (e ∷ ds) none dir options p =
    let parts = or_parts (says_oack e) (list_any says_oack ds) none in
    elim p [
      | inl now ↦ false≢true (sym parts.0 ∙ subst (λ l. begins_oack l ≡ true) (sym now.1.1.bytes) refl)
      | inr before ↦ none_said ds parts.1 dir options before
    ]

-- ---- the request was taken

asked_in : (m : Meaning) (wire : List ℕ) (ids : TransferIds) (division : Division) → HaveLabels at m wire ids division → AllByRecursion (λ p. IsMain p.label) division → Starts Server (view_in division) → division ≢ [] → HasTaken (view_in division) Req
asked_in m wire ids [] labels mains starts some = absurd (some refl)
asked_in m wire ids (p ∷ []) labels mains starts some =
    let (deed, is) = mains.0 in
    let same = view_main p deed [] is in
    let first : deed ≡ Took Req = (subst (Starts Server) same starts).0.first refl in
    subst (λ v. HasTaken v Req) (sym same) (subst (λ x. Contains (x ∷ []) (Took Req)) (sym first) (contains_first (Took Req) []))
asked_in m wire ids (p ∷ q ∷ earlier) labels mains starts some =
    let (deed, is) = mains.0 in
    let same = view_main p deed (q ∷ earlier) is in
    subst (λ v. HasTaken v Req) (sym same) (contains_later deed (view_in (q ∷ earlier)) (Took Req)
    (asked_in m wire ids (q ∷ earlier) labels.1 mains.1 (subst (Starts Server) same starts).1 (λ e. absurd (cc))))

-- ---- block 1 of two meanings

-- a whole first block is the other's only one, or as long
first_block : (b : ℕ) (wire : List ℕ) (b_o : ℕ) (wire_o : List ℕ) → 1 < block_count b wire → block b_o wire_o 1 ≡ block b wire 1 → (b ≡ b_o → ⊥) → block_count b_o wire_o ≤ 1
first_block b wire b_o wire_o more same differs = elim (cases_lt 1 (block_count b_o wire_o)) [
  | inl also ↦
      let one = whole_block b (block_count b wire) 1 wire refl (omega arith) more in
      let other = whole_block b_o (block_count b_o wire_o) 1 wire_o refl (omega arith) also in
      absurd (differs (sym one ∙ ap length (sym same) ∙ other))
  | inr only ↦ only
]

-- ---- by what was agreed on

module _ (peer : PeerId) (d : Datagram) (whole part : List Datagram) (nx : IsNewest d whole)
    (single : windowsize_of nx.m ≡ 1)
    (passes : OneEnded at part) (from : AllByRecursion (λ e. peer_of e ≡ peer) part) (from_d : peer_of d ≡ peer) (some_part : part ≢ [])
    (port : ℕ) (ports : AllByRecursion (λ e. begins_request e ≡ false → e.local ≡ port) part) (port_d : d.local ≡ port)
    (n : ℕ) (two : 2 ≤ n) (is : (packet_of nx.deed ≡ Data n) ⊎ (packet_of nx.deed ≡ Ack n)) (p : IsPartOf n whole part)
    (refuted : n ≡ 2 → packet_of nx.deed ≡ Data n → list_any says_oack part ≡ false → ⊥) where
  abbrev done : History
  done = view_in nx.before.division

  agreed : NothingAgreed nx.m ⊎ ((dir : Dir) × Passed dir (Message.Oack nx.m.agreed) whole)
  agreed = agreed_or nx.m nx.wire whole nx.before n (omega (arith, two)) nx.deed is nx.now

  -- by the meaning of the whole
  as_whole : (FirstAnswer nx.m.side (transfer_of at part) Begins → NothingAgreed nx.m) → OneEnded at (d ∷ part)
  as_whole begun = passes_by peer d whole part nx nx.m nx.wire nx.fits (part_main nx.m nx.wire nx.fits whole part nx.before p.back peer passes from begun)
      refl single single from from_d port ports port_d n two is p (λ low. low) nx.has.spells

  -- ---- the part has a meaning of its own

  record HasOwn : Type 0 where
    o : Meaning
    wire : List ℕ
    acc : Accords at o wire part
    of_part : AreMain o wire part

  own : HasOwn
  own = let (o, wire, acc) = some at part passes in record { o = o; wire = wire; acc = acc; of_part = divided_main o wire part acc peer passes from }

  abbrev v : History
  v = view_in own.of_part.division

  own_v : IsOneSided own.o own.wire Server v
  own_v = own.of_part.own

  -- it says the same of the request
  same_request : request_of own.o ≡ request_of nx.m
  same_request = asked_same (Message.Request (request_of own.o)) refl (p.back In (Message.Request (request_of own.o)) (passed own.o own.wire part own.of_part (Took Req)
      (asked_in own.o own.wire own.of_part.ids own.of_part.division own.of_part.labels own.of_part.mains
      (starts_of at own.o own.wire own.of_part.ids own.of_part.division own.of_part.labels own_v) division_some)))
    where
      division_some : own.of_part.division ≢ []
      division_some none = some_part (sym own.of_part.same ∙ ap datagrams_of none)

      asked_same : (x : Message) → x ≡ Message.Request (request_of own.o) → Passed In x whole → request_of own.o ≡ request_of nx.m
      asked_same x e came =
          let (deed, there, way, says) = told nx.m nx.wire whole nx.before In x came in request_only nx.m nx.wire nx.fits whole part nx.before p.back (packet_of deed) (request_of own.o) (says ∙ e)

  same_side : own.o.side ≡ nx.m.side
  same_side = ap (λ (r : RequestParts). r.side) same_request

  -- where the part has the OACK, it does not begin plainly
  with_oack : list_any says_oack part ≡ true → FirstAnswer nx.m.side (transfer_of at part) Begins → NothingAgreed nx.m
  with_oack any first = absurd (by (oack_done own.o own.wire v part (all_done own.o own.wire part own.of_part) any)) where
    nothing : NothingAgreed own.o
    nothing = own.acc.plain (subst (λ side. FirstAnswer side (transfer_of at part) Begins) (sym same_side) first)

    by : HasSent v Oack ⊎ HasTaken v Oack → ⊥
    by (inl sent) = (sent_moment own.o own.wire Server v own_v Oack sent).1.agreed nothing
    by (inr taken) = let wrong : Server ≡ Client = who_took_oack own.o own.wire Server v own_v taken in absurd (cc)

  -- ---- where it has none

  module _ (none : list_any says_oack part ≡ false) where
    none_passed : (dir : Dir) (options : OptionMap) → Passed dir (Message.Oack options) part → ⊥
    none_passed = none_said part none

    -- blocks of 512 bytes are so without it
    module _ (blk : blksize_of nx.m ≡ 512) where
      abbrev plainly : Meaning
      plainly = record { side = nx.m.side; name = nx.m.name; mode = nx.m.mode; requested = nx.m.requested; agreed = no_options; file = nx.m.file }

      same_blk : blksize_of nx.m ≡ blksize_of plainly
      same_blk = blk ∙ sym (default_blksize plainly refl)

      no_option : {A : Type 0} (name : List ℕ) (value : OptionValue) → map.get no_options name ≡ Some value → A
      no_option name value get = let both : None ≡ Some value = sym (map.get-empty (slice_cmp nat_cmp) name) ∙ get in absurd (cc)

      fits : Fits None plainly nx.wire
      fits = record {
        may_agree = record { asked = λ name value get. no_option name value get; size = λ octet size get. no_option (codes "tsize") (Num size) get };
        reads = nx.fits.reads;
        size = λ octet size get. no_option (codes "tsize") (Num size) get;
        numbered = subst (λ b. block_count b nx.wire ≤ 65535) same_blk nx.fits.numbered;
      }

      accords : Accords at plainly nx.wire part
      accords = record {
        fits = fits;
        asked = λ asked first. asked_there nx.m nx.wire nx.fits whole part nx.before p.back asked first;
        oacked = λ options first. let (dir, there) = first_oack nx.m.side (transfer_of at part) options first in absurd (none_passed dir options (sub_passed part dir (Message.Oack options) there));
        plain = λ first. refl;
        blocks = λ k bytes there. subst (λ b. (k ≤ block_count b nx.wire) × (bytes ≡ block b nx.wire k)) same_blk
            (wire_blocks at nx.m nx.wire nx.fits nx.before.division (routes nx.m nx.wire whole nx.before) nx.before.own k bytes (has_there nx.m nx.wire nx.fits whole part nx.before p.back (Message.Data k bytes) there));
      }

      spells : Spells d.payload (message_of plainly nx.wire (packet_of nx.deed))
      spells = elim is [
        | inl data_is ↦ subst (λ q. Spells d.payload (message_of plainly nx.wire q)) (sym data_is) (subst (λ b. Spells d.payload (Message.Data n (block b nx.wire n))) same_blk
            (subst (λ q. Spells d.payload (message_of nx.m nx.wire q)) data_is nx.has.spells))
        | inr ack_is ↦ subst (λ q. Spells d.payload (message_of plainly nx.wire q)) (sym ack_is) (subst (λ q. Spells d.payload (message_of nx.m nx.wire q)) ack_is nx.has.spells)
      ]

      as_plain : OneEnded at (d ∷ part)
      as_plain = passes_by peer d whole part nx plainly nx.wire fits (divided_main plainly nx.wire part accords peer passes from)
          refl single (default_windowsize plainly refl) from from_d port ports port_d n two is p (λ low. subst (λ b. n ≤ block_count b nx.wire) same_blk low) spells

    -- of other blocks no second is among it
    module _ (differs : blksize_of nx.m ≡ 512 → ⊥) where
      near : IsNearPart n (view_in nx.before.division) (view_in own.of_part.division)
      near = near_part nx.m nx.wire own.o own.wire n whole part nx.before own.of_part p

      either_way : (dir : Dir) (x : Message) (ds : List Datagram) → Passed dir x ds → HasPassed x ds
      either_way In x ds there = inl there
      either_way Out x ds there = inr there

      whole_through : (x : Message) → HasPassed x whole → HasPassed x (transfer_of at (datagrams_of nx.before.division))
      whole_through x there = subst (HasPassed x) (sym (through nx.m nx.wire whole nx.before)) there

      part_through : (x : Message) → HasPassed x part → HasPassed x (transfer_of at (datagrams_of own.of_part.division))
      part_through x there = subst (HasPassed x) (sym (through own.o own.wire part own.of_part)) there

      few : (nothing : NothingAgreed own.o) → 2 ≤ block_count (blksize_of nx.m) nx.wire → (dir : Dir) (bytes : List ℕ) → Passed dir (Message.Data 1 bytes) part → block_count (blksize_of own.o) own.wire ≤ 1
      few nothing more dir bytes there =
          let one_whole = (wire_blocks at nx.m nx.wire nx.fits nx.before.division (routes nx.m nx.wire whole nx.before) nx.before.own 1 bytes (whole_through (Message.Data 1 bytes) (either_way dir (Message.Data 1 bytes) whole (p.back dir (Message.Data 1 bytes) there)))).1 in
          let one_part = (wire_blocks at own.o own.wire own.acc.fits own.of_part.division (routes own.o own.wire part own.of_part) own_v 1 bytes (part_through (Message.Data 1 bytes) (either_way dir (Message.Data 1 bytes) part there))).1 in
          first_block (blksize_of nx.m) nx.wire (blksize_of own.o) own.wire (omega (arith, more)) (sym one_part ∙ one_whole) (λ e. differs (e ∙ default_blksize own.o nothing))

      refute : OneEnded at (d ∷ part)
      refute = absurd (by nx.deed is nx.now (λ e two_is. refuted two_is e none))
        where
          sent_o : (k : ℕ) → HasSent v (Data k) → NothingAgreed own.o
          sent_o k there = nothing_read own.o own.wire part own.of_part none_passed (who_sent_data own.o own.wire Server v own_v k there) (sent_data own.o own.wire Server k v own_v there)

          took_o : (k : ℕ) → HasTaken v (Data k) → NothingAgreed own.o
          took_o k there = nothing_written own.o own.wire part own.of_part none_passed (who_took_data own.o own.wire Server v own_v k there) (took_data own.o own.wire Server k v own_v there)

          counted : (deed : Deed) → Contains v deed → (k : ℕ) → packet_of deed ≡ Data k → k ≤ block_count (blksize_of own.o) own.wire
          counted deed there k kind = (numbered at own.o own.wire v own_v deed there k kind).1

          -- no more than one of the part
          one_sent : 2 ≤ block_count (blksize_of nx.m) nx.wire → (k : ℕ) → 1 ≤ k → HasSent v (Data k) → k ≤ 1
          one_sent more k low there =
              let first = sent_below own.o own.wire Server v own_v k 1 there (omega arith) low in
              let count = few (sent_o k there) more Out (block (blksize_of own.o) own.wire 1) (passed own.o own.wire part own.of_part (Sent (Data 1)) first) in
              let this = counted (Sent (Data k)) there k refl in
              omega (arith, count, this)

          one_taken : 2 ≤ block_count (blksize_of nx.m) nx.wire → (k : ℕ) → HasTaken v (Data 1) → HasTaken v (Data k) → k ≤ 1
          one_taken more k first there =
              let count = few (took_o k there) more In (block (blksize_of own.o) own.wire 1) (passed own.o own.wire part own.of_part (Took (Data 1)) first) in
              let this = counted (Took (Data k)) there k refl in
              omega (arith, count, this)

          -- block 1 came before a later one
          taken_first : HasTaken v (Data n) → HasTaken v (Data 1)
          taken_first here =
              let (before, come, kept) = took_moment own.o own.wire Server v own_v (Data n) here in
              let w = come.in_window in
              let high = w.2 in
              let step = default_windowsize own.o (took_o n here) in
              elim w.1 [
                | inl none_there ↦ absurd (omega (arith, none_there, two, high, step))
                | inr there ↦ acked_taken own.o own.wire v own_v w.0 1 (kept (Sent (Ack w.0)) (heard_done before (Sent (Ack w.0)) there)) (omega arith) (omega (arith, two, high, step))
              ]

          by : (deed : Deed) → (packet_of deed ≡ Data n) ⊎ (packet_of deed ≡ Ack n) → IsOneSided nx.m nx.wire Server (deed ∷ done) → (packet_of deed ≡ Data n → n ≡ 2 → ⊥) → ⊥
          by (Sent q) (inl e) now only_two =
              let may = (subst (λ s. IsOneSided nx.m nx.wire Server (Sent s ∷ done)) e now).0 in
              let inside = may.in_wire in
              let before : HasSent v (Data (n - 1)) = near.sent (Data (n - 1)) (omega (arith, two)) (elim may.in_order [ inl first ↦ absurd (omega (arith, first, two)) | inr there ↦ there ]) in
              let low = one_sent (omega (arith, inside, two)) (n - 1) (omega (arith, two)) before in
              only_two e (omega (arith, low, two))
          by (Took q) (inr e) now only_two =
              let may = (subst (λ s. IsOneSided nx.m nx.wire Server (Took s ∷ done)) e now).0 in
              let there = may.sent n (omega (arith, two)) (omega arith) in
              let inside = (numbered at nx.m nx.wire done nx.before.own (Sent (Data n)) (heard_done done (Sent (Data n)) there) n refl).1 in
              let low = one_sent (omega (arith, inside, two)) n (omega (arith, two)) (heard_done v (Sent (Data n)) (near.used (Data n) (omega arith) there)) in
              omega (arith, low, two)
          by (Took q) (inl e) now only_two =
              let may = (subst (λ s. IsOneSided nx.m nx.wire Server (Took s ∷ done)) e now).0 in
              let inside = may.in_wire in
              let w = may.in_window in
              let high = w.2 in
              let step = single in
              let sent : HasSent v (Ack w.0) = heard_done v (Sent (Ack w.0)) (elim w.1 [ inl none_there ↦ absurd (omega (arith, none_there, two, high, step)) | inr there ↦ near.used (Ack w.0) (omega (arith, high, step)) there ]) in
              let low = one_taken (omega (arith, inside, two)) w.0 (acked_taken own.o own.wire v own_v w.0 1 sent (omega arith) (omega (arith, two, high, step)))
              (acked_taken own.o own.wire v own_v w.0 w.0 sent (omega (arith, two, high, step)) (omega arith)) in
              only_two e (omega (arith, low, high, step, two))
          by (Sent q) (inr e) now only_two =
              let may = (subst (λ s. IsOneSided nx.m nx.wire Server (Sent s ∷ done)) e now).0 in
              let there = may.taken n (omega (arith, two)) (omega arith) in
              let inside = (numbered at nx.m nx.wire done nx.before.own (Took (Data n)) there n refl).1 in
              let here = near.took (Data n) (omega arith) there in
              let low = one_taken (omega (arith, inside, two)) n (taken_first here) here in
              omega (arith, low, two)

  -- so it passes after the part
  pub lock_step : OneEnded at (d ∷ part)
  lock_step = elim agreed [
    | inl nothing ↦ as_whole (λ first. nothing)
    | inr some_oack ↦ by_test (list_any says_oack part)
        (λ any. as_whole (with_oack any))
        (λ none. elim (cases_eq (blksize_of nx.m) 512) [
          | inl blk ↦ as_plain none blk
          | inr differs ↦ refute none differs
        ])
  ]
