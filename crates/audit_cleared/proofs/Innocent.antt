-- No row accuses by what was seen at a lawful end. Lists have the newest first.
use Rattle.std.proofs.Common.{◌≡◌, ◌⊎◌, ℕ, Bool, true, false, ◌||◌, ◌&&◌, not, List, [], ◌∷◌, ◌++◌, Some, inl, inr, filter, map, refl, sym, ap, subst, ◌∙◌, ◌==◌, if◌then◌else◌}
use Rattle.std.specs.List.{AllByRecursion}
use Rattle.std.specs.Prelude.{is_some}
use Rattle.std.proofs.lemmas.Bool.{eqb-true, false≢true, or_cases, or_right}
use Rattle.std.proofs.lemmas.List.Elements.{All-from_recursion}
use Rattle.tftp_packet.specs.{In, Out}
use Rattle.law_end.specs.{IsRefused, OneEnded, Rule}
use Rattle.law_end.proofs.Division.Divided.{any_first, any_later}
use Rattle.law_tap.specs.{BreaksNoTapRule, TapPasses}
use Rattle.audit_flows.specs.Lines.{Placed, Recorded, is_late, is_of, same_endpoint, says_first_word, speaks_first, transfer_of}
use Rattle.audit_flows.specs.{Beside, Endpoint, Opens, Place, Repeats, Talks, Transfer}
use Rattle.audit_flows.specs.Transfers.{client_view, comes_of_earlier, is_about, is_at_server, is_beside, is_doubted, is_doubtful, is_doubtful_at_server, is_end, is_led_astray, is_service, opened_it, placed, server_of, some_of, tells_strays}
use Rattle.audit_flows.proofs.LinesLemmas.Endpoints.{is_same}
use Rattle.audit_flows.proofs.LinesLemmas.Lines.{by_test}
use Rattle.audit_flows.proofs.TransfersLemmas.OwnDatagrams.{about_none, seen_none}
use Rattle.audit_spared.specs.Spared.{as_seen_by, at_client_of, at_server_of, captured_there, needs_doubt, seen_at_server, server_saw, transfer_beside}
use Rattle.audit_spared.proofs.FairLemmas.Thinned.{filter_kept}
use Rattle.audit_spared.proofs.SparedLemmas.Basics.{doubtful_is, or_more}
use Rattle.audit_views.specs.Parties.{host_name}
use Rattle.audit_views.specs.Views.{captured, captured_at_client, captured_at_server, client_capture, client_header, server_header}
use Rattle.audit_recording.specs.{Telling}
use Rattle.audit_recording.specs.Between.{between_capture, passed_of, sides_of, sides_with}
use Rattle.audit_recording.specs.Blame.Facts.{blamed_of}
use Rattle.audit_recording.specs.Blame.Frames.{Carried, Framed, datagrams_of, whole_of}
use Rattle.audit_recording.specs.Judges.{opened}
use Rattle.audit_recording.specs.Reasons.Listed.{IsBlamedAt}
use Rattle.audit_recording.specs.declared.blame.blame.Blamed.{Blamed}
use Rattle.audit_recording.specs.declared.blame.doubted.Doubted.{Doubted}
use Rattle.audit_recording.specs.declared.rows.row.Point.{Point}
use Rattle.audit_recording.specs.declared.rows.row.Point.TheVariants.{Between, Client, Server}
use Rattle.audit_recording.proofs.JudgesLemmas.Keeping.{opened_elsewhere, opened_here}
use Rattle.audit_recording.proofs.ReasonsLemmas.Listed.{accused}
use Rattle.audit_rows.specs.Accusing.{accused_of_row}
use Rattle.audit_rows.specs.Doubting.{is_client, is_server, row_reasons}
use Rattle.audit_rows.specs.declared.viewed.Viewed.{Viewed}
use Rattle.audit_cleared.specs.{HasAddresses, IsOpenedIn, IsTransferIn}
use Rattle.audit_cleared.specs.Accusing.{AccusesNobody, IsServerKnown, TellsOf}
use Rattle.audit_cleared.proofs.Named.{rules_cleared}
use Rattle.audit_cleared.proofs.Opened.{AreHeld, IsHeld, all_opened, opened_one, transfer_held}
use Rattle.audit_cleared.proofs.Staying.{map_agree}
use Rattle.audit_cleared.proofs.Unlisted.{accused_between, accused_of, nobody}

-- ---- of which transfer a datagram is

opens_as : (n : ℕ) (d : Recorded) (moment : ℕ) (place : Place) (x : Transfer) → opened_it n (record { datagram = d; moment = moment; place = place }) ≡ true → transfer_of place ≡ Some x → place ≡ Opens x
opens_as n d moment (Opens y) x opens is = let same : y ≡ x = cc in ap Opens same
opens_as n d moment _ x opens is = absurd (cc)

-- a transfer that was opened was opened by a datagram
opened_in : (n : ℕ) (ps : List Placed) (x : Transfer) → opened n ps ≡ Some x → IsOpenedIn x ps
opened_in n [] x is = absurd (cc)
opened_in n (p ∷ ps) x is = by_test (opened_it n p)
    (λ here. any_first (λ (q : Placed). q.place ≡ Opens x) p ps (opens_as n p.datagram p.moment p.place x here (sym (opened_here n p ps here) ∙ is)))
    (λ off. any_later (λ (q : Placed). q.place ≡ Opens x) p ps (opened_in n ps x (sym (opened_elsewhere n p ps off) ∙ is)))

among : (P : Placed → Type 0) (newer : List Placed) (p : Placed) (older : List Placed) → AllByRecursion P (newer ++ p ∷ older) → P p
among P [] p older all = all.0
among P (q ∷ newer) p older all = among P newer p older all.1

module _ (recorded : List Recorded) (x : Transfer) (is_x : IsOpenedIn x (placed [] recorded)) where
  abbrev Opened : Transfer → Type 0
  Opened y = IsOpenedIn y (placed [] recorded)

  one : (y : Transfer) → Opened y → (y.number == x.number) ≡ true → y ≡ x
  one y is same = opened_one [] recorded y x is is_x (eqb-true y.number x.number same)

  of_place : (d : Recorded) (now : ℕ) (place : Place) → IsHeld Opened place → is_about x.number (record { datagram = d; moment = now; place = place }) ≡ true
      → is_beside (record { datagram = d; moment = now; place = place }) ≡ false → (transfer_of place ≡ Some x) × (transfer_beside place ≡ Some x)
  of_place d now (Opens y) held about off = (ap Some (one y held about), ap Some (one y held about))
  of_place d now (Repeats y) held about off = (ap Some (one y held about), ap Some (one y held about))
  of_place d now (Talks y) held about off = (ap Some (one y held about), ap Some (one y held about))
  of_place d now (Beside y) held about off = absurd (cc)
  of_place d now _ held about off = absurd (cc)

  -- a datagram of the recording that is about the transfer, and not beside it, is one of it
  own : (newer older : List Placed) (p : Placed) → placed [] recorded ≡ newer ++ p ∷ older → is_about x.number p ≡ true → is_beside p ≡ false
      → (transfer_of p.place ≡ Some x) × (transfer_beside p.place ≡ Some x)
  own newer older p are about off =
      of_place p.datagram p.moment p.place (among (λ q. IsHeld Opened q.place) newer p older (subst (AreHeld Opened) are (all_opened [] recorded))) about off

not_beside : (n : ℕ) (d : Recorded) (now : ℕ) (place : Place) → is_of n (record { datagram = d; moment = now; place = place }) ≡ true → is_beside (record { datagram = d; moment = now; place = place }) ≡ false
not_beside n d now (Beside y) is = absurd (cc)
not_beside n d now _ is = refl

about_own : (n : ℕ) (p : Placed) → is_of n p ≡ true → is_about n p ≡ true
about_own n p is = by_test (is_about n p) (λ on. on) (λ off. absurd (false≢true (sym (about_none n p off) ∙ is)))

about_seen : (n : ℕ) (whole : List Placed) (p : Placed) → is_at_server n whole p ≡ true → is_about n p ≡ true
about_seen n whole p is = by_test (is_about n p) (λ on. on) (λ off. absurd (false≢true (sym (seen_none n whole p off) ∙ is)))

-- ---- what is blamed

blamed_at : (b : Blamed) (x : Transfer) (f : Framed) → b ≡ blamed_of x f → IsBlamedAt b x.number f.placed f.before
blamed_at b x f is = record {
  late = ap (λ (c : Blamed). c.is_late) is;
  beside = ap (λ (c : Blamed). c.is_beside) is;
  answered = ap (λ (c : Blamed). c.is_answered) is;
  strays = ap (λ (c : Blamed). c.tells_strays) is;
  first = ap (λ (c : Blamed). c.says_first_word) is;
}

-- ---- at a client

seen_at : (b : Bool) (d : Recorded) → captured host_name (if b then Out else In) d
    ≡ (if b then record { dir = Out; local = d.source.port; host = host_name d.target.address; remote = d.target.port; payload = d.payload }
    else record { dir = In; local = d.target.port; host = host_name d.source.address; remote = d.source.port; payload = d.payload })
seen_at true d = refl
seen_at false d = refl

seen_same : (x : Transfer) (p : Placed) → captured_at_client host_name x p ≡ as_seen_by host_name x.client p.datagram
seen_same x p = seen_at (same_endpoint p.datagram.source x.client) p.datagram

module _ (x : Transfer) (carried : List Carried) (d : Doubted) (t : Telling) (v : Viewed) where
  abbrev whole : List Placed
  whole = whole_of [] carried

  -- what is refused there is doubtful
  abbrev pub AreSparedAtClient : Type 0
  AreSparedAtClient = (newer older : List Placed) (p : Placed) → whole ≡ newer ++ p ∷ older → transfer_of p.place ≡ Some x
      → (rule : Rule) → IsRefused (at_client_of x.asked.port) (map (λ (q : Placed). as_seen_by host_name x.client q.datagram) (client_view x.number older)) (as_seen_by host_name x.client p.datagram) rule
      → is_doubtful x.number whole p older ≡ true

  pub none_at_client : AreSparedAtClient → TellsOf Client x carried d t v → AccusesNobody x carried d t v
  none_at_client spared tells = nobody (accused_of_row x whole t v.blamed (row_reasons x whole d t v)) (λ a is.
      let i = accused_of Client (client_header x) x carried (captured_at_client host_name x) d t v (λ said found. found) (λ said never. never) tells a is in
      let p = i.framed.placed in
      let older = i.framed.before in
      let of = own (datagrams_of carried) x (opened_in x.number whole x tells.opens) i.newer older p i.parts (about_own x.number p i.seen) (not_beside x.number p.datagram p.moment p.place i.seen) in
      let before = subst (λ l. IsRefused (client_header x) l (captured_at_client host_name x p) i.rule)
      (map_agree (captured_at_client host_name x) (λ (q : Placed). as_seen_by host_name x.client q.datagram) (seen_same x) (client_view x.number older)) i.refused
      in
      let refused = subst (λ e. IsRefused (client_header x) (map (λ (q : Placed). as_seen_by host_name x.client q.datagram) (client_view x.number older)) e i.rule) (seen_same x p) before in
      let none = accused x.number whole older p d i.blamed tells.doubts (blamed_at i.blamed x i.framed i.is) i.unlisted.division in
      false≢true (sym none ∙ spared i.newer older p i.parts of.0 i.rule refused))

-- ---- at a server

there_if : (b : Bool) (d : Recorded) → captured host_name (if b then In else Out) d ≡ captured_there host_name (not b) d
there_if true d = refl
there_if false d = refl

there_so : (b : Bool) (d : Recorded) → captured host_name (if b then Out else In) d ≡ captured_there host_name b d
there_so true d = refl
there_so false d = refl

served_at : (x : Transfer) (whole : List Placed) (d : Recorded) (now : ℕ) (place : Place)
    → captured_at_server host_name x whole (record { datagram = d; moment = now; place = place }) ≡ seen_at_server host_name x whole (record { datagram = d; moment = now; place = place })
served_at x there d now (Talks y) = there_if (same_endpoint d.source x.client) d
served_at x there d now (Beside y) = there_so (is_end d.source (server_of x.number there)) d
served_at x there d now _ = refl

module _ (x : Transfer) (carried : List Carried) (d : Doubted) (t : Telling) (v : Viewed) where
  abbrev all : List Placed
  all = whole_of [] carried

  abbrev pub AreSparedAtServer : Type 0
  AreSparedAtServer = (newer older : List Placed) (p : Placed) → all ≡ newer ++ p ∷ older → transfer_beside p.place ≡ Some x
      → (rule : Rule) → IsRefused (at_server_of x.asked.port) (server_saw host_name x all older) (seen_at_server host_name x all p) rule
      → is_doubtful_at_server x.number all p older ≡ true

  -- where the division does not doubt it, it is not beside
  beside_not : (p : Placed) (older : List Placed) → is_doubtful x.number all p older ≡ false → is_beside p ≡ false
  beside_not p older none = by_test (is_beside p)
      (λ on. absurd (false≢true (sym none
      ∙ or_more (is_doubted x.number all || is_led_astray x.number all p older || some_of x.number is_late (p ∷ older) || is_beside p) (tells_strays x.number p older) (some_of x.number says_first_word (p ∷ older))
      (or_right (is_doubted x.number all || is_led_astray x.number all p older || some_of x.number is_late (p ∷ older)) (is_beside p) on))))
      (λ off. off)

  pub none_at_server : AreSparedAtServer → TellsOf Server x carried d t v → AccusesNobody x carried d t v
  none_at_server spared tells = nobody (accused_of_row x all t v.blamed (row_reasons x all d t v)) (λ a is.
      let i = accused_of Server (server_header x) x carried (captured_at_server host_name x all) d t v (λ said found. found) (λ said never. never) tells a is in
      let p = i.framed.placed in
      let older = i.framed.before in
      let same : (q : Placed) → captured_at_server host_name x all q ≡ seen_at_server host_name x all q = λ q. served_at x all q.datagram q.moment q.place in
      let before = subst (λ l. IsRefused (server_header x) l (captured_at_server host_name x all p) i.rule)
      (map_agree (captured_at_server host_name x all) (seen_at_server host_name x all) same (filter (is_at_server x.number all) older)) i.refused
      in
      let refused = subst (λ e. IsRefused (server_header x) (server_saw host_name x all older) e i.rule) (same p) before in
      let none = accused x.number all older p d i.blamed tells.doubts (blamed_at i.blamed x i.framed i.is) i.unlisted.division in
      let of = own (datagrams_of carried) x (opened_in x.number all x tells.opens) i.newer older p i.parts (about_seen x.number all p i.seen) (beside_not p older none) in
      let doubt = spared i.newer older p i.parts of.1 i.rule refused in
      let first : speaks_first p older ≡ false =
      sym (ap (λ (c : Blamed). c.speaks_first) i.is) ∙ sym (ap (λ (at : Point). is_server at && i.blamed.speaks_first) tells.point) ∙ i.unlisted.spoken
      in
      let late : comes_of_earlier x.number p older ≡ false =
      sym (ap (λ (c : Blamed). c.comes_of_earlier) i.is)
      ∙ sym (ap (λ (at : Point). not (is_client at && (not (is_some t.between) && same_endpoint i.blamed.source x.client)) && i.blamed.comes_of_earlier) tells.point)
      ∙ i.unlisted.over
      in
      elim (or_cases (is_doubtful x.number all p older || speaks_first p older) (comes_of_earlier x.number p older) doubt) [
        | inl one ↦ elim (or_cases (is_doubtful x.number all p older) (speaks_first p older) one) [
          | inl doubtful ↦ false≢true (sym none ∙ doubtful)
          | inr speaks ↦ false≢true (sym first ∙ speaks)
        ]
        | inr comes ↦ false≢true (sym late ∙ comes)
      ])

-- ---- between the ends

record IsPart (recorded : List Recorded) (rest : List Placed) : Type 0 where
  more : List Recorded
  part : List Recorded
  are : recorded ≡ more ++ part
  placed_is : rest ≡ placed [] part

part_of : (recorded : List Recorded) (newer rest : List Placed) → placed [] recorded ≡ newer ++ rest → IsPart recorded rest
part_of recorded [] rest is = record { more = []; part = recorded; are = refl; placed_is = sym is }
part_of [] (q ∷ newer) rest is = absurd (cc)
part_of (d ∷ recorded) (q ∷ newer) rest is =
    let it = part_of recorded newer rest (let e : placed [] recorded ≡ newer ++ rest = cc in e) in
    record { more = d ∷ it.more; part = it.part; are = ap (λ l. d ∷ l) it.are; placed_is = it.placed_is }

all_last : (P : Recorded → Type 0) (more part : List Recorded) → AllByRecursion P (more ++ part) → AllByRecursion P part
all_last P [] part all = all
all_last P (d ∷ more) part all = all_last P more part all.1

module _ (x : Transfer) (carried : List Carried) (d : Doubted) (t : Telling) (v : Viewed) where
  abbrev passed : List Placed
  passed = whole_of [] carried

  -- up to any datagram of it, what the client saw breaks no rule, or it is doubtful
  abbrev pub AreFairAtClient : Type 0
  AreFairAtClient = (newer older : List Placed) (p : Placed) → passed ≡ newer ++ p ∷ older → transfer_of p.place ≡ Some x
      → (needs_doubt x.number passed p older ≡ true)
      ⊎ OneEnded (at_client_of x.asked.port) (as_seen_by host_name x.client p.datagram ∷ map (λ (q : Placed). as_seen_by host_name x.client q.datagram) (client_view x.number older))

  abbrev pub AskAtService : Type 0
  AskAtService = (newer older : List Placed) (p : Placed) → passed ≡ newer ++ p ∷ older → transfer_of p.place ≡ Some x → x.asked.port ≡ 69

  client_apart : (x.client.port ≡ 69 → ⊥) → x.asked.port ≡ 69 → same_endpoint x.client x.asked ≡ false
  client_apart other asked = by_test (same_endpoint x.client x.asked)
      (λ is. absurd (other (ap (λ (e : Endpoint). e.port) (is_same x.client x.asked is) ∙ asked)))
      (λ off. off)

  -- what the client saw, up to this datagram
  seen_up_to : (older : List Placed) (p : Placed) → is_of x.number p ≡ true
      → as_seen_by host_name x.client p.datagram ∷ map (λ (q : Placed). as_seen_by host_name x.client q.datagram) (client_view x.number older) ≡ client_capture host_name x (p ∷ older)
  seen_up_to older p of =
      sym (map_agree (captured_at_client host_name x) (λ (q : Placed). as_seen_by host_name x.client q.datagram) (seen_same x) (p ∷ client_view x.number older))
      ∙ ap (map (captured_at_client host_name x)) (sym (filter_kept (is_of x.number) p older of))

  passed_up_to : (older : List Placed) (p : Placed) → is_of x.number p ≡ true → between_capture x (p ∷ older) ≡ passed_of p.datagram ∷ between_capture x older
  passed_up_to older p of = ap (map (λ (q : Placed). passed_of q.datagram)) (filter_kept (is_of x.number) p older of)

  -- so it passes between the ends, where the server is known by then
  passes : (recorded : List Recorded) → AllByRecursion HasAddresses recorded → (x.client.port ≡ 69 → ⊥) → (newer older : List Placed) (p : Placed) → placed [] recorded ≡ newer ++ p ∷ older
      → is_of x.number p ≡ true → transfer_of p.place ≡ Some x → x.asked.port ≡ 69 → server_of x.number (p ∷ older) ≡ server_of x.number passed
      → OneEnded (client_header x) (client_capture host_name x (p ∷ older)) → TapPasses (sides_of x passed) (between_capture x older) (passed_of p.datagram)
  passes recorded addresses other newer older p parts of at asked known fair =
      let it = part_of recorded newer (p ∷ older) parts in
      let held = (subst (AreHeld (λ y. IsOpenedIn y (placed [] it.part))) (sym it.placed_is) (all_opened [] it.part)).0 in
      let one : IsTransferIn x [] it.part = record {
        opened = transfer_held (λ y. IsOpenedIn y (placed [] it.part)) p.place x held at;
        at_service = subst (λ port. is_service [] [] port ≡ true) (sym asked) refl;
        addresses = All-from_recursion HasAddresses it.part (all_last HasAddresses it.more it.part (subst (AllByRecursion HasAddresses) it.are addresses));
        apart = client_apart other asked;
      } in
      let clear = rules_cleared [] it.part x one (subst (λ l. OneEnded (client_header x) (client_capture host_name x l)) it.placed_is fair) in
      let there = subst (λ l. BreaksNoTapRule (sides_of x l) (between_capture x l)) (sym it.placed_is) clear in
      (subst (BreaksNoTapRule (sides_of x passed)) (passed_up_to older p of) (subst (λ s. BreaksNoTapRule (sides_with x s) (between_capture x (p ∷ older))) known there)).0

  pub none_between : AreFairAtClient → AskAtService → AllByRecursion HasAddresses (datagrams_of carried) → (x.client.port ≡ 69 → ⊥) → IsServerKnown x carried v → TellsOf Between x carried d t v
      → AccusesNobody x carried d t v
  none_between fair asked addresses other known tells = nobody (accused_of_row x passed t v.blamed (row_reasons x passed d t v)) (λ a is.
      let i = accused_between x carried d t v tells a is in
      let p = i.framed.placed in
      let older = i.framed.before in
      let of = (own (datagrams_of carried) x (opened_in x.number passed x tells.opens) i.newer older p i.parts (about_own x.number p i.seen) (not_beside x.number p.datagram p.moment p.place i.seen)).0 in
      let none = accused x.number passed older p d i.blamed tells.doubts (blamed_at i.blamed x i.framed i.is) i.unlisted.division in
      elim (fair i.newer older p i.parts of) [
        | inl doubt ↦ false≢true (sym none ∙ doubtful_is x.number passed p older doubt)
        | inr lawful ↦
            (passes (datagrams_of carried) addresses other i.newer older p i.parts i.seen of (asked i.newer older p i.parts of) (known i.number i.framed i.found i.at)
            (subst (OneEnded (client_header x)) (seen_up_to older p i.seen) lawful)).lawful i.rule i.broken.breaks
      ])
