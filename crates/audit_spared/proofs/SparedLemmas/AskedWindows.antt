-- A request that asks for windows has their name among its words; and where something was agreed on, an OACK went out first.
use Rattle.std.proofs.Common.{◌≡◌, ℕ, Bool, true, false, List, [], ◌∷◌, ◌++◌, Option, Some, None, codes, cond, inl, inr, refl, sym, ap, subst, ◌∙◌, ◌==◌, ◌||◌, bytes_eq, option_map, append_assoc, arith}
use Rattle.std.specs.FinMap as map
use Rattle.std.specs.List.{AllByRecursion, list_any, slice_split, onto_first}
use Rattle.std.specs.Str.{str_eq_ignore_ascii_case}
use Rattle.std.proofs.lemmas.Bool.{false≢true, cases_eq, eqb-true, or_left, or_right}
use Rattle.tftp_packet.specs.{Client, Get, IsString, Message, OptionValue, Pair, Put, RequestParts, Server, Side, Spells, lower, pair_strings, side_opcode, strings, text_of, value_of}
use Rattle.tftp_packet.specs.Hosts.{Datagram}
use Rattle.tftp_packet.proofs.Maps.{text_in_map}
use Rattle.law_model.specs.Model.{Meaning, SomethingAgreed, MachinePacket, Req, Oack, Data, Ack, Error, Deed, Sent, Took, History, message_of, HasSent, HasTaken, IsOneSided, IsStartedOn, LetsAckZeroOn, LetsStartOn, MayAckZeroOn, MaySend}
use Rattle.law_model.specs.Rules.{first_of, goes_out, or_this}
use Rattle.law_model.proofs.ModelLemmas.Members.{contains_cases, contains_first, contains_later, contains_none}
use Rattle.law_model.proofs.ModelLemmas.Stops.{lawful_tail}
use Rattle.law_end.specs.{Division, HaveLabels, IsMain, TransferIds, datagrams_of, dir_of, packet_of, view_in}
use Rattle.law_end.proofs.Accord.FirstReply.{took_data, took_zero}
use Rattle.law_end.proofs.Division.Divided.{view_main}
use Rattle.law_end.proofs.Division.RouteTests.{in_false, out_true}
use Rattle.audit_flows.specs.Lines.{has_window}
use Rattle.audit_flows.proofs.LinesLemmas.Lines.{by_test}
use Rattle.audit_spared.proofs.SparedLemmas.NextRuns.{server_receives, server_sends}
use Rattle.audit_spared.proofs.SparedLemmas.ServedRuns.{at, main_now}

-- ---- words

abbrev is_zero : ℕ → Bool
is_zero b = b == 0

abbrev names_windows : List ℕ → Bool
names_windows word = str_eq_ignore_ascii_case word (codes "windowsize")

split_word : (s rest : List ℕ) → AllByRecursion (λ b. b ≡ 0 → ⊥) s → slice_split is_zero (s ++ 0 ∷ rest) ≡ s ∷ slice_split is_zero rest
split_word [] rest string = refl
split_word (b ∷ s) rest string =
    let off : (b == 0) ≡ false = by_test (b == 0) (λ is. absurd (string.0 (eqb-true b 0 is))) (λ none. none) in
    ap (λ t. cond t ([] ∷ slice_split is_zero (s ++ 0 ∷ rest)) (onto_first b (slice_split is_zero (s ++ 0 ∷ rest)))) off
    ∙ ap (onto_first b) (split_word s rest string.1)

split_words : (s : List ℕ) (ss : List (List ℕ)) → AllByRecursion (λ b. b ≡ 0 → ⊥) s → slice_split is_zero (strings (s ∷ ss)) ≡ s ∷ slice_split is_zero (strings ss)
split_words s ss string = ap (slice_split is_zero) (append_assoc s (0 ∷ []) (strings ss)) ∙ split_word s (strings ss) string

any_words : (ss : List (List ℕ)) → AllByRecursion IsString ss → list_any names_windows ss ≡ true → list_any names_windows (slice_split is_zero (strings ss)) ≡ true
any_words [] all any = absurd (false≢true any)
any_words (s ∷ ss) all any = ap (list_any names_windows) (split_words s ss all.0) ∙ by_test (names_windows s)
    (λ is. or_left (names_windows s) (list_any names_windows (slice_split is_zero (strings ss))) is)
    (λ off. or_right (names_windows s) (list_any names_windows (slice_split is_zero (strings ss))) (any_words ss all.1 (sym (ap (λ b. b || list_any names_windows ss) off) ∙ any)))

named_pair : (pairs : List Pair) (text : List ℕ) → text_of pairs (codes "windowsize") ≡ Some text → list_any names_windows (pair_strings pairs) ≡ true
named_pair [] text found = absurd (cc)
named_pair (pair ∷ pairs) text found = by_test (bytes_eq (lower pair.0) (codes "windowsize"))
    (λ is. or_left (names_windows pair.0) (names_windows pair.1 || list_any names_windows (pair_strings pairs)) is)
    (λ off. or_right (names_windows pair.0) (names_windows pair.1 || list_any names_windows (pair_strings pairs))
    (or_right (names_windows pair.1) (list_any names_windows (pair_strings pairs))
    (named_pair pairs text (sym (ap (λ b. cond b (Some pair.1) (text_of pairs (codes "windowsize"))) off) ∙ found))))

some_text : (o : Option (List ℕ)) (value : OptionValue) → option_map (value_of (codes "windowsize")) o ≡ Some value → (text : List ℕ) × (o ≡ Some text)
some_text None value e = absurd (cc)
some_text (Some text) value e = (text, refl)

-- a request that asks for windows says so
pub window_asked : (payload : List ℕ) (request : RequestParts) (value : OptionValue) → Spells payload (Message.Request request) → map.get request.options (codes "windowsize") ≡ Some value → has_window payload ≡ true
window_asked payload request value says get =
    let s = says.1 in
    let (text, found) = some_text (text_of s.pairs (codes "windowsize")) value (sym (text_in_map s.pairs (codes "windowsize")) ∙ ap (λ o. map.get o (codes "windowsize")) (sym s.options) ∙ get) in
    let named = named_pair s.pairs text found in
    let words : list_any names_windows (slice_split is_zero (strings (s.mode_text ∷ pair_strings s.pairs))) ≡ true =
    any_words (s.mode_text ∷ pair_strings s.pairs) s.strung.1 (or_right (names_windows s.mode_text) (list_any names_windows (pair_strings s.pairs)) named) in
    ap has_window s.bytes ∙ by request.side ∙ words
  where
    by : (side : Side) → has_window (0 ∷ side_opcode side ∷ strings (request.name ∷ says.1.mode_text ∷ pair_strings says.1.pairs)) ≡ list_any names_windows (slice_split is_zero (strings (says.1.mode_text ∷ pair_strings says.1.pairs)))
    by Get = ap (λ l. list_any names_windows ([] ∷ onto_first 1 l)) (split_words request.name (says.1.mode_text ∷ pair_strings says.1.pairs) says.1.strung.0)
    by Put = ap (λ l. list_any names_windows ([] ∷ onto_first 2 l)) (split_words request.name (says.1.mode_text ∷ pair_strings says.1.pairs) says.1.strung.0)

-- ---- what went out first

module _ (m : Meaning) (wire : List ℕ) (something : SomethingAgreed m) where
  -- nothing, or an OACK, or an ERROR and no OACK after it
  pub data FirstOut (v : History) (ds : List Datagram) : Type 0 where
    silent : list_any goes_out ds ≡ false → ((q : MachinePacket) → HasSent v q → ⊥) → FirstOut v ds
    oacked : (e : Datagram) → first_of goes_out ds ≡ Some e → Spells e.payload (Message.Oack m.agreed) → FirstOut v ds
    failed : (code : ℕ) (text : List ℕ) → HasSent v (Error code text) → (HasSent v Oack → ⊥) → FirstOut v ds

  none_first : (ds : List Datagram) → list_any goes_out ds ≡ false → first_of goes_out ds ≡ None
  none_first [] none = refl
  none_first (d ∷ ds) none = by_test (goes_out d)
      (λ is. absurd (false≢true (sym none ∙ ap (λ b. b || list_any goes_out ds) is)))
      (λ off. ap (λ o. or_this o (goes_out d) d) (none_first ds (sym (ap (λ b. b || list_any goes_out ds) off) ∙ none)) ∙ ap (λ b. or_this None b d) off)

  sent_before : (v : History) → IsOneSided m wire Server v → ((q : MachinePacket) → HasSent v q → ⊥) → (q : MachinePacket) → MaySend m wire Server v q → (q ≡ Oack → ⊥) → ((code : ℕ) (text : List ℕ) → q ≡ Error code text → ⊥) → ⊥
  sent_before v own none Oack may other no_error = other refl
  sent_before v own none (Error code text) may other no_error = no_error code text refl
  sent_before v own none Req may other no_error = let wrong : Server ≡ Client = may.client in cc
  sent_before v own none (Data k) may other no_error =
      let get = server_sends m.side may.sender in
      elim (subst (λ side. IsStartedOn side m v) get may.started) [
        | inl plain ↦ something plain.0
        | inr agreed ↦ none Oack (subst (λ side. LetsAckZeroOn side m v) get (took_zero m wire Server v own agreed.1)).1
      ]
  sent_before v own none (Ack j) may other no_error = elim (cases_eq j 0) [
    | inl zero ↦ elim (subst (λ side. MayAckZeroOn side m v) put (may.zero zero)) [
      | inl plain ↦ something plain.0
      | inr agreed ↦ taken agreed.1 agreed.2
    ]
    | inr more ↦ taken 1 (may.taken 1 (omega arith) (omega (arith, more)))
  ]
    where
      put : m.side ≡ Put
      put = server_receives m.side may.receiver

      taken : (k : ℕ) → HasTaken v (Data k) → ⊥
      taken k there = elim (subst (λ side. LetsStartOn side m v) put (took_data m wire Server k v own there)) [
        | inl plain ↦ something plain.0
        | inr agreed ↦ none Oack agreed.1
      ]

  first_step : (d : Datagram) (deed : Deed) (v : History) (ds : List Datagram) → d.dir ≡ dir_of deed → Spells d.payload (message_of m wire (packet_of deed)) → IsOneSided m wire Server (deed ∷ v) → FirstOut v ds → FirstOut (deed ∷ v) (d ∷ ds)
  first_step d (Took q) v ds way says own (silent none unsent) = silent (ap (λ b. b || list_any goes_out ds) (in_false d way) ∙ none)
      (λ r there. elim (contains_cases (Took q) v (Sent r) there) [ inl same ↦ absurd (cc) | inr before ↦ unsent r before ])
  first_step d (Sent Oack) v ds way says own (silent none unsent) = oacked d (ap (λ o. or_this o (goes_out d) d) (none_first ds none) ∙ ap (λ b. or_this None b d) (out_true d way)) says
  first_step d (Sent (Error code text)) v ds way says own (silent none unsent) = failed code text (contains_first (Sent (Error code text)) v)
      (λ there. elim (contains_cases (Sent (Error code text)) v (Sent Oack) there) [ inl same ↦ absurd (cc) | inr before ↦ unsent Oack before ])
  first_step d (Sent Req) v ds way says own (silent none unsent) = absurd (sent_before v own.1 unsent Req own.0 (λ e. absurd (cc)) (λ c t e. absurd (cc)))
  first_step d (Sent (Data k)) v ds way says own (silent none unsent) = absurd (sent_before v own.1 unsent (Data k) own.0 (λ e. absurd (cc)) (λ c t e. absurd (cc)))
  first_step d (Sent (Ack j)) v ds way says own (silent none unsent) = absurd (sent_before v own.1 unsent (Ack j) own.0 (λ e. absurd (cc)) (λ c t e. absurd (cc)))
  first_step d deed v ds way says own (oacked e found spells) = oacked e (ap (λ o. or_this o (goes_out d) d) found) spells
  first_step d (Took q) v ds way says own (failed code text there no_oack) = failed code text (contains_later (Took q) v (Sent (Error code text)) there)
      (λ oack. elim (contains_cases (Took q) v (Sent Oack) oack) [ inl same ↦ absurd (cc) | inr before ↦ no_oack before ])
  first_step d (Sent q) v ds way says own (failed code text there no_oack) = failed code text (contains_later (Sent q) v (Sent (Error code text)) there)
      (λ oack. elim (contains_cases (Sent q) v (Sent Oack) oack) [
        | inl same ↦ let is : q ≡ Oack = cc in (subst (MaySend m wire Server v) is own.0).no_error code text there
        | inr before ↦ no_oack before
      ])

  pub first_out : (ids : TransferIds) (division : Division) → HaveLabels at m wire ids division → AllByRecursion (λ p. IsMain p.label) division → IsOneSided m wire Server (view_in division) → FirstOut (view_in division) (datagrams_of division)
  first_out ids [] labels mains own = silent refl (λ q there. contains_none (Sent q) there)
  first_out ids (p ∷ earlier) labels mains own =
      let (deed, is) = mains.0 in
      let has = main_now m wire ids earlier p.datagram p.label deed is labels.0 in
      let same : view_in (p ∷ earlier) ≡ deed ∷ view_in earlier = view_main p deed earlier is in
      let now = subst (IsOneSided m wire Server) same own in
      subst (λ v. FirstOut v (datagrams_of (p ∷ earlier))) (sym same)
      (first_step p.datagram deed (view_in earlier) (datagrams_of earlier) has.dir has.spells now (first_out ids earlier labels.1 mains.1 (lawful_tail m wire Server deed (view_in earlier) now)))
