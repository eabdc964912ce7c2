-- What depends on an option alone that no datagram of a transfer names is certain.
use Rattle.std.proofs.Common.{◌≡◌, ℕ, ◌==◌, ◌&&◌, ◌||◌, Bool, true, false, List, [], ◌∷◌, ◌++◌, Contains, Option, Some, None, bytes_eq, codes, cond, filter, length, map, option_map, reverse, inl, inr, refl, sym, ap, subst, ◌∙◌, append_assoc}
use Rattle.std.specs.FinMap as map
use Rattle.std.specs.List.{AllByRecursion, list_any, onto_first, slice_split}
use Rattle.std.specs.Str.{str_eq_ignore_ascii_case}
use Rattle.std.proofs.lemmas.Bool.{and_from, eqb-true, false≢true, or_left, or_right}
use Rattle.tftp_packet.specs.{Get, IsString, Message, OptionValue, Out, Pair, Put, RequestParts, Side, Spells, lower, pair_strings, side_opcode, strings, text_of, value_of}
use Rattle.tftp_packet.specs.Hosts.{Datagram, Header}
use Rattle.tftp_packet.proofs.Maps.{text_in_map}
use Rattle.law_model.specs.Rules.{AckBreaks, asks, transfer_of}
use Rattle.law_model.specs.{EndRule, Terms}
use Rattle.law_model.proofs.ModelLemmas.Members.{contains_cases, contains_first, contains_later, contains_none}
use Rattle.law_end.specs.{Broken, IsRefused, MessageBreaks, MessageBroken, Rule}
use Rattle.law_end.specs.declared.rule.Rule.TheVariants as rule
use Rattle.law_tap.specs.{IsCertain, KnowsOtherEnd, StandsByOptions}
use Rattle.law_tap.proofs.EndKnown.{first_there}
use Rattle.law_tap.proofs.EndOptions.{known_options_certain, own_options_certain}
use Rattle.audit_flows.specs.Lines.{Placed}
use Rattle.audit_flows.specs.{Transfer}
use Rattle.audit_flows.specs.Transfers.{is_about}
use Rattle.audit_flows.proofs.LinesLemmas.Lines.{by_test}
use Rattle.audit_recording.specs.Blame.Named.{is_named, named_in, names_option}
use Rattle.audit_recording.specs.declared.blame.named.Named.{Named}
use Rattle.audit_recording.proofs.BlameLemmas.Holding.{filter_none, filter_one}
use Rattle.audit_rows.specs.Viewing.{IsSureUnnamed}

-- ---- a request that asks for an option has its name among its strings

abbrev is_zero : ℕ → Bool
is_zero b = b == 0

split_word : (s rest : List ℕ) → AllByRecursion (λ b. b ≡ 0 → ⊥) s → slice_split is_zero (s ++ 0 ∷ rest) ≡ s ∷ slice_split is_zero rest
split_word [] rest string = refl
split_word (b ∷ s) rest string =
    let off : (b == 0) ≡ false = by_test (b == 0) (λ is. absurd (string.0 (eqb-true b 0 is))) (λ none. none) in
    ap (λ t. cond t ([] ∷ slice_split is_zero (s ++ 0 ∷ rest)) (onto_first b (slice_split is_zero (s ++ 0 ∷ rest)))) off
    ∙ ap (onto_first b) (split_word s rest string.1)

split_words : (s : List ℕ) (ss : List (List ℕ)) → AllByRecursion (λ b. b ≡ 0 → ⊥) s → slice_split is_zero (strings (s ∷ ss)) ≡ s ∷ slice_split is_zero (strings ss)
split_words s ss string = ap (slice_split is_zero) (append_assoc s (0 ∷ []) (strings ss)) ∙ split_word s (strings ss) string

module _ (name : List ℕ) (same : (word : List ℕ) → bytes_eq (lower word) name ≡ str_eq_ignore_ascii_case word name) where
  abbrev is_it : List ℕ → Bool
  is_it word = str_eq_ignore_ascii_case word name

  any_words : (ss : List (List ℕ)) → AllByRecursion IsString ss → list_any is_it ss ≡ true → list_any is_it (slice_split is_zero (strings ss)) ≡ true
  any_words [] all any = absurd (false≢true any)
  any_words (s ∷ ss) all any = ap (list_any is_it) (split_words s ss all.0) ∙ by_test (is_it s)
      (λ is. or_left (is_it s) (list_any is_it (slice_split is_zero (strings ss))) is)
      (λ off. or_right (is_it s) (list_any is_it (slice_split is_zero (strings ss))) (any_words ss all.1 (sym (ap (λ b. b || list_any is_it ss) off) ∙ any)))

  named_pair : (pairs : List Pair) (text : List ℕ) → text_of pairs name ≡ Some text → list_any is_it (pair_strings pairs) ≡ true
  named_pair [] text found = absurd (cc)
  named_pair (pair ∷ pairs) text found = by_test (bytes_eq (lower pair.0) name)
      (λ is. or_left (is_it pair.0) (is_it pair.1 || list_any is_it (pair_strings pairs)) (sym (same pair.0) ∙ is))
      (λ off. or_right (is_it pair.0) (is_it pair.1 || list_any is_it (pair_strings pairs))
      (or_right (is_it pair.1) (list_any is_it (pair_strings pairs))
      (named_pair pairs text (sym (ap (λ b. cond b (Some pair.1) (text_of pairs name)) off) ∙ found))))

  some_text : (o : Option (List ℕ)) (value : OptionValue) → option_map (value_of name) o ≡ Some value → (text : List ℕ) × (o ≡ Some text)
  some_text None value e = absurd (cc)
  some_text (Some text) value e = (text, refl)

  asked_names : (payload : List ℕ) (request : RequestParts) (value : OptionValue) → Spells payload (Message.Request request) → map.get request.options name ≡ Some value → names_option name payload ≡ true
  asked_names payload request value says get =
      let s = says.1 in
      let (text, found) = some_text (text_of s.pairs name) value (sym (text_in_map s.pairs name) ∙ ap (λ o. map.get o name) (sym s.options) ∙ get) in
      let words : list_any is_it (slice_split is_zero (strings (s.mode_text ∷ pair_strings s.pairs))) ≡ true =
      any_words (s.mode_text ∷ pair_strings s.pairs) s.strung.1 (or_right (is_it s.mode_text) (list_any is_it (pair_strings s.pairs)) (named_pair s.pairs text found)) in
      ap (names_option name) s.bytes ∙ by request.side words
    where
      by : (side : Side) → list_any is_it (slice_split is_zero (strings (says.1.mode_text ∷ pair_strings says.1.pairs))) ≡ true
          → names_option name (0 ∷ side_opcode side ∷ strings (request.name ∷ says.1.mode_text ∷ pair_strings says.1.pairs)) ≡ true
      by Get words = ap (λ l. list_any is_it ([] ∷ onto_first 1 l)) (split_words request.name (says.1.mode_text ∷ pair_strings says.1.pairs) says.1.strung.0)
          ∙ or_right (is_it []) _ (or_right (is_it (1 ∷ request.name)) _ words)
      by Put words = ap (λ l. list_any is_it ([] ∷ onto_first 2 l)) (split_words request.name (says.1.mode_text ∷ pair_strings says.1.pairs) says.1.strung.0)
          ∙ or_right (is_it []) _ (or_right (is_it (2 ∷ request.name)) _ words)

  -- so a request without it asks for none
  not_asked : (payload : List ℕ) (request : RequestParts) → Spells payload (Message.Request request) → names_option name payload ≡ false → map.get request.options name ≡ None
  not_asked payload request says off = by (map.get request.options name) refl where
    by : (o : Option OptionValue) → map.get request.options name ≡ o → map.get request.options name ≡ None
    by None is = is
    by (Some value) is = absurd (false≢true (sym off ∙ asked_names payload request value says is))

-- ---- what is captured of a transfer is about it

about_named : (name : List ℕ) (x : Transfer) (whole : List Placed) (p : Placed) → is_named name x whole ≡ false → Contains whole p → is_about x.number p ≡ true → names_option name p.datagram.payload ≡ false
about_named name x [] p none at about = absurd (contains_none p at)
about_named name x (q ∷ whole) p none at about = by_test (is_about x.number q && names_option name q.datagram.payload)
    (λ is. absurd (false≢true (sym none ∙ or_left _ (is_named name x whole) is)))
    (λ off. elim (contains_cases q whole p at) [
      | inl now ↦ by_test (names_option name p.datagram.payload)
          (λ is. absurd (false≢true (sym off ∙ ap (λ (r : Placed). is_about x.number r && names_option name r.datagram.payload) now ∙ and_from _ _ about is)))
          (λ none_here. none_here)
      | inr before ↦ about_named name x whole p (sym (ap (λ b. b || is_named name x whole) off) ∙ none) before about
    ])

record IsTaken (test : Placed → Bool) (cap : Placed → Datagram) (whole : List Placed) (d : Datagram) : Type 0 where
  pub placed : Placed
  pub at : Contains whole placed
  pub passes : test placed ≡ true
  pub is : cap placed ≡ d

taken : (test : Placed → Bool) (cap : Placed → Datagram) (whole : List Placed) (d : Datagram) → Contains (map cap (filter test whole)) d → IsTaken test cap whole d
taken test cap [] d at = absurd (contains_none d at)
taken test cap (p ∷ whole) d at = by_test (test p)
    (λ is. elim (contains_cases (cap p) (map cap (filter test whole)) d (subst (λ l. Contains (map cap l) d) (filter_one test p whole is) at)) [
      | inl now ↦ record { placed = p; at = contains_first p whole; passes = is; is = now }
      | inr before ↦ later (taken test cap whole d before)
    ])
    (λ off. later (taken test cap whole d (subst (λ l. Contains (map cap l) d) (filter_none test p whole off) at)))
  where
    later : IsTaken test cap whole d → IsTaken test cap (p ∷ whole) d
    later t = record { placed = t.placed; at = contains_later p whole t.placed t.at; passes = t.passes; is = t.is }

-- no request that was captured asks for an option that none names
pub record NamesNone (x : Transfer) (whole : List Placed) (given : List Datagram) : Type 0 where
  pub none : (name : List ℕ) → is_named name x whole ≡ false → (d : Datagram) → Contains given d → names_option name d.payload ≡ false

pub names_none : (x : Transfer) (whole : List Placed) (test : Placed → Bool) (cap : Placed → Datagram) → ((p : Placed) → is_about x.number p ≡ false → test p ≡ false) → ((p : Placed) → (cap p).payload ≡ p.datagram.payload)
    → NamesNone x whole (map cap (filter test whole))
names_none x whole test cap about same = record {
  none = λ name none d at.
      let t = taken test cap whole d at in
      let its : is_about x.number t.placed ≡ true = by_test (is_about x.number t.placed) (λ is. is) (λ off. absurd (false≢true (sym (about t.placed off) ∙ t.passes))) in
      ap (names_option name) (ap (λ (e : Datagram). e.payload) (sym t.is) ∙ same t.placed) ∙ about_named name x whole t.placed none t.at its;
}

contains_after : (later seen : List Datagram) (d : Datagram) → Contains seen d → Contains (later ++ seen) d
contains_after [] seen d at = at
contains_after (e ∷ later) seen d at = contains_later e (later ++ seen) d (contains_after later seen d at)

-- ---- what is refused by such a rule

no_ack : (x : Named) (t : Terms) (passed : List Datagram) (j : ℕ) (e : EndRule) → IsSureUnnamed x (rule.Block e) → AckBreaks t passed j e → ⊥
no_ack x t passed j EndRule.GoneBack sure b = b
no_ack x t passed j EndRule.BlockLength sure b = b
no_ack x t passed j EndRule.BeyondBlock65535 sure b = b
no_ack x t passed j _ sure b = absurd sure

module _ (h : Header) (x : Transfer) (whole : List Placed) (later earlier : List Datagram) (d : Datagram) (broken : Rule) (refused : IsRefused h earlier d broken)
    (nothing : NamesNone x whole (later ++ d ∷ earlier)) (sure : IsSureUnnamed (named_in x whole) broken) where
  -- the message that breaks it
  said : MessageBroken h earlier d broken
  said = by broken refused.broken.0 sure where
    by : (r : Rule) → Broken h earlier d r → IsSureUnnamed (named_in x whole) r → MessageBroken h earlier d r
    by (rule.Block e) b sure = b
    by _ b sure = absurd sure

  unasked : (name : List ℕ) → ((word : List ℕ) → bytes_eq (lower word) name ≡ str_eq_ignore_ascii_case word name) → is_named name x whole ≡ false → map.get said.asked.options name ≡ None
  unasked name same none =
      let (r, some, spells) = said.first in
      not_asked name same r.payload said.asked spells (nothing.none name none r (contains_after later (d ∷ earlier) r (contains_later d earlier r (first_there (asks h) earlier r some))))

  by_options : StandsByOptions said.asked (transfer_of h earlier) said.message broken
  by_options = by said.message broken said.breaks sure where
    by : (m : Message) (r : Rule) → MessageBreaks h said.asked (transfer_of h earlier) d.dir m r → IsSureUnnamed (named_in x whole) r → StandsByOptions said.asked (transfer_of h earlier) m r
    by (Message.Data k bytes) (rule.Block EndRule.GoneBack) b sure = inl (unasked (codes "windowsize") (λ word. refl) sure)
    by (Message.Data k bytes) (rule.Block EndRule.BlockLength) b sure = inl (unasked (codes "blksize") (λ word. refl) sure)
    by (Message.Data k bytes) (rule.Block EndRule.BeyondBlock65535) b sure = inl (unasked (codes "blksize") (λ word. refl) sure)
    by (Message.Oack options) (rule.Block EndRule.BeyondBlock65535) b sure = tt
    by m (rule.Block e) (inl (is, wrong)) sure = absurd (cc)
    by m (rule.Block e) (inr (inl (is, after))) sure = absurd (cc)
    by (Message.Oack options) (rule.Block EndRule.GoneBack) (inr (inr b)) sure = absurd b.1
    by (Message.Oack options) (rule.Block EndRule.BlockLength) (inr (inr b)) sure = absurd b.1
    by (Message.Request asked) (rule.Block e) (inr (inr b)) sure = absurd b
    by (Message.Error code text) (rule.Block e) (inr (inr b)) sure = absurd b
    by (Message.Ack j) (rule.Block e) (inr (inr (r, is, t, are, breaks))) sure = absurd (no_ack (named_in x whole) t (transfer_of h earlier) j e sure (subst (λ (f : EndRule). AckBreaks t (transfer_of h earlier) j f) (sym (let same : e ≡ r = cc in same)) breaks))
    by m _ b sure = absurd sure

  pub unnamed_known : KnowsOtherEnd h (d ∷ earlier) → IsCertain h (reverse (later ++ d ∷ earlier)) (length earlier)
  unnamed_known known = known_options_certain h later earlier d broken said.asked said.message refused said.first said.says.spells by_options known

  pub unnamed_own : d.dir ≡ Out → IsCertain h (reverse (later ++ d ∷ earlier)) (length earlier)
  unnamed_own out = own_options_certain h later earlier d broken said.asked said.message refused said.first said.says.spells by_options out
