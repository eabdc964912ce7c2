-- What is kept of ERRORs, after one more datagram.
use Rattle.std.proofs.Common.{◌≡◌, ◌⊎◌, ℕ, Bool, true, false, List, ◌∷◌, Option, Some, None, inl, inr, refl, sym, subst, ap, ◌∙◌, ◌&&◌, Result, Ok, Err, OnOk, OnErr}
use Rattle.std.proofs.lemmas.Bool.{true≢false, cases_eq}
use Rattle.tftp_packet.specs.{Message, Spells, meaning, Packet, End, Client, Server}
use Rattle.tftp_packet.specs.declared.packet.Packet.TheVariants as packet
use Rattle.law_end.proofs.Division.Divided.{any_cases, any_first, any_later}
use Rattle.law_end.proofs.Division.RouteTests.{same_is}
use Rattle.law_end.proofs.Soundness.SameOrNot.{same_text}
use Rattle.law_end.proofs.Spelled.{spelled_once}
use Rattle.law_tap.specs.{TapDatagram, TapSides, side_of, AreApart, same_end, ends_in, tap_tests}
use Rattle.law_tap.proofs.KeptOf.{any_here, any_skip, any_more, before_all, before_less}
use Rattle.law_tap.proofs.TapTests.{ends_message, ends_says, source_is}
use Rattle.judge_tap.specs.{Marks, AreMarks, AreNotes, AreSeen, ErrorPassed, IsStop, IsStoppedBy, IsNew, IsNewBlock, Notes, Seen, Stopped, first_stop, stop_of, IsOtherError}
use Rattle.judge_tap.proofs.StopsNoted.{IsErrorFrom, error_ends}

code_is : (code other : ℕ) (text words : List ℕ) → Message.Error code text ≡ Message.Error other words → (code ≡ other) × (text ≡ words)
code_is code other text words e = (cc, cc)

module _ (s : TapSides) (passed : List TapDatagram) (d : TapDatagram) where
  -- a datagram that is no ERROR of this end
  pub stop_quiet : (e : End) (o : Option Stopped) → (tap_tests s).ends e d ≡ false → IsStop s e passed o → IsStop s e (d ∷ passed) o
  stop_quiet e None quiet none = any_skip ((tap_tests s).ends e) d passed quiet ∙ none
  stop_quiet e (Some stopped) quiet by =
      let ended = any_more ((tap_tests s).ends e) d passed by.ended in
      record {
        ended = ended;
        before = subst (AreMarks stopped.before) (sym (before_less (tap_tests s) e d passed ended)) by.before;
        sent = any_later (IsErrorFrom s e stopped.code stopped.text) d passed by.sent;
        one = λ code text any. elim (any_cases (IsErrorFrom s e code text) d passed any) [
          | inl now ↦ absurd (true≢false (sym (rw (same_is d.source (side_of s e) now.0, ends_says d.payload (Message.Error code text) now.1) refl) ∙ quiet))
          | inr before ↦ by.one code text before
        ];
      }

  module _ (apart : AreApart s) (end : End) (source : d.source ≡ side_of s end) where
    quiet_message : (m : Message) → Spells d.payload m → ends_message m ≡ false → (e : End) → (tap_tests s).ends e d ≡ false
    quiet_message m says none e = ap (λ x. x && ends_in d.payload) (source_is s apart d end e source) ∙ ap (λ x. same_end e end && x) (ends_says d.payload m says ∙ none) ∙ no (same_end e end) where
      no : (b : Bool) → (b && false) ≡ false
      no true = refl
      no false = refl

    other_end_quiet : (e : End) → (e ≡ end → ⊥) → (tap_tests s).ends e d ≡ false
    other_end_quiet e other = ap (λ x. x && ends_in d.payload) (source_is s apart d end e source ∙ differ e end other) where
      differ : (a b : End) → (a ≡ b → ⊥) → same_end a b ≡ false
      differ Client Server other = refl
      differ Server Client other = refl
      differ _ _ other = absurd (other refl)

    module _ (code : ℕ) (text : List ℕ) (says : Spells d.payload (Message.Error code text)) (marks : Marks) (are : AreMarks marks passed) where
      ends_now : (tap_tests s).ends end d ≡ true
      ends_now = rw (same_is d.source (side_of s end) source, ends_says d.payload (Message.Error code text) says) refl

      is_now : (c : ℕ) (t : List ℕ) → ErrorPassed s end (d ∷ passed) c t → ((c ≡ code) × (t ≡ text)) ⊎ ErrorPassed s end passed c t
      is_now c t any = elim (any_cases (IsErrorFrom s end c t) d passed any) [
        | inl now ↦ inl (code_is c code t text (spelled_once d.payload (Message.Error c t) (Message.Error code text) now.1 says))
        | inr before ↦ inr before
      ]

      same_error : (stopped : Stopped) → IsStoppedBy s end passed stopped → (IsOtherError s passed end (Message.Error code text) → ⊥) → (code ≡ stopped.code) × (text ≡ stopped.text)
      same_error stopped by first = elim (cases_eq code stopped.code) [
        | inl codes ↦ elim (same_text text stopped.text) [
          | inl texts ↦ (codes, texts)
          | inr differs ↦ absurd (first (stopped.code, stopped.text, by.sent, λ same. differs same.1))
        ]
        | inr differs ↦ absurd (first (stopped.code, stopped.text, by.sent, λ same. differs same.0))
      ]

      pub stop_now : (o : Option Stopped) → IsStop s end passed o → (IsOtherError s passed end (Message.Error code text) → ⊥) → IsStop s end (d ∷ passed) (first_stop o (record { code = code; text = text; before = marks }))
      stop_now None none first =
          let ended = any_here ((tap_tests s).ends end) d passed ends_now in
          record {
            ended = ended;
            before = subst (AreMarks marks) (sym (before_less (tap_tests s) end d passed ended ∙ before_all (tap_tests s) end passed none)) are;
            sent = any_first (IsErrorFrom s end code text) d passed (source, says);
            one = λ c t any. elim (is_now c t any) [ inl now ↦ now | inr before ↦ absurd (true≢false (sym (error_ends s end passed c t before) ∙ none)) ];
          }
      stop_now (Some stopped) by first =
          let ended = any_here ((tap_tests s).ends end) d passed ends_now in
          let same = same_error stopped by first in
          record {
            ended = ended;
            before = subst (AreMarks stopped.before) (sym (before_less (tap_tests s) end d passed ended)) by.before;
            sent = any_later (IsErrorFrom s end stopped.code stopped.text) d passed by.sent;
            one = λ c t any. elim (is_now c t any) [ inl now ↦ (now.0 ∙ same.0, now.1 ∙ same.1) | inr before ↦ by.one c t before ];
          }

    end_or_not : (e : End) → (e ≡ end) ⊎ (e ≡ end → ⊥)
    end_or_not e = by e end where
      by : (a b : End) → (a ≡ b) ⊎ (a ≡ b → ⊥)
      by Client Client = inl refl
      by Client Server = inr (λ is. cc)
      by Server Client = inr (λ is. cc)
      by Server Server = inl refl

    -- an ERROR of this end
    pub error_noted : (old new : Notes) (code : ℕ) (text : List ℕ) → AreNotes old s passed → Spells d.payload (Message.Error code text) → (IsOtherError s passed end (Message.Error code text) → ⊥)
        → AreSeen new.seen (d ∷ passed) → stop_of new end ≡ first_stop (stop_of old end) (record { code = code; text = text; before = old.seen.marks })
        → ((e : End) → (e ≡ end → ⊥) → stop_of new e ≡ stop_of old e) → AreNotes new s (d ∷ passed)
    error_noted old new code text are says first seen kept others = record {
      seen = seen;
      stops = λ e. elim (end_or_not e) [
        | inl is ↦ subst (λ x. IsStop s x (d ∷ passed) (stop_of new x)) (sym is) (subst (IsStop s end (d ∷ passed)) (sym kept) (stop_now code text says old.seen.marks are.seen.marks (stop_of old end) (are.stops end) first))
        | inr other ↦ subst (IsStop s e (d ∷ passed)) (sym (others e other)) (stop_quiet e (stop_of old e) (other_end_quiet e other) (are.stops e))
      ];
    }

    -- another message
    pub quiet_noted : (old new : Notes) (m : Message) → AreNotes old s passed → Spells d.payload m → ends_message m ≡ false → AreSeen new.seen (d ∷ passed) → ((e : End) → stop_of new e ≡ stop_of old e) → AreNotes new s (d ∷ passed)
    quiet_noted old new m are says none seen same = record {
      seen = seen;
      stops = λ e. subst (IsStop s e (d ∷ passed)) (sym (same e)) (stop_quiet e (stop_of old e) (quiet_message m says none e) (are.stops e));
    }

pub on_ok : {X E : Type 0} (A B : Type 0) (r : Result X E) → (A → B) → OnOk r A → OnOk r B
on_ok A B (Ok x) turn is = turn is
on_ok A B (Err e) turn is = is

pub not_error : (p : Packet) → ((code : ℕ) (message : _) → p ≡ packet.Error code message → ⊥) → ends_message (meaning p) ≡ false
not_error (packet.Error code message) other = absurd (other code message refl)
not_error _ other = refl

pub stop_same : (a b : Seen) (client server : Option Stopped) (e : End) → stop_of (record { seen = a; client = client; server = server }) e ≡ stop_of (record { seen = b; client = client; server = server }) e
stop_same a b client server Client = refl
stop_same a b client server Server = refl

-- ---- what takes memory

pub on_err : {X E : Type 0} (A B : Type 0) (r : Result X E) → (A → B) → OnErr r A → OnErr r B
on_err A B (Ok x) turn is = is
on_err A B (Err e) turn is = turn is

pub block_new : (s : TapSides) (passed : List TapDatagram) (e : End) (m : Message) → IsNewBlock passed m → IsNew s passed e m
block_new s passed e (Message.Data k bytes) is = is
block_new s passed e _ is = absurd is

pub error_new : (s : TapSides) (passed : List TapDatagram) (e : End) (notes : Notes) → AreNotes notes s passed → (code : ℕ) (text : List ℕ) → stop_of notes e ≡ None → IsNew s passed e (Message.Error code text)
error_new s passed e notes are code text none = λ other words before. true≢false (sym (error_ends s e passed other words before) ∙ subst (IsStop s e passed) none (are.stops e))
