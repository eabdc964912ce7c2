-- What a file is, by its first bytes.
use Rattle.std.proofs.Common.{arith, ◌≡◌, ◌++◌, ◌∷◌, ◌+◌, ◌≤◌, ◌⊎◌, inl, inr, ℕ, Bool, true, false, List, [], Option, Some, None, Ok, IfSome, ap, append-nil, length, length-append, option_map, refl, slice_index_or, subst, sym, take, ◌∙◌}
use Rattle.std.specs.Fmt.{option_append}
use Rattle.std.specs.Io.KnownBytes.{Consumes, IsAtEnd}
use Rattle.std.proofs.KnownBytes.{Consumes-trans}
use Rattle.net_streams.specs.{Standing}
use Rattle.net_streams.specs.Streams.{standing_after}
use Rattle.tftp_capture.specs.{Begins, IsCapture, datagram_of, filled_if}
use Rattle.tftp_capture.specs.declared.datagram.Datagram.{Datagram as Owned}
use Rattle.tftp_capture.specs.History.{Continues, GoesOn, ReaderState, StandingTells, StandsFor}
use Rattle.tftp_capture.specs.Lines.{LineState}
use Rattle.tftp_packet.specs.Hosts.{Datagram, Header}
use Rattle.audit_recording.specs.Session.Headed.{is_recording}
use Rattle.audit_recording.specs.Session.Opened.{IsReadWhole}
use Rattle.audit_recording.specs.declared.session.session.Session.{Session}
use Rattle.tftp_match.specs.Captures.{IsFirstPayload}

by_four : (head rest : List ℕ) → length head ≡ 4 → is_recording (head ++ rest) ≡ is_recording head
by_four (a ∷ b ∷ c ∷ d ∷ []) rest four = refl
by_four [] rest four = absurd (cc)
by_four (a ∷ []) rest four = absurd (omega (arith, four))
by_four (a ∷ b ∷ []) rest four = absurd (omega (arith, four))
by_four (a ∷ b ∷ c ∷ []) rest four = absurd (omega (arith, four))
by_four (a ∷ b ∷ c ∷ d ∷ e ∷ more) rest four = absurd (omega (arith, four))

-- the first four bytes, or all, tell it
by_head : (head rest : List ℕ) → (length head ≡ 4) ⊎ (rest ≡ []) → is_recording (head ++ rest) ≡ is_recording head
by_head head rest (inl four) = by_four head rest four
by_head head rest (inr none) = ap (λ r. is_recording (head ++ r)) none ∙ ap is_recording (append-nil head)

-- a file of which the first bytes were read: those and what is left are what it held
pub again : (file left held : Option (List ℕ)) (head : List ℕ) → Consumes file left head → held ≡ option_append (Some head) left → IfSome file (λ bytes. held ≡ Some bytes)
again None left held head consumed is = tt
again (Some bytes) None held head consumed is = absurd consumed
again (Some bytes) (Some rest) held head consumed is = is ∙ ap Some (sym consumed)

pub text_is : (file left held : Option (List ℕ)) (head : List ℕ) → Consumes file left head → (length head ≡ 4) ⊎ IsAtEnd left → is_recording head ≡ false → held ≡ option_append (Some head) left → IfSome file (λ bytes. (held ≡ Some bytes) × (is_recording bytes ≡ false))
text_is None left held head consumed all none is = tt
text_is (Some bytes) None held head consumed all none is = absurd consumed
text_is (Some bytes) (Some rest) held head consumed all none is = (is ∙ ap Some (sym consumed), ap is_recording consumed ∙ (by_head head rest all ∙ none))

pub recording_is : (file left : Option (List ℕ)) (head : List ℕ) (is_one : Bool) → Consumes file left head → (length head ≡ 4) ⊎ IsAtEnd left → is_recording head ≡ is_one → IfSome file (λ bytes. is_recording bytes ≡ is_one)
recording_is None left head is_one consumed all some = tt
recording_is (Some bytes) None head is_one consumed all some = absurd consumed
recording_is (Some bytes) (Some rest) head is_one consumed all some = ap is_recording consumed ∙ (by_head head rest all ∙ some)

-- what was read of all that it held was read of it
pub read_of : (file held : Option (List ℕ)) (session : Session) (named : List ℕ) → IfSome file (λ bytes. held ≡ Some bytes) → IsReadWhole held session named → IsReadWhole file session named
read_of None held session named is read = record {
  recording = read.recording;
  bytes = read.bytes;
  left = read.left;
  history = read.history;
  carried = read.carried;
  noticed = read.noticed;
  had = tt;
  frames = read.frames;
  at_end = read.at_end;
  ended = read.ended;
  closed = read.closed;
}
read_of (Some bytes) held session named is read = subst (λ h. IsReadWhole h session named) is read

-- ---- the first datagram of a text

first_begins : (text taken : List ℕ) (header : Header) (lines : LineState) (count line : ℕ) (d : Datagram) (after : Option (List ℕ)) → Consumes (Some text) after taken → GoesOn header lines count taken ((line, d) ∷ []) → Begins text header ((line, d) ∷ [])
first_begins text taken header lines count line d None consumed goes = absurd consumed
first_begins text taken header lines count line d (Some rest) consumed goes = record { read = taken; more = rest; lines = goes.lines; are = consumed; stands = (lines.version, goes.stands) }

-- one was read
pub first_is : (text taken more : List ℕ) (mid after : Option (List ℕ)) (new : ReaderState) (d : Datagram) → Consumes (Some text) mid taken → Consumes mid after more → new.standing ≡ Standing.Open → StandsFor new (taken ++ more) ((new.handed, d) ∷ []) → IsFirstPayload text d.payload
first_is text taken more mid after new d first further opens stands =
    let goes : GoesOn new.header new.lines new.count (taken ++ more) ((new.handed, d) ∷ []) = subst (λ s. StandingTells s new (taken ++ more) ((new.handed, d) ∷ [])) opens stands in
    inl (new.header, (new.handed, d), first_begins text (taken ++ more) new.header new.lines new.count new.handed d after (Consumes-trans (Some text) mid after taken more first further) goes, refl)

pub whole_read : (text taken : List ℕ) (after : Option (List ℕ)) → Consumes (Some text) after taken → IsAtEnd after → text ≡ taken
whole_read text taken None consumed end = absurd consumed
whole_read text taken (Some rest) consumed end = consumed ∙ ap (λ r. taken ++ r) end ∙ append-nil taken

-- none was, and the text has ended
pub none_is : (text taken more : List ℕ) (mid after : Option (List ℕ)) (new : ReaderState) (payload : List ℕ) → Consumes (Some text) mid taken → Consumes mid after more → new.standing ≡ Standing.Over → StandsFor new (taken ++ more) [] → IsAtEnd after → payload ≡ [] → IsFirstPayload text payload
none_is text taken more mid after new payload first further over stands end none =
    let whole : text ≡ taken ++ more = whole_read text (taken ++ more) after (Consumes-trans (Some text) mid after taken more first further) end in
    inr (new.header, subst (λ t. IsCapture t new.header []) (sym whole) (subst (λ s. StandingTells s new (taken ++ more) []) over stands), none)

pub stands_open : (r : ReaderState) (text : List ℕ) → r.standing ≡ Standing.Open → GoesOn r.header r.lines r.count text [] → StandsFor r text []
stands_open r text opens goes = subst (λ s. StandingTells s r text []) (sym opens) goes

-- by the answer of the reader
pub one_given : (text taken : List ℕ) (mid after : Option (List ℕ)) (old new : ReaderState) (gave : Bool) (d : Owned) → gave ≡ true → Consumes (Some text) mid taken → Continues old new mid after (filled_if (Ok gave) d) taken [] → new.standing ≡ standing_after (Ok gave)
    → IsFirstPayload text d.payload
one_given text taken mid after old new true d is first goes opens = first_is text taken goes.taken mid after new (datagram_of d) first goes.consumed opens goes.stands
one_given text taken mid after old new false d is first goes opens = absurd (cc)

pub none_given : (text taken : List ℕ) (mid after : Option (List ℕ)) (old new : ReaderState) (gave : Bool) (d : Owned) (payload : List ℕ) → gave ≡ false → Consumes (Some text) mid taken → Continues old new mid after (filled_if (Ok gave) d) taken [] → new.standing ≡ standing_after (Ok gave) → IsAtEnd after
    → payload ≡ [] → IsFirstPayload text payload
none_given text taken mid after old new false d payload is first goes over end none = none_is text taken goes.taken mid after new payload first goes.consumed over goes.stands end none
none_given text taken mid after old new true d payload is first goes over end none = absurd (cc)

-- ---- one byte more

pub one_taken : (n : ℕ) (buf : List ℕ) → (n ≡ 0 → ⊥) → n ≤ length buf → length buf ≡ 1 → take n buf ≡ slice_index_or buf 0 0 ∷ []
one_taken n [] some within one = absurd (cc)
one_taken n (x ∷ y ∷ more) some within one = absurd (omega (arith, one))
one_taken n (x ∷ []) some within one = let is : n ≡ 1 = omega (arith, some, within) in ap (λ k. take k (x ∷ [])) is

pub longer : (xs : List ℕ) (x : ℕ) (ys : List ℕ) (n : ℕ) → ys ≡ xs ++ x ∷ [] → length xs ≡ n → length ys ≡ n + 1
longer xs x ys n is many = ap length is ∙ length-append xs (x ∷ []) ∙ ap (λ k. k + 1) many
