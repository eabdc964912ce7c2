-- The mender stands for the datagrams that a reader of a text has given so far.
use Rattle.std.proofs.Common.{◌≡◌, ℕ, List, [], ◌∷◌, ◌++◌, reverse, Option, Some, None, Result, Ok, sym, ap, ◌∙◌, subst, append-nil}
use Rattle.std.specs.Io.KnownBytes.{Consumes, IsAtEnd, prepend_known}
use Rattle.std.proofs.KnownBytes.{Consumes-trans}
use Rattle.std.proofs.lemmas.List.{map-append, reverse-append, reverse-reverse}
use Rattle.tftp_capture.specs.{Continues, GoesOn, IsCapture, Numbered, ReaderState, StandingTells, StandsFor, datagram_of, gave, with_answer, CaptureFault}
use Rattle.tftp_capture.specs.declared.datagram.Datagram.{Datagram as Owned}
use Rattle.net_streams.specs.Streams.{standing_after}
use Rattle.net_streams.specs.{Open, Over}
use Rattle.tftp_packet.specs.Hosts.{Datagram}
use Rattle.tftp_judge.specs.{unnumbered}
use Rattle.tftp_judge.proofs.TextFound.{closed, rest_of}
use Rattle.judge_losses.specs.Places.{AreMissing}
use Rattle.judge_losses.specs.Mended.{IsMended, Mender}
use Rattle.judge_losses.specs.Texts.{AreMissingOf}
use Rattle.judge_losses.specs.declared.place.Place.{Place}

-- bytes were taken, the reader goes on after the datagrams that it gave, and the mender stands for these
pub record MendsOn (before now : Option (List ℕ)) (reader : ReaderState) (mender : Mender) : Type 0 where
  pub read : List ℕ
  pub datagrams : List Numbered
  pub consumed : Consumes before now read
  pub goes_on : GoesOn reader.header reader.lines reader.count read datagrams
  pub mended : IsMended mender reader.header (reverse (unnumbered datagrams))

newest_one : (ds : List Numbered) (line : ℕ) (d : Datagram) → reverse (unnumbered (ds ++ (line, d) ∷ [])) ≡ d ∷ reverse (unnumbered ds)
newest_one ds line d = ap reverse (map-append (λ (n : Numbered). n.1) ds ((line, d) ∷ [])) ∙ reverse-append (unnumbered ds) (d ∷ [])

module _ (before now after : Option (List ℕ)) (old new : ReaderState) (mender : Mender) (ready : old.standing ≡ Open) (mends : MendsOn before now old mender) where
  abbrev rest : Option (List ℕ)
  rest = prepend_known new.lines.ahead after

  abbrev pub Goes : Result (Option Owned) CaptureFault → Type 0
  Goes result = (t : List ℕ) (ds : List Numbered) → StandsFor old t ds → Continues old new now rest result t ds

  stood : StandsFor old mends.read mends.datagrams
  stood = subst (λ s. StandingTells s old mends.read mends.datagrams) (sym ready) mends.goes_on

  module _ (result : Result (Option Owned) CaptureFault) (goes : Goes result) where
    step : Continues old new now rest result mends.read mends.datagrams
    step = goes mends.read mends.datagrams stood

    abbrev all : List ℕ
    all = mends.read ++ step.taken

    consumed : Consumes before rest all
    consumed = Consumes-trans before now rest mends.read step.taken mends.consumed step.consumed

    tells : new.standing ≡ standing_after (gave result) → StandingTells (standing_after (gave result)) new all (with_answer mends.datagrams new.handed result)
    tells is = subst (λ s. StandingTells s new all (with_answer mends.datagrams new.handed result)) is step.stands

  -- one more datagram was read, and the mender took it
  pub mends_on : (d : Owned) → Goes (Ok (Some d)) → new.standing ≡ Open → new.header ≡ old.header → (next : Mender) → IsMended next old.header (datagram_of d ∷ reverse (unnumbered mends.datagrams)) → MendsOn before rest new next
  mends_on d goes open_still same next mended = record {
    read = all (Ok (Some d)) goes;
    datagrams = mends.datagrams ++ (new.handed, datagram_of d) ∷ [];
    consumed = consumed (Ok (Some d)) goes;
    goes_on = tells (Ok (Some d)) goes open_still;
    mended = subst (λ h. IsMended next h (reverse (unnumbered (mends.datagrams ++ (new.handed, datagram_of d) ∷ [])))) (sym same) (subst (IsMended next old.header) (sym (newest_one mends.datagrams new.handed (datagram_of d))) mended);
  }

  -- the text has ended
  module _ (goes : Goes (Ok None)) (over : new.standing ≡ Over) (same : new.header ≡ old.header) (end : IsAtEnd rest) (places : List Place) (missing : AreMissing old.header places (reverse (reverse (unnumbered mends.datagrams)))) where
    abbrev text : List ℕ
    text = all (Ok None) goes

    missing_of : AreMissingOf text places
    missing_of = (
      old.header,
      mends.datagrams,
      subst (λ h. IsCapture text h mends.datagrams) same (tells (Ok None) goes over),
      subst (AreMissing old.header places) (reverse-reverse (unnumbered mends.datagrams)) missing,
    )

    pub found_missing : (read : List ℕ) × Consumes before after read × IsAtEnd after × AreMissingOf read places
    found_missing =
        let close = closed before after text new.lines.ahead (Unit {0}) ⊥ (consumed (Ok None) goes) (λ h. end) (λ h. absurd h) in
        (text, subst (Consumes before after) (ap (λ l. text ++ l) (close.ended tt).0 ∙ append-nil text) close.consumed, (close.ended tt).1, missing_of)

-- what was read to its end is the text that a reader had
pub whole_missing : (before after : Option (List ℕ)) (places : List Place) → (read : List ℕ) × Consumes before after read × IsAtEnd after × AreMissingOf read places
    → (text : List ℕ) → before ≡ Some text → AreMissingOf text places
whole_missing before after places (read, consumed, end, missing) text is =
    let (rest, left, are) = rest_of after text read (subst (λ b. Consumes b after read) is consumed) in
    let none : rest ≡ [] = subst IsAtEnd left end in
    subst (λ t. AreMissingOf t places) (sym (are ∙ ap (λ l. read ++ l) none ∙ append-nil read)) missing
