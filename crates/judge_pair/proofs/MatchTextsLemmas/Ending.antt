-- What there is to say of two texts of which no more is read.
use Rattle.std.proofs.Common.{◌≡◌, inl, inr, ℕ, Bool, List, Option, Some, None, Result, Ok, Err, refl, sym, ap, ◌∙◌, subst, length, reverse, IfOk, IfErr}
use Rattle.tftp_packet.specs.{Client, Rollover, Server}
use Rattle.tftp_capture.specs.{ReaderState}
use Rattle.tftp_packet.specs.Hosts.{Datagram, Header}
use Rattle.law_model.specs.Model.{Meaning}
use Rattle.tftp_judge.specs.{IsVerdict, Refusal, header_by}
use Rattle.tftp_judge.specs.declared.refusal.Refusal.TheVariants.{Memory}
use Rattle.law_pair.specs.{Capture, IsLawfulTo, IsPairVerdict}
use Rattle.judge_pair.specs.Judge.Rest.{Rest}
use Rattle.judge_pair.specs.Judge.{IsRestAfter, IsReadOf}
use Rattle.judge_pair.specs.MatchTexts.{captured_by, HasBegun, IsFinished, IsHalted, said_by, AreCopies, AreNumbersBy, AreTogether, AreWhys, IsApart, IsPairSaidBy, IsWhy}
use Rattle.judge_pair.specs.declared.judge.matched.Matched.{Matched}
use Rattle.judge_pair.specs.declared.match_texts.reading.Halt.{Halt}
use Rattle.judge_pair.specs.declared.match_texts.said.Apart.{Apart}
use Rattle.judge_pair.specs.declared.match_texts.said.Apart.TheVariants.{WrongEnd, Stopped}
use Rattle.judge_pair.proofs.MatchTextsLemmas.Begun.{names_end}

pub finished : (refused : Option Refusal) (h : Header) (read : List Datagram) (r : Result Meaning Refusal) → (refused ≡ None → IsVerdict h (reverse read) r) → ((count : ℕ) → refused ≡ None → r ≡ Err (Memory count) → ⊥)
    → ((refusal : Refusal) → refused ≡ Some refusal → r ≡ Err refusal) → IsFinished refused h read r
finished None h read r verdict spare keeps = (verdict refl, λ count is. spare count refl is)
finished (Some refusal) h read r verdict spare keeps = keeps refusal refl

-- the numbers that a verdict on what is left has
abbrev pub AreNumbersIn : Rest → Matched → Type 0
AreNumbersIn r m =
    (client server : Capture) (client_read server_read : List Datagram) → IsRestAfter r client.header client_read server.header server_read → IsReadOf client client_read → IsReadOf server server_read
    → IsLawfulTo client (length client_read) → IsLawfulTo server (length server_read) → IsPairVerdict client server m.client_lawful m.server_lawful m.client_matched m.server_matched × AreWhys client server m × AreCopies client server m

module _ (rollover : Option Rollover) (before after other_before other_after : Option (List ℕ)) (failed other_failed : Bool) (mine theirs : ReaderState) (start start' : Option (List ℕ)) (clean clean' : Bool) (begun : HasBegun rollover before start clean mine) (other_begun : HasBegun rollover other_before start' clean' theirs)
    (read other : List Datagram) (r : Rest) (why other_why : Halt) (halted : IsHalted rollover before after failed why r.client.side.judge.refused (header_by rollover mine.header) read) (other_halted : IsHalted rollover other_before other_after other_failed other_why r.server.side.judge.refused (header_by rollover theirs.header) other)
    (client server : Result Meaning Refusal) (said : IsFinished r.client.side.judge.refused (header_by rollover mine.header) read client) (other_said : IsFinished r.server.side.judge.refused (header_by rollover theirs.header) other server)
    (m : Matched) (numbers : AreNumbersIn r m) (rest : IsRestAfter r (header_by rollover mine.header) read (header_by rollover theirs.header) other) where
  same_end : (o : Option Rollover) (x : Header) → (header_by o x).named ≡ x.named
  same_end None x = refl
  same_end (Some by_it) x = refl

  one_named : (x y : Header) → header_by rollover x ≡ header_by rollover y → x.named ≡ y.named
  one_named x y same = sym (same_end rollover x) ∙ ap (λ (z : Header). z.named) same ∙ same_end rollover y

  abbrev pub AreTold : Matched → Type 0
  AreTold = AreTogether mine.header.named theirs.header.named (said_by why client) (said_by other_why server) m

  abbrev pub IsTold : Apart → Type 0
  IsTold = IsApart mine.header.named theirs.header.named (said_by why client) (said_by other_why server)

  told : (n : Matched) → AreTold n → AreNumbersBy rollover before other_before n
  told n (named, other_named, of, other_of, same) = subst (AreNumbersBy rollover before other_before) (sym same) (λ text other_text is other_is h k ds es has other_has all other_all are other_are.
      let part = halted.counts client said of text is h ds has in
      let other_part = other_halted.counts server other_said other_of other_text other_is k es other_has in
      let mine_of = part.1 all are in
      let theirs_of = other_part.1 other_all other_are in
      let both =
      numbers (captured_by rollover h all) (captured_by rollover k other_all) read other
      (subst (λ x. IsRestAfter r x read (header_by rollover k) other) (sym part.0) (subst (λ x. IsRestAfter r (header_by rollover mine.header) read x other) (sym other_part.0) rest)) mine_of.0 theirs_of.0 mine_of.1 theirs_of.1 in (
        one_named h mine.header part.0 ∙ named,
        one_named k theirs.header other_part.0 ∙ other_named,
        both.0,
        both.1,
        both.2,
      ))

  why_apart : (a : Apart) → IsTold a → IsWhy before other_before (said_by why client) (said_by other_why server) a
  why_apart (WrongEnd Client) named = names_end rollover before start clean mine Server begun named
  why_apart (WrongEnd Server) named = names_end rollover other_before start' clean' theirs Client other_begun named
  why_apart Stopped (inl not) = inl (λ of. absurd (not of))
  why_apart Stopped (inr not) = inr (λ of. absurd (not of))

  pub both_said : (together : Result Matched Apart) → IfOk together AreTold → IfErr together IsTold
      → IsPairSaidBy rollover before after other_before other_after failed other_failed (said_by why client) (said_by other_why server) together
  both_said (Ok n) ok err = record { at_client = halted.says client said; at_server = other_halted.says server other_said; numbers = told n ok; why = tt }
  both_said (Err a) ok err = record { at_client = halted.says client said; at_server = other_halted.says server other_said; numbers = tt; why = why_apart a err }
