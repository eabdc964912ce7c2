use Rattle.std.proofs.Common.{◌≡◌, false, true, [], ◌∷◌, ◌++◌, length, refl, sym, ap, ◌∙◌, subst, append_assoc, arith, rules}
use Rattle.std.proofs.lemmas.List.{append-nil, length-append, nil_from_length}
use Rattle.tftp_netascii.specs.{StandsFor}
use Rattle.tftp_netascii.proofs.ReadsLemmas.{given, after}
use Rattle.tftp_netascii.proofs.DecoderLemmas.{StandsFor-append, given-to_return, after-to_return, given-to_end, after-to_end, no_longer, past_return}
use Rattle.tftp_netascii.proofs.decoder.Decoder.feed.Goals as goal

pub loop-run-preserved : goal.loop-run-preserved
loop-run-preserved c =
    let rest = c.loop-run.rest.now in
    let out = c.loop-run.out.items in
    let run = c.in-Some.run'.now in
    let tail = c.in-Some.tail.now in
    let byte = c.after_return-byte-in-Some.result.0 in
    let next = c.after_return-byte-in-Some.result.1.now in
    let stands = c.after_return-byte-in-Some.ensures in
    let parts : rest ≡ run ++ 13 ∷ tail = c.in-Some.ensures.parts in
    let some : length tail ≡ 0 → ⊥ = search rules in
    let past = past_return tail next byte some stands in
    let gives : given false rest ≡ run ++ given true tail = given-to_return false rest run tail refl parts c.in-Some.ensures.run in
    let leaves : after false rest ≡ after true tail = after-to_return false rest run tail refl parts c.in-Some.ensures.run in
    record {
      room = omega (arith, ap length parts, length-append run (13 ∷ tail), no_longer tail next byte stands, c.in_ok-extend_from_slice.ensures.len, c.push_reserved-in-Some.ensures.len);
      written =
          ap (λ l. l ++ given false next) (c.push_reserved-in-Some.ensures.items ∙ ap (λ l. l ++ byte ∷ []) c.in_ok-extend_from_slice.ensures.items)
          ∙ append_assoc (out ++ run) (byte ∷ []) (given false next) ∙ append_assoc out run (byte ∷ given false next)
          ∙ ap (λ l. out ++ l) (sym (gives ∙ ap (λ l. run ++ l) past.0)) ∙ c.loop-run.invariant.written;
      state = sym past.1 ∙ sym leaves ∙ c.loop-run.invariant.state;
    }

pub returns-then-is_empty-2-clause-fed : goal.returns-then-is_empty-2-clause-fed
returns-then-is_empty-2-clause-fed c =
    let rest = c.loop-run.rest.now in
    let run = c.in-Some.run'.now in
    let held = c.args.self.now in
    let piece = c.args.piece.now in
    let none : c.in-Some.tail.now ≡ [] = nil_from_length _ (search rules) in
    let parts : rest ≡ run ++ 13 ∷ [] = c.in-Some.ensures.parts ∙ ap (λ l. run ++ 13 ∷ l) none in
    let gives : given false rest ≡ run = given-to_return false rest run [] refl parts c.in-Some.ensures.run ∙ append-nil run in
    let leaves : after false rest ≡ true = after-to_return false rest run [] refl parts c.in-Some.ensures.run in
    let written : c.extend_from_slice.new.self.items ≡ c.args.out.now.items ++ given held piece =
    c.in_ok-extend_from_slice.ensures.items ∙ ap (λ l. c.loop-run.out.items ++ l) (sym gives) ∙ c.loop-run.invariant.written in
    (given held piece, written, λ fed so_far stands. subst (λ b. StandsFor b (fed ++ piece) (so_far ++ given held piece)) (sym c.loop-run.invariant.state ∙ leaves) (StandsFor-append held fed so_far piece stands))

pub returns-clause-fed : goal.returns-clause-fed
returns-clause-fed c =
    let rest = c.loop-run.rest.now in
    let held = c.args.self.now in
    let piece = c.args.piece.now in
    let gives : given false rest ≡ rest = given-to_end false rest refl c.in_default.ensures.none in
    let leaves : after false rest ≡ false = after-to_end false rest refl c.in_default.ensures.none in
    let written : c.extend_from_slice-2.new.self.items ≡ c.args.out.now.items ++ given held piece =
    c.in_ok-extend_from_slice-2.ensures.items ∙ ap (λ l. c.loop-run.out.items ++ l) (sym gives) ∙ c.loop-run.invariant.written in
    (given held piece, written, λ fed so_far stands. subst (λ b. StandsFor b (fed ++ piece) (so_far ++ given held piece)) (sym c.loop-run.invariant.state ∙ leaves) (StandsFor-append held fed so_far piece stands))
