use Rattle.std.proofs.Common.{◌≡◌, ℕ, suc, List, [], ◌∷◌, ◌+◌, ◌<◌, ◌≤◌, Result, Ok, Err, IfOk, length, map, reverse, take, get_or, arith, ap, subst, sym, ◌∙◌}
use Rattle.std.proofs.Math.Seq.{take-suc}
use Rattle.std.proofs.lemmas.List.{map-append, reverse-append, reverse-reverse, take_all}
use Rattle.tftp_capture.specs.{datagram_of, header_of}
use Rattle.tftp_packet.specs.Hosts.{Datagram, Header}
use Rattle.law_model.specs.Model.{Meaning}
use Rattle.law_end.specs.{Shows}
use Rattle.tftp_judge.specs.{IsJudgeAfter, IsVerdict, Refusal}
use Rattle.example_judge.proofs.audit.Goals as goal

-- one more was fed
one_more : {A B : Type 0} (f : A → B) (xs : List A) (i : ℕ) (x : A) → i < length xs → reverse (map f (take (i + 1) xs)) ≡ f (get_or xs i x) ∷ reverse (map f (take i xs))
one_more f xs i x within =
    let next : i + 1 ≡ suc i = omega arith in
    ap (λ n. reverse (map f (take n xs))) next ∙ ap (λ passed. reverse (map f passed)) (take-suc xs i x within) ∙ ap reverse (map-append f (take i xs) (get_or xs i x ∷ []))
    ∙ reverse-append (map f (take i xs)) (f (get_or xs i x) ∷ [])

-- all were fed
all : {A B : Type 0} (f : A → B) (xs : List A) (i : ℕ) → length xs ≤ i → reverse (reverse (map f (take i xs))) ≡ map f xs
all f xs i beyond = reverse-reverse (map f (take i xs)) ∙ ap (map f) (take_all i xs beyond)

-- what the judge finds accepted is shown
shown : (header : Header) (datagrams : List Datagram) (found : Result Meaning Refusal) → IsVerdict header datagrams found → IfOk found (λ m. Shows header m datagrams)
shown header datagrams (Ok m) verdict = record { writable = verdict.2; wire = verdict.1.0; shown = verdict.1.1 }
shown header datagrams (Err refusal) verdict = tt

pub loop-datagram-preserved : goal.loop-datagram-preserved
loop-datagram-preserved c =
    let i = c.loop-datagram.datagram-index in
    let xs = c.args.datagrams.now in
    let fed = (c.in_ok-feed.ensures.accepts _ _ c.loop-datagram.invariant.after).1 in
    let more = one_more datagram_of xs i c.datagram-item.result c.loop-datagram-test.true in
    record {
      after = subst (IsJudgeAfter c.feed.new.self (header_of c.args.header.now))
          (ap (λ d. datagram_of d ∷ reverse (map datagram_of (take i xs))) c.datagram-item.is ∙ sym more) fed;
      counted = omega (arith, c.loop-datagram.invariant.counted, c.in_ok-feed.ensures.counts);
    }

pub returns : goal.returns
returns c =
    let header = header_of c.args.header.now in
    let xs = c.args.datagrams.now in
    let i = c.loop-datagram.datagram-index in
    let done : length xs ≤ i = omega arith in
    let verdict = subst (λ passed. IsVerdict header passed c.finish.result) (all datagram_of xs i done) (c.finish.ensures.verdict _ _ c.loop-datagram.invariant.after) in
    record { shown = shown header (map datagram_of xs) c.finish.result verdict }
