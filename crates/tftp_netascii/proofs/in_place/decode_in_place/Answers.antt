use Rattle.std.proofs.Common.{◌≡◌, ◌≢◌, ◌+◌, ◌-◌, length, [], ◌∷◌, ◌++◌, All, take, drop, length-set, sym, subst, ap, ◌∙◌, arith, append_assoc}
use Rattle.std.proofs.Math.ListN.{set}
use Rattle.std.proofs.Math.Seq.{paste, take-append_seam}
use Rattle.std.proofs.lemmas.List.{length-drop, take_rest}
use Rattle.std.proofs.lemmas.List.Edits.{take-paste}
use Rattle.tftp_netascii.specs.{Reads, file_of}
use Rattle.tftp_netascii.proofs.ReadsLemmas.{Reads-file_of, Reads-is}
use Rattle.tftp_netascii.proofs.Moved.{further, kept, done}
use Rattle.tftp_netascii.proofs.RunReads.{run_and_return, run_to_end}
use Rattle.tftp_netascii.proofs.in_place.decode_in_place.Goals as goal

pub loop-run-preserved-then-size-lt-LONG : goal.loop-run-preserved-then-size-lt-LONG
loop-run-preserved-then-size-lt-LONG c =
    let bytes = c.loop-run.bytes in
    let place = c.read_bytes-place.result in
    let new = c.read_bytes-place.new.bytes in
    record {
      size = c.read_bytes-place.auto.bytes ∙ c.loop-run.invariant.size;
      behind = c.read_bytes-place.ensures.behind;
      within = c.read_bytes-place.ensures.within;
      reads = λ file reads.
          let same : take place.written new ++ file ≡ take c.loop-run.written bytes ++ file_of (drop c.loop-run.read bytes) =
          ap (λ l. take place.written new ++ l) (Reads-is (drop place.read new) file reads) ∙ c.read_bytes-place.ensures.file in
          subst (Reads c.args.text.now.items) (sym same) (c.loop-run.invariant.reads (file_of (drop c.loop-run.read bytes)) (Reads-file_of (drop c.loop-run.read bytes)));
    }

pub loop-run-preserved : goal.loop-run-preserved
loop-run-preserved c =
    let bytes = c.loop-run.bytes in
    let run = c.in-Some.run'.now in
    let tail = c.in-Some.tail.now in
    let after = c.after_return-byte.result.1.now in
    let byte = c.after_return-byte.result.0 in
    let read = c.loop-run.read in
    let written = c.loop-run.written in
    let behind = c.loop-run.invariant.behind in
    let within = c.loop-run.invariant.within in
    let parts : drop read bytes ≡ run ++ 13 ∷ tail = sym (take_rest bytes read) ∙ c.in-Some.ensures.parts in
    let none : All (λ x. x ≢ 13) run = c.in-Some.ensures.run in
    let stands = c.after_return-byte.ensures in
    let on = further bytes run tail after byte read written behind within parts stands in
    let copied : c.copy_within.new.self ≡ paste bytes written (drop read bytes) (length run) =
    c.copy_within.ensures.after ∙ ap (λ n. paste bytes written (drop read bytes) n) (omega arith) in
    let moved : set c.copy_within.new.self (written + length run) byte ≡ set (paste bytes written (drop read bytes) (length run)) (written + length run) byte =
    ap (λ l. set l (written + length run) byte) copied in
    let same : length (paste bytes written (drop read bytes) (length run)) ≡ length bytes = sym (ap length copied) ∙ c.copy_within.ensures.len in
    let size : length (set c.copy_within.new.self (written + length run) byte) ≡ length bytes =
    length-set c.copy_within.new.self (written + length run) byte ∙ c.copy_within.ensures.len in
    let rest : drop (length (set c.copy_within.new.self (written + length run) byte) - length after) (set c.copy_within.new.self (written + length run) byte) ≡ after =
    ap (λ n. drop (n - length after) (set c.copy_within.new.self (written + length run) byte)) size ∙ ap (λ l. drop (length bytes - length after) l) moved
    ∙ kept bytes run tail after byte read written behind within parts stands same in
    let ahead : take (written + (length run + 1)) (set c.copy_within.new.self (written + length run) byte) ≡ take written bytes ++ run ++ byte ∷ [] =
    ap (λ n. take n (set c.copy_within.new.self (written + length run) byte)) (let e : written + (length run + 1) ≡ written + length run + 1 = omega arith in e)
    ∙ ap (λ l. take (written + length run + 1) l) moved ∙ done bytes run tail after byte read written behind within parts stands same in
    record {
      size = size ∙ c.loop-run.invariant.size;
      behind = omega (arith, on.0, on.1, size);
      within = omega (arith, on.1, size);
      reads = λ file reads.
          subst (Reads c.args.text.now.items)
          (sym
          (ap (λ l. l ++ file) ahead ∙ append_assoc (take written bytes ++ run) (byte ∷ []) file ∙ append_assoc (take written bytes) run (byte ∷ file)))
          (c.loop-run.invariant.reads (run ++ byte ∷ file) (run_and_return (drop read bytes) run tail after file byte parts none stands (subst (λ w. Reads w file) rest reads)));
    }

pub returns : goal.returns
returns c =
    let bytes = c.loop-run.bytes in
    let read = c.loop-run.read in
    let written = c.loop-run.written in
    let behind = c.loop-run.invariant.behind in
    let within = c.loop-run.invariant.within in
    let rest = take_rest bytes read in
    let left = length-drop read bytes in
    let none : All (λ x. x ≢ 13) (drop read bytes) = subst (λ l. All (λ x. x ≢ 13) l) rest c.in_default.ensures.none in
    let m = c.copy_within-2.new.self in
    let size : c.args.text.now.len ≡ length m = omega arith in
    let whole : take c.args.text.now.len (m ++ drop (length m) c.args.text.now.items) ≡ m =
    ap (λ n. take n (m ++ drop (length m) c.args.text.now.items)) size ∙ take-append_seam m (drop (length m) c.args.text.now.items) in
    let all : c.truncate.new.self.items ≡ take written bytes ++ drop read bytes =
    c.truncate.ensures.items ∙ ap (λ l. take (written + (length bytes - read)) l) (whole ∙ c.copy_within-2.ensures.after)
    ∙ take-paste bytes written (drop read bytes) (length bytes - read) (omega (arith, behind, within)) (omega (arith, left)) ∙ ap (λ l. take written bytes ++ l) rest in
    subst (Reads c.args.text.now.items) (sym all) (c.loop-run.invariant.reads (drop read bytes) (run_to_end (drop read bytes) none))
