use Rattle.std.proofs.Common.{◌≡◌, ◌≢◌, ◌-◌, ◌%◌, length, take, drop, get_or, ap, ◌∙◌, refl, arith}
use Rattle.std.proofs.lemmas.Option.{IfSome_then}
use Prim.Native.Nat.{min}
use Rattle.tftp_capture.proofs.HeadLines.{line_no_end}
use Rattle.tftp_capture.proofs.heads.Head.decode_held.Goals as goal
use Rattle.tftp_capture.proofs.heads.Head.decode_held.Goals.{else-digits-eq1-via-then-digits-eq1+else-digits-eq10, else-digits-eq1-via-else-digits-eq1}

pub returns-clause-no_end : goal.returns-clause-no_end
returns-clause-no_end c =
    let h = c.args.self.now in
    let held = c.args.held.now in
    let digits = take (c.min.result - length c.text.result.now) (drop (length c.text.result.now) held) in
    let least : c.min.result ≡ min (length held) h.line = c.min.ensures ∙ ap (λ v. min (length held) v.line) c.self.view_is in
    let last : length digits % 2 ≡ 1 → get_or digits (length digits - 1) 0 ≢ 10 =
    elim c.else-digits-eq1.branch [
      | else-digits-eq1-via-then-digits-eq1+else-digits-eq10 w ↦ λ _. w.if-digits-eq10.false
      | else-digits-eq1-via-else-digits-eq1 w ↦ λ odd. absurd (w.if-digits-eq1.false odd)
    ] in
    IfSome_then c.decode_on.result c.decode_on.ensures.decoded (λ count found. line_no_end h (rw c.self.view_is at c.self.invariant.head) held _ h.line c.min.result count c.requires.decoded.begins least (omega (arith, least)) digits (rw c.text.ensures refl) found.0 found.1 last)
