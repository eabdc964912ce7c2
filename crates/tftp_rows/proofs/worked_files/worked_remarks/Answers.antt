use Rattle.std.proofs.Common.{◌≡◌, ◌==◌, ◌++◌, ◌∷◌, [], ◌∙◌, ℕ, List, ap, codes, if◌then◌else◌, refl, sym}
use Rattle.std.specs.Fmt.{digits}
use Rattle.audit_recording.specs.Session.Lines.{begun_told, behind_told, dropped_lines, fault_lines, left_out_lines, lines_of, ports_text}
use Rattle.audit_recording.specs.Session.Hidden.{Hidden}
use Rattle.audit_recording.specs.Session.Noted.{Noticed}
use Rattle.audit_recording.specs.Session.Told.{Told, nothing_told}
use Rattle.audit_recording.specs.Session.Strays.{Stray, asked_ports}
use Rattle.audit_recording.specs.declared.session.notes.Notes.{Notes}
use Rattle.tftp_rows.specs.Remarks.{none_lines, remarks_text, rest_lines}
use Rattle.tftp_rows.specs.Worked.{AreOfCopyAndLoss}
use Rattle.tftp_rows.proofs.worked_files.worked_remarks.Goals as goal

-- the lines by all that they depend on
abbrev lines_by_parts : Told → List Stray → List Hidden → ℕ → List (List ℕ) → ℕ → List (List ℕ)
lines_by_parts t strays hidden dropped faults told =
    (left_out_lines t
    ++ ((lines_of t.of_none (codes "of UDP of no transfer") ++ (begun_told strays ++ lines_of t.backwards (codes "older than the one before; reordercap puts them in order")))
    ++ ((lines_of t.lost (codes "not there whole, so that datagrams may be missing") ++ (behind_told hidden ++ dropped_lines dropped))
    ++ faults)))
    ++ (if told == 0 then none_lines (ports_text (asked_ports strays)) else [])

of_copy_and_loss : (n : Notes) (s : Noticed) (told : ℕ) → AreOfCopyAndLoss n s → rest_lines n s told ≡ lines_by_parts (record nothing_told { copies = 3 ∷ []; lost = 8 ∷ [] }) [] [] 0 [] told
of_copy_and_loss n s told is =
    let t = record nothing_told { copies = 3 ∷ []; lost = 8 ∷ [] } in
    ap (λ t. lines_by_parts t s.strays s.hidden n.dropped (fault_lines n.fault) told) is.told
    ∙ ap (λ strays. lines_by_parts t strays s.hidden n.dropped (fault_lines n.fault) told) is.strays
    ∙ ap (λ hidden. lines_by_parts t [] hidden n.dropped (fault_lines n.fault) told) is.hidden
    ∙ ap (λ dropped. lines_by_parts t [] [] dropped (fault_lines n.fault) told) is.dropped
    ∙ ap (λ faults. lines_by_parts t [] [] 0 faults told) (ap fault_lines is.fault)

pub returns-clause-two : goal.returns-clause-two
unfolding digits
returns-clause-two c n s is = ap (remarks_text (codes "tftp-transfers") (codes "a.pcap")) (of_copy_and_loss n s 1 is)

pub returns-clause-three : goal.returns-clause-three
unfolding digits
returns-clause-three c n s is =
    let text = remarks_text (codes "tftp-transfers") (codes "a.pcap") in
    ap text (of_copy_and_loss n s 0 is) ∙ sym (ap (λ lines. text lines ++ codes "tftp-transfers: a.pcap: no request passed, so there is no transfer\n") (of_copy_and_loss n s 1 is))

pub returns-clause-port : goal.returns-clause-port
unfolding digits
returns-clause-port c = refl
