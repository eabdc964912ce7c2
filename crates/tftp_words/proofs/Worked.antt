-- Worked command lines.
use Rattle.std.proofs.Common.{rules, ◌≡◌, ◌≢◌, inl, inr, drop, length, subst, sym, ◌∙◌, [], ◌∷◌, codes, false, true, Some, None, refl, get_or, ap, arith}
use Rattle.tftp_words.specs.declared.point.Point.TheVariants as point
use Rattle.tftp_packet.specs.{Zero}
use Rattle.tftp_words.specs.{Service, Json, At, Again, Transfer, Plain, IsPort, IsTransfer, IsPlain, Done, First, Rest, Listed, Judged, IsRequest, Say, plains, MatchAsked, Matched, IsMatchRequest}
use Rattle.tftp_words.proofs.Saying.{say_step, said_end}

port_6969 : IsPort (codes "6969") 6969
port_6969 = search rules

dash_plain : IsPlain (codes "-")
dash_plain = inr refl

boot_plain : IsPlain (codes "boot")
boot_plain = inl (λ rest e. let bad : 98 ≡ 45 = ap (λ w. get_or w 0 0) e in omega (arith, bad))

-- tftp-transfers - --service=6969
pub listed : IsRequest (Listed (6969 ∷ []) false (codes "-")) (codes "tftp-transfers" ∷ codes "-" ∷ codes "--service=6969" ∷ [])
listed = (
  codes "-" ∷ codes "--service=6969" ∷ [],
  (codes "tftp-transfers", inr (codes "-", codes "--service=6969" ∷ [], search rules, refl, refl)),
  Plain (codes "-") ∷ Service 6969 ∷ [],
  First (codes "-" ∷ []) (codes "--service=6969" ∷ []) (Plain (codes "-")) (Service 6969 ∷ []) (dash_plain, refl)
      (First (codes "--service=6969" ∷ []) [] (Service 6969) [] (codes "6969", port_6969, inr refl) Done),
  ((refl, refl, refl), (refl, refl, refl, refl, refl)),
)

-- tftp-transfers check --end between --json boot -- -x
pub judged : IsRequest (Judged (Some point.Between) None [] true (codes "boot" ∷ codes "-x" ∷ []))
    (codes "tftp-transfers" ∷ codes "check" ∷ codes "--end" ∷ codes "between" ∷ codes "--json" ∷ codes "boot" ∷ codes "--" ∷ codes "-x" ∷ [])
judged = (
  codes "--end" ∷ codes "between" ∷ codes "--json" ∷ codes "boot" ∷ codes "--" ∷ codes "-x" ∷ [],
  (codes "tftp-transfers", inl refl),
  At point.Between ∷ Json ∷ Plain (codes "boot") ∷ Plain (codes "-x") ∷ [],
  First (codes "--end" ∷ codes "between" ∷ []) (codes "--json" ∷ codes "boot" ∷ codes "--" ∷ codes "-x" ∷ []) (At point.Between) (Json ∷ Plain (codes "boot") ∷ Plain (codes "-x") ∷ []) (codes "between", refl, inl refl)
      (First (codes "--json" ∷ []) (codes "boot" ∷ codes "--" ∷ codes "-x" ∷ []) Json (Plain (codes "boot") ∷ Plain (codes "-x") ∷ []) refl
      (First (codes "boot" ∷ []) (codes "--" ∷ codes "-x" ∷ []) (Plain (codes "boot")) (Plain (codes "-x") ∷ []) (boot_plain, refl)
      (Rest (codes "-x" ∷ [])))),
  ((refl, refl, refl), (search rules, tt, (refl, refl, refl, refl, refl))),
)

-- tftp-transfers check --rollover=0 --end client boot
pub begun_again : IsRequest (Judged (Some point.Client) (Some Zero) [] false (codes "boot" ∷ []))
    (codes "tftp-transfers" ∷ codes "check" ∷ codes "--rollover=0" ∷ codes "--end" ∷ codes "client" ∷ codes "boot" ∷ [])
begun_again = (
  codes "--rollover=0" ∷ codes "--end" ∷ codes "client" ∷ codes "boot" ∷ [],
  (codes "tftp-transfers", inl refl),
  Again Zero ∷ At point.Client ∷ Plain (codes "boot") ∷ [],
  First (codes "--rollover=0" ∷ []) (codes "--end" ∷ codes "client" ∷ codes "boot" ∷ []) (Again Zero) (At point.Client ∷ Plain (codes "boot") ∷ []) (codes "0", refl, inr refl)
      (First (codes "--end" ∷ codes "client" ∷ []) (codes "boot" ∷ []) (At point.Client) (Plain (codes "boot") ∷ []) (codes "client", refl, inl refl)
      (First (codes "boot" ∷ []) [] (Plain (codes "boot")) [] (boot_plain, refl) Done)),
  ((refl, refl, refl), (search rules, tt, (refl, refl, refl, refl, refl))),
)

transfer_2 : IsTransfer (codes "2") 2
transfer_2 = search rules

capture_plain : IsPlain (codes "a.pcap")
capture_plain = inl (λ rest e. let bad : 97 ≡ 45 = ap (λ w. get_or w 0 0) e in omega (arith, bad))

-- tftp-match --rollover 0 --transfer=2 a.pcap -
pub matched : IsMatchRequest (Matched (codes "a.pcap") (codes "-") (Some 2) None [] (Some Zero) false false)
    (codes "tftp-match" ∷ codes "--rollover" ∷ codes "0" ∷ codes "--transfer=2" ∷ codes "a.pcap" ∷ codes "-" ∷ [])
matched = (
  codes "tftp-match",
  codes "--rollover" ∷ codes "0" ∷ codes "--transfer=2" ∷ codes "a.pcap" ∷ codes "-" ∷ [],
  refl,
  Again Zero ∷ Transfer 2 ∷ Plain (codes "a.pcap") ∷ Plain (codes "-") ∷ [],
  First (codes "--rollover" ∷ codes "0" ∷ []) (codes "--transfer=2" ∷ codes "a.pcap" ∷ codes "-" ∷ []) (Again Zero) (Transfer 2 ∷ Plain (codes "a.pcap") ∷ Plain (codes "-") ∷ []) (codes "0", refl, inl refl)
      (First (codes "--transfer=2" ∷ []) (codes "a.pcap" ∷ codes "-" ∷ []) (Transfer 2) (Plain (codes "a.pcap") ∷ Plain (codes "-") ∷ []) (codes "2", transfer_2, inr refl)
      (First (codes "a.pcap" ∷ []) (codes "-" ∷ []) (Plain (codes "a.pcap")) (Plain (codes "-") ∷ []) (capture_plain, refl)
      (First (codes "-" ∷ []) [] (Plain (codes "-")) [] (dash_plain, refl) Done))),
  (inl (λ e. let bad : 97 ≡ 45 = ap (λ w. get_or w 0 0) e in omega (arith, bad)), (refl, refl, refl, refl, refl), (refl, refl, refl)),
)

dash_is_no_dashes : codes "-" ≢ codes "--"
dash_is_no_dashes e = let bad : 1 ≡ 2 = ap length e in omega (arith, bad)

-- tftp-match - - makes no request
pub two_inputs : (asked : MatchAsked) → IsMatchRequest asked (codes "tftp-match" ∷ codes "-" ∷ codes "-" ∷ []) → ⊥
two_inputs (Matched client server transfer server_transfer services rollover counts json) (program, arguments, are, ps, say, (one, have, choose)) =
    let dash = Plain (codes "-") in
    let all = subst (λ l. Say l ps) (sym (ap (drop 1) are)) say in
    let first = say_step (codes "-" ∷ codes "-" ∷ []) (codes "-") (Some (codes "-")) dash 1 ps (inl (refl, (dash_plain, refl))) refl refl dash_is_no_dashes all in
    let second = say_step (codes "-" ∷ []) (codes "-") None dash 1 first.0 (inl (refl, (dash_plain, refl))) refl refl dash_is_no_dashes first.2 in
    let last = said_end [] second.0 refl second.2 in
    let they : ps ≡ dash ∷ dash ∷ [] = first.1 ∙ ap (λ qs. dash ∷ qs) (second.1 ∙ ap (λ qs. dash ∷ qs) last) in
    let files : codes "-" ∷ codes "-" ∷ [] ≡ client ∷ server ∷ [] = ap plains (sym they) ∙ have.4 in
    elim one [
      | inl not ↦ not (ap (λ l. get_or l 0 []) (sym files))
      | inr not ↦ not (ap (λ l. get_or l 1 []) (sym files))
    ]
