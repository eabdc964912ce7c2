-- In a transfer that was asked for, or answered, the server's view is the capture and what was asked before in the same words.
use Rattle.std.proofs.Common.{◌≡◌, ℕ, Bool, true, false, List, [], ◌∷◌, inl, inr, refl, sym, ap, subst, ◌∙◌, not, map}
use Rattle.std.specs.List.{list_any, AllByRecursion, filter}
use Rattle.std.proofs.lemmas.Bool.{false≢true, or_cases, and_parts}
use Rattle.tftp_packet.specs.Hosts.{Datagram}
use Rattle.tftp_packet.specs.{Server}
use Rattle.law_end.specs.{OneEnded}
use Rattle.audit_flows.specs.Lines.{Recorded, Placed, same_endpoint, other_of, is_between, is_of, is_request}
use Rattle.audit_flows.specs.{Address, Endpoint, Transfer}
use Rattle.audit_flows.proofs.LinesLemmas.Lines.{by_test}
use Rattle.audit_flows.specs.Transfers.{client_view}
use Rattle.audit_flows.proofs.TransfersLemmas.Ends.{spoken}
use Rattle.audit_spared.specs.Spared.{as_served, at_server_of, captured_there, asks_from}
use Rattle.audit_spared.proofs.SparedLemmas.Stands.{Same, Asking, Answered, Reopened, AreWith, IsKnown, Has}
use Rattle.audit_spared.proofs.SparedLemmas.Places.{other_is}
use Rattle.audit_spared.proofs.SparedLemmas.Talks.{bottom_own, filter_told}
use Rattle.audit_spared.proofs.SparedLemmas.Basics.{all_and}
use Rattle.audit_spared.proofs.SparedLemmas.Bottoms.{all_same, filter_whole, own_all, seen_of, view_lawful}
use Rattle.audit_spared.proofs.SparedLemmas.Repeated.{repeated_passes}
use Rattle.audit_spared.proofs.SparedLemmas.Spared.{IsStated}
use Rattle.audit_spared.proofs.SparedLemmas.ServedLaw.{IsServed, alone_lawful, answers_served, one_server}

pub all_with : (c o : Endpoint) (kp : List Placed) (k : List Recorded) → map (λ p. p.datagram) kp ≡ k → AllByRecursion (IsKnown c) kp → AllByRecursion (λ d. asks_from c d ≡ false → other_of c d ≡ o) k → AreWith c o kp
all_with c o [] k are known all = tt
all_with c o (q ∷ kp) [] are known all = absurd (cc)
all_with c o (q ∷ kp) (d ∷ k) are known all =
    let this : q.datagram ≡ d = cc in
    let rest : map (λ (p : Placed). p.datagram) kp ≡ k = cc in (
      λ plain. ap (other_of c) this ∙ all.0 (ap (asks_from c) (sym this) ∙ sym known.0.kind ∙ plain),
      all_with c o kp k rest known.1 all.1,
    )

-- with whom the client spoke is this endpoint
spoken_with : (c o server : Endpoint) (kp : List Placed) → AreWith c o kp → list_any (spoken c server) kp ≡ true → server ≡ o
spoken_with c o server [] all any = absurd (false≢true any)
spoken_with c o server (q ∷ kp) all any = elim (or_cases (spoken c server q) (list_any (spoken c server) kp) any) [
  | inl this ↦
      let parts = and_parts (not (is_request q)) (is_between c server q.datagram) this in
      let plain : is_request q ≡ false = by_test (is_request q) (λ t. absurd (false≢true (sym (ap not t) ∙ parts.0))) (λ f. f) in
      sym (other_is c server q.datagram parts.1) ∙ all.0 plain
  | inr later ↦ spoken_with c o server kp all.1 later
]

-- so all of the capture is the transfer's
own_with : (c o : Endpoint) (n : ℕ) (talked : Endpoint → Bool) (kp : List Placed) → AreWith c o kp → talked o ≡ true → AllByRecursion (λ q. is_request q ≡ true → is_of n q ≡ true) kp
    → AllByRecursion (λ q. is_request q ≡ false → is_of n q ≡ talked (other_of c q.datagram)) kp → AllByRecursion (λ q. is_of n q ≡ true) kp
own_with c o n talked [] all is requests talks = tt
own_with c o n talked (q ∷ kp) all is requests talks = (
  by_test (is_request q) requests.0 (λ plain. talks.0 plain ∙ ap talked (all.0 plain) ∙ is),
  own_with c o n talked kp all.1 is requests.1 talks.1,
)

module _ (c o : Endpoint) (k : List Recorded) (older kp rest : List Placed) (x : Transfer) (a : Answered c k older kp rest x) where
  pub server_with : AreWith c o kp → a.server ≡ o
  server_with all = spoken_with c o a.server kp all a.serves

  pub all_own : AreWith c o kp → AllByRecursion (λ q. is_of x.number q ≡ true) kp
  all_own all = own_with c o x.number a.talked kp all (ap a.talked (sym (server_with all)) ∙ a.is_talked) a.requests a.talks

module _ (write : Address → List ℕ) (host : Address) (c : Endpoint) where
  abbrev pub seen : Placed → Datagram
  seen q = as_served write c q.datagram

  pub same_seen : (d e : Recorded) → Same d e → as_served write c d ≡ as_served write c e
  same_seen d e is =
      let source : same_endpoint d.source c ≡ same_endpoint e.source c = ap (λ s. same_endpoint s c) is.source in
      by_test (same_endpoint e.source c)
      (λ from. ap (λ b. captured_there write (not b) d) (source ∙ from) ∙ (λ i. captured_there write false (record { time = e.time; source = is.source i; target = is.target i; payload = is.payload i; is_spelled = e.is_spelled }))
      ∙ sym (ap (λ b. captured_there write (not b) e) from))
      (λ off. ap (λ b. captured_there write (not b) d) (source ∙ off) ∙ (λ i. captured_there write true (record { time = e.time; source = is.source i; target = is.target i; payload = is.payload i; is_spelled = e.is_spelled }))
      ∙ sym (ap (λ b. captured_there write (not b) e) off))

  abbrev pub IsFair : List Placed → Type 0
  IsFair view = OneEnded (at_server_of 69) (map seen view)

  module _ (Late : Type 0) where
    -- the endpoint that a capture's datagrams pass with
    pub with_whom : (k : List Recorded) (older kp rest : List Placed) (x : Transfer) → Has c k older kp rest x → IsServed Late write host c k → (o : Endpoint) × AreWith c o kp
    with_whom [] older [] rest x has s = absurd (has.some refl)
    with_whom [] older (q ∷ kp) rest x has s = let none : q.datagram ∷ map (λ (p : Placed). p.datagram) kp ≡ [] = has.are in absurd (cc)
    with_whom (d ∷ k) older kp rest x has s = let (o, all) = one_server write host c Late d k s in (o, all_with c o kp (d ∷ k) has.are has.known all)

    module _ (k : List Recorded) (older kp rest : List Placed) (x : Transfer) (has : Has c k older kp rest x) (s : IsServed Late write host c k) where
      whole : OneEnded (at_server_of 69) (map seen kp)
      whole = seen_of (at_server_of 69) (as_served write c) same_seen kp k has.are s.passes

      answered_fair : Answered c k older kp rest x → IsFair (client_view x.number older)
      answered_fair a =
          let (o, all) = with_whom k older kp rest x has s in
          view_lawful (at_server_of 69) (as_served write c) same_seen (repeated_passes Server 69) older kp x.number a.asked a.bottom
          (subst (λ l. OneEnded (at_server_of 69) (map seen l)) (sym (filter_whole x.number kp (all_own c o k older kp rest x a all))) whole)

      asking_fair : Asking c k older kp rest x → IsFair (client_view x.number older)
      asking_fair a = view_lawful (at_server_of 69) (as_served write c) same_seen (repeated_passes Server 69) older kp x.number a.asked (bottom_own a.asked.r x.number kp has.some a.own)
          (subst (λ l. OneEnded (at_server_of 69) (map seen l)) (sym (filter_whole x.number kp (own_all x.number a.asked.r kp a.own))) whole)

    -- where a transfer was opened by a late request, it was asked for and nothing else
    reopened_fair : (k : List Recorded) (older kp rest : List Placed) (x : Transfer) → Has c k older kp rest x → IsServed Late write host c k → Reopened c k older kp rest x → IsFair (client_view x.number older)
    reopened_fair [] older kp rest x has s a = absurd (false≢true a.went_on)
    reopened_fair (d ∷ k) older kp rest x has s a = all_same (at_server_of 69) (as_served write c) same_seen (repeated_passes Server 69) a.asked.r (client_view x.number older)
        (subst (AllByRecursion (λ q. (is_request q ≡ true) × Same q.datagram a.asked.r)) (sym a.asked.view)
        (all_and (λ q. (is_request q ≡ true) × Same q.datagram a.asked.r) (filter (is_of x.number) kp) a.asked.before
        (filter_told (λ q. (is_request q ≡ true) × Same q.datagram a.asked.r) (is_of x.number) kp a.same) a.asked.repeated))
        (alone_lawful write host c Late d k s a.asked.r a.there a.asks_it)

    pub stated : IsStated (IsServed Late write host c) c IsFair Late
    stated = record {
      is_asked = asking_fair;
      is_answered = answered_fair;
      is_waiting = λ k older kp rest x has s a. absurd (a.strayed (answers_served write host c Late k s));
      is_misled = λ k older kp rest x has s a. absurd (a.strayed (answers_served write host c Late k s));
      is_reopened = reopened_fair;
      is_taken = λ k older kp rest x has s a. elim s.timely [ inl late ↦ let (o, all) = with_whom k older kp rest x has s in (late, o, all) | inr in_time ↦ absurd (a.untimely in_time) ];
      is_mixed = λ k older kp rest x has s a. let (o, all) = with_whom k older kp rest x has s in a.mixed o all;
    }
