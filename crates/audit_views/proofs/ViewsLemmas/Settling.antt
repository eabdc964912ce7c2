-- Who the ends are stays, once it is known.
use Rattle.std.proofs.Common.{◌≡◌, ℕ, ◌&&◌, Bool, true, true≢false, List, [], ◌∷◌, ◌++◌, Option, Some, None, refl, sym, ap, subst, map, ◌∙◌, filter, is_some, option_map, if◌then◌else◌}
use Rattle.std.proofs.lemmas.Bool.{and_parts}
use Rattle.std.proofs.lemmas.List.Elements.{filter-append, filter_agree}
use Rattle.law_model.specs.Rules.{first_of, or_this}
use Rattle.audit_flows.specs.Lines.{Recorded, Placed}
use Rattle.audit_flows.specs.{Endpoint, Place, Beside, Transfer}
use Rattle.audit_flows.specs.Transfers.{answered_by, asked_of, comes, goes_on, is_at_server, is_end, opened_it, server_of, server_view, went_on_with, is_settled, AreEndsAfter}
use Rattle.audit_flows.specs.{TransferEnds}
use Rattle.audit_flows.proofs.TransfersLemmas.OwnDatagrams.{at_server_same, server_same, settled_same}
use Rattle.tftp_packet.specs.{In, Out, Rollover}
use Rattle.audit_views.specs.Views.{Naming, captured, captured_at_server, server_capture, server_header, way_at_server, HasJudgedBy, IsServerAfterBy, Server}

first_stays : (test : Placed → Bool) (more placed : List Placed) (e : Placed) → first_of test placed ≡ Some e → first_of test (more ++ placed) ≡ Some e
first_stays test [] placed e is = is
first_stays test (p ∷ more) placed e is = ap (λ o. or_this o (test p) p) (first_stays test more placed e is)

told_stays : (end : Placed → Endpoint) (test : Placed → Bool) (more placed : List Placed) → is_some (option_map end (first_of test placed)) ≡ true
    → option_map end (first_of test (more ++ placed)) ≡ option_map end (first_of test placed)
told_stays end test more placed = by (first_of test placed) refl where
  by : (o : Option Placed) → first_of test placed ≡ o → is_some (option_map end (first_of test placed)) ≡ true → option_map end (first_of test (more ++ placed)) ≡ option_map end (first_of test placed)
  by None none told = absurd (true≢false (sym told ∙ ap (λ o. is_some (option_map end o)) none))
  by (Some e) is told = ap (option_map end) (first_stays test more placed e is ∙ sym is)

module _ (n : ℕ) (more placed : List Placed) (settled : is_settled n placed ≡ true) where
  told : ((is_some (asked_of n placed) && is_some (answered_by n placed)) ≡ true) × (is_some (went_on_with n placed) ≡ true)
  told = and_parts (is_some (asked_of n placed) && is_some (answered_by n placed)) (is_some (went_on_with n placed)) settled

  told_first : (is_some (asked_of n placed) ≡ true) × (is_some (answered_by n placed) ≡ true)
  told_first = and_parts (is_some (asked_of n placed)) (is_some (answered_by n placed)) told.0

  asked : asked_of n (more ++ placed) ≡ asked_of n placed
  asked = told_stays (λ p. p.datagram.target) (opened_it n) more placed told_first.0

  answered : answered_by n (more ++ placed) ≡ answered_by n placed
  answered = told_stays (λ p. p.datagram.source) (comes n) more placed told_first.1

  went_on : went_on_with n (more ++ placed) ≡ went_on_with n placed
  went_on = told_stays (λ p. p.datagram.target) (goes_on n) more placed told.1

  pub at_server_stays : (p : Placed) → is_at_server n (more ++ placed) p ≡ is_at_server n placed p
  at_server_stays = at_server_same n (more ++ placed) placed asked answered went_on

  pub view_stays : server_view n (more ++ placed) ≡ filter (is_at_server n (more ++ placed)) more ++ server_view n placed
  view_stays = filter-append (is_at_server n (more ++ placed)) more placed ∙ ap (λ l. filter (is_at_server n (more ++ placed)) more ++ l) (filter_agree (is_at_server n (more ++ placed)) (is_at_server n placed) at_server_stays placed)

  pub server_stays : server_of n (more ++ placed) ≡ server_of n placed
  server_stays = server_same n (more ++ placed) placed asked answered went_on

  pub settled_stays : is_settled n (more ++ placed) ≡ true
  settled_stays = settled_same n (more ++ placed) placed asked answered went_on ∙ settled

  pub ends_stay : (t : TransferEnds) → t.number ≡ n → AreEndsAfter t placed → AreEndsAfter t (more ++ placed)
  ends_stay t is after = record {
    asked = after.asked ∙ ap (λ k. asked_of k placed) is ∙ sym asked ∙ ap (λ k. asked_of k (more ++ placed)) (sym is);
    answered = after.answered ∙ ap (λ k. answered_by k placed) is ∙ sym answered ∙ ap (λ k. answered_by k (more ++ placed)) (sym is);
    went_on = after.went_on ∙ ap (λ k. went_on_with k placed) is ∙ sym went_on ∙ ap (λ k. went_on_with k (more ++ placed)) (sym is);
  }

-- ---- the server's capture

module _ (name : Naming) (x : Transfer) (more placed : List Placed) (settled : is_settled x.number placed ≡ true) where
  way_at : (d : Recorded) (now : ℕ) (place : Place) → way_at_server x (more ++ placed) (record { datagram = d; moment = now; place = place }) ≡ way_at_server x placed (record { datagram = d; moment = now; place = place })
  way_at d now (Beside y) = ap (λ s. if is_end d.source s then Out else In) (server_stays x.number more placed settled)
  way_at d now _ = refl

  same_datagram : (p : Placed) → captured_at_server name x (more ++ placed) p ≡ captured_at_server name x placed p
  same_datagram p = ap (λ w. captured name w p.datagram) (way_at p.datagram p.moment p.place)

  pub capture_stays : (part : List Placed) → server_capture name x placed part ≡ server_capture name x (more ++ placed) part
  capture_stays part =
      sym (λ i. map (λ p. same_datagram p i) (filter (is_at_server x.number placed) part))
      ∙ ap (map (captured_at_server name x (more ++ placed))) (sym (filter_agree (is_at_server x.number (more ++ placed)) (is_at_server x.number placed) (at_server_stays x.number more placed settled) part))

pub server_goes_on : (rollover : Option Rollover) (s : Server) (name : Naming) (more placed part : List Placed) → is_settled s.transfer.number placed ≡ true → IsServerAfterBy rollover s name placed part → IsServerAfterBy rollover s name (more ++ placed) part
server_goes_on rollover s name more placed part settled after = record {
  number = after.number;
  ends = ends_stay s.transfer.number more placed settled s.ends after.number after.ends;
  judged = subst (HasJudgedBy rollover s.end.judge (server_header s.transfer)) (capture_stays name s.transfer more placed settled part) after.judged;
}
