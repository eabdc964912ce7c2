use Rattle.std.proofs.Common.{sym, ◌∙◌, refl}
use Rattle.tftp_words.proofs.Having.{have_service, have_json, have_point, have_rollover, have_word, have_beside, choose_beside, choose_counts, choose_transfer, choose_server_transfer, json_twice, point_twice, rollover_twice, counts_twice, transfer_twice, server_transfer_twice}
use Rattle.tftp_words.proofs.given.Given.add.Goals as goal

pub returns-in-Json-clause-once : goal.returns-in-Json-clause-once
returns-in-Json-clause-once c = λ ps qs h e once. json_twice ps qs (rw (c.if-self.true) at h.0.1) (rw (c.in-Json.is) at once)

pub returns-in-End-clause-once : goal.returns-in-End-clause-once
returns-in-End-clause-once c = λ ps qs h e once. point_twice ps qs _ _ (sym c.is_some.ensures ∙ c.if-is_some.true) h.0.2 (rw (c.in-End.is) at once)

pub returns-in-Rollover-clause-once : goal.returns-in-Rollover-clause-once
returns-in-Rollover-clause-once c = λ ps qs h e once. rollover_twice ps qs _ _ (sym c.if-is_some-2.ensures) h.0.3 (rw (c.in-Rollover.is) at once)

pub returns-in-Rollover-2-clause-ok : goal.returns-in-Rollover-2-clause-ok
returns-in-Rollover-2-clause-ok c = λ ps h. rw c.in-Rollover-2.is (have_rollover ps _ _ _ _ _ _ (sym c.if-is_some-2.ensures) h.0, choose_beside ps _ _ _ _ refl refl refl h.1)

pub returns-in_ok-push-in-Service-clause-ok : goal.returns-in_ok-push-in-Service-clause-ok
returns-in_ok-push-in-Service-clause-ok c = λ ps h. rw (c.in-Service.is, c.in_ok-push-in-Service.ensures.items) (have_service ps _ _ _ _ _ _ h.0, choose_beside ps _ _ _ _ refl refl refl h.1)

pub returns-in-Json-2-clause-ok : goal.returns-in-Json-2-clause-ok
returns-in-Json-2-clause-ok c = λ ps h. rw c.in-Json-2.is (have_json ps _ _ _ _ _ c.if-self.false h.0, choose_beside ps _ _ _ _ refl refl refl h.1)

pub returns-in-End-2-clause-ok : goal.returns-in-End-2-clause-ok
returns-in-End-2-clause-ok c = λ ps h. rw c.in-End-2.is (have_point ps _ _ _ _ _ _ (sym c.is_some.ensures ∙ c.if-is_some.false) h.0, choose_beside ps _ _ _ _ refl refl refl h.1)

pub returns-in_ok-push-in-Plain-clause-ok : goal.returns-in_ok-push-in-Plain-clause-ok
returns-in_ok-push-in-Plain-clause-ok c = λ ps h. rw (c.in-Plain.is, c.in_ok-push-in-Plain.ensures.items) (have_word ps _ _ _ _ _ _ h.0, choose_beside ps _ _ _ _ refl refl refl h.1)

pub returns-in-Counts-clause-once : goal.returns-in-Counts-clause-once
returns-in-Counts-clause-once c = λ ps qs h e once. counts_twice ps qs (rw (c.if-self-2.true) at h.1.0) (rw (c.in-Counts.is) at once)

pub returns-in-Transfer-clause-once : goal.returns-in-Transfer-clause-once
returns-in-Transfer-clause-once c = λ ps qs h e once. transfer_twice ps qs _ _ (sym c.if-is_some-3.ensures) h.1.1 (rw (c.in-Transfer.is) at once)

pub returns-in-ServerTransfer-clause-once : goal.returns-in-ServerTransfer-clause-once
returns-in-ServerTransfer-clause-once c = λ ps qs h e once. server_transfer_twice ps qs _ _ (sym c.if-is_some-4.ensures) h.1.2 (rw (c.in-ServerTransfer.is) at once)

pub returns-in-Counts-2-clause-ok : goal.returns-in-Counts-2-clause-ok
returns-in-Counts-2-clause-ok c = λ ps h. rw c.in-Counts-2.is (have_beside ps _ _ _ _ _ _ refl refl refl refl refl h.0, choose_counts ps _ _ _ c.if-self-2.false h.1)

pub returns-in-Transfer-2-clause-ok : goal.returns-in-Transfer-2-clause-ok
returns-in-Transfer-2-clause-ok c = λ ps h. rw c.in-Transfer-2.is (have_beside ps _ _ _ _ _ _ refl refl refl refl refl h.0, choose_transfer ps _ _ _ _ (sym c.if-is_some-3.ensures) h.1)

pub returns-in-ServerTransfer-2-clause-ok : goal.returns-in-ServerTransfer-2-clause-ok
returns-in-ServerTransfer-2-clause-ok c = λ ps h. rw c.in-ServerTransfer-2.is (have_beside ps _ _ _ _ _ _ refl refl refl refl refl h.0, choose_server_transfer ps _ _ _ _ (sym c.if-is_some-4.ensures) h.1)
